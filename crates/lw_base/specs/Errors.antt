use Rattle.std.specs.Prelude.{ℕ, ℤ, List, codes, pos, negsuc}
use Rattle.lw_base.specs.declared.errors.Err.{Err}
use Rattle.lw_base.specs.declared.errors.Err.TheVariants.{Ok as OkCode, Mem, Buf, Timeout, Rte, InProgress, Val, WouldBlock, Use, Already, IsConn, Conn, If, Abrt, Rst, Clsd, Arg}

-- the number of a code (lwIP's err.h)
abbrev pub code_of : Err → ℤ
code_of OkCode = pos 0
code_of Mem = negsuc 0
code_of Buf = negsuc 1
code_of Timeout = negsuc 2
code_of Rte = negsuc 3
code_of InProgress = negsuc 4
code_of Val = negsuc 5
code_of WouldBlock = negsuc 6
code_of Use = negsuc 7
code_of Already = negsuc 8
code_of IsConn = negsuc 9
code_of Conn = negsuc 10
code_of If = negsuc 11
code_of Abrt = negsuc 12
code_of Rst = negsuc 13
code_of Clsd = negsuc 14
code_of Arg = negsuc 15

-- the word of a code
abbrev pub word_of : Err → List ℕ
word_of OkCode = codes "OK"
word_of Mem = codes "MEM"
word_of Buf = codes "BUF"
word_of Timeout = codes "TIMEOUT"
word_of Rte = codes "RTE"
word_of InProgress = codes "INPROGRESS"
word_of Val = codes "VAL"
word_of WouldBlock = codes "WOULDBLOCK"
word_of Use = codes "USE"
word_of Already = codes "ALREADY"
word_of IsConn = codes "ISCONN"
word_of Conn = codes "CONN"
word_of If = codes "IF"
word_of Abrt = codes "ABRT"
word_of Rst = codes "RST"
word_of Clsd = codes "CLSD"
word_of Arg = codes "ARG"
