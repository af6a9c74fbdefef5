-- How each call is spelled, as a script's line and behind `call K` in a transcript.
use Rattle.std.specs.Prelude.{ℕ, List, [], ◌∷◌, ◌++◌, codes, decimal, map}
use Rattle.call_types.specs.declared.call.Call.{Call}
use Rattle.call_types.specs.declared.call.Call.TheVariants.{New, Bind, Connect, Listen, Accept, Send, SendTo, Recv, RecvAll, RecvFrom, RecvItem, TryItem, Shutdown, Close, NonBlock, NoDelay, Timeout, GetAddr, Select, Signal, Await, Feed, Burst, Tick, Stop, AwaitSide, Pump, Until}
use Rattle.call_types.specs.declared.call.Interface.{Interface}
use Rattle.call_types.specs.declared.call.Interface.TheVariants.{Socket, Netconn}
use Rattle.lw_events.specs.declared.event.Which.{Which}
use Rattle.lw_events.specs.declared.event.Which.TheVariants.{Local, Remote}
use Rattle.script_words.specs.Values.{amount_word, bool_word, data_words, ip_spelling, item_word, limit_word, proto_word, side_word, signal_word, var_word}
use Rattle.script_words.specs.Words.{spaced}

-- the name of a call by its interface
abbrev pub by : Interface → List ℕ → List ℕ → List ℕ
by Socket socket netconn = socket
by Netconn socket netconn = netconn

-- the name of the call that asks for an end's address
abbrev pub which_word : Which → List ℕ
which_word Local = codes "local"
which_word Remote = codes "remote"

-- the words of a call
abbrev pub call_words : Call → List (List ℕ)
call_words (New i v proto) = by i (codes "socket") (codes "nnew") ∷ var_word v ∷ proto_word proto ∷ []
call_words (Bind i v ip port) = by i (codes "bind") (codes "nbind") ∷ var_word v ∷ ip_spelling ip ∷ decimal port.0 ∷ []
call_words (Connect i v ip port) = by i (codes "connect") (codes "nconnect") ∷ var_word v ∷ ip_spelling ip ∷ decimal port.0 ∷ []
call_words (Listen i v) = by i (codes "listen") (codes "nlisten") ∷ var_word v ∷ []
call_words (Accept i v w) = by i (codes "accept") (codes "naccept") ∷ var_word v ∷ var_word w ∷ []
call_words (Send i v octets) = by i (codes "send") (codes "nwrite") ∷ var_word v ∷ data_words octets
call_words (SendTo i v ip port octets) = by i (codes "sendto") (codes "nsend") ∷ var_word v ∷ ip_spelling ip ∷ decimal port.0 ∷ data_words octets
call_words (Recv v n) = codes "recv" ∷ var_word v ∷ decimal n ∷ []
call_words (RecvAll v n) = codes "recvall" ∷ var_word v ∷ decimal n ∷ []
call_words (RecvFrom v n) = codes "recvfrom" ∷ var_word v ∷ decimal n ∷ []
call_words (RecvItem v) = codes "nrecv" ∷ var_word v ∷ []
call_words (TryItem v) = codes "ntry" ∷ var_word v ∷ []
call_words (Shutdown i v) = by i (codes "shutdown") (codes "nshutdown") ∷ var_word v ∷ []
call_words (Close i v) = by i (codes "close") (codes "nclose") ∷ var_word v ∷ []
call_words (NonBlock v on) = codes "nonblock" ∷ var_word v ∷ bool_word on ∷ []
call_words (NoDelay v on) = codes "nodelay" ∷ var_word v ∷ bool_word on ∷ []
call_words (Timeout v ticks) = codes "timeout" ∷ var_word v ∷ decimal ticks ∷ []
call_words (GetAddr v which) = which_word which ∷ var_word v ∷ []
call_words (Select limit items) = codes "select" ∷ limit_word limit ∷ map item_word items
call_words (Signal s) = codes "signal" ∷ signal_word s ∷ []
call_words (Await s k) = codes "await" ∷ signal_word s ∷ decimal k ∷ []
call_words (Feed frames) = codes "feed" ∷ amount_word frames ∷ []
call_words (Burst n) = codes "burst" ∷ decimal n ∷ []
call_words (Tick n) = codes "tick" ∷ decimal n ∷ []
call_words Stop = codes "stop" ∷ []
call_words (AwaitSide side s k) = codes "await" ∷ side_word side ∷ signal_word s ∷ decimal k ∷ []
call_words (Pump n) = codes "pump" ∷ decimal n ∷ []
call_words (Until side s k) = codes "until" ∷ side_word side ∷ signal_word s ∷ decimal k ∷ []

-- a call's line: its words with one space between each two
abbrev pub call_spelling : Call → List ℕ
call_spelling call = spaced (call_words call)
