-- Events and replies are read back from their words.
use Rattle.std.proofs.Common.{◌≡◌, ℕ, Bool, true, false, ◌&&◌, nat_eq, List, [], ◌∷◌, ◌++◌, map, refl, sym, ap, ◌∙◌, codes, if◌then◌else◌}
use Rattle.std.specs.List.{list_all}
use Rattle.lw_base.specs.declared.addresses.Ip.{Ip}
use Rattle.lw_base.specs.declared.addresses.Port.{Port}
use Rattle.lw_base.specs.declared.errors.Err.{Err as Code}
use Rattle.lw_base.specs.declared.errors.Err.TheVariants.{Ok as OkCode, Mem, Buf, Timeout as TimeoutCode, Rte, InProgress, Val, WouldBlock, Use, Already, IsConn, Conn as ConnCode, If, Abrt, Rst, Clsd, Arg}
use Rattle.lw_base.specs.Errors.{word_of}
use Rattle.lw_events.specs.declared.event.Proto.{Proto}
use Rattle.lw_events.specs.declared.event.Proto.TheVariants.{Tcp, Udp}
use Rattle.lw_events.specs.declared.event.Which.{Which}
use Rattle.lw_events.specs.declared.event.Which.TheVariants.{Local, Remote}
use Rattle.lw_events.specs.declared.event.FdOption.{FdOption}
use Rattle.lw_events.specs.declared.event.FdOption.TheVariants.{NonBlock, Timeout}
use Rattle.lw_events.specs.declared.event.Handle.{Handle}
use Rattle.lw_events.specs.declared.event.Handle.TheVariants.{Conn, Fd}
use Rattle.lw_events.specs.declared.event.SendData.{SendData}
use Rattle.lw_events.specs.declared.event.SendData.TheVariants.{Literal, Fill}
use Rattle.lw_events.specs.declared.event.Event.{Event}
use Rattle.lw_events.specs.declared.event.Event.TheVariants.{Frame, Tick, New, Bind, Connect, Listen, Write, SendTo, Recved, Shutdown, Close, GetError, GetAddr, NoDelay, OpenFd, SetFd, CloseFd, SetVar, Signal, Sent, Stop}
use Rattle.lw_events.specs.declared.event.Reply.{Reply}
use Rattle.lw_events.specs.declared.event.Reply.TheVariants.{Done, Conn as ConnReply, Fd as FdReply, Wrote, Count, Ticks, Addr, Frames, Fail}
use Rattle.lw_transcript.specs.Fields.{Field, field_text}
use Rattle.lw_transcript.specs.CoreLines.{event_fields, reply_fields}
use Rattle.lw_transcript.specs.Laws.{AreHeld}
use Rattle.lw_transcript.proofs.FieldsBack.{Sort, AWord, ANumber, AName, AnAddress, AHex, TheFlags, AShare, are_plain, sort_of}
use Rattle.lw_transcript.proofs.Tables.{Row, ip_at, number_at, port_at, read_back, read_by, row_of, same_text, text_at, word_in}

-- a row whose sorts are always these
abbrev pub row : {V : Type 0} → List ℕ → List Sort → (List Field → V) → Row V
row word sorts value = record { word = word; sorts = λ _. sorts; value = value }

abbrev pub is_one : ℕ → Bool
is_one n = nat_eq n 1

abbrev proto_in : List ℕ → Proto
proto_in word = if same_text word (codes "tcp") then Tcp else Udp

abbrev which_in : List ℕ → Which
which_in word = if same_text word (codes "local") then Local else Remote

abbrev option_in : List ℕ → ℕ → FdOption
option_in word n = if same_text word (codes "nonblock") then NonBlock (is_one n) else Timeout n

-- a connection or a descriptor
abbrev pub handle_in : List ℕ → ℕ → Handle
handle_in word n = if same_text word (codes "conn") then Conn n else Fd n

abbrev sendto_sorts : List (List ℕ) → List Sort
sendto_sorts words =
    if same_text (word_in 5 words) (codes "fill") then AWord ∷ ANumber ∷ AnAddress ∷ ANumber ∷ AHex ∷ AWord ∷ []
    else AWord ∷ ANumber ∷ AnAddress ∷ ANumber ∷ AHex ∷ []

abbrev data_in : List ℕ → List ℕ → SendData
data_in octets word = if same_text word (codes "fill") then Fill octets else Literal octets

abbrev one_number : List Sort
one_number = AWord ∷ ANumber ∷ []

abbrev addressed : List Sort
addressed = AWord ∷ ANumber ∷ AnAddress ∷ ANumber ∷ []

abbrev event_rows : List (Row (Event (List ℕ)))
event_rows =
    row (codes "frame") (AWord ∷ AHex ∷ []) (λ fs. Frame (text_at 1 fs))
    ∷ row (codes "tick") (AWord ∷ []) (λ fs. Tick)
    ∷ row (codes "new") (AWord ∷ AWord ∷ []) (λ fs. New (proto_in (text_at 1 fs)))
    ∷ row (codes "bind") addressed (λ fs. Bind (number_at 1 fs) (ip_at 2 fs) (port_at 3 fs))
    ∷ row (codes "connect") addressed (λ fs. Connect (number_at 1 fs) (ip_at 2 fs) (port_at 3 fs))
    ∷ row (codes "listen") one_number (λ fs. Listen (number_at 1 fs))
    ∷ row (codes "write") (AWord ∷ ANumber ∷ AHex ∷ []) (λ fs. Write (number_at 1 fs) (text_at 2 fs))
    ∷ record { word = codes "sendto"; sorts = sendto_sorts; value = λ fs. SendTo (number_at 1 fs) (ip_at 2 fs) (port_at 3 fs) (data_in (text_at 4 fs) (text_at 5 fs)) }
    ∷ row (codes "recved") (AWord ∷ ANumber ∷ ANumber ∷ []) (λ fs. Recved (number_at 1 fs) (number_at 2 fs))
    ∷ row (codes "shutdown") one_number (λ fs. Shutdown (number_at 1 fs))
    ∷ row (codes "close") one_number (λ fs. Close (number_at 1 fs))
    ∷ row (codes "geterror") one_number (λ fs. GetError (number_at 1 fs))
    ∷ row (codes "getaddr") (AWord ∷ ANumber ∷ AWord ∷ []) (λ fs. GetAddr (number_at 1 fs) (which_in (text_at 2 fs)))
    ∷ row (codes "nodelay") (AWord ∷ ANumber ∷ ANumber ∷ []) (λ fs. NoDelay (number_at 1 fs) (is_one (number_at 2 fs)))
    ∷ row (codes "openfd") one_number (λ fs. OpenFd (number_at 1 fs))
    ∷ row (codes "setfd") (AWord ∷ ANumber ∷ AWord ∷ ANumber ∷ []) (λ fs. SetFd (number_at 1 fs) (option_in (text_at 2 fs) (number_at 3 fs)))
    ∷ row (codes "closefd") one_number (λ fs. CloseFd (number_at 1 fs))
    ∷ row (codes "setvar") (AWord ∷ AName ∷ AWord ∷ ANumber ∷ []) (λ fs. SetVar (number_at 1 fs) (handle_in (text_at 2 fs) (number_at 3 fs)))
    ∷ row (codes "signal") (AWord ∷ AName ∷ []) (λ fs. Signal (number_at 1 fs))
    ∷ row (codes "sent") one_number (λ fs. Sent (number_at 1 fs))
    ∷ []

abbrev stop_row : Row (Event (List ℕ))
stop_row = row (codes "stop") (AWord ∷ []) (λ fs. Stop)

-- the event of these words, behind which an arrow stands
abbrev pub event_in : List (List ℕ) → Event (List ℕ)
event_in words = read_by stop_row event_rows words

pub event_plain : (e : Event (List ℕ)) → are_plain (event_fields e) ≡ true
event_plain (Frame octets) = refl
event_plain Tick = refl
event_plain (New Tcp) = refl
event_plain (New Udp) = refl
event_plain (Bind conn ip port) = refl
event_plain (Connect conn ip port) = refl
event_plain (Listen conn) = refl
event_plain (Write conn octets) = refl
event_plain (SendTo conn ip port (Literal octets)) = refl
event_plain (SendTo conn ip port (Fill octets)) = refl
event_plain (Recved conn n) = refl
event_plain (Shutdown conn) = refl
event_plain (Close conn) = refl
event_plain (GetError conn) = refl
event_plain (GetAddr conn Local) = refl
event_plain (GetAddr conn Remote) = refl
event_plain (NoDelay conn true) = refl
event_plain (NoDelay conn false) = refl
event_plain (OpenFd conn) = refl
event_plain (SetFd fd (NonBlock true)) = refl
event_plain (SetFd fd (NonBlock false)) = refl
event_plain (SetFd fd (Timeout n)) = refl
event_plain (CloseFd fd) = refl
event_plain (SetVar var (Conn conn)) = refl
event_plain (SetVar var (Fd fd)) = refl
event_plain (Signal signal) = refl
event_plain (Sent n) = refl
event_plain Stop = refl

-- an event
pub event_back : (e : Event (List ℕ)) (r : List (List ℕ)) → AreHeld (event_fields e) → event_in (map field_text (event_fields e) ++ codes "->" ∷ r) ≡ e
event_back (Frame octets) r h = read_back stop_row event_rows _ (event_fields (Frame octets)) (codes "->" ∷ r) (Frame octets) refl refl refl h refl
event_back Tick r h = read_back stop_row event_rows _ (event_fields Tick) (codes "->" ∷ r) Tick refl refl refl h refl
event_back (New Tcp) r h = read_back stop_row event_rows _ (event_fields (New Tcp)) (codes "->" ∷ r) (New Tcp) refl refl refl h refl
event_back (New Udp) r h = read_back stop_row event_rows _ (event_fields (New Udp)) (codes "->" ∷ r) (New Udp) refl refl refl h refl
event_back (Bind conn ip port) r h = read_back stop_row event_rows _ (event_fields (Bind conn ip port)) (codes "->" ∷ r) (Bind conn ip port) refl refl refl h refl
event_back (Connect conn ip port) r h = read_back stop_row event_rows _ (event_fields (Connect conn ip port)) (codes "->" ∷ r) (Connect conn ip port) refl refl refl h refl
event_back (Listen conn) r h = read_back stop_row event_rows _ (event_fields (Listen conn)) (codes "->" ∷ r) (Listen conn) refl refl refl h refl
event_back (Write conn octets) r h = read_back stop_row event_rows _ (event_fields (Write conn octets)) (codes "->" ∷ r) (Write conn octets) refl refl refl h refl
event_back (SendTo conn ip port (Literal octets)) r h = read_back stop_row event_rows _ (event_fields (SendTo conn ip port (Literal octets))) (codes "->" ∷ r) (SendTo conn ip port (Literal octets)) refl refl refl h refl
event_back (SendTo conn ip port (Fill octets)) r h = read_back stop_row event_rows _ (event_fields (SendTo conn ip port (Fill octets))) (codes "->" ∷ r) (SendTo conn ip port (Fill octets)) refl refl refl h refl
event_back (Recved conn n) r h = read_back stop_row event_rows _ (event_fields (Recved conn n)) (codes "->" ∷ r) (Recved conn n) refl refl refl h refl
event_back (Shutdown conn) r h = read_back stop_row event_rows _ (event_fields (Shutdown conn)) (codes "->" ∷ r) (Shutdown conn) refl refl refl h refl
event_back (Close conn) r h = read_back stop_row event_rows _ (event_fields (Close conn)) (codes "->" ∷ r) (Close conn) refl refl refl h refl
event_back (GetError conn) r h = read_back stop_row event_rows _ (event_fields (GetError conn)) (codes "->" ∷ r) (GetError conn) refl refl refl h refl
event_back (GetAddr conn Local) r h = read_back stop_row event_rows _ (event_fields (GetAddr conn Local)) (codes "->" ∷ r) (GetAddr conn Local) refl refl refl h refl
event_back (GetAddr conn Remote) r h = read_back stop_row event_rows _ (event_fields (GetAddr conn Remote)) (codes "->" ∷ r) (GetAddr conn Remote) refl refl refl h refl
event_back (NoDelay conn true) r h = read_back stop_row event_rows _ (event_fields (NoDelay conn true)) (codes "->" ∷ r) (NoDelay conn true) refl refl refl h refl
event_back (NoDelay conn false) r h = read_back stop_row event_rows _ (event_fields (NoDelay conn false)) (codes "->" ∷ r) (NoDelay conn false) refl refl refl h refl
event_back (OpenFd conn) r h = read_back stop_row event_rows _ (event_fields (OpenFd conn)) (codes "->" ∷ r) (OpenFd conn) refl refl refl h refl
event_back (SetFd fd (NonBlock true)) r h = read_back stop_row event_rows _ (event_fields (SetFd fd (NonBlock true))) (codes "->" ∷ r) (SetFd fd (NonBlock true)) refl refl refl h refl
event_back (SetFd fd (NonBlock false)) r h = read_back stop_row event_rows _ (event_fields (SetFd fd (NonBlock false))) (codes "->" ∷ r) (SetFd fd (NonBlock false)) refl refl refl h refl
event_back (SetFd fd (Timeout n)) r h = read_back stop_row event_rows _ (event_fields (SetFd fd (Timeout n))) (codes "->" ∷ r) (SetFd fd (Timeout n)) refl refl refl h refl
event_back (CloseFd fd) r h = read_back stop_row event_rows _ (event_fields (CloseFd fd)) (codes "->" ∷ r) (CloseFd fd) refl refl refl h refl
event_back (SetVar var (Conn conn)) r h = read_back stop_row event_rows _ (event_fields (SetVar var (Conn conn))) (codes "->" ∷ r) (SetVar var (Conn conn)) refl refl refl h refl
event_back (SetVar var (Fd fd)) r h = read_back stop_row event_rows _ (event_fields (SetVar var (Fd fd))) (codes "->" ∷ r) (SetVar var (Fd fd)) refl refl refl h refl
event_back (Signal signal) r h = read_back stop_row event_rows _ (event_fields (Signal signal)) (codes "->" ∷ r) (Signal signal) refl refl refl h refl
event_back (Sent n) r h = read_back stop_row event_rows _ (event_fields (Sent n)) (codes "->" ∷ r) (Sent n) refl refl refl h refl
event_back Stop r h = read_back stop_row event_rows _ (event_fields Stop) (codes "->" ∷ r) Stop refl refl refl h refl

-- the code of a word
abbrev pub code_in : List ℕ → Code
code_in word =
    if same_text word (codes "OK") then OkCode else
    if same_text word (codes "MEM") then Mem else
    if same_text word (codes "BUF") then Buf else
    if same_text word (codes "TIMEOUT") then TimeoutCode else
    if same_text word (codes "RTE") then Rte else
    if same_text word (codes "INPROGRESS") then InProgress else
    if same_text word (codes "VAL") then Val else
    if same_text word (codes "WOULDBLOCK") then WouldBlock else
    if same_text word (codes "USE") then Use else
    if same_text word (codes "ALREADY") then Already else
    if same_text word (codes "ISCONN") then IsConn else
    if same_text word (codes "CONN") then ConnCode else
    if same_text word (codes "IF") then If else
    if same_text word (codes "ABRT") then Abrt else
    if same_text word (codes "RST") then Rst else
    if same_text word (codes "CLSD") then Clsd else
    Arg

-- the row of an error, whose word this is
abbrev pub fail_row : {V : Type 0} → (Code → V) → Row V
fail_row fail = row [] (AWord ∷ []) (λ fs. fail (code_in (text_at 0 fs)))

abbrev reply_rows : List (Row Reply)
reply_rows =
    row (codes "ok") (AWord ∷ []) (λ fs. Done)
    ∷ row (codes "conn") one_number (λ fs. ConnReply (number_at 1 fs))
    ∷ row (codes "fd") one_number (λ fs. FdReply (number_at 1 fs))
    ∷ row (codes "wrote") one_number (λ fs. Wrote (number_at 1 fs))
    ∷ row (codes "count") one_number (λ fs. Count (number_at 1 fs))
    ∷ row (codes "ticks") one_number (λ fs. Ticks (number_at 1 fs))
    ∷ row (codes "addr") (AWord ∷ AnAddress ∷ ANumber ∷ []) (λ fs. Addr (ip_at 1 fs) (port_at 2 fs))
    ∷ row (codes "frames") one_number (λ fs. Frames (number_at 1 fs))
    ∷ []

-- the reply of these words
abbrev pub reply_in : List (List ℕ) → Reply
reply_in words = read_by (fail_row Fail) reply_rows words

pub reply_plain : (x : Reply) → are_plain (reply_fields x) ≡ true
reply_plain Done = refl
reply_plain (ConnReply n) = refl
reply_plain (FdReply n) = refl
reply_plain (Wrote n) = refl
reply_plain (Count n) = refl
reply_plain (Ticks n) = refl
reply_plain (Addr ip port) = refl
reply_plain (Frames n) = refl
reply_plain (Fail OkCode) = refl
reply_plain (Fail Mem) = refl
reply_plain (Fail Buf) = refl
reply_plain (Fail TimeoutCode) = refl
reply_plain (Fail Rte) = refl
reply_plain (Fail InProgress) = refl
reply_plain (Fail Val) = refl
reply_plain (Fail WouldBlock) = refl
reply_plain (Fail Use) = refl
reply_plain (Fail Already) = refl
reply_plain (Fail IsConn) = refl
reply_plain (Fail ConnCode) = refl
reply_plain (Fail If) = refl
reply_plain (Fail Abrt) = refl
reply_plain (Fail Rst) = refl
reply_plain (Fail Clsd) = refl
reply_plain (Fail Arg) = refl

-- a reply
pub reply_back : (x : Reply) (r : List (List ℕ)) → AreHeld (reply_fields x) → reply_in (map field_text (reply_fields x) ++ r) ≡ x
reply_back Done r h = read_back (fail_row Fail) reply_rows _ (reply_fields Done) r Done refl refl refl h refl
reply_back (ConnReply n) r h = read_back (fail_row Fail) reply_rows _ (reply_fields (ConnReply n)) r (ConnReply n) refl refl refl h refl
reply_back (FdReply n) r h = read_back (fail_row Fail) reply_rows _ (reply_fields (FdReply n)) r (FdReply n) refl refl refl h refl
reply_back (Wrote n) r h = read_back (fail_row Fail) reply_rows _ (reply_fields (Wrote n)) r (Wrote n) refl refl refl h refl
reply_back (Count n) r h = read_back (fail_row Fail) reply_rows _ (reply_fields (Count n)) r (Count n) refl refl refl h refl
reply_back (Ticks n) r h = read_back (fail_row Fail) reply_rows _ (reply_fields (Ticks n)) r (Ticks n) refl refl refl h refl
reply_back (Addr ip port) r h = read_back (fail_row Fail) reply_rows _ (reply_fields (Addr ip port)) r (Addr ip port) refl refl refl h refl
reply_back (Frames n) r h = read_back (fail_row Fail) reply_rows _ (reply_fields (Frames n)) r (Frames n) refl refl refl h refl
reply_back (Fail OkCode) r h = read_back (fail_row Fail) reply_rows _ (reply_fields (Fail OkCode)) r (Fail OkCode) refl refl refl h refl
reply_back (Fail Mem) r h = read_back (fail_row Fail) reply_rows _ (reply_fields (Fail Mem)) r (Fail Mem) refl refl refl h refl
reply_back (Fail Buf) r h = read_back (fail_row Fail) reply_rows _ (reply_fields (Fail Buf)) r (Fail Buf) refl refl refl h refl
reply_back (Fail TimeoutCode) r h = read_back (fail_row Fail) reply_rows _ (reply_fields (Fail TimeoutCode)) r (Fail TimeoutCode) refl refl refl h refl
reply_back (Fail Rte) r h = read_back (fail_row Fail) reply_rows _ (reply_fields (Fail Rte)) r (Fail Rte) refl refl refl h refl
reply_back (Fail InProgress) r h = read_back (fail_row Fail) reply_rows _ (reply_fields (Fail InProgress)) r (Fail InProgress) refl refl refl h refl
reply_back (Fail Val) r h = read_back (fail_row Fail) reply_rows _ (reply_fields (Fail Val)) r (Fail Val) refl refl refl h refl
reply_back (Fail WouldBlock) r h = read_back (fail_row Fail) reply_rows _ (reply_fields (Fail WouldBlock)) r (Fail WouldBlock) refl refl refl h refl
reply_back (Fail Use) r h = read_back (fail_row Fail) reply_rows _ (reply_fields (Fail Use)) r (Fail Use) refl refl refl h refl
reply_back (Fail Already) r h = read_back (fail_row Fail) reply_rows _ (reply_fields (Fail Already)) r (Fail Already) refl refl refl h refl
reply_back (Fail IsConn) r h = read_back (fail_row Fail) reply_rows _ (reply_fields (Fail IsConn)) r (Fail IsConn) refl refl refl h refl
reply_back (Fail ConnCode) r h = read_back (fail_row Fail) reply_rows _ (reply_fields (Fail ConnCode)) r (Fail ConnCode) refl refl refl h refl
reply_back (Fail If) r h = read_back (fail_row Fail) reply_rows _ (reply_fields (Fail If)) r (Fail If) refl refl refl h refl
reply_back (Fail Abrt) r h = read_back (fail_row Fail) reply_rows _ (reply_fields (Fail Abrt)) r (Fail Abrt) refl refl refl h refl
reply_back (Fail Rst) r h = read_back (fail_row Fail) reply_rows _ (reply_fields (Fail Rst)) r (Fail Rst) refl refl refl h refl
reply_back (Fail Clsd) r h = read_back (fail_row Fail) reply_rows _ (reply_fields (Fail Clsd)) r (Fail Clsd) refl refl refl h refl
reply_back (Fail Arg) r h = read_back (fail_row Fail) reply_rows _ (reply_fields (Fail Arg)) r (Fail Arg) refl refl refl h refl
