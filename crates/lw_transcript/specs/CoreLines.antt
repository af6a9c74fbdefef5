-- The lines of the core: events, replies, posts and frames.
use Rattle.std.specs.Prelude.{ℕ, Bool, true, false, List, [], ◌∷◌, ◌++◌, length, codes}
use Rattle.std.specs.List.{flat_map}
use Rattle.lw_base.specs.Errors.{word_of}
use Rattle.lw_events.specs.declared.event.Proto.{Proto}
use Rattle.lw_events.specs.declared.event.Proto.TheVariants.{Tcp, Udp}
use Rattle.lw_events.specs.declared.event.Which.{Which}
use Rattle.lw_events.specs.declared.event.Which.TheVariants.{Local, Remote}
use Rattle.lw_events.specs.declared.event.FdOption.{FdOption}
use Rattle.lw_events.specs.declared.event.FdOption.TheVariants.{NonBlock, Timeout}
use Rattle.lw_events.specs.declared.event.Handle.{Handle}
use Rattle.lw_events.specs.declared.event.Handle.TheVariants.{Conn, Fd}
use Rattle.lw_events.specs.declared.event.SendData.{SendData}
use Rattle.lw_events.specs.declared.event.SendData.TheVariants.{Literal, Fill}
use Rattle.lw_events.specs.declared.event.Event.{Event}
use Rattle.lw_events.specs.declared.event.Event.TheVariants.{Frame, Tick, New, Bind, Connect, Listen, Write, SendTo, Recved, Shutdown, Close, GetError, GetAddr, NoDelay, OpenFd, SetFd, CloseFd, SetVar, Signal, Sent, Stop}
use Rattle.lw_events.specs.declared.event.Reply.{Reply}
use Rattle.lw_events.specs.declared.event.Reply.TheVariants.{Done, Conn as ConnReply, Fd as FdReply, Wrote, Count, Ticks, Addr, Frames, Fail}
use Rattle.lw_events.specs.declared.entry.ItemText.{ItemText}
use Rattle.lw_events.specs.declared.entry.ItemText.TheVariants.{Segment, Datagram, Accepted}
use Rattle.lw_events.specs.declared.entry.Post.{Post}
use Rattle.lw_events.specs.declared.entry.Post.TheVariants.{Item, Full}
use Rattle.lw_events.specs.declared.entry.Entry.{Entry}
use Rattle.lw_transcript.specs.declared.lines.CoreLine.{CoreLine}
use Rattle.lw_transcript.specs.Fields.{Field, Word, Number, Name, Address, Hex, line}

-- a transport's word
abbrev pub proto_word : Proto → List ℕ
proto_word Tcp = codes "tcp"
proto_word Udp = codes "udp"

-- the word of an end of a connection
abbrev pub which_word : Which → List ℕ
which_word Local = codes "local"
which_word Remote = codes "remote"

-- 0 or 1
abbrev pub bit : Bool → ℕ
bit true = 1
bit false = 0

-- what a descriptor is told: `nonblock B` or `timeout T`
abbrev pub option_fields : FdOption → List Field
option_fields (NonBlock on) = Word (codes "nonblock") ∷ Number (bit on) ∷ []
option_fields (Timeout ticks) = Word (codes "timeout") ∷ Number ticks ∷ []

-- what a variable names: `conn C` or `fd D`
abbrev pub handle_fields : Handle → List Field
handle_fields (Conn conn) = Word (codes "conn") ∷ Number conn ∷ []
handle_fields (Fd fd) = Word (codes "fd") ∷ Number fd ∷ []

-- the octets of a datagram, with `fill` behind those that a rule made
abbrev pub data_fields : SendData → List Field
data_fields (Literal octets) = Hex octets ∷ []
data_fields (Fill octets) = Hex octets ∷ Word (codes "fill") ∷ []

-- the fields of an event
abbrev pub event_fields : Event (List ℕ) → List Field
event_fields (Frame octets) = Word (codes "frame") ∷ Hex octets ∷ []
event_fields Tick = Word (codes "tick") ∷ []
event_fields (New proto) = Word (codes "new") ∷ Word (proto_word proto) ∷ []
event_fields (Bind conn ip port) = Word (codes "bind") ∷ Number conn ∷ Address ip ∷ Number port.0 ∷ []
event_fields (Connect conn ip port) = Word (codes "connect") ∷ Number conn ∷ Address ip ∷ Number port.0 ∷ []
event_fields (Listen conn) = Word (codes "listen") ∷ Number conn ∷ []
event_fields (Write conn octets) = Word (codes "write") ∷ Number conn ∷ Hex octets ∷ []
event_fields (SendTo conn ip port octets) =
    Word (codes "sendto") ∷ Number conn ∷ Address ip ∷ Number port.0 ∷ data_fields octets
event_fields (Recved conn n) = Word (codes "recved") ∷ Number conn ∷ Number n ∷ []
event_fields (Shutdown conn) = Word (codes "shutdown") ∷ Number conn ∷ []
event_fields (Close conn) = Word (codes "close") ∷ Number conn ∷ []
event_fields (GetError conn) = Word (codes "geterror") ∷ Number conn ∷ []
event_fields (GetAddr conn which) = Word (codes "getaddr") ∷ Number conn ∷ Word (which_word which) ∷ []
event_fields (NoDelay conn on) = Word (codes "nodelay") ∷ Number conn ∷ Number (bit on) ∷ []
event_fields (OpenFd conn) = Word (codes "openfd") ∷ Number conn ∷ []
event_fields (SetFd fd option) = Word (codes "setfd") ∷ Number fd ∷ option_fields option
event_fields (CloseFd fd) = Word (codes "closefd") ∷ Number fd ∷ []
event_fields (SetVar var handle) = Word (codes "setvar") ∷ Name (codes "v") var ∷ handle_fields handle
event_fields (Signal signal) = Word (codes "signal") ∷ Name (codes "s") signal ∷ []
event_fields (Sent n) = Word (codes "sent") ∷ Number n ∷ []
event_fields Stop = Word (codes "stop") ∷ []

-- the fields of a reply; that of a failed event is the word of its error
abbrev pub reply_fields : Reply → List Field
reply_fields Done = Word (codes "ok") ∷ []
reply_fields (ConnReply conn) = Word (codes "conn") ∷ Number conn ∷ []
reply_fields (FdReply fd) = Word (codes "fd") ∷ Number fd ∷ []
reply_fields (Wrote n) = Word (codes "wrote") ∷ Number n ∷ []
reply_fields (Count n) = Word (codes "count") ∷ Number n ∷ []
reply_fields (Ticks n) = Word (codes "ticks") ∷ Number n ∷ []
reply_fields (Addr ip port) = Word (codes "addr") ∷ Address ip ∷ Number port.0 ∷ []
reply_fields (Frames n) = Word (codes "frames") ∷ Number n ∷ []
reply_fields (Fail err) = Word (word_of err) ∷ []

-- the word behind the reply, where a pool was short
abbrev pub short_fields : Bool → List Field
short_fields true = Word (codes "short") ∷ []
short_fields false = []

-- the fields of a core line: `core N ACTOR EVENT -> REPLY`, with `short` behind them where a pool was short
abbrev pub core_fields : ℕ → Entry → List Field
core_fields number e =
    Word (codes "core") ∷ Number number ∷ Number e.actor
    ∷ (event_fields e.event ++ Word (codes "->") ∷ (reply_fields e.reply ++ short_fields e.short))

-- the line of them
abbrev pub core_text : ℕ → Entry → List ℕ
core_text number e = line (core_fields number e)

-- what was posted: `segment LEN` or `datagram IP PORT LEN` with its number of octets, or `conn C` for a connection that was accepted
abbrev pub item_fields : ItemText → List Field
item_fields (Segment octets) = Word (codes "segment") ∷ Number (length octets) ∷ []
item_fields (Datagram ip port octets) =
    Word (codes "datagram") ∷ Address ip ∷ Number port.0 ∷ Number (length octets) ∷ []
item_fields (Accepted conn) = Word (codes "conn") ∷ Number conn ∷ []

-- a post to connection C: `post C TICKET ITEM`, or `full C` where its mailbox had no place
abbrev pub post_fields : Post → List Field
post_fields (Item conn ticket text) = Word (codes "post") ∷ Number conn ∷ Number ticket ∷ item_fields text
post_fields (Full conn) = Word (codes "full") ∷ Number conn ∷ []

-- the line of a post
abbrev pub post_text : Post → List ℕ
post_text post = line (post_fields post)

-- the line `out HEX` of a frame that was sent
abbrev pub out_text : List ℕ → List ℕ
out_text octets = line (Word (codes "out") ∷ Hex octets ∷ [])

-- a core line, then its posts and then the frames that it sent, each in its order
abbrev pub core_lines : CoreLine → List ℕ
core_lines line =
    core_text line.number line.entry ++ flat_map post_text line.entry.posts ++ flat_map out_text line.entry.frames
