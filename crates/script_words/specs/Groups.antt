-- Words that are those of no call of a group.
use Rattle.std.specs.Prelude.{◌≢◌, ◌<◌, ℕ, Bool, List, Option}
use Rattle.lw_base.specs.declared.addresses.Ip.{Ip}
use Rattle.lw_base.specs.declared.addresses.Port.{Port}
use Rattle.lw_events.specs.declared.event.Proto.{Proto}
use Rattle.lw_events.specs.declared.event.Which.{Which}
use Rattle.call_types.specs.declared.call.Call.{Call}
use Rattle.call_types.specs.declared.call.Call.TheVariants.{New, Bind, Connect, Listen, Accept, Send, SendTo, Recv, RecvAll, RecvFrom, RecvItem, TryItem, Shutdown, Close, NonBlock, NoDelay, Timeout, GetAddr, Select, Signal, Await, Feed, Burst, Tick}
use Rattle.call_types.specs.declared.call.Data.{Data}
use Rattle.call_types.specs.declared.call.Interface.{Interface}
use Rattle.call_types.specs.declared.call.SelectItem.{SelectItem}
use Rattle.script_words.specs.declared.version.Version.{Version}
use Rattle.script_words.specs.Calls.{IsActorCall, IsAmount, IsCount}
use Rattle.script_words.specs.Spelling.{call_words}

-- the words aren't those of this call, or it isn't an actor's
abbrev pub Isnt : Version → List (List ℕ) → Call → Type 0
Isnt version words call = IsActorCall version call → words ≢ call_words call

-- no `socket` or `nnew`
abbrev pub LacksNew : Version → List (List ℕ) → Type 0
LacksNew version words = (i : Interface) (v : ℕ) (proto : Proto) → Isnt version words (New i v proto)

-- no call with a variable alone
pub record LacksSingle (version : Version) (words : List (List ℕ)) : Type 0 where
  pub listen : (i : Interface) (v : ℕ) → Isnt version words (Listen i v)
  pub shutdown : (i : Interface) (v : ℕ) → Isnt version words (Shutdown i v)
  pub close : (i : Interface) (v : ℕ) → Isnt version words (Close i v)
  pub recv_item : (v : ℕ) → Isnt version words (RecvItem v)
  pub try_item : (v : ℕ) → Isnt version words (TryItem v)
  pub addr : (v : ℕ) (which : Which) → Isnt version words (GetAddr v which)

-- no call with a variable, an address and a port
pub record LacksEnd (version : Version) (words : List (List ℕ)) : Type 0 where
  pub bind : (i : Interface) (v : ℕ) (ip : Ip) (port : Port) → Isnt version words (Bind i v ip port)
  pub connect : (i : Interface) (v : ℕ) (ip : Ip) (port : Port) → Isnt version words (Connect i v ip port)

-- no `accept` or `naccept`
abbrev pub LacksAccept : Version → List (List ℕ) → Type 0
LacksAccept version words = (i : Interface) (v w : ℕ) → Isnt version words (Accept i v w)

-- no call with a variable and a number
pub record LacksCount (version : Version) (words : List (List ℕ)) : Type 0 where
  pub recv : (v n : ℕ) → Isnt version words (Recv v n)
  pub recv_all : (v n : ℕ) → Isnt version words (RecvAll v n)
  pub recv_from : (v n : ℕ) → Isnt version words (RecvFrom v n)
  pub timeout : (v n : ℕ) → Isnt version words (Timeout v n)

-- no call with a variable and a setting
pub record LacksSetting (version : Version) (words : List (List ℕ)) : Type 0 where
  pub non_block : (v : ℕ) (on : Bool) → Isnt version words (NonBlock v on)
  pub no_delay : (v : ℕ) (on : Bool) → Isnt version words (NoDelay v on)

-- no call that sends on a connection
abbrev pub LacksSend : Version → List (List ℕ) → Type 0
LacksSend version words = (i : Interface) (v : ℕ) (octets : Data) → Isnt version words (Send i v octets)

-- no call that sends a datagram
abbrev pub LacksSendTo : Version → List (List ℕ) → Type 0
LacksSendTo version words =
    (i : Interface) (v : ℕ) (ip : Ip) (port : Port) (octets : Data) → Isnt version words (SendTo i v ip port octets)

-- no `select`
abbrev pub LacksSelect : Version → List (List ℕ) → Type 0
LacksSelect version words = (limit : Option ℕ) (items : List SelectItem) → Isnt version words (Select limit items)

-- no `signal`
abbrev pub LacksSignal : List (List ℕ) → Type 0
LacksSignal words = (s : ℕ) → s < 16 → words ≢ call_words (Signal s)

-- no `await` of an actor or of the driver
abbrev pub LacksAwait : List (List ℕ) → Type 0
LacksAwait words = (s k : ℕ) → s < 16 → IsCount k → words ≢ call_words (Await s k)

-- no actor's call whose words take no memory
pub record LacksShort (version : Version) (words : List (List ℕ)) : Type 0 where
  pub single : LacksSingle version words
  pub new : LacksNew version words
  pub end : LacksEnd version words
  pub accept : LacksAccept version words
  pub count : LacksCount version words
  pub setting : LacksSetting version words
  pub signal : LacksSignal words
  pub await : LacksAwait words

-- no actor's call whose words take memory
pub record LacksLong (version : Version) (words : List (List ℕ)) : Type 0 where
  pub send : LacksSend version words
  pub send_to : LacksSendTo version words
  pub select : LacksSelect version words

-- no command that feeds frames or makes ticks
pub record LacksFeed (words : List (List ℕ)) : Type 0 where
  pub feed : (frames : Option ℕ) → IsAmount frames → words ≢ call_words (Feed frames)
  pub burst : (n : ℕ) → IsCount n → words ≢ call_words (Burst n)
  pub tick : (n : ℕ) → IsCount n → words ≢ call_words (Tick n)
