-- Which calls a script of each version may have: an actor's, the driver's, and the wire's.
use Rattle.std.specs.Prelude.{◌⊎◌, ℕ, ◌^◌, ◌<◌, ◌≤◌, ⊤, List, length, All, Option, Some, None}
use Rattle.hex.specs.Hex.{IsBytes}
use Rattle.lw_base.specs.declared.addresses.Ip.{Ip}
use Rattle.lw_base.specs.declared.addresses.Port.{Port}
use Rattle.call_types.specs.declared.call.Call.{Call}
use Rattle.call_types.specs.declared.call.Call.TheVariants.{New, Bind, Connect, Listen, Accept, Send, SendTo, Recv, RecvAll, RecvFrom, RecvItem, TryItem, Shutdown, Close, NonBlock, NoDelay, Timeout, GetAddr, Select, Signal, Await, Feed, Burst, Tick, Stop, AwaitSide, Pump, Until}
use Rattle.call_types.specs.declared.call.Data.{Data}
use Rattle.call_types.specs.declared.call.Data.TheVariants.{Spelled, Fill}
use Rattle.call_types.specs.declared.call.SelectItem.{SelectItem}
use Rattle.script_words.specs.declared.version.Version.{Version}
use Rattle.script_words.specs.declared.version.Version.TheVariants.{One, Two}

-- how many variables there are
abbrev pub variables_of : Version → ℕ
variables_of One = 64
variables_of Two = 1024

-- how many tests a select has at most
abbrev pub items_of : Version → ℕ
items_of One = 32
items_of Two = 1024

-- a number of this range
abbrev pub IsWithin : ℕ → ℕ → ℕ → Type 0
IsWithin low high n = (low ≤ n) × (n ≤ high)

-- a count of frames, ticks, rounds or signals
abbrev pub IsCount : ℕ → Type 0
IsCount n = IsWithin 1 1000000 n

-- a limit in ticks, if there is one
abbrev pub IsLimit : Option ℕ → Type 0
IsLimit None = ⊤
IsLimit (Some ticks) = ticks ≤ 1000000

-- a number of frames, or all that are left
abbrev pub IsAmount : Option ℕ → Type 0
IsAmount None = ⊤
IsAmount (Some frames) = IsCount frames

-- an address and a port
abbrev pub IsEnd : Ip → Port → Type 0
IsEnd ip port = (ip.0 < 2 ^ 32) × (port.0 < 2 ^ 16)

-- 1 to 1,500 octets that are spelled, or 1 to 65,536 by the rule
abbrev pub IsData : Data → Type 0
IsData (Spelled octets) = IsWithin 1 1500 (length octets) × IsBytes octets
IsData (Fill count first) = IsWithin 1 65536 count × (first < 256)

-- 1 to so many tests of variables
abbrev pub AreItems : Version → List SelectItem → Type 0
AreItems version items =
    IsWithin 1 (items_of version) (length items) × All (λ item. item.var < variables_of version) items

-- an actor's call in a script of this version
abbrev pub IsActorCall : Version → Call → Type 0
IsActorCall version (New i v proto) = v < variables_of version
IsActorCall version (Bind i v ip port) = (v < variables_of version) × IsEnd ip port
IsActorCall version (Connect i v ip port) = (v < variables_of version) × IsEnd ip port
IsActorCall version (Listen i v) = v < variables_of version
IsActorCall version (Accept i v w) = (v < variables_of version) × (w < variables_of version)
IsActorCall version (Send i v octets) = (v < variables_of version) × IsData octets
IsActorCall version (SendTo i v ip port octets) = (v < variables_of version) × IsEnd ip port × IsData octets
IsActorCall version (Recv v n) = (v < variables_of version) × IsWithin 1 65536 n
IsActorCall version (RecvAll v n) = (v < variables_of version) × IsWithin 1 16777216 n
IsActorCall version (RecvFrom v n) = (v < variables_of version) × IsWithin 1 65536 n
IsActorCall version (RecvItem v) = v < variables_of version
IsActorCall version (TryItem v) = v < variables_of version
IsActorCall version (Shutdown i v) = v < variables_of version
IsActorCall version (Close i v) = v < variables_of version
IsActorCall version (NonBlock v on) = v < variables_of version
IsActorCall version (NoDelay v on) = v < variables_of version
IsActorCall version (Timeout v ticks) = (v < variables_of version) × (ticks ≤ 1000000)
IsActorCall version (GetAddr v which) = v < variables_of version
IsActorCall version (Select limit items) = IsLimit limit × AreItems version items
IsActorCall version (Signal s) = s < 16
IsActorCall version (Await s k) = (s < 16) × IsCount k
IsActorCall version other = ⊥

-- a command of the driver
abbrev pub IsDriverCall : Call → Type 0
IsDriverCall (Feed frames) = IsAmount frames
IsDriverCall (Burst n) = IsCount n
IsDriverCall (Tick n) = IsCount n
IsDriverCall (Await s k) = (s < 16) × IsCount k
IsDriverCall (Signal s) = s < 16
IsDriverCall other = ⊥

-- a command of the wire
abbrev pub IsWireCall : Call → Type 0
IsWireCall (AwaitSide side s k) = (s < 16) × IsCount k
IsWireCall (Pump n) = IsCount n
IsWireCall (Until side s k) = (s < 16) × IsCount k
IsWireCall other = ⊥

-- a call of any kind in a script of this version
abbrev pub IsCall : Version → Call → Type 0
IsCall version call = IsActorCall version call ⊎ (IsDriverCall call ⊎ IsWireCall call)
