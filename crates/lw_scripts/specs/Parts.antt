-- Which parts there are in a script of each version.
use Rattle.std.specs.Prelude.{◌≡◌, ◌≢◌, ◌⊎◌, ℕ, ◌≤◌, ⊤, Bool, true, false, List, [], ◌∷◌, length, sum_by, All, Option, Some, None}
use Rattle.std.specs.Int.{IsInRange}
use Rattle.lw_events.specs.declared.event.Proto.TheVariants.{Tcp}
use Rattle.call_types.specs.declared.call.Call.{Call}
use Rattle.call_types.specs.declared.call.Call.TheVariants.{New, Tick}
use Rattle.script_words.specs.Calls.{IsActorCall, IsCount, IsDriverCall, IsWireCall, IsWithin}
use Rattle.script_words.specs.Values.{IsNet}
use Rattle.script_words.specs.declared.version.Version.{Version}
use Rattle.script_words.specs.declared.version.Version.TheVariants.{Two as SecondVersion}
use Rattle.lw_scripts.specs.declared.parts.ActorScript.{ActorScript}
use Rattle.lw_scripts.specs.declared.parts.Body.{Body}
use Rattle.lw_scripts.specs.declared.parts.Body.TheVariants.{One, Two}
use Rattle.lw_scripts.specs.declared.parts.Fault.{Fault}
use Rattle.lw_scripts.specs.declared.parts.Pair.{Pair}
use Rattle.lw_scripts.specs.declared.parts.Single.{Single}
use Rattle.lw_scripts.specs.declared.parts.SizeName.{SizeName}
use Rattle.lw_scripts.specs.declared.parts.SizeName.TheVariants.{Ram, Pool, Rom, Reference, Mailbox, Tcpip, Descriptors, Window}
use Rattle.lw_scripts.specs.declared.parts.Sizes.{Sizes}
use Rattle.lw_scripts.specs.declared.parts.Stack.{Stack}

-- the least size of a name
abbrev pub least_of : SizeName → ℕ
least_of Window = 5840
least_of other = 1

-- the greatest size of a name
abbrev pub most_of : SizeName → ℕ
most_of Mailbox = 64
most_of Window = 1048576
most_of other = 1024

-- a size that isn't named, or one of this range in a script of version 2
abbrev pub IsSize : Version → SizeName → Option ℕ → Type 0
IsSize version name None = ⊤
IsSize version name (Some size) = (version ≡ SecondVersion) × IsWithin (least_of name) (most_of name) size

-- the ranges of the sizes
pub record AreSizes (version : Version) (sizes : Sizes) : Type 0 where
  pub ram : IsSize version Ram sizes.ram
  pub pool : IsSize version Pool sizes.pool
  pub rom : IsSize version Rom sizes.rom
  pub reference : IsSize version Reference sizes.reference
  pub mailbox : IsSize version Mailbox sizes.mailbox
  pub tcpip : IsSize version Tcpip sizes.tcpip
  pub descriptors : IsSize version Descriptors sizes.descriptors
  pub window : IsSize version Window sizes.window

-- 1 to 16 letters from a to z and digits
pub record IsName (name : List ℕ) : Type 0 where
  pub counted : IsWithin 1 16 (length name)
  pub letters : All (λ c. IsInRange 97 122 c ⊎ IsInRange 48 57 c) name

-- a call that makes a connection of TCP
abbrev pub speaks_tcp : Call → Bool
speaks_tcp (New i v Tcp) = true
speaks_tcp other = false

-- a call that an actor of a script may have
abbrev pub IsScriptCall : Version → Call → Type 0
IsScriptCall version call = IsActorCall version call × (speaks_tcp call ≡ false)

-- an actor with a name, and with calls of this version
pub record IsActor (version : Version) (actor : ActorScript) : Type 0 where
  pub name : IsName actor.name
  pub calls : All (IsScriptCall version) actor.calls

-- addresses, sizes, and at most 16 actors
pub record IsStack (version : Version) (stack : Stack) : Type 0 where
  pub net : IsNet stack.net
  pub sizes : AreSizes version stack.sizes
  pub few : length stack.actors ≤ 16
  pub actors : All (IsActor version) stack.actors

-- how many ticks a command makes
abbrev pub ticks_of : Call → ℕ
ticks_of (Tick n) = n
ticks_of other = 0

-- commands of the driver that make at most 1,000,000 ticks together
abbrev pub IsDriver : Option (List Call) → Type 0
IsDriver None = ⊤
IsDriver (Some commands) = All IsDriverCall commands × (sum_by ticks_of commands ≤ 1000000)

-- one stack and its driver
pub record IsSingle (version : Version) (one : Single) : Type 0 where
  pub stack : IsStack version one.stack
  pub driver : IsDriver one.driver

-- two faults are of different frames
abbrev pub IsOther : Fault → Fault → Type 0
IsOther f g = (f.side ≡ g.side) → f.frame ≢ g.frame

-- each frame has one fault at most
abbrev pub AreApart : List Fault → Type 0
AreApart [] = ⊤
AreApart (f ∷ faults) = All (IsOther f) faults × AreApart faults

-- two stacks, faults of frames that are each named once, and commands of the wire
pub record IsPair (version : Version) (two : Pair) : Type 0 where
  pub a : IsStack version two.a
  pub b : IsStack version two.b
  pub frames : All (λ f. IsCount f.frame) two.faults
  pub apart : AreApart two.faults
  pub commands : All IsWireCall two.commands

-- what stands behind the head line of a script of this version
abbrev pub IsBody : Version → Body → Type 0
IsBody version (One one) = IsSingle version one
IsBody version (Two two) = IsPair version two
