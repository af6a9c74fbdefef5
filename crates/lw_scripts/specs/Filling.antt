-- What one more line makes of the parts of a script: the sizes and actors of a stack, the driver's commands, the wire.
use Rattle.std.specs.Prelude.{ℕ, ◌+◌, nat_lt, nat_le, ◌==◌, Bool, not, cond, ◌&&◌, List, [], ◌∷◌, ◌++◌, length, Option, Some, None}
use Rattle.std.specs.Option.{is_none, option_map}
use Rattle.lw_base.specs.declared.addresses.Net.{Net}
use Rattle.call_types.specs.declared.call.Call.{Call}
use Rattle.lw_scripts.specs.declared.begun.OpenDriver.{OpenDriver}
use Rattle.lw_scripts.specs.declared.begun.OpenWire.{OpenWire}
use Rattle.lw_scripts.specs.declared.parts.ActorScript.{ActorScript}
use Rattle.lw_scripts.specs.declared.parts.Fault.{Fault}
use Rattle.lw_scripts.specs.declared.parts.Profile.{Profile}
use Rattle.lw_scripts.specs.declared.parts.SizeName.{SizeName}
use Rattle.lw_scripts.specs.declared.parts.SizeName.TheVariants.{Ram, Pool, Rom, Reference, Mailbox, Tcpip, Descriptors, Window}
use Rattle.lw_scripts.specs.declared.parts.Sizes.{Sizes}
use Rattle.lw_scripts.specs.declared.parts.Stack.{Stack}
use Rattle.lw_scripts.specs.declared.parts.Way.{Way}
use Rattle.lw_scripts.specs.Kinds.{is_actors, is_drivers, is_wires}
use Rattle.lw_scripts.specs.Marks.{is_named}
use Rattle.lw_scripts.specs.Parts.{speaks_tcp, ticks_of}

-- no size is named
abbrev pub no_sizes : Sizes
no_sizes = record { ram = None; pool = None; rom = None; reference = None; mailbox = None; tcpip = None; descriptors = None; window = None }

-- a size isn't named, nor one that stands behind it
abbrev pub lacks_window : Sizes → Bool
lacks_window s = is_none s.window

abbrev pub lacks_descriptors : Sizes → Bool
lacks_descriptors s = lacks_window s && is_none s.descriptors

abbrev pub lacks_tcpip : Sizes → Bool
lacks_tcpip s = lacks_descriptors s && is_none s.tcpip

abbrev pub lacks_mailbox : Sizes → Bool
lacks_mailbox s = lacks_tcpip s && is_none s.mailbox

abbrev pub lacks_reference : Sizes → Bool
lacks_reference s = lacks_mailbox s && is_none s.reference

abbrev pub lacks_rom : Sizes → Bool
lacks_rom s = lacks_reference s && is_none s.rom

abbrev pub lacks_pool : Sizes → Bool
lacks_pool s = lacks_rom s && is_none s.pool

abbrev pub lacks_ram : Sizes → Bool
lacks_ram s = lacks_pool s && is_none s.ram

-- neither the size of this name nor one that stands behind it is named
abbrev pub is_unnamed : SizeName → Sizes → Bool
is_unnamed Ram s = lacks_ram s
is_unnamed Pool s = lacks_pool s
is_unnamed Rom s = lacks_rom s
is_unnamed Reference s = lacks_reference s
is_unnamed Mailbox s = lacks_mailbox s
is_unnamed Tcpip s = lacks_tcpip s
is_unnamed Descriptors s = lacks_descriptors s
is_unnamed Window s = lacks_window s

-- sizes with the one of this name
abbrev pub named : SizeName → ℕ → Sizes → Sizes
named Ram n s = record s { ram = Some n }
named Pool n s = record s { pool = Some n }
named Rom n s = record s { rom = Some n }
named Reference n s = record s { reference = Some n }
named Mailbox n s = record s { mailbox = Some n }
named Tcpip n s = record s { tcpip = Some n }
named Descriptors n s = record s { descriptors = Some n }
named Window n s = record s { window = Some n }

-- one more size, where it stands behind those that are named
abbrev pub more_sizes : Sizes → SizeName → ℕ → Option Sizes
more_sizes sizes name n = cond (is_unnamed name sizes) (Some (named name n sizes)) None

-- a stack of which the addresses and the profile were read
abbrev pub new_stack : Net → Profile → Stack
new_stack net profile = record { net = net; profile = profile; sizes = no_sizes; actors = [] }

-- one more size of a stack, before its actors
abbrev pub with_size : Stack → SizeName → ℕ → Option Stack
with_size stack name n =
    cond (length stack.actors == 0) (option_map (λ sizes. record stack { sizes = sizes }) (more_sizes stack.sizes name n)) None

-- an actor without calls
abbrev pub new_actor : List ℕ → Way → ActorScript
new_actor name way = record { name = name; way = way; calls = [] }

-- one more actor, of 16 at most
abbrev pub with_actor : Stack → List ℕ → Way → Option Stack
with_actor stack name way =
    cond (nat_lt (length stack.actors) 16) (Some (record stack { actors = stack.actors ++ new_actor name way ∷ [] })) None

-- one more call of an actor
abbrev pub with_more : ActorScript → Call → ActorScript
with_more actor call = record actor { calls = actor.calls ++ call ∷ [] }

-- one more call of the last actor, where there is one
abbrev pub to_last : List ActorScript → Call → Option (List ActorScript)
to_last [] call = None
to_last (actor ∷ []) call = Some (with_more actor call ∷ [])
to_last (actor ∷ next ∷ actors) call = option_map (λ later. actor ∷ later) (to_last (next ∷ actors) call)

-- one more call of a stack's last actor
abbrev pub with_call : Stack → Call → Option Stack
with_call stack call =
    cond (is_actors call && not (speaks_tcp call)) (option_map (λ actors. record stack { actors = actors }) (to_last stack.actors call)) None

-- no commands of a driver
abbrev pub new_driver : OpenDriver
new_driver = record { commands = []; ticks = 0 }

-- one more command of the driver, where all make 1,000,000 ticks at most
abbrev pub with_command : OpenDriver → Call → Option OpenDriver
with_command driver call =
    cond (is_drivers call && nat_le (driver.ticks + ticks_of call) 1000000)
    (Some (record { commands = driver.commands ++ call ∷ []; ticks = driver.ticks + ticks_of call })) None

-- nothing on a wire
abbrev pub new_wire : OpenWire
new_wire = record { faults = []; commands = [] }

-- one more fault, of a frame that isn't named yet
abbrev pub with_fault : List Fault → Fault → Option (List Fault)
with_fault faults f = cond (is_named faults f.side f.frame) None (Some (faults ++ f ∷ []))

-- one more fault of the wire, before its commands
abbrev pub wire_fault : OpenWire → Fault → Option OpenWire
wire_fault wire f =
    cond (length wire.commands == 0) (option_map (λ faults. record wire { faults = faults }) (with_fault wire.faults f)) None

-- one more command of the wire
abbrev pub wire_command : OpenWire → Call → Option OpenWire
wire_command wire call = cond (is_wires call) (Some (record wire { commands = wire.commands ++ call ∷ [] })) None
