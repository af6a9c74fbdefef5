-- The parts of a whole script, in the order of its lines.
use Rattle.std.specs.Prelude.{ℕ, List, [], ◌∷◌, ◌++◌, map, Option, Some, None}
use Rattle.std.specs.List.{flat_map}
use Rattle.call_types.specs.declared.call.Call.{Call as ACall}
use Rattle.call_types.specs.declared.call.Side.TheVariants.{A as SideA, B as SideB}
use Rattle.lw_scripts.specs.declared.part.Part.{Part}
use Rattle.lw_scripts.specs.declared.part.Part.TheVariants.{Head, Pair, Side, Net, Limits, Size, Actor, Call, Driver, Wire, Fault}
use Rattle.lw_scripts.specs.declared.parts.ActorScript.{ActorScript}
use Rattle.lw_scripts.specs.declared.parts.Body.{Body}
use Rattle.lw_scripts.specs.declared.parts.Body.TheVariants.{One, Two}
use Rattle.lw_scripts.specs.declared.parts.Fault.{Fault as WireFault}
use Rattle.lw_scripts.specs.declared.parts.Script.{Script}
use Rattle.lw_scripts.specs.declared.parts.SizeName.{SizeName}
use Rattle.lw_scripts.specs.declared.parts.SizeName.TheVariants.{Ram, Pool, Rom, Reference, Mailbox, Tcpip, Descriptors, Window}
use Rattle.lw_scripts.specs.declared.parts.Sizes.{Sizes}
use Rattle.lw_scripts.specs.declared.parts.Stack.{Stack}
use Rattle.lw_scripts.specs.Line.{part_spelling}

-- the line of one size, where the script names it
abbrev pub size_part : SizeName → Option ℕ → List Part
size_part name None = []
size_part name (Some size) = Size name size ∷ []

-- the lines of the sizes that a script names, in their order
abbrev pub size_parts : Sizes → List Part
size_parts sizes =
    size_part Ram sizes.ram ++ (size_part Pool sizes.pool ++ (size_part Rom sizes.rom ++ (size_part Reference sizes.reference
    ++ (size_part Mailbox sizes.mailbox ++ (size_part Tcpip sizes.tcpip ++ (size_part Descriptors sizes.descriptors
    ++ size_part Window sizes.window))))))

-- calls, each a line
abbrev pub call_parts : List ACall → List Part
call_parts calls = map Call calls

-- an actor: its name, then its calls
abbrev pub actor_parts : ActorScript → List Part
actor_parts actor = Actor actor.name actor.way ∷ call_parts actor.calls

-- a stack: where it stands, its sizes, then its actors
abbrev pub stack_parts : Stack → List Part
stack_parts stack =
    Net stack.net ∷ Limits stack.profile ∷ (size_parts stack.sizes ++ flat_map actor_parts stack.actors)

-- the driver's part, where the script has one
abbrev pub driver_parts : Option (List ACall) → List Part
driver_parts None = []
driver_parts (Some commands) = Driver ∷ call_parts commands

-- the wire's part: the frames that aren't passed on once, then the commands
abbrev pub wire_parts : List WireFault → List ACall → List Part
wire_parts faults commands = Wire ∷ (map Fault faults ++ call_parts commands)

-- what stands behind the head line
abbrev pub body_parts : Body → List Part
body_parts (One one) = stack_parts one.stack ++ driver_parts one.driver
body_parts (Two two) =
    Pair ∷ Side SideA ∷ (stack_parts two.a ++ Side SideB ∷ (stack_parts two.b ++ wire_parts two.faults two.commands))

-- the parts of a script
abbrev pub script_parts : Script → List Part
script_parts s = Head s.version ∷ body_parts s.body

-- the lines of a script, comments taken away
abbrev pub script_lines : Script → List (List ℕ)
script_lines s = map part_spelling (script_parts s)
