-- What has been read of a script, and what one more line makes of it.
use Rattle.std.specs.Prelude.{List, [], ◌∷◌, cond, Option, Some, None}
use Rattle.std.specs.Option.{option_map, option_and_then}
use Rattle.lw_base.specs.declared.addresses.Net.{Net as Addresses}
use Rattle.call_types.specs.declared.call.Side.{Side as CallSide}
use Rattle.call_types.specs.declared.call.Side.TheVariants.{A as SideA, B as SideB}
use Rattle.script_words.specs.declared.version.Version.{Version}
use Rattle.script_words.specs.declared.version.Version.TheVariants.{One as FirstVersion}
use Rattle.lw_scripts.specs.declared.begun.OpenDriver.{OpenDriver}
use Rattle.lw_scripts.specs.declared.begun.OpenWire.{OpenWire}
use Rattle.lw_scripts.specs.declared.part.Part.{Part}
use Rattle.lw_scripts.specs.declared.part.Part.TheVariants.{Head, Pair, Side, Net, Limits, Size, Actor, Call, Driver, Wire, Fault}
use Rattle.lw_scripts.specs.declared.parts.Body.TheVariants.{One, Two}
use Rattle.lw_scripts.specs.declared.parts.Script.{Script}
use Rattle.lw_scripts.specs.declared.parts.Stack.{Stack}
use Rattle.lw_scripts.specs.declared.place.Place.{Place}
use Rattle.lw_scripts.specs.declared.place.Place.TheVariants.{Begin, Started, Paired, Sided, Addressed, Filling, Driving, Wiring}
use Rattle.lw_scripts.specs.declared.place.Whose.{Whose}
use Rattle.lw_scripts.specs.declared.place.Whose.TheVariants.{Alone, OfA, OfB}
use Rattle.lw_scripts.specs.declared.wanted.Wanted.{Wanted}
use Rattle.lw_scripts.specs.Filling.{new_driver, new_stack, new_wire, wire_command, wire_fault, with_actor, with_call, with_command, with_size}
use Rattle.lw_scripts.specs.Forms.{takes_pair, takes_single, takes_version}

-- the head line, of a version that is wanted
abbrev pub behind_begin : Wanted → Part → Option Place
behind_begin wanted (Head version) = cond (takes_version wanted version) (Some (Started version)) None
behind_begin wanted other = None

-- behind the head line: the line `pair`, or the addresses of the only stack
abbrev pub behind_start : Wanted → Version → Part → Option Place
behind_start wanted version Pair = cond (takes_pair wanted) (Some (Paired version)) None
behind_start wanted version (Net net) = cond (takes_single wanted) (Some (Addressed version Alone net)) None
behind_start wanted version other = None

-- the line `side a`
abbrev pub begin_side : Version → CallSide → Option Place
begin_side version SideA = Some (Sided version OfA)
begin_side version SideB = None

-- behind the line `pair`: the line `side a`
abbrev pub behind_pair : Version → Part → Option Place
behind_pair version (Side side) = begin_side version side
behind_pair version other = None

-- where a stack begins: its addresses
abbrev pub behind_side : Version → Whose → Part → Option Place
behind_side version whose (Net net) = Some (Addressed version whose net)
behind_side version whose other = None

-- behind a stack's addresses: its profile
abbrev pub behind_net : Version → Whose → Addresses → Part → Option Place
behind_net version whose net (Limits profile) = Some (Filling version whose (new_stack net profile))
behind_net version whose net other = None

-- behind side a's stack: the line `side b`
abbrev pub behind_a : Version → Stack → CallSide → Option Place
behind_a version a SideA = None
behind_a version a SideB = Some (Sided version (OfB a))

-- behind a stack: the driver's part, the other side, or the wire's part
abbrev pub stack_end : Version → Whose → Stack → Part → Option Place
stack_end version Alone stack Driver = Some (Driving version stack new_driver)
stack_end version OfA a (Side side) = behind_a version a side
stack_end version (OfB a) b Wire = Some (Wiring version a b new_wire)
stack_end version whose stack other = None

-- more of a stack, or what stands behind it
abbrev pub in_stack : Version → Whose → Stack → Part → Option Place
in_stack version whose stack (Size name size) = option_map (Filling version whose) (with_size stack name size)
in_stack version whose stack (Actor name way) = option_map (Filling version whose) (with_actor stack name way)
in_stack version whose stack (Call call) = option_map (Filling version whose) (with_call stack call)
in_stack version whose stack other = stack_end version whose stack other

-- more of the driver's part
abbrev pub in_driver : Version → Stack → OpenDriver → Part → Option Place
in_driver version stack driver (Call call) = option_map (Driving version stack) (with_command driver call)
in_driver version stack driver other = None

-- more of the wire's part
abbrev pub on_wire : Version → Stack → Stack → OpenWire → Part → Option Place
on_wire version a b wire (Fault f) = option_map (Wiring version a b) (wire_fault wire f)
on_wire version a b wire (Call call) = option_map (Wiring version a b) (wire_command wire call)
on_wire version a b wire other = None

-- what one more line makes of what was read; nothing where no script that is wanted has it here
abbrev pub accept : Wanted → Place → Part → Option Place
accept wanted Begin part = behind_begin wanted part
accept wanted (Started version) part = behind_start wanted version part
accept wanted (Paired version) part = behind_pair version part
accept wanted (Sided version whose) part = behind_side version whose part
accept wanted (Addressed version whose net) part = behind_net version whose net part
accept wanted (Filling version whose stack) part = in_stack version whose stack part
accept wanted (Driving version stack driver) part = in_driver version stack driver part
accept wanted (Wiring version a b wire) part = on_wire version a b wire part

-- what more lines make of what was read
abbrev pub accept_all : Wanted → Place → List Part → Option Place
accept_all wanted place [] = Some place
accept_all wanted place (part ∷ parts) = option_and_then (λ next. accept_all wanted next parts) (accept wanted place part)

-- the version of the script; any, where the head line isn't read yet
abbrev pub version_of : Place → Version
version_of Begin = FirstVersion
version_of (Started version) = version
version_of (Paired version) = version
version_of (Sided version whose) = version
version_of (Addressed version whose net) = version
version_of (Filling version whose stack) = version
version_of (Driving version stack driver) = version
version_of (Wiring version a b wire) = version

-- a script of one stack, without a driver's part
abbrev pub single_of : Version → Whose → Stack → Option Script
single_of version Alone stack = Some (record { version = version; body = One (record { stack = stack; driver = None }) })
single_of version other stack = None

-- the script, where what was read is one
abbrev pub script_of : Place → Option Script
script_of (Filling version whose stack) = single_of version whose stack
script_of (Driving version stack driver) =
    Some (record { version = version; body = One (record { stack = stack; driver = Some driver.commands }) })
script_of (Wiring version a b wire) =
    Some (record { version = version; body = Two (record { a = a; b = b; faults = wire.faults; commands = wire.commands }) })
script_of other = None
