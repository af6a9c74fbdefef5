-- What was read with one more line is part of a script, and has one part more.
use Rattle.std.proofs.Common.{◌≡◌, ◌+◌, nat_le, ◌==◌, Bool, true, false, cond, ◌&&◌, List, [], ◌∷◌, ◌++◌, length, map, sum_by, Option, Some, None, refl, sym, ap, ◌∙◌, subst, arith, append_assoc, append-nil, leb-true, eqb-true, option_map}
use Rattle.std.proofs.lemmas.List.{map-append}
use Rattle.std.proofs.lemmas.List.Elements.{All-nil, All-push}
use Rattle.std.proofs.lemmas.List.Sums.{sum_by-append}
use Rattle.std.proofs.lemmas.Option.{none-some, same_Some}
use Rattle.lw_base.specs.declared.addresses.Net.{Net as Addresses}
use Rattle.call_types.specs.declared.call.Call.{Call as ACall}
use Rattle.call_types.specs.declared.call.Side.TheVariants.{A as SideA, B as SideB}
use Rattle.script_words.specs.Calls.{IsCount, IsDriverCall, IsWireCall}
use Rattle.script_words.specs.Values.{IsNet}
use Rattle.script_words.specs.declared.version.Version.{Version}
use Rattle.lw_scripts.specs.declared.begun.OpenDriver.{OpenDriver}
use Rattle.lw_scripts.specs.declared.begun.OpenWire.{OpenWire}
use Rattle.lw_scripts.specs.declared.part.Part.{Part}
use Rattle.lw_scripts.specs.declared.part.Part.TheVariants.{Head, Pair, Side, Net, Limits, Size, Actor, Call, Driver, Wire, Fault}
use Rattle.lw_scripts.specs.declared.parts.Fault.{Fault as WireFault}
use Rattle.lw_scripts.specs.declared.parts.Profile.{Profile}
use Rattle.lw_scripts.specs.declared.parts.Stack.{Stack}
use Rattle.lw_scripts.specs.declared.place.Place.{Place}
use Rattle.lw_scripts.specs.declared.place.Place.TheVariants.{Begin, Started, Paired, Sided, Addressed, Filling, Driving, Wiring}
use Rattle.lw_scripts.specs.declared.place.Whose.{Whose}
use Rattle.lw_scripts.specs.declared.place.Whose.TheVariants.{Alone, OfA, OfB}
use Rattle.lw_scripts.specs.declared.wanted.Wanted.{Wanted}
use Rattle.lw_scripts.specs.Filling.{new_driver, new_stack, new_wire, wire_command, wire_fault, with_actor, with_call, with_command, with_fault, with_size}
use Rattle.lw_scripts.specs.Forms.{takes_pair, takes_single, takes_version}
use Rattle.lw_scripts.specs.Kinds.{is_drivers, is_wires}
use Rattle.lw_scripts.specs.Line.{IsPart}
use Rattle.lw_scripts.specs.Marks.{is_named}
use Rattle.lw_scripts.specs.Parts.{IsActor, IsStack, ticks_of}
use Rattle.lw_scripts.specs.Reading.{accept, behind_begin, behind_net, behind_pair, behind_side, behind_start, in_driver, in_stack, on_wire, stack_end, version_of}
use Rattle.lw_scripts.specs.Told.{HasFront, Holds, IsOpenDriver, IsOpenWire, before, told}
use Rattle.lw_scripts.specs.Whole.{call_parts, stack_parts, wire_parts}
use Rattle.lw_scripts.proofs.FaultLaws.{apart_more}
use Rattle.lw_scripts.proofs.KindLaws.{actors_call, drivers_call, wires_call}
use Rattle.lw_scripts.proofs.StackLaws.{StackMore, actor_read, and_true, call_read, cond_some, map_some, more, size_read}

-- one more part is read
abbrev pub Step : Wanted → Place → Part → Place → Type 0
Step wanted place p next = Holds wanted next × (told next ≡ told place ++ p ∷ [])

step_to : (wanted : Wanted) (place : Place) (p : Part) (made next : Place) → Some made ≡ Some next → Step wanted place p made → Step wanted place p next
step_to wanted place p made next e s = subst (λ (n : Place). Step wanted place p n) (same_Some made next e) s

begin_step : (wanted : Wanted) (p : Part) (next : Place) → behind_begin wanted p ≡ Some next → Step wanted Begin p next
begin_step wanted (Head v) next e =
    let (takes, made) = cond_some (takes_version wanted v) (Some (Started v)) next e in
    step_to wanted Begin (Head v) (Started v) next made (takes, refl)
begin_step wanted other next e = absurd (none-some next e)

start_step : (wanted : Wanted) (version : Version) (p : Part) (next : Place) → behind_start wanted version p ≡ Some next → takes_version wanted version ≡ true → IsPart version p → Step wanted (Started version) p next
start_step wanted version Pair next e h k =
    let (takes, made) = cond_some (takes_pair wanted) (Some (Paired version)) next e in
    step_to wanted (Started version) Pair (Paired version) next made ((h, takes), refl)
start_step wanted version (Net net) next e h k =
    let (takes, made) = cond_some (takes_single wanted) (Some (Addressed version Alone net)) next e in
    step_to wanted (Started version) (Net net) (Addressed version Alone net) next made ((record { head = h; kind = takes; front = tt }, k), refl)
start_step wanted version other next e h k = absurd (none-some next e)

pair_step : (wanted : Wanted) (version : Version) (p : Part) (next : Place) → behind_pair version p ≡ Some next → (takes_version wanted version ≡ true) × (takes_pair wanted ≡ true) → Step wanted (Paired version) p next
pair_step wanted version (Side SideA) next e h =
    step_to wanted (Paired version) (Side SideA) (Sided version OfA) next e ((record { head = h.0; kind = h.1; front = tt }, tt), refl)
pair_step wanted version (Side SideB) next e h = absurd (none-some next e)
pair_step wanted version other next e h = absurd (none-some next e)

side_step : (wanted : Wanted) (version : Version) (whose : Whose) (p : Part) (next : Place) → behind_side version whose p ≡ Some next → HasFront wanted version whose → IsPart version p → Step wanted (Sided version whose) p next
side_step wanted version whose (Net net) next e h k =
    step_to wanted (Sided version whose) (Net net) (Addressed version whose net) next e ((h, k), refl)
side_step wanted version whose other next e h k = absurd (none-some next e)

new_is_stack : (version : Version) (net : Addresses) (profile : Profile) → IsNet net → IsStack version (new_stack net profile)
new_is_stack version net profile h =
    record {
      net = h;
      sizes = record { ram = tt; pool = tt; rom = tt; reference = tt; mailbox = tt; tcpip = tt; descriptors = tt; window = tt };
      few = omega arith;
      actors = All-nil (IsActor version);
    }

net_step : (wanted : Wanted) (version : Version) (whose : Whose) (net : Addresses) (p : Part) (next : Place) → behind_net version whose net p ≡ Some next → HasFront wanted version whose → IsNet net → Step wanted (Addressed version whose net) p next
net_step wanted version whose net (Limits profile) next e h k =
    step_to wanted (Addressed version whose net) (Limits profile) (Filling version whose (new_stack net profile)) next e (
      (h, new_is_stack version net profile k),
      ap (λ (l : List Part). Head version ∷ l) (sym (append_assoc (before whose) (Net net ∷ []) (Limits profile ∷ []))),
    )
net_step wanted version whose net other next e h k = absurd (none-some next e)

filled : (wanted : Wanted) (version : Version) (whose : Whose) (stack : Stack) (p : Part) (o : Option Stack) (next : Place) → option_map (Filling version whose) o ≡ Some next → HasFront wanted version whose → ((made : Stack) → o ≡ Some made → StackMore version stack p made) → Step wanted (Filling version whose stack) p next
filled wanted version whose stack p o next e h k =
    let (made, is, same) = map_some (Filling version whose) o next e in
    let m = k made is in
    step_to wanted (Filling version whose stack) p (Filling version whose made) next (ap Some same)
    ((h, m.0), ap (λ (l : List Part). Head version ∷ l) (more (before whose) (stack_parts stack) p (stack_parts made) m.1))

end_step : (wanted : Wanted) (version : Version) (whose : Whose) (stack : Stack) (p : Part) (next : Place) → stack_end version whose stack p ≡ Some next → HasFront wanted version whose → IsStack version stack → Step wanted (Filling version whose stack) p next
end_step wanted version Alone stack Driver next e h k =
    step_to wanted (Filling version Alone stack) Driver (Driving version stack new_driver) next e
    ((h, k, record { commands = All-nil IsDriverCall; ticks = refl; few = omega arith }), refl)
end_step wanted version OfA stack (Side SideB) next e h k =
    step_to wanted (Filling version OfA stack) (Side SideB) (Sided version (OfB stack)) next e
    ((record { head = h.head; kind = h.kind; front = k }, tt), refl)
end_step wanted version OfA stack (Side SideA) next e h k = absurd (none-some next e)
end_step wanted version (OfB a) stack Wire next e h k =
    step_to wanted (Filling version (OfB a) stack) Wire (Wiring version a stack new_wire) next e (
      (h, k, record { frames = All-nil (λ (f : WireFault). IsCount f.frame); apart = tt; commands = All-nil IsWireCall }),
      ap (λ (l : List Part). Head version ∷ Pair ∷ Side SideA ∷ l)
          (sym (append_assoc (stack_parts a) (Side SideB ∷ stack_parts stack) (Wire ∷ []))
          ∙ ap (λ (l : List Part). l ++ Wire ∷ []) (sym (append_assoc (stack_parts a) (Side SideB ∷ []) (stack_parts stack)))),
    )
end_step wanted version whose stack other next e h k = absurd (none-some next e)

stack_step : (wanted : Wanted) (version : Version) (whose : Whose) (stack : Stack) (p : Part) (next : Place) → in_stack version whose stack p ≡ Some next → HasFront wanted version whose → IsStack version stack → IsPart version p → Step wanted (Filling version whose stack) p next
stack_step wanted version whose stack (Size name n) next e h k is =
    filled wanted version whose stack (Size name n) (with_size stack name n) next e h (λ made e. size_read version stack name n made e k is)
stack_step wanted version whose stack (Actor name way) next e h k is =
    filled wanted version whose stack (Actor name way) (with_actor stack name way) next e h (λ made e. actor_read version stack name way made e k is)
stack_step wanted version whose stack (Call call) next e h k is =
    filled wanted version whose stack (Call call) (with_call stack call) next e h
    (λ made e. call_read version stack call made e k (λ actors tcp. (actors_call version call is actors, tcp)))
stack_step wanted version whose stack (Head v) next e h k is = end_step wanted version whose stack (Head v) next e h k
stack_step wanted version whose stack Pair next e h k is = end_step wanted version whose stack Pair next e h k
stack_step wanted version whose stack (Side side) next e h k is = end_step wanted version whose stack (Side side) next e h k
stack_step wanted version whose stack (Net net) next e h k is = end_step wanted version whose stack (Net net) next e h k
stack_step wanted version whose stack (Limits profile) next e h k is = end_step wanted version whose stack (Limits profile) next e h k
stack_step wanted version whose stack Driver next e h k is = end_step wanted version whose stack Driver next e h k
stack_step wanted version whose stack Wire next e h k is = end_step wanted version whose stack Wire next e h k
stack_step wanted version whose stack (Fault f) next e h k is = end_step wanted version whose stack (Fault f) next e h k

command_read : (driver : OpenDriver) (call : ACall) (next : OpenDriver) → with_command driver call ≡ Some next → IsOpenDriver driver → (is_drivers call ≡ true → IsDriverCall call) → IsOpenDriver next × (next.commands ≡ driver.commands ++ call ∷ [])
command_read driver call next e h k =
    let made : OpenDriver = record { commands = driver.commands ++ call ∷ []; ticks = driver.ticks + ticks_of call } in
    let (tests, some) = cond_some (is_drivers call && nat_le (driver.ticks + ticks_of call) 1000000) (Some made) next e in
    let (kind, small) = and_true (is_drivers call) (nat_le (driver.ticks + ticks_of call) 1000000) tests in
    let few = leb-true (driver.ticks + ticks_of call) 1000000 small in
    let ticks = h.ticks in
    let all : sum_by ticks_of (driver.commands ++ call ∷ []) ≡ sum_by ticks_of driver.commands + (0 + ticks_of call) = sum_by-append ticks_of driver.commands (call ∷ []) in
    subst (λ (t : OpenDriver). IsOpenDriver t × (t.commands ≡ driver.commands ++ call ∷ [])) (same_Some made next some)
    (record { commands = All-push IsDriverCall driver.commands call h.commands (k kind); ticks = omega arith; few = few }, refl)

driver_step : (wanted : Wanted) (version : Version) (stack : Stack) (driver : OpenDriver) (p : Part) (next : Place) → in_driver version stack driver p ≡ Some next → Holds wanted (Driving version stack driver) → IsPart version p → Step wanted (Driving version stack driver) p next
driver_step wanted version stack driver (Call call) next e h is =
    let (made, one, same) = map_some (Driving version stack) (with_command driver call) next e in
    let (holds, commands) = command_read driver call made one h.2 (drivers_call version call is) in
    step_to wanted (Driving version stack driver) (Call call) (Driving version stack made) next (ap Some same) (
      (h.0, h.1, holds),
      ap (λ (l : List Part). Head version ∷ l) (more (stack_parts stack) (Driver ∷ call_parts driver.commands) (Call call) (Driver ∷ call_parts made.commands)
          (ap (λ (l : List Part). Driver ∷ l) (ap call_parts commands ∙ map-append Call driver.commands (call ∷ [])))),
    )
driver_step wanted version stack driver other next e h is = absurd (none-some next e)

abbrev WireMore : OpenWire → Part → OpenWire → Type 0
WireMore wire p next = IsOpenWire next × (wire_parts next.faults next.commands ≡ wire_parts wire.faults wire.commands ++ p ∷ [])

no_commands : (commands : List ACall) → (length commands == 0) ≡ true → commands ≡ []
no_commands [] e = refl
no_commands (a ∷ commands) e = let none = eqb-true (length (a ∷ commands)) 0 e in absurd (omega arith)

append_nil_faults : (faults : List WireFault) (f : WireFault) → map Fault (faults ++ f ∷ []) ++ [] ≡ (map Fault faults ++ []) ++ Fault f ∷ []
append_nil_faults faults f =
    append-nil (map Fault (faults ++ f ∷ [])) ∙ map-append Fault faults (f ∷ []) ∙ ap (λ (l : List Part). l ++ Fault f ∷ []) (sym (append-nil (map Fault faults)))

cond_none : {A : Type 0} (b : Bool) (x y : A) → cond b None (Some x) ≡ Some y → (b ≡ false) × (x ≡ y)
cond_none true x y e = absurd (none-some y e)
cond_none false x y e = (refl, same_Some x y e)

before_commands : (faults : List WireFault) (f : WireFault) (commands : List ACall) → commands ≡ [] → wire_parts (faults ++ f ∷ []) commands ≡ wire_parts faults commands ++ Fault f ∷ []
before_commands faults f commands none =
    (λ i. wire_parts (faults ++ f ∷ []) (none i)) ∙ ap (λ (l : List Part). Wire ∷ l)
    (append_nil_faults faults f)
    ∙ sym (λ i. wire_parts faults (none i) ++ Fault f ∷ [])

fault_read : (wire : OpenWire) (f : WireFault) (next : OpenWire) → wire_fault wire f ≡ Some next → IsOpenWire wire → IsCount f.frame → WireMore wire (Fault f) next
fault_read wire f next e h k =
    let (none, some) = cond_some (length wire.commands == 0) (option_map (λ (faults : List WireFault). record wire { faults = faults }) (with_fault wire.faults f)) next e in
    let (faults, is, made) = map_some (λ (faults : List WireFault). record wire { faults = faults }) (with_fault wire.faults f) next some in
    let (unnamed, same) = cond_none (is_named wire.faults f.side f.frame) (wire.faults ++ f ∷ []) faults is in
    let whole : record wire { faults = wire.faults ++ f ∷ [] } ≡ next = (λ i. record wire { faults = same i }) ∙ made in
    subst (λ (t : OpenWire). WireMore wire (Fault f) t) whole (
      record { frames = All-push (λ (f : WireFault). IsCount f.frame) wire.faults f h.frames k; apart = apart_more wire.faults f h.apart unnamed; commands = h.commands },
      before_commands wire.faults f wire.commands (no_commands wire.commands none),
    )

wire_call_read : (wire : OpenWire) (call : ACall) (next : OpenWire) → wire_command wire call ≡ Some next → IsOpenWire wire → (is_wires call ≡ true → IsWireCall call) → WireMore wire (Call call) next
wire_call_read wire call next e h k =
    let made = record wire { commands = wire.commands ++ call ∷ [] } in
    let (kind, some) = cond_some (is_wires call) (Some made) next e in
    subst (λ (t : OpenWire). WireMore wire (Call call) t) (same_Some made next some) (
      record { frames = h.frames; apart = h.apart; commands = All-push IsWireCall wire.commands call h.commands (k kind) },
      ap (λ (l : List Part). Wire ∷ l) (more (map Fault wire.faults) (call_parts wire.commands) (Call call) (call_parts (wire.commands ++ call ∷ [])) (map-append Call wire.commands (call ∷ []))),
    )

wired : (wanted : Wanted) (version : Version) (a b : Stack) (wire : OpenWire) (p : Part) (o : Option OpenWire) (next : Place) → option_map (Wiring version a b) o ≡ Some next → Holds wanted (Wiring version a b wire) → ((made : OpenWire) → o ≡ Some made → WireMore wire p made) → Step wanted (Wiring version a b wire) p next
wired wanted version a b wire p o next e h k =
    let (made, is, same) = map_some (Wiring version a b) o next e in
    let m = k made is in
    step_to wanted (Wiring version a b wire) p (Wiring version a b made) next (ap Some same) (
      (h.0, h.1, m.0),
      ap (λ (l : List Part). Head version ∷ Pair ∷ Side SideA ∷ l)
          (more (stack_parts a) (Side SideB ∷ (stack_parts b ++ wire_parts wire.faults wire.commands)) p (Side SideB ∷ (stack_parts b ++ wire_parts made.faults made.commands))
          (ap (λ (l : List Part). Side SideB ∷ l) (more (stack_parts b) (wire_parts wire.faults wire.commands) p (wire_parts made.faults made.commands) m.1))),
    )

wire_step : (wanted : Wanted) (version : Version) (a b : Stack) (wire : OpenWire) (p : Part) (next : Place) → on_wire version a b wire p ≡ Some next → Holds wanted (Wiring version a b wire) → IsPart version p → Step wanted (Wiring version a b wire) p next
wire_step wanted version a b wire (Fault f) next e h is =
    wired wanted version a b wire (Fault f) (wire_fault wire f) next e h (λ made one. fault_read wire f made one h.2 is)
wire_step wanted version a b wire (Call call) next e h is =
    wired wanted version a b wire (Call call) (wire_command wire call) next e h (λ made one. wire_call_read wire call made one h.2 (wires_call version call is))
wire_step wanted version a b wire other next e h is = absurd (none-some next e)

-- what was read with one more part holds, and has one part more
pub step : (wanted : Wanted) (place : Place) (p : Part) (next : Place) → accept wanted place p ≡ Some next → Holds wanted place → IsPart (version_of place) p → Step wanted place p next
step wanted Begin p next e h is = begin_step wanted p next e
step wanted (Started version) p next e h is = start_step wanted version p next e h is
step wanted (Paired version) p next e h is = pair_step wanted version p next e h
step wanted (Sided version whose) p next e h is = side_step wanted version whose p next e h.0 is
step wanted (Addressed version whose net) p next e h is = net_step wanted version whose net p next e h.0 h.1
step wanted (Filling version whose stack) p next e h is = stack_step wanted version whose stack p next e h.0 h.1 is
step wanted (Driving version stack driver) p next e h is = driver_step wanted version stack driver p next e h is
step wanted (Wiring version a b wire) p next e h is = wire_step wanted version a b wire p next e h is
