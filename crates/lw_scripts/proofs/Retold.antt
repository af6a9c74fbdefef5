-- Reading the parts that a place has told leads to this place.
use Rattle.std.proofs.Common.{◌≡◌, ℕ, ◌+◌, ◌<◌, ◌≤◌, true, false, not, cond, ◌&&◌, List, [], ◌∷◌, ◌++◌, length, map, All, sum_by, Option, Some, None, refl, sym, ap, ◌∙◌, subst, arith, append_assoc, append-nil, length-append, le-leb, lt-ltb, option_map, option_and_then}
use Rattle.std.specs.List.{flat_map}
use Rattle.std.proofs.lemmas.List.Elements.{All-head, All-tail}
use Rattle.std.proofs.lemmas.List.Sums.{sum_by-append}
use Rattle.lw_base.specs.declared.addresses.Net.{Net as Addresses}
use Rattle.call_types.specs.declared.call.Call.{Call as ACall}
use Rattle.call_types.specs.declared.call.Side.TheVariants.{A as SideA, B as SideB}
use Rattle.script_words.specs.Calls.{IsDriverCall, IsWireCall}
use Rattle.script_words.specs.declared.version.Version.{Version}
use Rattle.lw_scripts.specs.declared.begun.OpenDriver.{OpenDriver}
use Rattle.lw_scripts.specs.declared.begun.OpenWire.{OpenWire}
use Rattle.lw_scripts.specs.declared.part.Part.{Part}
use Rattle.lw_scripts.specs.declared.part.Part.TheVariants.{Head, Pair, Side, Net, Limits, Actor, Call, Driver, Wire, Fault}
use Rattle.lw_scripts.specs.declared.parts.ActorScript.{ActorScript}
use Rattle.lw_scripts.specs.declared.parts.Fault.{Fault as WireFault}
use Rattle.lw_scripts.specs.declared.parts.Profile.{Profile}
use Rattle.lw_scripts.specs.declared.parts.SizeName.TheVariants.{Ram, Pool, Rom, Reference, Mailbox, Tcpip, Descriptors, Window}
use Rattle.lw_scripts.specs.declared.parts.Sizes.{Sizes}
use Rattle.lw_scripts.specs.declared.parts.Stack.{Stack}
use Rattle.lw_scripts.specs.declared.place.Place.{Place}
use Rattle.lw_scripts.specs.declared.place.Place.TheVariants.{Begin, Started, Paired, Sided, Addressed, Filling, Driving, Wiring}
use Rattle.lw_scripts.specs.declared.place.Whose.{Whose}
use Rattle.lw_scripts.specs.declared.place.Whose.TheVariants.{Alone, OfA, OfB}
use Rattle.lw_scripts.specs.declared.wanted.Wanted.{Wanted}
use Rattle.lw_scripts.specs.Filling.{new_actor, new_driver, new_stack, new_wire, with_more}
use Rattle.lw_scripts.specs.Forms.{takes_pair, takes_single, takes_version}
use Rattle.lw_scripts.specs.Marks.{is_named}
use Rattle.lw_scripts.specs.Parts.{AreApart, IsActor, IsScriptCall, IsStack, ticks_of}
use Rattle.lw_scripts.specs.Reading.{accept, accept_all}
use Rattle.lw_scripts.specs.Told.{HasFront, Holds, IsOpenDriver, IsOpenWire, before, told}
use Rattle.lw_scripts.specs.Whole.{actor_parts, call_parts, size_part, size_parts, stack_parts, wire_parts}
use Rattle.lw_scripts.proofs.FaultLaws.{apart_front}
use Rattle.lw_scripts.proofs.KindLaws.{kind_of_actors, kind_of_drivers, kind_of_wires}
use Rattle.lw_scripts.proofs.StackLaws.{last_call}

and_then_twice : {A B C : Type 0} (f : A → Option B) (g : B → Option C) (o : Option A) → option_and_then (λ x. option_and_then g (f x)) o ≡ option_and_then g (option_and_then f o)
and_then_twice f g None = refl
and_then_twice f g (Some x) = refl

accept_append : (wanted : Wanted) (place : Place) (xs ys : List Part) → accept_all wanted place (xs ++ ys) ≡ option_and_then (λ q. accept_all wanted q ys) (accept_all wanted place xs)
accept_append wanted place [] ys = refl
accept_append wanted place (x ∷ xs) ys =
    (λ i. option_and_then (λ n. accept_append wanted n xs ys i) (accept wanted place x))
    ∙ and_then_twice (λ n. accept_all wanted n xs) (λ q. accept_all wanted q ys) (accept wanted place x)

-- reading some parts, then others
pub chain : (wanted : Wanted) (place : Place) (xs : List Part) (next : Place) (ys : List Part) (r : Option Place) → accept_all wanted place xs ≡ Some next → accept_all wanted next ys ≡ r → accept_all wanted place (xs ++ ys) ≡ r
chain wanted place xs next ys r e f =
    accept_append wanted place xs ys ∙ ap (option_and_then (λ q. accept_all wanted q ys)) e ∙ f

-- reading one part, then others
pub one : (wanted : Wanted) (place : Place) (x : Part) (next : Place) (ys : List Part) (r : Option Place) → accept wanted place x ≡ Some next → accept_all wanted next ys ≡ r → accept_all wanted place (x ∷ ys) ≡ r
one wanted place x next ys r e f = ap (option_and_then (λ q. accept_all wanted q ys)) e ∙ f

module _ (wanted : Wanted) (version : Version) (whose : Whose) (net : Addresses) (profile : Profile) where
  -- a stack without actors, with these sizes
  abbrev sized : Sizes → Place
  sized sizes = Filling version whose (record { net = net; profile = profile; sizes = sizes; actors = [] })

  ram_read : (o : Option ℕ) → accept_all wanted (sized (record { ram = None; pool = None; rom = None; reference = None; mailbox = None; tcpip = None; descriptors = None; window = None })) (size_part Ram o) ≡ Some (sized (record { ram = o; pool = None; rom = None; reference = None; mailbox = None; tcpip = None; descriptors = None; window = None }))
  ram_read None = refl
  ram_read (Some n) = refl

  pool_read : (a o : Option ℕ) → accept_all wanted (sized (record { ram = a; pool = None; rom = None; reference = None; mailbox = None; tcpip = None; descriptors = None; window = None })) (size_part Pool o) ≡ Some (sized (record { ram = a; pool = o; rom = None; reference = None; mailbox = None; tcpip = None; descriptors = None; window = None }))
  pool_read a None = refl
  pool_read a (Some n) = refl

  rom_read : (a b o : Option ℕ) → accept_all wanted (sized (record { ram = a; pool = b; rom = None; reference = None; mailbox = None; tcpip = None; descriptors = None; window = None })) (size_part Rom o) ≡ Some (sized (record { ram = a; pool = b; rom = o; reference = None; mailbox = None; tcpip = None; descriptors = None; window = None }))
  rom_read a b None = refl
  rom_read a b (Some n) = refl

  reference_read : (a b c o : Option ℕ) → accept_all wanted (sized (record { ram = a; pool = b; rom = c; reference = None; mailbox = None; tcpip = None; descriptors = None; window = None })) (size_part Reference o) ≡ Some (sized (record { ram = a; pool = b; rom = c; reference = o; mailbox = None; tcpip = None; descriptors = None; window = None }))
  reference_read a b c None = refl
  reference_read a b c (Some n) = refl

  mailbox_read : (a b c d o : Option ℕ) → accept_all wanted (sized (record { ram = a; pool = b; rom = c; reference = d; mailbox = None; tcpip = None; descriptors = None; window = None })) (size_part Mailbox o) ≡ Some (sized (record { ram = a; pool = b; rom = c; reference = d; mailbox = o; tcpip = None; descriptors = None; window = None }))
  mailbox_read a b c d None = refl
  mailbox_read a b c d (Some n) = refl

  tcpip_read : (a b c d e o : Option ℕ) → accept_all wanted (sized (record { ram = a; pool = b; rom = c; reference = d; mailbox = e; tcpip = None; descriptors = None; window = None })) (size_part Tcpip o) ≡ Some (sized (record { ram = a; pool = b; rom = c; reference = d; mailbox = e; tcpip = o; descriptors = None; window = None }))
  tcpip_read a b c d e None = refl
  tcpip_read a b c d e (Some n) = refl

  descriptors_read : (a b c d e f o : Option ℕ) → accept_all wanted (sized (record { ram = a; pool = b; rom = c; reference = d; mailbox = e; tcpip = f; descriptors = None; window = None })) (size_part Descriptors o) ≡ Some (sized (record { ram = a; pool = b; rom = c; reference = d; mailbox = e; tcpip = f; descriptors = o; window = None }))
  descriptors_read a b c d e f None = refl
  descriptors_read a b c d e f (Some n) = refl

  window_read : (a b c d e f g o : Option ℕ) → accept_all wanted (sized (record { ram = a; pool = b; rom = c; reference = d; mailbox = e; tcpip = f; descriptors = g; window = None })) (size_part Window o) ≡ Some (sized (record { ram = a; pool = b; rom = c; reference = d; mailbox = e; tcpip = f; descriptors = g; window = o }))
  window_read a b c d e f g None = refl
  window_read a b c d e f g (Some n) = refl

  sizes_read : (sizes : Sizes) → accept_all wanted (Filling version whose (new_stack net profile)) (size_parts sizes) ≡ Some (sized sizes)
  sizes_read s =
      chain wanted (sized (record { ram = None; pool = None; rom = None; reference = None; mailbox = None; tcpip = None; descriptors = None; window = None })) (size_part Ram s.ram)
      (sized (record { ram = s.ram; pool = None; rom = None; reference = None; mailbox = None; tcpip = None; descriptors = None; window = None }))
      (size_part Pool s.pool ++ (size_part Rom s.rom ++ (size_part Reference s.reference ++ (size_part Mailbox s.mailbox ++ (size_part Tcpip s.tcpip ++ (size_part Descriptors s.descriptors ++ size_part Window s.window))))))
      (Some (sized s)) (ram_read s.ram)
      (chain wanted (sized (record { ram = s.ram; pool = None; rom = None; reference = None; mailbox = None; tcpip = None; descriptors = None; window = None })) (size_part Pool s.pool)
      (sized (record { ram = s.ram; pool = s.pool; rom = None; reference = None; mailbox = None; tcpip = None; descriptors = None; window = None }))
      (size_part Rom s.rom ++ (size_part Reference s.reference ++ (size_part Mailbox s.mailbox ++ (size_part Tcpip s.tcpip ++ (size_part Descriptors s.descriptors ++ size_part Window s.window)))))
      (Some (sized s)) (pool_read s.ram s.pool)
      (chain wanted (sized (record { ram = s.ram; pool = s.pool; rom = None; reference = None; mailbox = None; tcpip = None; descriptors = None; window = None })) (size_part Rom s.rom)
      (sized (record { ram = s.ram; pool = s.pool; rom = s.rom; reference = None; mailbox = None; tcpip = None; descriptors = None; window = None }))
      (size_part Reference s.reference ++ (size_part Mailbox s.mailbox ++ (size_part Tcpip s.tcpip ++ (size_part Descriptors s.descriptors ++ size_part Window s.window))))
      (Some (sized s)) (rom_read s.ram s.pool s.rom)
      (chain wanted (sized (record { ram = s.ram; pool = s.pool; rom = s.rom; reference = None; mailbox = None; tcpip = None; descriptors = None; window = None })) (size_part Reference s.reference)
      (sized (record { ram = s.ram; pool = s.pool; rom = s.rom; reference = s.reference; mailbox = None; tcpip = None; descriptors = None; window = None }))
      (size_part Mailbox s.mailbox ++ (size_part Tcpip s.tcpip ++ (size_part Descriptors s.descriptors ++ size_part Window s.window)))
      (Some (sized s)) (reference_read s.ram s.pool s.rom s.reference)
      (chain wanted (sized (record { ram = s.ram; pool = s.pool; rom = s.rom; reference = s.reference; mailbox = None; tcpip = None; descriptors = None; window = None })) (size_part Mailbox s.mailbox)
      (sized (record { ram = s.ram; pool = s.pool; rom = s.rom; reference = s.reference; mailbox = s.mailbox; tcpip = None; descriptors = None; window = None }))
      (size_part Tcpip s.tcpip ++ (size_part Descriptors s.descriptors ++ size_part Window s.window))
      (Some (sized s)) (mailbox_read s.ram s.pool s.rom s.reference s.mailbox)
      (chain wanted (sized (record { ram = s.ram; pool = s.pool; rom = s.rom; reference = s.reference; mailbox = s.mailbox; tcpip = None; descriptors = None; window = None })) (size_part Tcpip s.tcpip)
      (sized (record { ram = s.ram; pool = s.pool; rom = s.rom; reference = s.reference; mailbox = s.mailbox; tcpip = s.tcpip; descriptors = None; window = None }))
      (size_part Descriptors s.descriptors ++ size_part Window s.window)
      (Some (sized s)) (tcpip_read s.ram s.pool s.rom s.reference s.mailbox s.tcpip)
      (chain wanted (sized (record { ram = s.ram; pool = s.pool; rom = s.rom; reference = s.reference; mailbox = s.mailbox; tcpip = s.tcpip; descriptors = None; window = None })) (size_part Descriptors s.descriptors)
      (sized (record { ram = s.ram; pool = s.pool; rom = s.rom; reference = s.reference; mailbox = s.mailbox; tcpip = s.tcpip; descriptors = s.descriptors; window = None }))
      (size_part Window s.window)
      (Some (sized s)) (descriptors_read s.ram s.pool s.rom s.reference s.mailbox s.tcpip s.descriptors)
      (window_read s.ram s.pool s.rom s.reference s.mailbox s.tcpip s.descriptors s.window)))))))

module _ (wanted : Wanted) (version : Version) (whose : Whose) (stack : Stack) where
  -- the stack with these actors
  abbrev acted : List ActorScript → Place
  acted actors = Filling version whose (record stack { actors = actors })

  call_accepted : (actors : List ActorScript) (actor : ActorScript) (call : ACall) → IsScriptCall version call → accept wanted (acted (actors ++ actor ∷ [])) (Call call) ≡ Some (acted (actors ++ with_more actor call ∷ []))
  call_accepted actors actor call h =
      let kind = kind_of_actors version call h.0 in
      let plain = h.1 in
      let last = last_call actors actor call in
      λ i. option_map (Filling version whose) (cond (kind i && not (plain i)) (option_map (λ (l : List ActorScript). record stack { actors = l }) (last i)) None)

  calls_read : (actors : List ActorScript) (actor : ActorScript) (calls : List ACall) → All (IsScriptCall version) calls → accept_all wanted (acted (actors ++ actor ∷ [])) (call_parts calls) ≡ Some (acted (actors ++ record actor { calls = actor.calls ++ calls } ∷ []))
  calls_read actors actor [] h = ap (λ (l : List ACall). Some (acted (actors ++ record actor { calls = l } ∷ []))) (sym (append-nil actor.calls))
  calls_read actors actor (call ∷ calls) h =
      one wanted (acted (actors ++ actor ∷ [])) (Call call) (acted (actors ++ with_more actor call ∷ [])) (call_parts calls) (Some (acted (actors ++ record actor { calls = actor.calls ++ call ∷ calls } ∷ [])))
      (call_accepted actors actor call (All-head (IsScriptCall version) call calls h))
      (calls_read actors (with_more actor call) calls (All-tail (IsScriptCall version) call calls h)
      ∙ ap (λ (l : List ACall). Some (acted (actors ++ record actor { calls = l } ∷ []))) (append_assoc actor.calls (call ∷ []) calls))

  actor_accepted : (actors : List ActorScript) (actor : ActorScript) → length actors < 16 → accept wanted (acted actors) (Actor actor.name actor.way) ≡ Some (acted (actors ++ new_actor actor.name actor.way ∷ []))
  actor_accepted actors actor h =
      let few = lt-ltb (length actors) 16 h in
      λ i. option_map (Filling version whose) (cond (few i) (Some (record stack { actors = actors ++ new_actor actor.name actor.way ∷ [] })) None)

  actors_read : (done actors : List ActorScript) → All (IsActor version) actors → length done + length actors ≤ 16 → accept_all wanted (acted done) (flat_map actor_parts actors) ≡ Some (acted (done ++ actors))
  actors_read done [] h few = ap (λ (l : List ActorScript). Some (acted l)) (sym (append-nil done))
  actors_read done (actor ∷ actors) h few =
      let is = All-head (IsActor version) actor actors h in
      let counted = length-append done (actor ∷ []) in
      one wanted (acted done) (Actor actor.name actor.way) (acted (done ++ new_actor actor.name actor.way ∷ [])) (call_parts actor.calls ++ flat_map actor_parts actors) (Some (acted (done ++ actor ∷ actors)))
      (actor_accepted done actor (omega arith))
      (chain wanted (acted (done ++ new_actor actor.name actor.way ∷ [])) (call_parts actor.calls) (acted (done ++ actor ∷ [])) (flat_map actor_parts actors) (Some (acted (done ++ actor ∷ actors)))
      (calls_read done (new_actor actor.name actor.way) actor.calls is.calls)
      (actors_read (done ++ actor ∷ []) actors (All-tail (IsActor version) actor actors h) (omega arith)
      ∙ ap (λ (l : List ActorScript). Some (acted l)) (append_assoc done (actor ∷ []) actors)))

-- reading a stack behind its addresses
stack_read : (wanted : Wanted) (version : Version) (whose : Whose) (stack : Stack) → IsStack version stack → accept_all wanted (Addressed version whose stack.net) (Limits stack.profile ∷ (size_parts stack.sizes ++ flat_map actor_parts stack.actors)) ≡ Some (Filling version whose stack)
stack_read wanted version whose stack h =
    one wanted (Addressed version whose stack.net) (Limits stack.profile) (Filling version whose (new_stack stack.net stack.profile)) (size_parts stack.sizes ++ flat_map actor_parts stack.actors) (Some (Filling version whose stack))
    refl
    (chain wanted (Filling version whose (new_stack stack.net stack.profile)) (size_parts stack.sizes) (Filling version whose (record stack { actors = [] })) (flat_map actor_parts stack.actors) (Some (Filling version whose stack))
    (sizes_read wanted version whose stack.net stack.profile stack.sizes)
    (let few = h.few in actors_read wanted version whose stack [] stack.actors h.actors (omega arith)))

module _ (wanted : Wanted) (version : Version) where
  head_read : takes_version wanted version ≡ true → accept wanted Begin (Head version) ≡ Some (Started version)
  head_read h = λ i. cond (h i) (Some (Started version)) None

  -- reading up to side a's stack
  front_a : takes_version wanted version ≡ true → takes_pair wanted ≡ true → accept_all wanted Begin (Head version ∷ Pair ∷ Side SideA ∷ []) ≡ Some (Sided version OfA)
  front_a h k =
      one wanted Begin (Head version) (Started version) (Pair ∷ Side SideA ∷ []) (Some (Sided version OfA)) (head_read h)
      (one wanted (Started version) Pair (Paired version) (Side SideA ∷ []) (Some (Sided version OfA)) (λ i. cond (k i) (Some (Paired version)) None) refl)

  -- reading side a's stack
  stack_a : (a : Stack) → takes_version wanted version ≡ true → takes_pair wanted ≡ true → IsStack version a → accept_all wanted Begin (Head version ∷ Pair ∷ Side SideA ∷ stack_parts a) ≡ Some (Filling version OfA a)
  stack_a a h k is =
      chain wanted Begin (Head version ∷ Pair ∷ Side SideA ∷ []) (Sided version OfA) (stack_parts a) (Some (Filling version OfA a)) (front_a h k)
      (one wanted (Sided version OfA) (Net a.net) (Addressed version OfA a.net) (Limits a.profile ∷ (size_parts a.sizes ++ flat_map actor_parts a.actors)) (Some (Filling version OfA a)) refl
      (stack_read wanted version OfA a is))

  -- reading up to side b's stack
  front_b : (a : Stack) → takes_version wanted version ≡ true → takes_pair wanted ≡ true → IsStack version a → accept_all wanted Begin (Head version ∷ before (OfB a)) ≡ Some (Sided version (OfB a))
  front_b a h k is =
      chain wanted Begin (Head version ∷ Pair ∷ Side SideA ∷ stack_parts a) (Filling version OfA a) (Side SideB ∷ []) (Some (Sided version (OfB a))) (stack_a a h k is) refl

  -- reading up to a stack's addresses
  net_read : (whose : Whose) (net : Addresses) → HasFront wanted version whose → accept_all wanted Begin (Head version ∷ (before whose ++ Net net ∷ [])) ≡ Some (Addressed version whose net)
  net_read Alone net h =
      let single = h.kind in
      one wanted Begin (Head version) (Started version) (Net net ∷ []) (Some (Addressed version Alone net)) (head_read h.head)
      (one wanted (Started version) (Net net) (Addressed version Alone net) [] (Some (Addressed version Alone net)) (λ i. cond (single i) (Some (Addressed version Alone net)) None) refl)
  net_read OfA net h = chain wanted Begin (Head version ∷ Pair ∷ Side SideA ∷ []) (Sided version OfA) (Net net ∷ []) (Some (Addressed version OfA net)) (front_a h.head h.kind) refl
  net_read (OfB a) net h = chain wanted Begin (Head version ∷ before (OfB a)) (Sided version (OfB a)) (Net net ∷ []) (Some (Addressed version (OfB a) net)) (front_b a h.head h.kind h.front) refl

  -- reading up to a stack's end
  whole_read : (whose : Whose) (stack : Stack) → HasFront wanted version whose → IsStack version stack → accept_all wanted Begin (Head version ∷ (before whose ++ stack_parts stack)) ≡ Some (Filling version whose stack)
  whole_read whose stack h is =
      ap (λ (l : List Part). accept_all wanted Begin (Head version ∷ l)) (sym (append_assoc (before whose) (Net stack.net ∷ []) (Limits stack.profile ∷ (size_parts stack.sizes ++ flat_map actor_parts stack.actors))))
      ∙ chain wanted Begin (Head version ∷ (before whose ++ Net stack.net ∷ [])) (Addressed version whose stack.net) (Limits stack.profile ∷ (size_parts stack.sizes ++ flat_map actor_parts stack.actors)) (Some (Filling version whose stack)) (net_read whose stack.net h) (stack_read wanted version whose stack is)

  command_accepted : (stack : Stack) (driver : OpenDriver) (call : ACall) → IsDriverCall call → driver.ticks + ticks_of call ≤ 1000000 → accept wanted (Driving version stack driver) (Call call) ≡ Some (Driving version stack (record { commands = driver.commands ++ call ∷ []; ticks = driver.ticks + ticks_of call }))
  command_accepted stack driver call h few =
      let kind = kind_of_drivers call h in
      let small = le-leb (driver.ticks + ticks_of call) 1000000 few in
      λ i. option_map (Driving version stack) (cond (kind i && small i) (Some (record { commands = driver.commands ++ call ∷ []; ticks = driver.ticks + ticks_of call })) None)

  commands_read : (stack : Stack) (driver : OpenDriver) (commands : List ACall) → All IsDriverCall commands → driver.ticks + sum_by ticks_of commands ≤ 1000000 → accept_all wanted (Driving version stack driver) (call_parts commands) ≡ Some (Driving version stack (record { commands = driver.commands ++ commands; ticks = driver.ticks + sum_by ticks_of commands }))
  commands_read stack driver [] h few =
      let none : driver.ticks ≡ driver.ticks + 0 = omega arith in
      let all = sym (append-nil driver.commands) in
      λ i. Some (Driving version stack (record { commands = all i; ticks = none i }))
  commands_read stack driver (call ∷ commands) h few =
      let all : sum_by ticks_of (call ∷ commands) ≡ (0 + ticks_of call) + sum_by ticks_of commands = sum_by-append ticks_of (call ∷ []) commands in
      let made : OpenDriver = record { commands = driver.commands ++ call ∷ []; ticks = driver.ticks + ticks_of call } in
      let ticks : driver.ticks + ticks_of call + sum_by ticks_of commands ≡ driver.ticks + sum_by ticks_of (call ∷ commands) = omega arith in
      let regrouped = append_assoc driver.commands (call ∷ []) commands in
      one wanted (Driving version stack driver) (Call call) (Driving version stack made) (call_parts commands) (Some (Driving version stack (record { commands = driver.commands ++ call ∷ commands; ticks = driver.ticks + sum_by ticks_of (call ∷ commands) })))
      (command_accepted stack driver call (All-head IsDriverCall call commands h) (omega arith))
      (commands_read stack made commands (All-tail IsDriverCall call commands h) (omega arith)
      ∙ (λ i. Some (Driving version stack (record { commands = regrouped i; ticks = ticks i }))))

  driver_read : (stack : Stack) (driver : OpenDriver) → takes_version wanted version ≡ true → takes_single wanted ≡ true → IsStack version stack → IsOpenDriver driver → accept_all wanted Begin (told (Driving version stack driver)) ≡ Some (Driving version stack driver)
  driver_read stack driver h k is opened =
      let ticks = opened.ticks in let few = opened.few in
      chain wanted Begin (Head version ∷ stack_parts stack) (Filling version Alone stack) (Driver ∷ call_parts driver.commands) (Some (Driving version stack driver))
      (whole_read Alone stack (record { head = h; kind = k; front = tt }) is)
      (one wanted (Filling version Alone stack) Driver (Driving version stack new_driver) (call_parts driver.commands) (Some (Driving version stack driver)) refl
      (commands_read stack new_driver driver.commands opened.commands (omega arith)
      ∙ (let same : 0 + sum_by ticks_of driver.commands ≡ driver.ticks = omega arith in λ i. Some (Driving version stack (record { commands = driver.commands; ticks = same i })))))

  fault_accepted : (a b : Stack) (faults : List WireFault) (f : WireFault) → is_named faults f.side f.frame ≡ false → accept wanted (Wiring version a b (record { faults = faults; commands = [] })) (Fault f) ≡ Some (Wiring version a b (record { faults = faults ++ f ∷ []; commands = [] }))
  fault_accepted a b faults f e =
      λ i. option_map (Wiring version a b) (option_map (λ (l : List WireFault). record { faults = l; commands = [] }) (cond (e i) None (Some (faults ++ f ∷ []))))

  faults_read : (a b : Stack) (done faults : List WireFault) → AreApart (done ++ faults) → accept_all wanted (Wiring version a b (record { faults = done; commands = [] })) (map Fault faults) ≡ Some (Wiring version a b (record { faults = done ++ faults; commands = [] }))
  faults_read a b done [] h = let all = sym (append-nil done) in λ i. Some (Wiring version a b (record { faults = all i; commands = [] }))
  faults_read a b done (f ∷ faults) h =
      let regrouped = append_assoc done (f ∷ []) faults in
      one wanted (Wiring version a b (record { faults = done; commands = [] })) (Fault f) (Wiring version a b (record { faults = done ++ f ∷ []; commands = [] })) (map Fault faults) (Some (Wiring version a b (record { faults = done ++ f ∷ faults; commands = [] })))
      (fault_accepted a b done f (apart_front done f faults h))
      (faults_read a b (done ++ f ∷ []) faults (subst AreApart (sym regrouped) h)
      ∙ (λ i. Some (Wiring version a b (record { faults = regrouped i; commands = [] }))))

  wire_call_accepted : (a b : Stack) (wire : OpenWire) (call : ACall) → IsWireCall call → accept wanted (Wiring version a b wire) (Call call) ≡ Some (Wiring version a b (record wire { commands = wire.commands ++ call ∷ [] }))
  wire_call_accepted a b wire call h =
      let kind = kind_of_wires call h in
      λ i. option_map (Wiring version a b) (cond (kind i) (Some (record wire { commands = wire.commands ++ call ∷ [] })) None)

  wire_calls_read : (a b : Stack) (wire : OpenWire) (commands : List ACall) → All IsWireCall commands → accept_all wanted (Wiring version a b wire) (call_parts commands) ≡ Some (Wiring version a b (record wire { commands = wire.commands ++ commands }))
  wire_calls_read a b wire [] h = let all = sym (append-nil wire.commands) in λ i. Some (Wiring version a b (record wire { commands = all i }))
  wire_calls_read a b wire (call ∷ commands) h =
      let regrouped = append_assoc wire.commands (call ∷ []) commands in
      one wanted (Wiring version a b wire) (Call call) (Wiring version a b (record wire { commands = wire.commands ++ call ∷ [] })) (call_parts commands) (Some (Wiring version a b (record wire { commands = wire.commands ++ call ∷ commands })))
      (wire_call_accepted a b wire call (All-head IsWireCall call commands h))
      (wire_calls_read a b (record wire { commands = wire.commands ++ call ∷ [] }) commands (All-tail IsWireCall call commands h)
      ∙ (λ i. Some (Wiring version a b (record wire { commands = regrouped i }))))

  wire_read : (a b : Stack) (wire : OpenWire) → HasFront wanted version (OfB a) → IsStack version b → IsOpenWire wire → accept_all wanted Begin (told (Wiring version a b wire)) ≡ Some (Wiring version a b wire)
  wire_read a b wire h is opened =
      ap (λ (l : List Part). accept_all wanted Begin (Head version ∷ Pair ∷ Side SideA ∷ l))
      (sym (append_assoc (stack_parts a ++ Side SideB ∷ []) (stack_parts b) (wire_parts wire.faults wire.commands)
      ∙ append_assoc (stack_parts a) (Side SideB ∷ []) (stack_parts b ++ wire_parts wire.faults wire.commands)))
      ∙ chain wanted Begin (Head version ∷ (before (OfB a) ++ stack_parts b)) (Filling version (OfB a) b) (wire_parts wire.faults wire.commands) (Some (Wiring version a b wire)) (whole_read (OfB a) b h is)
      (one wanted (Filling version (OfB a) b) Wire (Wiring version a b new_wire) (map Fault wire.faults ++ call_parts wire.commands) (Some (Wiring version a b wire)) refl
      (chain wanted (Wiring version a b new_wire) (map Fault wire.faults) (Wiring version a b (record { faults = wire.faults; commands = [] })) (call_parts wire.commands) (Some (Wiring version a b wire)) (faults_read a b [] wire.faults opened.apart)
      (wire_calls_read a b (record { faults = wire.faults; commands = [] }) wire.commands opened.commands)))

-- what a place has told leads to it
pub retold : (wanted : Wanted) (place : Place) → Holds wanted place → accept_all wanted Begin (told place) ≡ Some place
retold wanted Begin h = refl
retold wanted (Started v) h = one wanted Begin (Head v) (Started v) [] (Some (Started v)) (head_read wanted v h) refl
retold wanted (Paired v) h =
    let pair = h.1 in
    one wanted Begin (Head v) (Started v) (Pair ∷ []) (Some (Paired v)) (head_read wanted v h.0)
    (one wanted (Started v) Pair (Paired v) [] (Some (Paired v)) (λ i. cond (pair i) (Some (Paired v)) None) refl)
retold wanted (Sided v Alone) h = absurd h.1
retold wanted (Sided v OfA) h = front_a wanted v h.0.head h.0.kind
retold wanted (Sided v (OfB a)) h = front_b wanted v a h.0.head h.0.kind h.0.front
retold wanted (Addressed v whose net) h = net_read wanted v whose net h.0
retold wanted (Filling v whose stack) h = whole_read wanted v whose stack h.0 h.1
retold wanted (Driving v stack driver) h = driver_read wanted v stack driver h.0.head h.0.kind h.1 h.2
retold wanted (Wiring v a b wire) h = wire_read wanted v a b wire h.0 h.1 h.2
