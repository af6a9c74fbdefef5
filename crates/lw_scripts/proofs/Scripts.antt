-- The places at which scripts end, and how each place goes on to a script.
use Rattle.std.proofs.Common.{◌≡◌, ℕ, Bool, true, false, cond, not, List, [], ◌∷◌, ◌++◌, map, All, IsTrue, sum_by, Option, Some, None, refl, sym, ap, ◌∙◌, subst, arith, inl, inr, rules, lit≤, lit<, append_assoc, append-nil}
use Rattle.std.proofs.lemmas.List.Elements.{All-append, All-cons, All-head, All-nil, All-tail, filter-append}
use Rattle.std.proofs.lemmas.List.{map-append}
use Rattle.std.proofs.lemmas.Option.{none-some, same_Some}
use Rattle.std.specs.List.{flat_map}
use Rattle.std.specs.Str.{IsAscii}
use Rattle.lw_base.specs.declared.addresses.Net.{Net as Addresses}
use Rattle.call_types.specs.declared.call.Call.{Call as ACall}
use Rattle.call_types.specs.declared.call.Side.TheVariants.{A as SideA, B as SideB}
use Rattle.script_words.specs.Calls.{IsCount, IsDriverCall, IsWireCall}
use Rattle.script_words.specs.Values.{IsNet}
use Rattle.script_words.specs.declared.version.Version.{Version}
use Rattle.script_words.specs.declared.version.Version.TheVariants.{One as FirstVersion}
use Rattle.lw_scripts.specs.declared.begun.OpenWire.{OpenWire}
use Rattle.lw_scripts.specs.declared.part.Part.{Part}
use Rattle.lw_scripts.specs.declared.part.Part.TheVariants.{Head, Pair, Side, Net, Limits, Size, Actor, Call, Driver, Wire, Fault}
use Rattle.lw_scripts.specs.declared.parts.ActorScript.{ActorScript}
use Rattle.lw_scripts.specs.declared.parts.Body.{Body}
use Rattle.lw_scripts.specs.declared.parts.Body.TheVariants.{One as OneStack, Two as TwoStacks}
use Rattle.lw_scripts.specs.declared.parts.Fault.{Fault as WireFault}
use Rattle.lw_scripts.specs.declared.parts.Profile.TheVariants.{Default}
use Rattle.lw_scripts.specs.declared.parts.Script.{Script}
use Rattle.lw_scripts.specs.declared.parts.SizeName.{SizeName}
use Rattle.lw_scripts.specs.declared.parts.SizeName.TheVariants.{Ram, Pool, Rom, Reference, Mailbox, Tcpip, Descriptors, Window}
use Rattle.lw_scripts.specs.declared.parts.Stack.{Stack}
use Rattle.lw_scripts.specs.declared.place.Place.{Place}
use Rattle.lw_scripts.specs.declared.place.Place.TheVariants.{Begin, Started, Paired, Sided, Addressed, Filling, Driving, Wiring}
use Rattle.lw_scripts.specs.declared.place.Whose.{Whose}
use Rattle.lw_scripts.specs.declared.place.Whose.TheVariants.{Alone, OfA, OfB}
use Rattle.lw_scripts.specs.declared.wanted.Wanted.{Wanted}
use Rattle.lw_scripts.specs.declared.wanted.Wanted.TheVariants.{One, Two, Either, First}
use Rattle.lw_scripts.specs.Filling.{new_stack, new_wire}
use Rattle.lw_scripts.specs.Forms.{takes_pair, takes_single, takes_version}
use Rattle.lw_scripts.specs.Grammar.{BeginsScript, HasAsciiComments, is_comment, said, takes_body}
use Rattle.lw_scripts.specs.Line.{IsPart, part_spelling}
use Rattle.lw_scripts.specs.Parts.{IsActor, IsBody, IsDriver, IsScriptCall, IsSize, IsStack, ticks_of}
use Rattle.lw_scripts.specs.Reading.{accept, script_of, version_of}
use Rattle.lw_scripts.specs.Told.{Holds, IsBefore, IsOpenWire, before, told}
use Rattle.lw_scripts.specs.Whole.{actor_parts, call_parts, script_parts, size_part, size_parts, stack_parts, wire_parts}
use Rattle.lw_scripts.proofs.Sound.{step}

-- a script that is wanted, and where it ends
pub record EndsAt (wanted : Wanted) (s : Script) (place : Place) : Type 0 where
  pub holds : Holds wanted place
  pub told_all : told place ≡ script_parts s
  pub script : script_of place ≡ Some s

-- what is right of a script that is wanted
pub record IsWanted (wanted : Wanted) (s : Script) : Type 0 where
  pub body : IsBody s.version s.body
  pub version : takes_version wanted s.version ≡ true
  pub kind : takes_body wanted s.body ≡ true

-- the place at which a script of one stack ends
abbrev end_single : Version → Stack → Option (List ACall) → Place
end_single version stack None = Filling version Alone stack
end_single version stack (Some commands) = Driving version stack (record { commands = commands; ticks = sum_by ticks_of commands })

-- the place at which a script ends
abbrev end_of : Version → Body → Place
end_of version (OneStack one) = end_single version one.stack one.driver
end_of version (TwoStacks two) = Wiring version two.a two.b (record { faults = two.faults; commands = two.commands })

abbrev single_script : Version → Stack → Option (List ACall) → Script
single_script version stack driver = record { version = version; body = OneStack (record { stack = stack; driver = driver }) }

single_ends : (wanted : Wanted) (version : Version) (stack : Stack) (driver : Option (List ACall)) → takes_version wanted version ≡ true → takes_single wanted ≡ true → IsStack version stack → IsDriver driver → EndsAt wanted (single_script version stack driver) (end_single version stack driver)
single_ends wanted version stack None h k is d =
    record {
      holds = (record { head = h; kind = k; front = tt }, is);
      told_all = ap (λ (l : List Part). Head version ∷ l) (sym (append-nil (stack_parts stack)));
      script = refl;
    }
single_ends wanted version stack (Some commands) h k is d =
    record {
      holds = (record { head = h; kind = k; front = tt }, is, record { commands = d.0; ticks = refl; few = d.1 });
      told_all = refl;
      script = refl;
    }

body_ends : (wanted : Wanted) (version : Version) (body : Body) → takes_version wanted version ≡ true → takes_body wanted body ≡ true → IsBody version body → EndsAt wanted (record { version = version; body = body }) (end_of version body)
body_ends wanted version (OneStack one) h k is = single_ends wanted version one.stack one.driver h k is.stack is.driver
body_ends wanted version (TwoStacks two) h k is =
    record {
      holds = (record { head = h; kind = k; front = is.a }, is.b, record { frames = is.frames; apart = is.apart; commands = is.commands });
      told_all = refl;
      script = refl;
    }

-- each script that is wanted ends at a place
pub ends : (wanted : Wanted) (s : Script) → IsWanted wanted s → (place : Place) × EndsAt wanted s place
ends wanted s h = (end_of s.version s.body, body_ends wanted s.version s.body h.version h.kind h.body)

abbrev Told : Wanted → Place → Script → Type 0
Told wanted place s = IsWanted wanted s × (told place ≡ script_parts s)

told_as : (wanted : Wanted) (place : Place) (made s : Script) → Some made ≡ Some s → Told wanted place made → Told wanted place s
told_as wanted place made s e t = subst (λ (x : Script). Told wanted place x) (same_Some made s e) t

-- where what was read is a script, that script is wanted, and was read
pub is_script : (wanted : Wanted) (place : Place) (s : Script) → script_of place ≡ Some s → Holds wanted place → Told wanted place s
is_script wanted (Filling version Alone stack) s e h =
    told_as wanted (Filling version Alone stack) (single_script version stack None) s e (
      record { body = record { stack = h.1; driver = tt }; version = h.0.head; kind = h.0.kind },
      ap (λ (l : List Part). Head version ∷ l) (sym (append-nil (stack_parts stack))),
    )
is_script wanted (Filling version OfA stack) s e h = absurd (none-some s e)
is_script wanted (Filling version (OfB a) stack) s e h = absurd (none-some s e)
is_script wanted (Driving version stack driver) s e h =
    let ticks = h.2.ticks in let few = h.2.few in
    told_as wanted (Driving version stack driver) (single_script version stack (Some driver.commands)) s e
    (record { body = record { stack = h.1; driver = (h.2.commands, omega arith) }; version = h.0.head; kind = h.0.kind }, refl)
is_script wanted (Wiring version a b wire) s e h =
    told_as wanted (Wiring version a b wire) (record { version = version; body = TwoStacks (record { a = a; b = b; faults = wire.faults; commands = wire.commands }) }) s e
    (record { body = record { a = h.0.front; b = h.1; frames = h.2.frames; apart = h.2.apart; commands = h.2.commands }; version = h.0.head; kind = h.0.kind }, refl)
is_script wanted Begin s e h = absurd (none-some s e)
is_script wanted (Started version) s e h = absurd (none-some s e)
is_script wanted (Paired version) s e h = absurd (none-some s e)
is_script wanted (Sided version whose) s e h = absurd (none-some s e)
is_script wanted (Addressed version whose net) s e h = absurd (none-some s e)

-- some addresses
abbrev some_net : Addresses
some_net = record { ip = record { 0 = 0 }; mask = record { 0 = 0 }; gateway = record { 0 = 0 }; mac = record { 0 = 0 ∷ 0 ∷ 0 ∷ 0 ∷ 0 ∷ 0 ∷ [] } }

some_is_net : IsNet some_net
some_is_net =
    record {
      ip = lit< tt;
      mask = (32, lit≤ tt, refl);
      gateway = lit< tt;
      mac = record { six = refl; octets = λ k d h. search rules };
    }

-- more parts make a script of what was read
record Finishes (wanted : Wanted) (place : Place) : Type 0 where
  pub rest : List Part
  pub final : Place
  pub script : Script
  pub holds : Holds wanted final
  pub told_more : told final ≡ told place ++ rest
  pub is : script_of final ≡ Some script
  pub plain : said (map part_spelling rest) ≡ map part_spelling rest
  pub comments : HasAsciiComments (map part_spelling rest)

no_comments : HasAsciiComments []
no_comments k d h = absurd (omega arith)

finish_here : (wanted : Wanted) (place : Place) (s : Script) → script_of place ≡ Some s → Holds wanted place → Finishes wanted place
finish_here wanted place s e h =
    record { rest = []; final = place; script = s; holds = h; told_more = sym (append-nil (told place)); is = e; plain = refl; comments = no_comments }

said_first : (line : List ℕ) (lines : List (List ℕ)) → is_comment line ≡ false → said lines ≡ lines → said (line ∷ lines) ≡ line ∷ lines
said_first line lines is e = (λ i. cond (not (is i)) (line ∷ said lines) (said lines)) ∙ ap (λ (l : List (List ℕ)). line ∷ l) e

finish_one : (wanted : Wanted) (place : Place) (p : Part) (next : Place) → accept wanted place p ≡ Some next → Holds wanted place → IsPart (version_of place) p → is_comment (part_spelling p) ≡ false → (Holds wanted next → Finishes wanted next) → Finishes wanted place
finish_one wanted place p next e h k is later =
    let s = step wanted place p next e h k in
    let f = later s.0 in
    record {
      rest = p ∷ f.rest;
      final = f.final;
      script = f.script;
      holds = f.holds;
      told_more = f.told_more ∙ ap (λ (l : List Part). l ++ f.rest) s.1 ∙ append_assoc (told place) (p ∷ []) f.rest;
      is = f.is;
      plain = said_first (part_spelling p) (map part_spelling f.rest) is f.plain;
      comments = All-cons (λ l. IsTrue (is_comment l) → IsAscii l) (part_spelling p) (map part_spelling f.rest) (λ t. absurd (cc)) f.comments;
    }

finish_b : (wanted : Wanted) (version : Version) (a b : Stack) → Holds wanted (Filling version (OfB a) b) → Finishes wanted (Filling version (OfB a) b)
finish_b wanted version a b h =
    finish_one wanted (Filling version (OfB a) b) Wire (Wiring version a b new_wire) refl h tt refl
    (finish_here wanted (Wiring version a b new_wire) (record { version = version; body = TwoStacks (record { a = a; b = b; faults = []; commands = [] }) }) refl)

finish_net_b : (wanted : Wanted) (version : Version) (a : Stack) (net : Addresses) → Holds wanted (Addressed version (OfB a) net) → Finishes wanted (Addressed version (OfB a) net)
finish_net_b wanted version a net h =
    finish_one wanted (Addressed version (OfB a) net) (Limits Default) (Filling version (OfB a) (new_stack net Default)) refl h tt refl
    (finish_b wanted version a (new_stack net Default))

finish_side_b : (wanted : Wanted) (version : Version) (a : Stack) → Holds wanted (Sided version (OfB a)) → Finishes wanted (Sided version (OfB a))
finish_side_b wanted version a h =
    finish_one wanted (Sided version (OfB a)) (Net some_net) (Addressed version (OfB a) some_net) refl h some_is_net refl
    (finish_net_b wanted version a some_net)

finish_a : (wanted : Wanted) (version : Version) (a : Stack) → Holds wanted (Filling version OfA a) → Finishes wanted (Filling version OfA a)
finish_a wanted version a h =
    finish_one wanted (Filling version OfA a) (Side SideB) (Sided version (OfB a)) refl h tt refl
    (finish_side_b wanted version a)

finish_net_a : (wanted : Wanted) (version : Version) (net : Addresses) → Holds wanted (Addressed version OfA net) → Finishes wanted (Addressed version OfA net)
finish_net_a wanted version net h =
    finish_one wanted (Addressed version OfA net) (Limits Default) (Filling version OfA (new_stack net Default)) refl h tt refl
    (finish_a wanted version (new_stack net Default))

finish_side_a : (wanted : Wanted) (version : Version) → Holds wanted (Sided version OfA) → Finishes wanted (Sided version OfA)
finish_side_a wanted version h =
    finish_one wanted (Sided version OfA) (Net some_net) (Addressed version OfA some_net) refl h some_is_net refl
    (finish_net_a wanted version some_net)

finish_paired : (wanted : Wanted) (version : Version) → Holds wanted (Paired version) → Finishes wanted (Paired version)
finish_paired wanted version h =
    finish_one wanted (Paired version) (Side SideA) (Sided version OfA) refl h tt refl (finish_side_a wanted version)

finish_alone : (wanted : Wanted) (version : Version) (stack : Stack) → Holds wanted (Filling version Alone stack) → Finishes wanted (Filling version Alone stack)
finish_alone wanted version stack h = finish_here wanted (Filling version Alone stack) (single_script version stack None) refl h

finish_net : (wanted : Wanted) (version : Version) (net : Addresses) → Holds wanted (Addressed version Alone net) → Finishes wanted (Addressed version Alone net)
finish_net wanted version net h =
    finish_one wanted (Addressed version Alone net) (Limits Default) (Filling version Alone (new_stack net Default)) refl h tt refl
    (finish_alone wanted version (new_stack net Default))

start_single : (wanted : Wanted) (version : Version) → takes_single wanted ≡ true → Holds wanted (Started version) → Finishes wanted (Started version)
start_single wanted version e h =
    finish_one wanted (Started version) (Net some_net) (Addressed version Alone some_net) (ap (λ (b : Bool). cond b (Some (Addressed version Alone some_net)) None) e) h some_is_net refl
    (finish_net wanted version some_net)

start_pair : (wanted : Wanted) (version : Version) → takes_pair wanted ≡ true → Holds wanted (Started version) → Finishes wanted (Started version)
start_pair wanted version e h =
    finish_one wanted (Started version) Pair (Paired version) (ap (λ (b : Bool). cond b (Some (Paired version)) None) e) h tt refl
    (finish_paired wanted version)

finish_started : (wanted : Wanted) (version : Version) → Holds wanted (Started version) → Finishes wanted (Started version)
finish_started One version h = start_single One version refl h
finish_started Two version h = start_pair Two version refl h
finish_started Either version h = start_single Either version refl h
finish_started First version h = start_single First version refl h

-- each place goes on to a script
finishes : (wanted : Wanted) (place : Place) → Holds wanted place → Finishes wanted place
finishes wanted Begin h = finish_one wanted Begin (Head FirstVersion) (Started FirstVersion) refl tt tt refl (finish_started wanted FirstVersion)
finishes wanted (Started version) h = finish_started wanted version h
finishes wanted (Paired version) h = finish_paired wanted version h
finishes wanted (Sided version Alone) h = absurd h.1
finishes wanted (Sided version OfA) h = finish_side_a wanted version h
finishes wanted (Sided version (OfB a)) h = finish_side_b wanted version a h
finishes wanted (Addressed version Alone net) h = finish_net wanted version net h
finishes wanted (Addressed version OfA net) h = finish_net_a wanted version net h
finishes wanted (Addressed version (OfB a) net) h = finish_net_b wanted version a net h
finishes wanted (Filling version Alone stack) h = finish_alone wanted version stack h
finishes wanted (Filling version OfA stack) h = finish_a wanted version stack h
finishes wanted (Filling version (OfB a) stack) h = finish_b wanted version a stack h
finishes wanted (Driving version stack driver) h = finish_here wanted (Driving version stack driver) (single_script version stack (Some driver.commands)) refl h
finishes wanted (Wiring version a b wire) h =
    finish_here wanted (Wiring version a b wire) (record { version = version; body = TwoStacks (record { a = a; b = b; faults = wire.faults; commands = wire.commands }) }) refl h

-- lines that lead to a place begin a script
pub begins : (wanted : Wanted) (place : Place) (lines : List (List ℕ)) → HasAsciiComments lines → said lines ≡ map part_spelling (told place) → Holds wanted place → BeginsScript wanted lines
begins wanted place lines comments spelled h =
    let f = finishes wanted place h in
    let is = is_script wanted f.final f.script f.is f.holds in (
      map part_spelling f.rest,
      f.script,
      record {
        comments = All-append (λ l. IsTrue (is_comment l) → IsAscii l) lines (map part_spelling f.rest) comments f.comments;
        spelled =
            filter-append (λ l. not (is_comment l)) lines (map part_spelling f.rest)
            ∙ (λ i. spelled i ++ f.plain i)
            ∙ sym (map-append part_spelling (told place) f.rest)
            ∙ ap (map part_spelling) (sym f.told_more ∙ is.1);
        body = is.0.body;
        version = is.0.version;
        kind = is.0.kind;
      },
    )

-- the parts of a stack are parts of a script of its version
module _ (version : Version) where
  calls_are : (calls : List ACall) → All (IsScriptCall version) calls → All (IsPart version) (call_parts calls)
  calls_are [] h = All-nil (IsPart version)
  calls_are (call ∷ calls) h =
      All-cons (IsPart version) (Call call) (call_parts calls) (inl (All-head (IsScriptCall version) call calls h).0) (calls_are calls (All-tail (IsScriptCall version) call calls h))

  commands_are : (calls : List ACall) → All IsDriverCall calls → All (IsPart version) (call_parts calls)
  commands_are [] h = All-nil (IsPart version)
  commands_are (call ∷ calls) h =
      All-cons (IsPart version) (Call call) (call_parts calls) (inr (inl (All-head IsDriverCall call calls h))) (commands_are calls (All-tail IsDriverCall call calls h))

  wires_are : (calls : List ACall) → All IsWireCall calls → All (IsPart version) (call_parts calls)
  wires_are [] h = All-nil (IsPart version)
  wires_are (call ∷ calls) h =
      All-cons (IsPart version) (Call call) (call_parts calls) (inr (inr (All-head IsWireCall call calls h))) (wires_are calls (All-tail IsWireCall call calls h))

  faults_are : (faults : List WireFault) → All (λ f. IsCount f.frame) faults → All (IsPart version) (map Fault faults)
  faults_are [] h = All-nil (IsPart version)
  faults_are (f ∷ faults) h =
      All-cons (IsPart version) (Fault f) (map Fault faults) (All-head (λ (g : WireFault). IsCount g.frame) f faults h) (faults_are faults (All-tail (λ (g : WireFault). IsCount g.frame) f faults h))

  actors_are : (actors : List ActorScript) → All (IsActor version) actors → All (IsPart version) (flat_map actor_parts actors)
  actors_are [] h = All-nil (IsPart version)
  actors_are (actor ∷ actors) h =
      let is = All-head (IsActor version) actor actors h in
      All-append (IsPart version) (actor_parts actor) (flat_map actor_parts actors)
      (All-cons (IsPart version) (Actor actor.name actor.way) (call_parts actor.calls) is.name (calls_are actor.calls is.calls))
      (actors_are actors (All-tail (IsActor version) actor actors h))

  size_is : (name : SizeName) (o : Option ℕ) → IsSize version name o → All (IsPart version) (size_part name o)
  size_is name None h = All-nil (IsPart version)
  size_is name (Some n) h = All-cons (IsPart version) (Size name n) [] h (All-nil (IsPart version))

  both_are : (xs ys : List Part) → All (IsPart version) xs → All (IsPart version) ys → All (IsPart version) (xs ++ ys)
  both_are xs ys h k = All-append (IsPart version) xs ys h k

  stack_is : (stack : Stack) → IsStack version stack → All (IsPart version) (stack_parts stack)
  stack_is stack h =
      let s = stack.sizes in
      let k = h.sizes in
      All-cons (IsPart version) (Net stack.net) (Limits stack.profile ∷ (size_parts stack.sizes ++ flat_map actor_parts stack.actors)) h.net
      (All-cons (IsPart version) (Limits stack.profile) (size_parts stack.sizes ++ flat_map actor_parts stack.actors) tt
      (both_are (size_parts stack.sizes) (flat_map actor_parts stack.actors)
      (both_are (size_part Ram s.ram) (size_part Pool s.pool ++ (size_part Rom s.rom ++ (size_part Reference s.reference ++ (size_part Mailbox s.mailbox ++ (size_part Tcpip s.tcpip ++ (size_part Descriptors s.descriptors ++ size_part Window s.window)))))) (size_is Ram s.ram k.ram)
      (both_are (size_part Pool s.pool) (size_part Rom s.rom ++ (size_part Reference s.reference ++ (size_part Mailbox s.mailbox ++ (size_part Tcpip s.tcpip ++ (size_part Descriptors s.descriptors ++ size_part Window s.window))))) (size_is Pool s.pool k.pool)
      (both_are (size_part Rom s.rom) (size_part Reference s.reference ++ (size_part Mailbox s.mailbox ++ (size_part Tcpip s.tcpip ++ (size_part Descriptors s.descriptors ++ size_part Window s.window)))) (size_is Rom s.rom k.rom)
      (both_are (size_part Reference s.reference) (size_part Mailbox s.mailbox ++ (size_part Tcpip s.tcpip ++ (size_part Descriptors s.descriptors ++ size_part Window s.window))) (size_is Reference s.reference k.reference)
      (both_are (size_part Mailbox s.mailbox) (size_part Tcpip s.tcpip ++ (size_part Descriptors s.descriptors ++ size_part Window s.window)) (size_is Mailbox s.mailbox k.mailbox)
      (both_are (size_part Tcpip s.tcpip) (size_part Descriptors s.descriptors ++ size_part Window s.window) (size_is Tcpip s.tcpip k.tcpip)
      (both_are (size_part Descriptors s.descriptors) (size_part Window s.window) (size_is Descriptors s.descriptors k.descriptors) (size_is Window s.window k.window))))))))
      (actors_are stack.actors h.actors)))

  one_is : (p : Part) → IsPart version p → All (IsPart version) (p ∷ [])
  one_is p h = All-cons (IsPart version) p [] h (All-nil (IsPart version))

  first_is : (p : Part) (parts : List Part) → IsPart version p → All (IsPart version) parts → All (IsPart version) (p ∷ parts)
  first_is p parts h k = All-cons (IsPart version) p parts h k

  before_is : (whose : Whose) → IsBefore version whose → All (IsPart version) (before whose)
  before_is Alone h = All-nil (IsPart version)
  before_is OfA h = first_is Pair (Side SideA ∷ []) tt (one_is (Side SideA) tt)
  before_is (OfB a) h =
      first_is Pair (Side SideA ∷ (stack_parts a ++ Side SideB ∷ [])) tt
      (first_is (Side SideA) (stack_parts a ++ Side SideB ∷ []) tt (both_are (stack_parts a) (Side SideB ∷ []) (stack_is a h) (one_is (Side SideB) tt)))

  wire_is : (wire : OpenWire) → IsOpenWire wire → All (IsPart version) (wire_parts wire.faults wire.commands)
  wire_is wire h =
      first_is Wire (map Fault wire.faults ++ call_parts wire.commands) tt
      (both_are (map Fault wire.faults) (call_parts wire.commands) (faults_are wire.faults h.frames) (wires_are wire.commands h.commands))

-- what a place has told are parts of a script of its version
pub parts_are : (wanted : Wanted) (place : Place) → Holds wanted place → All (IsPart (version_of place)) (told place)
parts_are wanted Begin h = All-nil (IsPart FirstVersion)
parts_are wanted (Started v) h = one_is v (Head v) tt
parts_are wanted (Paired v) h = first_is v (Head v) (Pair ∷ []) tt (one_is v Pair tt)
parts_are wanted (Sided v whose) h = first_is v (Head v) (before whose) tt (before_is v whose h.0.front)
parts_are wanted (Addressed v whose net) h =
    first_is v (Head v) (before whose ++ Net net ∷ []) tt (both_are v (before whose) (Net net ∷ []) (before_is v whose h.0.front) (one_is v (Net net) h.1))
parts_are wanted (Filling v whose stack) h =
    first_is v (Head v) (before whose ++ stack_parts stack) tt (both_are v (before whose) (stack_parts stack) (before_is v whose h.0.front) (stack_is v stack h.1))
parts_are wanted (Driving v stack driver) h =
    first_is v (Head v) (stack_parts stack ++ Driver ∷ call_parts driver.commands) tt
    (both_are v (stack_parts stack) (Driver ∷ call_parts driver.commands) (stack_is v stack h.1)
    (first_is v Driver (call_parts driver.commands) tt (commands_are v driver.commands h.2.commands)))
parts_are wanted (Wiring v a b wire) h =
    first_is v (Head v) (Pair ∷ Side SideA ∷ (stack_parts a ++ Side SideB ∷ (stack_parts b ++ wire_parts wire.faults wire.commands))) tt
    (first_is v Pair (Side SideA ∷ (stack_parts a ++ Side SideB ∷ (stack_parts b ++ wire_parts wire.faults wire.commands))) tt
    (first_is v (Side SideA) (stack_parts a ++ Side SideB ∷ (stack_parts b ++ wire_parts wire.faults wire.commands)) tt
    (both_are v (stack_parts a) (Side SideB ∷ (stack_parts b ++ wire_parts wire.faults wire.commands)) (stack_is v a h.0.front)
    (first_is v (Side SideB) (stack_parts b ++ wire_parts wire.faults wire.commands) tt
    (both_are v (stack_parts b) (wire_parts wire.faults wire.commands) (stack_is v b h.1) (wire_is v wire h.2))))))
