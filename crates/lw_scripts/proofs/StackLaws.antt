-- What one more line adds to the parts of a stack.
use Rattle.std.proofs.Common.{◌≡◌, ℕ, nat_lt, ◌==◌, Bool, true, false, not, cond, ◌&&◌, List, [], ◌∷◌, ◌++◌, length, All, is_none, Option, Some, None, refl, sym, ap, ◌∙◌, subst, arith, append_assoc, append-nil, length-append, ltb-true, eqb-true, option_map}
use Rattle.std.specs.List.{flat_map}
use Rattle.std.proofs.lemmas.Grind.{flat_map-append}
use Rattle.std.proofs.lemmas.List.{map-append}
use Rattle.std.proofs.lemmas.List.Elements.{All-cons, All-head, All-nil, All-push, All-tail}
use Rattle.std.proofs.lemmas.Option.{none-some, same_Some}
use Rattle.call_types.specs.declared.call.Call.{Call as ACall}
use Rattle.script_words.specs.declared.version.Version.{Version}
use Rattle.lw_scripts.specs.declared.part.Part.{Part}
use Rattle.lw_scripts.specs.declared.part.Part.TheVariants.{Size, Actor, Call, Net, Limits}
use Rattle.lw_scripts.specs.declared.parts.ActorScript.{ActorScript}
use Rattle.lw_scripts.specs.declared.parts.SizeName.{SizeName}
use Rattle.lw_scripts.specs.declared.parts.SizeName.TheVariants.{Ram, Pool, Rom, Reference, Mailbox, Tcpip, Descriptors, Window}
use Rattle.lw_scripts.specs.declared.parts.Sizes.{Sizes}
use Rattle.lw_scripts.specs.declared.parts.Stack.{Stack}
use Rattle.lw_scripts.specs.declared.parts.Way.{Way}
use Rattle.lw_scripts.specs.Filling.{is_unnamed, more_sizes, named, new_actor, to_last, with_actor, with_call, with_more, with_size}
use Rattle.lw_scripts.specs.Kinds.{is_actors}
use Rattle.lw_scripts.specs.Line.{IsPart}
use Rattle.lw_scripts.specs.Parts.{AreSizes, IsActor, IsName, IsScriptCall, IsStack, speaks_tcp}
use Rattle.lw_scripts.specs.Whole.{actor_parts, size_part, size_parts, stack_parts}

pub and_true : (a b : Bool) → (a && b) ≡ true → (a ≡ true) × (b ≡ true)
and_true true b e = (refl, e)
and_true false b e = cc

pub not_true : (b : Bool) → not b ≡ true → b ≡ false
not_true true e = cc
not_true false e = refl

pub cond_some : {A : Type 0} (b : Bool) (o : Option A) (y : A) → cond b o None ≡ Some y → (b ≡ true) × (o ≡ Some y)
cond_some true o y e = (refl, e)
cond_some false o y e = absurd (none-some y e)

pub map_some : {A B : Type 0} (f : A → B) (o : Option A) (y : B) → option_map f o ≡ Some y → (x : A) × (o ≡ Some x) × (f x ≡ y)
map_some f None y e = absurd (none-some y e)
map_some f (Some x) y e = (x, refl, same_Some (f x) y e)

none_of : {A : Type 0} (o : Option A) → is_none o ≡ true → o ≡ None
none_of None e = refl
none_of (Some x) e = cc

-- more at the end of a part of a list is more at the end of all
pub more : (xs zs : List Part) (p : Part) (ys : List Part) → ys ≡ zs ++ p ∷ [] → xs ++ ys ≡ (xs ++ zs) ++ p ∷ []
more xs zs p ys e = ap (λ (l : List Part). xs ++ l) e ∙ sym (append_assoc xs zs (p ∷ []))

-- the lines of the last sizes
abbrev tail_window : Sizes → List Part
tail_window s = size_part Window s.window

abbrev tail_descriptors : Sizes → List Part
tail_descriptors s = size_part Descriptors s.descriptors ++ tail_window s

abbrev tail_tcpip : Sizes → List Part
tail_tcpip s = size_part Tcpip s.tcpip ++ tail_descriptors s

abbrev tail_mailbox : Sizes → List Part
tail_mailbox s = size_part Mailbox s.mailbox ++ tail_tcpip s

abbrev tail_reference : Sizes → List Part
tail_reference s = size_part Reference s.reference ++ tail_mailbox s

abbrev tail_rom : Sizes → List Part
tail_rom s = size_part Rom s.rom ++ tail_reference s

abbrev tail_pool : Sizes → List Part
tail_pool s = size_part Pool s.pool ++ tail_rom s

abbrev tail_ram : Sizes → List Part
tail_ram s = size_part Ram s.ram ++ tail_pool s

none_window : (s : Sizes) → is_unnamed Window s ≡ true → tail_window s ≡ []
none_window s e = ap (size_part Window) (none_of s.window e)

none_descriptors : (s : Sizes) → is_unnamed Descriptors s ≡ true → tail_descriptors s ≡ []
none_descriptors s e =
    let both = and_true (is_unnamed Window s) (is_none s.descriptors) e in
    let one = none_of s.descriptors both.1 in
    let later = none_window s both.0 in
    λ i. size_part Descriptors (one i) ++ later i

none_tcpip : (s : Sizes) → is_unnamed Tcpip s ≡ true → tail_tcpip s ≡ []
none_tcpip s e =
    let both = and_true (is_unnamed Descriptors s) (is_none s.tcpip) e in
    let one = none_of s.tcpip both.1 in
    let later = none_descriptors s both.0 in
    λ i. size_part Tcpip (one i) ++ later i

none_mailbox : (s : Sizes) → is_unnamed Mailbox s ≡ true → tail_mailbox s ≡ []
none_mailbox s e =
    let both = and_true (is_unnamed Tcpip s) (is_none s.mailbox) e in
    let one = none_of s.mailbox both.1 in
    let later = none_tcpip s both.0 in
    λ i. size_part Mailbox (one i) ++ later i

none_reference : (s : Sizes) → is_unnamed Reference s ≡ true → tail_reference s ≡ []
none_reference s e =
    let both = and_true (is_unnamed Mailbox s) (is_none s.reference) e in
    let one = none_of s.reference both.1 in
    let later = none_mailbox s both.0 in
    λ i. size_part Reference (one i) ++ later i

none_rom : (s : Sizes) → is_unnamed Rom s ≡ true → tail_rom s ≡ []
none_rom s e =
    let both = and_true (is_unnamed Reference s) (is_none s.rom) e in
    let one = none_of s.rom both.1 in
    let later = none_reference s both.0 in
    λ i. size_part Rom (one i) ++ later i

none_pool : (s : Sizes) → is_unnamed Pool s ≡ true → tail_pool s ≡ []
none_pool s e =
    let both = and_true (is_unnamed Rom s) (is_none s.pool) e in
    let one = none_of s.pool both.1 in
    let later = none_rom s both.0 in
    λ i. size_part Pool (one i) ++ later i

none_ram : (s : Sizes) → is_unnamed Ram s ≡ true → tail_ram s ≡ []
none_ram s e =
    let both = and_true (is_unnamed Pool s) (is_none s.ram) e in
    let one = none_of s.ram both.1 in
    let later = none_pool s both.0 in
    λ i. size_part Ram (one i) ++ later i

-- one more size behind the others
at_end : (p : Part) (later all : List Part) → later ≡ [] → all ≡ [] → p ∷ later ≡ all ++ p ∷ []
at_end p later all e f = (λ i. p ∷ e i) ∙ sym (λ i. f i ++ p ∷ [])

size_more : (name : SizeName) (n : ℕ) (s : Sizes) → is_unnamed name s ≡ true → size_parts (named name n s) ≡ size_parts s ++ Size name n ∷ []
size_more Ram n s e =
    at_end (Size Ram n) (tail_pool s) (tail_ram s) (none_pool s (and_true (is_unnamed Pool s) (is_none s.ram) e).0) (none_ram s e)
size_more Pool n s e =
    more (size_part Ram s.ram) (tail_pool s) (Size Pool n) (tail_pool (named Pool n s)) (at_end (Size Pool n) (tail_rom s) (tail_pool s) (none_rom s (and_true (is_unnamed Rom s) (is_none s.pool) e).0) (none_pool s e))
size_more Rom n s e =
    more (size_part Ram s.ram) (tail_pool s) (Size Rom n) (tail_pool (named Rom n s)) (more (size_part Pool s.pool) (tail_rom s) (Size Rom n) (tail_rom (named Rom n s)) (at_end (Size Rom n) (tail_reference s) (tail_rom s) (none_reference s (and_true (is_unnamed Reference s) (is_none s.rom) e).0) (none_rom s e)))
size_more Reference n s e =
    more (size_part Ram s.ram) (tail_pool s) (Size Reference n) (tail_pool (named Reference n s)) (more (size_part Pool s.pool) (tail_rom s) (Size Reference n) (tail_rom (named Reference n s)) (more (size_part Rom s.rom) (tail_reference s) (Size Reference n) (tail_reference (named Reference n s)) (at_end (Size Reference n) (tail_mailbox s) (tail_reference s) (none_mailbox s (and_true (is_unnamed Mailbox s) (is_none s.reference) e).0) (none_reference s e))))
size_more Mailbox n s e =
    more (size_part Ram s.ram) (tail_pool s) (Size Mailbox n) (tail_pool (named Mailbox n s)) (more (size_part Pool s.pool) (tail_rom s) (Size Mailbox n) (tail_rom (named Mailbox n s)) (more (size_part Rom s.rom) (tail_reference s) (Size Mailbox n) (tail_reference (named Mailbox n s)) (more (size_part Reference s.reference) (tail_mailbox s) (Size Mailbox n) (tail_mailbox (named Mailbox n s)) (at_end (Size Mailbox n) (tail_tcpip s) (tail_mailbox s) (none_tcpip s (and_true (is_unnamed Tcpip s) (is_none s.mailbox) e).0) (none_mailbox s e)))))
size_more Tcpip n s e =
    more (size_part Ram s.ram) (tail_pool s) (Size Tcpip n) (tail_pool (named Tcpip n s)) (more (size_part Pool s.pool) (tail_rom s) (Size Tcpip n) (tail_rom (named Tcpip n s)) (more (size_part Rom s.rom) (tail_reference s) (Size Tcpip n) (tail_reference (named Tcpip n s)) (more (size_part Reference s.reference) (tail_mailbox s) (Size Tcpip n) (tail_mailbox (named Tcpip n s)) (more (size_part Mailbox s.mailbox) (tail_tcpip s) (Size Tcpip n) (tail_tcpip (named Tcpip n s)) (at_end (Size Tcpip n) (tail_descriptors s) (tail_tcpip s) (none_descriptors s (and_true (is_unnamed Descriptors s) (is_none s.tcpip) e).0) (none_tcpip s e))))))
size_more Descriptors n s e =
    more (size_part Ram s.ram) (tail_pool s) (Size Descriptors n) (tail_pool (named Descriptors n s)) (more (size_part Pool s.pool) (tail_rom s) (Size Descriptors n) (tail_rom (named Descriptors n s)) (more (size_part Rom s.rom) (tail_reference s) (Size Descriptors n) (tail_reference (named Descriptors n s)) (more (size_part Reference s.reference) (tail_mailbox s) (Size Descriptors n) (tail_mailbox (named Descriptors n s)) (more (size_part Mailbox s.mailbox) (tail_tcpip s) (Size Descriptors n) (tail_tcpip (named Descriptors n s)) (more (size_part Tcpip s.tcpip) (tail_descriptors s) (Size Descriptors n) (tail_descriptors (named Descriptors n s)) (at_end (Size Descriptors n) (tail_window s) (tail_descriptors s) (none_window s (and_true (is_unnamed Window s) (is_none s.descriptors) e).0) (none_descriptors s e)))))))
size_more Window n s e =
    more (size_part Ram s.ram) (tail_pool s) (Size Window n) (tail_pool (named Window n s)) (more (size_part Pool s.pool) (tail_rom s) (Size Window n) (tail_rom (named Window n s)) (more (size_part Rom s.rom) (tail_reference s) (Size Window n) (tail_reference (named Window n s)) (more (size_part Reference s.reference) (tail_mailbox s) (Size Window n) (tail_mailbox (named Window n s)) (more (size_part Mailbox s.mailbox) (tail_tcpip s) (Size Window n) (tail_tcpip (named Window n s)) (more (size_part Tcpip s.tcpip) (tail_descriptors s) (Size Window n) (tail_descriptors (named Window n s)) (more (size_part Descriptors s.descriptors) (tail_window s) (Size Window n) (tail_window (named Window n s)) (at_end (Size Window n) [] (tail_window s) refl (none_window s e))))))))

sizes_more : (version : Version) (name : SizeName) (n : ℕ) (s : Sizes) → AreSizes version s → IsPart version (Size name n) → AreSizes version (named name n s)
sizes_more version Ram n s h k = record { ram = k; pool = h.pool; rom = h.rom; reference = h.reference; mailbox = h.mailbox; tcpip = h.tcpip; descriptors = h.descriptors; window = h.window }
sizes_more version Pool n s h k = record { ram = h.ram; pool = k; rom = h.rom; reference = h.reference; mailbox = h.mailbox; tcpip = h.tcpip; descriptors = h.descriptors; window = h.window }
sizes_more version Rom n s h k = record { ram = h.ram; pool = h.pool; rom = k; reference = h.reference; mailbox = h.mailbox; tcpip = h.tcpip; descriptors = h.descriptors; window = h.window }
sizes_more version Reference n s h k = record { ram = h.ram; pool = h.pool; rom = h.rom; reference = k; mailbox = h.mailbox; tcpip = h.tcpip; descriptors = h.descriptors; window = h.window }
sizes_more version Mailbox n s h k = record { ram = h.ram; pool = h.pool; rom = h.rom; reference = h.reference; mailbox = k; tcpip = h.tcpip; descriptors = h.descriptors; window = h.window }
sizes_more version Tcpip n s h k = record { ram = h.ram; pool = h.pool; rom = h.rom; reference = h.reference; mailbox = h.mailbox; tcpip = k; descriptors = h.descriptors; window = h.window }
sizes_more version Descriptors n s h k = record { ram = h.ram; pool = h.pool; rom = h.rom; reference = h.reference; mailbox = h.mailbox; tcpip = h.tcpip; descriptors = k; window = h.window }
sizes_more version Window n s h k = record { ram = h.ram; pool = h.pool; rom = h.rom; reference = h.reference; mailbox = h.mailbox; tcpip = h.tcpip; descriptors = h.descriptors; window = k }

-- a stack with one more line
abbrev pub StackMore : Version → Stack → Part → Stack → Type 0
StackMore version stack p next = IsStack version next × (stack_parts next ≡ stack_parts stack ++ p ∷ [])

no_actors : (actors : List ActorScript) → (length actors == 0) ≡ true → actors ≡ []
no_actors [] e = refl
no_actors (a ∷ actors) e = let none = eqb-true (length (a ∷ actors)) 0 e in absurd (omega arith)

before_actors : (xs ys : List Part) (actors : List ActorScript) (p : Part) → actors ≡ [] → ys ≡ xs ++ p ∷ [] → ys ++ flat_map actor_parts actors ≡ (xs ++ flat_map actor_parts actors) ++ p ∷ []
before_actors xs ys actors p none e =
    let flat : flat_map actor_parts actors ≡ [] = ap (flat_map actor_parts) none in
    (λ i. e i ++ flat i) ∙ append-nil (xs ++ p ∷ []) ∙ ap (λ (l : List Part). l ++ p ∷ []) (sym (append-nil xs)) ∙ sym (λ i. (xs ++ flat i) ++ p ∷ [])

in_front : (stack : Stack) (p : Part) (ys zs : List Part) → ys ≡ zs ++ p ∷ [] → Net stack.net ∷ Limits stack.profile ∷ ys ≡ (Net stack.net ∷ Limits stack.profile ∷ zs) ++ p ∷ []
in_front stack p ys zs e = ap (λ (l : List Part). Net stack.net ∷ Limits stack.profile ∷ l) e

pub size_read : (version : Version) (stack : Stack) (name : SizeName) (n : ℕ) (next : Stack) → with_size stack name n ≡ Some next → IsStack version stack → IsPart version (Size name n) → StackMore version stack (Size name n) next
size_read version stack name n next e h k =
    let outer = cond_some (length stack.actors == 0) (option_map (λ (sizes : Sizes). record stack { sizes = sizes }) (more_sizes stack.sizes name n)) next e in
    let (sizes, is, made) = map_some (λ (sizes : Sizes). record stack { sizes = sizes }) (more_sizes stack.sizes name n) next outer.1 in
    let inner = cond_some (is_unnamed name stack.sizes) (Some (named name n stack.sizes)) sizes is in
    let same = same_Some (named name n stack.sizes) sizes inner.1 in
    let none = no_actors stack.actors outer.0 in
    let whole : record stack { sizes = named name n stack.sizes } ≡ next = (λ i. record stack { sizes = same i }) ∙ made in
    subst (λ (t : Stack). StackMore version stack (Size name n) t) whole (
      record { net = h.net; sizes = sizes_more version name n stack.sizes h.sizes k; few = h.few; actors = h.actors },
      in_front stack (Size name n) (size_parts (named name n stack.sizes) ++ flat_map actor_parts stack.actors) (size_parts stack.sizes ++ flat_map actor_parts stack.actors)
          (before_actors (size_parts stack.sizes) (size_parts (named name n stack.sizes)) stack.actors (Size name n) none (size_more name n stack.sizes inner.0)),
    )

pub actor_read : (version : Version) (stack : Stack) (name : List ℕ) (way : Way) (next : Stack) → with_actor stack name way ≡ Some next → IsStack version stack → IsName name → StackMore version stack (Actor name way) next
actor_read version stack name way next e h k =
    let actor = new_actor name way in
    let outer = cond_some (nat_lt (length stack.actors) 16) (Some (record stack { actors = stack.actors ++ actor ∷ [] })) next e in
    let made = same_Some (record stack { actors = stack.actors ++ actor ∷ [] }) next outer.1 in
    let few = ltb-true (length stack.actors) 16 outer.0 in
    let counted = length-append stack.actors (actor ∷ []) in
    let is : IsActor version actor = record { name = k; calls = All-nil (IsScriptCall version) } in
    subst (λ (t : Stack). StackMore version stack (Actor name way) t) made (
      record { net = h.net; sizes = h.sizes; few = omega (arith, counted); actors = All-push (IsActor version) stack.actors actor h.actors is },
      in_front stack (Actor name way) (size_parts stack.sizes ++ flat_map actor_parts (stack.actors ++ actor ∷ [])) (size_parts stack.sizes ++ flat_map actor_parts stack.actors)
          (more (size_parts stack.sizes) (flat_map actor_parts stack.actors) (Actor name way) (flat_map actor_parts (stack.actors ++ actor ∷ [])) (flat_map-append actor_parts stack.actors (actor ∷ []))),
    )

-- actors with one more call of the last
record LastMore (version : Version) (actors : List ActorScript) (call : ACall) (next : List ActorScript) : Type 0 where
  pub parts : flat_map actor_parts next ≡ flat_map actor_parts actors ++ Call call ∷ []
  pub counted : length next ≡ length actors
  pub are : All (IsActor version) actors → IsScriptCall version call → All (IsActor version) next

actor_more : (version : Version) (actor : ActorScript) (call : ACall) → IsActor version actor → IsScriptCall version call → IsActor version (with_more actor call)
actor_more version actor call h k = record { name = h.name; calls = All-push (IsScriptCall version) actor.calls call h.calls k }

call_more : (actor : ActorScript) (call : ACall) → actor_parts (with_more actor call) ≡ actor_parts actor ++ Call call ∷ []
call_more actor call = ap (λ (l : List Part). Actor actor.name actor.way ∷ l) (map-append Call actor.calls (call ∷ []))

last_more : (version : Version) (actors : List ActorScript) (call : ACall) (next : List ActorScript) → to_last actors call ≡ Some next → LastMore version actors call next
last_more version [] call next e = absurd (none-some next e)
last_more version (a ∷ []) call next e =
    subst (λ (t : List ActorScript). LastMore version (a ∷ []) call t) (same_Some (with_more a call ∷ []) next e)
    (record {
      parts = append-nil (actor_parts (with_more a call)) ∙ call_more a call ∙ ap (λ (l : List Part). l ++ Call call ∷ []) (sym (append-nil (actor_parts a)));
      counted = refl;
      are = λ h k. All-cons (IsActor version) (with_more a call) [] (actor_more version a call (All-head (IsActor version) a [] h) k) (All-nil (IsActor version));
    })
last_more version (a ∷ b ∷ actors) call next e =
    let (later, is, made) = map_some (λ (later : List ActorScript). a ∷ later) (to_last (b ∷ actors) call) next e in
    let l = last_more version (b ∷ actors) call later is in
    let counted = l.counted in
    subst (λ (t : List ActorScript). LastMore version (a ∷ b ∷ actors) call t) made
    (record {
      parts = more (actor_parts a) (flat_map actor_parts (b ∷ actors)) (Call call) (flat_map actor_parts later) l.parts;
      counted = omega arith;
      are = λ h k. All-cons (IsActor version) a later (All-head (IsActor version) a (b ∷ actors) h) (l.are (All-tail (IsActor version) a (b ∷ actors) h) k);
    })

pub call_read : (version : Version) (stack : Stack) (call : ACall) (next : Stack) → with_call stack call ≡ Some next → IsStack version stack → (is_actors call ≡ true → speaks_tcp call ≡ false → IsScriptCall version call) → StackMore version stack (Call call) next
call_read version stack call next e h k =
    let outer = cond_some (is_actors call && not (speaks_tcp call)) (option_map (λ (actors : List ActorScript). record stack { actors = actors }) (to_last stack.actors call)) next e in
    let (actors, is, made) = map_some (λ (actors : List ActorScript). record stack { actors = actors }) (to_last stack.actors call) next outer.1 in
    let kinds = and_true (is_actors call) (not (speaks_tcp call)) outer.0 in
    let l = last_more version stack.actors call actors is in
    let few = h.few in
    let counted = l.counted in
    subst (λ (t : Stack). StackMore version stack (Call call) t) made (
      record { net = h.net; sizes = h.sizes; few = omega arith; actors = l.are h.actors (k kinds.0 (not_true (speaks_tcp call) kinds.1)) },
      in_front stack (Call call) (size_parts stack.sizes ++ flat_map actor_parts actors) (size_parts stack.sizes ++ flat_map actor_parts stack.actors)
          (more (size_parts stack.sizes) (flat_map actor_parts stack.actors) (Call call) (flat_map actor_parts actors) l.parts),
    )

-- one more call of the last of some actors
pub last_call : (actors : List ActorScript) (actor : ActorScript) (call : ACall) → to_last (actors ++ actor ∷ []) call ≡ Some (actors ++ with_more actor call ∷ [])
last_call [] actor call = refl
last_call (a ∷ []) actor call = refl
last_call (a ∷ b ∷ actors) actor call = ap (option_map (λ (l : List ActorScript). a ∷ l)) (last_call (b ∷ actors) actor call)

-- the actors with the last taken off, and put back with one more call
pub pushed_last : (actors front new : List ActorScript) (last next : ActorScript) (call : ACall) (r : List ActorScript) → actors ≡ front ++ last ∷ [] → next ≡ with_more last call → new ≡ front ++ next ∷ [] → r ≡ new → Some r ≡ to_last actors call
pushed_last actors front new last next call r cut made put is =
    ap (λ (l : List ActorScript). Some l) (is ∙ put)
    ∙ ap (λ (a : ActorScript). Some (front ++ a ∷ [])) made
    ∙ sym (last_call front last call)
    ∙ ap (λ (l : List ActorScript). to_last l call) (sym cut)
