use Rattle.std.proofs.Common.{◌≡◌, ℕ, zero, suc, ◌+◌, ◌<◌, ◌≤◌, Bool, true, false, not, ◌||◌, cond, List, [], ◌∷◌, ◌++◌, length, get_or, set, take, drop, map, filter, find, Option, Some, None, refl, ap, sym, subst, ◌∙◌, append_assoc, arith, All, Contains}
use Rattle.std.specs.List.{list_any, filter_map, cons_option}
use Rattle.std.proofs.lemmas.Bool.{false≢true}
use Rattle.std.proofs.lemmas.List.Elements.{All-nil, All-cons}
use Rattle.std.proofs.lemmas.List.Folds.{list_any_at}
use Rattle.std.proofs.lemmas.List.{length-map, length-take-le, drop_more, get_or_at, set_at, map_more}

-- a list whose first elements are mapped, with one more mapped
pub mapped_more : {X : Type 0} (f : X → X) (xs ys : List X) (i : ℕ) (y d : X) → i < length xs → y ≡ f (get_or ys i d) → ys ≡ map f (take i xs) ++ drop i xs → set ys i y ≡ map f (take (i + 1) xs) ++ drop (i + 1) xs
mapped_more {X} f xs ys i y d within made so_far =
    let p = map f (take i xs) in
    let z = get_or xs i d in
    let rest = drop (i + 1) xs in
    let below : i ≤ length xs = omega arith in
    let long : length p ≡ i = length-map (take i xs) f ∙ length-take-le i xs below in
    let now : ys ≡ p ++ z ∷ rest = so_far ∙ ap (λ (l : List X). p ++ l) (drop_more xs i d within) in
    let same : y ≡ f z = made ∙ ap (λ (l : List X). f (get_or l i d)) now ∙ ap f (get_or_at p z rest d i long) in
    ap (λ (l : List X). set l i y) now ∙ set_at p z rest y i long ∙ ap (λ (e : X). p ++ e ∷ rest) same
    ∙ sym (ap (λ (l : List X). l ++ rest) (map_more f xs i d within) ∙ append_assoc p (f z ∷ []) rest)

-- what holds of each element holds of the first, and of each of the others
pub All-head : {X : Type 0} (P : X → Type 0) (x : X) (xs : List X) → All P (x ∷ xs) → P x
All-head P x xs all = all 0 x (omega arith)

pub All-tail : {X : Type 0} (P : X → Type 0) (x : X) (xs : List X) → All P (x ∷ xs) → All P xs
All-tail P x xs all = λ k d within. all (suc k) d (omega arith)

-- an element is still there with another one before it
pub Contains-cons : {X : Type 0} (x : X) (xs : List X) (y : X) → Contains xs y → Contains (x ∷ xs) y
Contains-cons x xs y at = (suc at.0, omega (arith, at.1), at.2)

-- a list passes where one of its elements does
pub one_passes : {X : Type 0} (p : X → Bool) (xs : List X) (x : X) → Contains xs x → p x ≡ true → list_any p xs ≡ true
one_passes p xs x at passes = list_any_at p xs at.0 x at.1 (ap p at.2 ∙ passes)

-- where none passes each element fails
pub each_fails : {X : Type 0} (p : X → Bool) (xs : List X) (x : X) → Contains xs x → list_any p xs ≡ false → p x ≡ false
each_fails p xs x at none =
    elim (p x) as (λ b. p x ≡ b → b ≡ false) [
      | true ↦ λ e. absurd (false≢true (sym none ∙ one_passes p xs x at e))
      | false ↦ λ _. refl
    ] refl

-- what is found passes
pub found_passes : {X : Type 0} (p : X → Bool) (xs : List X) (y : X) → find p xs ≡ Some y → p y ≡ true
found_passes p [] y found = absurd (cc)
found_passes {X} p (x ∷ xs) y found =
    elim (p x) as (λ b. p x ≡ b → cond b (Some x) (find p xs) ≡ Some y → p y ≡ true) [
      | true ↦ λ e same. let it : x ≡ y = cc in ap p (sym it) ∙ e
      | false ↦ λ _ rest. found_passes p xs y rest
    ] refl found

-- nothing is found among those that fail
pub none_left : {X : Type 0} (p : X → Bool) (xs : List X) → find p (filter (λ x. not (p x)) xs) ≡ None
none_left p [] = refl
none_left {X} p (x ∷ xs) =
    elim (p x) as (λ b. p x ≡ b → find p (cond (not b) (x ∷ filter (λ y. not (p y)) xs) (filter (λ y. not (p y)) xs)) ≡ None) [
      | true ↦ λ _. none_left p xs
      | false ↦ λ e. rw e (none_left p xs)
    ] refl

-- what holds of each value that h gives holds of those of each element
pub all_given : {X C : Type 0} (h : X → Option C) (P : C → Type 0) (xs : List X) → All P (filter_map h xs) → All (λ x. (c : C) → h x ≡ Some c → P c) xs
all_given {X} {C} h P [] all = All-nil (λ (x : X). (c : C) → h x ≡ Some c → P c)
all_given {X} {C} h P (x ∷ xs) all =
    let Q : X → Type 0 = λ (x : X). (c : C) → h x ≡ Some c → P c in
    elim (h x) as (λ o. h x ≡ o → All P (cons_option o (filter_map h xs)) → All Q (x ∷ xs)) [
      | None ↦ λ e rest. All-cons Q x xs (λ c some. absurd (cc)) (all_given h P xs rest)
      | Some b ↦ λ e rest.
          let first : Q x = λ c some. let it : b ≡ c = cc in subst P it (All-head P b (filter_map h xs) rest) in
          All-cons Q x xs first (all_given h P xs (All-tail P b (filter_map h xs) rest))
    ] refl all

-- an element that gives a value
abbrev pub Gives : {X C : Type 0} → (X → Option C) → List X → C → Type 0
Gives {X} h xs c = (x : X) × Contains xs x × (h x ≡ Some c)

gives_cons : {X C : Type 0} (h : X → Option C) (x : X) (xs : List X) (c : C) → Gives h xs c → Gives h (x ∷ xs) c
gives_cons h x xs c g = (g.0, Contains-cons x xs g.0 g.1, g.2)

here_or_later : {X C : Type 0} (h : X → Option C) (x : X) (xs : List X) (b c : C) → h x ≡ Some b → (k : ℕ) → ((j : ℕ) → j < length (filter_map h xs) → get_or (filter_map h xs) j c ≡ c → Gives h xs c) → k < suc (length (filter_map h xs)) → get_or (b ∷ filter_map h xs) k c ≡ c → Gives h (x ∷ xs) c
here_or_later h x xs b c e zero later w a = (x, (0, omega arith, refl), e ∙ ap Some a)
here_or_later h x xs b c e (suc j) later w a = gives_cons h x xs c (later j (omega arith) a)

-- each value that h gives is given by an element
pub given_at : {X C : Type 0} (h : X → Option C) (xs : List X) (c : C) (k : ℕ) → k < length (filter_map h xs) → get_or (filter_map h xs) k c ≡ c → Gives h xs c
given_at h [] c k within at = absurd (omega arith)
given_at {X} {C} h (x ∷ xs) c k within at =
    elim (h x) as (λ o. h x ≡ o → k < length (cons_option o (filter_map h xs)) → get_or (cons_option o (filter_map h xs)) k c ≡ c → Gives h (x ∷ xs) c) [
      | None ↦ λ _ w a. gives_cons h x xs c (given_at h xs c k w a)
      | Some b ↦ λ e. here_or_later h x xs b c e k (given_at h xs c)
    ] refl within at

-- where h gives nothing, it gives nothing of each element
pub nothing_given : {X C : Type 0} (h : X → Option C) (xs : List X) → filter_map h xs ≡ [] → All (λ x. h x ≡ None) xs
nothing_given {X} h [] none = All-nil (λ (x : X). h x ≡ None)
nothing_given {X} h (x ∷ xs) none =
    elim (h x) as (λ o. h x ≡ o → cons_option o (filter_map h xs) ≡ [] → All (λ x. h x ≡ None) (x ∷ xs)) [
      | None ↦ λ e rest. All-cons (λ (x : X). h x ≡ None) x xs e (nothing_given h xs rest)
      | Some b ↦ λ e rest. absurd (cc)
    ] refl none

-- where nothing is found no element passes
pub not_found : {X : Type 0} (p : X → Bool) (xs : List X) → find p xs ≡ None → list_any p xs ≡ false
not_found p [] none = refl
not_found {X} p (x ∷ xs) none =
    elim (p x) as (λ b. cond b (Some x) (find p xs) ≡ None → (b || list_any p xs) ≡ false) [
      | true ↦ λ h. absurd (cc)
      | false ↦ λ h. not_found p xs h
    ] none
