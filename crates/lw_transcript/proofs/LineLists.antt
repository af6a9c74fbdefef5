-- Lines one behind another are read once, where each begins as what may stand behind them all does not.
use Rattle.std.proofs.Common.{◌≡◌, ◌≢◌, ℕ, ◌+◌, List, [], ◌∷◌, ◌++◌, map, All, refl, sym, ap, ◌∙◌, subst, append_assoc}
use Rattle.std.proofs.lemmas.List.Elements.{All-head, All-tail}
use Rattle.std.specs.List.{flat_map}
use Rattle.lw_transcript.specs.Transcript.{numbered}

-- the first octet, and 0 where there is none
abbrev pub first : List ℕ → ℕ
first [] = 0
first (x ∷ xs) = x

-- two octets that differ
pub apart : {A : Type 0} (m n : ℕ) → m ≢ n → m ≡ n → A
apart m n ne e = absurd (ne e)

-- three texts, and what stands behind them
pub regroup : (a b c r : List ℕ) → (a ++ b ++ c) ++ r ≡ a ++ (b ++ (c ++ r))
regroup a b c r = simp append_assoc

-- whatever stands behind
abbrev pub Anything : List ℕ → Type 0
Anything r = Unit {0}

-- the texts of elements are read once, as far as g tells them apart, where what stands behind is of the kind R; each begins as B,
-- and is of the kind R itself
pub record ReadOnce {A C : Type 0} (f : A → List ℕ) (g : A → C) (P : A → Type 0) (B R : List ℕ → Type 0) : Type 0 where
  pub begins : (a : A) (r : List ℕ) → B (f a ++ r)
  pub goes_on : (a : A) (r : List ℕ) → R (f a ++ r)
  pub once : (a b : A) (r s : List ℕ) → P a → P b → R r → R s → f a ++ r ≡ f b ++ s → (g a ≡ g b) × (r ≡ s)

-- what stands behind an element
behind : {A C : Type 0} (f : ℕ → A → List ℕ) (g : A → C) (P : A → Type 0) (B R : List ℕ → Type 0) → ((n : ℕ) → ReadOnce (f n) g P B R)
    → (n : ℕ) (xs : List A) (r : List ℕ) → R r → R (numbered f n xs ++ r)
behind f g P B R each n [] r h = h
behind f g P B R each n (x ∷ xs) r h =
    subst R (sym (append_assoc (f n x) (numbered f (n + 1) xs) r)) ((each n).goes_on x (numbered f (n + 1) xs ++ r))

-- numbered elements, and what stands behind them
pub numbered_once : {A C : Type 0} (f : ℕ → A → List ℕ) (g : A → C) (P : A → Type 0) (B R : List ℕ → Type 0) → ((n : ℕ) → ReadOnce (f n) g P B R)
    → (n : ℕ) (xs ys : List A) (r s : List ℕ) → All P xs → All P ys → (B r → ⊥) → (B s → ⊥) → R r → R s
    → numbered f n xs ++ r ≡ numbered f n ys ++ s → (map g xs ≡ map g ys) × (r ≡ s)
numbered_once f g P B R each n [] [] r s h k hr hs rr rs e = (refl, e)
numbered_once f g P B R each n [] (y ∷ ys) r s h k hr hs rr rs e =
    let same = e ∙ append_assoc (f n y) (numbered f (n + 1) ys) s in
    absurd (hr (subst B (sym same) ((each n).begins y (numbered f (n + 1) ys ++ s))))
numbered_once f g P B R each n (x ∷ xs) [] r s h k hr hs rr rs e =
    let same = sym e ∙ append_assoc (f n x) (numbered f (n + 1) xs) r in
    absurd (hs (subst B (sym same) ((each n).begins x (numbered f (n + 1) xs ++ r))))
numbered_once f g P B R each n (x ∷ xs) (y ∷ ys) r s h k hr hs rr rs e =
    let same = sym (append_assoc (f n x) (numbered f (n + 1) xs) r) ∙ e ∙ append_assoc (f n y) (numbered f (n + 1) ys) s in
    let one = (each n).once x y (numbered f (n + 1) xs ++ r) (numbered f (n + 1) ys ++ s) (All-head P x xs h) (All-head P y ys k)
    (behind f g P B R each (n + 1) xs r rr) (behind f g P B R each (n + 1) ys s rs) same in
    let later = numbered_once f g P B R each (n + 1) xs ys r s (All-tail P x xs h) (All-tail P y ys k) hr hs rr rs one.1 in
    let heads : g x ≡ g y = one.0 in
    let tails : map g xs ≡ map g ys = later.0 in
    (cc, later.1)

unnumbered : {A : Type 0} (f : A → List ℕ) (n : ℕ) (xs : List A) → flat_map f xs ≡ numbered (λ _ x. f x) n xs
unnumbered f n [] = refl
unnumbered f n (x ∷ xs) = ap (λ (t : List ℕ). f x ++ t) (unnumbered f (n + 1) xs)

-- elements without numbers, and what stands behind them
pub each_once : {A C : Type 0} (f : A → List ℕ) (g : A → C) (P : A → Type 0) (B R : List ℕ → Type 0) → ReadOnce f g P B R
    → (xs ys : List A) (r s : List ℕ) → All P xs → All P ys → (B r → ⊥) → (B s → ⊥) → R r → R s
    → flat_map f xs ++ r ≡ flat_map f ys ++ s → (map g xs ≡ map g ys) × (r ≡ s)
each_once f g P B R each xs ys r s h k hr hs rr rs e =
    let same = ap (λ (t : List ℕ). t ++ r) (sym (unnumbered f 0 xs)) ∙ e ∙ ap (λ (t : List ℕ). t ++ s) (unnumbered f 0 ys) in
    numbered_once (λ _ x. f x) g P B R (λ _. each) 0 xs ys r s h k hr hs rr rs same

-- an element as it is
abbrev pub whole : {A : Type 0} → A → A
whole x = x

-- all elements as they are
map_whole : {A : Type 0} (xs : List A) → map (whole {A = A}) xs ≡ xs
map_whole [] = refl
map_whole (x ∷ xs) = ap (λ (t : List _). x ∷ t) (map_whole xs)

-- lists that are the same, element by element
pub same_list : {A : Type 0} (xs ys : List A) → map (whole {A = A}) xs ≡ map (whole {A = A}) ys → xs ≡ ys
same_list xs ys e = sym (map_whole xs) ∙ e ∙ map_whole ys
