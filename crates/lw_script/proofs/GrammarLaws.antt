-- Octets are one script at most, or stop being one at one line, and never both.
use Rattle.std.proofs.Common.{◌≡◌, ℕ, zero, suc, ◌-◌, ◌<◌, ◌≤◌, List, [], ◌∷◌, ◌++◌, length, take, drop, refl, sym, ap, ◌∙◌, subst, arith, inl, inr, append_assoc, length-append, take-append-drop}
use Rattle.std.proofs.lemmas.Bool.{cases_lt}
use Rattle.lw_script.specs.declared.parts.Profile.{Profile}
use Rattle.lw_script.specs.declared.parts.Profile.TheVariants.{Default, Small, Wide}
use Rattle.lw_script.specs.declared.parts.Script.{Script}
use Rattle.lw_script.specs.Grammar.{BeginsScript, FailsAt, IsScript, SpellsScript, said, script_lines}
use Rattle.lw_script.specs.Spelling.{limits_spelling, net_spelling}
use Rattle.lw_script.proofs.Spellings.{net_once}

-- two lists with one more element each
pub same_front : (xs ys : List (List ℕ)) (x y : List ℕ) → xs ++ x ∷ [] ≡ ys ++ y ∷ [] → (xs ≡ ys) × (x ≡ y)
same_front [] [] x y e = (refl, cc)
same_front [] (z ∷ ys) x y e = let n = ap length e in absurd (omega (arith, n, length-append ys (y ∷ [])))
same_front (z ∷ xs) [] x y e = let n = ap length e in absurd (omega (arith, n, length-append xs (x ∷ [])))
same_front (z ∷ xs) (w ∷ ys) x y e =
    let tails : xs ++ x ∷ [] ≡ ys ++ y ∷ [] = cc in
    let heads : z ≡ w = cc in
    let same = same_front xs ys x y tails in
    let fronts = same.0 in (cc, same.1)

take_within : (m k : ℕ) (xs : List (List ℕ)) → m ≤ k → take m (take k xs) ≡ take m xs
take_within zero k xs h = refl
take_within (suc m) zero xs h = absurd (omega arith)
take_within (suc m) (suc k) [] h = refl
take_within (suc m) (suc k) (x ∷ xs) h = ap (λ t. x ∷ t) (take_within m k xs (omega arith))

begins_less : (m : ℕ) (xs : List (List ℕ)) → BeginsScript xs → BeginsScript (take m xs)
begins_less m xs (more, s, h) =
    (drop m xs ++ more, s, subst (λ (t : List (List ℕ)). IsScript t s) (ap (λ t. t ++ more) (sym (take-append-drop m xs)) ∙ append_assoc (take m xs) (drop m xs) more) h)

begun : (m : ℕ) (xs : List (List ℕ)) (s : Script) → IsScript xs s → BeginsScript (take m xs)
begun m xs s h = (drop m xs, s, subst (λ (t : List (List ℕ)). IsScript t s) (sym (take-append-drop m xs)) h)

-- octets that are a script stop being one nowhere
pub exclusive : (octets : List ℕ) (s : Script) (n : ℕ) → SpellsScript octets s → FailsAt octets n → ⊥
exclusive octets s n h f =
    let same = same_front h.lines f.lines [] f.behind (sym h.ended ∙ f.ended) in
    let here = subst (λ (t : List (List ℕ)). IsScript t s) same.0 h.script in
    elim (cases_lt (length f.lines) n) [
      | inl past ↦ f.early past (sym same.1) s here
      | inr within ↦ f.stops within (begun n f.lines s here)
    ]

not_before : (octets : List ℕ) (m n : ℕ) → FailsAt octets m → FailsAt octets n → m < n → ⊥
not_before octets m n f g lt =
    let same = same_front f.lines g.lines f.behind g.behind (sym f.ended ∙ g.ended) in
    let bound = g.counted in
    let lines_same = ap length same.0 in
    let begins = begins_less m (take (n - 1) g.lines) g.before in
    let short = take_within m (n - 1) g.lines (omega arith) in
    f.stops (omega (arith, bound.1, lines_same))
    (subst BeginsScript (short ∙ ap (take m) (sym same.0)) begins)

-- octets stop being a script at one line
pub fails_once : (octets : List ℕ) (m n : ℕ) → FailsAt octets m → FailsAt octets n → m ≡ n
fails_once octets m n f g =
    elim (cases_lt m n) [
      | inl lt ↦ absurd (not_before octets m n f g lt)
      | inr ge ↦ elim (cases_lt n m) [ inl lt ↦ absurd (not_before octets n m g f lt) | inr le ↦ omega arith ]
    ]

profile_once : (a b : Profile) → limits_spelling a ≡ limits_spelling b → a ≡ b
profile_once Default Default e = refl
profile_once Default Small e = cc
profile_once Default Wide e = cc
profile_once Small Default e = cc
profile_once Small Small e = refl
profile_once Small Wide e = cc
profile_once Wide Default e = cc
profile_once Wide Small e = cc
profile_once Wide Wide e = refl

abbrev second : List (List ℕ) → List ℕ
second [] = []
second (x ∷ []) = []
second (x ∷ y ∷ more) = y

abbrev third : List (List ℕ) → List ℕ
third [] = []
third (x ∷ []) = []
third (x ∷ y ∷ []) = []
third (x ∷ y ∷ z ∷ more) = z

-- octets are one script at most
pub spells_once : (octets : List ℕ) (s t : Script) → SpellsScript octets s → SpellsScript octets t → s ≡ t
spells_once octets s t h k =
    let same = (same_front h.lines k.lines [] [] (sym h.ended ∙ k.ended)).0 in
    let lines : script_lines s ≡ script_lines t = sym h.script.spelled ∙ ap said same ∙ k.script.spelled in
    let nets : net_spelling s.net ≡ net_spelling t.net = ap (λ (l : List (List ℕ)). second l) lines in
    let sizes : limits_spelling s.profile ≡ limits_spelling t.profile = ap (λ (l : List (List ℕ)). third l) lines in
    let net = net_once s.net t.net h.script.net k.script.net nets in
    let profile = profile_once s.profile t.profile sizes in
    let commands = h.script.commands ∙ sym k.script.commands in
    λ i. record { net = net i; profile = profile i; commands = commands i }
