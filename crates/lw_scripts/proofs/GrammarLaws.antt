-- Octets are one script at most, or stop being one at one line, and never both.
use Rattle.std.proofs.Common.{◌≡◌, ℕ, zero, suc, ◌-◌, ◌<◌, ◌≤◌, List, [], ◌∷◌, ◌++◌, length, take, drop, refl, sym, ap, ◌∙◌, subst, arith, inl, inr, append_assoc, length-append, take-append-drop}
use Rattle.std.proofs.lemmas.Bool.{cases_lt}
use Rattle.lw_scripts.specs.declared.parts.Script.{Script}
use Rattle.lw_scripts.specs.declared.wanted.Wanted.{Wanted}
use Rattle.lw_scripts.specs.Grammar.{BeginsScript, FailsAt, IsScript, SpellsScript, said}
use Rattle.lw_scripts.specs.Whole.{script_lines}
use Rattle.lw_scripts.proofs.LinesTold.{one_script}
use Rattle.lw_scripts.proofs.Scripts.{IsWanted}

-- two lists with one more element each
pub same_front : (xs ys : List (List ℕ)) (x y : List ℕ) → xs ++ x ∷ [] ≡ ys ++ y ∷ [] → (xs ≡ ys) × (x ≡ y)
same_front [] [] x y e = (refl, cc)
same_front [] (z ∷ ys) x y e = let n = ap length e in absurd (omega (arith, n, length-append ys (y ∷ [])))
same_front (z ∷ xs) [] x y e = let n = ap length e in absurd (omega (arith, n, length-append xs (x ∷ [])))
same_front (z ∷ xs) (w ∷ ys) x y e =
    let tails : xs ++ x ∷ [] ≡ ys ++ y ∷ [] = cc in
    let heads : z ≡ w = cc in
    let same = same_front xs ys x y tails in
    let fronts = same.0 in (cc, same.1)

take_within : (m k : ℕ) (xs : List (List ℕ)) → m ≤ k → take m (take k xs) ≡ take m xs
take_within zero k xs h = refl
take_within (suc m) zero xs h = absurd (omega arith)
take_within (suc m) (suc k) [] h = refl
take_within (suc m) (suc k) (x ∷ xs) h = ap (λ t. x ∷ t) (take_within m k xs (omega arith))

begins_less : (wanted : Wanted) (m : ℕ) (xs : List (List ℕ)) → BeginsScript wanted xs → BeginsScript wanted (take m xs)
begins_less wanted m xs (more, s, h) =
    (drop m xs ++ more, s, subst (λ (t : List (List ℕ)). IsScript wanted t s) (ap (λ t. t ++ more) (sym (take-append-drop m xs)) ∙ append_assoc (take m xs) (drop m xs) more) h)

begun : (wanted : Wanted) (m : ℕ) (xs : List (List ℕ)) (s : Script) → IsScript wanted xs s → BeginsScript wanted (take m xs)
begun wanted m xs s h = (drop m xs, s, subst (λ (t : List (List ℕ)). IsScript wanted t s) (sym (take-append-drop m xs)) h)

-- octets that are a script stop being one nowhere
pub exclusive : (wanted : Wanted) (octets : List ℕ) (s : Script) (n : ℕ) → SpellsScript wanted octets s → FailsAt wanted octets n → ⊥
exclusive wanted octets s n h f =
    let same = same_front h.lines f.lines [] f.behind (sym h.ended ∙ f.ended) in
    let here = subst (λ (t : List (List ℕ)). IsScript wanted t s) same.0 h.script in
    elim (cases_lt (length f.lines) n) [
      | inl past ↦ f.early past (sym same.1) s here
      | inr within ↦ f.stops within (begun wanted n f.lines s here)
    ]

not_before : (wanted : Wanted) (octets : List ℕ) (m n : ℕ) → FailsAt wanted octets m → FailsAt wanted octets n → m < n → ⊥
not_before wanted octets m n f g lt =
    let same = same_front f.lines g.lines f.behind g.behind (sym f.ended ∙ g.ended) in
    let bound = g.counted in
    let lines_same = ap length same.0 in
    let begins = begins_less wanted m (take (n - 1) g.lines) g.before in
    let short = take_within m (n - 1) g.lines (omega arith) in
    f.stops (omega (arith, bound.1, lines_same))
    (subst (BeginsScript wanted) (short ∙ ap (take m) (sym same.0)) begins)

-- octets stop being a script at one line
pub fails_once : (wanted : Wanted) (octets : List ℕ) (m n : ℕ) → FailsAt wanted octets m → FailsAt wanted octets n → m ≡ n
fails_once wanted octets m n f g =
    elim (cases_lt m n) [
      | inl lt ↦ absurd (not_before wanted octets m n f g lt)
      | inr ge ↦ elim (cases_lt n m) [ inl lt ↦ absurd (not_before wanted octets n m g f lt) | inr le ↦ omega arith ]
    ]

pub wanted_here : (wanted : Wanted) (lines : List (List ℕ)) (s : Script) → IsScript wanted lines s → IsWanted wanted s
wanted_here wanted lines s h = record { body = h.body; version = h.version; kind = h.kind }

-- octets are one script at most
pub spells_once : (wanted : Wanted) (octets : List ℕ) (s t : Script) → SpellsScript wanted octets s → SpellsScript wanted octets t → s ≡ t
spells_once wanted octets s t h k =
    let same = (same_front h.lines k.lines [] [] (sym h.ended ∙ k.ended)).0 in
    let lines : script_lines s ≡ script_lines t = sym h.script.spelled ∙ ap said same ∙ k.script.spelled in
    one_script wanted s t (wanted_here wanted h.lines s h.script) (wanted_here wanted k.lines t k.script) lines
