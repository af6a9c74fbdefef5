-- Marks of numbers.
use Rattle.std.proofs.Common.{◌≡◌, ◌≢◌, ℕ, zero, suc, ◌<◌, ◌==◌, Bool, true, false, ◌||◌, List, [], ◌∷◌, ◌++◌, length, get_or, set, refl, sym, ap, ◌∙◌, arith, inl, inr, eq-eqb, ne_eqb}
use Rattle.std.proofs.lemmas.Bool.{cases_lt}
use Rattle.std.proofs.lemmas.Grind.{get_or-set_at}
use Rattle.std.proofs.lemmas.List.{get_or-set_other}
use Rattle.lw_scripts.proofs.FaultLaws.{or_last}

or_true : (a : Bool) → (a || true) ≡ true
or_true true = refl
or_true false = refl

-- one more number that isn't marked changes no mark
pub pad_more : (marks : List Bool) (k : ℕ) → get_or (marks ++ false ∷ []) k false ≡ get_or marks k false
pad_more [] zero = refl
pad_more [] (suc k) = refl
pad_more (x ∷ marks) zero = refl
pad_more (x ∷ marks) (suc k) = pad_more marks k

-- marking one more number
pub mark_set : (marks : List Bool) (i k : ℕ) → i < length marks → get_or (set marks i true) k false ≡ (get_or marks k false || (k == i))
mark_set marks i k h =
    let other : k ≢ i → get_or (set marks i true) k false ≡ (get_or marks k false || (k == i)) = λ ne.
    get_or-set_other marks i k true false ne ∙ sym (or_last (get_or marks k false)) ∙ ap (λ (b : Bool). get_or marks k false || b) (sym (ne_eqb k i ne)) in
    elim (cases_lt k i) [
      | inl lt ↦ other (omega arith)
      | inr ge ↦ elim (cases_lt i k) [
        | inl gt ↦ other (omega arith)
        | inr le ↦ let is : k ≡ i = omega arith in
            get_or-set_at marks i k true false is h ∙ sym (or_true (get_or marks k false)) ∙ ap (λ (b : Bool). get_or marks k false || b) (sym (eq-eqb k i is))
      ]
    ]
