-- A payload that is cut at both ends.
use Rattle.std.proofs.Common.{◌≡◌, ℕ, ◌+◌, ◌-◌, ◌≤◌, ◌∙◌, List, length, take, drop, slice_range, ap, subst, arith}
use Rattle.std.proofs.lemmas.List.{drop-take}
use Rattle.lw_payload.specs.Views.{View, HomeView}
use Rattle.lw_payload.specs.Calls.{IsCut}
use Rattle.lw_payload.proofs.HomeLaws.{IsCut-then}

-- the octets that two cuts leave
cut_range : (xs ys : List ℕ) (from to n : ℕ) → n ≡ length xs → from ≤ to → to ≤ length xs → ys ≡ take (length xs - (n - to)) xs → drop from ys ≡ slice_range xs from to
cut_range xs ys from to n is order within back =
    let all : length xs - (n - to) ≡ from + (to - from) = omega arith in
    ap (λ (l : List ℕ). drop from l) (back ∙ ap (λ (k : ℕ). take k xs) all) ∙ drop-take from (to - from) xs

-- cut at both ends
pub cut_both : (h k l : HomeView) (p q r : View) (from to n : ℕ) → n ≡ length p.octets → from ≤ to → to ≤ length p.octets
    → IsCut h k p q (take (length p.octets - (n - to)) p.octets) → IsCut k l q r (drop from q.octets) → IsCut h l p r (slice_range p.octets from to)
cut_both h k l p q r from to n is order within back front =
    subst (λ (rest : List ℕ). IsCut h l p r rest) (cut_range p.octets q.octets from to n is order within back.octets)
    (IsCut-then h k l p q r (take (length p.octets - (n - to)) p.octets) (drop from q.octets) back front)
