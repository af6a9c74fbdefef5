use Rattle.std.proofs.Common.{◌≡◌, ℕ, List, [], ◌∷◌, ◌∙◌, refl, ap, sym, subst}
use Rattle.lw_payload.specs.Views.{View, HomeView}
use Rattle.lw_payload.specs.Totals.{total, IsOwned, Moves}
use Rattle.lw_payload.proofs.TotalLaws.{IsSum-cons, IsOwned-left, IsOwned-moved, IsSum-none, IsSameTotal-self, Moves-same, Moves-beside, Moves-then}

-- on the way through a list that is given up from h on: rest is left at k, and owned
pub record Spends {P : Type 0} (seen : P → View) (h k : HomeView) (all rest : List P) : Type 0 where
  pub family : k.pools.family ≡ h.pools.family
  pub left : IsOwned k (total seen h.pools.family rest)
  pub moves : Moves h k (total seen h.pools.family all) (total seen h.pools.family rest)

-- at the start all are left
pub Spends-start : {P : Type 0} (seen : P → View) (h : HomeView) (all rest : List P) → rest ≡ all → IsOwned h (total seen h.pools.family all) → Spends seen h h all rest
Spends-start {P} seen h all rest e owned =
    subst (λ (xs : List P). Spends seen h h all xs) (sym e) (record { family = refl; left = owned; moves = Moves-same h _ _ (IsSameTotal-self _) })

-- the first of what is left may be given up
pub Spends-first : {P : Type 0} (seen : P → View) (h k : HomeView) (all : List P) (p : P) (ps rest : List P) → rest ≡ p ∷ ps → Spends seen h k all rest → IsOwned k (total seen k.pools.family (p ∷ []))
Spends-first {P} seen h k all p ps rest e s =
    let first : Spends seen h k all (p ∷ ps) = subst (λ (xs : List P). Spends seen h k all xs) e s in
    subst (λ (f : List ℕ). IsOwned k (total seen f (p ∷ []))) (sym first.family)
    (IsOwned-left k _ _ (total seen h.pools.family ps) (IsSum-cons seen h.pools.family p ps) first.left)

-- and when it was, the others are left
pub Spends-step : {P : Type 0} (seen : P → View) (h k l : HomeView) (all : List P) (p : P) (ps rest : List P) → rest ≡ p ∷ ps → Spends seen h k all rest
    → Moves k l (total seen k.pools.family (p ∷ [])) (total seen k.pools.family []) → Spends seen h l all ps
Spends-step {P} seen h k l all p ps rest e s moves =
    let first : Spends seen h k all (p ∷ ps) = subst (λ (xs : List P). Spends seen h k all xs) e s in
    let gone : Moves k l (total seen h.pools.family (p ∷ [])) (total seen h.pools.family []) =
    subst (λ (f : List ℕ). Moves k l (total seen f (p ∷ [])) (total seen f [])) first.family moves in
    let on = Moves-beside k l _ _ (total seen h.pools.family ps) _ _ gone (IsSum-cons seen h.pools.family p ps) (IsSum-none seen h.pools.family ps) in
    record {
      family = ap (λ v. v.family) gone.pools ∙ first.family;
      left = IsOwned-moved k l _ _ first.left on;
      moves = Moves-then h k l _ _ _ first.moves on;
    }
