-- What is made may be given beside what was owned.
use Rattle.std.proofs.Common.{◌≡◌, ℕ, ◌+◌, ◌^◌, ◌<◌, List, ◌∷◌, length, ap, subst, sym, arith}
use Rattle.lw_payload.specs.declared.kinds.Kind.{Kind}
use Rattle.lw_payload.specs.Views.{View, HomeView, Pools}
use Rattle.lw_payload.specs.Calls.{IsMade}
use Rattle.lw_payload.specs.Totals.{total, IsOwned}
use Rattle.lw_payload.proofs.TotalLaws.{stranger-none, IsSum-cons}

pub made_owned : {P : Type 0} (seen : P → View) (h k : HomeView) (kind : Kind) (octets : List ℕ) (p : P) (held : List P)
    → IsMade h k kind octets (seen p) → k.pools ≡ h.pools → length octets < 2 ^ 32
    → IsOwned h (total seen h.pools.family held) → IsOwned k (total seen k.pools.family (p ∷ held))
made_owned seen h k kind octets p held m same short owned =
    let family : k.pools.family ≡ h.pools.family = ap (λ (pools : Pools). pools.family) same in
    let sum = IsSum-cons seen h.pools.family p held in
    let few : length (seen p).octets < 2 ^ 32 = subst (λ (l : List ℕ). length l < 2 ^ 32) (sym m.octets) short in
    let known = stranger-none h.pools.family (seen p) m.family few in
    subst (λ (f : List ℕ). IsOwned k (total seen f (p ∷ held))) (sym family)
    (record {
      rows = λ s. let r = sum.rows s in let o = owned.rows s in let e = m.rows s in omega arith;
      strangers = let n = sum.strangers in let o = owned.strangers in omega (arith, known);
    })
