-- A fragment that is taken in, and what comes out of it.
use Rattle.std.proofs.Common.{◌≡◌, ℕ, ◌-◌, ◌≤◌, ◌++◌, ◌∙◌, List, [], ◌∷◌, take, drop, slice_range, sym, subst, arith}
use Rattle.std.specs.List.{All}
use Rattle.std.proofs.lemmas.List.{length-drop, length-take}
use Rattle.std.proofs.lemmas.List.Elements.{All-head, All-tail, All-weaker}
use Rattle.lw_payload.specs.Views.{View, HomeView, IsOf}
use Rattle.lw_payload.specs.Calls.{IsCut}
use Rattle.lw_payload.specs.Totals.{total, IsOwned, Moves}
use Rattle.lw_payload.proofs.TotalLaws.{AreOf-owned, IsOf-owned, Moves-cut, Moves-then}
use Rattle.lw_runs.specs.Kept.{FirstCanTake, Holds}
use Rattle.lw_runs.proofs.HoldsLaws.{Moves-holds}
use Rattle.lw_reass.specs.declared.outcome.FragmentPlan.{FragmentPlan}
use Rattle.lw_reass.specs.declared.outcome.FragmentPlan.TheVariants.{Refuse, Keep, Complete}
use Rattle.lw_reass.specs.Table.{Reassembly, kept_at, IsReady}
use Rattle.lw_layers.proofs.MoveLaws.{IsOwned-front, Moves-front}

-- a payload with fewer parts and as much room can be joined where the other can
fewer_taken : {P : Type 0} (seen : P → View) (ps : List P) (n m : ℕ) → m ≤ n → FirstCanTake seen ps n → FirstCanTake seen ps m
fewer_taken seen [] n m fewer take = tt
fewer_taken seen (p ∷ ps) n m fewer take = omega arith

-- the memory that was taken for a frame is enough for what was cut of it
pub ready_cut : {P : Type 0} (seen : P → View) (r : Reassembly P) (plan : FragmentPlan) (h k : HomeView) (p q : View) (xs : List ℕ) → IsReady seen r plan p → IsCut h k p q xs → IsReady seen r plan q
ready_cut seen r (Refuse why) h k p q xs ready cut = tt
ready_cut seen r (Keep i) h k p q xs ready cut = ready
ready_cut seen r (Complete i w) h k p q xs ready cut =
    let join = ready.1 in let most = join.1 in let more = cut.room in
    (ready.0, (fewer_taken seen (kept_at r i) p.parts q.parts cut.parts join.0, omega arith))

-- the first of those that are owned may be given
pub first_of : {P : Type 0} (seen : P → View) (h : HomeView) (p : P) (ps : List P) → IsOwned h (total seen h.pools.family (p ∷ ps)) → IsOf h (seen p)
first_of seen h p ps owned = IsOf-owned seen h p (IsOwned-front seen h.pools.family h (p ∷ []) ps owned)

-- those that are kept are of the family of what was cut
pub kept_family : {P : Type 0} (seen : P → View) (h : HomeView) (p q : P) (ps : List P) → IsOwned h (total seen h.pools.family (p ∷ ps)) → (seen q).family ≡ (seen p).family → All (λ x. (seen x).family ≡ (seen q).family) ps
kept_family {P} seen h p q ps owned same =
    let all = AreOf-owned seen h (p ∷ ps) owned in
    let own : (seen q).family ≡ h.pools.family = same ∙ All-head (λ (x : P). (seen x).family ≡ h.pools.family) p ps all.family in
    All-weaker (λ x. (seen x).family ≡ h.pools.family) (λ x. (seen x).family ≡ (seen q).family) (λ x is. is ∙ sym own) ps
    (All-tail (λ x. (seen x).family ≡ h.pools.family) p ps all.family)

-- a payload was cut, and others stood behind it
pub cut_moves : {P : Type 0} (seen : P → View) (f : List ℕ) (h k : HomeView) (p q : P) (ps : List P) (from to : ℕ) → IsCut h k (seen p) (seen q) (slice_range (seen p).octets from to) → Moves h k (total seen f (p ∷ ps)) (total seen f (q ∷ ps))
cut_moves seen f h k p q ps from to cut =
    let a = length-take (to - from) (drop from (seen p).octets) in
    let b = length-drop from (seen p).octets in
    Moves-front seen f h k (p ∷ []) (q ∷ []) ps (Moves-cut seen f h k p q (slice_range (seen p).octets from to) (omega arith) cut)

-- a fragment was cut and taken in, and what comes out of it is left, with those that are kept
pub out_moves : {P : Type 0} (seen : P → View) (h k : HomeView) (p q : P) (ps given kept out : List P) (from to : ℕ) → IsCut h k (seen p) (seen q) (slice_range (seen p).octets from to)
    → Holds seen (q ∷ ps) (given ++ kept) → out ≡ given
    → Moves h k (total seen h.pools.family (p ∷ ps)) (total seen h.pools.family (out ++ kept))
out_moves {P} seen h k p q ps given kept out from to cut holds same =
    let f = h.pools.family in
    subst (λ (xs : List P). Moves h k (total seen f (p ∷ ps)) (total seen f (xs ++ kept))) (sym same)
    (Moves-then h k k (total seen f (p ∷ ps)) (total seen f (q ∷ ps)) (total seen f (given ++ kept)) (cut_moves seen f h k p q ps from to cut) (Moves-holds seen k f (q ∷ ps) (given ++ kept) holds))
