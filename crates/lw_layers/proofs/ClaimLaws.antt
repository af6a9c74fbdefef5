-- What a stack holds while a frame claims its RAM.
use Rattle.std.proofs.Common.{◌≡◌, ℕ, List, [], ◌∷◌, Option, Some, None, MatchOption, sym, ap, subst, arith}
use Rattle.lw_payload.specs.declared.kinds.Kind.{Kind}
use Rattle.lw_payload.specs.declared.kinds.Kind.TheVariants.{Ram}
use Rattle.lw_payload.specs.Views.{View, HomeView, Pools}
use Rattle.lw_payload.specs.Calls.{IsSameButRoom}
use Rattle.lw_payload.specs.Totals.{total, IsOwned, Moves, Total}
use Rattle.lw_payload.proofs.TotalLaws.{stranger-none, IsOwned-moved, Moves-then}
use Rattle.lw_runs.specs.Kept.{AreSameButRoom}
use Rattle.lw_runs.proofs.HoldsLaws.{Moves-holds}
use Rattle.lw_runs.proofs.Stands.{Holds-same, same-append, same-eq}
use Rattle.lw_arp.specs.Neighbours.{packets}
use Rattle.lw_reass.specs.Table.{all_kept}
use Rattle.lw_layers.specs.declared.layers.Layers.{Layers}
use Rattle.lw_layers.specs.Claims.{IsClaimed, IsRefusedKind}
use Rattle.lw_layers.specs.Layers.{held_in, IsSameLayers}
use Rattle.lw_layers.proofs.MoveLaws.{IsOwned-by, Moves-back, Moves-by, Moves-front}

-- what holds of an option holds of what is there, and where nothing is there
pub in_some : {T : Type 0} (A : Type 0) (B : T → Type 0) (o : Option T) (x : T) → o ≡ Some x → MatchOption o A B → B x
in_some {T} A B o x is both = subst (λ (p : Option T). MatchOption p A B) is both

pub in_none : {T : Type 0} (A : Type 0) (B : T → Type 0) (o : Option T) → o ≡ None → MatchOption o A B → A
in_none {T} A B o is both = subst (λ (p : Option T). MatchOption p A B) is both

-- a stack that is the same but for room holds the same but for room
pub held_same : {P H : Type 0} (seen : P → View) (before after : Layers P H) → IsSameLayers seen before after → AreSameButRoom seen (held_in before) (held_in after)
held_same seen before after same =
    same-append seen (packets before.neighbours) (packets after.neighbours) (all_kept before.fragments) (all_kept after.fragments)
    (same-eq seen (packets before.neighbours) (packets after.neighbours) same.waiting) same.kept

-- a payload came out of the Home
pub claim_moves : {P : Type 0} (seen : P → View) (kind : Kind) (h k : HomeView) (p : P) → IsClaimed kind h k (seen p) → Moves h k (total seen h.pools.family []) (total seen h.pools.family (p ∷ []))
claim_moves seen kind h k p claimed = record {
  rows = λ s. let r = claimed.rows s in omega arith;
  weight = let w = claimed.weight in omega arith;
  pools = claimed.pools;
  counts = claimed.counts;
  strangers = let none = stranger-none h.pools.family (seen p) claimed.family claimed.short in omega arith;
}

-- with a frame and what the stack holds beside it
claimed_moves : {P : Type 0} (seen : P → View) (h k : HomeView) (frame next ram : P) (held after : List P) → IsSameButRoom (seen frame) (seen next) → AreSameButRoom seen held after → IsClaimed Ram h k (seen ram)
    → Moves h k (total seen h.pools.family (frame ∷ held)) (total seen h.pools.family (next ∷ ram ∷ after))
claimed_moves seen h k frame next ram held after one all claimed =
    let f = h.pools.family in
    Moves-then h h k (total seen f (frame ∷ held)) (total seen f (next ∷ after)) (total seen f (next ∷ ram ∷ after))
    (Moves-holds seen h f (frame ∷ held) (next ∷ after) (Holds-same seen (frame ∷ held) (next ∷ after) (one, all)))
    (Moves-back seen f h k after (ram ∷ after) (next ∷ []) (Moves-front seen f h k [] (ram ∷ []) after (claim_moves seen Ram h k ram claimed)))

-- all may be given then
pub claimed_owned : {P : Type 0} (seen : P → View) (h k : HomeView) (frame next ram : P) (held after : List P) → IsSameButRoom (seen frame) (seen next) → AreSameButRoom seen held after → IsClaimed Ram h k (seen ram)
    → IsOwned h (total seen h.pools.family (frame ∷ held)) → IsOwned k (total seen k.pools.family (next ∷ ram ∷ after))
claimed_owned seen h k frame next ram held after one all claimed owned =
    IsOwned-by seen k.pools.family h.pools.family k (next ∷ ram ∷ after) (sym (ap (λ (p : Pools). p.family) claimed.pools))
    (IsOwned-moved h k (total seen h.pools.family (frame ∷ held)) (total seen h.pools.family (next ∷ ram ∷ after)) owned (claimed_moves seen h k frame next ram held after one all claimed))

-- and when the frame was applied, what the stack holds is left
pub claimed_then : {P : Type 0} (seen : P → View) (h k l : HomeView) (frame next ram : P) (held after rest : List P) → IsSameButRoom (seen frame) (seen next) → AreSameButRoom seen held after → IsClaimed Ram h k (seen ram)
    → Moves k l (total seen k.pools.family (next ∷ ram ∷ after)) (total seen k.pools.family rest)
    → Moves h l (total seen h.pools.family (frame ∷ held)) (total seen h.pools.family rest)
claimed_then seen h k l frame next ram held after rest one all claimed moved =
    let f = h.pools.family in
    Moves-then h k l (total seen f (frame ∷ held)) (total seen f (next ∷ ram ∷ after)) (total seen f rest)
    (claimed_moves seen h k frame next ram held after one all claimed)
    (Moves-by seen f k.pools.family k l (next ∷ ram ∷ after) rest (ap (λ (p : Pools). p.family) claimed.pools) moved)

-- the Home refused a payload
pub refused_moves : {H : Type 0} (may_refuse : H → H → Kind → ℕ → Type 0) (home : H) (h k : HomeView) (kind : Kind) (t : Total) → IsRefusedKind may_refuse home h k kind → Moves h k t t
refused_moves may_refuse home h k kind t refused = record {
  rows = λ s. let r = refused.rows s in omega arith;
  weight = let w = refused.weight in omega arith;
  pools = refused.pools;
  counts = refused.counts;
  strangers = omega arith;
}

-- then the frame is spent, and what the stack holds is left
pub refused_then : {P H : Type 0} (seen : P → View) (may_refuse : H → H → Kind → ℕ → Type 0) (home : H) (h k l : HomeView) (frame next : P) (held after rest : List P) → IsSameButRoom (seen frame) (seen next) → AreSameButRoom seen held after
    → IsRefusedKind may_refuse home h k Ram
    → Moves k l (total seen k.pools.family (next ∷ [])) (total seen k.pools.family [])
    → rest ≡ after
    → Moves h l (total seen h.pools.family (frame ∷ held)) (total seen h.pools.family rest)
refused_then {P} seen may_refuse home h k l frame next held after rest one all refused spent is =
    let f = h.pools.family in
    subst (λ (ps : List P). Moves h l (total seen f (frame ∷ held)) (total seen f ps)) (sym is)
    (Moves-then h h l (total seen f (frame ∷ held)) (total seen f (next ∷ after)) (total seen f after)
    (Moves-holds seen h f (frame ∷ held) (next ∷ after) (Holds-same seen (frame ∷ held) (next ∷ after) (one, all)))
    (Moves-then h k l (total seen f (next ∷ after)) (total seen f (next ∷ after)) (total seen f after)
    (refused_moves may_refuse home h k Ram (total seen f (next ∷ after)) refused)
    (Moves-front seen f k l (next ∷ []) [] after (Moves-by seen f k.pools.family k l (next ∷ []) [] (ap (λ (p : Pools). p.family) refused.pools) spent))))
