-- What a core holds stays of its Home, whatever comes of an event.
use Rattle.std.proofs.Common.{ℕ, ◌≡◌, ◌++◌, List, [], ◌∷◌, All, ap, flat_map, subst, sym, refl, arith}
use Rattle.std.specs.List.{AllZip}
use Rattle.lw_payload.specs.declared.kinds.Kind.{Kind}
use Rattle.lw_payload.specs.Views.{View, HomeView}
use Rattle.lw_payload.specs.Calls.{IsSameButRoom}
use Rattle.lw_payload.specs.Totals.{IsOwned, IsSameTotal, IsSum, Moves, Total, total}
use Rattle.lw_payload.proofs.TotalLaws.{IsOwned-moved, IsOwned-right, IsOwned-same, IsSameTotal-room, IsSameTotal-self, IsSum-append, IsSum-cons}
use Rattle.lw_events.specs.declared.entry.Post.{Post}
use Rattle.lw_boxes.specs.Shelf.{Shelf}
use Rattle.lw_layers.specs.Posts.{IsPosting}
use Rattle.lw_layers.proofs.PostLaws.{unposted_moves}
use Rattle.lw_core.specs.Held.{CoreSeen, IsSameCore, held_by}
use Rattle.lwip_run.specs.Plain.{IsAtHome, IsBody, NeverRefuses}

-- sums of the same are the same
same_sum : (t u v t' u' v' : Total) → IsSum t u v → IsSum t' u' v' → IsSameTotal u u' → IsSameTotal v v' → IsSameTotal t t'
same_sum t u v t' u' v' first second left right = record {
  rows = λ s. let a = first.rows s in let b = second.rows s in let l = left.rows s in let r = right.rows s in omega arith;
  weight = let a = first.weight in let b = second.weight in let l = left.weight in let r = right.weight in omega arith;
  strangers = let a = first.strangers in let b = second.strangers in let l = left.strangers in let r = right.strangers in omega arith;
}

-- payloads that differ in room alone come to the same
same_but_room : {P : Type 0} (seen : P → View) (family : List ℕ) (ps qs : List P) → AllZip (λ p q. IsSameButRoom (seen p) (seen q)) ps qs
    → IsSameTotal (total seen family ps) (total seen family qs)
same_but_room seen family [] [] same = IsSameTotal-self (total seen family [])
same_but_room seen family [] (q ∷ qs) same = absurd same
same_but_room seen family (p ∷ ps) [] same = absurd same
same_but_room seen family (p ∷ ps) (q ∷ qs) same =
    same_sum (total seen family (p ∷ ps)) (total seen family (p ∷ [])) (total seen family ps)
    (total seen family (q ∷ qs)) (total seen family (q ∷ [])) (total seen family qs)
    (IsSum-cons seen family p ps) (IsSum-cons seen family q qs) (IsSameTotal-room seen family p q same.0) (same_but_room seen family ps qs same.1)

-- so does what a core holds that is the same but for room
same_core : {P : Type 0} (seen : P → View) (family : List ℕ) (c d : CoreSeen P) → IsSameCore seen c d
    → IsSameTotal (total seen family (held_by c)) (total seen family (held_by d))
same_core {P} seen family c d same =
    let kept : CoreSeen P → List P = λ (x : CoreSeen P). flat_map (λ (ps : List P). ps) x.kept in
    let waiting = subst (λ (ps : List P). IsSameTotal (total seen family c.waiting) (total seen family ps)) (sym same.waiting) (IsSameTotal-self (total seen family c.waiting)) in
    same_sum (total seen family (held_by c)) (total seen family c.waiting) (total seen family (kept c))
    (total seen family (held_by d)) (total seen family d.waiting) (total seen family (kept d))
    (IsSum-append seen family c.waiting (kept c)) (IsSum-append seen family d.waiting (kept d)) waiting
    (same_but_room seen family (kept c) (kept d) same.kept)

-- a core that holds nothing is of any Home
pub begins_home : {P H : Type 0} (seen : P → View) (home_seen : H → HomeView) (may_refuse : H → H → Kind → ℕ → Type 0) (home : H) (held : List P) (left : List (List ℕ))
    → NeverRefuses home_seen may_refuse → held ≡ [] → All IsBody left → IsAtHome seen home_seen may_refuse home held left
begins_home {P} seen home_seen may_refuse home held left never none frames =
    let h = home_seen home in
    record {
      never = never;
      owned = subst (λ (ps : List P). IsOwned h (total seen h.pools.family ps)) (sym none) (record { rows = λ s. omega arith; strangers = refl });
      frames = frames;
    }

-- a core that is the same but for room, at a Home that is seen as before
pub same_home : {P H : Type 0} (seen : P → View) (home_seen : H → HomeView) (may_refuse : H → H → Kind → ℕ → Type 0) (home after : H) (c d : CoreSeen P)
    (left : List (List ℕ)) → home_seen after ≡ home_seen home → IsSameCore seen c d
    → IsAtHome seen home_seen may_refuse home (held_by c) left → IsAtHome seen home_seen may_refuse after (held_by d) left
same_home seen home_seen may_refuse home after c d left is same at =
    let h = home_seen home in
    let family = h.pools.family in
    record {
      never = at.never;
      owned =
          subst (λ (k : HomeView). IsOwned k (total seen k.pools.family (held_by d))) (sym is)
          (IsOwned-same h (total seen family (held_by c)) (total seen family (held_by d)) (same_core seen family c d same) at.owned);
      frames = at.frames;
    }

-- a Home that is seen as before
pub like_home : {P H : Type 0} (seen : P → View) (home_seen : H → HomeView) (may_refuse : H → H → Kind → ℕ → Type 0) (home after : H) (held : List P)
    (left : List (List ℕ)) → home_seen after ≡ home_seen home
    → IsAtHome seen home_seen may_refuse home held left → IsAtHome seen home_seen may_refuse after held left
like_home seen home_seen may_refuse home after held left is at = record {
  never = at.never;
  owned = subst (λ (k : HomeView). IsOwned k (total seen k.pools.family held)) (sym is) at.owned;
  frames = at.frames;
}

-- what moved between payloads and their Home
pub moved_home : {P H : Type 0} (seen : P → View) (home_seen : H → HomeView) (may_refuse : H → H → Kind → ℕ → Type 0) (home made after : H) (before held now : List P)
    (left : List (List ℕ)) → IsOwned (home_seen made) (total seen (home_seen made).pools.family held)
    → Moves (home_seen made) (home_seen after) (total seen (home_seen made).pools.family held) (total seen (home_seen made).pools.family now)
    → IsAtHome seen home_seen may_refuse home before left → IsAtHome seen home_seen may_refuse after now left
moved_home seen home_seen may_refuse home made after before held now left owned moves at =
    let h = home_seen made in
    let k = home_seen after in
    let family : h.pools.family ≡ k.pools.family = sym (ap (λ pools. pools.family) moves.pools) in
    record {
      never = at.never;
      owned =
          subst (λ (f : List ℕ). IsOwned k (total seen f now)) family
          (IsOwned-moved h k (total seen h.pools.family held) (total seen h.pools.family now) owned moves);
      frames = at.frames;
    }

-- a Home out of which a payload came that is owned beside what was
pub made_home : {P H : Type 0} (seen : P → View) (home_seen : H → HomeView) (may_refuse : H → H → Kind → ℕ → Type 0) (home made : H) (p : P) (held : List P)
    (left : List (List ℕ)) → IsOwned (home_seen made) (total seen (home_seen made).pools.family (p ∷ held))
    → IsAtHome seen home_seen may_refuse home held left → IsAtHome seen home_seen may_refuse made held left
made_home seen home_seen may_refuse home made p held left owned at =
    let k = home_seen made in
    let family = k.pools.family in
    record {
      never = at.never;
      owned = IsOwned-right k (total seen family (p ∷ held)) (total seen family (p ∷ [])) (total seen family held) (IsSum-cons seen family p held) owned;
      frames = at.frames;
    }

-- what moved over an event that posted nothing
pub posted_home : {P H : Type 0} (seen : P → View) (home_seen : H → HomeView) (may_refuse : H → H → Kind → ℕ → Type 0) (home made after : H) (before held now : List P)
    (left : List (List ℕ)) (posts : List Post) (shelf posted : Shelf P) → IsOwned (home_seen made) (total seen (home_seen made).pools.family held)
    → IsPosting seen (home_seen made) (home_seen after) posts shelf posted held now → posts ≡ []
    → IsAtHome seen home_seen may_refuse home before left → IsAtHome seen home_seen may_refuse after now left
posted_home seen home_seen may_refuse home made after before held now left posts shelf posted owned posting none at =
    moved_home seen home_seen may_refuse home made after before held now left owned
    (unposted_moves seen (home_seen made) (home_seen after) posts shelf posted held now none posting) at
