-- Owners of pbufs: how they are looked at, given up and added.
use Rattle.std.proofs.Common.{◌≡◌, ℕ, zero, suc, ◌+◌, ◌<◌, ◌≤◌, Bool, true, ◌&&◌, cond, min, eq-eqb, List, [], ◌∷◌, ◌++◌, length, map, set, take, drop, get_or, All, Some, refl, sym, ap, ◌∙◌, subst, arith, length-append, length-take, length-set, append_assoc}
use Rattle.std.specs.Prelude.{sum_by}
use Rattle.std.proofs.lemmas.List.{length-map, drop-drop, drop_more, take_more, take_more_set, drop-set-lt, take_all, drop_all, map_push, get_or-drop}
use Rattle.std.proofs.lemmas.List.Elements.{All-pop, All-get_or}
use Rattle.std.proofs.lemmas.List.Sums.{sum_by-cons, sum_by_push}
use Rattle.atomic_table.specs.Seated.{TableId}
use Rattle.lw_payload.specs.declared.kinds.Kind.{Kind}
use Rattle.lw_payload.specs.Views.{Slot}
use Rattle.pbuf_counts.specs.Holders.{Known}
use Rattle.pbuf_seats.specs.declared.owner.Owner.{Owner}
use Rattle.pbuf_seats.specs.declared.owner.Owner.TheVariants.{Kept, Counted}
use Rattle.pbuf_seats.specs.declared.pbuf.Pbuf.{Pbuf}
use Rattle.pbuf_seats.specs.Kept.{counts_of, rows_of, rows_at, number_of}
use Rattle.pbuf_seats.specs.Owners.{IsOwner, GaveUp, row_of, weight_of, adds_of, slot_of, ended_at}
use Rattle.pbuf_seats.specs.Seats.{SeatSeen}
use Rattle.pbuf_spans.specs.Parts.{Part, rows_in, weight_in, least_adds, IsUnder, IsSameSeat, IsSpent, GivesBack}
use Rattle.pbuf_spans.specs.Spans.{bare}
use Rattle.pbuf_spans.specs.Shares.{first_held, second_held, MayShare, OwnersShared}
use Rattle.pbuf_spans.proofs.Spans.{bare_owners}

-- Sums over owners

-- a sum over changed elements
pub sum_by-map : {X Y : Type 0} (f : Y → ℕ) (g : X → Y) (e : X → ℕ) → ((x : X) → f (g x) ≡ e x) → (xs : List X) → sum_by f (map g xs) ≡ sum_by e xs
sum_by-map f g e same [] = refl
sum_by-map f g e same (x ∷ xs) =
    let a = sum_by-cons f (g x) (map g xs) in
    let b = sum_by-cons e x xs in
    let s = same x in
    let r = sum_by-map f g e same xs in
    omega arith

rows_bare : (ps : List Pbuf) (s : Slot) → rows_in (bare ps) s ≡ sum_by (λ (p : Pbuf). row_of p.owner s) ps
rows_bare ps s = sum_by-map (λ (q : Part). row_of q.owner s) (λ (p : Pbuf). record { owner = p.owner; octets = []; own = true }) (λ (p : Pbuf). row_of p.owner s) (λ p. refl) ps

weight_bare : (ps : List Pbuf) → weight_in (bare ps) ≡ sum_by (λ (p : Pbuf). weight_of p.owner) ps
weight_bare ps = sum_by-map (λ (q : Part). weight_of q.owner) (λ (p : Pbuf). record { owner = p.owner; octets = []; own = true }) (λ (p : Pbuf). weight_of p.owner) (λ p. refl) ps

rows_bare-cons : (p : Pbuf) (ps : List Pbuf) (s : Slot) → rows_in (bare (p ∷ ps)) s ≡ row_of p.owner s + rows_in (bare ps) s
rows_bare-cons p ps s = let a = rows_bare (p ∷ ps) s in let b = rows_bare ps s in let c = sum_by-cons (λ (q : Pbuf). row_of q.owner s) p ps in omega arith

weight_bare-cons : (p : Pbuf) (ps : List Pbuf) → weight_in (bare (p ∷ ps)) ≡ weight_of p.owner + weight_in (bare ps)
weight_bare-cons p ps = let a = weight_bare (p ∷ ps) in let b = weight_bare ps in let c = sum_by-cons (λ (q : Pbuf). weight_of q.owner) p ps in omega arith

rows_bare-push : (ps : List Pbuf) (p : Pbuf) (s : Slot) → rows_in (bare (ps ++ p ∷ [])) s ≡ rows_in (bare ps) s + row_of p.owner s
rows_bare-push ps p s = let a = rows_bare (ps ++ p ∷ []) s in let b = rows_bare ps s in let c = sum_by_push (λ (q : Pbuf). row_of q.owner s) ps p in omega arith

weight_bare-push : (ps : List Pbuf) (p : Pbuf) → weight_in (bare (ps ++ p ∷ [])) ≡ weight_in (bare ps) + weight_of p.owner
weight_bare-push ps p = let a = weight_bare (ps ++ p ∷ []) in let b = weight_bare ps in let c = sum_by_push (λ (q : Pbuf). weight_of q.owner) ps p in omega arith

-- the least of the adds, one pbuf on
pub least_here : (ps : List Pbuf) (i : ℕ) (p : Pbuf) → i < length ps → p ≡ get_or ps i p → least_adds (bare (drop i ps)) ≡ min (adds_of p.owner) (least_adds (bare (drop (i + 1) ps)))
least_here ps i p inside is = ap (λ (l : List Pbuf). least_adds (bare l)) (drop_more ps i p inside) ∙ ap (λ (q : Pbuf). min (adds_of q.owner) (least_adds (bare (drop (i + 1) ps)))) (sym is)

pub least_end : (ps : List Pbuf) (i : ℕ) → length ps ≤ i → least_adds (bare (drop i ps)) ≡ 65534
least_end ps i past = ap (λ (l : List Pbuf). least_adds (bare l)) (drop_all i ps past)

-- Seats

pub same_seat : (h : SeatSeen) → IsSameSeat h h
same_seat h = record { table = refl; right = refl; sizes = λ kind. refl; makes = refl; splits = refl; claimed = refl }

pub same_then : (h k l : SeatSeen) → IsSameSeat h k → IsSameSeat k l → IsSameSeat h l
same_then h k l a b = record {
  table = b.table ∙ a.table;
  right = b.right ∙ a.right;
  sizes = λ kind. b.sizes kind ∙ a.sizes kind;
  makes = b.makes ∙ a.makes;
  splits = b.splits ∙ a.splits;
  claimed = b.claimed ∙ a.claimed;
}

own_row : (kind : Kind) (place n : ℕ) → rows_at kind place n record { kind = kind; place = place } ≡ n
own_row kind place n = λ i. cond (eq-eqb (number_of kind) (number_of kind) refl i && eq-eqb place place refl i) n 0

-- an owner whose rows the seat gave out, and which is under its counts, may be given up to it
pub may_give : (h : SeatSeen) (o : Owner) → IsUnder h.holder.table o → ((s : Slot) → row_of o s ≤ rows_of h.kept s) → IsOwner h o
may_give h (Kept r) under listed = let l = listed (slot_of r) in let e = own_row r.kind r.place (r.adds + 1) in omega arith
may_give h (Counted c) under listed = under

-- Owners that are given up one after another

gave_same : (h k : SeatSeen) (o : Owner) (last : Bool) → GaveUp h o last k → ((j : Kind) → length (counts_of j k.kept) ≡ length (counts_of j h.kept)) → IsSameSeat h k
gave_same h k (Kept r) last g sizes = let e = g.1 in record {
  table = ap (λ (x : SeatSeen). x.holder.table) e;
  right = ap (λ (x : SeatSeen). x.holder.rights) e;
  sizes = sizes;
  makes = ap (λ (x : SeatSeen). x.makes) e;
  splits = ap (λ (x : SeatSeen). x.splits) e;
  claimed = ap (λ (x : SeatSeen). x.claimed) e;
}
gave_same h k (Counted o) last g sizes = let e = g.1 in let t = g.0.3 in record {
  table = ap (λ (x : Known). x.table) t;
  right = ap (λ (x : Known). x.rights) t;
  sizes = sizes;
  makes = ap (λ (x : SeatSeen). x.makes) e;
  splits = ap (λ (x : SeatSeen). x.splits) e;
  claimed = ap (λ (x : SeatSeen). x.claimed) e;
}

pub gives_back : (h k : SeatSeen) (o : Owner) (last : Bool) → GaveUp h o last k → GivesBack h.holder k.holder
gives_back h k (Kept r) last g = record { later = []; finds = ap (λ (x : SeatSeen). x.holder.found) g.1; gets = ap (λ (x : SeatSeen). x.holder.got) g.1 }
gives_back h k (Counted o) last g = record { later = (o.place, g.0.0) ∷ []; finds = ap (λ (x : Known). x.found) g.0.3; gets = ap (λ (x : Known). x.got) g.0.3 }

pub spent_one : (h k : SeatSeen) (p : Pbuf) (last : Bool) → ((s : Slot) → rows_of k.kept s + row_of p.owner s ≡ rows_of h.kept s) → k.holder.weight ≡ h.holder.weight + weight_of p.owner
    → GaveUp h p.owner last k → ((j : Kind) → length (counts_of j k.kept) ≡ length (counts_of j h.kept)) → IsSpent h k (bare (p ∷ []))
spent_one h k p last rows weight gave sizes = record {
  rows = λ s. let r = rows s in let o = rows_bare-cons p [] s in omega arith;
  weight = let o = weight_bare-cons p [] in omega arith;
  same = gave_same h k p.owner last gave sizes;
}

back_both : (h k l : Known) → GivesBack h k → GivesBack k l → GivesBack h l
back_both h k l a b = record {
  later = b.later ++ a.later;
  finds = b.finds ∙ (ap (λ (x : List (ℕ × ℕ)). b.later ++ x) a.finds ∙ sym (append_assoc b.later a.later h.found));
  gets = b.gets ∙ a.gets;
}

-- of the pbufs of a list, `rest` are still to be given up; the others were given up to the seat h, which is k now
pub record Frees (h k : SeatSeen) (t : TableId) (pbufs rest : List Pbuf) (ended : ℕ) : Type 0 where
  pub under : All (λ p. IsUnder t p.owner) rest
  pub home : k.holder.table ≡ t
  pub rows : (s : Slot) → rows_of k.kept s + rows_in (bare pbufs) s ≡ rows_of h.kept s + rows_in (bare rest) s
  pub listed : (s : Slot) → rows_in (bare rest) s ≤ rows_of k.kept s
  pub weight : k.holder.weight + weight_in (bare rest) ≡ h.holder.weight + weight_in (bare pbufs)
  pub same : IsSameSeat h k
  pub back : GivesBack h.holder k.holder
  pub few : ended + length rest ≤ length pbufs
  pub ends : ended_at k ≡ ended_at h + ended

pub frees_first : (h : SeatSeen) (ps : List Pbuf) → All (λ p. IsUnder h.holder.table p.owner) ps → ((s : Slot) → rows_in (bare ps) s ≤ rows_of h.kept s) → Frees h h h.holder.table ps ps 0
frees_first h ps all listed = record {
  under = all;
  home = refl;
  rows = λ s. refl;
  listed = listed;
  weight = refl;
  same = same_seat h;
  back = record { later = []; finds = refl; gets = refl };
  few = omega arith;
  ends = omega arith;
}

module _ (h k : SeatSeen) (t : TableId) (pbufs rest more : List Pbuf) (p : Pbuf) (ended : ℕ) (f : Frees h k t pbufs rest ended) (is : rest ≡ more ++ p ∷ []) where
  last_rows : (s : Slot) → rows_in (bare rest) s ≡ rows_in (bare more) s + row_of p.owner s
  last_rows s = ap (λ (l : List Pbuf). rows_in (bare l) s) is ∙ rows_bare-push more p s

  all_here : All (λ q. IsUnder t q.owner) more × IsUnder t p.owner
  all_here = All-pop (λ (q : Pbuf). IsUnder t q.owner) rest more (Some p) is f.under

  pub frees_owner : IsOwner k p.owner
  frees_owner = may_give k p.owner (subst (λ (u : TableId). IsUnder u p.owner) (sym f.home) all_here.1) (λ s. let a = last_rows s in let l = f.listed s in omega arith)

  pub frees_next : (l : SeatSeen) (b : ℕ) → IsSpent k l (bare (p ∷ [])) → GivesBack k.holder l.holder → ended_at l ≡ ended_at k + b → b ≤ 1 → Frees h l t pbufs more (ended + b)
  frees_next l b spent back end small = record {
    under = all_here.0;
    home = spent.same.table ∙ f.home;
    rows = λ s. let a = last_rows s in let r = f.rows s in let q = spent.rows s in let o = rows_bare-cons p [] s in omega arith;
    listed = λ s. let a = last_rows s in let l = f.listed s in let q = spent.rows s in let o = rows_bare-cons p [] s in omega arith;
    weight = let a = ap (λ (l : List Pbuf). weight_in (bare l)) is ∙ weight_bare-push more p in let r = f.weight in let q = spent.weight in let o = weight_bare-cons p [] in omega arith;
    same = same_then h k l f.same spent.same;
    back = back_both h.holder k.holder l.holder f.back back;
    few = let l = ap (λ (l : List Pbuf). length l) is in let n = length-append more (p ∷ []) in let w = f.few in omega arith;
    ends = let e = f.ends in omega arith;
  }

pub frees_last : (h k : SeatSeen) (t : TableId) (pbufs rest : List Pbuf) (ended : ℕ) → Frees h k t pbufs rest ended → length rest ≡ 0 → IsSpent h k (bare pbufs)
frees_last h k t pbufs [] ended f none = record {
  rows = λ s. let r = f.rows s in omega arith;
  weight = let r = f.weight in omega arith;
  same = f.same;
}
frees_last h k t pbufs (p ∷ ps) ended f none = absurd (omega arith)

-- Owners that are added one after another

rows_read : (ps : List Pbuf) (i : ℕ) (p : Pbuf) (s : Slot) → i < length ps → p ≡ get_or ps i p → row_of p.owner s ≤ rows_in (bare ps) s
rows_read [] i p s inside is = absurd (omega arith)
rows_read (x ∷ xs) zero p s inside is = let a = rows_bare-cons x xs s in let e = ap (λ (y : Pbuf). row_of y.owner s) is in omega arith
rows_read (x ∷ xs) (suc i) p s inside is = let a = rows_bare-cons x xs s in let r = rows_read xs i p s (omega arith) is in omega arith

adds_read : (xs : List Pbuf) (j : ℕ) (p : Pbuf) → 0 < least_adds (bare xs) → j < length xs → p ≡ get_or xs j p → 0 < adds_of p.owner
adds_read [] j p s l e = absurd (omega arith)
adds_read (x ∷ xs) zero p s l e = let f = ap (λ (y : Pbuf). adds_of y.owner) e in omega arith
adds_read (x ∷ xs) (suc j) p s l e = adds_read xs j p (omega arith) (omega arith) e

-- what stands at a place, from what is left from it on
read_left : (ps qs : List Pbuf) (i : ℕ) (p : Pbuf) → drop i qs ≡ drop i ps → p ≡ get_or qs i p → p ≡ get_or ps i p
read_left ps qs i p same is = is ∙ (back qs ∙ (ap (λ (l : List Pbuf). get_or l 0 p) same ∙ sym (back ps)))
  where
    back : (l : List Pbuf) → get_or l i p ≡ get_or (drop i l) 0 p
    back l = ap (λ (k : ℕ). get_or l k p) (let z : i ≡ i + 0 = omega arith in z) ∙ sym (get_or-drop i l 0 p)

next_left : (ps qs : List Pbuf) (i : ℕ) → drop i qs ≡ drop i ps → drop (i + 1) qs ≡ drop (i + 1) ps
next_left ps qs i same = sym (drop-drop 1 i qs) ∙ (ap (drop 1) same ∙ drop-drop 1 i ps)

-- the pbufs ps, which are qs now, were shared below i, and ms have the new owners
pub record Owns (hands : Bool) (ps qs ms : List Pbuf) (i : ℕ) : Type 0 where
  pub done : take i qs ≡ map (first_held hands) (take i ps)
  pub made : ms ≡ map (second_held hands) (take i ps)
  pub behind : drop i qs ≡ drop i ps
  pub count : length qs ≡ length ps
  pub rows : (s : Slot) → rows_in (bare (take i qs)) s + rows_in (bare ms) s ≡ rows_in (bare (take i ps)) s
  pub weight : weight_in (bare (take i qs)) + weight_in (bare ms) ≡ weight_in (bare (take i ps))

pub owns_first : (hands : Bool) (ps ms : List Pbuf) → ms ≡ [] → Owns hands ps ps ms 0
owns_first hands ps ms none = record {
  done = refl;
  made = none;
  behind = refl;
  count = refl;
  rows = λ s. let e = ap (λ (l : List Pbuf). rows_in (bare l) s) none in omega arith;
  weight = let e = ap (λ (l : List Pbuf). weight_in (bare l)) none in omega arith;
}

-- there are as many new owners as pbufs were shared
pub owns_few : (hands : Bool) (ps qs ms : List Pbuf) (i : ℕ) → Owns hands ps qs ms i → i ≤ length ps → length ms ≡ i
owns_few hands ps qs ms i a inside = let m = ap length a.made in let n = length-map (take i ps) (second_held hands) in let t = length-take i ps in omega arith

module _ (hands : Bool) (ps qs ms : List Pbuf) (i : ℕ) (p : Pbuf) (a : Owns hands ps qs ms i) (inside : i < length qs) (is : p ≡ get_or qs i p) where
  at : p ≡ get_or ps i p
  at = read_left ps qs i p a.behind is

  within : i < length ps
  within = let c = a.count in omega arith

  -- the owner there may be shared
  pub owns_owner : (h : SeatSeen) → MayShare h (bare ps) → IsOwner h p.owner
  owns_owner h may =
      let mine : IsUnder h.holder.table p.owner = subst (λ (y : Pbuf). IsUnder h.holder.table y.owner) (sym at) (All-get_or (λ (q : Pbuf). IsUnder h.holder.table q.owner) ps i p within (bare_owners (IsUnder h.holder.table) ps may.under)) in
      may_give h p.owner mine (λ s. let r = rows_read ps i p s within at in let l = may.listed s in omega arith)

  pub owns_adds : (h : SeatSeen) → MayShare h (bare ps) → 0 < adds_of p.owner
  owns_adds h may = adds_read ps i p may.adds within at

  pub owns_next : (rs ns : List Pbuf) (q n : Pbuf) → q ≡ first_held hands p → n ≡ second_held hands p → rs ≡ set qs i q → ns ≡ ms ++ n ∷ [] → weight_of q.owner + weight_of n.owner ≡ weight_of p.owner
      → ((s : Slot) → row_of q.owner s + row_of n.owner s ≡ row_of p.owner s) → Owns hands ps rs ns (i + 1)
  owns_next rs ns q n first second now after sum more =
      let all : (g : Pbuf → Pbuf) → map g (take (i + 1) ps) ≡ map g (take i ps) ++ g p ∷ [] = λ g. ap (map g) (take_more ps i p within) ∙ (map_push g (take i ps) (get_or ps i p) ∙ ap (λ (y : Pbuf). map g (take i ps) ++ g y ∷ []) (sym at)) in
      let more_qs : take (i + 1) (set qs i q) ≡ take i qs ++ q ∷ [] = take_more_set qs i q inside in
      let more_ps : take (i + 1) ps ≡ take i ps ++ p ∷ [] = take_more ps i p within ∙ ap (λ (y : Pbuf). take i ps ++ y ∷ []) (sym at) in
      subst (λ (x : List Pbuf). Owns hands ps x ns (i + 1)) (sym now) (subst (λ (x : List Pbuf). Owns hands ps (set qs i q) x (i + 1)) (sym after) record {
        done = more_qs ∙ (ap (λ (x : List Pbuf). x ++ q ∷ []) a.done ∙ (ap (λ (y : Pbuf). map (first_held hands) (take i ps) ++ y ∷ []) first ∙ sym (all (first_held hands))));
        made = ap (λ (x : List Pbuf). x ++ n ∷ []) a.made ∙ (ap (λ (y : Pbuf). map (second_held hands) (take i ps) ++ y ∷ []) second ∙ sym (all (second_held hands)));
        behind = drop-set-lt (i + 1) qs i q (omega arith) ∙ next_left ps qs i a.behind;
        count = length-set qs i q ∙ a.count;
        rows = λ s.
            let e = a.rows s in
            let f = ap (λ (x : List Pbuf). rows_in (bare x) s) more_qs in
            let j = ap (λ (x : List Pbuf). rows_in (bare x) s) more_ps in
            let b = rows_bare-push (take i qs) q s in
            let d = rows_bare-push ms n s in
            let o = rows_bare-push (take i ps) p s in
            let m = more s in
            omega arith;
        weight = let e = a.weight in let f = ap (λ (x : List Pbuf). weight_in (bare x)) more_qs in let j = ap (λ (x : List Pbuf). weight_in (bare x)) more_ps in let b = weight_bare-push (take i qs) q in let d = weight_bare-push ms n in let o = weight_bare-push (take i ps) p in omega arith;
      })

pub owns_last : (hands : Bool) (ps qs ms : List Pbuf) (i : ℕ) → Owns hands ps qs ms i → length ps ≤ i → OwnersShared hands ps qs ms
owns_last hands ps qs ms i a past =
    let c = a.count in
    let x = take_all i qs (omega arith) in
    let z = take_all i ps past in
    record {
      first = sym x ∙ (a.done ∙ ap (map (first_held hands)) z);
      second = a.made ∙ ap (map (second_held hands)) z;
      rows = λ s. let e = a.rows s in let f = ap (λ (l : List Pbuf). rows_in (bare l) s) x in let j = ap (λ (l : List Pbuf). rows_in (bare l) s) z in omega arith;
      weight = let e = a.weight in let f = ap (λ (l : List Pbuf). weight_in (bare l)) x in let j = ap (λ (l : List Pbuf). weight_in (bare l)) z in omega arith;
    }
