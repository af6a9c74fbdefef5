-- What the calls of chains say of them as payloads.
use Rattle.std.proofs.Common.{◌≡◌, ℕ, ◌+◌, ◌-◌, ◌<◌, ◌≤◌, ⊎_elim, subst, Bool, true, false, cond, eqb, ◌&&◌, min, List, [], ◌∷◌, ◌++◌, length, map, refl, sym, ap, ◌∙◌, arith, length-append, eqb-true, eq-eqb}
use Rattle.std.specs.Prelude.{◌↔◌}
use Rattle.std.proofs.lemmas.Bool.{cases_lt}
use Rattle.std.proofs.lemmas.List.{length-map}
use Rattle.std.proofs.lemmas.List.Sums.{sum_by-append}
use Rattle.std.proofs.Common.{Result, Ok, Err}
use Rattle.std.specs.Result.{IfOk, OnErr}
use Rattle.atomic_table.specs.Seated.{TableId}
use Rattle.lw_payload.specs.declared.kinds.Kind.{Kind}
use Rattle.lw_payload.specs.declared.kinds.Kind.TheVariants.{Ram, Pool, Rom, Ref}
use Rattle.lw_payload.specs.declared.kinds.ShareFault.{ShareFault}
use Rattle.lw_payload.specs.Views.{Slot, HomeView, used_of}
use Rattle.lw_payload.specs.Views as views
use Rattle.lw_payload.specs.Calls.{IsCut, IsSameButRoom, IsJoined, IsShared}
use Rattle.lw_payload.specs.Calls as calls
use Rattle.lw_payload.proofs.RowLaws.{used_of-plus, used_of-le, no_rows_few}
use Rattle.lw_payload.proofs.FakeLaws.{used_of-held}
use Rattle.lw_payload.specs.Fake.{held_rows}
use Rattle.pbuf_seats.specs.declared.owner.Owner.{Owner}
use Rattle.pbuf_seats.specs.declared.owner.Owner.TheVariants.{Kept, Counted}
use Rattle.pbuf_seats.specs.Kept.{rows_at, number_of}
use Rattle.pbuf_seats.specs.Owners.{row_of, weight_of, adds_of, sharing, share_of}
use Rattle.pbuf_seats.specs.Seats.{SeatSeen}
use Rattle.pbuf_spans.specs.Parts.{Part, joined, rows_in, weight_in, least_adds, all_own, IsSpent, IsSameSeat}
use Rattle.lw_pbuf.specs.Chains.{ChainSeen, IsOf}
use Rattle.pbuf_spans.specs.Cuts.{IsCutTo}
use Rattle.pbuf_spans.specs.Shares.{handed, first_of, second_of}
use Rattle.lw_pbuf.specs.Shares.{IsSharedTo}
use Rattle.lw_pbuf.specs.Homes.{family_of, pools_of, home_of, payload_of}
use Rattle.pbuf_spans.proofs.Lists.{rows_in-cons, joined-append}

-- equal families are of equal tables
pub same_table : (t u : TableId) → family_of t ≡ family_of u → t ≡ u
same_table t u e =
    let a : t.words ≡ u.words = cc in
    let b : t.slots ≡ u.slots = cc in
    let d : t.views_name ≡ u.views_name = cc in
    let f : t.atom ≡ u.atom = cc in
    let g : t.block ≡ u.block = cc in
    let j : t.offset ≡ u.offset = cc in
    let k : t.slot_names ≡ u.slot_names = cc in
    λ i. record { words = a i; slots = b i; views_name = d i; atom = f i; block = g i; offset = j i; slot_names = k i }

-- what a payload and its Home ask of a chain and its seat
pub is_of : (h : SeatSeen) (c : ChainSeen) → views.IsOf (home_of h) (payload_of c) → IsOf h c
is_of h c of = record { table = same_table c.table h.holder.table of.family; listed = of.listed }

-- the pools of a seat stay
pub same_pools : (h k : SeatSeen) → IsSameSeat h k → (home_of k).pools ≡ (home_of h).pools
same_pools h k same = λ i. pools_of (same.table i) (same.sizes Ram i) (same.sizes Pool i) (same.sizes Rom i) (same.sizes Ref i) (same.right i) (same.claimed i)

pub same_counts : (h k : SeatSeen) → k.makes ≡ h.makes → (home_of k).counts ≡ (home_of h).counts
same_counts h k same = λ i. record { made = (same i).made; refused = (same i).refused; last_refused = (same i).last_refused; asked = (same i).asked }

-- the rows of one pbuf are of one slot
one_slot : (kind at : Kind) (place m n : ℕ) → used_of (rows_at kind place m) at n ≤ 1
one_slot kind at place m n =
    let less = used_of-le (rows_at kind place m) (held_rows kind (place ∷ [])) at n (λ s. each (eqb (number_of s.kind) (number_of kind)) (eqb s.place place) (eqb place s.place) (λ e. eq-eqb place s.place (sym (eqb-true s.place place e)))) in
    let most = used_of-held (place ∷ []) kind at n in
    omega arith
  where
    each : (t u v : Bool) → (u ≡ true → v ≡ true) → 0 < cond {A = ℕ} (t && u) m 0 → 0 < cond {A = ℕ} t (0 + cond {A = ℕ} v 1 0) 0
    each false u v same some = absurd (omega arith)
    each true false v same some = absurd (omega arith)
    each true true true same some = omega arith
    each true true false same some = absurd (let e = same refl in cc)

owner_slots : (o : Owner) (kind : Kind) (n : ℕ) → used_of (row_of o) kind n ≤ 1
owner_slots (Kept r) kind n = one_slot r.kind kind r.place (r.adds + 1) n
owner_slots (Counted h) kind n = no_rows_few kind n 1

-- the slots of a chain are no more than its pbufs
pub few_slots : (ps : List Part) (kind : Kind) (n : ℕ) → used_of (rows_in ps) kind n ≤ length ps
few_slots [] kind n = no_rows_few kind n 0
few_slots (p ∷ ps) kind n =
    let both = used_of-plus (row_of p.owner) (rows_in ps) (rows_in (p ∷ ps)) kind n (λ s. rows_in-cons p ps s) in
    let one = owner_slots p.owner kind n in
    let rest = few_slots ps kind n in
    omega arith

-- a cut, as the payload's
pub is_cut : (h k : SeatSeen) (p q : ChainSeen) (rest : List ℕ) → IsCutTo h k p.parts q.parts → joined q.parts ≡ rest → length q.parts ≤ length (joined q.parts) → p.room ≤ q.room → IsOf h p → IsOf k q → IsCut (home_of h) (home_of k) (payload_of p) (payload_of q) rest
is_cut h k p q rest cut octets few room of after = record {
  octets = octets;
  parts = cut.parts;
  room = room;
  shares = cut.adds;
  family = ap family_of (after.table ∙ (cut.same.table ∙ sym of.table));
  fewer = cut.fewer;
  few = λ kind n. let a = few_slots q.parts kind n in let b = ap length octets in omega arith;
  rows = cut.rows;
  weight = cut.weight;
  pools = same_pools h k cut.same;
  counts = same_counts h k cut.same.makes;
}

-- more room, and nothing else
pub is_same_but_room : (p q : ChainSeen) → q ≡ record { table = p.table; parts = p.parts; room = q.room } → IsSameButRoom (payload_of p) (payload_of q)
is_same_but_room p q same = let e = ap (λ (x : ChainSeen). x.parts) same in record {
  octets = ap joined e;
  parts = ap length e;
  shares = ap least_adds e;
  fresh = ap all_own e;
  rows = λ s. ap (λ (l : List Part). rows_in l s) e;
  weight = ap weight_in e;
  family = ap (λ (x : ChainSeen). family_of x.table) same;
}

least_both : (xs ys : List Part) → min (least_adds xs) (least_adds ys) ≤ least_adds (xs ++ ys)
least_both [] ys = omega arith
least_both (x ∷ xs) ys = let r = least_both xs ys in omega arith

-- two chains in one
pub is_joined : (p o q : ChainSeen) → q.parts ≡ p.parts ++ o.parts → q.table ≡ p.table → p.room ≤ q.room + length o.parts → IsJoined (payload_of p) (payload_of o) (payload_of q)
is_joined p o q parts table room = record {
  octets = ap joined parts ∙ joined-append p.parts o.parts;
  parts = ap length parts ∙ length-append p.parts o.parts;
  room = room;
  shares = let l = least_both p.parts o.parts in let e = ap least_adds parts in omega arith;
  rows = λ s. ap (λ (l : List Part). rows_in l s) parts ∙ sum_by-append (λ (x : Part). row_of x.owner s) p.parts o.parts;
  weight = ap weight_in parts ∙ sum_by-append (λ (x : Part). weight_of x.owner) p.parts o.parts;
  family = ap family_of table;
}

-- owners that are shared are of the same pbufs
chosen_some : (b : Bool) (m n : ℕ) → 0 < n → 0 < cond {A = ℕ} b m 0 → 0 < cond {A = ℕ} b n 0
chosen_some true m n some more = some
chosen_some false m n some more = more

first_some : (n : ℕ) (o : Owner) (s : Slot) → (0 < row_of (sharing n o) s) ↔ (0 < row_of o s)
first_some n (Kept r) s =
    let b = eqb (number_of s.kind) (number_of r.kind) && eqb s.place r.place in (
      chosen_some b (r.adds - (n + 1) + 1) (r.adds + 1) (omega arith),
      chosen_some b (r.adds + 1) (r.adds - (n + 1) + 1) (omega arith),
    )
first_some n (Counted h) s = (λ x. x, λ x. x)

second_some : (n : ℕ) (o : Owner) (s : Slot) → (0 < row_of (share_of n o) s) ↔ (0 < row_of o s)
second_some n (Kept r) s =
    let b = eqb (number_of s.kind) (number_of r.kind) && eqb s.place r.place in (
      chosen_some b (n + 1) (r.adds + 1) (omega arith),
      chosen_some b (r.adds + 1) (n + 1) (omega arith),
    )
second_some n (Counted h) s = (λ x. x, λ x. x)

sum_some : (a b x y : ℕ) → (0 < a → 0 < x) → (0 < b → 0 < y) → 0 < a + b → 0 < x + y
sum_some a b x y f g some = ⊎_elim (λ more. let u = f more in omega arith) (λ none. let u = g (omega arith) in omega arith) (cases_lt 0 a)

-- so the chains' rows are of the same slots
rows_some : (f : Part → Part) (ps : List Part) (s : Slot) → ((p : Part) → (0 < row_of (f p).owner s) ↔ (0 < row_of p.owner s)) → (0 < rows_in (map f ps) s) ↔ (0 < rows_in ps s)
rows_some f [] s each = (λ x. x, λ x. x)
rows_some f (p ∷ ps) s each =
    let a = rows_in-cons (f p) (map f ps) s in
    let b = rows_in-cons p ps s in
    let one = each p in
    let rest = rows_some f ps s each in (
      λ some. let u = sum_some (row_of (f p).owner s) (rows_in (map f ps) s) (row_of p.owner s) (rows_in ps s) one.0 rest.0 (omega arith) in omega arith,
      λ some. let u = sum_some (row_of p.owner s) (rows_in ps s) (row_of (f p).owner s) (rows_in (map f ps) s) one.1 rest.1 (omega arith) in omega arith,
    )

pub joined_firsts : (hands : Bool) (ps : List Part) → joined (map (first_of hands) ps) ≡ joined ps
joined_firsts hands [] = refl
joined_firsts hands (p ∷ ps) = ap (λ (l : List ℕ). p.octets ++ l) (joined_firsts hands ps)

pub joined_seconds : (hands : Bool) (ps : List Part) → joined (map (second_of hands) ps) ≡ joined ps
joined_seconds hands [] = refl
joined_seconds hands (p ∷ ps) = ap (λ (l : List ℕ). p.octets ++ l) (joined_seconds hands ps)

first_adds_left : (o : Owner) → adds_of (sharing 0 o) ≡ adds_of o - (0 + 1)
first_adds_left (Kept r) = refl
first_adds_left (Counted h) = refl

least_firsts : (ps : List Part) → least_adds ps ≤ least_adds (map (first_of false) ps) + 1
least_firsts [] = omega arith
least_firsts (p ∷ ps) = let r = least_firsts ps in let e = first_adds_left p.owner in omega arith

-- a share, as the payload's
pub is_shared : (h k : SeatSeen) (p q o : ChainSeen) → k ≡ h → IsSharedTo false p q o → IsShared (home_of h) (home_of k) (payload_of p) (payload_of q) (payload_of o)
is_shared h k p q o same s =
    let seat = ap home_of same in
    record {
      octets = ap joined s.first ∙ joined_firsts false p.parts;
      parts = ap length s.first ∙ length-map p.parts (first_of false);
      room = let r = s.room in omega arith;
      shares = let l = least_firsts p.parts in let e = ap least_adds s.first in omega arith;
      own_slots = λ t. subst (λ (l : List Part). (0 < rows_in l t) ↔ (0 < rows_in p.parts t)) (sym s.first) (rows_some (first_of false) p.parts t (λ x. first_some (handed false (adds_of x.owner)) x.owner t));
      family = ap family_of s.first_table;
      other_octets = ap joined s.second ∙ joined_seconds false p.parts;
      other_parts = ap length s.second ∙ length-map p.parts (second_of false);
      other_slots = λ t. subst (λ (l : List Part). (0 < rows_in l t) ↔ (0 < rows_in p.parts t)) (sym s.second) (rows_some (second_of false) p.parts t (λ x. second_some (handed false (adds_of x.owner)) x.owner t));
      other_family = ap family_of s.second_table;
      rows = λ t. let r = s.rows t in let e = ap (λ (x : HomeView). x.rows t) seat in omega arith;
      weight = let w = s.weight in let e = ap (λ (x : HomeView). x.weight) seat in omega arith;
      pools = ap (λ (x : HomeView). x.pools) seat;
      counts = ap (λ (x : HomeView). x.counts) seat;
    }

-- a chain that was given up, as the payload's
pub is_spent : (h k : SeatSeen) (c : ChainSeen) → IsSpent h k c.parts → calls.IsSpent (home_of h) (home_of k) (payload_of c)
is_spent h k c spent = record { rows = spent.rows; weight = spent.weight; pools = same_pools h k spent.same; counts = same_counts h k spent.same.makes }

pub shared_ok : (h k : SeatSeen) (p q : ChainSeen) (r : Result ChainSeen ShareFault) → k ≡ h → IfOk r (λ o. IsSharedTo false p q o) → IfOk r (λ o. IsShared (home_of h) (home_of k) (payload_of p) (payload_of q) (payload_of o))
shared_ok h k p q (Ok o) same s = is_shared h k p q o same s
shared_ok h k p q (Err f) same s = tt

pub shared_err : (h k : SeatSeen) (p q : ChainSeen) (r : Result ChainSeen ShareFault) → k ≡ h → OnErr r (q ≡ p) → OnErr r ((payload_of q ≡ payload_of p) × (home_of k ≡ home_of h))
shared_err h k p q (Ok o) same s = tt
shared_err h k p q (Err f) same s = (ap payload_of s, ap home_of same)
