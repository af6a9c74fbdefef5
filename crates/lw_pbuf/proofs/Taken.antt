-- Pbufs that are taken from a seat one after another.
use Rattle.std.proofs.Common.{◌≡◌, ℕ, ◌+◌, ◌-◌, ◌*◌, ◌<◌, ◌≤◌, min, Bool, true, false, cond, ◌&&◌, List, [], ◌∷◌, ◌++◌, length, take, drop, All, Option, Some, None, refl, sym, ap, ◌∙◌, subst, arith, length-append, eqb, eq-eqb, eqb-true}
use Rattle.std.specs.Option.{IfSome, IsSome, IsNone}
use Rattle.std.specs.Prelude.{◌↔◌}
use Rattle.std.proofs.lemmas.Bool.{false≢true}
use Rattle.std.proofs.lemmas.List.{take-append-le, take_all}
use Rattle.std.proofs.lemmas.List.Sums.{sum_by_push}
use Rattle.std.proofs.lemmas.List.Elements.{All-push, All-nil, All-cons}
use mathlib.Core.Logic.{dite}
use native.Mathlib.Decide.{dec_le}
use Rattle.atomic_table.specs.Seated.{TableId}
use Rattle.lw_payload.specs.declared.kinds.Kind.{Kind}
use Rattle.lw_payload.specs.declared.kinds.Kind.TheVariants.{Ram, Pool, Rom, Ref}
use Rattle.lw_payload.specs.Views.{Slot, pbufs_of, pool_one}
use Rattle.pbuf_counts.specs.Owners.{claim_weight, first_adds, times}
use Rattle.pbuf_counts.specs.Holders.{Known, owner_of}
use Rattle.pbuf_seats.specs.declared.owner.Owner.{Owner}
use Rattle.pbuf_seats.specs.declared.owner.Owner.TheVariants.{Kept, Counted}
use Rattle.pbuf_seats.specs.Owners.{row_of, weight_of, adds_of}
use Rattle.pbuf_seats.specs.Kept.{counts_of, rows_of, rows_at, number_of, is_at}
use Rattle.pbuf_seats.specs.Seats.{SeatSeen, IsInUse}
use Rattle.pbuf_seats.specs.declared.pbuf.Pbuf.{Pbuf}
use Rattle.pbuf_spans.specs.Parts.{Part, rows_in, weight_in, IsUnder}
use Rattle.pbuf_spans.specs.Spans.{lens, parts_of}
use Rattle.lw_pbuf.specs.Takes.{claim_of, claims_in, is_counted, places_of, free_in, Gives, GivesNone, IsTaken, AreTaken, IsTried, AreTried, AllTried}
use Rattle.lw_pbuf.specs.Makes.{body_of}
use Rattle.pbuf_spans.proofs.Spans.{parts_of-append}
use Rattle.lw_pbuf.proofs.Tried.{times-here, missed-here, claims_none, on_true, on_false, tried_none, tried_both, tried_all}

-- Lengths

length-push : (ps : List Part) (p : Part) → length (ps ++ p ∷ []) ≡ length ps + 1
length-push ps p = length-append ps (p ∷ [])

-- the octets behind a body take one pbuf less
one_body : (kind : Kind) (n m : ℕ) → 0 < n → n ≤ 65535 → m ≡ n - min n (body_of kind) → pbufs_of kind n ≡ 1 + pbufs_of kind m
one_body Ram n m some fits is = omega arith
one_body Pool n m some fits is = omega arith
one_body Rom n m some fits is = omega arith
one_body Ref n m some fits is = omega arith

-- what the next body leaves of n octets, where the first a took as much as they can
next_full : (kind : Kind) (a n m left len : ℕ) → m ≡ min (a * body_of kind) n → m + left ≡ n → len ≡ min left (body_of kind) → m + len ≡ min ((a + 1) * body_of kind) n
next_full Ram a n m left len before sum is = omega arith
next_full Pool a n m left len before sum is = omega arith
next_full Rom a n m left len before sum is = omega arith
next_full Ref a n m left len before sum is = omega arith

-- a bodies have room for n octets, and so have more
all_full : (kind : Kind) (a i n : ℕ) → n ≡ min (a * body_of kind) n → a ≤ i → n ≡ min (i * body_of kind) n
all_full Ram a i n fits more = omega arith
all_full Pool a i n fits more = omega arith
all_full Rom a i n fits more = omega arith
all_full Ref a i n fits more = omega arith

-- a body has some of them
some_octets : (kind : Kind) (n : ℕ) → 0 < n → 0 < min n (body_of kind)
some_octets Ram n some = omega arith
some_octets Pool n some = omega arith
some_octets Rom n some = omega arith
some_octets Ref n some = omega arith

-- Kinds of counts

pub counted_same : (h k : SeatSeen) (kind : Kind) → ((j : Kind) → length (counts_of j k.kept) ≡ length (counts_of j h.kept)) → is_counted k kind ≡ is_counted h kind
counted_same h k Ram same = refl
counted_same h k Pool same = ap (λ (n : ℕ). eqb n 0) (same Pool)
counted_same h k Rom same = refl
counted_same h k Ref same = refl

pub places_same : (h k : SeatSeen) (kind : Kind) → ((j : Kind) → length (counts_of j k.kept) ≡ length (counts_of j h.kept)) → k.holder.table ≡ h.holder.table → places_of k kind ≡ places_of h kind
places_same h k kind same table =
    let chosen : (b c : Bool) (x y x' y' : ℕ) → c ≡ b → x' ≡ x → y' ≡ y → cond c x' y' ≡ cond b x y = λ b c x y x' y' e f g i. cond (e i) (f i) (g i) in
    chosen (is_counted h kind) (is_counted k kind) _ _ _ _ (counted_same h k kind same) (ap (λ (t : TableId). t.words) table) (same kind)

-- an atomic count is one of POOL
pub counted_pool : (h : SeatSeen) (kind : Kind) → is_counted h kind ≡ true → kind ≡ Pool
counted_pool h Ram e = absurd (false≢true e)
counted_pool h Pool e = refl
counted_pool h Rom e = absurd (false≢true e)
counted_pool h Ref e = absurd (false≢true e)

kind_of_number : (a b : Kind) → number_of a ≡ number_of b → a ≡ b
kind_of_number Ram Ram e = refl
kind_of_number Pool Pool e = refl
kind_of_number Rom Rom e = refl
kind_of_number Ref Ref e = refl
kind_of_number Ram Pool e = absurd (omega arith)
kind_of_number Ram Rom e = absurd (omega arith)
kind_of_number Ram Ref e = absurd (omega arith)
kind_of_number Pool Ram e = absurd (omega arith)
kind_of_number Pool Rom e = absurd (omega arith)
kind_of_number Pool Ref e = absurd (omega arith)
kind_of_number Rom Ram e = absurd (omega arith)
kind_of_number Rom Pool e = absurd (omega arith)
kind_of_number Rom Ref e = absurd (omega arith)
kind_of_number Ref Ram e = absurd (omega arith)
kind_of_number Ref Pool e = absurd (omega arith)
kind_of_number Ref Rom e = absurd (omega arith)

pub own_row : (kind : Kind) (place n : ℕ) → rows_at kind place n record { kind = kind; place = place } ≡ n
own_row kind place n = λ i. cond (eq-eqb (number_of kind) (number_of kind) refl i && eq-eqb place place refl i) n 0

-- the place where a pbuf of a kind stands is its own
slot_kind : (a kind : Kind) (place : ℕ) → a ≡ kind → (k : SeatSeen) → rows_of k.kept (record { kind = kind; place = place }) ≡ 0 → rows_of k.kept (record { kind = a; place = place }) ≡ 0
slot_kind a kind place e k none = subst (λ (x : Kind). rows_of k.kept (record { kind = x; place = place }) ≡ 0) (sym e) none

-- rows at a slot are those of its pbuf
row_place : (b c : Bool) (n x place : ℕ) → eqb x place ≡ c → 0 < cond {A = ℕ} (b && c) n 0 → x ≡ place
row_place b true n x place e some = eqb-true x place e
row_place true false n x place e some = absurd (omega arith)
row_place false false n x place e some = absurd (omega arith)

-- a row of a pbuf is one of its kind
row_kind : (b c : Bool) (n : ℕ) (a kind : Kind) → eqb (number_of a) (number_of kind) ≡ b → 0 < cond {A = ℕ} (b && c) n 0 → a ≡ kind
row_kind true c n a kind e some = kind_of_number a kind (eqb-true (number_of a) (number_of kind) e)
row_kind false c n a kind e some = absurd (omega arith)

-- One pbuf

-- the seat after a claim that got its pbuf
abbrev after_claim : SeatSeen → ℕ → SeatSeen
after_claim h place = record h { holder = record h.holder { weight = h.holder.weight - claim_weight; got = place ∷ h.holder.got }; claimed = h.claimed + 1 }

claimed_here : (h k : SeatSeen) (kind : Kind) (place : ℕ) (o : Owner) → o ≡ Counted (owner_of h.holder.table place first_adds claim_weight) → k ≡ after_claim h place → k.holder.weight + weight_of o ≡ h.holder.weight → is_counted h kind ≡ true → IsTaken h k kind o
claimed_here h k kind place o is after sum counted = record {
  gives = record {
    more = λ s. let a = ap (λ (x : SeatSeen). rows_of x.kept s) after in let r = ap (λ (x : Owner). row_of x s) is in omega arith;
    less = sum;
    table = ap (λ (x : SeatSeen). x.holder.table) after;
    right = ap (λ (x : SeatSeen). x.holder.rights) after;
    sizes = λ j. ap (λ (x : SeatSeen). length (counts_of j x.kept)) after;
    makes = ap (λ (x : SeatSeen). x.makes) after;
    splits = ap (λ (x : SeatSeen). x.splits) after;
    got = let a = ap (λ (x : SeatSeen). length x.holder.got) after in let c = ap claim_of is in omega arith;
  };
  under = subst (λ (x : Owner). IsUnder h.holder.table x) (sym is) refl;
  adds = ap adds_of is;
  claimed = let a = ap (λ (x : SeatSeen). x.claimed) after in let c = ap pool_one (counted_pool h kind counted) in omega arith;
  alone = λ s some. absurd (let r = ap (λ (x : Owner). row_of x s) is in omega arith);
  rows = λ s some. absurd (let r = ap (λ (x : Owner). row_of x s) is in omega arith);
  kept = λ off. absurd (false≢true (sym off ∙ counted));
  counted = λ _. (ap claim_of is, ap weight_of is);
}

pub claimed_is_taken : (h k : SeatSeen) (kind : Kind) (place : ℕ) (r : Option Owner) → IfSome r (λ o. o ≡ Counted (owner_of h.holder.table place first_adds claim_weight)) → (IsSome r → k ≡ after_claim h place)
    → IfSome r (λ o. k.holder.weight + weight_of o ≡ h.holder.weight) → is_counted h kind ≡ true → IfSome r (λ o. IsTaken h k kind o)
claimed_is_taken h k kind place None is after sum counted = tt
claimed_is_taken h k kind place (Some o) is after sum counted = claimed_here h k kind place o is (after refl) sum counted

pub claim_tried : (h k : SeatSeen) (kind : Kind) (place : ℕ) (r : Option Owner) → is_counted h kind ≡ true → (IsSome r → k ≡ after_claim h place) → (IsNone r → IsInUse h.holder place k.holder) → (IsNone r → k ≡ record h { holder = k.holder }) → IsTried h k kind place
claim_tried h k kind place (Some o) counted after busy same = let e = after refl in record {
  got = place ∷ [];
  misses = [];
  claims = record { gets = ap (λ (x : SeatSeen). x.holder.got) e; finds = ap (λ (x : SeatSeen). x.holder.found) e; in_use = All-nil (λ (m : ℕ × ℕ). 0 < m.1); owned = All-nil (λ (m : ℕ × ℕ). 0 < times m.0 k.holder.got) };
  used = on_true (is_counted k kind) _ _ (counted_same h k kind (λ j. ap (λ (x : SeatSeen). length (counts_of j x.kept)) e) ∙ counted) (let t = times-here place in omega arith);
}
claim_tried h k kind place None counted after busy same = let u = busy refl in let e = same refl in record {
  got = [];
  misses = (place, u.0) ∷ [];
  claims = record {
    gets = ap (λ (x : Known). x.got) u.4;
    finds = ap (λ (x : Known). x.found) u.4;
    in_use = All-cons (λ (m : ℕ × ℕ). 0 < m.1) (place, u.0) [] u.1 (All-nil (λ (m : ℕ × ℕ). 0 < m.1));
    owned = All-cons (λ (m : ℕ × ℕ). 0 < times m.0 k.holder.got) (place, u.0) [] (let g = ap (λ (x : Known). times place x.got) u.4 in let s = u.3 in omega arith) (All-nil (λ (m : ℕ × ℕ). 0 < times m.0 k.holder.got));
  };
  used = on_true (is_counted k kind) _ _ (counted_same h k kind (λ j. ap (λ (x : SeatSeen). length (counts_of j x.kept)) e) ∙ counted) (let t = missed-here place u.0 in omega arith);
}

-- the seat after a kept pbuf was taken
abbrev after_take : SeatSeen → SeatSeen → Kind → SeatSeen
after_take h k kind = record h { kept = k.kept; claimed = h.claimed + pool_one kind }

taken_here : (h k : SeatSeen) (kind : Kind) (place : ℕ) (o : Owner) → o ≡ Kept (record { kind = kind; place = place; adds = first_adds }) → ((s : Slot) → rows_of k.kept s ≡ rows_of h.kept s + row_of o s) → k ≡ after_take h k kind
    → ((j : Kind) → length (counts_of j k.kept) ≡ length (counts_of j h.kept)) → free_in k kind + 1 ≡ free_in h kind → rows_of h.kept (record { kind = kind; place = place }) ≡ 0 → is_counted h kind ≡ false → IsTaken h k kind o
taken_here h k kind place o is rows after sizes free none off = record {
  gives = record {
    more = rows;
    less = let a = ap (λ (x : SeatSeen). x.holder.weight) after in let c = ap weight_of is in omega arith;
    table = ap (λ (x : SeatSeen). x.holder.table) after;
    right = ap (λ (x : SeatSeen). x.holder.rights) after;
    sizes = sizes;
    makes = ap (λ (x : SeatSeen). x.makes) after;
    splits = ap (λ (x : SeatSeen). x.splits) after;
    got = let a = ap (λ (x : SeatSeen). length x.holder.got) after in let c = ap claim_of is in omega arith;
  };
  under = subst (λ (x : Owner). IsUnder h.holder.table x) (sym is) tt;
  adds = ap adds_of is;
  claimed = ap (λ (x : SeatSeen). x.claimed) after;
  rows = λ s some. (row_kind (eqb (number_of s.kind) (number_of kind)) (eqb s.place place) (first_adds + 1) s.kind kind refl (let r = ap (λ (x : Owner). row_of x s) is in omega arith), off);
  alone = λ s some.
      let some' : 0 < rows_at kind place (first_adds + 1) s = let r = ap (λ (x : Owner). row_of x s) is in omega arith in
      let same = row_kind (eqb (number_of s.kind) (number_of kind)) (eqb s.place place) (first_adds + 1) s.kind kind refl some' in
      let there = row_place (eqb (number_of s.kind) (number_of kind)) (eqb s.place place) (first_adds + 1) s.place place refl some' in
      slot_kind s.kind kind s.place same h (subst (λ (x : ℕ). rows_of h.kept (record { kind = kind; place = x }) ≡ 0) (sym there) none);
  kept = λ _. (ap claim_of is, ap weight_of is, free);
  counted = λ yes'. absurd (false≢true (sym off ∙ yes'));
}

pub kept_is_taken : (h k : SeatSeen) (kind : Kind) (place : ℕ) (r : Option Owner) → IfSome r (λ o. o ≡ Kept (record { kind = kind; place = place; adds = first_adds })) → IfSome r (λ o. (s : Slot) → rows_of k.kept s ≡ rows_of h.kept s + row_of o s)
    → (IsSome r → k ≡ after_take h k kind) → ((j : Kind) → length (counts_of j k.kept) ≡ length (counts_of j h.kept)) → IfSome r (λ _. free_in k kind + 1 ≡ free_in h kind)
    → (IsSome r ↔ (rows_of h.kept (record { kind = kind; place = place }) ≡ 0)) → is_counted h kind ≡ false → IfSome r (λ o. IsTaken h k kind o)
kept_is_taken h k kind place None is rows after sizes free found off = tt
kept_is_taken h k kind place (Some o) is rows after sizes free found off = taken_here h k kind place o is rows (after refl) sizes free (found.0 refl) off

pub kept_tried : (h k : SeatSeen) (kind : Kind) (place : ℕ) (r : Option Owner) → is_counted h kind ≡ false → (IsSome r ↔ (rows_of h.kept (record { kind = kind; place = place }) ≡ 0)) → IfSome r (λ o. o ≡ Kept (record { kind = kind; place = place; adds = first_adds }))
    → IfSome r (λ o. (s : Slot) → rows_of k.kept s ≡ rows_of h.kept s + row_of o s) → (IsSome r → k ≡ after_take h k kind) → ((j : Kind) → length (counts_of j k.kept) ≡ length (counts_of j h.kept)) → (IsNone r → k ≡ h) → IsTried h k kind place
kept_tried h k kind place (Some o) off found is rows after sizes same = record {
  got = [];
  misses = [];
  claims = claims_none h.holder k.holder (ap (λ (x : SeatSeen). x.holder) (after refl));
  used = on_false (is_counted k kind) _ _ (counted_same h k kind sizes ∙ off)
      (let s : Slot = record { kind = kind; place = place } in let r = rows s in let e = ap (λ (x : Owner). row_of x s) is in let one = own_row kind place (first_adds + 1) in omega arith);
}
kept_tried h k kind place None off found is rows after sizes same = record {
  got = [];
  misses = [];
  claims = claims_none h.holder k.holder (ap (λ (x : SeatSeen). x.holder) (same refl));
  used = on_false (is_counted k kind) _ _ (counted_same h k kind sizes ∙ off)
      (let s : Slot = record { kind = kind; place = place } in let e = ap (λ (x : SeatSeen). rows_of x.kept s) (same refl) in dite (dec_le 1 (rows_of h.kept s)) (λ le. omega arith) (λ none. absurd (false≢true (found.1 (omega arith)))));
}

-- Several

pub gives_grows : (h k : SeatSeen) (rows : Slot → ℕ) (weight claims : ℕ) → Gives h k rows weight claims → (s : Slot) → rows_of h.kept s ≤ rows_of k.kept s
gives_grows h k rows weight claims g s = let m = g.more s in omega arith

-- what was given out, and then more
pub gives_both : (h k l : SeatSeen) (rows rows' all : Slot → ℕ) (weight weight' claims claims' more less : ℕ) → Gives h k rows weight claims → Gives k l rows' weight' claims' → ((s : Slot) → all s ≡ rows s + rows' s) → more ≡ weight + weight' → less ≡ claims + claims'
    → Gives h l all more less
gives_both h k l rows rows' all weight weight' claims claims' more less a b e f g = record {
  more = λ s. let x = a.more s in let y = b.more s in let z = e s in omega arith;
  less = let x = a.less in let y = b.less in omega arith;
  table = b.table ∙ a.table;
  right = b.right ∙ a.right;
  sizes = λ j. b.sizes j ∙ a.sizes j;
  makes = b.makes ∙ a.makes;
  splits = b.splits ∙ a.splits;
  got = let x = a.got in let y = b.got in omega arith;
}

-- nothing
gives_nothing : (h k : SeatSeen) → k ≡ h → Gives h k (λ _. 0) 0 0
gives_nothing h k same = record {
  more = λ s. let e = ap (λ (x : SeatSeen). rows_of x.kept s) same in omega arith;
  less = let e = ap (λ (x : SeatSeen). x.holder.weight) same in omega arith;
  table = ap (λ (x : SeatSeen). x.holder.table) same;
  right = ap (λ (x : SeatSeen). x.holder.rights) same;
  sizes = λ j. ap (λ (x : SeatSeen). length (counts_of j x.kept)) same;
  makes = ap (λ (x : SeatSeen). x.makes) same;
  splits = ap (λ (x : SeatSeen). x.splits) same;
  got = let e = ap (λ (x : SeatSeen). length x.holder.got) same in omega arith;
}

pub gives_none : (h k : SeatSeen) → k ≡ h → GivesNone h k
gives_none h k same = record { gives = gives_nothing h k same; kept = ap (λ (x : SeatSeen). x.kept) same; claimed = ap (λ (x : SeatSeen). x.claimed) same }

-- a claim that found its pbuf in use gave nothing
pub none_claimed : (h k : SeatSeen) (place : ℕ) → IsInUse h.holder place k.holder → k ≡ record h { holder = k.holder } → GivesNone h k
none_claimed h k place u same = record {
  gives = record {
    more = λ s. let e = ap (λ (x : SeatSeen). rows_of x.kept s) same in omega arith;
    less = let e = ap (λ (x : Known). x.weight) u.4 in omega arith;
    table = ap (λ (x : Known). x.table) u.4;
    right = ap (λ (x : Known). x.rights) u.4;
    sizes = λ j. ap (λ (x : SeatSeen). length (counts_of j x.kept)) same;
    makes = ap (λ (x : SeatSeen). x.makes) same;
    splits = ap (λ (x : SeatSeen). x.splits) same;
    got = let e = ap (λ (x : Known). length x.got) u.4 in omega arith;
  };
  kept = ap (λ (x : SeatSeen). x.kept) same;
  claimed = ap (λ (x : SeatSeen). x.claimed) same;
}

pub then_none : (h k l : SeatSeen) → GivesNone h k → GivesNone k l → GivesNone h l
then_none h k l a b = record {
  gives = gives_both h k l (λ _. 0) (λ _. 0) (λ _. 0) 0 0 0 0 0 0 a.gives b.gives (λ s. omega arith) (omega arith) (omega arith);
  kept = b.kept ∙ a.kept;
  claimed = b.claimed ∙ a.claimed;
}

pub then_taken : (h k l : SeatSeen) (kind : Kind) (o : Owner) → GivesNone h k → IsTaken k l kind o → IsTaken h l kind o
then_taken h k l kind o a t = let same = counted_same h k kind a.gives.sizes in record {
  gives = gives_both h k l (λ _. 0) (row_of o) (row_of o) 0 (weight_of o) 0 (claim_of o) (weight_of o) (claim_of o) a.gives t.gives (λ s. omega arith) (omega arith) (omega arith);
  under = subst (λ (u : TableId). IsUnder u o) a.gives.table t.under;
  adds = t.adds;
  claimed = let x = a.claimed in let y = t.claimed in omega arith;
  rows = λ s some. let r = t.rows s some in (r.0, sym same ∙ r.1);
  alone = λ s some. let z = t.alone s some in let e = ap (λ (x : _). rows_of x s) a.kept in omega arith;
  kept = λ off. let q = t.kept (same ∙ off) in let f = ap (λ (x : _). Rattle.pbuf_seats.specs.Kept.free_count (counts_of kind x)) a.kept in (q.0, q.1, let z = q.2 in omega arith);
  counted = λ is. t.counted (same ∙ is);
}

-- the owners of these parts were taken, and then that of one more
pub taken_more : (h k l : SeatSeen) (kind : Kind) (ps : List Part) (p : Part) → AreTaken h k kind ps → IsTaken k l kind p.owner → AreTaken h l kind (ps ++ p ∷ [])
taken_more h k l kind ps p a t =
    let same = counted_same h k kind a.gives.sizes in
    let n = length-push ps p in
    let rows = λ (s : Slot). sum_by_push (λ (q : Part). row_of q.owner s) ps p in
    let weight = sum_by_push (λ (q : Part). weight_of q.owner) ps p in
    let claims = sum_by_push (λ (q : Part). claim_of q.owner) ps p in
    record {
      gives = gives_both h k l (rows_in ps) (row_of p.owner) (rows_in (ps ++ p ∷ [])) (weight_in ps) (weight_of p.owner) (claims_in ps) (claim_of p.owner) (weight_in (ps ++ p ∷ [])) (claims_in (ps ++ p ∷ [])) a.gives t.gives rows weight claims;
      under = All-push (λ (q : Part). IsUnder h.holder.table q.owner) ps p a.under (subst (λ (u : TableId). IsUnder u p.owner) a.gives.table t.under);
      adds = All-push (λ (q : Part). adds_of q.owner ≡ first_adds) ps p a.adds t.adds;
      claimed = let x = a.claimed in let y = t.claimed in rw n (omega arith);
      alone = λ s some. dite (dec_le 1 (rows_in ps s)) (λ old. a.alone s old) (λ off. let z = t.alone s (let e = rows s in omega arith) in let m = a.gives.more s in omega arith);
      rows = λ s some. dite (dec_le 1 (rows_in ps s)) (λ old. a.rows s old) (λ off. let r = t.rows s (let e = rows s in omega arith) in (r.0, sym same ∙ r.1));
      kept = λ off. let x = a.kept off in let y = t.kept (same ∙ off) in (let u = x.0 in let v = y.0 in omega arith, let u = x.1 in let v = y.1 in omega arith, let u = x.2 in let v = y.2 in omega arith);
      counted = λ is. let x = a.counted is in let y = t.counted (same ∙ is) in (let u = x.0 in let v = y.0 in omega arith, let u = x.1 in let v = y.1 in omega arith);
    }

pub taken_none : (h k l : SeatSeen) (kind : Kind) (ps : List Part) → AreTaken h k kind ps → GivesNone k l → AreTaken h l kind ps
taken_none h k l kind ps a e = record {
  gives = gives_both h k l (rows_in ps) (λ _. 0) (rows_in ps) (weight_in ps) 0 (claims_in ps) 0 (weight_in ps) (claims_in ps) a.gives e.gives (λ s. omega arith) (omega arith) (omega arith);
  under = a.under;
  adds = a.adds;
  claimed = let x = a.claimed in let y = e.claimed in omega arith;
  rows = a.rows;
  alone = a.alone;
  kept = λ off. let q = a.kept off in let f = ap (λ (x : _). Rattle.pbuf_seats.specs.Kept.free_count (counts_of kind x)) e.kept in (q.0, q.1, let z = q.2 in omega arith);
  counted = a.counted;
}

taken_first : (h : SeatSeen) (kind : Kind) → AreTaken h h kind []
taken_first h kind = record {
  gives = gives_nothing h h refl;
  under = All-nil (λ (q : Part). IsUnder h.holder.table q.owner);
  adds = All-nil (λ (q : Part). adds_of q.owner ≡ first_adds);
  claimed = omega arith;
  rows = λ s some. absurd (omega arith);
  alone = λ s some. absurd (omega arith);
  kept = λ _. (refl, refl, omega arith);
  counted = λ _. (refl, omega arith);
}

-- Pbufs with owners

-- owners of pbufs for the front of the text came from the seat h, which is k now, at the turns below `turn`; so many of its octets are left
pub record Fills (h k : SeatSeen) (kind : Kind) (text : List ℕ) (ps : List Pbuf) (left places from turn : ℕ) : Type 0 where
  pub taken : AreTaken h k kind (parts_of true text ps)
  pub tried : AreTried h k kind places from turn
  pub some : All (λ p. 0 < p.len) ps
  pub sum : lens ps + left ≡ length text
  pub few : length ps + pbufs_of kind left ≡ pbufs_of kind (length text)
  pub full : (i : ℕ) → i ≤ length ps → lens (take i ps) ≡ min (i * body_of kind) (length text)

pub fills_first : (h : SeatSeen) (kind : Kind) (text : List ℕ) (ps : List Pbuf) (places from : ℕ) → ps ≡ [] → Fills h h kind text ps (length text) places from from
fills_first h kind text ps places from none = subst (λ (l : List Pbuf). Fills h h kind text l (length text) places from from) (sym none) record {
  taken = taken_first h kind;
  tried = tried_none h h kind places from refl;
  some = All-nil (λ (p : Pbuf). 0 < p.len);
  sum = omega arith;
  few = omega arith;
  full = λ i none. let z : i ≡ 0 = omega arith in subst (λ (j : ℕ). let none : List Pbuf = [] in lens (take j none) ≡ min (j * body_of kind) (length text)) (sym z) (omega arith);
}

-- the pbufs and one more, of which each but the last has as many octets as it can
full_next : (kind : Kind) (n : ℕ) (ps : List Pbuf) (p : Pbuf) (left : ℕ) → ((i : ℕ) → i ≤ length ps → lens (take i ps) ≡ min (i * body_of kind) n) → lens ps + left ≡ n → p.len ≡ min left (body_of kind)
    → (i : ℕ) → i ≤ length (ps ++ p ∷ []) → lens (take i (ps ++ p ∷ [])) ≡ min (i * body_of kind) n
full_next kind n ps p left full sum len i within =
    let longer = length-append ps (p ∷ []) in
    let all : lens (take (length ps) ps) ≡ lens ps = ap lens (take_all (length ps) ps (omega arith)) in
    let before = full (length ps) (omega arith) in
    let wider = sum_by_push (λ (q : Pbuf). q.len) ps p in
    dite (dec_le i (length ps)) (λ old. ap lens (take-append-le i ps (p ∷ []) old) ∙ full i old)
    (λ new. let e : i ≡ length ps + 1 = omega arith in
    ap lens (take_all i (ps ++ p ∷ []) (omega arith)) ∙ (wider ∙ (next_full kind (length ps) n (lens ps) left p.len (sym all ∙ before) sum len ∙ ap (λ (j : ℕ). min (j * body_of kind) n) (sym e))))

-- the pbufs once all octets are taken
pub full_all : (h k : SeatSeen) (kind : Kind) (text : List ℕ) (ps : List Pbuf) (left places from turn : ℕ) → Fills h k kind text ps left places from turn → left ≡ 0 → (i : ℕ) → lens (take i ps) ≡ min (i * body_of kind) (length text)
full_all h k kind text ps left places from turn f none i =
    let sum = f.sum in
    let whole : lens ps ≡ length text = omega arith in
    let all : lens (take (length ps) ps) ≡ lens ps = ap lens (take_all (length ps) ps (omega arith)) in
    let last : length text ≡ min (length ps * body_of kind) (length text) = sym whole ∙ (sym all ∙ f.full (length ps) (omega arith)) in
    dite (dec_le i (length ps)) (λ old. f.full i old) (λ new. ap lens (take_all i ps (omega arith)) ∙ (whole ∙ all_full kind (length ps) i (length text) last (omega arith)))

-- an owner was taken for the next pbuf
pub fills_next : (h k l : SeatSeen) (kind : Kind) (text : List ℕ) (ps qs : List Pbuf) (p : Pbuf) (left rest places from turn turn' : ℕ) → Fills h k kind text ps left places from turn → length text ≤ 65535 → 0 < left → p.len ≡ min left (body_of kind)
    → IsTaken k l kind p.owner → AreTried k l kind places turn turn' → qs ≡ ps ++ p ∷ [] → rest ≡ left - p.len → Fills h l kind text qs rest places from turn'
fills_next h k l kind text ps qs p left rest places from turn turn' f short more len t tried now after =
    let sum = f.sum in
    let few = f.few in
    let one = one_body kind left rest more (omega arith) (omega arith) in
    let some = some_octets kind left more in
    let longer = length-append ps (p ∷ []) in
    let wider = sum_by_push (λ (q : Pbuf). q.len) ps p in
    subst (λ (x : List Pbuf). Fills h l kind text x rest places from turn') (sym now) record {
      taken = subst (λ (x : List Part). AreTaken h l kind x) (sym (parts_of-append true text ps (p ∷ []))) (taken_more h k l kind (parts_of true text ps) (record { owner = p.owner; octets = take p.len (drop (lens ps) text); own = true }) f.taken t);
      tried = tried_both h k l kind places from turn turn' f.tried tried (counted_same k l kind t.gives.sizes) (gives_grows k l _ _ _ t.gives);
      some = All-push (λ (q : Pbuf). 0 < q.len) ps p f.some (omega arith);
      sum = omega arith;
      few = omega arith;
      full = full_next kind (length text) ps p left f.full sum len;
    }

-- no pbuf was left for the next one: all places were tried
pub fills_short : (h k l : SeatSeen) (kind : Kind) (text : List ℕ) (ps : List Pbuf) (left places from turn end : ℕ) → Fills h k kind text ps left places from turn → GivesNone k l → AreTried k l kind places turn end
    → places ≡ places_of h kind → from ≤ places → end ≡ from + places → AllTried h l kind
fills_short h k l kind text ps left places from turn end f none tried is below all =
    tried_all h l kind places from end (tried_both h k l kind places from turn end f.tried tried (counted_same k l kind none.gives.sizes) (gives_grows k l (λ _. 0) 0 0 none.gives)) is below all

-- octets take a pbuf
pub some_pbufs : (kind : Kind) (n : ℕ) → 0 < n → 0 < pbufs_of kind n
some_pbufs Ram n some = omega arith
some_pbufs Pool n some = omega arith
some_pbufs Rom n some = omega arith
some_pbufs Ref n some = omega arith

-- no more pbufs of POOL than parts
pub pool_most : (kind : Kind) (n : ℕ) → pool_one kind * n ≤ n
pool_most Ram n = omega arith
pool_most Pool n = omega arith
pool_most Rom n = omega arith
pool_most Ref n = omega arith
