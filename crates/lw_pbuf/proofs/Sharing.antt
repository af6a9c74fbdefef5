-- How a chain is shared.
use Rattle.std.proofs.Common.{◌≡◌, ℕ, ◌+◌, ◌-◌, ◌<◌, ◌≤◌, Bool, false, min, List, [], ◌∷◌, ◌++◌, length, map, set, take, drop, get_or, All, refl, sym, ap, ◌∙◌, subst, arith, length-set, length-drop}
use Rattle.std.proofs.Common.{Result, Ok, Err}
use Rattle.std.specs.List.{AllZip, refill}
use Rattle.std.specs.Result.{IfOk, OnOk}
use mathlib.Core.List.{map-append}
use Rattle.std.proofs.lemmas.List.{length-map, length_push, take-append-drop, drop_more, drop-drop, take_more, take_more_set, drop-set-lt, take_all, drop_all, get_or-drop}
use Rattle.std.proofs.lemmas.List.Elements.{All-append, All-push, All-map, All-weaker, All-nil, All-cons, All-head, All-tail, All-get_or}
use Rattle.std.proofs.lemmas.List.Sums.{sum_by-append}
use Rattle.atomic_table.specs.Seated.{TableId}
use Rattle.lw_payload.specs.declared.kinds.ShareFault.{ShareFault}
use Rattle.pbuf_counts.specs.Holders.{Known, owner_of}
use Rattle.pbuf_seats.specs.declared.owner.Owner.{Owner}
use Rattle.pbuf_seats.specs.declared.owner.Owner.TheVariants.{Kept, Counted}
use Rattle.pbuf_seats.specs.Owners.{row_of, weight_of, adds_of, sharing, share_of}
use Rattle.pbuf_seats.specs.Seats.{SeatSeen}
use Rattle.pbuf_spans.specs.declared.twin.Twin.{Twin}
use Rattle.pbuf_spans.specs.Parts.{Part, rows_in, weight_in, least_adds, IsUnder, IsChain}
use Rattle.lw_pbuf.specs.Chains.{ChainSeen, all_parts, NoneEmpty, IsOf}
use Rattle.pbuf_spans.specs.Shares.{handed, first_of, second_of, MayShare, AllShared, IsTwin}
use Rattle.lw_pbuf.specs.Shares.{IsSharedTo, IsChained}
use Rattle.lw_pbuf.proofs.Spans.{rows_in-append, weight_in-append, least_adds-append, All-split, all_parts-append, all_parts-here, all_parts-more, all_parts-one, all_parts-push}
use Rattle.lw_pbuf.proofs.Rewriting.{refilled}
use Rattle.lw_pbuf.proofs.Homes.{joined_firsts, joined_seconds}

-- the least of the adds, one span on
pub least_here : (spans : List (List Part)) (i : ℕ) (ps : List Part) → i < length spans → ps ≡ get_or spans i ps → least_adds (all_parts (drop i spans)) ≡ min (least_adds ps) (least_adds (all_parts (drop (i + 1) spans)))
least_here spans i ps inside is = ap least_adds (all_parts-here spans i ps inside is) ∙ least_adds-append ps (all_parts (drop (i + 1) spans))

pub least_end : (spans : List (List Part)) (i : ℕ) → length spans ≤ i → least_adds (all_parts (drop i spans)) ≡ 65534
least_end spans i past = ap (λ (l : List (List Part)). least_adds (all_parts l)) (drop_all i spans past)

-- what holds of the pbufs of the first spans, and of those of one more
pub all_more : (P : Part → Type 0) (spans : List (List Part)) (i : ℕ) (ps : List Part) → i < length spans → ps ≡ get_or spans i ps → All P (all_parts (take i spans)) → All P ps → All P (all_parts (take (i + 1) spans))
all_more P spans i ps inside is before here = subst (λ (l : List Part). All P l) (sym (all_parts-more spans i ps inside is)) (All-append P (all_parts (take i spans)) ps before here)

-- Two lists of pbufs of which the owners may be shared

pub may_front : (h : SeatSeen) (ps qs : List Part) → MayShare h (ps ++ qs) → MayShare h ps
may_front h ps qs may =
    record {
      under = (All-split (λ (p : Part). IsUnder h.holder.table p.owner) ps qs may.under).0;
      listed = λ s. let e = rows_in-append ps qs s in let l = may.listed s in omega arith;
      adds = let e = least_adds-append ps qs in let a = may.adds in omega arith;
    }

pub may_behind : (h : SeatSeen) (ps qs : List Part) → MayShare h (ps ++ qs) → MayShare h qs
may_behind h ps qs may =
    record {
      under = (All-split (λ (p : Part). IsUnder h.holder.table p.owner) ps qs may.under).1;
      listed = λ s. let e = rows_in-append ps qs s in let l = may.listed s in omega arith;
      adds = let e = least_adds-append ps qs in let a = may.adds in omega arith;
    }

pub shared_none : (hands : Bool) → AllShared hands [] [] []
shared_none hands = record { first = refl; second = refl; rows = λ s. refl; weight = refl }

-- pbufs that were shared, and then others
pub shared_both : (hands : Bool) (ps qs ms ps' qs' ms' : List Part) → AllShared hands ps qs ms → AllShared hands ps' qs' ms' → AllShared hands (ps ++ ps') (qs ++ qs') (ms ++ ms')
shared_both hands ps qs ms ps' qs' ms' a b = record {
  first = (λ i. a.first i ++ b.first i) ∙ sym (map-append (first_of hands) ps ps');
  second = (λ i. a.second i ++ b.second i) ∙ sym (map-append (second_of hands) ps ps');
  rows = λ s. let x = a.rows s in let y = b.rows s in let e = rows_in-append ps ps' s in let f = rows_in-append qs qs' s in let g = rows_in-append ms ms' s in omega arith;
  weight = let x = a.weight in let y = b.weight in let e = weight_in-append ps ps' in let f = weight_in-append qs qs' in let g = weight_in-append ms ms' in omega arith;
}

-- Spans that are shared one after another

-- memory for the share of one more
pub twins_more : (spans : List (List Part)) (twins new : List Twin) (i : ℕ) (ps : List Part) (t : Twin) → i < length spans → ps ≡ get_or spans i ps → AllZip IsTwin (take i spans) twins → IsTwin ps t → new ≡ twins ++ t ∷ [] → AllZip IsTwin (take (i + 1) spans) new
twins_more spans twins new i ps t inside is so_far twin now =
    subst (λ (l : List Twin). AllZip IsTwin (take (i + 1) spans) l) (sym now)
    (subst (λ (l : List (List Part)). AllZip IsTwin l (twins ++ t ∷ [])) (ap (λ (q : List Part). take i spans ++ q ∷ []) is ∙ sym (take_more spans i ps inside)) (push (take i spans) twins so_far))
  where
    push : (xs : List (List Part)) (ys : List Twin) → AllZip IsTwin xs ys → AllZip IsTwin (xs ++ ps ∷ []) (ys ++ t ∷ [])
    push [] [] zip = (twin, tt)
    push [] (y ∷ ys) zip = absurd zip
    push (x ∷ xs) [] zip = absurd zip
    push (x ∷ xs) (y ∷ ys) zip = (zip.0, push xs ys zip.1)

pub twins_all : (spans : List (List Part)) (twins : List Twin) (i : ℕ) → length spans ≤ i → AllZip IsTwin (take i spans) twins → AllZip IsTwin spans twins
twins_all spans twins i past zip = subst (λ (l : List (List Part)). AllZip IsTwin l twins) (take_all i spans past) zip

-- as many spans as there is memory for
pub twins_count : (spans : List (List Part)) (twins : List Twin) → AllZip IsTwin spans twins → length twins ≡ length spans
twins_count [] [] zip = refl
twins_count [] (y ∷ ys) zip = absurd zip
twins_count (x ∷ xs) [] zip = absurd zip
twins_count (x ∷ xs) (y ∷ ys) zip = let r = twins_count xs ys zip.1 in omega arith

-- of the spans, which are `firsts` now, those below i were shared, and `seconds` are their shares; `twins` is memory for the others
pub record Spanned (hands : Bool) (spans firsts seconds : List (List Part)) (twins : List Twin) (i : ℕ) : Type 0 where
  pub shared : AllShared hands (all_parts (take i spans)) (all_parts (take i firsts)) (all_parts seconds)
  pub behind : drop i firsts ≡ drop i spans
  pub twins_left : AllZip IsTwin (drop i spans) twins
  pub count : length firsts ≡ length spans
  pub wide : length seconds ≡ i
  pub full : NoneEmpty spans → NoneEmpty (take i firsts) × NoneEmpty seconds

-- what stands at a place, from what is left from it on
read_left : (xs ys : List (List Part)) (i : ℕ) (p : List Part) → drop i ys ≡ drop i xs → p ≡ get_or ys i p → p ≡ get_or xs i p
read_left xs ys i p same is = is ∙ (back ys ∙ (ap (λ (l : List (List Part)). get_or l 0 p) same ∙ sym (back xs)))
  where
    back : (l : List (List Part)) → get_or l i p ≡ get_or (drop i l) 0 p
    back l = ap (λ (k : ℕ). get_or l k p) (let z : i ≡ i + 0 = omega arith in z) ∙ sym (get_or-drop i l 0 p)

next_left : (xs ys : List (List Part)) (i : ℕ) → drop i ys ≡ drop i xs → drop (i + 1) ys ≡ drop (i + 1) xs
next_left xs ys i same = sym (drop-drop 1 i ys) ∙ (ap (drop 1) same ∙ drop-drop 1 i xs)

pub spanned_first : (hands : Bool) (spans seconds : List (List Part)) (twins : List Twin) → AllZip IsTwin spans twins → seconds ≡ [] → Spanned hands spans spans seconds twins 0
spanned_first hands spans seconds twins zip none = subst (λ (l : List (List Part)). Spanned hands spans spans l twins 0) (sym none) record {
  shared = shared_none hands;
  behind = refl;
  twins_left = zip;
  count = refl;
  wide = refl;
  full = λ _. (All-nil (λ (q : List Part). 0 < length q), All-nil (λ (q : List Part). 0 < length q));
}

module _ (hands : Bool) (spans firsts seconds : List (List Part)) (twins rest : List Twin) (twin : Twin) (i : ℕ) (a : Spanned hands spans firsts seconds twins i) (left : twins ≡ twin ∷ rest) where
  pub spanned_inside : i < length firsts
  spanned_inside =
      let n = twins_count (drop i spans) twins a.twins_left in
      let d = length-drop i spans in
      let e = ap (λ (l : List Twin). length l) left in
      let c = a.count in
      omega arith

  module _ (p : List Part) (is : p ≡ get_or firsts i p) where
    at : p ≡ get_or spans i p
    at = read_left spans firsts i p a.behind is

    within : i < length spans
    within = let c = a.count in let n = spanned_inside in omega arith

    -- the span there may be shared
    pub spanned_may : (h : SeatSeen) → MayShare h (all_parts spans) → MayShare h p
    spanned_may h may =
        let split : all_parts spans ≡ all_parts (take i spans) ++ (p ++ all_parts (drop (i + 1) spans)) =
        ap (λ (l : List (List Part)). all_parts l) (sym (take-append-drop i spans))
        ∙ (all_parts-append (take i spans) (drop i spans) ∙ ap (λ (l : List Part). all_parts (take i spans) ++ l) (all_parts-here spans i p within at)) in
        may_front h p (all_parts (drop (i + 1) spans))
        (may_behind h (all_parts (take i spans)) (p ++ all_parts (drop (i + 1) spans)) (subst (λ (l : List Part). MayShare h l) split may))

    pub spanned_twin : IsTwin p twin
    spanned_twin = zip.0
      where
        zip : AllZip IsTwin (p ∷ drop (i + 1) spans) (twin ∷ rest)
        zip = subst (λ (l : List Twin). AllZip IsTwin (p ∷ drop (i + 1) spans) l) left
            (subst (λ (l : List (List Part)). AllZip IsTwin l twins) (drop_more spans i p within ∙ ap (λ (q : List Part). q ∷ drop (i + 1) spans) (sym at)) a.twins_left)

    pub spanned_next : (q s : List Part) (firsts' seconds' : List (List Part)) → AllShared hands p q s → firsts' ≡ set firsts i q → seconds' ≡ seconds ++ s ∷ [] → Spanned hands spans firsts' seconds' rest (i + 1)
    spanned_next q s firsts' seconds' shared now more =
        let inside = spanned_inside in
        let count = a.count in
        let front : take (i + 1) (set firsts i q) ≡ take i firsts ++ q ∷ [] = take_more_set firsts i q inside in
        let zip : AllZip IsTwin (p ∷ drop (i + 1) spans) (twin ∷ rest) = subst (λ (x : List Twin). AllZip IsTwin (p ∷ drop (i + 1) spans) x) left
        (subst (λ (x : List (List Part)). AllZip IsTwin x twins) (drop_more spans i p within ∙ ap (λ (y : List Part). y ∷ drop (i + 1) spans) (sym at)) a.twins_left) in
        let both = shared_both hands (all_parts (take i spans)) (all_parts (take i firsts)) (all_parts seconds) p q s a.shared shared in
        let m = ap (λ (x : List Part). length x) shared.first ∙ length-map p (first_of hands) in
        let n = ap (λ (x : List Part). length x) shared.second ∙ length-map p (second_of hands) in
        subst (λ (x : List (List Part)). Spanned hands spans x seconds' rest (i + 1)) (sym now) (subst (λ (x : List (List Part)). Spanned hands spans (set firsts i q) x rest (i + 1)) (sym more) record {
          shared = subst (λ (x : List Part). AllShared hands x (all_parts (take (i + 1) (set firsts i q))) (all_parts (seconds ++ s ∷ []))) (sym (all_parts-more spans i p within at))
              (subst (λ (x : List Part). AllShared hands (all_parts (take i spans) ++ p) x (all_parts (seconds ++ s ∷ []))) (sym (ap (λ (x : List (List Part)). all_parts x) front ∙ all_parts-push (take i firsts) q))
              (subst (λ (x : List Part). AllShared hands (all_parts (take i spans) ++ p) (all_parts (take i firsts) ++ q) x) (sym (all_parts-push seconds s)) both));
          behind = drop-set-lt (i + 1) firsts i q (omega arith) ∙ next_left spans firsts i a.behind;
          twins_left = zip.1;
          count = length-set firsts i q ∙ count;
          wide = let w = a.wide in let b = length_push seconds s in omega arith;
          full = λ some.
              let b = a.full some in
              let one : 0 < length p = subst (λ (x : List Part). 0 < length x) (sym at) (All-get_or (λ (x : List Part). 0 < length x) spans i p within some) in (
                subst (λ (x : List (List Part)). NoneEmpty x) (sym front) (All-push (λ (x : List Part). 0 < length x) (take i firsts) q b.0 (omega arith)),
                All-push (λ (x : List Part). 0 < length x) seconds s b.1 (omega arith),
              );
        })

-- all spans were shared
module _ (hands : Bool) (spans firsts seconds : List (List Part)) (twins : List Twin) (i : ℕ) (a : Spanned hands spans firsts seconds twins i) (none : length twins ≡ 0) where
  past : length spans ≤ i
  past =
      let n = twins_count (drop i spans) twins a.twins_left in
      let d = length-drop i spans in
      omega arith

  all_firsts : take i firsts ≡ firsts
  all_firsts = take_all i firsts (let c = a.count in let p = past in omega arith)

  pub spanned_last : AllShared hands (all_parts spans) (all_parts firsts) (all_parts seconds)
  spanned_last =
      subst (λ (l : List (List Part)). AllShared hands (all_parts l) (all_parts firsts) (all_parts seconds)) (take_all i spans past)
      (subst (λ (l : List (List Part)). AllShared hands (all_parts (take i spans)) (all_parts l) (all_parts seconds)) all_firsts a.shared)

  pub spanned_full : NoneEmpty spans → NoneEmpty firsts × NoneEmpty seconds
  spanned_full some = let b = a.full some in (subst (λ (l : List (List Part)). NoneEmpty l) all_firsts b.0, b.1)

-- The shares' chains

first_under : (t : TableId) (n : ℕ) (o : Owner) → IsUnder t o → IsUnder t (sharing n o)
first_under t n (Kept r) under = tt
first_under t n (Counted h) under = λ i. record (under i) { adds = h.adds - (n + 1); weight = h.weight - (n + 1) }

second_under : (t : TableId) (n : ℕ) (o : Owner) → IsUnder t o → IsUnder t (share_of n o)
second_under t n (Kept r) under = tt
second_under t n (Counted h) under = ap (λ (u : TableId). owner_of u h.place n (n + 1)) (ap (λ (x : Known). x.table) under)

firsts_chain : (hands : Bool) (t : TableId) (ps : List Part) → IsChain t ps → IsChain t (map (first_of hands) ps)
firsts_chain hands t ps chain = record {
  under = All-map (λ (q : Part). IsUnder t q.owner) (first_of hands) ps (All-weaker (λ (q : Part). IsUnder t q.owner) (λ (q : Part). IsUnder t (first_of hands q).owner) (λ q u. first_under t (handed hands (adds_of q.owner)) q.owner u) ps chain.under);
  some = All-map (λ (q : Part). 0 < length q.octets) (first_of hands) ps chain.some;
  short = let e = ap length (joined_firsts hands ps) in let s = chain.short in omega arith;
}

seconds_chain : (hands : Bool) (t : TableId) (ps : List Part) → IsChain t ps → IsChain t (map (second_of hands) ps)
seconds_chain hands t ps chain = record {
  under = All-map (λ (q : Part). IsUnder t q.owner) (second_of hands) ps (All-weaker (λ (q : Part). IsUnder t q.owner) (λ (q : Part). IsUnder t (second_of hands q).owner) (λ q u. second_under t (handed hands (adds_of q.owner)) q.owner u) ps chain.under);
  some = All-map (λ (q : Part). 0 < length q.octets) (second_of hands) ps chain.some;
  short = let e = ap length (joined_seconds hands ps) in let s = chain.short in omega arith;
}

-- the pbufs of both chains after a share
module _ (hands : Bool) (t : TableId) (ps qs ms : List Part) (chain : IsChain t ps) (shared : AllShared hands ps qs ms) where
  pub first_chain : IsChain t qs
  first_chain = subst (λ (l : List Part). IsChain t l) (sym shared.first) (firsts_chain hands t ps chain)

  pub second_chain : IsChain t ms
  second_chain = subst (λ (l : List Part). IsChain t l) (sym shared.second) (seconds_chain hands t ps chain)

pub is_shared_to : (hands : Bool) (p q o : ChainSeen) (ps : List Part) → ps ≡ p.parts → AllShared hands ps q.parts o.parts → q.table ≡ p.table → o.table ≡ p.table → q.room ≡ p.room → IsSharedTo hands p q o
is_shared_to hands p q o ps parts shared first second room = record {
  first = shared.first ∙ ap (map (first_of hands)) parts;
  second = shared.second ∙ ap (map (second_of hands)) parts;
  first_table = first;
  second_table = second;
  room = room;
  rows = λ s. shared.rows s ∙ ap (λ (l : List Part). rows_in l s) parts;
  weight = shared.weight ∙ ap weight_in parts;
}

-- The share of a chain: its spans were shared, which were lent as `lent` and are written back as `firsts`
pub record WholeShare (hands : Bool) (t : TableId) (ps qs ms : List Part) (spans firsts seconds : List (List Part)) : Type 0 where
  pub shared : AllShared hands ps qs ms
  pub count : length firsts ≡ length spans
  pub first : IsChain t qs × NoneEmpty firsts
  pub second : IsChain t ms × NoneEmpty seconds

pub whole_share : (hands : Bool) (t : TableId) (spans lent firsts seconds : List (List Part)) → IsChain t (all_parts spans) × NoneEmpty spans → lent ≡ spans → length firsts ≡ length lent
    → AllShared hands (all_parts lent) (all_parts firsts) (all_parts seconds) → (NoneEmpty lent → NoneEmpty firsts) → (NoneEmpty lent → NoneEmpty seconds)
    → WholeShare hands t (all_parts spans) (all_parts (refill (length spans) spans firsts)) (all_parts seconds) spans (refill (length spans) spans firsts) seconds
whole_share hands t spans lent firsts seconds chain is same behind full others =
    let m = ap (λ (l : List (List Part)). length l) is in
    let whole = subst (λ (l : List (List Part)). AllShared hands (all_parts l) (all_parts firsts) (all_parts seconds)) is behind in
    let some = subst (λ (l : List (List Part)). NoneEmpty l) (sym is) chain.1 in
    subst (λ (l : List (List Part)). WholeShare hands t (all_parts spans) (all_parts l) (all_parts seconds) spans l seconds) (sym (refilled (length spans) spans firsts refl (omega arith))) record {
      shared = whole;
      count = omega arith;
      first = (first_chain hands t (all_parts spans) (all_parts firsts) (all_parts seconds) chain.0 whole, full some);
      second = (second_chain hands t (all_parts spans) (all_parts firsts) (all_parts seconds) chain.0 whole, others some);
    }

-- the one span of a chain, and another in its place
pub one_span : (spans : List (List Part)) (p q : List Part) → length spans ≡ 1 → p ≡ get_or spans 0 p → (p ≡ all_parts spans) × (q ≡ all_parts (set spans 0 q))
one_span [] p q one is = absurd (omega arith)
one_span (x ∷ []) p q one is = (is ∙ sym (all_parts-one x), sym (all_parts-one q))
one_span (x ∷ y ∷ ys) p q one is = absurd (omega arith)

pub one_shared : (hands : Bool) (spans : List (List Part)) (p q o : List Part) → length spans ≡ 1 → p ≡ get_or spans 0 p → AllShared hands p q o → AllShared hands (all_parts spans) (all_parts (set spans 0 q)) o
one_shared hands spans p q o one is shared =
    let e = one_span spans p q one is in
    subst (λ (l : List Part). AllShared hands l (all_parts (set spans 0 q)) o) e.0 (subst (λ (l : List Part). AllShared hands p l o) e.1 shared)

pub one_full : (hands : Bool) (spans : List (List Part)) (p q o : List Part) → length spans ≡ 1 → p ≡ get_or spans 0 p → AllShared hands p q o → NoneEmpty spans → NoneEmpty (set spans 0 q) × (0 < length o)
one_full hands [] p q o one is shared full = absurd (omega arith)
one_full hands (x ∷ xs) p q o one is shared full =
    let some : 0 < length x = All-head (λ (l : List Part). 0 < length l) x xs full in
    let e = ap (λ (l : List Part). length l) is in
    let m = ap (λ (l : List Part). length l) shared.first ∙ length-map p (first_of hands) in
    let n = ap (λ (l : List Part). length l) shared.second ∙ length-map p (second_of hands) in
    (All-cons (λ (l : List Part). 0 < length l) q xs (omega arith) (All-tail (λ (l : List Part). 0 < length l) x xs full), omega arith)

-- the spans of a share of one
pub one_second : (hands : Bool) (ps qs o : List Part) (seconds : List (List Part)) → seconds ≡ o ∷ [] → AllShared hands ps qs o → AllShared hands ps qs (all_parts seconds)
one_second hands ps qs o seconds is shared = subst (λ (l : List Part). AllShared hands ps qs l) (sym (ap (λ (l : List (List Part)). all_parts l) is ∙ all_parts-one o)) shared

pub one_none_empty : (o : List Part) (spans : List (List Part)) → spans ≡ o ∷ [] → 0 < length o → NoneEmpty spans
one_none_empty o spans is some = subst (λ (l : List (List Part)). NoneEmpty l) (sym is) (All-cons (λ (l : List Part). 0 < length l) o [] some (All-nil (λ (l : List Part). 0 < length l)))

-- the owners of a chain's pbufs may be shared where each may add one
pub may_share : (h : SeatSeen) (t : TableId) (c : ChainSeen) (ps : List Part) → IsOf h c → ps ≡ c.parts → t ≡ c.table → IsChain t ps → 0 < least_adds c.parts → MayShare h c.parts
may_share h t c ps of parts table chain adds = record {
  under = subst (λ (l : List Part). All (λ p. IsUnder h.holder.table p.owner) l) parts (subst (λ (u : TableId). All (λ p. IsUnder u p.owner) ps) (table ∙ of.table) chain.under);
  listed = of.listed;
  adds = adds;
}

-- both chains may be given up to the seat
pub first_of_seat : (hands : Bool) (h k : SeatSeen) (p q o : ChainSeen) → k ≡ h → IsOf h p → IsSharedTo hands p q o → IsOf k q
first_of_seat hands h k p q o same of s = subst (λ (x : SeatSeen). IsOf x q) (sym same) record {
  table = s.first_table ∙ of.table;
  listed = λ t. let l = of.listed t in let r = s.rows t in omega arith;
}

pub second_of_seat : (hands : Bool) (h k : SeatSeen) (p q o : ChainSeen) → k ≡ h → IsOf h p → IsSharedTo hands p q o → IsOf k o
second_of_seat hands h k p q o same of s = subst (λ (x : SeatSeen). IsOf x o) (sym same) record {
  table = s.second_table ∙ of.table;
  listed = λ t. let l = of.listed t in let r = s.rows t in omega arith;
}

pub first_seats : (hands : Bool) (h k : SeatSeen) (p q : ChainSeen) (r : Result ChainSeen ShareFault) → k ≡ h → IsOf h p → IfOk r (λ o. IsSharedTo hands p q o) → OnOk r (IsOf k q)
first_seats hands h k p q (Ok o) same of s = first_of_seat hands h k p q o same of s
first_seats hands h k p q (Err f) same of s = tt

pub second_seats : (hands : Bool) (h k : SeatSeen) (p q : ChainSeen) (r : Result ChainSeen ShareFault) → k ≡ h → IsOf h p → IfOk r (λ o. IsSharedTo hands p q o) → IfOk r (λ o. IsOf k o)
second_seats hands h k p q (Ok o) same of s = second_of_seat hands h k p q o same of s
second_seats hands h k p q (Err f) same of s = tt

pub is_chained : (p q t u o : ChainSeen) → IsSharedTo false t u o → q.parts ≡ p.parts ++ o.parts → q.table ≡ p.table → p.room ≤ q.room + length o.parts → IsChained p q t u
is_chained p q t u o s parts table room = record {
  parts = parts ∙ ap (λ (l : List Part). p.parts ++ l) s.second;
  tail = s.first;
  table = table;
  tail_table = s.first_table;
  room = let n = ap (λ (l : List Part). length l) s.second in let m = length-map t.parts (second_of false) in omega arith;
  tail_room = s.room;
  rows = λ x. let a = ap (λ (l : List Part). rows_in l x) parts in let b = sum_by-append (λ (y : Part). row_of y.owner x) p.parts o.parts in let r = s.rows x in omega arith;
  weight = let a = ap weight_in parts in let b = sum_by-append (λ (y : Part). weight_of y.owner) p.parts o.parts in let w = s.weight in omega arith;
}
