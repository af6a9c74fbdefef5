-- What cuts leave of a span.
use Rattle.std.proofs.Common.{◌≡◌, ℕ, suc, ◌+◌, ◌-◌, ◌<◌, ◌≤◌, Bool, true, List, [], ◌∷◌, ◌++◌, length, set, take, drop, get_or, All, Some, refl, sym, ap, ◌∙◌, subst, arith, length-append, length-drop, length-take}
use Rattle.std.specs.Prelude.{slice_range}
use Rattle.std.specs.List.{remove}
use Rattle.std.proofs.lemmas.List.{drop-drop, drop-take, drop-append-le, take-append-le, take-take, drop_at, take_all}
use Rattle.std.proofs.lemmas.List.Elements.{All-head, All-tail, All-cons, All-pop, All-push}
use Rattle.atomic_table.specs.Seated.{TableId}
use Rattle.lw_payload.specs.Views.{Slot}
use Rattle.pbuf_seats.specs.Kept.{rows_of}
use Rattle.pbuf_seats.specs.declared.owner.Owner.{Owner}
use Rattle.pbuf_seats.specs.declared.pbuf.Pbuf.{Pbuf}
use Rattle.pbuf_seats.specs.Owners.{row_of, weight_of, IsOwner}
use Rattle.pbuf_seats.specs.Seats.{SeatSeen}
use Rattle.pbuf_spans.specs.declared.body.Body.{Body}
use Rattle.pbuf_spans.specs.Parts.{Part, joined, rows_in, weight_in, IsUnder, IsChain, IsSpent}
use Rattle.pbuf_spans.specs.Spans.{lens, parts_of, bare, octets_of, is_own, IsSpan}
use Rattle.pbuf_spans.specs.Cuts.{without_front, with_front, IsCutTo}
use Rattle.pbuf_spans.proofs.Lists.{rows_in-cons, weight_in-cons, rows_in-push, weight_in-push, least_adds-front, least_adds-push, all_own-front, all_own-tail, all_own-push, joined-push}
use Rattle.pbuf_spans.proofs.Ends.{front_here, front_past, front_none, back_all, back_last, back_within}
use Rattle.pbuf_spans.proofs.Owning.{same_seat, same_then, may_give}
use Rattle.pbuf_spans.proofs.Spans.{lens-cons, lens-append, length-text, lens_text, parts_of-take, parts_of-append, rows_in-parts_of, weight_in-parts_of}

-- nothing was cut
pub cut_none : (h : SeatSeen) (ps : List Part) → IsCutTo h h ps ps
cut_none h ps = record { rows = λ s. refl; fewer = λ s. omega arith; weight = refl; parts = omega arith; adds = omega arith; own = λ o. o; same = same_seat h }

-- one cut after another
pub cut_then : (h k l : SeatSeen) (ps qs rs : List Part) → IsCutTo h k ps qs → IsCutTo k l qs rs → IsCutTo h l ps rs
cut_then h k l ps qs rs a b = record {
  rows = λ s. let x = a.rows s in let y = b.rows s in omega arith;
  fewer = λ s. let x = a.fewer s in let y = b.fewer s in omega arith;
  weight = let x = a.weight in let y = b.weight in omega arith;
  parts = let x = a.parts in let y = b.parts in omega arith;
  adds = let x = a.adds in let y = b.adds in omega arith;
  own = λ o. b.own (a.own o);
  same = same_then h k l a.same b.same;
}

-- the rows of what is left are among those that the seat gave out
pub still_listed : (h k : SeatSeen) (ps qs : List Part) → IsCutTo h k ps qs → ((s : Slot) → rows_in ps s ≤ rows_of h.kept s) → (s : Slot) → rows_in qs s ≤ rows_of k.kept s
still_listed h k ps qs cut listed s = let r = cut.rows s in let f = cut.fewer s in let l = listed s in omega arith

-- the owners of all pbufs of a span were given up
pub all_spent : (h k l : SeatSeen) (own : Bool) (text : List ℕ) (ps : List Pbuf) (was : List Part) → parts_of own text ps ≡ was → IsSpent h k (bare ps) → l ≡ k → IsSpent h l was
all_spent h k l own text ps was is spent same = subst (λ (j : SeatSeen). IsSpent h j was) (sym same) record {
  rows = λ s. let r = spent.rows s in let a = rows_in-parts_of own text ps s in let e = ap (λ (x : List Part). rows_in x s) is in omega arith;
  weight = let r = spent.weight in let a = weight_in-parts_of own text ps in let e = ap weight_in is in omega arith;
  same = spent.same;
}

-- Cuts at the front

-- one step of a cut: of ps are left qs, and of n octets still so many are to be cut, at the front
pub record CutsFront (h k : SeatSeen) (ps qs : List Part) (n left : ℕ) : Type 0 where
  pub octets : drop left (joined qs) ≡ drop n (joined ps)
  pub left_parts : without_front left qs ≡ without_front n ps
  pub within : left ≤ length (joined qs)
  pub less : left < n
  pub chain : IsChain k.holder.table qs
  pub cut : IsCutTo h k ps qs

-- a part of the first pbuf is cut off
cut_part : (h : SeatSeen) (x : Part) (xs : List Part) (n : ℕ) → IsChain h.holder.table (x ∷ xs) → 0 < n → n < length x.octets
    → CutsFront h h (x ∷ xs) (record { owner = x.owner; octets = drop n x.octets; own = x.own } ∷ xs) n 0
cut_part h x xs n chain some short =
    let y : Part = record { owner = x.owner; octets = drop n x.octets; own = x.own } in
    let all : All (λ (z : Part). 0 < length z.octets) (y ∷ xs) = All-cons (λ (z : Part). 0 < length z.octets) y xs (let l = length-drop n x.octets in omega arith) (All-tail (λ (z : Part). 0 < length z.octets) x xs chain.some) in
    record {
      octets = sym (drop-append-le n x.octets (joined xs) (omega arith));
      left_parts = front_none (y ∷ xs) all ∙ sym (front_here x xs n short);
      within = omega arith;
      less = some;
      chain = record {
        under = All-cons (λ (z : Part). IsUnder h.holder.table z.owner) y xs (All-head (λ (z : Part). IsUnder h.holder.table z.owner) x xs chain.under) (All-tail (λ (z : Part). IsUnder h.holder.table z.owner) x xs chain.under);
        some = all;
        short = let a = length-append x.octets (joined xs) in let b = length-append (drop n x.octets) (joined xs) in let l = length-drop n x.octets in let s = chain.short in omega arith;
      };
      cut = record { rows = λ s. refl; fewer = λ s. omega arith; weight = refl; parts = omega arith; adds = omega arith; own = λ o. o; same = same_seat h };
    }

drop-past : (xs ys : List ℕ) (n : ℕ) → drop (length xs + n) (xs ++ ys) ≡ drop n ys
drop-past xs ys n = sym (drop-drop n (length xs) (xs ++ ys)) ∙ ap (drop n) (drop_at xs ys (length xs) refl)

-- the whole first pbuf is cut off
cut_whole : (h k : SeatSeen) (x : Part) (xs : List Part) (p : Pbuf) (n left : ℕ) → IsChain h.holder.table (x ∷ xs) → n ≤ length (joined (x ∷ xs)) → length x.octets + left ≡ n → x.owner ≡ p.owner
    → IsSpent h k (bare (p ∷ [])) → CutsFront h k (x ∷ xs) xs n left
cut_whole h k x xs p n left chain within long is spent =
    let one : 0 < length x.octets = All-head (λ (z : Part). 0 < length z.octets) x xs chain.some in
    let both = length-append x.octets (joined xs) in
    let given : Part = record { owner = p.owner; octets = []; own = true } in
    record {
      octets = sym (ap (λ (j : ℕ). drop j (x.octets ++ joined xs)) (sym long) ∙ drop-past x.octets (joined xs) left);
      left_parts = sym (front_past x xs n (omega arith) ∙ ap (λ (j : ℕ). without_front j xs) (let e : n - length x.octets ≡ left = omega arith in e));
      within = omega arith;
      less = omega arith;
      chain = record {
        under = subst (λ (t : TableId). All (λ (z : Part). IsUnder t z.owner) xs) (sym spent.same.table) (All-tail (λ (z : Part). IsUnder h.holder.table z.owner) x xs chain.under);
        some = All-tail (λ (z : Part). 0 < length z.octets) x xs chain.some;
        short = let s = chain.short in omega arith;
      };
      cut = record {
        rows = λ s. let r = spent.rows s in let o = rows_in-cons given [] s in let e = ap (λ (y : Owner). row_of y s) is in let a = rows_in-cons x xs s in omega arith;
        fewer = λ s. let a = rows_in-cons x xs s in omega arith;
        weight = let r = spent.weight in let o = weight_in-cons given [] in let e = ap weight_of is in let a = weight_in-cons x xs in omega arith;
        parts = omega arith;
        adds = omega arith;
        own = λ o. all_own-tail x xs o;
        same = spent.same;
      };
    }

-- the octets of a body from a place on that is n higher
text_front : (octets : List ℕ) (from to n : ℕ) → n ≤ to - from → slice_range octets (from + n) to ≡ drop n (slice_range octets from to)
text_front octets from to n within =
    ap (λ (l : List ℕ). take (to - (from + n)) l) (sym (drop-drop n from octets))
    ∙ (sym (drop-take n (to - (from + n)) (drop from octets)) ∙ ap (λ (m : ℕ). drop n (take m (drop from octets))) (let e : n + (to - (from + n)) ≡ to - from = omega arith in e))

-- the pbufs of a span of which the first has n octets fewer, and begins with the n-th
front_seen : (own : Bool) (text : List ℕ) (p : Pbuf) (ps : List Pbuf) (n : ℕ) → n ≤ p.len
    → parts_of own (drop n text) (record { owner = p.owner; len = p.len - n } ∷ ps) ≡ record { owner = p.owner; octets = drop n (take p.len text); own = own } ∷ parts_of own (drop p.len text) ps
front_seen own text p ps n within =
    let whole : n + (p.len - n) ≡ p.len = omega arith in
    let here : take (p.len - n) (drop n text) ≡ drop n (take p.len text) = sym (drop-take n (p.len - n) text) ∙ ap (λ (m : ℕ). drop n (take m text)) whole in
    let behind : drop (p.len - n) (drop n text) ≡ drop p.len text = drop-drop (p.len - n) n text ∙ ap (λ (m : ℕ). drop m text) whole in
    λ i. record { owner = p.owner; octets = here i; own = own } ∷ parts_of own (behind i) ps

-- what contracts see of a span
abbrev pub seen : Body → (from to : ℕ) → List Pbuf → List Part
seen body from to ps = parts_of (is_own body) (slice_range (octets_of body) from to) ps

-- a part of the first pbuf of a span is cut off
pub first_part : (h : SeatSeen) (body : Body) (from to : ℕ) (ps : List Pbuf) (was : List Part) (p q : Pbuf) (n : ℕ) → IsSpan body from to ps → seen body from to ps ≡ was
    → IsChain h.holder.table was → 0 < n → n ≤ length (joined was) → p ≡ get_or ps 0 p → q ≡ get_or ps 0 q → n < p.len
    → CutsFront h h was (seen body (from + n) to (set ps 0 record { owner = q.owner; len = q.len - n })) n 0
first_part h body from to [] was p q n span is chain some within first first' short = absurd (let e = ap (λ (l : List Part). length (joined l)) is in omega arith)
first_part h body from to (x ∷ xs) was p q n span is chain some within first first' short =
    let own : Bool = is_own body in
    let text : List ℕ = slice_range (octets_of body) from to in
    let here : Part = record { owner = x.owner; octets = take x.len text; own = own } in
    let rest : List Part = parts_of own (drop x.len text) xs in
    let long : length text ≡ to - from = length-text body from to (x ∷ xs) span in
    let all : lens (x ∷ xs) ≡ length text = lens_text body from to (x ∷ xs) span in
    let both = lens-cons x xs in
    let len : p.len ≡ x.len = ap (λ (y : Pbuf). y.len) first in
    let t = length-take x.len text in
    let now : seen body (from + n) to (record { owner = q.owner; len = q.len - n } ∷ xs) ≡ record { owner = x.owner; octets = drop n (take x.len text); own = own } ∷ rest =
    ap (λ (l : List ℕ). parts_of own l (record { owner = q.owner; len = q.len - n } ∷ xs)) (text_front (octets_of body) from to n (omega arith))
    ∙ (ap (λ (y : Pbuf). parts_of own (drop n text) (record { owner = y.owner; len = y.len - n } ∷ xs)) first' ∙ front_seen own text x xs n (omega arith)) in
    subst (λ (l : List Part). CutsFront h h l (seen body (from + n) to (record { owner = q.owner; len = q.len - n } ∷ xs)) n 0) is
    (subst (λ (l : List Part). CutsFront h h (here ∷ rest) l n 0) (sym now)
    (cut_part h here rest n (subst (λ (l : List Part). IsChain h.holder.table l) (sym is) chain) some (omega arith)))

-- the whole first pbuf of a span is cut off
pub first_whole : (h k : SeatSeen) (body : Body) (from to : ℕ) (ps qs : List Pbuf) (was : List Part) (p q : Pbuf) (n : ℕ) → IsSpan body from to ps → seen body from to ps ≡ was
    → IsChain h.holder.table was → 0 < n → n ≤ length (joined was) → p ≡ get_or ps 0 p → q ≡ get_or ps 0 q → p.len ≤ n → qs ≡ remove ps 0 → IsSpent h k (bare (q ∷ []))
    → CutsFront h k was (seen body (from + p.len) to qs) n (n - p.len)
first_whole h k body from to [] qs was p q n span is chain some within first first' long removed spent = absurd (let e = ap (λ (l : List Part). length (joined l)) is in omega arith)
first_whole h k body from to (x ∷ xs) qs was p q n span is chain some within first first' long removed spent =
    let own : Bool = is_own body in
    let text : List ℕ = slice_range (octets_of body) from to in
    let here : Part = record { owner = x.owner; octets = take x.len text; own = own } in
    let rest : List Part = parts_of own (drop x.len text) xs in
    let whole : length text ≡ to - from = length-text body from to (x ∷ xs) span in
    let all : lens (x ∷ xs) ≡ length text = lens_text body from to (x ∷ xs) span in
    let both = lens-cons x xs in
    let len : p.len ≡ x.len = ap (λ (y : Pbuf). y.len) first in
    let t = length-take x.len text in
    let now : seen body (from + p.len) to qs ≡ rest =
    ap (λ (l : List Pbuf). seen body (from + p.len) to l) removed
    ∙ (ap (λ (l : List ℕ). parts_of own l xs) (text_front (octets_of body) from to p.len (omega arith)) ∙ ap (λ (m : ℕ). parts_of own (drop m text) xs) len) in
    subst (λ (l : List Part). CutsFront h k l (seen body (from + p.len) to qs) n (n - p.len)) is
    (subst (λ (l : List Part). CutsFront h k (here ∷ rest) l n (n - p.len)) (sym now)
    (cut_whole h k here rest q n (n - p.len) (subst (λ (l : List Part). IsChain h.holder.table l) (sym is) chain) (let e = ap (λ (l : List Part). length (joined l)) is in omega arith) (omega arith)
    (sym (ap (λ (y : Pbuf). y.owner) first')) spent))

-- the pbufs behind the first are a span
pub rest_seen : (body rest : Body) (from to : ℕ) (ps qs : List Pbuf) (was : List Part) (p : Pbuf) → IsSpan body from to ps → seen body from to ps ≡ was → p ≡ get_or ps 0 p → rest ≡ body → qs ≡ remove ps 0
    → seen rest (from + p.len) to qs ≡ drop 1 was
rest_seen body rest from to [] qs was p span is first same removed = ap (seen rest (from + p.len) to) removed ∙ ap (λ (l : List Part). drop 1 l) is
rest_seen body rest from to (x ∷ xs) qs was p span is first same removed =
    let text : List ℕ = slice_range (octets_of body) from to in
    let long : length text ≡ to - from = length-text body from to (x ∷ xs) span in
    let all : lens (x ∷ xs) ≡ length text = lens_text body from to (x ∷ xs) span in
    let both = lens-cons x xs in
    let len : p.len ≡ x.len = ap (λ (y : Pbuf). y.len) first in
    (λ i. seen (same i) (from + p.len) to (removed i))
    ∙ (ap (λ (l : List ℕ). parts_of (is_own body) l xs) (text_front (octets_of body) from to p.len (omega arith))
    ∙ (ap (λ (m : ℕ). parts_of (is_own body) (drop m text) xs) len ∙ ap (λ (l : List Part). drop 1 l) is))

-- the owner of the first may be given up
pub first_owner : (h : SeatSeen) (body : Body) (from to : ℕ) (ps : List Pbuf) (was : List Part) (p : Pbuf) → seen body from to ps ≡ was → IsChain h.holder.table was → ((s : Slot) → rows_in was s ≤ rows_of h.kept s)
    → 0 < length (joined was) → p ≡ get_or ps 0 p → IsOwner h p.owner
first_owner h body from to [] was p is chain listed some first = absurd (let e = ap (λ (l : List Part). length (joined l)) is in omega arith)
first_owner h body from to (x ∷ xs) was p is chain listed some first =
    let text : List ℕ = slice_range (octets_of body) from to in
    let here : Part = record { owner = x.owner; octets = take x.len text; own = is_own body } in
    let rest : List Part = parts_of (is_own body) (drop x.len text) xs in
    subst (λ (y : Pbuf). IsOwner h y.owner) (sym first)
    (may_give h x.owner (All-head (λ (z : Part). IsUnder h.holder.table z.owner) here rest (subst (λ (l : List Part). All (λ z. IsUnder h.holder.table z.owner) l) (sym is) chain.under))
    (λ s. let l = listed s in let e = ap (λ (l : List Part). rows_in l s) is in let a = rows_in-cons here rest s in omega arith))

-- a cut at the front under way: of ps are left qs, and of n octets so many are still to be cut
pub record FrontCut (h k : SeatSeen) (ps qs : List Part) (n left : ℕ) : Type 0 where
  pub octets : drop left (joined qs) ≡ drop n (joined ps)
  pub left_parts : without_front left qs ≡ without_front n ps
  pub within : left ≤ length (joined qs)
  pub chain : IsChain k.holder.table qs
  pub listed : (s : Slot) → rows_in qs s ≤ rows_of k.kept s
  pub cut : IsCutTo h k ps qs

pub front_first : (h : SeatSeen) (ps : List Part) (n : ℕ) → IsChain h.holder.table ps → n ≤ length (joined ps) → ((s : Slot) → rows_in ps s ≤ rows_of h.kept s) → FrontCut h h ps ps n n
front_first h ps n chain within listed = record { octets = refl; left_parts = refl; within = within; chain = chain; listed = listed; cut = cut_none h ps }

pub front_next : (h k l : SeatSeen) (ps qs rs : List Part) (n left after : ℕ) → FrontCut h k ps qs n left → drop after (joined rs) ≡ drop left (joined qs) → without_front after rs ≡ without_front left qs → after ≤ length (joined rs) → IsChain l.holder.table rs → IsCutTo k l qs rs → FrontCut h l ps rs n after
front_next h k l ps qs rs n left after f octets parts within chain cut = record {
  octets = octets ∙ f.octets;
  left_parts = parts ∙ f.left_parts;
  within = within;
  chain = chain;
  listed = still_listed k l qs rs cut f.listed;
  cut = cut_then h k l ps qs rs f.cut cut;
}

-- Cuts at the back

take-past : (xs ys : List ℕ) (n : ℕ) → take (length xs + n) (xs ++ ys) ≡ xs ++ take n ys
take-past [] ys n = ap (λ (k : ℕ). take k ys) (let e : 0 + n ≡ n = omega arith in e)
take-past (x ∷ xs) ys n = ap (λ (k : ℕ). take k (x ∷ (xs ++ ys))) (let e : suc (length xs) + n ≡ suc (length xs + n) = omega arith in e) ∙ ap (λ (l : List ℕ). x ∷ l) (take-past xs ys n)

-- one step of a cut at the back
pub record CutsBack (h k : SeatSeen) (ps qs : List Part) (n left : ℕ) : Type 0 where
  pub octets : take (length (joined qs) - left) (joined qs) ≡ take (length (joined ps) - n) (joined ps)
  pub left_parts : with_front (length (joined qs) - left) qs ≡ with_front (length (joined ps) - n) ps
  pub count : length (joined qs) + n ≡ length (joined ps) + left
  pub less : left < n
  pub chain : IsChain k.holder.table qs
  pub cut : IsCutTo h k ps qs

-- a part of the last pbuf is cut off
back_part : (h : SeatSeen) (xs : List Part) (p y : Part) (n : ℕ) → IsChain h.holder.table (xs ++ p ∷ []) → 0 < n → n < length p.octets
    → y ≡ record { owner = p.owner; octets = take (length p.octets - n) p.octets; own = p.own } → CutsBack h h (xs ++ p ∷ []) (xs ++ y ∷ []) n 0
back_part h xs p y n chain some short is =
    let y_octets : y.octets ≡ take (length p.octets - n) p.octets = ap (λ (z : Part). z.octets) is in
    let y_owner : y.owner ≡ p.owner = ap (λ (z : Part). z.owner) is in
    let y_own : y.own ≡ p.own = ap (λ (z : Part). z.own) is in
    let old : joined (xs ++ p ∷ []) ≡ joined xs ++ p.octets = joined-push xs p in
    let new : joined (xs ++ y ∷ []) ≡ joined xs ++ take (length p.octets - n) p.octets = joined-push xs y ∙ ap (λ (l : List ℕ). joined xs ++ l) y_octets in
    let front : All (λ (z : Part). IsUnder h.holder.table z.owner) xs × IsUnder h.holder.table p.owner = All-pop (λ (z : Part). IsUnder h.holder.table z.owner) (xs ++ p ∷ []) xs (Some p) refl chain.under in
    let some_front : All (λ (z : Part). 0 < length z.octets) xs × (0 < length p.octets) = All-pop (λ (z : Part). 0 < length z.octets) (xs ++ p ∷ []) xs (Some p) refl chain.some in
    let old_length = ap length old ∙ length-append (joined xs) p.octets in
    let new_length = ap length new ∙ length-append (joined xs) (take (length p.octets - n) p.octets) in
    let kept = length-take (length p.octets - n) p.octets in
    let y_length = ap length y_octets in
    let all : All (λ (z : Part). 0 < length z.octets) (xs ++ y ∷ []) = All-push (λ (z : Part). 0 < length z.octets) xs y some_front.0 (omega arith) in
    record {
      octets = take_all (length (joined (xs ++ y ∷ [])) - 0) (joined (xs ++ y ∷ [])) (omega arith) ∙ (new ∙ sym (ap (take (length (joined (xs ++ p ∷ [])) - n)) old ∙ (ap (λ (j : ℕ). take j (joined xs ++ p.octets)) (let e : length (joined (xs ++ p ∷ [])) - n ≡ length (joined xs) + (length p.octets - n) = omega arith in e) ∙ take-past (joined xs) p.octets (length p.octets - n))));
      left_parts = back_all (xs ++ y ∷ []) (length (joined (xs ++ y ∷ [])) - 0) (omega arith) all
          ∙ (ap (λ (z : Part). xs ++ z ∷ []) is ∙ sym (back_last xs p (length (joined (xs ++ p ∷ [])) - n) (length p.octets - n) some_front.0 (omega arith) (omega arith)));
      count = omega arith;
      less = some;
      chain = record {
        under = All-push (λ (z : Part). IsUnder h.holder.table z.owner) xs y front.0 (subst (λ (o : Owner). IsUnder h.holder.table o) (sym y_owner) front.1);
        some = all;
        short = let s = chain.short in omega arith;
      };
      cut = record {
        rows = λ s. let a = rows_in-push xs p s in let b = rows_in-push xs y s in let e = ap (λ (o : Owner). row_of o s) y_owner in omega arith;
        fewer = λ s. let a = rows_in-push xs p s in let b = rows_in-push xs y s in let e = ap (λ (o : Owner). row_of o s) y_owner in omega arith;
        weight = let a = weight_in-push xs p in let b = weight_in-push xs y in let e = ap weight_of y_owner in omega arith;
        parts = let a = length-append xs (p ∷ []) in let b = length-append xs (y ∷ []) in omega arith;
        adds = let e = least_adds-push xs p y y_owner in omega arith;
        own = λ o. all_own-push xs p y y_own ∙ o;
        same = same_seat h;
      };
    }

-- the whole last pbuf is cut off
back_whole : (h k : SeatSeen) (xs : List Part) (p : Part) (q : Pbuf) (n left : ℕ) → IsChain h.holder.table (xs ++ p ∷ []) → n ≤ length (joined (xs ++ p ∷ [])) → length p.octets + left ≡ n → p.owner ≡ q.owner
    → IsSpent h k (bare (q ∷ [])) → CutsBack h k (xs ++ p ∷ []) xs n left
back_whole h k xs p q n left chain within long is spent =
    let given : Part = record { owner = q.owner; octets = []; own = true } in
    let old : joined (xs ++ p ∷ []) ≡ joined xs ++ p.octets = joined-push xs p in
    let front : All (λ (z : Part). IsUnder h.holder.table z.owner) xs × IsUnder h.holder.table p.owner = All-pop (λ (z : Part). IsUnder h.holder.table z.owner) (xs ++ p ∷ []) xs (Some p) refl chain.under in
    let some_front : All (λ (z : Part). 0 < length z.octets) xs × (0 < length p.octets) = All-pop (λ (z : Part). 0 < length z.octets) (xs ++ p ∷ []) xs (Some p) refl chain.some in
    let one : 0 < length p.octets = some_front.1 in
    let old_length = ap length old ∙ length-append (joined xs) p.octets in
    record {
      octets = sym (ap (take (length (joined (xs ++ p ∷ [])) - n)) old ∙ (ap (λ (j : ℕ). take j (joined xs ++ p.octets)) (let e : length (joined (xs ++ p ∷ [])) - n ≡ length (joined xs) - left = omega arith in e) ∙ take-append-le (length (joined xs) - left) (joined xs) p.octets (omega arith)));
      left_parts = sym (ap (λ (j : ℕ). with_front j (xs ++ p ∷ [])) (let e : length (joined (xs ++ p ∷ [])) - n ≡ length (joined xs) - left = omega arith in e) ∙ back_within xs (p ∷ []) (length (joined xs) - left) (omega arith));
      count = omega arith;
      less = omega arith;
      chain = record {
        under = subst (λ (t : TableId). All (λ (z : Part). IsUnder t z.owner) xs) (sym spent.same.table) front.0;
        some = some_front.0;
        short = let s = chain.short in omega arith;
      };
      cut = record {
        rows = λ s. let r = spent.rows s in let o = rows_in-cons given [] s in let e = ap (λ (y : Owner). row_of y s) is in let a = rows_in-push xs p s in omega arith;
        fewer = λ s. let a = rows_in-push xs p s in omega arith;
        weight = let r = spent.weight in let o = weight_in-cons given [] in let e = ap weight_of is in let a = weight_in-push xs p in omega arith;
        parts = let a = length-append xs (p ∷ []) in omega arith;
        adds = least_adds-front xs (p ∷ []);
        own = λ o. all_own-front xs (p ∷ []) o;
        same = spent.same;
      };
    }

-- the octets of a body up to a place that is n lower
text_back : (octets : List ℕ) (from to n : ℕ) → slice_range octets from (to - n) ≡ take ((to - from) - n) (slice_range octets from to)
text_back octets from to n =
    ap (λ (m : ℕ). take m (drop from octets)) (let e : to - n - from ≡ (to - from) - n = omega arith in e) ∙ sym (take-take ((to - from) - n) (to - from) (drop from octets) (omega arith))

-- the last of pbufs as a part
abbrev last_of : Bool → List ℕ → List Pbuf → Pbuf → Part
last_of own text xs p = record { owner = p.owner; octets = take p.len (drop (lens xs) text); own = own }

-- the pbufs of a span of which the last has n octets fewer
back_seen : (own : Bool) (text : List ℕ) (xs : List Pbuf) (p : Pbuf) (n k : ℕ) → n ≤ p.len → k ≡ lens xs + (p.len - n)
    → parts_of own (take k text) (xs ++ record { owner = p.owner; len = p.len - n } ∷ []) ≡ parts_of own text xs ++ record { owner = p.owner; octets = take (p.len - n) (take p.len (drop (lens xs) text)); own = own } ∷ []
back_seen own text xs p n k within is =
    let m : ℕ = p.len - n in
    let here : take m (drop (lens xs) (take k text)) ≡ take m (take p.len (drop (lens xs) text)) =
    ap (λ (j : ℕ). take m (drop (lens xs) (take j text))) is ∙ (ap (take m) (drop-take (lens xs) m text)
    ∙ (take-take m m (drop (lens xs) text) (omega arith) ∙ sym (take-take m p.len (drop (lens xs) text) (omega arith)))) in
    parts_of-append own (take k text) xs (record { owner = p.owner; len = m } ∷ [])
    ∙ (λ i. parts_of-take own k text xs (omega arith) i ++ record { owner = p.owner; octets = here i; own = own } ∷ [])

-- a part of the last pbuf of a span is cut off
pub last_part : (h : SeatSeen) (body : Body) (from to : ℕ) (ps xs qs : List Pbuf) (was : List Part) (p : Pbuf) (n : ℕ) → IsSpan body from to ps → seen body from to ps ≡ was
    → IsChain h.holder.table was → 0 < n → ps ≡ xs ++ p ∷ [] → n < p.len → qs ≡ xs ++ record { owner = p.owner; len = p.len - n } ∷ []
    → CutsBack h h was (seen body from (to - n) qs) n 0
last_part h body from to ps xs qs was p n span is chain some popped short pushed =
    let own : Bool = is_own body in
    let text : List ℕ = slice_range (octets_of body) from to in
    let long : length text ≡ to - from = length-text body from to ps span in
    let all : lens ps ≡ length text = lens_text body from to ps span in
    let both : lens ps ≡ lens xs + p.len = ap lens popped ∙ (lens-append xs (p ∷ []) ∙ (let e = lens-cons p [] in omega arith)) in
    let last : Part = last_of own text xs p in
    let y : Part = record { owner = p.owner; octets = take (p.len - n) last.octets; own = own } in
    let count : length last.octets ≡ p.len = let a = length-take p.len (drop (lens xs) text) in let b = length-drop (lens xs) text in omega arith in
    let old : parts_of own text xs ++ last ∷ [] ≡ was = sym (parts_of-append own text xs (p ∷ [])) ∙ (ap (parts_of own text) (sym popped) ∙ is) in
    let now : seen body from (to - n) qs ≡ parts_of own text xs ++ y ∷ [] =
    ap (seen body from (to - n)) pushed
    ∙ (ap (λ (l : List ℕ). parts_of own l (xs ++ record { owner = p.owner; len = p.len - n } ∷ [])) (text_back (octets_of body) from to n)
    ∙ back_seen own text xs p n ((to - from) - n) (omega arith) (omega arith)) in
    subst (λ (l : List Part). CutsBack h h l (seen body from (to - n) qs) n 0) old
    (subst (λ (l : List Part). CutsBack h h (parts_of own text xs ++ last ∷ []) l n 0) (sym now)
    (back_part h (parts_of own text xs) last y n (subst (λ (l : List Part). IsChain h.holder.table l) (sym old) chain) some (omega arith)
    (λ i. record { owner = p.owner; octets = take (sym count i - n) last.octets; own = own })))

-- the whole last pbuf of a span is cut off
pub last_whole : (h k : SeatSeen) (body : Body) (from to : ℕ) (ps xs : List Pbuf) (was : List Part) (p : Pbuf) (n : ℕ) → IsSpan body from to ps → seen body from to ps ≡ was
    → IsChain h.holder.table was → n ≤ length (joined was) → ps ≡ xs ++ p ∷ [] → p.len ≤ n → IsSpent h k (bare (p ∷ []))
    → CutsBack h k was (seen body from (to - p.len) xs) n (n - p.len)
last_whole h k body from to ps xs was p n span is chain within popped enough spent =
    let own : Bool = is_own body in
    let text : List ℕ = slice_range (octets_of body) from to in
    let long : length text ≡ to - from = length-text body from to ps span in
    let all : lens ps ≡ length text = lens_text body from to ps span in
    let both : lens ps ≡ lens xs + p.len = ap lens popped ∙ (lens-append xs (p ∷ []) ∙ (let e = lens-cons p [] in omega arith)) in
    let last : Part = last_of own text xs p in
    let count : length last.octets ≡ p.len = let a = length-take p.len (drop (lens xs) text) in let b = length-drop (lens xs) text in omega arith in
    let old : parts_of own text xs ++ last ∷ [] ≡ was = sym (parts_of-append own text xs (p ∷ [])) ∙ (ap (parts_of own text) (sym popped) ∙ is) in
    let now : seen body from (to - p.len) xs ≡ parts_of own text xs =
    ap (λ (l : List ℕ). parts_of own l xs) (text_back (octets_of body) from to p.len) ∙ parts_of-take own ((to - from) - p.len) text xs (omega arith) in
    subst (λ (l : List Part). CutsBack h k l (seen body from (to - p.len) xs) n (n - p.len)) old
    (subst (λ (l : List Part). CutsBack h k (parts_of own text xs ++ last ∷ []) l n (n - p.len)) (sym now)
    (back_whole h k (parts_of own text xs) last p n (n - p.len) (subst (λ (l : List Part). IsChain h.holder.table l) (sym old) chain) (let e = ap (λ (l : List Part). length (joined l)) old in omega arith) (omega arith) refl spent))

-- the owner of the last may be given up
pub last_owner : (h : SeatSeen) (body : Body) (from to : ℕ) (ps xs : List Pbuf) (was : List Part) (p : Pbuf) → seen body from to ps ≡ was → IsChain h.holder.table was → ((s : Slot) → rows_in was s ≤ rows_of h.kept s)
    → ps ≡ xs ++ p ∷ [] → IsOwner h p.owner
last_owner h body from to ps xs was p is chain listed popped =
    let own : Bool = is_own body in
    let text : List ℕ = slice_range (octets_of body) from to in
    let last : Part = last_of own text xs p in
    let front : List Part = parts_of own text xs in
    let old : front ++ last ∷ [] ≡ was = sym (parts_of-append own text xs (p ∷ [])) ∙ (ap (parts_of own text) (sym popped) ∙ is) in
    let under : All (λ (z : Part). IsUnder h.holder.table z.owner) front × IsUnder h.holder.table p.owner =
    All-pop (λ (z : Part). IsUnder h.holder.table z.owner) (front ++ last ∷ []) front (Some last) refl (subst (λ (l : List Part). All (λ z. IsUnder h.holder.table z.owner) l) (sym old) chain.under) in
    may_give h p.owner under.1 (λ s. let l = listed s in let a = rows_in-push front last s in let e = ap (λ (l : List Part). rows_in l s) old in omega arith)

-- a cut at the back under way, likewise
pub record BackCut (h k : SeatSeen) (ps qs : List Part) (n left : ℕ) : Type 0 where
  pub octets : take (length (joined qs) - left) (joined qs) ≡ take (length (joined ps) - n) (joined ps)
  pub left_parts : with_front (length (joined qs) - left) qs ≡ with_front (length (joined ps) - n) ps
  pub within : left ≤ length (joined qs)
  pub chain : IsChain k.holder.table qs
  pub listed : (s : Slot) → rows_in qs s ≤ rows_of k.kept s
  pub cut : IsCutTo h k ps qs

pub back_first : (h : SeatSeen) (ps : List Part) (n : ℕ) → IsChain h.holder.table ps → n ≤ length (joined ps) → ((s : Slot) → rows_in ps s ≤ rows_of h.kept s) → BackCut h h ps ps n n
back_first h ps n chain within listed = record { octets = refl; left_parts = refl; within = within; chain = chain; listed = listed; cut = cut_none h ps }

pub back_next : (h k l : SeatSeen) (ps qs rs : List Part) (n left after : ℕ) → BackCut h k ps qs n left
    → take (length (joined rs) - after) (joined rs) ≡ take (length (joined qs) - left) (joined qs) → with_front (length (joined rs) - after) rs ≡ with_front (length (joined qs) - left) qs → length (joined rs) + left ≡ length (joined qs) + after → IsChain l.holder.table rs → IsCutTo k l qs rs → BackCut h l ps rs n after
back_next h k l ps qs rs n left after f octets parts count chain cut = record {
  octets = octets ∙ f.octets;
  left_parts = parts ∙ f.left_parts;
  within = let w = f.within in omega arith;
  chain = chain;
  listed = still_listed k l qs rs cut f.listed;
  cut = cut_then h k l ps qs rs f.cut cut;
}
