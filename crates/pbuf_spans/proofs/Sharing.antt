-- How a span is shared.
use Rattle.std.proofs.Common.{◌≡◌, ℕ, ◌+◌, ◌-◌, ◌≤◌, min, Bool, false, List, [], ◌∷◌, ◌++◌, length, map, take, drop, All, refl, sym, ap, ◌∙◌, subst, arith, length-drop, length-take, append-nil}
use Rattle.std.specs.Prelude.{slice_range}
use Rattle.std.specs.List.{refill}
use Rattle.std.proofs.lemmas.List.{length-map, take_all, drop_all}
use Rattle.std.proofs.lemmas.List.Elements.{All-head, All-nil, All-cons, All-map}
use Rattle.pbuf_seats.specs.declared.owner.Owner.{Owner}
use Rattle.pbuf_seats.specs.declared.pbuf.Pbuf.{Pbuf}
use Rattle.pbuf_seats.specs.Owners.{row_of, weight_of, adds_of, sharing, share_of}
use Rattle.pbuf_seats.specs.Seats.{SeatSeen}
use Rattle.pbuf_spans.specs.declared.body.Body.{Body}
use Rattle.pbuf_spans.specs.Parts.{Part, joined, rows_in, weight_in, least_adds, IsUnder}
use Rattle.pbuf_spans.specs.Spans.{lens, parts_of, bare, octets_of, is_own, IsSpan}
use Rattle.pbuf_spans.specs.Shares.{handed, first_of, second_of, first_held, second_held, as_shared, MayShare, AllShared, OwnersShared}
use Rattle.pbuf_spans.proofs.Spans.{lens_text, joined_text, rows_in-parts_of, weight_in-parts_of, least_adds-parts_of, owners_held, owners_bare, shared_parts, shared_owners}
use Rattle.pbuf_spans.proofs.Owning.{sum_by-map}

length-range : (xs : List ℕ) (from to : ℕ) → from ≤ to → to ≤ length xs → length (slice_range xs from to) ≡ to - from
length-range xs from to order within = let a = length-take (to - from) (drop from xs) in let b = length-drop from xs in omega arith

-- Bodies

module _ (body : Body) (from to : ℕ) (ps : List Pbuf) (seen : List Part) (span : IsSpan body from to ps) (view : parts_of (is_own body) (slice_range (octets_of body) from to) ps ≡ seen) where
  pub seen_joined : slice_range (octets_of body) from to ≡ joined seen
  seen_joined = sym (joined_text body from to ps span) ∙ ap joined view

  -- the same pbufs, seen through a window on another body with their octets
  pub looks_through : (xs : List ℕ) (f t : ℕ) → f ≤ t → t ≤ length xs → slice_range xs f t ≡ joined seen → (f + lens ps ≡ t) × (t ≤ length xs)
  looks_through xs f t order within same =
      let l = lens_text body from to ps span in
      let e = ap length (same ∙ sym seen_joined) in
      let r = length-range xs f t order within in
      (omega arith, within)

  pub shared_view : (xs : List ℕ) (f t : ℕ) → slice_range xs f t ≡ joined seen → parts_of false (slice_range xs f t) ps ≡ map as_shared seen
  shared_view xs f t same =
      ap (λ (l : List ℕ). parts_of false l ps) (same ∙ sym seen_joined)
      ∙ (sym (shared_parts (is_own body) (slice_range (octets_of body) from to) ps) ∙ ap (map as_shared) view)

  -- octets of another body that has the same
  pub same_window : (xs octets : List ℕ) (f t : ℕ) → octets ≡ slice_range xs f t → xs ≡ octets_of body → f ≡ from → t ≡ to → octets ≡ joined seen
  same_window xs octets f t are same first last = are ∙ ((λ i. slice_range (same i) (first i) (last i)) ∙ seen_joined)

  -- the same pbufs in a shared body with the same octets
  pub stays_shared : (new : Body) → octets_of new ≡ octets_of body → is_own new ≡ false → parts_of (is_own new) (slice_range (octets_of new) from to) ps ≡ map as_shared seen
  stays_shared new same shared =
      ap (λ (b : Bool). parts_of b (slice_range (octets_of new) from to) ps) shared
      ∙ shared_view (octets_of new) from to (ap (λ (l : List ℕ). slice_range l from to) same ∙ seen_joined)

-- Owners

module _ (own : Bool) (text : List ℕ) (ps : List Pbuf) (seen : List Part) (view : parts_of own text ps ≡ seen) where
  pub may_bare : (h : SeatSeen) → MayShare h seen → MayShare h (bare ps)
  may_bare h may =
      let m : MayShare h (parts_of own text ps) = subst (λ (l : List Part). MayShare h l) (sym view) may in
      record {
        under = owners_bare (IsUnder h.holder.table) ps (owners_held (IsUnder h.holder.table) own text ps m.under);
        listed = λ s. let l = m.listed s in let e = rows_in-parts_of own text ps s in omega arith;
        adds = let a = m.adds in let e = least_adds-parts_of own text ps in omega arith;
      }

  -- there is no pbuf, or the body is shared
  pub seen_shared : (qs : List Pbuf) → All (λ p. p.own ≡ false) seen → length qs ≡ length ps → parts_of own text qs ≡ parts_of false text qs
  seen_shared qs shared same = here ps qs (subst (λ (l : List Part). All (λ p. p.own ≡ false) l) (sym view) shared) same
    where
      here : (xs ys : List Pbuf) → All (λ p. p.own ≡ false) (parts_of own text xs) → length ys ≡ length xs → parts_of own text ys ≡ parts_of false text ys
      here [] [] all e = refl
      here [] (y ∷ ys) all e = absurd (omega arith)
      here (x ∷ xs) ys all e = ap (λ (b : Bool). parts_of b text ys) (All-head (λ (q : Part). q.own ≡ false) record { owner = x.owner; octets = take x.len text; own = own } (parts_of own (drop x.len text) xs) all)

  -- two owners of each pbuf
  pub all_shared : (hands : Bool) (qs ms : List Pbuf) (window : List ℕ) → All (λ p. p.own ≡ false) seen → window ≡ text → OwnersShared hands ps qs ms → AllShared hands seen (parts_of own text qs) (parts_of false window ms)
  all_shared hands qs ms window shared same s =
      let count : length qs ≡ length ps = ap length s.first ∙ length-map ps (first_held hands) in
      record {
        first = seen_shared qs shared count ∙ (ap (λ (l : List Pbuf). parts_of false text l) s.first
            ∙ (shared_owners (λ (o : Owner). sharing (handed hands (adds_of o)) o) own text ps ∙ ap (map (first_of hands)) view));
        second = ap (λ (l : List ℕ). parts_of false l ms) same ∙ (ap (λ (l : List Pbuf). parts_of false text l) s.second
            ∙ (shared_owners (λ (o : Owner). share_of (handed hands (adds_of o)) o) own text ps ∙ ap (map (second_of hands)) view));
        rows = λ x.
            let r = s.rows x in
            let a = rows_in-parts_of own text qs x in
            let b = rows_in-parts_of false window ms x in
            let d = rows_in-parts_of own text ps x in
            let e = ap (λ (l : List Part). rows_in l x) view in
            omega arith;
        weight = let w = s.weight in let a = weight_in-parts_of own text qs in let b = weight_in-parts_of false window ms in let d = weight_in-parts_of own text ps in let e = ap weight_in view in omega arith;
      }

-- a slice that is written back is the whole list
pub refill_all : (n : ℕ) (ps qs : List Pbuf) → n ≡ length ps → length qs ≡ length ps → refill n ps qs ≡ qs
refill_all n ps qs all same = ap (λ (l : List Pbuf). take n (qs ++ l)) (drop_all (length qs) ps (omega arith)) ∙ (ap (take n) (append-nil qs) ∙ take_all n qs (omega arith))

-- the pbufs have as many octets as before
pub lens_firsts : (hands : Bool) (ps : List Pbuf) → lens (map (first_held hands) ps) ≡ lens ps
lens_firsts hands ps = sum_by-map (λ (p : Pbuf). p.len) (first_held hands) (λ (p : Pbuf). p.len) (λ p. refl) ps

pub lens_seconds : (hands : Bool) (ps : List Pbuf) → lens (map (second_held hands) ps) ≡ lens ps
lens_seconds hands ps = sum_by-map (λ (p : Pbuf). p.len) (second_held hands) (λ (p : Pbuf). p.len) (λ p. refl) ps

-- Twins

-- all octets of a list
pub whole_range : (xs octets whole : List ℕ) (n : ℕ) → octets ≡ slice_range xs 0 n → xs ≡ whole → n ≡ length whole → octets ≡ whole
whole_range xs octets whole n are same all = let z : n - 0 ≡ n = omega arith in are ∙ ((λ i. take (z i) (same i)) ∙ take_all n whole (omega arith))

-- The whole share, over pbufs that are in a shared body in between

joined_shared : (ps : List Part) → joined (map as_shared ps) ≡ joined ps
joined_shared [] = refl
joined_shared (p ∷ ps) = ap (λ (l : List ℕ). p.octets ++ l) (joined_shared ps)

least_shared : (ps : List Part) → least_adds (map as_shared ps) ≡ least_adds ps
least_shared [] = refl
least_shared (p ∷ ps) = ap (λ (n : ℕ). min (adds_of p.owner) n) (least_shared ps)

none_shared : (ps : List Part) → All (λ p. p.own ≡ false) (map as_shared ps)
none_shared [] = All-nil (λ (p : Part). p.own ≡ false)
none_shared (p ∷ ps) = All-cons (λ (q : Part). q.own ≡ false) (as_shared p) (map as_shared ps) refl (none_shared ps)

firsts_shared : (hands : Bool) (ps : List Part) → map (first_of hands) (map as_shared ps) ≡ map (first_of hands) ps
firsts_shared hands [] = refl
firsts_shared hands (p ∷ ps) = ap (λ (l : List Part). first_of hands p ∷ l) (firsts_shared hands ps)

seconds_shared : (hands : Bool) (ps : List Part) → map (second_of hands) (map as_shared ps) ≡ map (second_of hands) ps
seconds_shared hands [] = refl
seconds_shared hands (p ∷ ps) = ap (λ (l : List Part). second_of hands p ∷ l) (seconds_shared hands ps)

module _ (ps between : List Part) (now : between ≡ map as_shared ps) where
  pub between_joined : (octets : List ℕ) → octets ≡ joined ps → octets ≡ joined between
  between_joined octets same = same ∙ (sym (joined_shared ps) ∙ ap joined (sym now))

  pub between_shared : All (λ p. p.own ≡ false) between
  between_shared = subst (λ (l : List Part). All (λ p. p.own ≡ false) l) (sym now) (none_shared ps)

  pub between_count : length between ≡ length ps
  between_count = ap length now ∙ length-map ps as_shared

  pub between_may : (h k : SeatSeen) → k ≡ h → MayShare h ps → MayShare k between
  between_may h k seat may = subst (λ (x : SeatSeen). MayShare x between) (sym seat) (subst (λ (l : List Part). MayShare h l) (sym now) record {
    under = All-map (λ (q : Part). IsUnder h.holder.table q.owner) as_shared ps may.under;
    listed = λ s. let e = sum_by-map (λ (q : Part). row_of q.owner s) as_shared (λ (q : Part). row_of q.owner s) (λ q. refl) ps in let l = may.listed s in omega arith;
    adds = let e = least_shared ps in let a = may.adds in omega arith;
  })

  pub whole_share : (hands : Bool) (qs os : List Part) → AllShared hands between qs os → AllShared hands ps qs os
  whole_share hands qs os s =
      record {
        first = s.first ∙ (ap (map (first_of hands)) now ∙ firsts_shared hands ps);
        second = s.second ∙ (ap (map (second_of hands)) now ∙ seconds_shared hands ps);
        rows = λ x. let r = s.rows x in let e = ap (λ (l : List Part). rows_in l x) now in let m = sum_by-map (λ (q : Part). row_of q.owner x) as_shared (λ (q : Part). row_of q.owner x) (λ q. refl) ps in omega arith;
        weight = let w = s.weight in let e = ap weight_in now in let m = sum_by-map (λ (q : Part). weight_of q.owner) as_shared (λ (q : Part). weight_of q.owner) (λ q. refl) ps in omega arith;
      }
