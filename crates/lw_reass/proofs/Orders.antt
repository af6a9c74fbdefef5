use Rattle.std.proofs.Common.{◌≡◌, ℕ, zero, suc, ◌+◌, ◌-◌, ◌%◌, ◌<◌, ◌≤◌, ◌⊎◌, Bool, true, false, not, ◌&&◌, ◌||◌, ◌==◌, nat_lt, nat_le, nat_eq, cond, List, [], ◌∷◌, ◌++◌, map, length, take, drop, remove, replicate, Option, Some, None, is_some, if◌then◌else◌, slice_get, slice_set, refl, sym, ap, ◌∙◌, subst, inl, inr, arith}
use Rattle.std.specs.Option.{unwrap_or}
use Rattle.std.specs.List.{All, AllPairs, Any, list_all, list_any, position_or_len}
use Rattle.std.proofs.lemmas.Bool.{cases_lt}
use Rattle.std.proofs.lemmas.Bool.Decides.{nat_tests}
use Rattle.std.proofs.lemmas.List.{length-append, length-replicate, length-take, length-map, take-map, drop-map, get_or_past, get_or-take, get_or-drop, get_or_append_left, get_or-append_right}
use Rattle.std.proofs.lemmas.List.Elements.{All-head, All-tail}
use Rattle.lw_base.specs.declared.heads.IpHead.{IpHead}
use Rattle.lw_runs.specs.Positions.{octet_at, with_octets, overlaps, octets_in, missing}
use Rattle.lw_runs.proofs.Spreads.{length-with, octets_in-some}
use Rattle.lw_runs.proofs.Places.{place-le}
use Rattle.lw_reass.specs.Datagrams.{Datagram, Added, key_of, same_key, place_of, datagram_of, opened, is_open, ends_behind, fits, refusal_of, end_with, head_with, with_fragment, is_filled, completes, plan_unless, plan_of, with_open, added, added_by}
use Rattle.lw_reass.proofs.Places.{none_past}
use Rattle.lw_reass.specs.declared.outcome.Why.{Why}
use Rattle.lw_reass.specs.Fragments.{Fragment, AllAdded, added_all, before_all, Has, AreApart, IsFragmentOf, CutsUp}
use Rattle.lw_reass.specs.declared.datagram.Key.{Key}
use Rattle.lw_reass.specs.declared.outcome.FragmentPlan.{FragmentPlan}
use Rattle.lw_reass.specs.declared.outcome.FragmentPlan.TheVariants.{Keep, Complete}
use Rattle.lw_reass.specs.declared.outcome.Outcome.{Outcome}
use Rattle.lw_reass.specs.declared.outcome.Outcome.TheVariants.{Whole, Kept}

less : (m n : ℕ) → m < n → nat_lt m n ≡ true
less m n h = grind (arith, nat_tests)

not_less : (m n : ℕ) → n ≤ m → nat_lt m n ≡ false
not_less m n h = grind (arith, nat_tests)

most : (m n : ℕ) → m ≤ n → nat_le m n ≡ true
most m n h = grind (arith, nat_tests)

same : (n : ℕ) → nat_eq n n ≡ true
same n = grind (arith, nat_tests)

decided : (b : Bool) → (b ≡ true → ⊥) → b ≡ false
decided true never = absurd (never refl)
decided false never = refl

-- Octets by position.

at_missing : (n p : ℕ) → octet_at (missing n) p ≡ None
at_missing zero p = refl
at_missing (suc n) zero = refl
at_missing (suc n) (suc p) = at_missing n p

-- what stands before octets that are put in
front_at : (o : List (Option ℕ)) (from p : ℕ) → p < from → octet_at (take from o ++ missing (from - length o)) p ≡ octet_at o p
front_at o from p h =
    let size = length-take from o in
    elim (cases_lt p (length o)) [
      | inl lt ↦ get_or_append_left (take from o) (missing (from - length o)) None p (omega arith) ∙ get_or-take from o p None h
      | inr ge ↦
          get_or-append_right (take from o) (missing (from - length o)) (length o) p None (omega arith) ge ∙ at_missing (from - length o) (p - length o) ∙ sym (get_or_past o p None ge)
    ]

front_length : (o : List (Option ℕ)) (from : ℕ) → length (take from o ++ missing (from - length o)) ≡ from
front_length o from =
    let one = length-append (take from o) (missing (from - length o)) in let two = length-take from o in
    let three : length (missing (from - length o)) ≡ from - length o = length-replicate (from - length o) None in omega arith

both_length : (o : List (Option ℕ)) (from : ℕ) (xs : List ℕ) → length (take from o ++ missing (from - length o) ++ map Some xs) ≡ from + length xs
both_length o from xs =
    let one = length-append (take from o ++ missing (from - length o)) (map Some xs) in let two = front_length o from in let three = length-map xs Some in omega arith

-- the octets that are put in
with_in : (o : List (Option ℕ)) (from : ℕ) (xs : List ℕ) (p : ℕ) → from ≤ p → p < from + length xs → octet_at (with_octets o from xs) p ≡ octet_at (map Some xs) (p - from)
with_in o from xs p low high =
    let all = both_length o from xs in
    get_or_append_left (take from o ++ missing (from - length o) ++ map Some xs) (drop (from + length xs) o) None p (omega arith)
    ∙ get_or-append_right (take from o ++ missing (from - length o)) (map Some xs) from p None (front_length o from) low

-- and the others, which stay
with_before : (o : List (Option ℕ)) (from : ℕ) (xs : List ℕ) (p : ℕ) → p < from → octet_at (with_octets o from xs) p ≡ octet_at o p
with_before o from xs p h =
    let all = both_length o from xs in
    let front = front_length o from in
    get_or_append_left (take from o ++ missing (from - length o) ++ map Some xs) (drop (from + length xs) o) None p (omega arith)
    ∙ get_or_append_left (take from o ++ missing (from - length o)) (map Some xs) None p (omega arith) ∙ front_at o from p h

with_behind : (o : List (Option ℕ)) (from : ℕ) (xs : List ℕ) (p : ℕ) → from + length xs ≤ p → octet_at (with_octets o from xs) p ≡ octet_at o p
with_behind o from xs p h =
    let e : from + length xs + (p - (from + length xs)) ≡ p = omega arith in
    get_or-append_right (take from o ++ missing (from - length o) ++ map Some xs) (drop (from + length xs) o) (from + length xs) p None (both_length o from xs) h
    ∙ get_or-drop (from + length xs) o (p - (from + length xs)) None ∙ ap (λ k. octet_at o k) e

-- no octet is there at n positions
none_any : (xs : List (Option ℕ)) → ((k : ℕ) → octet_at xs k ≡ None) → list_any is_some xs ≡ false
none_any [] none = refl
none_any (None ∷ xs) none = none_any xs (λ k. none (suc k))
none_any (Some x ∷ xs) none = absurd (let e = none 0 in cc)

no_overlap : (o : List (Option ℕ)) (from n : ℕ) → ((k : ℕ) → k < n → octet_at o (from + k) ≡ None) → overlaps o from n ≡ false
no_overlap o from n none =
    none_any (take n (drop from o)) (λ k. elim (cases_lt k n) [
      | inl lt ↦ get_or-take n (drop from o) k None lt ∙ get_or-drop from o k None ∙ none k lt
      | inr ge ↦ get_or_past (take n (drop from o)) k None (let l = length-take n (drop from o) in omega arith)
    ])

-- all octets up to an end are there
all_at : (xs : List (Option ℕ)) (p : ℕ) → list_all is_some xs ≡ true → p < length xs → is_some (octet_at xs p) ≡ true
all_at [] p all h = absurd (omega arith)
all_at (None ∷ xs) p all h = absurd (let e = all in cc)
all_at (Some x ∷ xs) zero all h = refl
all_at (Some x ∷ xs) (suc p) all h = all_at xs p all (omega arith)

all_from : (xs : List (Option ℕ)) → ((p : ℕ) → p < length xs → is_some (octet_at xs p) ≡ true) → list_all is_some xs ≡ true
all_from [] all = refl
all_from (None ∷ xs) all = absurd (let e = all 0 (omega arith) in cc)
all_from (Some x ∷ xs) all = all_from xs (λ p h. all (suc p) (omega arith))

both : (a b : Bool) → (a && b) ≡ true → (a ≡ true) × (b ≡ true)
both true b e = (refl, e)
both false b e = absurd (let f = e in cc)

filled_at : (o : List (Option ℕ)) (e p : ℕ) → is_filled (Some e) o ≡ true → p < e → is_some (octet_at o p) ≡ true
filled_at o e p filled h =
    let parts = both (nat_le e (length o)) (list_all is_some (take e o)) filled in
    let long : e ≤ length o = let l = parts.0 in grind (arith, nat_tests) in
    let size = length-take e o in
    let there : octet_at (take e o) p ≡ octet_at o p = get_or-take e o p None h in
    rw (sym there) (all_at (take e o) p parts.1 (omega arith))

filled_from : (o : List (Option ℕ)) (e : ℕ) → ((p : ℕ) → p < e → is_some (octet_at o p) ≡ true) → is_filled (Some e) o ≡ true
filled_from o e all =
    elim (cases_lt (length o) e) [
      | inl lt ↦ absurd (let past : octet_at o (length o) ≡ None = get_or_past o (length o) None (omega arith) in let here : is_some (octet_at o (length o)) ≡ false = ap is_some past in let there = all (length o) lt in cc)
      | inr ge ↦
          let size = length-take e o in
          let each = all_from (take e o) (λ p h. rw (get_or-take e o p None (omega arith)) (all p (omega arith))) in
          let long = most e (length o) ge in
          rw (long, each) refl
    ]

-- lists with the same at each position
same_list : (xs ys : List (Option ℕ)) → length xs ≡ length ys → ((p : ℕ) → p < length ys → octet_at xs p ≡ octet_at ys p) → xs ≡ ys
same_list [] [] size each = refl
same_list [] (y ∷ ys) size each = absurd (omega arith)
same_list (x ∷ xs) [] size each = absurd (omega arith)
same_list (x ∷ xs) (y ∷ ys) size each =
    ap (λ z. z ∷ xs) (each 0 (omega arith)) ∙ ap (λ zs. y ∷ zs) (same_list xs ys (omega arith) (λ p h. each (suc p) (omega arith)))

some_at : (text : List ℕ) (p : ℕ) → p < length text → is_some (octet_at (map Some text) p) ≡ true
some_at [] p h = absurd (omega arith)
some_at (x ∷ xs) zero h = refl
some_at (x ∷ xs) (suc p) h = some_at xs p (omega arith)

-- Fragments.

-- a fragment has a position, or ends before it, or begins behind it
has_cases : (f : Fragment) (p : ℕ) → Has f p ⊎ ((p < f.head.offset) ⊎ (f.head.offset + length f.octets ≤ p))
has_cases f p =
    elim (cases_lt p f.head.offset) [
      | inl lt ↦ inr (inl lt)
      | inr ge ↦ elim (cases_lt p (f.head.offset + length f.octets)) [ inl more ↦ inl (ge, more) | inr past ↦ inr (inr past) ]
    ]

-- its octets are those of the text
text_at : (h : IpHead) (text : List ℕ) (f : Fragment) (p : ℕ) → IsFragmentOf h text f → Has f p → octet_at (map Some f.octets) (p - f.head.offset) ≡ octet_at (map Some text) p
text_at h text f p is has =
    let n = length f.octets in
    let low = has.0 in
    let high = has.1 in
    let e : f.head.offset + (p - f.head.offset) ≡ p = omega arith in
    ap (λ xs. octet_at (map Some xs) (p - f.head.offset)) is.octets
    ∙ ap (λ xs. octet_at xs (p - f.head.offset)) (sym (take-map Some n (drop f.head.offset text)) ∙ ap (take n) (sym (drop-map Some f.head.offset text)))
    ∙ get_or-take n (drop f.head.offset (map Some text)) (p - f.head.offset) None (omega arith)
    ∙ get_or-drop f.head.offset (map Some text) (p - f.head.offset) None
    ∙ ap (λ k. octet_at (map Some text) k) e

-- what is there after a fragment was put in
put_in : (h : IpHead) (text : List ℕ) (f : Fragment) (o : List (Option ℕ)) (p : ℕ) → IsFragmentOf h text f → Has f p → octet_at (with_octets o f.head.offset f.octets) p ≡ octet_at (map Some text) p
put_in h text f o p is has = with_in o f.head.offset f.octets p has.0 has.1 ∙ text_at h text f p is has

put_out : (f : Fragment) (o : List (Option ℕ)) (xs : List ℕ) (p : ℕ) → length xs ≡ length f.octets → (Has f p → ⊥) → octet_at (with_octets o f.head.offset xs) p ≡ octet_at o p
put_out f o xs p size never =
    elim (has_cases f p) [
      | inl has ↦ absurd (never has)
      | inr out ↦ elim out [ inl lt ↦ with_before o f.head.offset xs p lt | inr ge ↦ with_behind o f.head.offset xs p (omega arith) ]
    ]

-- a datagram of which some fragments came, and others are left
record Partly (h : IpHead) (text : List ℕ) (left : List Fragment) (d : Datagram) : Type 0 where
  key : d.key ≡ key_of h
  short : length d.octets ≤ length text
  free : All (λ f. (p : ℕ) → Has f p → octet_at d.octets p ≡ None) left
  cover : (p : ℕ) → p < length text → (octet_at d.octets p ≡ octet_at (map Some text) p) ⊎ Any (λ f. Has f p) left
  end : (d.end ≡ Some (length text)) ⊎ ((d.end ≡ None) × (octet_at d.octets (length text - 1) ≡ None))
  head : (d.head ≡ Some h) ⊎ ((d.head ≡ None) × (octet_at d.octets 0 ≡ None))

-- lists of fragments
any_cons : (f : Fragment) (rest : List Fragment) (p : ℕ) → Any (λ g. Has g p) (f ∷ rest) → Has f p ⊎ Any (λ g. Has g p) rest
any_cons f rest p (zero, x, more, is, has) = inl (let P : Fragment → Type 0 = λ g. Has g p in subst P (sym is) has)
any_cons f rest p (suc k, x, more, is, has) = inr (k, x, omega arith, is, has)

apart_first : (f : Fragment) (rest : List Fragment) → AllPairs AreApart (f ∷ rest) → All (AreApart f) rest
apart_first f rest apart = λ k d more. apart 0 (suc k) d (omega arith) (omega arith)

apart_rest : (f : Fragment) (rest : List Fragment) → AllPairs AreApart (f ∷ rest) → AllPairs AreApart rest
apart_rest f rest apart = λ i j d lt more. apart (suc i) (suc j) d (omega arith) (omega arith)

-- the last says so
last_says : (mf : Bool) (m n : ℕ) → mf ≡ nat_lt m n → mf ≡ false → n ≤ m
last_says mf m n e last = let f : nat_lt m n ≡ false = sym e ∙ last in grind (arith, nat_tests)

more_says : (mf : Bool) (m n : ℕ) → mf ≡ nat_lt m n → mf ≡ true → m < n
more_says mf m n e more = let f : nat_lt m n ≡ true = sym e ∙ more in grind (arith, nat_tests)

-- a fragment that is left fits
five : (a b c d e : Bool) → a ≡ true → b ≡ true → c ≡ true → d ≡ true → e ≡ true → (a && b && c && d && e) ≡ true
five a b c d e p q r s t = rw (p, q, r, s, t) refl

eights : (mf : Bool) (n : ℕ) → (mf ≡ true → n % 8 ≡ 0) → (not mf || (n % 8 == 0)) ≡ true
eights true n is = rw (is refl) refl
eights false n is = refl

behind : (end : Option ℕ) (m n : ℕ) (none : Type 0) → m ≤ n → (end ≡ Some n) ⊎ ((end ≡ None) × none) → ends_behind end m ≡ true
behind end m n none le (inl e) = rw e (most m n le)
behind end m n none le (inr e) = rw e.0 refl

reaches : (mf : Bool) (m n k : ℕ) → mf ≡ nat_lt m n → k ≤ n → (mf || nat_le k m) ≡ true
reaches true m n k e le = refl
reaches false m n k e le = let last = last_says false m n e refl in most k m (omega arith)

left_fits : (h : IpHead) (text : List ℕ) (f : Fragment) (rest : List Fragment) (d : Datagram) → length text ≤ 65535 → IsFragmentOf h text f → Partly h text (f ∷ rest) d → fits d f.head (length f.octets) ≡ true
left_fits h text f rest d short is part =
    let to = f.head.offset + length f.octets in
    let within = is.within in
    five (nat_le to 65535) (nat_lt 0 (length f.octets)) (not f.head.mf || (length f.octets % 8 == 0)) (ends_behind d.end to) (f.head.mf || nat_le (length d.octets) to)
    (most to 65535 (omega arith)) (less 0 (length f.octets) is.some) (eights f.head.mf (length f.octets) is.eights)
    (behind d.end to (length text) (octet_at d.octets (length text - 1) ≡ None) within part.end) (reaches f.head.mf to (length text) (length d.octets) is.more part.short)

-- and overlaps none
left_free : (h : IpHead) (text : List ℕ) (f : Fragment) (rest : List Fragment) (d : Datagram) → Partly h text (f ∷ rest) d → overlaps d.octets f.head.offset (length f.octets) ≡ false
left_free h text f rest d part =
    let free = All-head (λ (g : Fragment). (p : ℕ) → Has g p → octet_at d.octets p ≡ None) f rest part.free in
    no_overlap d.octets f.head.offset (length f.octets) (λ k lt. free (f.head.offset + k) (omega arith, omega arith))

-- the end after it
end_then : (mf : Bool) (end : Option ℕ) (m n : ℕ) (none still : Type 0) → mf ≡ nat_lt m n → m ≤ n → (mf ≡ true → none → still) → (end ≡ Some n) ⊎ ((end ≡ None) × none) → ((if mf then end else Some m) ≡ Some n) ⊎ (((if mf then end else Some m) ≡ None) × still)
end_then true end m n none still e le stays (inl is) = inl is
end_then true end m n none still e le stays (inr is) = inr (is.0, stays refl is.1)
end_then false end m n none still e le stays is = inl (let last = last_says false m n e refl in ap Some (omega arith))

-- and the header of the whole
head_then : (b : Bool) (h f : IpHead) (head : Option IpHead) (none still : Type 0) → (b ≡ true → f ≡ h) → (b ≡ false → none → still) → (head ≡ Some h) ⊎ ((head ≡ None) × none) → ((if b then Some f else head) ≡ Some h) ⊎ (((if b then Some f else head) ≡ None) × still)
head_then true h f head none still is stays was = inl (ap Some (is refl))
head_then false h f head none still is stays (inl was) = inl was
head_then false h f head none still is stays (inr was) = inr (was.0, stays refl was.1)

is_zero : (n : ℕ) → nat_eq n 0 ≡ true → n ≡ 0
is_zero n e = grind (arith, nat_tests)

not_zero : (n : ℕ) → nat_eq n 0 ≡ false → 0 < n
not_zero n e = grind (arith, nat_tests)

-- one more came
partly_next : (h : IpHead) (text : List ℕ) (f : Fragment) (rest : List Fragment) (d : Datagram) → 0 < length text → IsFragmentOf h text f → All (AreApart f) rest → Partly h text (f ∷ rest) d → Partly h text rest (with_fragment d f.head f.octets)
partly_next h text f rest d some is apart part =
    let o = d.octets in
    let free = All-tail (λ (g : Fragment). (p : ℕ) → Has g p → octet_at d.octets p ≡ None) f rest part.free in
    let within = is.within in
    record {
      key = part.key;
      short = let l = length-with o f.head.offset f.octets in let s = part.short in omega arith;
      free = λ k g more p has. put_out f o f.octets p refl (λ mine. apart k g more p mine has) ∙ free k g more p has;
      cover = λ p lt. elim (has_cases f p) [
        | inl has ↦ inl (put_in h text f o p is has)
        | inr out ↦
            let never : Has f p → ⊥ = λ has. let a = has.0 in let b = has.1 in elim out [ inl lt ↦ absurd (omega arith) | inr ge ↦ absurd (omega arith) ] in
            elim (part.cover p lt) [
              | inl there ↦ inl (put_out f o f.octets p refl never ∙ there)
              | inr left ↦ elim (any_cons f rest p left) [ inl has ↦ absurd (never has) | inr more ↦ inr more ]
            ]
      ];
      end =
          end_then f.head.mf d.end (f.head.offset + length f.octets) (length text) (octet_at o (length text - 1) ≡ None) (octet_at (with_octets o f.head.offset f.octets) (length text - 1) ≡ None) is.more within
          (λ more none. let before = more_says f.head.mf (f.head.offset + length f.octets) (length text) is.more more in put_out f o f.octets (length text - 1) refl (λ has. let b = has.1 in omega arith) ∙ none) part.end;
      head =
          head_then (nat_eq f.head.offset 0) h f.head d.head (octet_at o 0 ≡ None) (octet_at (with_octets o f.head.offset f.octets) 0 ≡ None) (λ e. is.first (is_zero f.head.offset e))
          (λ e none. let behind = not_zero f.head.offset e in put_out f o f.octets 0 refl (λ has. let a = has.0 in omega arith) ∙ none) part.head;
    }

-- before the last came, it isn't whole
not_yet : (h : IpHead) (text : List ℕ) (f g : Fragment) (rest : List Fragment) (d : Datagram) → IsFragmentOf h text f → IsFragmentOf h text g → AreApart f g → Partly h text (f ∷ g ∷ rest) d → completes d f.head (length f.octets) ≡ false
not_yet h text f g rest d is next apart part =
    let n = length f.octets in
    let zeros : List ℕ = replicate n 0 in
    let o = with_octets d.octets f.head.offset zeros in
    let end = end_then f.head.mf d.end (f.head.offset + n) (length text) (octet_at d.octets (length text - 1) ≡ None) (Unit {0}) is.more is.within (λ more none. tt) part.end in
    let size : length zeros ≡ n = length-replicate n 0 in
    let here : Has g g.head.offset = (omega arith, let s = next.some in omega arith) in
    let free = All-head (λ (x : Fragment). (p : ℕ) → Has x p → octet_at d.octets p ≡ None) g rest (All-tail (λ (x : Fragment). (p : ℕ) → Has x p → octet_at d.octets p ≡ None) f (g ∷ rest) part.free) in
    let none : octet_at o g.head.offset ≡ None = put_out f d.octets zeros g.head.offset size (λ has. apart g.head.offset has here) ∙ free g.head.offset here in
    let never : (e : Option ℕ) → (e ≡ Some (length text)) ⊎ ((e ≡ None) × Unit {0}) → is_filled e o ≡ false = λ e was. elim was [
      | inl at ↦ rw at (decided (is_filled (Some (length text)) o) (λ filled. let there = filled_at o (length text) g.head.offset filled (let s = next.some in let w = next.within in omega arith) in let gone = ap is_some none in cc))
      | inr at ↦ rw at.0 refl
    ] in
    ap (λ (e : Option ℕ). is_filled e o) (ap (λ (m : ℕ). end_with d.end f.head m) size) ∙ never (end_with d.end f.head n) end

-- once all came, it is whole: its end is known, and its header
end_last : (h : IpHead) (text : List ℕ) (f : Fragment) (d : Datagram) → 0 < length text → IsFragmentOf h text f → Partly h text (f ∷ []) d → end_with d.end f.head (length f.octets) ≡ Some (length text)
end_last h text f d some is part =
    let n = length f.octets in
    let last = end_then f.head.mf d.end (f.head.offset + n) (length text) (octet_at d.octets (length text - 1) ≡ None) ⊥ is.more is.within
    (λ more none. elim (part.cover (length text - 1) (omega arith)) [
      | inl there ↦ absurd (let got = some_at text (length text - 1) (omega arith) in let gone = ap is_some (sym none ∙ there) in cc)
      | inr left ↦ elim (any_cons f [] (length text - 1) left) [
        | inl has ↦ absurd (let b = has.1 in let before = more_says f.head.mf (f.head.offset + n) (length text) is.more more in omega arith)
        | inr never ↦ absurd (let m = never.2 in omega arith)
      ]
    ]) part.end in
    elim last [ inl e ↦ e | inr never ↦ absurd never.1 ]

head_last : (h : IpHead) (text : List ℕ) (f : Fragment) (d : Datagram) → 0 < length text → IsFragmentOf h text f → Partly h text (f ∷ []) d → unwrap_or (head_with d.head f.head) f.head ≡ h
head_last h text f d some is part =
    let last = head_then (nat_eq f.head.offset 0) h f.head d.head (octet_at d.octets 0 ≡ None) ⊥ (λ e. is.first (is_zero f.head.offset e))
    (λ e none. elim (part.cover 0 some) [
      | inl there ↦ absurd (let got = some_at text 0 some in let gone = ap is_some (sym none ∙ there) in cc)
      | inr left ↦ elim (any_cons f [] 0 left) [
        | inl has ↦ absurd (let a = has.0 in let behind = not_zero f.head.offset e in omega arith)
        | inr never ↦ absurd (let m = never.2 in omega arith)
      ]
    ]) part.head in
    elim last [ inl e ↦ ap (λ (o : Option IpHead). unwrap_or o f.head) e | inr never ↦ absurd never.1 ]

-- a position that the last fragment hasn't
others_there : (h : IpHead) (text : List ℕ) (f : Fragment) (d : Datagram) (p : ℕ) → Partly h text (f ∷ []) d → p < length text → (Has f p → ⊥) → octet_at d.octets p ≡ octet_at (map Some text) p
others_there h text f d p part lt never =
    elim (part.cover p lt) [
      | inl there ↦ there
      | inr left ↦ elim (any_cons f [] p left) [ inl has ↦ absurd (never has) | inr never ↦ absurd (let m = never.2 in omega arith) ]
    ]

outside : (f : Fragment) (p : ℕ) → ((p < f.head.offset) ⊎ (f.head.offset + length f.octets ≤ p)) → Has f p → ⊥
outside f p (inl lt) has = let a = has.0 in absurd (omega arith)
outside f p (inr ge) has = let b = has.1 in absurd (omega arith)

now_whole : (h : IpHead) (text : List ℕ) (f : Fragment) (d : Datagram) → 0 < length text → IsFragmentOf h text f → Partly h text (f ∷ []) d → completes d f.head (length f.octets) ≡ true
now_whole h text f d some is part =
    let n = length f.octets in
    let zeros : List ℕ = replicate n 0 in
    let o = with_octets d.octets f.head.offset zeros in
    let size : length zeros ≡ n = length-replicate n 0 in
    let each : (p : ℕ) → p < length text → is_some (octet_at o p) ≡ true = λ p lt. elim (has_cases f p) [
      | inl has ↦
          let low = has.0 in
          let high = has.1 in
          rw (with_in d.octets f.head.offset zeros p low (omega arith)) (some_at zeros (p - f.head.offset) (omega arith))
      | inr out ↦
          let never = outside f p out in
          rw (put_out f d.octets zeros p size never ∙ others_there h text f d p part lt never) (some_at text p lt)
    ] in
    ap (λ (e : Option ℕ). is_filled e o) (ap (λ (m : ℕ). end_with d.end f.head m) size ∙ end_last h text f d some is part) ∙ filled_from o (length text) each

whole_text : (h : IpHead) (text : List ℕ) (f : Fragment) (d : Datagram) → IsFragmentOf h text f → Partly h text (f ∷ []) d → octets_in (with_octets d.octets f.head.offset f.octets) ≡ text
whole_text h text f d is part =
    let o = with_octets d.octets f.head.offset f.octets in
    let each : (p : ℕ) → p < length text → octet_at o p ≡ octet_at (map Some text) p = λ p lt. elim (has_cases f p) [
      | inl has ↦ put_in h text f d.octets p is has
      | inr out ↦ put_out f d.octets f.octets p refl (outside f p out) ∙ others_there h text f d p part lt (outside f p out)
    ] in
    let reach = length-with d.octets f.head.offset f.octets in
    let short = part.short in
    let within = is.within in
    let all : length (map Some text) ≡ length text = length-map text Some in
    let size : length o ≡ length text = elim (cases_lt (length o) (length text)) [
      | inl lt ↦ absurd (let got = some_at text (length o) lt in let gone = ap is_some (sym (get_or_past o (length o) None (omega arith)) ∙ each (length o) lt) in cc)
      | inr ge ↦ omega arith
    ] in
    ap octets_in (same_list o (map Some text) (omega arith) (λ p lt. each p (omega arith))) ∙ octets_in-some text

-- The datagram of the fragments among others: it stands behind `ds`.

record Holding (ds cs : List Datagram) (g : IpHead) (d : Datagram) : Type 0 where
  place : place_of cs g ≡ length ds
  own : datagram_of cs g ≡ d
  opens : with_open cs g ≡ ds ++ d ∷ []
  room : (not (is_open cs g) && nat_le 5 (length cs)) ≡ false

abbrev by_key : Key → Datagram
by_key k = record { key = k; age = 0; octets = []; end = None; head = None }

opened-key : (g h : IpHead) → key_of g ≡ key_of h → opened g ≡ opened h
opened-key g h e = ap (λ (k : Key). by_key k) e

place-key : (ds : List Datagram) (g h : IpHead) → key_of g ≡ key_of h → place_of ds g ≡ place_of ds h
place-key ds g h e = ap (λ (k : Key). position_or_len (λ (d : Datagram). same_key d.key k) ds) e

own_key : (k : Key) → same_key k k ≡ true
own_key k = rw (same k.src.0, same k.dst.0, same k.id, same k.proto) refl

holding_first : (ds : List Datagram) (h g : IpHead) → key_of g ≡ key_of h → place_of ds h ≡ length ds → length ds < 5 → Holding ds ds g (opened h)
holding_first ds h g key out few =
    let place : place_of ds g ≡ length ds = place-key ds g h key ∙ out in
    let none : slice_get ds (place_of ds g) ≡ None = none_past ds (place_of ds g) (omega arith) in
    let closed : is_open ds g ≡ false = not_less (place_of ds g) (length ds) (omega arith) in
    let fits_in : nat_le 5 (length ds) ≡ false = grind (arith, nat_tests) in
    record {
      place = place;
      own = ap (λ (s : Option Datagram). unwrap_or s (opened g)) none ∙ opened-key g h key;
      opens = ap (λ (b : Bool). if b then ds else ds ++ opened g ∷ []) closed ∙ ap (λ (x : Datagram). ds ++ x ∷ []) (opened-key g h key);
      room = ap (λ (b : Bool). not b && nat_le 5 (length ds)) closed ∙ fits_in;
    }

missed : (b : Bool) (m n : ℕ) → cond (not b) (1 + m) 0 ≡ n → 0 < n → (b ≡ false) × (1 + m ≡ n)
missed true m n e some = absurd (omega arith)
missed false m n e some = (refl, e)

pushed_place : {X : Type 0} (p : X → Bool) (xs : List X) (x : X) → position_or_len p xs ≡ length xs → p x ≡ true → position_or_len p (xs ++ x ∷ []) ≡ length xs
pushed_place p [] x out hit = rw hit refl
pushed_place p (y ∷ ys) x out hit =
    let past = missed (p y) (position_or_len p ys) (length (y ∷ ys)) out (omega arith) in
    let rest = past.1 in
    rw past.0 (let e = pushed_place p ys x (omega arith) hit in omega arith)

pushed_at : {X : Type 0} (xs : List X) (x : X) → slice_get (xs ++ x ∷ []) (length xs) ≡ Some x
pushed_at [] x = refl
pushed_at (y ∷ ys) x = pushed_at ys x

holding_next : (ds : List Datagram) (d : Datagram) (h g : IpHead) → key_of g ≡ key_of h → place_of ds h ≡ length ds → d.key ≡ key_of h → Holding ds (ds ++ d ∷ []) g d
holding_next ds d h g key out own =
    let out_there : place_of ds g ≡ length ds = place-key ds g h key ∙ out in
    let hit : same_key d.key (key_of g) ≡ true = ap (λ (k : Key). same_key k (key_of g)) (own ∙ sym key) ∙ own_key (key_of g) in
    let place : place_of (ds ++ d ∷ []) g ≡ length ds = pushed_place (λ (x : Datagram). same_key x.key (key_of g)) ds d out_there hit in
    let size = length-append ds (d ∷ []) in
    let open_there : is_open (ds ++ d ∷ []) g ≡ true = less (place_of (ds ++ d ∷ []) g) (length (ds ++ d ∷ [])) (omega arith) in
    record {
      place = place;
      own = ap (λ (i : ℕ). unwrap_or (slice_get (ds ++ d ∷ []) i) (opened g)) place ∙ ap (λ (s : Option Datagram). unwrap_or s (opened g)) (pushed_at ds d);
      opens = ap (λ (b : Bool). if b then ds ++ d ∷ [] else ds ++ d ∷ [] ++ opened g ∷ []) open_there;
      room = ap (λ (b : Bool). not b && nat_le 5 (length (ds ++ d ∷ []))) open_there;
    }

-- what is to become of a fragment that fits and overlaps none
refused : (a b c : Bool) (x y z : Why) → a ≡ true → b ≡ false → c ≡ false → (if not a then Some x else if b then Some y else if c then Some z else None) ≡ None
refused a b c x y z p q r = rw (p, q, r) refl

planned : (ds cs : List Datagram) (g : IpHead) (d : Datagram) (n : ℕ) (b : Bool) → Holding ds cs g d → fits d g n ≡ true → overlaps d.octets g.offset n ≡ false → completes d g n ≡ b
    → plan_of cs g n ≡ (if b then Complete (length ds) (unwrap_or (head_with d.head g) g) else Keep (length ds))
unfolding plan_of
planned ds cs g d n b hold fit free whole =
    let none : refusal_of cs g n ≡ None =
    refused (fits (datagram_of cs g) g n) (not (is_open cs g) && nat_le 5 (length cs)) (overlaps (datagram_of cs g).octets g.offset n) _ _ _
    (ap (λ (x : Datagram). fits x g n) hold.own ∙ fit) hold.room (ap (λ (x : Datagram). overlaps x.octets g.offset n) hold.own ∙ free) in
    let made : completes (datagram_of cs g) g n ≡ b = ap (λ (x : Datagram). completes x g n) hold.own ∙ whole in
    let head : unwrap_or (head_with (datagram_of cs g).head g) g ≡ unwrap_or (head_with d.head g) g = ap (λ (x : Datagram). unwrap_or (head_with x.head g) g) hold.own in
    ap (λ (r : Option Why). plan_unless r (completes (datagram_of cs g) g n) (place_of cs g) (unwrap_or (head_with (datagram_of cs g).head g) g)) none
    ∙ ap (λ (x : Bool). plan_unless None x (place_of cs g) (unwrap_or (head_with (datagram_of cs g).head g) g)) made
    ∙ ap (λ (i : ℕ). plan_unless None b i (unwrap_or (head_with (datagram_of cs g).head g) g)) hold.place
    ∙ ap (λ (w : IpHead). plan_unless None b (length ds) w) head

-- what comes of it
abbrev made_of : List Datagram → Outcome (List ℕ) → Added
made_of ds o = record { datagrams = ds; outcome = o }

set_pushed : {X : Type 0} (xs : List X) (x y : X) → slice_set (xs ++ x ∷ []) (length xs) y ≡ xs ++ y ∷ []
set_pushed [] x y = refl
set_pushed (z ∷ zs) x y = ap (λ ws. z ∷ ws) (set_pushed zs x y)

remove_pushed : {X : Type 0} (xs : List X) (x : X) → remove (xs ++ x ∷ []) (length xs) ≡ xs
remove_pushed [] x = refl
remove_pushed (z ∷ zs) x = ap (λ ws. z ∷ ws) (remove_pushed zs x)

kept_step : (ds cs : List Datagram) (g : IpHead) (d : Datagram) (xs : List ℕ) → Holding ds cs g d → plan_of cs g (length xs) ≡ Keep (length ds) → added cs g xs ≡ made_of (ds ++ with_fragment d g xs ∷ []) Kept
kept_step ds cs g d xs hold plan =
    ap (λ (p : FragmentPlan). added_by p cs g xs) plan
    ∙ ap (λ (x : List Datagram). made_of (slice_set x (length ds) (with_fragment (datagram_of cs g) g xs)) Kept) hold.opens
    ∙ ap (λ (x : Datagram). made_of (slice_set (ds ++ d ∷ []) (length ds) (with_fragment x g xs)) Kept) hold.own
    ∙ ap (λ (x : List Datagram). made_of x Kept) (set_pushed ds d (with_fragment d g xs))

whole_step : (ds cs : List Datagram) (g w : IpHead) (d : Datagram) (xs : List ℕ) → Holding ds cs g d → plan_of cs g (length xs) ≡ Complete (length ds) w → added cs g xs ≡ made_of ds (Whole w (octets_in (with_octets d.octets g.offset xs)))
whole_step ds cs g w d xs hold plan =
    ap (λ (p : FragmentPlan). added_by p cs g xs) plan
    ∙ ap (λ (x : List Datagram). made_of (remove x (length ds)) (Whole w (octets_in (with_fragment (datagram_of cs g) g xs).octets))) hold.opens
    ∙ ap (λ (x : List Datagram). made_of x (Whole w (octets_in (with_fragment (datagram_of cs g) g xs).octets))) (remove_pushed ds d)
    ∙ ap (λ (x : Datagram). made_of ds (Whole w (octets_in (with_fragment x g xs).octets))) hold.own

abbrev all_of : List Datagram → List (Outcome (List ℕ)) → AllAdded
all_of ds os = record { datagrams = ds; outcomes = os }

orders : (h : IpHead) (text : List ℕ) (ds : List Datagram) → 0 < length text → length text ≤ 65535 → place_of ds h ≡ length ds
    → (rest : List Fragment) (f : Fragment) (cs : List Datagram) (d : Datagram) → ((g : IpHead) → key_of g ≡ key_of h → Holding ds cs g d) → Partly h text (f ∷ rest) d → All (IsFragmentOf h text) (f ∷ rest) → AllPairs AreApart (f ∷ rest)
    → added_all cs (f ∷ rest) ≡ all_of ds (replicate (length rest) Kept ++ Whole h text ∷ [])
orders h text ds some short out [] f cs d hold part each apart =
    let is = All-head (IsFragmentOf h text) f [] each in
    let plan = planned ds cs f.head d (length f.octets) true (hold f.head is.key) (left_fits h text f [] d short is part) (left_free h text f [] d part) (now_whole h text f d some is part) in
    let whole = whole_step ds cs f.head (unwrap_or (head_with d.head f.head) f.head) d f.octets (hold f.head is.key) plan in
    ap (λ (a : Added). before_all a (all_of a.datagrams [])) whole
    ∙ ap (λ (w : IpHead). all_of ds (Whole w (octets_in (with_octets d.octets f.head.offset f.octets)) ∷ [])) (head_last h text f d some is part)
    ∙ ap (λ (xs : List ℕ). all_of ds (Whole h xs ∷ [])) (whole_text h text f d is part)
orders h text ds some short out (g ∷ rest) f cs d hold part each apart =
    let is = All-head (IsFragmentOf h text) f (g ∷ rest) each in
    let others = All-tail (IsFragmentOf h text) f (g ∷ rest) each in
    let first = apart_first f (g ∷ rest) apart in
    let next = with_fragment d f.head f.octets in
    let plan = planned ds cs f.head d (length f.octets) false (hold f.head is.key) (left_fits h text f (g ∷ rest) d short is part) (left_free h text f (g ∷ rest) d part)
    (not_yet h text f g rest d is (All-head (IsFragmentOf h text) g rest others) (All-head (AreApart f) g rest first) part) in
    let kept = kept_step ds cs f.head d f.octets (hold f.head is.key) plan in
    let later = partly_next h text f (g ∷ rest) d some is first part in
    let behind_it = orders h text ds some short out rest g (ds ++ next ∷ []) next (λ x key. holding_next ds next h x key out later.key) later others (apart_rest f (g ∷ rest) apart) in
    ap (λ (a : Added). before_all a (added_all a.datagrams (g ∷ rest))) kept
    ∙ ap (λ (r : AllAdded). before_all (made_of (ds ++ next ∷ []) Kept) r) behind_it

-- none came yet
none_partly : (h : IpHead) (text : List ℕ) (fs : List Fragment) → CutsUp h text fs → Partly h text fs (opened h)
none_partly h text fs cuts = record {
  key = refl;
  short = omega arith;
  free = λ k f more p has. refl;
  cover = λ p lt. inr (cuts.cover p lt);
  end = inr (refl, refl);
  head = inr (refl, refl);
}

pub any_order : (ds : List Datagram) (h : IpHead) (text : List ℕ) (fs : List Fragment) → is_open ds h ≡ false → length ds < 5 → CutsUp h text fs → added_all ds fs ≡ record { datagrams = ds; outcomes = replicate (length fs - 1) Kept ++ Whole h text ∷ [] }
any_order ds h text [] closed few cuts = absurd (let some = cuts.some in let m = (cuts.cover 0 some).2 in omega arith)
any_order ds h text (f ∷ rest) closed few cuts =
    let le = place-le (λ (d : Datagram). same_key d.key (key_of h)) ds in
    let out : place_of ds h ≡ length ds = let ge = not_lt (place_of ds h) (length ds) closed in omega arith in
    let size : length (f ∷ rest) - 1 ≡ length rest = omega arith in
    orders h text ds cuts.some cuts.short out rest f ds (opened h) (λ g key. holding_first ds h g key out few) (none_partly h text (f ∷ rest) cuts) cuts.each cuts.apart ∙ ap (λ (n : ℕ). all_of ds (replicate n Kept ++ Whole h text ∷ [])) (sym size)
  where
    not_lt : (m n : ℕ) → nat_lt m n ≡ false → n ≤ m
    not_lt m n e = grind (arith, nat_tests)
