use Rattle.std.proofs.Common.{◌≡◌, ℕ, zero, suc, ◌+◌, ◌-◌, ◌<◌, ◌≤◌, max, Bool, true, false, ◌&&◌, not, cond, nat_lt, List, [], ◌∷◌, ◌++◌, map, length, take, drop, insert, Option, Some, None, is_some, if◌then◌else◌, refl, sym, ap, ◌∙◌, arith, append_assoc}
use Rattle.std.specs.List.{list_any, position_or_len}
use Rattle.std.proofs.Math.Seq.{take-append-add, drop-append-add}
use Rattle.std.proofs.lemmas.List.{append-nil, take-append-le, drop-append-le, take-append-drop, drop-drop, take-replicate, drop-replicate, length-replicate, length-append, length-drop, length-take, length-map}
use Rattle.lw_payload.specs.Views.{View}
use Rattle.lw_runs.specs.Positions.{missing, with_octets, overlaps, octets_in}
use Rattle.lw_runs.specs.Runs.{spread, InOrder}
use Rattle.lw_runs.specs.Lists.{put}
use Rattle.lw_runs.specs.declared.run.Run.{Run}
use Rattle.lw_runs.proofs.Windows.{there, there-append, there-missing, there-some, between}

-- the octets that are there, of joined lists
pub octets_in-append : (xs ys : List (Option ℕ)) → octets_in (xs ++ ys) ≡ octets_in xs ++ octets_in ys
octets_in-append [] ys = refl
octets_in-append (None ∷ xs) ys = octets_in-append xs ys
octets_in-append (Some x ∷ xs) ys = ap (λ zs. x ∷ zs) (octets_in-append xs ys)

pub octets_in-missing : (n : ℕ) → octets_in (missing n) ≡ []
octets_in-missing zero = refl
octets_in-missing (suc n) = octets_in-missing n

pub octets_in-some : (xs : List ℕ) → octets_in (map Some xs) ≡ xs
octets_in-some [] = refl
octets_in-some (x ∷ xs) = ap (λ zs. x ∷ zs) (octets_in-some xs)

octets_in-none : (xs : List (Option ℕ)) → list_any is_some xs ≡ false → octets_in xs ≡ []
octets_in-none [] e = refl
octets_in-none (None ∷ xs) e = octets_in-none xs e
octets_in-none (Some x ∷ xs) e = absurd (let f = e in cc)

octets_in-with : (octets : List (Option ℕ)) (from : ℕ) (xs : List ℕ) → octets_in (with_octets octets from xs) ≡ octets_in (take from octets) ++ xs ++ octets_in (drop (from + length xs) octets)
octets_in-with octets from xs =
    octets_in-append (take from octets ++ missing (from - length octets) ++ map Some xs) (drop (from + length xs) octets)
    ∙ ap (λ zs. zs ++ octets_in (drop (from + length xs) octets))
    (octets_in-append (take from octets ++ missing (from - length octets)) (map Some xs)
    ∙ rw (octets_in-append (take from octets) (missing (from - length octets)), octets_in-missing (from - length octets), octets_in-some xs, append-nil (octets_in (take from octets))) refl)

-- how many octets are there after some were put in where none was
pub count_with : (octets : List (Option ℕ)) (from : ℕ) (xs : List ℕ) → overlaps octets from (length xs) ≡ false → length (octets_in (with_octets octets from xs)) ≡ length (octets_in octets) + length xs
count_with octets from xs free =
    let n = length xs in
    let gap : octets_in (take n (drop from octets)) ≡ [] = octets_in-none (take n (drop from octets)) free in
    let back : octets_in (drop from octets) ≡ octets_in (drop (from + n) octets) =
    ap octets_in (sym (take-append-drop n (drop from octets))) ∙ octets_in-append (take n (drop from octets)) (drop n (drop from octets))
    ∙ rw (gap, drop-drop n from octets) refl in
    let all : octets_in octets ≡ octets_in (take from octets) ++ octets_in (drop (from + n) octets) =
    ap octets_in (sym (take-append-drop from octets)) ∙ octets_in-append (take from octets) (drop from octets) ∙ ap (λ zs. octets_in (take from octets) ++ zs) back in
    let one = ap length (octets_in-with octets from xs) in
    let two = ap length all in
    let three = length-append (octets_in (take from octets) ++ xs) (octets_in (drop (from + n) octets)) in
    let four = length-append (octets_in (take from octets)) xs in
    let five = length-append (octets_in (take from octets)) (octets_in (drop (from + n) octets)) in
    omega arith

-- how far the octets reach then
pub length-with : (octets : List (Option ℕ)) (from : ℕ) (xs : List ℕ) → length (with_octets octets from xs) ≡ max (length octets) (from + length xs)
length-with octets from xs =
    let one = length-append (take from octets ++ missing (from - length octets) ++ map Some xs) (drop (from + length xs) octets) in
    let two = length-append (take from octets ++ missing (from - length octets)) (map Some xs) in
    let three = length-append (take from octets) (missing (from - length octets)) in
    let four = length-take from octets in
    let five : length (missing (from - length octets)) ≡ from - length octets = length-replicate (from - length octets) None in
    let six : length (map Some xs) ≡ length xs = length-map xs Some in
    let seven = length-drop (from + length xs) octets in
    omega arith

-- put in behind the first octets
pub with-behind : (front back : List (Option ℕ)) (k : ℕ) (xs : List ℕ) → with_octets (front ++ back) (length front + k) xs ≡ front ++ with_octets back k xs
with-behind front back k xs =
    let taken = take-append-add front back k in
    let dropped : drop (length front + k + length xs) (front ++ back) ≡ drop (k + length xs) back =
    let e : length front + k + length xs ≡ length front + (k + length xs) = omega arith in rw e (drop-append-add front back (k + length xs)) in
    let wide : length front + k - length (front ++ back) ≡ k - length back = let l = length-append front back in omega arith in
    rw (taken, dropped, wide) (simp append_assoc)

-- put in where octets are missing
pub with-before : (j : ℕ) (back : List (Option ℕ)) (i : ℕ) (xs : List ℕ) → i + length xs ≤ j → with_octets (missing j ++ back) i xs ≡ missing i ++ map Some xs ++ (missing (j - (i + length xs)) ++ back)
with-before j back i xs h =
    let size : length (missing j) ≡ j = length-replicate j None in
    let both = length-append (missing j) back in
    let taken : take i (missing j ++ back) ≡ missing i = take-append-le i (missing j) back (omega arith) ∙ take-replicate i j None (omega arith) in
    let dropped : drop (i + length xs) (missing j ++ back) ≡ missing (j - (i + length xs)) ++ back =
    drop-append-le (i + length xs) (missing j) back (omega arith) ∙ ap (λ zs. zs ++ back) (drop-replicate (i + length xs) j None) in
    let wide : i - length (missing j ++ back) ≡ 0 = omega arith in
    rw (taken, dropped, wide, append-nil (missing i)) refl

insert_step : {P : Type 0} (b : Bool) (r h : Run P) (t : List (Run P)) (k : ℕ) → insert t k r ≡ put r t → insert (h ∷ t) (cond (not b) (1 + k) 0) r ≡ (if b then r ∷ h ∷ t else h ∷ put r t)
insert_step true r h t k e = refl
insert_step false r h t k e = let s : 1 + k ≡ suc k = omega arith in rw s (ap (λ zs. h ∷ zs) e)

pub insert_is_put : {P : Type 0} (r : Run P) (runs : List (Run P)) → insert runs (position_or_len (λ h. nat_lt r.at h.at) runs) r ≡ put r runs
insert_is_put r [] = refl
insert_is_put r (h ∷ t) = insert_step (nat_lt r.at h.at) r h t (position_or_len (λ s. nat_lt r.at s.at) t) (insert_is_put r t)

-- a run has a position from `from` on, before `to`
abbrev pub touches : {P : Type 0} → ℕ → ℕ → Run P → Bool
touches from to r = nat_lt r.at to && nat_lt from r.end

-- an octet is there between two positions exactly where a run has one of them
pub there_in_runs : {P : Type 0} (seen : P → View) (a : ℕ) (runs : List (Run P)) (from to : ℕ) → from < to → InOrder seen a runs → there (spread seen a runs) (from - a) (to - a) ≡ list_any (touches from to) runs
there_in_runs seen a [] from to more order = there-missing 0 (from - a) (to - a)
there_in_runs seen a (r ∷ rs) from to more order =
    let octets = (seen r.body).octets in
    let low : a ≤ r.at = order.0 in
    let some : r.at < r.end = order.1 in
    let size : r.end ≡ r.at + length octets = order.2 in
    let gap : length (missing (r.at - a)) ≡ r.at - a = length-replicate (r.at - a) None in
    let run : length (map Some octets) ≡ length octets = length-map octets Some in
    let one : from - a - length (missing (r.at - a)) ≡ from - r.at = omega arith in
    let two : to - a - length (missing (r.at - a)) ≡ to - r.at = omega arith in
    let three : from - a - length (missing (r.at - a) ++ map Some octets) ≡ from - r.end = let l = length-append (missing (r.at - a)) (map Some octets) in omega arith in
    let four : to - a - length (missing (r.at - a) ++ map Some octets) ≡ to - r.end = let l = length-append (missing (r.at - a)) (map Some octets) in omega arith in
    there-append (missing (r.at - a) ++ map Some octets) (spread seen r.end rs) (from - a) (to - a)
    ∙ rw (
      there-append (missing (r.at - a)) (map Some octets) (from - a) (to - a),
      there-missing (r.at - a) (from - a) (to - a),
      one,
      two,
      three,
      four,
      there-some octets (from - r.at) (to - r.at),
      between r.at r.end from to (length octets) size some more,
      there_in_runs seen r.end rs from to more order.3,
    ) refl
