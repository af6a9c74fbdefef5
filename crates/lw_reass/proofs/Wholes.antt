use Rattle.std.proofs.Common.{◌≡◌, ℕ, ◌+◌, ◌-◌, ◌%◌, ◌<◌, ◌≤◌, Bool, true, false, not, ◌||◌, ◌&&◌, ◌==◌, nat_lt, nat_le, nat_eq, List, [], ◌∷◌, ◌++◌, map, length, take, drop, replicate, Option, Some, None, is_some, if◌then◌else◌, refl, sym, ap, ◌∙◌, subst, arith, inl, inr}
use Rattle.std.specs.List.{list_all}
use Rattle.std.proofs.lemmas.Bool.{cases_lt}
use Rattle.std.proofs.lemmas.Bool.Decides.{nat_tests}
use Rattle.std.proofs.lemmas.List.{take_all, take-map, map-append, length-map, length-replicate}
use Rattle.lw_base.specs.declared.heads.IpHead.{IpHead}
use Rattle.lw_runs.specs.Positions.{missing, with_octets, overlaps, octets_in}
use Rattle.lw_runs.proofs.Spreads.{count_with, length-with}
use Rattle.lw_reass.specs.Datagrams.{Datagram, fits, ends_behind, end_with, is_filled, is_whole, with_fragment, completes}
use Rattle.lw_reass.specs.Opens.{IsWithin}

both : (a b : Bool) → (a && b) ≡ true → (a ≡ true) × (b ≡ true)
both true b e = (refl, e)
both false b e = absurd (let f = e in cc)

-- a fragment that fits
pub record Fitting (d : Datagram) (h : IpHead) (n : ℕ) : Type 0 where
  pub short : h.offset + n ≤ 65535
  pub some : 0 < n
  pub behind : ends_behind d.end (h.offset + n) ≡ true
  pub last : (h.mf || nat_le (length d.octets) (h.offset + n)) ≡ true

pub fitting : (d : Datagram) (h : IpHead) (n : ℕ) → fits d h n ≡ true → Fitting d h n
fitting d h n e =
    let a = nat_le (h.offset + n) 65535 in
    let b = nat_lt 0 n in
    let m = not h.mf || (n % 8 == 0) in
    let r = ends_behind d.end (h.offset + n) in
    let l = h.mf || nat_le (length d.octets) (h.offset + n) in
    let one = both (a && b && m && r) l e in
    let two = both (a && b && m) r one.0 in
    let three = both (a && b) m two.0 in
    let four = both a b three.0 in
    let short = four.0 in
    let some = four.1 in
    record { short = grind (arith, nat_tests); some = grind (arith, nat_tests); behind = two.1; last = one.1 }

-- octets that are there are no more than positions; as many only where all are there
count_all : (octets : List (Option ℕ)) → (length (octets_in octets) ≤ length octets) × ((length (octets_in octets) ≡ length octets) → list_all is_some octets ≡ true) × (list_all is_some octets ≡ true → length (octets_in octets) ≡ length octets)
count_all [] = (omega arith, λ e. refl, λ e. refl)
count_all (None ∷ xs) = let rest = count_all xs in let less = rest.0 in (omega arith, λ e. absurd (omega arith), λ e. absurd (let f = e in cc))
count_all (Some x ∷ xs) = let rest = count_all xs in let less = rest.0 in (omega arith, λ e. rest.1 (omega arith), λ e. let f = rest.2 e in omega arith)

decided : (b : Bool) → (b ≡ true → ⊥) → b ≡ false
decided true never = absurd (never refl)
decided false never = refl

-- octets of which none is behind the end are all there exactly where they are as many as the end
pub filled_count : (octets : List (Option ℕ)) (e : ℕ) → length octets ≤ e → is_filled (Some e) octets ≡ nat_eq e (length (octets_in octets))
filled_count octets e within =
    let all = count_all octets in
    let least = all.0 in
    let cut : take e octets ≡ octets = take_all e octets within in
    elim (cases_lt (length (octets_in octets)) e) [
      | inl less ↦
          let never : nat_eq e (length (octets_in octets)) ≡ false = grind (arith, nat_tests) in
          elim (cases_lt (length octets) e) [
            | inl gap ↦
                let short : nat_le e (length octets) ≡ false = grind (arith, nat_tests) in
                rw (short, never) refl
            | inr full ↦
                let long : nat_le e (length octets) ≡ true = grind (arith, nat_tests) in
                rw (long, cut, never) (missing_one octets (λ f. let g = all.2 f in absurd (omega arith)))
          ]
      | inr full ↦
          let same : nat_eq e (length (octets_in octets)) ≡ true = grind (arith, nat_tests) in
          let long : nat_le e (length octets) ≡ true = grind (arith, nat_tests) in
          rw (long, cut, same) (all.1 (omega arith))
    ]
  where
    missing_one : (xs : List (Option ℕ)) → (list_all is_some xs ≡ true → ⊥) → list_all is_some xs ≡ false
    missing_one xs never = decided (list_all is_some xs) never

-- no octet is behind the end after a fragment that fits
pub within_with : (d : Datagram) (h : IpHead) (n : ℕ) (xs : List ℕ) → length xs ≡ n → IsWithin d.end d.octets → Fitting d h n → IsWithin (end_with d.end h n) (with_octets d.octets h.offset xs)
within_with d h n xs size within fit = within_cases h.mf d.end within fit.behind fit.last
  where
    within_cases : (mf : Bool) (end : Option ℕ) → IsWithin end d.octets → ends_behind end (h.offset + n) ≡ true → (mf || nat_le (length d.octets) (h.offset + n)) ≡ true → IsWithin (if mf then end else Some (h.offset + n)) (with_octets d.octets h.offset xs)
    within_cases true None within behind last = tt
    within_cases true (Some e) within behind last = let l = length-with d.octets h.offset xs in let b : h.offset + n ≤ e = grind (arith, nat_tests) in omega arith
    within_cases false end within behind last = let l = length-with d.octets h.offset xs in let b : length d.octets ≤ h.offset + n = grind (arith, nat_tests) in omega arith

-- it would be whole with a fragment exactly where its octets are as many as its end
whole_count : (d : Datagram) (h : IpHead) (n : ℕ) (xs : List ℕ) (e : ℕ) → length xs ≡ n → IsWithin d.end d.octets → Fitting d h n → overlaps d.octets h.offset n ≡ false → end_with d.end h n ≡ Some e
    → is_whole (with_fragment d h xs) ≡ nat_eq e (length (octets_in d.octets) + n)
whole_count d h n xs e size within fit free end =
    let same : end_with d.end h (length xs) ≡ Some e = rw size end in
    let fits_in : IsWithin (Some e) (with_octets d.octets h.offset xs) = subst (λ (x : Option ℕ). IsWithin x (with_octets d.octets h.offset xs)) end (within_with d h n xs size within fit) in
    let count : length (octets_in (with_octets d.octets h.offset xs)) ≡ length (octets_in d.octets) + length xs = count_with d.octets h.offset xs (rw size free) in
    rw same (filled_count (with_octets d.octets h.offset xs) e fits_in ∙ rw (count, size) refl)

whole_never : (d : Datagram) (h : IpHead) (n : ℕ) (xs : List ℕ) → length xs ≡ n → end_with d.end h n ≡ None → is_whole (with_fragment d h xs) ≡ false
whole_never d h n xs size end = let same : end_with d.end h (length xs) ≡ None = rw size end in rw same refl

-- whether n octets make it whole, where its end is known then, and where it isn't
pub completes_count : (d : Datagram) (h : IpHead) (n e : ℕ) → IsWithin d.end d.octets → Fitting d h n → overlaps d.octets h.offset n ≡ false → end_with d.end h n ≡ Some e → completes d h n ≡ nat_eq e (length (octets_in d.octets) + n)
completes_count d h n e within fit free end = whole_count d h n (replicate n 0) e (length-replicate n 0) within fit free end

pub completes_never : (d : Datagram) (h : IpHead) (n : ℕ) → end_with d.end h n ≡ None → completes d h n ≡ false
completes_never d h n end = whole_never d h n (replicate n 0) (length-replicate n 0) end

-- a datagram has at most 65,535 octets after a fragment that fits
pub whole_short : (octets : List (Option ℕ)) (from : ℕ) (xs out : List ℕ) → out ≡ octets_in (with_octets octets from xs) → length octets ≤ 65535 → from + length xs ≤ 65535 → length out ≤ 65535
whole_short octets from xs out e short fit =
    let count = (count_all (with_octets octets from xs)).0 in
    let reach = length-with octets from xs in
    let l = ap length e in
    omega arith

-- which octets are put in doesn't matter for whether all are there
some_marks : (xs : List ℕ) → map is_some (map Some xs) ≡ replicate (length xs) true
some_marks [] = refl
some_marks (x ∷ xs) = ap (λ bs. true ∷ bs) (some_marks xs)

with_marks : (octets : List (Option ℕ)) (from : ℕ) (xs ys : List ℕ) → length xs ≡ length ys → map is_some (with_octets octets from xs) ≡ map is_some (with_octets octets from ys)
with_marks octets from xs ys size =
    let front = take from octets ++ missing (from - length octets) in
    let some : map is_some (map Some xs) ≡ map is_some (map Some ys) = some_marks xs ∙ ap (λ n. replicate n true) size ∙ sym (some_marks ys) in
    let back : drop (from + length xs) octets ≡ drop (from + length ys) octets = ap (λ n. drop (from + n) octets) size in
    map-append is_some (front ++ map Some xs) (drop (from + length xs) octets)
    ∙ ap (λ zs. zs ++ map is_some (drop (from + length xs) octets)) (map-append is_some front (map Some xs) ∙ ap (λ zs. map is_some front ++ zs) some ∙ sym (map-append is_some front (map Some ys)))
    ∙ ap (λ zs. map is_some (front ++ map Some ys) ++ map is_some zs) back
    ∙ sym (map-append is_some (front ++ map Some ys) (drop (from + length ys) octets))

all_marks : (xs : List (Option ℕ)) → list_all is_some xs ≡ list_all (λ b. b) (map is_some xs)
all_marks [] = refl
all_marks (None ∷ xs) = refl
all_marks (Some x ∷ xs) = all_marks xs

filled_marks : (end : Option ℕ) (xs ys : List (Option ℕ)) → map is_some xs ≡ map is_some ys → is_filled end xs ≡ is_filled end ys
filled_marks None xs ys same = refl
filled_marks (Some e) xs ys same =
    let size : length xs ≡ length ys = sym (length-map xs is_some) ∙ ap length same ∙ length-map ys is_some in
    let marks : map is_some (take e xs) ≡ map is_some (take e ys) = sym (take-map is_some e xs) ∙ ap (take e) same ∙ take-map is_some e ys in
    let all : list_all is_some (take e xs) ≡ list_all is_some (take e ys) = all_marks (take e xs) ∙ ap (λ bs. list_all (λ b. b) bs) marks ∙ sym (all_marks (take e ys)) in
    ap (λ n. nat_le e n && list_all is_some (take e xs)) size ∙ ap (λ b. nat_le e (length ys) && b) all

pub by_positions : (d : Datagram) (h : IpHead) (xs : List ℕ) → is_whole (with_fragment d h xs) ≡ completes d h (length xs)
by_positions d h xs =
    let zeros : List ℕ = replicate (length xs) 0 in
    let size : length xs ≡ length zeros = sym (length-replicate (length xs) 0) in
    filled_marks (end_with d.end h (length xs)) (with_octets d.octets h.offset xs) (with_octets d.octets h.offset zeros) (with_marks d.octets h.offset xs zeros size)
    ∙ ap (λ (n : ℕ). is_filled (end_with d.end h n) (with_octets d.octets h.offset zeros)) size
