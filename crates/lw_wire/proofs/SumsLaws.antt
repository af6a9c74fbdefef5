-- The test of a sum is right, and a sum is right where it was taken over octets with 0 in its place.
use Rattle.std.proofs.Common.{◌≡◌, ◌%◌, ◌<◌, ◌++◌, ◌∷◌, [], ◌==◌, zero, suc, ℕ, Bool, true, false, List, length, take, if◌then◌else◌, refl, ap, ◌∙◌, arith, append_assoc, eqb-true}
use Rattle.byteorder.specs.Endian.{big_bytes}
use Rattle.lw_wire.specs.Checksum.{internet_sum, ones_sum}
use Rattle.lw_wire.specs.Sums.{has_right_sum, HasRightSum}
use Rattle.lw_wire.specs.Udp.{sent_sum}
use Rattle.lw_wire.specs.Fields.{AreOctets}
use Rattle.lw_wire.proofs.ChecksumLaws.{octets_append, octets_bytes, sum_append, sum_fits, sum_in_place, sum_right}

-- an octet in front of octets
pub octets_cons : (a : ℕ) (xs : List ℕ) → a < 256 → AreOctets xs → AreOctets (a ∷ xs)
octets_cons a xs first rest zero = first
octets_cons a xs first rest (suc i) = rest i

-- the first n of octets
pub octets_take : (n : ℕ) (xs : List ℕ) → AreOctets xs → AreOctets (take n xs)
octets_take zero xs small i = omega arith
octets_take (suc n) [] small i = omega arith
octets_take (suc n) (x ∷ xs) small zero = small 0
octets_take (suc n) (x ∷ xs) small (suc i) = octets_take n xs (λ j. small (suc j)) i

-- the test tells that the sum is right
pub right-by_test : (octets : List ℕ) → AreOctets octets → has_right_sum octets ≡ true → HasRightSum octets
right-by_test octets small is = (sum_right octets small).0 (eqb-true _ _ is)

-- and is met where it is
pub test-right : (octets : List ℕ) → HasRightSum octets → has_right_sum octets ≡ true
test-right octets right = rw right refl

-- a sum of all ones in place of 0, where the octets with 0 sum to all ones
all_ones : (front back : List ℕ) → AreOctets front → AreOctets back → length front % 2 ≡ 0
    → ones_sum (front ++ big_bytes 2 0 ++ back) ≡ 65535 → ones_sum (front ++ big_bytes 2 65535 ++ back) ≡ 65535
unfolding ones_sum
all_ones front back before behind even was =
    let zeros = ap ones_sum (append_assoc front (big_bytes 2 0) back) ∙ sum_append front (big_bytes 2 0 ++ back) before (octets_append (big_bytes 2 0) back (octets_bytes 2 0) behind) even in
    let ones = ap ones_sum (append_assoc front (big_bytes 2 65535) back) ∙ sum_append front (big_bytes 2 65535 ++ back) before (octets_append (big_bytes 2 65535) back (octets_bytes 2 65535) behind) even in
    let first = sum_fits front before in
    let last = sum_fits back behind in
    omega arith

-- by the test whether the sum that was taken is 0
sent_by : (front back : List ℕ) → AreOctets front → AreOctets back → length front % 2 ≡ 0
    → (none : Bool) → (internet_sum (front ++ big_bytes 2 0 ++ back) == 0) ≡ none
    → ones_sum (front ++ big_bytes 2 (if none then 65535 else internet_sum (front ++ big_bytes 2 0 ++ back)) ++ back) ≡ 65535
sent_by front back before behind even false is = sum_in_place front back before behind even
sent_by front back before behind even true is =
    let zeros : List ℕ = front ++ big_bytes 2 0 ++ back in
    let small = octets_append (front ++ big_bytes 2 0) back (octets_append front (big_bytes 2 0) before (octets_bytes 2 0)) behind in
    all_ones front back before behind even ((sum_right zeros small).0 (eqb-true _ _ is))

-- octets with their sum in place as UDP sends it, at a whole word, sum to all ones
pub sent_in_place : (front back : List ℕ) → AreOctets front → AreOctets back → length front % 2 ≡ 0
    → ones_sum (front ++ big_bytes 2 (sent_sum (internet_sum (front ++ big_bytes 2 0 ++ back))) ++ back) ≡ 65535
sent_in_place front back before behind even =
    sent_by front back before behind even (internet_sum (front ++ big_bytes 2 0 ++ back) == 0) refl
