-- The laws of fields that stand one behind the other, by what stands from a place. Where that is a field
-- and a rest, the field is read there (`part_first`, `number_first`), and the rest stands behind it
-- (`part_behind`, `number_behind`). The other way, what stands from a place is the field that is read
-- there and then what stands behind it (`part_then`, `u8_then`, `u16_then`, `u32_then`). So a law on a
-- head goes through its fields, each from where the last one ended.
use Rattle.std.proofs.Common.{◌≡◌, ◌+◌, ◌*◌, ◌^◌, ◌/◌, ◌%◌, ◌<◌, ◌≤◌, ◌++◌, ◌∷◌, [], ℕ, List, Result, OnOk, length, take, drop, slice_index_or, refl, sym, ap, subst, ◌∙◌, arith}
use Rattle.std.proofs.lemmas.List.{take_at, drop_at, take-append-drop, drop-drop, get_or-drop, length-drop, length-take-le}
use Rattle.std.proofs.lemmas.Result.{on_ok_weaker}
use Rattle.byteorder.specs.Endian.{big_bytes, big_number}
use Rattle.byteorder.specs.Numbers.{big_from-lt, big_number-reads_back, length-bytes_high_first}
use Rattle.lw_wire.specs.Fields.{AreOctets, number_at, part_at, u8_at, u16_at, u32_at}

-- a part is read where it stands
pub part_first : (place n : ℕ) (octets part rest : List ℕ) → drop place octets ≡ part ++ rest → length part ≡ n
    → part_at place n octets ≡ part
part_first place n octets part rest stands len = ap (take n) stands ∙ take_at part rest n len

-- behind a part stands the rest
pub part_behind : (place n : ℕ) (octets part rest : List ℕ) → drop place octets ≡ part ++ rest → length part ≡ n
    → drop (place + n) octets ≡ rest
part_behind place n octets part rest stands len =
    sym (drop-drop n place octets) ∙ ap (drop n) stands ∙ drop_at part rest n len

-- a number is read where it stands
pub number_first : (place n x : ℕ) (octets rest : List ℕ) → drop place octets ≡ big_bytes n x ++ rest → x < 256 ^ n
    → number_at place n octets ≡ x
number_first place n x octets rest stands fits = ap (big_number n) stands ∙ big_number-reads_back n x rest fits

-- behind a number stands the rest
pub number_behind : (place n x : ℕ) (octets rest : List ℕ) → drop place octets ≡ big_bytes n x ++ rest
    → drop (place + n) octets ≡ rest
number_behind place n x octets rest stands =
    part_behind place n octets (big_bytes n x) rest stands (length-bytes_high_first n x)

-- what stands from a place is the part there, and then what stands behind it
pub part_then : (place n : ℕ) (octets behind : List ℕ) → drop (place + n) octets ≡ behind
    → drop place octets ≡ part_at place n octets ++ behind
part_then place n octets behind next =
    sym (take-append-drop n (drop place octets))
    ∙ ap (λ (r : List ℕ). part_at place n octets ++ r) (drop-drop n place octets ∙ next)

-- an octet is the octets of its number
u8_whole : (xs : List ℕ) → AreOctets xs → 1 ≤ length xs → take 1 xs ≡ big_bytes 1 (big_number 1 xs)
u8_whole [] small len = absurd (omega arith)
u8_whole (a ∷ xs) small len =
    let first = small 0 in
    let e : (a * 1 + 0) % 256 ≡ a = omega arith in
    rw e refl

-- two octets are the octets of their number
u16_whole : (xs : List ℕ) → AreOctets xs → 2 ≤ length xs → take 2 xs ≡ big_bytes 2 (big_number 2 xs)
u16_whole [] small len = absurd (omega arith)
u16_whole (a ∷ []) small len = absurd (omega arith)
u16_whole (a ∷ b ∷ xs) small len =
    let first = small 0 in
    let second = small 1 in
    let high : (a * 256 + (b * 1 + 0)) / 256 % 256 ≡ a = omega arith in
    let low : (a * 256 + (b * 1 + 0)) % 256 ≡ b = omega arith in
    rw (high, low) refl

-- four octets are the octets of their number
u32_whole : (xs : List ℕ) → AreOctets xs → 4 ≤ length xs → take 4 xs ≡ big_bytes 4 (big_number 4 xs)
u32_whole [] small len = absurd (omega arith)
u32_whole (a ∷ []) small len = absurd (omega arith)
u32_whole (a ∷ b ∷ []) small len = absurd (omega arith)
u32_whole (a ∷ b ∷ c ∷ []) small len = absurd (omega arith)
u32_whole (a ∷ b ∷ c ∷ d ∷ xs) small len =
    let first = small 0 in
    let second = small 1 in
    let third = small 2 in
    let fourth = small 3 in
    let x : ℕ = a * 16777216 + (b * 65536 + (c * 256 + (d * 1 + 0))) in
    let top : x / 16777216 % 256 ≡ a = omega arith in
    let high : x / 65536 % 256 ≡ b = omega arith in
    let low : x / 256 % 256 ≡ c = omega arith in
    let bottom : x % 256 ≡ d = omega arith in
    rw (top, high, low, bottom) refl

-- octets from a place on are octets
pub octets_from : (place : ℕ) (octets : List ℕ) → AreOctets octets → AreOctets (drop place octets)
octets_from place octets small i = rw get_or-drop (small (place + i))

-- what stands from a place is the number there, and then what stands behind it
number_then : (place n x : ℕ) (octets behind : List ℕ) → part_at place n octets ≡ big_bytes n (number_at place n octets)
    → number_at place n octets ≡ x → drop (place + n) octets ≡ behind → drop place octets ≡ big_bytes n x ++ behind
number_then place n x octets behind whole is next =
    part_then place n octets behind next
    ∙ ap (λ (field : List ℕ). field ++ behind) (whole ∙ ap (big_bytes n) is)

-- a part that is there has its length
pub length-part_at : (place n : ℕ) (octets : List ℕ) → place + n ≤ length octets → length (part_at place n octets) ≡ n
length-part_at place n octets len = length-take-le n (drop place octets) (omega (arith, length-drop place octets))

-- a number of n octets fits them
pub number_at-fits : (place n : ℕ) (octets : List ℕ) → AreOctets octets → number_at place n octets < 256 ^ n
number_at-fits place n octets small = big_from-lt 0 n (drop place octets) (octets_from place octets small)

-- what stands from a place is the octet there, and then what stands behind it
pub u8_then : (place x : ℕ) (octets behind : List ℕ) → AreOctets octets → place + 1 ≤ length octets
    → u8_at place octets ≡ x → drop (place + 1) octets ≡ behind → drop place octets ≡ big_bytes 1 x ++ behind
u8_then place x octets behind small len is next =
    let here = u8_whole (drop place octets) (octets_from place octets small) (omega (arith, length-drop place octets)) in
    number_then place 1 x octets behind here is next

-- the same with two octets
pub u16_then : (place x : ℕ) (octets behind : List ℕ) → AreOctets octets → place + 2 ≤ length octets
    → u16_at place octets ≡ x → drop (place + 2) octets ≡ behind → drop place octets ≡ big_bytes 2 x ++ behind
u16_then place x octets behind small len is next =
    let here = u16_whole (drop place octets) (octets_from place octets small) (omega (arith, length-drop place octets)) in
    number_then place 2 x octets behind here is next

-- and with four
pub u32_then : (place x : ℕ) (octets behind : List ℕ) → AreOctets octets → place + 4 ≤ length octets
    → u32_at place octets ≡ x → drop (place + 4) octets ≡ behind → drop place octets ≡ big_bytes 4 x ++ behind
u32_then place x octets behind small len is next =
    let here = u32_whole (drop place octets) (octets_from place octets small) (omega (arith, length-drop place octets)) in
    number_then place 4 x octets behind here is next

-- six items, one by one, in front of others
pub six_then : (xs rest : List ℕ) → length xs ≡ 6
    → slice_index_or xs 0 0 ∷ slice_index_or xs 1 0 ∷ slice_index_or xs 2 0 ∷ slice_index_or xs 3 0 ∷ slice_index_or xs 4 0 ∷ slice_index_or xs 5 0 ∷ rest ≡ xs ++ rest
six_then [] rest len = absurd (omega arith)
six_then (a ∷ []) rest len = absurd (omega arith)
six_then (a ∷ b ∷ []) rest len = absurd (omega arith)
six_then (a ∷ b ∷ c ∷ []) rest len = absurd (omega arith)
six_then (a ∷ b ∷ c ∷ d ∷ []) rest len = absurd (omega arith)
six_then (a ∷ b ∷ c ∷ d ∷ e ∷ []) rest len = absurd (omega arith)
six_then (a ∷ b ∷ c ∷ d ∷ e ∷ f ∷ []) rest len = refl
six_then (a ∷ b ∷ c ∷ d ∷ e ∷ f ∷ g ∷ xs) rest len = absurd (omega arith)

-- what holds of the octets that were added holds of what stands behind the old ones
pub added : {E : Type 0} (P : List ℕ → Type 0) (r : Result (Unit {0}) E) (old new more : List ℕ)
    → OnOk r (new ≡ old ++ more) → P more → OnOk r (P (drop (length old) new))
added P r old new more ok holds =
    on_ok_weaker r (λ is. subst P (sym (ap (drop (length old)) is ∙ drop_at old more (length old) refl)) holds) ok
