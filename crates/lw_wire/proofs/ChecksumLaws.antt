-- The laws of the one's complement sum. Their ground is the plain sum of the words, and how it folds to 16 bits.
use Rattle.std.proofs.Common.{◌≡◌, ◌+◌, ◌-◌, ◌*◌, ◌^◌, ◌/◌, ◌%◌, ◌<◌, ◌++◌, ◌∷◌, ◌↔◌, [], zero, suc, ℕ, List, length, min, refl, sym, ap, ◌∙◌, append_assoc, arith}
use Rattle.std.proofs.Math.Nat.{mod-lt}
use Rattle.std.specs.Int.{byte_at}
use Rattle.byteorder.specs.Endian.{big_bytes}
use Rattle.lw_wire.specs.Checksum.{folded, internet_sum, ones_add, ones_sum, word_sum}
use Rattle.lw_wire.specs.Fields.{AreOctets}

-- in one line
folded-is : (n : ℕ) → folded n ≡ (n - 1) % 65535 + min n 1
folded-is zero = refl
folded-is (suc n) = omega arith

-- a number that fits 16 bits stays
pub folded-small : (a : ℕ) → a < 65536 → folded a ≡ a
folded-small zero small = refl
folded-small (suc n) small = omega arith

pub folded-fits : (a : ℕ) → folded a < 65536
folded-fits zero = omega arith
folded-fits (suc n) = omega arith

-- a sum folds as its parts do
pub folded-add : (a b : ℕ) → a < 65536 → folded (a + b) ≡ ones_add a (folded b)
folded-add a b small = omega (arith, folded-is (a + b), folded-is b)

-- numbers with the same remainder by 65535 fold alike, if both are 0 or none is
pub folded-same : (a b j k : ℕ) → a + 65535 * j ≡ b + 65535 * k → (a ≡ 0 → b ≡ 0) → (b ≡ 0 → a ≡ 0) → folded a ≡ folded b
folded-same zero zero j k same there back = refl
folded-same zero (suc b) j k same there back = let zero_too = there refl in absurd (omega arith)
folded-same (suc a) zero j k same there back = let zero_too = back refl in absurd (omega arith)
folded-same (suc a) (suc b) j k same there back = omega arith

-- a sum folds as its parts do, each folded before
pub folded-add_both : (a b : ℕ) → folded (a + b) ≡ ones_add (folded a) (folded b)
folded-add_both a b = omega (arith, folded-is (a + b), folded-is a, folded-is b)

-- what folds alike does so with more added that folds alike
pub folded-more : (a b x y : ℕ) → folded a ≡ folded b → folded x ≡ folded y → folded (a + x) ≡ folded (b + y)
folded-more a b x y alike more = rw (folded-add_both a x, folded-add_both b y, alike, more) refl

-- the words of octets fit 16 bits
first_octets : (a b : ℕ) (rest : List ℕ) → AreOctets (a ∷ b ∷ rest) → a * 256 + b < 65536
first_octets a b rest small = let x = small 0 in let y = small 1 in omega arith

octets_behind : (a : ℕ) (rest : List ℕ) → AreOctets (a ∷ rest) → AreOctets rest
octets_behind a rest small i = small (suc i)

-- the one's complement sum is the plain sum of the words, folded
pub sum_folds : (octets : List ℕ) → AreOctets octets → ones_sum octets ≡ folded (word_sum octets)
unfolding ones_sum word_sum
sum_folds [] small = refl
sum_folds (a ∷ []) small = let x = small 0 in sym (folded-small (a * 256) (omega arith))
sum_folds (a ∷ b ∷ rest) small =
    let later = sum_folds rest (λ i. small (suc (suc i))) in
    rw later (sym (folded-add (a * 256 + b) (word_sum rest) (first_octets a b rest small)))

pub sum_fits : (octets : List ℕ) → AreOctets octets → ones_sum octets < 65536
sum_fits octets small = rw (sum_folds octets small) (folded-fits (word_sum octets))

-- the words of two lists, the first of which ends with a whole word
pub word_sum-append : (xs ys : List ℕ) → length xs % 2 ≡ 0 → word_sum (xs ++ ys) ≡ word_sum xs + word_sum ys
unfolding word_sum
word_sum-append [] ys even = omega arith
word_sum-append (a ∷ []) ys even = absurd (omega arith)
word_sum-append (a ∷ b ∷ xs) ys even =
    let later = word_sum-append xs ys (omega arith) in
    rw later (omega arith)

-- octets and octets are octets
pub octets_append : (xs ys : List ℕ) → AreOctets xs → AreOctets ys → AreOctets (xs ++ ys)
octets_append [] ys front back i = back i
octets_append (x ∷ xs) ys front back zero = front 0
octets_append (x ∷ xs) ys front back (suc i) = octets_append xs ys (octets_behind x xs front) back i

-- a byte of a number is below 256
byte_at-fits : (n x : ℕ) → byte_at n x < 256
byte_at-fits zero x = omega arith
byte_at-fits (suc n) x = mod-lt (x / 256 ^ suc n) (omega arith)

-- those of a number are
pub octets_bytes : (n x : ℕ) → AreOctets (big_bytes n x)
octets_bytes zero x i = omega arith
octets_bytes (suc n) x zero = byte_at-fits n x
octets_bytes (suc n) x (suc i) = octets_bytes n x i

-- the sum of a list is that of its parts, where the first ends with a whole word
pub sum_append : (xs ys : List ℕ) → AreOctets xs → AreOctets ys → length xs % 2 ≡ 0
    → ones_sum (xs ++ ys) ≡ ones_add (ones_sum xs) (ones_sum ys)
sum_append xs ys front back even =
    rw (sum_folds (xs ++ ys) (octets_append xs ys front back), sum_folds xs front, sum_folds ys back, word_sum-append xs ys even)
    (folded-add_both (word_sum xs) (word_sum ys))

-- a sum and its complement fold to all ones
folded-complement : (n : ℕ) → folded (n + (65535 - folded n)) ≡ 65535
folded-complement n = omega (arith, folded-is n, folded-is (n + (65535 - folded n)))

-- a word between octets counts by its value
word_between : (x : ℕ) (front back : List ℕ) → x < 65536 → length front % 2 ≡ 0
    → word_sum (front ++ big_bytes 2 x ++ back) ≡ word_sum front + (x + word_sum back)
unfolding word_sum
word_between x front back small even =
    let word : x / 256 % 256 * 256 + x % 256 ≡ x = omega arith in
    ap word_sum (append_assoc front (big_bytes 2 x) back)
    ∙ word_sum-append front (big_bytes 2 x ++ back) even
    ∙ ap (λ (n : ℕ). word_sum front + (n + word_sum back)) word

-- octets round a word are octets
octets_round : (x : ℕ) (front back : List ℕ) → AreOctets front → AreOctets back → AreOctets (front ++ big_bytes 2 x ++ back)
octets_round x front back before behind =
    octets_append (front ++ big_bytes 2 x) back (octets_append front (big_bytes 2 x) before (octets_bytes 2 x)) behind

-- what folds alike does so by 256 times as much
pub folded-times : (a b : ℕ) → folded a ≡ folded b → folded (256 * a) ≡ folded (256 * b)
folded-times zero zero alike = refl
folded-times zero (suc b) alike = absurd (omega arith)
folded-times (suc a) zero alike = absurd (omega arith)
folded-times (suc a) (suc b) alike =
    folded-same (256 * suc a) (256 * suc b) (256 * (b / 65535)) (256 * (a / 65535)) (omega arith) (λ z. omega arith) (λ z. omega arith)

-- octets behind one octet: each moves to the other half of its word
behind_one : (a : ℕ) (ys : List ℕ) → folded (word_sum (a ∷ ys)) ≡ folded (a * 256 + 256 * word_sum ys)
unfolding word_sum
behind_one a [] = ap folded (omega arith)
behind_one a (b ∷ []) =
    folded-same (a * 256 + b + 0) (a * 256 + 256 * (b * 256)) b 0 (omega arith) (λ z. omega arith) (λ z. omega arith)
behind_one a (b ∷ c ∷ ys) =
    let later = behind_one c ys in
    let over : folded (a * 256 + 256 * (b * 256 + c + word_sum ys)) ≡ folded (a * 256 + b + (c * 256 + 256 * word_sum ys)) =
    folded-same (a * 256 + 256 * (b * 256 + c + word_sum ys)) (a * 256 + b + (c * 256 + 256 * word_sum ys)) 0 b (omega arith) (λ z. omega arith) (λ z. omega arith) in
    folded-more (a * 256 + b) (a * 256 + b) (word_sum (c ∷ ys)) (c * 256 + 256 * word_sum ys) refl later ∙ sym over

-- octets behind an odd number of them
word_sum-append_odd : (xs ys : List ℕ) → length xs % 2 ≡ 1 → folded (word_sum (xs ++ ys)) ≡ folded (word_sum xs + 256 * word_sum ys)
unfolding word_sum
word_sum-append_odd [] ys odd = absurd (omega arith)
word_sum-append_odd (a ∷ []) ys odd = behind_one a ys
word_sum-append_odd (a ∷ b ∷ xs) ys odd =
    let later = word_sum-append_odd xs ys (omega arith) in
    let apart : a * 256 + b + word_sum xs + 256 * word_sum ys ≡ a * 256 + b + (word_sum xs + 256 * word_sum ys) = omega arith in
    folded-more (a * 256 + b) (a * 256 + b) (word_sum (xs ++ ys)) (word_sum xs + 256 * word_sum ys) refl later ∙ sym (ap folded apart)

-- what folded stays so
pub folded-twice : (n : ℕ) → folded (folded n) ≡ folded n
folded-twice n = folded-small (folded n) (folded-fits n)

-- octets that stand behind others count by the place of each in its word
placed : (xs ys : List ℕ) (odd : ℕ) → length xs % 2 ≡ odd → folded (word_sum (xs ++ ys)) ≡ folded (word_sum xs + 256 ^ odd * word_sum ys)
placed xs ys zero even = ap folded (word_sum-append xs ys even ∙ omega arith)
placed xs ys (suc zero) odd = word_sum-append_odd xs ys odd
placed xs ys (suc (suc n)) more = absurd (omega arith)

-- 256 to a power that is 0 or 1 folds through
folded-power : (odd n : ℕ) → odd < 2 → folded (256 ^ odd * folded n) ≡ folded (256 ^ odd * n)
folded-power zero n small = ap folded (omega arith) ∙ folded-twice n ∙ ap folded (omega arith)
folded-power (suc zero) n small = folded-times (folded n) n (folded-twice n)
folded-power (suc (suc k)) n small = absurd (omega arith)

-- the sum of joined lists: behind an odd number of octets each octet stands in the other half of its word
pub sum_joined : (xs ys : List ℕ) → AreOctets xs → AreOctets ys
    → ones_sum (xs ++ ys) ≡ ones_add (ones_sum xs) (folded (256 ^ (length xs % 2) * ones_sum ys))
sum_joined xs ys front back =
    let odd : ℕ = length xs % 2 in
    let behind : folded (256 ^ odd * ones_sum ys) ≡ folded (256 ^ odd * word_sum ys) =
    ap (λ (n : ℕ). folded (256 ^ odd * n)) (sum_folds ys back) ∙ folded-power odd (word_sum ys) (omega arith) in
    sum_folds (xs ++ ys) (octets_append xs ys front back)
    ∙ placed xs ys odd refl
    ∙ folded-add_both (word_sum xs) (256 ^ odd * word_sum ys)
    ∙ sym (rw (sum_folds xs front, behind) refl)

-- a packet with its checksum in place, at a whole word, sums to all ones
pub sum_in_place : (front back : List ℕ) → AreOctets front → AreOctets back → length front % 2 ≡ 0
    → ones_sum (front ++ big_bytes 2 (internet_sum (front ++ big_bytes 2 0 ++ back)) ++ back) ≡ 65535
sum_in_place front back before behind even =
    let zeros : List ℕ = front ++ big_bytes 2 0 ++ back in
    let sum : ℕ = internet_sum zeros in
    let folds = sum_folds zeros (octets_round 0 front back before behind) in
    let was = word_between 0 front back (omega arith) even in
    let is = word_between sum front back (omega arith) even in
    let more : word_sum (front ++ big_bytes 2 sum ++ back) ≡ word_sum zeros + (65535 - folded (word_sum zeros)) = omega arith in
    sum_folds (front ++ big_bytes 2 sum ++ back) (octets_round sum front back before behind) ∙ ap folded more ∙ folded-complement (word_sum zeros)

-- the checksum of a list is 0 exactly where it sums to all ones
pub sum_right : (octets : List ℕ) → AreOctets octets → (internet_sum octets ≡ 0) ↔ (ones_sum octets ≡ 65535)
sum_right octets small = let fits = sum_fits octets small in (λ h. omega arith, λ h. omega arith)
