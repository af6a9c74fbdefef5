-- The internet checksum (RFC 1071; the field of the Internet header in RFC 791, 3.1).
use Rattle.std.specs.Prelude.{◌+◌, ◌-◌, ◌*◌, ◌/◌, ◌%◌, ◌∷◌, [], zero, suc, ℕ, List}

-- one's complement addition of 16-bit words: the carry out of the highest bit is added at the lowest (RFC 1071, 2)
abbrev pub ones_add : ℕ → ℕ → ℕ
ones_add a b = (a + b) % 65536 + (a + b) / 65536

-- the one's complement sum of the 16-bit words of octets, each with its high octet first; an odd last octet is followed by 0
unfoldable pub ones_sum : List ℕ → ℕ
ones_sum [] = 0
ones_sum (a ∷ []) = a * 256
ones_sum (a ∷ b ∷ rest) = ones_add (a * 256 + b) (ones_sum rest)

-- the internet checksum: the one's complement of that sum
abbrev pub internet_sum : List ℕ → ℕ
internet_sum octets = 65535 - ones_sum octets

-- the plain sum of the same words
unfoldable pub word_sum : List ℕ → ℕ
word_sum [] = 0
word_sum (a ∷ []) = a * 256
word_sum (a ∷ b ∷ rest) = a * 256 + b + word_sum rest

-- a number whose high parts are added to its lowest 16 bits until it fits them: 0 is 0 alone, and any other number is from 1 to 65535
abbrev pub folded : ℕ → ℕ
folded zero = 0
folded (suc n) = n % 65535 + 1
