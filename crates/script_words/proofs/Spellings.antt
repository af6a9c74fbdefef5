-- Words have no spaces in them, and each address is spelled in one way.
use Rattle.std.proofs.Common.{◌≡◌, ◌≢◌, ℕ, zero, suc, ◌+◌, ◌*◌, ◌/◌, ◌%◌, ◌^◌, ◌<◌, ◌≤◌, ◌==◌, false, List, [], ◌∷◌, ◌++◌, length, get_or, refl, sym, ap, ◌∙◌, subst, arith, lt-ltb, le-ltb, ne_eqb, lit≤, All, codes, decimal, append_assoc, inl, inr}
use Rattle.std.proofs.lemmas.Bool.{cases_lt}
use Rattle.std.proofs.lemmas.Nat.{pow_pos}
use Rattle.std.proofs.lemmas.Slice.Eq.{text_from_reads}
use Rattle.std.proofs.lemmas.Fmt.{decimal_is_IsNumeral}
use Rattle.std.proofs.lemmas.Str.Parse.{digit_at}
use Rattle.std.proofs.lemmas.List.Elements.{All-from_get_or, All-append, All-cons, All-head, All-tail}
use Rattle.std.specs.List.{flat_map}
use Rattle.std.specs.Int.{IsInRange}
use Rattle.std.specs.Net.Text.{dotted_text}
use Rattle.std.specs.Net.Grammar.{IsDotted}
use Rattle.std.proofs.NetLemmas.Ipv4.{read_ipv4_complete}
use Rattle.std.proofs.NetLemmas.Options.{same_parts}
use Rattle.lw_base.specs.declared.addresses.Ip.{Ip}
use Rattle.lw_base.specs.declared.addresses.Mac.{Mac}
use Rattle.script_words.specs.Words.{pieces}
use Rattle.script_words.specs.Values.{IsMac, IsMask, hex_digit, hex_octet, ip_spelling, mac_spelling}
use Rattle.script_words.proofs.Pieces.{Misses, same_pieces, pieces_at, pieces_none}

pub none_missed : (at : ℕ) → Misses at []
none_missed at k d h = absurd (omega arith)

pub decimal_solid : (n : ℕ) → n < 2 ^ 64 → Misses 32 (decimal n)
decimal_solid n small =
    All-from_get_or (λ c. (c == 32) ≡ false) (decimal n) 0
    (λ i h. let r : IsInRange 48 57 (get_or (decimal n) i 0) = digit_at (decimal n) i (decimal_is_IsNumeral n small).0.1 h in let ne : get_or (decimal n) i 0 ≢ 32 = omega arith in ne_eqb _ _ ne)

dot_solid : Misses 32 (codes ".")
dot_solid = All-cons (λ c. (c == 32) ≡ false) 46 [] refl (none_missed 32)

pub joined_solid : (xs ys : List ℕ) → Misses 32 xs → Misses 32 ys → Misses 32 (xs ++ ys)
joined_solid xs ys h k = All-append (λ c. (c == 32) ≡ false) xs ys h k

dotted_solid : (a b c d : ℕ) → a < 2 ^ 64 → b < 2 ^ 64 → c < 2 ^ 64 → d < 2 ^ 64 → Misses 32 (dotted_text a b c d)
dotted_solid a b c d ha hb hc hd =
    joined_solid _ _
    (joined_solid _ _ (joined_solid _ _ (joined_solid _ _ (joined_solid _ _ (joined_solid _ _ (decimal_solid a ha) dot_solid) (decimal_solid b hb)) dot_solid) (decimal_solid c hc)) dot_solid)
    (decimal_solid d hd)

pub ip_solid : (ip : Ip) → ip.0 < 2 ^ 33 → Misses 32 (ip_spelling ip)
ip_solid ip h =
    dotted_solid (ip.0 / 2 ^ 24) (ip.0 / 2 ^ 16 % 256) (ip.0 / 2 ^ 8 % 256) (ip.0 % 256) (omega arith) (omega arith) (omega arith) (omega arith)

hex_low : (d : ℕ) → d < 10 → hex_digit d ≡ 48 + d
hex_low d h = rw (lt-ltb d 10 h) refl

hex_high : (d : ℕ) → 10 ≤ d → hex_digit d ≡ 87 + d
hex_high d h = rw (le-ltb d 10 h) refl

hex_solid : (d : ℕ) → (hex_digit d == 32) ≡ false
hex_solid d =
    elim (cases_lt d 10) [
      | inl low ↦ let is = hex_low d low in let ne : hex_digit d ≢ 32 = omega arith in ne_eqb _ _ ne
      | inr high ↦ let is = hex_high d high in let ne : hex_digit d ≢ 32 = omega arith in ne_eqb _ _ ne
    ]

pub octets_solid : (xs : List ℕ) → Misses 32 (flat_map hex_octet xs)
octets_solid [] = none_missed 32
octets_solid (x ∷ xs) =
    All-cons (λ c. (c == 32) ≡ false) (hex_digit (x / 16)) (hex_digit (x % 16) ∷ flat_map hex_octet xs) (hex_solid (x / 16))
    (All-cons (λ c. (c == 32) ≡ false) (hex_digit (x % 16)) (flat_map hex_octet xs) (hex_solid (x % 16)) (octets_solid xs))

mask_fits : (mask : ℕ) → IsMask mask → mask < 2 ^ 33
mask_fits mask (k, small, is) = omega arith

pub mask_small : (mask : ℕ) → IsMask mask → mask < 2 ^ 32
mask_small mask (k, small, is) = let some : 0 < 2 ^ k = pow_pos k in omega arith

-- an address has one spelling
pub ip_dotted : (ip : Ip) → ip.0 < 2 ^ 32 → IsDotted (ip_spelling ip) (ip.0 / 2 ^ 24 ∷ ip.0 / 2 ^ 16 % 256 ∷ ip.0 / 2 ^ 8 % 256 ∷ ip.0 % 256 ∷ [])
ip_dotted ip h =
    record {
      a = ip.0 / 2 ^ 24;
      b = ip.0 / 2 ^ 16 % 256;
      c = ip.0 / 2 ^ 8 % 256;
      d = ip.0 % 256;
      fit = (omega arith, omega arith, omega arith, omega arith);
      value = refl;
      spelled = refl;
    }

pub ip_text_octets : (text octets : List ℕ) (ip : Ip) → ip.0 < 2 ^ 32 → text ≡ ip_spelling ip → IsDotted text octets → octets ≡ ip.0 / 2 ^ 24 ∷ ip.0 / 2 ^ 16 % 256 ∷ ip.0 / 2 ^ 8 % 256 ∷ ip.0 % 256 ∷ []
ip_text_octets text octets ip h e d =
    let own = subst (λ (t : List ℕ). IsDotted t (ip.0 / 2 ^ 24 ∷ ip.0 / 2 ^ 16 % 256 ∷ ip.0 / 2 ^ 8 % 256 ∷ ip.0 % 256 ∷ [])) (sym e) (ip_dotted ip h) in
    (same_parts _ _ _ _ (sym (read_ipv4_complete text _ [] d (lit≤ tt)) ∙ read_ipv4_complete text _ [] own (lit≤ tt))).0

same_number : (x y : ℕ) → x / 2 ^ 24 ≡ y / 2 ^ 24 → x / 2 ^ 16 % 256 ≡ y / 2 ^ 16 % 256 → x / 2 ^ 8 % 256 ≡ y / 2 ^ 8 % 256 → x % 256 ≡ y % 256 → x ≡ y
same_number x y a b c d = omega arith

pub ip_once : (x y : Ip) → x.0 < 2 ^ 32 → y.0 < 2 ^ 32 → ip_spelling x ≡ ip_spelling y → x ≡ y
ip_once x y h k e =
    let same = ip_text_octets (ip_spelling x) _ y k e (ip_dotted x h) in
    let first : x.0 / 2 ^ 24 ≡ y.0 / 2 ^ 24 = cc in
    let second : x.0 / 2 ^ 16 % 256 ≡ y.0 / 2 ^ 16 % 256 = cc in
    let third : x.0 / 2 ^ 8 % 256 ≡ y.0 / 2 ^ 8 % 256 = cc in
    let fourth : x.0 % 256 ≡ y.0 % 256 = cc in
    let number = same_number x.0 y.0 first second third fourth in
    λ i. record { 0 = number i }

-- a hardware address has one spelling
hex_once : (a b : ℕ) → hex_digit a ≡ hex_digit b → a < 16 → b < 16 → a ≡ b
hex_once a b e ha hb =
    elim (cases_lt a 10) [
      | inl la ↦ elim (cases_lt b 10) [
        | inl lb ↦ let x = hex_low a la in let y = hex_low b lb in omega arith
        | inr gb ↦ let x = hex_low a la in let y = hex_high b gb in omega arith
      ]
      | inr ga ↦ elim (cases_lt b 10) [
        | inl lb ↦ let x = hex_high a ga in let y = hex_low b lb in omega arith
        | inr gb ↦ let x = hex_high a ga in let y = hex_high b gb in omega arith
      ]
    ]

octet_once : (a b : ℕ) → hex_octet a ≡ hex_octet b → a < 256 → b < 256 → a ≡ b
octet_once a b e ha hb =
    let highs : hex_digit (a / 16) ≡ hex_digit (b / 16) = cc in
    let lows : hex_digit (a % 16) ≡ hex_digit (b % 16) = cc in
    let high = hex_once (a / 16) (b / 16) highs (omega arith) (omega arith) in
    let low = hex_once (a % 16) (b % 16) lows (omega arith) (omega arith) in
    omega arith

octets_once : (xs ys : List ℕ) → length xs ≡ length ys → All (λ n. n < 256) xs → All (λ n. n < 256) ys → flat_map hex_octet xs ≡ flat_map hex_octet ys → xs ≡ ys
octets_once [] [] l h k e = refl
octets_once [] (y ∷ ys) l h k e = absurd (omega arith)
octets_once (x ∷ xs) [] l h k e = absurd (omega arith)
octets_once (x ∷ xs) (y ∷ ys) l h k e =
    let heads : hex_octet x ≡ hex_octet y = cc in
    let tails : flat_map hex_octet xs ≡ flat_map hex_octet ys = cc in
    let head = octet_once x y heads (All-head (λ n. n < 256) x xs h) (All-head (λ n. n < 256) y ys k) in
    let tail = octets_once xs ys (omega arith) (All-tail (λ n. n < 256) x xs h) (All-tail (λ n. n < 256) y ys k) tails in
    cc

pub mac_once : (x y : Mac) → IsMac x → IsMac y → mac_spelling x ≡ mac_spelling y → x ≡ y
mac_once x y h k e =
    let octets = octets_once x.0 y.0 (h.six ∙ sym k.six) h.octets k.octets e in λ i. record { 0 = octets i }

length_octets : (xs : List ℕ) → length (flat_map hex_octet xs) ≡ 2 * length xs
length_octets [] = refl
length_octets (x ∷ xs) = let more = length_octets xs in omega arith

pub mac_length : (word : List ℕ) (mac : Mac) → IsMac mac → word ≡ mac_spelling mac → length word ≡ 12
mac_length word mac h is = let n = length_octets mac.0 in let six = h.six in let same = ap length is in omega arith

-- the k-th octet of a hardware address stands in two digits
octet_at : (xs : List ℕ) (k i : ℕ) → k < length xs → i ≡ k + k → get_or (flat_map hex_octet xs) i 0 ∷ get_or (flat_map hex_octet xs) (suc i) 0 ∷ [] ≡ hex_octet (get_or xs k 0)
octet_at [] k i h e = absurd (omega arith)
octet_at (x ∷ xs) zero zero h e = refl
octet_at (x ∷ xs) zero (suc i) h e = absurd (omega arith)
octet_at (x ∷ xs) (suc k) zero h e = absurd (omega arith)
octet_at (x ∷ xs) (suc k) (suc zero) h e = absurd (omega arith)
octet_at (x ∷ xs) (suc k) (suc (suc i)) h e = octet_at xs k i (omega arith) (omega arith)

pub mac_octet : (word : List ℕ) (mac : Mac) → IsMac mac → word ≡ mac_spelling mac → (k i j : ℕ) → k < 6 → i ≡ k + k → j ≡ suc i → (n : ℕ) × (n < 256) × (get_or word i 0 ∷ get_or word j 0 ∷ [] ≡ hex_octet n)
mac_octet word mac h is k i j lt ei ej =
    let six = h.six in
    let within : k < length mac.0 = omega arith in
    let moved : get_or word i 0 ∷ get_or word (suc i) 0 ∷ [] ≡ hex_octet (get_or mac.0 k 0) = ap (λ (t : List ℕ). get_or t i 0 ∷ get_or t (suc i) 0 ∷ []) is ∙ octet_at mac.0 k i within ei in
    (get_or mac.0 k 0, h.octets k 0 within, subst (λ (q : ℕ). get_or word i 0 ∷ get_or word q 0 ∷ [] ≡ hex_octet (get_or mac.0 k 0)) (sym ej) moved)

-- two digits of a word are an octet
abbrev pub TwoAt : List ℕ → ℕ → ℕ → ℕ → Type 0
TwoAt word i j n = (n < 256) × (get_or word i 0 ∷ get_or word j 0 ∷ [] ≡ hex_octet n)

small_six : (a b c d e f : ℕ) → a < 256 → b < 256 → c < 256 → d < 256 → e < 256 → f < 256 → All (λ n. n < 256) (a ∷ b ∷ c ∷ d ∷ e ∷ f ∷ [])
small_six a b c d e f ha hb hc hd he hf =
    All-cons (λ n. n < 256) a (b ∷ c ∷ d ∷ e ∷ f ∷ []) ha
    (All-cons (λ n. n < 256) b (c ∷ d ∷ e ∷ f ∷ []) hb
    (All-cons (λ n. n < 256) c (d ∷ e ∷ f ∷ []) hc
    (All-cons (λ n. n < 256) d (e ∷ f ∷ []) hd
    (All-cons (λ n. n < 256) e (f ∷ []) he
    (All-cons (λ n. n < 256) f [] hf (λ k x h. absurd (omega arith)))))))

pub mac_of_octets : (word : List ℕ) (a b c d e f : ℕ) → length word ≡ 12 → TwoAt word 0 1 a → TwoAt word 2 3 b → TwoAt word 4 5 c → TwoAt word 6 7 d → TwoAt word 8 9 e → TwoAt word 10 11 f → IsMac (record { 0 = a ∷ b ∷ c ∷ d ∷ e ∷ f ∷ [] }) × (word ≡ mac_spelling (record { 0 = a ∷ b ∷ c ∷ d ∷ e ∷ f ∷ [] }))
mac_of_octets word a b c d e f n ha hb hc hd he hf =
    let xa = ha.1 in let xb = hb.1 in let xc = hc.1 in let xd = hd.1 in let xe = he.1 in let xf = hf.1 in (
      record { six = refl; octets = small_six a b c d e f ha.0 hb.0 hc.0 hd.0 he.0 hf.0 },
      text_from_reads word (flat_map hex_octet (a ∷ b ∷ c ∷ d ∷ e ∷ f ∷ [])) n
          (cc, (cc, (cc, (cc, (cc, (cc, (cc, (cc, (cc, (cc, (cc, (cc, tt)))))))))))),
    )
