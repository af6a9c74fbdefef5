-- The event word as one number, and its flags.
use Rattle.std.proofs.Common.{◌≡◌, ◌≢◌, ℕ, ◌+◌, ◌-◌, ◌*◌, ◌/◌, ◌%◌, ◌^◌, ◌<◌, Bool, true, false, cond, eqb, sym, refl, ap, ◌∙◌, arith, bit_and, bit_or, ne_eqb, eq-eqb, ⊎_elim, w8}
use Rattle.std.proofs.lemmas.Bool.{cases_eq}
use Rattle.std.specs.Int.{bit_at}
use Rattle.std.proofs.lemmas.Nat.Bits.{bit_at_or, bit_at_and, bit_at_not, bit_at-pow_same, bit_at-pow_other, bit_at-lt}
use lib.Bits.{or_block, and_block, or_zero_r, and_mask, or_lt, and_le_l}
use Rattle.lw_base.specs.declared.event_word.Flag.{Flag}
use Rattle.lw_base.specs.declared.event_word.Flag.TheVariants.{Writable, Rest, Ended, Fault, Closed, Listen, Idle}
use Rattle.lw_base.specs.EventWord.{place_of, bit_of, is_set}
use Rattle.lw_mbox.specs.Changes.{flag_at, is_same}
use Rattle.lw_mbox.specs.Rule.{coded, word_of}

pub word_coded : (p c f : ℕ) → c < 268435456 → f < 256 → word_of (coded p c f) ≡ record { posted = p; claimed = c; flags = f }
word_coded p c f small narrow = let n : ℕ = coded p c f in let a : n / 68719476736 ≡ p = omega arith in let b : n / 256 % 268435456 ≡ c = omega arith in let d : n % 256 ≡ f = omega arith in
    λ i. record { posted = a i; claimed = b i; flags = d i }

pub or_coded : (p c f b : ℕ) → f < 256 → b < 256 → bit_or (coded p c f) b ≡ coded p c (bit_or f b)
or_coded p c f b nf nb = let a : ℕ = p * 268435456 + c in let e : coded p c f ≡ a * 256 + f = omega arith in let z : b ≡ 0 * 256 + b = omega arith in
    ap (λ (x : ℕ). bit_or x b) e ∙ ap (bit_or (a * 256 + f)) z ∙ or_block 8 a 0 f b nf nb ∙ ap (λ (x : ℕ). x * 256 + bit_or f b) (or_zero_r a) ∙ (let g : a * 256 + bit_or f b ≡ coded p c (bit_or f b) = omega arith in g)

pub and_coded : (p c f b : ℕ) → p < 268435456 → c < 268435456 → f < 256 → b < 256 → bit_and (coded p c f) (18446744073709551615 - b) ≡ coded p c (bit_and f (255 - b))
and_coded p c f b np nc nf nb = let a : ℕ = p * 268435456 + c in let e : coded p c f ≡ a * 256 + f = omega arith in let z : 18446744073709551615 - b ≡ 72057594037927935 * 256 + (255 - b) = omega arith in
    let m : bit_and a 72057594037927935 ≡ a = and_mask a 56 ∙ (let g : a % 72057594037927936 ≡ a = omega arith in g) in
    ap (λ (x : ℕ). bit_and x (18446744073709551615 - b)) e ∙ ap (bit_and (a * 256 + f)) z ∙ and_block 8 a 72057594037927935 f (255 - b) nf (omega arith) ∙ ap (λ (x : ℕ). x * 256 + bit_and f (255 - b)) m
    ∙ (let g : a * 256 + bit_and f (255 - b) ≡ coded p c (bit_and f (255 - b)) = omega arith in g)

pub place_small : (f : Flag) → place_of f < 8
place_small Writable = omega arith
place_small Rest = omega arith
place_small Ended = omega arith
place_small Fault = omega arith
place_small Closed = omega arith
place_small Listen = omega arith
place_small Idle = omega arith

pub bit_small : (f : Flag) → (0 < bit_of f) × (bit_of f < 256)
bit_small Writable = (omega arith, omega arith)
bit_small Rest = (omega arith, omega arith)
bit_small Ended = (omega arith, omega arith)
bit_small Fault = (omega arith, omega arith)
bit_small Closed = (omega arith, omega arith)
bit_small Listen = (omega arith, omega arith)
bit_small Idle = (omega arith, omega arith)

pub flag_at-bit : (f : Flag) → flag_at (bit_of f) ≡ f
flag_at-bit Writable = refl
flag_at-bit Rest = refl
flag_at-bit Ended = refl
flag_at-bit Fault = refl
flag_at-bit Closed = refl
flag_at-bit Listen = refl
flag_at-bit Idle = refl

pub other_flag : (f g : Flag) → f ≢ g → is_same f g ≡ false
other_flag f g n = ne_eqb (place_of f) (place_of g) (λ e. n (sym (flag_at-bit f) ∙ ap (λ (k : ℕ). flag_at (2 ^ k)) e ∙ flag_at-bit g))

-- the flag f after the flag g was set, or cleared
pub set_flag : (f g : Flag) (flags : ℕ) → is_set f (bit_or flags (bit_of g)) ≡ cond (is_same f g) true (is_set f flags)
set_flag f g flags = let p : ℕ = place_of f in let q : ℕ = place_of g in let m = bit_at_or flags (2 ^ q) p in let low : bit_at flags p < 2 = bit_at-lt flags p in
    ⊎_elim (λ (e : p ≡ q). let one : bit_at (2 ^ q) p ≡ 1 = ap (bit_at (2 ^ q)) e ∙ bit_at-pow_same q in
    eq-eqb (bit_at (bit_or flags (2 ^ q)) p) 1 (omega arith) ∙ sym (ap (λ (b : Bool). cond b true (is_set f flags)) (eq-eqb p q e)))
    (λ (n : p ≢ q). let none : bit_at (2 ^ q) p ≡ 0 = bit_at-pow_other q p n in let same : bit_at (bit_or flags (2 ^ q)) p ≡ bit_at flags p = omega arith in
    ap (λ (x : ℕ). eqb x 1) same ∙ sym (ap (λ (b : Bool). cond b true (is_set f flags)) (ne_eqb p q n))) (cases_eq p q)

pub clear_flag : (f g : Flag) (flags : ℕ) → is_set f (bit_and flags (255 - bit_of g)) ≡ cond (is_same f g) false (is_set f flags)
clear_flag f g flags = let p : ℕ = place_of f in let q : ℕ = place_of g in let m = bit_at_and flags (255 - 2 ^ q) p in let low : bit_at flags p < 2 = bit_at-lt flags p in
    let small = bit_small g in let small₁ = small.1 in let k : bit_at (255 - 2 ^ q) p ≡ 1 - bit_at (2 ^ q) p = bit_at_not w8 (2 ^ q) p small₁ (place_small f) in
    ⊎_elim (λ (e : p ≡ q). let one : bit_at (2 ^ q) p ≡ 1 = ap (bit_at (2 ^ q)) e ∙ bit_at-pow_same q in
    ne_eqb (bit_at (bit_and flags (255 - 2 ^ q)) p) 1 (λ z. omega arith) ∙ sym (ap (λ (b : Bool). cond b false (is_set f flags)) (eq-eqb p q e)))
    (λ (n : p ≢ q). let none : bit_at (2 ^ q) p ≡ 0 = bit_at-pow_other q p n in let same : bit_at (bit_and flags (255 - 2 ^ q)) p ≡ bit_at flags p = omega arith in
    ap (λ (x : ℕ). eqb x 1) same ∙ sym (ap (λ (b : Bool). cond b false (is_set f flags)) (ne_eqb p q n))) (cases_eq p q)

pub or_narrow : (f b : ℕ) → f < 256 → b < 256 → bit_or f b < 256
or_narrow f b x y = or_lt 8 f b x y

pub and_narrow : (f b : ℕ) → f < 256 → bit_and f b < 256
and_narrow f b x = let h = and_le_l f b in omega arith
