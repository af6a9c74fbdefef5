use Rattle.std.proofs.Common.{◌≡◌, ℕ, ◌*◌, ◌^◌, ◌<◌, eqb, nat_eq, ap, ◌∙◌, ⊎_elim, sym, arith, bit_and, eq-eqb, ne_eqb, not}
use Rattle.std.proofs.lemmas.Bool.{cases_eq}
use Rattle.std.proofs.lemmas.Nat.Bits.{and_pow, bit_at-lt}
use Rattle.std.specs.Int.{bit_at}
use Rattle.lw_base.specs.EventWord.{place_of}
use Rattle.lw_base.proofs.event_word.Word.has.Goals as goal
use lib.Pow.{pow_pos}

-- the bit k alone is not 0 where the bit is 1
masked : (n k : ℕ) → not (eqb (bit_and n (2 ^ k)) 0) ≡ eqb (bit_at n k) 1
masked n k = let b : ℕ = bit_at n k in let low : b < 2 = bit_at-lt n k in let is : bit_and n (2 ^ k) ≡ b * 2 ^ k = and_pow n k in
    ⊎_elim (λ (e : b ≡ 1). let t : bit_and n (2 ^ k) ≡ 2 ^ k = is ∙ (ap (λ (x : ℕ). x * 2 ^ k) e ∙ omega arith) in let p : 0 < 2 ^ k = pow_pos k in
    ap not (ne_eqb (bit_and n (2 ^ k)) 0 (λ z. omega arith)) ∙ sym (eq-eqb b 1 e))
    (λ ne. let z : b ≡ 0 = omega arith in ap not (eq-eqb (bit_and n (2 ^ k)) 0 (is ∙ (ap (λ (x : ℕ). x * 2 ^ k) z ∙ omega arith))) ∙ sym (ne_eqb b 1 ne)) (cases_eq b 1)

pub returns : goal.returns
returns c = ap (λ (m : ℕ). not (nat_eq (bit_and c.args.self.flags m) 0)) c.bit.ensures ∙ masked c.args.self.flags (place_of c.args.flag)
