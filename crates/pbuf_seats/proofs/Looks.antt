-- Looks at the pbufs one after another.
use Rattle.std.proofs.Common.{◌≡◌, ℕ, suc, ◌+◌, ◌≤◌, Bool, true, false, cond, eqb, List, [], ◌∷◌, ◌++◌, length, refl, sym, ap, ◌∙◌, arith, length-append}
use mir.Val.{bool_byte}
use Rattle.std.proofs.lemmas.List.Sums.{sum_by_push}
use Rattle.pbuf_counts.specs.Holders.{Known, finds}
use Rattle.pbuf_seats.specs.Seats.{IsLookedOver, after_looks}

after_looks-push : (i : ℕ) (cs : List ℕ) (c : ℕ) (found : List (ℕ × ℕ)) → after_looks i (cs ++ c ∷ []) found ≡ (i + length cs, c) ∷ after_looks i cs found
after_looks-push i [] c found = λ k. (let e : i ≡ i + 0 = omega arith in e k, c) ∷ found
after_looks-push i (x ∷ cs) c found = after_looks-push (suc i) cs c ((i, x) ∷ found) ∙ (λ k. (let e : suc i + length cs ≡ i + suc (length cs) = omega arith in e k, c) ∷ after_looks (suc i) cs ((i, x) ∷ found))

pub one_more : (h k k' : Known) (m n c n' : ℕ) → IsLookedOver h k m n → k' ≡ finds m c k → n' ≡ n + cond (eqb c 0) 1 0 → IsLookedOver h k' (m + 1) n'
one_more h k k' m n c n' l is more = record {
  counts = l.counts ++ c ∷ [];
  all = let a = l.all in let b = length-append l.counts (c ∷ []) in omega arith;
  found = is ∙ (ap (finds m c) l.found ∙ (λ i. record h { found = (let e : (m, c) ∷ after_looks 0 l.counts h.found ≡ after_looks 0 (l.counts ++ c ∷ []) h.found = (λ j. (let a = l.all in let q : m ≡ 0 + length l.counts = omega arith in q j, c) ∷ after_looks 0 l.counts h.found) ∙ sym (after_looks-push 0 l.counts c h.found) in e i) }));
  free = let a = l.free in let b = sum_by_push (λ (x : ℕ). cond (eqb x 0) 1 0) l.counts c in omega arith;
}

pub bit : (b : Bool) → bool_byte b ≡ cond b 1 0
bit true = refl
bit false = refl

pub bit_small : (b : Bool) → bool_byte b ≤ 1
bit_small true = omega arith
bit_small false = omega arith
