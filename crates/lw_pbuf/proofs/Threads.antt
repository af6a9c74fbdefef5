-- What the tests with threads need.
use Rattle.std.proofs.Common.{◌≡◌, ℕ, zero, suc, ◌<◌, Bool, true, false, refl, arith}

-- where rows would say that a kind is not counted, which it is, there are none
pub no_rows : (n : ℕ) (b : Bool) (A : Type 0) → (0 < n → A × (b ≡ false)) → b ≡ true → n ≡ 0
no_rows zero b A f e = refl
no_rows (suc n) b A f e = absurd (let a = (f (omega arith)).1 in cc)
