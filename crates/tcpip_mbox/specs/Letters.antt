-- Letters: messages, each with the number of the Put that put it in.
use Rattle.std.specs.Prelude.{◌≡◌, ℕ, ◌+◌, ◌==◌, cond, All, List, [], ◌∷◌, ◌++◌}
use Rattle.tcpip_mbox.specs.declared.view.Letter.{Letter}
use Rattle.tcpip_mbox.specs.declared.view.Returned.{Returned}

module _ {M : Type 0} where
  -- the messages of the Put n, in their order
  abbrev pub sent_by : ℕ → List (Letter M) → List M
  sent_by n [] = []
  sent_by n (x ∷ xs) = cond (x.from == n) (x.message ∷ sent_by n xs) (sent_by n xs)

  -- each letter's message fits its Put and what this Put put in before, where some letters came first
  abbrev pub Fitting : (ℕ → List M → M → Type 0) → List (Letter M) → List (Letter M) → Type 0
  Fitting fits before [] = Unit {0}
  Fitting fits before (x ∷ xs) = fits x.from (sent_by x.from before) x.message × Fitting fits (before ++ x ∷ []) xs

  -- how many of these Puts have the number n
  abbrev pub returns : ℕ → List (Returned M) → ℕ
  returns n [] = 0
  returns n (b ∷ bs) = cond (b.number == n) 1 0 + returns n bs

  -- all that each of these Puts put in is among the letters, in its order, and nothing else of it
  abbrev pub AllOf : List (Letter M) → List (Returned M) → Type 0
  AllOf letters back = All (λ b. sent_by b.number letters ≡ b.sent) back
