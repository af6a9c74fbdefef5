-- What the side that takes replies out knows as it takes one more.
use Rattle.std.proofs.Common.{◌≡◌, ℕ, ◌+◌, List, [], ◌∷◌, ◌++◌, length, length-append, ap, ◌∙◌, arith}
use Rattle.tcpip_mbox.specs.declared.view.Letter.{Letter}
use Rattle.tcpip_mbox.specs.Letters.{sent_by}
use Rattle.tcpip_mbox.specs.Tokens.{letter}
use Rattle.tcpip_mbox.proofs.Letters.{sent_by-same}

pub one_more : {M : Type 0} (n : ℕ) (m : M) (xs ys : List (Letter M)) → n ≡ 0 → ys ≡ xs ++ letter n m ∷ [] → length (sent_by 0 ys) ≡ length (sent_by 0 xs) + 1
one_more {M} n m xs ys is e = let now : sent_by 0 ys ≡ sent_by 0 xs ++ m ∷ [] = ap (λ (l : List (Letter M)). sent_by 0 l) e ∙ sent_by-same 0 xs (letter n m) is in
    let count = ap length now in omega (arith, length-append (sent_by 0 xs) (m ∷ []))
