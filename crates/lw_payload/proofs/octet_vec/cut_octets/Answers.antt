use Rattle.std.proofs.Common.{◌≡◌, ◌-◌, ◌++◌, List, ℕ, length, take, drop, arith}
use Rattle.std.proofs.Math.Seq.{take-append_seam}
use Rattle.std.proofs.lemmas.List.{length-drop}
use Rattle.lw_payload.proofs.octet_vec.cut_octets.Goals as goal

-- what stands in front after octets were turned round
turned : (n m : ℕ) (xs ys zs : List ℕ) → m ≡ length xs - n → ys ≡ drop n xs ++ take n xs → zs ≡ take m ys → zs ≡ drop n xs
turned n m xs ys zs e f g =
    let l : m ≡ length (drop n xs) = omega (arith, length-drop n xs) in
    rw (g, f, l) (take-append_seam (drop n xs) (take n xs))

pub returns-clause-items : goal.returns-clause-items
returns-clause-items c =
    turned c.args.n _ c.args.octets.now.items c.rotate_left.new.self.items _ (omega arith) c.rotate_left.ensures.items c.truncate.ensures.items
