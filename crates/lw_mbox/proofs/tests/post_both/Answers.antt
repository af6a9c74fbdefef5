use Rattle.std.proofs.Common.{ℕ, ◌+◌, List, [], ◌∷◌, ap, ◌∙◌, arith}
use Rattle.lw_mbox.specs.Changes.{posted}
use Rattle.lw_mbox.specs.Tokens.{Desk}
use Rattle.lw_mbox.proofs.Places.{place_found}
use Rattle.lw_mbox.proofs.PosterSteps.{posted_post}
use Rattle.lw_mbox.proofs.tests.post_both.Goals as goal

abbrev count : Desk ℕ ℕ → ℕ
count d = posted d.changes

abbrev found : Desk ℕ ℕ → List ℕ
found d = d.marks

pub post-before-requires-clause-place : goal.post-before-requires-clause-place
post-before-requires-clause-place c = let a = c.in_ok-has_place.ensures in let b = c.in_ok-has_place-2.ensures in let a₁ = ap count a.1 in let b₁ = ap count b.1 in
    place_found c.args.mbox.now.capacity 0 c.args.poster.now c.has_place.new.self c.has_place-2.new.self _ ((posted c.has_place.new.self.changes + 1) ∷ []) a (ap found b.1) (omega arith)

pub post-requires-clause-place : goal.post-requires-clause-place
post-requires-clause-place c = let a = c.in_ok-has_place.ensures in let b = c.in_ok-has_place-2.ensures in let p = c.post-before.ensures in let a₁ = ap count a.1 in let b₁ = ap count b.1 in
    let p₁ = ap count p.after ∙ posted_post c.has_place-2.new.self.changes c.args.first in let both = ap count b.1 in
    place_found c.args.mbox.now.capacity 1 c.has_place.new.self c.has_place-2.new.self c.post-before.new.self _ (c.post-before.result ∷ []) b (ap found p.after) (omega arith)
