use Rattle.std.proofs.Common.{ℕ, ◌++◌, ◌∙◌, List, ap, sym, append_assoc, rules}
use Rattle.lw_link.proofs.BodyLaws.{range_of_both}
use Rattle.lw_link.proofs.body.Body.write.Goals as goal

pub returns : goal.returns
returns c =
    let front : List ℕ = c.self.inside.front.now in
    let rest : List ℕ = c.self.inside.rest.now in
    let parts = range_of_both c.args.from c.args.len c.max-begun.result c.saturating_sub-left.result front rest (search rules) (search rules) in
    c.in_ok-extend_from_slice-2.ensures.items
    ∙ rw (c.in_ok-extend_from_slice.ensures.items, c.range.ensures, c.range-2.ensures, ← c.self.view_is)
    (append_assoc c.args.out.now.items _ _ ∙ ap (λ (l : List ℕ). c.args.out.now.items ++ l) (sym parts))
