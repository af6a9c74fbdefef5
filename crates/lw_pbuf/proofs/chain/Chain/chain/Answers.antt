use Rattle.std.proofs.Common.{false, ℕ, List, length, ap, arith}
use Rattle.pbuf_spans.specs.Parts.{Part, joined}
use Rattle.lw_pbuf.proofs.Homes.{joined_seconds}
use Rattle.lw_pbuf.proofs.Sharing.{is_chained}
use Rattle.lw_pbuf.proofs.chain.Chain.chain.Goals as goal

pub cat-requires-clause-short : goal.cat-requires-clause-short
cat-requires-clause-short c =
    let e = ap (λ (l : List Part). length (joined l)) c.in_ok-other.ensures.shared.second in
    let j = ap (λ (l : List ℕ). length l) (joined_seconds false c.args.tail.now.parts) in
    let s = c.requires.short in
    omega arith

pub returns-clause-chained : goal.returns-clause-chained
returns-clause-chained c = is_chained _ _ _ _ _ c.in_ok-other.ensures.shared c.cat.ensures.parts c.cat.ensures.table c.cat.ensures.room
