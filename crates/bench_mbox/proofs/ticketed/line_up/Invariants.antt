use Rattle.std.proofs.Common.{◌≡◌, ◌+◌, All}
use Rattle.lw_mbox.specs.Tokens.{IsOf}
use Rattle.bench_mbox.proofs.ticketed.line_up.Given as goal

abbrev pub invariant-loop-index : goal.invariant-loop-index
invariant-loop-index l = IsOf l.mbox l.last.board l.last.key × (l.last.parts + l.index ≡ 256) × All (λ t. IsOf l.mbox t.board t.key) l.others.items
