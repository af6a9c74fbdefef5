use Rattle.std.proofs.Common.{◌≡◌, false}
use Rattle.lw_base.specs.declared.event_word.Flag.TheVariants.{Closed}
use Rattle.lw_mbox.specs.Changes.{is_on}
use Rattle.lw_mbox.specs.Tokens.{IsOf}
use Rattle.bench_mbox.proofs.ticketed.post_all.Given as goal

abbrev pub invariant-loop-item : goal.invariant-loop-item
invariant-loop-item l = IsOf l.mbox l.poster.board l.poster.key × (is_on Closed l.poster.changes ≡ false)
