use Rattle.std.proofs.Common.{◌≡◌, ◌<◌}
use Rattle.pbuf_counts.specs.Owners.{whole}
use Rattle.pbuf_counts.proofs.tests.of_two_drops_at_once_one_is_the_last.Given as goal

abbrev pub invariant-loop : goal.invariant-loop
invariant-loop g l = let t = l.counts-inside.table.shared.table_id in (l.first.table ≡ t) × (l.first.owners ≡ 0) × (l.first.rights ≡ 1) × (l.first.weight ≡ whole) × (0 < t.words)
