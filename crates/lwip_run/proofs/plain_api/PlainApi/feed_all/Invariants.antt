use Rattle.std.proofs.Common.{◌≡◌, length}
use Rattle.lwip_run.proofs.Feeding.{Feeding}
use Rattle.lwip_run.proofs.plain_api.PlainApi.feed_all.Given as goal

abbrev pub invariant-loop-octets : goal.invariant-loop-octets
invariant-loop-octets g l = record {
  fed : Feeding l.actor l.fn.self l.self l.fn.seen.items l.seen.items;
  counted : l.count ≡ length l.fn.self.left;
}

abbrev pub decreases-loop-octets : goal.decreases-loop-octets
decreases-loop-octets g l = length l.self.left
