use Rattle.std.proofs.Common.{ℕ, List, subst, sym}
use Rattle.lw_outside.proofs.WriteLaws.{WrittenSoFar, written_more}
use Rattle.lw_outside.proofs.writing.write_all.Goals as goal

pub loop-rest-preserved : goal.loop-rest-preserved
loop-rest-preserved g c =
    let seen = g.K.Sink.seen in
    let so_far =
    written_more (seen c.args.sink.now) (seen c.loop-rest.sink) (seen c.write.new.self) c.args.octets.now c.loop-rest.rest.now c.in_ok-count.count
    c.loop-rest.invariant c.in_ok-count.ensures.took c.in_ok-count.ensures.cause.later in
    let family = λ (rest : List ℕ). WrittenSoFar (seen c.args.sink.now) (seen c.write.new.self) c.args.octets.now rest in
    subst family (sym c.split_at.ensures.back) so_far
