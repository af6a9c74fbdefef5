use Rattle.lw_core.proofs.WaitLaws.{entry_moves, entry_owned}
use Rattle.lw_core.proofs.step.spend_waiting.Goals as goal

pub spend_if-requires : goal.spend_if-requires
spend_if-requires g c =
    record { owned = entry_owned g.P.Payload.seen (g.P.Payload.home_seen c.args.home.now) (g.P.Payload.home_seen c.loop-entry.home) c.args.entries.items c.loop-entry.entry-iterator.rest.items c.next.new.self.rest.items c.in-Some.entry c.in-Some.ensures.steps.0 c.requires.owned c.loop-entry.invariant.moves }

pub loop-entry-preserved : goal.loop-entry-preserved
loop-entry-preserved g c = record {
  moves = entry_moves g.P.Payload.seen (g.P.Payload.home_seen c.args.home.now) (g.P.Payload.home_seen c.loop-entry.home) (g.P.Payload.home_seen c.spend_if.new.home) c.args.entries.items c.loop-entry.entry-iterator.rest.items c.next.new.self.rest.items c.in-Some.entry
      c.in-Some.ensures.steps.0 c.loop-entry.invariant.moves c.spend_if.ensures.moves;
}
