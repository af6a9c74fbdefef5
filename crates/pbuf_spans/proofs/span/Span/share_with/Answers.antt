use Rattle.std.proofs.Common.{arith}
use Rattle.pbuf_spans.proofs.Sharing.{between_joined, between_shared, between_may, between_count, whole_share}
use Rattle.pbuf_spans.proofs.span.Span.share_with.Goals as goal

pub second-requires : goal.second-requires
second-requires c =
    let now = c.look_through.ensures.shared in
    record {
      window = between_joined c.args.self.now c.look_through.new.self now c.args.twin.second.octets c.requires.twin.second;
      shared = between_shared c.args.self.now c.look_through.new.self now;
      may = between_may c.args.self.now c.look_through.new.self now c.args.seat.now c.look_through.new.seat c.look_through.ensures.same c.requires.may;
      none = c.requires.twin.none;
      room = let n = between_count c.args.self.now c.look_through.new.self now in let r = c.requires.twin.room in omega arith;
    }

pub returns-clause-shared : goal.returns-clause-shared
returns-clause-shared c = whole_share c.args.self.now c.look_through.new.self c.look_through.ensures.shared c.args.hands c.second.new.self c.second.result c.second.ensures
