use Rattle.std.proofs.Common.{length, ap, ◌∙◌, arith}
use Rattle.std.specs.Prelude.{slice_range}
use Rattle.pbuf_spans.specs.Spans.{octets_of, is_own}
use Rattle.pbuf_spans.proofs.Spans.{length-parts_of}
use Rattle.pbuf_spans.proofs.Sharing.{between_joined, between_shared, between_may, between_count, whole_share}
use Rattle.pbuf_spans.proofs.span.Span.share.Goals as goal

pub second-requires : goal.second-requires
second-requires c =
    let s = c.self.inside in
    let now = c.in_ok-window.ensures.shared in
    record {
      window = between_joined c.args.self.now c.second_window.new.self now c.in_ok-window.window.octets c.in_ok-window.ensures.window;
      shared = between_shared c.args.self.now c.second_window.new.self now;
      may = between_may c.args.self.now c.second_window.new.self now c.args.seat.now c.second_window.new.seat (c.in_ok-window.ensures.same ∙ c.in_ok-pbufs.ensures.same) c.requires;
      none = c.in_ok-pbufs.ensures.list.0;
      room = let n = between_count c.args.self.now c.second_window.new.self now in let r = c.in_ok-pbufs.ensures.list.1 in let l = c.len.ensures in let v = ap length c.self.view_is in
          let p = length-parts_of (is_own s.body) (slice_range (octets_of s.body) s.from s.to) s.pbufs.items in omega arith;
    }

pub returns-clause-shared : goal.returns-clause-shared
returns-clause-shared c = whole_share c.args.self.now c.second_window.new.self c.in_ok-window.ensures.shared c.args.hands c.second.new.self c.second.result c.second.ensures
