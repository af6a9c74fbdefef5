use Rattle.lw_layers.proofs.CutLaws.{cut_both}
use Rattle.lw_layers.proofs.change.cut_to.Goals as goal

pub returns : goal.returns
returns g c =
    cut_both (g.P.Payload.home_seen c.args.home.now) (g.P.Payload.home_seen c.cut_back.new.home) (g.P.Payload.home_seen c.cut_front.new.home)
    (g.P.Payload.seen c.args.payload.now) (g.P.Payload.seen c.cut_back.new.self) (g.P.Payload.seen c.cut_front.new.self)
    c.args.from c.args.to c.len.result c.len.ensures c.requires.order c.requires.within c.cut_back.ensures c.cut_front.ensures
