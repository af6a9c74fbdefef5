use Rattle.pbuf_spans.proofs.Owning.{gives_back}
use Rattle.pbuf_spans.proofs.owners.give_up.Goals as goal

pub returns-clause-back : goal.returns-clause-back
returns-clause-back c = gives_back c.args.seat.now c.give_up.new.self c.args.pbuf.owner c.give_up.result c.give_up.ensures.gave
