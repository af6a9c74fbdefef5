use Rattle.std.proofs.Common.{ap, ◌∙◌}
use Rattle.pbuf_spans.proofs.Cutting.{rest_seen}
use Rattle.pbuf_spans.proofs.span.Span.split_first.Goals as goal

pub returns-clause-rest : goal.returns-clause-rest
returns-clause-rest c =
    let s = c.self.inside in
    rest_seen s.body c.replace.result s.from s.to s.pbufs.items c.replace-2.result.items c.args.self.now c.index.result.now c.self.invariant c.self.view_is c.index.ensures c.replace.ensures.value
    (ap (λ (v : _). v.items) c.replace-2.ensures.value ∙ c.remove.ensures.items)
