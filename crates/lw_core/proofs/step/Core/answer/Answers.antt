use Rattle.std.proofs.Common.{◌≡◌, ◌∙◌, length, sym, ap, subst}
use Rattle.lw_layers.specs.Calls.{IsAsking}
use Rattle.lw_core.specs.Held.{CoreSeen}
use Rattle.lw_layers.specs.Layers.{state_of}
use Rattle.lw_layers.proofs.CallLaws.{answer_keeps}
use Rattle.lw_core.proofs.QuietLaws.{quiet_answer, quiet_sound}
use Rattle.lw_core.proofs.step.Core.answer.Goals as goal

pub returns-clause-ok : goal.returns-clause-ok
returns-clause-ok g c =
    quiet_answer g.P.Payload.seen c.self.inside.layers c.answer-reply.new.self c.args.self.now c.args.actor c.args.event c.answer-reply.result c.quiet.result c.self.view_is
    c.answer-reply.ensures.exact c.answer-reply.ensures.rest c.quiet.ensures

pub returns-clause-conns : goal.returns-clause-conns
returns-clause-conns g c =
    let asks = subst (λ (x : CoreSeen g.row.P.Denot). IsAsking x.state.limits c.args.event) (sym c.self.view_is) c.requires.asking in
    (answer_keeps c.self.inside.layers.limits (state_of g.P.Payload.seen c.self.inside.layers) c.args.event (c.answer-reply.result, c.answer-reply.new.self.endpoints) asks c.answer-reply.ensures.exact).0
    ∙ ap (λ (x : CoreSeen g.row.P.Denot). x.state.endpoints.conns) c.self.view_is

pub invariant_of-self : goal.invariant_of-self
invariant_of-self g c =
    let asks = subst (λ (x : CoreSeen g.row.P.Denot). IsAsking x.state.limits c.args.event) (sym c.self.view_is) c.requires.asking in
    quiet_sound g.P.Payload.seen c.self.inside.layers c.answer-reply.new.self c.answer-reply.ensures.rest
    (answer_keeps c.self.inside.layers.limits (state_of g.P.Payload.seen c.self.inside.layers) c.args.event (c.answer-reply.result, c.answer-reply.new.self.endpoints) asks c.answer-reply.ensures.exact).1 c.self.invariant
