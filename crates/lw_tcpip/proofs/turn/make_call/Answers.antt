use Rattle.std.proofs.Common.{ap, sym, ◌∙◌, subst}
use Rattle.hist_lock.specs.Histories.{made_by}
use Rattle.hist_lock.specs.Callers.{Known}
use Rattle.lw_tcpip.specs.Replies.{IsAnswer}
use Rattle.lw_tcpip.proofs.Lists.{prefix_trans}
use Rattle.lw_tcpip.proofs.Served.{answer_from, call_goes_on, heard_by}
use Rattle.lw_tcpip.proofs.turn.make_call.Goals as goal

pub returns-clause-answer : goal.returns-clause-answer
returns-clause-answer g c = let first = c.learn.ensures in let call = c.call-result.ensures in
    subst (λ (k : Known g.row.O.Denot g.row.O-Entry.Denot). IsAnswer g.O.Serial.state g.O.Serial.tag g.O.Serial.by g.O.Serial.same g.O.Serial.tells g.O.Serial.steps c.args.lock.now.start c.args.caller c.args.event k c.call-result.result) (sym c.learn-2.ensures.other)
    (answer_from g.O.Serial.state g.O.Serial.tag g.O.Serial.by g.O.Serial.same g.O.Serial.tells g.O.Serial.steps c.args.lock.now.start c.args.caller c.learn.new.who c.call-result.new.who c.args.event c.call-result.result _ first.who first.both.0 call.same call.ok call.err call.history)

pub returns-clause-heard : goal.returns-clause-heard
returns-clause-heard g c = let first = c.learn.ensures in let call = c.call-result.ensures in let second = c.learn-2.ensures in
    ap (λ (k : Known g.row.O.Denot g.row.O-Entry.Denot). made_by g.O.Serial.by c.args.server.now.number k.seen) second.other ∙
    heard_by g.O.Serial.by c.args.server.now c.learn.new.other c.call-result.new.who c.learn-2.new.who first.other second.who
    (prefix_trans c.args.server.now.seen c.learn.new.who.seen c.call-result.new.who.seen first.both.1 (call_goes_on g.O.Serial.state g.O.Serial.tag g.O.Serial.by g.O.Serial.same g.O.Serial.tells g.O.Serial.steps (g.O.Serial.tells (g.O.Serial.tag c.args.lock.now.start)) c.learn.new.who c.call-result.new.who c.args.event c.call-result.result call.ok call.err)) second.history.1
