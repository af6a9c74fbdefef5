use Rattle.std.proofs.Common.{◌∙◌, ◌++◌, List, ℕ, Some, ap, append-nil}
use Rattle.lw_icmp.specs.Messages.{unreachable}
use Rattle.lw_input.proofs.InputLaws.{sends-as}
use Rattle.lw_input.proofs.input.refuse.Goals as goal

pub returns-clause-exact : goal.returns-clause-exact
returns-clause-exact g c =
    sends-as c.icmp_output.result c.args.netif.now c.args.table.now c.args.plan.now c.icmp_output.new.plan c.args.src (Some c.new.result) (Some (unreachable c.args.code c.args.header.now c.args.body.now))
    (ap Some (c.new.ensures ∙ append-nil c.deref.result.now ∙ c.deref.ensures.value ∙ c.in_ok-unreachable.ensures.ok ∙ ap (λ (xs : List ℕ). xs ++ unreachable c.args.code c.args.header.now c.args.body.now) c.new-message.ensures.items)) c.icmp_output.ensures.exact
