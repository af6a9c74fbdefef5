use Rattle.std.proofs.Common.{◌∙◌, ◌++◌, List, ℕ, Option, Some, ap, drop, sym}
use Rattle.std.specs.Option.{option_map}
use Rattle.lw_icmp.specs.Messages.{echo_reply}
use Rattle.lw_input.proofs.InputLaws.{sends-as}
use Rattle.lw_input.proofs.input.echo_input.Goals as goal

pub returns-in-Some-clause-exact : goal.returns-in-Some-clause-exact
returns-in-Some-clause-exact g c =
    let body = c.args.body.now in
    sends-as c.icmp_output.result c.args.netif.now c.args.table.now c.args.plan.now c.icmp_output.new.plan c.args.src (Some c.new.result) (echo_reply body)
    (ap Some (c.new.ensures ∙ ap (λ (xs : List ℕ). c.in-Some.front ++ xs) c.split_at.ensures.back) ∙ ap (λ (o : Option (List ℕ)). option_map (λ front. front ++ drop 8 body) o) (sym c.in-Some.is) ∙ c.echo_answer.ensures.exact) c.icmp_output.ensures.exact
