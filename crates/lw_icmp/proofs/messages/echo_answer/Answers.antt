use Rattle.std.proofs.Common.{◌≡◌, ◌++◌, ℕ, List, drop, option_map, subst, sym, ap, ◌∙◌, arith}
use Rattle.lw_wire.specs.Fields.{AreOctets}
use Rattle.lw_wire.proofs.FieldsLaws.{octets_from}
use Rattle.lw_icmp.specs.Messages.{echo_reply}
use Rattle.lw_icmp.proofs.MessagesLaws.{request-answered, request-behind}
use Rattle.lw_icmp.proofs.messages.echo_answer.Goals as goal

pub returns-clause-same : goal.returns-clause-same
returns-clause-same c = λ numbers body fit is.
    let message = c.args.message.now in
    let behind : drop 8 message ≡ body = ap (drop 8) is ∙ request-behind numbers body in
    let octets = octets_from 8 message (λ i. omega (arith, c.type_inv.message i)) in
    let small = subst (λ (xs : List ℕ). AreOctets xs) behind octets in
    ap (λ (xs : List ℕ). option_map (λ (front : List ℕ). front ++ xs) c.answer_in.result) (sym behind)
    ∙ c.answer_in.ensures.exact
    ∙ ap echo_reply is
    ∙ request-answered numbers body fit small
