use Rattle.std.proofs.Common.{◌∙◌, true, OnOk, ap, subst}
use Rattle.lw_base.specs.declared.addresses.Net.{Net}
use Rattle.lw_base.specs.declared.heads.IpHead.{IpHead}
use Rattle.lw_link.specs.Plans.{IsOver, Plans}
use Rattle.lw_link.specs.Way.{Link, Way, emit, sent_head}
use Rattle.lw_input.proofs.input.icmp_output.Goals as goal

pub returns-clause-exact : goal.returns-clause-exact
returns-clause-exact g c =
    subst (λ (h : IpHead). OnOk c.emit.result ((l : Link) (m : Way) → IsOver c.args.netif.now c.args.table.now l → Plans c.args.plan.now l m → Plans c.emit.new.self l (emit true m h c.args.message.now)))
    (c.sent_head-head.ensures.head ∙ ap (λ (n : Net). sent_head n 1 c.args.dst) c.net.ensures) c.emit.ensures.exact
