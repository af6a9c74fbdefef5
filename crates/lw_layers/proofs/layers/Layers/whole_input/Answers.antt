use Rattle.std.proofs.Common.{◌∙◌, List, ℕ, ap, sym}
use Rattle.lw_reass.specs.declared.outcome.Outcome.TheVariants.{Whole}
use Rattle.lw_reass.specs.Datagrams.{added, whole_head}
use Rattle.lw_layers.proofs.PlanLaws.{delivers-whole, on_ok, takes-whole, whole_mail}
use Rattle.lw_layers.proofs.layers.Layers.whole_input.Goals as goal

pub returns-clause-exact : goal.returns-clause-exact
returns-clause-exact g c =
    on_ok c.mail_of.result
    (takes-whole c.args.self.now.netif c.args.self.now.endpoints.udp.ends c.args.self.now.neighbours c.args.link.now c.ip_input.new.plan c.in-Complete.first c.ip_octets-header.result c.as_slice-octets.result.now
    (added c.args.self.now.fragments.datagrams c.args.head.now c.args.body.now).outcome
    c.ip_octets-header.ensures.exact (c.in_ok-whole.ensures.whole c.in-Complete.first (ap whole_head c.in-Complete.is) ∙ ap (λ (xs : List ℕ). Whole c.in-Complete.first xs) (sym c.as_slice-octets.ensures)) c.in_ok-post.ensures.exact)

pub returns-clause-delivery : goal.returns-clause-delivery
returns-clause-delivery g c =
    delivers-whole c.mail_of.result c.in_ok-post.post c.args.self.now.netif c.args.self.now.endpoints.udp.ends c.in-Complete.first c.ip_octets-header.result c.as_slice-octets.result.now
    (added c.args.self.now.fragments.datagrams c.args.head.now c.args.body.now).outcome
    c.ip_octets-header.ensures.exact (c.in_ok-whole.ensures.whole c.in-Complete.first (ap whole_head c.in-Complete.is) ∙ ap (λ (xs : List ℕ). Whole c.in-Complete.first xs) (sym c.as_slice-octets.ensures))
    c.mail_of.ensures.delivery c.in_ok-post.ensures.delivery

pub returns-clause-mail : goal.returns-clause-mail
returns-clause-mail g c =
    whole_mail c.mail_of.result c.in_ok-post.post c.args.self.now.endpoints.conns c.in-Complete.first c.as_slice-octets.result.now
    (added c.args.self.now.fragments.datagrams c.args.head.now c.args.body.now).outcome
    (c.in_ok-whole.ensures.whole c.in-Complete.first (ap whole_head c.in-Complete.is) ∙ ap (λ (xs : List ℕ). Whole c.in-Complete.first xs) (sym c.as_slice-octets.ensures))
    c.in_ok-post.ensures.going c.mail_of.ensures.mail
