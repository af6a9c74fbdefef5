use Rattle.std.proofs.Common.{◌+◌, ◌∙◌, ◌≤◌, arith, length, ℕ, List, slice_range, refl, sym, ap}
use Rattle.lw_link.proofs.PlanLaws.{over_table}
use Rattle.lw_base.specs.declared.heads.IpHead.{IpHead}
use Rattle.lw_reass.specs.Datagrams.{plan_of}
use Rattle.lw_input.specs.Input.{begun}
use Rattle.lw_layers.proofs.PlanLaws.{data_length, datagram_planned, fragment_planned, range_again, range_within}
use Rattle.lw_layers.specs.Layers.{state_of}
use Rattle.lw_input.specs.State.{State}
use Rattle.lw_layers.proofs.layers.Layers.datagram_plan.Goals as goal

pub returns-then-is_fragment : goal.returns-then-is_fragment
returns-then-is_fragment g c =
    let s : State = state_of g.P.Payload.seen c.args.self.now in
    let h : IpHead = c.args.head.now in
    let octets : List ℕ = c.args.octets.now in
    fragment_planned s c.args.octets.now h c.plan-plan.result (slice_range octets (14 + c.from-from.result) (14 + c.from-to.result)) c.whole_input.new.link c.in_ok-mail.mail
    (sym c.is_fragment.ensures ∙ c.if-is_fragment.true) (ap (λ (n : ℕ). slice_range octets (14 + n) (14 + c.from-to.result)) c.from-from.ensures ∙ ap (λ (n : ℕ). slice_range octets (14 + h.head_len) (14 + n)) c.from-to.ensures)
    (c.plan-plan.ensures ∙ ap (plan_of c.args.self.now.fragments.datagrams h) (data_length octets h.head_len h.total c.from-from.result c.from-to.result c.from-from.ensures c.from-to.ensures c.requires.some c.requires.within))
    (c.in_ok-mail.ensures.exact s.link (begun s) (over_table (λ p. (g.P.Payload.seen p).octets) s.link c.args.self.now.neighbours s.link.net refl refl) (c.new-link.ensures.exact s.link refl))
    c.in_ok-mail.ensures.packet (c.in_ok-mail.ensures.delivery (begun s)) c.in_ok-mail.ensures.mail

pub returns : goal.returns
returns g c =
    let s : State = state_of g.P.Payload.seen c.args.self.now in
    let h : IpHead = c.args.head.now in
    let octets : List ℕ = c.args.octets.now in
    let body : List ℕ = slice_range octets (14 + c.from-from.result) (14 + c.from-to.result) in
    let from = c.from-from.ensures in let to = c.from-to.ensures in let some = c.requires.some in let within = c.requires.within in let least = c.requires.header in
    let order : 14 + c.from-from.result ≤ 14 + c.from-to.result = omega (arith, from, to, some) in
    let all : 14 + c.from-to.result ≤ length octets = omega (arith, to, some, within, least) in
    datagram_planned s c.args.octets.now h (slice_range octets 14 (14 + c.from-from.result)) body c.ip_input.new.plan c.in_ok-mail-2.mail
    (sym c.is_fragment.ensures ∙ c.if-is_fragment.false) (ap (λ (n : ℕ). slice_range octets 14 (14 + n)) c.from-from.ensures)
    (ap (λ (n : ℕ). slice_range octets (14 + n) (14 + c.from-to.result)) c.from-from.ensures ∙ ap (λ (n : ℕ). slice_range octets (14 + h.head_len) (14 + n)) c.from-to.ensures)
    (c.in_ok-post.ensures.exact s.link (begun s) (over_table (λ p. (g.P.Payload.seen p).octets) s.link c.args.self.now.neighbours s.link.net refl refl) (c.new-link.ensures.exact s.link refl))
    c.in_ok-post.ensures.packet
    (c.in_ok-mail-2.ensures.delivery ∙ c.in_ok-post.ensures.delivery (begun s))
    (c.in_ok-mail-2.ensures.mail s.endpoints.conns octets c.in_ok-post.ensures.going (range_within octets (14 + c.from-from.result) (14 + c.from-to.result) order all) (range_again octets (14 + c.from-from.result) (14 + c.from-to.result) order all))
