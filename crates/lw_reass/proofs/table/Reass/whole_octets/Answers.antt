use Rattle.std.proofs.Common.{sym, ap, ◌∙◌, arith}
use Rattle.lw_reass.specs.Opens.{datagram}
use Rattle.lw_reass.proofs.Adds.{planned_complete, own_seen, fitted, whole_ok, short_ok}
use Rattle.lw_reass.proofs.table.Reass.whole_octets.Goals as goal

pub octets_with-requires-clause-some : goal.octets_with-requires-clause-some
octets_with-requires-clause-some g c =
    let fit = fitted c.args.self.now.datagrams c.args.h.now _ c.in-Complete.place (datagram c.open_at-datagram.result.now) (planned_complete c.args.self.now.datagrams c.args.h.now _ c.in-Complete.place c.in-Complete.field-1 (sym c.requires.plan ∙ c.in-Complete.is))
    (own_seen c.args.self.now.datagrams c.self.inside.opens.items c.deref.result.now c.args.h.now _ c.in-Complete.place (datagram c.open_at-datagram.result.now) (ap (λ r. r.datagrams) c.self.view_is) c.deref.ensures.value
    (planned_complete c.args.self.now.datagrams c.args.h.now _ c.in-Complete.place c.in-Complete.field-1 (sym c.requires.plan ∙ c.in-Complete.is)) (c.open_at-datagram.ensures.datagram c.args.h.now c.new-fresh.ensures.datagram)) in
    fit.some

pub octets_with-requires-clause-short : goal.octets_with-requires-clause-short
octets_with-requires-clause-short g c =
    let fit = fitted c.args.self.now.datagrams c.args.h.now _ c.in-Complete.place (datagram c.open_at-datagram.result.now) (planned_complete c.args.self.now.datagrams c.args.h.now _ c.in-Complete.place c.in-Complete.field-1 (sym c.requires.plan ∙ c.in-Complete.is))
    (own_seen c.args.self.now.datagrams c.self.inside.opens.items c.deref.result.now c.args.h.now _ c.in-Complete.place (datagram c.open_at-datagram.result.now) (ap (λ r. r.datagrams) c.self.view_is) c.deref.ensures.value
    (planned_complete c.args.self.now.datagrams c.args.h.now _ c.in-Complete.place c.in-Complete.field-1 (sym c.requires.plan ∙ c.in-Complete.is)) (c.open_at-datagram.ensures.datagram c.args.h.now c.new-fresh.ensures.datagram)) in
    let short = fit.short in omega arith

pub octets_with-requires-clause-free : goal.octets_with-requires-clause-free
octets_with-requires-clause-free g c =
    let fit = fitted c.args.self.now.datagrams c.args.h.now _ c.in-Complete.place (datagram c.open_at-datagram.result.now) (planned_complete c.args.self.now.datagrams c.args.h.now _ c.in-Complete.place c.in-Complete.field-1 (sym c.requires.plan ∙ c.in-Complete.is))
    (own_seen c.args.self.now.datagrams c.self.inside.opens.items c.deref.result.now c.args.h.now _ c.in-Complete.place (datagram c.open_at-datagram.result.now) (ap (λ r. r.datagrams) c.self.view_is) c.deref.ensures.value
    (planned_complete c.args.self.now.datagrams c.args.h.now _ c.in-Complete.place c.in-Complete.field-1 (sym c.requires.plan ∙ c.in-Complete.is)) (c.open_at-datagram.ensures.datagram c.args.h.now c.new-fresh.ensures.datagram)) in
    fit.free

pub returns-clause-whole : goal.returns-clause-whole
returns-clause-whole g c =
    whole_ok c.args.self.now.datagrams c.args.h.now c.args.body.now c.args.plan.now c.in-Complete.place c.in-Complete.field-1 (datagram c.open_at-datagram.result.now) c.octets_with.result c.in-Complete.is c.requires.plan
    (own_seen c.args.self.now.datagrams c.self.inside.opens.items c.deref.result.now c.args.h.now _ c.in-Complete.place (datagram c.open_at-datagram.result.now) (ap (λ r. r.datagrams) c.self.view_is) c.deref.ensures.value
    (planned_complete c.args.self.now.datagrams c.args.h.now _ c.in-Complete.place c.in-Complete.field-1 (sym c.requires.plan ∙ c.in-Complete.is)) (c.open_at-datagram.ensures.datagram c.args.h.now c.new-fresh.ensures.datagram)) c.octets_with.ensures

pub returns-clause-short : goal.returns-clause-short
returns-clause-short g c =
    let fit = fitted c.args.self.now.datagrams c.args.h.now _ c.in-Complete.place (datagram c.open_at-datagram.result.now) (planned_complete c.args.self.now.datagrams c.args.h.now _ c.in-Complete.place c.in-Complete.field-1 (sym c.requires.plan ∙ c.in-Complete.is))
    (own_seen c.args.self.now.datagrams c.self.inside.opens.items c.deref.result.now c.args.h.now _ c.in-Complete.place (datagram c.open_at-datagram.result.now) (ap (λ r. r.datagrams) c.self.view_is) c.deref.ensures.value
    (planned_complete c.args.self.now.datagrams c.args.h.now _ c.in-Complete.place c.in-Complete.field-1 (sym c.requires.plan ∙ c.in-Complete.is)) (c.open_at-datagram.ensures.datagram c.args.h.now c.new-fresh.ensures.datagram)) in
    short_ok c.open_at-datagram.result.now.runs.octets c.args.h.now.offset c.args.body.now c.octets_with.result c.open_at-datagram.ensures.open.short fit.short c.octets_with.ensures
