use Rattle.std.proofs.Common.{◌≡◌, ℕ, ◌-◌, ◌∙◌, List, Option, IfSome, length, refl, ap, subst}
use Rattle.lw_base.specs.declared.addresses.Net.{Net}
use Rattle.lw_runs.proofs.Stands.{same-refl}
use Rattle.lw_reass.specs.Table.{all_kept}
use Rattle.lw_input.specs.declared.arrival.Arrival.{Arrival}
use Rattle.lw_input.specs.Arrivals.{arrival_of, Holds}
use Rattle.lw_layers.specs.Layers.{held_in, state_of, IsPlanned}
use Rattle.lw_layers.proofs.KeepLaws.{first_of}
use Rattle.lw_layers.proofs.ReceiveLaws.{made_ready, planned_live}
use Rattle.lw_layers.proofs.layers.Layers.ready.Goals as goal

pub returns-in_err-change-clause-same : goal.returns-in_err-change-clause-same
returns-in_err-change-clause-same g c = record { state = refl; waiting = refl; kept = same-refl g.P.Payload.seen (all_kept c.args.self.now.fragments) }

pub returns-in_err-offer-clause-same : goal.returns-in_err-offer-clause-same
returns-in_err-offer-clause-same g c = record { state = refl; waiting = refl; kept = same-refl g.P.Payload.seen (all_kept c.args.self.now.fragments) }

pub offer-requires-clause-live : goal.offer-requires-clause-live
offer-requires-clause-live g c =
    planned_live (state_of g.P.Payload.seen c.args.self.now) c.args.octets.now c.arrival_of-arrival.result c.in_ok-change.field-0 c.in_ok-change.ensures

pub room-requires : goal.room-requires
room-requires g c = record { short = (first_of g.P.Payload.seen (g.P.Payload.home_seen c.args.home.now) c.args.frame.now (held_in c.args.self.now) c.requires.owned).short }

pub returns-clause-ready : goal.returns-clause-ready
returns-clause-ready g c =
    let octets : List ℕ = c.args.octets.now in
    let f = c.in_ok-change.field-0 in
    let arrives : c.arrival_of-arrival.result ≡ arrival_of c.args.self.now.netif octets = c.arrival_of-arrival.ensures.exact ∙ ap (λ (n : Net). arrival_of n octets) c.net.ensures in
    made_ready g.P.Payload.seen c.args.self.now c.room.new.self (g.B.Boxes.seen c.offer.new.boxes) (g.P.Payload.seen c.args.frame.now) (g.P.Payload.seen c.room.new.frame) octets f
    (record { change = f.change; link = f.link; offer = c.in_ok-offer.offer; ram = c.in-Some.ram }) c.room.ensures.same c.room.ensures.frame c.requires.octets
    (subst (λ (a : Arrival). IsPlanned (state_of g.P.Payload.seen c.args.self.now) octets a f) arrives c.in_ok-change.ensures)
    (subst (λ (a : Arrival). Holds (length octets - 14) a) arrives c.arrival_of-arrival.ensures.holds)
    refl c.in_ok-offer.ensures.offer c.in_ok-offer.ensures.place c.in_ok-room.ensures.ok
    (subst (λ (o : Option g.row.P.Denot). IfSome o (λ p. IfSome f.link.waits (λ w. (g.P.Payload.seen p).octets ≡ w.1))) c.in-Some.is c.in_ok-ram.ensures.octets)
