use Rattle.std.proofs.Common.{◌≡◌, ◌∙◌, List, IfSome, sym, ap, subst}
use Rattle.lw_base.specs.declared.addresses.Ip.{Ip}
use Rattle.lw_arp.specs.declared.entries.EntryState.TheVariants.{Pending}
use Rattle.lw_arp.specs.Neighbours.{map_entries, packets, state_of as neighbour_state}
use Rattle.lw_link.specs.Plans.{waiter}
use Rattle.lw_link.specs.Way.{asked_for}
use Rattle.lw_reass.specs.Table.{all_kept}
use Rattle.lw_layers.specs.declared.layers.Layers.{Layers}
use Rattle.lw_layers.specs.Layers.{held_in}
use Rattle.lw_layers.proofs.ApplyLaws.{carried_moves, table_of, waits_at}
use Rattle.lw_layers.proofs.layers.Layers.carry.Goals as goal

pub carry_out-requires-clause-pending : goal.carry_out-requires-clause-pending
carry_out-requires-clause-pending g c =
    waits_at (λ (ip : Ip). neighbour_state (asked_for c.args.self.now.neighbours c.deref.result.now) ip ≡ Pending) c.args.link.waits c.hop_of.result c.waiter-waits.result c.args.ram c.hop_of.ensures c.waiter-waits.ensures.waits
    (subst (λ (ips : List Ip). IfSome c.args.link.waits (λ w. neighbour_state (asked_for c.args.self.now.neighbours ips) w.0 ≡ Pending)) (sym c.deref.ensures.value) c.requires.pending)

pub returns-clause-neighbours : goal.returns-clause-neighbours
returns-clause-neighbours g c =
    ap (λ (l : Layers _ _). map_entries (λ p. (g.P.Payload.seen p).octets) l.neighbours) c.send.ensures.sent
    ∙ table_of (λ p. (g.P.Payload.seen p).octets) c.args.self.now.neighbours c.carry_out.new.table c.args.link.asked.items c.deref.result.now c.args.link.waits c.hop_of.result c.waiter-waits.result c.args.ram
    c.hop_of.ensures c.waiter-waits.ensures.waits c.requires.ram c.deref.ensures.value c.carry_out.ensures.table

pub returns-clause-moves : goal.returns-clause-moves
returns-clause-moves g c =
    carried_moves g.P.Payload.seen (g.P.Payload.home_seen c.args.home.now) (g.P.Payload.home_seen c.waiter-waits.new.home) (g.P.Payload.home_seen c.carry_out.new.home)
    c.args.ram (packets c.args.self.now.neighbours) (all_kept c.args.self.now.fragments) (waiter c.waiter-waits.result) (packets c.carry_out.new.table) (held_in c.send.new.self)
    c.waiter-waits.ensures.moves c.carry_out.ensures.moves (ap held_in c.send.ensures.sent)
