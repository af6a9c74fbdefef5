use Rattle.std.proofs.Common.{rules, ap, sym, ◌∙◌, ◌<◌, length, vec_capacity}
use Rattle.std.proofs.lemmas.List.{get_or-set_same}
use Rattle.lw_arp.specs.Neighbours.{older, is_over}
use Rattle.lw_arp.proofs.TickLaws.{Ticks-removed, Ticks-kept, packet_put}
use Rattle.lw_arp.proofs.ticks.tick.Goals as goal

pub loop-place-preserved-then-is_over : goal.loop-place-preserved-then-is_over
loop-place-preserved-then-is_over g c =
    let now = c.loop-place.entries.items in
    let place = c.loop-place.place in
    let x = c.index_mut.result.now in
    let within : place < length now = search rules in
    let over = ap is_over (sym (c.index.ensures ∙ get_or-set_same now place (older x) c.index.result.now within)) ∙ sym c.is_over.ensures ∙ c.if-is_over.true in
    rw (c.take_packet.ensures.table, c.put.ensures.items)
    (Ticks-removed x c.take_packet.result (vec_capacity c.take_packet.new.entries) (vec_capacity c.put.new.gone) c.loop-place.invariant within c.index_mut.ensures.value over
    (c.take_packet.ensures.packet ∙ packet_put now place (older x) within) (search rules) (search rules))

pub loop-place-preserved : goal.loop-place-preserved
loop-place-preserved g c =
    let now = c.loop-place.entries.items in
    let place = c.loop-place.place in
    let x = c.index_mut.result.now in
    let within : place < length now = search rules in
    let alive = ap is_over (sym (c.index.ensures ∙ get_or-set_same now place (older x) c.index.result.now within)) ∙ sym c.is_over.ensures ∙ c.if-is_over.false in
    Ticks-kept x c.loop-place.invariant within c.index_mut.ensures.value alive
