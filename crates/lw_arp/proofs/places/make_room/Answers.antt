use Rattle.std.proofs.Common.{ap, sym, ◌∙◌}
use Rattle.lw_arp.specs.Neighbours.{place_to_free}
use Rattle.lw_arp.proofs.RoomLaws.{has_room}
use Rattle.lw_arp.proofs.places.make_room.Goals as goal

pub returns-in_err-place-clause-few : goal.returns-in_err-place-clause-few
returns-in_err-place-clause-few g c =
    has_room c.args.entries.now.items (ap place_to_free (sym c.deref.ensures.value) ∙ sym c.place_to_free.ensures.value ∙ c.in_err-place.was)
