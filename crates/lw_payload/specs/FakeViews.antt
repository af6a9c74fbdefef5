use Rattle.std.specs.Prelude.{◌≡◌, ℕ, ◌+◌, ◌-◌, Bool, List, length, min, vec_capacity}
use Rattle.lw_payload.specs.declared.kinds.Kind.{Kind}
use Rattle.lw_payload.specs.declared.fake.make_counts.MakeCounts.{MakeCounts}
use Rattle.lw_payload.specs.declared.fake.slots.Slots.{Slots}
use Rattle.lw_payload.specs.declared.fake.slotted.Slotted.{Slotted}
use Rattle.lw_payload.specs.Views.{View, HomeView, Makes}
use Rattle.lw_payload.specs.Fake.{one_kept, family_of, counted_rows, held_rows, free_count}

-- a pool of one kept kind, from its number, that kind, the longest payload, the counts of its pbufs and those of its makes
abbrev pub pool_view : ℕ → Kind → ℕ → List ℕ → Makes → HomeView
pool_view number kept longest counts makes = record {
  pools = one_kept (family_of number kept) kept (length counts) longest;
  rows = counted_rows kept counts;
  weight = 0;
  counts = makes;
}

-- a payload of such a pool, from the pool's number and kind, its octets, the places at which it is an owner, and so on
abbrev pub held_view : ℕ → Kind → List ℕ → List ℕ → ℕ → ℕ → Bool → View
held_view number kept octets places room shares fresh = record {
  octets = octets;
  parts = length octets;
  room = room;
  shares = shares;
  fresh = fresh;
  rows = held_rows kept places;
  weight = 0;
  family = family_of number kept;
}

-- the counts of makes
abbrev pub makes_of : MakeCounts → Makes
makes_of m = record { made = m.made; refused = m.refused; last_refused = m.last_refused; asked = m.asked }

-- what contracts see of `Slots`
abbrev pub slots_view : Slots → HomeView
slots_view h = pool_view h.number h.kept h.longest h.counts.items (makes_of h.makes)

-- and of `Slotted`
abbrev pub slotted_view : Slotted → View
slotted_view p =
    held_view p.number p.kept p.octets.items p.places.items
    (min (vec_capacity p.octets - length p.octets.items) (vec_capacity p.places - length p.places.items)) p.shares p.fresh

-- so many pbufs more have no owner
abbrev pub FreesMore : Slots → Slots → ℕ → Type 0
FreesMore h k n = free_count k.counts.items ≡ free_count h.counts.items + n
