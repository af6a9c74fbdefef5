-- The counts of kept pbufs. A pbuf has 65,535 rows; its count is how many of them were given out, and it is free where none is.
use Rattle.std.specs.Prelude.{ℕ, ◌+◌, ◌==◌, Bool, ◌&&◌, cond, count_by, List, slice_index}
use Rattle.lw_payload.specs.declared.kinds.Kind.{Kind}
use Rattle.lw_payload.specs.declared.kinds.Kind.TheVariants.{Ram, Pool, Rom, Ref}
use Rattle.lw_payload.specs.Views.{Slot}
use Rattle.pbuf_seats.specs.declared.kept.Kept.{Kept}

-- the counts of the pbufs of one kind
abbrev pub counts_of : Kind → Kept → List ℕ
counts_of Ram k = k.ram.items
counts_of Pool k = k.pool.items
counts_of Rom k = k.rom.items
counts_of Ref k = k.reference.items

-- how many rows of the pbuf were given out: its count
abbrev pub rows_of : Kept → Slot → ℕ
rows_of k s = slice_index (counts_of s.kind k) s.place

-- a number for each kind
abbrev pub number_of : Kind → ℕ
number_of Ram = 0
number_of Pool = 1
number_of Rom = 2
number_of Ref = 3

-- whether the slot is that of the pbuf of this kind at this place
abbrev pub is_at : Kind → ℕ → Slot → Bool
is_at kind place s = (number_of s.kind == number_of kind) && (s.place == place)

-- n rows of the pbuf of this kind at this place
abbrev pub rows_at : Kind → (place n : ℕ) → Slot → ℕ
rows_at kind place n s = cond (is_at kind place s) n 0

-- so many rows a pbuf has: its first owner has them all
abbrev pub pbuf_rows : ℕ
pbuf_rows = 65535

-- how many of the counts are 0
abbrev pub free_count : List ℕ → ℕ
free_count counts = count_by (λ n. n == 0) counts

-- how many kept pbufs have no owner
abbrev pub all_free : Kept → ℕ
all_free k = free_count k.ram.items + free_count k.pool.items + free_count k.rom.items + free_count k.reference.items
