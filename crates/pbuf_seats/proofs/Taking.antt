-- Kept pbufs that are taken from a seat and given back to it.
use Rattle.std.proofs.Common.{◌≡◌, ℕ, ◌+◌, ◌^◌, ◌<◌, ◌≤◌, length, refl, arith}
use Rattle.atomic_table.specs.Seated.{TableId}
use Rattle.lw_payload.specs.declared.kinds.Kind.{Kind}
use Rattle.lw_payload.specs.declared.kinds.Kind.TheVariants.{Ram, Pool, Rom, Ref}
use Rattle.lw_payload.specs.Views.{pool_one}
use Rattle.pbuf_seats.specs.Kept.{free_count}
use Rattle.pbuf_seats.specs.declared.kept.Kept.{Kept}
use Rattle.pbuf_seats.specs.Seats.{SeatSeen, IsSeat}

-- a seat keeps what a seat keeps where pbufs come back
pub seat_gave : (t : TableId) (h : SeatSeen) (kept : Kept) → IsSeat t h → length kept.pool.items ≡ length h.kept.pool.items → free_count h.kept.pool.items ≤ free_count kept.pool.items
    → IsSeat t (record h { kept = kept })
seat_gave t h kept seat size free = record {
  home = seat.home;
  idle = seat.idle;
  few = seat.few;
  stocked = seat.stocked;
  claims = seat.claims;
  asked = seat.asked;
  pool = λ counted. let p = seat.pool counted in omega arith;
}

-- and where one is taken
took : (kind : Kind) (claimed : ℕ) → claimed < 2 ^ 20 → (kind ≡ Pool → claimed + 1 < 2 ^ 20) → claimed + pool_one kind < 2 ^ 20
took Ram claimed few more = omega arith
took Pool claimed few more = more refl
took Rom claimed few more = omega arith
took Ref claimed few more = omega arith

pub seat_took : (t : TableId) (h : SeatSeen) (kept : Kept) (kind : Kind) (one : ℕ) → one ≡ pool_one kind → IsSeat t h → (kind ≡ Pool → h.claimed + 1 < 2 ^ 20) → length kept.pool.items ≡ length h.kept.pool.items
    → free_count kept.pool.items + pool_one kind ≡ free_count h.kept.pool.items → IsSeat t (record h { kept = kept; claimed = h.claimed + one })
seat_took t h kept kind one e seat more size free = record {
  home = seat.home;
  idle = seat.idle;
  few = seat.few;
  stocked = let s = seat.stocked in omega arith;
  claims = let c = took kind h.claimed seat.claims more in omega arith;
  asked = λ counted. let a = seat.asked counted in omega arith;
  pool = λ counted. let p = seat.pool counted in omega arith;
}
