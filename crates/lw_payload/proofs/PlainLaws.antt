use Rattle.std.proofs.Common.{◌≡◌, ℕ, ◌≤◌, List, length, refl, arith, ap}
use Rattle.lw_payload.specs.declared.kinds.Kind.{Kind}
use Rattle.lw_payload.specs.Views.{plain_home, plain_view, pbufs_of}
use Rattle.lw_payload.specs.Calls.{IsMade, IsCut}
use Rattle.lw_payload.proofs.RowLaws.{no_rows_few}

-- octets that nobody counts are made of any octets
pub plain_made : (kind : Kind) (text octets : List ℕ) (room : ℕ) → octets ≡ text → IsMade plain_home plain_home kind text (plain_view octets room)
plain_made kind text octets room e = record {
  octets = e;
  parts = let l = ap length e in omega arith;
  shares = omega arith;
  fresh = refl;
  family = refl;
  rows = λ s. refl;
  kept = λ s more. absurd (omega arith);
  alone = λ s more. absurd (omega arith);
  few = λ n. no_rows_few kind n (pbufs_of kind (length text));
  free = tt;
  weighs = refl;
  weight = refl;
  made_least = omega arith;
  made_most = omega arith;
  made = λ some. cc;
  asks = λ some. cc;
  refused = refl;
  last_refused = refl;
}

-- and cut to any shorter octets
pub plain_cut : (before after rest : List ℕ) (room left : ℕ) → after ≡ rest → length after ≤ length before → room ≤ left → IsCut plain_home plain_home (plain_view before room) (plain_view after left) rest
plain_cut before after rest room left e shorter more = record {
  octets = e;
  parts = shorter;
  room = more;
  shares = omega arith;
  family = refl;
  fewer = λ s. omega arith;
  few = λ kind n. no_rows_few kind n (length rest);
  rows = λ s. refl;
  weight = refl;
  pools = refl;
  counts = refl;
}
