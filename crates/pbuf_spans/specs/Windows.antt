-- What contracts see of a window on a shared body.
use Rattle.std.specs.Prelude.{ℕ, List}

-- its octets
pub record WindowSeen : Type 0 where
  pub octets : List ℕ
