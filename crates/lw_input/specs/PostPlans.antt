-- What a planned post to a connection stands for.
use Rattle.std.specs.Prelude.{ℕ, ◌+◌, ◌≤◌, List, is_some, slice_range, IsTrue}
use Rattle.lw_conn.specs.Connections.{Connections, connection}
use Rattle.lw_input.specs.declared.input.PostPlan.{PostPlan}
use Rattle.lw_input.specs.Input.{Delivery}

-- the delivery that a planned post stands for, whose data stands in the data of a datagram
abbrev pub delivery_in : List ℕ → PostPlan → Delivery
delivery_in body p = record { conn = p.conn; from = (p.ip, p.port); octets = slice_range body p.place (p.place + p.count) }

-- a planned post has its data within n octets, and its connection is live
pub record IsGoing (cs : Connections) (n : ℕ) (p : PostPlan) : Type 0 where
  pub within : p.place + p.count ≤ n
  pub live : IsTrue (is_some (connection cs p.conn))
