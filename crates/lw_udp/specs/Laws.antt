use Rattle.std.specs.Prelude.{◌≡◌, ◌≢◌, ◌≤◌, ◌<◌, ◌+◌, ℕ, true, false, List, Some, None, Ok, Contains}
use Rattle.lw_base.specs.declared.addresses.Ip.{Ip}
use Rattle.lw_base.specs.declared.addresses.Port.{Port}
use Rattle.lw_udp.specs.declared.ends.UdpEnd.{UdpEnd}
use Rattle.lw_udp.specs.Ends.{Socket, Table, end_of, removed}
use Rattle.lw_udp.specs.Delivery.{best, GoesTo, GoesNowhere}
use Rattle.lw_udp.specs.Ports.{port_after, is_used, free_port, bind_port, clash}

-- a datagram goes to the least connection of the best class: nobody's claim goes before its claim, and where it goes
-- nowhere nobody has one
pub record DeliveryLaw : Type 0 where
  pub somewhere : (src dst : Socket) (ends : List UdpEnd) (conn : ℕ) → best src dst ends ≡ Some conn → GoesTo src dst ends conn
  pub nowhere : (src dst : Socket) (ends : List UdpEnd) → best src dst ends ≡ None → GoesNowhere src dst ends

-- a live socket isn't given again: its port isn't the ephemeral port that comes next, and Bind gives no socket that
-- clashes with it
pub record NotGiven (t : Table) (local : Socket) : Type 0 where
  pub ephemeral : free_port t ≢ Some local.1
  pub by_bind : (conn : ℕ) (own ip : Ip) (port given : Port) → bind_port t conn own ip port ≡ Ok given → clash local (ip, given) ≡ false

-- no live socket is given again
abbrev pub LivePortLaw : Type 0
LivePortLaw = (t : Table) (e : UdpEnd) (local : Socket) → Contains t.ends e → e.local ≡ Some local → NotGiven t local

-- what was removed isn't found again: it has no end, and no datagram goes to it
pub record RemovedLaw : Type 0 where
  pub no_end : (t : Table) (conn : ℕ) → end_of (removed t conn).ends conn ≡ None
  pub no_datagram : (t : Table) (conn : ℕ) (src dst : Socket) → best src dst (removed t conn).ends ≢ Some conn

-- the ephemeral ports are all from 49,152 to 65,535, in rising order, and 49,152 comes after 65,535; where none comes
-- next, each is in use
pub record PortsLaw : Type 0 where
  pub rising : (given : Port) → 49152 ≤ given.0 → given.0 < 65535 → (port_after given 0).0 ≡ given.0 + 1
  pub around : (port_after (record { 0 = 65535 }) 0).0 ≡ 49152
  pub every : (given : Port) (port : ℕ) → 49152 ≤ port → port < 65536 → (k : ℕ) × (k < 16384) × ((port_after given k).0 ≡ port)
  pub full : (t : Table) (port : Port) → 49152 ≤ port.0 → port.0 < 65536 → free_port t ≡ None → is_used t.ends port ≡ true
