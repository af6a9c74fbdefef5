-- The state of a stack: a record for each layer.
use Rattle.std.specs.Prelude.{ℕ, Bool, false, List, []}
use Rattle.lw_base.specs.declared.addresses.Net.{Net}
use Rattle.lw_base.specs.declared.limits.Limits.{Limits}
use Rattle.lw_link.specs.Way.{Link}
use Rattle.lw_reass.specs.Datagrams.{Datagram}
use Rattle.lw_api_msg.specs.Endpoints.{Table as Endpoints, opening as opening_endpoints}

-- the words that a stack shows: how many frames came, how many ticks went by, and whether the run was stopped
pub record Words : Type 0 where
  pub frames : ℕ
  pub ticks : ℕ
  pub stopped : Bool

-- the state of a stack: its limits; the link, with its address, what is known of its neighbours and the next identification; the
-- datagrams of which fragments came; the frames sent; the connections, with their ends and names; and its words
pub record State : Type 0 where
  pub limits : Limits
  pub link : Link
  pub fragments : List Datagram
  pub sent : List (List ℕ)
  pub endpoints : Endpoints
  pub words : Words

-- the state in which a stack begins
abbrev pub opening : Net → Limits → State
opening net limits = record {
  limits = limits;
  link = record { net = net; neighbours = []; next_id = 0 };
  fragments = [];
  sent = [];
  endpoints = opening_endpoints limits;
  words = record { frames = 0; ticks = 0; stopped = false };
}
