-- How a plan stands for what it does to the way out.
use Rattle.std.specs.Prelude.{◌≡◌, ℕ, ◌+◌, ◌≤◌, List, [], ◌∷◌, Option, Some, None, Ok, IfSome}
use Rattle.lw_base.specs.declared.addresses.Ip.{Ip}
use Rattle.lw_base.specs.declared.addresses.Net.{Net}
use Rattle.lw_netif.specs.Route.{route_of}
use Rattle.lw_arp.specs.declared.entries.ArpEntry.{ArpEntry}
use Rattle.lw_arp.specs.declared.entries.EntryState.TheVariants.{Pending}
use Rattle.lw_arp.specs.Neighbours.{keys_of, state_of}
use Rattle.lw_frag.specs.Pieces.{Piece}
use Rattle.lw_wire.specs.Ip.{FitsIp}
use Rattle.lw_link.specs.declared.plan.LinkPlan.{LinkPlan}
use Rattle.lw_link.specs.Way.{Link, Way, asked_for, waiting_in}

-- the way out after a plan is carried out, where the link was l and no frame was out: the addresses were looked up, the
-- packet waits, and the frames went out
abbrev pub way_by : Link → LinkPlan → Way
way_by l p = record {
  link = record {
    net = l.net;
    neighbours = waiting_in (asked_for l.neighbours p.asked.items) p.waits;
    next_id = p.next_id;
  };
  out = p.frames.items;
}

-- what a plan knows of addresses: by its copy of the table, or else by the table itself
abbrev pub known : {P : Type 0} → Option (List (ArpEntry (Unit {0}))) → List (ArpEntry P) → List (ArpEntry (Unit {0}))
known (Some copy) table = copy
known None table = keys_of table

-- the link stands at this address, over a table that knows what it knows, whatever the packets that wait there
pub record IsOver {P : Type 0} (own : Net) (table : List (ArpEntry P)) (l : Link) : Type 0 where
  pub net : l.net ≡ own
  pub keys : keys_of l.neighbours ≡ keys_of table

-- the plan takes the link l to the way m; the copy of the table, if there is one, knows what m does, and there is one
-- where an address was asked for; and the packet that waits has a pending entry
pub record Plans (p : LinkPlan) (l : Link) (m : Way) : Type 0 where
  pub made : way_by l p ≡ m
  pub copied : IfSome p.keys (λ k. k ≡ keys_of m.link.neighbours)
  pub unasked : p.keys ≡ None → p.asked.items ≡ []
  pub pending : IfSome p.waits (λ w. state_of m.link.neighbours w.0 ≡ Pending)

-- the packet that waits does so for the next hop to this address: packets of one event wait at one hop alone
abbrev pub IsOneWay : Net → Option (Ip × List ℕ) → Ip → Type 0
IsOneWay net waits dst = IfSome waits (λ w. route_of net dst ≡ Ok w.0)

-- the packet that waits, if there is one, does so for this next hop
abbrev pub IsAtHop : Option (Ip × List ℕ) → Ip → Type 0
IsAtHop waits hop = IfSome waits (λ w. w.0 ≡ hop)

-- the payload that is to wait, if there is one
abbrev pub waiter : {P : Type 0} → Option (Ip × P) → List P
waiter (Some w) = w.1 ∷ []
waiter None = []

-- a piece of a datagram with n octets of data can be written: its range lies within the data, and its header fits
pub record IsReady (n : ℕ) (p : Piece) : Type 0 where
  pub within : p.1 + p.2 ≤ n
  pub fits : FitsIp p.0 p.2
