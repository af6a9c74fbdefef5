-- What a share makes of a chain: two of the same octets, each with owners of its own.
use Rattle.std.specs.Prelude.{◌≡◌, ◌+◌, ◌≤◌, Bool, false, ◌++◌, length, map}
use Rattle.lw_payload.specs.Views.{Slot}
use Rattle.pbuf_spans.specs.Parts.{rows_in, weight_in}
use Rattle.pbuf_spans.specs.Shares.{first_of, second_of}
use Rattle.lw_pbuf.specs.Chains.{ChainSeen}

-- The chain p was shared: it is q then, and o is the new one; they have shared out the rows and the weight of p
pub record IsSharedTo (hands : Bool) (p q o : ChainSeen) : Type 0 where
  pub first : q.parts ≡ map (first_of hands) p.parts
  pub second : o.parts ≡ map (second_of hands) p.parts
  pub first_table : q.table ≡ p.table
  pub second_table : o.table ≡ p.table
  pub room : q.room ≡ p.room
  pub rows : (s : Slot) → rows_in q.parts s + rows_in o.parts s ≡ rows_in p.parts s
  pub weight : weight_in q.parts + weight_in o.parts ≡ weight_in p.parts

-- The tail t, which is u then, was put behind the chain p, which is q then, with an owner more of each of its pbufs; both have what both had. The pbufs took of the room
pub record IsChained (p q t u : ChainSeen) : Type 0 where
  pub parts : q.parts ≡ p.parts ++ map (second_of false) t.parts
  pub tail : u.parts ≡ map (first_of false) t.parts
  pub table : q.table ≡ p.table
  pub tail_table : u.table ≡ t.table
  pub room : p.room ≤ q.room + length t.parts
  pub tail_room : u.room ≡ t.room
  pub rows : (s : Slot) → rows_in q.parts s + rows_in u.parts s ≡ rows_in p.parts s + rows_in t.parts s
  pub weight : weight_in q.parts + weight_in u.parts ≡ weight_in p.parts + weight_in t.parts
