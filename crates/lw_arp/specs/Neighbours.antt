use Rattle.std.specs.Prelude.{◌≡◌, ◌≢◌, ◌≤◌, ◌<◌, ℕ, ◌+◌, ◌==◌, ◌&&◌, ◌||◌, not, nat_lt, nat_le, Bool, IsTrue, List, [], ◌∷◌, ◌++◌, Option, Some, None, is_some, length, map, filter, find, position, remove, if◌then◌else◌, option_and_then, AllPairs, All}
use Rattle.std.specs.List.{list_any, slice_get, filter_map, sum_by}
use Rattle.std.specs.Option.{option_map, option_map_or}
use Rattle.lw_base.specs.declared.addresses.Ip.{Ip}
use Rattle.lw_base.specs.declared.addresses.Mac.{Mac}
use Rattle.lw_base.specs.declared.heads.ArpPacket.{ArpPacket}
use Rattle.lw_arp.specs.declared.entries.ArpEntry.{ArpEntry}
use Rattle.lw_arp.specs.declared.entries.EntryState.{EntryState}
use Rattle.lw_arp.specs.declared.entries.EntryState.TheVariants.{Stable, Pending, Empty}
use Rattle.lw_arp.specs.declared.entries.LearnPlan.{LearnPlan}
use Rattle.lw_arp.specs.declared.entries.Next.{Next}
use Rattle.lw_arp.specs.declared.entries.Next.TheVariants.{Known, Ask, Wait}
use Rattle.lw_arp.specs.declared.entries.Lesson.{Lesson}
use Rattle.lw_arp.specs.declared.entries.Lesson.TheVariants.{Nothing, Update, Make}

-- A table is the list of its entries, in the order of their making. The packets that wait may be of any type P.

-- One entry

-- a pending entry, as a lookup makes it
abbrev pub pending : {P : Type 0} → Ip → ArpEntry P
pending ip = record { ip = ip; mac = None; age = 0; packet = None }

-- a stable entry, as a packet makes it
abbrev pub stable : {P : Type 0} → Ip → Mac → ArpEntry P
stable ip mac = record { ip = ip; mac = Some mac; age = 0; packet = None }

-- an entry is stable where it has a hardware address, and pending where it has none
abbrev pub is_stable : {P : Type 0} → ArpEntry P → Bool
is_stable e = is_some e.mac

-- an entry of this address
abbrev pub is_of : {P : Type 0} → Ip → ArpEntry P → Bool
is_of ip e = e.ip.0 == ip.0

-- the age at which an entry goes (RFC 1122, section 2.3.2.1): 1,200 ticks for a stable one, 20 for a pending one
abbrev pub lifetime : {P : Type 0} → ArpEntry P → ℕ
lifetime e = if is_stable e then 1200 else 20

-- What a table has

-- the entry of an address
abbrev pub entry_of : {P : Type 0} → List (ArpEntry P) → Ip → Option (ArpEntry P)
entry_of table ip = find (is_of ip) table

-- the hardware address of an address, where its entry is stable
abbrev pub mac_of : {P : Type 0} → List (ArpEntry P) → Ip → Option Mac
mac_of table ip = option_and_then (λ e. e.mac) (entry_of table ip)

-- the packet that waits for an address
abbrev pub waiting : {P : Type 0} → List (ArpEntry P) → Ip → Option P
waiting table ip = option_and_then (λ e. e.packet) (entry_of table ip)

-- the state of an entry with this hardware address, or without one
abbrev pub state_by : Option Mac → EntryState
state_by (Some mac) = Stable mac
state_by None = Pending

-- the state of the entry of an address, or Empty where there is none
abbrev pub state_of : {P : Type 0} → List (ArpEntry P) → Ip → EntryState
state_of table ip = option_map_or (λ e. state_by e.mac) (entry_of table ip) Empty

-- all packets that wait, in the order of the list
abbrev pub packets : {P : Type 0} → List (ArpEntry P) → List P
packets table = filter_map (λ e. e.packet) table

-- two lists of packets weigh alike by every weight of a packet: what is in one is in the other, and as often
abbrev pub WeighAlike : {P : Type 0} → List P → List P → Type 0
WeighAlike {P} ps qs = (w : P → ℕ) → sum_by w qs ≡ sum_by w ps

-- an entry with another packet: what f gives of the one that waits
abbrev pub map_entry : {P Q : Type 0} → (P → Q) → ArpEntry P → ArpEntry Q
map_entry f e = record { ip = e.ip; mac = e.mac; age = e.age; packet = option_map f e.packet }

-- a table in which each packet is replaced by what f gives of it
abbrev pub map_entries : {P Q : Type 0} → (P → Q) → List (ArpEntry P) → List (ArpEntry Q)
map_entries f table = map (map_entry f) table

-- an entry without the packet that waits: only whether one does
abbrev pub key_of : {P : Type 0} → ArpEntry P → ArpEntry (Unit {0})
key_of e = map_entry (λ _. tt) e

-- what a table knows of addresses, without the packets that wait
abbrev pub keys_of : {P : Type 0} → List (ArpEntry P) → List (ArpEntry (Unit {0}))
keys_of table = map_entries (λ _. tt) table

-- what is true of every table: it is short, no two entries have one address, none has outlived its time, and packets
-- wait at pending entries alone
pub record IsTable {P : Type 0} (table : List (ArpEntry P)) : Type 0 where
  pub few : length table ≤ 10
  pub apart : AllPairs (λ (x y : ArpEntry P). x.ip.0 ≢ y.ip.0) table
  pub young : All (λ (e : ArpEntry P). e.age < lifetime e) table
  pub idle : All (λ (e : ArpEntry P). IsTrue (is_stable e) → e.packet ≡ None) table

-- New entries, and entries that make room

-- whether x goes sooner than y: a stable entry before a pending one, and of two alike the one of the greater age
abbrev pub goes_sooner : {P : Type 0} → ArpEntry P → ArpEntry P → Bool
goes_sooner x y =
    if is_stable x then not (is_stable y) || nat_lt y.age x.age
    else not (is_stable y) && nat_lt y.age x.age

-- the place of the oldest entry: the first than which none goes sooner
abbrev pub oldest_place : {P : Type 0} → List (ArpEntry P) → Option ℕ
oldest_place table = position (λ y. not (list_any (λ x. goes_sooner x y) table)) table

-- the place of the entry that makes room for one more: the oldest of a full table, none of another
abbrev pub place_to_free : {P : Type 0} → List (ArpEntry P) → Option ℕ
place_to_free table = if nat_lt (length table) 10 then None else oldest_place table

-- the packet that waits at the entry that makes room
abbrev pub given_up : {P : Type 0} → List (ArpEntry P) → Option P
given_up table = option_and_then (λ e. e.packet) (option_and_then (slice_get table) (place_to_free table))

-- the table without the entry at a place, if one is given
abbrev pub without : {P : Type 0} → List (ArpEntry P) → Option ℕ → List (ArpEntry P)
without table (Some i) = remove table i
without table None = table

-- the table with room for one entry more
abbrev pub with_room : {P : Type 0} → List (ArpEntry P) → List (ArpEntry P)
with_room table = without table (place_to_free table)

-- the table with a new entry, which stands at the end
abbrev pub added : {P : Type 0} → List (ArpEntry P) → ArpEntry P → List (ArpEntry P)
added table e = with_room table ++ e ∷ []

-- the table with the entry of an address changed, in its place
abbrev pub changed : {P : Type 0} → List (ArpEntry P) → Ip → (ArpEntry P → ArpEntry P) → List (ArpEntry P)
changed table ip f = map (λ e. if is_of ip e then f e else e) table

-- Lookups, and packets that wait

-- the table after a lookup: an unknown address gets a pending entry, and use doesn't refresh one
abbrev pub looked_up : {P : Type 0} → List (ArpEntry P) → Ip → List (ArpEntry P)
looked_up table ip = if is_some (entry_of table ip) then table else added table (pending ip)

-- the answer to a lookup, by the state of the address and the packet at the entry that makes room for a new one
abbrev pub next_by : {P : Type 0} → EntryState → Option P → Next P
next_by (Stable mac) packet = Known mac
next_by Pending packet = Wait
next_by Empty packet = Ask packet

-- the packet that an answer gives back
abbrev pub given_back : {P : Type 0} → Next P → Option P
given_back (Known mac) = None
given_back (Ask packet) = packet
given_back Wait = None

-- the table in which a packet waits for an address, in place of any other: the latest is kept (RFC 1122, section 2.3.2.2)
abbrev pub held : {P : Type 0} → List (ArpEntry P) → Ip → P → List (ArpEntry P)
held table ip packet = changed table ip (λ e. record e { packet = Some packet })

-- What an ARP packet brings (RFC 826, "Packet Reception")

-- what a packet is to a table: nothing where it comes from the own address; else news of its sender's entry, which is
-- made where the packet is for the own address and its sender has an address
abbrev pub lesson : {P : Type 0} → Ip → List (ArpEntry P) → ArpPacket → Lesson
lesson own table p =
    if p.sip.0 == own.0 then Nothing
    else if is_some (entry_of table p.sip) then Update
    else if (p.tip.0 == own.0) && not (p.sip.0 == 0) then Make
    else Nothing

-- an entry that was told its hardware address just now; nothing waits for it any more
abbrev pub told : {P : Type 0} → Mac → ArpEntry P → ArpEntry P
told mac e = record e { mac = Some mac; age = 0; packet = None }

-- a packet that is answered: a request for the own address from another one
abbrev pub is_answered : Ip → ArpPacket → Bool
is_answered own p = not (p.sip.0 == own.0) && ((p.tip.0 == own.0) && (p.op == 1))

-- what a packet is to a table, whether it is answered, and its sender's addresses
abbrev pub learn_plan : {P : Type 0} → Ip → List (ArpEntry P) → ArpPacket → LearnPlan
learn_plan own table p = record { lesson = lesson own table p; answer = is_answered own p; ip = p.sip; mac = p.smac }

-- the table after a lesson on these addresses
abbrev pub taught : {P : Type 0} → Lesson → List (ArpEntry P) → Ip → Mac → List (ArpEntry P)
taught Nothing table ip mac = table
taught Update table ip mac = changed table ip (told mac)
taught Make table ip mac = added table (stable ip mac)

-- the packet that goes out after a lesson: the one that waited for the sender
abbrev pub let_out : {P : Type 0} → Lesson → List (ArpEntry P) → Ip → Option P
let_out Nothing table ip = None
let_out Update table ip = waiting table ip
let_out Make table ip = None

-- the packet that is lost by a lesson: the one at the entry that made room
abbrev pub displaced_by : {P : Type 0} → Lesson → List (ArpEntry P) → Option P
displaced_by Nothing table = None
displaced_by Update table = None
displaced_by Make table = given_up table

-- the table after a plan, and the packet that goes out by it
abbrev pub taught_by : {P : Type 0} → LearnPlan → List (ArpEntry P) → List (ArpEntry P)
taught_by plan table = taught plan.lesson table plan.ip plan.mac

abbrev pub sent_by : {P : Type 0} → LearnPlan → List (ArpEntry P) → Option P
sent_by plan table = let_out plan.lesson table plan.ip

-- what a packet teaches: the table after it
abbrev pub learnt : {P : Type 0} → Ip → List (ArpEntry P) → ArpPacket → List (ArpEntry P)
learnt own table p = taught_by (learn_plan own table p) table

-- the waiting packet that goes out after a packet
abbrev pub released : {P : Type 0} → Ip → List (ArpEntry P) → ArpPacket → Option P
released own table p = sent_by (learn_plan own table p) table

-- the waiting packet that is lost by a packet
abbrev pub displaced : {P : Type 0} → Ip → List (ArpEntry P) → ArpPacket → Option P
displaced own table p = displaced_by (lesson own table p) table

-- A tick

-- an entry one tick older
abbrev pub older : {P : Type 0} → ArpEntry P → ArpEntry P
older e = record e { age = e.age + 1 }

-- an entry whose time is over
abbrev pub is_over : {P : Type 0} → ArpEntry P → Bool
is_over e = nat_le (lifetime e) e.age

-- a pending entry whose request is repeated, at ages 4, 8, 12 and 16
abbrev pub asks_again : {P : Type 0} → ArpEntry P → Bool
asks_again e = not (is_stable e) && ((e.age == 4) || (e.age == 8) || (e.age == 12) || (e.age == 16))

-- the table after a tick: all entries are older, and those whose time is over are gone
abbrev pub aged : {P : Type 0} → List (ArpEntry P) → List (ArpEntry P)
aged table = filter (λ e. not (is_over e)) (map older table)

-- the addresses that are asked for again at a tick
abbrev pub asked_again : {P : Type 0} → List (ArpEntry P) → List Ip
asked_again table = map (λ (e : ArpEntry _). e.ip) (filter asks_again (map older table))

-- the packets at the entries that go at a tick
abbrev pub expired : {P : Type 0} → List (ArpEntry P) → List P
expired table = packets (filter is_over (map older table))
