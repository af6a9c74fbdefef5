-- The frames that go out are short, since hardware addresses have six octets and packets fit one frame.
use Rattle.std.proofs.Common.{ℕ, zero, suc, ◌≤◌, ◌-◌, Bool, true, false, List, [], ◌∷◌, length, All, Option, Some, None, Result, Ok, Err, take, drop, map, arith, if◌then◌else◌, is_some, IfSome, replicate, option_and_then, slice_get}
use Rattle.std.specs.List.{find}
use Rattle.std.specs.Option.{option_map, option_map_or}
use Rattle.std.proofs.lemmas.List.{length-append, length-take}
use Rattle.std.proofs.lemmas.List.Elements.{All-nil, All-cons, All-append, All-take, All-drop, All-head, All-tail}
use Rattle.lw_base.specs.declared.addresses.Ip.{Ip}
use Rattle.lw_base.specs.declared.addresses.Mac.{Mac}
use Rattle.lw_base.specs.declared.addresses.Net.{Net}
use Rattle.lw_base.specs.declared.errors.Err.{Err as Code}
use Rattle.lw_base.specs.declared.heads.ArpPacket.{ArpPacket}
use Rattle.lw_base.specs.declared.heads.IpHead.{IpHead}
use Rattle.lw_netif.specs.Route.{route_of}
use Rattle.lw_arp.specs.declared.entries.ArpEntry.{ArpEntry}
use Rattle.lw_arp.specs.declared.entries.EntryState.{EntryState}
use Rattle.lw_arp.specs.declared.entries.EntryState.TheVariants.{Stable, Pending, Empty}
use Rattle.lw_arp.specs.declared.entries.Lesson.{Lesson}
use Rattle.lw_arp.specs.declared.entries.Lesson.TheVariants.{Nothing, Update, Make}
use Rattle.lw_arp.specs.Neighbours.{added, changed, entry_of, is_answered, is_of, learnt, lesson, let_out, looked_up, pending, place_to_free, released, stable, state_by, state_of, taught, told, with_room, without}
use Rattle.lw_frag.specs.Pieces.{Piece, octets_of, pieces_of}
use Rattle.lw_frag.specs.Laws.{IsPieceOf}
use Rattle.lw_frag.proofs.PiecesLaws.{pieces-each}
use Rattle.lw_wire.specs.Ip.{ip_spelling}
use Rattle.lw_link.proofs.FrameLaws.{length-ip_spelling}
use Rattle.lw_link.specs.Sound.{IsShort, IsSix, IsSound, IsSoundWay}
use Rattle.lw_link.specs.Way.{Way, arp_answer, arp_frame, arp_input, arp_reply, arp_request, asks, by_route, emit, knows, last_of, mtu, packet, packet_frame, packets, released_to, sends, takes_id, to_hop, waiting_in, IsPacket}

-- Lists

-- what is found in a list is one of it
found_in : {A : Type 0} (P : A → Type 0) (test : A → Bool) (xs : List A) → All P xs → IfSome (find test xs) P
found_in P test [] all = tt
found_in P test (x ∷ xs) all =
    elim (test x) as (λ b. IfSome (if b then Some x else find test xs) P) [
      | true ↦ All-head P x xs all
      | false ↦ found_in P test xs (All-tail P x xs all)
    ]

-- what stands at a place of a list is one of it
stands_in : {A : Type 0} (P : A → Type 0) (xs : List A) (i : ℕ) → All P xs → IfSome (slice_get xs i) P
stands_in P [] i all = tt
stands_in P (x ∷ xs) zero all = All-head P x xs all
stands_in P (x ∷ xs) (suc i) all = stands_in P xs i (All-tail P x xs all)

-- each element of a list was changed
all_changed : {A B : Type 0} (P : A → Type 0) (Q : B → Type 0) (f : A → B) (xs : List A) → ((x : A) → P x → Q (f x)) → All P xs → All Q (map f xs)
all_changed P Q f [] keeps all = All-nil Q
all_changed P Q f (x ∷ xs) keeps all =
    All-cons Q (f x) (map f xs) (keeps x (All-head P x xs all)) (all_changed P Q f xs keeps (All-tail P x xs all))

-- Tables

-- a table in which the entry of an address was changed
changed_sound : (table : List (ArpEntry (List ℕ))) (ip : Ip) (f : ArpEntry (List ℕ) → ArpEntry (List ℕ)) → ((e : ArpEntry (List ℕ)) → IsSound e → IsSound (f e)) → All IsSound table → All IsSound (changed table ip f)
changed_sound table ip f keeps sound =
    all_changed IsSound IsSound (λ e. if is_of ip e then f e else e) table
    (λ e own. elim (is_of ip e) as (λ b. IsSound (if b then f e else e)) [ true ↦ keeps e own | false ↦ own ]) sound

-- a table without one entry
without_sound : (table : List (ArpEntry (List ℕ))) (place : Option ℕ) → All IsSound table → All IsSound (without table place)
without_sound table (Some i) sound =
    All-append IsSound (take i table) (drop (suc i) table) (All-take IsSound i table sound) (All-drop IsSound (suc i) table sound)
without_sound table None sound = sound

-- a table with one entry more
added_sound : (table : List (ArpEntry (List ℕ))) (e : ArpEntry (List ℕ)) → All IsSound table → IsSound e → All IsSound (added table e)
added_sound table e sound own =
    All-append IsSound (with_room table) (e ∷ []) (without_sound table (place_to_free table) sound) (All-cons IsSound e [] own (All-nil IsSound))

-- a table after a lesson
taught_sound : (l : Lesson) (table : List (ArpEntry (List ℕ))) (ip : Ip) (mac : Mac) → IsSix mac → All IsSound table → All IsSound (taught l table ip mac)
taught_sound Nothing table ip mac six sound = sound
taught_sound Update table ip mac six sound = changed_sound table ip (told mac) (λ e own. record { mac = six; packet = tt }) sound
taught_sound Make table ip mac six sound = added_sound table (stable ip mac) sound (record { mac = six; packet = tt })

-- a table after a lookup
looked_up_sound : (table : List (ArpEntry (List ℕ))) (ip : Ip) → All IsSound table → All IsSound (looked_up table ip)
looked_up_sound table ip sound =
    elim (is_some (entry_of table ip)) as (λ b. All IsSound (if b then table else added table (pending ip))) [
      | true ↦ sound
      | false ↦ added_sound table (pending ip) sound (record { mac = tt; packet = tt })
    ]

-- what waits fits one frame
abbrev FitsWaits : Option (Ip × List ℕ) → Type 0
FitsWaits waits = IfSome waits (λ w. IsPacket w.1)

-- a table in which a packet waits
waiting_sound : (table : List (ArpEntry (List ℕ))) (waits : Option (Ip × List ℕ)) → FitsWaits waits → All IsSound table → All IsSound (waiting_in table waits)
waiting_sound table (Some w) fits sound =
    changed_sound table w.0 (λ e. record e { packet = Some w.1 }) (λ e own. record { mac = own.mac; packet = fits }) sound
waiting_sound table None fits sound = sound

-- the packet of an entry that was found fits one frame
packet_found : (o : Option (ArpEntry (List ℕ))) → IfSome o IsSound → IfSome (option_and_then (λ (e : ArpEntry (List ℕ)). e.packet) o) IsPacket
packet_found (Some e) sound = sound.packet
packet_found None sound = tt

-- so does the one that goes out after a lesson
pub let_out_fits : (l : Lesson) (table : List (ArpEntry (List ℕ))) (ip : Ip) → All IsSound table → IfSome (let_out l table ip) IsPacket
let_out_fits Nothing table ip sound = tt
let_out_fits Update table ip sound = packet_found (entry_of table ip) (found_in IsSound (is_of ip) table sound)
let_out_fits Make table ip sound = tt

-- the hardware address that a table has
abbrev IsSixState : EntryState → Type 0
IsSixState (Stable mac) = IsSix mac
IsSixState Pending = Unit {0}
IsSixState Empty = Unit {0}

state_by_six : (mac : Option Mac) → IfSome mac IsSix → IsSixState (state_by mac)
state_by_six (Some mac) six = six
state_by_six None six = tt

state_six : (o : Option (ArpEntry (List ℕ))) → IfSome o IsSound → IsSixState (option_map_or (λ (e : ArpEntry (List ℕ)). state_by e.mac) o Empty)
state_six (Some e) sound = state_by_six e.mac sound.mac
state_six None sound = tt

-- Frames and packets

packet_frame_short : (net : Net) (mac : Mac) (octets : List ℕ) → IsSix net.mac → IsSix mac → IsPacket octets → IsShort (packet_frame net mac octets)
packet_frame_short net mac octets own other packet = let fits = packet.fits in simp length-append (omega arith)

arp_frame_short : (net : Net) (op : ℕ) (dst tmac : Mac) (tip : Ip) → IsSix net.mac → IsSix dst → IsSix tmac → IsShort (arp_frame net op dst tmac tip)
arp_frame_short net op dst tmac tip own first second = simp length-append (omega arith)

-- a packet of a datagram fits one frame
piece_fits : (h : IpHead) (body : List ℕ) (p : Piece) → IsPieceOf h (length body) mtu p → IsPacket (packet body p)
piece_fits h body p is =
    let fits = is.fits in
    let head = length-ip_spelling p.0 in
    let whole = length-append (ip_spelling p.0) (octets_of body p) in
    let part = length-take p.2 (drop p.1 body) in
    record { some = omega (arith, head, whole); fits = omega (arith, head, whole, part, fits) }

pub packets_fit : (h : IpHead) (body : List ℕ) → All IsPacket (packets h body)
packets_fit h body =
    all_changed (IsPieceOf h (length body) mtu) IsPacket (packet body) (pieces_of h (length body) mtu) (λ p is. piece_fits h body p is)
    (pieces-each h (length body) mtu (omega arith))

-- the packet that is to wait fits one frame
last_fits : (may : Bool) (hop : Ip) (ps : List (List ℕ)) → All IsPacket ps → FitsWaits (last_of may hop ps)
last_fits true hop ps fit = one (slice_get ps (length ps - 1)) (stands_in IsPacket ps (length ps - 1) fit)
  where
    one : (o : Option (List ℕ)) → IfSome o IsPacket → FitsWaits (option_map (λ p. (hop, p)) o)
    one (Some p) fits = fits
    one None fits = tt
last_fits false hop ps fit = tt

-- Ways

-- short frames go out
sends_sound : (w : Way) (fs : List (List ℕ)) → All IsShort fs → IsSoundWay w → IsSoundWay (sends w fs)
sends_sound w fs short sound = record { own = sound.own; others = sound.others; frames = All-append IsShort w.out fs sound.frames short }

-- sound entries are known
knows_sound : (w : Way) (table : List (ArpEntry (List ℕ))) → All IsSound table → IsSoundWay w → IsSoundWay (knows w table)
knows_sound w table others sound = record { own = sound.own; others = others; frames = sound.frames }

pub asks_sound : (w : Way) (ip : Ip) → IsSoundWay w → IsSoundWay (asks w ip)
asks_sound w ip sound =
    sends_sound w (arp_request w.link.net ip ∷ [])
    (All-cons IsShort (arp_request w.link.net ip) []
    (arp_frame_short w.link.net 1 (record { 0 = replicate 6 255 }) (record { 0 = replicate 6 0 }) ip sound.own (omega arith) (omega arith)) (All-nil IsShort)) sound

hop_sound : (may : Bool) (w : Way) (hop : Ip) (ps : List (List ℕ)) (s : EntryState) → All IsPacket ps → IsSixState s → IsSoundWay w → IsSoundWay (to_hop may w hop ps s)
hop_sound may w hop ps (Stable mac) fit six sound =
    sends_sound w (map (packet_frame w.link.net mac) ps)
    (all_changed IsPacket IsShort (packet_frame w.link.net mac) ps (λ p packet. packet_frame_short w.link.net mac p sound.own six packet) fit) sound
hop_sound may w hop ps Pending fit six sound =
    knows_sound w (waiting_in w.link.neighbours (last_of may hop ps)) (waiting_sound w.link.neighbours (last_of may hop ps) (last_fits may hop ps fit) sound.others) sound
hop_sound may w hop ps Empty fit six sound =
    let table = looked_up w.link.neighbours hop in
    knows_sound (asks w hop) (waiting_in table (last_of may hop ps))
    (waiting_sound table (last_of may hop ps) (last_fits may hop ps fit) (looked_up_sound w.link.neighbours hop sound.others)) (asks_sound w hop sound)

route_sound : (may : Bool) (w : Way) (h : IpHead) (body : List ℕ) (route : Result Ip Code) → IsSoundWay w → IsSoundWay (by_route may w h body route)
route_sound may w h body (Ok hop) sound =
    hop_sound may (takes_id w) hop (packets (record h { id = w.link.next_id }) body) (state_of w.link.neighbours hop)
    (packets_fit (record h { id = w.link.next_id }) body)
    (state_six (entry_of w.link.neighbours hop) (found_in IsSound (is_of hop) w.link.neighbours sound.others))
    (record { own = sound.own; others = sound.others; frames = sound.frames })
route_sound may w h body (Err none) sound = sound

-- a datagram goes out
pub emit_sound : (may : Bool) (w : Way) (h : IpHead) (body : List ℕ) → IsSoundWay w → IsSoundWay (emit may w h body)
emit_sound may w h body sound = route_sound may w h body (route_of w.link.net h.dst) sound

-- a request is answered
pub answer_sound : (w : Way) (p : ArpPacket) → IsSix p.smac → IsSoundWay w → IsSoundWay (arp_answer w p)
answer_sound w p six sound =
    elim (is_answered w.link.net.ip p) as (λ b. IsSoundWay (if b then sends w (arp_reply w.link.net p ∷ []) else w)) [
      | true ↦ sends_sound w (arp_reply w.link.net p ∷ [])
          (All-cons IsShort (arp_reply w.link.net p) [] (arp_frame_short w.link.net 2 p.smac p.smac p.sip sound.own six six) (All-nil IsShort)) sound
      | false ↦ sound
    ]

-- a packet that waited goes out
pub released_sound : (w : Way) (mac : Mac) (o : Option (List ℕ)) → IsSix mac → IfSome o IsPacket → IsSoundWay w → IsSoundWay (released_to w mac o)
released_sound w mac (Some octets) six fits sound =
    sends_sound w (packet_frame w.link.net mac octets ∷ [])
    (All-cons IsShort (packet_frame w.link.net mac octets) [] (packet_frame_short w.link.net mac octets sound.own six fits) (All-nil IsShort)) sound
released_sound w mac None six fits sound = sound

-- an ARP packet is taken in
pub input_sound : (w : Way) (p : ArpPacket) → IsSix p.smac → IsSoundWay w → IsSoundWay (arp_input w p)
input_sound w p six sound =
    let own = w.link.net.ip in
    let table = w.link.neighbours in
    let l = lesson own table p in
    let learns = knows_sound w (learnt own table p) (taught_sound l table p.sip p.smac six sound.others) sound in
    released_sound (arp_answer (knows w (learnt own table p)) p) p.smac (released own table p) six (let_out_fits l table p.sip sound.others)
    (answer_sound (knows w (learnt own table p)) p six learns)
