-- The way out stays sound over an event.
use Rattle.std.proofs.Common.{◌≡◌, ℕ, ◌<◌, ◌^◌, ◌==◌, ◌&&◌, Bool, true, false, List, [], ◌∷◌, All, IfErr, IfOk, IfSome, Option, Some, None, Result, Ok, Err, arith, drop, length, map, nat_lt, subst, sym, if◌then◌else◌}
use Rattle.std.specs.List.{cons_option}
use Rattle.std.specs.Option.{option_map}
use Rattle.std.proofs.lemmas.List.{length-take}
use Rattle.std.proofs.lemmas.List.Elements.{All-nil, All-cons, All-head, All-tail}
use Rattle.lw_base.specs.declared.addresses.Ip.{Ip}
use Rattle.lw_base.specs.declared.addresses.Net.{Net}
use Rattle.lw_base.specs.declared.heads.ArpPacket.{ArpPacket}
use Rattle.lw_base.specs.declared.heads.EthHead.{EthHead}
use Rattle.lw_base.specs.declared.heads.IpHead.{IpHead}
use Rattle.lw_wire.specs.declared.fault.WireFault.{WireFault}
use Rattle.lw_wire.specs.declared.fault.WireFault.TheVariants.{Short, BadField}
use Rattle.lw_wire.specs.Fields.{u16_at}
use Rattle.lw_wire.specs.Eth.{eth_of}
use Rattle.lw_wire.specs.Arp.{arp_fields, arp_of, is_arp_operation, is_ethernet_ipv4}
use Rattle.lw_wire.specs.Ip.{ip_of}
use Rattle.lw_arp.specs.declared.entries.ArpEntry.{ArpEntry}
use Rattle.lw_arp.specs.declared.entries.Lesson.TheVariants.{Update}
use Rattle.lw_arp.specs.Neighbours.{map_entries, packets, waiting}
use Rattle.lw_arp.proofs.MapLaws.{packets-map_entries, waiting-map_entries}
use Rattle.lw_link.specs.Way.{Way, sent_head, IsPacket}
use Rattle.lw_link.specs.Sound.{IsShort, IsSix, IsSound, IsSoundWay}
use Rattle.lw_link.proofs.ShortLaws.{emit_sound, input_sound, let_out_fits}
use Rattle.lw_reass.specs.Datagrams.{added, whole_in}
use Rattle.lw_input.specs.declared.arrival.Arrival.{Arrival}
use Rattle.lw_input.specs.declared.arrival.Arrival.TheVariants.{Arp, Datagram, Nothing}
use Rattle.lw_layers.specs.Calls.{HasVariables}
use Rattle.lw_input.specs.Arrivals.{arp_brings, arrival_of, data_brings, data_in, datagram_brings, frame_brings, header_in, is_taken}
use Rattle.lw_input.specs.Datagrams.{is_accepted, is_fragment}
use Rattle.lw_input.specs.Input.{begun, brought, by_added, icmp_output, ip_input, moved, moved_by, whole_header, whole_input}
use Rattle.lw_udp.specs.declared.ends.UdpEnd.{UdpEnd}
use Rattle.lw_input.specs.State.{State}
use Rattle.lw_layers.specs.Step.{frame_granted}

icmp_sound : (net : Net) (w : Way) (dst : Ip) (message : Option (List ℕ)) → IsSoundWay w → IsSoundWay (icmp_output net w dst message)
icmp_sound net w dst (Some message) sound = emit_sound true w (sent_head net 1 dst) message sound
icmp_sound net w dst None sound = sound

pub ip_sound : (net : Net) (ends : List UdpEnd) (w : Way) (h : IpHead) (header body : List ℕ) → IsSoundWay w → IsSoundWay (ip_input net ends w h header body).0
ip_sound net ends w h header body sound = icmp_sound net w h.src (brought net ends h header body).message sound

pub whole_sound : (net : Net) (ends : List UdpEnd) (w : Way) (o : Option (IpHead × List ℕ)) → IsSoundWay w → IsSoundWay (whole_input net ends w o).0
whole_sound net ends w (Some d) sound = ip_sound net ends w d.0 (whole_header d.0) d.1 sound
whole_sound net ends w None sound = sound

-- The packets that wait

one_fits : (o : Option (List ℕ)) (ps : List (List ℕ)) → IfSome o IsPacket → All IsPacket ps → All IsPacket (cons_option o ps)
one_fits None ps fits all = all
one_fits (Some p) ps fits all = All-cons IsPacket p ps fits all

packets_fit : (es : List (ArpEntry (List ℕ))) → All IsSound es → All IsPacket (packets es)
packets_fit [] all = All-nil IsPacket
packets_fit (e ∷ es) all = one_fits e.packet (packets es) (All-head IsSound e es all).packet (packets_fit es (All-tail IsSound e es all))

-- each payload that stands for one has octets
each_some : {P : Type 0} (f : P → List ℕ) (ps : List P) → All IsPacket (map f ps) → All (λ p. 0 < length (f p)) ps
each_some {P} f [] all = All-nil (λ (p : P). 0 < length (f p))
each_some {P} f (p ∷ ps) all = All-cons (λ (x : P). 0 < length (f x)) p ps (All-head IsPacket (f p) (map f ps) all).some (each_some f ps (All-tail IsPacket (f p) (map f ps) all))

pub waiting_some : {P : Type 0} (f : P → List ℕ) (t : List (ArpEntry P)) → All IsSound (map_entries f t) → All (λ p. 0 < length (f p)) (packets t)
waiting_some f t sound = each_some f (packets t) (subst (λ (xs : List (List ℕ)). All IsPacket xs) (packets-map_entries f t) (packets_fit (map_entries f t) sound))

-- the packet that waits for an address is short
some_short : {P : Type 0} (f : P → List ℕ) (o : Option P) → IfSome (option_map f o) IsPacket → IfSome o (λ p. length (f p) < 2 ^ 32)
some_short f (Some p) fits = let few = fits.fits in omega (arith, few)
some_short f None fits = tt

pub waiting_short : {P : Type 0} (f : P → List ℕ) (t : List (ArpEntry P)) (ip : Ip) → All IsSound (map_entries f t) → IfSome (waiting t ip) (λ p. length (f p) < 2 ^ 32)
waiting_short f t ip sound =
    some_short f (waiting t ip) (subst (λ (o : Option (List ℕ)). IfSome o IsPacket) (waiting-map_entries f t ip) (let_out_fits Update (map_entries f t) ip sound))

-- What a frame brings

-- the sender of an ARP packet has a hardware address of six octets
abbrev pub IsSixArrival : Arrival → Type 0
IsSixArrival (Arp p) = IsSix p.smac
IsSixArrival (Datagram h) = Unit {0}
IsSixArrival Nothing = Unit {0}

arp_six : (octets : List ℕ) → IfOk (arp_of octets) (λ p. IsSix p.smac)
arp_six octets =
    elim (nat_lt (length octets) 28) as (λ b. IfOk (if b then Err Short else (if is_ethernet_ipv4 octets && is_arp_operation (u16_at 6 octets) then Ok (arp_fields octets) else Err BadField)) (λ p. IsSix p.smac)) [
      | true ↦ tt
      | false ↦ elim (is_ethernet_ipv4 octets && is_arp_operation (u16_at 6 octets)) as (λ b. IfOk (if b then Ok (arp_fields octets) else Err BadField) (λ p. IsSix p.smac)) [
        | true ↦ let part = length-take 6 (drop 8 octets) in omega (arith, part)
        | false ↦ tt
      ]
    ]

arp_brings_six : (r : Result ArpPacket WireFault) → IfOk r (λ p. IsSix p.smac) → IsSixArrival (arp_brings r)
arp_brings_six (Ok p) six = six
arp_brings_six (Err fault) six = tt

datagram_brings_six : (net : Net) (r : Result (IpHead × ℕ) WireFault) → IsSixArrival (datagram_brings net r)
datagram_brings_six net (Ok r) = elim (is_accepted net r.0) as (λ b. IsSixArrival (if b then Datagram r.0 else Nothing)) [ true ↦ tt | false ↦ tt ]
datagram_brings_six net (Err fault) = tt

data_brings_six : (net : Net) (ethertype : ℕ) (octets : List ℕ) → IsSixArrival (data_brings net ethertype octets)
data_brings_six net ethertype octets =
    elim (ethertype == 0x0806) as (λ b. IsSixArrival (if b then arp_brings (arp_of octets) else (if ethertype == 0x0800 then datagram_brings net (ip_of octets) else Nothing))) [
      | true ↦ arp_brings_six (arp_of octets) (arp_six octets)
      | false ↦ elim (ethertype == 0x0800) as (λ b. IsSixArrival (if b then datagram_brings net (ip_of octets) else Nothing)) [
        | true ↦ datagram_brings_six net (ip_of octets)
        | false ↦ tt
      ]
    ]

pub frame_brings_six : (net : Net) (octets : List ℕ) (r : Result (EthHead × ℕ) WireFault) → IsSixArrival (frame_brings net octets r)
frame_brings_six net octets (Ok r) =
    elim (is_taken net r.0.dst) as (λ b. IsSixArrival (if b then data_brings net r.0.ethertype (drop r.1 octets) else Nothing)) [
      | true ↦ data_brings_six net r.0.ethertype (drop r.1 octets)
      | false ↦ tt
    ]
frame_brings_six net octets (Err fault) = tt

-- what an arrival moves
pub moved_sound : (s : State) (frame : List ℕ) (a : Arrival) → IsSixArrival a → IsSoundWay (begun s) → IsSoundWay (moved s frame a).way
moved_sound s frame (Arp p) six sound = input_sound (begun s) p six sound
moved_sound s frame (Datagram h) six sound =
    let ends = s.endpoints.udp.ends in
    elim (is_fragment h) as (λ b. IsSoundWay (if b then by_added s.link.net ends (begun s) (added s.fragments h (data_in frame h)) else moved_by (ip_input s.link.net ends (begun s) h (header_in frame h) (data_in frame h)) s.fragments).way) [
      | true ↦ whole_sound s.link.net ends (begun s) (whole_in (added s.fragments h (data_in frame h)).outcome) sound
      | false ↦ ip_sound s.link.net ends (begun s) h (header_in frame h) (data_in frame h) sound
    ]
moved_sound s frame Nothing six sound = sound

-- the next event begins soundly
pub ended_sound : (w : Way) → IsSoundWay w → IsSoundWay (record { link = w.link; out = [] })
ended_sound w sound = record { own = sound.own; others = sound.others; frames = All-nil IsShort }

-- a frame leaves the way out sound, whether RAM was short for it or not
pub granted_sound : (s : State) (octets : List ℕ) (short : Bool) (places : List Bool) → IsSoundWay (begun s) → IsSoundWay (begun (frame_granted s octets short places).state)
granted_sound s octets true places sound = sound
granted_sound s octets false places sound =
    let a = arrival_of s.link.net octets in
    ended_sound (moved s octets a).way (moved_sound s octets a (frame_brings_six s.link.net octets (eth_of octets)) sound)

-- it leaves how many variables there are
pub granted_variables : (s : State) (octets : List ℕ) (short : Bool) (places : List Bool) → HasVariables s → HasVariables (frame_granted s octets short places).state
granted_variables s octets true places has = has
granted_variables s octets false places has = has

-- what holds of a state, and of all that a frame may leave of it, holds of what receiving one leaves, or finding no memory for it
pub received_by : {A E : Type 0} (Q : State → Type 0) (s t : State) (octets : List ℕ) (short : A → Bool) (places : A → List Bool) (B : E → Type 0) (r : Result A E) → Q s
    → ((b : Bool) (found : List Bool) → Q (frame_granted s octets b found).state) → IfOk r (λ x. t ≡ (frame_granted s octets (short x) (places x)).state) → ((e : E) → B e → t ≡ s) → IfErr r B → Q t
received_by Q s t octets short places B (Ok x) here each ok same err = subst Q (sym ok) (each (short x) (places x))
received_by Q s t octets short places B (Err e) here each ok same err = subst Q (sym (same e err)) here
