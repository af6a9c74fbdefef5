-- What a frame brings that is spelled in order, and what goes out in one packet.
use Rattle.std.proofs.Common.{◌≡◌, ℕ, ◌+◌, ◌-◌, ◌*◌, ◌≤◌, ◌++◌, ◌∙◌, ◌⊎◌, inl, inr, true, false, List, [], ◌∷◌, Ok, map, length, take, drop, replicate, slice_range, refl, sym, ap, subst, arith}
use Rattle.std.specs.Cmp.Lexicographic.{pointwise}
use Rattle.std.specs.Prelude.{nat_eq}
use Rattle.std.specs.Int.{div_ceil}
use Rattle.std.proofs.lemmas.List.{take_all, drop-drop, drop_at}
use Rattle.std.proofs.lemmas.Bool.{eq-eqb}
use Rattle.std.proofs.Math.Bool.{or-true}
use Rattle.lw_base.specs.declared.addresses.Ip.{Ip}
use Rattle.lw_base.specs.declared.addresses.Mac.{Mac}
use Rattle.lw_base.specs.declared.addresses.Net.{Net}
use Rattle.lw_base.specs.declared.heads.EthHead.{EthHead}
use Rattle.lw_base.specs.declared.heads.IpHead.{IpHead}
use Rattle.lw_frag.specs.Pieces.{full_count, full_pieces, piece}
use Rattle.lw_wire.specs.Eth.{eth_spelling, HasEthSpelling}
use Rattle.lw_wire.specs.Ip.{ip_spelling}
use Rattle.lw_wire.proofs.EthLaws.{eth-read_back}
use Rattle.lw_netif.specs.Route.{route_of}
use Rattle.lw_arp.specs.declared.entries.EntryState.TheVariants.{Stable}
use Rattle.lw_arp.specs.Neighbours.{state_of}
use Rattle.lw_link.specs.Way.{Way, emit, packet, packet_frame, packets, sends, takes_id}
use Rattle.lw_input.specs.Arrivals.{arrival_of, data_brings, is_taken}

-- a list is the same as itself, octet by octet
pointwise-self : (xs : List ℕ) → pointwise nat_eq xs xs ≡ true
pointwise-self [] = refl
pointwise-self (x ∷ xs) = rw (eq-eqb x x refl) (pointwise-self xs)

-- a frame for the own address or for all is taken
pub taken : (net : Net) (dst : Mac) → (dst ≡ net.mac) ⊎ (dst.0 ≡ replicate 6 255) → is_taken net dst ≡ true
taken net dst (inl own) = subst (λ (m : Mac). is_taken net m ≡ true) (sym own) (rw (pointwise-self net.mac.0) refl)
taken net dst (inr all) =
    let e : pointwise nat_eq dst.0 (replicate 6 255) ≡ true = subst (λ (xs : List ℕ). pointwise nat_eq xs (replicate 6 255) ≡ true) (sym all) refl in
    rw e (or-true (pointwise nat_eq dst.0 net.mac.0))

-- what a frame brings is what its data brings
pub frame-brings : (net : Net) (e : EthHead) (octets : List ℕ) → HasEthSpelling e → is_taken net e.dst ≡ true
    → arrival_of net (eth_spelling e ++ octets) ≡ data_brings net e.ethertype octets
frame-brings net e octets fits here =
    let read = eth-read_back e octets fits in
    rw (read.0, here, read.1) refl

-- a datagram that fits goes in one packet
one_by : (h : IpHead) (body : List ℕ) (c : ℕ) → c ≡ 0
    → map (packet body) (full_pieces h c 1480 ++ piece h (c * 1480) (length body - c * 1480) false ∷ [])
    ≡ (ip_spelling (record h { total = 20 + length body; offset = 0; mf = false }) ++ body) ∷ []
one_by h body c none =
    subst (λ (k : ℕ). map (packet body) (full_pieces h k 1480 ++ piece h (k * 1480) (length body - k * 1480) false ∷ [])
    ≡ (ip_spelling (record h { total = 20 + length body; offset = 0; mf = false }) ++ body) ∷ []) (sym none)
    (let all : length body - 0 ≡ length body = omega arith in
    rw (all, take_all (length body) body (omega arith)) refl)

pub one_packet : (h : IpHead) (body : List ℕ) → length body ≤ 1480
    → packets h body ≡ (ip_spelling (record h { total = 20 + length body; offset = 0; mf = false }) ++ body) ∷ []
one_packet h body few =
    let none : length body - 1480 ≡ 0 = omega arith in
    one_by h body (full_count (length body) 1500) (ap (λ (n : ℕ). div_ceil n 1480) none)

-- the data of a datagram whose header has no options stands behind 34 octets of its frame
pub data_at : (front octets : List ℕ) (head_len total n : ℕ) → length front ≡ 14 → head_len ≡ 20 → total ≡ 20 + n
    → slice_range (front ++ octets) (14 + head_len) (14 + total) ≡ take n (drop 20 octets)
data_at front octets head_len total n long is_head is_total =
    let size : 14 + total - (14 + head_len) ≡ n = omega arith in
    let place : 14 + head_len ≡ 14 + 20 = omega arith in
    let behind : drop (14 + 20) (front ++ octets) ≡ drop 20 octets =
    sym (drop-drop 20 14 (front ++ octets)) ∙ ap (drop 20) (drop_at front octets 14 long) in
    rw (size, place, behind) refl

-- a datagram that fits in one packet goes out in one frame, where the next hop is known
pub one_frame : (w : Way) (h : IpHead) (body : List ℕ) (hop : Ip) (mac : Mac) → length body ≤ 1480
    → route_of w.link.net h.dst ≡ Ok hop → state_of w.link.neighbours hop ≡ Stable mac
    → emit true w h body ≡ sends (takes_id w)
    (packet_frame w.link.net mac (ip_spelling (record h { total = 20 + length body; id = w.link.next_id; offset = 0; mf = false }) ++ body) ∷ [])
one_frame w h body hop mac few near known =
    rw (near, known, one_packet (record h { id = w.link.next_id }) body few) refl
