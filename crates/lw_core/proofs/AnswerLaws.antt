-- What the serial step does to an ARP request and to an echo request.
use Rattle.std.proofs.Common.{◌≡◌, ℕ, ◌+◌, ◌-◌, ◌^◌, ◌<◌, ◌++◌, ◌∙◌, ◌==◌, Bool, true, false, Option, Some, None, Ok, List, [], ◌∷◌, zero, suc, length, take, drop, slice_index, slice_range, Contains, is_some, refl, sym, ap, subst, arith, length-append, ne_eqb}
use Rattle.std.specs.Prelude.{if◌then◌else◌}
use Rattle.std.proofs.lemmas.List.{take_all}
use Rattle.std.proofs.lemmas.Bool.{eq-eqb}
use Rattle.lw_base.specs.declared.addresses.Ip.{Ip}
use Rattle.lw_base.specs.declared.addresses.Mac.{Mac}
use Rattle.lw_base.specs.declared.addresses.Net.{Net}
use Rattle.lw_base.specs.declared.heads.ArpPacket.{ArpPacket}
use Rattle.lw_base.specs.declared.heads.EthHead.{EthHead}
use Rattle.lw_base.specs.declared.heads.IcmpHead.{IcmpHead}
use Rattle.lw_base.specs.declared.heads.IpHead.{IpHead}
use Rattle.lw_base.specs.declared.heads.UdpHead.{UdpHead}
use Rattle.lw_conn.specs.Connections.{Connections}
use Rattle.lw_udp.specs.declared.ends.UdpEnd.{UdpEnd}
use Rattle.lw_udp.specs.Delivery.{best, claim_of, GoesNowhere}
use Rattle.lw_udp.specs.Ends.{Socket}
use Rattle.lw_udp.proofs.ClaimLaws.{delivery as delivery_law}
use Rattle.lw_netif.specs.Frames.{frames_left}
use Rattle.lw_arp.specs.Neighbours.{is_answered, learnt, released}
use Rattle.lw_icmp.specs.Messages.{echo_answer, echo_reply, echo_request}
use Rattle.lw_wire.specs.Eth.{eth_spelling, HasEthSpelling}
use Rattle.lw_wire.specs.Arp.{arp_spelling, HasArpSpelling}
use Rattle.lw_wire.specs.Ip.{ip_spelling, FitsIp, HasIpSpelling}
use Rattle.lw_wire.specs.Icmp.{icmp_spelling}
use Rattle.lw_wire.proofs.ArpLaws.{arp-read_back}
use Rattle.lw_wire.proofs.IpLaws.{ip-read_back}
use Rattle.lw_wire.specs.Udp.{udp_of, udp_spelling}
use Rattle.lw_wire.proofs.IcmpLaws.{icmp-read_back}
use Rattle.lw_wire.proofs.UdpLaws.{udp-read_back}
use Rattle.lw_link.specs.Way.{Way, arp_answer, arp_input, arp_reply, emit, knows, packet_frame, released_to, sent_head}
use Rattle.lw_input.specs.declared.arrival.Arrival.{Arrival}
use Rattle.lw_input.specs.declared.arrival.Arrival.TheVariants.{Arp, Datagram, Nothing}
use Rattle.lw_input.specs.Arrivals.{arrival_of, arp_brings, data_brings, data_in, datagram_brings, header_in}
use Rattle.lw_input.specs.Datagrams.{is_accepted, is_fragment}
use Rattle.lw_input.specs.Input.{Brought, Delivery, begun, brought, by_end, by_udp, icmp_output, ip_input, moved}
use Rattle.lw_core.specs.Laws.{ArpLaw, AsksForUs, EchoLaw, IsDelivered, IsForUs, ReachesUs, UdpLaw}
use Rattle.lw_layers.specs.Posts.{posts_of}
use Rattle.lw_input.specs.State.{State}
use Rattle.lw_layers.specs.Outcomes.{going}
use Rattle.lw_layers.specs.Step.{frame_step}
use Rattle.lw_input.proofs.FrameLaws.{data_at, frame-brings, one_frame, taken}
use Rattle.lw_input.proofs.InputLaws.{brought_udp}

-- the first of a list is among the first n
first_goes : {A : Type 0} (n : ℕ) (x : A) (xs : List A) → 0 < n → (others : List A) × (take n (x ∷ xs) ≡ x ∷ others)
first_goes zero x xs some = absurd (omega arith)
first_goes (suc n) x xs some = (take n xs, refl)

-- what goes out behind a frame
behind : (w : Way) (mac : Mac) (o : Option (List ℕ)) (frame : List ℕ) → w.out ≡ frame ∷ [] → (others : List (List ℕ)) × ((released_to w mac o).out ≡ frame ∷ others)
behind w mac None frame is = ([], is)
behind w mac (Some octets) frame is = (packet_frame w.link.net mac octets ∷ [], ap (λ (out : List (List ℕ)). out ++ packet_frame w.link.net mac octets ∷ []) is)

-- a packet that asks for the own address is answered
answered : (net : Net) (p : ArpPacket) → AsksForUs net p → is_answered net.ip p ≡ true
answered net p asks =
    let other : (p.sip.0 == net.ip.0) ≡ false = ne_eqb p.sip.0 net.ip.0 asks.other in
    let target : (p.tip.0 == net.ip.0) ≡ true = eq-eqb p.tip.0 net.ip.0 (ap (λ (ip : Ip). ip.0) asks.target) in
    let op : (p.op == 1) ≡ true = eq-eqb p.op 1 asks.op in
    rw (other, target, op) refl

-- what an ARP packet sends that is answered
arp_out : (w : Way) (p : ArpPacket) → w.out ≡ [] → is_answered w.link.net.ip p ≡ true
    → (others : List (List ℕ)) × ((arp_input w p).out ≡ arp_reply w.link.net p ∷ others)
arp_out w p none is =
    behind (arp_answer (knows w (learnt w.link.net.ip w.link.neighbours p)) p) p.smac (released w.link.net.ip w.link.neighbours p) (arp_reply w.link.net p)
    (rw (is, none) refl)

-- an ARP request brings itself
arp_arrives : (net : Net) (e : EthHead) (p : ArpPacket) (padding : List ℕ) → IsForUs net e 0x0806 → HasArpSpelling p
    → arrival_of net (eth_spelling e ++ (arp_spelling p ++ padding)) ≡ Arp p
arp_arrives net e p padding us fits =
    frame-brings net e (arp_spelling p ++ padding) us.spelled (taken net e.dst us.dst)
    ∙ ap (λ (t : ℕ). data_brings net t (arp_spelling p ++ padding)) us.kind
    ∙ ap arp_brings (arp-read_back p padding fits).0

pub arp-answered : ArpLaw
arp-answered s e p padding places us asks some =
    let frame : List ℕ = eth_spelling e ++ (arp_spelling p ++ padding) in
    let brings = arp_arrives s.link.net e p padding us asks.spelled in
    let out = arp_out (begun s) p refl (answered s.link.net p asks) in
    let first = first_goes (frames_left s.sent) (arp_reply s.link.net p) out.0 some in
    (first.0, ap (λ (a : Arrival). going s (moved s frame a).way.out) brings ∙ ap (take (frames_left s.sent)) out.1 ∙ first.1)

-- a datagram for the own address is taken
accepted : (net : Net) (protocol : ℕ) (h : IpHead) (n : ℕ) → ReachesUs net protocol h n → is_accepted net h ≡ true
accepted net protocol h n us =
    let own : (h.dst.0 == net.ip.0) ≡ true = eq-eqb h.dst.0 net.ip.0 (ap (λ (ip : Ip). ip.0) us.dst) in
    rw (own, us.src) refl

-- it brings its header
datagram_arrives : (net : Net) (protocol : ℕ) (e : EthHead) (h : IpHead) (body padding : List ℕ) → IsForUs net e 0x0800 → ReachesUs net protocol h (length body)
    → arrival_of net (eth_spelling e ++ (ip_spelling h ++ body ++ padding)) ≡ Datagram h
datagram_arrives net protocol e h body padding us reaches =
    frame-brings net e (ip_spelling h ++ body ++ padding) us.spelled (taken net e.dst us.dst)
    ∙ ap (λ (t : ℕ). data_brings net t (ip_spelling h ++ body ++ padding)) us.kind
    ∙ ap (datagram_brings net) (ip-read_back h body padding reaches.fits reaches.spelled).0
    ∙ ap (λ (b : Bool). if b then Datagram h else Nothing) (accepted net protocol h (length body) reaches)

-- an Ethernet head has fourteen octets, and a message eight more than its data
eth_long : (e : EthHead) → HasEthSpelling e → length (eth_spelling e) ≡ 14
eth_long e fits = simp length-append (let dst = fits.dst in let src = fits.src in omega arith)

icmp_long : (h : IcmpHead) (text : List ℕ) → length (icmp_spelling h text) ≡ 8 + length text
unfolding icmp_spelling
icmp_long h text = omega arith

-- its data is what was written
body_arrives : (e : EthHead) (h : IpHead) (body padding : List ℕ) → HasEthSpelling e → FitsIp h (length body) → HasIpSpelling h
    → data_in (eth_spelling e ++ (ip_spelling h ++ body ++ padding)) h ≡ body
body_arrives e h body padding long fits spelled =
    data_at (eth_spelling e) (ip_spelling h ++ body ++ padding) h.head_len h.total (length body) (eth_long e long) fits.head_len fits.total
    ∙ (ip-read_back h body padding fits spelled).1

-- an echo request is answered by its own data
echoed : (numbers : ℕ) (text : List ℕ) → numbers < 2 ^ 32 → ((i : ℕ) → slice_index text i < 256)
    → echo_reply (echo_request numbers text) ≡ Some (echo_answer numbers text)
echoed numbers text fits small =
    let read = icmp-read_back (record { kind = 8; code = 0; rest = numbers }) text (record { kind = omega arith; code = omega arith; rest = fits }) small in
    rw (read.0, read.1) refl

-- what a datagram with an echo request sends
echo_out : (net : Net) (ends : List UdpEnd) (w : Way) (h : IpHead) (n numbers : ℕ) (header text : List ℕ) → ReachesUs net 1 h n → numbers < 2 ^ 32 → ((i : ℕ) → slice_index text i < 256)
    → (ip_input net ends w h header (echo_request numbers text)).0 ≡ emit true w (sent_head net 1 h.src) (echo_answer numbers text)
echo_out net ends w h n numbers header text us fits small =
    let own : (h.dst.0 == net.ip.0) ≡ true = eq-eqb h.dst.0 net.ip.0 (ap (λ (ip : Ip). ip.0) us.dst) in
    let icmp : (h.proto == 1) ≡ true = eq-eqb h.proto 1 us.proto in
    let other : (h.proto == 17) ≡ false = ap (λ (n : ℕ). n == 17) us.proto in
    rw (other, own, icmp, echoed numbers text fits small) refl

-- it isn't a fragment
whole : (net : Net) (protocol : ℕ) (h : IpHead) (n : ℕ) → ReachesUs net protocol h n → is_fragment h ≡ false
whole net protocol h n us =
    let first : (h.offset == 0) ≡ true = eq-eqb h.offset 0 us.first in
    rw (us.whole, first) refl

pub echo-answered : EchoLaw
echo-answered s e h numbers text padding hop mac places us reaches_short fits few small near known some =
    let net : Net = s.link.net in
    let request : List ℕ = echo_request numbers text in
    let answer : List ℕ = echo_answer numbers text in
    let frame : List ℕ = eth_spelling e ++ (ip_spelling h ++ request ++ padding) in
    let size : 8 + length text ≡ length request = sym (icmp_long (record { kind = 8; code = 0; rest = numbers }) text) in
    let ends : List UdpEnd = s.endpoints.udp.ends in
    let reaches = subst (λ (n : ℕ). ReachesUs net 1 h n) size reaches_short in
    let brings = datagram_arrives net 1 e h request padding us reaches in
    let body = body_arrives e h request padding us.spelled reaches.fits reaches.spelled in
    let input : (moved s frame (Datagram h)).way ≡ emit true (begun s) (sent_head net 1 h.src) answer =
    rw (whole net 1 h (length request) reaches)
    (ap (λ (xs : List ℕ). (ip_input net ends (begun s) h (header_in frame h) xs).0) body ∙ echo_out net ends (begun s) h (length request) numbers (header_in frame h) text reaches fits small) in
    let long : length answer ≡ 8 + length text = icmp_long (record { kind = 0; code = 0; rest = numbers }) text in
    let out = one_frame (begun s) (sent_head net 1 h.src) answer hop mac (omega arith) near known in
    let total : 20 + length answer ≡ 28 + length text = omega arith in
    ap (λ (a : Arrival). going s (moved s frame a).way.out) brings
    ∙ ap (λ (w : Way). going s w.out) (input ∙ out)
    ∙ take_all (frames_left s.sent) (packet_frame net mac (ip_spelling (record (sent_head net 1 h.src) { total = 20 + length answer; id = s.link.next_id }) ++ answer) ∷ []) (omega arith)
    ∙ ap (λ (n : ℕ). packet_frame net mac (ip_spelling (record (sent_head net 1 h.src) { total = n; id = s.link.next_id }) ++ answer) ∷ []) total

-- A datagram of UDP

-- it is as long as its head and its data
udp_long : (u : UdpHead) (src dst : Ip) (text : List ℕ) → length (udp_spelling u src dst text) ≡ 8 + length text
unfolding udp_spelling
udp_long u src dst text = omega arith

-- what UDP reads goes to the end that matches best
udp_brought : (net : Net) (ends : List UdpEnd) (h : IpHead) (header body : List ℕ) (u : UdpHead) (o : Option ℕ) → h.proto ≡ 17 → udp_of body h.src h.dst ≡ Ok (u, 8) → best (h.src, u.sport) (h.dst, u.dport) ends ≡ o
    → brought net ends h header body ≡ by_end net h header body (u, 8) o
udp_brought net ends h header body u o is read goes =
    sym (brought_udp net ends h header body is) ∙ ap (by_udp net ends h header body) read ∙ ap (by_end net h header body (u, 8)) goes

-- an end that has a claim on a datagram isn't without one
claims_not : {A : Type 0} (src dst : Socket) (ends : List UdpEnd) (bound : UdpEnd) → Contains ends bound → is_some (claim_of src dst bound) ≡ true → GoesNowhere src dst ends → A
claims_not src dst ends bound there claims nowhere =
    let none : claim_of src dst bound ≡ None = ap (claim_of src dst) (sym there.2) ∙ nowhere there.0 bound there.1 in
    absurd (let clash : false ≡ true = sym (ap is_some none) ∙ claims in cc)

none_taken : (n : ℕ) → take {A = List ℕ} n [] ≡ []
none_taken zero = refl
none_taken (suc n) = refl

-- a datagram that UDP reads and that goes to a connection
delivered_to : (s : State) (frame body text : List ℕ) (h : IpHead) (u : UdpHead) (conn : ℕ) → arrival_of s.link.net frame ≡ Datagram h → is_fragment h ≡ false → data_in frame h ≡ body → h.proto ≡ 17
    → udp_of body h.src h.dst ≡ Ok (u, 8) → slice_range body 8 u.total ≡ text → best (h.src, u.sport) (h.dst, u.dport) s.endpoints.udp.ends ≡ Some conn
    → IsDelivered s (h.src, u.sport) (h.dst, u.dport) text (frame_step s frame (true ∷ []))
delivered_to s frame body text h u conn brings whole arrives is read text_is goes =
    let net : Net = s.link.net in
    let ends : List UdpEnd = s.endpoints.udp.ends in
    let cs : Connections = s.endpoints.conns in
    let header : List ℕ = header_in frame h in
    let all = udp_brought net ends h header body u (Some conn) is read goes in
    let to = λ (xs : List ℕ). let d : Delivery = record { conn = conn; from = (h.src, u.sport); octets = xs } in d in
    let delivery : (moved s frame (Datagram h)).delivery ≡ Some (to text) =
    rw whole (ap (λ (xs : List ℕ). (ip_input net ends (begun s) h header xs).1) arrives ∙ ap (λ (b : Brought). b.delivery) all ∙ ap (λ (xs : List ℕ). Some (to xs)) text_is) in
    let way : (moved s frame (Datagram h)).way ≡ begun s =
    rw whole (ap (λ (xs : List ℕ). (ip_input net ends (begun s) h header xs).0) arrives ∙ ap (λ (b : Brought). icmp_output net (begun s) h.src b.message) all) in
    record {
      conn = conn;
      best = delivery_law.somewhere (h.src, u.sport) (h.dst, u.dport) ends conn goes;
      posts = ap (λ (a : Arrival). posts_of cs (moved s frame a).delivery (true ∷ [])) brings ∙ ap (λ (d : Option Delivery). posts_of cs d (true ∷ [])) delivery;
      frames = ap (λ (a : Arrival). going s (moved s frame a).way.out) brings ∙ ap (λ (w : Way). going s w.out) way ∙ none_taken (frames_left s.sent);
    }

pub udp-delivered : UdpLaw
udp-delivered s e h u text behind padding bound us reaches_short fits counts small there claims =
    let net : Net = s.link.net in
    let ends : List UdpEnd = s.endpoints.udp.ends in
    let body : List ℕ = udp_spelling u h.src h.dst text ++ behind in
    let frame : List ℕ = eth_spelling e ++ (ip_spelling h ++ body ++ padding) in
    let long = udp_long u h.src h.dst text in
    let size : 8 + length text + length behind ≡ length body = ap (λ (n : ℕ). n + length behind) (sym long) ∙ sym (length-append (udp_spelling u h.src h.dst text) behind) in
    let reaches = subst (λ (n : ℕ). ReachesUs net 17 h n) size reaches_short in
    let read = udp-read_back u h.src h.dst text behind counts fits small in
    let few : u.total - 8 ≡ length text = omega (arith, counts) in
    let text_is : slice_range body 8 u.total ≡ text = ap (λ (n : ℕ). take n (drop 8 body)) few ∙ read.1 in
    elim (best (h.src, u.sport) (h.dst, u.dport) ends) as (λ o. best (h.src, u.sport) (h.dst, u.dport) ends ≡ o → IsDelivered s (h.src, u.sport) (h.dst, u.dport) text (frame_step s frame (true ∷ []))) [
      | None ↦ λ none. claims_not (h.src, u.sport) (h.dst, u.dport) ends bound there claims (delivery_law.nowhere (h.src, u.sport) (h.dst, u.dport) ends none)
      | Some conn ↦ λ goes.
          delivered_to s frame body text h u conn (datagram_arrives net 17 e h body padding us reaches) (whole net 17 h (length body) reaches)
          (body_arrives e h body padding us.spelled reaches.fits reaches.spelled) reaches.proto read.0 text_is goes
    ] refl
