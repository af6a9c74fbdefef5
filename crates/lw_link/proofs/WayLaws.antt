-- Laws of the way out.
use Rattle.std.proofs.Common.{ℕ, ◌≡◌, ◌≢◌, ◌∙◌, Bool, true, List, [], ◌∷◌, Ok, ap, refl, arith}
use Rattle.std.proofs.lemmas.Bool.Decides.{nat_tests}
use Rattle.lw_base.specs.declared.addresses.Ip.{Ip}
use Rattle.lw_base.specs.declared.heads.ArpPacket.{ArpPacket}
use Rattle.lw_base.specs.declared.heads.IpHead.{IpHead}
use Rattle.lw_netif.specs.Route.{route_of}
use Rattle.lw_arp.specs.declared.entries.EntryState.{EntryState}
use Rattle.lw_arp.specs.declared.entries.EntryState.TheVariants.{Pending, Empty}
use Rattle.lw_arp.specs.Neighbours.{is_answered, looked_up, state_of}
use Rattle.lw_link.specs.Way.{Link, Way, arp_answer, arp_reply, arp_request, by_route, emit, last_of, packets, sends, takes_id, to_hop}
use Rattle.lw_link.proofs.PlanLaws.{pending_then, state_waiting}

-- a request for the own address from another one is answered
pub is_for_us : (own : Ip) (p : ArpPacket) → p.op ≡ 1 → p.tip.0 ≡ own.0 → p.sip.0 ≢ own.0 → is_answered own p ≡ true
is_for_us own p asks mine other = grind (arith, nat_tests)

-- and sends just its answer
pub answer_out : (w : Way) (p : ArpPacket) → is_answered w.link.net.ip p ≡ true → arp_answer w p ≡ sends w (arp_reply w.link.net p ∷ [])
answer_out w p for_us = rw for_us refl

-- a datagram to a next hop of which this is known
pub emit_as : (may : Bool) (m : Way) (h : IpHead) (body : List ℕ) (hop : Ip) (s : EntryState) → route_of m.link.net h.dst ≡ Ok hop → state_of m.link.neighbours hop ≡ s → emit may m h body ≡ to_hop may (takes_id m) hop (packets (record h { id = m.link.next_id }) body) s
emit_as may m h body hop s route state =
    ap (λ r. by_route may m h body r) route ∙ ap (λ s. to_hop may (takes_id m) hop (packets (record h { id = m.link.next_id }) body) s) state

-- of two datagrams to an unknown next hop the first asks, and the second doesn't
pub asks_once : (may : Bool) (l : Link) (h : IpHead) (first second : List ℕ) (hop : Ip) → route_of l.net h.dst ≡ Ok hop → state_of l.neighbours hop ≡ Empty → (emit may (emit may (record { link = l; out = [] }) h first) h second).out ≡ arp_request l.net hop ∷ []
asks_once may l h first second hop route empty =
    let start : Way = record { link = l; out = [] } in
    let ps = packets (record h { id = l.next_id }) first in
    let once : Way = to_hop may (takes_id start) hop ps Empty in
    let one : emit may start h first ≡ once = emit_as may start h first hop Empty route empty in
    let pending : state_of once.link.neighbours hop ≡ Pending =
    state_waiting (looked_up l.neighbours hop) (last_of may hop ps) hop ∙ pending_then l.neighbours hop empty in
    ap (λ (w : Way). (emit may w h second).out) one ∙ ap (λ (w : Way). w.out) (emit_as may once h second hop Pending route pending)
