-- What a plan sends for a datagram that came in, by its protocol.
use Rattle.std.proofs.Common.{Ok, ◌≡◌, ℕ, List, Option, Some, None, Result, OnOk, refl, sym, ap, subst, ◌∙◌}
use Rattle.std.proofs.lemmas.Bool.{eq-eqb, ne_eqb}
use Rattle.lw_base.specs.declared.addresses.Ip.{Ip}
use Rattle.lw_base.specs.declared.addresses.Mac.{Mac}
use Rattle.lw_base.specs.declared.addresses.Net.{Net}
use Rattle.lw_base.specs.declared.heads.IpHead.{IpHead}
use Rattle.lw_base.specs.declared.heads.UdpHead.{UdpHead}
use Rattle.lw_udp.specs.declared.ends.UdpEnd.{UdpEnd}
use Rattle.lw_udp.specs.Delivery.{best}
use Rattle.lw_wire.specs.Udp.{udp_of}
use Rattle.lw_arp.specs.declared.entries.ArpEntry.{ArpEntry}
use Rattle.lw_icmp.specs.Messages.{echo_reply, unreachable}
use Rattle.lw_link.specs.declared.plan.LinkPlan.{LinkPlan}
use Rattle.lw_link.specs.Plans.{IsOver, Plans}
use Rattle.lw_link.specs.Way.{Link, Way, released_to}
use Rattle.lw_input.specs.Input.{Brought, answering, brought, by_end, by_udp, icmp_output, port_answer, reply_to, udp_input}

-- a call took a plan to one that also sends a message of ICMP, if there is one
abbrev pub SendsNow : {P : Type 0} → Net → List (ArpEntry P) → LinkPlan → LinkPlan → Ip → Option (List ℕ) → Type 0
SendsNow own table p q dst message = (l : Link) (m : Way) → IsOver own table l → Plans p l m → Plans q l (icmp_output own m dst message)

abbrev pub Sends : {P A B : Type 0} → Result A B → Net → List (ArpEntry P) → LinkPlan → LinkPlan → Ip → Option (List ℕ) → Type 0
Sends r own table p q dst message = OnOk r (SendsNow own table p q dst message)

-- the same message by another name
pub sends-as : {P A B : Type 0} (r : Result A B) (own : Net) (table : List (ArpEntry P)) (p q : LinkPlan) (dst : Ip) (x y : Option (List ℕ)) → x ≡ y → Sends r own table p q dst x → Sends r own table p q dst y
sends-as r own table p q dst x y same sends = subst (λ (o : Option (List ℕ)). Sends r own table p q dst o) same sends

pub sends-by : {P : Type 0} (own : Net) (table : List (ArpEntry P)) (p q : LinkPlan) (dst : Ip) (x y : Option (List ℕ)) → x ≡ y → SendsNow own table p q dst x → SendsNow own table p q dst y
sends-by own table p q dst x y same sends = subst (λ (o : Option (List ℕ)). SendsNow own table p q dst o) same sends

-- what answers a datagram to the own address
to_own : (net : Net) (h : IpHead) (header body : List ℕ) → h.dst.0 ≡ net.ip.0 → answering h header body ≡ reply_to net h header body
to_own net h header body own = rw (eq-eqb h.dst.0 net.ip.0 own) refl

pub answers_icmp : (net : Net) (h : IpHead) (header body : List ℕ) → h.dst.0 ≡ net.ip.0 → h.proto ≡ 1 → echo_reply body ≡ reply_to net h header body
answers_icmp net h header body own is =
    let by_proto : echo_reply body ≡ answering h header body = rw is refl in
    by_proto ∙ to_own net h header body own

pub answers_other : (net : Net) (h : IpHead) (header body : List ℕ) → h.dst.0 ≡ net.ip.0 → (h.proto ≡ 1 → ⊥) → (h.proto ≡ 6 → ⊥)
    → Some (unreachable 2 header body) ≡ reply_to net h header body
answers_other net h header body own icmp tcp =
    let by_proto : Some (unreachable 2 header body) ≡ answering h header body = rw (ne_eqb h.proto 1 icmp, ne_eqb h.proto 6 tcp) refl in
    by_proto ∙ to_own net h header body own

-- and one of UDP to the own address that goes to no connection
pub answers_port : (net : Net) (h : IpHead) (header body : List ℕ) → h.dst.0 ≡ net.ip.0 → Some (unreachable 3 header body) ≡ port_answer net h header body
answers_port net h header body own = rw (eq-eqb h.dst.0 net.ip.0 own) refl

-- what UDP reads goes to the end that matches best
matched : (net : Net) (ends : List UdpEnd) (h : IpHead) (header body : List ℕ) (r : UdpHead × ℕ) (o : Option ℕ) → udp_of body h.src h.dst ≡ Ok r → o ≡ best (h.src, r.0.sport) (h.dst, r.0.dport) ends
    → by_end net h header body r o ≡ udp_input net ends h header body
matched net ends h header body r o read is = ap (by_end net h header body r) is ∙ ap (by_udp net ends h header body) (sym read)

pub unmatched : (net : Net) (ends : List UdpEnd) (h : IpHead) (header body : List ℕ) (r : UdpHead × ℕ) (o : Option ℕ) → udp_of body h.src h.dst ≡ Ok r → o ≡ best (h.src, r.0.sport) (h.dst, r.0.dport) ends
    → o ≡ None → port_answer net h header body ≡ (udp_input net ends h header body).message
unmatched net ends h header body r o read is none =
    ap (λ (x : Option ℕ). (by_end net h header body r x).message) (sym none) ∙ ap (λ (b : Brought). b.message) (matched net ends h header body r o read is)

-- what a datagram brings, of UDP or of another protocol
pub brought_udp : (net : Net) (ends : List UdpEnd) (h : IpHead) (header body : List ℕ) → h.proto ≡ 17 → udp_input net ends h header body ≡ brought net ends h header body
brought_udp net ends h header body is = rw is refl

pub brought_other : (net : Net) (ends : List UdpEnd) (h : IpHead) (header body : List ℕ) → (h.proto ≡ 17 → ⊥) → record { message = reply_to net h header body; delivery = None } ≡ brought net ends h header body
brought_other net ends h header body other = rw (ne_eqb h.proto 17 other) refl

-- a call took a plan to one that also lets a packet out, if there is one
abbrev pub Releases : {A B : Type 0} → Result A B → Net → LinkPlan → LinkPlan → Mac → Option (List ℕ) → Type 0
Releases r own p q mac o = OnOk r ((l : Link) (m : Way) → l.net ≡ own → Plans p l m → Plans q l (released_to m mac o))
