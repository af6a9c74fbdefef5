-- How plans stand for what is sent.
use Rattle.std.proofs.Common.{ℕ, ◌≡◌, ◌+◌, ◌-◌, ◌%◌, ◌^◌, ◌++◌, ◌∙◌, Bool, true, false, cond, List, [], ◌∷◌, Option, Some, None, IfSome, find, Result, Ok, Err, OnOk, map, length, ap, sym, refl, subst}
use Rattle.std.specs.List.{slice_get}
use Rattle.std.specs.Option.{option_map, option_and_then, option_map_or}
use Rattle.lw_base.specs.declared.addresses.Ip.{Ip}
use Rattle.lw_base.specs.declared.addresses.Mac.{Mac}
use Rattle.lw_base.specs.declared.addresses.Net.{Net}
use Rattle.lw_base.specs.declared.errors.Err.{Err as Code}
use Rattle.lw_base.specs.declared.heads.IpHead.{IpHead}
use Rattle.lw_netif.specs.Route.{route_of}
use Rattle.lw_arp.specs.declared.entries.ArpEntry.{ArpEntry}
use Rattle.lw_arp.specs.declared.entries.EntryState.TheVariants.{Stable, Pending, Empty}
use Rattle.lw_arp.specs.Neighbours.{entry_of, held, is_of, keys_of, looked_up, map_entries, state_by, state_of}
use Rattle.lw_arp.proofs.EntryLaws.{unknown_when_empty}
use Rattle.lw_arp.proofs.LookupLaws.{pending_after_lookup}
use Rattle.lw_arp.proofs.MapLaws.{held-map_entries, keys-map_entries, looked_up-map_entries, state_of-map_entries}
use Rattle.lw_link.specs.declared.plan.LinkPlan.{LinkPlan}
use Rattle.lw_link.specs.Way.{Link, Way, arp_request, asked_for, asks, by_route, emit, knows, packet_frame, packets, sends, takes_id, to_hop, waiting_in}
use Rattle.lw_link.specs.Plans.{IsAtHop, IsOver, Plans, known, way_by}

-- Tables

-- one more address is looked up
pub asked_more : {P : Type 0} (t : List (ArpEntry P)) (ips : List Ip) (ip : Ip) → asked_for t (ips ++ ip ∷ []) ≡ looked_up (asked_for t ips) ip
asked_more t [] ip = refl
asked_more t (x ∷ xs) ip = asked_more (looked_up t x) xs ip

-- an entry with a packet, where it is of the address
abbrev with_packet : {P : Type 0} → Ip → P → ArpEntry P → ArpEntry P
with_packet ip x e = cond (is_of ip e) (record e { packet = Some x }) e

-- of two packets for one address the later is kept
packet_again : {P : Type 0} (ip : Ip) (x y : P) (e : ArpEntry P) → with_packet ip y (with_packet ip x e) ≡ with_packet ip y e
packet_again {P} ip x y e =
    elim (is_of ip e) as (λ b. is_of ip e ≡ b → with_packet ip y (cond b (record e { packet = Some x }) e) ≡ cond b (record e { packet = Some y }) e) [
      | true ↦ λ is. rw is refl
      | false ↦ λ is. rw is refl
    ] refl

held_again : {P : Type 0} (t : List (ArpEntry P)) (ip : Ip) (x y : P) → held (held t ip x) ip y ≡ held t ip y
held_again [] ip x y = refl
held_again (e ∷ es) ip x y = rw (packet_again ip x y e, held_again es ip x y) refl

-- a packet that waits changes nothing of what is known
state_first : {P : Type 0} (e : ArpEntry P) (es : List (ArpEntry P)) (hop : Ip) → state_of (e ∷ es) hop ≡ cond (is_of hop e) (state_by e.mac) (state_of es hop)
state_first {P} e es hop =
    elim (is_of hop e) as (λ b. option_map_or (λ (e : ArpEntry P). state_by e.mac) (cond b (Some e) (find (is_of hop) es)) Empty ≡ cond b (state_by e.mac) (state_of es hop)) [
      | true ↦ refl
      | false ↦ refl
    ]

pub state_held : {P : Type 0} (t : List (ArpEntry P)) (ip hop : Ip) (x : P) → state_of (held t ip x) hop ≡ state_of t hop
state_held [] ip hop x = refl
state_held {P} (e ∷ es) ip hop x =
    let later = ap (cond (is_of hop e) (state_by e.mac)) (state_held es ip hop x) ∙ sym (state_first e es hop) in
    elim (is_of ip e) as (λ b. state_of (cond b (record e { packet = Some x }) e ∷ held es ip x) hop ≡ state_of (e ∷ es) hop) [
      | true ↦ state_first (record e { packet = Some x }) (held es ip x) hop ∙ later
      | false ↦ state_first e (held es ip x) hop ∙ later
    ]

pub state_waiting : {P : Type 0} (t : List (ArpEntry P)) (waits : Option (Ip × P)) (hop : Ip) → state_of (waiting_in t waits) hop ≡ state_of t hop
state_waiting t (Some w) hop = state_held t w.0 hop w.1
state_waiting t None hop = refl

-- a packet takes the place of the one that waits at the same hop
waiting_again : (t : List (ArpEntry (List ℕ))) (waits : Option (Ip × List ℕ)) (hop : Ip) (x : List ℕ) → IsAtHop waits hop → held (waiting_in t waits) hop x ≡ held t hop x
waiting_again t (Some w) hop x at = ap (λ (ip : Ip). held (held t ip w.1) hop x) at ∙ held_again t hop w.1 x
waiting_again t None hop x at = refl

-- What is known

known_by : {P : Type 0} (t : List (ArpEntry P)) (n m : List (ArpEntry (List ℕ))) (k : Option (List (ArpEntry (Unit {0})))) (asked : List Ip) (waits : Option (Ip × List ℕ)) (hop : Ip) → keys_of n ≡ keys_of t → waiting_in (asked_for n asked) waits ≡ m → IfSome k (λ k. k ≡ keys_of m) → (k ≡ None → asked ≡ []) → state_of (known k t) hop ≡ state_of m hop
known_by t n m (Some copy) asked waits hop keys made copied unasked =
    ap (λ (k : List (ArpEntry (Unit {0}))). state_of k hop) copied ∙ state_of-map_entries (λ _. tt) m hop
known_by t n m None asked waits hop keys made copied unasked =
    ap (λ (k : List (ArpEntry (Unit {0}))). state_of k hop) (sym keys)
    ∙ state_of-map_entries (λ _. tt) n hop
    ∙ sym (state_waiting n waits hop)
    ∙ ap (λ (ips : List Ip). state_of (waiting_in (asked_for n ips) waits) hop) (sym (unasked refl))
    ∙ ap (λ (k : List (ArpEntry (List ℕ))). state_of k hop) made

-- what a plan knows is so
pub known_state : {P : Type 0} (own : Net) (t : List (ArpEntry P)) (p : LinkPlan) (l : Link) (m : Way) (hop : Ip) → IsOver own t l → Plans p l m → state_of (known p.keys t) hop ≡ state_of m.link.neighbours hop
known_state own t p l m hop over plans =
    known_by t l.neighbours m.link.neighbours p.keys p.asked.items p.waits hop over.keys (ap (λ (w : Way). w.link.neighbours) plans.made) plans.copied plans.unasked

copied_by : {P : Type 0} (t : List (ArpEntry P)) (n m : List (ArpEntry (List ℕ))) (k : Option (List (ArpEntry (Unit {0})))) (asked : List Ip) → keys_of n ≡ keys_of t → asked_for n asked ≡ m → IfSome k (λ k. k ≡ keys_of m) → (k ≡ None → asked ≡ []) → known k t ≡ keys_of m
copied_by t n m (Some copy) asked keys made copied unasked = copied
copied_by t n m None asked keys made copied unasked =
    sym keys ∙ ap (λ (ips : List Ip). keys_of (asked_for n ips)) (sym (unasked refl)) ∙ ap (λ (k : List (ArpEntry (List ℕ))). keys_of k) made

-- nothing waits for a hop of which the table has nothing
none_waits : (m : List (ArpEntry (List ℕ))) (waits : Option (Ip × List ℕ)) (hop : Ip) → IsAtHop waits hop → state_of m hop ≡ Empty → IfSome waits (λ w. state_of m w.0 ≡ Pending) → waits ≡ None
none_waits m (Some w) hop at empty pending =
    let same = ap (λ (ip : Ip). state_of m ip) at in
    let differ : Pending ≡ Empty = sym pending ∙ same ∙ empty in
    absurd (cc)
none_waits m None hop at empty pending = refl

-- the own address
pub plan_net : (p : LinkPlan) (l : Link) (m : Way) → Plans p l m → m.link.net ≡ l.net
plan_net p l m plans = sym (ap (λ (w : Way). w.link.net) plans.made)

-- Steps of plans

-- frames go out
pub plan_sends : (p q : LinkPlan) (l : Link) (m : Way) (fs : List (List ℕ)) → q.asked.items ≡ p.asked.items → q.keys ≡ p.keys → q.waits ≡ p.waits → q.next_id ≡ p.next_id → q.frames.items ≡ p.frames.items ++ fs → Plans p l m → Plans q l (sends m fs)
plan_sends p q l m fs asked keys waits id frames plans = record {
  made = rw (asked, waits, id, frames) (ap (λ (w : Way). sends w fs) plans.made);
  copied = rw keys plans.copied;
  unasked = λ none. asked ∙ plans.unasked (sym keys ∙ none);
  pending = rw waits plans.pending;
}

-- a datagram takes its identification
pub plan_id : (p q : LinkPlan) (l : Link) (m : Way) → q.asked.items ≡ p.asked.items → q.keys ≡ p.keys → q.waits ≡ p.waits → q.next_id ≡ (p.next_id + 1) % 2 ^ 16 → q.frames.items ≡ p.frames.items → Plans p l m → Plans q l (takes_id m)
plan_id p q l m asked keys waits id frames plans = record {
  made = rw (asked, waits, id, frames) (ap (λ (w : Way). takes_id w) plans.made);
  copied = rw keys plans.copied;
  unasked = λ none. asked ∙ plans.unasked (sym keys ∙ none);
  pending = rw waits plans.pending;
}

-- a hop is asked for of which the table has nothing
pub plan_looked_up : {P : Type 0} (own : Net) (t : List (ArpEntry P)) (p q : LinkPlan) (copy : List (ArpEntry (Unit {0}))) (l : Link) (m : Way) (hop : Ip) → q.asked.items ≡ p.asked.items ++ hop ∷ [] → q.keys ≡ Some copy → copy ≡ looked_up (known p.keys t) hop → q.waits ≡ p.waits → q.next_id ≡ p.next_id → q.frames.items ≡ p.frames.items ++ arp_request own hop ∷ [] → IsAtHop p.waits hop → IsOver own t l → state_of m.link.neighbours hop ≡ Empty → Plans p l m → Plans q l (knows (asks m hop) (looked_up m.link.neighbours hop))
plan_looked_up own t p q copy l m hop asked keys is waits id frames at over empty plans =
    let none = none_waits m.link.neighbours p.waits hop at empty plans.pending in
    let f = λ (w : Way). knows (asks w hop) (looked_up w.link.neighbours hop) in
    let net = over.net in
    let more = asked_more l.neighbours p.asked.items hop in
    let table : asked_for l.neighbours p.asked.items ≡ m.link.neighbours =
    ap (λ (ws : Option (Ip × List ℕ)). waiting_in (asked_for l.neighbours p.asked.items) ws) (sym none) ∙ ap (λ (w : Way). w.link.neighbours) plans.made in
    let step : way_by l q ≡ f (way_by l p) = rw (asked, waits, id, frames, none, net, more) refl in
    let known_is = copied_by t l.neighbours m.link.neighbours p.keys p.asked.items over.keys table plans.copied plans.unasked in
    record {
      made = step ∙ ap f plans.made;
      copied = rw keys (is ∙ ap (λ (k : List (ArpEntry (Unit {0}))). looked_up k hop) known_is ∙ looked_up-map_entries (λ _. tt) m.link.neighbours hop);
      unasked = λ nothing. absurd (let differ : Some copy ≡ None = sym keys ∙ nothing in cc);
      pending = rw (waits, none) tt;
    }

-- the copy in which a packet waits
held_copy : (before after : Option (List (ArpEntry (Unit {0})))) (m : List (ArpEntry (List ℕ))) (hop : Ip) (x : List ℕ) → (before ≡ None → after ≡ None) → IfSome before (λ k. state_of k hop ≡ Pending → after ≡ Some (held k hop tt)) → state_of m hop ≡ Pending → IfSome before (λ k. k ≡ keys_of m) → IfSome after (λ k. k ≡ keys_of (held m hop x))
held_copy None after m hop x none holds pending copied = rw (none refl) tt
held_copy (Some k) after m hop x none holds pending copied =
    let there = ap (λ (k : List (ArpEntry (Unit {0}))). state_of k hop) copied ∙ state_of-map_entries (λ _. tt) m hop ∙ pending in
    rw (holds there) (ap (λ (k : List (ArpEntry (Unit {0}))). held k hop tt) copied ∙ held-map_entries (λ _. tt) m hop x)

-- where there is none after, there was none before
held_none : (before after : Option (List (ArpEntry (Unit {0})))) (m : List (ArpEntry (List ℕ))) (hop : Ip) → IfSome before (λ k. state_of k hop ≡ Pending → after ≡ Some (held k hop tt)) → state_of m hop ≡ Pending → IfSome before (λ k. k ≡ keys_of m) → after ≡ None → before ≡ None
held_none None after m hop holds pending copied nothing = refl
held_none (Some k) after m hop holds pending copied nothing =
    let there = ap (λ (k : List (ArpEntry (Unit {0}))). state_of k hop) copied ∙ state_of-map_entries (λ _. tt) m hop ∙ pending in
    absurd (let differ : Some (held k hop tt) ≡ None = sym (holds there) ∙ nothing in cc)

-- a packet waits for a hop that was asked for
plan_held : (p q : LinkPlan) (l : Link) (m : Way) (hop : Ip) (x : List ℕ) → q.asked.items ≡ p.asked.items → (p.keys ≡ None → q.keys ≡ None) → IfSome p.keys (λ k. state_of k hop ≡ Pending → q.keys ≡ Some (held k hop tt)) → q.waits ≡ Some (hop, x) → q.next_id ≡ p.next_id → q.frames.items ≡ p.frames.items → IsAtHop p.waits hop → state_of m.link.neighbours hop ≡ Pending → Plans p l m → Plans q l (knows m (held m.link.neighbours hop x))
plan_held p q l m hop x asked none holds waits id frames at pending plans =
    let f = λ (w : Way). knows w (held w.link.neighbours hop x) in
    let again = waiting_again (asked_for l.neighbours p.asked.items) p.waits hop x at in
    let step : way_by l q ≡ f (way_by l p) = rw (asked, waits, id, frames, again) refl in
    record {
      made = step ∙ ap f plans.made;
      copied = held_copy p.keys q.keys m.link.neighbours hop x none holds pending plans.copied;
      unasked = λ nothing. asked ∙ plans.unasked (held_none p.keys q.keys m.link.neighbours hop holds pending plans.copied nothing);
      pending = rw waits (state_held m.link.neighbours hop hop x ∙ pending);
    }

-- the last of these packets waits
pub plan_holds : (p q : LinkPlan) (l : Link) (m : Way) (hop : Ip) (ps : List (List ℕ)) (x : List ℕ) → slice_get ps (length ps - 1) ≡ Some x → q.asked.items ≡ p.asked.items → (p.keys ≡ None → q.keys ≡ None) → IfSome p.keys (λ k. state_of k hop ≡ Pending → q.keys ≡ Some (held k hop tt)) → q.waits ≡ Some (hop, x) → q.next_id ≡ p.next_id → q.frames.items ≡ p.frames.items → IsAtHop p.waits hop → state_of m.link.neighbours hop ≡ Pending → Plans p l m → Plans q l (to_hop true m hop ps Pending)
plan_holds p q l m hop ps x last asked none holds waits id frames at pending plans =
    subst (λ (o : Option (List ℕ)). Plans q l (knows m (waiting_in m.link.neighbours (option_map (λ p. (hop, p)) o)))) (sym last)
    (plan_held p q l m hop x asked none holds waits id frames at pending plans)

-- A datagram by a next hop

-- where the hardware address is known
pub hop_stable : {P : Type 0} (own : Net) (t : List (ArpEntry P)) (p q : LinkPlan) (l : Link) (m : Way) (may : Bool) (hop : Ip) (mac : Mac) (ps : List (List ℕ)) → state_of (known p.keys t) hop ≡ Stable mac → q.asked.items ≡ p.asked.items → q.keys ≡ p.keys → q.waits ≡ p.waits → q.next_id ≡ p.next_id → q.frames.items ≡ p.frames.items ++ map (packet_frame own mac) ps → IsOver own t l → Plans p l m → Plans q l (to_hop may m hop ps (state_of m.link.neighbours hop))
hop_stable own t p q l m may hop mac ps state asked keys waits id frames over plans =
    let is = sym (known_state own t p l m hop over plans) ∙ state in
    let net = plan_net p l m plans ∙ over.net in
    rw is (subst (λ (n : Net). Plans q l (sends m (map (packet_frame n mac) ps))) (sym net) (plan_sends p q l m (map (packet_frame own mac) ps) asked keys waits id frames plans))

-- where it was asked for before
pub hop_pending : {P : Type 0} (own : Net) (t : List (ArpEntry P)) (p q : LinkPlan) (l : Link) (m : Way) (may : Bool) (hop : Ip) (ps : List (List ℕ)) → state_of (known p.keys t) hop ≡ Pending → ((l : Link) (m : Way) → state_of m.link.neighbours hop ≡ Pending → Plans p l m → Plans q l (to_hop may m hop ps Pending)) → IsOver own t l → Plans p l m → Plans q l (to_hop may m hop ps (state_of m.link.neighbours hop))
hop_pending own t p q l m may hop ps state holds over plans =
    let is = sym (known_state own t p l m hop over plans) ∙ state in
    rw is (holds l m is plans)

-- an address of which the table has nothing is pending once it was looked up
pub pending_then : (m : List (ArpEntry (List ℕ))) (hop : Ip) → state_of m hop ≡ Empty → state_of (looked_up m hop) hop ≡ Pending
pending_then m hop empty =
    pending_after_lookup m hop (ap (λ (o : Option (ArpEntry (List ℕ))). option_and_then (λ e. e.mac) o) (unknown_when_empty (entry_of m hop) empty))

-- where it has to be asked for
pub hop_empty : {P : Type 0} (own : Net) (t : List (ArpEntry P)) (p r q : LinkPlan) (l : Link) (m : Way) (may : Bool) (hop : Ip) (ps : List (List ℕ)) → state_of (known p.keys t) hop ≡ Empty → ((l : Link) (m : Way) → IsOver own t l → state_of m.link.neighbours hop ≡ Empty → Plans p l m → Plans r l (knows (asks m hop) (looked_up m.link.neighbours hop))) → ((l : Link) (m : Way) → state_of m.link.neighbours hop ≡ Pending → Plans r l m → Plans q l (to_hop may m hop ps Pending)) → IsOver own t l → Plans p l m → Plans q l (to_hop may m hop ps (state_of m.link.neighbours hop))
hop_empty own t p r q l m may hop ps state looks holds over plans =
    let is = sym (known_state own t p l m hop over plans) ∙ state in
    rw is (holds l (knows (asks m hop) (looked_up m.link.neighbours hop)) (pending_then m.link.neighbours hop is) (looks l m over is plans))

-- A datagram by its route

pub emit_by : {P : Type 0} (own : Net) (t : List (ArpEntry P)) (p r q : LinkPlan) (l : Link) (m : Way) (may : Bool) (h k : IpHead) (body : List ℕ) (hop : Ip) → route_of own h.dst ≡ Ok hop → k ≡ record h { id = p.next_id } → r.asked.items ≡ p.asked.items → r.keys ≡ p.keys → r.waits ≡ p.waits → r.next_id ≡ (p.next_id + 1) % 2 ^ 16 → r.frames.items ≡ p.frames.items → ((l : Link) (m : Way) → IsOver own t l → Plans r l m → Plans q l (to_hop may m hop (packets k body) (state_of m.link.neighbours hop))) → IsOver own t l → Plans p l m → Plans q l (emit may m h body)
emit_by own t p r q l m may h k body hop route head asked keys waits id frames goes over plans =
    let net = plan_net p l m plans ∙ over.net in
    let number : p.next_id ≡ m.link.next_id = ap (λ (w : Way). w.link.next_id) plans.made in
    let sent = goes l (takes_id m) over (plan_id p r l m asked keys waits id frames plans) in
    let numbered : k ≡ record h { id = m.link.next_id } = head ∙ ap (λ (n : ℕ). record h { id = n }) number in
    let by_hop = subst (λ (k : IpHead). Plans q l (to_hop may (takes_id m) hop (packets k body) (state_of m.link.neighbours hop))) numbered sent in
    subst (λ (o : Result Ip Code). Plans q l (by_route may m h body o)) (sym (ap (λ (n : Net). route_of n h.dst) net ∙ route)) by_hop

-- where there is no next hop
pub emit_not : {P : Type 0} (own : Net) (t : List (ArpEntry P)) (p : LinkPlan) (l : Link) (m : Way) (may : Bool) (h : IpHead) (body : List ℕ) (none : Code) → route_of own h.dst ≡ Err none → IsOver own t l → Plans p l m → Plans p l (emit may m h body)
emit_not own t p l m may h body none route over plans =
    let net = plan_net p l m plans ∙ over.net in
    subst (λ (o : Result Ip Code). Plans p l (by_route may m h body o)) (sym (ap (λ (n : Net). route_of n h.dst) net ∙ route)) plans

-- what is true where a call ends well follows from what is true there
pub on_ok : {A E : Type 0} {P Q : Type 0} (r : Result A E) → (P → Q) → OnOk r P → OnOk r Q
on_ok (Ok x) then p = then p
on_ok (Err e) then p = tt

-- For those who carry plans out

-- a link over a table of payloads
pub over_table : {P : Type 0} (f : P → List ℕ) (l : Link) (t : List (ArpEntry P)) (own : Net) → l.neighbours ≡ map_entries f t → l.net ≡ own → IsOver own t l
over_table {P} f l t own same net =
    record { net = net; keys = ap (λ (k : List (ArpEntry (List ℕ))). keys_of k) same ∙ keys-map_entries f t }

asked_for-map_entries : {P Q : Type 0} (f : P → Q) (t : List (ArpEntry P)) (ips : List Ip) → asked_for (map_entries f t) ips ≡ map_entries f (asked_for t ips)
asked_for-map_entries f t [] = refl
asked_for-map_entries f t (ip ∷ ips) = ap (λ k. asked_for k ips) (looked_up-map_entries f t ip) ∙ asked_for-map_entries f (looked_up t ip) ips

waiting_in-map_entries : {P Q : Type 0} (f : P → Q) (t : List (ArpEntry P)) (waits : Option (Ip × P)) → waiting_in (map_entries f t) (option_map (λ w. (w.0, f w.1)) waits) ≡ map_entries f (waiting_in t waits)
waiting_in-map_entries f t (Some w) = held-map_entries f t w.0 w.1
waiting_in-map_entries f t None = refl

-- the octets of a table over which a plan was carried out
pub carried : {P Q : Type 0} (f : P → Q) (t : List (ArpEntry P)) (ips : List Ip) (waits : Option (Ip × P)) → map_entries f (waiting_in (asked_for t ips) waits) ≡ waiting_in (asked_for (map_entries f t) ips) (option_map (λ w. (w.0, f w.1)) waits)
carried f t ips waits =
    sym (ap (λ k. waiting_in k (option_map (λ w. (w.0, f w.1)) waits)) (asked_for-map_entries f t ips) ∙ waiting_in-map_entries f (asked_for t ips) waits)

pending_by : {P : Type 0} (t : List (ArpEntry P)) (n m : List (ArpEntry (List ℕ))) (ips : List Ip) (waits : Option (Ip × List ℕ)) → keys_of n ≡ keys_of t → waiting_in (asked_for n ips) waits ≡ m → IfSome waits (λ w. state_of m w.0 ≡ Pending) → IfSome waits (λ w. state_of (asked_for t ips) w.0 ≡ Pending)
pending_by t n m ips (Some w) keys made pending =
    sym (state_of-map_entries (λ _. tt) (asked_for t ips) w.0)
    ∙ ap (λ (k : List (ArpEntry (Unit {0}))). state_of k w.0) (sym (asked_for-map_entries (λ _. tt) t ips) ∙ ap (λ (k : List (ArpEntry (Unit {0}))). asked_for k ips) (sym keys) ∙ asked_for-map_entries (λ _. tt) n ips)
    ∙ state_of-map_entries (λ _. tt) (asked_for n ips) w.0
    ∙ sym (state_held (asked_for n ips) w.0 w.0 w.1)
    ∙ ap (λ (k : List (ArpEntry (List ℕ))). state_of k w.0) made
    ∙ pending
pending_by t n m ips None keys made pending = tt

-- the next hop of the packet that waits is pending in the table, once the addresses were looked up
pub pending_of : {P : Type 0} (own : Net) (t : List (ArpEntry P)) (p : LinkPlan) (l : Link) (m : Way) → IsOver own t l → Plans p l m → IfSome p.waits (λ w. state_of (asked_for t p.asked.items) w.0 ≡ Pending)
pending_of own t p l m over plans =
    pending_by t l.neighbours m.link.neighbours p.asked.items p.waits over.keys (ap (λ (w : Way). w.link.neighbours) plans.made) plans.pending
