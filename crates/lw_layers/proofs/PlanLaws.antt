-- What a plan of a frame is, by what the frame brings.
use Rattle.std.proofs.Common.{arith, length, take, drop, slice_range, option_map, Ok, ◌≡◌, ◌≤◌, ◌+◌, ◌-◌, ℕ, true, false, List, [], Option, Some, None, Result, Err, IfOk, OnOk, IfSome, refl, sym, ap, subst, ◌∙◌}
use Rattle.std.proofs.lemmas.List.{length-take, length-drop, drop-drop, drop-take, take-take, take_all}
use Rattle.lw_base.specs.declared.addresses.Ip.{Ip}
use Rattle.lw_base.specs.declared.addresses.Mac.{Mac}
use Rattle.lw_base.specs.declared.addresses.Net.{Net}
use Rattle.lw_base.specs.declared.heads.ArpPacket.{ArpPacket}
use Rattle.lw_base.specs.declared.heads.IpHead.{IpHead}
use Rattle.lw_conn.specs.Connections.{Connections}
use Rattle.lw_udp.specs.declared.ends.UdpEnd.{UdpEnd}
use Rattle.lw_arp.specs.declared.entries.ArpEntry.{ArpEntry}
use Rattle.lw_arp.specs.declared.entries.LearnPlan.{LearnPlan}
use Rattle.lw_arp.specs.Neighbours.{learn_plan, sent_by, taught_by}
use Rattle.lw_link.specs.declared.plan.LinkPlan.{LinkPlan}
use Rattle.lw_link.specs.Plans.{IsOver, Plans}
use Rattle.lw_link.specs.Way.{Link, Way, arp_answer, released_to, IsPacket}
use Rattle.lw_reass.specs.declared.outcome.FragmentPlan.{FragmentPlan}
use Rattle.lw_reass.specs.declared.outcome.Outcome.{Outcome}
use Rattle.lw_reass.specs.declared.outcome.Outcome.TheVariants.{Whole}
use Rattle.lw_reass.specs.Datagrams.{added, plan_of, whole_in}
use Rattle.lw_input.specs.declared.arrival.Arrival.{Arrival}
use Rattle.lw_input.specs.declared.arrival.Arrival.TheVariants.{Arp, Datagram, Nothing}
use Rattle.lw_layers.specs.declared.plan.Change.TheVariants.{Learn, Keep, Nothing as NoChange}
use Rattle.lw_input.proofs.InputLaws.{Releases}
use Rattle.lw_input.specs.Arrivals.{data_in, header_in}
use Rattle.lw_input.specs.Datagrams.{is_fragment}
use Rattle.lw_input.specs.Input.{begun, ip_input, whole_header, whole_input}
use Rattle.lw_input.specs.PostPlans.{delivery_in, IsGoing}
use Rattle.lw_layers.specs.Layers.{delivery_by, link_with, octets_given, IsMail, IsPlanned, StandsIn}
use Rattle.lw_input.specs.declared.input.PostPlan.{PostPlan}
use Rattle.lw_layers.specs.declared.mail.Mail.{Mail}
use Rattle.lw_input.specs.State.{State}

pub releases-as : {A B : Type 0} (r : Result A B) (own : Net) (p q : LinkPlan) (mac : Mac) (x y : Option (List ℕ)) → x ≡ y → Releases r own p q mac x → Releases r own p q mac y
releases-as r own p q mac x y same releases = subst (λ (o : Option (List ℕ)). Releases r own p q mac o) same releases

-- a call took a plan to one that also answers a whole datagram
abbrev pub Takes : {P : Type 0} → Net → List UdpEnd → List (ArpEntry P) → LinkPlan → LinkPlan → IpHead → List ℕ → List ℕ → Type 0
Takes own ends table p q h header xs = (l : Link) (m : Way) → IsOver own table l → Plans p l m → Plans q l (ip_input own ends m h header xs).0

-- what holds holds where a call went well
pub on_ok : {A B T : Type 0} (r : Result A B) → T → OnOk r T
on_ok (Ok x) t = t
on_ok (Err e) t = tt

-- the datagram is the one that a fragment made whole
pub takes-whole : {P : Type 0} (own : Net) (ends : List UdpEnd) (table : List (ArpEntry P)) (p q : LinkPlan) (h : IpHead) (header xs : List ℕ) (o : Outcome (List ℕ)) → header ≡ whole_header h → o ≡ Whole h xs
    → Takes own ends table p q h header xs
    → (l : Link) (m : Way) → IsOver own table l → Plans p l m → Plans q l (whole_input own ends m (whole_in o)).0
takes-whole own ends table p q h header xs o head is takes =
    subst (λ (x : Outcome (List ℕ)). (l : Link) (m : Way) → IsOver own table l → Plans p l m → Plans q l (whole_input own ends m (whole_in x)).0) (sym is)
    (subst (λ (octets : List ℕ). Takes own ends table p q h octets xs) head takes)

-- so is its delivery
pub delivers-whole : {B : Type 0} (r : Result (Option Mail) B) (post : Option PostPlan) (own : Net) (ends : List UdpEnd) (h : IpHead) (header xs : List ℕ) (o : Outcome (List ℕ)) → header ≡ whole_header h → o ≡ Whole h xs
    → IfOk r (λ mail. option_map delivery_by mail ≡ option_map (delivery_in xs) post) → ((m : Way) → option_map (delivery_in xs) post ≡ (ip_input own ends m h header xs).1)
    → IfOk r (λ mail. (m : Way) → option_map delivery_by mail ≡ (whole_input own ends m (whole_in o)).1)
delivers-whole (Ok mail) post own ends h header xs o head is same goes = λ m.
    same ∙ goes m ∙ ap (λ (octets : List ℕ). (ip_input own ends m h octets xs).1) head ∙ ap (λ (x : Outcome (List ℕ)). (whole_input own ends m (whole_in x)).1) (sym is)
delivers-whole (Err e) post own ends h header xs o head is same goes = tt

-- What goes to a connection

-- a part of a part of a list
range_in : (xs : List ℕ) (b n p k : ℕ) → p + k ≤ n → slice_range (slice_range xs b (b + n)) p (p + k) ≡ slice_range xs (b + p) (b + p + k)
range_in xs b n p k within =
    let all : b + n - b ≡ p + (n - p) = omega arith in
    let one : p + k - p ≡ k = omega arith in
    let two : b + p + k - (b + p) ≡ k = omega arith in
    rw (all, one, two)
    (ap (take k) (drop-take p (n - p) (drop b xs)) ∙ take-take k (n - p) (drop p (drop b xs)) (omega arith) ∙ ap (take k) (drop-drop p b xs))

-- the data of a datagram, which stands in these octets behind others
pub mail_stands : (cs : Connections) (p : PostPlan) (q : Option PostPlan) (body text octets : List ℕ) (before n : ℕ) → q ≡ Some p → n ≡ length body → IfSome q (IsGoing cs n) → before + n ≤ length octets
    → body ≡ slice_range octets before (before + n) → text ≡ slice_range body p.place (p.place + p.count)
    → StandsIn cs (record { post = record p { place = before + p.place }; octets = text }) octets
mail_stands cs p q body text octets before n is long goes within stands cut =
    let here : IsGoing cs n p = subst (λ (o : Option PostPlan). IfSome o (IsGoing cs n)) is goes in
    let few = here.within in
    record {
      going = record { within = omega (arith, few, within); live = here.live };
      stands = cut ∙ ap (λ (xs : List ℕ). slice_range xs p.place (p.place + p.count)) stands ∙ range_in octets before n p.place p.count few;
    }

-- what a planned post is made to, whose data is in this data of a datagram, behind so many other octets
abbrev pub Makes : {B : Type 0} → Result (Option Mail) B → Option PostPlan → List ℕ → ℕ → Type 0
Makes r post body before = IfOk r (λ m. (cs : Connections) (octets : List ℕ) → IfSome post (IsGoing cs (length body))
    → before + length body ≤ length octets → body ≡ slice_range octets before (before + length body) → IfSome m (IsMail cs (Some octets)))

-- it is in what a fragment left that made its datagram whole
pub whole_mail : {B : Type 0} (r : Result (Option Mail) B) (post : Option PostPlan) (cs : Connections) (h : IpHead) (xs : List ℕ) (o : Outcome (List ℕ)) → o ≡ Whole h xs
    → IfSome post (IsGoing cs (length xs)) → Makes r post xs 0 → IfOk r (λ m. IfSome m (IsMail cs (octets_given o)))
whole_mail (Ok m) post cs h xs o is goes made =
    let all : 0 + length xs - 0 ≡ length xs = omega arith in
    let whole : xs ≡ slice_range xs 0 (0 + length xs) = rw all (sym (take_all (length xs) xs (omega arith))) in
    subst (λ (x : Outcome (List ℕ)). IfSome m (IsMail cs (octets_given x))) (sym is) (made cs xs goes (omega arith) whole)
whole_mail (Err e) post cs h xs o is goes made = tt

-- the data of a datagram in its frame
long_range : (frame : List ℕ) (a b : ℕ) → a ≤ b → b ≤ length frame → length (slice_range frame a b) ≡ b - a
long_range frame a b order within = let one = length-take (b - a) (drop a frame) in let two = length-drop a frame in omega arith

pub range_within : (frame : List ℕ) (a b : ℕ) → a ≤ b → b ≤ length frame → a + length (slice_range frame a b) ≤ length frame
range_within frame a b order within = let long = long_range frame a b order within in omega arith

pub range_again : (frame : List ℕ) (a b : ℕ) → a ≤ b → b ≤ length frame → slice_range frame a b ≡ slice_range frame a (a + length (slice_range frame a b))
range_again frame a b order within =
    let long = long_range frame a b order within in
    let all : b ≡ a + length (slice_range frame a b) = omega arith in
    ap (slice_range frame a) all

-- Plans of frames

-- no packet waits
none_waits : (p : LinkPlan) → p.waits ≡ None → IfSome p.waits (λ w. IsPacket w.1)
none_waits p none = subst (λ (o : Option (Ip × List ℕ)). IfSome o (λ w. IsPacket w.1)) (sym none) tt

-- a frame with an ARP packet: the answer and the packet that is let out go by the link that the packet taught
pub arp_planned : (s : State) (frame : List ℕ) (p : ArpPacket) (learn : LearnPlan) (link : LinkPlan) → learn ≡ learn_plan s.link.net.ip s.link.neighbours p
    → ((l : Link) → l.net ≡ s.link.net → l.next_id ≡ s.link.next_id → Plans link l (released_to (arp_answer (record { link = l; out = [] }) p) learn.mac (sent_by learn s.link.neighbours)))
    → link.waits ≡ None
    → IsPlanned s frame (Arp p) (record { change = Learn learn; link = link; mail = None })
arp_planned s frame p learn link is plans none = record {
  change = ap Learn is;
  sends = subst (λ (x : LearnPlan). Plans link (link_with s.link (Learn learn)) (released_to (arp_answer (record { link = record s.link { neighbours = taught_by x s.link.neighbours }; out = [] }) p) x.mac (sent_by x s.link.neighbours))) is
      (plans (link_with s.link (Learn learn)) refl refl);
  packet = none_waits link none;
  delivery = refl;
  mail = tt;
}

-- how many octets the data of a datagram has that its frame holds
pub data_length : (frame : List ℕ) (head_len total from to : ℕ) → from ≡ head_len → to ≡ total → head_len ≤ total → total ≤ length frame - 14 → length (slice_range frame (14 + from) (14 + to)) ≡ total - head_len
data_length frame head_len total from to start end some within =
    let a = length-take ((14 + to) - (14 + from)) (drop (14 + from) frame) in
    let b = length-drop (14 + from) frame in
    omega arith

-- a frame with a fragment
pub fragment_planned : (s : State) (frame : List ℕ) (h : IpHead) (plan : FragmentPlan) (xs : List ℕ) (link : LinkPlan) (mail : Option Mail) → is_fragment h ≡ true → xs ≡ data_in frame h → plan ≡ plan_of s.fragments h (h.total - h.head_len)
    → Plans link s.link (whole_input s.link.net s.endpoints.udp.ends (begun s) (whole_in (added s.fragments h xs).outcome)).0
    → IfSome link.waits (λ w. IsPacket w.1)
    → option_map delivery_by mail ≡ (whole_input s.link.net s.endpoints.udp.ends (begun s) (whole_in (added s.fragments h xs).outcome)).1
    → IfSome mail (IsMail s.endpoints.conns (octets_given (added s.fragments h xs).outcome))
    → IsPlanned s frame (Datagram h) (record { change = Keep h plan; link = link; mail = mail })
fragment_planned s frame h plan xs link mail fragment body is plans packet goes stands = record {
  change = rw fragment (ap (Keep h) is);
  sends = rw fragment (subst (λ (octets : List ℕ). Plans link s.link (whole_input s.link.net s.endpoints.udp.ends (begun s) (whole_in (added s.fragments h octets).outcome)).0) body plans);
  packet = packet;
  delivery = rw fragment (subst (λ (octets : List ℕ). option_map delivery_by mail ≡ (whole_input s.link.net s.endpoints.udp.ends (begun s) (whole_in (added s.fragments h octets).outcome)).1) body goes);
  mail = subst (λ (octets : List ℕ). IfSome mail (IsMail s.endpoints.conns (octets_given (added s.fragments h octets).outcome))) body stands;
}

-- a frame with a whole datagram
pub datagram_planned : (s : State) (frame : List ℕ) (h : IpHead) (header xs : List ℕ) (link : LinkPlan) (mail : Option Mail) → is_fragment h ≡ false → header ≡ header_in frame h → xs ≡ data_in frame h
    → Plans link s.link (ip_input s.link.net s.endpoints.udp.ends (begun s) h header xs).0
    → IfSome link.waits (λ w. IsPacket w.1)
    → option_map delivery_by mail ≡ (ip_input s.link.net s.endpoints.udp.ends (begun s) h header xs).1
    → IfSome mail (IsMail s.endpoints.conns (Some frame))
    → IsPlanned s frame (Datagram h) (record { change = NoChange; link = link; mail = mail })
datagram_planned s frame h header xs link mail whole head body plans packet goes stands = record {
  change = rw whole refl;
  sends = rw whole
      (subst (λ (octets : List ℕ). Plans link s.link (ip_input s.link.net s.endpoints.udp.ends (begun s) h octets (data_in frame h)).0) head
      (subst (λ (octets : List ℕ). Plans link s.link (ip_input s.link.net s.endpoints.udp.ends (begun s) h header octets).0) body plans));
  packet = packet;
  delivery = rw whole
      (subst (λ (octets : List ℕ). option_map delivery_by mail ≡ (ip_input s.link.net s.endpoints.udp.ends (begun s) h octets (data_in frame h)).1) head
      (subst (λ (octets : List ℕ). option_map delivery_by mail ≡ (ip_input s.link.net s.endpoints.udp.ends (begun s) h header octets).1) body goes));
  mail = stands;
}

-- a frame that brings nothing
pub nothing_planned : (s : State) (frame : List ℕ) (a : Arrival) (link : LinkPlan) → a ≡ Nothing → Plans link s.link (begun s) → link.waits ≡ None → IsPlanned s frame a (record { change = NoChange; link = link; mail = None })
nothing_planned s frame a link is plans none =
    subst (λ (x : Arrival). IsPlanned s frame x (record { change = NoChange; link = link; mail = None })) (sym is) (record { change = refl; sends = plans; packet = none_waits link none; delivery = refl; mail = tt })
