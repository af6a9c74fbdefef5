-- The datagrams that calls send: how the way out stays sound, and what the stack is after one.
use Rattle.std.proofs.Common.{◌≡◌, ℕ, ◌+◌, ◌++◌, ◌∙◌, Bool, true, false, List, [], ◌∷◌, length, map, Result, Ok, Err, refl, sym, ap, subst, take, All, arith}
use Rattle.std.proofs.lemmas.List.{take_all}
use Rattle.std.proofs.lemmas.List.Elements.{All-nil, All-take}
use Rattle.lw_base.specs.declared.addresses.Ip.{Ip}
use Rattle.lw_base.specs.declared.addresses.Mac.{Mac}
use Rattle.lw_base.specs.declared.addresses.Net.{Net}
use Rattle.lw_base.specs.declared.addresses.Port.{Port}
use Rattle.lw_base.specs.declared.errors.Err.{Err as Code}
use Rattle.lw_base.specs.declared.errors.Err.TheVariants.{Mem}
use Rattle.lw_base.specs.declared.heads.IpHead.{IpHead}
use Rattle.lw_base.specs.declared.heads.UdpHead.{UdpHead}
use Rattle.lw_netif.specs.Frames.{frames_left}
use Rattle.lw_events.specs.declared.entry.Entry.{Entry}
use Rattle.lw_events.specs.declared.entry.Post.{Post}
use Rattle.lw_events.specs.declared.event.Event.TheVariants.{SendTo}
use Rattle.lw_events.specs.declared.event.Reply.{Reply}
use Rattle.lw_events.specs.declared.event.Reply.TheVariants.{Done, Fail}
use Rattle.lw_events.specs.declared.event.SendData.{SendData}
use Rattle.lw_events.specs.Events.{Grants, had_place}
use Rattle.lw_wire.specs.Ip.{ip_spelling}
use Rattle.lw_wire.specs.Udp.{udp_protocol, udp_spelling}
use Rattle.lw_arp.specs.declared.entries.ArpEntry.{ArpEntry}
use Rattle.lw_link.specs.declared.plan.LinkPlan.{LinkPlan}
use Rattle.lw_link.specs.Plans.{Plans}
use Rattle.lw_link.specs.Sound.{IsShort, IsSoundWay}
use Rattle.lw_link.specs.Way.{Link, Way, asked_for, emit, packet_frame, sent_head, waiting_in}
use Rattle.lw_link.proofs.ShortLaws.{emit_sound}
use Rattle.lw_api_msg.specs.declared.sends.SendPlan.{SendPlan}
use Rattle.lw_api_msg.specs.Endpoints.{Table}
use Rattle.lw_api_msg.specs.Sends.{send_plan, sent_by}
use Rattle.lw_layers.specs.declared.receive.Received.{Received}
use Rattle.lw_layers.specs.History.{granted, IsStep}
use Rattle.lw_input.specs.Input.{begun}
use Rattle.lw_layers.specs.Outcomes.{Outcome, going}
use Rattle.lw_layers.specs.Sends.{SendLaw, data_of, datagram_out, planned_step, send_step, sent_step, udp_head}
use Rattle.lw_input.specs.State.{State}
use Rattle.lw_input.proofs.FrameLaws.{one_frame}
use Rattle.lw_layers.proofs.SoundLaws.{ended_sound}

-- another state has the same connections, variables and limits
pub record KeepsNames (s t : State) : Type 0 where
  pub conns : t.endpoints.conns ≡ s.endpoints.conns
  pub vars : t.endpoints.vars ≡ s.endpoints.vars
  pub limits : t.limits ≡ s.limits

-- the way out of a datagram
out_sound : (s : State) (p : SendPlan) (octets : List ℕ) → IsSoundWay (begun s) → IsSoundWay (datagram_out s.link.net (begun s) p octets)
out_sound s p octets sound =
    emit_sound true (begun s) (sent_head s.link.net udp_protocol p.to.0) (udp_spelling (udp_head p (length octets)) s.link.net.ip p.to.0 octets) sound

planned_sound : (s : State) (octets : List ℕ) (short : Bool) (r : Result SendPlan Code) → IsSoundWay (begun s) → IsSoundWay (begun (planned_step s octets short r).state)
planned_sound s octets true (Ok p) sound = sound
planned_sound s octets false (Ok p) sound = ended_sound (datagram_out s.link.net (begun s) p octets) (out_sound s p octets sound)
planned_sound s octets short (Err fault) sound = sound

pub send_sound : (s : State) (conn : ℕ) (ip : Ip) (port : Port) (given : SendData) (short : Bool) → IsSoundWay (begun s) → IsSoundWay (begun (send_step s conn ip port given short).state)
send_sound s conn ip port given short sound = planned_sound s (data_of given) short (send_plan s.link.net s.endpoints conn ip port (length (data_of given))) sound

-- the frames are short
planned_short : (s : State) (octets : List ℕ) (short : Bool) (r : Result SendPlan Code) → IsSoundWay (begun s) → All IsShort (planned_step s octets short r).frames
planned_short s octets true (Ok p) sound = All-nil IsShort
planned_short s octets false (Ok p) sound =
    All-take IsShort (frames_left s.sent) (datagram_out s.link.net (begun s) p octets).out (out_sound s p octets sound).frames
planned_short s octets short (Err fault) sound = All-nil IsShort

pub send_short : (s : State) (conn : ℕ) (ip : Ip) (port : Port) (given : SendData) (short : Bool) → IsSoundWay (begun s) → All IsShort (send_step s conn ip port given short).frames
send_short s conn ip port given short sound = planned_short s (data_of given) short (send_plan s.link.net s.endpoints conn ip port (length (data_of given))) sound

-- What an entry tells

-- nothing is posted
planned_posts : (s : State) (octets : List ℕ) (short : Bool) (r : Result SendPlan Code) → (planned_step s octets short r).posts ≡ []
planned_posts s octets true (Ok p) = refl
planned_posts s octets false (Ok p) = refl
planned_posts s octets short (Err fault) = refl

pub send_posts : (s : State) (conn : ℕ) (ip : Ip) (port : Port) (given : SendData) (short : Bool) → (send_step s conn ip port given short).posts ≡ []
send_posts s conn ip port given short = planned_posts s (data_of given) short (send_plan s.link.net s.endpoints conn ip port (length (data_of given)))

-- where no pool was short, all was granted
abbrev told : Outcome → Grants
told o = record { short = o.short; places = map had_place o.posts }

planned_granted : (s : State) (octets : List ℕ) (r : Result SendPlan Code) → told (planned_step s octets false r) ≡ granted
planned_granted s octets (Ok p) = refl
planned_granted s octets (Err fault) = refl

pub send_granted : (s : State) (conn : ℕ) (ip : Ip) (port : Port) (given : SendData) → told (send_step s conn ip port given false) ≡ granted
send_granted s conn ip port given = planned_granted s (data_of given) (send_plan s.link.net s.endpoints conn ip port (length (data_of given)))

-- the entry of a datagram, sent or not, is that of the step
pub is_sent : (s t : State) (actor conn : ℕ) (ip : Ip) (port : Port) (given : SendData) (made : Received) (reply : Reply) (r : Entry × Reply)
    → t ≡ (send_step s conn ip port given made.short).state
    → made ≡ record { posts = []; frames = (send_step s conn ip port given made.short).frames; short = (send_step s conn ip port given made.short).short }
    → reply ≡ (send_step s conn ip port given made.short).reply
    → r ≡ (record { actor = actor; event = SendTo conn ip port given; short = made.short; posts = made.posts; frames = made.frames; reply = reply }, reply)
    → IsStep s actor (SendTo conn ip port given) r.0 r.1 t
is_sent s t actor conn ip port given made reply r state_is made_is reply_is r_is =
    let o : Outcome = send_step s conn ip port given made.short in
    let entry : Bool → List Post → List (List ℕ) → Reply → Entry = λ short posts frames answer. record { actor = actor; event = SendTo conn ip port given; short = short; posts = posts; frames = frames; reply = answer } in
    let short : made.short ≡ o.short = ap (λ (m : Received). m.short) made_is in
    let posts : made.posts ≡ o.posts = ap (λ (m : Received). m.posts) made_is ∙ sym (send_posts s conn ip port given made.short) in
    let frames : made.frames ≡ o.frames = ap (λ (m : Received). m.frames) made_is in
    let step : IsStep s actor (SendTo conn ip port given) (entry made.short made.posts made.frames reply) reply t = record {
      made = ap (λ b. entry b made.posts made.frames reply) short ∙ ap (λ ps. entry o.short ps made.frames reply) posts ∙ ap (λ fs. entry o.short o.posts fs reply) frames ∙ ap (entry o.short o.posts o.frames) reply_is;
      answered = reply_is;
      moved = state_is;
    } in
    subst (λ (q : Entry × Reply). IsStep s actor (SendTo conn ip port given) q.0 q.1 t) (sym r_is) step

-- it leaves which connections there are, the variables and the limits
planned_keeps : (s : State) (octets : List ℕ) (short : Bool) (r : Result SendPlan Code) → KeepsNames s (planned_step s octets short r).state
planned_keeps s octets true (Ok p) = record { conns = refl; vars = refl; limits = refl }
planned_keeps s octets false (Ok p) = record { conns = refl; vars = refl; limits = refl }
planned_keeps s octets short (Err fault) = record { conns = refl; vars = refl; limits = refl }

pub send_keeps : (s : State) (conn : ℕ) (ip : Ip) (port : Port) (given : SendData) (short : Bool) → KeepsNames s (send_step s conn ip port given short).state
send_keeps s conn ip port given short = planned_keeps s (data_of given) short (send_plan s.link.net s.endpoints conn ip port (length (data_of given)))

-- What is planned

-- the plan of its way out is that of the datagram
pub planned_out : (s : State) (p : SendPlan) (octets body front : List ℕ) (net : Net) (to : Ip) (u : UdpHead) (h : IpHead) (link : LinkPlan) → net ≡ s.link.net → to ≡ p.to.0
    → u ≡ udp_head p (length octets) → h ≡ sent_head net udp_protocol to → front ++ octets ≡ udp_spelling u net.ip to octets → body ≡ front ++ octets
    → Plans link s.link (emit true (begun s) h body) → Plans link s.link (datagram_out s.link.net (begun s) p octets)
planned_out s p octets body front net to u h link net_is to_is u_is h_is spelled is plans =
    let head_is : h ≡ sent_head s.link.net udp_protocol p.to.0 = h_is ∙ ap (λ (n : Net). sent_head n udp_protocol to) net_is ∙ ap (λ (d : Ip). sent_head s.link.net udp_protocol d) to_is in
    let body_is : body ≡ udp_spelling (udp_head p (length octets)) s.link.net.ip p.to.0 octets =
    is ∙ spelled ∙ ap (λ (x : UdpHead). udp_spelling x net.ip to octets) u_is
    ∙ ap (λ (n : Net). udp_spelling (udp_head p (length octets)) n.ip to octets) net_is
    ∙ ap (λ (d : Ip). udp_spelling (udp_head p (length octets)) s.link.net.ip d octets) to_is in
    subst (λ (x : List ℕ). Plans link s.link (emit true (begun s) (sent_head s.link.net udp_protocol p.to.0) x)) body_is
    (subst (λ (x : IpHead). Plans link s.link (emit true (begun s) x body)) head_is plans)

-- what is told of a datagram, and answered, is that of its step
pub record IsTold (s t : State) (octets : List ℕ) (r : Result SendPlan Code) (m : Received) (answer : Reply) : Type 0 where
  pub state : t ≡ (planned_step s octets m.short r).state
  pub told : m ≡ record { posts = []; frames = (planned_step s octets m.short r).frames; short = (planned_step s octets m.short r).short }
  pub reply : answer ≡ (planned_step s octets m.short r).reply

-- where a pool was short
pub short_told : (s : State) (octets : List ℕ) (p : SendPlan) (m : Received) → m ≡ record { posts = []; frames = []; short = true } → IsTold s s octets (Ok p) m (Fail Mem)
short_told s octets p m is =
    let told : IsTold s s octets (Ok p) (record { posts = []; frames = []; short = true }) (Fail Mem) = record { state = refl; told = refl; reply = refl } in
    subst (λ (x : Received). IsTold s s octets (Ok p) x (Fail Mem)) (sym is) told

-- where it may not go
pub fault_told : (s : State) (octets : List ℕ) (fault : Code) (m : Received) → m ≡ record { posts = []; frames = []; short = false } → IsTold s s octets (Err fault) m (Fail fault)
fault_told s octets fault m is =
    let told : IsTold s s octets (Err fault) (record { posts = []; frames = []; short = false }) (Fail fault) = record { state = refl; told = refl; reply = refl } in
    subst (λ (x : Received). IsTold s s octets (Err fault) x (Fail fault)) (sym is) told

-- and where it went
pub sent_told : (s t : State) (octets : List ℕ) (p : SendPlan) (m : Received) (frames : List (List ℕ)) → m ≡ record { posts = []; frames = frames; short = false }
    → t ≡ (sent_step s p octets).state → frames ≡ (sent_step s p octets).frames → IsTold s t octets (Ok p) m Done
sent_told s t octets p m frames is state_is frames_is =
    let told : IsTold s t octets (Ok p) (record { posts = []; frames = frames; short = false }) Done = record {
      state = state_is;
      told = ap (λ (fs : List (List ℕ)). record { posts = []; frames = fs; short = false }) frames_is;
      reply = refl;
    } in
    subst (λ (x : Received). IsTold s t octets (Ok p) x Done) (sym is) told

-- what holds of the steps by a plan holds of those of the call
pub by_call : (s : State) (conn : ℕ) (ip : Ip) (port : Port) (given : SendData) (octets : List ℕ) (n : ℕ) (r : Result SendPlan Code) (Q : (Bool → Outcome) → Type 0)
    → octets ≡ data_of given → n ≡ length octets → r ≡ send_plan s.link.net s.endpoints conn ip port n
    → Q (λ short. planned_step s octets short r) → Q (λ short. send_step s conn ip port given short)
by_call s conn ip port given octets n r Q octets_is n_is r_is holds =
    let plan_is : r ≡ send_plan s.link.net s.endpoints conn ip port (length (data_of given)) = r_is ∙ ap (send_plan s.link.net s.endpoints conn ip port) (n_is ∙ ap (length {A = ℕ}) octets_is) in
    let steps : (λ short. planned_step s octets short r) ≡ (λ short. send_step s conn ip port given short) =
    ap (λ (xs : List ℕ). λ (short : Bool). planned_step s xs short r) octets_is
    ∙ ap (λ (q : Result SendPlan Code). λ (short : Bool). planned_step s (data_of given) short q) plan_is in
    subst Q steps holds

-- What is left

-- the state after a datagram went out by its plan
pub state_sent : (s : State) (p : SendPlan) (octets : List ℕ) (link : LinkPlan) (table : List (ArpEntry (List ℕ))) (frames : List (List ℕ)) (ends : Table) → Plans link s.link (datagram_out s.link.net (begun s) p octets)
    → table ≡ waiting_in (asked_for s.link.neighbours link.asked.items) link.waits → frames ≡ take (frames_left s.sent) link.frames.items → ends ≡ sent_by p s.endpoints
    → record {
      limits = s.limits;
      link = record { net = s.link.net; neighbours = table; next_id = link.next_id };
      fragments = s.fragments;
      sent = s.sent ++ frames;
      endpoints = ends;
      words = s.words;
    } ≡ (sent_step s p octets).state
state_sent s p octets link table frames ends plans table_is frames_is ends_is =
    let way : Way = datagram_out s.link.net (begun s) p octets in
    let link_is : record { net = s.link.net; neighbours = table; next_id = link.next_id } ≡ way.link =
    ap (λ (t : List (ArpEntry (List ℕ))). record { net = s.link.net; neighbours = t; next_id = link.next_id }) table_is
    ∙ ap (λ (w : Way). w.link) plans.made in
    ap (λ (l : Link). record { limits = s.limits; link = l; fragments = s.fragments; sent = s.sent ++ frames; endpoints = ends; words = s.words }) link_is
    ∙ ap (λ (fs : List (List ℕ)). record { limits = s.limits; link = way.link; fragments = s.fragments; sent = s.sent ++ fs; endpoints = ends; words = s.words }) frames_is
    ∙ ap (λ (w : Way). record { limits = s.limits; link = way.link; fragments = s.fragments; sent = s.sent ++ take (frames_left s.sent) w.out; endpoints = ends; words = s.words }) plans.made
    ∙ ap (λ (e : Table). record { limits = s.limits; link = way.link; fragments = s.fragments; sent = s.sent ++ going s way.out; endpoints = e; words = s.words }) ends_is

-- and the frames that went out
pub frames_sent : (s : State) (p : SendPlan) (octets : List ℕ) (link : LinkPlan) → Plans link s.link (datagram_out s.link.net (begun s) p octets)
    → take (frames_left s.sent) link.frames.items ≡ (sent_step s p octets).frames
frames_sent s p octets link plans = ap (λ (w : Way). going s w.out) plans.made

-- One frame

udp_long : (h : UdpHead) (src dst : Ip) (body : List ℕ) → length (udp_spelling h src dst body) ≡ 8 + length body
unfolding udp_spelling
udp_long h src dst body = omega arith

pub one_frame_sent : SendLaw
one_frame_sent s conn ip port given p hop mac is few near known some =
    let octets : List ℕ = data_of given in
    let net : Net = s.link.net in
    let body : List ℕ = udp_spelling (udp_head p (length octets)) net.ip p.to.0 octets in
    let long : length body ≡ 8 + length octets = udp_long (udp_head p (length octets)) net.ip p.to.0 octets in
    let out = one_frame (begun s) (sent_head net 17 p.to.0) body hop mac (omega arith) near known in
    let total : 20 + length body ≡ 28 + length octets = omega arith in
    ap (λ (r : Result SendPlan Code). (planned_step s octets false r).frames) is
    ∙ ap (λ (w : Way). going s w.out) out
    ∙ take_all (frames_left s.sent) (packet_frame net mac (ip_spelling (record (sent_head net 17 p.to.0) { total = 20 + length body; id = s.link.next_id }) ++ body) ∷ []) (omega arith)
    ∙ ap (λ (n : ℕ). packet_frame net mac (ip_spelling (record (sent_head net 17 p.to.0) { total = n; id = s.link.next_id }) ++ body) ∷ []) total
