-- Events that ask for an answer, and cores that are the same.
use Rattle.std.proofs.Common.{◌≡◌, ℕ, ◌++◌, ◌∙◌, Bool, true, false, All, List, [], Result, Ok, Err, IfErr, IfOk, OnErr, OnOk, length, refl, sym, ap, subst, flat_map}
use Rattle.std.specs.List.{AllZip}
use Rattle.lw_base.specs.declared.limits.Limits.{Limits}
use Rattle.lw_payload.specs.Calls.{IsSameButRoom}
use Rattle.lw_payload.specs.declared.kinds.Kind.{Kind}
use Rattle.lw_payload.specs.declared.kinds.Kind.TheVariants.{Ram}
use Rattle.lw_base.specs.declared.addresses.Ip.{Ip}
use Rattle.lw_base.specs.declared.addresses.Port.{Port}
use Rattle.lw_base.specs.declared.errors.Err.{Err as Code}
use Rattle.lw_payload.specs.Views.{View, HomeView, IsShort}
use Rattle.lw_payload.specs.Totals.{total, Moves}
use Rattle.lw_payload.proofs.TotalLaws.{IsSameTotal-self, Moves-same}
use Rattle.lw_runs.proofs.Stands.{same-refl}
use Rattle.lw_events.specs.declared.event.Event.{Event}
use Rattle.lw_events.specs.declared.event.Event.TheVariants.{Frame, Tick, SendTo, New, Close as CloseEvent, Stop}
use Rattle.lw_events.specs.declared.event.Proto.TheVariants.{Tcp, Udp}
use Rattle.lw_events.specs.declared.event.Reply.{Reply}
use Rattle.lw_events.specs.declared.event.Reply.TheVariants.{Done}
use Rattle.lw_events.specs.declared.entry.Entry.{Entry}
use Rattle.lw_events.specs.Events.{payloads_in, text_of, IsSameEvent}
use Rattle.lw_events.specs.declared.entry.Post.{Post}
use Rattle.lw_events.specs.declared.event.SendData.{SendData}
use Rattle.lw_events.specs.Events.{grants_of}
use Rattle.lw_boxes.specs.Shelf.{Shelf}
use Rattle.lw_api_msg.specs.declared.sends.SendPlan.{SendPlan}
use Rattle.lw_api_msg.specs.Sends.{send_plan}
use Rattle.lw_input.specs.State.{State}
use Rattle.lw_layers.specs.Boxes.{AreSameBoxes, KeepItems}
use Rattle.lw_layers.specs.Calls.{IsAsking, IsServed}
use Rattle.lw_layers.specs.Claims.{IsEnoughFor, IsShortFor}
use Rattle.lw_layers.specs.Posts.{IsOffered, IsPosting}
use Rattle.lw_layers.specs.Sends.{data_of, planned_step}
use Rattle.lw_layers.proofs.BoxLaws.{keep_self}
use Rattle.lw_layers.proofs.PostLaws.{none_tried, nothing_posted}
use Rattle.lw_layers.proofs.SameBoxes.{same_self}
use Rattle.lw_core.specs.declared.request.Request.TheVariants.{Answer, Close, End, Feed, Make, Send, Tick as TickRequest}
use Rattle.lw_core.specs.Held.{CoreSeen, held_by, IsQuietStep, IsSameCore}
use Rattle.lw_layers.specs.History.{IsStep}
use Rattle.lw_core.specs.Requests.{request_of}

-- an event that is kept as this, without a payload
pub record HasText {P : Type 0} (seen : P → View) (event : Event P) (kept : Event (List ℕ)) : Type 0 where
  pub text : kept ≡ text_of seen event
  pub none : payloads_in event ≡ []

module _ {P : Type 0} (seen : P → View) where
  pub is_feed : (event : Event P) (p : P) → Feed p ≡ request_of seen event → event ≡ Frame p
  is_feed (Frame q) p is = let h = is in cc
  is_feed Tick p is = absurd (let h = is in cc)
  is_feed (SendTo conn ip port given) p is = absurd (let h = is in cc)
  is_feed (New Udp) p is = absurd (let h = is in cc)
  is_feed (New Tcp) p is = absurd (let h = is in cc)
  is_feed (CloseEvent conn) p is = absurd (let h = is in cc)
  is_feed Stop p is = absurd (let h = is in cc)
  is_feed other p is = absurd (let h = is in cc)

  pub is_answer : (event : Event P) (text : Event (List ℕ)) → Answer text ≡ request_of seen event → HasText seen event text
  is_answer (Frame p) text is = absurd (let h = is in cc)
  is_answer Tick text is = absurd (let h = is in cc)
  is_answer (SendTo conn ip port given) text is = absurd (let h = is in cc)
  is_answer (New Udp) text is = absurd (let h = is in cc)
  is_answer (New Tcp) text is = record { text = let h = is in cc; none = refl }
  is_answer (CloseEvent conn) text is = absurd (let h = is in cc)
  is_answer Stop text is = absurd (let h = is in cc)
  is_answer other text is = record { text = let h = is in cc; none = refl }

  pub is_tick : (event : Event P) → TickRequest ≡ request_of seen event → HasText seen event Tick
  is_tick (Frame p) is = absurd (let h = is in cc)
  is_tick Tick is = record { text = refl; none = refl }
  is_tick (SendTo c i q g) is = absurd (let h = is in cc)
  is_tick (New Udp) is = absurd (let h = is in cc)
  is_tick (New Tcp) is = absurd (let h = is in cc)
  is_tick (CloseEvent c) is = absurd (let h = is in cc)
  is_tick Stop is = absurd (let h = is in cc)
  is_tick other is = absurd (let h = is in cc)

  pub is_make : (event : Event P) → Make ≡ request_of seen event → HasText seen event (New Udp)
  is_make (Frame p) is = absurd (let h = is in cc)
  is_make Tick is = absurd (let h = is in cc)
  is_make (SendTo c i q g) is = absurd (let h = is in cc)
  is_make (New Udp) is = record { text = refl; none = refl }
  is_make (New Tcp) is = absurd (let h = is in cc)
  is_make (CloseEvent c) is = absurd (let h = is in cc)
  is_make Stop is = absurd (let h = is in cc)
  is_make other is = absurd (let h = is in cc)

  pub is_end : (event : Event P) → End ≡ request_of seen event → HasText seen event Stop
  is_end (Frame p) is = absurd (let h = is in cc)
  is_end Tick is = absurd (let h = is in cc)
  is_end (SendTo c i q g) is = absurd (let h = is in cc)
  is_end (New Udp) is = absurd (let h = is in cc)
  is_end (New Tcp) is = absurd (let h = is in cc)
  is_end (CloseEvent c) is = absurd (let h = is in cc)
  is_end Stop is = record { text = refl; none = refl }
  is_end other is = absurd (let h = is in cc)

  pub is_close : (event : Event P) (conn : ℕ) → Close conn ≡ request_of seen event → HasText seen event (CloseEvent conn)
  is_close (Frame p) conn is = absurd (let h = is in cc)
  is_close Tick conn is = absurd (let h = is in cc)
  is_close (SendTo c i q g) conn is = absurd (let h = is in cc)
  is_close (New Udp) conn is = absurd (let h = is in cc)
  is_close (New Tcp) conn is = absurd (let h = is in cc)
  is_close (CloseEvent c) conn is = record { text = let h = is in cc; none = refl }
  is_close Stop conn is = absurd (let h = is in cc)
  is_close other conn is = absurd (let h = is in cc)

  pub is_send : (event : Event P) (conn : ℕ) (ip : Ip) (port : Port) (given : SendData) → Send conn ip port given ≡ request_of seen event → HasText seen event (SendTo conn ip port given)
  is_send (Frame p) conn ip port given is = absurd (let h = is in cc)
  is_send Tick conn ip port given is = absurd (let h = is in cc)
  is_send (SendTo c i q g) conn ip port given is = record { text = let h = is in cc; none = refl }
  is_send (New Udp) conn ip port given is = absurd (let h = is in cc)
  is_send (New Tcp) conn ip port given is = absurd (let h = is in cc)
  is_send (CloseEvent c) conn ip port given is = absurd (let h = is in cc)
  is_send Stop conn ip port given is = absurd (let h = is in cc)
  is_send other conn ip port given is = absurd (let h = is in cc)

  pub quiet_ok : (c d : CoreSeen P) (actor : ℕ) (event : Event P) (text : Event (List ℕ)) (r : Entry × Reply)
      → HasText seen event text → IsQuietStep c actor text r.0 r.1 d → IsStep c.state actor (text_of seen event) r.0 r.1 d.state
  quiet_ok c d actor event text r has step = subst (λ (t : Event (List ℕ)). IsStep c.state actor t r.0 r.1 d.state) has.text step.step

  -- an event that brings no payload, and posts nothing
  pub text_posting : (h k : HomeView) (event : Event P) (text : Event (List ℕ)) (posts : List Post) (before after : Shelf P) (c d : CoreSeen P) → HasText seen event text → posts ≡ [] → KeepItems before after
      → Moves h k (total seen h.pools.family (held_by c)) (total seen h.pools.family (held_by d))
      → IsPosting seen h k posts before after (payloads_in event ++ held_by c) (held_by d)
  text_posting h k event text posts before after c d has none keep moves =
      subst (λ (ps : List P). IsPosting seen h k posts before after (ps ++ held_by c) (held_by d)) (sym has.none)
      (subst (λ (ps : List Post). IsPosting seen h k ps before after (held_by c) (held_by d)) (sym none) (nothing_posted seen h k [] before after (held_by c) (held_by d) keep moves))

  -- nothing came and nothing went
  pub quiet_posting : (h : HomeView) (actor : ℕ) (event : Event P) (text : Event (List ℕ)) (r : Entry × Reply) (before after : Shelf P) (c d : CoreSeen P) → HasText seen event text → IsQuietStep c actor text r.0 r.1 d
      → KeepItems before after → IsPosting seen h h r.0.posts before after (payloads_in event ++ held_by c) (held_by d)
  quiet_posting h actor event text r before after c d has step keep =
      let held : held_by d ≡ held_by c = rw (step.waiting, step.kept) refl in
      text_posting h h event text r.0.posts before after c d has step.posts keep
      (subst (λ (ps : List P). Moves h h (total seen h.pools.family (held_by c)) (total seen h.pools.family ps)) (sym held)
      (Moves-same h (total seen h.pools.family (held_by c)) (total seen h.pools.family (held_by c)) (IsSameTotal-self (total seen h.pools.family (held_by c)))))

  -- a tick posts nothing
  pub tick_posting : (h k : HomeView) (actor : ℕ) (event : Event P) (r : Entry × Reply) (shelf : Shelf P) (c d : CoreSeen P) → HasText seen event Tick → IsStep c.state actor Tick r.0 r.1 d.state
      → Moves h k (total seen h.pools.family (held_by c)) (total seen h.pools.family (held_by d)) → IsPosting seen h k r.0.posts shelf shelf (payloads_in event ++ held_by c) (held_by d)
  tick_posting h k actor event r shelf c d has step moves =
      text_posting h k event Tick r.0.posts shelf shelf c d has (ap (λ (e : Entry). e.posts) step.made) (keep_self shelf) moves

  -- nor does a datagram that is sent
  planned_none : (s : State) (octets : List ℕ) (short : Bool) (plan : Result SendPlan Code) → (planned_step s octets short plan).posts ≡ []
  planned_none s octets short (Err fault) = refl
  planned_none s octets true (Ok p) = refl
  planned_none s octets false (Ok p) = refl

  pub sent_posting : {E : Type 0} (h k : HomeView) (actor : ℕ) (event : Event P) (conn : ℕ) (ip : Ip) (port : Port) (given : SendData) (r : Result (Entry × Reply) E) (shelf : Shelf P) (c d : CoreSeen P)
      → HasText seen event (SendTo conn ip port given) → IfOk r (λ x. IsStep c.state actor (SendTo conn ip port given) x.0 x.1 d.state)
      → OnOk r (Moves h k (total seen h.pools.family (held_by c)) (total seen h.pools.family (held_by d)))
      → IfOk r (λ x. IsPosting seen h k x.0.posts shelf shelf (payloads_in event ++ held_by c) (held_by d))
  sent_posting h k actor event conn ip port given (Ok x) shelf c d has step moves =
      let s : State = c.state in
      text_posting h k event (SendTo conn ip port given) x.0.posts shelf shelf c d has
      (ap (λ (e : Entry). e.posts) step.made ∙ planned_none s (data_of given) (grants_of x.0).short (send_plan s.link.net s.endpoints conn ip port (length (data_of given)))) (keep_self shelf) moves
  sent_posting h k actor event conn ip port given (Err e) shelf c d has step moves = tt

  pub same_core : (c d : CoreSeen P) → d ≡ c → IsSameCore seen c d
  same_core c d is =
      subst (IsSameCore seen c) (sym is)
      (record { state = refl; waiting = refl; kept = same-refl seen (flat_map (λ (ps : List P). ps) c.kept) })

  -- what an event asks for that is answered at once
  pub asks_by : (limits : Limits) (event : Event P) (text : Event (List ℕ)) → Answer text ≡ request_of seen event → IsServed limits event → IsAsking limits text
  asks_by limits (Frame p) text is served = absurd (let h = is in cc)
  asks_by limits Tick text is served = absurd (let h = is in cc)
  asks_by limits (SendTo conn ip port given) text is served = absurd (let h = is in cc)
  asks_by limits (New Udp) text is served = absurd (let h = is in cc)
  asks_by limits (New Tcp) text is served = absurd served
  asks_by limits (CloseEvent conn) text is served = absurd (let h = is in cc)
  asks_by limits Stop text is served = absurd (let h = is in cc)
  asks_by limits other text is served =
      let same : text_of seen other ≡ text = (let h = is in cc) in
      subst (IsAsking limits) same served

  -- such an event takes no payloads
  pub asking_enough : (limits : Limits) (h : HomeView) (text : Event (List ℕ)) (reply : Reply) → IsAsking limits text → IsEnoughFor h text reply
  asking_enough limits h (Frame octets) reply asks = absurd asks
  asking_enough limits h (SendTo conn ip port given) reply asks = absurd asks
  asking_enough limits h other reply asks = tt

  enough_text : (h : HomeView) (event : Event P) (reply : Reply) → IsEnoughFor h (text_of seen event) reply → IsEnoughFor h event reply
  enough_text h (Frame p) reply enough = enough
  enough_text h (SendTo conn ip port given) reply enough = enough
  enough_text h other reply enough = tt

  pub enough_by : (h : HomeView) (event : Event P) (text : Event (List ℕ)) (reply : Reply) → HasText seen event text → IsEnoughFor h text reply → IsEnoughFor h event reply
  enough_by h event text reply has enough = enough_text h event reply (subst (λ (t : Event (List ℕ)). IsEnoughFor h t reply) has.text enough)

  -- no pool was short
  pub short_by : {H : Type 0} (may_refuse : H → H → Kind → ℕ → Type 0) (home : H) (h : HomeView) (event : Event P) (short : Bool) → short ≡ false → short ≡ true → IsShortFor may_refuse home h event
  short_by may_refuse home h event short not is = absurd (let clash : false ≡ true = sym not ∙ is in cc)

  -- it comes back as it was
  pub same_event : (event back : Event P) (text : Event (List ℕ)) → HasText seen event text → text_of seen back ≡ text → payloads_in back ≡ [] → IsSameEvent seen event back
  same_event event back text has is none = record {
    text = is ∙ has.text;
    payloads = subst (λ (ps : List P). AllZip (λ p q. IsSameButRoom (seen p) (seen q)) ps (payloads_in back)) (sym has.none)
        (subst (λ (ps : List P). AllZip (λ p q. IsSameButRoom (seen p) (seen q)) [] ps) (sym none) tt);
  }

  -- A datagram that is sent

  pub is_sending : (event : Event P) (conn : ℕ) (ip : Ip) (port : Port) (given : SendData) → Send conn ip port given ≡ request_of seen event → event ≡ SendTo conn ip port given
  is_sending (Frame p) conn ip port given is = absurd (let h = is in cc)
  is_sending Tick conn ip port given is = absurd (let h = is in cc)
  is_sending (SendTo c i q g) conn ip port given is = let h = is in cc
  is_sending (New Udp) conn ip port given is = absurd (let h = is in cc)
  is_sending (New Tcp) conn ip port given is = absurd (let h = is in cc)
  is_sending (CloseEvent c) conn ip port given is = absurd (let h = is in cc)
  is_sending Stop conn ip port given is = absurd (let h = is in cc)
  is_sending other conn ip port given is = absurd (let h = is in cc)

  pub sent_offers : {B E : Type 0} (offers : B → ℕ → ℕ → Bool → B → Type 0) (before : B) (actor : ℕ) (conn : ℕ) (ip : Ip) (port : Port) (given : SendData) (r : Result (Entry × Reply) E) (c d : CoreSeen P)
      → IfOk r (λ x. IsStep c.state actor (SendTo conn ip port given) x.0 x.1 d.state) → IfOk r (λ x. All (IsOffered offers before) x.0.posts)
  sent_offers offers before actor conn ip port given (Ok x) c d step =
      let s : State = c.state in
      none_tried offers before x.0.posts
      (ap (λ (e : Entry). e.posts) step.made ∙ planned_none s (data_of given) (grants_of x.0).short (send_plan s.link.net s.endpoints conn ip port (length (data_of given))))
  sent_offers offers before actor conn ip port given (Err e) c d step = tt

  pub sent_back : {A E : Type 0} (event : Event P) (conn : ℕ) (ip : Ip) (port : Port) (given : SendData) (r : Result A (E × Event P)) → HasText seen event (SendTo conn ip port given)
      → IfErr r (λ x. x.1 ≡ SendTo conn ip port given) → IfErr r (λ x. IsSameEvent seen event x.1)
  sent_back event conn ip port given (Ok x) has is = tt
  sent_back event conn ip port given (Err x) has is = same_event event x.1 (SendTo conn ip port given) has (ap (text_of seen) is) (ap (λ (e : Event P). payloads_in e) is)

  pub same_err : {A E : Type 0} (r : Result A E) (c d : CoreSeen P) (h k : HomeView) → OnErr r ((d ≡ c) × (k ≡ h)) → IfErr r (λ _. IsSameCore seen c d × (k ≡ h))
  same_err (Ok x) c d h k same = tt
  same_err (Err e) c d h k same = (same_core c d same.0, same.1)

  pub boxes_err : {A E : Type 0} (r : Result A E) (s : Shelf P) → IfErr r (λ _. AreSameBoxes s s)
  boxes_err (Ok x) s = tt
  boxes_err (Err e) s = same_self s

  pub sent_enough : {E : Type 0} (r : Result (Entry × Reply) E) (h : HomeView) (kind : Kind) → IfOk r (λ x. x.1 ≡ Done → (¬ (IsShort h kind 1)) × (¬ (IsShort h Ram 1)))
      → IfOk r (λ x. x.0.short ≡ false → x.1 ≡ Done → (¬ (IsShort h kind 1)) × (¬ (IsShort h Ram 1)))
  sent_enough (Ok x) h kind enough = λ not. enough
  sent_enough (Err e) h kind enough = tt
