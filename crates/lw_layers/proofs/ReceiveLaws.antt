-- A frame that is taken in: what was made ready for it stays so, and what it leaves.
use Rattle.std.proofs.Common.{◌≡◌, ℕ, ◌-◌, ◌∙◌, Bool, true, false, List, [], ◌∷◌, Option, Some, None, IfSome, IsTrue, is_some, length, sym, ap, subst, if◌then◌else◌}
use Rattle.lw_base.specs.declared.heads.IpHead.{IpHead}
use Rattle.lw_payload.specs.declared.kinds.Kind.TheVariants.{Ram}
use Rattle.lw_payload.specs.Views.{View, HomeView}
use Rattle.lw_payload.specs.Calls.{IsSameButRoom}
use Rattle.lw_payload.specs.Totals.{total, Moves}
use Rattle.lw_payload.proofs.TotalLaws.{Moves-then}
use Rattle.lw_runs.specs.Kept.{AreSameButRoom}
use Rattle.lw_runs.proofs.HoldsLaws.{Moves-holds}
use Rattle.lw_runs.proofs.Stands.{Holds-same}
use Rattle.lw_events.specs.declared.entry.Post.{Post}
use Rattle.lw_conn.specs.Connections.{Connections, connection}
use Rattle.lw_boxes.specs.Shelf.{Shelf}
use Rattle.lw_reass.specs.declared.outcome.FragmentPlan.{FragmentPlan}
use Rattle.lw_reass.specs.Datagrams.{plan_of}
use Rattle.lw_input.specs.declared.arrival.Arrival.{Arrival}
use Rattle.lw_input.specs.declared.arrival.Arrival.TheVariants.{Arp, Datagram, Nothing}
use Rattle.lw_input.specs.Arrivals.{arrival_of, Holds, HoldsDatagram}
use Rattle.lw_input.specs.Datagrams.{is_fragment}
use Rattle.lw_input.specs.State.{State}
use Rattle.lw_layers.specs.declared.layers.Layers.{Layers}
use Rattle.lw_layers.specs.declared.mail.Mail.{Mail}
use Rattle.lw_layers.specs.declared.plan.Change.TheVariants.{Keep, Nothing as NoChange}
use Rattle.lw_layers.specs.declared.plan.FramePlan.{FramePlan}
use Rattle.lw_layers.specs.declared.receive.Ready.{Ready}
use Rattle.lw_layers.specs.Boxes.{AreAsked, AreBoxesOf}
use Rattle.lw_layers.specs.Claims.{IsClaimed}
use Rattle.lw_layers.specs.Layers.{change_of, rest_of, state_of, HasPlace, HoldsChange, IsMail, IsOffer, IsPlanned, IsReadyFor, IsRoomFor, IsSameLayers}
use Rattle.lw_layers.specs.Posts.{IsPosting}
use Rattle.lw_layers.specs.Outcomes.{Outcome, counted}
use Rattle.lw_layers.specs.Step.{dropped, frame_granted, frame_step}
use Rattle.lw_layers.proofs.ClaimLaws.{claim_moves}
use Rattle.lw_layers.proofs.MoveLaws.{Moves-back, Moves-front}
use Rattle.lw_layers.proofs.PostLaws.{asked_same, nothing_posted, posting_then}
use Rattle.lw_layers.proofs.SameBoxes.{same_boxes, same_keep}

-- What is ready

-- the frame holds the fragment that is taken in
by_fragment : (b : Bool) (h : IpHead) (plan : FragmentPlan) (n : ℕ) → HoldsDatagram n h → HoldsChange n (if b then Keep h plan else NoChange)
by_fragment true h plan n holds = holds
by_fragment false h plan n holds = tt

by_arrival : (s : State) (a : Arrival) (n : ℕ) → Holds n a → HoldsChange n (change_of s a)
by_arrival s (Arp p) n holds = tt
by_arrival s (Datagram h) n holds = by_fragment (is_fragment h) h (plan_of s.fragments h (h.total - h.head_len)) n holds
by_arrival s Nothing n holds = tt

pub holds_change : (s : State) (octets : List ℕ) (a : Arrival) (p : FramePlan) (n : ℕ) → IsPlanned s octets a p → Holds n a → HoldsChange n p.change
holds_change s octets a p n planned holds = subst (HoldsChange n) (sym planned.change) (by_arrival s a n holds)

-- a planned post goes to a live connection
mail_live : (cs : Connections) (rest : Option (List ℕ)) (m : Mail) → IsMail cs rest m → IsTrue (is_some (connection cs m.post.conn))
mail_live cs (Some octets) m stands = stands.going.live
mail_live cs None m stands = absurd stands

if_live : (cs : Connections) (rest : Option (List ℕ)) (mail : Option Mail) → IfSome mail (IsMail cs rest) → IfSome mail (λ m. IsTrue (is_some (connection cs m.post.conn)))
if_live cs rest (Some m) stands = mail_live cs rest m stands
if_live cs rest None stands = tt

pub planned_live : (s : State) (octets : List ℕ) (a : Arrival) (p : FramePlan) → IsPlanned s octets a p → IfSome p.mail (λ m. IsTrue (is_some (connection s.endpoints.conns m.post.conn)))
planned_live s octets a p planned = if_live s.endpoints.conns (rest_of s.fragments octets p.change) p.mail planned.mail

-- all is ready still once there is room
pub made_ready : {P H : Type 0} (seen : P → View) (before after : Layers P H) (shelf : Shelf P) (frame next : View) (octets : List ℕ) (plan : FramePlan) (r : Ready P) → IsSameLayers seen before after → IsSameButRoom frame next
    → octets ≡ frame.octets → IsPlanned (state_of seen before) octets (arrival_of before.netif octets) plan → Holds (length octets - 14) (arrival_of before.netif octets)
    → plan ≡ record { change = r.change; link = r.link; mail = plan.mail }
    → IsOffer before.endpoints.conns plan.mail r.offer → HasPlace shelf r.offer.post → IsRoomFor seen after.fragments r.change next → IfSome r.link.waits (λ w. (seen r.ram).octets ≡ w.1)
    → IsReadyFor seen after shelf next r
made_ready {P} {H} seen before after shelf frame next octets plan r same room is planned holds parts offer place has ram =
    let own : octets ≡ next.octets = is ∙ sym room.octets in
    let text : IsPlanned (state_of seen before) octets (arrival_of before.netif octets) (record { change = r.change; link = r.link; mail = plan.mail }) =
    subst (λ (p : FramePlan). IsPlanned (state_of seen before) octets (arrival_of before.netif octets) p) parts planned in
    let held : HoldsChange (length octets - 14) r.change = subst (λ (p : FramePlan). HoldsChange (length octets - 14) p.change) parts (holds_change (state_of seen before) octets (arrival_of before.netif octets) plan (length octets - 14) planned holds) in
    record {
      mail = plan.mail;
      plan = subst (λ (s : State). IsPlanned s next.octets (arrival_of s.link.net next.octets) (record { change = r.change; link = r.link; mail = plan.mail })) (sym same.state)
          (subst (λ (xs : List ℕ). IsPlanned (state_of seen before) xs (arrival_of before.netif xs) (record { change = r.change; link = r.link; mail = plan.mail })) own text);
      offer = subst (λ (s : State). IsOffer s.endpoints.conns plan.mail r.offer) (sym same.state) offer;
      place = place;
      holds = subst (λ (xs : List ℕ). HoldsChange (length xs - 14) r.change) own held;
      room = has;
      ram = ram;
    }

-- What a frame leaves

-- the state, the frames and the posts are those of a frame with the same octets, for which RAM wasn't short
pub granted_as : {A : Type 0} (f : Outcome → A) (s t : State) (xs ys : List ℕ) (short : Bool) (places : List Bool) (a : A) → short ≡ false → t ≡ s → ys ≡ xs → a ≡ f (frame_step t ys places)
    → a ≡ f (frame_granted s xs short places)
granted_as f s t xs ys short places a whole states octets is =
    is ∙ ap (λ (u : State). f (frame_step u ys places)) states ∙ ap (λ (zs : List ℕ). f (frame_step s zs places)) octets ∙ ap (λ (b : Bool). f (frame_granted s xs b places)) (sym whole)

-- a frame that is dropped is counted
pub dropped_state : {P H : Type 0} (seen : P → View) (before ready after : Layers P H) → IsSameLayers seen before ready → after ≡ record ready { words = record ready.words { frames = counted ready.words.frames } }
    → state_of seen after ≡ (dropped (state_of seen before)).state
dropped_state seen before ready after same is = ap (state_of seen) is ∙ ap (λ (s : State). (dropped s).state) same.state

-- the mailboxes are those of the connections once they were asked
pub asked_boxes : {P H : Type 0} (seen : P → View) (before after : Layers P H) (shelf asked : Shelf P) → IsSameLayers seen before after → AreAsked shelf asked → AreBoxesOf before.endpoints.conns shelf → AreBoxesOf after.endpoints.conns asked
asked_boxes seen before after shelf asked same ask are =
    subst (λ (s : State). AreBoxesOf s.endpoints.conns asked) (sym same.state) (same_boxes before.endpoints.conns shelf asked are (asked_same shelf asked ask))

-- a payload of RAM was claimed beside a frame and what the stack holds
claimed_beside : {P : Type 0} (seen : P → View) (h k : HomeView) (frame next ram : P) (held after : List P) → IsSameButRoom (seen frame) (seen next) → AreSameButRoom seen held after → IsClaimed Ram h k (seen ram)
    → Moves h k (total seen h.pools.family (frame ∷ held)) (total seen h.pools.family (next ∷ ram ∷ after))
claimed_beside seen h k frame next ram held after one all claimed =
    let f = h.pools.family in
    Moves-then h h k (total seen f (frame ∷ held)) (total seen f (next ∷ after)) (total seen f (next ∷ ram ∷ after))
    (Moves-holds seen h f (frame ∷ held) (next ∷ after) (Holds-same seen (frame ∷ held) (next ∷ after) (one, all)))
    (Moves-back seen f h k after (ram ∷ after) (next ∷ []) (Moves-front seen f h k [] (ram ∷ []) after (claim_moves seen Ram h k ram claimed)))

-- what was posted once it was
pub claimed_posting : {P : Type 0} (seen : P → View) (h k l : HomeView) (posts : List Post) (before asked after : Shelf P) (frame next ram : P) (held kept left : List P) → IsSameButRoom (seen frame) (seen next) → AreSameButRoom seen held kept
    → IsClaimed Ram h k (seen ram) → AreAsked before asked → IsPosting seen k l posts asked after (next ∷ ram ∷ kept) left
    → IsPosting seen h l posts before after (frame ∷ held) left
claimed_posting seen h k l posts before asked after frame next ram held kept left one all claimed ask posting =
    posting_then seen h k l posts before asked after (frame ∷ held) (next ∷ ram ∷ kept) left ask (claimed_beside seen h k frame next ram held kept one all claimed) posting

-- nothing was posted where the frame was dropped
pub dropped_posting : {P : Type 0} (seen : P → View) (h l : HomeView) (posts : List Post) (before after : Shelf P) (came held : List P) → posts ≡ [] → AreAsked before after
    → Moves h l (total seen h.pools.family came) (total seen h.pools.family held) → IsPosting seen h l posts before after came held
dropped_posting seen h l posts before after came held none ask moves =
    subst (λ (ps : List Post). IsPosting seen h l ps before after came held) (sym none)
    (nothing_posted seen h l [] before after came held (same_keep before after (asked_same before after ask)) moves)
