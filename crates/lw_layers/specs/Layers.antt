-- How the layers of a stack stand for its state, and what a plan of a frame is.
use Rattle.std.specs.Prelude.{◌≡◌, ℕ, ◌+◌, ◌-◌, ◌^◌, ◌<◌, Bool, true, false, List, ◌∷◌, [], ◌++◌, length, map, Option, Some, None, option_map, slice_range, IfSome, IsSomeAnd, if◌then◌else◌}
use Rattle.lw_events.specs.Events.{had_place}
use Rattle.lw_conn.specs.Connections.{Connections, changed, with_post}
use Rattle.lw_boxes.specs.declared.item.Item.TheVariants.{Datagram as DatagramItem}
use Rattle.lw_boxes.specs.Shelf.{Shelf, IsPosted}
use Rattle.lw_arp.specs.Neighbours.{learn_plan, map_entries, packets, taught_by}
use Rattle.lw_payload.specs.Views.{View, HomeView}
use Rattle.lw_payload.specs.Totals.{total, Moves}
use Rattle.lw_runs.specs.Kept.{AreSameButRoom}
use Rattle.lw_link.specs.Plans.{Plans}
use Rattle.lw_link.specs.Way.{Link, IsPacket}
use Rattle.lw_reass.specs.declared.outcome.Outcome.{Outcome}
use Rattle.lw_reass.specs.declared.outcome.Outcome.TheVariants.{Whole, Kept, Dropped}
use Rattle.lw_reass.specs.Datagrams.{Datagram as OpenDatagram, added, plan_of}
use Rattle.lw_reass.specs.Table.{Reassembly, all_kept, IsReady}
use Rattle.lw_input.specs.declared.arrival.Arrival.{Arrival}
use Rattle.lw_input.specs.declared.arrival.Arrival.TheVariants.{Arp, Datagram, Nothing}
use Rattle.lw_input.specs.declared.input.PostPlan.{PostPlan}
use Rattle.lw_layers.specs.declared.layers.Layers.{Layers}
use Rattle.lw_layers.specs.declared.mail.Mail.{Mail}
use Rattle.lw_layers.specs.declared.mail.Offer.{Offer}
use Rattle.lw_layers.specs.declared.plan.Change.{Change}
use Rattle.lw_layers.specs.declared.plan.Change.TheVariants.{Learn, Keep, Nothing as NoChange}
use Rattle.lw_layers.specs.declared.plan.FramePlan.{FramePlan}
use Rattle.lw_layers.specs.declared.receive.Ready.{Ready}
use Rattle.lw_input.specs.Arrivals.{arrival_of, data_in, HoldsDatagram}
use Rattle.lw_input.specs.Datagrams.{is_fragment}
use Rattle.lw_input.specs.Input.{Delivery, moved}
use Rattle.lw_layers.specs.Posts.{first_place, posts_of}
use Rattle.lw_input.specs.PostPlans.{IsGoing}
use Rattle.lw_input.specs.State.{State}

-- the state of a stack, in which octets stand for the packets that wait
abbrev pub state_of : {P H : Type 0} → (P → View) → Layers P H → State
state_of seen s = record {
  limits = s.limits;
  link = record { net = s.netif; neighbours = map_entries (λ p. (seen p).octets) s.neighbours; next_id = s.next_id };
  fragments = s.fragments.datagrams;
  sent = s.sent;
  endpoints = s.endpoints;
  words = record { frames = s.words.frames; ticks = s.words.ticks; stopped = s.words.stopped };
}

-- the payloads that it holds: the packets that wait, and the fragments that are kept
abbrev pub held_in : {P H : Type 0} → Layers P H → List P
held_in s = packets s.neighbours ++ all_kept s.fragments

-- what an arrival changes besides what it sends, as it is planned
abbrev pub change_of : State → Arrival → Change
change_of s (Arp p) = Learn (learn_plan s.link.net.ip s.link.neighbours p)
change_of s (Datagram h) = if is_fragment h then Keep h (plan_of s.fragments h (h.total - h.head_len)) else NoChange
change_of s Nothing = NoChange

-- the link after a change
abbrev pub link_with : Link → Change → Link
link_with l (Learn plan) = record l { neighbours = taught_by plan l.neighbours }
link_with l (Keep h plan) = l
link_with l NoChange = l

-- the datagrams of which fragments came, after a change by a frame
abbrev pub fragments_with : List OpenDatagram → List ℕ → Change → List OpenDatagram
fragments_with ds frame (Learn plan) = ds
fragments_with ds frame (Keep h plan) = (added ds h (data_in frame h)).datagrams
fragments_with ds frame NoChange = ds

-- the octets of what a change leaves of a frame: the frame; or a whole that a fragment made, or a fragment that isn't kept
abbrev pub octets_given : Outcome (List ℕ) → Option (List ℕ)
octets_given (Whole h octets) = Some octets
octets_given Kept = None
octets_given (Dropped why octets) = Some octets

abbrev pub rest_of : List OpenDatagram → List ℕ → Change → Option (List ℕ)
rest_of ds frame (Learn plan) = Some frame
rest_of ds frame (Keep h plan) = octets_given (added ds h (data_in frame h)).outcome
rest_of ds frame NoChange = Some frame

-- the delivery that a planned post stands for, with its data
abbrev pub delivery_by : Mail → Delivery
delivery_by m = record { conn = m.post.conn; from = (m.post.ip, m.post.port); octets = m.octets }

-- a planned post has its data in these octets
pub record StandsIn (cs : Connections) (m : Mail) (octets : List ℕ) : Type 0 where
  pub going : IsGoing cs (length octets) m.post
  pub stands : m.octets ≡ slice_range octets m.post.place (m.post.place + m.post.count)

-- it has its data in what is left of a frame
abbrev pub IsMail : Connections → Option (List ℕ) → Mail → Type 0
IsMail cs rest m = IsSomeAnd rest (StandsIn cs m)

-- the plan of a frame that brings this: what changes, then what goes out, and what goes to a connection, are what the serial step says
pub record IsPlanned (s : State) (frame : List ℕ) (a : Arrival) (p : FramePlan) : Type 0 where
  pub change : p.change ≡ change_of s a
  pub sends : Plans p.link (link_with s.link p.change) (moved s frame a).way
  pub packet : IfSome p.link.waits (λ w. IsPacket w.1)
  pub delivery : option_map delivery_by p.mail ≡ (moved s frame a).delivery
  pub mail : IfSome p.mail (IsMail s.endpoints.conns (rest_of s.fragments frame p.change))

-- what is to be posted, where there is a place for it or not
abbrev pub post_if : Bool → Option Mail → Option PostPlan
post_if true mail = option_map (λ m. m.post) mail
post_if false mail = None

-- what was made of a datagram for a connection: the posts that the entry tells are those of its delivery by the answers that they
-- tell, and it is to be posted where there was a place
pub record IsOffer (cs : Connections) (mail : Option Mail) (o : Offer) : Type 0 where
  pub posts : o.posts ≡ posts_of cs (option_map delivery_by mail) (map had_place o.posts)
  pub post : o.post ≡ post_if (first_place (map had_place o.posts)) mail

-- the mailboxes have the place for what is to be posted
abbrev pub HasPlace : {P : Type 0} → Shelf P → Option PostPlan → Type 0
HasPlace shelf post = IfSome post (λ p. (shelf.found p.conn (shelf.box p.conn).posted ≡ true) × ((shelf.box p.conn).posted < 2 ^ 28 - 1))

-- what was made of a datagram whose data is in what is left of a frame
pub record IsOfferOf (cs : Connections) (rest : Option (List ℕ)) (o : Offer) : Type 0 where
  pub mail : Option Mail
  pub offer : IsOffer cs mail o
  pub stands : IfSome mail (IsMail cs rest)

-- the connections after an item was posted, if one was
abbrev pub posted_by : Connections → Option PostPlan → Connections
posted_by cs (Some p) = changed cs p.conn with_post
posted_by cs None = cs

-- a payload was cut to the data of a planned post, and posted
pub record IsHanded {P : Type 0} (seen : P → View) (h k : HomeView) (payload : P) (p : PostPlan) (before after : Shelf P) : Type 0 where
  pub item : P
  pub octets : (seen item).octets ≡ slice_range (seen payload).octets p.place (p.place + p.count)
  pub posted : IsPosted before p.conn (DatagramItem p.ip p.port item) after
  pub moves : Moves h k (total seen h.pools.family (payload ∷ [])) (total seen h.pools.family (item ∷ []))

-- there is the memory that a change by a frame takes
abbrev pub IsRoomFor : {P : Type 0} → (P → View) → Reassembly P → Change → View → Type 0
IsRoomFor seen r (Learn plan) frame = Unit {0}
IsRoomFor seen r (Keep h plan) frame = IsReady seen r plan frame
IsRoomFor seen r NoChange frame = Unit {0}

-- n octets of data of a frame hold the fragment that is taken in
abbrev pub HoldsChange : ℕ → Change → Type 0
HoldsChange n (Learn plan) = Unit {0}
HoldsChange n (Keep h plan) = HoldsDatagram n h
HoldsChange n NoChange = Unit {0}

-- a stack is as it was but for the room that it has
pub record IsSameLayers {P H : Type 0} (seen : P → View) (before after : Layers P H) : Type 0 where
  pub state : state_of seen after ≡ state_of seen before
  pub waiting : packets after.neighbours ≡ packets before.neighbours
  pub kept : AreSameButRoom seen (all_kept before.fragments) (all_kept after.fragments)

-- all was made ready for a frame: what it changes, sends and posts is planned, the memory that it takes is there, the mailboxes have
-- the place for what is to be posted, and so there is the payload of RAM for the packet that will wait
pub record IsReadyFor {P H : Type 0} (seen : P → View) (s : Layers P H) (shelf : Shelf P) (frame : View) (r : Ready P) : Type 0 where
  pub mail : Option Mail
  pub plan : IsPlanned (state_of seen s) frame.octets (arrival_of s.netif frame.octets) (record { change = r.change; link = r.link; mail = mail })
  pub offer : IsOffer s.endpoints.conns mail r.offer
  pub place : HasPlace shelf r.offer.post
  pub holds : HoldsChange (length frame.octets - 14) r.change
  pub room : IsRoomFor seen s.fragments r.change frame
  pub ram : IfSome r.link.waits (λ w. (seen r.ram).octets ≡ w.1)
