-- What an event posts to the mailboxes of connections.
use Rattle.std.specs.Prelude.{◌≡◌, ◌≢◌, ℕ, ◌+◌, ◌<◌, ◌≤◌, Bool, true, false, List, [], ◌∷◌, ◌++◌, Option, Some, None, flat_map}
use Rattle.std.specs.Option.{option_map_or}
use Rattle.lw_payload.specs.Views.{View, HomeView}
use Rattle.lw_payload.specs.Totals.{total, Moves}
use Rattle.lw_events.specs.declared.entry.ItemText.{ItemText}
use Rattle.lw_events.specs.declared.entry.ItemText.TheVariants.{Segment as SegmentText, Datagram as DatagramText, Accepted as AcceptedText}
use Rattle.lw_events.specs.declared.entry.Post.{Post}
use Rattle.lw_events.specs.declared.entry.Post.TheVariants.{Item as Posted, Full}
use Rattle.lw_events.specs.Events.{had_place}
use Rattle.lw_conn.specs.Connections.{Connections, changed, connection, with_post}
use Rattle.lw_boxes.specs.declared.item.Item.{Item}
use Rattle.lw_boxes.specs.declared.item.Item.TheVariants.{Segment, Datagram, Accepted}
use Rattle.lw_boxes.specs.Shelf.{Shelf}
use Rattle.lw_layers.specs.Boxes.{KeepItems}
use Rattle.lw_input.specs.Input.{Delivery}

-- The post of a datagram

-- how many items were posted to a connection
abbrev pub posted_to : Connections → ℕ → ℕ
posted_to cs conn = option_map_or (λ c. c.posted) (connection cs conn) 0

-- whether the first post that was tried had a place; one of which nothing is told had none
abbrev pub first_place : List Bool → Bool
first_place [] = false
first_place (place ∷ places) = place

-- the post of a datagram, where its mailbox had a place or not: its ticket is how many items were posted to the connection before
abbrev pub post_of : Connections → Delivery → Bool → Post
post_of cs d true = Posted d.conn (posted_to cs d.conn) (DatagramText d.from.0 d.from.1 d.octets)
post_of cs d false = Full d.conn

-- the posts of an event that delivers a datagram, or none
abbrev pub posts_of : Connections → Option Delivery → List Bool → List Post
posts_of cs None places = []
posts_of cs (Some d) places = post_of cs d (first_place places) ∷ []

-- the connections after a post that had a place is counted
abbrev pub counted_post : Connections → ℕ → Bool → Connections
counted_post cs conn true = changed cs conn with_post
counted_post cs conn false = cs

-- the connections after an event that delivers a datagram, or none
abbrev pub posted : Connections → Option Delivery → List Bool → Connections
posted cs None places = cs
posted cs (Some d) places = counted_post cs d.conn (first_place places)

-- What mailboxes have of it

-- an item as its post tells it: the octets of its payload in the payload's place
abbrev pub item_text : {P : Type 0} → (P → View) → Item P → ItemText
item_text seen (Segment p) = SegmentText (seen p).octets
item_text seen (Datagram ip port p) = DatagramText ip port (seen p).octets
item_text seen (Accepted conn) = AcceptedText conn

-- the payload of an item, if it has one
abbrev pub item_payload : {P : Type 0} → Item P → List P
item_payload (Segment p) = p ∷ []
item_payload (Datagram ip port p) = p ∷ []
item_payload (Accepted conn) = []

-- the payloads of items
abbrev pub item_payloads : {P : Type 0} → List (Item P) → List P
item_payloads items = flat_map item_payload items

-- an item stands behind those that the mailbox of a connection kept, with the ticket of the next post; the other mailboxes are as they were
pub record IsPut {P : Type 0} (before : Shelf P) (conn ticket : ℕ) (item : Item P) (after : Shelf P) : Type 0 where
  pub made : after.made ≡ before.made
  pub there : (0 < conn) × (conn ≤ before.made)
  pub next : (before.box conn).posted ≡ ticket
  pub counted : (after.box conn).posted ≡ ticket + 1
  pub kept : (after.box conn).kept ≡ (before.box conn).kept ++ item ∷ []
  pub others : (c : ℕ) → c ≢ conn → after.box c ≡ before.box c

-- what mailboxes keep grows by just the items that were posted, one after another: each post that had a place put its item, with the
-- octets that it tells and its ticket; one that found the mailbox full changed nothing
abbrev pub Posting : {P : Type 0} → (P → View) → List Post → List (Item P) → Shelf P → Shelf P → Type 0
Posting seen [] [] before after = KeepItems before after
Posting seen [] (item ∷ items) before after = ⊥
Posting seen (Full conn ∷ posts) items before after = Posting seen posts items before after
Posting seen (Posted conn ticket text ∷ posts) [] before after = ⊥
Posting {P} seen (Posted conn ticket text ∷ posts) (item ∷ items) before after =
    (text ≡ item_text seen item) × ((between : Shelf P) × IsPut before conn ticket item between × Posting seen posts items between after)

-- an event posted these items: the mailboxes have them, and what came to the payloads of the event, and to those that were held
-- before, came to those that are held after it, and to those of the items
pub record IsPosting {P : Type 0} (seen : P → View) (h k : HomeView) (posts : List Post) (before after : Shelf P) (came held : List P) : Type 0 where
  pub items : List (Item P)
  pub boxes : Posting seen posts items before after
  pub moves : Moves h k (total seen h.pools.family came) (total seen h.pools.family (held ++ item_payloads items))

-- a post was tried at a mailbox, which gave the answer that the post tells
abbrev pub tried_at : Post → ℕ
tried_at (Posted conn ticket text) = conn
tried_at (Full conn) = conn

pub record IsOffered {B : Type 0} (offers : B → ℕ → ℕ → Bool → B → Type 0) (before : B) (post : Post) : Type 0 where
  pub after : B
  pub answer : offers before (tried_at post) 0 (had_place post) after
