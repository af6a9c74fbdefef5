-- The mailboxes of a stack's connections.
use Rattle.std.specs.Prelude.{◌≡◌, ℕ, ◌≤◌, ◌<◌, true, false, [], length, None, IfSome}
use Rattle.lw_base.specs.declared.event_word.Flag.TheVariants.{Closed}
use Rattle.lw_base.specs.EventWord.{is_set}
use Rattle.lw_conn.specs.declared.connections.Connection.{Connection}
use Rattle.lw_conn.specs.Connections.{Connections, connection}
use Rattle.lw_boxes.specs.Shelf.{Mailbox, Shelf, fresh}

-- a mailbox shows a live connection: as many items were posted to it, and it has its flags, without CLOSED
pub record Shows {P : Type 0} (box : Mailbox P) (c : Connection) : Type 0 where
  pub posted : box.posted ≡ c.posted
  pub flags : box.flags ≡ c.flags
  pub unclosed : is_set Closed c.flags ≡ false

-- the mailboxes are those of the connections: there is one for each number that was given. A live connection's shows it, a closed
-- one's has CLOSED, and one that was made for a number that wasn't given yet is fresh
pub record AreBoxesOf {P : Type 0} (cs : Connections) (shelf : Shelf P) : Type 0 where
  pub made : length cs ≤ shelf.made
  pub live : (conn : ℕ) → IfSome (connection cs conn) (λ c. Shows (shelf.box conn) c)
  pub closed : (conn : ℕ) → 0 < conn → conn ≤ length cs → connection cs conn ≡ None → is_set Closed (shelf.box conn).flags ≡ true
  pub fresh : (conn : ℕ) → length cs < conn → conn ≤ shelf.made → shelf.box conn ≡ fresh

-- mailboxes keep the items that they kept, and those that were made meanwhile keep none
pub record KeepItems {P : Type 0} (before after : Shelf P) : Type 0 where
  pub made : before.made ≤ after.made
  pub old : (conn : ℕ) → conn ≤ before.made → (after.box conn).kept ≡ (before.box conn).kept
  pub empty : (conn : ℕ) → before.made < conn → conn ≤ after.made → (after.box conn).kept ≡ []

-- mailboxes are as they were, and those that were made meanwhile are fresh
pub record AreSameBoxes {P : Type 0} (before after : Shelf P) : Type 0 where
  pub made : before.made ≤ after.made
  pub old : (conn : ℕ) → conn ≤ before.made → after.box conn ≡ before.box conn
  pub new : (conn : ℕ) → before.made < conn → conn ≤ after.made → after.box conn ≡ fresh

-- places in mailboxes were asked for, and nothing else was done
pub record AreAsked {P : Type 0} (before after : Shelf P) : Type 0 where
  pub made : after.made ≡ before.made
  pub same : (conn : ℕ) → after.box conn ≡ before.box conn
