-- What the core sees of the mailboxes of connections.
use Rattle.std.specs.Prelude.{◌≡◌, ◌≢◌, ◌⊎◌, ℕ, ◌+◌, ◌-◌, ◌<◌, ◌≤◌, ◌^◌, Bool, true, false, max, List, [], ◌∷◌, ◌++◌, bit_or, bit_and}
use Rattle.lw_base.specs.declared.event_word.Flag.{Flag}
use Rattle.lw_base.specs.EventWord.{bit_of}
use Rattle.lw_boxes.specs.declared.item.Item.{Item}

-- a mailbox: how many items were posted, which of them it answers for, and its flags but REST
pub record Mailbox (P : Type 0) : Type 0 where
  pub posted : ℕ
  pub kept : List (Item P)
  pub flags : ℕ

-- a mailbox to which nothing was posted
abbrev pub fresh : {P : Type 0} → Mailbox P
fresh = record { posted = 0; kept = []; flags = 0 }

-- the mailboxes of the connections 1 to `made`; which places were found, by connection and ticket; and how many places
-- were asked for and not found
pub record Shelf (P : Type 0) : Type 0 where
  pub made : ℕ
  pub box : ℕ → Mailbox P
  pub found : ℕ → ℕ → Bool
  pub refusals : ℕ

-- places that were found stay
abbrev pub StayFound : {P : Type 0} → Shelf P → Shelf P → Type 0
StayFound before after = (conn ticket : ℕ) → before.found conn ticket ≡ true → after.found conn ticket ≡ true

-- a count rose, or stands at its last value
abbrev pub HasRisen : ℕ → ℕ → Type 0
HasRisen before after = (before < after) ⊎ (2 ^ 64 ≤ after + 1)

-- nothing changed but the mailbox of one connection
pub record IsSameBut {P : Type 0} (conn : ℕ) (before after : Shelf P) : Type 0 where
  pub others : (c : ℕ) → c ≢ conn → after.box c ≡ before.box c
  pub found : StayFound before after
  pub refusals : after.refusals ≡ before.refusals

-- the mailbox of this number is there: a new one is fresh
pub record IsMade {P : Type 0} (before : Shelf P) (conn : ℕ) (after : Shelf P) : Type 0 where
  pub made : after.made ≡ max before.made conn
  pub old : (c : ℕ) → c ≤ before.made → after.box c ≡ before.box c
  pub fresh : before.made < conn → after.box conn ≡ fresh
  pub found : StayFound before after
  pub refusals : after.refusals ≡ before.refusals

-- a place was asked for: a ticket that has one is below 2^28 - 1, and where none was found, the count of refusals rose
pub record IsAsked {P : Type 0} (before : Shelf P) (conn ahead : ℕ) (answer : Bool) (after : Shelf P) : Type 0 where
  pub made : after.made ≡ before.made
  pub same : (c : ℕ) → after.box c ≡ before.box c
  pub stay : StayFound before after
  pub found : answer ≡ true → (after.found conn ((before.box conn).posted + ahead) ≡ true) × (after.refusals ≡ before.refusals)
  pub few : answer ≡ true → (before.box conn).posted + ahead < 2 ^ 28 - 1
  pub refused : answer ≡ false → HasRisen before.refusals after.refusals

-- an item was posted
pub record IsPosted {P : Type 0} (before : Shelf P) (conn : ℕ) (item : Item P) (after : Shelf P) : Type 0 where
  pub made : after.made ≡ before.made
  pub others : IsSameBut conn before after
  pub posted : after.box conn ≡ record (before.box conn) { posted = (before.box conn).posted + 1; kept = (before.box conn).kept ++ item ∷ [] }

-- a flag was set
pub record HasFlag {P : Type 0} (before : Shelf P) (conn : ℕ) (flag : Flag) (after : Shelf P) : Type 0 where
  pub made : after.made ≡ before.made
  pub others : IsSameBut conn before after
  pub set : after.box conn ≡ record (before.box conn) { flags = bit_or (before.box conn).flags (bit_of flag) }

-- a flag was cleared
pub record HasNoFlag {P : Type 0} (before : Shelf P) (conn : ℕ) (flag : Flag) (after : Shelf P) : Type 0 where
  pub made : after.made ≡ before.made
  pub others : IsSameBut conn before after
  pub cleared : after.box conn ≡ record (before.box conn) { flags = bit_and (before.box conn).flags (255 - bit_of flag) }
