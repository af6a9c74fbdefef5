-- Mailboxes for one thread: lists of the items that nobody took yet.
use Rattle.std.specs.Prelude.{ℕ, ◌+◌, ◌-◌, ◌==◌, ◌^◌, ◌&&◌, nat_lt, Bool, true, false, if◌then◌else◌, List, [], ◌∷◌, ◌++◌, length, drop, Option, Some, None, option_map, slice_get, slice_set, min, bit_or, bit_and}
use Rattle.std.specs.Option.{option_map_or}
use Rattle.lw_base.specs.declared.event_word.Flag.{Flag}
use Rattle.lw_base.specs.declared.event_word.Flag.TheVariants.{Rest}
use Rattle.lw_base.specs.declared.event_word.Word.{Word}
use Rattle.lw_base.specs.EventWord.{bit_of}
use Rattle.lw_boxes.specs.declared.item.Item.{Item}
use Rattle.lw_boxes.specs.Shelf.{Mailbox, Shelf, fresh}

-- a mailbox: the items that nobody took yet, how many were taken, the flags but REST, whether REST is set, and how many
-- untaken items it has room for
pub record Untaken (P : Type 0) : Type 0 where
  pub items : List (Item P)
  pub taken : ℕ
  pub flags : ℕ
  pub rest : Bool
  pub capacity : ℕ

-- nothing was posted
abbrev pub no_items : {P : Type 0} → ℕ → Untaken P
no_items capacity = record { items = []; taken = 0; flags = 0; rest = false; capacity = capacity }

-- how many items were posted
abbrev pub posted_in : {P : Type 0} → Untaken P → ℕ
posted_in b = b.taken + length b.items

-- with room for so many untaken items, after so many posts one more has a place: there is room for it untaken, and a ticket
-- below 2^28 - 1
abbrev pub has_place : {P : Type 0} → ℕ → Untaken P → ℕ → Bool
has_place capacity b ahead = nat_lt (length b.items + ahead) capacity && nat_lt (posted_in b + ahead) (2 ^ 28 - 1)

-- one item more
abbrev pub pushed : {P : Type 0} → Untaken P → Item P → Untaken P
pushed b item = record b { items = b.items ++ item ∷ [] }

-- the item with the least ticket that nobody took, with its ticket
abbrev pub oldest : {P : Type 0} → Untaken P → Option (ℕ × Item P)
oldest b = option_map (λ item. (b.taken, item)) (slice_get b.items 0)

-- that one taken
abbrev pub fetched : {P : Type 0} → Untaken P → Untaken P
fetched b = record b { items = drop 1 b.items; taken = b.taken + min 1 (length b.items) }

-- the event word
abbrev pub word_of : {P : Type 0} → Untaken P → Word
word_of b = record { posted = posted_in b; claimed = b.taken; flags = (if b.rest then bit_or b.flags (bit_of Rest) else b.flags) }

-- a flag set
abbrev pub flagged : {P : Type 0} → Untaken P → Flag → Untaken P
flagged b flag = record b { flags = bit_or b.flags (bit_of flag) }

-- a flag cleared
abbrev pub cleared : {P : Type 0} → Untaken P → Flag → Untaken P
cleared b flag = record b { flags = bit_and b.flags (255 - bit_of flag) }

-- REST set or cleared
abbrev pub rested : {P : Type 0} → Untaken P → Bool → Untaken P
rested b on = record b { rest = on }

-- the mailboxes of all connections, by their numbers from 1; how many untaken items each has room for; and how many places
-- were asked for and not found
pub record AllBoxes (P : Type 0) : Type 0 where
  pub boxes : List (Untaken P)
  pub capacity : ℕ
  pub refusals : ℕ

-- none was made
abbrev pub no_boxes : {P : Type 0} → ℕ → AllBoxes P
no_boxes capacity = record { boxes = []; capacity = capacity; refusals = 0 }

-- the mailbox of a connection
abbrev pub box_of : {P : Type 0} → AllBoxes P → ℕ → Option (Untaken P)
box_of a conn = if conn == 0 then None else slice_get a.boxes (conn - 1)

-- the mailbox of a connection changed
abbrev pub with_box : {P : Type 0} → AllBoxes P → ℕ → (Untaken P → Untaken P) → AllBoxes P
with_box a conn f = record a { boxes = option_map_or (λ b. slice_set a.boxes (conn - 1) (f b)) (box_of a conn) a.boxes }

-- what the core sees of a mailbox
abbrev pub mailbox_of : {P : Type 0} → Untaken P → Mailbox P
mailbox_of b = record { posted = posted_in b; kept = b.items; flags = b.flags }

-- the ticket has a place: it is untaken, or will have one
abbrev pub has_found : {P : Type 0} → ℕ → Untaken P → Bool
has_found ticket b = nat_lt ticket (b.taken + b.capacity) && nat_lt ticket (2 ^ 28 - 1)

-- what the core sees of all mailboxes
abbrev pub shelf_of : {P : Type 0} → AllBoxes P → Shelf P
shelf_of a = record {
  made = length a.boxes;
  box = λ conn. option_map_or mailbox_of (box_of a conn) fresh;
  found = λ conn ticket. option_map_or (has_found ticket) (box_of a conn) false;
  refusals = a.refusals;
}
