-- What callers see of a mailbox, its Puts, its Get and notes of it.
use Rattle.std.specs.Prelude.{◌≡◌, ℕ, ◌+◌, ◌-◌, true, false, List, [], ◌∷◌, length, Option, Some}
use Rattle.atomic_table.specs.Seated.{TableId}
use Rattle.crossbeam_queue.specs.Passes.{Pass, view}
use Rattle.tcpip_mbox.specs.declared.view.Letter.{Letter}
use Rattle.tcpip_mbox.specs.declared.view.Returned.{Returned}
use Rattle.tcpip_mbox.specs.declared.view.View.{View}
use Rattle.tcpip_mbox.specs.Views.{teller}

-- a mailbox: which one, how many places it has, and what its messages fit
pub record Named (K : Type 0) : Type 0 where
  pub table : TableId
  pub places : ℕ
  pub key : K

-- the pass is of this mailbox
abbrev pub IsOf : {K : Type 0} → Named K → TableId → Option K → Type 0
IsOf m table key = (table ≡ m.table) × (key ≡ Some m.key)

-- a Put: its number, the number of the other Puts where it is the first, what it put in, and how many of these it knows as given
pub record Sender (M K : Type 0) : Type 0 where
  pub table : TableId
  pub key : Option K
  pub number : ℕ
  pub others : ℕ
  pub sent : List M
  pub known : ℕ

-- the Get: the number of the Puts but the first, what it gave, oldest first, and the Puts that it took back
pub record Receiver (M K : Type 0) : Type 0 where
  pub table : TableId
  pub key : Option K
  pub others : ℕ
  pub given : List (Letter M)
  pub back : List (Returned M)

-- a note of what the Get gave
pub record Noted (M : Type 0) : Type 0 where
  pub table : TableId
  pub given : List (Letter M)

-- a message from the Put n
abbrev pub letter : {M : Type 0} → ℕ → M → Letter M
letter n m = record { from = n; message = m }

module _ {M K : Type 0} where
  -- a Put that has put in nothing
  abbrev pub fresh : TableId → Option K → ℕ → ℕ → Sender M K
  fresh table key number others = record { table = table; key = key; number = number; others = others; sent = []; known = 0 }

  -- Puts with the numbers from n on
  abbrev pub AreNumbered : TableId → Option K → ℕ → List (Sender M K) → Type 0
  AreNumbered table key n [] = Unit {0}
  AreNumbered table key n (p ∷ ps) = (p ≡ fresh table key n 0) × AreNumbered table key (n + 1) ps

  -- the Puts of a new mailbox for so many lines, the first at the head
  abbrev pub ArePuts : Named K → ℕ → List (Sender M K) → Type 0
  ArePuts m lines [] = ⊥
  ArePuts m lines (p ∷ ps) = (p ≡ fresh m.table (Some m.key) 0 (lines - 1)) × AreNumbered m.table (Some m.key) 1 ps × (length (p ∷ ps) ≡ lines)

  -- what contracts see of a pass: as a Put with this number, as the Get, as a note
  abbrev pub sender_at : Pass (Letter M) (View M K) → ℕ → Sender M K
  sender_at p number = let v : View M K = view p in record { table = p.table_id; key = v.key; number = number; others = v.others; sent = v.sent; known = v.known }

  abbrev pub receiver_at : Pass (Letter M) (View M K) → Receiver M K
  receiver_at p = record { table = p.table_id; key = (view p).key; others = (view p).others; given = (view p).given; back = (view p).back }

  abbrev pub noted_at : Pass (Letter M) (View M K) → Noted M
  noted_at p = record { table = p.table_id; given = (view p).given }

  -- the pass is that of the Put with this number, and has no slot
  abbrev pub IsPutting : Pass (Letter M) (View M K) → ℕ → Type 0
  IsPutting p number = (p.me.1 ≡ []) × ((view p).puts ≡ true) × ((view p).gets ≡ false) × ((view p).number ≡ number)

  -- the pass is the Get's
  abbrev pub IsGetting : Pass (Letter M) (View M K) → Type 0
  IsGetting p = (p.me.1 ≡ []) × ((view p).puts ≡ false) × ((view p).gets ≡ true)

  -- the pass is a note, which may neither put in nor take out
  abbrev pub IsNote : Pass (Letter M) (View M K) → Type 0
  IsNote p = (p.me.1 ≡ []) × (view p ≡ teller (view p).given)
