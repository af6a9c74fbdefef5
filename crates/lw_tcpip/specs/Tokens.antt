-- What callers see of a line and of the server, and what holds of them between two calls.
use Rattle.std.specs.Prelude.{◌≡◌, ◌≢◌, ℕ, ◌+◌, ◌-◌, ◌<◌, ◌≤◌, min, true, false, Bool, List, [], ◌∷◌, ◌++◌, length, slice_get, Option, Some}
use Rattle.atomic_table.specs.Seated.{TableId}
use Rattle.hist_lock.specs.Callers.{Known, Begun}
use Rattle.tcpip_mbox.specs.declared.view.Letter.{Letter}
use Rattle.tcpip_mbox.specs.Letters.{sent_by}
use Rattle.tcpip_mbox.specs.Tokens.{Named, Sender, Receiver}
use Rattle.reply_box.specs.Places.{Named as PlaceNamed, Side, IsOf as IsSideOf}
use Rattle.lw_tcpip.specs.declared.message.Task.{Task}
use Rattle.lw_tcpip.specs.declared.message.Task.TheVariants.{Leave}
use Rattle.lw_tcpip.specs.declared.message.Service.{Service}
use Rattle.lw_tcpip.specs.declared.reply.LineKey.{LineKey}
use Rattle.lw_tcpip.specs.Tasks.{frames_of, calls_in, has_left}

-- A line: of which mailbox, for what its messages are, and how many places the mailbox has; its number, and that of the other lines where it is the first;
-- the frames that it put in, the entries that its questions made, the frames that it was refused; whether it has left, and whether at its last reply a frame was given up
pub record LineSeen (L V : Type 0) : Type 0 where
  pub mbox : TableId
  pub terms : Option (Service L)
  pub places : ℕ
  pub number : ℕ
  pub others : ℕ
  pub frames : List V
  pub entries : ℕ
  pub refusals : ℕ
  pub left : Bool
  pub lost : Bool

-- The server: of which mailbox, and for what its messages are; the frames that it took, whether every line has left, whether a frame was given up
pub record ServerSeen (L V : Type 0) : Type 0 where
  pub mbox : TableId
  pub terms : Option (Service L)
  pub taken : List V
  pub ended : Bool
  pub lost : Bool

-- where the server answers a line: the place, the right to answer there, whether the line has left
pub record SeatSeen (K : Type 0) : Type 0 where
  pub place : PlaceNamed K
  pub pledge : Side K
  pub left : Bool

-- the seat, with one reply more
abbrev pub answered : {K : Type 0} → SeatSeen K → SeatSeen K
answered s = record s { pledge = record s.pledge { count = s.pledge.count + 1 } }

module _ {L V : Type 0} where
  -- the line is one of this mailbox
  abbrev pub IsLineOf : Named (Service L) → LineSeen L V → Type 0
  IsLineOf t l = (l.mbox ≡ t.table) × (l.terms ≡ Some t.key) × (l.places ≡ t.places)

  -- the server is that of this mailbox
  abbrev pub IsServerOf : Named (Service L) → ServerSeen L V → Type 0
  IsServerOf t s = (s.mbox ≡ t.table) × (s.terms ≡ Some t.key)

  -- a line that has done nothing
  abbrev pub fresh_line : Named (Service L) → ℕ → ℕ → LineSeen L V
  fresh_line t number others = record { mbox = t.table; terms = Some t.key; places = t.places; number = number; others = others; frames = []; entries = 0; refusals = 0; left = false; lost = false }

  -- lines with the numbers from n on
  abbrev pub AreNumbered : Named (Service L) → ℕ → List (LineSeen L V) → Type 0
  AreNumbered t n [] = Unit {0}
  AreNumbered t n (l ∷ ls) = (l ≡ fresh_line t n 0) × AreNumbered t (n + 1) ls

  -- so many lines, the first at the head
  abbrev pub AreLines : Named (Service L) → ℕ → List (LineSeen L V) → Type 0
  AreLines t lines [] = ⊥
  AreLines t lines (l ∷ ls) = (l ≡ fresh_line t 0 (lines - 1)) × AreNumbered t 1 ls × (length (l ∷ ls) ≡ lines)

module _ {L : Type 0} where
  -- the place is that of this line of this mailbox
  abbrev pub IsPlaceOf : TableId → Option (Service L) → ℕ → PlaceNamed (LineKey (Named (Service L))) → Type 0
  IsPlaceOf mbox terms line p = (p.key.mbox.value.table ≡ mbox) × (Some p.key.mbox.value.key ≡ terms) × (p.key.line ≡ line)

  -- The seat's place is that of this line. So many replies were given there, and it says of the line that it has left only where it has
  pub record IsSeat (mbox : TableId) (terms : Option (Service L)) (line calls : ℕ) (gone : Bool) (s : SeatSeen (LineKey (Named (Service L)))) : Type 0 where
    pub own : IsSideOf s.place s.pledge
    pub place : IsPlaceOf mbox terms line s.place
    pub count : s.pledge.count ≡ calls
    pub left : s.left ≡ true → gone ≡ true

  -- each seat is that of the line whose number is its place in the list, of which no message was taken
  abbrev pub AreNew : TableId → Option (Service L) → List (SeatSeen (LineKey (Named (Service L)))) → Type 0
  AreNew mbox terms seats = (line : ℕ) (s : SeatSeen (LineKey (Named (Service L)))) → slice_get seats line ≡ Some s → IsSeat mbox terms line 0 false s

module _ {C V L : Type 0} where
  -- What holds of a line between two calls. As many replies were taken as it has asked questions. Until it leaves, each line but the first knows all its messages as taken,
  -- and those that the first doesn't know are frames. Behind its last message there is none. The first is refused only where it may have filled the mailbox itself
  pub record IsLine (put : Sender (Task C V) (Service L)) (box : PlaceNamed (LineKey (Named (Service L)))) (waits : Side (LineKey (Named (Service L)))) (places refusals : ℕ) : Type 0 where
    pub own : IsSideOf box waits
    pub place : IsPlaceOf put.table put.key put.number box
    pub asked : waits.count ≡ calls_in put.sent
    pub known : has_left put.sent ≡ false → put.number ≢ 0 → put.known ≡ length put.sent
    pub frames : has_left put.sent ≡ false → put.number ≡ 0 → length put.sent ≤ put.known + length (frames_of put.sent)
    pub most : put.known ≤ length put.sent
    pub last : has_left put.sent ≡ true → (before : List (Task C V)) × (line : ℕ) × (put.sent ≡ before ++ Leave line ∷ []) × (has_left before ≡ false)
    pub refused : 0 < refusals → places ≤ length (frames_of put.sent) + put.others

  -- each seat is that of the line whose number is its place in the list, and as many replies were given there as questions of the line were taken
  abbrev pub AreSeats : TableId → Option (Service L) → List (Letter (Task C V)) → List (SeatSeen (LineKey (Named (Service L)))) → Type 0
  AreSeats mbox terms given seats = (line : ℕ) (s : SeatSeen (LineKey (Named (Service L)))) → slice_get seats line ≡ Some s → IsSeat mbox terms line (calls_in (sent_by line given)) (has_left (sent_by line given)) s

  -- There is a seat for each line, and every line has left where the server says so
  pub record IsServer (get : Receiver (Task C V) (Service L)) (seats : List (SeatSeen (LineKey (Named (Service L))))) (over : Bool) : Type 0 where
    pub many : length seats ≡ get.others + 1
    pub each : AreSeats get.table get.key get.given seats
    pub ended : over ≡ true → (line : ℕ) → line ≤ get.others → has_left (sent_by line get.given) ≡ true
