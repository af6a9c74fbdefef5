-- What callers see of a mailbox, its Poster, its Takers and notes, and what their calls answer.
use Rattle.std.specs.Prelude.{◌≡◌, ◌≢◌, ℕ, ◌+◌, ◌^◌, ◌<◌, ◌≤◌, min, Bool, true, false, List, [], ◌∷◌, ◌++◌, Option, Some, Result, Ok, Err}
use Rattle.atomic_table.specs.Seated.{TableId}
use Rattle.lw_base.specs.declared.event_word.Flag.TheVariants.{Listen}
use Rattle.lw_base.specs.declared.event_word.Word.{Word}
use Rattle.lw_base.specs.EventWord.{is_set}
use Rattle.lw_mbox.specs.declared.view.Change.{Change}
use Rattle.lw_mbox.specs.declared.view.Got.{Got}
use Rattle.lw_mbox.specs.declared.view.Steps.{Steps}
use Rattle.lw_mbox.specs.declared.answers.PostFault.{PostFault}
use Rattle.lw_mbox.specs.declared.answers.PostFault.TheVariants.{Full, Worn}
use Rattle.lw_mbox.specs.declared.answers.Side.{Side}
use Rattle.lw_mbox.specs.declared.answers.Side.TheVariants.{Accepts, Reads}
use Rattle.lw_mbox.specs.declared.answers.Fetch.{Fetch}
use Rattle.lw_mbox.specs.declared.answers.Fetch.TheVariants as fetch
use Rattle.lw_mbox.specs.declared.answers.Drain.{Drain}
use Rattle.lw_mbox.specs.declared.answers.Drain.TheVariants as drain
use Rattle.lw_mbox.specs.Changes.{posted}
use Rattle.lw_mbox.specs.Trail.{Trail, saw, IsClosed, IsOpen, IsNewer, NeverClosed}
use Rattle.lw_mbox.specs.History.{IsWord, claimed_one, AllBelow, Parted, GotAll}
use Rattle.lw_mbox.specs.Plays.{ticket}

-- a mailbox, what its items fit
pub record Named (K : Type 0) : Type 0 where
  pub board : TableId
  pub capacity : ℕ
  pub key : K

-- a Poster: what it did, the refusals, what its loads of places found, what it has seen of the event word, also by the Takers that it took back, and of these the parts, the settings of REST, the trails and the tickets
pub record Desk (T K : Type 0) : Type 0 where
  pub board : TableId
  pub key : Option K
  pub changes : List (Change T)
  pub refusals : ℕ
  pub marks : List ℕ
  pub trail : Trail
  pub parts : ℕ
  pub settings : ℕ
  pub back : List Steps
  pub got : List (Got T)

-- a Taker: its parts of the right to know the whole, how often it set REST, what it has seen, and what it got
pub record Hand (T K : Type 0) : Type 0 where
  pub board : TableId
  pub key : Option K
  pub parts : ℕ
  pub settings : ℕ
  pub trail : Trail
  pub got : List (Got T)

-- a note of so many changes, and of whether CLOSED was set by then
pub record Noted (K : Type 0) : Type 0 where
  pub board : TableId
  pub key : Option K
  pub changes : ℕ
  pub closed : Bool

-- the token is of this mailbox
abbrev pub IsOf : {K : Type 0} → Named K → TableId → Option K → Type 0
IsOf m board key = (board ≡ m.board) × (key ≡ Some m.key)

-- a count that stops at 2^64 - 1
abbrev pub raised : ℕ → ℕ
raised n = min (n + 1) 18446744073709551615

-- whether the word's LISTEN is that of the side
abbrev pub IsFor : Side → Word → Type 0
IsFor Accepts w = is_set Listen w.flags ≡ true
IsFor Reads w = is_set Listen w.flags ≡ false

-- a word that a Taker or a Poster may be answered: nothing that it saw or met is newer, and each ticket that it has is below the word's claims
pub record IsAnswer {T : Type 0} (trail : Trail) (got : List (Got T)) (w : Word) : Type 0 where
  pub word : IsWord w
  pub newer : IsNewer trail w
  pub above : AllBelow w.claimed got

module _ {T K : Type 0} where
  -- whether, after n more posts, one more has a place, and how the look at it leaves the Poster
  abbrev pub Offers : ℕ → Desk T K → ℕ → Result (Unit {0}) PostFault → Desk T K → Type 0
  Offers cap d n (Ok u) e = (posted d.changes + n + 1 < 2 ^ 28) × (e ≡ record d { marks = d.marks ++ (posted d.changes + n) ∷ [] })
  Offers cap d n (Err Full) e = (posted d.changes + n + 1 < 2 ^ 28) × ((m : ℕ) × ((m + cap ≡ posted d.changes + n) × (e ≡ record d { refusals = raised d.refusals; marks = d.marks ++ m ∷ [] })))
  Offers cap d n (Err Worn) e = (2 ^ 28 ≤ posted d.changes + n + 1) × (e ≡ record d { refusals = raised d.refusals })

  -- the Taker after a load of the event word
  abbrev pub sees : Hand T K → Word → Hand T K
  sees h w = record h { trail = saw h.trail w }

  -- the word's next ticket t was claimed, with its item x. The claim saw the word that it left
  abbrev pub Gets : (T → Type 0) → Bool → Hand T K → Word → ℕ → T → Hand T K → Type 0
  Gets fits drained h w t x e = (t ≡ w.claimed) × (w.claimed < w.posted) × fits x
      × (e ≡ record (sees (sees h w) (claimed_one w)) { got = h.got ++ ticket t x drained ∷ [] })

  -- what a fetch for a side answers, by the word that it loaded, and how it leaves the Taker
  abbrev pub Fetches : (T → Type 0) → Side → Hand T K → Fetch T → Hand T K → Type 0
  Fetches fits side h (fetch.Item t x) e = (w : Word) × (IsAnswer h.trail h.got w × IsOpen w × IsFor side w × Gets fits false h w t x e)
  Fetches fits side h (fetch.Closed w) e = IsAnswer h.trail h.got w × IsClosed w × (e ≡ sees h w)
  Fetches fits side h (fetch.Other w) e = IsAnswer h.trail h.got w × IsOpen w × (¬ IsFor side w) × (e ≡ sees h w)
  Fetches fits side h (fetch.Empty w) e = IsAnswer h.trail h.got w × IsOpen w × IsFor side w × (w.posted ≡ w.claimed) × (e ≡ sees h w)
  Fetches fits side h (fetch.Busy v w) e = IsAnswer h.trail h.got v × IsOpen v × IsFor side v × (v.claimed < v.posted) × IsAnswer (saw h.trail v) h.got w × (v ≢ w) × (e ≡ sees (sees h v) w)

  -- what a drain answers, by the word that it loaded, and how it leaves the Taker
  abbrev pub Drains : (T → Type 0) → Hand T K → Drain T → Hand T K → Type 0
  Drains fits h (drain.Item t x) e = (w : Word) × (IsAnswer h.trail h.got w × IsClosed w × Gets fits true h w t x e)
  Drains fits h (drain.Done w) e = IsAnswer h.trail h.got w × IsClosed w × (w.posted ≡ w.claimed) × (e ≡ sees h w) × Parted h.got × (h.parts ≡ 256 → GotAll w.posted h.got)
  Drains fits h (drain.Alive w) e = IsAnswer h.trail h.got w × IsOpen w × NeverClosed h.trail × (e ≡ sees h w)
  Drains fits h (drain.Busy v w) e = IsAnswer h.trail h.got v × IsClosed v × (v.claimed < v.posted) × IsAnswer (saw h.trail v) h.got w × (v ≢ w) × (e ≡ sees (sees h v) w)

  -- a Taker after it set REST, or cleared it
  abbrev pub rested : Bool → Hand T K → Hand T K
  rested true h = record h { settings = h.settings + 1 }
  rested false h = h
