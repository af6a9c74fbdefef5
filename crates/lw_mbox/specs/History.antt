-- What all steps on a mailbox have done together, and what one seat may know of it.
use Rattle.std.specs.Prelude.{◌≡◌, ℕ, ◌+◌, ◌^◌, ◌<◌, ◌≤◌, Bool, true, false, cond, ltb, eqb, List, All, sum_by}
use mathlib.Core.Option.{some}
use lib.ListN.{get_elem?}
use Rattle.lw_base.specs.declared.event_word.Flag.TheVariants.{Rest, Closed}
use Rattle.lw_base.specs.declared.event_word.Word.{Word}
use Rattle.lw_base.specs.EventWord.{is_set}
use Rattle.lw_mbox.specs.declared.view.Change.{Change}
use Rattle.lw_mbox.specs.declared.view.Got.{Got}
use Rattle.lw_mbox.specs.declared.view.Steps.{Steps}
use Rattle.lw_mbox.specs.Changes.{items, posted, is_on}
use Rattle.lw_mbox.specs.Trail.{Trail, EachLoad, EachNote, StandsAt, IsClosed, IsOpen}

-- what was done to a mailbox: the posts and changes of flags, oldest first, and how many tickets were claimed and how many of these fetched
pub record History (T : Type 0) : Type 0 where
  pub changes : List (Change T)
  pub claimed : ℕ
  pub fetched : ℕ
  -- whether REST was ever set
  pub rested : Bool

-- an event word's numbers fit their places
pub record IsWord (w : Word) : Type 0 where
  pub posts : w.posted < 2 ^ 28
  pub claims : w.claimed ≤ w.posted
  pub flags : w.flags < 2 ^ 8

-- the word that a claim leaves
abbrev pub claimed_one : Word → Word
claimed_one w = record w { claimed = w.claimed + 1 }

module _ {T : Type 0} where
  -- A word of the past: no number in it exceeds today's. Without CLOSED its claims are fetches; with it nothing was posted since. REST stands only where it was set
  pub record Bounded (h : History T) (w : Word) : Type 0 where
    pub posts : w.posted ≤ posted h.changes
    pub claims : w.claimed ≤ h.claimed
    pub opens : IsOpen w → w.claimed ≤ h.fetched
    pub shut : IsClosed w → (is_on Closed h.changes ≡ true) × (w.posted ≡ posted h.changes)
    pub rests : is_set Rest w.flags ≡ true → h.rested ≡ true

  -- a trail has a place, its loads are words of the past, and its notes tell CLOSED only where it is set
  pub record Sound (h : History T) (t : Trail) : Type 0 where
    pub stands : (p : ℕ) × StandsAt h.changes t p
    pub loads : EachLoad (Bounded h) t
    pub notes : EachNote (λ closed. closed ≡ true → is_on Closed h.changes ≡ true) t

  -- what was got is the item posted as that ticket. The tickets fetched are below the number of fetches, the drained ones are not
  pub record IsRight (h : History T) (g : Got T) : Type 0 where
    pub below : g.ticket < h.claimed
    pub item : get_elem? (items h.changes) g.ticket ≡ some g.item
    pub fetches : g.drained ≡ false → g.ticket < h.fetched
    pub drains : g.drained ≡ true → (is_on Closed h.changes ≡ true) × (h.fetched ≤ g.ticket)

  -- how often the ticket n was got
  abbrev pub times : ℕ → List (Got T) → ℕ
  times n gs = sum_by (λ g. cond (eqb g.ticket n) 1 0) gs

  -- each ticket below n was got once, and no other
  abbrev pub GotAll : ℕ → List (Got T) → Type 0
  GotAll n gs = (t : ℕ) → times t gs ≡ cond (ltb t n) 1 0

  -- the tickets fetched are below n, and those drained are not
  abbrev pub PartedAt : ℕ → List (Got T) → Type 0
  PartedAt n gs = All (λ g. (g.drained ≡ false → g.ticket < n) × (g.drained ≡ true → n ≤ g.ticket)) gs

  -- every drained ticket is above every fetched one
  abbrev pub Parted : List (Got T) → Type 0
  Parted gs = (n : ℕ) × PartedAt n gs

  -- each ticket that was got is below n
  abbrev pub AllBelow : ℕ → List (Got T) → Type 0
  AllBelow n gs = All (λ g. g.ticket < n) gs

  -- What a Poster knows of what it saw and of the Takers that it took back, out of a history with its own changes. With all parts it knows everything that was got, and REST was set only where a Taker set it
  pub record Told (changes : List (Change T)) (trail : Trail) (parts settings : ℕ) (back : List Steps) (got : List (Got T)) : Type 0 where
    pub history : History T
    pub same : history.changes ≡ changes
    pub claims : history.claimed ≤ posted changes
    pub fetches : history.fetched ≤ history.claimed
    pub own : Sound history trail
    pub places : All (λ s. Sound history s.met) back
    pub right : All (IsRight history) got
    pub once : (t : ℕ) → times t got ≤ 1
    pub all : parts ≡ 256 → GotAll history.claimed got
    pub rests : parts ≡ 256 → history.rested ≡ true → 1 ≤ settings
