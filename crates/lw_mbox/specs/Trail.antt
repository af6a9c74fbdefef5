-- What a Taker has seen, and its place: how far into the Poster's changes it has surely seen.
use Rattle.std.specs.Prelude.{◌≡◌, ℕ, ◌<◌, ◌≤◌, max, Bool, true, false, List, length, take}
use Rattle.lw_base.specs.declared.event_word.Flag.TheVariants.{Closed}
use Rattle.lw_base.specs.declared.event_word.Word.{Word}
use Rattle.lw_base.specs.EventWord.{is_set}
use Rattle.lw_mbox.specs.declared.view.Change.{Change}
use Rattle.lw_mbox.specs.Changes.{Shows}

-- oldest first: loads of the event word, notes of so many changes and of whether CLOSED was set by then, and whole trails that were joined
pub data Trail : Type 0 where
  start : Trail
  saw : Trail → Word → Trail
  met : Trail → ℕ → Bool → Trail
  both : Trail → Trail → Trail

-- each load of the trail
abbrev pub EachLoad : (Word → Type 0) → Trail → Type 0
EachLoad P start = Unit {0}
EachLoad P (saw t w) = EachLoad P t × P w
EachLoad P (met t n closed) = EachLoad P t
EachLoad P (both t u) = EachLoad P t × EachLoad P u

-- each note of the trail, by whether CLOSED was set
abbrev pub EachNote : (Bool → Type 0) → Trail → Type 0
EachNote P start = Unit {0}
EachNote P (saw t w) = EachNote P t
EachNote P (met t n closed) = EachNote P t × P closed
EachNote P (both t u) = EachNote P t × EachNote P u

-- how many changes a note has, and whether CLOSED was set by then
abbrev pub noted : Trail → ℕ × Bool
noted start = (0, false)
noted (saw t w) = (0, false)
noted (met t n closed) = (n, closed)
noted (both t u) = (0, false)

-- p is the least number of changes, from q on, after which the word showed these posts and flags
pub record IsFirst {T : Type 0} (cs : List (Change T)) (q : ℕ) (w : Word) (p : ℕ) : Type 0 where
  pub after : q ≤ p
  pub within : p ≤ length cs
  pub shown : Shows (take p cs) w
  pub least : (n : ℕ) → q ≤ n → n < p → Shows (take n cs) w → ⊥

-- p is the trail's place among the changes
abbrev pub StandsAt : {T : Type 0} → List (Change T) → Trail → ℕ → Type 0
StandsAt cs start p = p ≡ 0
StandsAt cs (saw t w) p = (q : ℕ) × (StandsAt cs t q × IsFirst cs q w p)
StandsAt cs (met t n closed) p = (q : ℕ) × (StandsAt cs t q × (n ≤ length cs) × (p ≡ max q n))
StandsAt cs (both t u) p = (q : ℕ) × ((r : ℕ) × (StandsAt cs t q × StandsAt cs u r × (p ≡ max q r)))

-- CLOSED stands in the word
abbrev pub IsClosed : Word → Type 0
IsClosed w = is_set Closed w.flags ≡ true

-- CLOSED doesn't stand in the word
abbrev pub IsOpen : Word → Type 0
IsOpen w = is_set Closed w.flags ≡ false

-- No load and no note of the trail is newer than the word. Where one has CLOSED the word has it, and nothing was posted since that load
abbrev pub IsNewer : Trail → Word → Type 0
IsNewer t w = EachLoad (λ v. (v.posted ≤ w.posted) × (v.claimed ≤ w.claimed) × (IsClosed v → IsClosed w × (v.posted ≡ w.posted))) t
    × EachNote (λ closed. closed ≡ true → IsClosed w) t

-- no load and no note of the trail has CLOSED
abbrev pub NeverClosed : Trail → Type 0
NeverClosed t = EachLoad IsOpen t × EachNote (λ closed. closed ≡ false) t
