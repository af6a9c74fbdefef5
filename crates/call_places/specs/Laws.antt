-- Laws of waits, in the words of their subject.
use Rattle.std.specs.Prelude.{ℕ, ◌≡◌, ◌≤◌, ◌<◌, ◌+◌, ◌++◌, ◌⊎◌, Bool, true, false, List, [], ◌∷◌, Option, Some, None, map, filter}
use Rattle.lw_base.specs.declared.errors.Err.TheVariants.{Timeout}
use Rattle.lw_base.specs.declared.event_word.Word.{Word}
use Rattle.call_types.specs.declared.call.SelectItem.{SelectItem}
use Rattle.call_types.specs.declared.outcome.Outcome.{Outcome}
use Rattle.call_types.specs.declared.outcome.Outcome.TheVariants.{Ok as OkOutcome, Fail, Read as ReadOutcome}
use Rattle.call_types.specs.declared.sight.Sight.TheVariants.{Saw}
use Rattle.call_places.specs.declared.place.Seen.{Seen}
use Rattle.call_places.specs.declared.place.Seen.TheVariants.{Sight}
use Rattle.call_places.specs.declared.place.ScanTarget.{ScanTarget}
use Rattle.call_places.specs.declared.place.Scan.{Scan}
use Rattle.call_places.specs.declared.place.Awaiting.{Awaiting}
use Rattle.call_places.specs.declared.place.Reading.{Reading}
use Rattle.call_places.specs.declared.place.Timing.{Timing}
use Rattle.call_places.specs.declared.place.Due.{Due}
use Rattle.call_places.specs.declared.place.Due.TheVariants.{Time}
use Rattle.call_places.specs.declared.place.Want.{Want}
use Rattle.call_places.specs.declared.place.Want.TheVariants.{Read}
use Rattle.call_places.specs.declared.place.Stage.TheVariants.{Try, Pause}
use Rattle.call_places.specs.declared.place.Place.TheVariants.{Waits, Done}
use Rattle.call_places.specs.Waits.{vain, after_now, made_due, read_end}
use Rattle.call_places.specs.Reads.{after_count}
use Rattle.call_places.specs.Selects.{holds, scanned, unscanned}

-- a timeout is never early: at less than A + T ticks the others have their turn, and at A + T ticks there is one more try
-- before the end. A wait that times out had that look
pub record TimeoutLaw : Type 0 where
  pub early : (want : Want) (timing : Timing) (limit begun now : ℕ) → timing.limit ≡ Some limit → timing.begun ≡ Some begun → now < begun + limit → (after_now want timing now).next ≡ Waits Pause want timing
  pub over : (want : Want) (timing : Timing) (limit begun now : ℕ) → timing.limit ≡ Some limit → timing.begun ≡ Some begun → begun + limit ≤ now → (after_now want timing now).next ≡ Waits Try want (made_due timing (Some (Time now)))
  pub looked : (want : Want) (timing : Timing) (lines : List Seen) → (vain want timing lines).next ≡ Done (Fail Timeout) → (now : ℕ) × (timing.due ≡ Some (Time now))

-- a wait for a signal is `ok` exactly where the signal came so often as it was waited for
pub record AwaitLaw : Type 0 where
  pub enough : (awaiting : Awaiting) (timing : Timing) (n : ℕ) → awaiting.count ≤ n → (after_count awaiting timing n).next ≡ Done OkOutcome
  pub only : (awaiting : Awaiting) (timing : Timing) (n : ℕ) → (after_count awaiting timing n).next ≡ Done OkOutcome → awaiting.count ≤ n

-- a recvall that has octets gives their number, however it ends
abbrev pub RecvallLaw : Type 0
RecvallLaw = (got : ℕ) (result : Outcome) → 0 < got → read_end got result ≡ ReadOutcome got

-- the looks of a scan at targets, one after another
abbrev pub scans_on : Scan → List (ScanTarget × Word) → Scan
scans_on scan [] = scan
scans_on scan (look ∷ looks) = scans_on (scanned scan look.0 look.1) looks

-- a scan shows each look in its order, and reports just the items of which the test holds of the word that was seen
pub record SelectLaw (targets : List ScanTarget) (looks : List (ScanTarget × Word)) : Type 0 where
  pub shown : (scans_on (unscanned targets) looks).shown ≡ map (λ look. Sight (Saw look.0.conn look.1)) looks
  pub ready : (scans_on (unscanned targets) looks).ready ≡ map (λ look. look.0.item) (filter (λ look. holds look.0.item.test look.1) looks)
