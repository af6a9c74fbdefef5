-- Laws of waits.
use Rattle.std.proofs.Common.{ℕ, ◌≡◌, ◌≢◌, ◌≤◌, ◌<◌, ◌+◌, ◌++◌, ◌∙◌, Bool, true, false, List, [], ◌∷◌, Option, Some, None, map, filter, refl, ap, sym, subst, arith, append_assoc, append-nil, cond, if◌then◌else◌}
use Rattle.lw_base.specs.declared.errors.Err.{Err}
use Rattle.lw_base.specs.declared.errors.Err.TheVariants.{Timeout}
use Rattle.lw_base.specs.declared.event_word.Word.{Word}
use Rattle.call_types.specs.declared.call.SelectItem.{SelectItem}
use Rattle.call_types.specs.declared.outcome.Outcome.{Outcome}
use Rattle.call_types.specs.declared.outcome.Outcome.TheVariants.{Ok as OkOutcome, Fail, Read as ReadOutcome}
use Rattle.call_types.specs.declared.sight.Sight.TheVariants.{Saw}
use Rattle.call_places.specs.declared.place.Seen.{Seen}
use Rattle.call_places.specs.declared.place.Seen.TheVariants.{Sight}
use Rattle.call_places.specs.declared.place.ScanTarget.{ScanTarget}
use Rattle.call_places.specs.declared.place.Scan.{Scan}
use Rattle.call_places.specs.declared.place.Awaiting.{Awaiting}
use Rattle.call_places.specs.declared.place.Timing.{Timing}
use Rattle.call_places.specs.declared.place.Due.{Due}
use Rattle.call_places.specs.declared.place.Due.TheVariants.{AtOnce, Stopped, Time, GivenUp}
use Rattle.call_places.specs.declared.place.Want.{Want}
use Rattle.call_places.specs.declared.place.Want.TheVariants.{Signal, Accept, Read, Connected, Room, Scan as ScanWant}
use Rattle.call_places.specs.declared.place.Stage.TheVariants.{Try, Pause}
use Rattle.call_places.specs.declared.place.Place.TheVariants.{Waits, Done}
use Rattle.call_places.specs.Waits.{vain, vain_by, after_now, made_due, read_end, last_of, code_of_due}
use Rattle.call_places.specs.Reads.{after_count}
use Rattle.call_places.specs.Selects.{holds, scanned, unscanned, ready_with}
use Rattle.call_places.specs.Laws.{TimeoutLaw, AwaitLaw, RecvallLaw, SelectLaw, scans_on}

pub early : (want : Want) (timing : Timing) (limit begun now : ℕ) → timing.limit ≡ Some limit → timing.begun ≡ Some begun → now < begun + limit → (after_now want timing now).next ≡ Waits Pause want timing
early want timing limit begun now h1 h2 few = grind arith

pub over : (want : Want) (timing : Timing) (limit begun now : ℕ) → timing.limit ≡ Some limit → timing.begun ≡ Some begun → begun + limit ≤ now → (after_now want timing now).next ≡ Waits Try want (made_due timing (Some (Time now)))
over want timing limit begun now h1 h2 many = grind arith

pub read_end_fail : (got : ℕ) (result : Outcome) (code : Err) → read_end got result ≡ Fail code → result ≡ Fail code
read_end_fail got result code e = grind arith

pub last_code : (want : Want) (due : Due) → last_of want due ≡ Fail Timeout → code_of_due due ≡ Timeout
last_code (Signal awaiting) due e = cc
last_code (Accept accepting) due e = cc
last_code (Read reading) due e =
    let f : Fail (code_of_due due) ≡ Fail Timeout = read_end_fail reading.got (Fail (code_of_due due)) Timeout e in cc
last_code (Connected conn) due e = cc
last_code (Room sending) due e = cc
last_code (ScanWant scan) due e = absurd cc

pub time_of : (due : Due) → code_of_due due ≡ Timeout → (now : ℕ) × (due ≡ Time now)
time_of AtOnce e = absurd cc
time_of Stopped e = absurd cc
time_of (Time now) e = (now, refl)
time_of GivenUp e = absurd cc

pub looked_by : (due : Option Due) (want : Want) (timing : Timing) (lines : List Seen) → (vain_by due want timing lines).next ≡ Done (Fail Timeout) → (now : ℕ) × (due ≡ Some (Time now))
looked_by None want timing lines e = absurd cc
looked_by (Some due) want timing lines e =
    let last : last_of want due ≡ Fail Timeout = cc in
    let at = time_of due (last_code want due last) in (at.0, ap Some at.1)

pub timeouts : TimeoutLaw
timeouts = record { early = early; over = over; looked = λ want timing lines e. looked_by timing.due want timing lines e }

pub awaits : AwaitLaw
awaits = record { enough = λ awaiting timing n h. grind arith; only = λ awaiting timing n h. grind arith }

pub recvalls : RecvallLaw
recvalls got result h = grind arith

-- the looks behind those that a scan had
pub shown_on : (scan : Scan) (looks : List (ScanTarget × Word)) → (scans_on scan looks).shown ≡ scan.shown ++ map (λ look. Sight (Saw look.0.conn look.1)) looks
shown_on scan [] = sym (append-nil scan.shown)
shown_on scan (look ∷ looks) =
    shown_on (scanned scan look.0 look.1) looks ∙ append_assoc scan.shown (Sight (Saw look.0.conn look.1) ∷ []) (map (λ look. Sight (Saw look.0.conn look.1)) looks)

-- one item more is ready where its test holds
pub ready_step : (b : Bool) (ready : List SelectItem) (item : SelectItem) (rest : List SelectItem) → ready_with b ready item ++ rest ≡ ready ++ (if b then item ∷ rest else rest)
ready_step true ready item rest = append_assoc ready (item ∷ []) rest
ready_step false ready item rest = refl

pub map_if : (b : Bool) (look : ScanTarget × Word) (rest : List (ScanTarget × Word)) → map (λ look. look.0.item) (cond b (look ∷ rest) rest) ≡ (if b then look.0.item ∷ map (λ look. look.0.item) rest else map (λ look. look.0.item) rest)
map_if true look rest = refl
map_if false look rest = refl

pub ready_on : (scan : Scan) (looks : List (ScanTarget × Word)) → (scans_on scan looks).ready ≡ scan.ready ++ map (λ look. look.0.item) (filter (λ look. holds look.0.item.test look.1) looks)
ready_on scan [] = sym (append-nil scan.ready)
ready_on scan (look ∷ looks) =
    let rest = filter (λ look. holds look.0.item.test look.1) looks in
    let b = holds look.0.item.test look.1 in
    ready_on (scanned scan look.0 look.1) looks ∙ (ready_step b scan.ready look.0.item (map (λ look. look.0.item) rest) ∙ ap (λ (l : List SelectItem). scan.ready ++ l) (sym (map_if b look rest)))

pub selects_law : (targets : List ScanTarget) (looks : List (ScanTarget × Word)) → SelectLaw targets looks
selects_law targets looks = record { shown = shown_on (unscanned targets) looks; ready = ready_on (unscanned targets) looks }
