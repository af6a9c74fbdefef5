-- `select`: its items are looked up one after another, and then their connections' words are scanned.
use Rattle.std.specs.Prelude.{ℕ, ◌+◌, ◌==◌, ◌||◌, nat_le, not, Bool, true, false, List, [], ◌∷◌, ◌++◌, Option, Some, None, if◌then◌else◌, length, slice_get}
use Rattle.lw_base.specs.declared.event_word.Word.{Word}
use Rattle.lw_base.specs.declared.event_word.Flag.TheVariants.{Writable, Rest, Ended, Fault, Closed}
use Rattle.lw_base.specs.EventWord.{is_set}
use Rattle.call_types.specs.declared.call.SelectItem.{SelectItem}
use Rattle.call_types.specs.declared.call.Test.{Test}
use Rattle.call_types.specs.declared.call.Test.TheVariants.{Readable, Writable as WritableTest, Except}
use Rattle.call_types.specs.declared.outcome.Outcome.TheVariants.{Ready}
use Rattle.call_types.specs.declared.sight.Sight.TheVariants.{Saw}
use Rattle.call_places.specs.declared.asks.Ask.{Ask}
use Rattle.call_places.specs.declared.asks.Ask.TheVariants.{See, Nothing as NoAsk}
use Rattle.call_places.specs.declared.place.Seen.{Seen}
use Rattle.call_places.specs.declared.place.Seen.TheVariants.{Sight}
use Rattle.call_places.specs.declared.place.ScanTarget.{ScanTarget}
use Rattle.call_places.specs.declared.place.Selecting.{Selecting}
use Rattle.call_places.specs.declared.place.Scan.{Scan}
use Rattle.call_places.specs.declared.place.Timing.{Timing}
use Rattle.call_places.specs.declared.place.Due.{Due}
use Rattle.call_places.specs.declared.place.Due.TheVariants.{AtOnce}
use Rattle.call_places.specs.declared.place.Want.TheVariants.{Scan as ScanWant}
use Rattle.call_places.specs.declared.place.FdUse.TheVariants.{Select}
use Rattle.call_places.specs.declared.place.VarUse.TheVariants.{OfFd}
use Rattle.call_places.specs.declared.place.Place.{Place}
use Rattle.call_places.specs.declared.place.Place.TheVariants.{Var}
use Rattle.call_places.specs.declared.place.Step.{Step}
use Rattle.call_places.specs.Steps.{to, ends, stray}
use Rattle.call_places.specs.Waits.{waiting, timed, vain}

-- an item is untaken, or octets of one are left, or no further one comes
abbrev pub is_readable : Word → Bool
is_readable word =
    not (word.posted == word.claimed) || is_set Rest word.flags || is_set Ended word.flags || is_set Fault word.flags || is_set Closed word.flags

-- a test holds of an event word
abbrev pub holds : Test → Word → Bool
holds Readable word = is_readable word
holds WritableTest word = is_set Writable word.flags
holds Except word = is_set Fault word.flags

-- a select with a limit of 0 doesn't wait, and without a limit it waits without end
abbrev pub limited : ℕ → Timing
limited limit = if limit == 0 then timed None (Some AtOnce) else timed (Some limit) None

-- how long a select waits
abbrev pub select_timing : Option ℕ → Timing
select_timing (Some limit) = limited limit
select_timing None = timed None None

-- a scan of these targets at its begin
abbrev pub unscanned : List ScanTarget → Scan
unscanned targets = record { targets = targets; shown = []; ready = [] }

-- the first scan of these targets
abbrev pub scans : Option ℕ → List ScanTarget → Place
scans limit targets = waiting (ScanWant (unscanned targets)) (select_timing limit)

-- the next item is looked up, or all are and the scan begins
abbrev pub looks_up : Selecting → Option SelectItem → Place
looks_up selecting (Some item) = Var item.var (OfFd (Select selecting item))
looks_up selecting None = scans selecting.limit selecting.targets

-- the item that is looked up next
abbrev pub next_item : Selecting → Option SelectItem
next_item selecting = slice_get selecting.items (length selecting.targets)

-- where a select stands that has looked up so many items
abbrev pub selects : Selecting → Place
selects selecting = looks_up selecting (next_item selecting)

-- an item's connection is known
abbrev pub with_target : Selecting → SelectItem → ℕ → Selecting
with_target selecting item conn =
    record { limit = selecting.limit; items = selecting.items; targets = selecting.targets ++ (record { item = item; conn = conn }) ∷ [] }

-- the target that a scan looks at next
abbrev pub next_target : Scan → Option ScanTarget
next_target scan = slice_get scan.targets (length scan.shown)

-- what a scan asks: the event word of its next target
abbrev pub see_target : Option ScanTarget → Ask
see_target (Some target) = See target.conn
see_target None = NoAsk

-- the items that hold, with one more where its test does
abbrev pub ready_with : Bool → List SelectItem → SelectItem → List SelectItem
ready_with true ready item = ready ++ item ∷ []
ready_with false ready item = ready

-- a scan with the look at one more target
abbrev pub scanned : Scan → ScanTarget → Word → Scan
scanned scan target word = record {
  targets = scan.targets;
  shown = scan.shown ++ Sight (Saw target.conn word) ∷ [];
  ready = ready_with (holds target.item.test word) scan.ready target.item;
}

-- a whole scan ends the select where items hold
abbrev pub scan_over : Bool → Scan → Timing → Step
scan_over true scan timing = vain (ScanWant (unscanned scan.targets)) timing scan.shown
scan_over false scan timing = ends (Ready scan.ready) scan.shown

-- a scan goes on where targets are left
abbrev pub scan_by : Bool → Scan → Timing → Step
scan_by true scan timing = scan_over (length scan.ready == 0) scan timing
scan_by false scan timing = to (waiting (ScanWant scan) timing) []

-- a scan after a look: over, or not
abbrev pub scan_on : Scan → Timing → Step
scan_on scan timing = scan_by (nat_le (length scan.targets) (length scan.shown)) scan timing

-- the look at a target is kept
abbrev pub scan_target : Option ScanTarget → Scan → Timing → Word → Step
scan_target (Some target) scan timing word = scan_on (scanned scan target word) timing
scan_target None scan timing word = stray

-- what a select does with the event word of its next target
abbrev pub after_scan : Scan → Timing → Word → Step
after_scan scan timing word = scan_target (next_target scan) scan timing word
