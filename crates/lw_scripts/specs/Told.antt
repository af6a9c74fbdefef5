-- What a reader knows of the lines that it has read.
use Rattle.std.specs.Prelude.{◌≡◌, ℕ, ◌≤◌, ⊤, true, List, [], ◌∷◌, ◌++◌, Bool, map, sum_by, All, Option, Some, None}
use Rattle.call_types.specs.declared.call.Side.TheVariants.{A as SideA, B as SideB}
use Rattle.script_words.specs.Calls.{IsCount, IsDriverCall, IsWireCall}
use Rattle.script_words.specs.Values.{IsNet}
use Rattle.script_words.specs.declared.version.Version.{Version}
use Rattle.lw_scripts.specs.declared.begun.OpenDriver.{OpenDriver}
use Rattle.lw_scripts.specs.declared.begun.OpenWire.{OpenWire}
use Rattle.lw_scripts.specs.declared.part.Part.{Part}
use Rattle.lw_scripts.specs.declared.part.Part.TheVariants.{Head, Pair, Side, Net, Driver}
use Rattle.lw_scripts.specs.declared.place.Place.{Place}
use Rattle.lw_scripts.specs.declared.place.Place.TheVariants.{Begin, Started, Paired, Sided, Addressed, Filling, Driving, Wiring}
use Rattle.lw_scripts.specs.declared.place.Whose.{Whose}
use Rattle.lw_scripts.specs.declared.place.Whose.TheVariants.{Alone, OfA, OfB}
use Rattle.lw_scripts.specs.declared.reader.ScriptFault.{ScriptFault}
use Rattle.lw_scripts.specs.declared.reader.ScriptFault.TheVariants.{Line, NoMemory}
use Rattle.lw_scripts.specs.declared.wanted.Wanted.{Wanted}
use Rattle.lw_scripts.specs.Forms.{takes_pair, takes_single, takes_version}
use Rattle.lw_scripts.specs.Grammar.{BeginsScript, HasAsciiComments, said}
use Rattle.lw_scripts.specs.Line.{IsPart, part_spelling}
use Rattle.lw_scripts.specs.Parts.{AreApart, IsStack, ticks_of}
use Rattle.lw_scripts.specs.Reading.{accept, version_of}
use Rattle.lw_scripts.specs.Whole.{call_parts, stack_parts, wire_parts}

-- the parts between the head line and a stack
abbrev pub before : Whose → List Part
before Alone = []
before OfA = Pair ∷ Side SideA ∷ []
before (OfB a) = Pair ∷ Side SideA ∷ (stack_parts a ++ Side SideB ∷ [])

-- the parts that were read
abbrev pub told : Place → List Part
told Begin = []
told (Started version) = Head version ∷ []
told (Paired version) = Head version ∷ Pair ∷ []
told (Sided version whose) = Head version ∷ before whose
told (Addressed version whose net) = Head version ∷ (before whose ++ Net net ∷ [])
told (Filling version whose stack) = Head version ∷ (before whose ++ stack_parts stack)
told (Driving version stack driver) = Head version ∷ (stack_parts stack ++ Driver ∷ call_parts driver.commands)
told (Wiring version a b wire) =
    Head version ∷ Pair ∷ Side SideA ∷ (stack_parts a ++ Side SideB ∷ (stack_parts b ++ wire_parts wire.faults wire.commands))

-- scripts with such a stack are wanted
abbrev pub takes_whose : Wanted → Whose → Bool
takes_whose wanted Alone = takes_single wanted
takes_whose wanted OfA = takes_pair wanted
takes_whose wanted (OfB a) = takes_pair wanted

-- what stands in front of a stack is part of a script
abbrev pub IsBefore : Version → Whose → Type 0
IsBefore version Alone = ⊤
IsBefore version OfA = ⊤
IsBefore version (OfB a) = IsStack version a

-- a stack of a pair
abbrev pub IsPaired : Whose → Type 0
IsPaired Alone = ⊥
IsPaired other = ⊤

-- what stands in front of a stack of a script that is wanted
pub record HasFront (wanted : Wanted) (version : Version) (whose : Whose) : Type 0 where
  pub head : takes_version wanted version ≡ true
  pub kind : takes_whose wanted whose ≡ true
  pub front : IsBefore version whose

-- commands of the driver, and the ticks that they make
pub record IsOpenDriver (driver : OpenDriver) : Type 0 where
  pub commands : All IsDriverCall driver.commands
  pub ticks : driver.ticks ≡ sum_by ticks_of driver.commands
  pub few : driver.ticks ≤ 1000000

-- faults and commands of the wire
pub record IsOpenWire (wire : OpenWire) : Type 0 where
  pub frames : All (λ f. IsCount f.frame) wire.faults
  pub apart : AreApart wire.faults
  pub commands : All IsWireCall wire.commands

-- what was read is part of a script that is wanted
abbrev pub Holds : Wanted → Place → Type 0
Holds wanted Begin = ⊤
Holds wanted (Started version) = takes_version wanted version ≡ true
Holds wanted (Paired version) = (takes_version wanted version ≡ true) × (takes_pair wanted ≡ true)
Holds wanted (Sided version whose) = HasFront wanted version whose × IsPaired whose
Holds wanted (Addressed version whose net) = HasFront wanted version whose × IsNet net
Holds wanted (Filling version whose stack) = HasFront wanted version whose × IsStack version stack
Holds wanted (Driving version stack driver) = HasFront wanted version Alone × IsStack version stack × IsOpenDriver driver
Holds wanted (Wiring version a b wire) = HasFront wanted version (OfB a) × IsStack version b × IsOpenWire wire

-- the lines so far
pub record Knows (wanted : Wanted) (place : Place) (lines : List (List ℕ)) : Type 0 where
  pub comments : HasAsciiComments lines
  pub spelled : said lines ≡ map part_spelling (told place)
  pub holds : Holds wanted place

-- the line goes on with a script, to this place, or it goes on with none
abbrev pub GoesOn : Wanted → Place → List ℕ → Option Place → Type 0
GoesOn wanted place line (Some next) =
    (lines : List (List ℕ)) → Knows wanted place lines → Knows wanted next (lines ++ line ∷ [])
GoesOn wanted place line None =
    (lines : List (List ℕ)) → Knows wanted place lines → BeginsScript wanted (lines ++ line ∷ []) → ⊥

-- what was read with a line that is no comment, or that no script has it here
abbrev pub Answers : Wanted → Place → List ℕ → Option Place → Type 0
Answers wanted place line (Some next) =
    (p : Part) × IsPart (version_of place) p × (line ≡ part_spelling p) × (accept wanted place p ≡ Some next)
Answers wanted place line None =
    (p : Part) → IsPart (version_of place) p → line ≡ part_spelling p → accept wanted place p ≡ None

-- no script goes on with the line of this number; memory may run out on any
abbrev pub StopsAt : Wanted → Place → List ℕ → ℕ → ScriptFault → Type 0
StopsAt wanted place line number (Line n) = (n ≡ number) × GoesOn wanted place line None
StopsAt wanted place line number NoMemory = ⊤
