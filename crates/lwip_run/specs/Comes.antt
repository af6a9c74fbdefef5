-- What comes of any words: each ending with its cause.
use Rattle.std.specs.Prelude.{ℕ, ◌≡◌, ◌≤◌, ◌⊎◌, List, [], ◌∷◌, length, Option, Some, Ok, Err}
use Rattle.lw_outside.specs.Faults.{Rose}
use Rattle.lw_outside.specs.Files.{FileSeen, FilesSeen}
use Rattle.lw_outside.specs.Sinks.{SinkSeen, Adds, AddsFront}
use Rattle.lw_script.specs.declared.parts.Script.{Script}
use Rattle.lw_script.specs.Grammar.{SpellsScript, FailsAt}
use Rattle.lw_pcap.specs.Capture.{SpellsCapture}
use Rattle.lwip_run.specs.declared.refusal.Refusal.TheVariants.{Usage, BadScript, BadCapture, ReadFault, WriteFault, TooLong, NoMemory}
use Rattle.lwip_run.specs.Answers.{Ending, IsNoForm, serial_words}
use Rattle.lwip_run.specs.Reading.{IsLonger, IsLost, SeesOne}
use Rattle.lwip_run.specs.Serial.{CaptureFailsAt, IsSerialText, ScriptFails, SeesBoth, capture_limit, script_limit}

-- what was seen of the files and of the output
pub record Outside : Type 0 where
  pub files : FilesSeen
  pub out : SinkSeen

abbrev pub outside : FilesSeen → SinkSeen → Outside
outside files out = record { files = files; out = out }

-- a text was taken in part, and writing failed
pub record WrotePart (script capture : List ℕ) (before now : Outside) : Type 0 where
  pub text : List ℕ
  pub made : IsSerialText script capture before.files now.files text
  pub front : AddsFront before.out now.out text
  pub rose : Rose before.out.faults now.out.faults

-- this came of the script, and the capture wasn't looked for
abbrev pub OfScript : List ℕ → Outside → Outside → (FileSeen → Type 0) → Type 0
OfScript script before now P = SeesOne script before.files now.files P × (now.out ≡ before.out)

-- the script is one, and this came of the capture
abbrev pub OfCapture : List ℕ → List ℕ → Outside → Outside → (FileSeen → Type 0) → Type 0
OfCapture script capture before now P =
    ((says : Script) × SeesBoth script capture before.files now.files says P) × (now.out ≡ before.out)

-- what comes of `serial`: each ending with its cause. The output takes nothing but where a text was made
abbrev pub SerialComes : List ℕ → List ℕ → Outside → Outside → Ending → Type 0
SerialComes script capture x y (Ok done) = (text : List ℕ) × IsSerialText script capture x.files y.files text × Adds x.out y.out text
SerialComes script capture x y (Err Usage) = ⊥
SerialComes script capture x y (Err (BadScript line)) = OfScript script x y (ScriptFails line)
SerialComes script capture x y (Err (BadCapture at)) = OfCapture script capture x y (CaptureFailsAt at)
SerialComes script capture x y (Err ReadFault) = OfScript script x y (IsLost x.files y.files) ⊎ OfCapture script capture x y (IsLost x.files y.files)
SerialComes script capture x y (Err WriteFault) = WrotePart script capture x y
SerialComes script capture x y (Err TooLong) = OfScript script x y (IsLonger script_limit) ⊎ OfCapture script capture x y (IsLonger capture_limit)
SerialComes script capture x y (Err NoMemory) = OfScript script x y (λ _. Unit {0}) ⊎ OfCapture script capture x y (λ _. Unit {0})

-- what comes of words: where they are no form nothing is done, else what comes of the form
abbrev pub Comes : List (List ℕ) → Outside → Outside → Ending → Type 0
Comes words before now ending =
    (IsNoForm words × (ending ≡ Err Usage) × (now ≡ before))
    ⊎ ((script : List ℕ) × (capture : List ℕ) × (words ≡ serial_words script capture) × SerialComes script capture before now ending)

-- a file that holds a script within the limit
pub record HoldsScript (held : Option (List ℕ)) : Type 0 where
  pub octets : List ℕ
  pub script : Script
  pub is : held ≡ Some octets
  pub few : length octets ≤ script_limit
  pub spelled : SpellsScript octets script

-- a file that holds a capture within the limit
pub record HoldsCapture (held : Option (List ℕ)) : Type 0 where
  pub octets : List ℕ
  pub frames : List (List ℕ)
  pub is : held ≡ Some octets
  pub few : length octets ≤ capture_limit
  pub spelled : SpellsCapture octets frames

-- a file that holds no script, and is within the limit
pub record HoldsNoScript (held : Option (List ℕ)) : Type 0 where
  pub octets : List ℕ
  pub line : ℕ
  pub is : held ≡ Some octets
  pub few : length octets ≤ script_limit
  pub fails : FailsAt octets line
