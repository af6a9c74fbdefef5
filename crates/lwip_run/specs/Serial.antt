-- What the form `serial SCRIPT CAPTURE` does with its files.
use Rattle.std.specs.Prelude.{ℕ, ◌≡◌, ◌⊎◌, List, [], ◌∷◌}
use Rattle.lw_outside.specs.Files.{FileSeen, FilesSeen}
use Rattle.lw_script.specs.declared.parts.Script.{Script}
use Rattle.lw_script.specs.Grammar.{SpellsScript, FailsAt}
use Rattle.lw_pcap.specs.declared.fault.PcapFault.{PcapFault}
use Rattle.lw_pcap.specs.declared.fault.PcapFault.TheVariants.{BadMagic, BadVersion, BadLink, Truncated, TooLong as TooLongFrame, NoMemory as NoMemoryFault}
use Rattle.lw_pcap.specs.Capture.{SpellsCapture, CaptureFails}
use Rattle.lw_pcap.specs.Faults.{fault_at}
use Rattle.lw_transcript.specs.Transcript.{transcript_spelling}
use Rattle.lw_rules.specs.Schedule.{serial_transcript}
use Rattle.lw_rules.specs.Legal.{IsLegal}
use Rattle.lwip_run.specs.declared.refusal.Refusal.{Refusal}
use Rattle.lwip_run.specs.declared.refusal.Refusal.TheVariants.{Usage, BadScript, BadCapture, ReadFault, WriteFault, TooLong, NoMemory}
use Rattle.lwip_run.specs.Reading.{IsLonger, IsLost, IsRead, Sees, SeesOne}

-- the most octets of a script and of a capture
abbrev pub script_limit : ℕ
script_limit = 1048576

abbrev pub capture_limit : ℕ
capture_limit = 16777216

-- the octets that a file gave, to its end, are this script
abbrev pub IsScript : Script → FileSeen → Type 0
IsScript script file = IsRead script_limit file × SpellsScript file.gave script

-- the octets that a file gave, to its end, are a capture of these frames
abbrev pub IsCapture : List (List ℕ) → FileSeen → Type 0
IsCapture frames file = IsRead capture_limit file × SpellsCapture file.gave frames

-- the octets that a file gave, to its end, stop being a script at this line
abbrev pub ScriptFails : ℕ → FileSeen → Type 0
ScriptFails line file = IsRead script_limit file × FailsAt file.gave line

-- a header or record in the octets that a file gave, to its end, is none of a capture, and stands at this offset
abbrev pub CaptureFailsAt : ℕ → FileSeen → Type 0
CaptureFailsAt at file = (fault : PcapFault) × IsRead capture_limit file × CaptureFails file.gave fault × (at ≡ fault_at fault)

-- the script was read and is this one, then the capture was looked for, and this came of it
pub record SeesBoth (script_name capture_name : List ℕ) (before now : FilesSeen) (says : Script) (P : FileSeen → Type 0) : Type 0 where
  pub script : FileSeen
  pub capture : FileSeen
  pub sees : Sees before now (capture ∷ script ∷ [])
  pub script_named : script.name ≡ script_name
  pub capture_named : capture.name ≡ capture_name
  pub script_is : IsScript says script
  pub came : P capture

-- the text that `serial` writes for a script and a capture: the transcript that the serial schedule gives for what the
-- files gave, which is legal
pub record IsSerialText (script_name capture_name : List ℕ) (before now : FilesSeen) (text : List ℕ) : Type 0 where
  pub script : Script
  pub frames : List (List ℕ)
  pub files : SeesBoth script_name capture_name before now script (IsCapture frames)
  pub spelled : text ≡ transcript_spelling (serial_transcript script frames)
  pub legal : IsLegal script frames (serial_transcript script frames)

-- why a file isn't taken, whatever it should hold
abbrev pub FileRefused : ℕ → FilesSeen → FilesSeen → Refusal → FileSeen → Type 0
FileRefused limit before now ReadFault file = IsLost before now file
FileRefused limit before now TooLong file = IsLonger limit file
FileRefused limit before now NoMemory file = Unit {0}
FileRefused limit before now Usage file = ⊥
FileRefused limit before now (BadScript line) file = ⊥
FileRefused limit before now (BadCapture at) file = ⊥
FileRefused limit before now WriteFault file = ⊥

-- why a script isn't taken: as any file, or because its octets stop being a script at a line
abbrev pub ScriptRefused : FilesSeen → FilesSeen → Refusal → FileSeen → Type 0
ScriptRefused before now (BadScript line) file = ScriptFails line file
ScriptRefused before now Usage file = ⊥
ScriptRefused before now (BadCapture at) file = ⊥
ScriptRefused before now ReadFault file = IsLost before now file
ScriptRefused before now WriteFault file = ⊥
ScriptRefused before now TooLong file = IsLonger script_limit file
ScriptRefused before now NoMemory file = Unit {0}

-- why a capture isn't taken: as any file, or because a header or record of it fails, at an offset
abbrev pub CaptureRefused : FilesSeen → FilesSeen → Refusal → FileSeen → Type 0
CaptureRefused before now (BadCapture at) file = CaptureFailsAt at file
CaptureRefused before now Usage file = ⊥
CaptureRefused before now (BadScript line) file = ⊥
CaptureRefused before now ReadFault file = IsLost before now file
CaptureRefused before now WriteFault file = ⊥
CaptureRefused before now TooLong file = IsLonger capture_limit file
CaptureRefused before now NoMemory file = Unit {0}

-- what a fault of a capture is refused for
abbrev pub refusal_of : PcapFault → Refusal
refusal_of BadMagic = BadCapture (fault_at BadMagic)
refusal_of BadVersion = BadCapture (fault_at BadVersion)
refusal_of BadLink = BadCapture (fault_at BadLink)
refusal_of (Truncated at) = BadCapture (fault_at (Truncated at))
refusal_of (TooLongFrame at) = BadCapture (fault_at (TooLongFrame at))
refusal_of NoMemoryFault = NoMemory

-- why there is no text: the script isn't taken, and the capture isn't looked for; or it is, and the capture isn't
abbrev pub SerialRefused : List ℕ → List ℕ → FilesSeen → FilesSeen → Refusal → Type 0
SerialRefused script capture before now refusal =
    SeesOne script before now (ScriptRefused before now refusal)
    ⊎ ((says : Script) × SeesBoth script capture before now says (CaptureRefused before now refusal))
