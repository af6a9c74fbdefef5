-- What reading a script and then a capture comes to.
use Rattle.std.proofs.Common.{ℕ, ◌≡◌, ◌≤◌, ◌⊎◌, ⊎_elim, inl, inr, refl, List, [], ◌∷◌, Result, Ok, Err, MatchResult, subst, sym, arith}
use Rattle.std.specs.Result.{IsErrAnd}
use Rattle.lw_outside.specs.Files.{FileSeen, FilesSeen}
use Rattle.lw_script.specs.declared.parts.Script.{Script}
use Rattle.lwip_run.specs.declared.refusal.Refusal.{Refusal}
use Rattle.lwip_run.specs.declared.refusal.Refusal.TheVariants.{Usage, BadScript, BadCapture, ReadFault, WriteFault, TooLong, NoMemory}
use Rattle.lwip_run.specs.Answers.{Ending}
use Rattle.lwip_run.specs.Reading.{IsRead, Sees, SeesOne}
use Rattle.lw_pcap.specs.declared.fault.PcapFault.{PcapFault}
use Rattle.lw_pcap.specs.declared.fault.PcapFault.TheVariants.{BadMagic, BadVersion, BadLink, Truncated, TooLong as TooLongFrame, NoMemory as NoMemoryFault}
use Rattle.lw_pcap.specs.Capture.{CaptureFails}
use Rattle.lw_pcap.specs.Faults.{fault_at}
use Rattle.lwip_run.specs.Serial.{CaptureFailsAt, CaptureRefused, IsCapture, IsScript, IsSerialText, capture_limit, refusal_of, ScriptRefused, SeesBoth, SerialRefused}
use Rattle.lw_transcript.specs.declared.page.WriteFault.{WriteFault as PageFault}
use Rattle.lw_transcript.specs.declared.page.WriteFault.TheVariants.{Failed}
use Rattle.lw_transcript.specs.Page.{Breaks}
use Rattle.lw_transcript.specs.Transcript.{transcript_spelling}
use Rattle.lw_rules.specs.Schedule.{serial_transcript}
use Rattle.lw_rules.proofs.LegalLaws.{serial_is_legal}
use Rattle.lwip_run.specs.Comes.{Outside, SerialComes, WrotePart}
use Rattle.lwip_run.proofs.InputLemmas.{Sees-then}

-- the script was read, then the capture was looked for
pub both : (script capture : List ℕ) (before between now : FilesSeen) (says : Script) (P : FileSeen → Type 0) → SeesOne script before between (IsScript says) → SeesOne capture between now P → SeesBoth script capture before now says P
both script capture before between now says P s c = record {
  script = s.0;
  capture = c.0;
  sees = Sees-then before between now (s.0 ∷ []) (c.0 ∷ []) s.1 c.1;
  script_named = s.2;
  capture_named = c.2;
  script_is = s.3;
  came = c.3;
}

-- a fault of a later part of a call is one of the call
later_refused : (before between now : FilesSeen) → before.faults ≤ between.faults → (r : Refusal) (file : FileSeen) → CaptureRefused between now r file → CaptureRefused before now r file
later_refused before between now later Usage file refused = refused
later_refused before between now later (BadScript line) file refused = refused
later_refused before between now later (BadCapture at) file refused = refused
later_refused before between now later ReadFault file refused = (refused.0, let rose = refused.1 in omega arith)
later_refused before between now later WriteFault file refused = refused
later_refused before between now later TooLong file refused = refused
later_refused before between now later NoMemory file refused = refused

-- the script was read, and the capture isn't taken
pub capture_refused : (script capture : List ℕ) (before between now : FilesSeen) (says : Script) (r : Refusal) → SeesOne script before between (IsScript says) → SeesOne capture between now (CaptureRefused between now r) → SerialRefused script capture before now r
capture_refused script capture before between now says r s c =
    inr (says, both script capture before between now says (CaptureRefused before now r) s (c.0, c.1, c.2, later_refused before between now s.1.later r c.0 c.3))

-- why there is no text, as an ending
pub refused_comes : (s c : List ℕ) (x y : Outside) (r : Refusal) → SerialRefused s c x.files y.files r → y.out ≡ x.out → SerialComes s c x y (Err r)
refused_comes s c x y Usage (inl one) quiet = one.3
refused_comes s c x y Usage (inr two) quiet = two.1.came
refused_comes s c x y (BadScript line) (inl one) quiet = (one, quiet)
refused_comes s c x y (BadScript line) (inr two) quiet = absurd two.1.came
refused_comes s c x y (BadCapture at) (inl one) quiet = absurd one.3
refused_comes s c x y (BadCapture at) (inr two) quiet = (two, quiet)
refused_comes s c x y ReadFault (inl one) quiet = inl (one, quiet)
refused_comes s c x y ReadFault (inr two) quiet = inr (two, quiet)
refused_comes s c x y WriteFault (inl one) quiet = absurd one.3
refused_comes s c x y WriteFault (inr two) quiet = absurd two.1.came
refused_comes s c x y TooLong (inl one) quiet = inl (one, quiet)
refused_comes s c x y TooLong (inr two) quiet = inr (two, quiet)
refused_comes s c x y NoMemory (inl one) quiet = inl (one, quiet)
refused_comes s c x y NoMemory (inr two) quiet = inr (two, quiet)

-- what `?` passes on
pub passed_on : {T : Type 0} (r : Result T Refusal) (refusal : Refusal) (P : T → Type 0) (Q : Refusal → Type 0) → IsErrAnd r (λ e. e ≡ refusal) → Q refusal → MatchResult r P Q
passed_on (Ok x) refusal P Q is q = absurd is
passed_on (Err e) refusal P Q is q = subst Q (sym is) q

pub ending_on : (r : Ending) (refusal : Refusal) (P : Ending → Type 0) → IsErrAnd r (λ e. e ≡ refusal) → P (Err refusal) → P r
ending_on (Ok x) refusal P is p = absurd is
ending_on (Err e) refusal P is p = subst (λ (f : Refusal). P (Err f)) (sym is) p

-- a fault of a capture is refused for what it is
fault_refused : (file : FileSeen) (fault : PcapFault) → IsRead capture_limit file → (fault ≡ NoMemoryFault → ⊥) → (fault ≡ NoMemoryFault) ⊎ CaptureFails file.gave fault → CaptureFailsAt (fault_at fault) file
fault_refused file fault read other fails = ⊎_elim (λ none. absurd (other none)) (λ found. (fault, read, found, refl)) fails

pub capture_fault : (before now : FilesSeen) (file : FileSeen) (fault : PcapFault) → IsRead capture_limit file → (fault ≡ NoMemoryFault) ⊎ CaptureFails file.gave fault → CaptureRefused before now (refusal_of fault) file
capture_fault before now file BadMagic read fails = fault_refused file BadMagic read (λ e. cc) fails
capture_fault before now file BadVersion read fails = fault_refused file BadVersion read (λ e. cc) fails
capture_fault before now file BadLink read fails = fault_refused file BadLink read (λ e. cc) fails
capture_fault before now file (Truncated at) read fails = fault_refused file (Truncated at) read (λ e. cc) fails
capture_fault before now file (TooLongFrame at) read fails = fault_refused file (TooLongFrame at) read (λ e. cc) fails
capture_fault before now file NoMemoryFault read fails = tt

-- the text that is written for what both files gave
pub text_of_both : (script capture : List ℕ) (before now : FilesSeen) (says : Script) (frames : List (List ℕ)) → SeesBoth script capture before now says (IsCapture frames)
    → IsSerialText script capture before now (transcript_spelling (serial_transcript says frames))
text_of_both script capture before now says frames files = record {
  script = says;
  frames = frames;
  files = files;
  spelled = refl;
  legal = serial_is_legal says frames files.script_is.1.script.commands;
}

-- a text of which a front was taken as the sink failed
pub wrote_part : (script capture : List ℕ) (x y : Outside) (text : List ℕ) (fault : PageFault) → fault ≡ Failed → IsSerialText script capture x.files y.files text
    → Breaks x.out y.out text fault → WrotePart script capture x y
wrote_part script capture x y text fault is made breaks =
    let failed = subst (λ (f : PageFault). Breaks x.out y.out text f) is breaks in
    record { text = text; made = made; front = failed.0; rose = failed.1 }
