-- What the clauses of the top call say, from what comes of the words.
use Rattle.std.proofs.Common.{ℕ, ◌≡◌, ◌≢◌, ◌≤◌, ◌<◌, ◌+◌, ◌∙◌, ◌⊎◌, inl, inr, ⊎_elim, List, [], ◌∷◌, length, take, min, All, Option, None, Some, IfSome, IsTrue, Ok, Err, ap, subst, sym, refl, length-take, arith}
use Rattle.std.proofs.lemmas.List.Elements.{All-head, All-tail}
use Rattle.lw_outside.specs.Faults.{Rose}
use Rattle.lw_outside.specs.Files.{FileSeen, FilesSeen, IsReadOf}
use Rattle.lw_outside.specs.Sinks.{Adds}
use Rattle.lw_script.specs.declared.parts.Script.{Script}
use Rattle.lw_script.specs.Grammar.{SpellsScript, FailsAt}
use Rattle.lw_script.proofs.GrammarLaws.{exclusive}
use Rattle.lw_pcap.specs.Capture.{SpellsCapture, CaptureFails}
use Rattle.lw_pcap.proofs.CaptureLaws.{capture_sound}
use Rattle.lwip_run.specs.declared.refusal.Refusal.{Refusal}
use Rattle.lwip_run.specs.declared.refusal.Refusal.TheVariants.{Usage, BadScript, BadCapture, ReadFault, WriteFault, TooLong, NoMemory}
use Rattle.lwip_run.specs.Answers.{Ending, IsNoForm, IsStatus, code_of, said_of, serial_words, text_of, text_of_status}
use Rattle.lwip_run.specs.Reading.{IsLonger, IsLost, Sees, SeesOne}
use Rattle.lwip_run.specs.Serial.{CaptureFailsAt, IsCapture, IsSerialText, ScriptFails, SeesBoth, capture_limit, script_limit}
use Rattle.lwip_run.specs.Comes.{Comes, HoldsCapture, HoldsNoScript, HoldsScript, OfCapture, OfScript, Outside, SerialComes, WrotePart}

-- words have one reading
same_script : (s c s' c' : List ℕ) → serial_words s c ≡ serial_words s' c' → s ≡ s'
same_script s c s' c' h = cc

same_capture : (s c s' c' : List ℕ) → serial_words s c ≡ serial_words s' c' → c ≡ c'
same_capture s c s' c' h = cc

-- what comes of words that are the form
pub of_form : (words : List (List ℕ)) (x y : Outside) (r : Ending) → Comes words x y r → (script capture : List ℕ) → words ≡ serial_words script capture → SerialComes script capture x y r
of_form words x y r (inl none) script capture is = absurd (none.0 script capture is)
of_form words x y r (inr form) script capture is =
    let same : serial_words form.0 form.1 ≡ serial_words script capture = sym form.2 ∙ is in
    subst (λ (s : List ℕ). SerialComes s capture x y r) (same_script form.0 form.1 script capture same)
    (subst (λ (c : List ℕ). SerialComes form.0 c x y r) (same_capture form.0 form.1 script capture same) form.3)

-- all was done
pub done_of : (s c : List ℕ) (x y : Outside) (r : Ending) → SerialComes s c x y r → code_of r ≡ 0 → (text : List ℕ) × IsSerialText s c x.files y.files text × Adds x.out y.out text
done_of s c x y (Ok done) comes code = comes
done_of s c x y (Err Usage) comes code = absurd comes
done_of s c x y (Err (BadScript line)) comes code = absurd (omega arith)
done_of s c x y (Err (BadCapture at)) comes code = absurd (omega arith)
done_of s c x y (Err ReadFault) comes code = absurd (omega arith)
done_of s c x y (Err WriteFault) comes code = absurd (omega arith)
done_of s c x y (Err TooLong) comes code = absurd (omega arith)
done_of s c x y (Err NoMemory) comes code = absurd (omega arith)

-- the words are no form exactly where the status is 2
pub usage_of : (words : List (List ℕ)) (x y : Outside) (r : Ending) → Comes words x y r → code_of r ≡ 2 → IsNoForm words
usage_of words x y r (inl none) code = none.0
usage_of words x y (Ok done) (inr form) code = absurd (omega arith)
usage_of words x y (Err Usage) (inr form) code = absurd form.3
usage_of words x y (Err (BadScript line)) (inr form) code = absurd (omega arith)
usage_of words x y (Err (BadCapture at)) (inr form) code = absurd (omega arith)
usage_of words x y (Err ReadFault) (inr form) code = absurd (omega arith)
usage_of words x y (Err WriteFault) (inr form) code = absurd (omega arith)
usage_of words x y (Err TooLong) (inr form) code = absurd (omega arith)
usage_of words x y (Err NoMemory) (inr form) code = absurd (omega arith)

pub no_form_of : (words : List (List ℕ)) (x y : Outside) (r : Ending) → Comes words x y r → IsNoForm words → code_of r ≡ 2
no_form_of words x y r (inl none) h = ap code_of none.1
no_form_of words x y r (inr form) h = absurd (h form.0 form.1 form.2)

-- the octets of the script stop being one at the line that the text names
pub script_of : (s c : List ℕ) (x y : Outside) (r : Ending) → SerialComes s c x y r → code_of r ≡ 3 → (line : ℕ) × SeesOne s x.files y.files (ScriptFails line) × (said_of r ≡ text_of (BadScript line))
script_of s c x y (Ok done) comes code = absurd (omega arith)
script_of s c x y (Err Usage) comes code = absurd comes
script_of s c x y (Err (BadScript line)) comes code = (line, comes.0, refl)
script_of s c x y (Err (BadCapture at)) comes code = absurd (omega arith)
script_of s c x y (Err ReadFault) comes code = absurd (omega arith)
script_of s c x y (Err WriteFault) comes code = absurd (omega arith)
script_of s c x y (Err TooLong) comes code = absurd (omega arith)
script_of s c x y (Err NoMemory) comes code = absurd (omega arith)

-- the script was read, and a header or record of the capture fails at the offset that the text names
pub capture_of : (s c : List ℕ) (x y : Outside) (r : Ending) → SerialComes s c x y r → code_of r ≡ 4 → (at : ℕ) × OfCapture s c x y (CaptureFailsAt at) × (said_of r ≡ text_of (BadCapture at))
capture_of s c x y (Ok done) comes code = absurd (omega arith)
capture_of s c x y (Err Usage) comes code = absurd comes
capture_of s c x y (Err (BadScript line)) comes code = absurd (omega arith)
capture_of s c x y (Err (BadCapture at)) comes code = (at, comes, refl)
capture_of s c x y (Err ReadFault) comes code = absurd (omega arith)
capture_of s c x y (Err WriteFault) comes code = absurd (omega arith)
capture_of s c x y (Err TooLong) comes code = absurd (omega arith)
capture_of s c x y (Err NoMemory) comes code = absurd (omega arith)

-- a fault of the files
pub read_of : (words : List (List ℕ)) (x y : Outside) (r : Ending) → Comes words x y r → code_of r ≡ 5 → Rose x.files.faults y.files.faults
read_of words x y r (inl none) code = let two : code_of r ≡ 2 = ap code_of none.1 in absurd (omega arith)
read_of words x y (Ok done) (inr form) code = absurd (omega arith)
read_of words x y (Err Usage) (inr form) code = absurd form.3
read_of words x y (Err (BadScript line)) (inr form) code = absurd (omega arith)
read_of words x y (Err (BadCapture at)) (inr form) code = absurd (omega arith)
read_of words x y (Err ReadFault) (inr form) code = ⊎_elim (λ script. script.0.3.1) (λ capture. capture.0.1.came.1) form.3
read_of words x y (Err WriteFault) (inr form) code = absurd (omega arith)
read_of words x y (Err TooLong) (inr form) code = absurd (omega arith)
read_of words x y (Err NoMemory) (inr form) code = absurd (omega arith)

-- a fault of the output, and a front of the text before it
pub write_of : (s c : List ℕ) (x y : Outside) (r : Ending) → SerialComes s c x y r → code_of r ≡ 6 → WrotePart s c x y
write_of s c x y (Ok done) comes code = absurd (omega arith)
write_of s c x y (Err Usage) comes code = absurd comes
write_of s c x y (Err (BadScript line)) comes code = absurd (omega arith)
write_of s c x y (Err (BadCapture at)) comes code = absurd (omega arith)
write_of s c x y (Err ReadFault) comes code = absurd (omega arith)
write_of s c x y (Err WriteFault) comes code = comes
write_of s c x y (Err TooLong) comes code = absurd (omega arith)
write_of s c x y (Err NoMemory) comes code = absurd (omega arith)

-- a file is longer than its limit
pub long_of : (s c : List ℕ) (x y : Outside) (r : Ending) → SerialComes s c x y r → code_of r ≡ 7 → OfScript s x y (IsLonger script_limit) ⊎ OfCapture s c x y (IsLonger capture_limit)
long_of s c x y (Ok done) comes code = absurd (omega arith)
long_of s c x y (Err Usage) comes code = absurd comes
long_of s c x y (Err (BadScript line)) comes code = absurd (omega arith)
long_of s c x y (Err (BadCapture at)) comes code = absurd (omega arith)
long_of s c x y (Err ReadFault) comes code = absurd (omega arith)
long_of s c x y (Err WriteFault) comes code = absurd (omega arith)
long_of s c x y (Err TooLong) comes code = comes
long_of s c x y (Err NoMemory) comes code = absurd (omega arith)

-- the statuses
pub known_of : (r : Ending) → IsStatus (code_of r)
known_of (Ok done) = inl refl
known_of (Err Usage) = inr (omega arith, omega arith)
known_of (Err (BadScript line)) = inr (omega arith, omega arith)
known_of (Err (BadCapture at)) = inr (omega arith, omega arith)
known_of (Err ReadFault) = inr (omega arith, omega arith)
known_of (Err WriteFault) = inr (omega arith, omega arith)
known_of (Err TooLong) = inr (omega arith, omega arith)
known_of (Err NoMemory) = inr (omega arith, omega arith)

-- nothing is written with a status other than 0 and 6
pub quiet_of : (words : List (List ℕ)) (x y : Outside) (r : Ending) → Comes words x y r → code_of r ≢ 0 → code_of r ≢ 6 → y.out ≡ x.out
quiet_of words x y r (inl none) zero six = ap (λ (o : Outside). o.out) none.2
quiet_of words x y (Ok done) (inr form) zero six = absurd (zero refl)
quiet_of words x y (Err Usage) (inr form) zero six = absurd form.3
quiet_of words x y (Err (BadScript line)) (inr form) zero six = form.3.1
quiet_of words x y (Err (BadCapture at)) (inr form) zero six = form.3.1
quiet_of words x y (Err ReadFault) (inr form) zero six = ⊎_elim (λ script. script.1) (λ capture. capture.1) form.3
quiet_of words x y (Err WriteFault) (inr form) zero six = absurd (six refl)
quiet_of words x y (Err TooLong) (inr form) zero six = ⊎_elim (λ script. script.1) (λ capture. capture.1) form.3
quiet_of words x y (Err NoMemory) (inr form) zero six = ⊎_elim (λ script. script.1) (λ capture. capture.1) form.3

-- the text of each status without a number
pub text_is : (r : Ending) → code_of r ≢ 3 → code_of r ≢ 4 → said_of r ≡ text_of_status (code_of r)
text_is (Ok done) three four = refl
text_is (Err Usage) three four = refl
text_is (Err (BadScript line)) three four = absurd (three refl)
text_is (Err (BadCapture at)) three four = absurd (four refl)
text_is (Err ReadFault) three four = refl
text_is (Err WriteFault) three four = refl
text_is (Err TooLong) three four = refl
text_is (Err NoMemory) three four = refl

-- a file whose name holds octets that are told gave a front of them
read_of_name : (holds : List ℕ → Option (List ℕ)) (name octets : List ℕ) (file : FileSeen) → IfSome (holds file.name) (λ told. IsReadOf told file) → file.name ≡ name → holds name ≡ Some octets → IsReadOf octets file
read_of_name holds name octets file told named is =
    let by_name = subst (λ (n : List ℕ). IfSome (holds n) (λ told. IsReadOf told file)) named told in
    subst (λ (held : Option (List ℕ)). IfSome held (λ told. IsReadOf told file)) is by_name

-- a front isn't longer
not_longer : (limit : ℕ) (octets : List ℕ) (file : FileSeen) → IsReadOf octets file → length octets ≤ limit → IsLonger limit file → ⊥
not_longer limit octets file read few longer =
    let same : length (take (length file.gave) octets) ≡ length file.gave = ap length read.0 in
    let short : length (take (length file.gave) octets) ≡ min (length file.gave) (length octets) = length-take (length file.gave) octets in
    omega arith

-- the only file that was looked for, and the two
one_read : (name octets : List ℕ) (before now : FilesSeen) (file : FileSeen) → Sees before now (file ∷ []) → file.name ≡ name → before.holds name ≡ Some octets → IsReadOf octets file
one_read name octets before now file sees named is =
    read_of_name before.holds name octets file (All-head (λ (f : FileSeen). IfSome (before.holds f.name) (λ told. IsReadOf told f)) file [] sees.told) named is

capture_read : (s c octets : List ℕ) (before now : FilesSeen) (says : Script) (P : FileSeen → Type 0) (b : SeesBoth s c before now says P) → before.holds c ≡ Some octets → IsReadOf octets b.capture
capture_read s c octets before now says P b is =
    read_of_name before.holds c octets b.capture
    (All-head (λ (f : FileSeen). IfSome (before.holds f.name) (λ told. IsReadOf told f)) b.capture (b.script ∷ []) b.sees.told) b.capture_named is

script_read : (s c octets : List ℕ) (before now : FilesSeen) (says : Script) (P : FileSeen → Type 0) (b : SeesBoth s c before now says P) → before.holds s ≡ Some octets → IsReadOf octets b.script
script_read s c octets before now says P b is =
    let Q : FileSeen → Type 0 = λ f. IfSome (before.holds f.name) (λ told. IsReadOf told f) in
    read_of_name before.holds s octets b.script (All-head Q b.script [] (All-tail Q b.capture (b.script ∷ []) b.sees.told)) b.script_named is

-- a script that is spelled and told doesn't fail
script_fine : (s octets : List ℕ) (before now : FilesSeen) (says : Script) (line : ℕ) → before.holds s ≡ Some octets → SpellsScript octets says → SeesOne s before now (ScriptFails line) → ⊥
script_fine s octets before now says line is spells one =
    let same : one.0.gave ≡ octets = (one_read s octets before now one.0 one.1 one.2 is).1 one.3.0.ended in
    exclusive octets says line spells (subst (λ (read : List ℕ). FailsAt read line) same one.3.1)

-- a capture that is spelled and told doesn't fail
capture_fine : (s c octets : List ℕ) (frames : List (List ℕ)) (before now : FilesSeen) (says : Script) (at : ℕ) → before.holds c ≡ Some octets → SpellsCapture octets frames → SeesBoth s c before now says (CaptureFailsAt at) → ⊥
capture_fine s c octets frames before now says at is spells b =
    let fault = b.came.0 in
    let same : b.capture.gave ≡ octets = (capture_read s c octets before now says (CaptureFailsAt at) b is).1 b.came.1.ended in
    capture_sound octets frames fault spells (subst (λ (read : List ℕ). CaptureFails read fault) same b.came.2)

-- what is told and no script isn't read as one
no_script : (s c : List ℕ) (before now : FilesSeen) (says : Script) (P : FileSeen → Type 0) → HoldsNoScript (before.holds s) → SeesBoth s c before now says P → ⊥
no_script s c before now says P none b =
    let same : b.script.gave ≡ none.octets = (script_read s c none.octets before now says P b none.is).1 b.script_is.0.ended in
    exclusive none.octets says none.line (subst (λ (read : List ℕ). SpellsScript read says) same b.script_is.1) none.fails

-- inputs that are spelled and within the limits, and no fault: all is done, but for want of memory
pub complete_of : (s c : List ℕ) (x y : Outside) (r : Ending) → HoldsScript (x.files.holds s) → HoldsCapture (x.files.holds c) → (Rose x.files.faults y.files.faults → ⊥) → (Rose x.out.faults y.out.faults → ⊥) → SerialComes s c x y r → (code_of r ≡ 0) ⊎ (code_of r ≡ 8)
complete_of s c x y (Ok done) script capture calm still comes = inl refl
complete_of s c x y (Err Usage) script capture calm still comes = absurd comes
complete_of s c x y (Err (BadScript line)) script capture calm still comes =
    absurd (script_fine s script.octets x.files y.files script.script line script.is script.spelled comes.0)
complete_of s c x y (Err (BadCapture at)) script capture calm still comes =
    absurd (capture_fine s c capture.octets capture.frames x.files y.files comes.0.0 at capture.is capture.spelled comes.0.1)
complete_of s c x y (Err ReadFault) script capture calm still comes =
    absurd (⊎_elim (λ one. calm one.0.3.1) (λ two. calm two.0.1.came.1) comes)
complete_of s c x y (Err WriteFault) script capture calm still comes = absurd (still comes.rose)
complete_of s c x y (Err TooLong) script capture calm still comes =
    absurd (⊎_elim
    (λ one. not_longer script_limit script.octets one.0.0 (one_read s script.octets x.files y.files one.0.0 one.0.1 one.0.2 script.is) script.few one.0.3)
    (λ two. not_longer capture_limit capture.octets two.0.1.capture (capture_read s c capture.octets x.files y.files two.0.0 (IsLonger capture_limit) two.0.1 capture.is) capture.few two.0.1.came) comes)
complete_of s c x y (Err NoMemory) script capture calm still comes = inr refl

-- a script that is told and none: the capture isn't looked for
pub script_first_of : (s c : List ℕ) (x y : Outside) (r : Ending) → HoldsNoScript (x.files.holds s) → SerialComes s c x y r → (code_of r ≡ 3) ⊎ ((code_of r ≡ 8) ⊎ SeesOne s x.files y.files (IsLost x.files y.files))
script_first_of s c x y (Ok done) none comes = absurd (no_script s c x.files y.files comes.1.script (IsCapture comes.1.frames) none comes.1.files)
script_first_of s c x y (Err Usage) none comes = absurd comes
script_first_of s c x y (Err (BadScript line)) none comes = inl refl
script_first_of s c x y (Err (BadCapture at)) none comes = absurd (no_script s c x.files y.files comes.0.0 (CaptureFailsAt at) none comes.0.1)
script_first_of s c x y (Err ReadFault) none comes =
    ⊎_elim (λ one. inr (inr one.0)) (λ two. absurd (no_script s c x.files y.files two.0.0 (IsLost x.files y.files) none two.0.1)) comes
script_first_of s c x y (Err WriteFault) none comes =
    absurd (no_script s c x.files y.files comes.made.script (IsCapture comes.made.frames) none comes.made.files)
script_first_of s c x y (Err TooLong) none comes =
    absurd (⊎_elim
    (λ one. not_longer script_limit none.octets one.0.0 (one_read s none.octets x.files y.files one.0.0 one.0.1 one.0.2 none.is) none.few one.0.3)
    (λ two. no_script s c x.files y.files two.0.0 (IsLonger capture_limit) none two.0.1) comes)
script_first_of s c x y (Err NoMemory) none comes = inr (inl refl)
