-- The statuses of the program and their texts.
use Rattle.std.specs.Prelude.{ℕ, ◌≡◌, ◌==◌, ◌≤◌, ◌++◌, ◌⊎◌, List, [], ◌∷◌, Result, Ok, Err, codes, decimal, if◌then◌else◌}
use Rattle.lw_outside.specs.Faults.{Rose}
use Rattle.lw_outside.specs.Sinks.{SinkSeen, Adds, AddsFront}
use Rattle.lwip_run.specs.declared.refusal.Refusal.{Refusal}
use Rattle.lwip_run.specs.declared.refusal.Refusal.TheVariants.{Usage, BadScript, BadCapture, ReadFault, WriteFault, TooLong, NoMemory}

-- how a form ends: all was done, or it was refused
abbrev pub Ending : Type 0
Ending = Result (Unit {0}) Refusal

-- the words `serial SCRIPT CAPTURE`
abbrev pub serial_words : List ℕ → List ℕ → List (List ℕ)
serial_words script capture = codes "serial" ∷ script ∷ capture ∷ []

-- words that are no form
abbrev pub IsNoForm : List (List ℕ) → Type 0
IsNoForm words = (script capture : List ℕ) → words ≡ serial_words script capture → ⊥

-- the status of a refusal
abbrev pub status_of : Refusal → ℕ
status_of Usage = 2
status_of (BadScript line) = 3
status_of (BadCapture at) = 4
status_of ReadFault = 5
status_of WriteFault = 6
status_of TooLong = 7
status_of NoMemory = 8

-- the text of a refusal: a line, but nothing where writing has failed
abbrev pub text_of : Refusal → List ℕ
text_of Usage = codes "lwip: usage\n"
text_of (BadScript line) = (codes "lwip: script line " ++ decimal line) ++ codes "\n"
text_of (BadCapture at) = (codes "lwip: capture at " ++ decimal at) ++ codes "\n"
text_of ReadFault = codes "lwip: read fault\n"
text_of WriteFault = []
text_of TooLong = codes "lwip: too long\n"
text_of NoMemory = codes "lwip: no memory\n"

-- the status that the program ends with, 0 where all was done
abbrev pub code_of : Ending → ℕ
code_of (Ok done) = 0
code_of (Err refusal) = status_of refusal

-- what is said of it, nothing where all was done
abbrev pub said_of : Ending → List ℕ
said_of (Ok done) = []
said_of (Err refusal) = text_of refusal

-- the text of a status, where it has no number in it
abbrev pub text_of_status : ℕ → List ℕ
text_of_status status =
    if status == 2 then codes "lwip: usage\n"
    else (if status == 5 then codes "lwip: read fault\n"
    else (if status == 7 then codes "lwip: too long\n"
    else (if status == 8 then codes "lwip: no memory\n" else [])))

-- the statuses of the program, without 1
abbrev pub IsStatus : ℕ → Type 0
IsStatus status = (status ≡ 0) ⊎ ((2 ≤ status) × (status ≤ 8))

-- a text was taken, or the sink failed on the way and a front of it was
abbrev pub Says : SinkSeen → SinkSeen → List ℕ → Type 0
Says before now text = Adds before now text ⊎ (Rose before.faults now.faults × AddsFront before now text)
