-- The lines of a call: its text, what it saw, and what it gave.
use Rattle.std.specs.Prelude.{ℕ, ◌+◌, List, [], ◌∷◌, ◌++◌, length, map, codes, decimal, Option, Some, None}
use Rattle.std.specs.List.{flat_map}
use Rattle.lw_base.specs.Errors.{word_of}
use Rattle.lw_events.specs.declared.event.Handle.{Handle}
use Rattle.call_types.specs.declared.call.Test.{Test}
use Rattle.call_types.specs.declared.call.Test.TheVariants.{Readable, Writable, Except}
use Rattle.call_types.specs.declared.call.SelectItem.{SelectItem}
use Rattle.call_types.specs.declared.outcome.Outcome.{Outcome}
use Rattle.call_types.specs.declared.outcome.Outcome.TheVariants.{Ok as OkOutcome, Conn, Fd, Sent, Read, From, Addr, Ready, Nothing, Fed, Fail}
use Rattle.call_types.specs.declared.sight.DropCause.{DropCause}
use Rattle.call_types.specs.declared.sight.DropCause.TheVariants.{Short, Full}
use Rattle.call_types.specs.declared.sight.Sight.{Sight}
use Rattle.call_types.specs.declared.sight.Sight.TheVariants.{Take, Datagram, Accepted, Saw as SawWord, Ticks, Stopped, Count, Var, Fdw, Dropped}
use Rattle.lw_transcript.specs.declared.lines.Evidence.{Evidence}
use Rattle.lw_transcript.specs.declared.lines.Evidence.TheVariants.{At, Saw}
use Rattle.lw_transcript.specs.declared.lines.CallPart.{CallPart}
use Rattle.lw_transcript.specs.Fields.{Field, Word, Number, Name, Address, Hex, Flags, line}
use Rattle.lw_transcript.specs.CoreLines.{bit, handle_fields}

-- why a frame never reached the core
abbrev pub cause_word : DropCause → List ℕ
cause_word Short = codes "short"
cause_word Full = codes "full"

-- what a variable names, or `none`
abbrev pub named_fields : Option Handle → List Field
named_fields (Some handle) = handle_fields handle
named_fields None = Word (codes "none") ∷ []

-- the fields of what a call saw; the octets of an item stand from the first to the one behind them
abbrev pub sight_fields : Sight → List Field
sight_fields (Take conn ticket from octets) =
    Word (codes "take") ∷ Number conn ∷ Number ticket ∷ Number from ∷ Number (from + length octets) ∷ Hex octets ∷ []
sight_fields (Datagram conn ticket ip port octets) =
    Word (codes "dgram") ∷ Number conn ∷ Number ticket ∷ Address ip ∷ Number port.0 ∷ Number (length octets) ∷ Hex octets ∷ []
sight_fields (Accepted conn ticket fresh) = Word (codes "acc") ∷ Number conn ∷ Number ticket ∷ Number fresh ∷ []
sight_fields (SawWord conn word) =
    Word (codes "saw") ∷ Number conn ∷ Number word.posted ∷ Number word.claimed ∷ Flags word.flags ∷ []
sight_fields (Ticks n) = Word (codes "ticks") ∷ Number n ∷ []
sight_fields Stopped = Word (codes "stopped") ∷ []
sight_fields (Count signal n) = Word (codes "sig") ∷ Name (codes "s") signal ∷ Number n ∷ []
sight_fields (Var var handle) = Word (codes "var") ∷ Name (codes "v") var ∷ named_fields handle
sight_fields (Fdw fd conn nonblock timeout) =
    Word (codes "fdw") ∷ Number fd ∷ Number conn ∷ Number (bit nonblock) ∷ Number timeout ∷ []
sight_fields (Dropped frame cause) = Word (codes "drop") ∷ Number frame ∷ Word (cause_word cause) ∷ []

-- the line `@N` of a core line, or the line of what was seen
abbrev pub evidence_text : Evidence → List ℕ
evidence_text (At number) = line (Name (codes "@") number ∷ [])
evidence_text (Saw sight) = line (sight_fields sight)

-- the letter of a test
abbrev pub test_letter : Test → List ℕ
test_letter Readable = codes "r"
test_letter Writable = codes "w"
test_letter Except = codes "e"

-- a test of a variable's connection, as `r0`
abbrev pub test_field : SelectItem → Field
test_field item = Name (test_letter item.test) item.var

-- the fields of what a call gave; that of a failed call is the word of its error
abbrev pub outcome_fields : Outcome → List Field
outcome_fields OkOutcome = Word (codes "ok") ∷ []
outcome_fields (Conn conn) = Word (codes "conn") ∷ Number conn ∷ []
outcome_fields (Fd fd) = Word (codes "fd") ∷ Number fd ∷ []
outcome_fields (Sent n) = Word (codes "sent") ∷ Number n ∷ []
outcome_fields (Read n) = Word (codes "read") ∷ Number n ∷ []
outcome_fields (From ip port n) = Word (codes "from") ∷ Address ip ∷ Number port.0 ∷ Number n ∷ []
outcome_fields (Addr ip port) = Word (codes "addr") ∷ Address ip ∷ Number port.0 ∷ []
outcome_fields (Ready items) = Word (codes "ready") ∷ map test_field items
outcome_fields Nothing = Word (codes "none") ∷ []
outcome_fields (Fed n) = Word (codes "fed") ∷ Number n ∷ []
outcome_fields (Fail err) = Word (word_of err) ∷ []

-- the line `call K TEXT`
abbrev pub call_text : ℕ → List ℕ → List ℕ
call_text number text = codes "call " ++ decimal number ++ codes " " ++ text ++ codes "\n"

-- the line `did RESULT`
abbrev pub did_text : Outcome → List ℕ
did_text result = line (Word (codes "did") ∷ outcome_fields result)

-- call K with what it saw and did
abbrev pub call_lines : ℕ → CallPart → List ℕ
call_lines number call = call_text number call.text ++ flat_map evidence_text call.seen ++ did_text call.result
