-- The serial schedule: all actors of a script on one thread, turn by turn. The driver is actor 0.
use Rattle.std.specs.Prelude.{ℕ, ◌+◌, List, [], ◌∷◌, ◌++◌, length, map, None}
use Rattle.lw_events.specs.declared.event.Event.{Event}
use Rattle.lw_events.specs.declared.event.Event.TheVariants.{Frame, Stop as StopEvent}
use Rattle.lw_events.specs.declared.entry.Entry.{Entry}
use Rattle.lw_input.specs.State.{State, opening}
use Rattle.lw_layers.specs.Step.{step}
use Rattle.lw_layers.specs.History.{entry_of, granted, state_after}
use Rattle.lw_script.specs.declared.parts.Call.{Call}
use Rattle.lw_script.specs.declared.parts.Call.TheVariants.{FeedAll, Stop}
use Rattle.lw_script.specs.declared.parts.Script.{Script}
use Rattle.lw_script.specs.Parts.{call_text, limits_of}
use Rattle.lw_script.specs.Driver.{driver_calls}
use Rattle.lw_transcript.specs.declared.lines.Version.TheVariants.{One}
use Rattle.lw_transcript.specs.declared.lines.Form.TheVariants.{Serial}
use Rattle.lw_transcript.specs.declared.lines.Evidence.{Evidence}
use Rattle.lw_transcript.specs.declared.lines.Evidence.TheVariants.{At}
use Rattle.call_types.specs.declared.outcome.Outcome.{Outcome}
use Rattle.call_types.specs.declared.outcome.Outcome.TheVariants.{Ok as OkOutcome, Fed}
use Rattle.lw_transcript.specs.declared.lines.CallPart.{CallPart}
use Rattle.lw_transcript.specs.declared.lines.Body.{Body}
use Rattle.lw_transcript.specs.declared.lines.Transcript.{Transcript}
use Rattle.lw_rules.specs.Lines.{core_lines_from, frames_sent}

-- a configuration: the state of the stack, the frames of the capture that are left, and the history so far
pub record Configuration : Type 0 where
  pub state : State
  pub left : List (List ℕ)
  pub entries : List Entry

-- the configuration in which a run begins
abbrev pub beginning : Script → List (List ℕ) → Configuration
beginning script frames = record { state = opening script.net (limits_of script.profile); left = frames; entries = [] }

-- the entries of events that an actor makes one after another, each granted all that it asks for
abbrev pub entries_of : State → ℕ → List (Event (List ℕ)) → List Entry
entries_of s actor [] = []
entries_of s actor (event ∷ events) = entry_of s actor event granted ∷ entries_of (step s event granted).state actor events

-- events are made by an actor, one after another
abbrev pub made : Configuration → ℕ → List (Event (List ℕ)) → Configuration
made c actor events = record c { state = state_after c.state events; entries = c.entries ++ entries_of c.state actor events }

-- evidence of core lines, one for each of these frames, numbered from n + 1 on
abbrev pub named_from : ℕ → List (List ℕ) → List Evidence
named_from n [] = []
named_from n (frame ∷ frames) = At (n + 1) ∷ named_from (n + 1) frames

-- what a call leaves: the configuration, what was seen, and the result
pub record Turn : Type 0 where
  pub config : Configuration
  pub seen : List Evidence
  pub result : Outcome

-- one call of an actor: `feed all` gives the core the frames that are left, in order; `stop` ends the run
abbrev pub turn : Configuration → ℕ → Call → Turn
turn c actor FeedAll = record {
  config = record (made c actor (map Frame c.left)) { left = [] };
  seen = named_from (length c.entries) c.left;
  result = Fed (length c.left);
}
turn c actor Stop = record {
  config = made c actor (StopEvent ∷ []);
  seen = At (length c.entries + 1) ∷ [];
  result = OkOutcome;
}

-- the configuration that calls of an actor leave, one after another
abbrev pub after_calls : Configuration → ℕ → List Call → Configuration
after_calls c actor [] = c
after_calls c actor (call ∷ calls) = after_calls (turn c actor call).config actor calls

-- what those calls saw and did
abbrev pub call_parts : Configuration → ℕ → List Call → List CallPart
call_parts c actor [] = []
call_parts c actor (call ∷ calls) =
    let t = turn c actor call in
    record { text = call_text call; seen = t.seen; result = t.result } ∷ call_parts t.config actor calls

-- the body that a history and what the driver's calls saw are written as
abbrev pub body_of : List Entry → List CallPart → Body
body_of entries calls = record {
  sizes = None;
  core = core_lines_from 1 entries;
  actors = record { calls = calls } ∷ [];
  left = [];
  end = record { core = length entries; out = frames_sent entries; pools = None };
}

-- the body of the serial schedule, for a script and the frames of a capture
abbrev pub serial_body : Script → List (List ℕ) → Body
serial_body script frames =
    let c = beginning script frames in
    body_of (after_calls c 0 (driver_calls script)).entries (call_parts c 0 (driver_calls script))

-- the transcript of it
abbrev pub serial_transcript : Script → List (List ℕ) → Transcript
serial_transcript script frames = record { version = One; form = Serial (serial_body script frames) }
