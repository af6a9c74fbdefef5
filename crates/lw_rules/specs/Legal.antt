-- Which transcripts are legal for a script and a capture: one history of the serial stack, in which every call and
-- every frame stands once.
use Rattle.std.specs.Prelude.{ℕ, ◌≡◌, ◌+◌, List, [], ◌∷◌, length, map, sum_by, slice_get, All, Option, Some, None, option_to_list}
use Rattle.std.specs.List.{flat_map}
use Rattle.std.specs.List.Sorted.{IsStrictlyIncreasing}
use Rattle.lw_events.specs.declared.event.Event.{Event}
use Rattle.lw_events.specs.declared.event.Event.TheVariants.{Frame, Stop as StopEvent}
use Rattle.lw_events.specs.Events.{grants_of}
use Rattle.lw_input.specs.State.{opening}
use Rattle.lw_layers.specs.History.{IsReplay, granted}
use Rattle.lw_script.specs.declared.parts.Call.{Call}
use Rattle.lw_script.specs.declared.parts.Call.TheVariants.{FeedAll, Stop}
use Rattle.lw_script.specs.declared.parts.Script.{Script}
use Rattle.lw_script.specs.Parts.{call_text, limits_of}
use Rattle.lw_script.specs.Driver.{driver_calls}
use Rattle.lw_transcript.specs.declared.lines.Version.TheVariants.{One}
use Rattle.lw_transcript.specs.declared.lines.Form.TheVariants.{Serial}
use Rattle.lw_transcript.specs.declared.lines.CoreLine.{CoreLine}
use Rattle.lw_transcript.specs.declared.lines.Evidence.{Evidence}
use Rattle.lw_transcript.specs.declared.lines.Evidence.TheVariants.{At, Saw}
use Rattle.call_types.specs.declared.outcome.Outcome.TheVariants.{Ok as OkOutcome, Fed}
use Rattle.lw_transcript.specs.declared.lines.CallPart.{CallPart}
use Rattle.lw_transcript.specs.declared.lines.ActorPart.{ActorPart}
use Rattle.lw_transcript.specs.declared.lines.Body.{Body}
use Rattle.lw_transcript.specs.declared.lines.Transcript.{Transcript}
use Rattle.lw_rules.specs.Schedule.{serial_body}

-- as many numbers as there are elements, counted from n
abbrev pub count_from : {A : Type 0} → ℕ → List A → List ℕ
count_from n [] = []
count_from n (x ∷ xs) = n ∷ count_from (n + 1) xs

-- the replay rule: the core lines are numbered from 1, and they are a legal history of the serial stack
pub record ReplayRule (script : Script) (body : Body) : Type 0 where
  pub numbers : map (λ line. line.number) body.core ≡ count_from 1 body.core
  pub replay : IsReplay (opening script.net (limits_of script.profile)) (map (λ line. line.entry) body.core)

-- the numbers of the core lines that evidence names
abbrev pub names_in : List Evidence → List ℕ
names_in [] = []
names_in (At n ∷ seen) = n ∷ names_in seen
names_in (Saw sight ∷ seen) = names_in seen

-- the frame of an event, where it has one
abbrev pub frame_in : Event (List ℕ) → Option (List ℕ)
frame_in (Frame octets) = Some octets
frame_in other = None

-- core line n, counted from 1, is an actor's, and it was given this event
pub record IsLine (core : List CoreLine) (actor n : ℕ) (event : Event (List ℕ)) : Type 0 where
  pub place : ℕ
  pub line : CoreLine
  pub number : n ≡ place + 1
  pub stands : slice_get core place ≡ Some line
  pub own : line.entry.actor ≡ actor
  pub given : line.entry.event ≡ event

-- core line n of an actor was given a frame
abbrev pub IsFrameLine : List CoreLine → ℕ → ℕ → Type 0
IsFrameLine core actor n = (octets : List ℕ) × IsLine core actor n (Frame octets)

-- the call relation: `feed all` names one line of a frame for each frame that it fed, and saw nothing else; `stop` names its line
abbrev pub IsCall : List CoreLine → ℕ → Call → CallPart → Type 0
IsCall core actor FeedAll part =
    (part.seen ≡ map At (names_in part.seen)) × All (IsFrameLine core actor) (names_in part.seen)
    × (part.result ≡ Fed (length part.seen))
IsCall core actor Stop part =
    (n : ℕ) × (part.seen ≡ At n ∷ []) × IsLine core actor n StopEvent × (part.result ≡ OkOutcome)

-- calls of an actor and what is written of them, in their order
abbrev pub AreCalls : List CoreLine → ℕ → List Call → List CallPart → Type 0
AreCalls core actor [] [] = Unit {0}
AreCalls core actor [] (part ∷ parts) = ⊥
AreCalls core actor (call ∷ calls) [] = ⊥
AreCalls core actor (call ∷ calls) (part ∷ parts) =
    (part.text ≡ call_text call) × IsCall core actor call part × AreCalls core actor calls parts

-- the core lines that an actor's calls name, in their order
abbrev pub names_of : ActorPart → List ℕ
names_of part = flat_map (λ call. names_in call.seen) part.calls

-- the call rule: the driver's calls are those of the script, each as the call relation says; the lines that it names
-- rise; each core line is named; and the body is that of the serial schedule
pub record CallRule (script : Script) (frames : List (List ℕ)) (body : Body) : Type 0 where
  pub driver : ActorPart
  pub only : body.actors ≡ driver ∷ []
  pub calls : AreCalls body.core 0 (driver_calls script) driver.calls
  pub rise : IsStrictlyIncreasing (names_of driver)
  pub named : names_of driver ≡ map (λ line. line.number) body.core
  pub schedule : body ≡ serial_body script frames

-- the input rule: the frames that were fed are those of the capture, each once, in order
pub record InputRule (frames : List (List ℕ)) (body : Body) : Type 0 where
  pub fed : flat_map (λ line. option_to_list (frame_in line.entry.event)) body.core ≡ frames

-- the end rule: the end line counts the core lines and the frames sent
pub record EndRule (body : Body) : Type 0 where
  pub core : body.end.core ≡ length body.core
  pub out : body.end.out ≡ sum_by (λ line. length line.entry.frames) body.core

-- the grant rule: each event was granted all that it asked for, so no pool was short for it, and nothing was posted
pub record GrantRule (body : Body) : Type 0 where
  pub granted : All (λ line. grants_of line.entry ≡ granted) body.core

-- the legal transcripts of `serial`
pub record IsLegal (script : Script) (frames : List (List ℕ)) (t : Transcript) : Type 0 where
  pub version : t.version ≡ One
  pub body : Body
  pub form : t.form ≡ Serial body
  pub replay : ReplayRule script body
  pub grants : GrantRule body
  pub calls : CallRule script frames body
  pub input : InputRule frames body
  pub ends : EndRule body
