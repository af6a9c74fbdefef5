-- What the text of a transcript tells.
use Rattle.std.specs.Prelude.{ℕ, ◌^◌, ◌<◌, List, length, map, replicate, All, option_to_list}
use Rattle.hex.specs.Hex.{IsBytes}
use Rattle.lw_events.specs.declared.entry.ItemText.{ItemText}
use Rattle.lw_events.specs.declared.entry.ItemText.TheVariants.{Segment, Datagram, Accepted}
use Rattle.lw_events.specs.declared.entry.Post.{Post}
use Rattle.lw_events.specs.declared.entry.Post.TheVariants.{Item, Full}
use Rattle.lw_transcript.specs.declared.lines.CoreLine.{CoreLine}
use Rattle.lw_transcript.specs.declared.lines.Evidence.{Evidence}
use Rattle.lw_transcript.specs.declared.lines.Evidence.TheVariants.{At, Saw}
use Rattle.lw_transcript.specs.declared.lines.CallPart.{CallPart}
use Rattle.lw_transcript.specs.declared.lines.ActorPart.{ActorPart}
use Rattle.lw_transcript.specs.declared.lines.Form.{Form}
use Rattle.lw_transcript.specs.declared.lines.Form.TheVariants.{Serial, Run, Pair}
use Rattle.lw_transcript.specs.declared.lines.Body.{Body}
use Rattle.lw_transcript.specs.declared.lines.Transcript.{Transcript}
use Rattle.lw_transcript.specs.Fields.{Field, Word, Number, Name, Address, Hex, Flags, Share}
use Rattle.lw_transcript.specs.CoreLines.{core_fields, post_fields}
use Rattle.lw_transcript.specs.CallLines.{outcome_fields, sight_fields}
use Rattle.lw_transcript.specs.Transcript.{end_fields, left_fields, sizes_fields}

-- a field whose numbers are below 2^32, its octets below 256 and its flags the seven
abbrev pub IsHeld : Field → Type 0
IsHeld (Word word) = Unit {0}
IsHeld (Number n) = n < 2 ^ 32
IsHeld (Name letters n) = n < 2 ^ 32
IsHeld (Address ip) = ip.0 < 2 ^ 32
IsHeld (Hex octets) = IsBytes octets
IsHeld (Flags flags) = flags < 128
IsHeld (Share free all) = (free < 2 ^ 32) × (all < 2 ^ 32)

-- such fields
abbrev pub AreHeld : List Field → Type 0
AreHeld fs = All IsHeld fs

-- the fields of a core line, of its posts and of the frames sent
pub record IsToldCore (line : CoreLine) : Type 0 where
  pub fields : AreHeld (core_fields line.number line.entry)
  pub posts : All (λ post. AreHeld (post_fields post)) line.entry.posts
  pub frames : All IsBytes line.entry.frames

-- the number of a core line, or the fields of what was seen
abbrev pub IsToldEvidence : Evidence → Type 0
IsToldEvidence (At number) = number < 2 ^ 32
IsToldEvidence (Saw sight) = AreHeld (sight_fields sight)

-- those of a call
pub record IsToldCall (call : CallPart) : Type 0 where
  pub seen : All IsToldEvidence call.seen
  pub result : AreHeld (outcome_fields call.result)

-- those of an actor's calls
abbrev pub IsToldActor : ActorPart → Type 0
IsToldActor actor = All IsToldCall actor.calls

-- those of a body
pub record IsToldBody (body : Body) : Type 0 where
  pub sizes : All (λ sizes. AreHeld (sizes_fields sizes)) (option_to_list body.sizes)
  pub core : All IsToldCore body.core
  pub actors : All IsToldActor body.actors
  pub left : All (λ left. AreHeld (left_fields left)) body.left
  pub end : AreHeld (end_fields body.end)

-- each body is such
abbrev pub AreTold : Form → Type 0
AreTold (Serial body) = IsToldBody body
AreTold (Run body) = IsToldBody body
AreTold (Pair a b) = IsToldBody a × IsToldBody b

-- all fields of a transcript are such as the types hold, and as a line may have
abbrev pub IsTold : Transcript → Type 0
IsTold t = AreTold t.form

-- an item without its octets, of which the text has only the number
abbrev pub bare_item : ItemText → ItemText
bare_item (Segment octets) = Segment (replicate (length octets) 0)
bare_item (Datagram ip port octets) = Datagram ip port (replicate (length octets) 0)
bare_item (Accepted conn) = Accepted conn

-- a post of such an item
abbrev pub bare_post : Post → Post
bare_post (Item conn ticket text) = Item conn ticket (bare_item text)
bare_post (Full conn) = Full conn

-- a core line with such posts
abbrev pub bare_core : CoreLine → CoreLine
bare_core line = record line { entry = record line.entry { posts = map bare_post line.entry.posts } }

-- a body with such core lines
abbrev pub bare_body : Body → Body
bare_body body = record body { core = map bare_core body.core }

-- each body is such
abbrev pub bare_form : Form → Form
bare_form (Serial body) = Serial (bare_body body)
bare_form (Run body) = Run (bare_body body)
bare_form (Pair a b) = Pair (bare_body a) (bare_body b)

-- a transcript without the octets that were posted: for each its item has a zero
abbrev pub bare : Transcript → Transcript
bare t = record t { form = bare_form t.form }
