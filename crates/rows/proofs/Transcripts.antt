-- The transcripts of two runs, and their texts.
use Rattle.std.specs.Prelude.{ℕ, ◌≡◌, false, List, [], ◌∷◌, ◌++◌, codes, None}
use Rattle.std.specs.Fmt.{digits}
use Rattle.std.proofs.Common.{refl}
use Rattle.hex.specs.Hex.{encode_with}
use Rattle.lw_transcript.specs.declared.lines.Version.TheVariants.{One}
use Rattle.lw_transcript.specs.declared.lines.Form.TheVariants.{Serial}
use Rattle.lw_events.specs.declared.event.Event.{Event}
use Rattle.lw_events.specs.declared.event.Event.TheVariants.{Frame, Stop}
use Rattle.lw_events.specs.declared.event.Reply.TheVariants.{Done}
use Rattle.lw_transcript.specs.declared.lines.CoreLine.{CoreLine}
use Rattle.lw_transcript.specs.declared.lines.Evidence.{Evidence}
use Rattle.lw_transcript.specs.declared.lines.Evidence.TheVariants.{At}
use Rattle.call_types.specs.declared.outcome.Outcome.TheVariants.{Ok as OkOutcome, Fed}
use Rattle.lw_transcript.specs.declared.lines.ActorPart.{ActorPart}
use Rattle.lw_transcript.specs.declared.lines.Transcript.{Transcript}
use Rattle.lw_transcript.specs.Transcript.{transcript_spelling}
use Rattle.rows.specs.Worked.{no_frames_text, request, request_text}

-- 10.0.0.1 answers
abbrev pub answer : List ℕ
answer =
    2 ∷ 0 ∷ 0 ∷ 0 ∷ 0 ∷ 2 ∷ 2 ∷ 0 ∷ 0 ∷ 0 ∷ 0 ∷ 1 ∷ 8 ∷ 6 ∷ 0 ∷ 1 ∷ 8 ∷ 0 ∷ 6 ∷ 4 ∷ 0 ∷ 2 ∷ 2 ∷ 0 ∷
    0 ∷ 0 ∷ 0 ∷ 1 ∷ 10 ∷ 0 ∷ 0 ∷ 1 ∷ 2 ∷ 0 ∷ 0 ∷ 0 ∷ 0 ∷ 2 ∷ 10 ∷ 0 ∷ 0 ∷ 2 ∷ []

-- the driver feeds all and stops
abbrev pub driver : List Evidence → ℕ → ℕ → ActorPart
driver fed count last = record {
  calls =
      record { text = codes "feed all"; seen = fed; result = Fed count }
      ∷ record { text = codes "stop"; seen = At last ∷ []; result = OkOutcome }
      ∷ [];
}

-- an event of the driver that is granted all and sends these frames
abbrev line_of : ℕ → Event (List ℕ) → List (List ℕ) → CoreLine
line_of number event frames =
    record { number = number; entry = record { actor = 0; event = event; short = false; posts = []; frames = frames; reply = Done } }

-- the end of a run
abbrev pub stop_line : ℕ → CoreLine
stop_line number = line_of number Stop []

-- a request is answered
abbrev pub request_line : CoreLine
request_line = line_of 1 (Frame request) (answer ∷ [])

-- one request is fed
abbrev pub arp_request : Transcript
arp_request = record {
  version = One;
  form = Serial (record {
    sizes = None;
    core = request_line ∷ stop_line 2 ∷ [];
    actors = driver (At 1 ∷ []) 1 2 ∷ [];
    left = [];
    end = record { core = 2; out = 1; pools = None };
  });
}

-- no frame is fed
abbrev pub no_frames : Transcript
no_frames = record {
  version = One;
  form = Serial (record {
    sizes = None;
    core = stop_line 1 ∷ [];
    actors = driver [] 0 1 ∷ [];
    left = [];
    end = record { core = 1; out = 0; pools = None };
  });
}

-- its text
pub transcript_spelling-arp_request : transcript_spelling arp_request ≡ request_text
unfolding digits encode_with
transcript_spelling-arp_request = refl

-- its text
pub transcript_spelling-no_frames : transcript_spelling no_frames ≡ no_frames_text
unfolding digits encode_with
transcript_spelling-no_frames = refl
