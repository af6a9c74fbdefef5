-- What an actor's calls saw and did, with their texts.
use Rattle.std.specs.Prelude.{List, [], ◌∷◌}
use Rattle.lw_script.specs.declared.parts.Call.{Call}
use Rattle.lw_script.specs.Parts.{call_text}
use Rattle.lw_transcript.specs.declared.lines.CallPart.{CallPart}
use Rattle.lw_actors.specs.declared.progress.DoneCall.{DoneCall}

-- a call that ended, with its text
abbrev pub part_of : Call → DoneCall → CallPart
part_of call ended = record { text = call_text call; seen = ended.seen; result = ended.result }

-- calls that ended, with their texts
abbrev pub parts_of : List Call → List DoneCall → List CallPart
parts_of calls [] = []
parts_of [] (ended ∷ done) = []
parts_of (call ∷ calls) (ended ∷ done) = part_of call ended ∷ parts_of calls done
