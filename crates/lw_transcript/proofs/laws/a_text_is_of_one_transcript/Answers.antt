use Rattle.lw_transcript.proofs.Once.{transcript_once}
use Rattle.lw_transcript.proofs.laws.a_text_is_of_one_transcript.Goals as goal

pub returns : goal.returns
returns c = transcript_once
