use Rattle.std.proofs.Common.{ap, is_some}
use Rattle.script_words.proofs.Pieces.{has_words}
use Rattle.script_words.proofs.words.Words.is_empty.Goals as goal

pub returns-in-Some : goal.returns-in-Some
returns-in-Some c = has_words c.args.self.rest (ap is_some c.in-Some.is)
