use Rattle.script_words.proofs.HexLaws.{not_decoded}
use Rattle.script_words.proofs.send_data.parse_octets.Goals as goal

pub returns-in-None : goal.returns-in-None
returns-in-None c = not_decoded c.args.digits.now (rw c.in-None.is at c.in_ok-found.ensures)
