use Rattle.std.proofs.Common.{rules}
use Rattle.hist_lock.proofs.Steps.{tries_at}
use Rattle.hist_lock.proofs.turn.try_take.Goals as goal

pub compare_exchange-requires : goal.compare_exchange-requires
compare_exchange-requires g c = (c.requires.board.0, search rules, tries_at g.O.Serial.state g.O.Serial.tag g.O.Serial.by g.O.Serial.steps _ _ _ _ _ _ c.requires.idle c.if-word-eq0.true)
