use Rattle.std.proofs.Common.{◌≡◌}
use Rattle.lw_frag.specs.Pieces.{full_pieces}
use Rattle.lw_frag.proofs.pieces.pieces.Given as goal

abbrev pub invariant-loop-index : goal.invariant-loop-index
invariant-loop-index l = l.pieces.items ≡ full_pieces l.h l.index l.full
