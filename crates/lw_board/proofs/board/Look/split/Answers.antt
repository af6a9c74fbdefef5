use Rattle.std.proofs.Common.{rules}
use Rattle.lw_board.proofs.Steps.{shares}
use Rattle.lw_board.proofs.board.Look.split.Goals as goal

pub split_seat-second-requires : goal.split_seat-second-requires
split_seat-second-requires g c = search (rules, shares)
