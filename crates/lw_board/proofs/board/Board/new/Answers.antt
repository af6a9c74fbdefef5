use Rattle.std.proofs.Common.{rules}
use Rattle.lw_board.proofs.Steps.{starts, shares}
use Rattle.lw_board.proofs.board.Board.new.Goals as goal

pub of_words-requires : goal.of_words-requires
of_words-requires g c = search (rules, starts)

pub split_seat-requires : goal.split_seat-requires
split_seat-requires g c = search (rules, shares)
