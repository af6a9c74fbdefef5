use Rattle.std.proofs.Common.{rules}
use Rattle.lw_mbox.proofs.Sharing.{jots}
use Rattle.lw_mbox.proofs.poster.Poster.note.Goals as goal

pub split_seat-requires : goal.split_seat-requires
split_seat-requires g c = (search rules, search rules, jots g.T.Mail.fits _ _ _ (search rules))
