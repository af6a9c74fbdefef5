use Rattle.std.proofs.Common.{rules, ℕ, ◌+◌, List, length, get_or, ap, ◌∙◌}
use Rattle.lw_mbox.proofs.Sharing.{starts, hires_first}
use Rattle.lw_mbox.proofs.mbox.make.Goals as goal

pub vacant-requires : goal.vacant-requires
vacant-requires g c = let e = c.in_ok-words.ensures in let v = c.as_slice.ensures.value in
    starts g.T.Mail.fits _ _ _ (search rules) (ap (λ (l : List ℕ). length l) v ∙ e.0) (ap (λ (l : List ℕ). get_or l 0 0) v ∙ e.1) (λ j h. ap (λ (l : List ℕ). get_or l (1 + j) 0) v ∙ e.2 j h)

pub split_seat-first-requires : goal.split_seat-first-requires
split_seat-first-requires g c = let e = c.in_ok-table.ensures in (search rules, search rules, hires_first g.T.Mail.fits _ _ _ _ e.4)
