use Rattle.std.proofs.Common.{◌++◌, length, ap, ◌∙◌, arith}
use Rattle.lw_reass.proofs.Adds.{all_seen}
use Rattle.lw_reass.proofs.table.Reass.finish.Goals as goal

pub give_all-requires : goal.give_all-requires
give_all-requires g c =
    let size = ap length (all_seen c.args.self c.self.inside.opens.items (ap (λ r. r.kept) c.self.view_is)) in
    let room = c.requires in
    omega arith

pub returns : goal.returns
returns g c = c.give_all.ensures ∙ ap (λ ps. c.args.gone.now.items ++ ps) (all_seen c.args.self c.self.inside.opens.items (ap (λ r. r.kept) c.self.view_is))
