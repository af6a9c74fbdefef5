use Rattle.std.proofs.Common.{refl}
use Rattle.lw_runs.proofs.Stands.{same-refl}
use Rattle.lw_reass.specs.Table.{all_kept}
use Rattle.lw_layers.proofs.layers.Layers.room.Goals as goal

pub returns-in-Learn-clause-same : goal.returns-in-Learn-clause-same
returns-in-Learn-clause-same g c = record { state = refl; waiting = refl; kept = same-refl g.P.Payload.seen (all_kept c.args.self.now.fragments) }

pub returns-in-Learn-2-clause-same : goal.returns-in-Learn-2-clause-same
returns-in-Learn-2-clause-same g c = record { state = refl; waiting = refl; kept = same-refl g.P.Payload.seen (all_kept c.args.self.now.fragments) }
