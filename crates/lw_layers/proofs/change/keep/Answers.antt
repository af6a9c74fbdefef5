use Rattle.lw_layers.proofs.KeepLaws.{first_of, kept_family}
use Rattle.lw_reass.specs.Table.{all_kept}
use Rattle.lw_layers.proofs.change.keep.Goals as goal

pub cut_to-requires-clause-of_home : goal.cut_to-requires-clause-of_home
cut_to-requires-clause-of_home g c = first_of g.P.Payload.seen (g.P.Payload.home_seen c.args.home.now) c.args.frame (all_kept c.args.fragments.now) c.requires.owned

pub add-requires-clause-family : goal.add-requires-clause-family
add-requires-clause-family g c =
    kept_family g.P.Payload.seen (g.P.Payload.home_seen c.args.home.now) c.args.frame c.cut_to.new.payload (all_kept c.args.fragments.now) c.requires.owned c.cut_to.ensures.family
