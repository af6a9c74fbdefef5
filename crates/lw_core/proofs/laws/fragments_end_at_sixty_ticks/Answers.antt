use Rattle.lw_layers.proofs.TickLaws.{fragments_end}
use Rattle.lw_core.proofs.laws.fragments_end_at_sixty_ticks.Goals as goal

pub returns : goal.returns
returns g = fragments_end
