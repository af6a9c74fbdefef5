use Rattle.std.proofs.Common.{refl}
use Rattle.script_texts.proofs.laws.sizes_stay.Goals as goal

pub returns : goal.returns
returns g = λ version stack. refl
