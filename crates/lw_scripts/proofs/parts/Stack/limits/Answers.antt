use Rattle.lw_scripts.proofs.LimitLaws.{few_descriptors}
use Rattle.lw_scripts.proofs.parts.Stack.limits.Goals as goal

pub ends_for-requires : goal.ends_for-requires
ends_for-requires c =
    few_descriptors c.args.version c.args.self.now.profile c.args.self.now.sizes.descriptors c.profile_limits-limits.result c.unwrap_or-descriptors.result
    c.requires.descriptors c.profile_limits-limits.ensures c.unwrap_or-descriptors.ensures
