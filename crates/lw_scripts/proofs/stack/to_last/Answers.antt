use Rattle.std.proofs.Common.{◌∙◌, sym}
use Rattle.lw_scripts.proofs.StackLaws.{pushed_last}
use Rattle.lw_scripts.proofs.stack.to_last.Goals as goal

pub returns : goal.returns
returns c =
    pushed_last c.args.actors c.pop.new.self.items c.push.new.self.items c.in-Some.last c.in_ok-with_call.field-0 c.args.call c.from_vec.result
    (sym c.into_vec-actors.ensures ∙ c.in-Some.ensures.items) c.in_ok-with_call.ensures c.in_ok-push.ensures.items c.from_vec.ensures
