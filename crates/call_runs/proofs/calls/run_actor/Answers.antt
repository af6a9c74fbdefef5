use Rattle.std.proofs.Common.{rules, ◌≡◌, length}
use Rattle.call_runs.proofs.RunsLaws.{none_run_from, has_run_from, all_run_from, all_made_from}
use Rattle.call_runs.proofs.calls.run_actor.Goals as goal

pub loop-call-init : goal.loop-call-init
loop-call-init g c = none_run_from _ _ _ _ _ _ (search rules) (search rules)

pub loop-call-preserved : goal.loop-call-preserved
loop-call-preserved g c =
    has_run_from _ _ _ _ _ _ _ _ _ _ c.in-Some.call c.in_ok-ended.ended (search rules) (search rules) c.loop-call.invariant c.in_ok-ended.ensures

pub returns-clause-ran : goal.returns-clause-ran
returns-clause-ran g c =
    let none : length c.loop-call.call-iterator.rest.items ≡ 0 = search rules in
    all_run_from _ _ _ _ _ _ _ none c.loop-call.invariant

pub returns-clause-made : goal.returns-clause-made
returns-clause-made g c =
    let none : length c.loop-call.call-iterator.rest.items ≡ 0 = search rules in
    all_made_from _ _ _ _ _ _ _ none c.loop-call.invariant
