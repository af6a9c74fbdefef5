use Rattle.std.proofs.Common.{◌++◌, List, [], ◌∷◌, subst}
use Rattle.lw_actors.specs.Runs.{Ran}
use Rattle.lw_script.specs.declared.parts.Call.{Call}
use Rattle.lw_script.specs.declared.parts.Call.TheVariants.{Stop}
use Rattle.lw_serial.proofs.RoundsLaws.{ran_then}
use Rattle.lw_serial.proofs.rounds.all_calls.Goals as goal

pub returns : goal.returns
returns g c =
    let made = ran_then _ _ _ _ _ _ _ _ c.in_ok-done.ensures c.in_ok-end_call.ensures in
    subst
    (λ (calls : List Call). Ran g.A.Api.gives 0 (g.A.Api.state c.args.api.now) (calls ++ Stop ∷ []) c.end_call.new.done.items (g.A.Api.state c.end_call.new.api))
    c.as_slice.ensures made
