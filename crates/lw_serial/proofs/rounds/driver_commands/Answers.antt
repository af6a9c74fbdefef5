use Rattle.std.proofs.Common.{List, subst, sym}
use Rattle.std.proofs.lemmas.List.{take_more}
use Rattle.lw_actors.specs.Runs.{Ran}
use Rattle.lw_script.specs.declared.parts.Call.{Call}
use Rattle.lw_script.specs.declared.parts.Call.TheVariants.{FeedAll}
use Rattle.lw_serial.proofs.RoundsLaws.{ran_then}
use Rattle.lw_serial.proofs.rounds.driver_commands.Goals as goal

pub loop-command-preserved : goal.loop-command-preserved
loop-command-preserved g c =
    let made = ran_then _ _ _ _ _ _ _ _ c.loop-command.invariant c.in_ok-end_call.ensures in
    subst
    (λ (calls : List Call). Ran g.A.Api.gives 0 (g.A.Api.state c.args.api.now) calls c.end_call.new.done.items (g.A.Api.state c.end_call.new.api))
    (sym (take_more c.args.commands.now c.loop-command.command-index FeedAll c.loop-command-test.true)) made
