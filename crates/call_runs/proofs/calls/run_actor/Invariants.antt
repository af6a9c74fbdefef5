use Rattle.call_runs.specs.Runs.{HasRun}
use Rattle.call_runs.proofs.calls.run_actor.Given as goal

abbrev pub invariant-loop-call : goal.invariant-loop-call
invariant-loop-call g l =
    HasRun g.A.Api.gives l.actor (g.A.Api.state l.fn.api) l.fn.calls.items l.call-iterator.rest.items l.done.items (g.A.Api.state l.api)
