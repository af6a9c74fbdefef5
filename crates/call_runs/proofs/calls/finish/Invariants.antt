use Rattle.call_runs.specs.Goes.{Goes}
use Rattle.call_runs.proofs.calls.finish.Given as goal

abbrev pub invariant-loop : goal.invariant-loop
invariant-loop g l =
    Goes g.A.Api.gives l.actor (g.A.Api.state l.fn.api) l.initial.at l.fn.seen.items l.seen.items (g.A.Api.state l.api) l.at
