use Rattle.std.proofs.Common.{take}
use Rattle.lw_actors.specs.Runs.{Ran}
use Rattle.lw_serial.proofs.rounds.driver_commands.Given as goal

abbrev pub invariant-loop-command : goal.invariant-loop-command
invariant-loop-command g l =
    Ran g.A.Api.gives 0 (g.A.Api.state l.fn.api) (take l.command-index l.commands) l.done.items (g.A.Api.state l.api)
