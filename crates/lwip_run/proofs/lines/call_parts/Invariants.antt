use Rattle.std.proofs.Common.{◌≡◌, ◌++◌}
use Rattle.lwip_run.specs.Parts.{parts_of}
use Rattle.lwip_run.proofs.lines.call_parts.Given as goal

abbrev pub invariant-loop-ended : goal.invariant-loop-ended
invariant-loop-ended l =
    l.parts.items ++ parts_of l.rest l.ended-iterator.rest.items ≡ parts_of l.fn.calls l.fn.done.items
