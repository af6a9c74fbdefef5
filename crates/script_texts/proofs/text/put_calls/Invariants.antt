use Rattle.std.proofs.Common.{◌≡◌, ◌++◌, drop}
use Rattle.lw_scripts.specs.Whole.{call_parts}
use Rattle.script_texts.specs.Texts.{parts_text}
use Rattle.script_texts.proofs.text.put_calls.Given as goal

abbrev pub invariant-loop-call : goal.invariant-loop-call
invariant-loop-call l = l.out.items ++ parts_text (call_parts (drop l.call-index l.calls)) ≡ l.initial.out.items ++ parts_text (call_parts l.calls)
