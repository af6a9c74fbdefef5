use Rattle.std.proofs.Common.{◌≡◌, ◌++◌, drop, map}
use Rattle.lw_scripts.specs.declared.part.Part.TheVariants.{Fault}
use Rattle.script_texts.specs.Texts.{parts_text}
use Rattle.script_texts.proofs.text.put_faults.Given as goal

abbrev pub invariant-loop-fault : goal.invariant-loop-fault
invariant-loop-fault l = l.out.items ++ parts_text (map Fault (drop l.fault-index l.faults)) ≡ l.initial.out.items ++ parts_text (map Fault l.faults)
