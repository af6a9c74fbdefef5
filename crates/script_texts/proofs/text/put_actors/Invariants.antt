use Rattle.std.proofs.Common.{◌≡◌, ◌++◌, drop}
use Rattle.script_texts.specs.Texts.{actors_text}
use Rattle.script_texts.proofs.text.put_actors.Given as goal

abbrev pub invariant-loop-actor : goal.invariant-loop-actor
invariant-loop-actor l = l.out.items ++ actors_text (drop l.actor-index l.actors) ≡ l.initial.out.items ++ actors_text l.actors
