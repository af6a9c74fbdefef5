-- The text of a whole script.
use Rattle.std.specs.Prelude.{ℕ, List, [], ◌∷◌, ◌++◌}
use Rattle.std.specs.List.{flat_map}
use Rattle.lw_scripts.specs.declared.part.Part.{Part}
use Rattle.lw_scripts.specs.declared.parts.ActorScript.{ActorScript}
use Rattle.lw_scripts.specs.declared.parts.Script.{Script}
use Rattle.lw_scripts.specs.Line.{part_spelling}
use Rattle.lw_scripts.specs.Whole.{actor_parts, script_parts}

-- a part as its line, ended by one line feed
abbrev pub part_text : Part → List ℕ
part_text part = part_spelling part ++ 10 ∷ []

-- parts as their lines
abbrev pub parts_text : List Part → List ℕ
parts_text parts = flat_map part_text parts

-- actors as their lines
abbrev pub actors_text : List ActorScript → List ℕ
actors_text actors = flat_map (λ actor. parts_text (actor_parts actor)) actors

-- the text of a script
abbrev pub script_text : Script → List ℕ
script_text s = parts_text (script_parts s)
