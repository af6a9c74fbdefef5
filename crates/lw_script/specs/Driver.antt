-- What the driver of a script does.
use Rattle.std.specs.Prelude.{List, [], ◌∷◌, ◌++◌}
use Rattle.lw_script.specs.declared.parts.Call.{Call}
use Rattle.lw_script.specs.declared.parts.Call.TheVariants.{Stop}
use Rattle.lw_script.specs.declared.parts.Script.{Script}

-- the calls of the driver: its commands, then one stop
abbrev pub driver_calls : Script → List Call
driver_calls script = script.commands ++ Stop ∷ []
