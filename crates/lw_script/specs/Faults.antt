-- What a fault of the reader says.
use Rattle.std.specs.Prelude.{ℕ, List, ⊤}
use Rattle.lw_script.specs.declared.reader.ScriptFault.{ScriptFault}
use Rattle.lw_script.specs.declared.reader.ScriptFault.TheVariants.{Line, NoMemory}
use Rattle.lw_script.specs.Grammar.{FailsAt}

-- the line is where the octets stop being a script; memory may run out on any
abbrev pub IsFault : List ℕ → ScriptFault → Type 0
IsFault octets (Line n) = FailsAt octets n
IsFault octets NoMemory = ⊤
