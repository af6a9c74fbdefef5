-- The variables of a script's threads, by their numbers.
use Rattle.std.specs.Prelude.{ℕ, List, Option, Some, None, option_and_then, replicate, slice_get, slice_set}
use Rattle.lw_conn.specs.declared.variables.Variable.{Variable}

-- all variables, by their numbers from 0; one that wasn't set is none
abbrev pub Variables : Type 0
Variables = List (Option Variable)

-- so many that weren't set
abbrev pub all_unset : ℕ → Variables
all_unset n = replicate n None

-- what a variable names, where it was set
abbrev pub variable : Variables → ℕ → Option Variable
variable vs var = option_and_then (λ v. v) (slice_get vs var)

-- one that was set
abbrev pub put : Variables → ℕ → Variable → Variables
put vs var v = slice_set vs var (Some v)
