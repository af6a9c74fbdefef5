use Rattle.std.specs.Prelude.{◌≡◌, ◌++◌, List}
use Rattle.lw_transcript.specs.declared.lines.Evidence.{Evidence}

-- a call added evidence to what was seen before it, and this holds of what it added
pub record Goes (holds : List Evidence → Type 0) (before now : List Evidence) : Type 0 where
  pub added : List Evidence
  pub behind : now ≡ before ++ added
  pub given : holds added
