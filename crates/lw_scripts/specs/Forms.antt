-- Which kinds of scripts a reader takes.
use Rattle.std.specs.Prelude.{Bool, true, false}
use Rattle.script_words.specs.declared.version.Version.{Version}
use Rattle.script_words.specs.declared.version.Version.TheVariants.{One as FirstVersion, Two as SecondVersion}
use Rattle.lw_scripts.specs.declared.wanted.Wanted.{Wanted}
use Rattle.lw_scripts.specs.declared.wanted.Wanted.TheVariants.{One, Two, First}

-- scripts of this version
abbrev pub takes_version : Wanted → Version → Bool
takes_version wanted FirstVersion = true
takes_version First SecondVersion = false
takes_version other SecondVersion = true

-- scripts of one stack
abbrev pub takes_single : Wanted → Bool
takes_single Two = false
takes_single other = true

-- pair scripts
abbrev pub takes_pair : Wanted → Bool
takes_pair One = false
takes_pair other = true
