-- What is seen of files that are read whole.
use Rattle.std.specs.Prelude.{ℕ, ◌≡◌, ◌+◌, ◌≤◌, ◌++◌, List, [], ◌∷◌, length, All, IfSome, IsTrue}
use Rattle.lw_outside.specs.Faults.{Rose}
use Rattle.lw_outside.specs.Files.{FileSeen, FilesSeen, IsReadOf, SameNames}
use Rattle.lwip_run.specs.declared.inputs.InputFault.{InputFault}
use Rattle.lwip_run.specs.declared.inputs.InputFault.TheVariants.{Read, TooLong, NoMemory}

-- these files were looked for meanwhile, the last one first, and no other; what was read of each is a front of what
-- its name holds, where that is told
pub record Sees (before now : FilesSeen) (files : List FileSeen) : Type 0 where
  pub sought : now.sought ≡ files ++ before.sought
  pub told : All (λ f. IfSome (before.holds f.name) (λ octets. IsReadOf octets f)) files
  pub names : SameNames before.holds now.holds
  pub later : before.faults ≤ now.faults

-- a file that was read from its first octet to its end, and has as many octets as the limit at most
pub record IsRead (limit : ℕ) (file : FileSeen) : Type 0 where
  pub ended : IsTrue file.ended
  pub few : length file.gave ≤ limit

-- a file that gave one octet more than the limit
abbrev pub IsLonger : ℕ → FileSeen → Type 0
IsLonger limit file = length file.gave ≡ limit + 1

-- one file was looked for, by this name, and this came of it
abbrev pub SeesOne : List ℕ → FilesSeen → FilesSeen → (FileSeen → Type 0) → Type 0
SeesOne name before now P = (file : FileSeen) × Sees before now (file ∷ []) × (file.name ≡ name) × P file

-- a call for a file failed
abbrev pub IsLost : FilesSeen → FilesSeen → FileSeen → Type 0
IsLost before now file = IsTrue file.failed × Rose before.faults now.faults

-- why a file wasn't read whole
abbrev pub Stopped : ℕ → FilesSeen → FilesSeen → InputFault → FileSeen → Type 0
Stopped limit before now Read file = IsLost before now file
Stopped limit before now TooLong file = IsLonger limit file
Stopped limit before now NoMemory file = Unit {0}
