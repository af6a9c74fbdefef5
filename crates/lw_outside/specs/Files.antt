-- What was seen of files: which were looked for, and what their reads gave.
use Rattle.std.specs.Prelude.{◌≡◌, ◌==◌, ◌++◌, ◌||◌, ◌&&◌, ℕ, Bool, true, false, if◌then◌else◌, nat_lt, length, take, List, [], ◌∷◌, Option, None, Some, IfSome, IsSome, IsTrue, Result, Ok, Err, All}
use Rattle.std.specs.Io.{ReadsAtMost, StartsWith}
use Rattle.std.specs.Coded.{Coded, code_by, coded×, coded_ℕ, coded_bool, coded_list, coded_option}
use mathlib.Core.Path.{refl}
use Rattle.lw_outside.specs.declared.files.Failed.{Failed}
use Rattle.lw_outside.specs.Faults.{HasCause}

-- a file that was looked for, and what its reads gave since
pub record FileSeen : Type 0 where
  pub name : List ℕ
  -- the number that it got; none where it wasn't found
  pub number : Option ℕ
  -- the octets that its reads gave, in order
  pub gave : List ℕ
  -- a read of a buffer with room gave none: the end of the file
  pub ended : Bool
  -- a call failed, of those that looked for it and read it
  pub failed : Bool

-- what was seen of files
pub record FilesSeen : Type 0 where
  -- what a name holds, where that is told
  pub holds : List ℕ → Option (List ℕ)
  -- the files that were looked for, the last one first
  pub sought : List FileSeen
  -- how many calls failed; the count stops at its last value
  pub faults : ℕ

-- whether a file has this number
abbrev pub is_number : ℕ → Option ℕ → Bool
is_number n None = false
is_number n (Some m) = m == n

-- the file that has this number: the last one that got it
abbrev pub file_of : ℕ → List FileSeen → Option FileSeen
file_of n [] = None
file_of n (f ∷ fs) = if is_number n f.number then Some f else file_of n fs

-- a number that `find` gave
abbrev pub IsGiven : ℕ → List FileSeen → Type 0
IsGiven n fs = IsSome (file_of n fs)

-- the file that has this number is seen otherwise
abbrev pub with_file : ℕ → (FileSeen → FileSeen) → List FileSeen → List FileSeen
with_file n g [] = []
with_file n g (f ∷ fs) = if is_number n f.number then g f ∷ fs else f ∷ with_file n g fs

-- a file that was looked for just now
abbrev pub looked_for : List ℕ → Result ℕ Failed → FileSeen
looked_for name (Ok n) = record { name = name; number = Some n; gave = []; ended = false; failed = false }
looked_for name (Err e) = record { name = name; number = None; gave = []; ended = false; failed = true }

-- a file behind one more read
abbrev pub read_more : Result ℕ Failed → List ℕ → FileSeen → FileSeen
read_more (Ok n) buf f = record f { gave = f.gave ++ take n buf; ended = f.ended || (n == 0 && nat_lt 0 (length buf)) }
read_more (Err e) buf f = record f { failed = true }

-- each name holds what it held
abbrev pub SameNames : (List ℕ → Option (List ℕ)) → (List ℕ → Option (List ℕ)) → Type 0
SameNames before now = (name : List ℕ) → now name ≡ before name

-- what `find` does: one file more was looked for, and no read of it was made
pub record Finds (before now : FilesSeen) (name : List ℕ) (result : Result ℕ Failed) : Type 0 where
  pub sought : now.sought ≡ looked_for name result ∷ before.sought
  pub names : SameNames before.holds now.holds
  pub cause : HasCause before.faults now.faults result

-- what `read` does: what it gave stands behind what the reads of that file gave before
pub record Reads (before now : FilesSeen) (number : ℕ) (buf : List ℕ) (result : Result ℕ Failed) : Type 0 where
  pub bound : ReadsAtMost result buf
  pub sought : now.sought ≡ with_file number (read_more result buf) before.sought
  pub names : SameNames before.holds now.holds
  pub cause : HasCause before.faults now.faults result

-- what was read of a file is a front of these octets, and all of them where its end was met
abbrev pub IsReadOf : List ℕ → FileSeen → Type 0
IsReadOf octets f = StartsWith octets f.gave × (IsTrue f.ended → f.gave ≡ octets)

-- where a name's octets are told, reads gave them from the first on
abbrev pub Tells : FilesSeen → Type 0
Tells seen = All (λ f. IfSome (seen.holds f.name) (λ octets. IsReadOf octets f)) seen.sought

-- how the logic stores what was seen of a file
abbrev FileParts : Type 0
FileParts = List ℕ × (Option ℕ × (List ℕ × (Bool × Bool)))

abbrev to_parts : FileSeen → FileParts
to_parts f = (f.name, (f.number, (f.gave, (f.ended, f.failed))))

abbrev from_parts : FileParts → FileSeen
from_parts p = record { name = p.0; number = p.1.0; gave = p.1.1.0; ended = p.1.1.1.0; failed = p.1.1.1.1 }

abbrev pub file_code : Coded FileSeen
file_code =
    code_by FileParts (coded× (coded_list coded_ℕ) (coded× (coded_option coded_ℕ) (coded× (coded_list coded_ℕ) (coded× coded_bool coded_bool)))) to_parts from_parts (λ _. refl)
