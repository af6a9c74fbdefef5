-- Which octets are a script, and at which line others stop being one.
use Rattle.std.specs.Prelude.{◌≡◌, ℕ, ◌+◌, ◌-◌, ◌<◌, ◌≤◌, ⊤, Bool, true, not, ◌==◌, List, [], ◌∷◌, ◌++◌, length, take, filter, All, IsTrue, slice_index}
use Rattle.std.specs.List.{slice_split}
use Rattle.std.specs.Str.{IsAscii}
use Rattle.lw_scripts.specs.declared.parts.Body.{Body}
use Rattle.lw_scripts.specs.declared.parts.Body.TheVariants.{One, Two}
use Rattle.lw_scripts.specs.declared.parts.Script.{Script}
use Rattle.lw_scripts.specs.declared.reader.ScriptFault.{ScriptFault}
use Rattle.lw_scripts.specs.declared.reader.ScriptFault.TheVariants.{Line, NoMemory}
use Rattle.lw_scripts.specs.declared.wanted.Wanted.{Wanted}
use Rattle.lw_scripts.specs.Forms.{takes_pair, takes_single, takes_version}
use Rattle.lw_scripts.specs.Parts.{IsBody}
use Rattle.lw_scripts.specs.Whole.{script_lines}

-- octets as lines, each of which ends at a line feed, and what stands behind the last line feed
abbrev pub HasLines : List ℕ → List (List ℕ) → List ℕ → Type 0
HasLines octets lines behind = slice_split (λ c. c == 10) octets ≡ lines ++ behind ∷ []

-- a line begins with '#'
abbrev pub is_comment : List ℕ → Bool
is_comment line = slice_index line 0 == 35

-- the lines that say something: all but the comments
abbrev pub said : List (List ℕ) → List (List ℕ)
said lines = filter (λ line. not (is_comment line)) lines

-- each comment is ASCII
abbrev pub HasAsciiComments : List (List ℕ) → Type 0
HasAsciiComments lines = All (λ line. IsTrue (is_comment line) → IsAscii line) lines

-- scripts with this body are wanted
abbrev pub takes_body : Wanted → Body → Bool
takes_body wanted (One one) = takes_single wanted
takes_body wanted (Two two) = takes_pair wanted

-- the lines are this script, of a kind that is wanted
pub record IsScript (wanted : Wanted) (lines : List (List ℕ)) (s : Script) : Type 0 where
  pub comments : HasAsciiComments lines
  pub spelled : said lines ≡ script_lines s
  pub body : IsBody s.version s.body
  pub version : takes_version wanted s.version ≡ true
  pub kind : takes_body wanted s.body ≡ true

-- the octets are this script, each of its lines ended by a line feed
pub record SpellsScript (wanted : Wanted) (octets : List ℕ) (s : Script) : Type 0 where
  pub lines : List (List ℕ)
  pub ended : HasLines octets lines []
  pub script : IsScript wanted lines s

-- more lines can follow these so that all are a script
abbrev pub BeginsScript : Wanted → List (List ℕ) → Type 0
BeginsScript wanted lines = (more : List (List ℕ)) × (s : Script) × IsScript wanted (lines ++ more) s

-- line n is the first with which the lines so far begin no script. Where all lines begin one and are none, or
-- octets stand behind the last line feed, n is one more than the number of lines
pub record FailsAt (wanted : Wanted) (octets : List ℕ) (n : ℕ) : Type 0 where
  pub lines : List (List ℕ)
  pub behind : List ℕ
  pub ended : HasLines octets lines behind
  pub counted : (0 < n) × (n ≤ length lines + 1)
  pub before : BeginsScript wanted (take (n - 1) lines)
  pub stops : n ≤ length lines → BeginsScript wanted (take n lines) → ⊥
  pub early : length lines < n → behind ≡ [] → (s : Script) → IsScript wanted lines s → ⊥

-- the line is where the octets stop being a script; memory may run out on any
abbrev pub IsFault : Wanted → List ℕ → ScriptFault → Type 0
IsFault wanted octets (Line n) = FailsAt wanted octets n
IsFault wanted octets NoMemory = ⊤
