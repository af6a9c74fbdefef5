-- Which octets are a script, and at which line others stop being one.
use Rattle.std.specs.Prelude.{◌≡◌, ℕ, ◌+◌, ◌-◌, ◌<◌, ◌≤◌, Bool, not, ◌==◌, List, [], ◌∷◌, ◌++◌, length, take, filter, All, IsTrue, slice_index}
use Rattle.std.specs.List.{slice_split}
use Rattle.std.specs.Str.{IsAscii}
use Rattle.lw_script.specs.declared.parts.Call.TheVariants.{FeedAll}
use Rattle.lw_script.specs.declared.parts.Script.{Script}
use Rattle.lw_script.specs.Spelling.{IsNet, head_spelling, net_spelling, limits_spelling}

-- octets as lines, each of which ends at a line feed, and what stands behind the last line feed
abbrev pub HasLines : List ℕ → List (List ℕ) → List ℕ → Type 0
HasLines octets lines behind = slice_split (λ c. c == 10) octets ≡ lines ++ behind ∷ []

-- a line begins with '#'
abbrev pub is_comment : List ℕ → Bool
is_comment line = slice_index line 0 == 35

-- the lines that say something: all but the comments
abbrev pub said : List (List ℕ) → List (List ℕ)
said lines = filter (λ line. not (is_comment line)) lines

-- each comment is ASCII
abbrev pub HasAsciiComments : List (List ℕ) → Type 0
HasAsciiComments lines = All (λ line. IsTrue (is_comment line) → IsAscii line) lines

-- the lines of a script, comments taken away
abbrev pub script_lines : Script → List (List ℕ)
script_lines s = head_spelling ∷ net_spelling s.net ∷ limits_spelling s.profile ∷ []

-- the lines are this script; without a part for the driver it has the one command `feed all`
pub record IsScript (lines : List (List ℕ)) (s : Script) : Type 0 where
  pub comments : HasAsciiComments lines
  pub spelled : said lines ≡ script_lines s
  pub net : IsNet s.net
  pub commands : s.commands ≡ FeedAll ∷ []

-- the octets are this script, each of its lines ended by a line feed
pub record SpellsScript (octets : List ℕ) (s : Script) : Type 0 where
  pub lines : List (List ℕ)
  pub ended : HasLines octets lines []
  pub script : IsScript lines s

-- more lines can follow these so that all are a script
abbrev pub BeginsScript : List (List ℕ) → Type 0
BeginsScript lines = (more : List (List ℕ)) × (s : Script) × IsScript (lines ++ more) s

-- line n is the first with which the lines so far begin no script. Where all lines begin one and are none, or
-- octets stand behind the last line feed, n is one more than the number of lines
pub record FailsAt (octets : List ℕ) (n : ℕ) : Type 0 where
  pub lines : List (List ℕ)
  pub behind : List ℕ
  pub ended : HasLines octets lines behind
  pub counted : (0 < n) × (n ≤ length lines + 1)
  pub before : BeginsScript (take (n - 1) lines)
  pub stops : n ≤ length lines → BeginsScript (take n lines) → ⊥
  pub early : length lines < n → behind ≡ [] → (s : Script) → IsScript lines s → ⊥
