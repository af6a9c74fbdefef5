-- What a reader knows between two lines of a script.
use Rattle.std.specs.Prelude.{◌≡◌, ℕ, ◌==◌, List, [], ◌∷◌, ◌++◌, ⊤, Option, Some, None}
use Rattle.std.specs.List.{slice_split}
use Rattle.lw_script.specs.declared.parts.Script.{Script}
use Rattle.lw_script.specs.declared.reader.Expected.{Expected}
use Rattle.lw_script.specs.declared.reader.Expected.TheVariants.{Head, Addresses, Sizes, Nothing}
use Rattle.lw_script.specs.Grammar.{BeginsScript, HasAsciiComments, said, script_lines}
use Rattle.lw_script.specs.Spelling.{IsNet, head_spelling, net_spelling, limits_spelling}

-- the pieces of octets between those that are c
abbrev pub pieces : ℕ → List ℕ → List (List ℕ)
pieces c octets = slice_split (λ b. b == c) octets

-- the lines before the one that is expected, comments taken away
abbrev pub told : Expected → List (List ℕ)
told Head = []
told Addresses = head_spelling ∷ []
told (Sizes net) = head_spelling ∷ net_spelling net ∷ []
told (Nothing net profile) = head_spelling ∷ net_spelling net ∷ limits_spelling profile ∷ []

-- what was told of the addresses holds of them
abbrev pub HasNet : Expected → Type 0
HasNet Head = ⊤
HasNet Addresses = ⊤
HasNet (Sizes net) = IsNet net
HasNet (Nothing net profile) = IsNet net

-- a line that stands behind those told in some script
abbrev pub CanFollow : Expected → List ℕ → Type 0
CanFollow expected line =
    (s : Script) × (rest : List (List ℕ)) × IsNet s.net × (told expected ++ line ∷ rest ≡ script_lines s)

-- with this line told, another is expected
pub record Follows (expected : Expected) (line : List ℕ) (next : Expected) : Type 0 where
  pub told_more : told next ≡ told expected ++ line ∷ []
  pub net : HasNet expected → HasNet next

-- the lines so far
pub record Knows (expected : Expected) (lines : List (List ℕ)) : Type 0 where
  pub comments : HasAsciiComments lines
  pub spelled : said lines ≡ told expected
  pub net : HasNet expected

-- the line goes on with a script, to what is expected next, or it goes on with none
abbrev pub GoesOn : Expected → List ℕ → Option Expected → Type 0
GoesOn expected line (Some next) =
    (lines : List (List ℕ)) → Knows expected lines → Knows next (lines ++ line ∷ [])
GoesOn expected line None =
    (lines : List (List ℕ)) → Knows expected lines → BeginsScript (lines ++ line ∷ []) → ⊥
