-- How the lines of a script are spelled that aren't calls.
use Rattle.std.specs.Prelude.{ℕ, List, [], ◌∷◌, codes, decimal}
use Rattle.call_types.specs.declared.call.Side.{Side}
use Rattle.script_words.specs.Values.{side_word}
use Rattle.script_words.specs.Words.{spaced}
use Rattle.script_words.specs.declared.version.Version.{Version}
use Rattle.script_words.specs.declared.version.Version.TheVariants.{One as FirstVersion, Two as SecondVersion}
use Rattle.lw_scripts.specs.Limits.{profile_word}
use Rattle.lw_scripts.specs.declared.parts.Change.{Change}
use Rattle.lw_scripts.specs.declared.parts.Change.TheVariants.{Lose, Twice}
use Rattle.lw_scripts.specs.declared.parts.Fault.{Fault}
use Rattle.lw_scripts.specs.declared.parts.Profile.{Profile}
use Rattle.lw_scripts.specs.declared.parts.SizeName.{SizeName}
use Rattle.lw_scripts.specs.declared.parts.SizeName.TheVariants.{Ram, Pool, Rom, Reference, Mailbox, Tcpip, Descriptors, Window}
use Rattle.lw_scripts.specs.declared.parts.Way.{Way}
use Rattle.lw_scripts.specs.declared.parts.Way.TheVariants.{Direct, Message}

-- the head line
abbrev pub head_spelling : Version → List ℕ
head_spelling FirstVersion = codes "lwip 1"
head_spelling SecondVersion = codes "lwip 2"

-- the line of a stack's profile
abbrev pub limits_spelling : Profile → List ℕ
limits_spelling profile = spaced (codes "limits" ∷ profile_word profile ∷ [])

-- the word of a size
abbrev pub size_word : SizeName → List ℕ
size_word Ram = codes "ram"
size_word Pool = codes "pool"
size_word Rom = codes "rom"
size_word Reference = codes "ref"
size_word Mailbox = codes "box"
size_word Tcpip = codes "tcpip"
size_word Descriptors = codes "fds"
size_word Window = codes "window"

-- the words of the line of one size
abbrev pub size_words : SizeName → ℕ → List (List ℕ)
size_words name size = codes "size" ∷ size_word name ∷ decimal size ∷ []

-- how an actor's calls reach the core
abbrev pub way_word : Way → List ℕ
way_word Direct = codes "direct"
way_word Message = codes "message"

-- the words of the line that begins an actor
abbrev pub actor_words : List ℕ → Way → List (List ℕ)
actor_words name way = codes "actor" ∷ name ∷ way_word way ∷ []

-- the word for what becomes of a frame
abbrev pub change_word : Change → List ℕ
change_word Lose = codes "lose"
change_word Twice = codes "twice"

-- the words of the line of a frame that isn't passed on once
abbrev pub fault_words : Fault → List (List ℕ)
fault_words f = change_word f.change ∷ side_word f.side ∷ decimal f.frame ∷ []

-- the line that begins a side
abbrev pub side_spelling : Side → List ℕ
side_spelling side = spaced (codes "side" ∷ side_word side ∷ [])
