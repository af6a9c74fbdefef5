-- What each line of a script says that is no comment, and how it is spelled.
use Rattle.std.specs.Prelude.{◌≡◌, ℕ, ⊤, List, codes}
use Rattle.call_types.specs.declared.call.Side.{Side as CallSide}
use Rattle.script_words.specs.Calls.{IsCall, IsCount, IsWithin}
use Rattle.script_words.specs.Spelling.{call_spelling}
use Rattle.script_words.specs.Values.{IsNet, net_words}
use Rattle.script_words.specs.Words.{spaced}
use Rattle.script_words.specs.declared.version.Version.{Version}
use Rattle.script_words.specs.declared.version.Version.TheVariants.{Two as SecondVersion}
use Rattle.lw_scripts.specs.declared.part.Part.{Part}
use Rattle.lw_scripts.specs.declared.part.Part.TheVariants.{Head, Pair, Side, Net, Limits, Size, Actor, Call, Driver, Wire, Fault}
use Rattle.lw_scripts.specs.declared.parts.Fault.{Fault as WireFault}
use Rattle.lw_scripts.specs.declared.parts.Profile.{Profile}
use Rattle.lw_scripts.specs.declared.parts.SizeName.{SizeName}
use Rattle.lw_scripts.specs.declared.parts.Way.{Way}
use Rattle.lw_scripts.specs.Parts.{IsName, least_of, most_of}
use Rattle.lw_scripts.specs.Spelling.{actor_words, fault_words, head_spelling, limits_spelling, side_spelling, size_words}

-- the line of a part
abbrev pub part_spelling : Part → List ℕ
part_spelling (Head version) = head_spelling version
part_spelling Pair = codes "pair"
part_spelling (Side side) = side_spelling side
part_spelling (Net net) = spaced (net_words net)
part_spelling (Limits profile) = limits_spelling profile
part_spelling (Size name size) = spaced (size_words name size)
part_spelling (Actor name way) = spaced (actor_words name way)
part_spelling (Call call) = call_spelling call
part_spelling Driver = codes "driver"
part_spelling Wire = codes "wire"
part_spelling (Fault f) = spaced (fault_words f)

-- a part of a script of this version, wherever it stands
abbrev pub IsPart : Version → Part → Type 0
IsPart version (Net net) = IsNet net
IsPart version (Size name size) = (version ≡ SecondVersion) × IsWithin (least_of name) (most_of name) size
IsPart version (Actor name way) = IsName name
IsPart version (Call call) = IsCall version call
IsPart version (Fault f) = IsCount f.frame
IsPart version other = ⊤

-- the line is none of these that are each one text
pub record LacksFixed (line : List ℕ) : Type 0 where
  pub pair : line ≡ part_spelling Pair → ⊥
  pub driver : line ≡ part_spelling Driver → ⊥
  pub wire : line ≡ part_spelling Wire → ⊥
  pub head : (version : Version) → line ≡ part_spelling (Head version) → ⊥
  pub limits : (profile : Profile) → line ≡ part_spelling (Limits profile) → ⊥
  pub side : (side : CallSide) → line ≡ part_spelling (Side side) → ⊥

-- the words are none of a size, an actor or a frame on the wire
pub record LacksNamed (version : Version) (words : List (List ℕ)) : Type 0 where
  pub size : (name : SizeName) (size : ℕ) → IsPart version (Size name size) → words ≡ size_words name size → ⊥
  pub actor : (name : List ℕ) (way : Way) → IsName name → words ≡ actor_words name way → ⊥
  pub fault : (f : WireFault) → IsCount f.frame → words ≡ fault_words f → ⊥

-- the words are those of a size, an actor or a frame on the wire
abbrev pub NamedAs : Version → List (List ℕ) → Part → Type 0
NamedAs version words (Size name size) = IsPart version (Size name size) × (words ≡ size_words name size)
NamedAs version words (Actor name way) = IsName name × (words ≡ actor_words name way)
NamedAs version words (Fault f) = IsCount f.frame × (words ≡ fault_words f)
NamedAs version words other = ⊥

-- a part that is no call
abbrev pub IsOther : Version → Part → Type 0
IsOther version (Call call) = ⊥
IsOther version other = IsPart version other
