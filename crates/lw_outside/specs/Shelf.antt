-- Files in memory.
use Rattle.std.specs.Prelude.{◌≡◌, ◌++◌, IsTrue, ℕ, List, [], drop, Option, option_map, unwrap_or, position, slice_get, slice_index, string_bytes, bytes_eq}
use Rattle.lw_outside.specs.declared.named_file.NamedFile.{NamedFile}
use Rattle.lw_outside.specs.Files.{FileSeen}

-- the place of the first file that has this name
abbrev pub place_of : List NamedFile → List ℕ → Option ℕ
place_of files name = position (λ (f : NamedFile). bytes_eq (string_bytes f.name) name) files

-- the octets of the file at a place, none where no file stands there
abbrev pub octets_at : List NamedFile → ℕ → List ℕ
octets_at files n = unwrap_or (option_map (λ (f : NamedFile). f.octets) (slice_get files n)) []

-- what the first file of this name holds
abbrev pub held_by : List NamedFile → List ℕ → Option (List ℕ)
held_by files name = option_map (octets_at files) (place_of files name)

-- what the first file of this name holds, nothing where there is none
abbrev pub octets_of : List NamedFile → List ℕ → List ℕ
octets_of files name = unwrap_or (held_by files name) []

-- what the file at a place has left behind the octets that were read
abbrev pub left_at : List NamedFile → List ℕ → ℕ → List ℕ
left_at files read n = drop (slice_index read n) (octets_at files n)

-- of a file's octets this is left behind what was read, and nothing where its end was met
abbrev pub Leaves : List ℕ → List ℕ → FileSeen → Type 0
Leaves octets rest f = (octets ≡ f.gave ++ rest) × (IsTrue f.ended → rest ≡ [])
