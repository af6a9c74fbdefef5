-- What files in memory gave, where a name that isn't there is told by none.
use Rattle.std.specs.Prelude.{ℕ, List, [], Option, None, Some, IfSome, All, slice_index_or, unwrap_or}
use Rattle.lw_outside.specs.declared.named_file.NamedFile.{NamedFile}
use Rattle.lw_outside.specs.Files.{FileSeen, IsReadOf}
use Rattle.lw_outside.specs.Shelf.{held_by, octets_of}

told_where : (held : Option (List ℕ)) (f : FileSeen) → IsReadOf (unwrap_or held []) f → IfSome held (λ octets. IsReadOf octets f)
told_where None f is = tt
told_where (Some octets) f is = is

-- what stands of each name's octets stands where a name's octets are told
pub told_by : (files : List NamedFile) (sought : List FileSeen) → All (λ f. IsReadOf (octets_of files f.name) f) sought → All (λ f. IfSome (held_by files f.name) (λ octets. IsReadOf octets f)) sought
told_by files sought all = λ k d below. told_where (held_by files (slice_index_or sought k d).name) (slice_index_or sought k d) (all k d below)
