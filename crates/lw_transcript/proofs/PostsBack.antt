-- Posts are read back from their words, but for the octets that were posted.
use Rattle.std.proofs.Common.{◌≡◌, ℕ, Bool, true, false, List, [], ◌∷◌, ◌++◌, length, map, replicate, refl, ap, ◌∙◌, codes, if◌then◌else◌}
use Rattle.lw_events.specs.declared.entry.ItemText.{ItemText}
use Rattle.lw_events.specs.declared.entry.ItemText.TheVariants.{Segment, Datagram, Accepted}
use Rattle.lw_events.specs.declared.entry.Post.{Post}
use Rattle.lw_events.specs.declared.entry.Post.TheVariants.{Item, Full}
use Rattle.lw_transcript.specs.Fields.{Field, field_text}
use Rattle.lw_transcript.specs.CoreLines.{post_fields}
use Rattle.lw_transcript.specs.Laws.{AreHeld, bare_post}
use Rattle.lw_transcript.proofs.FieldsBack.{Sort, AWord, ANumber, AnAddress, are_plain, sort_of}
use Rattle.lw_transcript.proofs.Tables.{Row, ip_at, number_at, port_at, read_back, read_by, row_of, same_text, text_at, word_in}
use Rattle.lw_transcript.proofs.EventsBack.{row}

abbrev zeros : ℕ → List ℕ
zeros n = replicate n 0

-- the sorts of a post's fields, by the word of its item
abbrev post_sorts : List (List ℕ) → List Sort
post_sorts words =
    if same_text (word_in 3 words) (codes "datagram") then AWord ∷ ANumber ∷ ANumber ∷ AWord ∷ AnAddress ∷ ANumber ∷ ANumber ∷ []
    else AWord ∷ ANumber ∷ ANumber ∷ AWord ∷ ANumber ∷ []

abbrev item_in : List ℕ → List Field → ItemText
item_in word fs =
    if same_text word (codes "segment") then Segment (zeros (number_at 4 fs)) else
    if same_text word (codes "datagram") then Datagram (ip_at 4 fs) (port_at 5 fs) (zeros (number_at 6 fs)) else
    Accepted (number_at 4 fs)

abbrev full_row : Row Post
full_row = row (codes "full") (AWord ∷ ANumber ∷ []) (λ fs. Full (number_at 1 fs))

abbrev post_rows : List (Row Post)
post_rows = record { word = codes "post"; sorts = post_sorts; value = λ fs. Item (number_at 1 fs) (number_at 2 fs) (item_in (text_at 3 fs) fs) } ∷ []

-- the post of these words
abbrev pub post_in : List (List ℕ) → Post
post_in words = read_by full_row post_rows words

pub post_plain : (x : Post) → are_plain (post_fields x) ≡ true
post_plain (Item conn ticket (Segment octets)) = refl
post_plain (Item conn ticket (Datagram ip port octets)) = refl
post_plain (Item conn ticket (Accepted n)) = refl
post_plain (Full conn) = refl

-- a post
pub post_back : (x : Post) (r : List (List ℕ)) → AreHeld (post_fields x) → post_in (map field_text (post_fields x) ++ r) ≡ bare_post x
post_back (Item conn ticket (Segment octets)) r h = read_back full_row post_rows _ (post_fields (Item conn ticket (Segment octets))) r (bare_post (Item conn ticket (Segment octets))) refl refl refl h refl
post_back (Item conn ticket (Datagram ip port octets)) r h = read_back full_row post_rows _ (post_fields (Item conn ticket (Datagram ip port octets))) r (bare_post (Item conn ticket (Datagram ip port octets))) refl refl refl h refl
post_back (Item conn ticket (Accepted n)) r h = read_back full_row post_rows _ (post_fields (Item conn ticket (Accepted n))) r (bare_post (Item conn ticket (Accepted n))) refl refl refl h refl
post_back (Full conn) r h = read_back full_row post_rows _ (post_fields (Full conn)) r (bare_post (Full conn)) refl refl refl h refl
