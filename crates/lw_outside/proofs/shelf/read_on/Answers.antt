use Rattle.std.proofs.Common.{◌≡◌, ℕ, ◌+◌, List, ◌++◌, length, take, drop, min, sym, ap, ◌∙◌, take-append-drop}
use Rattle.std.proofs.lemmas.List.{drop-drop, drop_min}
use Rattle.lw_outside.proofs.shelf.read_on.Goals as goal

-- what is left is what was copied and what is left behind it
moved : (octets rest copied : List ℕ) (read start count : ℕ) → start ≡ min read (length octets) → rest ≡ drop start octets → copied ≡ take count rest
    → drop read octets ≡ copied ++ drop (start + count) octets
moved octets rest copied read start count at_start is_rest is_copied =
    let same : rest ≡ drop read octets = is_rest ∙ ap (λ n. drop n octets) at_start ∙ drop_min read octets in
    let behind : drop (start + count) octets ≡ drop count rest = sym (drop-drop count start octets) ∙ ap (drop count) (sym is_rest) in
    let whole : take count rest ++ drop count rest ≡ rest = take-append-drop count rest in
    cc

pub returns-clause-octets : goal.returns-clause-octets
returns-clause-octets c =
    moved _ _ _ _ _ _ c.min-start.ensures c.split_at.ensures.back c.copy_front-count.ensures.front
