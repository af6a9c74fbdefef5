-- Numbers of pbufs and of octets in spans.
use Rattle.std.proofs.Common.{◌≡◌, ℕ, ◌+◌, ◌-◌, ◌^◌, ◌<◌, ◌≤◌, List, [], ◌++◌, length, drop, get_or, ap, ◌∙◌, arith, length-append}
use Rattle.std.proofs.lemmas.List.{drop_all}
use Rattle.atomic_table.specs.Seated.{TableId}
use Rattle.pbuf_spans.specs.Parts.{Part, joined, IsChain}
use Rattle.lw_pbuf.specs.Chains.{all_parts}
use Rattle.lw_pbuf.proofs.Joined.{length-joined-append, tot_len-most, few_parts}
use Rattle.lw_pbuf.proofs.Spans.{all_parts-here, drop-both}

-- the pbufs from the i-th span on are those of the span and those behind it
pub count-here : (spans : List (List Part)) (i : ℕ) (ps : List Part) → i < length spans → ps ≡ get_or spans i ps → length (all_parts (drop i spans)) ≡ length ps + length (all_parts (drop (i + 1) spans))
count-here spans i ps inside is = ap length (all_parts-here spans i ps inside is) ∙ length-append ps (all_parts (drop (i + 1) spans))

-- and so their octets
pub octets-here : (spans : List (List Part)) (i : ℕ) (ps : List Part) → i < length spans → ps ≡ get_or spans i ps → length (joined (all_parts (drop i spans))) ≡ length (joined ps) + length (joined (all_parts (drop (i + 1) spans)))
octets-here spans i ps inside is = ap (λ (l : List Part). length (joined l)) (all_parts-here spans i ps inside is) ∙ length-joined-append ps (all_parts (drop (i + 1) spans))

-- of two lists of pbufs the first n are left out
pub behind-both : (n : ℕ) (xs ys : List Part) → length (joined (drop n (xs ++ ys))) ≡ length (joined (drop n xs)) + length (joined (drop (n - length xs) ys))
behind-both n xs ys = ap (λ (l : List Part). length (joined l)) (drop-both n xs ys) ∙ length-joined-append (drop n xs) (drop (n - length xs) ys)

pub behind-here : (spans : List (List Part)) (i n : ℕ) (ps : List Part) → i < length spans → ps ≡ get_or spans i ps → length (joined (drop n (all_parts (drop i spans)))) ≡ length (joined (drop n ps)) + length (joined (drop (n - length ps) (all_parts (drop (i + 1) spans))))
behind-here spans i n ps inside is = ap (λ (l : List Part). length (joined (drop n l))) (all_parts-here spans i ps inside is) ∙ behind-both n ps (all_parts (drop (i + 1) spans))

-- behind the last span there is nothing
pub count-end : (spans : List (List Part)) (i : ℕ) → length spans ≤ i → all_parts (drop i spans) ≡ []
count-end spans i past = ap (λ (l : List (List Part)). all_parts l) (drop_all i spans past)

pub behind-most : (n : ℕ) (ps : List Part) → length (joined (drop n ps)) ≤ length (joined ps)
behind-most n ps = tot_len-most ps n

pub chain-few : (t : TableId) (ps : List Part) → IsChain t ps → length ps < 2 ^ 32
chain-few t ps chain = let f = few_parts ps chain.some in let s = chain.short in omega arith
