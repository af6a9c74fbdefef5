-- A chain without its first pbuf.
use Rattle.std.proofs.Common.{◌≡◌, ◌<◌, List, [], ◌∷◌, ◌++◌, length, set, take, drop, get_or, refl, sym, ap, ◌∙◌, subst, arith}
use Rattle.std.specs.List.{remove, refill}
use Rattle.std.proofs.lemmas.List.{take-append-drop}
use Rattle.std.proofs.lemmas.List.Elements.{All-nil, All-head, All-cons, All-tail}
use Rattle.atomic_table.specs.Seated.{TableId}
use Rattle.pbuf_spans.specs.Parts.{Part, IsChain}
use Rattle.lw_pbuf.specs.Chains.{all_parts, NoneEmpty}
use Rattle.lw_pbuf.proofs.Spans.{chain-front, chain-back, all_parts-one}
use Rattle.lw_pbuf.proofs.Rewriting.{refilled}

-- the pbufs behind the first are a chain, and so is the first
pub chain_rest : (t : TableId) (ps qs : List Part) → qs ≡ drop 1 ps → IsChain t ps → IsChain t qs
chain_rest t ps qs is c = subst (λ (l : List Part). IsChain t l) (sym is) (chain-back t (take 1 ps) (drop 1 ps) (subst (λ (l : List Part). IsChain t l) (sym (take-append-drop 1 ps)) c))

pub chain_one : (t : TableId) (ps qs : List Part) → qs ≡ take 1 ps → IsChain t ps → IsChain t qs
chain_one t ps qs is c = subst (λ (l : List Part). IsChain t l) (sym is) (chain-front t (take 1 ps) (drop 1 ps) (subst (λ (l : List Part). IsChain t l) (sym (take-append-drop 1 ps)) c))

-- the first pbuf of spans is taken off: r has it, and the spans are ts then
pub record Parted (ss ts : List (List Part)) (r : List Part) : Type 0 where
  pub first : r ≡ take 1 (all_parts ss)
  pub rest : all_parts ts ≡ drop 1 (all_parts ss)
  pub full : NoneEmpty ts

-- with its span, where that has no other
pub part_whole : (ss ts : List (List Part)) (p r : List Part) → NoneEmpty ss → 0 < length ss → p ≡ get_or ss 0 p → length p ≡ 1 → r ≡ get_or ss 0 r → ts ≡ remove ss 0 → Parted ss ts r
part_whole [] ts p r full there at one is removed = absurd (omega arith)
part_whole ([] ∷ xs) ts p r full there at one is removed = absurd (let e = ap (λ (l : List Part). length l) at in omega arith)
part_whole ((y ∷ []) ∷ xs) ts p r full there at one is removed = record {
  first = is;
  rest = ap (λ (l : List (List Part)). all_parts l) removed;
  full = subst (λ (l : List (List Part)). NoneEmpty l) (sym removed) (All-tail (λ (l : List Part). 0 < length l) (y ∷ []) xs full);
}
part_whole ((y ∷ z ∷ zs) ∷ xs) ts p r full there at one is removed = absurd (let e = ap (λ (l : List Part). length l) at in omega arith)

-- a chain of one span
pub one_chain : (t : TableId) (p : List Part) (ss : List (List Part)) → ss ≡ p ∷ [] → 0 < length p → IsChain t p → IsChain t (all_parts ss) × NoneEmpty ss
one_chain t p ss is some chain = (
  subst (λ (l : List Part). IsChain t l) (sym (ap (λ (l : List (List Part)). all_parts l) is ∙ all_parts-one p)) chain,
  subst (λ (l : List (List Part)). NoneEmpty l) (sym is) (All-cons (λ (l : List Part). 0 < length l) p [] some (All-nil (λ (l : List Part). 0 < length l))),
)
