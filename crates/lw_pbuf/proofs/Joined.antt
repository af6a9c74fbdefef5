-- The octets of pbufs one behind another.
use Rattle.std.proofs.Common.{◌≡◌, ℕ, zero, suc, ◌+◌, ◌^◌, ◌<◌, ◌≤◌, List, [], ◌∷◌, ◌++◌, length, drop, All, sym, ap, ◌∙◌, subst, arith, length-append}
use Rattle.std.proofs.lemmas.List.Elements.{All-append, All-head, All-tail}
use Rattle.atomic_table.specs.Seated.{TableId}
use Rattle.pbuf_spans.specs.Parts.{Part, joined, IsUnder, IsChain}
use Rattle.pbuf_spans.proofs.Lists.{joined-append}

pub length-joined-append : (xs ys : List Part) → length (joined (xs ++ ys)) ≡ length (joined xs) + length (joined ys)
length-joined-append xs ys = ap length (joined-append xs ys) ∙ length-append (joined xs) (joined ys)

-- there are no more pbufs than octets, where each has one
pub few_parts : (ps : List Part) → All (λ p. 0 < length p.octets) ps → length ps ≤ length (joined ps)
few_parts [] some = omega arith
few_parts (p ∷ ps) some =
    let one : 0 < length p.octets = All-head (λ (q : Part). 0 < length q.octets) p ps some in
    let rest = few_parts ps (All-tail (λ (q : Part). 0 < length q.octets) p ps some) in
    let both = length-append p.octets (joined ps) in
    omega arith

-- two chains under the same counts are one
pub put_behind : (t u : TableId) (xs ys zs : List Part) → zs ≡ xs ++ ys → u ≡ t → IsChain t xs → IsChain u ys → length (joined xs) + length (joined ys) < 2 ^ 32 → IsChain t zs
put_behind t u xs ys zs is same a b short = subst (λ (l : List Part). IsChain t l) (sym is) record {
  under = All-append (λ (p : Part). IsUnder t p.owner) xs ys a.under (subst (λ (v : TableId). All (λ p. IsUnder v p.owner) ys) same b.under);
  some = All-append (λ (p : Part). 0 < length p.octets) xs ys a.some b.some;
  short = let l = length-joined-append xs ys in omega arith;
}

-- no more octets stand behind some pbufs than there are
pub tot_len-most : (ps : List Part) (n : ℕ) → length (joined (drop n ps)) ≤ length (joined ps)
tot_len-most [] zero = omega arith
tot_len-most [] (suc n) = omega arith
tot_len-most (x ∷ xs) zero = omega arith
tot_len-most (x ∷ xs) (suc n) = let r = tot_len-most xs n in let a = length-append x.octets (joined xs) in omega arith
