-- Octets that are copied from pbuf to pbuf.
use Rattle.std.proofs.Common.{◌≡◌, ℕ, ◌+◌, ◌-◌, ◌≤◌, min, List, [], ◌++◌, length, take, drop, sym, ap, ◌∙◌, arith, length-append, length-take, length-drop, append_assoc, append-nil, inl, inr}
use Rattle.std.specs.Prelude.{slice_range}
use Rattle.std.proofs.lemmas.Bool.{cases_lt}
use Rattle.std.proofs.Math.Seq.{take-append-add, drop-append-add}
use Rattle.std.proofs.lemmas.List.{take-append-le, drop-append-le, take_all, drop_all, take_at, nil_from_length}

-- the wanted octets stand in `out` up to `at`, and the others come in `rest` after so many to skip
pub record Copies (wanted rest out : List ℕ) (skip at : ℕ) : Type 0 where
  pub so_far : take at out ++ take (length out - at) (drop skip rest) ≡ wanted
  pub within : at ≤ length out
  pub enough : skip + (length out - at) ≤ length rest

-- of the octets o, and those behind, so many are taken
part_of : (o rest : List ℕ) (skip n : ℕ) → take n (drop skip (o ++ rest)) ≡ take (min (length o - min skip (length o)) n) (drop (min skip (length o)) o) ++ take (n - min (length o - min skip (length o)) n) (drop (skip - min skip (length o)) rest)
part_of o rest skip n = elim (cases_lt (length o) skip) [
  | inl past ↦
      let e : skip ≡ length o + (skip - length o) = omega arith in
      let m : min skip (length o) ≡ length o = omega arith in
      let none : drop (min skip (length o)) o ≡ [] = drop_all (min skip (length o)) o (omega arith) in
      let zero : min (length o - min skip (length o)) n ≡ 0 = omega arith in
      let nothing : take (min (length o - min skip (length o)) n) (drop (min skip (length o)) o) ≡ [] = ap (take (min (length o - min skip (length o)) n)) none ∙ take_all (min (length o - min skip (length o)) n) [] (omega arith) in
      ap (take n) (ap (λ (k : ℕ). drop k (o ++ rest)) e ∙ drop-append-add o rest (skip - length o))
      ∙ ((λ i. take ((let q : n ≡ n - min (length o - min skip (length o)) n = omega arith in q) i) (drop ((let q : skip - length o ≡ skip - min skip (length o) = omega arith in q) i) rest))
      ∙ ap (λ (l : List ℕ). l ++ take (n - min (length o - min skip (length o)) n) (drop (skip - min skip (length o)) rest)) (sym nothing))
  | inr here ↦
      let m : min skip (length o) ≡ skip = omega arith in
      let size = length-drop skip o in
      let front : drop skip (o ++ rest) ≡ drop skip o ++ rest = drop-append-le skip o rest here in
      let all : rest ≡ drop (skip - min skip (length o)) rest = ap (λ (k : ℕ). drop k rest) (let q : 0 ≡ skip - min skip (length o) = omega arith in q) in
      ap (take n) front ∙ (split (drop skip o) rest n ∙ (λ i. take (min ((let q : length (drop skip o) ≡ length o - min skip (length o) = omega arith in q) i) n) (drop (sym m i) o)
      ++ take (n - min ((let q : length (drop skip o) ≡ length o - min skip (length o) = omega arith in q) i) n) (all i)))
]
  where
    split : (d r : List ℕ) (k : ℕ) → take k (d ++ r) ≡ take (min (length d) k) d ++ take (k - min (length d) k) r
    split d r k = elim (cases_lt (length d) k) [
      | inl more ↦
          ap (λ (j : ℕ). take j (d ++ r)) (let q : k ≡ length d + (k - min (length d) k) = omega arith in q)
          ∙ (take-append-add d r (k - min (length d) k) ∙ ap (λ (l : List ℕ). l ++ take (k - min (length d) k) r) (sym (take_all (min (length d) k) d (omega arith))))
      | inr less ↦
          take-append-le k d r less ∙ (ap (λ (j : ℕ). take j d) (let q : k ≡ min (length d) k = omega arith in q)
          ∙ (sym (append-nil (take (min (length d) k) d)) ∙ ap (λ (j : ℕ). take (min (length d) k) d ++ take j r) (let q : 0 ≡ k - min (length d) k = omega arith in q)))
    ]

-- one pbuf more
pub copies_next : (wanted o rest out new taken : List ℕ) (skip at begin count : ℕ) → Copies wanted (o ++ rest) out skip at → begin ≡ min skip (length o) → count ≡ min (length o - begin) (length out - at)
    → taken ≡ take count (drop begin o) → new ≡ take at out ++ taken ++ drop (at + length taken) out → Copies wanted rest new (skip - begin) (at + count)
copies_next wanted o rest out new taken skip at begin count c b n t now =
    let w = c.within in
    let e = c.enough in
    let l = length-append o rest in
    let tl : length taken ≡ count = ap length t ∙ (let x = length-take count (drop begin o) in let y = length-drop begin o in omega arith) in
    let front = length-take at out in
    let whole : length new ≡ length out = ap length now ∙ (let x = length-append (take at out ++ taken) (drop (at + length taken) out) in let y = length-append (take at out) taken in let z = length-drop (at + length taken) out in omega arith) in
    let head : take (at + count) new ≡ take at out ++ taken = ap (take (at + count)) now ∙ take_at (take at out ++ taken) (drop (at + length taken) out) (at + count) (let y = length-append (take at out) taken in omega arith) in
    let same_count : min (length o - min skip (length o)) (length out - at) ≡ count = ap (λ (k : ℕ). min (length o - k) (length out - at)) (sym b) ∙ sym n in
    record {
      so_far =
          (λ i. head i ++ take ((let q : length new - (at + count) ≡ (length out - at) - count = omega arith in q) i) (drop (skip - begin) rest))
          ∙ (append_assoc (take at out) taken (take ((length out - at) - count) (drop (skip - begin) rest))
          ∙ (ap (λ (x : List ℕ). take at out ++ x) ((λ i. t i ++ take ((length out - at) - count) (drop (skip - begin) rest)) ∙ sym (part_of o rest skip (length out - at) ∙ (λ i. take (same_count i) (drop (sym b i) o) ++ take ((length out - at) - same_count i) (drop (skip - sym b i) rest))))
          ∙ c.so_far));
      within = omega arith;
      enough = omega arith;
    }

pub copies_first : (all out : List ℕ) (from : ℕ) → from + length out ≤ length all → Copies (slice_range all from (from + length out)) all out from 0
copies_first all out from fits = record {
  so_far = ap (λ (k : ℕ). take k (drop from all)) (let e : length out - 0 ≡ (from + length out) - from = omega arith in e);
  within = omega arith;
  enough = omega arith;
}

pub copies_last : (wanted rest out : List ℕ) (skip at : ℕ) → Copies wanted rest out skip at → length rest ≡ 0 → out ≡ wanted
copies_last wanted rest out skip at c none =
    let w = c.within in
    let e = c.enough in
    let nothing : take (length out - at) (drop skip rest) ≡ [] = nil_from_length (take (length out - at) (drop skip rest)) (let x = length-take (length out - at) (drop skip rest) in omega arith) in
    sym (append-nil out) ∙ ((λ i. sym (take_all at out (omega arith)) i ++ sym nothing i) ∙ c.so_far)
