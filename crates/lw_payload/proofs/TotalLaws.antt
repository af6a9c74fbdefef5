use Rattle.std.proofs.Common.{◌≡◌, ℕ, ◌+◌, ◌*◌, ◌^◌, ◌<◌, ◌≤◌, ◌&&◌, Bool, true, false, cond, ltb, zero, suc, List, [], ◌∷◌, ◌++◌, length, ◌∙◌, refl, sym, ap, length-append, arith}
use Rattle.std.specs.Bool.{Decides}
use Rattle.std.specs.Str.{bytes_eq}
use Rattle.std.specs.List.{sum_by, All}
use Rattle.std.proofs.lemmas.Bool.Decides.{Decides-and, Decides-ltb}
use Rattle.std.proofs.lemmas.Slice.Eq.{bytes_eq-Decides}
use Rattle.std.proofs.lemmas.List.Sums.{sum_by-cons, sum_by-append}
use Rattle.std.proofs.lemmas.List.Elements.{All-nil, All-cons, All-head, All-tail}
use Rattle.lw_payload.specs.declared.kinds.Kind.{Kind}
use Rattle.lw_payload.specs.Views.{View, HomeView, Makes, IsOf, pool_one, pbufs_of}
use Rattle.lw_payload.specs.Calls.{IsMade, KeepsHome, IsCut, IsSameButRoom, IsJoined, IsShared, IsSpent}
use Rattle.lw_payload.specs.Lists.{AreOf}
use Rattle.lw_payload.specs.Totals.{Total, stranger, total, IsSum, IsSameTotal, IsOwned, Moves}

-- the test of a stranger decides
is_known : (family : List ℕ) (p : View) → Decides (bytes_eq p.family family && ltb (length p.octets) (2 ^ 32)) ((p.family ≡ family) × (length p.octets < 2 ^ 32))
is_known family p =
    Decides-and (bytes_eq p.family family) (ltb (length p.octets) (2 ^ 32)) (bytes_eq-Decides p.family family) (Decides-ltb (length p.octets) (2 ^ 32))

none_where : (t : Bool) → cond {A = ℕ} t 0 1 ≡ 0 → t ≡ true
none_where true e = refl
none_where false e = absurd (omega arith)

where_none : (t : Bool) → t ≡ true → cond {A = ℕ} t 0 1 ≡ 0
where_none true e = refl
where_none false e = cc

-- who is no stranger is of the family, and short
pub not_stranger : (family : List ℕ) (p : View) → stranger family p ≡ 0 → (p.family ≡ family) × (length p.octets < 2 ^ 32)
not_stranger family p none = (is_known family p).0 (none_where (bytes_eq p.family family && ltb (length p.octets) (2 ^ 32)) none)

-- who is of the family and short is no stranger
pub stranger-none : (family : List ℕ) (p : View) → p.family ≡ family → length p.octets < 2 ^ 32 → stranger family p ≡ 0
stranger-none family p e short = where_none (bytes_eq p.family family && ltb (length p.octets) (2 ^ 32)) ((is_known family p).1 (e, short))

-- two payloads of one family of which the second has no more octets
stranger-le : (family : List ℕ) (p q : View) → q.family ≡ p.family → length q.octets ≤ length p.octets → stranger family q ≤ stranger family p
stranger-le family p q e shorter =
    by_test (bytes_eq p.family family && ltb (length p.octets) (2 ^ 32)) (stranger family q)
    (λ known. let k = (is_known family p).0 known in let short = k.1 in let none = stranger-none family q (e ∙ k.0) (omega arith) in omega arith)
    (at_most_one (bytes_eq q.family family && ltb (length q.octets) (2 ^ 32)))
  where
    at_most_one : (t : Bool) → cond {A = ℕ} t 0 1 ≤ 1
    at_most_one true = omega arith
    at_most_one false = omega arith

    by_test : (t : Bool) (n : ℕ) → (t ≡ true → n ≤ 0) → n ≤ 1 → n ≤ cond {A = ℕ} t 0 1
    by_test true n known most = known refl
    by_test false n known most = most

-- what lists behind one another come to
pub IsSum-append : {P : Type 0} (seen : P → View) (family : List ℕ) (ps qs : List P) → IsSum (total seen family (ps ++ qs)) (total seen family ps) (total seen family qs)
IsSum-append seen family ps qs = record {
  rows = λ s. sum_by-append (λ p. (seen p).rows s) ps qs;
  weight = sum_by-append (λ p. (seen p).weight) ps qs;
  strangers = sum_by-append (λ p. stranger family (seen p)) ps qs;
}

-- what a first payload and a list come to
pub IsSum-cons : {P : Type 0} (seen : P → View) (family : List ℕ) (p : P) (ps : List P) → IsSum (total seen family (p ∷ ps)) (total seen family (p ∷ [])) (total seen family ps)
IsSum-cons seen family p ps = record {
  rows = λ s. let e = sum_by-cons (λ p. (seen p).rows s) p ps in omega arith;
  weight = let e = sum_by-cons (λ p. (seen p).weight) p ps in omega arith;
  strangers = let e = sum_by-cons (λ p. stranger family (seen p)) p ps in omega arith;
}

-- no payload adds nothing
pub IsSum-none : {P : Type 0} (seen : P → View) (family : List ℕ) (ps : List P) → IsSum (total seen family ps) (total seen family []) (total seen family ps)
IsSum-none seen family ps = record { rows = λ s. omega arith; weight = omega arith; strangers = omega arith }

-- lists that are alike by every weight come to the same, as those with the same payloads in another order
pub IsSameTotal-alike : {P : Type 0} (seen : P → View) (family : List ℕ) (ps qs : List P) → ((w : P → ℕ) → sum_by w qs ≡ sum_by w ps) → IsSameTotal (total seen family ps) (total seen family qs)
IsSameTotal-alike seen family ps qs alike = record {
  rows = λ s. sym (alike (λ p. (seen p).rows s));
  weight = sym (alike (λ p. (seen p).weight));
  strangers = sym (alike (λ p. stranger family (seen p)));
}

-- so do payloads that differ in room alone
pub IsSameTotal-room : {P : Type 0} (seen : P → View) (family : List ℕ) (p q : P) → IsSameButRoom (seen p) (seen q) → IsSameTotal (total seen family (p ∷ [])) (total seen family (q ∷ []))
IsSameTotal-room seen family p q same = record {
  rows = λ s. let e = same.rows s in omega arith;
  weight = let e = same.weight in omega arith;
  strangers =
      let there = stranger-le family (seen p) (seen q) same.family (let l = ap length same.octets in omega arith) in
      let back = stranger-le family (seen q) (seen p) (sym same.family) (let l = ap length same.octets in omega arith) in
      omega arith;
}

-- the laws of sums
pub IsSum-swap : (t u v : Total) → IsSum t u v → IsSum t v u
IsSum-swap t u v sum = record {
  rows = λ s. let r = sum.rows s in omega arith;
  weight = let w = sum.weight in omega arith;
  strangers = let n = sum.strangers in omega arith;
}

-- what t1 and t2 are together with t3, t1 is together with both
pub IsSum-regroup : (all left first second third : Total) → IsSum all left third → IsSum left first second → (rest : Total) → IsSum rest second third → IsSum all first rest
IsSum-regroup all left first second third outer inner rest other = record {
  rows = λ s. let x = outer.rows s in let y = inner.rows s in let z = other.rows s in omega arith;
  weight = let x = outer.weight in let y = inner.weight in let z = other.weight in omega arith;
  strangers = let x = outer.strangers in let y = inner.strangers in let z = other.strangers in omega arith;
}

-- what is owned in all is owned in part
pub IsOwned-left : (h : HomeView) (t u v : Total) → IsSum t u v → IsOwned h t → IsOwned h u
IsOwned-left h t u v sum owned = record {
  rows = λ s. let r = sum.rows s in let o = owned.rows s in omega arith;
  strangers = let n = sum.strangers in let o = owned.strangers in omega arith;
}

pub IsOwned-right : (h : HomeView) (t u v : Total) → IsSum t u v → IsOwned h t → IsOwned h v
IsOwned-right h t u v sum owned = record {
  rows = λ s. let r = sum.rows s in let o = owned.rows s in omega arith;
  strangers = let n = sum.strangers in let o = owned.strangers in omega arith;
}

pub IsOwned-same : (h : HomeView) (t u : Total) → IsSameTotal t u → IsOwned h t → IsOwned h u
IsOwned-same h t u same owned = record {
  rows = λ s. let r = same.rows s in let o = owned.rows s in omega arith;
  strangers = let n = same.strangers in let o = owned.strangers in omega arith;
}

-- what moved is owned again
pub IsOwned-moved : (h k : HomeView) (t u : Total) → IsOwned h t → Moves h k t u → IsOwned k u
IsOwned-moved h k t u owned moves = record {
  rows = λ s. let r = moves.rows s in let o = owned.rows s in omega arith;
  strangers = let n = moves.strangers in let o = owned.strangers in omega arith;
}

pub IsSameTotal-self : (t : Total) → IsSameTotal t t
IsSameTotal-self t = record { rows = λ s. refl; weight = refl; strangers = refl }

-- where nothing moves
pub Moves-same : (h : HomeView) (t u : Total) → IsSameTotal t u → Moves h h t u
Moves-same h t u same = record {
  rows = λ s. let r = same.rows s in omega arith;
  weight = let w = same.weight in omega arith;
  pools = refl;
  counts = refl;
  strangers = let n = same.strangers in omega arith;
}

-- one move after another is one move
pub Moves-then : (h k l : HomeView) (t u v : Total) → Moves h k t u → Moves k l u v → Moves h l t v
Moves-then h k l t u v a b = record {
  rows = λ s. let x = a.rows s in let y = b.rows s in omega arith;
  weight = let x = a.weight in let y = b.weight in omega arith;
  pools = b.pools ∙ a.pools;
  counts = b.counts ∙ a.counts;
  strangers = let x = a.strangers in let y = b.strangers in omega arith;
}

-- what stands beside moves with it
pub Moves-beside : (h k : HomeView) (t u rest all after : Total) → Moves h k t u → IsSum all t rest → IsSum after u rest → Moves h k all after
Moves-beside h k t u rest all after moves before behind = record {
  rows = λ s. let x = moves.rows s in let y = before.rows s in let z = behind.rows s in omega arith;
  weight = let x = moves.weight in let y = before.weight in let z = behind.weight in omega arith;
  pools = moves.pools;
  counts = moves.counts;
  strangers = let x = moves.strangers in let y = before.strangers in let z = behind.strangers in omega arith;
}

-- one payload that may be given with the Home is owned
pub IsOwned-one : {P : Type 0} (seen : P → View) (h : HomeView) (p : P) → IsOf h (seen p) → IsOwned h (total seen h.pools.family (p ∷ []))
IsOwned-one seen h p of = record {
  rows = λ s. let l = of.listed s in omega arith;
  strangers = let none = stranger-none h.pools.family (seen p) of.family of.short in omega arith;
}

pub IsOf-owned : {P : Type 0} (seen : P → View) (h : HomeView) (p : P) → IsOwned h (total seen h.pools.family (p ∷ [])) → IsOf h (seen p)
IsOf-owned seen h p owned =
    let known = not_stranger h.pools.family (seen p) (let none = owned.strangers in omega arith) in
    record { short = known.1; family = known.0; listed = λ s. let r = owned.rows s in omega arith }

-- the same of a list
strangers-none : {P : Type 0} (seen : P → View) (family : List ℕ) (ps : List P) → All (λ p. length (seen p).octets < 2 ^ 32) ps → All (λ p. (seen p).family ≡ family) ps
    → sum_by (λ p. stranger family (seen p)) ps ≡ 0
strangers-none seen family [] short of = refl
strangers-none seen family (p ∷ ps) short of =
    let e = sum_by-cons (λ p. stranger family (seen p)) p ps in
    let first = stranger-none family (seen p) (All-head (λ q. (seen q).family ≡ family) p ps of) (All-head (λ q. length (seen q).octets < 2 ^ 32) p ps short) in
    let rest = strangers-none seen family ps (All-tail (λ q. length (seen q).octets < 2 ^ 32) p ps short) (All-tail (λ q. (seen q).family ≡ family) p ps of) in
    omega arith

pub IsOwned-all : {P : Type 0} (seen : P → View) (h : HomeView) (ps : List P) → AreOf seen h ps → IsOwned h (total seen h.pools.family ps)
IsOwned-all seen h ps are = record { rows = are.listed; strangers = strangers-none seen h.pools.family ps are.short are.family }

-- a list that is owned may be given with the Home
all_known : {P : Type 0} (seen : P → View) (family : List ℕ) (ps : List P) → sum_by (λ p. stranger family (seen p)) ps ≡ 0
    → All (λ p. length (seen p).octets < 2 ^ 32) ps × All (λ p. (seen p).family ≡ family) ps
all_known {P} seen family [] none = (All-nil (λ (p : P). length (seen p).octets < 2 ^ 32), All-nil (λ (p : P). (seen p).family ≡ family))
all_known {P} seen family (p ∷ ps) none =
    let e = sum_by-cons (λ q. stranger family (seen q)) p ps in
    let first = not_stranger family (seen p) (omega arith) in
    let rest = all_known seen family ps (omega arith) in
    (All-cons (λ (q : P). length (seen q).octets < 2 ^ 32) p ps first.1 rest.0, All-cons (λ (q : P). (seen q).family ≡ family) p ps first.0 rest.1)

pub AreOf-owned : {P : Type 0} (seen : P → View) (h : HomeView) (ps : List P) → IsOwned h (total seen h.pools.family ps) → AreOf seen h ps
AreOf-owned seen h ps owned =
    let known = all_known seen h.pools.family ps owned.strangers in
    record { short = known.0; family = known.1; listed = owned.rows }

by_none : (one n a b : ℕ) → one ≡ 0 → a ≤ b → b ≤ a + one * n → b ≡ a
by_none zero n a b e least most = omega arith
by_none (suc m) n a b e least most = absurd (omega arith)

same_makes : (m n : Makes) → m.made ≡ n.made → m.refused ≡ n.refused → m.last_refused ≡ n.last_refused → m.asked ≡ n.asked → m ≡ n
same_makes m n a b c d = grind arith

-- a payload was made, of a kind whose makes aren't counted
pub Moves-made : {P : Type 0} (seen : P → View) (h k : HomeView) (kind : Kind) (text : List ℕ) (p : P) → length text < 2 ^ 32 → pool_one kind ≡ 0 → KeepsHome h k kind (length text) → IsMade h k kind text (seen p)
    → Moves h k (total seen h.pools.family []) (total seen h.pools.family (p ∷ []))
Moves-made seen h k kind text p short one keeps made = record {
  rows = λ s. let r = made.rows s in omega arith;
  weight = let w = made.weight in omega arith;
  pools = keeps.pools;
  counts = same_makes k.counts h.counts (let a = made.made_least in let b = made.made_most in omega arith) made.refused made.last_refused
      (let a = keeps.asked_least in let b = keeps.asked_most in by_none (pool_one kind) (pbufs_of kind (length text)) h.counts.asked k.counts.asked one a b);
  strangers = let none = stranger-none h.pools.family (seen p) made.family (let l = ap length made.octets in omega arith) in omega arith;
}

-- one was cut, or filled again
pub Moves-cut : {P : Type 0} (seen : P → View) (family : List ℕ) (h k : HomeView) (p q : P) (rest : List ℕ) → length rest ≤ length (seen p).octets → IsCut h k (seen p) (seen q) rest
    → Moves h k (total seen family (p ∷ [])) (total seen family (q ∷ []))
Moves-cut seen family h k p q rest shorter cut = record {
  rows = λ s. let r = cut.rows s in omega arith;
  weight = let w = cut.weight in omega arith;
  pools = cut.pools;
  counts = cut.counts;
  strangers = let n = stranger-le family (seen p) (seen q) cut.family (let l = ap length cut.octets in omega arith) in omega arith;
}

-- one was given up
pub Moves-spent : {P : Type 0} (seen : P → View) (family : List ℕ) (h k : HomeView) (p : P) → IsSpent h k (seen p) → Moves h k (total seen family (p ∷ [])) (total seen family [])
Moves-spent seen family h k p spent = record {
  rows = λ s. let r = spent.rows s in omega arith;
  weight = let w = spent.weight in omega arith;
  pools = spent.pools;
  counts = spent.counts;
  strangers = omega arith;
}

-- one was shared
pub Moves-shared : {P : Type 0} (seen : P → View) (family : List ℕ) (h k : HomeView) (p q o : P) → stranger family (seen p) ≡ 0 → IsShared h k (seen p) (seen q) (seen o)
    → Moves h k (total seen family (p ∷ [])) (total seen family (q ∷ o ∷ []))
Moves-shared seen family h k p q o known shared =
    let both = IsSum-cons seen family q (o ∷ []) in
    record {
      rows = λ s. let r = shared.rows s in let b = both.rows s in omega arith;
      weight = let w = shared.weight in let b = both.weight in omega arith;
      pools = shared.pools;
      counts = shared.counts;
      strangers =
          let b = both.strangers in
          let first = stranger-le family (seen p) (seen q) shared.family (let l = ap length shared.octets in omega arith) in
          let second = stranger-le family (seen p) (seen o) shared.other_family (let l = ap length shared.other_octets in omega arith) in
          omega arith;
    }

-- two were joined
pub IsSameTotal-joined : {P : Type 0} (seen : P → View) (family : List ℕ) (p o q : P) → stranger family (seen p) ≡ 0 → stranger family (seen o) ≡ 0 → length (seen p).octets + length (seen o).octets < 2 ^ 32 → IsJoined (seen p) (seen o) (seen q)
    → IsSameTotal (total seen family (p ∷ o ∷ [])) (total seen family (q ∷ []))
IsSameTotal-joined seen family p o q first second short joined =
    let both = IsSum-cons seen family p (o ∷ []) in
    record {
      rows = λ s. let r = joined.rows s in let b = both.rows s in omega arith;
      weight = let w = joined.weight in let b = both.weight in omega arith;
      strangers =
          let b = both.strangers in
          let known = not_stranger family (seen p) first in
          let none = stranger-none family (seen q) (joined.family ∙ known.0) (let l = ap length joined.octets in let m = length-append (seen p).octets (seen o).octets in omega arith) in
          omega arith;
    }
