use Rattle.std.proofs.Common.{◌≡◌, ℕ, ◌+◌, ◌^◌, ◌<◌, ◌≤◌, ◌⊎◌, Bool, true, false, ◌&&◌, nat_lt, cond, List, [], ◌∷◌, ◌++◌, length, refl, sym, ◌∙◌, inl, inr, arith}
use Rattle.std.specs.Str.{bytes_eq}
use Rattle.std.specs.List.{All}
use Rattle.std.proofs.lemmas.List.Sums.{sum_by-append, sum_by-cons}
use Rattle.std.proofs.lemmas.List.Elements.{All-nil, All-cons, All-head, All-append, All-take, All-drop, All-same}
use Rattle.std.proofs.lemmas.List.{take_at, drop_at, length-append}
use Rattle.lw_payload.specs.Views.{View, HomeView}
use Rattle.lw_payload.specs.Calls.{IsSameButRoom, IsJoined}
use Rattle.lw_payload.specs.Lists.{AreOf}
use Rattle.lw_payload.specs.Totals.{stranger, total, Moves}
use Rattle.lw_payload.proofs.TotalLaws.{IsSameTotal-room, not_stranger, stranger-none}
use Rattle.lw_runs.specs.Kept.{Holds}

-- payloads hold what they hold
pub Holds-refl : {P : Type 0} (seen : P → View) (ps : List P) → Holds seen ps ps
Holds-refl seen ps = record { octets = refl; parts = refl; rows = λ s. refl; weight = refl; strangers = λ f. omega arith; family = λ f all. all; short = λ all. all }

-- one after another
pub Holds-then : {P : Type 0} (seen : P → View) (ps qs rs : List P) → Holds seen ps qs → Holds seen qs rs → Holds seen ps rs
Holds-then seen ps qs rs a b = record {
  octets = b.octets ∙ a.octets;
  parts = b.parts ∙ a.parts;
  rows = λ s. b.rows s ∙ a.rows s;
  weight = b.weight ∙ a.weight;
  strangers = λ f. let m = a.strangers f in let n = b.strangers f in omega arith;
  family = λ f all. b.family f (a.family f all);
  short = λ all. b.short (a.short all);
}

-- what holds of each of joined lists holds of each of the first, and of the second
pub All-front : {P : Type 0} (Q : P → Type 0) (ps qs : List P) → All Q (ps ++ qs) → All Q ps
All-front Q ps qs all = All-same Q ps _ (sym (take_at ps qs (length ps) refl)) (All-take Q (length ps) (ps ++ qs) all)

pub All-back : {P : Type 0} (Q : P → Type 0) (ps qs : List P) → All Q (ps ++ qs) → All Q qs
All-back Q ps qs all = All-same Q qs _ (sym (drop_at ps qs (length ps) refl)) (All-drop Q (length ps) (ps ++ qs) all)

-- side by side
pub Holds-append : {P : Type 0} (seen : P → View) (ps qs rs ss : List P) → Holds seen ps qs → Holds seen rs ss → Holds seen (ps ++ rs) (qs ++ ss)
Holds-append seen ps qs rs ss a b = record {
  octets = let f = λ (p : _). length (seen p).octets in let x = sum_by-append f qs ss in let y = sum_by-append f ps rs in let m = a.octets in let n = b.octets in omega arith;
  parts = let f = λ (p : _). (seen p).parts in let x = sum_by-append f qs ss in let y = sum_by-append f ps rs in let m = a.parts in let n = b.parts in omega arith;
  rows = λ s. let f = λ (p : _). (seen p).rows s in let x = sum_by-append f qs ss in let y = sum_by-append f ps rs in let m = a.rows s in let n = b.rows s in omega arith;
  weight = let f = λ (p : _). (seen p).weight in let x = sum_by-append f qs ss in let y = sum_by-append f ps rs in let m = a.weight in let n = b.weight in omega arith;
  strangers = λ f. let g = λ (p : _). stranger f (seen p) in let x = sum_by-append g qs ss in let y = sum_by-append g ps rs in let m = a.strangers f in let n = b.strangers f in omega arith;
  family = λ f all. let Q = λ (p : _). (seen p).family ≡ f in All-append Q qs ss (a.family f (All-front Q ps rs all)) (b.family f (All-back Q ps rs all));
  short = λ all. let Q = λ (p : _). length (seen p).octets < 2 ^ 32 in All-append Q qs ss (a.short (All-front Q ps rs all)) (b.short (All-back Q ps rs all));
}

-- the others stay
pub Holds-front : {P : Type 0} (seen : P → View) (ps qs rs : List P) → Holds seen ps qs → Holds seen (ps ++ rs) (qs ++ rs)
Holds-front seen ps qs rs a = Holds-append seen ps qs rs rs a (Holds-refl seen rs)

pub Holds-back : {P : Type 0} (seen : P → View) (ps qs rs : List P) → Holds seen qs rs → Holds seen (ps ++ qs) (ps ++ rs)
Holds-back seen ps qs rs a = Holds-append seen ps ps qs rs (Holds-refl seen ps) a

-- two of which the second comes first
pub Holds-swap : {P : Type 0} (seen : P → View) (ps qs : List P) → Holds seen (ps ++ qs) (qs ++ ps)
Holds-swap seen ps qs = record {
  octets = let f = λ (p : _). length (seen p).octets in let x = sum_by-append f qs ps in let y = sum_by-append f ps qs in omega arith;
  parts = let f = λ (p : _). (seen p).parts in let x = sum_by-append f qs ps in let y = sum_by-append f ps qs in omega arith;
  rows = λ s. let f = λ (p : _). (seen p).rows s in let x = sum_by-append f qs ps in let y = sum_by-append f ps qs in omega arith;
  weight = let f = λ (p : _). (seen p).weight in let x = sum_by-append f qs ps in let y = sum_by-append f ps qs in omega arith;
  strangers = λ f. let g = λ (p : _). stranger f (seen p) in let x = sum_by-append g qs ps in let y = sum_by-append g ps qs in omega arith;
  family = λ f all. let Q = λ (p : _). (seen p).family ≡ f in All-append Q qs ps (All-back Q ps qs all) (All-front Q ps qs all);
  short = λ all. let Q = λ (p : _). length (seen p).octets < 2 ^ 32 in All-append Q qs ps (All-back Q ps qs all) (All-front Q ps qs all);
}

-- one payload in the place of another that has only other room
pub Holds-room : {P : Type 0} (seen : P → View) (p q : P) → IsSameButRoom (seen p) (seen q) → Holds seen (p ∷ []) (q ∷ [])
Holds-room seen p q same = record {
  octets = rw same.octets refl;
  parts = let e = same.parts in omega arith;
  rows = λ s. let e = same.rows s in omega arith;
  weight = let e = same.weight in omega arith;
  strangers = λ f. let e = (IsSameTotal-room seen f p q same).strangers in omega arith;
  family = λ f all. let Q = λ (x : _). (seen x).family ≡ f in All-cons Q q [] (same.family ∙ All-head Q p [] all) (All-nil Q);
  short = λ all. let Q = λ (x : _). length (seen x).octets < 2 ^ 32 in All-cons Q q [] (rw same.octets (All-head Q p [] all)) (All-nil Q);
}

one_or_none : (t : Bool) → (cond {A = ℕ} t 0 1 ≡ 0) ⊎ (cond {A = ℕ} t 0 1 ≡ 1)
one_or_none true = inl refl
one_or_none false = inr refl

-- a short payload of the family of another is a stranger only where that is
stranger-joined : (f : List ℕ) (p q : View) → q.family ≡ p.family → length q.octets < 2 ^ 32 → stranger f q ≤ stranger f p
stranger-joined f p q same small =
    elim (one_or_none (bytes_eq p.family f && nat_lt (length p.octets) (2 ^ 32))) [
      | inl none ↦ let e = stranger-none f q (same ∙ (not_stranger f p none).0) small in omega arith
      | inr one ↦ elim (one_or_none (bytes_eq q.family f && nat_lt (length q.octets) (2 ^ 32))) [ inl few ↦ omega arith | inr few ↦ omega arith ]
    ]

-- two became one
pub Holds-join : {P : Type 0} (seen : P → View) (p o q : P) → length (seen p).octets + length (seen o).octets < 2 ^ 32 → IsJoined (seen p) (seen o) (seen q) → Holds seen (p ∷ o ∷ []) (q ∷ [])
Holds-join seen p o q small joined =
    let size : length (seen q).octets ≡ length (seen p).octets + length (seen o).octets = rw joined.octets (length-append (seen p).octets (seen o).octets) in
    record {
      octets = omega arith;
      parts = let e = joined.parts in omega arith;
      rows = λ s. let e = joined.rows s in omega arith;
      weight = let e = joined.weight in omega arith;
      strangers = λ f. let e = stranger-joined f (seen p) (seen q) joined.family (omega arith) in let l = sum_by-cons (λ (x : _). stranger f (seen x)) p (o ∷ []) in omega arith;
      family = λ f all. let Q = λ (x : _). (seen x).family ≡ f in All-cons Q q [] (joined.family ∙ All-head Q p (o ∷ []) all) (All-nil Q);
      short = λ all. let Q = λ (x : _). length (seen x).octets < 2 ^ 32 in All-cons Q q [] (omega arith) (All-nil Q);
    }

-- so what they come to together stays
pub Moves-holds : {P : Type 0} (seen : P → View) (h : HomeView) (f : List ℕ) (before after : List P) → Holds seen before after → Moves h h (total seen f before) (total seen f after)
Moves-holds seen h f before after holds = record {
  rows = λ s. let e = holds.rows s in omega arith;
  weight = let e = holds.weight in omega arith;
  pools = refl;
  counts = refl;
  strangers = holds.strangers f;
}

-- what a Home gave out is given out still
pub AreOf-holds : {P : Type 0} (seen : P → View) (h : HomeView) (before after : List P) → Holds seen before after → AreOf seen h before → AreOf seen h after
AreOf-holds seen h before after holds of = record {
  short = holds.short of.short;
  family = holds.family h.pools.family of.family;
  listed = λ s. let e = holds.rows s in let l = of.listed s in omega arith;
}
