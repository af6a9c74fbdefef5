use Rattle.std.proofs.Common.{◌≡◌, ℕ, ◌^◌, ◌<◌, ◌≤◌, List, length, ◌∙◌, sym, ap, arith}
use Rattle.lw_payload.specs.declared.kinds.Kind.{Kind}
use Rattle.lw_payload.specs.Views.{View, HomeView, IsOf}
use Rattle.lw_payload.specs.Calls.{IsMade, IsCut, IsShared, IsSameButRoom}

-- a payload that was made may be given with its Home
pub IsOf-made : (h k : HomeView) (kind : Kind) (text : List ℕ) (p : View) → k.pools ≡ h.pools → length text < 2 ^ 32 → IsMade h k kind text p → IsOf k p
IsOf-made h k kind text p pools small made = record {
  short = let e = ap length made.octets in omega arith;
  family = let f = ap (λ v. v.family) pools in made.family ∙ sym f;
  listed = λ s. let r = made.rows s in omega arith;
}

-- one that was cut may be given again
pub IsOf-cut : (h k : HomeView) (p q : View) (rest : List ℕ) → IsOf h p → length rest ≤ length p.octets → IsCut h k p q rest → IsOf k q
IsOf-cut h k p q rest of within cut = record {
  short = let e = ap length cut.octets in let small = of.short in omega arith;
  family = cut.family ∙ of.family ∙ sym (ap (λ v. v.family) cut.pools);
  listed = λ s. let r = cut.rows s in let l = of.listed s in let f = cut.fewer s in omega arith;
}

-- one that was given room, too
pub IsOf-room : (h : HomeView) (p q : View) → IsOf h p → IsSameButRoom p q → IsOf h q
IsOf-room h p q of same = record {
  short = let e = ap length same.octets in let small = of.short in omega arith;
  family = same.family ∙ of.family;
  listed = λ s. let r = same.rows s in let l = of.listed s in omega arith;
}

-- one that was shared, and its share
pub IsOf-shared : (h k : HomeView) (p q o : View) → IsOf h p → IsShared h k p q o → IsOf k q × IsOf k o
IsOf-shared h k p q o of shared =
    let family = ap (λ v. v.family) shared.pools in (
      record {
        short = let e = ap length shared.octets in let small = of.short in omega arith;
        family = shared.family ∙ of.family ∙ sym family;
        listed = λ s. let r = shared.rows s in let l = of.listed s in omega arith;
      },
      record {
        short = let e = ap length shared.other_octets in let small = of.short in omega arith;
        family = shared.other_family ∙ of.family ∙ sym family;
        listed = λ s. let r = shared.rows s in let l = of.listed s in omega arith;
      },
    )

-- a cut after a cut is one cut
pub IsCut-then : (h k l : HomeView) (p q r : View) (first second : List ℕ) → IsCut h k p q first → IsCut k l q r second → IsCut h l p r second
IsCut-then h k l p q r first second a b = record {
  octets = b.octets;
  parts = let x = a.parts in let y = b.parts in omega arith;
  room = let x = a.room in let y = b.room in omega arith;
  shares = let x = a.shares in let y = b.shares in omega arith;
  family = b.family ∙ a.family;
  fewer = λ s. let x = a.fewer s in let y = b.fewer s in omega arith;
  few = b.few;
  rows = λ s. let x = a.rows s in let y = b.rows s in omega arith;
  weight = let x = a.weight in let y = b.weight in omega arith;
  pools = b.pools ∙ a.pools;
  counts = b.counts ∙ a.counts;
}
