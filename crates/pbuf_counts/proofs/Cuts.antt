-- Holders that are cut in two and joined keep the rule.
use Rattle.std.proofs.Common.{◌≡◌, ℕ, ◌+◌, ◌-◌, ◌<◌, ◌≤◌, cond, eqb, List, [], ◌++◌, refl, sym, ◌∙◌, arith}
use mathlib.Core.Logic.{dite}
use native.Mathlib.Decide.{ℕ_discrete}
use Rattle.std.proofs.lemmas.List.Sums.{sum_by-append}
use Rattle.atomic_table.specs.Table.{State, Splits, Joins}
use Rattle.atomic_table.proofs.Lists.{set_else}
use Rattle.pbuf_counts.specs.declared.rule.View.{View}
use Rattle.pbuf_counts.specs.Owners.{claim_weight, part_weight, first_adds, owner, idle, owns, may_own}
use Rattle.pbuf_counts.specs.Rule.{Ruled}
use Rattle.pbuf_counts.proofs.Holdings.{owns_here, owns_else, owns_none, may_here, may_else, may_none, fits_at}
use Rattle.pbuf_counts.proofs.Keeps.{divides, unites}

none_of : (a b : ℕ) → a + b ≡ 0 → (a ≡ 0) × (b ≡ 0)
none_of a b e = (omega arith, omega arith)

module _ {S : Type 0} (n : ℕ) where
  abbrev Rule : State S View → Type 0
  Rule = Ruled n

  -- the pbuf that was claimed goes to a holder of its own
  pub births : (id : ℕ) (v : View) → v.owners ≡ 1 → v.adds ≡ first_adds → v.rights ≡ 1 → claim_weight < v.weight
      → Splits Rule id v (record v { place = 0; owners = 0; adds = 0; weight = v.weight - claim_weight }) (owner v.place first_adds claim_weight)
  births id v one adds right heavy s r at = let l : View = record v { place = 0; owners = 0; adds = 0; weight = v.weight - claim_weight } in let u : View = owner v.place first_adds claim_weight in
      let owns_same : (k : ℕ) → owns k v ≡ owns k u = λ k i. cond (eqb v.place k) (one i) 0 in let may_same : (k : ℕ) → may_own k v ≡ may_own k u = λ k i. cond (eqb v.place k) (one i + adds i) 0 in
      divides n s r id v l u at record { idle = λ _. refl; heavy = omega arith; gone = λ z. absurd (omega arith); bare = λ z. absurd (omega arith) }
      record { idle = λ z. absurd (omega arith); heavy = omega arith; gone = λ z. absurd (omega arith); bare = λ _. refl }
      (λ k. let a = owns_none k l refl in let b = owns_same k in omega arith) (λ k. let a = may_none k l refl refl in let b = may_same k in omega arith)
      (λ k. omega arith) (λ k. omega arith) (omega arith) (omega arith)

  -- one of two owners goes to a holder of its own, with so many adds
  pub cuts : (id : ℕ) (v : View) (adds : ℕ) → v.owners ≡ 2 → adds ≤ v.adds
      → Splits Rule id v (record v { owners = 1; adds = v.adds - adds; weight = v.weight - (adds + 1) }) (owner v.place adds (adds + 1))
  cuts id v adds two enough s r at = let l : View = record v { owners = 1; adds = v.adds - adds; weight = v.weight - (adds + 1) } in let u : View = owner v.place adds (adds + 1) in let f = fits_at s.views id v r.list.each at in let heavy = f.heavy in
      divides n s r id v l u at record { idle = λ z. absurd (omega arith); heavy = omega arith; gone = λ z. absurd (omega arith); bare = f.bare }
      record { idle = λ z. absurd (omega arith); heavy = omega arith; gone = λ z. absurd (omega arith); bare = λ _. refl }
      (λ k. dite (ℕ_discrete v.place k) (λ e. let a = owns_here k v e in let b = owns_here k l e in let c = owns_here k u e in omega arith) (λ e. let a = owns_else k v e in let b = owns_else k l e in let c = owns_else k u e in omega arith))
      (λ k. dite (ℕ_discrete v.place k) (λ e. let a = may_here k v e in let b = may_here k l e in let c = may_here k u e in omega arith) (λ e. let a = may_else k v e in let b = may_else k l e in let c = may_else k u e in omega arith))
      (λ k. omega arith) (λ k. omega arith) (omega arith) (omega arith)

  -- a second idle holder
  pub parts : (id : ℕ) (v : View) → v.owners ≡ 0 → part_weight < v.weight → Splits Rule id v (record v { weight = v.weight - part_weight }) (idle part_weight 0 [])
  parts id v none heavy s r at = let l : View = record v { weight = v.weight - part_weight } in let u : View = idle part_weight 0 [] in let f = fits_at s.views id v r.list.each at in let no_adds = f.idle none in
      divides n s r id v l u at record { idle = f.idle; heavy = omega arith; gone = λ z. absurd (omega arith); bare = f.bare }
      record { idle = λ _. refl; heavy = omega arith; gone = λ z. absurd (omega arith); bare = λ _. refl }
      (λ k. let a = owns_none k u refl in omega arith) (λ k. let a = may_none k u refl refl in omega arith)
      (λ k. omega arith) (λ k. omega arith) (omega arith) (omega arith)

  -- a second idle holder, which gets the right to claim
  pub parts_right : (id : ℕ) (v : View) → v.owners ≡ 0 → v.rights ≡ 1 → part_weight < v.weight
      → Splits Rule id v (record v { weight = v.weight - part_weight; rights = 0; got = [] }) (idle part_weight 1 v.got)
  parts_right id v none right heavy s r at = let l : View = record v { weight = v.weight - part_weight; rights = 0; got = [] } in let u : View = idle part_weight 1 v.got in let f = fits_at s.views id v r.list.each at in let no_adds = f.idle none in
      divides n s r id v l u at record { idle = f.idle; heavy = omega arith; gone = λ z. absurd (omega arith); bare = λ _. refl }
      record { idle = λ _. refl; heavy = omega arith; gone = λ z. absurd (omega arith); bare = λ z. absurd (omega arith) }
      (λ k. let a = owns_none k u refl in omega arith) (λ k. let a = may_none k u refl refl in omega arith)
      (λ k. omega arith) (λ k. omega arith) (omega arith) (omega arith)

  -- an idle holder becomes part of another
  pub joins : (id other : ℕ) (v w : View) → w.owners ≡ 0
      → Joins Rule id v other w (record v { weight = v.weight + w.weight; rights = v.rights + w.rights; got = w.got ++ v.got; ended = w.ended ++ v.ended; found = w.found ++ v.found }) (idle 0 0 [])
  joins id other v w none s r at apart there = let b : View = record v { weight = v.weight + w.weight; rights = v.rights + w.rights; got = w.got ++ v.got; ended = w.ended ++ v.ended; found = w.found ++ v.found } in
      let f = fits_at s.views id v r.list.each at in let g = fits_at s.views other w r.list.each (sym (set_else s.views id other b apart) ∙ there) in let heavy = f.heavy in
      let appended = λ (k : ℕ) (xs ys : List ℕ). sum_by-append (λ (x : ℕ). cond (eqb x k) 1 0) xs ys in
      unites n s r id other v w b at apart there record {
        idle = f.idle;
        heavy = omega arith;
        gone = λ z. let t = none_of v.weight w.weight z in let a = (f.gone t.0).0 in let c = (g.gone t.1).0 in (omega arith, λ i. (g.gone t.1).1 i ++ (f.gone t.0).1 i);
        bare = λ z. let t = none_of v.rights w.rights z in (λ i. g.bare t.1 i ++ f.bare t.0 i);
      }
      (λ k. let a = owns_none k w none in omega arith) (λ k. let a = may_none k w none (g.idle none) in omega arith)
      (λ k. let a = appended k w.got v.got in omega arith) (λ k. let a = appended k w.ended v.ended in omega arith) refl refl
