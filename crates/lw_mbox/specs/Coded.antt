-- Trails as data that a ghost field can hold.
use Rattle.std.specs.Prelude.{◌≡◌, ℕ, true, false, cond, eqb, List, [], ◌∷◌, refl}
use mathlib.Core.Path.{◌∙◌, ap}
use base.Stored.{Coded, coded_ℕ, coded_list, coded×, coded_via}
use Rattle.lw_mbox.specs.Trail.{Trail, start, saw, met, both}

-- what makes a trail of the one or two made last, with its numbers
abbrev Op : Type 0
Op = ℕ × ℕ × ℕ × ℕ

abbrev one : (Trail → Trail) → List Trail → List Trail
one f [] = []
one f (t ∷ ts) = f t ∷ ts

abbrev two : List Trail → List Trail
two [] = []
two (u ∷ []) = []
two (u ∷ (t ∷ ts)) = both t u ∷ ts

abbrev act : Op → List Trail → List Trail
act o ts = cond (eqb o.0 0) (start ∷ ts) (cond (eqb o.0 1) (one (λ t. saw t record { posted = o.1; claimed = o.2; flags = o.3 }) ts)
    (cond (eqb o.0 2) (one (λ t. met t o.1 (eqb o.2 1)) ts) (two ts)))

abbrev run : List Op → List Trail → List Trail
run [] ts = ts
run (o ∷ os) ts = run os (act o ts)

abbrev ops : Trail → List Op → List Op
ops start os = (0, 0, 0, 0) ∷ os
ops (saw t w) os = ops t ((1, w.posted, w.claimed, w.flags) ∷ os)
ops (met t n closed) os = ops t ((2, n, cond closed 1 0, 0) ∷ os)
ops (both t u) os = ops t (ops u ((3, 0, 0, 0) ∷ os))

run_ops : (t : Trail) (os : List Op) (ts : List Trail) → run (ops t os) ts ≡ run os (t ∷ ts)
run_ops start os ts = refl
run_ops (saw t w) os ts = run_ops t _ ts
run_ops (met t n true) os ts = run_ops t _ ts
run_ops (met t n false) os ts = run_ops t _ ts
run_ops (both t u) os ts = run_ops t _ ts ∙ run_ops u _ (t ∷ ts)

abbrev first : List Trail → Trail
first [] = start
first (t ∷ ts) = t

pub ops-injective : (t u : Trail) → ops t [] ≡ ops u [] → t ≡ u
ops-injective t u e = ap first (mathlib.Core.Path.sym (run_ops t [] [])) ∙ ap (λ (os : List Op). first (run os [])) e ∙ ap first (run_ops u [] [])

abbrev coded_op : Coded Op
coded_op = coded_via (coded× coded_ℕ (coded× coded_ℕ (coded× coded_ℕ coded_ℕ))) (λ (o : Op). (o.0, (o.1, (o.2, o.3)))) (λ x y e i. ((e i).0, (e i).1.0, (e i).1.1.0, (e i).1.1.1))

abbrev pub trail_coded : Coded Trail
trail_coded = coded_via (coded_list coded_op) (λ (t : Trail). ops t []) ops-injective
