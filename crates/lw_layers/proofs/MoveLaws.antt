-- What a stack holds, as payloads move between it and their Home.
use Rattle.std.proofs.Common.{append-nil, ◌≡◌, ℕ, ◌++◌, ◌∙◌, List, [], ap, subst, arith}
use Rattle.std.specs.List.{sum_by}
use Rattle.lw_payload.specs.Views.{View, HomeView, Pools}
use Rattle.lw_payload.specs.Totals.{Total, total, IsSum, IsOwned, Moves}
use Rattle.lw_payload.proofs.TotalLaws.{IsSum-append, IsSum-swap, IsOwned-left, IsOwned-right, IsOwned-moved, IsOwned-same, IsSameTotal-alike, Moves-beside, Moves-same, Moves-then}

-- the family stays, so what is said by the family of a later Home is said by that of the first
pub Moves-by : {P : Type 0} (seen : P → View) (f g : List ℕ) (h k : HomeView) (ps qs : List P) → g ≡ f → Moves h k (total seen g ps) (total seen g qs) → Moves h k (total seen f ps) (total seen f qs)
Moves-by seen f g h k ps qs e m = subst (λ (x : List ℕ). Moves h k (total seen x ps) (total seen x qs)) e m

pub IsOwned-by : {P : Type 0} (seen : P → View) (f g : List ℕ) (h : HomeView) (ps : List P) → g ≡ f → IsOwned h (total seen g ps) → IsOwned h (total seen f ps)
IsOwned-by seen f g h ps e o = subst (λ (x : List ℕ). IsOwned h (total seen x ps)) e o

pub family_of : (h k : HomeView) (t u : Total) → Moves h k t u → k.pools.family ≡ h.pools.family
family_of h k t u m = ap (λ (p : Pools). p.family) m.pools

-- some moved while others stood behind them
pub Moves-front : {P : Type 0} (seen : P → View) (f : List ℕ) (h k : HomeView) (ps qs rs : List P) → Moves h k (total seen f ps) (total seen f qs) → Moves h k (total seen f (ps ++ rs)) (total seen f (qs ++ rs))
Moves-front seen f h k ps qs rs m =
    Moves-beside h k (total seen f ps) (total seen f qs) (total seen f rs) (total seen f (ps ++ rs)) (total seen f (qs ++ rs)) m (IsSum-append seen f ps rs) (IsSum-append seen f qs rs)

-- or before them
pub Moves-back : {P : Type 0} (seen : P → View) (f : List ℕ) (h k : HomeView) (ps qs rs : List P) → Moves h k (total seen f ps) (total seen f qs) → Moves h k (total seen f (rs ++ ps)) (total seen f (rs ++ qs))
Moves-back seen f h k ps qs rs m =
    Moves-beside h k (total seen f ps) (total seen f qs) (total seen f rs) (total seen f (rs ++ ps)) (total seen f (rs ++ qs)) m
    (IsSum-swap (total seen f (rs ++ ps)) (total seen f rs) (total seen f ps) (IsSum-append seen f rs ps))
    (IsSum-swap (total seen f (rs ++ qs)) (total seen f rs) (total seen f qs) (IsSum-append seen f rs qs))

pub IsOwned-front : {P : Type 0} (seen : P → View) (f : List ℕ) (h : HomeView) (ps qs : List P) → IsOwned h (total seen f (ps ++ qs)) → IsOwned h (total seen f ps)
IsOwned-front seen f h ps qs o = IsOwned-left h (total seen f (ps ++ qs)) (total seen f ps) (total seen f qs) (IsSum-append seen f ps qs) o

pub IsOwned-back : {P : Type 0} (seen : P → View) (f : List ℕ) (h : HomeView) (ps qs : List P) → IsOwned h (total seen f (ps ++ qs)) → IsOwned h (total seen f qs)
IsOwned-back seen f h ps qs o = IsOwned-right h (total seen f (ps ++ qs)) (total seen f ps) (total seen f qs) (IsSum-append seen f ps qs) o

-- three lists are the first and the last, and the one between
pub IsSum-between : {P : Type 0} (seen : P → View) (f : List ℕ) (ps qs rs : List P) → IsSum (total seen f (ps ++ (qs ++ rs))) (total seen f (ps ++ rs)) (total seen f qs)
IsSum-between seen f ps qs rs =
    let all = IsSum-append seen f ps (qs ++ rs) in
    let behind = IsSum-append seen f qs rs in
    let outer = IsSum-append seen f ps rs in
    record {
      rows = λ s. let a = all.rows s in let b = behind.rows s in let c = outer.rows s in omega arith;
      weight = let a = all.weight in let b = behind.weight in let c = outer.weight in omega arith;
      strangers = let a = all.strangers in let b = behind.strangers in let c = outer.strangers in omega arith;
    }

-- the first and the last moved while others stood between them
pub Moves-around : {P : Type 0} (seen : P → View) (f : List ℕ) (h k : HomeView) (ps qs rs ss : List P) → Moves h k (total seen f (ps ++ rs)) (total seen f ss) → Moves h k (total seen f (ps ++ (qs ++ rs))) (total seen f (qs ++ ss))
Moves-around seen f h k ps qs rs ss m =
    Moves-beside h k (total seen f (ps ++ rs)) (total seen f ss) (total seen f qs) (total seen f (ps ++ (qs ++ rs))) (total seen f (qs ++ ss)) m
    (IsSum-between seen f ps qs rs)
    (IsSum-swap (total seen f (qs ++ ss)) (total seen f qs) (total seen f ss) (IsSum-append seen f qs ss))

pub IsOwned-around : {P : Type 0} (seen : P → View) (f : List ℕ) (h : HomeView) (ps qs rs : List P) → IsOwned h (total seen f (ps ++ (qs ++ rs))) → IsOwned h (total seen f (ps ++ rs))
IsOwned-around seen f h ps qs rs o = IsOwned-left h (total seen f (ps ++ (qs ++ rs))) (total seen f (ps ++ rs)) (total seen f qs) (IsSum-between seen f ps qs rs) o

-- the second before the first, and the last
IsSum-turned : {P : Type 0} (seen : P → View) (f : List ℕ) (ps qs rs : List P) → IsSum (total seen f (ps ++ (qs ++ rs))) (total seen f (qs ++ ps)) (total seen f rs)
IsSum-turned seen f ps qs rs =
    let all = IsSum-append seen f ps (qs ++ rs) in
    let behind = IsSum-append seen f qs rs in
    let outer = IsSum-append seen f qs ps in
    record {
      rows = λ s. let a = all.rows s in let b = behind.rows s in let c = outer.rows s in omega arith;
      weight = let a = all.weight in let b = behind.weight in let c = outer.weight in omega arith;
      strangers = let a = all.strangers in let b = behind.strangers in let c = outer.strangers in omega arith;
    }

pub Moves-turned : {P : Type 0} (seen : P → View) (f : List ℕ) (h k : HomeView) (ps qs rs ss : List P) → Moves h k (total seen f (qs ++ ps)) (total seen f ss) → Moves h k (total seen f (ps ++ (qs ++ rs))) (total seen f (ss ++ rs))
Moves-turned seen f h k ps qs rs ss m =
    Moves-beside h k (total seen f (qs ++ ps)) (total seen f ss) (total seen f rs) (total seen f (ps ++ (qs ++ rs))) (total seen f (ss ++ rs)) m
    (IsSum-turned seen f ps qs rs) (IsSum-append seen f ss rs)

pub IsOwned-turned : {P : Type 0} (seen : P → View) (f : List ℕ) (h : HomeView) (ps qs rs : List P) → IsOwned h (total seen f (ps ++ (qs ++ rs))) → IsOwned h (total seen f (qs ++ ps))
IsOwned-turned seen f h ps qs rs o = IsOwned-left h (total seen f (ps ++ (qs ++ rs))) (total seen f (qs ++ ps)) (total seen f rs) (IsSum-turned seen f ps qs rs) o

-- Payloads that tables give back

-- those that are behind others may be given
pub IsOwned-spent : {P : Type 0} (seen : P → View) (f : List ℕ) (h k : HomeView) (ps qs : List P) → IsOwned h (total seen f (ps ++ qs)) → Moves h k (total seen f ps) (total seen f []) → IsOwned k (total seen f qs)
IsOwned-spent seen f h k ps qs o m = IsOwned-moved h k (total seen f (ps ++ qs)) (total seen f qs) o (Moves-front seen f h k ps [] qs m)

-- what a table gave back may be given, the first
pub first_owned : {P : Type 0} (seen : P → View) (f : List ℕ) (h : HomeView) (old new sent gone : List P) → IsOwned h (total seen f old) → ((w : P → ℕ) → sum_by w ((new ++ sent) ++ gone) ≡ sum_by w old) → IsOwned h (total seen f sent)
first_owned seen f h old new sent gone o alike =
    let all = IsOwned-same h (total seen f old) (total seen f ((new ++ sent) ++ gone)) (IsSameTotal-alike seen f old ((new ++ sent) ++ gone) alike) o in
    IsOwned-back seen f h new sent (IsOwned-front seen f h (new ++ sent) gone all)

-- the first was spent
first_moves : {P : Type 0} (seen : P → View) (f : List ℕ) (h k : HomeView) (old new sent gone : List P) → ((w : P → ℕ) → sum_by w ((new ++ sent) ++ gone) ≡ sum_by w old) → Moves h k (total seen f sent) (total seen f []) → Moves h k (total seen f old) (total seen f ((new ++ []) ++ gone))
first_moves seen f h k old new sent gone alike m =
    Moves-then h h k (total seen f old) (total seen f ((new ++ sent) ++ gone)) (total seen f ((new ++ []) ++ gone))
    (Moves-same h (total seen f old) (total seen f ((new ++ sent) ++ gone)) (IsSameTotal-alike seen f old ((new ++ sent) ++ gone) alike))
    (Moves-front seen f h k (new ++ sent) (new ++ []) gone (Moves-back seen f h k sent [] new m))

-- then the second may be given
pub second_owned : {P : Type 0} (seen : P → View) (f : List ℕ) (h k : HomeView) (old new sent gone : List P) → IsOwned h (total seen f old) → ((w : P → ℕ) → sum_by w ((new ++ sent) ++ gone) ≡ sum_by w old) → Moves h k (total seen f sent) (total seen f []) → IsOwned k (total seen f gone)
second_owned seen f h k old new sent gone o alike m =
    IsOwned-back seen f k (new ++ []) gone (IsOwned-moved h k (total seen f old) (total seen f ((new ++ []) ++ gone)) o (first_moves seen f h k old new sent gone alike m))

-- and when it was spent too, the table is left
pub both_moves : {P : Type 0} (seen : P → View) (f : List ℕ) (h k l : HomeView) (old new sent gone : List P) → ((w : P → ℕ) → sum_by w ((new ++ sent) ++ gone) ≡ sum_by w old) → Moves h k (total seen f sent) (total seen f []) → Moves k l (total seen f gone) (total seen f []) → Moves h l (total seen f old) (total seen f new)
both_moves {P} seen f h k l old new sent gone alike one two =
    subst (λ (ps : List P). Moves h l (total seen f old) (total seen f ps)) (append-nil (new ++ []) ∙ append-nil new)
    (Moves-then h k l (total seen f old) (total seen f ((new ++ []) ++ gone)) (total seen f ((new ++ []) ++ []))
    (first_moves seen f h k old new sent gone alike one) (Moves-back seen f k l gone [] (new ++ []) two))
