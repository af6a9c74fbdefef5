use Rattle.std.proofs.Common.{◌≡◌, ℕ, ◌-◌, List, [], ◌∷◌, ◌++◌, length, Option, refl, sym, ◌∙◌, subst, arith}
use Rattle.lw_payload.specs.Views.{View}
use Rattle.lw_payload.specs.Calls.{IsSameButRoom}
use Rattle.lw_runs.specs.Kept.{Stand, AreSameButRoom, Holds}
use Rattle.lw_runs.specs.Runs.{spread, InOrder, bodies_of}
use Rattle.lw_runs.specs.Lists.{FirstChanged}
use Rattle.lw_runs.specs.declared.run.Run.{Run}
use Rattle.lw_runs.proofs.HoldsLaws.{Holds-refl, Holds-append, Holds-room}

-- the payloads of runs in order stand in their octets
pub Stand-runs : {P : Type 0} (seen : P → View) (a : ℕ) (runs : List (Run P)) → InOrder seen a runs → Stand seen (spread seen a runs) (bodies_of runs)
Stand-runs seen a [] order = refl
Stand-runs seen a (r ∷ rs) order = let some = order.1 in let size = order.2 in (r.at - a, spread seen r.end rs, refl, omega arith, Stand-runs seen r.end rs order.3)

-- and so do others that have only other room
pub Stand-same : {P : Type 0} (seen : P → View) (octets : List (Option ℕ)) (ps qs : List P) → AreSameButRoom seen ps qs → Stand seen octets ps → Stand seen octets qs
Stand-same seen octets [] [] same stand = stand
Stand-same seen octets [] (q ∷ qs) same stand = absurd same
Stand-same seen octets (p ∷ ps) [] same stand = absurd same
Stand-same seen octets (p ∷ ps) (q ∷ qs) same stand =
    (stand.0, stand.1, stand.2 ∙ rw same.0.octets refl, rw same.0.octets stand.3, Stand-same seen stand.1 ps qs same.1 stand.4)

-- nothing changed
pub same-refl : {P : Type 0} (seen : P → View) (ps : List P) → AreSameButRoom seen ps ps
same-refl seen [] = tt
same-refl seen (p ∷ ps) =
    (record { octets = refl; parts = refl; shares = refl; fresh = refl; rows = λ s. refl; weight = refl; family = refl }, same-refl seen ps)

pub same-eq : {P : Type 0} (seen : P → View) (ps qs : List P) → qs ≡ ps → AreSameButRoom seen ps qs
same-eq {P} seen ps qs e = subst (λ (xs : List P). AreSameButRoom seen ps xs) (sym e) (same-refl seen ps)

-- side by side
pub same-append : {P : Type 0} (seen : P → View) (ps qs rs ss : List P) → AreSameButRoom seen ps qs → AreSameButRoom seen rs ss → AreSameButRoom seen (ps ++ rs) (qs ++ ss)
same-append seen [] [] rs ss a b = b
same-append seen [] (q ∷ qs) rs ss a b = absurd a
same-append seen (p ∷ ps) [] rs ss a b = absurd a
same-append seen (p ∷ ps) (q ∷ qs) rs ss a b = (a.0, same-append seen ps qs rs ss a.1 b)

-- the first payload of runs has only other room
pub same-changed : {P : Type 0} (seen : P → View) (before after : List (Run P)) → FirstChanged seen before after → AreSameButRoom seen (bodies_of before) (bodies_of after)
same-changed {P} seen [] after e = subst (λ (x : List (Run P)). AreSameButRoom seen [] (bodies_of x)) (sym e) tt
same-changed {P} seen (r ∷ rs) after (q, same, e) =
    subst (λ (x : List (Run P)). AreSameButRoom seen (r.body ∷ bodies_of rs) (bodies_of x)) (sym e) (same, same-refl seen (bodies_of rs))

-- they are as many
pub same-length : {P : Type 0} (seen : P → View) (ps qs : List P) → AreSameButRoom seen ps qs → length qs ≡ length ps
same-length seen [] [] same = refl
same-length seen [] (q ∷ qs) same = absurd same
same-length seen (p ∷ ps) [] same = absurd same
same-length seen (p ∷ ps) (q ∷ qs) same = let e = same-length seen ps qs same.1 in omega arith

-- and hold what they held
pub Holds-same : {P : Type 0} (seen : P → View) (ps qs : List P) → AreSameButRoom seen ps qs → Holds seen ps qs
Holds-same seen [] [] same = Holds-refl seen []
Holds-same seen [] (q ∷ qs) same = absurd same
Holds-same seen (p ∷ ps) [] same = absurd same
Holds-same seen (p ∷ ps) (q ∷ qs) same = Holds-append seen (p ∷ []) (q ∷ []) ps qs (Holds-room seen p q same.0) (Holds-same seen ps qs same.1)
