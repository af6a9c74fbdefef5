-- The packets that wait at entries, given up one after another.
use Rattle.std.proofs.Common.{◌≡◌, ◌++◌, List, [], ◌∷◌, Option, Some, None, option_to_list, refl, sym, subst, ap}
use Rattle.std.specs.List.{cons_option}
use Rattle.lw_payload.specs.Views.{View, HomeView, Pools}
use Rattle.lw_payload.specs.Totals.{total, IsOwned, Moves}
use Rattle.lw_payload.proofs.TotalLaws.{IsOwned-moved, Moves-then}
use Rattle.lw_arp.specs.declared.entries.ArpEntry.{ArpEntry}
use Rattle.lw_arp.specs.Neighbours.{packets}
use Rattle.lw_layers.proofs.MoveLaws.{IsOwned-by, IsOwned-front, Moves-by, Moves-front}

-- one more or none in front of a list
in_front : {P : Type 0} (o : Option P) (ps : List P) → cons_option o ps ≡ option_to_list o ++ ps
in_front None ps = refl
in_front (Some p) ps = refl

-- the packets of entries: that of the first, and those behind it
packets-first : {P : Type 0} (e : ArpEntry P) (es : List (ArpEntry P)) → packets (e ∷ es) ≡ option_to_list e.packet ++ packets es
packets-first e es = in_front e.packet (packets es)

-- what is left, with the packet of the first entry in front
left_by : {P : Type 0} (seen : P → View) (h k : HomeView) (all rest es : List (ArpEntry P)) (e : ArpEntry P) → rest ≡ e ∷ es
    → Moves h k (total seen h.pools.family (packets all)) (total seen h.pools.family (packets rest))
    → Moves h k (total seen h.pools.family (packets all)) (total seen h.pools.family (option_to_list e.packet ++ packets es))
left_by {P} seen h k all rest es e is moved =
    subst (λ (ps : List P). Moves h k (total seen h.pools.family (packets all)) (total seen h.pools.family ps)) (packets-first e es)
    (subst (λ (x : List (ArpEntry P)). Moves h k (total seen h.pools.family (packets all)) (total seen h.pools.family (packets x))) is moved)

-- that packet may be given
pub entry_owned : {P : Type 0} (seen : P → View) (h k : HomeView) (all rest es : List (ArpEntry P)) (e : ArpEntry P) → rest ≡ e ∷ es → IsOwned h (total seen h.pools.family (packets all))
    → Moves h k (total seen h.pools.family (packets all)) (total seen h.pools.family (packets rest))
    → IsOwned k (total seen k.pools.family (option_to_list e.packet))
entry_owned seen h k all rest es e is owned moved =
    let left = left_by seen h k all rest es e is moved in
    IsOwned-by seen k.pools.family h.pools.family k (option_to_list e.packet) (sym (ap (λ (p : Pools). p.family) moved.pools))
    (IsOwned-front seen h.pools.family k (option_to_list e.packet) (packets es)
    (IsOwned-moved h k (total seen h.pools.family (packets all)) (total seen h.pools.family (option_to_list e.packet ++ packets es)) owned left))

-- and when it was spent, those behind it are left
pub entry_moves : {P : Type 0} (seen : P → View) (h k l : HomeView) (all rest es : List (ArpEntry P)) (e : ArpEntry P) → rest ≡ e ∷ es
    → Moves h k (total seen h.pools.family (packets all)) (total seen h.pools.family (packets rest))
    → Moves k l (total seen k.pools.family (option_to_list e.packet)) (total seen k.pools.family [])
    → Moves h l (total seen h.pools.family (packets all)) (total seen h.pools.family (packets es))
entry_moves seen h k l all rest es e is moved spent =
    Moves-then h k l (total seen h.pools.family (packets all)) (total seen h.pools.family (option_to_list e.packet ++ packets es)) (total seen h.pools.family (packets es))
    (left_by seen h k all rest es e is moved)
    (Moves-front seen h.pools.family k l (option_to_list e.packet) [] (packets es)
    (Moves-by seen h.pools.family k.pools.family k l (option_to_list e.packet) [] (ap (λ (p : Pools). p.family) moved.pools) spent))

-- All that a stack holds, given up in two parts

-- the first part may be given
pub first_part_owned : {P : Type 0} (seen : P → View) (h : HomeView) (all ps qs rs : List P) → all ≡ ps ++ qs → rs ≡ ps → IsOwned h (total seen h.pools.family all) → IsOwned h (total seen h.pools.family rs)
first_part_owned {P} seen h all ps qs rs is first owned =
    subst (λ (x : List P). IsOwned h (total seen h.pools.family x)) (sym first)
    (IsOwned-front seen h.pools.family h ps qs (subst (λ (x : List P). IsOwned h (total seen h.pools.family x)) is owned))

-- when it was spent, the second part is left
second_part : {P : Type 0} (seen : P → View) (h k : HomeView) (all ps qs rs : List P) → all ≡ ps ++ qs → rs ≡ ps → Moves h k (total seen h.pools.family rs) (total seen h.pools.family []) → Moves h k (total seen h.pools.family all) (total seen h.pools.family qs)
second_part {P} seen h k all ps qs rs is first moved =
    subst (λ (x : List P). Moves h k (total seen h.pools.family x) (total seen h.pools.family qs)) (sym is)
    (Moves-front seen h.pools.family h k ps [] qs (subst (λ (x : List P). Moves h k (total seen h.pools.family x) (total seen h.pools.family [])) first moved))

-- it may be given too
pub second_part_owned : {P : Type 0} (seen : P → View) (h k : HomeView) (all ps qs rs ss : List P) → all ≡ ps ++ qs → rs ≡ ps → ss ≡ qs → IsOwned h (total seen h.pools.family all)
    → Moves h k (total seen h.pools.family rs) (total seen h.pools.family [])
    → IsOwned k (total seen k.pools.family ss)
second_part_owned {P} seen h k all ps qs rs ss is first second owned moved =
    let left = second_part seen h k all ps qs rs is first moved in
    subst (λ (x : List P). IsOwned k (total seen k.pools.family x)) (sym second)
    (IsOwned-by seen k.pools.family h.pools.family k qs (sym (ap (λ (p : Pools). p.family) left.pools))
    (IsOwned-moved h k (total seen h.pools.family all) (total seen h.pools.family qs) owned left))

-- and when it was spent, nothing is left
pub both_parts : {P : Type 0} (seen : P → View) (h k l : HomeView) (all ps qs rs ss : List P) → all ≡ ps ++ qs → rs ≡ ps → ss ≡ qs
    → Moves h k (total seen h.pools.family rs) (total seen h.pools.family [])
    → Moves k l (total seen k.pools.family ss) (total seen k.pools.family [])
    → Moves h l (total seen h.pools.family all) (total seen h.pools.family [])
both_parts {P} seen h k l all ps qs rs ss is first second moved spent =
    let left = second_part seen h k all ps qs rs is first moved in
    Moves-then h k l (total seen h.pools.family all) (total seen h.pools.family qs) (total seen h.pools.family []) left
    (Moves-by seen h.pools.family k.pools.family k l qs [] (ap (λ (p : Pools). p.family) left.pools)
    (subst (λ (x : List P). Moves k l (total seen k.pools.family x) (total seen k.pools.family [])) second spent))
