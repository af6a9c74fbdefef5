use Rattle.std.proofs.Common.{◌≡◌, ℕ, suc, ◌+◌, ◌<◌, ◌≤◌, Bool, true, false, not, nat_lt, if◌then◌else◌, List, [], ◌∷◌, ◌++◌, map, filter, length, get_or, set, take, drop, remove, refl, sym, ap, ◌∙◌, subst, arith, append_assoc}
use Rattle.std.specs.List.{All, zip}
use Rattle.std.proofs.lemmas.Bool.Decides.{nat_tests}
use Rattle.std.proofs.lemmas.List.{append-nil, take_more_set, take_all, drop_all, take_at, drop_at, drop-set-lt, drop_more, length-take, length-append, length-set, get_or_default}
use Rattle.std.proofs.lemmas.List.Elements.{All-cons, All-head, All-tail, All-same}
use Rattle.lw_payload.specs.Views.{View}
use Rattle.lw_runs.specs.Kept.{Holds}
use Rattle.lw_runs.proofs.HoldsLaws.{Holds-refl, Holds-then, Holds-front, Holds-back, Holds-swap}
use Rattle.lw_reass.specs.Datagrams.{Datagram, aged, older, stays, is_over}
use Rattle.lw_reass.specs.Opens.{datagram, bodies_in, kept_in, IsOpen, grown, overs, nexts}
use Rattle.lw_reass.specs.Table.{Reassembly, joined, all_kept, kept_where}
use Rattle.lw_reass.specs.declared.datagram.Open.{Open}
use Rattle.lw_reass.proofs.Tables.{joined-kept}

less : (m n : ℕ) → m < n → nat_lt m n ≡ true
less m n h = grind (arith, nat_tests)

not_less : (m n : ℕ) → n ≤ m → nat_lt m n ≡ false
not_less m n h = grind (arith, nat_tests)

-- the first stays, or is over
nexts_stays : {P H : Type 0} (o : Open P H) (os : List (Open P H)) → o.age + 1 < 60 → nexts (o ∷ os) ≡ record o { age = o.age + 1 } ∷ nexts os
nexts_stays o os young = let e : nat_lt (o.age + 1) 60 ≡ true = less (o.age + 1) 60 young in rw e refl

overs_stays : {P H : Type 0} (o : Open P H) (os : List (Open P H)) → o.age + 1 < 60 → overs (o ∷ os) ≡ overs os
overs_stays o os young = let e : nat_lt (o.age + 1) 60 ≡ true = less (o.age + 1) 60 young in rw e refl

nexts_over : {P H : Type 0} (o : Open P H) (os : List (Open P H)) → 60 ≤ o.age + 1 → nexts (o ∷ os) ≡ nexts os
nexts_over o os old = let e : nat_lt (o.age + 1) 60 ≡ false = not_less (o.age + 1) 60 old in rw e refl

overs_over : {P H : Type 0} (o : Open P H) (os : List (Open P H)) → 60 ≤ o.age + 1 → overs (o ∷ os) ≡ o ∷ overs os
overs_over o os old = let e : nat_lt (o.age + 1) 60 ≡ false = not_less (o.age + 1) 60 old in rw e refl

-- those that are over have no more payloads than all
bodies_step : {P H : Type 0} (b : Bool) (o : Open P H) (front all : List (Open P H)) → length (bodies_in front) ≤ length (bodies_in all) → length (bodies_in (if b then o ∷ front else front)) ≤ length (bodies_in (o ∷ all))
bodies_step true o front all le = let a = length-append o.runs.bodies (bodies_in front) in let b = length-append o.runs.bodies (bodies_in all) in omega arith
bodies_step false o front all le = let b = length-append o.runs.bodies (bodies_in all) in omega arith

bodies_overs : {P H : Type 0} (os : List (Open P H)) → length (bodies_in (overs os)) ≤ length (bodies_in os)
bodies_overs [] = omega arith
bodies_overs (o ∷ os) = bodies_step (is_over (datagram o)) o (overs os) os (bodies_overs os)

-- on the way through the open datagrams, of which those before place i are a tick older
pub record Aging {P H : Type 0} (seen : P → View) (before os : List (Open P H)) (i : ℕ) (gone_before gone : List P) (capacity : ℕ) : Type 0 where
  pub place : i ≤ length os
  pub opens : take i os ++ nexts (drop i os) ≡ nexts before
  pub given : gone ++ bodies_in (overs (drop i os)) ≡ gone_before ++ bodies_in (overs before)
  pub rest : All (IsOpen seen) (drop i os)
  pub room : length (gone_before ++ bodies_in (overs before)) ≤ capacity

pub aging_none : {P H : Type 0} (seen : P → View) (os : List (Open P H)) (gone : List P) (capacity : ℕ) → All (IsOpen seen) os → length gone + length (bodies_in os) ≤ capacity → Aging seen os os 0 gone gone capacity
aging_none seen os gone capacity all room = record {
  place = omega arith;
  opens = refl;
  given = refl;
  rest = all;
  room = let a = length-append gone (bodies_in (overs os)) in let b = bodies_overs os in omega arith;
}

-- the datagram at the place, and those behind it
next_at : {P H : Type 0} (os : List (Open P H)) (i : ℕ) (o : Open P H) → i < length os → o ≡ get_or os i o → drop i os ≡ o ∷ drop (i + 1) os
next_at os i o more is = drop_more os i o more ∙ ap (λ x. x ∷ drop (i + 1) os) (sym is)

-- the step past a datagram that stays
pub aging_stays : {P H : Type 0} (seen : P → View) (before os : List (Open P H)) (i : ℕ) (gone_before gone : List P) (capacity : ℕ) (o new : Open P H) → Aging seen before os i gone_before gone capacity
    → i < length os → o ≡ get_or os i o → new ≡ record o { age = o.age + 1 } → o.age + 1 < 60 → Aging seen before (set os i new) (i + 1) gone_before gone capacity
aging_stays {P} {H} seen before os i gone_before gone capacity o new aging more is e young =
    let next : drop i os ≡ o ∷ drop (i + 1) os = next_at os i o more is in
    let front : take (i + 1) (set os i new) ≡ take i os ++ new ∷ [] = take_more_set os i new more in
    let back : drop (i + 1) (set os i new) ≡ drop (i + 1) os = drop-set-lt (i + 1) os i new (omega arith) in
    let stay : nexts (drop i os) ≡ new ∷ nexts (drop (i + 1) os) = ap nexts next ∙ nexts_stays o (drop (i + 1) os) young ∙ ap (λ (x : Open P H). x ∷ nexts (drop (i + 1) os)) (sym e) in
    let over : overs (drop i os) ≡ overs (drop (i + 1) os) = ap overs next ∙ overs_stays o (drop (i + 1) os) young in
    let long = length-set os i new in
    record {
      place = omega arith;
      opens = rw (front, back) (append_assoc (take i os) (new ∷ []) (nexts (drop (i + 1) os)) ∙ ap (λ (xs : List (Open P H)). take i os ++ xs) (sym stay) ∙ aging.opens);
      given = ap (λ (xs : List (Open P H)). gone ++ bodies_in (overs xs)) back ∙ ap (λ (xs : List (Open P H)). gone ++ bodies_in xs) (sym over) ∙ aging.given;
      rest = All-same (IsOpen seen) (drop (i + 1) (set os i new)) (drop (i + 1) os) back (All-tail (IsOpen seen) o (drop (i + 1) os) (All-same (IsOpen seen) (o ∷ drop (i + 1) os) (drop i os) (sym next) aging.rest));
      room = aging.room;
    }

-- the step past one that is over
pub aging_ends : {P H : Type 0} (seen : P → View) (before os left : List (Open P H)) (i : ℕ) (gone_before gone more_gone : List P) (capacity : ℕ) (o : Open P H) → Aging seen before os i gone_before gone capacity
    → i < length os → o ≡ get_or os i o → left ≡ remove os i → more_gone ≡ gone ++ o.runs.bodies → 60 ≤ o.age + 1 → Aging seen before left i gone_before more_gone capacity
aging_ends {P} {H} seen before os left i gone_before gone more_gone capacity o aging more is e given old =
    let next : drop i os ≡ o ∷ drop (i + 1) os = next_at os i o more is in
    let size : length (take i os) ≡ i = let l = length-take i os in omega arith in
    let front : take i (take i os ++ drop (i + 1) os) ≡ take i os = take_at (take i os) (drop (i + 1) os) i size in
    let back : drop i (take i os ++ drop (i + 1) os) ≡ drop (i + 1) os = drop_at (take i os) (drop (i + 1) os) i size in
    let one : suc i ≡ i + 1 = omega arith in
    let out : left ≡ take i os ++ drop (i + 1) os = e ∙ ap (λ n. take i os ++ drop n os) one in
    let first : take i left ≡ take i os = ap (take i) out ∙ front in
    let last : drop i left ≡ drop (i + 1) os = ap (drop i) out ∙ back in
    let stay : nexts (drop i os) ≡ nexts (drop (i + 1) os) = ap nexts next ∙ nexts_over o (drop (i + 1) os) old in
    let over : overs (drop i os) ≡ o ∷ overs (drop (i + 1) os) = ap overs next ∙ overs_over o (drop (i + 1) os) old in
    let both : length left ≡ length (take i os) + length (drop (i + 1) os) = ap length out ∙ length-append (take i os) (drop (i + 1) os) in
    record {
      place = omega arith;
      opens = rw (first, last) (ap (λ (xs : List (Open P H)). take i os ++ xs) (sym stay) ∙ aging.opens);
      given =
          ap (λ (xs : List (Open P H)). more_gone ++ bodies_in (overs xs)) last ∙ ap (λ (ps : List P). ps ++ bodies_in (overs (drop (i + 1) os))) given
          ∙ append_assoc gone o.runs.bodies (bodies_in (overs (drop (i + 1) os))) ∙ ap (λ (xs : List (Open P H)). gone ++ bodies_in xs) (sym over) ∙ aging.given;
      rest = All-same (IsOpen seen) (drop i left) (drop (i + 1) os) last (All-tail (IsOpen seen) o (drop (i + 1) os) (All-same (IsOpen seen) (o ∷ drop (i + 1) os) (drop i os) (sym next) aging.rest));
      room = aging.room;
    }

-- all were looked at
pub aging_all : {P H : Type 0} (seen : P → View) (before os : List (Open P H)) (i : ℕ) (gone_before gone : List P) (capacity : ℕ) → Aging seen before os i gone_before gone capacity → length os ≤ i → os ≡ nexts before
aging_all {P} {H} seen before os i gone_before gone capacity aging done =
    let none : drop i os ≡ [] = drop_all i os done in
    let whole : take i os ++ nexts (drop i os) ≡ os = rw (take_all i os done, none) (append-nil os) in
    sym whole ∙ aging.opens

pub given_all : {P H : Type 0} (seen : P → View) (before os : List (Open P H)) (i : ℕ) (gone_before gone : List P) (capacity : ℕ) → Aging seen before os i gone_before gone capacity → length os ≤ i → gone ≡ gone_before ++ bodies_in (overs before)
given_all {P} {H} seen before os i gone_before gone capacity aging done =
    let none : drop i os ≡ [] = drop_all i os done in
    let whole : gone ++ bodies_in (overs (drop i os)) ≡ gone = rw none (append-nil gone) in
    sym whole ∙ aging.given

-- there is room for the payloads of one that is over
pub aging_room : {P H : Type 0} (seen : P → View) (before os : List (Open P H)) (i : ℕ) (gone_before gone : List P) (capacity : ℕ) (o : Open P H) → Aging seen before os i gone_before gone capacity → i < length os → o ≡ get_or os i o → 60 ≤ o.age + 1
    → length gone + length o.runs.bodies ≤ capacity
aging_room {P} {H} seen before os i gone_before gone capacity o aging more is old =
    let over : overs (drop i os) ≡ o ∷ overs (drop (i + 1) os) = ap overs (next_at os i o more is) ∙ overs_over o (drop (i + 1) os) old in
    let r = aging.room in let g = ap length aging.given in let a = length-append gone (bodies_in (overs (drop i os))) in
    let b = ap (λ (xs : List (Open P H)). length (bodies_in xs)) over in let c = length-append o.runs.bodies (bodies_in (overs (drop (i + 1) os))) in omega arith

-- one that is still looked at is young
pub aging_young : {P H : Type 0} (seen : P → View) (before os : List (Open P H)) (i : ℕ) (gone_before gone : List P) (capacity : ℕ) (o : Open P H) → Aging seen before os i gone_before gone capacity → i < length os → o ≡ get_or os i o → o.age < 60
aging_young {P} {H} seen before os i gone_before gone capacity o aging more is =
    (All-head (IsOpen seen) o (drop (i + 1) os) (All-same (IsOpen seen) (o ∷ drop (i + 1) os) (drop i os) (sym (next_at os i o more is)) aging.rest)).young

-- an element that is read twice has one age
pub same_age : {P H : Type 0} (os : List (Open P H)) (i : ℕ) (o p : Open P H) → i < length os → o ≡ get_or os i o → p ≡ get_or os i p → o.age ≡ p.age
same_age os i o p more is also = ap (λ x. x.age) (is ∙ get_or_default os i o p more ∙ sym also)

-- the datagrams that contracts see after a tick
nexts_seen : {P H : Type 0} (b : Bool) (o : Open P H) (rest : List (Open P H)) (ds : List Datagram) → map datagram (map grown rest) ≡ ds
    → map datagram (map grown (if b then o ∷ rest else rest)) ≡ (if b then older (datagram o) ∷ ds else ds)
nexts_seen true o rest ds e = ap (λ xs. older (datagram o) ∷ xs) e
nexts_seen false o rest ds e = e

pub nexts_datagrams : {P H : Type 0} (os : List (Open P H)) → map datagram (nexts os) ≡ aged (map datagram os)
nexts_datagrams [] = refl
nexts_datagrams (o ∷ os) = nexts_seen (nat_lt (o.age + 1) 60) o (filter (λ x. stays (datagram x)) os) (aged (map datagram os)) (nexts_datagrams os)

-- they are open still
each_step : {P H : Type 0} (seen : P → View) (b : Bool) (o : Open P H) (rest : List (Open P H)) → (b ≡ true → IsOpen seen (record o { age = o.age + 1 })) → All (IsOpen seen) (map grown rest)
    → All (IsOpen seen) (map grown (if b then o ∷ rest else rest))
each_step seen true o rest is all = All-cons (IsOpen seen) (record o { age = o.age + 1 }) (map grown rest) (is refl) all
each_step seen false o rest is all = all

young_of : (n : ℕ) → nat_lt n 60 ≡ true → n < 60
young_of n e = grind (arith, nat_tests)

pub nexts_each : {P H : Type 0} (seen : P → View) (os : List (Open P H)) → All (IsOpen seen) os → All (IsOpen seen) (nexts os)
nexts_each seen [] all = all
nexts_each seen (o ∷ os) all =
    let was = All-head (IsOpen seen) o os all in
    each_step seen (nat_lt (o.age + 1) 60) o (filter (λ x. stays (datagram x)) os) (λ e. record { young = young_of (o.age + 1) e; short = was.short; within = was.within; stand = was.stand }) (nexts_each seen os (All-tail (IsOpen seen) o os all))

-- no more than before
few_step : {P H : Type 0} (b : Bool) (o : Open P H) (rest all : List (Open P H)) → length (map grown rest) ≤ length all → length (map grown (if b then o ∷ rest else rest)) ≤ length (o ∷ all)
few_step true o rest all le = omega arith
few_step false o rest all le = omega arith

pub nexts_few : {P H : Type 0} (os : List (Open P H)) → length (nexts os) ≤ length os
nexts_few [] = omega arith
nexts_few (o ∷ os) = few_step (nat_lt (o.age + 1) 60) o (filter (λ x. stays (datagram x)) os) os (nexts_few os)

-- the payloads of those that pass a test
kept_step : {P H : Type 0} (b : Bool) (o : Open P H) (rest : List (Open P H)) (es : List (Datagram × List P)) → kept_in rest ≡ map (λ e. e.1) es → kept_in (if b then o ∷ rest else rest) ≡ map (λ e. e.1) (if b then (datagram o, o.runs.bodies) ∷ es else es)
kept_step true o rest es e = ap (λ ks. o.runs.bodies ∷ ks) e
kept_step false o rest es e = e

pub kept-filter : {P H : Type 0} (p : Datagram → Bool) (os : List (Open P H)) → kept_in (filter (λ o. p (datagram o)) os) ≡ map (λ e. e.1) (filter (λ e. p e.0) (zip (map datagram os) (kept_in os)))
kept-filter p [] = refl
kept-filter p (o ∷ os) = kept_step (p (datagram o)) o (filter (λ x. p (datagram x)) os) (filter (λ e. p e.0) (zip (map datagram os) (kept_in os))) (kept-filter p os)

pub kept-where : {P H : Type 0} (p : Datagram → Bool) (r : Reassembly P) (os : List (Open P H)) → map datagram os ≡ r.datagrams → kept_in os ≡ r.kept → kept_in (filter (λ o. p (datagram o)) os) ≡ kept_where p r
kept-where {P} p r os ds ks =
    kept-filter p os ∙ ap (λ (xs : List Datagram). map (λ (e : Datagram × List P). e.1) (filter (λ (e : Datagram × List P). p e.0) (zip xs (kept_in os)))) ds
    ∙ ap (λ (xs : List (List P)). map (λ (e : Datagram × List P). e.1) (filter (λ (e : Datagram × List P). p e.0) (zip r.datagrams xs))) ks

-- those of older datagrams
pub kept-older : {P H : Type 0} (os : List (Open P H)) → kept_in (map grown os) ≡ kept_in os
kept-older [] = refl
kept-older (o ∷ os) = ap (λ ks. o.runs.bodies ∷ ks) (kept-older os)

-- those that are over and those that stay hold what all held
one_stays : {P : Type 0} (seen : P → View) (here all over stay : List P) → Holds seen all (over ++ stay) → Holds seen (here ++ all) (over ++ (here ++ stay))
one_stays {P} seen here all over stay holds =
    let moved : Holds seen (here ++ (over ++ stay)) (over ++ (here ++ stay)) =
    subst (λ (ps : List P). Holds seen ps (over ++ (here ++ stay))) (append_assoc here over stay)
    (subst (λ (ps : List P). Holds seen (here ++ over ++ stay) ps) (append_assoc over here stay) (Holds-front seen (here ++ over) (over ++ here) stay (Holds-swap seen here over))) in
    Holds-then seen _ _ _ (Holds-back seen here all (over ++ stay) holds) moved

one_over : {P : Type 0} (seen : P → View) (here all over stay : List P) → Holds seen all (over ++ stay) → Holds seen (here ++ all) (here ++ over ++ stay)
one_over {P} seen here all over stay holds = subst (λ (ps : List P). Holds seen (here ++ all) ps) (sym (append_assoc here over stay)) (Holds-back seen here all (over ++ stay) holds)

holds_step : {P H : Type 0} (seen : P → View) (b : Bool) (o : Open P H) (os over stay : List (Open P H)) → Holds seen (bodies_in os) (bodies_in over ++ bodies_in (map grown stay))
    → Holds seen (o.runs.bodies ++ bodies_in os) (bodies_in (if not b then o ∷ over else over) ++ bodies_in (map grown (if b then o ∷ stay else stay)))
holds_step seen true o os over stay holds = one_stays seen o.runs.bodies (bodies_in os) (bodies_in over) (bodies_in (map grown stay)) holds
holds_step seen false o os over stay holds = one_over seen o.runs.bodies (bodies_in os) (bodies_in over) (bodies_in (map grown stay)) holds

pub holds_aged : {P H : Type 0} (seen : P → View) (os : List (Open P H)) → Holds seen (bodies_in os) (bodies_in (overs os) ++ bodies_in (nexts os))
holds_aged seen [] = Holds-refl seen []
holds_aged seen (o ∷ os) = holds_step seen (nat_lt (o.age + 1) 60) o os (overs os) (filter (λ x. stays (datagram x)) os) (holds_aged seen os)

-- what contracts see of a tick
pub kept_aged : {P H : Type 0} (r : Reassembly P) (os after : List (Open P H)) → map datagram os ≡ r.datagrams → kept_in os ≡ r.kept → after ≡ nexts os → kept_in after ≡ kept_where stays r
kept_aged r os after ds ks e = ap kept_in e ∙ kept-older (filter (λ o. stays (datagram o)) os) ∙ kept-where stays r os ds ks

pub over_aged : {P H : Type 0} (r : Reassembly P) (os : List (Open P H)) → map datagram os ≡ r.datagrams → kept_in os ≡ r.kept → bodies_in (overs os) ≡ joined (kept_where is_over r)
over_aged r os ds ks = sym (joined-kept (overs os)) ∙ ap joined (kept-where is_over r os ds ks)

pub holds_all : {P H : Type 0} (seen : P → View) (r : Reassembly P) (os after : List (Open P H)) → map datagram os ≡ r.datagrams → kept_in os ≡ r.kept → after ≡ nexts os → Holds seen (all_kept r) (joined (kept_where is_over r) ++ joined (kept_in after))
holds_all {P} seen r os after ds ks e =
    let left : bodies_in (nexts os) ≡ joined (kept_in after) = sym (joined-kept (nexts os)) ∙ ap (λ (xs : List (Open P _)). joined (kept_in xs)) (sym e) in
    subst (λ (ps : List P). Holds seen ps (joined (kept_where is_over r) ++ joined (kept_in after))) (sym (joined-kept os) ∙ ap joined ks)
    (subst (λ (ps : List P). Holds seen (bodies_in os) (ps ++ joined (kept_in after))) (over_aged r os ds ks)
    (subst (λ (ps : List P). Holds seen (bodies_in os) (bodies_in (overs os) ++ ps)) left (holds_aged seen os)))
