use Rattle.std.proofs.Common.{◌≡◌, ℕ, suc, ◌<◌, ◌≤◌, List, [], ◌++◌, map, length, get_or, set, take, drop, Option, Result, Ok, Err, OnOk, sym, ap, ◌∙◌, subst, arith}
use Rattle.std.specs.List.{All}
use Rattle.std.proofs.Math.Seq.{map-set_same}
use Rattle.std.proofs.lemmas.List.{get_or-set_same, get_or-map, length-set, length-map, get_or_past}
use Rattle.std.proofs.lemmas.List.Elements.{All-set}
use Rattle.lw_payload.specs.Views.{View}
use Rattle.lw_runs.specs.Kept.{Kept as KeptBy, AreSameButRoom, CanJoin, Stand}
use Rattle.lw_runs.proofs.Stands.{same-append, same-refl, Stand-same}
use Rattle.lw_reass.specs.Opens.{datagram, bodies_in, kept_in, kept_at, rooms_in, IsOpen}
use Rattle.lw_reass.specs.declared.datagram.Open.{Open}
use Rattle.lw_reass.proofs.Tables.{split_bodies, set_bodies}

-- a datagram whose runs have the same octets is the same, and open still
same_datagram : {P H : Type 0} (o new : Open P H) (runs : KeptBy P) → new ≡ record o { runs = runs } → runs.octets ≡ o.runs.octets → datagram new ≡ datagram o
same_datagram o new runs e same = ap datagram e ∙ ap (λ octets. record { key = o.key; age = o.age; octets = octets; end = o.end; head = o.head }) same

same_open : {P H : Type 0} (seen : P → View) (o new : Open P H) (runs : KeptBy P) → new ≡ record o { runs = runs } → runs.octets ≡ o.runs.octets → Stand seen runs.octets runs.bodies → IsOpen seen o → IsOpen seen new
same_open {P} {H} seen o new runs e same stand is =
    let there : IsOpen seen (record o { runs = runs }) = record {
      young = is.young;
      short = let s = is.short in let l = ap length same in omega arith;
      within = rw same is.within;
      stand = stand;
    } in
    subst (λ (x : Open P H). IsOpen seen x) (sym e) there

pub set_datagrams : {P H : Type 0} (os : List (Open P H)) (i : ℕ) (o new : Open P H) (runs : KeptBy P) → o ≡ get_or os i o → new ≡ record o { runs = runs } → runs.octets ≡ o.runs.octets → map datagram (set os i new) ≡ map datagram os
set_datagrams os i o new runs is e same = map-set_same datagram os i new o (same_datagram o new runs e same ∙ ap datagram is)

pub set_kept : {P H : Type 0} (os : List (Open P H)) (i : ℕ) (o new : Open P H) (runs : KeptBy P) → o ≡ get_or os i o → new ≡ record o { runs = runs } → runs.bodies ≡ o.runs.bodies → kept_in (set os i new) ≡ kept_in os
set_kept os i o new runs is e same = map-set_same (λ o. o.runs.bodies) os i new o (ap (λ (x : Open _ _). x.runs.bodies) e ∙ same ∙ ap (λ (x : Open _ _). x.runs.bodies) is)

pub set_rooms : {P H : Type 0} (os : List (Open P H)) (i : ℕ) (o new : Open P H) (runs : KeptBy P) → o ≡ get_or os i o → new ≡ record o { runs = runs } → runs.room ≡ o.runs.room → rooms_in (set os i new) ≡ rooms_in os
set_rooms os i o new runs is e same = map-set_same (λ o. o.runs.room) os i new o (ap (λ (x : Open _ _). x.runs.room) e ∙ same ∙ ap (λ (x : Open _ _). x.runs.room) is)

pub set_each : {P H : Type 0} (seen : P → View) (os : List (Open P H)) (i : ℕ) (o new : Open P H) (runs : KeptBy P) → i < length os → o ≡ get_or os i o → new ≡ record o { runs = runs } → runs.octets ≡ o.runs.octets → Stand seen runs.octets runs.bodies → All (IsOpen seen) os → All (IsOpen seen) (set os i new)
set_each {P} {H} seen os i o new runs more is e same stand all =
    All-set (IsOpen seen) os i new (same_open seen o new runs e same stand (subst (λ (x : Open P H). IsOpen seen x) (sym is) (all i o more))) all

-- where nothing but the room changed, its payloads stand in it still
pub stand_at : {P H : Type 0} (seen : P → View) (os : List (Open P H)) (i : ℕ) (o : Open P H) (octets : List (Option ℕ)) (bodies : List P) → i < length os → o ≡ get_or os i o → octets ≡ o.runs.octets → AreSameButRoom seen o.runs.bodies bodies → All (IsOpen seen) os → Stand seen octets bodies
stand_at {P} {H} seen os i o octets bodies more is e same all = rw e (Stand-same seen o.runs.octets o.runs.bodies bodies same (subst (λ (x : Open P H). IsOpen seen x) (sym is) (all i o more)).stand)

-- the room of the datagram at a place, after it was set
pub set_room : {P H : Type 0} (os : List (Open P H)) (i d : ℕ) (new : Open P H) → i < length os → get_or (rooms_in (set os i new)) i d ≡ new.runs.room
set_room os i d new more =
    let long : i < length (set os i new) = let l = length-set os i new in omega arith in
    get_or-map (λ o. o.runs.room) (set os i new) i new d long ∙ ap (λ o. o.runs.room) (get_or-set_same os i new new more)

-- and its payloads
pub set_kept_at : {P H : Type 0} (os : List (Open P H)) (i : ℕ) (new : Open P H) → i < length os → kept_at (set os i new) i ≡ new.runs.bodies
set_kept_at os i new more =
    let long : i < length (set os i new) = let l = length-set os i new in omega arith in
    get_or-map (λ o. o.runs.bodies) (set os i new) i new [] long ∙ ap (λ o. o.runs.bodies) (get_or-set_same os i new new more)

-- past the end there is the spare room, and no payload
pub past_room : {P H : Type 0} (os : List (Open P H)) (i d : ℕ) → length os ≤ i → get_or (rooms_in os) i d ≡ d
past_room os i d past = get_or_past (rooms_in os) i d (let l = length-map os (λ o. o.runs.room) in omega arith)

-- the payloads of one datagram have only other room
pub set_same : {P H : Type 0} (seen : P → View) (os : List (Open P H)) (i : ℕ) (o new : Open P H) → i < length os → o ≡ get_or os i o → AreSameButRoom seen o.runs.bodies new.runs.bodies → AreSameButRoom seen (bodies_in os) (bodies_in (set os i new))
set_same {P} seen os i o new more is same =
    let front = bodies_in (take i os) in
    let back = bodies_in (drop (suc i) os) in
    subst (λ (ps : List P). AreSameButRoom seen ps (bodies_in (set os i new))) (sym (split_bodies os i o more is))
    (subst (λ (ps : List P). AreSameButRoom seen (front ++ (o.runs.bodies ++ back)) ps) (sym (set_bodies os i new more))
    (same-append seen front front (o.runs.bodies ++ back) (new.runs.bodies ++ back) (same-refl seen front)
    (same-append seen o.runs.bodies new.runs.bodies back back same (same-refl seen back))))

-- room that was made there
pub ok_room : {P H E : Type 0} (os : List (Open P H)) (i d : ℕ) (new : Open P H) (room : ℕ) (r : Result Unit E) → i < length os → new.runs.room ≡ room → OnOk r (0 < room) → OnOk r (0 < get_or (rooms_in (set os i new)) i d)
ok_room os i d new room (Ok done) more e ok = let s = set_room os i d new more in omega arith
ok_room os i d new room (Err none) more e ok = tt

pub ok_joins : {P H E : Type 0} (seen : P → View) (os : List (Open P H)) (i : ℕ) (new : Open P H) (bodies : List P) (body : View) (r : Result Unit E) → i < length os → new.runs.bodies ≡ bodies → OnOk r (CanJoin seen bodies body) → OnOk r (CanJoin seen (kept_at (set os i new) i) body)
ok_joins {P} seen os i new bodies body (Ok done) more e ok = subst (λ (ps : List P). CanJoin seen ps body) (sym (set_kept_at os i new more ∙ e)) ok
ok_joins seen os i new bodies body (Err none) more e ok = tt
