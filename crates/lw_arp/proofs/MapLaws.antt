use Rattle.std.proofs.Common.{◌≡◌, ℕ, suc, eqb, ◌&&◌, Bool, true, false, not, cond, List, [], ◌∷◌, ◌++◌, length, take, drop, map, filter, find, position, Option, Some, None, is_some, refl, ap, sym, ◌∙◌, ltb}
use Rattle.std.specs.List.{list_any, slice_get, cons_option, prefix_len, remove}
use Rattle.std.specs.Option.{option_map, option_map_or, option_and_then}
use Rattle.std.proofs.lemmas.List.{take-map, drop-map, map-append, length-map}
use Rattle.std.proofs.lemmas.Option.{slice_get-map}
use Rattle.lw_base.specs.declared.addresses.Ip.{Ip}
use Rattle.lw_base.specs.declared.addresses.Mac.{Mac}
use Rattle.lw_base.specs.declared.heads.ArpPacket.{ArpPacket}
use Rattle.lw_arp.specs.declared.entries.ArpEntry.{ArpEntry}
use Rattle.lw_arp.specs.declared.entries.EntryState.TheVariants.{Empty}
use Rattle.lw_arp.specs.declared.entries.Lesson.{Lesson}
use Rattle.lw_arp.specs.declared.entries.Lesson.TheVariants.{Nothing, Update, Make}
use Rattle.lw_arp.specs.Neighbours.{keys_of, map_entry, map_entries, is_of, goes_sooner, entry_of, mac_of, waiting, packets, state_by, state_of, oldest_place, place_to_free, without, with_room, given_up, added, changed, pending, looked_up, held, lesson, told, stable, taught, let_out, displaced_by, is_answered, learn_plan, learnt, released, displaced, older, is_over, asks_again, aged, asked_again, expired}

-- Of lists

find-map : {X Y : Type 0} (h : X → Y) (q : Y → Bool) (xs : List X) → find q (map h xs) ≡ option_map h (find (λ x. q (h x)) xs)
find-map h q [] = refl
find-map h q (x ∷ xs) = elim (q (h x)) as (λ b. cond b (Some (h x)) (find q (map h xs)) ≡ option_map h (cond b (Some x) (find (λ x. q (h x)) xs))) [
  | true ↦ refl
  | false ↦ find-map h q xs
]

list_any-map : {X Y : Type 0} (h : X → Y) (q : Y → Bool) (xs : List X) → list_any q (map h xs) ≡ list_any (λ x. q (h x)) xs
list_any-map h q [] = refl
list_any-map h q (x ∷ xs) = rw (list_any-map h q xs) refl

prefix_len-map : {X Y : Type 0} (h : X → Y) (q : Y → Bool) (xs : List X) → prefix_len q (map h xs) ≡ prefix_len (λ x. q (h x)) xs
prefix_len-map h q [] = refl
prefix_len-map h q (x ∷ xs) = rw (prefix_len-map h q xs) refl

position-map : {X Y : Type 0} (h : X → Y) (q : Y → Bool) (xs : List X) → position q (map h xs) ≡ position (λ x. q (h x)) xs
position-map h q xs = rw (prefix_len-map h (λ y. not (q y)) xs, length-map xs h) refl

filter-map : {X Y : Type 0} (h : X → Y) (q : Y → Bool) (xs : List X) → filter q (map h xs) ≡ map h (filter (λ x. q (h x)) xs)
filter-map h q [] = refl
filter-map h q (x ∷ xs) = elim (q (h x)) as (λ b. cond b (h x ∷ filter q (map h xs)) (filter q (map h xs)) ≡ map h (cond b (x ∷ filter (λ x. q (h x)) xs) (filter (λ x. q (h x)) xs))) [
  | true ↦ ap (λ l. h x ∷ l) (filter-map h q xs)
  | false ↦ filter-map h q xs
]

remove-map : {X Y : Type 0} (h : X → Y) (xs : List X) (i : ℕ) → remove (map h xs) i ≡ map h (remove xs i)
remove-map h xs i = rw (take-map h i xs, drop-map h (suc i) xs) (sym (map-append h (take i xs) (drop (suc i) xs)))

-- f and g one after another, and h and k, do the same
map-map_same : {X Y Z W : Type 0} (f : X → Y) (g : Y → Z) (h : X → W) (k : W → Z) (xs : List X) → ((x : X) → g (f x) ≡ k (h x)) → map g (map f xs) ≡ map k (map h xs)
map-map_same f g h k [] same = refl
map-map_same f g h k (x ∷ xs) same = rw (same x, map-map_same f g h k xs same) refl

option_map_some : {X Y : Type 0} (h : X → Y) (o : Option X) → is_some (option_map h o) ≡ is_some o
option_map_some h None = refl
option_map_some h (Some x) = refl

-- Of what is in a table

pub entry_of-map_entries : {P Q : Type 0} (f : P → Q) (table : List (ArpEntry P)) (ip : Ip) → entry_of (map_entries f table) ip ≡ option_map (map_entry f) (entry_of table ip)
entry_of-map_entries f table ip = find-map (map_entry f) (is_of ip) table

packet_of_mapped : {P Q : Type 0} (f : P → Q) (o : Option (ArpEntry P)) → option_and_then (λ (e : ArpEntry Q). e.packet) (option_map (map_entry f) o) ≡ option_map f (option_and_then (λ (e : ArpEntry P). e.packet) o)
packet_of_mapped f None = refl
packet_of_mapped f (Some e) = refl

mac_of_mapped : {P Q : Type 0} (f : P → Q) (o : Option (ArpEntry P)) → option_and_then (λ (e : ArpEntry Q). e.mac) (option_map (map_entry f) o) ≡ option_and_then (λ (e : ArpEntry P). e.mac) o
mac_of_mapped f None = refl
mac_of_mapped f (Some e) = refl

state_mapped : {P Q : Type 0} (f : P → Q) (o : Option (ArpEntry P)) → option_map_or (λ (e : ArpEntry Q). state_by e.mac) (option_map (map_entry f) o) Empty ≡ option_map_or (λ (e : ArpEntry P). state_by e.mac) o Empty
state_mapped f None = refl
state_mapped f (Some e) = refl

pub mac_of-map_entries : {P Q : Type 0} (f : P → Q) (table : List (ArpEntry P)) (ip : Ip) → mac_of (map_entries f table) ip ≡ mac_of table ip
mac_of-map_entries f table ip = rw (entry_of-map_entries f table ip) (mac_of_mapped f (entry_of table ip))

pub waiting-map_entries : {P Q : Type 0} (f : P → Q) (table : List (ArpEntry P)) (ip : Ip) → waiting (map_entries f table) ip ≡ option_map f (waiting table ip)
waiting-map_entries f table ip = rw (entry_of-map_entries f table ip) (packet_of_mapped f (entry_of table ip))

pub state_of-map_entries : {P Q : Type 0} (f : P → Q) (table : List (ArpEntry P)) (ip : Ip) → state_of (map_entries f table) ip ≡ state_of table ip
state_of-map_entries f table ip = rw (entry_of-map_entries f table ip) (state_mapped f (entry_of table ip))

pub packets-map_entries : {P Q : Type 0} (f : P → Q) (table : List (ArpEntry P)) → packets (map_entries f table) ≡ map f (packets table)
packets-map_entries f [] = refl
packets-map_entries {P} {Q} f (x ∷ xs) = elim x.packet as (λ o. cons_option (option_map f o) (packets (map_entries f xs)) ≡ map f (cons_option o (packets xs))) [
  | None ↦ packets-map_entries f xs
  | Some p ↦ ap (λ l. f p ∷ l) (packets-map_entries f xs)
]

-- what is known of addresses doesn't go by the packets
no_packet_mapped : {P Q : Type 0} (f : P → Q) (o : Option P) → option_map (λ _. tt {0}) (option_map f o) ≡ option_map (λ _. tt {0}) o
no_packet_mapped f None = refl
no_packet_mapped f (Some p) = refl

pub keys-map_entries : {P Q : Type 0} (f : P → Q) (table : List (ArpEntry P)) → keys_of (map_entries f table) ≡ keys_of table
keys-map_entries f [] = refl
keys-map_entries f (e ∷ es) = rw (no_packet_mapped f e.packet, keys-map_entries f es) refl

-- Of making room

oldest_place-map_entries : {P Q : Type 0} (f : P → Q) (table : List (ArpEntry P)) → oldest_place (map_entries f table) ≡ oldest_place table
oldest_place-map_entries {P} {Q} f table =
    let same : (y : ArpEntry P) → list_any (λ x. goes_sooner x (map_entry f y)) (map_entries f table) ≡ list_any (λ x. goes_sooner x y) table =
    λ y. list_any-map (map_entry f) (λ x. goes_sooner x (map_entry f y)) table in
    position-map (map_entry f) (λ y. not (list_any (λ x. goes_sooner x y) (map_entries f table))) table
    ∙ ap (λ p. position p table) (λ i y. not (same y i))

pub place_to_free-map_entries : {P Q : Type 0} (f : P → Q) (table : List (ArpEntry P)) → place_to_free (map_entries f table) ≡ place_to_free table
place_to_free-map_entries f table =
    ap (λ n. cond (ltb n 10) None (oldest_place (map_entries f table))) (length-map table (map_entry f)) ∙ ap (cond (ltb (length table) 10) None) (oldest_place-map_entries f table)

without-map_entries : {P Q : Type 0} (f : P → Q) (table : List (ArpEntry P)) (o : Option ℕ) → without (map_entries f table) o ≡ map_entries f (without table o)
without-map_entries f table None = refl
without-map_entries f table (Some i) = remove-map (map_entry f) table i

pub with_room-map_entries : {P Q : Type 0} (f : P → Q) (table : List (ArpEntry P)) → with_room (map_entries f table) ≡ map_entries f (with_room table)
with_room-map_entries f table = ap (without (map_entries f table)) (place_to_free-map_entries f table) ∙ without-map_entries f table (place_to_free table)

packet_at_mapped : {P Q : Type 0} (f : P → Q) (table : List (ArpEntry P)) (o : Option ℕ) → option_and_then (λ (e : ArpEntry Q). e.packet) (option_and_then (slice_get (map_entries f table)) o) ≡ option_map f (option_and_then (λ (e : ArpEntry P). e.packet) (option_and_then (slice_get table) o))
packet_at_mapped f table None = refl
packet_at_mapped f table (Some i) = rw (slice_get-map (map_entry f) table i) (packet_of_mapped f (slice_get table i))

pub given_up-map_entries : {P Q : Type 0} (f : P → Q) (table : List (ArpEntry P)) → given_up (map_entries f table) ≡ option_map f (given_up table)
given_up-map_entries {P} {Q} f table =
    ap (λ o. option_and_then (λ (e : ArpEntry Q). e.packet) (option_and_then (slice_get (map_entries f table)) o)) (place_to_free-map_entries f table)
    ∙ packet_at_mapped f table (place_to_free table)

pub added-map_entries : {P Q : Type 0} (f : P → Q) (table : List (ArpEntry P)) (e : ArpEntry P) → added (map_entries f table) (map_entry f e) ≡ map_entries f (added table e)
added-map_entries f table e =
    ap (λ l. l ++ map_entry f e ∷ []) (with_room-map_entries f table) ∙ sym (map-append (map_entry f) (with_room table) (e ∷ []))

-- a change of an entry that does the same to what it is mapped to
pub changed-map_entries : {P Q : Type 0} (f : P → Q) (table : List (ArpEntry P)) (ip : Ip) (g : ArpEntry P → ArpEntry P) (k : ArpEntry Q → ArpEntry Q) → ((e : ArpEntry P) → k (map_entry f e) ≡ map_entry f (g e)) → changed (map_entries f table) ip k ≡ map_entries f (changed table ip g)
changed-map_entries f table ip g k same =
    map-map_same (map_entry f) (λ e. cond (is_of ip e) (k e) e) (λ e. cond (is_of ip e) (g e) e) (map_entry f) table
    (λ e. elim (is_of ip e) as (λ b. cond b (k (map_entry f e)) (map_entry f e) ≡ map_entry f (cond b (g e) e)) [
      | true ↦ same e
      | false ↦ refl
    ])

-- Of lookups and held packets

is_known-map_entries : {P Q : Type 0} (f : P → Q) (table : List (ArpEntry P)) (ip : Ip) → is_some (entry_of (map_entries f table) ip) ≡ is_some (entry_of table ip)
is_known-map_entries f table ip = ap is_some (entry_of-map_entries f table ip) ∙ option_map_some (map_entry f) (entry_of table ip)

pub looked_up-map_entries : {P Q : Type 0} (f : P → Q) (table : List (ArpEntry P)) (ip : Ip) → looked_up (map_entries f table) ip ≡ map_entries f (looked_up table ip)
looked_up-map_entries f table ip =
    ap (λ b. cond b (map_entries f table) (added (map_entries f table) (pending ip))) (is_known-map_entries f table ip)
    ∙ elim (is_some (entry_of table ip)) as (λ b. cond b (map_entries f table) (added (map_entries f table) (pending ip)) ≡ map_entries f (cond b table (added table (pending ip)))) [
      | true ↦ refl
      | false ↦ added-map_entries f table (pending ip)
    ]

pub held-map_entries : {P Q : Type 0} (f : P → Q) (table : List (ArpEntry P)) (ip : Ip) (packet : P) → held (map_entries f table) ip (f packet) ≡ map_entries f (held table ip packet)
held-map_entries f table ip packet =
    changed-map_entries f table ip (λ e. record e { packet = Some packet }) (λ e. record e { packet = Some (f packet) }) (λ e. refl)

-- Of what an ARP packet brings

pub lesson-map_entries : {P Q : Type 0} (f : P → Q) (own : Ip) (table : List (ArpEntry P)) (p : ArpPacket) → lesson own (map_entries f table) p ≡ lesson own table p
lesson-map_entries f own table p =
    ap (λ b. cond (eqb p.sip.0 own.0) Nothing (cond b Update (cond (eqb p.tip.0 own.0 && not (eqb p.sip.0 0)) Make Nothing))) (is_known-map_entries f table p.sip)

pub taught-map_entries : {P Q : Type 0} (f : P → Q) (l : Lesson) (table : List (ArpEntry P)) (ip : Ip) (mac : Mac) → taught l (map_entries f table) ip mac ≡ map_entries f (taught l table ip mac)
taught-map_entries f Nothing table ip mac = refl
taught-map_entries f Update table ip mac = changed-map_entries f table ip (told mac) (told mac) (λ e. refl)
taught-map_entries f Make table ip mac = added-map_entries f table (stable ip mac)

pub let_out-map_entries : {P Q : Type 0} (f : P → Q) (l : Lesson) (table : List (ArpEntry P)) (ip : Ip) → let_out l (map_entries f table) ip ≡ option_map f (let_out l table ip)
let_out-map_entries f Nothing table ip = refl
let_out-map_entries f Update table ip = waiting-map_entries f table ip
let_out-map_entries f Make table ip = refl

displaced_by-map_entries : {P Q : Type 0} (f : P → Q) (l : Lesson) (table : List (ArpEntry P)) → displaced_by l (map_entries f table) ≡ option_map f (displaced_by l table)
displaced_by-map_entries f Nothing table = refl
displaced_by-map_entries f Update table = refl
displaced_by-map_entries f Make table = given_up-map_entries f table

pub learn_plan-map_entries : {P Q : Type 0} (f : P → Q) (own : Ip) (table : List (ArpEntry P)) (p : ArpPacket) → learn_plan own (map_entries f table) p ≡ learn_plan own table p
learn_plan-map_entries f own table p =
    ap (λ l. record { lesson = l; answer = is_answered own p; ip = p.sip; mac = p.smac }) (lesson-map_entries f own table p)

pub learnt-map_entries : {P Q : Type 0} (f : P → Q) (own : Ip) (table : List (ArpEntry P)) (p : ArpPacket) → learnt own (map_entries f table) p ≡ map_entries f (learnt own table p)
learnt-map_entries f own table p =
    ap (λ l. taught l (map_entries f table) p.sip p.smac) (lesson-map_entries f own table p) ∙ taught-map_entries f (lesson own table p) table p.sip p.smac

pub released-map_entries : {P Q : Type 0} (f : P → Q) (own : Ip) (table : List (ArpEntry P)) (p : ArpPacket) → released own (map_entries f table) p ≡ option_map f (released own table p)
released-map_entries f own table p =
    ap (λ l. let_out l (map_entries f table) p.sip) (lesson-map_entries f own table p) ∙ let_out-map_entries f (lesson own table p) table p.sip

pub displaced-map_entries : {P Q : Type 0} (f : P → Q) (own : Ip) (table : List (ArpEntry P)) (p : ArpPacket) → displaced own (map_entries f table) p ≡ option_map f (displaced own table p)
displaced-map_entries f own table p =
    ap (λ l. displaced_by l (map_entries f table)) (lesson-map_entries f own table p) ∙ displaced_by-map_entries f (lesson own table p) table

-- Of a tick

older-map_entries : {P Q : Type 0} (f : P → Q) (table : List (ArpEntry P)) → map older (map_entries f table) ≡ map_entries f (map older table)
older-map_entries f table = map-map_same (map_entry f) older older (map_entry f) table (λ e. refl)

addresses-map_entries : {P Q : Type 0} (f : P → Q) (table : List (ArpEntry P)) → map (λ (e : ArpEntry Q). e.ip) (map_entries f table) ≡ map (λ (e : ArpEntry P). e.ip) table
addresses-map_entries f [] = refl
addresses-map_entries f (x ∷ xs) = ap (λ l. x.ip ∷ l) (addresses-map_entries f xs)

pub aged-map_entries : {P Q : Type 0} (f : P → Q) (table : List (ArpEntry P)) → aged (map_entries f table) ≡ map_entries f (aged table)
aged-map_entries {P} {Q} f table =
    let lives : ArpEntry Q → Bool = λ e. not (is_over e) in
    ap (filter lives) (older-map_entries f table) ∙ filter-map (map_entry f) lives (map older table)

pub asked_again-map_entries : {P Q : Type 0} (f : P → Q) (table : List (ArpEntry P)) → asked_again (map_entries f table) ≡ asked_again table
asked_again-map_entries {P} {Q} f table =
    ap (λ l. map (λ (e : ArpEntry Q). e.ip) (filter asks_again l)) (older-map_entries f table)
    ∙ ap (map (λ (e : ArpEntry Q). e.ip)) (filter-map (map_entry f) asks_again (map older table))
    ∙ addresses-map_entries f (filter asks_again (map older table))

pub expired-map_entries : {P Q : Type 0} (f : P → Q) (table : List (ArpEntry P)) → expired (map_entries f table) ≡ map f (expired table)
expired-map_entries f table =
    ap (λ l. packets (filter is_over l)) (older-map_entries f table)
    ∙ ap packets (filter-map (map_entry f) is_over (map older table))
    ∙ packets-map_entries f (filter is_over (map older table))
