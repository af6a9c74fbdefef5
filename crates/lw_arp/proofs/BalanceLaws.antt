use Rattle.std.proofs.Common.{◌≡◌, ◌≢◌, ℕ, ◌+◌, ◌<◌, not, cond, List, [], ◌∷◌, ◌++◌, length, get_or, set, map, filter, position, Option, Some, None, is_some, refl, ap, sym, ◌∙◌, arith, option_to_list, append-nil, AllPairs}
use Rattle.std.specs.List.{cons_option, remove, slice_get, sum_by}
use Rattle.std.specs.Option.{option_and_then, option_map_or}
use Rattle.std.proofs.lemmas.List.{get_or_default}
use Rattle.std.proofs.lemmas.List.Sums.{sum_by-cons, sum_by-append, sum_by-set, sum_by-remove}
use Rattle.std.proofs.lemmas.List.Filters.{sum_by-filter_both}
use Rattle.std.proofs.lemmas.Option.{slice_get-get_or}
use Rattle.lw_base.specs.declared.addresses.Ip.{Ip}
use Rattle.lw_base.specs.declared.addresses.Mac.{Mac}
use Rattle.lw_arp.specs.declared.entries.ArpEntry.{ArpEntry}
use Rattle.lw_arp.specs.declared.entries.EntryState.TheVariants.{Pending, Empty}
use Rattle.lw_arp.specs.declared.entries.Next.{Next}
use Rattle.lw_arp.specs.Neighbours.{WeighAlike, IsTable, packets, is_of, entry_of, waiting, state_by, state_of, pending, stable, place_to_free, without, with_room, given_up, added, changed, looked_up, next_by, given_back, held, told, older, is_over, aged, expired}
use Rattle.lw_arp.proofs.ListLaws.{within_list}
use Rattle.lw_arp.proofs.RoomLaws.{free_within}
use Rattle.lw_arp.proofs.EntryLaws.{changed_at, changed_nowhere, waiting_at, waiting_nowhere, state_nowhere, pending_is_not_empty}

-- what a packet weighs, if there is one
abbrev weight : {P : Type 0} → (P → ℕ) → Option P → ℕ
weight w packet = sum_by w (option_to_list packet)

-- what all packets that wait weigh together
abbrev held_weight : {P : Type 0} → (P → ℕ) → List (ArpEntry P) → ℕ
held_weight w table = sum_by w (packets table)

-- that is the sum over the entries
by_entries : {P : Type 0} (w : P → ℕ) (table : List (ArpEntry P)) → held_weight w table ≡ sum_by (λ (e : ArpEntry P). weight w e.packet) table
by_entries w [] = refl
by_entries {P} w (x ∷ xs) =
    let rest = by_entries w xs in
    let head : sum_by w (cons_option x.packet (packets xs)) ≡ weight w x.packet + held_weight w xs =
    elim x.packet as (λ o. sum_by w (cons_option o (packets xs)) ≡ weight w o + held_weight w xs) [
      | None ↦ omega arith
      | Some p ↦ let first = sum_by-cons w p (packets xs) in omega arith
    ] in
    let all = sum_by-cons (λ (e : ArpEntry P). weight w e.packet) x xs in
    omega arith

-- another entry in the place of one
weight_set : {P : Type 0} (w : P → ℕ) (table : List (ArpEntry P)) (i : ℕ) (x y : ArpEntry P) → i < length table → x ≡ get_or table i x → held_weight w (set table i y) + weight w x.packet ≡ held_weight w table + weight w y.packet
weight_set {P} w table i x y within read =
    let of = λ (e : ArpEntry P). weight w e.packet in
    let old = by_entries w table in
    let new = by_entries w (set table i y) in
    let change = sum_by-set of table i y x within in
    let there = ap of read in
    omega arith

-- the entry of an address with another packet
weight_changed : {P : Type 0} (w : P → ℕ) (table : List (ArpEntry P)) (ip : Ip) (f : ArpEntry P → ArpEntry P) (packet : Option P) → AllPairs (λ (x y : ArpEntry P). x.ip.0 ≢ y.ip.0) table → ((e : ArpEntry P) → (f e).packet ≡ packet) → (i : ℕ) → position (is_of ip) table ≡ Some i → held_weight w (changed table ip f) + weight w (waiting table ip) ≡ held_weight w table + weight w packet
weight_changed {P} w table ip f packet apart gives i at =
    let within = within_list (is_of ip) table i at in
    let x = get_or table i (pending (record { 0 = 0 })) in
    let read : x ≡ get_or table i x = get_or_default table i (pending (record { 0 = 0 })) x within in
    rw (sym (changed_at table ip f i x apart at within read), sym (waiting_at table ip i x at within read), sym (gives x))
    (weight_set w table i x (f x) within read)

-- a table that made room
weight_room : {P : Type 0} (w : P → ℕ) (table : List (ArpEntry P)) → held_weight w (with_room table) + weight w (given_up table) ≡ held_weight w table
weight_room {P} w table =
    elim (place_to_free table) as (λ o. place_to_free table ≡ o → held_weight w (without table o) + weight w (option_and_then (λ (e : ArpEntry P). e.packet) (option_and_then (slice_get table) o)) ≡ held_weight w table) [
      | None ↦ λ _. omega arith
      | Some i ↦ λ some.
          let within = free_within table i some in
          let of = λ (e : ArpEntry P). weight w e.packet in
          let any : ArpEntry P = pending (record { 0 = 0 }) in
          let old = by_entries w table in
          let new = by_entries w (remove table i) in
          let change = sum_by-remove of table i any within in
          rw (slice_get-get_or table i any within) (omega arith)
    ] refl

-- a table to which an entry was added at which nothing waits
weight_added : {P : Type 0} (w : P → ℕ) (table : List (ArpEntry P)) (e : ArpEntry P) → e.packet ≡ None → held_weight w (added table e) + weight w (given_up table) ≡ held_weight w table
weight_added {P} w table e none =
    let room = weight_room w table in
    let of = λ (e : ArpEntry P). weight w e.packet in
    let a = by_entries w (with_room table) in
    let b = by_entries w (added table e) in
    let c = sum_by-append of (with_room table) (e ∷ []) in
    let nothing = ap (weight w) none in
    omega arith

packets_older : {P : Type 0} (table : List (ArpEntry P)) → packets (map older table) ≡ packets table
packets_older [] = refl
packets_older (x ∷ xs) = ap (cons_option x.packet) (packets_older xs)

-- a table that is a tick older
weight_aged : {P : Type 0} (w : P → ℕ) (table : List (ArpEntry P)) → held_weight w (aged table) + sum_by w (expired table) ≡ held_weight w table
weight_aged {P} w table =
    let of = λ (e : ArpEntry P). weight w e.packet in
    let old = map older table in
    let lives = λ (e : ArpEntry P). not (is_over e) in
    let both = sum_by-filter_both is_over lives (λ e. refl) of old in
    let kept = by_entries w (filter lives old) in
    let over = by_entries w (filter is_over old) in
    let all = by_entries w old in
    let same = ap (sum_by w) (packets_older table) in
    omega arith

lookup_alike : {P : Type 0} (w : P → ℕ) (table : List (ArpEntry P)) (ip : Ip) (o : Option (ArpEntry P)) → held_weight w (cond (is_some o) table (added table (pending ip))) + weight w (given_back (next_by (option_map_or (λ (e : ArpEntry P). state_by e.mac) o Empty) (given_up table))) ≡ held_weight w table
lookup_alike w table ip None = weight_added w table (pending ip) refl
lookup_alike {P} w table ip (Some e) = elim e.mac as (λ m. held_weight w table + weight w (given_back (next_by (state_by m) (given_up table))) ≡ held_weight w table) [
  | None ↦ omega arith
  | Some m ↦ omega arith
]

-- No packet is lost

-- where none is given back
pub alike_none : {P : Type 0} (ps : List P) (o : Option P) → o ≡ None → WeighAlike ps (ps ++ option_to_list o)
alike_none ps o none = λ w. ap (λ o. sum_by w (ps ++ option_to_list o)) none ∙ ap (sum_by w) (append-nil ps)

-- where no other one is given back
pub alike_alone : {P : Type 0} (ps qs : List P) → WeighAlike ps qs → WeighAlike ps (qs ++ [])
alike_alone ps qs alike = λ w. ap (sum_by w) (append-nil qs) ∙ alike w

-- in a lookup
pub alike_looked_up : {P : Type 0} (table new : List (ArpEntry P)) (ip : Ip) (answer : Next P) → new ≡ looked_up table ip → answer ≡ next_by (state_of table ip) (given_up table) → WeighAlike (packets table) (packets new ++ option_to_list (given_back answer))
alike_looked_up table new ip answer now given = λ w.
    let sum = sum_by-append w (packets new) (option_to_list (given_back answer)) in
    let law = lookup_alike w table ip (entry_of table ip) in
    sum ∙ rw (now, given) law

-- in holding a packet for an address that is pending
pub alike_held : {P : Type 0} (table new : List (ArpEntry P)) (ip : Ip) (packet : P) (result : Option P) → IsTable table → state_of table ip ≡ Pending → new ≡ held table ip packet → result ≡ waiting table ip → WeighAlike (packets table ++ packet ∷ []) (packets new ++ option_to_list result)
alike_held {P} table new ip packet result t is_pending now given = λ w.
    let change = λ (e : ArpEntry P). record e { packet = Some packet } in
    let sum = sum_by-append w (packets new) (option_to_list result) in
    let old = sum_by-append w (packets table) (packet ∷ []) in
    elim (position (is_of ip) table) as (λ o. position (is_of ip) table ≡ o → sum_by w (packets new ++ option_to_list result) ≡ sum_by w (packets table ++ packet ∷ [])) [
      | None ↦ λ none. absurd (pending_is_not_empty (state_of table ip) is_pending (state_nowhere table ip none))
      | Some i ↦ λ some. sum ∙ rw (now, given) (weight_changed w table ip change (Some packet) t.apart (λ e. refl) i some) ∙ sym old
    ] refl

-- in an update of the entry of an address
update_alike : {P : Type 0} (w : P → ℕ) (table : List (ArpEntry P)) (ip : Ip) (mac : Mac) → AllPairs (λ (x y : ArpEntry P). x.ip.0 ≢ y.ip.0) table → held_weight w (changed table ip (told mac)) + weight w (waiting table ip) ≡ held_weight w table
update_alike {P} w table ip mac apart =
    elim (position (is_of ip) table) as (λ o. position (is_of ip) table ≡ o → held_weight w (changed table ip (told mac)) + weight w (waiting table ip) ≡ held_weight w table) [
      | None ↦ λ none. rw (sym (changed_nowhere table ip (told mac) none), sym (waiting_nowhere table ip none)) (omega arith)
      | Some i ↦ λ some. let law = weight_changed w table ip (told mac) None apart (λ e. refl) i some in omega arith
    ] refl

pub alike_told : {P : Type 0} (table new : List (ArpEntry P)) (ip : Ip) (mac : Mac) (send : Option P) → IsTable table → new ≡ changed table ip (told mac) → send ≡ waiting table ip → WeighAlike (packets table) (packets new ++ option_to_list send)
alike_told table new ip mac send t now out = λ w. sum_by-append w (packets new) (option_to_list send) ∙ rw (now, out) (update_alike w table ip mac t.apart)

-- in making an entry
pub alike_made : {P : Type 0} (table new : List (ArpEntry P)) (ip : Ip) (mac : Mac) (gone : Option P) → new ≡ added table (stable ip mac) → gone ≡ given_up table → WeighAlike (packets table) (packets new ++ [] ++ option_to_list gone)
alike_made table new ip mac gone now lost = λ w.
    let law = weight_added w table (stable ip mac) refl in
    ap (λ ps. sum_by w (ps ++ option_to_list gone)) (append-nil (packets new)) ∙ sum_by-append w (packets new) (option_to_list gone) ∙ rw (now, lost) (law)

-- and in a tick
pub alike_aged : {P : Type 0} (table new : List (ArpEntry P)) (gone_old gone : List P) → new ≡ aged table → gone ≡ gone_old ++ expired table → WeighAlike (packets table ++ gone_old) (packets new ++ gone)
alike_aged table new gone_old gone now lost = λ w.
    let a = sum_by-append w (packets new) gone in
    let b = sum_by-append w (packets table) gone_old in
    let c = sum_by-append w gone_old (expired table) in
    let law = weight_aged w table in
    let same = ap (held_weight w) now in
    let items = ap (sum_by w) lost in
    omega arith
