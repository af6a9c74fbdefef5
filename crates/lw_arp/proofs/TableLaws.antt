use Rattle.std.proofs.Common.{◌≡◌, ◌≢◌, ℕ, ◌<◌, Bool, true, false, not, eqb, eq-eqb, List, [], ◌∷◌, ◌++◌, length, get_or, set, map, filter, Option, Some, None, refl, ap, sym, subst, ◌∙◌, arith, All, AllPairs}
use Rattle.std.specs.List.{remove}
use Rattle.std.proofs.lemmas.Bool.{false≢true}
use Rattle.std.proofs.lemmas.Bool.Decides.{nat_tests}
use Rattle.std.proofs.lemmas.List.{get_or-map, get_or_default, get_or-set_other, length-set, length-map, length-append}
use Rattle.std.proofs.lemmas.Grind.{get_or-set_at}
use Rattle.std.proofs.lemmas.List.Edits.{length-remove}
use Rattle.std.proofs.lemmas.List.Elements.{All-nil, All-set, All-push, All-map, All-filter, All-weaker, filter_passes}
use Rattle.std.proofs.lemmas.List.Kept.{AllPairs-filter}
use Rattle.std.proofs.lemmas.List.Quantifiers.{all_pairs_push, all_pairs_remove}
use Rattle.std.proofs.lemmas.List.Sums.{length-filter, count_by-le-length}
use Rattle.lw_base.specs.declared.addresses.Ip.{Ip}
use Rattle.lw_base.specs.declared.addresses.Mac.{Mac}
use Rattle.lw_arp.specs.declared.entries.ArpEntry.{ArpEntry}
use Rattle.lw_arp.specs.declared.entries.EntryState.TheVariants.{Pending, Empty}
use Rattle.lw_arp.specs.Neighbours.{IsTable, pending, stable, state_by, state_of, is_of, is_stable, lifetime, entry_of, key_of, keys_of, place_to_free, without, added, older, is_over, aged}
use Rattle.lw_arp.proofs.ListLaws.{All-remove, all_fail, not_found}
use Rattle.lw_arp.proofs.EntryLaws.{unknown_when_empty, pending_is_not_stable}
use Rattle.lw_arp.proofs.RoomLaws.{has_room, free_within}

abbrev Young : {P : Type 0} → ArpEntry P → Type 0
Young e = e.age < lifetime e

abbrev Idle : {P : Type 0} → ArpEntry P → Type 0
Idle e = is_stable e ≡ true → e.packet ≡ None

abbrev Differ : {P : Type 0} → ArpEntry P → ArpEntry P → Type 0
Differ x y = x.ip.0 ≢ y.ip.0

pub IsTable-empty : {P : Type 0} → IsTable {P = P} []
IsTable-empty {P} = record {
  few = omega arith;
  apart = λ i j d before within. absurd (omega arith);
  young = All-nil {X = ArpEntry P} Young;
  idle = All-nil {X = ArpEntry P} Idle;
}

pub IsTable-same : {P : Type 0} (xs ys : List (ArpEntry P)) → xs ≡ ys → IsTable xs → IsTable ys
IsTable-same {P} xs ys same t = subst (λ (l : List (ArpEntry P)). IsTable l) same t

-- lists whose entries have the same addresses, one by one, are apart alike
apart_alike : {P : Type 0} (xs ys : List (ArpEntry P)) → length ys ≡ length xs → ((k : ℕ) (d : ArpEntry P) → k < length xs → (get_or ys k d).ip.0 ≡ (get_or xs k d).ip.0) → AllPairs (λ (x y : ArpEntry P). x.ip.0 ≢ y.ip.0) xs → AllPairs (λ (x y : ArpEntry P). x.ip.0 ≢ y.ip.0) ys
apart_alike xs ys long same apart = λ i j d before within same_ip.
    let in_xs : j < length xs = omega arith in
    apart i j d before in_xs (sym (same i d (omega arith)) ∙ same_ip ∙ same j d in_xs)

-- an entry in the place of another one of the same address
pub IsTable-set : {P : Type 0} (table : List (ArpEntry P)) (i : ℕ) (x y : ArpEntry P) → i < length table → x ≡ get_or table i x → IsTable table → y.ip.0 ≡ x.ip.0 → y.age < lifetime y → (is_stable y ≡ true → y.packet ≡ None) → IsTable (set table i y)
IsTable-set {P} table i x y within read t ip young idle = record {
  few = let few = t.few in omega (arith, length-set table i y);
  apart = apart_alike table (set table i y) (length-set table i y) (λ k d below.
      elim (eqb k i) as (λ b. eqb k i ≡ b → (get_or (set table i y) k d).ip.0 ≡ (get_or table k d).ip.0) [
        | true ↦ λ e.
            let same : k ≡ i = grind (arith, nat_tests) in
            ap (λ (e : ArpEntry P). e.ip.0) (get_or-set_at table i k y d same within) ∙ ip ∙ ap (λ (e : ArpEntry P). e.ip.0) read
            ∙ ap (λ n. (get_or table n x).ip.0) (sym same) ∙ ap (λ (e : ArpEntry P). e.ip.0) (get_or_default table k x d below)
        | false ↦ λ e.
            let other : k ≢ i = λ same. false≢true (sym e ∙ eq-eqb k i same) in
            ap (λ (e : ArpEntry P). e.ip.0) (get_or-set_other table i k y d other)
      ] refl) t.apart;
  young = All-set Young table i y young t.young;
  idle = All-set Idle table i y idle t.idle;
}

-- a table without one of its entries
IsTable-remove : {P : Type 0} (table : List (ArpEntry P)) (i : ℕ) → i < length table → IsTable table → IsTable (remove table i)
IsTable-remove table i within t = record {
  few = let few = t.few in omega (arith, length-remove table i within);
  apart = all_pairs_remove Differ table i within t.apart;
  young = All-remove Young table i t.young;
  idle = All-remove Idle table i t.idle;
}

-- a table with one entry more, where it had room and no entry of that address
IsTable-push : {P : Type 0} (table : List (ArpEntry P)) (y : ArpEntry P) → length table < 10 → All (λ (e : ArpEntry P). e.ip.0 ≢ y.ip.0) table → IsTable table → y.age < lifetime y → (is_stable y ≡ true → y.packet ≡ None) → IsTable (table ++ y ∷ [])
IsTable-push table y room apart t young idle = record {
  few = let few = t.few in omega (arith, length-append table (y ∷ []));
  apart = all_pairs_push Differ table y t.apart apart;
  young = All-push Young table y t.young young;
  idle = All-push Idle table y t.idle idle;
}

-- a table to which an entry of an unknown address is added
pub IsTable-added : {P : Type 0} (table : List (ArpEntry P)) (y : ArpEntry P) → entry_of table y.ip ≡ None → IsTable table → y.age < lifetime y → (is_stable y ≡ true → y.packet ≡ None) → IsTable (added table y)
IsTable-added {P} table y unknown t young idle =
    let apart = All-weaker (λ e. is_of y.ip e ≡ false) (λ e. e.ip.0 ≢ y.ip.0) (λ e fails same. false≢true (sym fails ∙ eq-eqb e.ip.0 y.ip.0 same))
    table (all_fail (is_of y.ip) table (not_found (is_of y.ip) table unknown)) in
    elim (place_to_free table) as (λ o. place_to_free table ≡ o → IsTable (without table o ++ y ∷ [])) [
      | None ↦ λ none. IsTable-push table y (has_room table none) apart t young idle
      | Some i ↦ λ some.
          let within = free_within table i some in
          let shorter : length (remove table i) < 10 = let few = t.few in omega (arith, length-remove table i within) in
          IsTable-push (remove table i) y shorter (All-remove (λ (e : ArpEntry P). e.ip.0 ≢ y.ip.0) table i apart) (IsTable-remove table i within t) young idle
    ] refl

-- a lookup of an unknown address, and an entry that is made for one, leave a table
pub IsTable-looked_up : {P : Type 0} (table new : List (ArpEntry P)) (ip : Ip) (y : ArpEntry P) → state_of table ip ≡ Empty → y ≡ pending ip → new ≡ added table y → IsTable table → IsTable new
IsTable-looked_up {P} table new ip y empty made now t =
    let young : 0 < 20 = omega arith in
    rw (now, made) (IsTable-added table (pending ip) (unknown_when_empty (entry_of table ip) empty) t young (λ _. refl))

pub IsTable-made : {P : Type 0} (table new : List (ArpEntry P)) (ip : Ip) (mac : Mac) (y : ArpEntry P) → entry_of table ip ≡ None → y ≡ stable ip mac → new ≡ added table y → IsTable table → IsTable new
IsTable-made {P} table new ip mac y unknown made now t =
    let young : 0 < 1200 = omega arith in
    rw (now, made) (IsTable-added table (stable ip mac) unknown t young (λ _. refl))

-- a packet that waits at a pending entry leaves a table
pub IsTable-held : {P : Type 0} (table : List (ArpEntry P)) (i : ℕ) (x : ArpEntry P) (packet : Option P) → i < length table → x ≡ get_or table i x → state_by x.mac ≡ Pending → IsTable table → IsTable (set table i (record x { packet = packet }))
IsTable-held {P} table i x packet within read pending t =
    let young = subst (λ (e : ArpEntry P). e.age < lifetime e) (sym read) (t.young i x within) in
    IsTable-set table i x (record x { packet = packet }) within read t refl young (λ stable. pending_is_not_stable x.mac pending stable)

still_young : {P : Type 0} (e : ArpEntry P) → not (is_over e) ≡ true → e.age < lifetime e
still_young e alive = grind (arith, nat_tests)

-- a table that is a tick older
pub IsTable-aged : {P : Type 0} (table : List (ArpEntry P)) → IsTable table → IsTable (aged table)
IsTable-aged {P} table t =
    let lives : ArpEntry P → Bool = λ e. not (is_over e) in
    let old = map older table in
    record {
      few = let few = t.few in omega (arith, length-filter lives old, count_by-le-length lives old, length-map table (older {P = P}));
      apart = AllPairs-filter Differ lives old (apart_alike table old (length-map table older) (λ k d below. ap (λ (e : ArpEntry P). e.ip.0) (get_or-map older table k d d below)) t.apart);
      young = All-weaker (λ e. lives e ≡ true) Young (λ e alive. still_young e alive) (filter lives old) (filter_passes lives old);
      idle = All-filter lives Idle old (All-map Idle older table t.idle);
    }

idle_key : {P : Type 0} (e : ArpEntry P) → (is_stable e ≡ true → e.packet ≡ None) → is_stable (key_of e) ≡ true → (key_of e).packet ≡ None
idle_key e idle stable = rw (idle stable) refl

-- a table without its packets is a table
pub IsTable-keys : {P : Type 0} (table : List (ArpEntry P)) → IsTable table → IsTable (keys_of table)
IsTable-keys {P} table t =
    let unit = Unit {0} in
    record {
      few = let few = t.few in omega (arith, length-map table (key_of {P = P}));
      apart = λ i j d before within same.
          let e : ArpEntry P = record { ip = d.ip; mac = d.mac; age = d.age; packet = None } in
          let long = length-map table (key_of {P = P}) in
          let in_table : j < length table = omega arith in
          let first = ap (λ (k : ArpEntry unit). k.ip.0) (get_or-map key_of table i e d (omega arith)) in
          let second = ap (λ (k : ArpEntry unit). k.ip.0) (get_or-map key_of table j e d in_table) in
          t.apart i j e before in_table (sym first ∙ same ∙ second);
      young = All-map (Young {P = unit}) key_of table t.young;
      idle = All-map (Idle {P = unit}) key_of table (All-weaker Idle (λ e. Idle (key_of e)) idle_key table t.idle);
    }
