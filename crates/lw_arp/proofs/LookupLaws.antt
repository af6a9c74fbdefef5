-- What a lookup leaves of the address that was looked up.
use Rattle.std.proofs.Common.{◌≡◌, ℕ, zero, suc, if◌then◌else◌, ◌++◌, Bool, true, false, cond, eq-eqb, is_some, List, [], ◌∷◌, take, drop, Option, Some, None, refl, ap, ◌∙◌, option_and_then}
use Rattle.std.specs.List.{find}
use Rattle.std.specs.Option.{option_map_or}
use Rattle.lw_base.specs.declared.addresses.Ip.{Ip}
use Rattle.lw_arp.specs.declared.entries.ArpEntry.{ArpEntry}
use Rattle.lw_arp.specs.declared.entries.EntryState.TheVariants.{Pending, Empty}
use Rattle.lw_arp.specs.Neighbours.{added, entry_of, is_of, looked_up, mac_of, pending, place_to_free, state_by, state_of, with_room, without}

-- none was found before nor behind the first element
split_none : {A : Type 0} (test : A → Bool) (x : A) (xs : List A) → find test (x ∷ xs) ≡ None → (test x ≡ false) × (find test xs ≡ None)
split_none test x xs none =
    elim (test x) as (λ b. cond b (Some x) (find test xs) ≡ None → (b ≡ false) × (find test xs ≡ None)) [
      | true ↦ λ h. absurd (let some = h in cc)
      | false ↦ λ h. (refl, h)
    ] none

-- none is found in a front
take_none : {A : Type 0} (test : A → Bool) (n : ℕ) (xs : List A) → find test xs ≡ None → find test (take n xs) ≡ None
take_none test zero xs none = refl
take_none test (suc n) [] none = refl
take_none test (suc n) (x ∷ xs) none =
    let parts = split_none test x xs none in
    ap (λ b. cond b (Some x) (find test (take n xs))) parts.0 ∙ take_none test n xs parts.1

-- nor in what is behind it
drop_none : {A : Type 0} (test : A → Bool) (n : ℕ) (xs : List A) → find test xs ≡ None → find test (drop n xs) ≡ None
drop_none test zero xs none = none
drop_none test (suc n) [] none = none
drop_none test (suc n) (x ∷ xs) none = drop_none test n xs (split_none test x xs none).1

-- what is found in two lists, where none is in the first
find_behind : {A : Type 0} (test : A → Bool) (xs ys : List A) → find test xs ≡ None → find test (xs ++ ys) ≡ find test ys
find_behind test [] ys none = refl
find_behind test (x ∷ xs) ys none =
    let parts = split_none test x xs none in
    ap (λ b. cond b (Some x) (find test (xs ++ ys))) parts.0 ∙ find_behind test xs ys parts.1

-- an address that is in no entry is in none after one was given up
without_none : {P : Type 0} (test : ArpEntry P → Bool) (table : List (ArpEntry P)) (place : Option ℕ) → find test table ≡ None → find test (without table place) ≡ None
without_none test table (Some i) none =
    find_behind test (take i table) (drop (suc i) table) (take_none test i table none) ∙ drop_none test (suc i) table none
without_none test table None none = none

-- the entry that was made for an address is found
made_found : {P : Type 0} (table : List (ArpEntry P)) (ip : Ip) → entry_of table ip ≡ None → entry_of (added table (pending ip)) ip ≡ Some (pending ip)
made_found {P} table ip none =
    let made : ArpEntry P = pending ip in
    find_behind (is_of ip) (with_room table) (made ∷ []) (without_none (is_of ip) table (place_to_free table) none)
    ∙ ap (λ b. cond b (Some made) None) (eq-eqb ip.0 ip.0 refl)

-- an address whose entry, if there is one, has no hardware address
found_pending : {P : Type 0} (table : List (ArpEntry P)) (ip : Ip) (o : Option (ArpEntry P)) → entry_of table ip ≡ o → option_and_then (λ (e : ArpEntry P). e.mac) o ≡ None → state_of (if is_some o then table else added table (pending ip)) ip ≡ Pending
found_pending {P} table ip (Some e) found unknown =
    ap (λ (o : Option (ArpEntry P)). option_map_or (λ e. state_by e.mac) o Empty) found ∙ ap state_by unknown
found_pending {P} table ip None found unknown =
    ap (λ (o : Option (ArpEntry P)). option_map_or (λ e. state_by e.mac) o Empty) (made_found table ip found)

-- an address without a known hardware address is pending after a lookup
pub pending_after_lookup : {P : Type 0} (table : List (ArpEntry P)) (ip : Ip) → mac_of table ip ≡ None → state_of (looked_up table ip) ip ≡ Pending
pending_after_lookup table ip unknown = found_pending table ip (entry_of table ip) refl unknown
