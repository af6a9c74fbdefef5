use Rattle.std.proofs.Common.{◌≡◌, ℕ, suc, ◌<◌, Bool, true, false, not, ◌||◌, ◌&&◌, cond, List, [], ◌∷◌, length, get_or, Some, None, refl, ap, sym, ◌∙◌, arith, ltb, Contains}
use Rattle.std.specs.List.{list_any}
use Rattle.std.proofs.lemmas.Bool.{false≢true}
use Rattle.std.proofs.lemmas.Bool.Decides.{nat_tests}
use Rattle.std.proofs.lemmas.Option.{slice_get_read, none-some}
use Rattle.lw_arp.specs.declared.entries.ArpEntry.{ArpEntry}
use Rattle.lw_arp.specs.Neighbours.{goes_sooner, is_stable, oldest_place, place_to_free, given_up}
use Rattle.lw_arp.proofs.ListLaws.{within_list, one_passes, none_passes, none_of_fewer}

not_before_itself : (s : Bool) (m : ℕ) → cond s (not s || ltb m m) (not s && ltb m m) ≡ false
not_before_itself true m = grind (arith, nat_tests)
not_before_itself false m = grind (arith, nat_tests)

-- x goes sooner than y, and z doesn't, so z doesn't go sooner than x
not_before_sooner : (s t u : Bool) (m n k : ℕ) → cond s (not t || ltb n m) (not t && ltb n m) ≡ true → cond u (not t || ltb n k) (not t && ltb n k) ≡ false → cond u (not s || ltb m k) (not s && ltb m k) ≡ false
not_before_sooner true true true m n k x z = grind (arith, nat_tests)
not_before_sooner true true false m n k x z = refl
not_before_sooner true false true m n k x z = absurd (cc)
not_before_sooner true false false m n k x z = refl
not_before_sooner false true u m n k x z = absurd (cc)
not_before_sooner false false true m n k x z = absurd (cc)
not_before_sooner false false false m n k x z = grind (arith, nat_tests)

-- in every table with an entry there is one than which none goes sooner
pub oldest : {P : Type 0} (x : ArpEntry P) (xs : List (ArpEntry P)) → (y : ArpEntry P) × Contains (x ∷ xs) y × (list_any (λ z. goes_sooner z y) (x ∷ xs) ≡ false)
oldest x [] = (x, (0, omega arith, refl), rw (not_before_itself (is_stable x) x.age) refl)
oldest x (x' ∷ xs) =
    let rest = oldest x' xs in
    let y = rest.0 in
    elim (goes_sooner x y) as (λ b. goes_sooner x y ≡ b → (y : ArpEntry _) × Contains (x ∷ x' ∷ xs) y × (list_any (λ z. goes_sooner z y) (x ∷ x' ∷ xs) ≡ false)) [
      | true ↦ λ sooner.
          let later = none_of_fewer (λ z. goes_sooner z y) (λ z. goes_sooner z x) (x' ∷ xs)
          (λ z later. not_before_sooner (is_stable x) (is_stable y) (is_stable z) x.age y.age z.age sooner later) rest.2 in
          (x, (0, omega arith, refl), rw (not_before_itself (is_stable x) x.age, later) refl)
      | false ↦ λ later. (y, (suc rest.1.0, omega arith, rest.1.2), rw (later, rest.2) refl)
    ] refl

-- a table with an entry has an oldest one
pub oldest_is_there : {P : Type 0} (table : List (ArpEntry P)) → oldest_place table ≡ None → length table ≡ 0
oldest_is_there [] none = refl
oldest_is_there {P} (x ∷ xs) none =
    let there = oldest x xs in
    let is_oldest : ArpEntry P → Bool = λ y. not (list_any (λ z. goes_sooner z y) (x ∷ xs)) in
    let some = one_passes is_oldest (x ∷ xs) there.0 there.1 (ap not there.2) in
    absurd (false≢true (sym (none_passes is_oldest (x ∷ xs) none) ∙ some))

-- a table that gives no entry up has room
pub has_room : {P : Type 0} (table : List (ArpEntry P)) → place_to_free table ≡ None → length table < 10
has_room table none =
    elim (ltb (length table) 10) as (λ b. ltb (length table) 10 ≡ b → cond b None (oldest_place table) ≡ None → length table < 10) [
      | true ↦ λ few _. grind (arith, nat_tests)
      | false ↦ λ _ h. let empty = oldest_is_there table h in omega arith
    ] refl none

-- the packet that is given up is that of the entry at the place that is freed
pub given_up_at : {P : Type 0} (table : List (ArpEntry P)) (i : ℕ) (x : ArpEntry P) → place_to_free table ≡ Some i → i < length table → x ≡ get_or table i x → x.packet ≡ given_up table
given_up_at table i x at within read = sym (rw (at, slice_get_read table (length table) i x refl within read) refl)

-- the place that is freed is in the table
pub free_within : {P : Type 0} (table : List (ArpEntry P)) (i : ℕ) → place_to_free table ≡ Some i → i < length table
free_within {P} table i some =
    elim (ltb (length table) 10) as (λ b. cond b None (oldest_place table) ≡ Some i → i < length table) [
      | true ↦ λ h. absurd (none-some i h)
      | false ↦ λ h. within_list (λ (y : ArpEntry P). not (list_any (λ x. goes_sooner x y) table)) table i h
    ] some
