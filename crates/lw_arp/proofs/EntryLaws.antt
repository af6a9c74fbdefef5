use Rattle.std.proofs.Common.{◌≡◌, ◌≢◌, ℕ, ◌<◌, Bool, true, false, ◌||◌, cond, eqb, eq-eqb, ltb, List, [], ◌∷◌, length, get_or, set, Option, Some, None, is_some, refl, ap, sym, ◌∙◌, arith, position, AllPairs}
use Rattle.std.specs.List.{list_any}
use Rattle.std.specs.Option.{option_map_or}
use Rattle.std.proofs.lemmas.Bool.{false≢true}
use Rattle.std.proofs.lemmas.Bool.Decides.{nat_tests}
use Rattle.std.proofs.lemmas.List.{ext_get_or, get_or-map, get_or-set_other, length-set, length-map}
use Rattle.std.proofs.lemmas.Grind.{get_or-set_at}
use Rattle.std.proofs.lemmas.List.Quantifiers.{position-Some}
use Rattle.lw_base.specs.declared.addresses.Ip.{Ip}
use Rattle.lw_base.specs.declared.addresses.Mac.{Mac}
use Rattle.lw_base.specs.declared.heads.ArpPacket.{ArpPacket}
use Rattle.lw_arp.specs.declared.entries.ArpEntry.{ArpEntry}
use Rattle.lw_arp.specs.declared.entries.EntryState.{EntryState}
use Rattle.lw_arp.specs.declared.entries.EntryState.TheVariants.{Pending, Empty}
use Rattle.lw_arp.specs.declared.entries.Lesson.{Lesson}
use Rattle.lw_arp.specs.declared.entries.Lesson.TheVariants.{Nothing, Update, Make}
use Rattle.lw_arp.specs.Neighbours.{is_of, entry_of, waiting, state_by, state_of, changed, lesson}
use Rattle.lw_arp.proofs.ListLaws.{find_none, find_some, none_passes}

-- the entry at the first place with this address is the entry of the address
pub entry_at : {P : Type 0} (table : List (ArpEntry P)) (ip : Ip) (i : ℕ) (x : ArpEntry P) → position (is_of ip) table ≡ Some i → i < length table → x ≡ get_or table i x → entry_of table ip ≡ Some x
entry_at table ip i x at within read = find_some (is_of ip) table i x at within read

-- the packet there is the one that waits for the address
pub waiting_at : {P : Type 0} (table : List (ArpEntry P)) (ip : Ip) (i : ℕ) (x : ArpEntry P) → position (is_of ip) table ≡ Some i → i < length table → x ≡ get_or table i x → x.packet ≡ waiting table ip
waiting_at table ip i x at within read = sym (rw (entry_at table ip i x at within read) refl)

-- and what the table has of the address goes by the hardware address there
pub state_at : {P : Type 0} (table : List (ArpEntry P)) (ip : Ip) (i : ℕ) (x : ArpEntry P) → position (is_of ip) table ≡ Some i → i < length table → x ≡ get_or table i x → state_of table ip ≡ state_by x.mac
state_at table ip i x at within read = rw (entry_at table ip i x at within read) refl

-- where there is no such place nothing waits and no entry changes
pub waiting_nowhere : {P : Type 0} (table : List (ArpEntry P)) (ip : Ip) → position (is_of ip) table ≡ None → None ≡ waiting table ip
waiting_nowhere table ip none = sym (rw (find_none (is_of ip) table none) refl)

pub state_nowhere : {P : Type 0} (table : List (ArpEntry P)) (ip : Ip) → position (is_of ip) table ≡ None → state_of table ip ≡ Empty
state_nowhere table ip none = rw (find_none (is_of ip) table none) refl

unchanged : {P : Type 0} (table : List (ArpEntry P)) (ip : Ip) (f : ArpEntry P → ArpEntry P) → list_any (is_of ip) table ≡ false → changed table ip f ≡ table
unchanged [] ip f none = refl
unchanged (x ∷ xs) ip f none =
    elim (is_of ip x) as (λ b. (b || list_any (is_of ip) xs) ≡ false → cond b (f x) x ∷ changed xs ip f ≡ x ∷ xs) [
      | true ↦ λ h. absurd (cc)
      | false ↦ λ h. ap (λ l. x ∷ l) (unchanged xs ip f h)
    ] none

pub changed_nowhere : {P : Type 0} (table : List (ArpEntry P)) (ip : Ip) (f : ArpEntry P → ArpEntry P) → position (is_of ip) table ≡ None → table ≡ changed table ip f
changed_nowhere table ip f none = sym (unchanged table ip f (none_passes (is_of ip) table none))

-- no other entry has the address
fails_elsewhere : {P : Type 0} (table : List (ArpEntry P)) (ip : Ip) (i k : ℕ) (d : ArpEntry P) → AllPairs (λ (x y : ArpEntry P). x.ip.0 ≢ y.ip.0) table → is_of ip (get_or table i d) ≡ true → ((j : ℕ) → j < i → is_of ip (get_or table j d) ≡ false) → k ≢ i → k < length table → is_of ip (get_or table k d) ≡ false
fails_elsewhere table ip i k d apart at before other within =
    elim (ltb k i) as (λ b. ltb k i ≡ b → is_of ip (get_or table k d) ≡ false) [
      | true ↦ λ e. before k (grind (arith, nat_tests))
      | false ↦ λ e.
          let later : i < k = grind (arith, nat_tests) in
          let differ = apart i k d later within in
          grind (arith, nat_tests)
    ] refl

-- in a table whose addresses are apart, a change of the entry of an address is one at its place
pub changed_at : {P : Type 0} (table : List (ArpEntry P)) (ip : Ip) (f : ArpEntry P → ArpEntry P) (i : ℕ) (x : ArpEntry P) → AllPairs (λ (x y : ArpEntry P). x.ip.0 ≢ y.ip.0) table → position (is_of ip) table ≡ Some i → i < length table → x ≡ get_or table i x → set table i (f x) ≡ changed table ip f
changed_at {P} table ip f i x apart at within read =
    let first = position-Some (is_of ip) table i x at in
    let change : ArpEntry P → ArpEntry P = λ e. cond (is_of ip e) (f e) e in
    let there : is_of ip x ≡ true = ap (is_of ip) read ∙ first.1 in
    ext_get_or x (set table i (f x)) (changed table ip f) (length-set table i (f x) ∙ sym (length-map table change)) (λ k below.
    let in_table : k < length table = let n = length-set table i (f x) in omega arith in
    let new : get_or (changed table ip f) k x ≡ change (get_or table k x) = get_or-map change table k x x in_table in
    elim (eqb k i) as (λ b. eqb k i ≡ b → get_or (set table i (f x)) k x ≡ get_or (changed table ip f) k x) [
      | true ↦ λ e.
          let same : k ≡ i = grind (arith, nat_tests) in
          get_or-set_at table i k (f x) x same within
          ∙ sym (new ∙ ap (λ n. change (get_or table n x)) same ∙ ap change (sym read) ∙ rw there refl)
      | false ↦ λ e.
          let other : k ≢ i = λ same. false≢true (sym e ∙ eq-eqb k i same) in
          let fails : is_of ip (get_or table k x) ≡ false = fails_elsewhere table ip i k x apart first.1 first.2 other in_table in
          get_or-set_other table i k (f x) x other ∙ sym (new ∙ rw fails refl)
    ] refl)

-- an address of which the table has nothing has no entry
pub unknown_when_empty : {P : Type 0} (o : Option (ArpEntry P)) → option_map_or (λ (e : ArpEntry P). state_by e.mac) o Empty ≡ Empty → o ≡ None
unknown_when_empty None empty = refl
unknown_when_empty (Some e) empty = elim e.mac as (λ m. state_by m ≡ Empty → Some e ≡ None) [
  | None ↦ λ h. absurd (cc)
  | Some m ↦ λ h. absurd (cc)
] empty

made_of_none : {P : Type 0} (b : Bool) (o : Option (ArpEntry P)) (l : Lesson) → cond b Nothing (cond (is_some o) Update l) ≡ Make → o ≡ None
made_of_none true o l make = absurd (cc)
made_of_none false None l make = refl
made_of_none false (Some e) l make = absurd (cc)

-- an entry is made by a packet only where the sender has none
pub unknown_when_made : {P : Type 0} (own : Ip) (table : List (ArpEntry P)) (p : ArpPacket) → lesson own table p ≡ Make → entry_of table p.sip ≡ None
unknown_when_made own table p make = made_of_none (eqb p.sip.0 own.0) (entry_of table p.sip) _ make

-- an entry that is pending isn't stable, and is there
pub pending_is_not_stable : {A : Type 0} (mac : Option Mac) → state_by mac ≡ Pending → is_some mac ≡ true → A
pending_is_not_stable None pending stable = absurd (cc)
pending_is_not_stable (Some m) pending stable = absurd (cc)

pub pending_is_not_empty : (s : EntryState) → s ≡ Pending → s ≡ Empty → ⊥
pending_is_not_empty s pending empty = cc
