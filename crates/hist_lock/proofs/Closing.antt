-- What the callers that come back say of the whole history.
use Rattle.std.proofs.Common.{◌≡◌, ℕ, ◌<◌, ◌==◌, List, [], ◌∷◌, length, map, All, Option, Some, option_to_list, ◌++◌, append_assoc, sym, ap, ◌∙◌, subst, arith}
use Rattle.std.proofs.lemmas.List.Elements.{All-pop}
use mathlib.Core.Option.{some, some-injective}
use mathlib.Core.Option as maybe
use mathlib.Core.List.{IsPrefix}
use lib.ListN.{get_elem?, length-map}
use Rattle.atomic_table.specs.Table.{State, Me, Final, Seen}
use Rattle.atomic_table.specs.Seated.{TableId}
use Rattle.atomic_table.specs.declared.shared.Seat.{Seat}
use Rattle.hist_lock.specs.declared.table.Held.{Held}
use Rattle.hist_lock.specs.declared.table.Part.{Part}
use Rattle.hist_lock.specs.declared.table.View.{View}
use Rattle.hist_lock.specs.declared.table.Stage.TheVariants.{Idle}
use Rattle.hist_lock.specs.Histories.{made_by}
use Rattle.hist_lock.specs.Views.{alone, gathered}
use Rattle.hist_lock.specs.Callers.{Known, part_from, IsAll, IsNumbered}
use Rattle.hist_lock.proofs.Lists.{All-unmap, count_by-map}
use Rattle.hist_lock.proofs.Keeps.{Rule}
use Rattle.hist_lock.proofs.Ends.{IsClosed, closes}

module _ {O E : Type 0} (start : O) where
  -- a seat that speaks for these callers
  abbrev pub all_of : List (Known O E) → View O E
  all_of cs = record { start = Some start; stage = Idle; told = []; parts = map part_from cs }

  abbrev pub IsOf : TableId → Known O E → Type 0
  IsOf z c = (c.lock ≡ z) × (c.start ≡ Some start)

  -- the seat s speaks for all but those that are left
  pub record IsGathered (z : TableId) (all left : List (Known O E)) (s : Seat (Held O E) (View O E)) : Type 0 where
    pub back : List (Known O E)
    pub whole : left ++ back ≡ all
    pub own : All (IsOf z) left
    pub table : s.table_id ≡ z
    pub seat : s.me ≡ (all_of back, [])

  module _ (z : TableId) (all xs ys : List (Known O E)) (x : Known O E) (r : Option (Known O E)) (own : All (IsOf z) xs) (popped : xs ≡ ys ++ option_to_list r) (is : r ≡ Some x) where
    last_is : xs ≡ ys ++ x ∷ []
    last_is = popped ∙ ap (λ (o : Option (Known O E)). ys ++ option_to_list o) is

    pub last_own : IsOf z x
    last_own = (All-pop (IsOf z) xs ys (Some x) last_is own).1

    pub alone_is : (m : Me (Held O E) (View O E)) → m ≡ (alone x.start Idle (part_from x), []) → m ≡ (alone (Some start) Idle (part_from x), [])
    alone_is m e = e ∙ ap (λ (o : Option O). let n : Me (Held O E) (View O E) = (alone o Idle (part_from x), []) in n) last_own.1

    pub one_gathered : (s : Seat (Held O E) (View O E)) → xs ≡ all → s.table_id ≡ x.lock → s.me ≡ (alone x.start Idle (part_from x), []) → IsGathered z all ys s
    one_gathered s e table seat = record { back = x ∷ []; whole = sym last_is ∙ e; own = (All-pop (IsOf z) xs ys (Some x) last_is own).0; table = table ∙ last_own.0; seat = alone_is s.me seat }

    pub more_gathered : (s s' : Seat (Held O E) (View O E)) (w : View O E) (h : IsGathered z all xs s) → w ≡ alone (Some start) Idle (part_from x) → s'.table_id ≡ s.table_id → s'.me ≡ (gathered s.me.0 w, s.me.1)
        → IsGathered z all ys s'
    more_gathered s s' w h e table seat = record {
      back = x ∷ h.back;
      whole = sym (append_assoc ys (x ∷ []) h.back) ∙ (ap (λ (l : List (Known O E)). l ++ h.back) (sym last_is) ∙ h.whole);
      own = (All-pop (IsOf z) xs ys (Some x) last_is own).0;
      table = table ∙ h.table;
      seat = seat ∙ (λ i. (gathered (h.seat i).0 (e i), (h.seat i).1));
    }

  pub all_gathered : (z : TableId) (all left : List (Known O E)) (s : Seat (Held O E) (View O E)) → IsGathered z all left s → length left ≡ 0 → s.me ≡ (all_of all, [])
  all_gathered z all [] s h e = h.seat ∙ ap (λ (l : List (Known O E)). let n : Me (Held O E) (View O E) = (all_of l, []) in n) h.whole
  all_gathered z all (c ∷ cs) s h e = absurd (omega arith)

module _ {O E S T : Type 0} (state : O → S) (tag : O → T) (by : E → ℕ) (steps : S → E → S → Type 0) (start : O) where
  pub ended : (cs : List (Known O E)) (s : State (Held O E) (View O E)) (r : Rule state tag by steps start s) (id : ℕ) (v : View O E) → get_elem? s.views id ≡ some v → v ≡ all_of start cs → IsAll cs
      → (k : Held O E) × (s.homes ≡ some k ∷ []) × IsClosed state tag by steps start (map part_from cs) k
  ended [] s r id v at is all = absurd all
  ended (c ∷ cs) s r id v at is all = closes state tag by steps start s r id (part_from c) (map part_from cs) (at ∙ ap some is) all.0 (all.1 ∙ sym (length-map (c ∷ cs) part_from))

  module _ (cs : List (Known O E)) (k : Held O E) (h : IsClosed state tag by steps start (map part_from cs) k) where
    pub all_seen : All (λ c. IsPrefix c.seen k.log.items) cs
    all_seen = All-unmap part_from (λ (p : Part E). IsPrefix p.seen k.log.items) cs (λ i d b. (h.owns i d b).saw)

    pub all_made : All (λ c. made_by by c.number k.log.items ≡ c.mine) cs
    all_made = All-unmap part_from (λ (p : Part E). made_by by p.number k.log.items ≡ p.mine) cs (λ i d b. sym (h.owns i d b).made)

    pub all_entries : All (λ e. by e < length cs) k.log.items
    all_entries = subst (λ (n : ℕ). All (λ e. by e < n) k.log.items) (length-map cs part_from) h.entries

    pub all_numbered : IsNumbered (map (λ c. c.number) cs)
    all_numbered n b = let long = length-map cs (λ (c : Known O E). c.number) in let long' = length-map cs (part_from {O = O} {E = E}) in
        count_by-map (λ (c : Known O E). c.number) (λ m. m == n) cs ∙ (sym (count_by-map part_from (λ (p : Part E). p.number == n) cs) ∙ h.once n (omega arith))

  -- what the slot held when the table was closed
  module _ (cs : List (Known O E)) (ws : List ℕ) (xs : List (Held O E)) (id : ℕ) (v : View O E) (k : Held O E) (final : Final (Seen (Rule state tag by steps start) id v) ws xs) (is : v ≡ all_of start cs) (all : IsAll cs)
      (taken : get_elem? xs 0 ≡ some k) where
    pub closed_is : IsClosed state tag by steps start (map part_from cs) k
    closed_is = let end = ended cs final.0 final.1.0 id v final.1.1 is all in
        subst (IsClosed state tag by steps start (map part_from cs)) (some-injective end.0 k (sym (final.4 0 end.0 (ap (λ (hs : List (maybe.Option (Held O E))). get_elem? hs 0) end.1)) ∙ taken)) end.2

pub some_callers : {O E : Type 0} (cs : List (Known O E)) → IsAll cs → 0 < length cs
some_callers [] h = absurd h
some_callers (c ∷ cs) h = omega arith
