-- The seat of a caller between two calls, and what contracts see of it.
use Rattle.std.proofs.Common.{◌≡◌, ℕ, ◌/◌, List, [], length, Option, Some, sym, ap, ◌∙◌, subst}
use mathlib.Core.Option.{none}
use Rattle.atomic_table.specs.Table.{Me, step}
use Rattle.atomic_table.specs.declared.shared.Seat.{Seat}
use Rattle.hist_lock.specs.declared.table.Held.{Held}
use Rattle.hist_lock.specs.declared.table.Part.{Part}
use Rattle.hist_lock.specs.declared.table.View.{View}
use Rattle.hist_lock.specs.declared.table.Stage.{Stage}
use Rattle.hist_lock.specs.declared.table.Stage.TheVariants.{Idle}
use Rattle.hist_lock.specs.Views.{alone, part_of, informed, spent}
use Rattle.hist_lock.specs.Histories.{longer}
use mathlib.Core.List.{IsPrefix}
use Rattle.hist_lock.specs.Plays.{counted, Sees, heard}
use Rattle.hist_lock.specs.Callers.{Known, Begun, known, part_from, IsResting, IsSameCaller}

abbrev pub Place : Type 0 → Type 0 → Type 0
Place O E = Seat (Held O E) (View O E)

abbrev pub Sat : Type 0 → Type 0 → Type 0
Sat O E = Me (Held O E) (View O E)

module _ {O E : Type 0} where
  pub rests : (s : Place O E) (number splits : ℕ) (c : Known O E) → IsResting s number splits → known s number splits ≡ c → s.me ≡ (alone c.start Idle (part_from c), [])
  rests s number splits c rest is = subst (λ (x : Known O E). s.me ≡ (alone x.start Idle (part_from x), [])) is rest

  -- and where it is a caller of the lock that began so
  pub rests_at : (s : Place O E) (number splits : ℕ) (c : Known O E) (b b' : Begun O) → IsResting s number splits → known s number splits ≡ c → c.start ≡ Some b.start → b' ≡ b
      → s.me ≡ (alone (Some b'.start) Idle (part_from c), [])
  rests_at s number splits c b b' rest is own same = rests s number splits c rest is ∙ ap (λ (o : Option O). let m : Sat O E = (alone o Idle (part_from c), []) in m) (own ∙ ap (λ (x : Begun O). Some x.start) (sym same))

  module _ (s : Place O E) (o : Option O) (q : Part E) (e : s.me ≡ (alone o Idle q, [])) where
    pub known_is : (number splits : ℕ) → known s number splits ≡ record { lock = s.table_id; start = o; number = number; splits = splits; seen = q.seen; mine = q.mine }
    known_is number splits =
        ap (λ (m : Sat O E). let c : Known O E = record { lock = s.table_id; start = m.0.start; number = number; splits = splits; seen = (part_of m.0).seen; mine = (part_of m.0).mine } in c) e

    pub resting : (number splits : ℕ) → q.number ≡ number → q.splits ≡ splits → IsResting s number splits
    resting number splits en es = e ∙ (λ i. (alone (sym e i).0.start Idle (record { number = en i; splits = es i; seen = (part_of (sym e i).0).seen; mine = (part_of (sym e i).0).mine }), []))

  -- the caller's part is what the seat has
  pub own_part : (m : Sat O E) (o : Option O) (g : Stage) (p : Part E) (cs : List (ℕ × Held O E)) → m ≡ (alone o g p, cs) → m ≡ (alone o g (part_of m.0), cs)
  own_part m o g p cs e = e ∙ ap (λ (q : Part E). let x : Sat O E = (alone o g q, cs) in x) (sym (ap (λ (x : Sat O E). part_of x.0) e))

  -- a seat from which contracts see the caller d
  module _ (s : Place O E) (d : Known O E) (number splits : ℕ) (e : s.me ≡ (alone d.start Idle (part_from d), [])) (n : number ≡ d.number) (k : splits ≡ d.splits) where
    pub known_as : s.table_id ≡ d.lock → known s number splits ≡ d
    known_as t = known_is s d.start (part_from d) e number splits ∙ (λ i. record { lock = t i; start = d.start; number = n i; splits = k i; seen = d.seen; mine = d.mine })

    pub resting_as : IsResting s number splits
    resting_as = resting s d.start (part_from d) e number splits (sym n) (sym k)

  -- the seat s' of the same caller, after a call
  module _ (s s' : Place O E) (number splits : ℕ) (c : Known O E) (b b' : Begun O) (q : Part E) (view : known s number splits ≡ c) (own : c.start ≡ Some b.start) (same : b' ≡ b) (table : s'.table_id ≡ s.table_id)
      (e : s'.me ≡ (alone (Some b'.start) Idle q, [])) where
    pub same_caller : IsSameCaller c (known s' number splits)
    same_caller = (table ∙ ap (λ (x : Known O E). x.lock) view, ap (λ (m : Sat O E). m.0.start) e ∙ (ap (λ (x : Begun O). Some x.start) same ∙ sym own), ap (λ (x : Known O E). x.number) view, ap (λ (x : Known O E). x.splits) view)

    pub rests_again : q.number ≡ c.number → q.splits ≡ c.splits → IsResting s' number splits
    rests_again en es = resting s' (Some b'.start) q e number splits (en ∙ sym (ap (λ (x : Known O E). x.number) view)) (es ∙ sym (ap (λ (x : Known O E). x.splits) view))

    -- what holds of what the caller has seen and made holds of what contracts see of it
    pub of_known : (P : List E → List E → Type 0) → P q.seen q.mine → P (known s' number splits).seen (known s' number splits).mine
    of_known P h = subst (λ (x : Known O E). P x.seen x.mine) (sym (known_is s' (Some b'.start) q e number splits)) h

  module _ {S : Type 0} (state : O → S) (by : E → ℕ) (steps : S → E → S → Type 0) where
    pub counted_is : (start : O) (found : ℕ) (p : Part E) (m m' : Sat O E) → m ≡ (alone (Some start) Idle p, []) → counted state by steps (step 0 0 0 0 none) m found m'
        → (l : List E) × (m' ≡ (alone (Some start) Idle (record p { seen = l }), [])) × (found / 2 ≡ length l) × Sees state by steps start p l
    counted_is start found p m m' e d = let h = subst (λ (x : Sat O E). counted state by steps (step 0 0 0 0 none) x found m') e d in (h.0.0, (λ i. (h.0.1 i, h.1 i)), h.0.2, h.0.3)

    pub heard_is : (start : O) (p : Part E) (told : List E) (m : Sat O E) (found : ℕ) (m' : Sat O E) → m ≡ (informed (alone (Some start) Idle p) (record spent { told = told }), []) → heard state by steps (step 0 0 0 0 none) m found m'
        → let both : List E = longer p.seen told in (m' ≡ (alone (Some start) Idle (record p { seen = both }), [])) × IsPrefix told both × Sees state by steps start p both
    heard_is start p told m found m' e d = let h = subst (λ (x : Sat O E). heard state by steps (step 0 0 0 0 none) x found m') e d in ((λ i. (h.0.0 i, h.1 i)), h.0.1, h.0.2)

  -- a caller that was told what another had seen
  module _ (o : Option O) (p : Part E) (told : List E) (m : Sat O E) where
    pub informed_is : (v w : View O E) (c : List (ℕ × Held O E)) → ◌≡◌ {A = Sat O E} (v, c) (alone o Idle p, []) → w.told ≡ told → m ≡ (informed v w, c) → m ≡ (informed (alone o Idle p) (record spent { told = told }), [])
    informed_is v w c e t d = d ∙ (λ i. (informed (e i).0 (record spent { told = t i }), (e i).1))
