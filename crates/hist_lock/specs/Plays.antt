-- What each step tells its caller.
use Rattle.std.specs.Prelude.{◌≡◌, ℕ, ◌/◌, ◌^◌, ◌<◌, ◌==◌, Bool, MatchBool, List, [], ◌∷◌, length, Option, Some}
use mathlib.Core.List.{IsPrefix}
use Rattle.atomic_table.specs.Table.{Me, Step, rest}
use Rattle.hist_lock.specs.declared.table.Held.{Held}
use Rattle.hist_lock.specs.declared.table.Part.{Part}
use Rattle.hist_lock.specs.declared.table.View.{View}
use Rattle.hist_lock.specs.declared.table.Stage.{Stage}
use Rattle.hist_lock.specs.declared.table.Stage.TheVariants.{Idle, Inside}
use Rattle.hist_lock.specs.Histories.{Legal, made_by, longer, IsKept}
use Rattle.hist_lock.specs.Views.{alone, up_to}

abbrev Sat : Type 0 → Type 0 → Type 0
Sat O E = Me (Held O E) (View O E)

abbrev At : Type 0 → Type 0 → Type 0
At O E = Step (Held O E)

module _ {O E : Type 0} where
  module _ (by : E → ℕ) where
    -- the seat without the lock, whose caller has seen the history that it gave back
    abbrev pub left_with : View O E → List (Part E) → List (ℕ × Held O E) → View O E
    left_with v (p ∷ []) (x ∷ xs) = record v { stage = Idle; parts = up_to by x.1.log.items p ∷ [] }
    left_with v _ _ = v

    -- the lock and the object were given back
    abbrev pub gave : At O E → Sat O E → ℕ → Sat O E → Type 0
    gave st m found m' = m' ≡ (left_with m.0 m.0.parts m.1, rest m.1)

  module _ {S : Type 0} (state : O → S) (by : E → ℕ) (steps : S → E → S → Type 0) where
    -- the history is legal, goes on from what the caller had seen, and has of its entries just those that it made
    pub record Sees (start : O) (p : Part E) (log : List E) : Type 0 where
      pub begins : IsPrefix p.seen log
      pub legal : (t : S) × Legal steps (state start) log t
      pub made : p.mine ≡ made_by by p.number log

    -- the caller has now seen the longer of what it had seen and what it was told
    abbrev pub HearsAs : View O E → Option O → List (Part E) → View O E → Type 0
    HearsAs v (Some start) (p ∷ []) w = let both : List E = longer p.seen v.told in (w ≡ record v { told = []; parts = record p { seen = both } ∷ [] }) × IsPrefix v.told both × Sees start p both
    HearsAs v _ _ w = Unit {0}

    abbrev pub heard : At O E → Sat O E → ℕ → Sat O E → Type 0
    heard st m found m' = HearsAs m.0 m.0.start m.0.parts m'.0 × (m'.1 ≡ m.1)

    -- so many entries were published, and the caller has now seen them
    abbrev pub CountsAs : View O E → Option O → List (Part E) → ℕ → View O E → Type 0
    CountsAs v (Some start) (p ∷ []) found w = (log : List E) × (w ≡ record v { parts = record p { seen = log } ∷ [] }) × (found / 2 ≡ length log) × Sees start p log
    CountsAs v _ _ found w = Unit {0}

    abbrev pub counted : At O E → Sat O E → ℕ → Sat O E → Type 0
    counted st m found m' = CountsAs m.0 m.0.start m.0.parts found m'.0 × (m'.1 ≡ m.1)

  module _ {S T : Type 0} (state : O → S) (tag : O → T) (by : E → ℕ) (steps : S → E → S → Type 0) where
    -- the seat m has the lock, and with it the object and the history k
    pub record IsInside (start : O) (p : Part E) (k : Held O E) (m : Sat O E) : Type 0 where
      pub seat : m ≡ (alone (Some start) Inside (record p { seen = k.log.items }), (0, k) ∷ [])
      pub kept : IsKept state tag steps start k.object k.log.items
      pub few : length k.log.items < 2 ^ 63
      pub begins : IsPrefix p.seen k.log.items
      pub made : p.mine ≡ made_by by p.number k.log.items

    -- where the word was the one that says that the lock is free, the caller has it
    abbrev pub TriesAs : Option O → Stage → List (Part E) → Bool → Sat O E → Sat O E → Type 0
    TriesAs (Some start) Idle (p ∷ []) free m m' = MatchBool free ((k : Held O E) × IsInside start p k m') (m' ≡ m)
    TriesAs _ _ _ free m m' = Unit {0}

    abbrev pub tried : At O E → Sat O E → ℕ → Sat O E → Type 0
    tried st m found m' = TriesAs m.0.start m.0.stage m.0.parts (found == st.first) m m'
