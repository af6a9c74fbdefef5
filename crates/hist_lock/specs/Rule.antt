-- The rule of the table: what holds between any two steps.
use Rattle.std.specs.Prelude.{◌≡◌, ℕ, ◌+◌, ◌*◌, ◌<◌, ◌≤◌, nat_lt, cond, All, sum_by, List, [], ◌∷◌, length, replicate, Some}
use mathlib.Core.Option.{none, some}
use mathlib.Core.List.{IsPrefix}
use lib.ListN.{get_elem?}
use Rattle.atomic_table.specs.Table.{State}
use Rattle.hist_lock.specs.declared.table.Held.{Held}
use Rattle.hist_lock.specs.declared.table.Part.{Part}
use Rattle.hist_lock.specs.declared.table.View.{View}
use Rattle.hist_lock.specs.declared.table.Stage.{Stage}
use Rattle.hist_lock.specs.declared.table.Stage.TheVariants.{Idle, Inside}
use Rattle.hist_lock.specs.Histories.{Legal, made_by, IsKept}
use Rattle.hist_lock.specs.Views.{enters, having, first_part}

-- the words behind the first, which only keep the slot off its cache line
abbrev pub padding : List ℕ
padding = replicate 15 0

-- 1 for the number of a caller
abbrev pub below : ℕ → ℕ → ℕ
below n callers = cond (nat_lt n callers) 1 0

-- what is true of one caller
pub record Owns {E : Type 0} (by : E → ℕ) (log : List E) (callers : ℕ) (p : Part E) : Type 0 where
  pub saw : IsPrefix p.seen log
  pub own : p.mine ≡ made_by by p.number p.seen
  pub made : p.mine ≡ made_by by p.number log
  pub first : p.number ≡ 0 → p.splits + 1 ≡ callers

-- who has the lock has seen the whole history
abbrev pub IsUpToDate : {E : Type 0} → List E → Stage → List (Part E) → Type 0
IsUpToDate log Idle ps = Unit {0}
IsUpToDate log Inside ps = (first_part ps).seen ≡ log

-- what is true of one seat
pub record Knows {O E : Type 0} (by : E → ℕ) (start : O) (log : List E) (callers : ℕ) (v : View O E) : Type 0 where
  pub same : 0 < length v.parts → v.start ≡ Some start
  pub hears : IsPrefix v.told log
  pub current : IsUpToDate log v.stage v.parts
  pub heavy : enters v.stage ≤ length v.parts
  pub owns : All (Owns by log callers) v.parts

-- At most one seat has the lock, and the object stands in the slot where none has. Each number below `callers` stands with one seat
pub record Ruled {O E S T : Type 0} (state : O → S) (tag : O → T) (by : E → ℕ) (steps : S → E → S → Type 0) (start : O) (s : State (Held O E) (View O E)) : Type 0 where
  pub log : List E
  pub taken : ℕ
  pub callers : ℕ
  pub words : s.words ≡ (2 * length log + taken) ∷ padding
  pub inside : sum_by (λ v. enters v.stage) s.views ≡ taken
  pub one : taken ≤ 1
  pub legal : (t : S) × Legal steps (state start) log t
  pub entries : All (λ e. by e < callers) log
  pub whole : sum_by (λ v. length v.parts) s.views ≡ callers
  pub numbers : (n : ℕ) → sum_by (having n) s.views ≡ below n callers
  pub each : (i : ℕ) (v : View O E) → get_elem? s.views i ≡ some v → Knows by start log callers v
  pub home : taken ≡ 0 → (k : Held O E) × (s.homes ≡ some k ∷ []) × IsKept state tag steps start k.object k.log.items × (k.log.items ≡ log)
  pub away : taken ≡ 1 → s.homes ≡ none ∷ []
