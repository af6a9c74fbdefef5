-- Histories: lists of entries, each a step from the state before it.
use Rattle.std.specs.Prelude.{◌≡◌, ℕ, ◌==◌, nat_lt, cond, All, filter, List, [], ◌∷◌, ◌++◌, length}
use Rattle.hist_lock.specs.declared.table.Held.{Held}

-- the entries lead from the first state to the last, each by a step
abbrev pub Legal : {S E : Type 0} → (S → E → S → Type 0) → S → List E → S → Type 0
Legal steps s [] t = s ≡ t
Legal {S} steps s (e ∷ es) t = (u : S) × steps s e u × Legal steps u es t

-- the entries of the caller n, in their order
abbrev pub made_by : {E : Type 0} → (E → ℕ) → ℕ → List E → List E
made_by by n log = filter (λ e. by e == n) log

-- the longer of two histories
abbrev pub longer : {E : Type 0} → List E → List E → List E
longer xs ys = cond (nat_lt (length xs) (length ys)) ys xs

-- the second history is the first and entries of the caller n
abbrev pub GrowsBy : {E : Type 0} → (E → ℕ) → ℕ → List E → List E → Type 0
GrowsBy {E} by n xs ys = (es : List E) × (ys ≡ xs ++ es) × All (λ e. by e ≡ n) es

-- the object is where the history leads from the start, under the same tag
abbrev pub IsKept : {O E S T : Type 0} → (O → S) → (O → T) → (S → E → S → Type 0) → O → O → List E → Type 0
IsKept state tag steps start object log = Legal steps (state start) log (state object) × (tag object ≡ tag start)

-- the object made one step, for the caller n with this event and this reply, and the log has its entry
abbrev pub AddsOne : {O E S Ev R : Type 0} → (O → S) → (E → ℕ) → (E → Ev → R → Type 0) → (S → E → S → Type 0) → Held O E → Held O E → ℕ → Ev → R → Type 0
AddsOne {O} {E} state by tells steps old new n ev r = (e : E) × (new.log.items ≡ old.log.items ++ e ∷ []) × steps (state old.object) e (state new.object) × (by e ≡ n) × tells e ev r
