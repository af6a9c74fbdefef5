-- The rule of a board's table, and what each step does and tells.
use Rattle.std.specs.Prelude.{◌≡◌, ℕ, ◌<◌, suc, Bool, true, false, List, [], ◌∷◌, ◌++◌, All, length, slice_index, Option, Some, None}
use mathlib.Core.Option.{some}
use lib.ListN.{get_elem?}
use Rattle.atomic_table.specs.Table.{State, Me, Step}
use Rattle.atomic_table.specs.declared.shared.Seat.{Seat}
use Rattle.lw_board.specs.Places.{Store, a_store, Trail, start, load, both, value_after, HasPlace}
use Rattle.lw_board.specs.Tokens.{Origin, Written, Seen, History}
use Rattle.lw_board.specs.declared.sight.Sight.{Sight}

module _ {F : Type 0} where
  abbrev pub sight : Option F → History → Sight F
  sight about history = record { about = about; past = record { history = history } }

  abbrev pub stores_of : Sight F → List Store
  stores_of v = v.past.history.stores

  abbrev pub trail_of : Sight F → Trail
  trail_of v = v.past.history.trail

  -- the first view, which is the writer's, of a table with so many words
  abbrev pub newcomer : ℕ → F → Sight F
  newcomer words about = sight (Some about) record { words = words; leads = true; stores = []; back = []; trail = start }

  -- the view of a looker of the same board, which has seen this trail
  abbrev pub looker : Sight F → Trail → Sight F
  looker v t = sight v.about record { words = v.past.history.words; leads = false; stores = []; back = []; trail = t }

  abbrev pub joined : Sight F → Sight F → Sight F
  joined v w = looker v (both (trail_of v) (trail_of w))

  abbrev pub gathered : Sight F → Sight F → Sight F
  gathered v w = sight v.about (record v.past.history { back = v.past.history.back ++ trail_of w ∷ [] })

  -- a view that is left where a seat was joined to another
  abbrev pub spent : Sight F
  spent = sight None record { words = 0; leads = false; stores = []; back = []; trail = start }

  -- what holds of the seat j and its view, where the writer has made these stores
  pub record Knows (about : F) (width : ℕ) (stores : List Store) (j : ℕ) (v : Sight F) : Type 0 where
    pub told : (a : F) → v.about ≡ Some a → (a ≡ about) × (v.past.history.words ≡ width)
    pub leads : v.past.history.leads ≡ true → (j ≡ 0) × (stores_of v ≡ stores)
    pub stands : HasPlace stores (trail_of v)
    pub backs : All (HasPlace stores) v.past.history.back

  -- Each word has the value that the stores left there, and each but the last has one that it may have.
  -- Each trail has its place.
  pub record Ruled (may : F → ℕ → ℕ → Type 0) (about : F) (s : State ℕ (Sight F)) : Type 0 where
    pub width : ℕ
    pub stores : List Store
    pub wide : length s.words ≡ width
    pub shown : (i : ℕ) → i < width → slice_index s.words i ≡ value_after stores i
    pub allowed : (i : ℕ) → suc i < width → may about i (slice_index s.words i)
    pub each : (j : ℕ) (v : Sight F) → get_elem? s.views j ≡ some v → Knows about width stores j v

  -- the writer's view gains the store
  abbrev pub stored : Step ℕ → Me ℕ (Sight F) → ℕ → Me ℕ (Sight F) → Type 0
  stored st m n m' = m' ≡ (sight m.0.about (record m.0.past.history { stores = stores_of m.0 ++ a_store st.word n ∷ [] }), m.1)

  -- A looker's trail gains the load, and the value is one that the word may have.
  -- In the writer's stores each load of the trail has its place.
  abbrev pub looked : (F → ℕ → ℕ → Type 0) → Step ℕ → Me ℕ (Sight F) → ℕ → Me ℕ (Sight F) → Type 0
  looked may st m n m' = (m' ≡ (looker m.0 (load (trail_of m.0) st.word n), m.1))
      × ((a : F) → m.0.about ≡ Some a → suc st.word < m.0.past.history.words → may a st.word n)
      × ((stores : List Store) × HasPlace stores (load (trail_of m.0) st.word n))

  -- each load of the trails that the writer took back has its place in the writer's stores
  abbrev pub found : Step ℕ → Me ℕ (Sight F) → ℕ → Me ℕ (Sight F) → Type 0
  found st m n m' = (m' ≡ m) × All (HasPlace (stores_of m.0)) m.0.past.history.back

  abbrev pub origin_of : Seat ℕ (Sight F) → Origin F
  origin_of s = record { id = s.table_id; about = s.me.0.about }

  abbrev pub written : Seat ℕ (Sight F) → Written F
  written s = record { board = origin_of s; stores = stores_of s.me.0; back = s.me.0.past.history.back }

  abbrev pub seen : Seat ℕ (Sight F) → Seen F
  seen s = record { board = origin_of s; trail = trail_of s.me.0 }

  -- the seat holds no slot, and is the writer's or a looker's
  abbrev pub IsToken : Bool → Seat ℕ (Sight F) → Type 0
  IsToken leads s = (s.me.1 ≡ []) × (s.me.0.past.history.leads ≡ leads) × (s.me.0.past.history.words ≡ s.table_id.words)
