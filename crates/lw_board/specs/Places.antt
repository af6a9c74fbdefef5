-- What one writer stored, what a looker has seen of it, and how far into the stores that was.
use Rattle.std.specs.Prelude.{◌≡◌, ◌≢◌, ℕ, ◌≤◌, ◌<◌, max, List, ◌++◌, length, take, fold, ◌==◌, if◌then◌else◌}

-- one store: which word, and which value
pub record Store : Type 0 where
  pub word : ℕ
  pub value : ℕ

-- the store of a value in a word
abbrev pub a_store : ℕ → ℕ → Store
a_store word value = record { word = word; value = value }

-- the word's value after these stores, oldest first: that of its last store, and 0 before its first
abbrev pub value_after : List Store → ℕ → ℕ
value_after stores word = fold (λ v s. if s.word == word then s.value else v) 0 stores

-- the list begins with what was seen
abbrev pub IsPrefix : List Store → List Store → Type 0
IsPrefix seen stores = (more : List Store) × (stores ≡ seen ++ more)

-- All that a looker has seen: nothing; what it had seen and then a load of a word, which gave a value;
-- what it had seen and then all stores that the writer had made; what two lookers had seen.
pub data Trail : Type 0 where
  start : Trail
  load : Trail → ℕ → ℕ → Trail
  note : Trail → List Store → Trail
  both : Trail → Trail → Trail

-- p is the least number of stores, not below q, after which the word had this value
pub record IsFirst (stores : List Store) (word value q p : ℕ) : Type 0 where
  pub from : q ≤ p
  pub within : p ≤ length stores
  pub shows : value_after (take p stores) word ≡ value
  pub least : (n : ℕ) → q ≤ n → n < p → value_after (take n stores) word ≢ value

-- The trail has the place p in the writer's stores: its looker has surely seen the first p of them.
-- A place begins at 0, and no item of a trail lowers it.
abbrev pub StandsAt : List Store → Trail → ℕ → Type 0
StandsAt stores start p = p ≡ 0
StandsAt stores (load t word value) p = (q : ℕ) × StandsAt stores t q × IsFirst stores word value q p
StandsAt stores (note t seen) p = (q : ℕ) × StandsAt stores t q × IsPrefix seen stores × (p ≡ max q (length seen))
StandsAt stores (both t u) p = (q : ℕ) × (r : ℕ) × StandsAt stores t q × StandsAt stores u r × (p ≡ max q r)

-- every load of the trail has its place in these stores
abbrev pub HasPlace : List Store → Trail → Type 0
HasPlace stores t = (p : ℕ) × StandsAt stores t p

-- in no list of stores is the place of u before that of t
abbrev pub NotBefore : Trail → Trail → Type 0
NotBefore t u = (stores : List Store) (q p : ℕ) → StandsAt stores t q → StandsAt stores u p → q ≤ p
