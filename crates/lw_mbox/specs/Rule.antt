-- The rule of a mailbox's table. Word 0 is the event word. Word 1 + j is the next ticket that may be posted at the place j, and slot j has the item posted there that is not taken yet.
use Rattle.std.specs.Prelude.{◌≡◌, ◌≢◌, ℕ, ◌+◌, ◌*◌, ◌/◌, ◌%◌, ◌^◌, ◌<◌, ◌≤◌, Bool, true, false, cond, ltb, List, [], ◌∷◌, length, get_or, All, Option, Some, None}
use mathlib.Core.Option.{some}
use mathlib.Core.Option as maybe
use lib.ListN.{get_elem?}
use Rattle.atomic_table.specs.Table.{State}
use Rattle.lw_base.specs.declared.event_word.Flag.{Flag}
use Rattle.lw_base.specs.declared.event_word.Flag.TheVariants.{Rest, Closed}
use Rattle.lw_base.specs.declared.event_word.Word.{Word}
use Rattle.lw_base.specs.EventWord.{is_set}
use Rattle.lw_mbox.specs.declared.view.Change.{Change}
use Rattle.lw_mbox.specs.declared.view.View.{View}
use Rattle.lw_mbox.specs.Changes.{items, posted, is_on}
use Rattle.lw_mbox.specs.History.{History, Sound, IsRight, times}

-- an event word as one number: the posts in 28 bits, the claims in 28, the flags in 8
abbrev pub coded : ℕ → ℕ → ℕ → ℕ
coded p c f = p * 68719476736 + c * 256 + f

abbrev pub code_of : Word → ℕ
code_of w = coded w.posted w.claimed w.flags

abbrev pub word_of : ℕ → Word
word_of n = record { posted = n / 68719476736; claimed = n / 256 % 268435456; flags = n % 256 }

-- m may be the next ticket of the place j where n items were posted
pub record Marked (n cap j m : ℕ) : Type 0 where
  pub at_place : m % cap ≡ j
  pub least : n ≤ m + cap
  pub most : m < n + cap

-- the Poster found m as the next ticket of its place, which stays so while m isn't posted; n items were posted
pub record Found (n cap : ℕ) (words : List ℕ) (m : ℕ) : Type 0 where
  pub few : m + 1 < 2 ^ 28
  pub stays : n ≤ m → get_or words (1 + m % cap) 0 ≡ m

abbrev pub Homes : Type 0 → Type 0
Homes T = List (maybe.Option (Option T))

module _ {T : Type 0} where
  -- each item that is not claimed lies in the slot of its place, and each place that may be posted at again has an empty slot
  pub record Ring (xs : List T) (claimed : ℕ) (posting : Bool) (cap : ℕ) (words : List ℕ) (homes : Homes T) : Type 0 where
    pub wide : length words ≡ cap + 1
    pub deep : length homes ≡ cap
    pub places : 0 < cap
    pub claims : claimed ≤ length xs
    pub marks : (j : ℕ) → j < cap → Marked (length xs) cap j (get_or words (1 + j) 0)
    pub queue : (k : ℕ) → claimed ≤ k → k < length xs → (get_or words (1 + k % cap) 0 ≡ k) × ((x : T) × ((get_elem? xs k ≡ some x) × (get_elem? homes (k % cap) ≡ some (some (Some x)))))
    pub room : (j : ℕ) → j < cap → length xs ≤ get_or words (1 + j) 0 → (posting ≡ true → get_or words (1 + j) 0 ≢ length xs) → get_elem? homes j ≡ some (some None)
    pub ready : posting ≡ true → get_or words (1 + length xs % cap) 0 ≡ length xs

  -- the flags but REST are those of the changes
  abbrev pub Lights : List (Change T) → ℕ → Type 0
  Lights cs flags = (f : Flag) → f ≢ Rest → is_set f flags ≡ is_on f cs

  -- the event word tells the history. Without CLOSED each claim was a fetch
  pub record Counts (fits : T → Type 0) (h : History T) (flags : ℕ) (words : List ℕ) : Type 0 where
    pub event : get_or words 0 0 ≡ coded (posted h.changes) h.claimed flags
    pub few : posted h.changes < 2 ^ 28
    pub claims : h.claimed ≤ posted h.changes
    pub narrow : flags < 2 ^ 8
    pub lights : Lights h.changes flags
    pub opens : is_on Closed h.changes ≡ false → h.fetched ≡ h.claimed
    pub drawn : h.fetched ≤ h.claimed
    pub dark : is_set Rest flags ≡ true → h.rested ≡ true
    pub fit : All fits (items h.changes)

module _ {T K : Type 0} where
  -- what the seat i knows is so. A place that the Poster found stays until it posts there
  pub record Knows (key : K) (h : History T) (posting : Bool) (cap : ℕ) (words : List ℕ) (i : ℕ) (v : View T K) : Type 0 where
    pub keyed : (k : K) → v.key ≡ Some k → k ≡ key
    pub leads : v.lead ≡ true → (i ≡ 0) × (v.changes ≡ h.changes) × (v.posting ≡ posting)
    pub marks : v.lead ≡ true → All (Found (posted h.changes) cap words) v.marks
    pub trail : Sound h v.trail.met
    pub back : All (λ s. Sound h s.met) v.back
    pub got : All (IsRight h) v.got
    pub partless : v.parts ≡ 0 → (v.got ≡ []) × (v.settings ≡ 0)
    pub holding : (k : ℕ) → v.holds ≡ Some k → (k < h.claimed) × (get_or words (1 + k % cap) 0 ≡ k) × (1 ≤ times k v.got)

  abbrev pub total : (View T K → ℕ) → List (View T K) → ℕ
  total f [] = 0
  total f (v ∷ vs) = f v + total f vs

  -- There is a history, told by the words, the slots and all views. Each claimed ticket was got once
  pub record Ruled (fits : K → T → Type 0) (key : K) (s : State (Option T) (View T K)) : Type 0 where
    pub history : History T
    pub flags : ℕ
    pub posting : Bool
    pub cap : ℕ
    pub counts : Counts (fits key) history flags s.words
    pub ring : Ring (items history.changes) history.claimed posting cap s.words s.homes
    pub each : (i : ℕ) (v : View T K) → get_elem? s.views i ≡ some v → Knows key history posting cap s.words i v
    pub once : (n : ℕ) → total (λ v. times n v.got) s.views ≡ cond (ltb n history.claimed) 1 0
    pub whole : total (λ v. v.parts) s.views ≡ 256
    pub rests : history.rested ≡ true → 1 ≤ total (λ v. v.settings) s.views
