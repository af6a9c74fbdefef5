-- What a Poster has done to its mailbox, oldest first.
use Rattle.std.specs.Prelude.{◌≡◌, ℕ, Bool, true, false, cond, eqb, ◌&&◌, List, [], ◌∷◌, length, fold}
use Rattle.std.specs.List.{list_all}
use mathlib.Core.Bool.{beq}
use Rattle.lw_base.specs.declared.event_word.Flag.{Flag}
use Rattle.lw_base.specs.declared.event_word.Flag.TheVariants.{Writable, Rest, Ended, Fault, Closed, Listen, Idle}
use Rattle.lw_base.specs.declared.event_word.Word.{Word}
use Rattle.lw_base.specs.EventWord.{place_of, is_set}
use Rattle.lw_mbox.specs.declared.view.Change.{Change}
use Rattle.lw_mbox.specs.declared.view.Change.TheVariants.{Post, Set, Clear}

-- the flag whose bit this is
abbrev pub flag_at : ℕ → Flag
flag_at b = cond (eqb b 1) Writable (cond (eqb b 2) Rest (cond (eqb b 4) Ended (cond (eqb b 8) Fault (cond (eqb b 16) Closed (cond (eqb b 32) Listen Idle)))))

-- whether they are one flag
abbrev pub is_same : Flag → Flag → Bool
is_same f g = eqb (place_of f) (place_of g)

module _ {T : Type 0} where
  -- the items posted: an item's ticket is its place among them
  abbrev pub items : List (Change T) → List T
  items [] = []
  items (Post x ∷ cs) = x ∷ items cs
  items (Set f ∷ cs) = items cs
  items (Clear f ∷ cs) = items cs

  -- how many items were posted
  abbrev pub posted : List (Change T) → ℕ
  posted cs = length (items cs)

  -- whether the flag f stands after one more change
  abbrev pub after_change : Flag → Bool → Change T → Bool
  after_change f on (Post x) = on
  after_change f on (Set g) = cond (is_same f g) true on
  after_change f on (Clear g) = cond (is_same f g) false on

  -- whether the flag stands after all changes
  abbrev pub is_on : Flag → List (Change T) → Bool
  is_on f cs = fold (after_change f) false cs

-- the flags that the Poster sets and clears: all but REST
abbrev pub own_flags : List Flag
own_flags = Writable ∷ Ended ∷ Fault ∷ Closed ∷ Listen ∷ Idle ∷ []

-- whether an event word has the number of posts and the Poster's flags that these changes leave
abbrev pub shows : {T : Type 0} → List (Change T) → Word → Bool
shows cs w = eqb w.posted (posted cs) && list_all (λ f. beq (is_set f w.flags) (is_on f cs)) own_flags

-- the word has the posts and the flags, REST apart, that these changes leave
abbrev pub Shows : {T : Type 0} → List (Change T) → Word → Type 0
Shows cs w = shows cs w ≡ true
