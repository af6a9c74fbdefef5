-- What each step on a mailbox's table tells, and how a seat's knowledge is cut and joined.
use Rattle.std.specs.Prelude.{◌≡◌, ◌≢◌, ℕ, ◌+◌, ◌-◌, ◌%◌, ◌^◌, ◌<◌, ◌≤◌, Bool, true, false, [], ◌∷◌, ◌++◌, List, Option, Some, None, Result, Ok, Err, bit_and, bit_or}
use Rattle.atomic_table.specs.Table.{Me, Step}
use Rattle.lw_base.specs.declared.event_word.Flag.TheVariants.{Rest}
use Rattle.lw_base.specs.declared.event_word.Word.{Word}
use Rattle.lw_base.specs.EventWord.{is_set}
use Rattle.lw_mbox.specs.declared.view.Change.TheVariants.{Post, Set, Clear}
use Rattle.lw_mbox.specs.declared.view.Got.{Got}
use Rattle.lw_mbox.specs.declared.view.Steps.{Steps}
use Rattle.lw_mbox.specs.declared.view.View.{View}
use Rattle.lw_mbox.specs.Changes.{flag_at, Shows, posted}
use Rattle.lw_mbox.specs.Trail.{Trail, start, saw, both, IsNewer}
use Rattle.lw_mbox.specs.History.{IsWord, claimed_one, times, GotAll, Parted, AllBelow, Told}
use Rattle.lw_mbox.specs.Rule.{word_of, code_of}

abbrev pub steps : Trail → Steps
steps t = record { met = t }

module _ {T : Type 0} where
  -- a ticket that was got, with its item, and whether it was drained
  abbrev pub ticket : ℕ → T → Bool → Got T
  ticket n x drained = record { ticket = n; item = x; drained = drained }

  -- the number found is an event word. No load of the trail is newer, and each ticket that was got is below its claims
  pub record Loads (t : Trail) (got : List (Got T)) (n : ℕ) : Type 0 where
    pub word : IsWord (word_of n)
    pub exact : n ≡ code_of (word_of n)
    pub newer : IsNewer t (word_of n)
    pub above : AllBelow (word_of n).claimed got

abbrev Seen : Type 0 → Type 0 → Type 0
Seen T K = Me (Option T) (View T K)

abbrev At : Type 0 → Type 0
At T = Step (Option T)

module _ {T K : Type 0} where
  -- a seat that knows only this trail
  abbrev pub fresh : Option K → ℕ → Trail → View T K
  fresh key parts t = record { key = key; lead = false; changes = []; posting = false; marks = []; back = []; parts = parts; asked = 0; settings = 0; trail = steps t; got = []; holds = None }

  -- the first seat, which has all parts
  abbrev pub leading : K → View T K
  leading key = record { key = Some key; lead = true; changes = []; posting = false; marks = []; back = []; parts = 256; asked = 0; settings = 0; trail = steps start; got = []; holds = None }

  -- the seat after a load of the event word w
  abbrev pub seen : Word → View T K → View T K
  seen w v = record v { trail = steps (saw v.trail.met w) }

  -- the seat that took in another, with its trail; where it came back also apart
  abbrev pub joined : View T K → View T K → View T K
  joined v u = record v { trail = steps (both v.trail.met u.trail.met); back = v.back ++ u.back; parts = v.parts + u.parts; settings = v.settings + u.settings; got = v.got ++ u.got }

  abbrev pub gathered : View T K → View T K → View T K
  gathered v u = record v { trail = steps (both v.trail.met u.trail.met); back = v.back ++ (u.trail ∷ u.back); parts = v.parts + u.parts; settings = v.settings + u.settings; got = v.got ++ u.got }

  abbrev pub spent : View T K
  spent = fresh None 0 start

  -- the place of a ticket t was looked at: it may be posted there, or the item posted at this place before isn't yet marked emptied
  abbrev pub looked : At T → Seen T K → ℕ → Seen T K → Type 0
  looked st m n m' = (m'.0 ≡ record m.0 { marks = m.0.marks ++ n ∷ [] }) × (m'.1 ≡ m.1)
      × ((t : ℕ) → posted m.0.changes ≤ t → t < posted m.0.changes + st.slots → 1 + t % st.slots ≡ st.word → n ≢ t → n + st.slots ≡ t)

  -- the empty slot of the next ticket, whose place was found, was taken
  abbrev pub taken : At T → Seen T K → ℕ → Seen T K → Type 0
  taken st m n m' = (m'.0 ≡ record m.0 { posting = true; marks = m.0.marks ++ posted m.0.changes ∷ [] }) × (m'.1 ≡ (st.word - 1, None) ∷ m.1) × (posted m.0.changes + 1 < 2 ^ 28)

  abbrev pub announced : At T → Seen T K → ℕ → Seen T K → Type 0
  announced st m n m' = (j : ℕ) (x : T) → m.1 ≡ (j, Some x) ∷ []
      → (m'.0 ≡ record m.0 { posting = false; changes = m.0.changes ++ Post x ∷ [] }) × (m'.1 ≡ [])

  -- a flag was set or cleared; the word that was found was seen
  abbrev pub sets_flag : At T → Seen T K → ℕ → Seen T K → Type 0
  sets_flag st m n m' = (m'.0 ≡ record (seen (word_of n) m.0) { changes = m.0.changes ++ Set (flag_at st.first) ∷ [] }) × (m'.1 ≡ m.1)
      × Loads m.0.trail.met m.0.got n × Shows m.0.changes (word_of n)

  abbrev pub clears_flag : At T → Seen T K → ℕ → Seen T K → Type 0
  clears_flag st m n m' = (m'.0 ≡ record (seen (word_of n) m.0) { changes = m.0.changes ++ Clear (flag_at (18446744073709551615 - st.first)) ∷ [] }) × (m'.1 ≡ m.1)
      × Loads m.0.trail.met m.0.got n × Shows m.0.changes (word_of n)

  abbrev pub loaded : At T → Seen T K → ℕ → Seen T K → Type 0
  loaded st m n m' = (m'.0 ≡ seen (word_of n) m.0) × (m'.1 ≡ m.1) × Loads m.0.trail.met m.0.got n
      × Parted m.0.got × (m.0.parts ≡ 256 → GotAll (word_of n).claimed m.0.got)

  -- a load too; where it found the word that was expected, a ticket was claimed and its slot taken, and the word that it left was seen
  abbrev pub claimed_at : (K → T → Type 0) → Bool → At T → Seen T K → ℕ → Seen T K → Type 0
  claimed_at fits drained st m n m' = Loads m.0.trail.met m.0.got n
      × (n ≢ st.first → (m'.0 ≡ seen (word_of n) m.0) × (m'.1 ≡ m.1))
      × (n ≡ st.first → (x : T) × ((m'.0 ≡ record (seen (claimed_one (word_of n)) m.0) { got = m.0.got ++ ticket (word_of n).claimed x drained ∷ []; holds = Some (word_of n).claimed })
      × (m'.1 ≡ ((word_of n).claimed % st.slots, Some x) ∷ m.1) × ((k : K) → m.0.key ≡ Some k → fits k x)))

  -- what a try to claim at the word expected answers, and how it leaves the seat: with the item whose place was emptied, or with another word
  abbrev pub Claims : (K → T → Type 0) → Bool → ℕ → Seen T K → Result T ℕ → Seen T K → Type 0
  Claims fits drained first m (Ok x) m' = (m'.0 ≡ record (seen (claimed_one (word_of first)) m.0) { got = m.0.got ++ ticket (word_of first).claimed x drained ∷ []; holds = None })
      × (m'.1 ≡ []) × ((k : K) → m.0.key ≡ Some k → fits k x)
  Claims fits drained first m (Err n) m' = (n ≢ first) × Loads m.0.trail.met m.0.got n × (m'.0 ≡ seen (word_of n) m.0) × (m'.1 ≡ [])

  abbrev pub emptied : At T → Seen T K → ℕ → Seen T K → Type 0
  emptied st m n m' = (m'.0 ≡ record m.0 { holds = None }) × (m'.1 ≡ [])

  -- REST was set, which is a setting of this seat's own, or cleared; the word that was left was seen
  abbrev pub rested_at : At T → Seen T K → ℕ → Seen T K → Type 0
  rested_at st m n m' = (m'.0 ≡ record (seen (word_of (bit_or n 2)) m.0) { settings = m.0.settings + 1 }) × (m'.1 ≡ m.1) × Loads m.0.trail.met m.0.got (bit_or n 2)
      × (is_set Rest (word_of (bit_or n 2)).flags ≡ true)

  abbrev pub calmed : At T → Seen T K → ℕ → Seen T K → Type 0
  calmed st m n m' = (m'.0 ≡ seen (word_of (bit_and n 18446744073709551613)) m.0) × (m'.1 ≡ m.1) × Loads m.0.trail.met m.0.got (bit_and n 18446744073709551613)
      × (is_set Rest (word_of (bit_and n 18446744073709551613)).flags ≡ false)

  -- the seat is about to hand on so many parts
  abbrev pub asks : At T → Seen T K → ℕ → Seen T K → Type 0
  asks st m n m' = (m'.0 ≡ record m.0 { asked = st.first }) × (m'.1 ≡ m.1)

  abbrev pub tallied : At T → Seen T K → ℕ → Seen T K → Type 0
  tallied st m n m' = (m' ≡ m) × ((t : ℕ) → times t m.0.got ≤ 1)

  abbrev pub tells : At T → Seen T K → ℕ → Seen T K → Type 0
  tells st m n m' = (m' ≡ m) × Told m.0.changes m.0.trail.met m.0.parts m.0.settings m.0.back m.0.got
