use Rattle.std.proofs.Common.{◌≡◌, ℕ, ◌+◌, ◌-◌, ◌*◌, ◌^◌, ◌<◌, ◌≤◌, min, Bool, true, false, List, [], length, get_or, take, drop, cond, eqb, refl, sym, ◌∙◌, ap, subst, arith, length-take, Some, None, eqb-true}
use Rattle.std.specs.Option.{IsSome, IsSomeAnd, IfSome}
use Rattle.std.proofs.lemmas.List.Sums.{sum_by-take-drop, sum_by-take-le, count_by-le-length}
use Rattle.lw_payload.specs.declared.kinds.Kind.{Kind}
use Rattle.lw_payload.specs.declared.kinds.Kind.TheVariants.{Ram, Pool, Rom, Ref}
use Rattle.lw_payload.specs.Views.{Slot, Makes, IsOf, IsShort, free_of, pbufs_of, pool_one}
use Rattle.lw_payload.specs.Calls.{IsMade, IsRefused, KeepsHome, IsCut, IsShared, IsSpent, last_of, asked_after}
use Rattle.lw_payload.specs.Fake.{number_of, same_kind, times, free_count, counted_rows, family_of, one_kept, Hands}
use Rattle.lw_payload.specs.declared.fake.make_counts.MakeCounts.{MakeCounts}
use Rattle.lw_payload.specs.declared.fake.slots.Slots.{Slots}
use Rattle.lw_payload.specs.declared.fake.slotted.Slotted.{Slotted}
use Rattle.lw_payload.specs.FakeViews.{pool_view, held_view, slots_view, slotted_view, makes_of}
use Rattle.lw_payload.proofs.FakeLaws.{same_kind_true, family_of_kind, owned, rows_moved, rows_of_none, free_of-counted, used_of-held}

-- of two choices made alike
chosen-le : (t : Bool) (x y : ℕ) → x ≤ y → cond t x 0 ≤ cond t y 0
chosen-le true x y l = l
chosen-le false x y l = omega arith

chosen-most : (t : Bool) (x : ℕ) → cond t x 0 ≤ x
chosen-most true x = omega arith
chosen-most false x = omega arith

-- a payload that was made has rows of its own kind alone, and only where that is kept
kept_rows : (t u : Bool) (s : Slot) (kind kept : Kind) (places : List ℕ) (needed size : ℕ) → same_kind s.kind kept ≡ t → same_kind kind kept ≡ u
    → 0 < cond t (times s.place places) 0 → length places ≡ cond u needed 0 → (s.kind ≡ kind) × IsSome (cond u (Some size) None)
kept_rows true true s kind kept places needed size e f some few = (same_kind_true s.kind kept e ∙ sym (same_kind_true kind kept f), refl)
kept_rows true false s kind kept places needed size e f some few = let most = count_by-le-length (λ p. eqb p s.place) places in absurd (omega arith)
kept_rows false _ s kind kept places needed size e f some few = absurd (omega arith)

-- the places of a payload that may be given with the pool are among the counts
pub of_owned : (h : Slots) (p : Slotted) (start : List ℕ) → start ≡ h.counts.items → IsOf (slots_view h) (slotted_view p) → (place : ℕ) → times place p.places.items ≤ get_or start place 0
of_owned h p start e of place =
    rw e (owned h.counts.items p.places.items p.kept h.kept (family_of_kind p.number h.number p.kept h.kept of.family) of.listed place)

-- a payload was cut, and the owners at its last places were given up
pub pool_cut : (h : Slots) (p : Slotted) (now after octets rest places : List ℕ) (left more : ℕ) → IsOf (slots_view h) (slotted_view p)
    → now ≡ after → Hands h.counts.items after (drop left p.places.items) [] → octets ≡ rest → places ≡ take left p.places.items → length rest ≤ length p.octets.items → left ≤ length rest
    → (slotted_view p).room ≤ more
    → IsCut (slots_view h) (pool_view h.number h.kept h.longest now (slots_view h).counts) (slotted_view p) (held_view p.number p.kept octets places more p.shares false) rest
pool_cut h p now after octets rest places left more of same moves e f shorter few bigger =
    let moved : Hands h.counts.items now p.places.items places = record {
      same = rw same moves.same;
      each = λ place. rw same (let x = moves.each place in let y = sum_by-take-drop (λ q. cond {A = ℕ} (eqb q place) 1 0) p.places.items left in rw f (omega arith));
    } in
    record {
      octets = e;
      parts = let l = ap length e in omega arith;
      room = bigger;
      shares = omega arith;
      family = refl;
      fewer = λ s. rw f (chosen-le (eqb (number_of s.kind) (number_of p.kept)) _ _ (sum_by-take-le (λ q. cond {A = ℕ} (eqb q s.place) 1 0) p.places.items left));
      few = λ kind k. let total = used_of-held places p.kept kind k in let l = ap length f in let m = length-take left p.places.items in omega arith;
      rows = rows_moved h.counts.items now p.places.items places p.kept h.kept (family_of_kind p.number h.number p.kept h.kept of.family) moved;
      weight = refl;
      pools = ap (λ (size : ℕ). one_kept (family_of h.number h.kept) h.kept size h.longest) moved.same;
      counts = refl;
    }

-- a payload was given up
pub pool_spent : (h : Slots) (p : Slotted) (after : List ℕ) → IsOf (slots_view h) (slotted_view p) → Hands h.counts.items after p.places.items []
    → IsSpent (slots_view h) (pool_view h.number h.kept h.longest after (slots_view h).counts) (slotted_view p)
pool_spent h p after of moves =
    record {
      rows = λ s.
          let moved = rows_moved h.counts.items after p.places.items [] p.kept h.kept (family_of_kind p.number h.number p.kept h.kept of.family) moves s in
          let none = rows_of_none p.kept s in
          omega arith;
      weight = refl;
      pools = ap (λ (size : ℕ). one_kept (family_of h.number h.kept) h.kept size h.longest) moves.same;
      counts = refl;
    }

-- a payload was shared
pub pool_shared : (h : Slots) (p : Slotted) (now after octets places : List ℕ) (left room : ℕ) → IsOf (slots_view h) (slotted_view p)
    → octets ≡ p.octets.items → places ≡ p.places.items → p.shares ≤ left + 1 → now ≡ after → Hands h.counts.items after [] places
    → IsShared (slots_view h) (pool_view h.number h.kept h.longest now (slots_view h).counts) (slotted_view p)
    (held_view p.number p.kept p.octets.items p.places.items (slotted_view p).room left false) (held_view p.number p.kept octets places room 0 false)
pool_shared h p now after octets places left room of e f one same moves =
    let moved : Hands h.counts.items now [] places = subst (λ (counts : List ℕ). Hands h.counts.items counts [] places) (sym same) moves in
    record {
      octets = refl;
      parts = refl;
      room = omega arith;
      shares = one;
      own_slots = λ s. (λ x. x, λ x. x);
      family = refl;
      other_octets = e;
      other_parts = ap length e;
      other_slots = λ s. rw f (λ x. x, λ x. x);
      other_family = refl;
      rows = λ s.
          let moved = rows_moved h.counts.items now [] places p.kept h.kept (family_of_kind p.number h.number p.kept h.kept of.family) moved s in
          let none = rows_of_none p.kept s in
          omega arith;
      weight = refl;
      pools = ap (λ (size : ℕ). one_kept (family_of h.number h.kept) h.kept size h.longest) moved.same;
      counts = refl;
    }

-- what holds where the kind is kept
if_kept : (t : Bool) (size : ℕ) (P : ℕ → Type 0) → (t ≡ true → P size) → IfSome (cond t (Some size) None) P
if_kept true size P holds = holds refl
if_kept false size P holds = tt

-- a place of a payload was free where it was taken at free places
rows_alone : (t : Bool) (place : ℕ) (before places : List ℕ) → ((place : ℕ) → 0 < times place places → get_or before place 0 ≡ 0) → 0 < cond t (times place places) 0 → cond t (get_or before place 0) 0 ≡ 0
rows_alone true place before places alone some = alone place some
rows_alone false place before places alone some = refl

-- a payload was made
pub pool_made : (h : Slots) (kind : Kind) (now after text octets places : List ℕ) (counts : MakeCounts) (room needed : ℕ)
    → octets ≡ text → now ≡ after → Hands h.counts.items after [] places → needed ≡ cond (same_kind kind h.kept) (pbufs_of kind (length text)) 0 → length places ≡ needed
    → ((place : ℕ) → 0 < times place places → get_or h.counts.items place 0 ≡ 0) → free_count after + needed ≡ free_count h.counts.items
    → counts ≡ record h.makes { made = h.makes.made + pool_one kind; asked = asked_after kind (length text) h.makes.asked }
    → IsMade (slots_view h) (pool_view h.number h.kept h.longest now (makes_of counts)) kind text (held_view h.number h.kept octets places room 65533 true)
pool_made h kind now after text octets places counts room needed e same moves need few alone free granted =
    let moved : Hands h.counts.items now [] places = subst (λ (cs : List ℕ). Hands h.counts.items cs [] places) (sym same) moves in
    let made : counts.made ≡ h.makes.made + pool_one kind = ap (λ m. m.made) granted in
    record {
      octets = e;
      parts = let l = ap length e in omega arith;
      shares = omega arith;
      fresh = refl;
      family = refl;
      rows = λ s. let moved = rows_moved h.counts.items now [] places h.kept h.kept refl moved s in let none = rows_of_none h.kept s in omega arith;
      kept = λ s some. kept_rows (same_kind s.kind h.kept) (same_kind kind h.kept) s kind h.kept places (pbufs_of kind (length text)) (length h.counts.items) refl refl some (few ∙ need);
      alone = λ s some. rows_alone (same_kind s.kind h.kept) s.place h.counts.items places alone some;
      few = λ k. let used = used_of-held places h.kept kind k in let most = chosen-most (same_kind kind h.kept) (pbufs_of kind (length text)) in omega arith;
      free = if_kept (same_kind kind h.kept) (length h.counts.items) (λ n. free_of (counted_rows h.kept now) kind n + pbufs_of kind (length text) ≡ free_of (counted_rows h.kept h.counts.items) kind n) (λ own.
          let number = eqb-true (number_of kind) (number_of h.kept) own in
          let before = free_of-counted h.counts.items kind h.kept number in
          let later : free_of (counted_rows h.kept now) kind (length h.counts.items) ≡ free_count now = rw moved.same at (free_of-counted now kind h.kept number) in
          let freed = ap free_count same in
          let all : needed ≡ pbufs_of kind (length text) = need ∙ rw own refl in
          omega arith);
      weighs = refl;
      weight = refl;
      made_least = omega arith;
      made_most = omega arith;
      made = λ some. made;
      asks = λ some. ap (λ m. m.asked) granted;
      refused = ap (λ m. m.refused) granted;
      last_refused = ap (λ m. m.last_refused) granted;
    }

-- where the kind is kept, what holds of its size
kept_and : (t : Bool) (size : ℕ) (P : ℕ → Type 0) → t ≡ true → IsSomeAnd (cond t (Some size) None) P → P size
kept_and true size P e holds = holds
kept_and false size P e holds = absurd holds

and_kept : (t : Bool) (size : ℕ) (P : ℕ → Type 0) → t ≡ true → P size → IsSomeAnd (cond t (Some size) None) P
and_kept true size P e holds = holds
and_kept false size P e holds = cc

-- too few pbufs are free exactly where fewer have no owner than are needed
pub short_means : (t : Bool) (n : ℕ) (kept kind : Kind) (longest m : ℕ) (counts : List ℕ) (makes : Makes) → same_kind kind kept ≡ t → IsShort (pool_view n kept longest counts makes) kind m → free_count counts < cond t (pbufs_of kind m) 0
short_means true n kept kind longest m counts makes e short =
    let free = free_of-counted counts kind kept (eqb-true (number_of kind) (number_of kept) e) in
    let few = kept_and (same_kind kind kept) (length counts) (λ size. free_of (counted_rows kept counts) kind size < pbufs_of kind m) e short in
    omega arith
short_means false n kept kind longest m counts makes e short = absurd (rw e at short)

pub means_short : (t : Bool) (n : ℕ) (kept kind : Kind) (longest m : ℕ) (counts : List ℕ) (makes : Makes) → same_kind kind kept ≡ t → free_count counts < cond t (pbufs_of kind m) 0 → IsShort (pool_view n kept longest counts makes) kind m
means_short true n kept kind longest m counts makes e few =
    let free = free_of-counted counts kind kept (eqb-true (number_of kind) (number_of kept) e) in
    and_kept (same_kind kind kept) (length counts) (λ size. free_of (counted_rows kept counts) kind size < pbufs_of kind m) e (omega arith)
means_short false n kept kind longest m counts makes e few = absurd (omega arith)

-- a refusal says that too few are free
pub pool_short : (h : Slots) (kind : Kind) (m free needed : ℕ) → free ≡ free_count h.counts.items → needed ≡ cond (same_kind kind h.kept) (pbufs_of kind m) 0 → free < needed → IsShort (slots_view h) kind m
pool_short h kind m free needed e f less = means_short (same_kind kind h.kept) h.number h.kept kind h.longest m h.counts.items (makes_of h.makes) refl (omega arith)

-- and a make that enough are
pub pool_enough : (h : Slots) (kind : Kind) (m free needed : ℕ) → free ≡ free_count h.counts.items → needed ≡ cond (same_kind kind h.kept) (pbufs_of kind m) 0 → needed ≤ free → IsShort (slots_view h) kind m → ⊥
pool_enough h kind m free needed e f enough short = let few = short_means (same_kind kind h.kept) h.number h.kept kind h.longest m h.counts.items (makes_of h.makes) refl short in absurd (omega arith)

-- a refusal leaves the pool as it was, but for the counts of makes
pub pool_refused : (h : Slots) (kind : Kind) (m : ℕ) (counts : MakeCounts) (free needed : ℕ)
    → free ≡ free_count h.counts.items → needed ≡ cond (same_kind kind h.kept) (pbufs_of kind m) 0 → free < needed → length h.counts.items < 2 ^ 32
    → (h.kept ≡ Pool → length h.counts.items ≤ free_count h.counts.items + h.makes.asked)
    → counts ≡ record h.makes { refused = h.makes.refused + pool_one kind; last_refused = last_of kind m h.makes.last_refused; asked = asked_after kind m h.makes.asked }
    → IsRefused (slots_view h) (pool_view h.number h.kept h.longest h.counts.items (makes_of counts)) kind m
pool_refused h kind m counts free needed e need short small taken denied =
    let asked : counts.asked ≡ asked_after kind m h.makes.asked = ap (λ n. n.asked) denied in
    record {
      rows = λ s. refl;
      weight = refl;
      made = ap (λ n. n.made) denied;
      refused = ap (λ n. n.refused) denied;
      last_refused = ap (λ n. n.last_refused) denied;
      asks = λ some. asked;
      asked = λ pool. if_kept (same_kind kind h.kept) (length h.counts.items) (λ n. n < counts.asked) (λ own.
          let most = taken (sym (same_kind_true kind h.kept own) ∙ pool) in
          let all : needed ≡ pbufs_of kind m = need ∙ rw own refl in
          let asks : asked_after kind m h.makes.asked ≡ min (h.makes.asked + pbufs_of kind m) (2 ^ 64 - 1) = rw pool refl in
          omega arith);
    }

pub asked_most : (kind : Kind) (n asked : ℕ) → asked_after kind n asked ≤ asked + pool_one kind * pbufs_of kind n
asked_most Ram n asked = omega arith
asked_most Pool n asked = omega arith
asked_most Rom n asked = omega arith
asked_most Ref n asked = omega arith

-- what every make keeps
pub pool_keeps : (h : Slots) (kind : Kind) (m : ℕ) (now : List ℕ) (counts : MakeCounts) → length now ≡ length h.counts.items → h.makes.asked ≤ counts.asked → counts.asked ≤ h.makes.asked + pool_one kind * pbufs_of kind m
    → KeepsHome (slots_view h) (pool_view h.number h.kept h.longest now (makes_of counts)) kind m
pool_keeps h kind m now counts same least most = record {
  pools = ap (λ (size : ℕ). one_kept (family_of h.number h.kept) h.kept size h.longest) same;
  asked_least = least;
  asked_most = most;
}
