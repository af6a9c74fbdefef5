-- The rule stays where one seat moves, and what each seat may know of the word of today.
use Rattle.std.proofs.Common.{◌≡◌, ◌≢◌, ◌⊎◌, ℕ, ◌+◌, ◌%◌, ◌<◌, ◌≤◌, Bool, true, false, cond, eqb, ltb, List, [], ◌∷◌, ◌++◌, get_or, set, sym, refl, ap, ◌∙◌, subst, arith, ⊎_elim, inl, inr, Option, Some, All, append-nil, eq-eqb, ne_eqb, lt-ltb, le-ltb}
use mathlib.Core.Option.{some}
use lib.ListN.{get_elem?}
use lib.Seq.{set-get_or}
use Rattle.std.proofs.lemmas.Bool.{cases_eq, cases_lt, false≢true}
use Rattle.std.proofs.lemmas.List.Sums.{sum_by_push, sum_by-append}
use Rattle.std.proofs.lemmas.List.Elements.{All-weaker}
use Rattle.atomic_table.specs.Table.{State}
use Rattle.atomic_table.proofs.Lists.{at_set}
use Rattle.lw_base.specs.declared.event_word.Flag.TheVariants.{Closed}
use Rattle.lw_base.specs.declared.event_word.Word.{Word}
use Rattle.lw_base.specs.EventWord.{is_set}
use Rattle.lw_mbox.specs.declared.view.Got.{Got}
use Rattle.lw_mbox.specs.declared.view.View.{View}
use Rattle.lw_mbox.specs.Changes.{items, posted, is_on, Shows}
use Rattle.lw_mbox.specs.Trail.{Trail, saw}
use Rattle.lw_mbox.specs.History.{History, IsWord, Bounded, Sound, IsRight, times, PartedAt, GotAll}
use Rattle.lw_mbox.specs.Rule.{code_of, word_of, Found, Ring, Homes, Counts, Knows, Ruled}
use Rattle.lw_mbox.specs.Plays.{seen, Loads}
use Rattle.lw_mbox.proofs.Rows.{total_set, total_at, total_one}
use Rattle.lw_mbox.proofs.EventWords.{word_coded}
use Rattle.lw_mbox.proofs.Trails.{lit, first_shown, stands_within, Later, sound_later, all_sound_later, all_right_later, posts_later, newer_now}

module _ {T : Type 0} where
  pub times_push : (n : ℕ) (gs : List (Got T)) (g : Got T) → times n (gs ++ g ∷ []) ≡ times n gs + cond (eqb g.ticket n) 1 0
  times_push n gs g = sum_by_push (λ (g : Got T). cond (eqb g.ticket n) 1 0) gs g

  pub times-append : (n : ℕ) (gs hs : List (Got T)) → times n (gs ++ hs) ≡ times n gs + times n hs
  times-append n gs hs = sum_by-append (λ (g : Got T). cond (eqb g.ticket n) 1 0) gs hs

  pub later_same : (h : History T) → Later h h
  later_same h = record { more = []; grown = sym (append-nil h.changes); claims = omega arith; fetches = omega arith; shut = λ z. (z, refl, refl); rests = λ z. z }

-- a place that was found stays as posts are made elsewhere
pub found_later : (n n' cap : ℕ) (ws ws' ms : List ℕ) → n ≤ n' → ((m : ℕ) → n ≤ m → get_or ws (1 + m % cap) 0 ≡ m → get_or ws' (1 + m % cap) 0 ≡ m) → All (Found n cap ws) ms → All (Found n' cap ws') ms
found_later n n' cap ws ws' ms more stays a = All-weaker (Found n cap ws) (Found n' cap ws') (λ m f. record { few = f.few; stays = λ le. stays m (omega arith) (f.stays (omega arith)) }) ms a

-- one more ticket is below c + 1
pub count_next : (n c : ℕ) → cond (eqb c n) 1 0 + cond (ltb n c) 1 0 ≡ cond (ltb n (c + 1)) 1 0
count_next n c = let Q : Bool → Bool → Bool → Type 0 = λ a b d. cond a 1 0 + cond b 1 0 ≡ cond d 1 0 in
    let by : (a b d : Bool) → eqb c n ≡ a → ltb n c ≡ b → ltb n (c + 1) ≡ d → Q a b d → Q (eqb c n) (ltb n c) (ltb n (c + 1)) =
    λ a b d e f g q. subst (λ (x : Bool). Q x (ltb n c) (ltb n (c + 1))) (sym e) (subst (λ (x : Bool). Q a x (ltb n (c + 1))) (sym f) (subst (λ (x : Bool). Q a b x) (sym g) q)) in
    ⊎_elim (λ (e : c ≡ n). by true false true (eq-eqb c n e) (le-ltb n c (omega arith)) (lt-ltb n (c + 1) (omega arith)) refl)
    (λ ne. ⊎_elim (λ (l : n < c). by false true true (ne_eqb c n ne) (lt-ltb n c l) (lt-ltb n (c + 1) (omega arith)) refl)
    (λ (l : c ≤ n). by false false false (ne_eqb c n ne) (le-ltb n c l) (le-ltb n (c + 1) (omega arith)) refl) (cases_lt n c)) (cases_eq c n)

-- an event word that tells all of the history
pub record Today {T : Type 0} (h : History T) (w : Word) : Type 0 where
  pub word : IsWord w
  pub shown : Shows h.changes w
  pub bounded : Bounded h w
  pub posts : w.posted ≡ posted h.changes
  pub claims : w.claimed ≡ h.claimed
  pub closed : is_set Closed w.flags ≡ is_on Closed h.changes

module _ {T : Type 0} (fits : T → Type 0) where
  pub word_today : (h : History T) (flags : ℕ) (ws : List ℕ) → Counts fits h flags ws → word_of (get_or ws 0 0) ≡ record { posted = posted h.changes; claimed = h.claimed; flags = flags }
  word_today h flags ws c = let few = c.few in let claims = c.claims in ap word_of c.event ∙ word_coded (posted h.changes) h.claimed flags (omega arith) c.narrow

  pub today : (h : History T) (flags : ℕ) (ws : List ℕ) → Counts fits h flags ws → Today h (word_of (get_or ws 0 0))
  today h flags ws c = let lights = c.lights Closed (λ e. cc) in let drawn = c.drawn in subst (λ (w : Word). Today h w) (sym (word_today h flags ws c)) record {
    word = record { posts = c.few; claims = c.claims; flags = c.narrow };
    shown = lit h.changes record { posted = posted h.changes; claimed = h.claimed; flags = flags } refl c.lights;
    bounded = record {
      posts = omega arith;
      claims = omega arith;
      opens = λ o. let x = c.opens (sym lights ∙ o) in omega arith;
      shut = λ z. (sym lights ∙ z, refl);
      rests = c.dark;
    };
    posts = refl;
    claims = refl;
    closed = lights;
  }

  pub exact_today : (h : History T) (flags : ℕ) (ws : List ℕ) → Counts fits h flags ws → get_or ws 0 0 ≡ code_of (word_of (get_or ws 0 0))
  exact_today h flags ws c = c.event ∙ ap code_of (sym (word_today h flags ws c))

module _ {T K : Type 0} (fits : K → T → Type 0) (key : K) where
  abbrev Rule : State (Option T) (View T K) → Type 0
  Rule = Ruled fits key

  pub knows_later : (h h' : History T) → Later h h' → (p p' : Bool) (cap : ℕ) (ws ws' : List ℕ) (i : ℕ) (v : View T K)
      → (v.lead ≡ true → (h'.changes ≡ h.changes) × (p' ≡ p)) → ((m : ℕ) → posted h.changes ≤ m → get_or ws (1 + m % cap) 0 ≡ m → get_or ws' (1 + m % cap) 0 ≡ m)
      → ((k : ℕ) → v.holds ≡ Some k → get_or ws (1 + k % cap) 0 ≡ k → 1 ≤ times k v.got → get_or ws' (1 + k % cap) 0 ≡ k)
      → Knows key h p cap ws i v → Knows key h' p' cap ws' i v
  knows_later h h' l p p' cap ws ws' i v lead stays held k = record {
    keyed = k.keyed;
    leads = λ e. let x = k.leads e in let y = lead e in (x.0, x.1 ∙ sym y.0, x.2 ∙ sym y.1);
    marks = λ e. found_later (posted h.changes) (posted h'.changes) cap ws ws' v.marks (posts_later h h' l) stays (k.marks e);
    trail = sound_later h h' l v.trail.met k.trail;
    back = all_sound_later h h' l v.back k.back;
    got = all_right_later h h' l v.got k.got;
    partless = k.partless;
    holding = λ n e. let x = k.holding n e in let a = x.0 in let b = l.claims in (omega arith, held n e x.1 x.2, x.2);
  }

  -- one seat moves from v to w
  pub moves : (s : State (Option T) (View T K)) (r : Rule s) (id : ℕ) (v w : View T K) (h' : History T) (flags' : ℕ) (p' : Bool) (ws' : List ℕ) (hs' : Homes T)
      → get_elem? s.views id ≡ some v → Later r.history h' → Counts (fits key) h' flags' ws' → Ring (items h'.changes) h'.claimed p' r.cap ws' hs' → Knows key h' p' r.cap ws' id w
      → (v.lead ≡ true) ⊎ ((h'.changes ≡ r.history.changes) × (p' ≡ r.posting))
      → ((m : ℕ) → posted r.history.changes ≤ m → get_or s.words (1 + m % r.cap) 0 ≡ m → get_or ws' (1 + m % r.cap) 0 ≡ m)
      → ((j k : ℕ) (u : View T K) → j ≢ id → get_elem? s.views j ≡ some u → u.holds ≡ Some k → get_or s.words (1 + k % r.cap) 0 ≡ k → 1 ≤ times k u.got → get_or ws' (1 + k % r.cap) 0 ≡ k)
      → ((n : ℕ) → times n w.got + cond (ltb n r.history.claimed) 1 0 ≡ times n v.got + cond (ltb n h'.claimed) 1 0)
      → w.parts ≡ v.parts → v.settings ≤ w.settings → (h'.rested ≡ true → (r.history.rested ≡ true) ⊎ (1 ≤ w.settings))
      → Rule record { words = ws'; homes = hs'; views = set s.views id w }
  moves s r id v w h' flags' p' ws' hs' at later counts ring mine lead stays held got parts more rested = record {
    history = h';
    flags = flags';
    posting = p';
    cap = r.cap;
    counts = counts;
    ring = ring;
    each = λ j u e. ⊎_elim (λ (t : (j ≡ id) × (w ≡ u)). subst (λ (x : ℕ × View T K). Knows key h' p' r.cap ws' x.0 x.1) (λ i. (sym t.0 i, t.1 i)) mine)
        (λ (t : (j ≢ id) × (get_elem? s.views j ≡ some u)). knows_later r.history h' later r.posting p' r.cap s.words ws' j u
        (λ leads. ⊎_elim (λ (a : v.lead ≡ true). absurd (t.0 (((r.each j u t.1).leads leads).0 ∙ sym ((r.each id v at).leads a).0))) (λ b. b) lead)
        stays (λ k a b c. held j k u t.0 t.1 a b c) (r.each j u t.1)) (at_set s.views id j w u e);
    once = λ n. let t = total_set (λ x. times n x.got) s.views id v w at in let o = r.once n in let g = got n in omega arith;
    whole = let t = total_set (λ x. x.parts) s.views id v w at in let o = r.whole in omega arith;
    rests = λ e. let t = total_set (λ x. x.settings) s.views id v w at in let u = total_at (λ x. x.settings) s.views id v at in ⊎_elim (λ (a : r.history.rested ≡ true). let o = r.rests a in omega arith) (λ b. omega arith) (rested e);
  }

  -- a load of the word i, or a step that leaves it as it was
  pub quiet : (s : State (Option T) (View T K)) (r : Rule s) (id i : ℕ) (v w : View T K) → get_elem? s.views id ≡ some v → Knows key r.history r.posting r.cap s.words id w
      → w.got ≡ v.got → w.parts ≡ v.parts → v.settings ≤ w.settings → Rule record { words = set s.words i (get_or s.words i 0); homes = s.homes; views = set s.views id w }
  quiet s r id i v w at mine got parts more = subst (λ (ws : List ℕ). Rule record { words = ws; homes = s.homes; views = set s.views id w }) (sym (set-get_or s.words i 0))
      (moves s r id v w r.history r.flags r.posting s.words s.homes at (later_same r.history) r.counts r.ring mine (inr (refl, refl)) (λ m _ shown. shown) (λ j k u a b c d e. d)
      (λ n. ap (λ (g : List (Got T)). times n g + cond (ltb n r.history.claimed) 1 0) got) parts more (λ e. inl e))

  -- a trail with the event word of today
  pub sound_today : (h : History T) (t : Trail) (w : Word) → Today h w → Sound h t → Sound h (saw t w)
  sound_today h t w d s = let st = s.stands in let f = first_shown h.changes w st.0 (stands_within h.changes t st.0 st.1) d.shown in record { stands = (f.0, (st.0, (st.1, f.1))); loads = (s.loads, d.bounded); notes = s.notes }

  -- what a seat knows after a load of the event word of today
  pub sees : (h : History T) (p : Bool) (cap : ℕ) (ws : List ℕ) (id : ℕ) (v : View T K) (w : Word) → v.lead ≡ false → Today h w → Knows key h p cap ws id v → Knows key h p cap ws id (seen w v)
  sees h p cap ws id v w plain t k = record {
    keyed = k.keyed;
    leads = λ e. absurd (false≢true (sym plain ∙ e));
    marks = k.marks;
    trail = sound_today h v.trail.met w t k.trail;
    back = k.back;
    got = k.got;
    partless = k.partless;
    holding = k.holding;
  }

  pub loads_today : (s : State (Option T) (View T K)) (r : Rule s) (id : ℕ) (v : View T K) → get_elem? s.views id ≡ some v → Loads v.trail.met v.got (get_or s.words 0 0)
  loads_today s r id v at = let t = today (fits key) r.history r.flags s.words r.counts in let k = r.each id v at in let claims = t.claims in record {
    word = t.word;
    exact = exact_today (fits key) r.history r.flags s.words r.counts;
    newer = newer_now r.history (word_of (get_or s.words 0 0)) t.posts t.claims t.closed v.trail.met k.trail;
    above = λ i g l. let b = (k.got i g l).below in omega arith;
  }

  -- what a seat knows where its step leaves m as the event word and the places as they were
  pub leaves : (s : State (Option T) (View T K)) (r : Rule s) (id : ℕ) (v : View T K) (h' : History T) (flags' m : ℕ) (ws' : List ℕ) → v.lead ≡ false → get_elem? s.views id ≡ some v → Later r.history h' → Counts (fits key) h' flags' ws'
      → get_or ws' 0 0 ≡ m → ((j : ℕ) → get_or ws' (1 + j) 0 ≡ get_or s.words (1 + j) 0)
      → Knows key h' r.posting r.cap ws' id (seen (word_of m) v) × Loads v.trail.met v.got m × ((word_of m).flags ≡ flags')
  leaves s r id v h' flags' m ws' plain at later counts is places = let k = knows_later r.history h' later r.posting r.posting r.cap s.words ws' id v (λ e. absurd (false≢true (sym plain ∙ e))) (λ n _ shown. places (n % r.cap) ∙ shown) (λ n _ shown _. places (n % r.cap) ∙ shown) (r.each id v at) in
      let here = word_today (fits key) h' flags' ws' counts in let t = subst (λ (n : ℕ). Today h' (word_of n)) is (today (fits key) h' flags' ws' counts) in let claims = t.claims in (
        sees h' r.posting r.cap ws' id v (word_of m) plain t k,
        record {
          word = t.word;
          exact = subst (λ (n : ℕ). n ≡ code_of (word_of n)) is (exact_today (fits key) h' flags' ws' counts);
          newer = newer_now h' (word_of m) t.posts t.claims t.closed v.trail.met k.trail;
          above = λ i g l. let b = (k.got i g l).below in omega arith;
        },
        ap (λ (n : ℕ). (word_of n).flags) (sym is) ∙ ap (λ (w : Word). w.flags) here,
      )

  pub parted : (h : History T) (gs : List (Got T)) → All (IsRight h) gs → PartedAt h.fetched gs
  parted h gs a = All-weaker (IsRight h) (λ g. (g.drained ≡ false → g.ticket < h.fetched) × (g.drained ≡ true → h.fetched ≤ g.ticket)) (λ g k. (k.fetches, λ e. (k.drains e).1)) gs a

  -- a seat with all parts got all tickets that were claimed
  pub got_all : (s : State (Option T) (View T K)) (r : Rule s) (id : ℕ) (v : View T K) → get_elem? s.views id ≡ some v → v.parts ≡ 256 → GotAll r.history.claimed v.got
  got_all s r id v at all t = sym (total_one (λ u. u.parts) (λ u. times t u.got) s.views id v at (r.whole ∙ sym all) (λ j u a z. ap (times t) ((r.each j u a).partless z).0)) ∙ r.once t

  pub rests_all : (s : State (Option T) (View T K)) (r : Rule s) (id : ℕ) (v : View T K) → get_elem? s.views id ≡ some v → v.parts ≡ 256 → r.history.rested ≡ true → 1 ≤ v.settings
  rests_all s r id v at all e = let o = r.rests e in let t = total_one (λ u. u.parts) (λ u. u.settings) s.views id v at (r.whole ∙ sym all) (λ j u a z. ((r.each j u a).partless z).1) in omega arith
