-- What each step of a Taker does.
use Rattle.std.proofs.Common.{Ok, Err, unwrap_or, ◌≡◌, ◌≢◌, ℕ, zero, suc, ◌+◌, ◌%◌, ◌^◌, ◌<◌, ◌≤◌, Bool, true, false, cond, eqb, ltb, List, [], ◌∷◌, ◌++◌, length, get_or, set, sym, refl, ap, ◌∙◌, subst, arith, ⊎_elim, inl, inr, Option, Some, None, get_or-set_other, get_or-set_same, bit_and, bit_or, eq-eqb, ne_eqb}
use mathlib.Core.Option.{none, some, some-injective, some-ne-none}
use mathlib.Core.Logic.{dite}
use native.Mathlib.Decide.{ℕ_discrete}
use lib.ListN.{get_elem?}
use prog.Atomic.{either}
use Rattle.std.proofs.lemmas.Bool.{cases_eq, false≢true, true≢false}
use Rattle.std.proofs.lemmas.List.Elements.{All-push}
use Rattle.atomic_table.specs.Table.{State, Me, step, rest, Act, keeps, takes, gives, stepped, homes_after, put_back, Allows, Splits, Joins, opening}
use Rattle.lw_base.specs.declared.event_word.Flag.TheVariants.{Rest, Closed}
use Rattle.lw_base.specs.declared.event_word.Word.{Word}
use Rattle.lw_base.specs.EventWord.{is_set}
use Rattle.lw_mbox.specs.declared.view.Got.{Got}
use Rattle.lw_mbox.specs.declared.view.View.{View}
use Rattle.lw_mbox.specs.Changes.{items, posted, is_on}
use Rattle.lw_mbox.specs.Trail.{Trail}
use Rattle.lw_mbox.specs.History.{History, claimed_one, IsRight, times, GotAll}
use Rattle.lw_mbox.specs.Rule.{coded, word_of, Homes, Counts, Knows, Ruled}
use Rattle.lw_mbox.specs.Plays.{ticket, seen, Loads, loaded, claimed_at, emptied, rested_at, calmed, asks, tallied, tells, Claims}
use Rattle.lw_mbox.proofs.Rows.{total_at, total_two}
use Rattle.lw_mbox.proofs.EventWords.{or_coded, and_coded, or_narrow, and_narrow, set_flag, clear_flag, other_flag}
use Rattle.lw_mbox.proofs.Trails.{Later, same_time}
use Rattle.lw_mbox.proofs.Rings.{ring_word, ring_claims, ring_empties}
use Rattle.lw_mbox.proofs.Moves.{found_later, times_push, later_same, count_next, Today, word_today, today, knows_later, moves, quiet, leaves, sees, loads_today, parted, got_all, rests_all}

-- how many fetches there are after a claim, with and without CLOSED
draws : {T : Type 0} (drained : Bool) (h : History T) → is_on Closed h.changes ≡ drained → (is_on Closed h.changes ≡ false → h.fetched ≡ h.claimed) → h.fetched ≤ h.claimed
    → (f : ℕ) × ((h.fetched ≤ f) × (is_on Closed h.changes ≡ true → f ≡ h.fetched) × (is_on Closed h.changes ≡ false → f ≡ h.claimed + 1) × (f ≤ h.claimed + 1)
    × (drained ≡ false → h.claimed < f) × (drained ≡ true → (is_on Closed h.changes ≡ true) × (f ≤ h.claimed)))
draws false h is opens le = let same = opens is in (h.fetched + 1, (omega arith, (λ e. absurd (false≢true (sym is ∙ e))), (λ _. omega arith), omega arith, (λ _. omega arith), λ e. absurd (false≢true e)))
draws true h is opens le = (h.fetched, (omega arith, (λ _. refl), (λ e. absurd (true≢false (sym is ∙ e))), omega arith, (λ e. absurd (true≢false e)), λ _. (is, le)))

abbrev one_if : Bool → ℕ
one_if b = cond b 1 0

some_same : (a b : ℕ) → Some a ≡ Some b → a ≡ b
some_same a b e = cc

none_some : (a : ℕ) → None ≡ Some a → ⊥
none_some a e = cc

cond_small : (b : Bool) → cond b 1 0 ≤ 1
cond_small true = omega arith
cond_small false = omega arith

module _ {T : Type 0} where
  at_or : (l : List T) (i : ℕ) (d a : T) → get_elem? l i ≡ some a → get_or l i d ≡ a
  at_or [] i d a e = absurd (some-ne-none a (sym e))
  at_or (x ∷ xs) zero d a e = some-injective x a e
  at_or (x ∷ xs) (suc i) d a e = at_or xs i d a e

  has_ticket : (gs : List (Got T)) (g : Got T) (m : ℕ) → g.ticket ≡ m → 1 ≤ times m (gs ++ g ∷ [])
  has_ticket gs g m e = let t = times_push m gs g in let one : one_if (eqb g.ticket m) ≡ 1 = ap one_if (eq-eqb g.ticket m e) in omega arith

  -- a step on a place leaves the event word
  counts_place : (fits : T → Type 0) (h : History T) (flags : ℕ) (ws : List ℕ) (j n : ℕ) → Counts fits h flags ws → Counts fits h flags (set ws (1 + j) n)
  counts_place fits h flags ws j n c = record {
    event = get_or-set_other ws (1 + j) 0 n 0 (λ e. omega arith) ∙ c.event;
    few = c.few;
    claims = c.claims;
    narrow = c.narrow;
    lights = c.lights;
    opens = c.opens;
    drawn = c.drawn;
    dark = c.dark;
    fit = c.fit;
  }

module _ {T K : Type 0} (fits : K → T → Type 0) (key : K) where
  abbrev Rule : State (Option T) (View T K) → Type 0
  Rule = Ruled fits key

  abbrev M : Type 0
  M = Me (Option T) (View T K)

  pub loads : (slots id : ℕ) (me : M) → me.0.lead ≡ false → Allows Rule slots id me 0 (λ n. n) (loaded (step slots 0 0 0 none) me)
  loads slots id me plain s r deep at _ = let w : Word = word_of (get_or s.words 0 0) in let t = today (fits key) r.history r.flags s.words r.counts in let k = r.each id me.0 at in (
    seen w me.0,
    keeps,
    tt,
    quiet fits key s r id 0 me.0 (seen w me.0) at (sees fits key r.history r.posting r.cap s.words id me.0 w plain t k) refl refl (omega arith),
    (
      refl,
      refl,
      loads_today fits key s r id me.0 at,
      (r.history.fetched, parted fits key r.history me.0.got k.got),
      λ all. subst (λ (n : ℕ). GotAll n me.0.got) (sym t.claims) (got_all fits key s r id me.0 at all),
    ),
  )

  -- a claim at the word of today
  claim_hits : (s : State (Option T) (View T K)) (r : Rule s) (slots id : ℕ) (me : M) (drained : Bool) → me.0.lead ≡ false → 0 < me.0.parts → length s.homes ≡ slots → get_elem? s.views id ≡ some me.0
      → (word_of (get_or s.words 0 0)).claimed < (word_of (get_or s.words 0 0)).posted → is_set Closed (word_of (get_or s.words 0 0)).flags ≡ drained
      → let n : ℕ = get_or s.words 0 0 in let w : Word = word_of n in (x : T) × ((get_elem? s.homes (w.claimed % slots) ≡ some (some (Some x))) × fits key x
      × Rule record {
        words = set s.words 0 (n + 256);
        homes = set s.homes (w.claimed % slots) none;
        views = set s.views id (record (seen (claimed_one w) me.0) { got = me.0.got ++ ticket w.claimed x drained ∷ []; holds = Some w.claimed });
      })
  claim_hits s r slots id me drained plain part deep at left side = let n : ℕ = get_or s.words 0 0 in let w : Word = word_of n in let v : View T K = me.0 in let h : History T = r.history in let c : ℕ = h.claimed in let cap : ℕ = r.cap in
      let counts = r.counts in let ring = r.ring in let wide = ring.wide in let t = today (fits key) h r.flags s.words counts in let ec : w.claimed ≡ c = t.claims in let ep : w.posted ≡ posted h.changes = t.posts in
      let lt : c < length (items h.changes) = omega arith in let q = ring.queue c (omega arith) lt in let x : T = q.1.0 in let d = draws drained h (sym t.closed ∙ side) counts.opens counts.drawn in let f : ℕ = d.0 in
      let d₀ = d.1.0 in let d₃ = d.1.3 in let h' : History T = record { changes = h.changes; claimed = c + 1; fetched = f; rested = h.rested } in
      let later : Later h h' = same_time h (c + 1) f h.rested (omega arith) d₀ d.1.1 (λ z. z) in let kn = r.each id v at in
      let gs : List (Got T) = v.got ++ ticket w.claimed x drained ∷ [] in let left_word : Word = claimed_one w in let u : View T K = record (seen left_word v) { got = gs; holds = Some w.claimed } in
      let same : cap ≡ slots = sym ring.deep ∙ deep in let place : c % cap ≡ w.claimed % slots = λ i. (sym ec i) % (same i) in let ws' : List ℕ = set s.words 0 (n + 256) in
      let event = counts.event in
      let counts' : Counts (fits key) h' r.flags ws' = record {
        event = get_or-set_same s.words 0 (n + 256) 0 (omega arith) ∙ (let g : n + 256 ≡ coded (posted h.changes) (c + 1) r.flags = omega arith in g);
        few = counts.few;
        claims = omega arith;
        narrow = counts.narrow;
        lights = counts.lights;
        opens = d.1.2;
        drawn = d.1.3;
        dark = counts.dark;
        fit = counts.fit;
      } in
      let is_left : word_of (get_or ws' 0 0) ≡ left_word = word_today (fits key) h' r.flags ws' counts' ∙ sym (ap claimed_one (word_today (fits key) h r.flags s.words counts)) in
      let t' : Today h' left_word = subst (Today h') is_left (today (fits key) h' r.flags ws' counts') in
      let kl = knows_later fits key h h' later r.posting r.posting cap s.words ws' id v (λ e. absurd (false≢true (sym plain ∙ e))) (λ m _ shown. get_or-set_other s.words 0 (1 + m % cap) (n + 256) 0 (λ e. omega arith) ∙ shown) (λ k _ shown _. get_or-set_other s.words 0 (1 + k % cap) (n + 256) 0 (λ e. omega arith) ∙ shown) kn in
      let kw = sees fits key h' r.posting cap ws' id v left_word plain t' kl in
      let right : IsRight h' (ticket c x drained) = record { below = omega arith; item = q.1.1.0; fetches = d.1.4; drains = d.1.5 } in
      let mine : Knows key h' r.posting cap ws' id u = record {
        keyed = kn.keyed;
        leads = kw.leads;
        marks = kw.marks;
        trail = kw.trail;
        back = kl.back;
        got = All-push (IsRight h') v.got (ticket w.claimed x drained) kl.got (subst (λ (z : ℕ). IsRight h' (ticket z x drained)) (sym ec) right);
        partless = λ z. absurd (omega arith);
        holding = λ m e. let z : w.claimed ≡ m = some_same w.claimed m e in let zc : c ≡ m = sym ec ∙ z in let some_now : 1 ≤ times m gs = has_ticket v.got (ticket w.claimed x drained) m z in
            (omega arith, subst (λ (j : ℕ). get_or ws' (1 + j % cap) 0 ≡ j) zc (get_or-set_other s.words 0 (1 + c % cap) (n + 256) 0 (λ e. omega arith) ∙ q.0), some_now);
      } in (
        x,
        (
          subst (λ (j : ℕ). get_elem? s.homes j ≡ some (some (Some x))) place q.1.1.1,
          subst (fits key) (at_or (items h.changes) c x x q.1.1.0) (counts.fit c x lt),
          subst (λ (j : ℕ). Rule record { words = ws'; homes = set s.homes j none; views = set s.views id u }) place
              (moves fits key s r id v u h' r.flags r.posting ws' (set s.homes (c % cap) none) at later counts' (ring_word (items h.changes) (c + 1) r.posting cap s.words (set s.homes (c % cap) none) (n + 256) (ring_claims (items h.changes) c r.posting cap s.words s.homes ring lt)) mine
              (inr (refl, refl)) (λ m _ shown. get_or-set_other s.words 0 (1 + m % cap) (n + 256) 0 (λ e. omega arith) ∙ shown) (λ j k z _ _ _ shown _. get_or-set_other s.words 0 (1 + k % cap) (n + 256) 0 (λ e. omega arith) ∙ shown)
              (λ m. let a = times_push m v.got (ticket w.claimed x drained) in let b = count_next m c in let e : one_if (eqb w.claimed m) ≡ one_if (eqb c m) = ap (λ (z : ℕ). one_if (eqb z m)) ec in omega arith) refl (omega arith) (λ e. inl e)),
        ),
      )

  pub claims : (slots id : ℕ) (me : M) (drained : Bool) (first : ℕ) → me.0.lead ≡ false → 0 < me.0.parts → (word_of first).claimed < (word_of first).posted → is_set Closed (word_of first).flags ≡ drained
      → Allows Rule slots id me 0 (λ n. either (eqb n first) (first + 256) n) (claimed_at fits drained (step slots 0 first (first + 256) none) me)
  claims slots id me drained first plain part left side s r deep at _ = let n : ℕ = get_or s.words 0 0 in let w : Word = word_of n in let t = today (fits key) r.history r.flags s.words r.counts in let k = r.each id me.0 at in
      let l = loads_today fits key s r id me.0 at in dite (ℕ_discrete n first)
      (λ hit. let c = claim_hits s r slots id me drained plain part deep at (subst (λ (m : ℕ). (word_of m).claimed < (word_of m).posted) (sym hit) left) (ap (λ (m : ℕ). is_set Closed (word_of m).flags) hit ∙ side) in
      let v : View T K = record (seen (claimed_one w) me.0) { got = me.0.got ++ ticket w.claimed c.0 drained ∷ []; holds = Some w.claimed } in (
        v,
        takes (w.claimed % slots) (Some c.0),
        c.1.0,
        subst (λ (b : ℕ). Rule record { words = set s.words 0 b; homes = set s.homes (w.claimed % slots) none; views = set s.views id v })
            (ap (λ (m : ℕ). m + 256) hit ∙ sym (ap (λ (b : Bool). either b (first + 256) n) (eq-eqb n first hit))) c.1.2,
        (l, (λ miss. absurd (miss hit)), λ _. (c.0, (refl, refl, (λ j e. subst (λ (z : K). fits z c.0) (sym (k.keyed j e)) c.1.1)))),
      ))
      (λ miss. (
        seen w me.0,
        keeps,
        tt,
        subst (λ (b : Bool). Rule record { words = set s.words 0 (either b (first + 256) n); homes = s.homes; views = set s.views id (seen w me.0) }) (sym (ne_eqb n first miss))
            (quiet fits key s r id 0 me.0 (seen w me.0) at (sees fits key r.history r.posting r.cap s.words id me.0 w plain t k) refl refl (omega arith)),
        (l, (λ _. (refl, refl)), λ hit. absurd (miss hit)),
      ))

  -- the ticket k of this seat is marked emptied, and its slot comes back
  pub empties : (slots id : ℕ) (me : M) (k i : ℕ) → me.0.holds ≡ Some k → me.1 ≡ (k % slots, None) ∷ [] → i ≡ 1 + k % slots → (new : ℕ) → new ≡ k + slots
      → Allows Rule slots id me i (λ _. new) (λ _. emptied (step slots i new 0 none) me new)
  empties slots id me k i holds carried at_word new is_new s r deep at _ = let v : View T K = me.0 in let w : View T K = record v { holds = None } in let kn = r.each id v at in let own = kn.holding k holds in let own₀ = own.0 in
      let cap : ℕ = r.cap in let same : cap ≡ slots = sym r.ring.deep ∙ deep in let ws' : List ℕ = set s.words (1 + k % cap) (k + cap) in let hs' : Homes T = set s.homes (k % cap) (some None) in
      let held : (j m : ℕ) (u : View T K) → j ≢ id → get_elem? s.views j ≡ some u → u.holds ≡ Some m → get_or s.words (1 + m % cap) 0 ≡ m → 1 ≤ times m u.got → get_or ws' (1 + m % cap) 0 ≡ m = λ j m u other there _ shown got.
      ⊎_elim (λ (e : m % cap ≡ k % cap). let one : m ≡ k = sym shown ∙ (ap (λ (z : ℕ). get_or s.words (1 + z) 0) e ∙ own.1) in let two = total_two (λ z. times m z.got) s.views j id u v other there at in
      let mine : 1 ≤ times m v.got = subst (λ (z : ℕ). 1 ≤ times z v.got) (sym one) own.2 in let o = r.once m in let small = cond_small (ltb m r.history.claimed) in absurd (omega arith))
      (λ ne. get_or-set_other s.words (1 + k % cap) (1 + m % cap) (k + cap) 0 (λ z. ne (omega arith)) ∙ shown) (cases_eq (m % cap) (k % cap)) in
      let claims = r.counts.claims in let stays = λ (m : ℕ) (le : posted r.history.changes ≤ m) (shown : get_or s.words (1 + m % cap) 0 ≡ m).
      ⊎_elim (λ (e : m % cap ≡ k % cap). let one : m ≡ k = sym shown ∙ (ap (λ (z : ℕ). get_or s.words (1 + z) 0) e ∙ own.1) in absurd (omega arith))
      (λ ne. get_or-set_other s.words (1 + k % cap) (1 + m % cap) (k + cap) 0 (λ z. ne (omega arith)) ∙ shown) (cases_eq (m % cap) (k % cap)) in
      let done = moves fits key s r id v w r.history r.flags r.posting ws' hs' at (later_same r.history) (counts_place (fits key) r.history r.flags s.words (k % cap) (k + cap) r.counts) (ring_empties (items r.history.changes) r.history.claimed r.posting cap s.words s.homes k r.ring own.0 own.1)
      record { keyed = kn.keyed; leads = kn.leads; marks = λ e. found_later (posted r.history.changes) (posted r.history.changes) cap s.words ws' v.marks (omega arith) stays (kn.marks e); trail = kn.trail; back = kn.back; got = kn.got; partless = kn.partless; holding = λ m e. absurd (none_some m e) }
      (inr (refl, refl)) stays held (λ n. refl) refl (omega arith) (λ e. inl e) in (
        w,
        gives,
        tt,
        subst (λ (cs : List (ℕ × Option T)). Rule record { words = set s.words i new; homes = put_back s.homes cs; views = set s.views id w }) (sym carried)
            (subst (λ (z : ℕ × ℕ). Rule record { words = set s.words z.0 z.1; homes = set s.homes (k % slots) (some None); views = set s.views id w }) (λ c. (sym at_word c, sym is_new c))
            (subst (λ (z : ℕ). Rule record { words = set s.words (1 + k % z) (k + z); homes = set s.homes (k % z) (some None); views = set s.views id w }) same done)),
        (refl, ap Rattle.atomic_table.specs.Table.rest carried),
      )

  -- the same from before the item was taken out of the slot
  pub empties_from : (slots id : ℕ) (m m' : M) (cap k : ℕ) (x : T) → m' ≡ (m.0, (k % cap, None) ∷ rest m.1) → m.1 ≡ (k % cap, Some x) ∷ [] → m.0.holds ≡ Some k → slots ≡ cap
      → Allows Rule slots id m' (1 + k % cap) (λ _. k + cap) (λ _. emptied (step slots (1 + k % cap) (k + cap) 0 none) m' (k + cap))
  empties_from slots id m m' cap k x is slot holds same = subst (λ (z : M). Allows Rule slots id z (1 + k % cap) (λ _. k + cap) (λ _. emptied (step slots (1 + k % cap) (k + cap) 0 none) z (k + cap))) (sym is)
      (empties slots id (m.0, (k % cap, None) ∷ rest m.1) k (1 + k % cap) holds (λ i. (k % sym same i, None) ∷ rest (slot i)) (λ i. 1 + k % sym same i) (k + cap) (λ i. k + sym same i))

  -- REST is set
  pub sets_rest : (slots id : ℕ) (me : M) → me.0.lead ≡ false → 0 < me.0.parts → Allows Rule slots id me 0 (λ n. bit_or n 2) (rested_at (step slots 0 2 0 none) me)
  sets_rest slots id me plain part s r deep at _ = let n : ℕ = get_or s.words 0 0 in let v : View T K = me.0 in let h : History T = r.history in let counts = r.counts in let wide = r.ring.wide in let m : ℕ = bit_or n 2 in
      let w : View T K = record (seen (word_of m) v) { settings = v.settings + 1 } in let flags' : ℕ = bit_or r.flags 2 in let h' : History T = record { changes = h.changes; claimed = h.claimed; fetched = h.fetched; rested = true } in
      let later : Later h h' = same_time h h.claimed h.fetched true (omega arith) (omega arith) (λ _. refl) (λ _. refl) in let ws' : List ℕ = set s.words 0 m in let same = get_or-set_same s.words 0 m 0 (omega arith) in
      let places = λ (j : ℕ). get_or-set_other s.words 0 (1 + j) m 0 (λ e. omega arith) in
      let counts' : Counts (fits key) h' flags' ws' = record {
        event = same ∙ (ap (λ (z : ℕ). bit_or z 2) counts.event ∙ or_coded (posted h.changes) h.claimed r.flags 2 counts.narrow (omega arith));
        few = counts.few;
        claims = counts.claims;
        narrow = or_narrow r.flags 2 counts.narrow (omega arith);
        lights = λ f ne. set_flag f Rest r.flags ∙ (ap (λ (b : Bool). cond b true (is_set f r.flags)) (other_flag f Rest ne) ∙ counts.lights f ne);
        opens = counts.opens;
        drawn = counts.drawn;
        dark = λ _. refl;
        fit = counts.fit;
      } in
      let left = leaves fits key s r id v h' flags' m ws' plain at later counts' same places in let k = left.0 in
      let mine : Knows key h' r.posting r.cap ws' id w = record { keyed = k.keyed; leads = k.leads; marks = k.marks; trail = k.trail; back = k.back; got = k.got; partless = λ z. absurd (omega arith); holding = k.holding } in (
        w,
        keeps,
        tt,
        moves fits key s r id v w h' flags' r.posting ws' s.homes at later counts' (ring_word (items h.changes) h.claimed r.posting r.cap s.words s.homes m r.ring) mine (inr (refl, refl)) (λ j _ shown. places (j % r.cap) ∙ shown)
            (λ j k z _ _ _ shown _. places (k % r.cap) ∙ shown) (λ _. refl) refl (omega arith) (λ _. inr (omega arith)),
        (refl, refl, left.1, ap (is_set Rest) left.2 ∙ set_flag Rest Rest r.flags),
      )

  -- REST is cleared
  pub clears_rest : (slots id : ℕ) (me : M) → me.0.lead ≡ false → Allows Rule slots id me 0 (λ n. bit_and n 18446744073709551613) (calmed (step slots 0 18446744073709551613 0 none) me)
  clears_rest slots id me plain s r deep at _ = let n : ℕ = get_or s.words 0 0 in let v : View T K = me.0 in let h : History T = r.history in let counts = r.counts in let wide = r.ring.wide in let m : ℕ = bit_and n 18446744073709551613 in
      let w : View T K = seen (word_of m) v in let flags' : ℕ = bit_and r.flags 253 in let ws' : List ℕ = set s.words 0 m in let few = counts.few in let below = counts.claims in let same = get_or-set_same s.words 0 m 0 (omega arith) in
      let places = λ (j : ℕ). get_or-set_other s.words 0 (1 + j) m 0 (λ e. omega arith) in
      let counts' : Counts (fits key) h flags' ws' = record {
        event = same ∙ (ap (λ (z : ℕ). bit_and z 18446744073709551613) counts.event ∙ and_coded (posted h.changes) h.claimed r.flags 2 few (omega arith) counts.narrow (omega arith));
        few = few;
        claims = below;
        narrow = and_narrow r.flags 253 counts.narrow;
        lights = λ f ne. clear_flag f Rest r.flags ∙ (ap (λ (b : Bool). cond b false (is_set f r.flags)) (other_flag f Rest ne) ∙ counts.lights f ne);
        opens = counts.opens;
        drawn = counts.drawn;
        dark = λ e. absurd (false≢true (sym (clear_flag Rest Rest r.flags) ∙ e));
        fit = counts.fit;
      } in
      let left = leaves fits key s r id v h flags' m ws' plain at (later_same h) counts' same places in (
        w,
        keeps,
        tt,
        moves fits key s r id v w h flags' r.posting ws' s.homes at (later_same h) counts' (ring_word (items h.changes) h.claimed r.posting r.cap s.words s.homes m r.ring) left.0 (inr (refl, refl)) (λ j _ shown. places (j % r.cap) ∙ shown)
            (λ j k z _ _ _ shown _. places (k % r.cap) ∙ shown) (λ _. refl) refl (omega arith) (λ e. inl e),
        (refl, refl, left.1, ap (is_set Rest) left.2 ∙ clear_flag Rest Rest r.flags),
      )

  -- a step that leaves the event word, and a view that says as much
  pub asks_for : (slots id : ℕ) (me : M) (n : ℕ) → Allows Rule slots id me 0 (λ x. either (eqb x n) n x) (asks (step slots 0 n n none) me)
  asks_for slots id me n s r deep at _ = let x : ℕ = get_or s.words 0 0 in let v : View T K = me.0 in let w : View T K = record v { asked = n } in let k = r.each id v at in
      let same : either (eqb x n) n x ≡ x = dite (ℕ_discrete x n) (λ e. ap (λ (b : Bool). either b n x) (eq-eqb x n e) ∙ sym e) (λ ne. ap (λ (b : Bool). either b n x) (ne_eqb x n ne)) in (
        w,
        keeps,
        tt,
        subst (λ (z : ℕ). Rule record { words = set s.words 0 z; homes = s.homes; views = set s.views id w }) (sym same)
            (quiet fits key s r id 0 v w at record { keyed = k.keyed; leads = k.leads; marks = k.marks; trail = k.trail; back = k.back; got = k.got; partless = k.partless; holding = k.holding } refl refl (omega arith)),
        (refl, refl),
      )

  pub tallies : (slots id : ℕ) (me : M) → Allows Rule slots id me 0 (λ n. n) (tallied (step slots 0 0 0 none) me)
  tallies slots id me s r deep at _ = let v : View T K = me.0 in (
    v,
    keeps,
    tt,
    quiet fits key s r id 0 v v at (r.each id v at) refl refl (omega arith),
    (refl, λ t. let o = r.once t in let u = total_at (λ z. times t z.got) s.views id v at in let small = cond_small (ltb t r.history.claimed) in omega arith),
  )

  pub tells_all : (slots id : ℕ) (me : M) → me.0.lead ≡ true → Allows Rule slots id me 0 (λ n. n) (tells (step slots 0 0 0 none) me)
  tells_all slots id me leads s r deep at _ = let v : View T K = me.0 in let k = r.each id v at in let l = k.leads leads in let counts = r.counts in let claims = counts.claims in let same = sym l.1 in let n = ap posted same in (
    v,
    keeps,
    tt,
    quiet fits key s r id 0 v v at k refl refl (omega arith),
    (
      refl,
      record {
        history = r.history;
        same = same;
        claims = omega arith;
        fetches = counts.drawn;
        own = k.trail;
        places = k.back;
        right = k.got;
        once = λ t. let o = r.once t in let u = total_at (λ z. times t z.got) s.views id v at in let small = cond_small (ltb t r.history.claimed) in omega arith;
        all = λ e. got_all fits key s r id v at e;
        rests = λ e q. rests_all fits key s r id v at e q;
      },
    ),
  )

module _ {A : Type 0} where
  pub one_slot : (l : List (ℕ × A)) (j : ℕ) (x : A) → l ≡ (j, x) ∷ [] → l ≡ (j, x) ∷ rest l
  one_slot l j x e = e ∙ ap (λ (r : List (ℕ × A)). (j, x) ∷ r) (ap rest (sym e))

module _ {T : Type 0} where
  abbrev item_or : T → List (ℕ × Option T) → T
  item_or d [] = d
  item_or d (s ∷ ss) = unwrap_or s.1 d

module _ {T K : Type 0} (fits : K → T → Type 0) (drained : Bool) (slots first : ℕ) where
  -- a claim that found the word expected holds its ticket and has its slot
  pub claimed_slot : (m m' : Me (Option T) (View T K)) (n cap : ℕ) (w : Word) → n ≡ first → w ≡ word_of first → slots ≡ cap → m.1 ≡ [] → claimed_at fits drained (step slots 0 first (first + 256) none) m n m'
      → (m'.0.holds ≡ Some w.claimed) × ((x : T) × (m'.1 ≡ (w.claimed % cap, Some x) ∷ []))
  claimed_slot m m' n cap w hit is same bare c = let h = c.2 hit in let e : word_of n ≡ w = ap word_of hit ∙ sym is in
      (ap (λ (v : View T K). v.holds) h.1.0 ∙ ap (λ (z : Word). Some z.claimed) e, (h.0, h.1.1 ∙ (λ i. ((e i).claimed % same i, Some h.0) ∷ bare i)))

  pub claimed_ok : (m m' m'' : Me (Option T) (View T K)) (n j : ℕ) (y : T) → n ≡ first → claimed_at fits drained (step slots 0 first (first + 256) none) m n m' → m''.0 ≡ record m'.0 { holds = None } → m''.1 ≡ [] → m'.1 ≡ (j, Some y) ∷ []
      → Claims fits drained first m (Ok y) m''
  claimed_ok m m' m'' n j y hit c is bare slot = let h = c.2 hit in let e : h.0 ≡ y = ap (item_or h.0) (sym h.1.1 ∙ slot) in let word : word_of n ≡ word_of first = ap word_of hit in (
    is ∙ (ap (λ (v : View T K). let u : View T K = record v { holds = None } in u) h.1.0 ∙ (λ i. record (seen (claimed_one (word i)) m.0) { got = m.0.got ++ ticket (word i).claimed (e i) drained ∷ []; holds = None })),
    bare,
    (λ k q. subst (fits k) e (h.1.2 k q)),
  )

  pub claimed_err : (m m' : Me (Option T) (View T K)) (n : ℕ) → n ≢ first → m.1 ≡ [] → claimed_at fits drained (step slots 0 first (first + 256) none) m n m' → Claims fits drained first m (Err n) m'
  claimed_err m m' n miss bare c = let z = c.1 miss in (miss, c.0, z.0, z.1 ∙ bare)

-- an event word with a ticket to claim has room for the claim
pub roomy : {T : Type 0} (t : Trail) (gs : List (Got T)) (n : ℕ) → Loads t gs n → (word_of n).claimed < (word_of n).posted → n + 256 < 2 ^ 64
roomy t gs n l left = let w = l.word in let a = w.posts in let b = w.flags in let e = l.exact in omega arith

-- a word with a ticket to claim, as the code read it
pub ready_at : {T : Type 0} (t : Trail) (gs : List (Got T)) (n : ℕ) (w : Word) → Loads t gs n → w ≡ word_of n → (w.posted ≡ w.claimed → ⊥) → (w.claimed < w.posted) × (n + 256 < 2 ^ 64)
ready_at t gs n w l is some_left = let v = l.word in let a = v.claims in let p : w.posted ≡ (word_of n).posted = ap (λ (z : Word). z.posted) is in let c : w.claimed ≡ (word_of n).claimed = ap (λ (z : Word). z.claimed) is in
    let left : (word_of n).claimed < (word_of n).posted = lt_from _ _ a (λ e. some_left (p ∙ (e ∙ sym c))) in (omega arith, roomy t gs n l left)
  where
    lt_from : (a b : ℕ) → a ≤ b → (b ≡ a → ⊥) → a < b
    lt_from a b le ne = omega arith
