-- What each step of a Poster does.
use Rattle.std.proofs.Common.{◌≡◌, ◌≢◌, ◌⊎◌, ℕ, zero, suc, ◌+◌, ◌-◌, ◌*◌, ◌/◌, ◌%◌, ◌^◌, ◌<◌, ◌≤◌, Bool, true, false, cond, eqb, ltb, List, [], ◌∷◌, ◌++◌, length, get_or, set, sym, refl, ap, ◌∙◌, subst, arith, ⊎_elim, inl, inr, Option, Some, None, length-set, get_or-set_other, get_or-set_same, mod-lt, All, Contains, append-nil, length-append, bit_and, bit_or, eq-eqb, ne_eqb}
use mathlib.Core.Option.{none, some}
use mathlib.Core.Logic.{dite}
use native.Mathlib.Decide.{ℕ_discrete}
use lib.ListN.{get_elem?}
use lib.Seq.{set-get_or}
use Rattle.std.proofs.lemmas.Bool.{cases_Bool, false≢true}
use Rattle.std.proofs.lemmas.List.Elements.{All-push, All-contains}
use Rattle.atomic_table.specs.Table.{State, Me, Step, step, rest, Act, keeps, takes, gives, stepped, homes_after, put_back, Allows, Splits, Joins, opening}
use Rattle.lw_base.specs.declared.event_word.Flag.{Flag}
use Rattle.lw_base.specs.declared.event_word.Flag.TheVariants.{Rest, Closed}
use Rattle.lw_base.specs.declared.event_word.Word.{Word}
use Rattle.lw_base.specs.EventWord.{is_set, bit_of}
use Rattle.lw_mbox.specs.declared.view.Change.{Change}
use Rattle.lw_mbox.specs.declared.view.Change.TheVariants.{Post, Set, Clear}
use Rattle.lw_mbox.specs.declared.view.View.{View}
use Rattle.lw_mbox.specs.Changes.{items, posted, is_on, is_same, flag_at, Shows}
use Rattle.lw_mbox.specs.Trail.{saw}
use Rattle.lw_mbox.specs.History.{History}
use Rattle.lw_mbox.specs.Rule.{coded, word_of, Found, Ring, Homes, Lights, Counts, Knows, Ruled}
use Rattle.lw_mbox.specs.Plays.{seen, looked, taken, announced, sets_flag, clears_flag}
use Rattle.lw_mbox.proofs.EventWords.{or_coded, and_coded, or_narrow, and_narrow, set_flag, clear_flag, other_flag, bit_small, flag_at-bit}
use Rattle.lw_mbox.proofs.Trails.{items-append, is_on-push, Later, sound_later, all_sound_later, all_right_later}
use Rattle.lw_mbox.proofs.Rings.{ring_word, ring_takes, ring_posts, still_full}
use Rattle.lw_mbox.proofs.Moves.{found_later, later_same, today, sound_today, loads_today, moves, quiet}

module _ {T : Type 0} where
  -- the item in the slot that was taken last
  abbrev item_or : T → List (ℕ × Option T) → T
  item_or d [] = d
  item_or d (s ∷ ss) = Rattle.std.proofs.Common.unwrap_or s.1 d

  no_more : (cs : List (Change T)) (c : Change T) → items (c ∷ []) ≡ [] → items (cs ++ c ∷ []) ≡ items cs
  no_more cs c e = items-append cs (c ∷ []) ∙ (ap (λ (l : List T). items cs ++ l) e ∙ append-nil (items cs))

module _ {T K : Type 0} (fits : K → T → Type 0) (key : K) where
  abbrev Rule : State (Option T) (View T K) → Type 0
  Rule = Ruled fits key

  abbrev M : Type 0
  M = Me (Option T) (View T K)

  -- the place of the ticket t is looked at
  pub looks : (slots id : ℕ) (me : M) (i t : ℕ) → me.0.lead ≡ true → posted me.0.changes ≤ t → t < posted me.0.changes + slots → t + 1 < 2 ^ 28 → i ≡ 1 + t % slots → Allows Rule slots id me i (λ n. n) (looked (step slots i 0 0 none) me)
  looks slots id me i t leads lo hi few at_word s r deep at _ = let v : View T K = me.0 in let h : History T = r.history in let k = r.each id v at in let l = k.leads leads in let cap : ℕ = r.cap in let same : cap ≡ slots = sym r.ring.deep ∙ deep in
      let n : ℕ = get_or s.words i 0 in let xs : List T = items h.changes in let p : posted v.changes ≡ length xs = ap posted l.1 in let w : View T K = record v { marks = v.marks ++ n ∷ [] } in
      let here = λ (u : ℕ) (e : 1 + u % slots ≡ i). ap (λ (z : ℕ). get_or s.words (1 + u % z) 0) same ∙ ap (λ (z : ℕ). get_or s.words z 0) e in
      let full = λ (u : ℕ) (a : posted v.changes ≤ u) (b : u < posted v.changes + slots) (e : 1 + u % slots ≡ i) (ne : n ≢ u).
      (let f : get_or s.words (1 + u % cap) 0 + cap ≡ u = still_full xs h.claimed r.posting cap s.words s.homes u r.ring (omega arith) (omega arith) (λ z. ne (sym (here u e) ∙ z)) in let g = here u e in
      let q : n + slots ≡ u = omega arith in q) in
      let at_here = here t (sym at_word) in let low : t % cap < cap = mod-lt t r.ring.places in let turn : n % cap ≡ t % cap = ap (λ (z : ℕ). z % cap) (sym at_here) ∙ (r.ring.marks (t % cap) low).at_place in
      let mark : Found (posted h.changes) cap s.words n = record {
        few = dite (ℕ_discrete n t) (λ e. omega arith) (λ ne. let f = full t lo hi (sym at_word) ne in omega arith);
        stays = λ _. ap (λ (z : ℕ). get_or s.words (1 + z) 0) turn ∙ at_here;
      } in (
        w,
        keeps,
        tt,
        quiet fits key s r id i v w at record {
          keyed = k.keyed;
          leads = k.leads;
          marks = λ e. All-push (Found (posted h.changes) cap s.words) v.marks n (k.marks e) mark;
          trail = k.trail;
          back = k.back;
          got = k.got;
          partless = k.partless;
          holding = k.holding;
        } refl refl (omega arith),
        (refl, refl, full),
      )

  -- the slot of the next ticket, whose place was found, is taken
  pub takes_place : (slots id : ℕ) (me : M) (i : ℕ) → me.0.lead ≡ true → me.0.posting ≡ false → Contains me.0.marks (posted me.0.changes) → i ≡ 1 + posted me.0.changes % slots → Allows Rule slots id me i (λ n. n) (taken (step slots i 0 0 none) me)
  takes_place slots id me i leads idle found at_word s r deep at _ = let v : View T K = me.0 in let h : History T = r.history in let k = r.each id v at in let l = k.leads leads in let cap : ℕ = r.cap in let same : cap ≡ slots = sym r.ring.deep ∙ deep in
      let xs : List T = items h.changes in let p : posted v.changes ≡ length xs = ap posted l.1 in let j : ℕ = length xs % cap in
      let place : j ≡ i - 1 = (λ c. (sym p c) % (same c)) ∙ (let g : posted v.changes % slots ≡ i - 1 = omega arith in g) in
      let f = All-contains (Found (length xs) cap s.words) v.marks (posted v.changes) (k.marks leads) found in let few : posted v.changes + 1 < 2 ^ 28 = f.few in
      let here : get_or s.words (1 + j) 0 ≡ length xs = ap (λ (z : ℕ). get_or s.words (1 + z % cap) 0) (sym p) ∙ (f.stays (omega arith) ∙ p) in
      let w : View T K = record v { posting = true; marks = v.marks ++ posted v.changes ∷ [] } in let ring = subst (λ (b : Bool). Ring xs h.claimed b cap s.words s.homes) (sym l.2 ∙ idle) r.ring in
      let t = ring_takes xs h.claimed cap s.words s.homes ring here in (
        w,
        takes (i - 1) None,
        subst (λ (z : ℕ). get_elem? s.homes z ≡ some (some None)) place t.0,
        subst (λ (z : ℕ). Rule record { words = set s.words i (get_or s.words i 0); homes = set s.homes z none; views = set s.views id w }) place
            (subst (λ (ws : List ℕ). Rule record { words = ws; homes = set s.homes j none; views = set s.views id w }) (sym (set-get_or s.words i 0))
            (moves fits key s r id v w h r.flags true s.words (set s.homes j none) at (later_same h) r.counts t.1
            record {
              keyed = k.keyed;
              leads = λ _. (l.0, l.1, refl);
              marks = λ e. All-push (Found (posted h.changes) cap s.words) v.marks (posted v.changes) (k.marks e) f;
              trail = k.trail;
              back = k.back;
              got = k.got;
              partless = k.partless;
              holding = k.holding;
            }
            (inl leads) (λ m _ shown. shown) (λ a b u c d e shown f. shown) (λ m. refl) refl (omega arith) (λ e. inl e))),
        (refl, refl, few),
      )

  -- the item in hand is announced as the next ticket
  pub announces : (slots id : ℕ) (me : M) (x : T) → me.0.lead ≡ true → me.0.posting ≡ true → me.1 ≡ (posted me.0.changes % slots, Some x) ∷ [] → posted me.0.changes + 1 < 2 ^ 28 → is_on Closed me.0.changes ≡ false → fits key x
      → Allows Rule slots id me 0 (λ n. (n + 68719476736) % 2 ^ 64) (announced (step slots 0 68719476736 0 none) me)
  announces slots id me x leads posting carried few unshut fit s r deep at _ = let v : View T K = me.0 in let h : History T = r.history in let k = r.each id v at in let l = k.leads leads in let cap : ℕ = r.cap in let same : cap ≡ slots = sym r.ring.deep ∙ deep in
      let n : ℕ = get_or s.words 0 0 in let xs : List T = items h.changes in let p : posted v.changes ≡ length xs = ap posted l.1 in let j : ℕ = length xs % cap in let place : j ≡ posted v.changes % slots = (λ c. (sym p c) % (same c)) in
      let cs' : List (Change T) = h.changes ++ Post x ∷ [] in let h' : History T = record { changes = cs'; claimed = h.claimed; fetched = h.fetched; rested = h.rested } in let w : View T K = record v { posting = false; changes = v.changes ++ Post x ∷ [] } in
      let now_open : is_on Closed h.changes ≡ false = ap (is_on Closed) (sym l.1) ∙ unshut in let its : items cs' ≡ xs ++ x ∷ [] = items-append h.changes (Post x ∷ []) in let long : posted cs' ≡ length xs + 1 = ap length its ∙ length-append xs (x ∷ []) in
      let later : Later h h' = record { more = Post x ∷ []; grown = refl; claims = omega arith; fetches = omega arith; shut = λ e. absurd (false≢true (sym now_open ∙ e)); rests = λ e. e } in
      let counts = r.counts in let event = counts.event in let below = counts.claims in let narrow = counts.narrow in let wide = r.ring.wide in let m : ℕ = (n + 68719476736) % 18446744073709551616 in let ws' : List ℕ = set s.words 0 m in let hs' : Homes T = set s.homes j (some (Some x)) in
      let counts' : Counts (fits key) h' r.flags ws' = record {
        event = get_or-set_same s.words 0 m 0 (omega arith) ∙ (let g : m ≡ coded (posted cs') h.claimed r.flags = omega arith in g);
        few = omega arith;
        claims = omega arith;
        narrow = narrow;
        lights = λ f ne. counts.lights f ne ∙ sym (is_on-push f h.changes (Post x));
        opens = λ e. counts.opens now_open;
        drawn = counts.drawn;
        dark = counts.dark;
        fit = subst (λ (l : List T). All (fits key) l) (sym its) (All-push (fits key) xs x counts.fit fit);
      } in
      let ring₀ = subst (λ (b : Bool). Ring xs h.claimed b cap s.words s.homes) (sym l.2 ∙ posting) r.ring in
      let ring' = ring_word (items cs') h.claimed false cap s.words hs' m (subst (λ (l : List T). Ring l h.claimed false cap s.words hs') (sym its) (ring_posts xs x h.claimed cap s.words s.homes ring₀)) in
      let sound = all_sound_later h h' later v.back k.back in let kept = λ (a : ℕ) (le : posted h.changes ≤ a) (shown : get_or s.words (1 + a % cap) 0 ≡ a). get_or-set_other s.words 0 (1 + a % cap) m 0 (λ e. omega arith) ∙ shown in
      let mine : Knows key h' false cap ws' id w = record {
        keyed = k.keyed;
        leads = λ _. (l.0, ap (λ (cs : List (Change T)). cs ++ Post x ∷ []) l.1, refl);
        marks = λ e. found_later (posted h.changes) (posted cs') cap s.words ws' v.marks (omega arith) kept (k.marks e);
        trail = sound_later h h' later v.trail.met k.trail;
        back = sound;
        got = all_right_later h h' later v.got k.got;
        partless = k.partless;
        holding = λ a e. let o = k.holding a e in (o.0, get_or-set_other s.words 0 (1 + a % cap) m 0 (λ e. omega arith) ∙ o.1, o.2);
      } in
      let done = moves fits key s r id v w h' r.flags false ws' hs' at later counts' ring' mine (inl leads) kept (λ a b u _ _ _ shown _. get_or-set_other s.words 0 (1 + b % cap) m 0 (λ e. omega arith) ∙ shown) (λ _. refl) refl (omega arith) (λ e. inl e) in (
        w,
        gives,
        tt,
        subst (λ (cs : List (ℕ × Option T)). Rule record { words = ws'; homes = put_back s.homes cs; views = set s.views id w }) (sym carried)
            (subst (λ (z : ℕ). Rule record { words = ws'; homes = set s.homes z (some (Some x)); views = set s.views id w }) place done),
        λ a y e. (ap (λ (z : T). let u : View T K = record v { posting = false; changes = v.changes ++ Post z ∷ [] } in u) (ap (item_or x) (sym carried ∙ e)), ap Rattle.atomic_table.specs.Table.rest carried),
      )

  -- the Poster's change of a flag, which makes of the event word m
  turns_flag : (s : State (Option T) (View T K)) (r : Rule s) (id : ℕ) (v : View T K) (c : Change T) (flags' m : ℕ) → v.lead ≡ true → get_elem? s.views id ≡ some v → items (c ∷ []) ≡ []
      → m ≡ coded (posted r.history.changes) r.history.claimed flags' → flags' < 2 ^ 8 → Lights (r.history.changes ++ c ∷ []) flags' → (is_on Closed r.history.changes ≡ true → is_on Closed (r.history.changes ++ c ∷ []) ≡ true)
      → is_set Rest flags' ≡ is_set Rest r.flags → Rule record { words = set s.words 0 m; homes = s.homes; views = set s.views id (record (seen (word_of (get_or s.words 0 0)) v) { changes = v.changes ++ c ∷ [] }) }
  turns_flag s r id v c flags' m leads at none_new event narrow lights stays rest_same = let h : History T = r.history in let k = r.each id v at in let l = k.leads leads in let cap : ℕ = r.cap in let xs : List T = items h.changes in
      let cs' : List (Change T) = h.changes ++ c ∷ [] in let h' : History T = record { changes = cs'; claimed = h.claimed; fetched = h.fetched; rested = h.rested } in let found : Word = word_of (get_or s.words 0 0) in let w : View T K = record (seen found v) { changes = v.changes ++ c ∷ [] } in
      let its : items cs' ≡ xs = no_more h.changes c none_new in let long : posted cs' ≡ length xs = ap length its in let counts = r.counts in let few = counts.few in let below = counts.claims in let wide = r.ring.wide in let ws' : List ℕ = set s.words 0 m in
      let later : Later h h' = record { more = c ∷ []; grown = refl; claims = omega arith; fetches = omega arith; shut = λ e. (stays e, long, refl); rests = λ e. e } in
      let counts' : Counts (fits key) h' flags' ws' = record {
        event = get_or-set_same s.words 0 m 0 (omega arith) ∙ (event ∙ ap (λ (z : ℕ). coded z h.claimed flags') (sym long));
        few = omega arith;
        claims = omega arith;
        narrow = narrow;
        lights = lights;
        opens = λ e. ⊎_elim (λ (z : is_on Closed h.changes ≡ true). absurd (false≢true (sym e ∙ stays z))) (λ z. counts.opens z) (cases_Bool (is_on Closed h.changes));
        drawn = counts.drawn;
        dark = λ e. counts.dark (sym rest_same ∙ e);
        fit = subst (λ (l : List T). All (fits key) l) (sym its) counts.fit;
      } in
      let ring' = ring_word (items cs') h.claimed r.posting cap s.words s.homes m (subst (λ (l : List T). Ring l h.claimed r.posting cap s.words s.homes) (sym its) r.ring) in
      let kept = λ (a : ℕ) (le : posted h.changes ≤ a) (shown : get_or s.words (1 + a % cap) 0 ≡ a). get_or-set_other s.words 0 (1 + a % cap) m 0 (λ e. omega arith) ∙ shown in
      let mine : Knows key h' r.posting cap ws' id w = record {
        keyed = k.keyed;
        leads = λ _. (l.0, ap (λ (cs : List (Change T)). cs ++ c ∷ []) l.1, l.2);
        marks = λ e. found_later (posted h.changes) (posted cs') cap s.words ws' v.marks (omega arith) kept (k.marks e);
        trail = sound_later h h' later (saw v.trail.met found) (sound_today fits key h v.trail.met found (today (fits key) h r.flags s.words counts) k.trail);
        back = all_sound_later h h' later v.back k.back;
        got = all_right_later h h' later v.got k.got;
        partless = k.partless;
        holding = λ a e. let o = k.holding a e in (o.0, get_or-set_other s.words 0 (1 + a % cap) m 0 (λ e. omega arith) ∙ o.1, o.2);
      } in
      moves fits key s r id v w h' flags' r.posting ws' s.homes at later counts' ring' mine (inl leads) kept (λ a b u _ _ _ shown _. get_or-set_other s.words 0 (1 + b % cap) m 0 (λ e. omega arith) ∙ shown) (λ _. refl) refl (omega arith) (λ e. inl e)

  shows_mine : (s : State (Option T) (View T K)) (r : Rule s) (id : ℕ) (v : View T K) → v.lead ≡ true → get_elem? s.views id ≡ some v → Shows v.changes (word_of (get_or s.words 0 0))
  shows_mine s r id v leads at = let t = today (fits key) r.history r.flags s.words r.counts in subst (λ (cs : List (Change T)). Shows cs (word_of (get_or s.words 0 0))) (sym ((r.each id v at).leads leads).1) t.shown

  on_stays : (b : Bool) (a : Bool) → a ≡ true → cond b true a ≡ true
  on_stays true a e = refl
  on_stays false a e = e

  pub sets : (slots id : ℕ) (me : M) (g : Flag) (b : ℕ) → me.0.lead ≡ true → g ≢ Rest → b ≡ bit_of g → Allows Rule slots id me 0 (λ n. bit_or n b) (sets_flag (step slots 0 b 0 none) me)
  sets slots id me g b leads ne is = subst (λ (z : ℕ). Allows Rule slots id me 0 (λ n. bit_or n z) (sets_flag (step slots 0 z 0 none) me)) (sym is) (λ s r deep at _. let v : View T K = me.0 in let cs : List (Change T) = r.history.changes in let counts = r.counts in
      let small = bit_small g in let flags' : ℕ = bit_or r.flags (bit_of g) in let m : ℕ = bit_or (get_or s.words 0 0) (bit_of g) in (
        record (seen (word_of (get_or s.words 0 0)) v) { changes = v.changes ++ Set g ∷ [] },
        keeps,
        tt,
        turns_flag s r id v (Set g) flags' m leads at refl (ap (λ (z : ℕ). bit_or z (bit_of g)) counts.event ∙ or_coded (posted cs) r.history.claimed r.flags (bit_of g) counts.narrow small.1) (or_narrow r.flags (bit_of g) counts.narrow small.1)
            (λ f nf. set_flag f g r.flags ∙ (ap (cond (is_same f g) true) (counts.lights f nf) ∙ sym (is_on-push f cs (Set g))))
            (λ e. is_on-push Closed cs (Set g) ∙ on_stays (is_same Closed g) (is_on Closed cs) e)
            (set_flag Rest g r.flags ∙ ap (λ (b : Bool). cond b true (is_set Rest r.flags)) (other_flag Rest g (λ e. ne (sym e)))),
        (ap (λ (f : Flag). let u : View T K = record (seen (word_of (get_or s.words 0 0)) v) { changes = v.changes ++ Set f ∷ [] } in u) (sym (flag_at-bit g)), refl, loads_today fits key s r id v at, shows_mine s r id v leads at),
      ))

  pub clears : (slots id : ℕ) (me : M) (g : Flag) (mask : ℕ) → me.0.lead ≡ true → g ≢ Rest → g ≢ Closed → mask ≡ 18446744073709551615 - bit_of g → Allows Rule slots id me 0 (λ n. bit_and n mask) (clears_flag (step slots 0 mask 0 none) me)
  clears slots id me g mask leads ne open_still is = subst (λ (z : ℕ). Allows Rule slots id me 0 (λ n. bit_and n z) (clears_flag (step slots 0 z 0 none) me)) (sym is) (λ s r deep at _. let v : View T K = me.0 in let cs : List (Change T) = r.history.changes in let counts = r.counts in
      let small = bit_small g in let small₁ = small.1 in let few = counts.few in let below = counts.claims in let flags' : ℕ = bit_and r.flags (255 - bit_of g) in let m : ℕ = bit_and (get_or s.words 0 0) (18446744073709551615 - bit_of g) in
      let back : 18446744073709551615 - (18446744073709551615 - bit_of g) ≡ bit_of g = omega arith in (
        record (seen (word_of (get_or s.words 0 0)) v) { changes = v.changes ++ Clear g ∷ [] },
        keeps,
        tt,
        turns_flag s r id v (Clear g) flags' m leads at refl (ap (λ (z : ℕ). bit_and z (18446744073709551615 - bit_of g)) counts.event ∙ and_coded (posted cs) r.history.claimed r.flags (bit_of g) few (omega arith) counts.narrow small.1) (and_narrow r.flags (255 - bit_of g) counts.narrow)
            (λ f nf. clear_flag f g r.flags ∙ (ap (cond (is_same f g) false) (counts.lights f nf) ∙ sym (is_on-push f cs (Clear g))))
            (λ e. is_on-push Closed cs (Clear g) ∙ (ap (λ (b : Bool). cond b false (is_on Closed cs)) (other_flag Closed g (λ z. open_still (sym z))) ∙ e))
            (clear_flag Rest g r.flags ∙ ap (λ (b : Bool). cond b false (is_set Rest r.flags)) (other_flag Rest g (λ e. ne (sym e)))),
        (ap (λ (f : Flag). let u : View T K = record (seen (word_of (get_or s.words 0 0)) v) { changes = v.changes ++ Clear f ∷ [] } in u) (sym (flag_at-bit g) ∙ ap flag_at (sym back)), refl, loads_today fits key s r id v at, shows_mine s r id v leads at),
      ))

  -- the same from before the item was put into the slot
  pub announces_from : (slots id : ℕ) (m m' : M) (place : ℕ) (x : T) → m' ≡ (m.0, (place, Some x) ∷ rest m.1) → m.1 ≡ (place, None) ∷ [] → place ≡ posted m.0.changes % slots → m.0.lead ≡ true → m.0.posting ≡ true
      → posted m.0.changes + 1 < 2 ^ 28 → is_on Closed m.0.changes ≡ false → fits key x → Allows Rule slots id m' 0 (λ n. (n + 68719476736) % 2 ^ 64) (announced (step slots 0 68719476736 0 none) m')
  announces_from slots id m m' place x is slot at_place leads posting few unshut fit = subst (λ (z : M). Allows Rule slots id z 0 (λ n. (n + 68719476736) % 2 ^ 64) (announced (step slots 0 68719476736 0 none) z)) (sym is)
      (announces slots id (m.0, (place, Some x) ∷ rest m.1) x leads posting ((λ i. (at_place i, Some x) ∷ rest (slot i))) few unshut fit)

module _ {T K : Type 0} where
  pub announced_from : (m m' m'' : Me (Option T) (View T K)) (place : ℕ) (x : T) → m' ≡ (m.0, (place, Some x) ∷ rest m.1) → m.1 ≡ (place, None) ∷ [] → announced (step 0 0 0 0 none) m' 0 m''
      → (m''.0 ≡ record m.0 { posting = false; changes = m.0.changes ++ Post x ∷ [] }) × (m''.1 ≡ [])
  announced_from m m' m'' place x is slot h = let z = h place x (ap (λ (q : Me (Option T) (View T K)). q.1) is ∙ ap (λ (q : List (ℕ × Option T)). (place, Some x) ∷ rest q) slot) in
      (z.0 ∙ ap (λ (q : Me (Option T) (View T K)). let u : View T K = record q.0 { posting = false; changes = q.0.changes ++ Post x ∷ [] } in u) is, z.1)

module _ {T : Type 0} where
  pub posted_set : (cs : List (Change T)) (f : Flag) → posted (cs ++ Set f ∷ []) ≡ posted cs
  posted_set cs f = ap length (no_more cs (Set f) refl)

  pub posted_clear : (cs : List (Change T)) (f : Flag) → posted (cs ++ Clear f ∷ []) ≡ posted cs
  posted_clear cs f = ap length (no_more cs (Clear f) refl)

  pub posted_post : (cs : List (Change T)) (x : T) → posted (cs ++ Post x ∷ []) ≡ posted cs + 1
  posted_post cs x = ap length (items-append cs (Post x ∷ [])) ∙ length-append (items cs) (x ∷ [])

module _ {T K : Type 0} where
  -- a Poster between two calls is one still after it changed a flag
  pub still_idle : (m m' : Me (Option T) (View T K)) (w : Word) (c : Change T) (next : ℕ) → items (c ∷ []) ≡ [] → m'.0 ≡ record (seen w m.0) { changes = m.0.changes ++ c ∷ [] } → m'.1 ≡ m.1
      → (m.1 ≡ []) × (m.0.lead ≡ true) × (m.0.posting ≡ false) × (next ≡ posted m.0.changes) × (next < 2 ^ 28) → (m'.1 ≡ []) × (m'.0.lead ≡ true) × (m'.0.posting ≡ false) × (next ≡ posted m'.0.changes) × (next < 2 ^ 28)
  still_idle m m' w c next none_new is same i = (same ∙ i.0, ap (λ (v : View T K). v.lead) is ∙ i.1, ap (λ (v : View T K). v.posting) is ∙ i.2, i.3 ∙ sym (ap (λ (v : View T K). posted v.changes) is ∙ ap length (no_more m.0.changes c none_new)), i.4)

  -- a Poster after it posted is between two calls again
  pub idle_again : (m m' m'' : Me (Option T) (View T K)) (next : ℕ) (x : T) → m'.0 ≡ record m.0 { posting = true; marks = m.0.marks ++ posted m.0.changes ∷ [] }
      → (m.1 ≡ []) × (m.0.lead ≡ true) × (m.0.posting ≡ false) × (next ≡ posted m.0.changes) × (next < 2 ^ 28) → m''.0 ≡ record m'.0 { posting = false; changes = m'.0.changes ++ Post x ∷ [] } → m''.1 ≡ [] → posted m.0.changes + 1 < 2 ^ 28
      → (m''.1 ≡ []) × (m''.0.lead ≡ true) × (m''.0.posting ≡ false) × (next + 1 ≡ posted m''.0.changes) × (next + 1 < 2 ^ 28)
  idle_again m m' m'' next x e i is bare few = let cs = ap (λ (v : View T K). v.changes) e in let i₃ = i.3 in (
    bare,
    ap (λ (v : View T K). v.lead) is ∙ (ap (λ (v : View T K). v.lead) e ∙ i.1),
    ap (λ (v : View T K). v.posting) is,
    ap (λ (k : ℕ). k + 1) i.3 ∙ sym (ap (λ (v : View T K). posted v.changes) is ∙ (posted_post m'.0.changes x ∙ ap (λ (k : ℕ). k + 1) (ap posted cs))),
    omega arith,
  )
