-- How seats are made, cut and joined.
use Rattle.std.proofs.Common.{◌≡◌, ◌≢◌, ◌⊎◌, ℕ, zero, suc, ◌+◌, ◌-◌, ◌*◌, ◌/◌, ◌%◌, ◌^◌, ◌<◌, ◌≤◌, Bool, true, false, cond, eqb, ltb, List, [], ◌∷◌, ◌++◌, length, get_or, set, sym, refl, ap, ◌∙◌, subst, arith, ⊎_elim, inl, inr, Option, Some, None, length-set, get_or-set_other, get_or-set_same, All, append-nil, length-append, bit_and, bit_or, eq-eqb, ne_eqb}
use mathlib.Core.Option.{none, some, some-ne-none}
use lib.ListN.{get_elem?}
use Rattle.std.proofs.lemmas.Bool.{false≢true}
use Rattle.std.proofs.lemmas.List.Elements.{All-weaker, All-push, All-append, All-nil, All-get_or}
use Rattle.atomic_table.specs.Table.{State, Me, Splits, Joins, opening}
use Rattle.atomic_table.proofs.Lists.{at_set, at_snoc}
use Rattle.lw_base.specs.declared.event_word.Flag.{Flag}
use Rattle.lw_base.specs.declared.event_word.Flag.TheVariants.{Closed}
use Rattle.lw_base.specs.EventWord.{is_set, bit_of}
use Rattle.lw_mbox.specs.Changes.{is_on}
use Rattle.lw_mbox.specs.declared.view.Got.{Got}
use Rattle.lw_mbox.specs.declared.view.Steps.{Steps}
use Rattle.lw_mbox.specs.declared.view.View.{View}
use Rattle.lw_mbox.specs.Trail.{Trail, start, met, both}
use Rattle.lw_mbox.specs.History.{History, Sound, IsRight, times}
use Rattle.lw_mbox.specs.Rule.{coded, code_of, word_of, Found, Ring, Homes, Lights, Counts, Knows, total, Ruled}
use Rattle.lw_mbox.specs.Plays.{fresh, leading, joined, gathered, spent}
use Rattle.lw_mbox.proofs.Rows.{total_set, total_push}
use Rattle.lw_mbox.proofs.Moves.{times-append}
use Rattle.std.proofs.Common.{replicate, sum_by}
use lib.ListN.{length-map, length-replicate}
use Rattle.atomic_table.proofs.Lists.{set_else}

all_vacant : {A : Type 0} (n i : ℕ) (a : A) → i < n → get_elem? (Rattle.std.proofs.Common.map some (replicate n a)) i ≡ some (some a)
all_vacant zero i a h = absurd (omega arith)
all_vacant (suc n) zero a h = refl
all_vacant (suc n) (suc i) a h = all_vacant n i a (omega arith)

sound_start : {T : Type 0} (h : History T) → Sound h start
sound_start h = record { stands = (0, refl); loads = tt; notes = tt }

sound_both : {T : Type 0} (h : History T) (t u : Trail) → Sound h t → Sound h u → Sound h (both t u)
sound_both h t u r s = let a = r.stands in let b = s.stands in record { stands = (Rattle.std.proofs.Common.max a.0 b.0, (a.0, (b.0, (a.1, b.1, refl)))); loads = (r.loads, s.loads); notes = (r.notes, s.notes) }

none_some : (a : ℕ) → None ≡ Some a → ⊥
none_some a e = cc

module _ {T K : Type 0} (fits : K → T → Type 0) (key : K) where
  abbrev Rule : State (Option T) (View T K) → Type 0
  Rule = Ruled fits key

  beyond : (u v : View T K) (j : ℕ) → get_elem? (u ∷ []) (suc j) ≡ some v → ⊥
  beyond u v j e = some-ne-none v (sym e)

  only : (u v : View T K) (j : ℕ) → get_elem? (u ∷ []) j ≡ some v → (j ≡ 0) × (u ≡ v)
  only u v zero e = (refl, mathlib.Core.Option.some-injective u v e)
  only u v (suc j) e = absurd (beyond u v j e)

  -- a mailbox at its making
  pub starts : (ws : List ℕ) (cap : ℕ) → 0 < cap → length ws ≡ cap + 1 → get_or ws 0 0 ≡ 0 → ((j : ℕ) → j < cap → get_or ws (1 + j) 0 ≡ j) → Rule (opening ws (replicate cap None) (leading key))
  starts ws cap places wide blank each = let h : History T = record { changes = []; claimed = 0; fetched = 0; rested = false } in record {
    history = h;
    flags = 0;
    posting = false;
    cap = cap;
    counts = record { event = blank; few = omega arith; claims = omega arith; narrow = omega arith; lights = λ f ne. dark f; opens = λ _. refl; drawn = omega arith; dark = λ e. absurd (false≢true e); fit = All-nil (fits key) };
    ring = record {
      wide = wide;
      deep = length-map (replicate cap None) (λ (x : Option T). some x) ∙ length-replicate cap None;
      places = places;
      claims = omega arith;
      marks = λ j l. subst (Rattle.lw_mbox.specs.Rule.Marked 0 cap j) (sym (each j l)) record { at_place = Rattle.std.proofs.Common.mod-eq_of_lt l; least = omega arith; most = omega arith };
      queue = λ k a b. absurd (omega arith);
      room = λ j l a b. all_vacant cap j None l;
      ready = λ e. absurd (false≢true e);
    };
    each = λ i v e. let o = only (leading key) v i e in subst (λ (x : ℕ × View T K). Knows key h false cap ws x.0 x.1) (λ c. (sym o.0 c, o.1 c)) record {
      keyed = λ k e. some_key key k e;
      leads = λ _. (refl, refl, refl);
      marks = λ _. All-nil (Found 0 cap ws);
      trail = sound_start h;
      back = All-nil (λ (s : Steps). Sound h s.met);
      got = All-nil (IsRight h);
      partless = λ z. absurd (omega arith);
      holding = λ m e. absurd (none_some m e);
    };
    once = λ n. sym (ap (λ (b : Bool). cond b 1 0) (Rattle.std.proofs.Common.le-ltb n 0 (omega arith)));
    whole = refl;
    rests = λ e. absurd (false≢true e);
  }
    where
      dark : (f : Flag) → is_set f 0 ≡ false
      dark f = ne_eqb (0 / 2 ^ Rattle.lw_base.specs.EventWord.place_of f % 2) 1 (λ e. let z = Rattle.std.proofs.lemmas.Nat.Bits.bit_at-zero (Rattle.lw_base.specs.EventWord.place_of f) in omega arith)

      some_key : (a k : K) → Some a ≡ Some k → k ≡ a
      some_key a k e = sym (ap (λ o. Rattle.std.proofs.Common.unwrap_or o a) e)

  -- a seat's view is cut in two, and nothing is lost
  pub divides : (s : State (Option T) (View T K)) (r : Rule s) (id : ℕ) (v l u : View T K) → get_elem? s.views id ≡ some v → Knows key r.history r.posting r.cap s.words id l
      → ((i : ℕ) → Knows key r.history r.posting r.cap s.words i u) → ((n : ℕ) → times n l.got + times n u.got ≡ times n v.got) → l.parts + u.parts ≡ v.parts → v.settings ≤ l.settings + u.settings
      → Rule record { words = s.words; homes = s.homes; views = set s.views id l ++ u ∷ [] }
  divides s r id v l u at left right got parts more = let vs : List (View T K) = set s.views id l in record {
    history = r.history;
    flags = r.flags;
    posting = r.posting;
    cap = r.cap;
    counts = r.counts;
    ring = r.ring;
    each = λ j x e. ⊎_elim (λ (a : get_elem? vs j ≡ some x). ⊎_elim (λ (t : (j ≡ id) × (l ≡ x)). subst (λ (z : ℕ × View T K). Knows key r.history r.posting r.cap s.words z.0 z.1) (λ i. (sym t.0 i, t.1 i)) left)
        (λ (t : (j ≢ id) × (get_elem? s.views j ≡ some x)). r.each j x t.1) (at_set s.views id j l x a)) (λ (q : u ≡ x). subst (Knows key r.history r.posting r.cap s.words j) q (right j)) (at_snoc vs u x j e);
    once = λ n. let o = r.once n in let a = total_set (λ z. times n z.got) s.views id v l at in let b = total_push (λ z. times n z.got) vs u in let g = got n in omega arith;
    whole = let o = r.whole in let a = total_set (λ z. z.parts) s.views id v l at in let b = total_push (λ z. z.parts) vs u in omega arith;
    rests = λ e. let o = r.rests e in let a = total_set (λ z. z.settings) s.views id v l at in let b = total_push (λ z. z.settings) vs u in omega arith;
  }

  fresh_known : (h : History T) (p : Bool) (cap : ℕ) (ws : List ℕ) (i : ℕ) (k : Option K) (parts : ℕ) (t : Trail) → ((z : K) → k ≡ Some z → z ≡ key) → Sound h t → Knows key h p cap ws i (fresh k parts t)
  fresh_known h p cap ws i k parts t keyed sound = record {
    keyed = keyed;
    leads = λ e. absurd (false≢true e);
    marks = λ e. absurd (false≢true e);
    trail = sound;
    back = All-nil (λ (s : Steps). Sound h s.met);
    got = All-nil (IsRight h);
    partless = λ z. (refl, refl);
    holding = λ m e. absurd (none_some m e);
  }

  pub hires : (id : ℕ) (v : View T K) → v.got ≡ [] → v.settings ≡ 0 → Splits Rule id v (record v { parts = 0 }) (fresh v.key v.parts start)
  hires id v none_got none_set s r at = let k = r.each id v at in divides s r id v (record v { parts = 0 }) (fresh v.key v.parts start) at
      record { keyed = k.keyed; leads = k.leads; marks = k.marks; trail = k.trail; back = k.back; got = k.got; partless = λ _. (none_got, none_set); holding = k.holding }
      (λ i. fresh_known r.history r.posting r.cap s.words i v.key v.parts start k.keyed (sound_start r.history)) (λ n. omega arith) (omega arith) (omega arith)

  pub deals : (id : ℕ) (v : View T K) → 0 < v.asked → v.asked < v.parts → Splits Rule id v (record v { parts = v.parts - v.asked; asked = 0 }) (fresh v.key v.asked v.trail.met)
  deals id v some_asked fewer s r at = let k = r.each id v at in divides s r id v (record v { parts = v.parts - v.asked; asked = 0 }) (fresh v.key v.asked v.trail.met) at
      record { keyed = k.keyed; leads = k.leads; marks = k.marks; trail = k.trail; back = k.back; got = k.got; partless = λ z. absurd (omega arith); holding = k.holding }
      (λ i. fresh_known r.history r.posting r.cap s.words i v.key v.asked v.trail.met k.keyed k.trail) (λ n. omega arith) (omega arith) (omega arith)

  pub jots : (id : ℕ) (v : View T K) → v.lead ≡ true → Splits Rule id v v (fresh v.key 0 (met start (length v.changes) (is_on Closed v.changes)))
  jots id v leads s r at = let k = r.each id v at in let l = k.leads leads in let same = ap length l.1 in let n : ℕ = length v.changes in let b : Bool = is_on Closed v.changes in divides s r id v v (fresh v.key 0 (met start n b)) at k
      (λ i. fresh_known r.history r.posting r.cap s.words i v.key 0 (met start n b) k.keyed record { stands = (n, (0, (refl, omega arith, omega arith))); loads = tt; notes = (tt, λ e. sym (ap (is_on Closed) l.1) ∙ e) }) (λ m. omega arith) (omega arith) (omega arith)

  -- a seat takes in another, which keeps nothing
  pub unites : (s : State (Option T) (View T K)) (r : Rule s) (id : ℕ) (v : View T K) (other : ℕ) (w one : View T K) → get_elem? s.views id ≡ some v → ¬ (other ≡ id) → get_elem? (set s.views id one) other ≡ some w
      → (Knows key r.history r.posting r.cap s.words other w → Knows key r.history r.posting r.cap s.words id one) → ((n : ℕ) → times n one.got ≡ times n v.got + times n w.got) → one.parts ≡ v.parts + w.parts → one.settings ≡ v.settings + w.settings
      → Rule record { words = s.words; homes = s.homes; views = set (set s.views id one) other spent }
  unites s r id v other w one at apart there known got parts more = let vs : List (View T K) = set s.views id one in let there' : get_elem? s.views other ≡ some w = sym (set_else s.views id other one apart) ∙ there in let kb = known (r.each other w there') in record {
    history = r.history;
    flags = r.flags;
    posting = r.posting;
    cap = r.cap;
    counts = r.counts;
    ring = r.ring;
    each = λ j x e. ⊎_elim (λ (t : (j ≡ other) × (spent ≡ x)). subst (Knows key r.history r.posting r.cap s.words j) t.1 (fresh_known r.history r.posting r.cap s.words j None 0 start (λ z e. absurd (no_key z e)) (sound_start r.history)))
        (λ (a : (j ≢ other) × (get_elem? vs j ≡ some x)). ⊎_elim (λ (t : (j ≡ id) × (one ≡ x)). subst (λ (z : ℕ × View T K). Knows key r.history r.posting r.cap s.words z.0 z.1) (λ i. (sym t.0 i, t.1 i)) kb)
        (λ (t : (j ≢ id) × (get_elem? s.views j ≡ some x)). r.each j x t.1) (at_set s.views id j one x a.1)) (at_set vs other j spent x e);
    once = λ n. let o = r.once n in let a = total_set (λ z. times n z.got) s.views id v one at in let b = total_set (λ z. times n z.got) vs other w spent there in let g = got n in omega arith;
    whole = let o = r.whole in let a = total_set (λ z. z.parts) s.views id v one at in let b = total_set (λ z. z.parts) vs other w spent there in omega arith;
    rests = λ e. let o = r.rests e in let a = total_set (λ z. z.settings) s.views id v one at in let b = total_set (λ z. z.settings) vs other w spent there in omega arith;
  }
    where
      no_key : (z : K) → None ≡ Some z → ⊥
      no_key z e = cc

  all_zero : (a b : ℕ) → a + b ≡ 0 → (a ≡ 0) × (b ≡ 0)
  all_zero a b e = (omega arith, omega arith)

  none_twice : (p q : ℕ) (gs hs : List (Got T)) → (p ≡ 0 → gs ≡ []) → (q ≡ 0 → hs ≡ []) → p + q ≡ 0 → gs ++ hs ≡ []
  none_twice p q gs hs a b e = let z = all_zero p q e in (λ i. a z.0 i ++ b z.1 i)

  pub joins : (id : ℕ) (v : View T K) (other : ℕ) (w : View T K) → v.lead ≡ false → Joins Rule id v other w (joined v w) spent
  joins id v other w plain s r at apart there = let k = r.each id v at in let h : History T = r.history in
      unites s r id v other w (joined v w) at apart there (λ o. record {
        keyed = k.keyed;
        leads = λ e. absurd (false≢true (sym plain ∙ e));
        marks = λ e. absurd (false≢true (sym plain ∙ e));
        trail = sound_both h v.trail.met w.trail.met k.trail o.trail;
        back = All-append (λ (t : Steps). Sound h t.met) v.back w.back k.back o.back;
        got = All-append (IsRight h) v.got w.got k.got o.got;
        partless = λ z. let y = all_zero v.parts w.parts z in let y₀ = (k.partless y.0).1 in let y₁ = (o.partless y.1).1 in (none_twice v.parts w.parts v.got w.got (λ q. (k.partless q).0) (λ q. (o.partless q).0) z, omega arith);
        holding = λ m e. let q = k.holding m e in let q₂ = q.2 in let t = times-append m v.got w.got in (q.0, q.1, omega arith);
      }) (λ n. times-append n v.got w.got) refl (omega arith)

  pub gathers : (id : ℕ) (v : View T K) (other : ℕ) (w : View T K) → Joins Rule id v other w (gathered v w) spent
  gathers id v other w s r at apart there = let k = r.each id v at in let h : History T = r.history in
      unites s r id v other w (gathered v w) at apart there (λ o. record {
        keyed = k.keyed;
        leads = k.leads;
        marks = k.marks;
        trail = sound_both h v.trail.met w.trail.met k.trail o.trail;
        back = All-append (λ (t : Steps). Sound h t.met) v.back (w.trail ∷ w.back) k.back (Rattle.std.proofs.lemmas.List.Elements.All-cons (λ (t : Steps). Sound h t.met) w.trail w.back o.trail o.back);
        got = All-append (IsRight h) v.got w.got k.got o.got;
        partless = λ z. let y = all_zero v.parts w.parts z in let y₀ = (k.partless y.0).1 in let y₁ = (o.partless y.1).1 in (none_twice v.parts w.parts v.got w.got (λ q. (k.partless q).0) (λ q. (o.partless q).0) z, omega arith);
        holding = λ m e. let q = k.holding m e in let q₂ = q.2 in let t = times-append m v.got w.got in (q.0, q.1, omega arith);
      }) (λ n. times-append n v.got w.got) refl (omega arith)

  pub hires_first : (id : ℕ) (m : Me (Option T) (View T K)) (k : K) → m ≡ (leading k, []) → Splits Rule id m.0 (record m.0 { parts = 0 }) (fresh m.0.key m.0.parts start)
  hires_first id m k e = hires id m.0 (ap (λ (z : Me (Option T) (View T K)). z.0.got) e) (ap (λ (z : Me (Option T) (View T K)). z.0.settings) e)

  pub once_joined : (m m' : Me (Option T) (View T K)) (u : View T K) (gs hs : List (Got T)) → m' ≡ (joined m.0 u, m.1) → m.0.got ≡ gs → u.got ≡ hs → ((t : ℕ) → times t m'.0.got ≤ 1) → (t : ℕ) → times t (gs ++ hs) ≤ 1
  once_joined m m' u gs hs is a b h t = subst (λ (l : List (Got T)). times t l ≤ 1) (ap (λ (z : Me (Option T) (View T K)). z.0.got) is ∙ (λ i. a i ++ b i)) (h t)
