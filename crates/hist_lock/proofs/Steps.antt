-- Each step keeps the rule of the table.
use Rattle.std.proofs.Common.{◌≡◌, ◌≢◌, ℕ, ◌+◌, ◌*◌, ◌/◌, ◌%◌, ◌^◌, ◌<◌, ◌≤◌, cond, Bool, MatchBool, ◌==◌, count_by, List, [], ◌∷◌, ◌++◌, length, get_or, set, Option, Some, sym, refl, ap, ◌∙◌, subst, arith, eq-eqb, ne_eqb, add-zero}
use Rattle.std.proofs.lemmas.List.Elements.{All-nil, All-cons, All-head, All-append, All-same}
use Rattle.std.proofs.lemmas.List.Sums.{sum_by-cons}
use mathlib.Core.Option.{none, some}
use mathlib.Core.Option as maybe
use mathlib.Core.List.{IsPrefix}
use prog.Atomic.{either}
use lib.ListN.{get_elem?}
use Rattle.atomic_table.specs.Table.{State, Me, Act, step, stepped, carried_after, Valid, keeps, takes, gives, rest, Allows, Splits, Joins}
use Rattle.atomic_table.proofs.Lists.{exchanged}
use Rattle.hist_lock.specs.declared.table.Held.{Held}
use Rattle.hist_lock.specs.declared.table.Part.{Part}
use Rattle.hist_lock.specs.declared.table.View.{View}
use Rattle.hist_lock.specs.declared.table.Stage.TheVariants.{Idle, Inside}
use Rattle.hist_lock.specs.Histories.{Legal, made_by, longer, IsKept, GrowsBy}
use Rattle.hist_lock.specs.Views.{having, alone, up_to, with_one_more, newest, note_of, informed, gathered, spent}
use Rattle.hist_lock.specs.Rule.{padding, Owns}
use Rattle.hist_lock.specs.Plays.{tried, IsInside, gave, counted, heard}
use Rattle.hist_lock.proofs.Lists.{prefix_same, longer_is, made_by-none, made_by-begin, made_by-between, Legal-begin}
use Rattle.hist_lock.proofs.Keeps.{Rule, test_same, moves, stays, splits, has_lock, others_outside, others_absent, number-lt, below-more, knows_longer, joins}

module _ {O E S T : Type 0} (state : O → S) (tag : O → T) (by : E → ℕ) (steps : S → E → S → Type 0) (start : O) where
  abbrev R : State (Held O E) (View O E) → Type 0
  R = Rule state tag by steps start

  abbrev K : Type 0
  K = Held O E

  abbrev M : Type 0
  M = Me K (View O E)

  having_one : (n : ℕ) (v : View O E) (p : Part E) → v.parts ≡ p ∷ [] → ◌≡◌ {A = ℕ} (having n v) (cond (p.number == n) 1 0)
  having_one n v p e = ap (λ (ps : List (Part E)). count_by (λ (p : Part E). p.number == n) ps) e ∙ (sum_by-cons (λ (p : Part E). cond (p.number == n) 1 0) p [] ∙ add-zero (cond (p.number == n) 1 0))

  -- a view of one caller counts its number
  one_having : (v : View O E) (p : Part E) → v.parts ≡ p ∷ [] → 1 ≤ having p.number v
  one_having v p e = let a = having_one p.number v p e in let b = test_same p.number in omega arith

  pub tries : (slots id old : ℕ) (p : Part E) → old % 2 ≡ 0 → Allows R slots id (alone (Some start) Idle p, []) 0 (λ n. either (n == old) (old + 1) n) (tried state tag by steps (step slots 0 old (old + 1) none) (alone (Some start) Idle p, []))
  tries slots id old p even s r _ at bound = let v : View O E = alone (Some start) Idle p in let found : ℕ = get_or s.words 0 0 in
      let Then : Bool → M → Type 0 = λ b m. MatchBool b ((k : K) × IsInside state tag by steps start p k m) (m ≡ (v, [])) in
      let k = r.each id v at in let o = All-head (Owns by r.log r.callers) p [] k.owns in let is : found ≡ 2 * length r.log + r.taken = ap (λ (ws : List ℕ). get_or ws 0 0) r.words in
      exchanged found old (old + 1) (λ (n : ℕ). (w : View O E) × (a : Act K) × Valid s.homes [] a × R (stepped s 0 n id [] w a) × Then (found == old) (w, carried_after [] a))
      (λ hit. let free : r.taken ≡ 0 = omega (arith, r.one) in
      let home = r.home free in let h : K = home.0 in let l : List E = h.log.items in let size = ap length home.3 in let w : View O E = alone (Some start) Inside (record p { seen = l }) in (
        w,
        takes 0 h,
        ap (λ (hs : List (maybe.Option K)). get_elem? hs 0) home.1,
        moves state tag by steps start s r id v w r.log 1 (set s.words 0 (old + 1)) (set s.homes 0 none) at
            (ap (λ (ws : List ℕ). set ws 0 (old + 1)) r.words ∙ (let n : old + 1 ≡ 2 * length r.log + 1 = omega arith in ap (λ (n : ℕ). n ∷ padding) n)) (omega arith) (omega arith) r.legal r.entries refl (λ _. refl)
            record {
              same = k.same;
              hears = k.hears;
              current = home.3;
              heavy = omega arith;
              owns = All-cons (Owns by r.log r.callers) (record p { seen = l }) [] record { saw = prefix_same l r.log home.3; own = o.made ∙ ap (made_by by p.number) (sym home.3); made = o.made; first = o.first } (All-nil (Owns by r.log r.callers));
            }
            (λ j x _ e. r.each j x e) (λ z. absurd (omega arith)) (λ _. ap (λ (hs : List (maybe.Option K)). set hs 0 none) home.1),
        subst (λ (b : Bool). Then b (w, (0, h) ∷ [])) (sym (eq-eqb found old hit))
            (h, record { seat = refl; kept = home.2; few = omega arith; begins = subst (IsPrefix p.seen) (sym home.3) o.saw; made = o.made ∙ ap (made_by by p.number) (sym home.3) }),
      ))
      (λ miss. (v, keeps, tt, stays state tag by steps start s r 0 id v v at refl refl (λ _. refl) k, subst (λ (b : Bool). Then b (v, [])) (sym (ne_eqb found old miss)) refl))

  pub gives_back : (slots id new : ℕ) (p : Part E) (k : K) → new ≡ 2 * length k.log.items → GrowsBy by p.number p.seen k.log.items → IsKept state tag steps start k.object k.log.items
      → Allows R slots id (alone (Some start) Inside p, (0, k) ∷ []) 0 (λ _. new) (λ _. gave by (step slots 0 new 0 none) (alone (Some start) Inside p, (0, k) ∷ []) new)
  gives_back slots id new p k double grows kept s r _ at _ = let v : View O E = alone (Some start) Inside p in let log' : List E = k.log.items in let w : View O E = alone (Some start) Idle (up_to by log' p) in
      let h = r.each id v at in let o = All-head (Owns by r.log r.callers) p [] h.owns in let g : GrowsBy by p.number r.log log' = (grows.0, grows.1 ∙ ap (λ (xs : List E). xs ++ grows.0) h.current, grows.2) in
      let one = one_having v p refl in let lt = number-lt state tag by steps start s r id v at p.number one in let mine : r.taken ≡ 1 = has_lock state tag by steps start s r id v at refl in (
        w,
        gives,
        tt,
        moves state tag by steps start s r id v w log' 0 (set s.words 0 new) (set s.homes 0 (some k)) at
            (ap (λ (ws : List ℕ). set ws 0 new) r.words ∙ (let n : new ≡ 2 * length log' + 0 = omega arith in ap (λ (n : ℕ). n ∷ padding) n)) (omega arith) (omega arith) (state k.object, kept.0)
            (All-same (λ (e : E). by e < r.callers) log' (r.log ++ g.0) g.1 (All-append (λ (e : E). by e < r.callers) r.log g.0 r.entries (λ i d b. let is : by (get_or g.0 i d) ≡ p.number = g.2 i d b in omega arith)))
            refl (λ _. refl)
            record {
              same = h.same;
              hears = (log', refl);
              current = tt;
              heavy = omega arith;
              owns = All-cons (Owns by log' r.callers) (up_to by log' p) [] record { saw = prefix_same log' log' refl; own = refl; made = refl; first = o.first } (All-nil (Owns by log' r.callers));
            }
            (λ j x ne e. knows_longer state tag by steps start r.log log' r.callers p.number x g (others_outside state tag by steps start s r id v at refl j x ne e)
            (others_absent state tag by steps start s r id v at p.number one j x ne e) (r.each j x e))
            (λ _. (k, ap (λ (hs : List (maybe.Option K)). set hs 0 (some k)) (r.away mine), kept, refl)) (λ z. absurd (omega arith)),
        refl,
      )

  pub counts : (slots id : ℕ) (p : Part E) → Allows R slots id (alone (Some start) Idle p, []) 0 (λ n. n) (counted state by steps (step slots 0 0 0 none) (alone (Some start) Idle p, []))
  counts slots id p s r _ at _ = let v : View O E = alone (Some start) Idle p in let w : View O E = alone (Some start) Idle (record p { seen = r.log }) in let k = r.each id v at in let o = All-head (Owns by r.log r.callers) p [] k.owns in
      let found : ℕ = get_or s.words 0 0 in let is : found ≡ 2 * length r.log + r.taken = ap (λ (ws : List ℕ). get_or ws 0 0) r.words in let half : found / 2 ≡ length r.log = omega (arith, r.one) in (
        w,
        keeps,
        tt,
        stays state tag by steps start s r 0 id v w at refl refl (λ _. refl) record {
          same = k.same;
          hears = k.hears;
          current = tt;
          heavy = k.heavy;
          owns = All-cons (Owns by r.log r.callers) (record p { seen = r.log }) [] record { saw = prefix_same r.log r.log refl; own = o.made; made = o.made; first = o.first } (All-nil (Owns by r.log r.callers));
        },
        ((r.log, refl, half, record { begins = o.saw; legal = r.legal; made = o.made }), refl),
      )

  pub hears : (slots id : ℕ) (p : Part E) (told : List E) → let v : View O E = informed (alone (Some start) Idle p) (record spent { told = told }) in Allows R slots id (v, []) 0 (λ n. n) (heard state by steps (step slots 0 0 0 none) (v, []))
  hears slots id p told s r _ at _ = let v : View O E = informed (alone (Some start) Idle p) (record spent { told = told }) in let k = r.each id v at in let o = All-head (Owns by r.log r.callers) p [] k.owns in
      let both : List E = longer p.seen told in let is = longer_is p.seen told r.log o.saw k.hears in let w : View O E = alone (Some start) Idle (record p { seen = both }) in
      let own : p.mine ≡ made_by by p.number both = o.own ∙ made_by-between by p.number p.seen both r.log is.1 is.0 (sym o.own ∙ o.made) in
      let legal = Legal-begin steps (state start) r.legal.0 both is.0.0 (subst (λ (l : List E). Legal steps (state start) l r.legal.0) (sym is.0.1) r.legal.1) in (
        w,
        keeps,
        tt,
        stays state tag by steps start s r 0 id v w at refl refl (λ _. refl) record {
          same = k.same;
          hears = (r.log, refl);
          current = tt;
          heavy = k.heavy;
          owns = All-cons (Owns by r.log r.callers) (record p { seen = both }) [] record { saw = is.0; own = own; made = o.made; first = o.first } (All-nil (Owns by r.log r.callers));
        },
        ((refl, is.2, record { begins = is.1; legal = legal; made = own }), refl),
      )

  pub learns : (id other : ℕ) (p : Part E) (o : Option O) (told : List E) → let w : View O E = record { start = o; stage = Idle; told = told; parts = [] } in Joins R id (alone (Some start) Idle p) other w (informed (alone (Some start) Idle p) w) spent
  learns id other p o told s r at apart at' = let v : View O E = alone (Some start) Idle p in let w : View O E = record { start = o; stage = Idle; told = told; parts = [] } in
      joins state tag by steps start s r id other v w (informed v w) at apart at' refl refl refl (omega arith) (λ n. sym (add-zero (having n v)))
      (λ k h. record { same = k.same; hears = h.hears; current = tt; heavy = k.heavy; owns = k.owns })

  pub gathers : (id other : ℕ) (q : Part E) (o : Option O) (ps : List (Part E)) → let v : View O E = record { start = Some start; stage = Idle; told = []; parts = ps } in Joins R id v other (alone o Idle q) (gathered v (alone o Idle q)) spent
  gathers id other q o ps s r at apart at' = let v : View O E = record { start = Some start; stage = Idle; told = []; parts = ps } in let w : View O E = alone o Idle q in
      joins state tag by steps start s r id other v w (gathered v w) at apart at' refl refl refl (omega arith)
      (λ n. let a = having_one n w q refl in let b = sum_by-cons (λ (p : Part E). cond (p.number == n) 1 0) q ps in omega arith)
      (λ k h. record { same = λ _. refl; hears = k.hears; current = tt; heavy = omega arith; owns = All-cons (Owns by r.log r.callers) q ps (All-head (Owns by r.log r.callers) q [] h.owns) k.owns })

  pub makes : (id : ℕ) (p : Part E) → p.number ≡ 0 → p.splits + 1 < 2 ^ 32 → Splits R id (alone (Some start) Idle p) (with_one_more (alone (Some start) Idle p)) (newest (alone (Some start) Idle p))
  makes id p first fits s r at = let v : View O E = alone (Some start) Idle p in let left : View O E = with_one_more v in let right : View O E = newest v in let k = r.each id v at in let o = All-head (Owns by r.log r.callers) p [] k.owns in
      let n₀ : ℕ = r.callers in let all : p.splits + 1 ≡ n₀ = o.first first in
      let none : made_by by (p.splits + 1) r.log ≡ [] = made_by-none by (p.splits + 1) r.log (λ i d b e. let l = r.entries i d b in omega arith) in
      let none_seen : made_by by (p.splits + 1) p.seen ≡ [] = made_by-begin by (p.splits + 1) p.seen r.log o.saw none in
      let child : Part E = record { number = p.splits + 1; splits = 0; seen = p.seen; mine = [] } in
      splits state tag by steps start s r id v left right (n₀ + 1) at refl refl (λ i d b. let e = r.entries i d b in omega arith) (omega arith)
      (λ n. let a = having_one n v p refl in let b = having_one n left (record p { splits = p.splits + 1 }) refl in let c = having_one n right child refl in let m = below-more n n₀ in
      let d : ◌≡◌ {A = ℕ} (cond (p.splits + 1 == n) 1 0) (cond (n₀ == n) 1 0) = ap (λ (i : ℕ). let z : ℕ = cond (i == n) 1 0 in z) all in omega arith)
      record {
        same = k.same;
        hears = k.hears;
        current = tt;
        heavy = omega arith;
        owns = All-cons (Owns by r.log (n₀ + 1)) (record p { splits = p.splits + 1 }) [] record { saw = o.saw; own = o.own; made = o.made; first = λ _. omega arith } (All-nil (Owns by r.log (n₀ + 1)));
      }
      record {
        same = k.same;
        hears = (r.log, refl);
        current = tt;
        heavy = omega arith;
        owns = All-cons (Owns by r.log (n₀ + 1)) child [] record {
          saw = o.saw;
          own = sym none_seen;
          made = sym none;
          first = λ z. absurd (omega arith);
        } (All-nil (Owns by r.log (n₀ + 1)));
      }
      (λ j x ne e. let h = r.each j x e in record {
        same = h.same;
        hears = h.hears;
        current = h.current;
        heavy = h.heavy;
        owns = λ i d b. let q = h.owns i d b in let z = others_absent state tag by steps start s r id v at p.number (one_having v p refl) j x ne e i d b in record { saw = q.saw; own = q.own; made = q.made; first = λ w. absurd (z (w ∙ sym first)) };
      })

  pub tells : (id : ℕ) (p : Part E) → Splits R id (alone (Some start) Idle p) (alone (Some start) Idle p) (note_of (alone (Some start) Idle p))
  tells id p s r at = let v : View O E = alone (Some start) Idle p in let right : View O E = note_of v in let k = r.each id v at in let o = All-head (Owns by r.log r.callers) p [] k.owns in
      splits state tag by steps start s r id v v right r.callers at refl refl r.entries (omega arith) (λ n. omega arith) k
      record { same = λ z. absurd (omega arith); hears = o.saw; current = tt; heavy = omega arith; owns = All-nil (Owns by r.log r.callers) } (λ j x _ e. r.each j x e)

  -- The same, where the seat is known by an equation
  pub tries_at : (slots id old : ℕ) (p : Part E) (m : M) → m ≡ (alone (Some start) Idle p, []) → old % 2 ≡ 0 → Allows R slots id m 0 (λ n. either (n == old) (old + 1) n) (tried state tag by steps (step slots 0 old (old + 1) none) m)
  tries_at slots id old p m e even = subst (λ (x : M). Allows R slots id x 0 (λ n. either (n == old) (old + 1) n) (tried state tag by steps (step slots 0 old (old + 1) none) x)) (sym e) (tries slots id old p even)

  pub gives_at : (slots id new : ℕ) (p : Part E) (k : K) (m : M) → m ≡ (alone (Some start) Inside p, (0, k) ∷ []) → new ≡ 2 * length k.log.items → GrowsBy by p.number p.seen k.log.items
      → IsKept state tag steps start k.object k.log.items → Allows R slots id m 0 (λ _. new) (λ _. gave by (step slots 0 new 0 none) m new)
  gives_at slots id new p k m e double grows kept =
      subst (λ (x : M). Allows R slots id x 0 (λ _. new) (λ _. gave by (step slots 0 new 0 none) x new)) (sym e) (gives_back slots id new p k double grows kept)

  pub counts_at : (slots id : ℕ) (p : Part E) (m : M) → m ≡ (alone (Some start) Idle p, []) → Allows R slots id m 0 (λ n. n) (counted state by steps (step slots 0 0 0 none) m)
  counts_at slots id p m e = subst (λ (x : M). Allows R slots id x 0 (λ n. n) (counted state by steps (step slots 0 0 0 none) x)) (sym e) (counts slots id p)

  pub hears_at : (slots id : ℕ) (p : Part E) (told : List E) (m : M) → m ≡ (informed (alone (Some start) Idle p) (record spent { told = told }), []) → Allows R slots id m 0 (λ n. n) (heard state by steps (step slots 0 0 0 none) m)
  hears_at slots id p told m e = subst (λ (x : M). Allows R slots id x 0 (λ n. n) (heard state by steps (step slots 0 0 0 none) x)) (sym e) (hears slots id p told)

  pub makes_at : (id : ℕ) (p : Part E) (v : View O E) → v ≡ alone (Some start) Idle p → p.number ≡ 0 → p.splits + 1 < 2 ^ 32 → Splits R id v (with_one_more v) (newest v)
  makes_at id p v e first fits = subst (λ (x : View O E). Splits R id x (with_one_more x) (newest x)) (sym e) (makes id p first fits)

  pub tells_at : (id : ℕ) (p : Part E) (v : View O E) → v ≡ alone (Some start) Idle p → Splits R id v v (note_of v)
  tells_at id p v e = subst (λ (x : View O E). Splits R id x x (note_of x)) (sym e) (tells id p)

  pub learns_at : (id other : ℕ) (p : Part E) (o : Option O) (told : List E) (v w : View O E) → v ≡ alone (Some start) Idle p → w ≡ record { start = o; stage = Idle; told = told; parts = [] } → Joins R id v other w (informed v w) spent
  learns_at id other p o told v w e d = subst (λ (x : View O E × View O E). Joins R id x.0 other x.1 (informed x.0 x.1) spent) (λ i. (sym e i, sym d i)) (learns id other p o told)

  pub gathers_at : (id other : ℕ) (q : Part E) (o : Option O) (ps : List (Part E)) (v w : View O E) → v ≡ record { start = Some start; stage = Idle; told = []; parts = ps } → w ≡ alone o Idle q → Joins R id v other w (gathered v w) spent
  gathers_at id other q o ps v w e d = subst (λ (x : View O E × View O E). Joins R id x.0 other x.1 (gathered x.0 x.1) spent) (λ i. (sym e i, sym d i)) (gathers id other q o ps)

  -- what the plays say of such a seat
  module _ (old new found : ℕ) (p : Part E) (m m' : M) (e : m ≡ (alone (Some start) Idle p, [])) (d : tried state tag by steps (step 0 0 old new none) m found m') where
    tried_is : MatchBool (found == old) ((k : K) × IsInside state tag by steps start p k m') (m' ≡ (alone (Some start) Idle p, []))
    tried_is = subst (λ (x : M). tried state tag by steps (step 0 0 old new none) x found m') e d

    pub tried_hit : found ≡ old → (k : K) × IsInside state tag by steps start p k m'
    tried_hit h = subst (λ (b : Bool). MatchBool b ((k : K) × IsInside state tag by steps start p k m') (m' ≡ (alone (Some start) Idle p, []))) (eq-eqb found old h) tried_is

    pub tried_miss : found ≢ old → m' ≡ m
    tried_miss h = subst (λ (b : Bool). MatchBool b ((k : K) × IsInside state tag by steps start p k m') (m' ≡ (alone (Some start) Idle p, []))) (ne_eqb found old h) tried_is ∙ sym e

  -- the value in the slot, and the slot with another
  pub took : (m : M) (v : View O E) (x y : K) → m ≡ (v, (0, x) ∷ []) → m.1 ≡ (0, y) ∷ rest m.1 → x ≡ y
  took m v x y e d = ap (λ (z : M). (get_or z.1 0 (0, x)).1) (sym e) ∙ ap (λ (c : List (ℕ × K)). (get_or c 0 (0, x)).1) d

  pub has : (m : M) (v : View O E) (x : K) → m ≡ (v, (0, x) ∷ []) → m.1 ≡ (0, x) ∷ rest m.1
  has m v x e = ap (λ (z : M). z.1) e ∙ ap (λ (z : M). let w : List (ℕ × K) = (0, x) ∷ rest z.1 in w) (sym e)

  pub put : (m : M) (v : View O E) (x y : K) → m ≡ (v, (0, x) ∷ []) → ◌≡◌ {A = M} (m.0, (0, y) ∷ rest m.1) (v, (0, y) ∷ [])
  put m v x y e = ap (λ (z : M). let w : M = (z.0, (0, y) ∷ rest z.1) in w) e

  pub gave_is : (new : ℕ) (p : Part E) (k : K) (m m' : M) → m ≡ (alone (Some start) Inside p, (0, k) ∷ []) → gave by (step 0 0 new 0 none) m new m' → m' ≡ (alone (Some start) Idle (up_to by k.log.items p), [])
  gave_is new p k m m' e d = subst (λ (x : M). gave by (step 0 0 new 0 none) x new m') e d
