-- Each step keeps the rule of the table.
use Rattle.std.proofs.Common.{◌≡◌, ◌≢◌, ℕ, zero, suc, ◌<◌, cond, true, false, List, [], ◌∷◌, ◌++◌, All, length, replicate, get_or, set, refl, sym, ap, ◌∙◌, subst, ⊎_elim, arith, Some, length-set, get_or-set_other, get_or-set_same, eq-eqb, ne_eqb}
use Rattle.std.proofs.lemmas.List.{get_or-replicate, set-get_or}
use Rattle.std.proofs.lemmas.List.Elements.{All-nil, All-push, All-weaker}
use mathlib.Core.Logic.{dite}
use mathlib.Core.Option.{none, some, some-ne-none}
use native.Mathlib.Decide.{ℕ_discrete}
use lib.ListN.{get_elem?, length-replicate}
use Rattle.atomic_table.specs.Table.{State, Me, step, keeps, Allows, Splits, Joins, opening}
use Rattle.atomic_table.proofs.Lists.{at_set, at_snoc}
use Rattle.lw_board.specs.Places.{Store, a_store, value_after, Trail, start, load, note, both, HasPlace}
use Rattle.atomic_table.specs.Seated.{TableId}
use Rattle.atomic_table.specs.declared.shared.Seat.{Seat}
use Rattle.lw_board.specs.Tokens.{Named, Origin, origin, Written}
use Rattle.lw_board.specs.declared.sight.Sight.{Sight}
use Rattle.lw_board.specs.Law.{sight, stores_of, trail_of, newcomer, looker, joined, gathered, spent, Knows, Ruled, stored, looked, found, origin_of, written}
use Rattle.lw_board.proofs.Trails.{value_after-push, has_place_more, load_has_place, note_has_place, both_has_place}

never : false ≡ true → ⊥
never e = cc

module _ {F : Type 0} (may : F → ℕ → ℕ → Type 0) (about : F) where
  abbrev V : Type 0
  V = Sight F

  abbrev Rule : State ℕ V → Type 0
  Rule = Ruled may about

  -- a seat's view changes, and what holds of each seat still holds
  seats_stay : (K : ℕ → V → Type 0) (vs : List V) (me : ℕ) (w : V) → K me w → ((j : ℕ) (d : V) → j ≢ me → get_elem? vs j ≡ some d → K j d) → (j : ℕ) (d : V) → get_elem? (set vs me w) j ≡ some d → K j d
  seats_stay K vs me w mine others j d e = ⊎_elim (λ (t : (j ≡ me) × (w ≡ d)). subst (λ (x : ℕ × V). K x.0 x.1) (λ i. (sym t.0 i, t.1 i)) mine)
      (λ (t : (j ≢ me) × (get_elem? vs j ≡ some d)). others j d t.0 t.1) (at_set vs me j w d e)

  -- the views change, and no word does
  moved : (s : State ℕ V) (r : Rule s) (vs : List V) → ((j : ℕ) (d : V) → get_elem? vs j ≡ some d → Knows about r.width r.stores j d) → Rule record { words = s.words; homes = s.homes; views = vs }
  moved s r vs each = record { width = r.width; stores = r.stores; wide = r.wide; shown = r.shown; allowed = r.allowed; each = each }

  -- the same at a load of the word i
  loads : (s : State ℕ V) (r : Rule s) (i id : ℕ) (w : V) → Knows about r.width r.stores id w → Rule record { words = set s.words i (get_or s.words i 0); homes = s.homes; views = set s.views id w }
  loads s r i id w mine = subst (λ (ws : List ℕ). Rule record { words = ws; homes = s.homes; views = set s.views id w }) (sym (set-get_or s.words i 0))
      (moved s r (set s.views id w) (seats_stay (Knows about r.width r.stores) s.views id w mine (λ j d _ e. r.each j d e)))

  knows_looker : (width : ℕ) (ss : List Store) (j k : ℕ) (v : V) (t : Trail) → Knows about width ss j v → HasPlace ss t → Knows about width ss k (looker v t)
  knows_looker width ss j k v t known place = record { told = known.told; leads = λ e. absurd (never e); stands = place; backs = All-nil (HasPlace ss) }

  knows_spent : (width : ℕ) (ss : List Store) (j : ℕ) → Knows about width ss j spent
  knows_spent width ss j = record { told = λ a e. absurd (let f = e in cc); leads = λ e. absurd (never e); stands = (0, refl); backs = All-nil (HasPlace ss) }

  pub starts : (ws : List ℕ) (words : ℕ) → ws ≡ replicate words 0 → ((i : ℕ) → suc i < words → may about i 0) → Rule (opening ws [] (newcomer words about))
  starts ws words is zeros = let zero_at : (i : ℕ) → i < words → get_or ws i 0 ≡ 0 = λ i l. subst (λ (l : List ℕ). get_or l i 0 ≡ 0) (sym is) (get_or-replicate words i 0 0 l) in record {
    width = words;
    stores = [];
    wide = ap length is ∙ length-replicate words 0;
    shown = zero_at;
    allowed = λ i l. subst (may about i) (sym (zero_at i (omega arith))) (zeros i l);
    each = λ j d e. ⊎_elim (λ (t : (j ≡ 0) × (newcomer words about ≡ d)). subst (λ (x : ℕ × V). Knows about words [] x.0 x.1) (λ i. (sym t.0 i, t.1 i)) first)
        (λ (t : (j ≢ 0) × (get_elem? (newcomer words about ∷ []) j ≡ some d)). absurd (beyond j d t.0 t.1)) (at_set (newcomer words about ∷ []) 0 j (newcomer words about) d e);
  }
    where
      first : Knows about words [] 0 (newcomer words about)
      first = record { told = λ a e. (let f = e in cc, refl); leads = λ _. (refl, refl); stands = (0, refl); backs = All-nil (HasPlace []) }

      beyond : (j : ℕ) (d : V) → j ≢ 0 → get_elem? (newcomer words about ∷ []) j ≡ some d → ⊥
      beyond zero d other e = other refl
      beyond (suc j) d other e = some-ne-none d (sym e)

  pub stores : (slots id : ℕ) (me : Me ℕ V) (i x : ℕ) → me.0.about ≡ Some about → me.0.past.history.leads ≡ true → suc i < me.0.past.history.words → may about i x
      → Allows Rule slots id me i (λ _. x) (λ _. stored (step slots i x 0 none) me x)
  stores slots id me i x own leads inside allowed s r deep at _ = let known = r.each id me.0 at in let lead = known.leads leads in let told = known.told about own in let more : List Store = a_store i x ∷ [] in let ss : List Store = r.stores ++ more in
      let within : i < length s.words = let wide = r.wide in let width = told.1 in omega arith in let w : V = sight me.0.about (record me.0.past.history { stores = stores_of me.0 ++ more }) in (
        w,
        keeps,
        tt,
        record {
          width = r.width;
          stores = ss;
          wide = length-set s.words i x ∙ r.wide;
          shown = λ j l. dite (ℕ_discrete j i)
              (λ same. subst (λ (k : ℕ). get_or (set s.words i x) k 0 ≡ value_after ss k) (sym same)
              (get_or-set_same s.words i x 0 within ∙ sym (value_after-push r.stores i x i ∙ ap (λ b. cond b x (value_after r.stores i)) (eq-eqb i i refl))))
              (λ other. get_or-set_other s.words i j x 0 other ∙ (r.shown j l ∙ sym (value_after-push r.stores i x j ∙ ap (λ b. cond b x (value_after r.stores j)) (ne_eqb i j (λ e. other (sym e))))));
          allowed = λ j l. dite (ℕ_discrete j i)
              (λ same. subst (λ (k : ℕ). may about k (get_or (set s.words i x) k 0)) (sym same) (subst (may about i) (sym (get_or-set_same s.words i x 0 within)) allowed))
              (λ other. subst (may about j) (sym (get_or-set_other s.words i j x 0 other)) (r.allowed j l));
          each = seats_stay (Knows about r.width ss) s.views id w
              record {
                told = known.told;
                leads = λ _. (lead.0, ap (λ l. l ++ more) lead.1);
                stands = has_place_more r.stores more (trail_of me.0) known.stands;
                backs = All-weaker (HasPlace r.stores) (HasPlace ss) (has_place_more r.stores more) me.0.past.history.back known.backs;
              }
              (λ j d other e. let there = r.each j d e in record {
                told = there.told;
                leads = λ h. absurd (other ((there.leads h).0 ∙ sym lead.0));
                stands = has_place_more r.stores more (trail_of d) there.stands;
                backs = All-weaker (HasPlace r.stores) (HasPlace ss) (has_place_more r.stores more) d.past.history.back there.backs;
              });
        },
        refl,
      )

  pub looks : (slots id : ℕ) (me : Me ℕ V) (i : ℕ) → me.0.about ≡ Some about → suc i < me.0.past.history.words → Allows Rule slots id me i (λ n. n) (looked may (step slots i 0 0 none) me)
  looks slots id me i own inside s r deep at _ = let known = r.each id me.0 at in let width = (known.told about own).1 in let n : ℕ = get_or s.words i 0 in let t : Trail = load (trail_of me.0) i n in
      let place : HasPlace r.stores t = load_has_place r.stores (trail_of me.0) i n known.stands (sym (r.shown i (omega arith))) in (
        looker me.0 t,
        keeps,
        tt,
        loads s r i id (looker me.0 t) (knows_looker r.width r.stores id id me.0 t known place),
        (refl, (λ a is _. subst (λ (b : F). may b i n) (sym (known.told a is).0) (r.allowed i (omega arith))), (r.stores, place)),
      )

  pub finds : (slots id : ℕ) (me : Me ℕ V) (i : ℕ) → me.0.past.history.leads ≡ true → Allows Rule slots id me i (λ n. n) (found (step slots i 0 0 none) me)
  finds slots id me i leads s r deep at _ = let known = r.each id me.0 at in (
    me.0,
    keeps,
    tt,
    loads s r i id me.0 known,
    (refl, subst (λ (ss : List Store). All (HasPlace ss) me.0.past.history.back) (sym (known.leads leads).1) known.backs),
  )

  splits : (s : State ℕ V) (r : Rule s) (id : ℕ) (v w : V) → get_elem? s.views id ≡ some v → ((k : ℕ) → Knows about r.width r.stores k w) → Rule record { words = s.words; homes = s.homes; views = set s.views id v ++ w ∷ [] }
  splits s r id v w at new = moved s r (set s.views id v ++ w ∷ []) (λ j d e. ⊎_elim (seats_stay (Knows about r.width r.stores) s.views id v (r.each id v at) (λ k u _ f. r.each k u f) j d)
      (λ (t : w ≡ d). subst (Knows about r.width r.stores j) t (new j)) (at_snoc (set s.views id v) w d j e))

  pub shares : (id : ℕ) (v : V) → Splits Rule id v v (looker v (trail_of v))
  shares id v s r at = let known = r.each id v at in splits s r id v (looker v (trail_of v)) at (λ k. knows_looker r.width r.stores id k v (trail_of v) known known.stands)

  pub notes : (id : ℕ) (v : V) → v.past.history.leads ≡ true → Splits Rule id v v (looker v (note start (stores_of v)))
  notes id v leads s r at = let known = r.each id v at in let t : Trail = note start (stores_of v) in
      splits s r id v (looker v t) at (λ k. knows_looker r.width r.stores id k v t known (subst (λ (ss : List Store). HasPlace r.stores (note start ss)) (sym (known.leads leads).1) (note_has_place r.stores)))

  unites : (s : State ℕ V) (r : Rule s) (id other : ℕ) (v w b : V) → get_elem? s.views id ≡ some v → other ≢ id → get_elem? (set s.views id b) other ≡ some w
      → (Knows about r.width r.stores id v → Knows about r.width r.stores other w → Knows about r.width r.stores id b)
      → Rule record { words = s.words; homes = s.homes; views = set (set s.views id b) other spent }
  unites s r id other v w b at apart there joins = let K = Knows about r.width r.stores in let mine = r.each id v at in
      let theirs : K other w = ⊎_elim (λ (t : (other ≡ id) × (b ≡ w)). absurd (apart t.0)) (λ (t : (other ≢ id) × (get_elem? s.views other ≡ some w)). r.each other w t.1) (at_set s.views id other b w there) in
      moved s r (set (set s.views id b) other spent) (seats_stay K (set s.views id b) other spent (knows_spent r.width r.stores other) (λ j d _ e. seats_stay K s.views id b (joins mine theirs) (λ k u _ f. r.each k u f) j d e))

  pub joins : (id other : ℕ) (v w : V) → Joins Rule id v other w (joined v w) spent
  joins id other v w s r at apart there = unites s r id other v w (joined v w) at apart there
      (λ a b. knows_looker r.width r.stores id id v (both (trail_of v) (trail_of w)) a (both_has_place r.stores (trail_of v) (trail_of w) a.stands b.stands))

  pub gathers : (id other : ℕ) (v w : V) → Joins Rule id v other w (gathered v w) spent
  gathers id other v w s r at apart there = unites s r id other v w (gathered v w) at apart there
      (λ a b. record { told = a.told; leads = a.leads; stands = a.stands; backs = All-push (HasPlace r.stores) v.past.history.back (trail_of w) a.backs b.stands })

-- a writer's seat is of the board that it is asked about
pub of_board : {F : Type 0} (s : Seat ℕ (Sight F)) (w : Written F) (b : Named F) (z : TableId) (n : ℕ) (a : F) → written s ≡ w → w.board ≡ origin b → ◌≡◌ {A = Named F} (record { id = z; words = n; about = a }) b
    → (s.table_id ≡ z) × (s.me.0.about ≡ Some a) × (b.words ≡ n) × (b.about ≡ a)
of_board s w b z n a is own board = let same : origin_of s ≡ record { id = z; about = Some a } = ap (λ (x : Written _). x.board) is ∙ (own ∙ ap origin (sym board)) in
    (ap (λ (o : Origin _). o.id) same, ap (λ (o : Origin _). o.about) same, ap (λ (x : Named _). x.words) (sym board), ap (λ (x : Named _). x.about) (sym board))

-- a join leaves the writer the writer
pub leads_after : {F : Type 0} (m n : Me ℕ (Sight F)) → n ≡ m → m.0.past.history.leads ≡ true → n.0.past.history.leads ≡ true
leads_after m n same = subst (λ (k : Me ℕ (Sight _)). k.0.past.history.leads ≡ true) (sym same)

-- what the last load of a gather found, of the writer's stores
pub places_found : {F : Type 0} (m m' : Me ℕ (Sight F)) → m' ≡ m → All (HasPlace (stores_of m.0)) m.0.past.history.back → All (HasPlace (stores_of m'.0)) m'.0.past.history.back
places_found m m' same = subst (λ (n : Me ℕ (Sight _)). All (HasPlace (stores_of n.0)) n.0.past.history.back) (sym same)
