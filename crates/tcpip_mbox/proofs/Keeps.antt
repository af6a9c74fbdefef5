-- What each step of one pass leaves of the rule.
use Rattle.std.proofs.Common.{◌≡◌, ◌≢◌, ◌⊎◌, ℕ, ◌+◌, ◌≤◌, eqb, cond, All, sum_by, Bool, true, List, [], ◌∷◌, ◌++◌, length, set, sym, refl, ap, ◌∙◌, subst, ⊎_elim, arith, append_assoc, Some, None, eq-eqb, zero, suc}
use Rattle.std.proofs.lemmas.Bool.Decides.{nat_tests}
use Rattle.std.proofs.lemmas.List.Elements.{All-weaker}
use mathlib.Core.Option.{some, some-injective, some-ne-none}
use mathlib.Core.Logic.{dite}
use native.Mathlib.Decide.{ℕ_discrete}
use lib.ListN.{get_elem?}
use Rattle.crossbeam_queue.proofs.Lists.{at_set, at_snoc, set_else}
use Rattle.tcpip_mbox.specs.declared.view.Letter.{Letter}
use Rattle.tcpip_mbox.specs.declared.view.Returned.{Returned}
use Rattle.tcpip_mbox.specs.declared.view.View.{View}
use Rattle.tcpip_mbox.specs.Letters.{sent_by, Fitting, returns, AllOf}
use Rattle.tcpip_mbox.specs.Views.{firstborn}
use Rattle.tcpip_mbox.specs.Rule.{up_to, getters_in, putters_in, Sends, Knows, Kept, Ruled}
use Rattle.tcpip_mbox.proofs.Counts.{sum-set, sum-snoc, at_most_sum, two_at_most_sum}
use Rattle.tcpip_mbox.proofs.Letters.{prefix_more, prefix_length, sent_by-else, sent_by-prefix, none_back, AllOf-else}

pub up_to-le : (most n : ℕ) → up_to most n ≤ 1
up_to-le most n = grind (arith, nat_tests)

module _ {M : Type 0} where
  -- what was put in by those that were taken back, as a message of another joins the others
  pub backs_pushed : (given items : List (Letter M)) (x : Letter M) (bs : List (Returned M)) → All (λ (b : Returned M). b.number ≢ x.from) bs → AllOf (given ++ items) bs → AllOf (given ++ (items ++ x ∷ [])) bs
  backs_pushed given items x bs apart h = subst (λ (l : List (Letter M)). AllOf l bs) (append_assoc given items (x ∷ [])) (AllOf-else (given ++ items) x bs apart h)

  -- and as a message is given
  pub backs_popped : (given items : List (Letter M)) (x : Letter M) (bs : List (Returned M)) → AllOf (given ++ (x ∷ items)) bs → AllOf ((given ++ x ∷ []) ++ items) bs
  backs_popped given items x bs h = subst (λ (l : List (Letter M)). AllOf l bs) (sym (append_assoc given (x ∷ []) items)) h

module _ {M K : Type 0} where
  pub one_getter : (v : View M K) → v.gets ≡ true → getters_in v ≡ 1
  one_getter v h = ap (λ (b : Bool). let k : ℕ = cond b 1 0 in k) h

  pub one_putter : (n : ℕ) (v : View M K) → v.puts ≡ true → v.number ≡ n → putters_in n v ≡ 1 + returns n v.back
  one_putter n v h is = ap (λ (k : ℕ). k + returns n v.back) (ap (λ (b : Bool). let k : ℕ = cond b (cond (eqb v.number n) 1 0) 0 in k) h ∙ ap (λ (b : Bool). let k : ℕ = cond b 1 0 in k) (eq-eqb v.number n is))

  -- a pass that knows the key is none of the first moment
  unkeyed : (i : ℕ) (v : View M K) (key : K) → get_elem? (firstborn {M = M} {K = K} ∷ []) i ≡ some v → v.key ≡ Some key → ⊥
  unkeyed zero v key e is = let n : None ≡ Some key = ap (λ (x : View M K). x.key) (some-injective (firstborn {M = M} {K = K}) v e) ∙ is in cc
  unkeyed (suc i) v key e is = some-ne-none v (sym e)

  module _ (fits : K → ℕ → List M → M → Type 0) where
    pub begun : (items : List (Letter M)) (views : List (View M K)) (i : ℕ) (v : View M K) (key : K) → get_elem? views i ≡ some v → v.key ≡ Some key → Ruled fits items views → Kept fits items views
    begun items views i v key at is h = ⊎_elim (λ (first : (items ≡ []) × (views ≡ firstborn ∷ [])). absurd (unkeyed i v key (subst (λ (l : List (View M K)). get_elem? l i ≡ some v) first.1 at) is)) (λ (r : Kept fits items views). r) h

    module _ (items : List (Letter M)) (views : List (View M K)) (r : Kept fits items views) (port : ℕ) (v : View M K) (at : get_elem? views port ≡ some v) where
      -- no other pass is a Put of this number
      pub other_putter : v.puts ≡ true → (j : ℕ) (u : View M K) → j ≢ port → get_elem? views j ≡ some u → u.puts ≡ true → u.number ≢ v.number
      other_putter h j u ne e p is = absurd (omega (arith, two_at_most_sum (putters_in v.number) views port j v u ne at e, r.putters v.number, up_to-le r.others v.number, one_putter v.number v h refl, one_putter v.number u p is))

      -- no pass has taken a Put of this number back
      pub none_returned : v.puts ≡ true → (j : ℕ) (u : View M K) → get_elem? views j ≡ some u → All (λ (b : Returned M). b.number ≢ v.number) u.back
      none_returned h j u e = none_back v.number u.back (dite (ℕ_discrete j port)
          (λ (is : j ≡ port). let same : v ≡ u = some-injective v u (sym at ∙ (ap (λ (i : ℕ). get_elem? views i) (sym is) ∙ e)) in let n = ap (λ (w : View M K). returns v.number w.back) same in omega (arith, at_most_sum (putters_in v.number) views port v at, r.putters v.number, up_to-le r.others v.number, one_putter v.number v h refl))
          (λ ne. omega (arith, two_at_most_sum (putters_in v.number) views port j v u ne at e, r.putters v.number, up_to-le r.others v.number, one_putter v.number v h refl)))

      -- no other pass is a Get
      pub other_getter : v.gets ≡ true → (j : ℕ) (u : View M K) → j ≢ port → get_elem? views j ≡ some u → u.gets ≡ true → ⊥
      other_getter h j u ne e p = let few = r.getters in omega (arith, two_at_most_sum getters_in views port j v u ne at e, one_getter v h, one_getter u p)

      -- the key that a pass knows is the mailbox's
      pub key_is : (key : K) → v.puts ≡ true ⊎ (v.gets ≡ true) → v.key ≡ Some key → r.key ≡ key
      key_is key role is = let own : v.key ≡ Some r.key = ⊎_elim (λ (h : v.puts ≡ true). (r.each port v at).put_key h) (λ (h : v.gets ≡ true). (r.each port v at).get_key h) role in cc

      -- a step of one pass, from the view v to w
      pub moves : (w : View M K) (given' items' : List (Letter M)) → getters_in w ≤ getters_in v → ((n : ℕ) → putters_in n w ≤ putters_in n v)
          → All (λ (x : Letter M). x.from ≤ r.others) (given' ++ items') → ((n : ℕ) → n ≢ 0 → length (sent_by n items') ≤ 1) → Fitting (fits r.key) given' items' → Knows r.key given' items' r.others w
          → ((j : ℕ) (u : View M K) → j ≢ port → get_elem? views j ≡ some u → Knows r.key given' items' r.others u) → Kept fits items' (set views port w)
      moves w given' items' gets puts numbers single fit mine others = record {
        key = r.key;
        given = given';
        others = r.others;
        getters = let few = r.getters in omega (arith, sum-set getters_in views port v w at);
        putters = λ n. omega (arith, sum-set (putters_in n) views port v w at, r.putters n, puts n);
        numbers = numbers;
        single = single;
        fit = fit;
        each = λ j u e. ⊎_elim (λ (t : (j ≡ port) × (w ≡ u)). subst (Knows r.key given' items' r.others) t.1 mine) (λ (t : (j ≢ port) × (get_elem? views j ≡ some u)). others j u t.0 t.1) (at_set views port j w u e);
      }

      -- the pass is cut in two
      pub forks : (left right : View M K) (others' : ℕ) → r.others ≤ others' → getters_in left + getters_in right ≤ getters_in v → ((n : ℕ) → putters_in n left + putters_in n right + up_to r.others n ≤ putters_in n v + up_to others' n)
          → Knows r.key r.given items others' left → Knows r.key r.given items others' right
          → ((j : ℕ) (u : View M K) → j ≢ port → get_elem? views j ≡ some u → Knows r.key r.given items others' u) → Kept fits items (set views port left ++ right ∷ [])
      forks left right others' more gets puts mine newer others =
          let adds : (f : View M K → ℕ) → sum_by f (set views port left ++ right ∷ []) + f v ≡ sum_by f views + f left + f right = λ f. omega (arith, sum-snoc f (set views port left) right, sum-set f views port v left at) in record {
            key = r.key;
            given = r.given;
            others = others';
            getters = let few = r.getters in omega (arith, adds getters_in);
            putters = λ n. omega (arith, adds (putters_in n), r.putters n, puts n);
            numbers = All-weaker (λ (x : Letter M). x.from ≤ r.others) (λ (x : Letter M). x.from ≤ others') (λ x le. omega arith) (r.given ++ items) r.numbers;
            single = r.single;
            fit = r.fit;
            each = λ j u e. ⊎_elim (λ (t : get_elem? (set views port left) j ≡ some u). ⊎_elim (λ (s : (j ≡ port) × (left ≡ u)). subst (Knows r.key r.given items others') s.1 mine)
                (λ (s : (j ≢ port) × (get_elem? views j ≡ some u)). others j u s.0 s.1) (at_set views port j left u t)) (λ (t : right ≡ u). subst (Knows r.key r.given items others') t newer) (at_snoc (set views port left) right u j e);
          }

      -- the pass takes in another, of the view w
      pub joins : (other : ℕ) (w : View M K) → get_elem? views other ≡ some w → other ≢ port → (both spent : View M K) → getters_in both + getters_in spent ≤ getters_in v + getters_in w
          → ((n : ℕ) → putters_in n both + putters_in n spent ≤ putters_in n v + putters_in n w) → Knows r.key r.given items r.others both → Knows r.key r.given items r.others spent
          → Kept fits items (set (set views port both) other spent)
      joins other w there apart both spent gets puts mine theirs =
          let there' : get_elem? (set views port both) other ≡ some w = set_else views port other both apart ∙ there in
          let adds : (f : View M K → ℕ) → sum_by f (set (set views port both) other spent) + f v + f w ≡ sum_by f views + f both + f spent = λ f. omega (arith, sum-set f views port v both at, sum-set f (set views port both) other w spent there') in record {
            key = r.key;
            given = r.given;
            others = r.others;
            getters = let few = r.getters in omega (arith, adds getters_in);
            putters = λ n. omega (arith, adds (putters_in n), r.putters n, puts n);
            numbers = r.numbers;
            single = r.single;
            fit = r.fit;
            each = λ j u e. ⊎_elim (λ (t : (j ≡ other) × (spent ≡ u)). subst (Knows r.key r.given items r.others) t.1 theirs)
                (λ (t : (j ≢ other) × (get_elem? (set views port both) j ≡ some u)). ⊎_elim (λ (s : (j ≡ port) × (both ≡ u)). subst (Knows r.key r.given items r.others) s.1 mine)
                (λ (s : (j ≢ port) × (get_elem? views j ≡ some u)). r.each j u s.1) (at_set views port j both u t.1)) (at_set (set views port both) other j spent u e);
          }

  -- what another pass knows as a message joins the others
  pub knows_pushed : (key : K) (given items : List (Letter M)) (others : ℕ) (x : Letter M) (u : View M K) → (u.puts ≡ true → x.from ≢ u.number) → All (λ (b : Returned M). b.number ≢ x.from) u.back → Knows key given items others u → Knows key given (items ++ x ∷ []) others u
  knows_pushed key given items others x u other apart k = record {
    put_key = k.put_key;
    get_key = k.get_key;
    sends = λ p. let s = k.sends p in record {
      all = ap (λ (l : List (Letter M)). sent_by u.number l) (sym (append_assoc given items (x ∷ []))) ∙ (sent_by-else u.number (given ++ items) x (other p) ∙ s.all);
      below = s.below;
      first = s.first;
      known = s.known;
    };
    gets = k.gets;
    hears = k.hears;
    backs = backs_pushed given items x u.back apart k.backs;
  }

  -- what a Put knows as a message is given
  pub sends_popped : (given items : List (Letter M)) (others : ℕ) (x : Letter M) (u : View M K) → Sends given (x ∷ items) others u → Sends (given ++ x ∷ []) items others u
  sends_popped given items others x u s = record {
    all = ap (λ (l : List (Letter M)). sent_by u.number l) (append_assoc given (x ∷ []) items) ∙ s.all;
    below = s.below;
    first = s.first;
    known = let known = s.known in omega (arith, prefix_length (sent_by u.number given) (sent_by u.number (given ++ x ∷ [])) (sent_by-prefix u.number given (given ++ x ∷ []) (x ∷ [], refl)));
  }

  -- what another pass knows as a message is given
  pub knows_popped : (key : K) (given items : List (Letter M)) (others : ℕ) (x : Letter M) (u : View M K) → (u.gets ≡ true → ⊥) → Knows key given (x ∷ items) others u → Knows key (given ++ x ∷ []) items others u
  knows_popped key given items others x u never k = record {
    put_key = k.put_key;
    get_key = k.get_key;
    sends = λ p. sends_popped given items others x u (k.sends p);
    gets = λ g. absurd (never g);
    hears = prefix_more u.given given (x ∷ []) k.hears;
    backs = backs_popped given items x u.back k.backs;
  }
