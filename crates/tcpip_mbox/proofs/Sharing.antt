-- Passes that are cut and joined keep the rule.
use Rattle.std.proofs.Common.{◌≡◌, ◌≢◌, ℕ, zero, suc, ◌+◌, ◌≤◌, eqb, cond, All, Bool, true, false, true≢false, List, [], ◌∷◌, ◌++◌, set, sym, refl, ap, ◌∙◌, subst, ⊎_elim, inl, inr, arith, Option, Some, None}
use Rattle.std.proofs.lemmas.Bool.Decides.{nat_tests}
use Rattle.std.proofs.lemmas.List.Elements.{All-nil, All-cons, All-weaker}
use Rattle.std.proofs.lemmas.List.Sums.{sum_by-cons}
use mathlib.Core.Option.{some, some-injective, some-ne-none}
use lib.ListN.{get_elem?}
use Rattle.crossbeam_queue.specs.Fifo.{Forks, Merges}
use Rattle.crossbeam_queue.proofs.Lists.{set_else}
use Rattle.tcpip_mbox.specs.declared.view.Letter.{Letter}
use Rattle.tcpip_mbox.specs.declared.view.Returned.{Returned}
use Rattle.tcpip_mbox.specs.declared.view.View.{View}
use Rattle.tcpip_mbox.specs.Letters.{sent_by, returns, AllOf}
use Rattle.tcpip_mbox.specs.Views.{nobody, both_ways, firstborn, with_key, with_one_more, newest, putting, getting, telling, met, returned, gathered}
use Rattle.tcpip_mbox.specs.Rule.{up_to, getters_in, putters_in, Knows, Kept, Ruled}
use Rattle.tcpip_mbox.proofs.Letters.{prefix_length, sent_by-prefix, sent_by-none, returns-append, All-append}
use Rattle.tcpip_mbox.proofs.Keeps.{begun, other_putter, other_getter, moves, forks, joins}

next_up : (n others : ℕ) → cond (eqb (others + 1) n) 1 0 + up_to others n ≤ up_to (others + 1) n
next_up n others = grind (arith, nat_tests)

module _ {M K : Type 0} (fits : K → ℕ → List M → M → Type 0) where
  pub first_moment : Ruled fits [] (firstborn {M = M} {K = K} ∷ [])
  first_moment = inl (refl, refl)

  -- of a Put that isn't made yet nothing was put in
  pub newest_sent : (others : ℕ) (xs : List (Letter M)) → All (λ (x : Letter M). x.from ≤ others) xs → sent_by (others + 1) xs ≡ []
  newest_sent others xs h = sent_by-none (others + 1) xs (All-weaker (λ (x : Letter M). x.from ≤ others) (λ (x : Letter M). x.from ≢ others + 1) (λ x le is. omega arith) xs h)

  -- where no Put was taken back
  none_of : (letters : List (Letter M)) → AllOf letters []
  none_of letters = All-nil (λ (b : Returned M). sent_by b.number letters ≡ b.sent)

  knows_nobody : (key : K) (given items : List (Letter M)) (others : ℕ) → Knows key given items others (nobody {M = M} {K = K})
  knows_nobody key given items others = record { put_key = λ p. absurd (true≢false (sym p)); get_key = λ p. absurd (true≢false (sym p)); sends = λ p. absurd (true≢false (sym p)); gets = λ p. absurd (true≢false (sym p)); hears = (given, refl); backs = none_of (given ++ items) }

  module _ (port : ℕ) (v : View M K) (key : K) (keyed : v.key ≡ Some key) where
    hired : v.puts ≡ true → v.gets ≡ true → v.number ≡ 0 → (items : List (Letter M)) (views : List (View M K)) → Kept fits items views → get_elem? views port ≡ some v → Kept fits items (set views port (with_one_more v) ++ newest v ∷ [])
    hired puts gets is items views r at = let k = r.each port v at in let s = k.sends puts in let same : v.others ≡ r.others = s.first is in
        forks fits items views r port v at (with_one_more v) (newest v) (r.others + 1) (omega arith) (omega arith)
        (λ n. let a : putters_in n (newest v) ≡ cond (eqb (r.others + 1) n) 1 0 + 0 = ap (λ (o : ℕ). let z : ℕ = cond (eqb (o + 1) n) 1 0 + 0 in z) same in omega (arith, next_up n r.others))
        record {
          put_key = k.put_key;
          get_key = k.get_key;
          sends = λ _. record { all = s.all; below = let b = s.below in omega arith; first = λ _. ap (λ (o : ℕ). o + 1) same; known = s.known };
          gets = λ g. ((k.gets gets).0, ap (λ (o : ℕ). o + 1) same);
          hears = k.hears;
          backs = k.backs;
        }
        record {
          put_key = λ _. k.put_key puts;
          get_key = λ g. absurd (true≢false (sym g));
          sends = λ _. record {
            all = ap (λ (o : ℕ). sent_by (o + 1) (r.given ++ items)) same ∙ newest_sent r.others (r.given ++ items) r.numbers;
            below = omega arith;
            first = λ z. absurd (omega arith);
            known = omega arith;
          };
          gets = λ g. absurd (true≢false (sym g));
          hears = (r.given, refl);
          backs = none_of (r.given ++ items);
        }
        (λ j u ne e. let o = r.each j u e in record {
          put_key = o.put_key;
          get_key = o.get_key;
          sends = λ p. let t = o.sends p in record { all = t.all; below = let b = t.below in omega arith; first = λ z. absurd (other_putter fits items views r port v at puts j u ne e p (z ∙ sym is)); known = t.known };
          gets = λ g. absurd (other_getter fits items views r port v at gets j u ne e g);
          hears = o.hears;
          backs = o.backs;
        })

    pub hires : v.puts ≡ true → v.gets ≡ true → v.number ≡ 0 → Forks (Ruled fits) port v (with_one_more v) (newest v)
    hires puts gets is items views h at = inr (hired puts gets is items views (begun fits items views port v key at keyed h) at)

    pub parts : v.gets ≡ true → Forks (Ruled fits) port v (putting v) (getting v)
    parts gets items views h at = let r : Kept fits items views = begun fits items views port v key at keyed h in let k = r.each port v at in
        inr (forks fits items views r port v at (putting v) (getting v) r.others (omega arith) (let one : getters_in v ≡ 1 = ap (λ (b : Bool). let z : ℕ = cond b 1 0 in z) gets in omega arith) (λ n. omega arith)
        record { put_key = k.put_key; get_key = λ g. absurd (true≢false (sym g)); sends = λ p. let t = k.sends p in record { all = t.all; below = t.below; first = t.first; known = t.known }; gets = λ g. absurd (true≢false (sym g)); hears = k.hears; backs = k.backs }
        record { put_key = λ p. absurd (true≢false (sym p)); get_key = λ _. k.get_key gets; sends = λ p. absurd (true≢false (sym p)); gets = λ _. k.gets gets; hears = k.hears; backs = none_of (r.given ++ items) }
        (λ j u ne e. r.each j u e))

    pub tells : Forks (Ruled fits) port v v (telling v)
    tells items views h at = let r : Kept fits items views = begun fits items views port v key at keyed h in let k = r.each port v at in
        inr (forks fits items views r port v at v (telling v) r.others (omega arith) (omega arith) (λ n. omega arith) k
        record { put_key = λ p. absurd (true≢false (sym p)); get_key = λ p. absurd (true≢false (sym p)); sends = λ p. absurd (true≢false (sym p)); gets = λ p. absurd (true≢false (sym p)); hears = k.hears; backs = none_of (r.given ++ items) }
        (λ j u ne e. r.each j u e))

    pub meets : (other : ℕ) (w : View M K) → v.puts ≡ true → v.gets ≡ false → w.puts ≡ false → w.gets ≡ false → Merges (Ruled fits) port v other w (met v w) nobody
    meets other w puts none no_put no_get items views h at apart at' =
        let r : Kept fits items views = begun fits items views port v key at keyed h in
        let there : get_elem? views other ≡ some w = sym (set_else views port other (met v w) apart) ∙ at' in
        let k = r.each port v at in let s = k.sends puts in let o = r.each other w there in
        let both : Kept fits items (set views port (met v w)) = moves fits items views r port v at (met v w) r.given items (omega arith) (λ n. omega arith) r.numbers r.single r.fit
        record {
          put_key = k.put_key;
          get_key = k.get_key;
          sends = λ _. record { all = s.all; below = s.below; first = s.first; known = let known = s.known in omega (arith, prefix_length (sent_by v.number w.given) (sent_by v.number r.given) (sent_by-prefix v.number w.given r.given o.hears)) };
          gets = λ g. absurd (true≢false (sym g ∙ none));
          hears = o.hears;
          backs = k.backs;
        }
        (λ j u ne e. r.each j u e) in
        inr (moves fits items (set views port (met v w)) both other w at' nobody both.given items (omega arith) (λ n. omega arith) both.numbers both.single both.fit (knows_nobody both.key both.given items both.others) (λ j u ne e. both.each j u e))

    -- the Get takes a Put back
    pub gathers : (other : ℕ) (w : View M K) → v.gets ≡ true → v.puts ≡ false → w.puts ≡ true → Merges (Ruled fits) port v other w (gathered v w) nobody
    gathers other w gets no_put puts items views h at apart at' =
        let r : Kept fits items views = begun fits items views port v key at keyed h in
        let there : get_elem? views other ≡ some w = sym (set_else views port other (gathered v w) apart) ∙ at' in
        let k = r.each port v at in let s = (r.each other w there).sends puts in
        inr (joins fits items views r port v at other w there apart (gathered v w) nobody (omega arith)
        (λ n. let one : putters_in n w ≡ cond (eqb w.number n) 1 0 + returns n w.back = ap (λ (b : Bool). let z : ℕ = cond b (cond (eqb w.number n) 1 0) 0 + returns n w.back in z) puts in
        omega (arith, returns-append n v.back (returned w.number w.sent ∷ [])))
        record {
          put_key = λ p. absurd (true≢false (sym p ∙ no_put));
          get_key = k.get_key;
          sends = λ p. absurd (true≢false (sym p ∙ no_put));
          gets = k.gets;
          hears = k.hears;
          backs = let P : Returned M → Type 0 = λ (b : Returned M). sent_by b.number (r.given ++ items) ≡ b.sent in
              All-append P v.back (returned w.number w.sent ∷ []) k.backs (All-cons P (returned w.number w.sent) [] s.all (All-nil P));
        }
        (knows_nobody r.key r.given items r.others))

  -- the first pass, which hands all it may do to one that knows the key
  keyed_pair : (key : K) (i : ℕ) (v : View M K) → get_elem? (nobody {M = M} {K = K} ∷ both_ways (Some key) 0 ∷ []) i ≡ some v → Knows key [] [] 0 v
  keyed_pair key zero v e = subst (Knows key [] [] 0) (some-injective (nobody {M = M} {K = K}) v e) (knows_nobody key [] [] 0)
  keyed_pair key (suc zero) v e = subst (Knows key [] [] 0) (some-injective (both_ways (Some key) 0) v e) record {
    put_key = λ _. refl;
    get_key = λ _. refl;
    sends = λ _. record { all = refl; below = omega arith; first = λ _. refl; known = omega arith };
    gets = λ _. (refl, refl);
    hears = ([], refl);
    backs = none_of [];
  }
  keyed_pair key (suc (suc i)) v e = absurd (some-ne-none v (sym e))

  first_up : (n : ℕ) → ◌≡◌ {A = ℕ} (cond (eqb 0 n) 1 0) (up_to 0 n)
  first_up n = grind (arith, nat_tests)

  begins : (key : K) → Kept fits [] (nobody ∷ both_ways (Some key) 0 ∷ [])
  begins key = record {
    key = key;
    given = [];
    others = 0;
    getters = omega arith;
    putters = λ n. omega (arith, first_up n, sum_by-cons (putters_in {M = M} {K = K} n) nobody (both_ways (Some key) 0 ∷ []), sum_by-cons (putters_in {M = M} {K = K} n) (both_ways (Some key) 0) []);
    numbers = All-nil (λ (x : Letter M). x.from ≤ 0);
    single = λ n ne. omega arith;
    fit = tt;
    each = keyed_pair key;
  }

  first_at : (port : ℕ) (v : View M K) → get_elem? (firstborn {M = M} {K = K} ∷ []) port ≡ some v → port ≡ 0
  first_at zero v e = refl
  first_at (suc i) v e = absurd (some-ne-none v (sym e))

  unkept : (items : List (Letter M)) (views : List (View M K)) (port : ℕ) → Kept fits items views → get_elem? views port ≡ some (firstborn {M = M} {K = K}) → ⊥
  unkept items views port r at = let n : None ≡ Some r.key = (r.each port (firstborn {M = M} {K = K}) at).put_key refl in cc

  pub takes_key : (port : ℕ) (v : View M K) (key : K) (picked : Option K) → v ≡ firstborn → picked ≡ Some key → Forks (Ruled fits) port v nobody (with_key picked v)
  takes_key port v key picked is pick items views h at = let at' : get_elem? views port ≡ some (firstborn {M = M} {K = K}) = at ∙ ap (λ (x : View M K). some x) is in
      ⊎_elim (λ (first : (items ≡ []) × (views ≡ firstborn ∷ [])).
      let zero_port : port ≡ 0 = first_at port (firstborn {M = M} {K = K}) (subst (λ (l : List (View M K)). get_elem? l port ≡ some (firstborn {M = M} {K = K})) first.1 at') in
      let now : set views port nobody ++ with_key picked v ∷ [] ≡ nobody ∷ both_ways (Some key) 0 ∷ [] =
      ap (λ (l : List (View M K)). set l port nobody ++ with_key picked v ∷ []) first.1 ∙ (ap (λ (i : ℕ). set (firstborn {M = M} {K = K} ∷ []) i nobody ++ with_key picked v ∷ []) zero_port ∙ (ap (λ (k : Option K). nobody ∷ with_key k v ∷ []) pick ∙ ap (λ (x : View M K). nobody ∷ with_key (Some key) x ∷ []) is)) in
      inr (subst (λ (l : List (View M K)). Kept fits items l) (sym now) (subst (λ (l : List (Letter M)). Kept fits l (nobody ∷ both_ways (Some key) 0 ∷ [])) (sym first.0) (begins key)))) (λ (r : Kept fits items views). absurd (unkept items views port r at')) h
