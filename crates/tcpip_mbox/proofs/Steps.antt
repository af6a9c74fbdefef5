-- The steps that put in, take out and learn keep the rule.
use Rattle.std.proofs.Common.{◌≡◌, ◌≢◌, ℕ, ◌+◌, ◌≤◌, All, true, List, [], ◌∷◌, ◌++◌, length, set, sym, refl, ap, ◌∙◌, subst, inl, inr, arith, append_assoc, length-append, Some}
use Rattle.std.proofs.lemmas.List.Elements.{All-nil, All-cons, All-head}
use mathlib.Core.Option.{some}
use mathlib.Core.Logic.{dite}
use mathlib.Core.List.{IsPrefix}
use native.Mathlib.Decide.{ℕ_discrete}
use lib.ListN.{get_elem?}
use Rattle.crossbeam_queue.specs.Fifo.{Pushes, Pops, Learns}
use Rattle.tcpip_mbox.specs.declared.view.Letter.{Letter}
use Rattle.tcpip_mbox.specs.declared.view.Returned.{Returned}
use Rattle.tcpip_mbox.specs.declared.view.View.{View}
use Rattle.tcpip_mbox.specs.Letters.{sent_by, AllOf}
use Rattle.tcpip_mbox.specs.Views.{sent_one, got_one}
use Rattle.tcpip_mbox.specs.Rule.{Sends, Kept, Ruled}
use Rattle.tcpip_mbox.proofs.Letters.{prefix_same, All-append, All-back, no-elements, sent_by-append, sent_by-same, sent_by-else, sent_by-prefix, Fitting-push, few_lie}
use Rattle.tcpip_mbox.proofs.Keeps.{begun, other_putter, other_getter, key_is, none_returned, moves, backs_pushed, backs_popped, knows_pushed, sends_popped, knows_popped}

module _ {M K : Type 0} (fits : K → ℕ → List M → M → Type 0) where
  module _ (port : ℕ) (v : View M K) (x : Letter M) (key : K) (puts : v.puts ≡ true) (keyed : v.key ≡ Some key) (from : x.from ≡ v.number) (fit : fits key v.number v.sent x.message) (known : v.number ≢ 0 → v.known ≡ length v.sent) where
    -- of the Put's messages none lies in the queue where it knows all as given
    none_lies : (given items : List (Letter M)) (others : ℕ) → Sends given items others v → v.number ≢ 0 → sent_by v.number items ≡ []
    none_lies given items others s ne = let all = ap length (sym (sent_by-append v.number given items) ∙ s.all) in let least = s.known in let most = known ne in
        no-elements (sent_by v.number items) (omega (arith, length-append (sent_by v.number given) (sent_by v.number items)))

    single_still : (items : List (Letter M)) (views : List (View M K)) (r : Kept fits items views) → get_elem? views port ≡ some v → (n : ℕ) → n ≢ 0 → length (sent_by n (items ++ x ∷ [])) ≤ 1
    single_still items views r at n ne = dite (ℕ_discrete x.from n)
        (λ (is : x.from ≡ n). let own : n ≡ v.number = sym is ∙ from in
        let empty : sent_by n items ≡ [] = subst (λ (m : ℕ). sent_by m items ≡ []) (sym own) (none_lies r.given items r.others ((r.each port v at).sends puts) (λ z. ne (own ∙ z))) in
        let e = ap length (sent_by-same n items x is) in let f = ap length empty in omega (arith, length-append (sent_by n items) (x.message ∷ [])))
        (λ other. let e = ap length (sent_by-else n items x other) in omega (arith, r.single n ne))

    pushed : (items : List (Letter M)) (views : List (View M K)) → Kept fits items views → get_elem? views port ≡ some v → Kept fits (items ++ x ∷ []) (set views port (sent_one v x))
    pushed items views r at = let k = r.each port v at in let s = k.sends puts in
        let apart : (j : ℕ) (u : View M K) → get_elem? views j ≡ some u → All (λ (b : Returned M). b.number ≢ x.from) u.back =
        λ j u e. subst (λ (n : ℕ). All (λ (b : Returned M). b.number ≢ n) u.back) (sym from) (none_returned fits items views r port v at puts j u e) in let key_same : r.key ≡ key = key_is fits items views r port v at key (inl puts) keyed in
        moves fits items views r port v at (sent_one v x) r.given (items ++ x ∷ []) (omega arith) (λ n. omega arith)
        (subst (λ (l : List (Letter M)). All (λ (y : Letter M). y.from ≤ r.others) l) (append_assoc r.given items (x ∷ []))
        (All-append (λ (y : Letter M). y.from ≤ r.others) (r.given ++ items) (x ∷ []) r.numbers (All-cons (λ (y : Letter M). y.from ≤ r.others) x [] (let below = s.below in omega arith) (All-nil (λ (y : Letter M). y.from ≤ r.others)))))
        (single_still items views r at)
        (Fitting-push (fits r.key) r.given items x r.fit (subst (λ (k : K). fits k x.from (sent_by x.from (r.given ++ items)) x.message) (sym key_same)
        (subst (λ (n : ℕ). fits key n (sent_by n (r.given ++ items)) x.message) (sym from) (subst (λ (l : List M). fits key v.number l x.message) (sym s.all) fit))))
        record {
          put_key = k.put_key;
          get_key = k.get_key;
          sends = λ _. record {
            all = ap (λ (l : List (Letter M)). sent_by v.number l) (sym (append_assoc r.given items (x ∷ []))) ∙ (sent_by-same v.number (r.given ++ items) x from ∙ ap (λ (l : List M). l ++ x.message ∷ []) s.all);
            below = s.below;
            first = s.first;
            known = s.known;
          };
          gets = k.gets;
          hears = k.hears;
          backs = backs_pushed r.given items x v.back (apart port v at) k.backs;
        }
        (λ j u ne e. knows_pushed r.key r.given items r.others x u (λ p is. other_putter fits items views r port v at puts j u ne e p (sym is ∙ from)) (apart j u e) (r.each j u e))

    pub pushes : (n : ℕ) → Pushes (Ruled fits) n port v x (λ w. w ≡ sent_one v x)
    pushes n items views room h at = (sent_one v x, inr (pushed items views (begun fits items views port v key at keyed h) at), refl)

  module _ (port : ℕ) (v : View M K) (key : K) (keyed : v.key ≡ Some key) where
    popped : (gets : v.gets ≡ true) (x : Letter M) (items : List (Letter M)) (views : List (View M K)) → Kept fits (x ∷ items) views → get_elem? views port ≡ some v → Kept fits items (set views port (got_one v x))
    popped gets x items views r at = let k = r.each port v at in let given = r.given in
        moves fits (x ∷ items) views r port v at (got_one v x) (given ++ x ∷ []) items (omega arith) (λ n. omega arith)
        (subst (λ (l : List (Letter M)). All (λ (y : Letter M). y.from ≤ r.others) l) (sym (append_assoc given (x ∷ []) items)) r.numbers)
        (λ n ne. let e = ap length (sent_by-append n (x ∷ []) items) in omega (arith, r.single n ne, length-append (sent_by n (x ∷ [])) (sent_by n items)))
        r.fit.1
        record {
          put_key = k.put_key;
          get_key = k.get_key;
          sends = λ p. let s = sends_popped given items r.others x v (k.sends p) in record { all = s.all; below = s.below; first = s.first; known = s.known };
          gets = λ g. (ap (λ (l : List (Letter M)). l ++ x ∷ []) (k.gets g).0, (k.gets g).1);
          hears = prefix_same (v.given ++ x ∷ []) (given ++ x ∷ []) (ap (λ (l : List (Letter M)). l ++ x ∷ []) (k.gets gets).0);
          backs = backs_popped given items x v.back k.backs;
        }
        (λ j u ne e. knows_popped r.key given items r.others x u (other_getter fits (x ∷ items) views r port v at gets j u ne e) (r.each j u e))

    pub pops : v.gets ≡ true → Pops (Ruled fits) port v (λ x w. (w ≡ got_one v x) × (x.from ≤ v.others) × ((key : K) → v.key ≡ Some key → fits key x.from (sent_by x.from v.given) x.message))
    pops gets x items views h at = let r : Kept fits (x ∷ items) views = begun fits (x ∷ items) views port v key at keyed h in (
      got_one v x,
      inr (popped gets x items views r at),
      (
        refl,
        (let le = All-head (λ (y : Letter M). y.from ≤ r.others) x items (All-back (λ (y : Letter M). y.from ≤ r.others) r.given (x ∷ items) r.numbers) in let o = ((r.each port v at).gets gets).1 in omega arith),
        λ k is. subst (λ (key : K). fits key x.from (sent_by x.from v.given) x.message) (key_is fits (x ∷ items) views r port v at k (inr gets) is)
            (subst (λ (l : List (Letter M)). fits r.key x.from (sent_by x.from l) x.message) (sym ((r.each port v at).gets gets).0) r.fit.0),
      ),
    )

    -- all that the Puts which were taken back had put in was given, or lies in the queue
    pub emptied : v.gets ≡ true → Learns (Ruled fits) port v (λ items. AllOf (v.given ++ items) v.back)
    emptied gets items views h at = let r : Kept fits items views = begun fits items views port v key at keyed h in let k = r.each port v at in
        subst (λ (l : List (Letter M)). AllOf (l ++ items) v.back) (sym (k.gets gets).0) k.backs

    -- where so many messages lie, the first Put's and one of each other are as many
    pub fullness : v.puts ≡ true → Learns (Ruled fits) port v (λ items. v.number ≡ 0 → length items + v.known ≤ length v.sent + v.others)
    fullness puts items views h at is = let r : Kept fits items views = begun fits items views port v key at keyed h in let s = (r.each port v at).sends puts in
        let all = ap length (sym (sent_by-append v.number r.given items) ∙ s.all) in let known = s.known in let others = s.first is in
        let few = few_lie r.others items (All-back (λ (y : Letter M). y.from ≤ r.others) r.given items r.numbers) r.single in
        let same = ap (λ (n : ℕ). length (sent_by n items)) is in
        omega (arith, length-append (sent_by v.number r.given) (sent_by v.number items))

    -- what was given of a Put is the beginning of what it put in
    pub told : v.puts ≡ true → Learns (Ruled fits) port v (λ _. IsPrefix (sent_by v.number v.given) v.sent)
    told puts items views h at = let r : Kept fits items views = begun fits items views port v key at keyed h in let k = r.each port v at in let s = k.sends puts in
        let p = sent_by-prefix v.number v.given r.given k.hears in
        (p.0 ++ sent_by v.number items, sym (append_assoc (sent_by v.number v.given) p.0 (sent_by v.number items)) ∙ (ap (λ (l : List M). l ++ sent_by v.number items) p.1 ∙ (sym (sent_by-append v.number r.given items) ∙ s.all)))
