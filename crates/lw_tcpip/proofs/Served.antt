-- What the server's caller has made of the frames, and what a caller knows after a question.
use Rattle.std.proofs.Common.{◌≡◌, ℕ, suc, ◌+◌, ◌<◌, ◌≤◌, ltb, cond, List, [], ◌∷◌, ◌++◌, length, Bool, true, false, not, ◌||◌, MatchBool, Result, Ok, Err, IfOk, IfErr, refl, ap, sym, ◌∙◌, subst, arith, append_assoc, append-nil, length-append, nat_lt}
use Rattle.std.specs.List.{AllZip}
use Rattle.std.specs.declared.alloc.AllocError.{AllocError}
use Rattle.std.proofs.lemmas.Bool.Decides.{nat_tests}
use mathlib.Core.Logic.{dite}
use mathlib.Core.List.{IsPrefix}
use native.Mathlib.Decide.{dec_le}
use Rattle.hist_lock.specs.Histories.{made_by, longer}
use Rattle.hist_lock.specs.Callers.{Known, IsSameCaller, Extends, HasHistory}
use Rattle.lw_tcpip.specs.Replies.{Each, IsMadeOf, AddsEntry, IsAnswer}
use Rattle.lw_tcpip.proofs.Lists.{prefix_trans}

module _ {E V R : Type 0} (tells : E → V → R → Type 0) where
  pub Each-snoc : (es : List E) (vs : List V) (e : E) (v : V) (r : R) → Each tells es vs → tells e v r → Each tells (es ++ e ∷ []) (vs ++ v ∷ [])
  Each-snoc [] [] e v r h t = ((r, t), tt)
  Each-snoc [] (w ∷ vs) e v r h t = absurd h
  Each-snoc (d ∷ es) [] e v r h t = absurd h
  Each-snoc (d ∷ es) (w ∷ vs) e v r h t = (h.0, Each-snoc es vs e v r h.1 t)

  pub Each-length : (es : List E) (vs : List V) → Each tells es vs → length es ≡ length vs
  Each-length [] [] h = refl
  Each-length [] (w ∷ vs) h = absurd h
  Each-length (d ∷ es) [] h = absurd h
  Each-length (d ∷ es) (w ∷ vs) h = ap suc (Each-length es vs h.1)

  pub made_next : (es fs : List E) (vs : List V) (v : V) (lost made : Bool) → IsMadeOf tells es vs lost → MatchBool made (AddsEntry tells es v fs) (fs ≡ es) → IsMadeOf tells fs (vs ++ v ∷ []) (lost || not made)
  made_next es fs vs v true true h m = let a = ap length m.2 in omega (arith, length-append vs (v ∷ []), length-append es (m.0 ∷ []))
  made_next es fs vs v true false h m = let a = ap length m in omega (arith, length-append vs (v ∷ []))
  made_next es fs vs v false true h m = subst (λ (l : List E). Each tells l (vs ++ v ∷ [])) (sym m.2) (Each-snoc es vs m.0 v m.1 h m.3)
  made_next es fs vs v false false h m = let a = ap length m in omega (arith, length-append vs (v ∷ []), Each-length es vs h)

module _ {E : Type 0} where
  nothing : (xs : List E) → length xs ≡ 0 → xs ≡ []
  nothing [] h = refl
  nothing (x ∷ xs) h = absurd (omega arith)

  -- of a list and one that goes on from it the longer is the second
  pub longer_prefix : (xs ys : List E) → IsPrefix xs ys → longer xs ys ≡ ys
  longer_prefix xs ys p = let len = ap length p.1 in dite (dec_le (suc (length xs)) (length ys))
      (λ h. let t : ltb (length xs) (length ys) ≡ true = grind (arith, nat_tests) in ap (λ (b : Bool). cond b ys xs) t)
      (λ h. let t : ltb (length xs) (length ys) ≡ false = grind (arith, nat_tests) in
      let none : length p.0 ≡ 0 = omega (arith, length-append xs p.0) in ap (λ (b : Bool). cond b ys xs) t ∙ (sym (append-nil xs) ∙ (ap (λ (l : List E). xs ++ l) (sym (nothing p.0 none)) ∙ p.1)))

module _ {O E S T V R F : Type 0} (state : O → S) (tag : O → T) (by : E → ℕ) (same : V → V → Type 0) (tells : T → E → V → R → Type 0) (steps : S → E → S → Type 0) where
  -- the answer to a caller that learnt something before is one to the caller as it was
  pub answer_after : (start : O) (who mid back : Known O E) (event : V) (r : Result R F) (longest : List E) → mid ≡ record who { seen = longest } → IsPrefix who.seen mid.seen → IfOk r (λ x. Extends by (tells (tag start)) mid event x back) → IfOk r (λ x. Extends by (tells (tag start)) who event x back)
  answer_after start who mid back event (Ok x) longest is p h = let front = h.2 in (
    p.0 ++ h.0,
    h.1,
    h.2 ∙ ap (λ (l : List E). (l ++ h.0) ++ h.1 ∷ []) (sym p.1) ∙ ap (λ (l : List E). l ++ h.1 ∷ []) (append_assoc who.seen p.0 h.0),
    h.3 ∙ ap (λ (k : Known O E). k.mine ++ h.1 ∷ []) is,
    h.4 ∙ ap (λ (k : Known O E). k.number) is,
    h.5,
  )
  answer_after start who mid back event (Err x) longest is p h = tt

  err_after : (who mid back : Known O E) (event : V) (r : Result R (F × V)) (longest : List E) → mid ≡ record who { seen = longest } → IsPrefix who.seen mid.seen → IfErr r (λ x. same event x.1 × IsPrefix mid.seen back.seen × (back.mine ≡ mid.mine)) → IfErr r (λ x. same event x.1 × IsPrefix who.seen back.seen × (back.mine ≡ who.mine))
  err_after who mid back event (Ok x) longest is p h = tt
  err_after who mid back event (Err x) longest is p h = (h.0, prefix_trans who.seen mid.seen back.seen p h.1, h.2 ∙ ap (λ (k : Known O E). k.mine) is)

  pub call_goes_on : (t : E → V → R → Type 0) (who back : Known O E) (event : V) (r : Result R (F × V)) → IfOk r (λ x. Extends by t who event x back) → IfErr r (λ x. same event x.1 × IsPrefix who.seen back.seen × (back.mine ≡ who.mine)) → IsPrefix who.seen back.seen
  call_goes_on t who back event (Ok x) h g = (h.0 ++ h.1 ∷ [], sym (append_assoc who.seen h.0 (h.1 ∷ [])) ∙ sym h.2)
  call_goes_on t who back event (Err x) h g = g.1

module _ {O E : Type 0} (by : E → ℕ) where
  -- the server has then seen just what the caller has, of its own entries those that it made
  pub heard_by : (server mid back after : Known O E) → mid ≡ server → after ≡ record mid { seen = longer mid.seen back.seen } → IsPrefix server.seen back.seen → made_by by after.number after.seen ≡ after.mine → made_by by server.number back.seen ≡ server.mine
  heard_by server mid back after is now p made =
      let e : after ≡ record server { seen = back.seen } = now ∙ ap (λ (k : Known O E). let l : Known O E = record k { seen = longer k.seen back.seen } in l) is ∙ ap (λ (l : List E). let k : Known O E = record server { seen = l } in k) (longer_prefix server.seen back.seen p) in
      subst (λ (k : Known O E). made_by by k.number k.seen ≡ k.mine) e made

module _ {O E S T V R : Type 0} (state : O → S) (tag : O → T) (by : E → ℕ) (same : V → V → Type 0) (tells : T → E → V → R → Type 0) (steps : S → E → S → Type 0) where
  pub answer_from : (start : O) (who mid back : Known O E) (event : V) (r : Result R (AllocError × V)) (longest : List E) → mid ≡ record who { seen = longest } → IsPrefix who.seen mid.seen → IsSameCaller mid back → IfOk r (λ x. Extends by (tells (tag start)) mid event x back)
      → IfErr r (λ x. same event x.1 × IsPrefix mid.seen back.seen × (back.mine ≡ mid.mine)) → HasHistory state by steps start back → IsAnswer state tag by same tells steps start who event back r
  answer_from start who mid back event r longest is p caller ok err history = record {
    caller = (caller.0 ∙ ap (λ (k : Known O E). k.lock) is, caller.1 ∙ ap (λ (k : Known O E). k.start) is, caller.2 ∙ ap (λ (k : Known O E). k.number) is, caller.3 ∙ ap (λ (k : Known O E). k.splits) is);
    ok = answer_after state tag by same tells steps start who mid back event r longest is p ok;
    err = err_after state tag by same tells steps who mid back event r longest is p err;
    history = history;
  }
