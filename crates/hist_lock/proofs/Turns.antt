-- A whole turn: what the object's step says, seen from the history.
use Rattle.std.proofs.Common.{◌≡◌, ℕ, Bool, true, MatchBool, List, [], ◌∷◌, ◌++◌, Result, Ok, Err, IfOk, IfErr, sym, ap, ◌∙◌, subst, append-nil}
use Rattle.std.proofs.lemmas.List.Elements.{All-nil, All-cons}
use mathlib.Core.List.{IsPrefix}
use Rattle.hist_lock.specs.declared.table.Held.{Held}
use Rattle.hist_lock.specs.declared.table.Part.{Part}
use Rattle.hist_lock.specs.Histories.{Legal, made_by, IsKept, GrowsBy, AddsOne}
use Rattle.hist_lock.specs.Views.{up_to}
use Rattle.hist_lock.specs.Callers.{Known, AddsTo, Extends, part_from}
use Rattle.hist_lock.proofs.Lists.{Legal-push, made_by-one}

pub if_true : (b : Bool) (P Q : Type 0) → b ≡ true → MatchBool b P Q → P
if_true b P Q is h = subst (λ (x : Bool). MatchBool x P Q) is h

module _ {O E S T Ev R A : Type 0} (state : O → S) (tag : O → T) (by : E → ℕ) (tells : T → E → Ev → R → Type 0) (same : Ev → Ev → Type 0) (steps : S → E → S → Type 0) (start : O) where
  module _ (n : ℕ) (k k' : Held O E) (ev : Ev) (kept : IsKept state tag steps start k.object k.log.items) (tagged : tag k'.object ≡ tag k.object) where
    abbrev Answers : Result R (A × Ev) → Type 0
    Answers answer = IfOk answer (λ r. AddsOne state by (tells (tag k.object)) steps k k' n ev r) × IfErr answer (λ r. (state k'.object ≡ state k.object) × (k'.log.items ≡ k.log.items) × same ev r.1)

    -- the history has grown by entries of the caller, and leads to where the object is
    pub stepped : (answer : Result R (A × Ev)) → Answers answer → GrowsBy by n k.log.items k'.log.items × IsKept state tag steps start k'.object k'.log.items
    stepped (Ok r) h = let one = h.0 in (
      (one.0 ∷ [], one.1, All-cons (λ e. by e ≡ n) one.0 [] one.3 (All-nil (λ e. by e ≡ n))),
      (subst (λ (l : List E). Legal steps (state start) l (state k'.object)) (sym one.1) (Legal-push steps (state start) (state k.object) (state k'.object) k.log.items one.0 kept.0 one.2), tagged ∙ kept.1),
    )
    stepped (Err r) h = (
      ([], h.1.1 ∙ sym (append-nil k.log.items), All-nil (λ e. by e ≡ n)),
      (subst (λ (x : List E × S). Legal steps (state start) x.0 x.1) (λ i. (sym h.1.1 i, sym h.1.0 i)) kept.0, tagged ∙ kept.1),
    )

    -- the caller p, who has seen the history before the step, and q after it
    module _ (p q : Part E) (number : n ≡ p.number) (seen : p.seen ≡ k.log.items) (made : p.mine ≡ made_by by p.number k.log.items) (after : q ≡ up_to by k'.log.items p) where
      pub adds : (answer : Result R (A × Ev)) → Answers answer → IfOk answer (λ r. AddsTo by (tells (tag start)) p ev r q)
      adds (Ok r) h = let one = h.0 in let e : E = one.0 in
          let longer : k'.log.items ≡ p.seen ++ e ∷ [] = one.1 ∙ ap (λ (l : List E). l ++ e ∷ []) (sym seen) in
          let more : made_by by p.number k'.log.items ≡ p.mine ++ e ∷ [] = ap (made_by by p.number) one.1 ∙ (made_by-one by p.number k.log.items e (one.3 ∙ number) ∙ ap (λ (l : List E). l ++ e ∷ []) (sym made)) in (
            e,
            after ∙ (λ i. record p { seen = longer i; mine = more i }),
            one.3 ∙ number,
            subst (λ (t : T). tells t e ev r) kept.1 one.4,
          )
      adds (Err r) h = tt

      pub leaves : (answer : Result R (A × Ev)) → Answers answer → IfErr answer (λ r. same ev r.1 × (q ≡ p))
      leaves (Ok r) h = tt
      leaves (Err r) h = let unchanged : k'.log.items ≡ p.seen = h.1.1 ∙ sym seen in let none : made_by by p.number k'.log.items ≡ p.mine = ap (made_by by p.number) h.1.1 ∙ sym made in
          (h.1.2, after ∙ (λ i. record p { seen = unchanged i; mine = none i }))

  -- the caller c before the call, p with the lock, q and d after it
  module _ (start' : O) (begun : start ≡ start') (ev : Ev) (c d : Known O E) (log : List E) (p q : Part E) (at : p ≡ record (part_from c) { seen = log }) (begins : IsPrefix c.seen log) (seen : d.seen ≡ q.seen) (mine : d.mine ≡ q.mine) where
    pub extends : (answer : Result R (A × Ev)) → IfOk answer (λ r. AddsTo by (tells (tag start)) p ev r q) → IfOk answer (λ r. Extends by (tells (tag start')) c ev r d)
    extends (Ok r) h = let e : E = h.0 in let sees : p.seen ≡ c.seen ++ begins.0 = ap (λ (x : Part E). x.seen) at ∙ sym begins.1 in (
      begins.0,
      e,
      seen ∙ (ap (λ (x : Part E). x.seen) h.1 ∙ ap (λ (l : List E). l ++ e ∷ []) sees),
      mine ∙ (ap (λ (x : Part E). x.mine) h.1 ∙ ap (λ (x : Part E). x.mine ++ e ∷ []) at),
      h.2 ∙ ap (λ (x : Part E). x.number) at,
      subst (λ (o : O). tells (tag o) e ev r) begun h.3,
    )
    extends (Err r) h = tt

    pub fails : (answer : Result R (A × Ev)) → IfErr answer (λ r. same ev r.1 × (q ≡ p)) → IfErr answer (λ r. same ev r.1 × IsPrefix c.seen d.seen × (d.mine ≡ c.mine))
    fails (Ok r) h = tt
    fails (Err r) h = let sees : p.seen ≡ c.seen ++ begins.0 = ap (λ (x : Part E). x.seen) at ∙ sym begins.1 in (h.0, (begins.0, sym sees ∙ (ap (λ (x : Part E). x.seen) (sym h.1) ∙ sym seen)), mine ∙ (ap (λ (x : Part E). x.mine) h.1 ∙ ap (λ (x : Part E). x.mine) at))
