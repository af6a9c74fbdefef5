-- Places among a Poster's changes, and what stays known as a history goes on.
use Rattle.std.proofs.Common.{◌≡◌, ◌≢◌, ℕ, zero, suc, ◌+◌, ◌-◌, ◌<◌, ◌≤◌, max, Bool, true, false, cond, eqb, ◌&&◌, List, [], ◌∷◌, ◌++◌, length, take, sym, refl, ap, ◌∙◌, subst, arith, ⊎_elim, inl, inr, ne_eqb, eq-eqb, length-append, All, take_all}
use mathlib.Core.Bool.{beq}
use mathlib.Core.Option.{some}
use lib.ListN.{get_elem?}
use Rattle.std.proofs.lemmas.Bool.{cases_Bool, cases_eq, false≢true}
use Rattle.std.proofs.lemmas.List.{take-append-le}
use Rattle.std.proofs.lemmas.List.Elements.{All-weaker}
use Rattle.atomic_table.proofs.Lists.{at_longer}
use Rattle.lw_base.specs.declared.event_word.Flag.{Flag}
use Rattle.lw_base.specs.declared.event_word.Flag.TheVariants.{Writable, Rest, Ended, Fault, Closed, Listen, Idle}
use Rattle.lw_base.specs.declared.event_word.Word.{Word}
use Rattle.lw_base.specs.EventWord.{is_set}
use Rattle.lw_mbox.specs.declared.view.Change.{Change}
use Rattle.lw_mbox.specs.declared.view.Change.TheVariants.{Post, Set, Clear}
use Rattle.lw_mbox.specs.declared.view.Got.{Got}
use Rattle.lw_mbox.specs.declared.view.Steps.{Steps}
use Rattle.lw_mbox.specs.Changes.{items, posted, is_on, after_change, shows, Shows}
use Rattle.lw_mbox.specs.Trail.{Trail, start, saw, met, both, EachLoad, EachNote, IsFirst, StandsAt, IsClosed, IsOpen, IsNewer, NeverClosed}
use Rattle.lw_mbox.specs.History.{History, Bounded, Sound, IsRight}
use Rattle.lw_mbox.specs.Rule.{Lights}
use Rattle.std.proofs.lemmas.List.Sums.{fold_push}

agrees : (a b : Bool) → a ≡ b → beq a b ≡ true
agrees true b e = subst (λ (x : Bool). beq true x ≡ true) e refl
agrees false b e = subst (λ (x : Bool). beq false x ≡ true) e refl

and_true : (a b : Bool) → a ≡ true → b ≡ true → (a && b) ≡ true
and_true a b e f = subst (λ (x : Bool). (x && b) ≡ true) (sym e) f

module _ {T : Type 0} where
  pub items-append : (cs ds : List (Change T)) → items (cs ++ ds) ≡ items cs ++ items ds
  items-append [] ds = refl
  items-append (Post x ∷ cs) ds = ap (λ (l : List T). x ∷ l) (items-append cs ds)
  items-append (Set f ∷ cs) ds = items-append cs ds
  items-append (Clear f ∷ cs) ds = items-append cs ds

  pub is_on-push : (f : Flag) (cs : List (Change T)) (c : Change T) → is_on f (cs ++ c ∷ []) ≡ after_change f (is_on f cs) c
  is_on-push f cs c = fold_push (after_change f) false cs c

  -- the word of now shows all changes
  pub lit : (cs : List (Change T)) (w : Word) → w.posted ≡ posted cs → Lights cs w.flags → Shows cs w
  lit cs w e l = let one = λ (f : Flag) (n : f ≢ Rest). agrees (is_set f w.flags) (is_on f cs) (l f n) in
      and_true _ _ (eq-eqb w.posted (posted cs) e) (and_true _ _ (one Writable (λ p. cc)) (and_true _ _ (one Ended (λ p. cc)) (and_true _ _ (one Fault (λ p. cc)) (and_true _ _ (one Closed (λ p. cc)) (and_true _ _ (one Listen (λ p. cc)) (and_true _ _ (one Idle (λ p. cc)) refl))))))

  search_up : (cs : List (Change T)) (w : Word) (k q : ℕ) → q + k ≡ length cs → Shows cs w → (p : ℕ) × IsFirst cs q w p
  search_up cs w zero q e s = (q, record { after = omega arith; within = omega arith; shown = subst (λ (l : List (Change T)). Shows l w) (sym (take_all q cs (omega arith))) s; least = λ n a b. absurd (omega arith) })
  search_up cs w (suc k) q e s = ⊎_elim (λ here. (q, record { after = omega arith; within = omega arith; shown = here; least = λ n a b. absurd (omega arith) }))
      (λ not_here. let r = search_up cs w k (suc q) (omega arith) s in let f = r.1 in let after = f.after in (
        r.0,
        record {
          after = omega arith;
          within = f.within;
          shown = f.shown;
          least = λ n a b s'. ⊎_elim (λ (e' : n ≡ q). false≢true (sym not_here ∙ (ap (λ (m : ℕ). shows (take m cs) w) (sym e') ∙ s'))) (λ ne. f.least n (omega arith) b s') (cases_eq n q);
        },
      ))
      (cases_Bool (shows (take q cs) w))

  pub first_shown : (cs : List (Change T)) (w : Word) (q : ℕ) → q ≤ length cs → Shows cs w → (p : ℕ) × IsFirst cs q w p
  first_shown cs w q le s = search_up cs w (length cs - q) q (omega arith) s

  pub stands_within : (cs : List (Change T)) (t : Trail) (p : ℕ) → StandsAt cs t p → p ≤ length cs
  stands_within cs start p h = omega arith
  stands_within cs (saw t w) p h = let f = h.1.1 in f.within
  stands_within cs (met t n closed) p h = let a = stands_within cs t h.0 h.1.0 in let b = h.1.1 in let c = h.1.2 in omega arith
  stands_within cs (both t u) p h = let a = stands_within cs t h.0 h.1.1.0 in let b = stands_within cs u h.1.0 h.1.1.1 in let c = h.1.1.2 in omega arith

  first_more : (cs ds : List (Change T)) (q p : ℕ) (w : Word) → IsFirst cs q w p → IsFirst (cs ++ ds) q w p
  first_more cs ds q p w f = let within = f.within in let long = length-append cs ds in record {
    after = f.after;
    within = omega arith;
    shown = subst (λ (l : List (Change T)). Shows l w) (sym (take-append-le p cs ds within)) f.shown;
    least = λ n a b s. f.least n a b (subst (λ (l : List (Change T)). Shows l w) (take-append-le n cs ds (omega arith)) s);
  }

  -- a place stays as changes are added
  pub stands_more : (cs ds : List (Change T)) (t : Trail) (p : ℕ) → StandsAt cs t p → StandsAt (cs ++ ds) t p
  stands_more cs ds start p h = h
  stands_more cs ds (saw t w) p h = (h.0, (stands_more cs ds t h.0 h.1.0, first_more cs ds h.0 p w h.1.1))
  stands_more cs ds (met t n closed) p h = let long = length-append cs ds in let b = h.1.1 in (h.0, (stands_more cs ds t h.0 h.1.0, omega arith, h.1.2))
  stands_more cs ds (both t u) p h = (h.0, (h.1.0, (stands_more cs ds t h.0 h.1.1.0, stands_more cs ds u h.1.0 h.1.1.1, h.1.1.2)))

pub each_weaker : (P Q : Word → Type 0) → ((w : Word) → P w → Q w) → (t : Trail) → EachLoad P t → EachLoad Q t
each_weaker P Q f start h = tt
each_weaker P Q f (saw t w) h = (each_weaker P Q f t h.0, f w h.1)
each_weaker P Q f (met t n closed) h = each_weaker P Q f t h
each_weaker P Q f (both t u) h = (each_weaker P Q f t h.0, each_weaker P Q f u h.1)

pub notes_weaker : (P Q : Bool → Type 0) → ((b : Bool) → P b → Q b) → (t : Trail) → EachNote P t → EachNote Q t
notes_weaker P Q f start h = tt
notes_weaker P Q f (saw t w) h = notes_weaker P Q f t h
notes_weaker P Q f (met t n closed) h = (notes_weaker P Q f t h.0, f closed h.1)
notes_weaker P Q f (both t u) h = (notes_weaker P Q f t h.0, notes_weaker P Q f u h.1)

-- what is older than a word without CLOSED has none
pub never_closed : (t : Trail) (w : Word) → IsNewer t w → IsOpen w → NeverClosed t
never_closed t w newer shut = (
  each_weaker _ IsOpen (λ v k. ⊎_elim (λ (e : is_set Closed v.flags ≡ true). absurd (false≢true (sym shut ∙ (k.2 e).0))) (λ e. e) (cases_Bool (is_set Closed v.flags))) t newer.0,
  notes_weaker _ (λ (b : Bool). b ≡ false) (λ b k. ⊎_elim (λ (e : b ≡ true). absurd (false≢true (sym shut ∙ k e))) (λ e. e) (cases_Bool b)) t newer.1,
)

-- a history that went on
pub record Later {T : Type 0} (h h' : History T) : Type 0 where
  pub more : List (Change T)
  pub grown : h'.changes ≡ h.changes ++ more
  pub claims : h.claimed ≤ h'.claimed
  pub fetches : h.fetched ≤ h'.fetched
  pub shut : is_on Closed h.changes ≡ true → (is_on Closed h'.changes ≡ true) × (posted h'.changes ≡ posted h.changes) × (h'.fetched ≡ h.fetched)
  pub rests : h.rested ≡ true → h'.rested ≡ true

module _ {T : Type 0} where
  pub same_time : (h : History T) → (claimed fetched : ℕ) (rested : Bool) → h.claimed ≤ claimed → h.fetched ≤ fetched → (is_on Closed h.changes ≡ true → fetched ≡ h.fetched) → (h.rested ≡ true → rested ≡ true)
      → Later h record { changes = h.changes; claimed = claimed; fetched = fetched; rested = rested }
  same_time h c f r a b d e = record { more = []; grown = sym (Rattle.std.proofs.Common.append-nil h.changes); claims = a; fetches = b; shut = λ z. (z, refl, d z); rests = e }

  pub posts_later : (h h' : History T) → Later h h' → posted h.changes ≤ posted h'.changes
  posts_later h h' l = let e : items h'.changes ≡ items h.changes ++ items l.more = ap items l.grown ∙ items-append h.changes l.more in let n = ap length e in omega (arith, length-append (items h.changes) (items l.more))

  pub bounded_later : (h h' : History T) → Later h h' → (w : Word) → Bounded h w → Bounded h' w
  bounded_later h h' l w b = let p = posts_later h h' l in let b₀ = b.posts in let b₁ = b.claims in let l₁ = l.claims in let l₂ = l.fetches in record {
    posts = omega arith;
    claims = omega arith;
    opens = λ o. let x = b.opens o in omega arith;
    shut = λ c. let x = b.shut c in let y = l.shut x.0 in (y.0, x.1 ∙ sym y.1);
    rests = λ r. l.rests (b.rests r);
  }

  pub sound_later : (h h' : History T) → Later h h' → (t : Trail) → Sound h t → Sound h' t
  sound_later h h' l t s = let p = s.stands in record {
    stands = (p.0, subst (λ (cs : List (Change T)). StandsAt cs t p.0) (sym l.grown) (stands_more h.changes l.more t p.0 p.1));
    loads = each_weaker (Bounded h) (Bounded h') (bounded_later h h' l) t s.loads;
    notes = notes_weaker _ (λ (b : Bool). b ≡ true → is_on Closed h'.changes ≡ true) (λ b k e. (l.shut (k e)).0) t s.notes;
  }

  pub right_later : (h h' : History T) → Later h h' → (g : Got T) → IsRight h g → IsRight h' g
  right_later h h' l g r = let a = r.below in let l₁ = l.claims in let l₂ = l.fetches in record {
    below = omega arith;
    item = subst (λ (xs : List T). get_elem? xs g.ticket ≡ some g.item) (sym (ap items l.grown ∙ items-append h.changes l.more)) (at_longer (items h.changes) (items l.more) g.ticket g.item r.item);
    fetches = λ e. let x = r.fetches e in omega arith;
    drains = λ e. let x = r.drains e in let y = l.shut x.0 in let x₁ = x.1 in let y₂ = y.2 in (y.0, omega arith);
  }

  pub all_sound_later : (h h' : History T) → Later h h' → (ss : List Steps) → All (λ s. Sound h s.met) ss → All (λ s. Sound h' s.met) ss
  all_sound_later h h' l ss a = All-weaker (λ (s : Steps). Sound h s.met) (λ s. Sound h' s.met) (λ s. sound_later h h' l s.met) ss a

  pub all_right_later : (h h' : History T) → Later h h' → (gs : List (Got T)) → All (IsRight h) gs → All (IsRight h') gs
  all_right_later h h' l gs a = All-weaker (IsRight h) (IsRight h') (right_later h h' l) gs a

  -- nothing in a sound trail is newer than a word with all posts, all claims and the CLOSED of now
  pub newer_now : (h : History T) (w : Word) → w.posted ≡ posted h.changes → w.claimed ≡ h.claimed → is_set Closed w.flags ≡ is_on Closed h.changes → (t : Trail) → Sound h t → IsNewer t w
  newer_now h w p c closed t s = (
    each_weaker (Bounded h) (λ v. (v.posted ≤ w.posted) × (v.claimed ≤ w.claimed) × (IsClosed v → IsClosed w × (v.posted ≡ w.posted))) (λ v k. let k₀ = k.posts in let k₁ = k.claims in
        (omega arith, omega arith, λ e. let z = k.shut e in (closed ∙ z.0, z.1 ∙ sym p))) t s.loads,
    notes_weaker _ (λ (b : Bool). b ≡ true → IsClosed w) (λ b k e. closed ∙ k e) t s.notes,
  )
