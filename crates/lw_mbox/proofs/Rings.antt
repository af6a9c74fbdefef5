-- What each step does to the ring of places.
use Rattle.std.proofs.Common.{◌≡◌, ◌≢◌, ℕ, ◌+◌, ◌%◌, ◌<◌, ◌≤◌, Bool, true, false, List, [], ◌∷◌, ◌++◌, length, get_or, set, sym, refl, ap, ◌∙◌, subst, arith, ⊎_elim, Some, None, length-set, length-append, get_or-set_other, get_or-set_same, mod-lt}
use mathlib.Core.Option.{none, some}
use lib.ListN.{get_elem?}
use Rattle.std.proofs.lemmas.Bool.{cases_eq, cases_lt, false≢true}
use Rattle.std.proofs.Math.Nat.{add-mod_right}
use Rattle.atomic_table.proofs.Lists.{set_here, set_else, at_longer, at_last, one_turn}
use Rattle.lw_mbox.specs.Rule.{Ring, Marked, Homes}

-- places that show different tickets are different
apart : (ws : List ℕ) (k l : ℕ) → get_or ws (1 + k) 0 ≢ l → (n : ℕ) → get_or ws (1 + n) 0 ≡ l → k ≢ n
apart ws k l ne n e f = ne (ap (λ (j : ℕ). get_or ws (1 + j) 0) f ∙ e)

module _ {T : Type 0} where
  pub ring_word : (xs : List T) (c : ℕ) (p : Bool) (cap : ℕ) (ws : List ℕ) (hs : Homes T) (n : ℕ) → Ring xs c p cap ws hs → Ring xs c p cap (set ws 0 n) hs
  ring_word xs c p cap ws hs n r = let else = λ (j : ℕ). get_or-set_other ws 0 (1 + j) n 0 (λ e. omega arith) in record {
    wide = length-set ws 0 n ∙ r.wide;
    deep = r.deep;
    places = r.places;
    claims = r.claims;
    marks = λ j l. subst (Marked (length xs) cap j) (sym (else j)) (r.marks j l);
    queue = λ k a b. let q = r.queue k a b in (else (k % cap) ∙ q.0, q.1);
    room = λ j l a b. r.room j l (subst (λ (m : ℕ). length xs ≤ m) (else j) a) (λ e f. b e (else j ∙ f));
    ready = λ e. else (length xs % cap) ∙ r.ready e;
  }

  pub ring_takes : (xs : List T) (c cap : ℕ) (ws : List ℕ) (hs : Homes T) → Ring xs c false cap ws hs → get_or ws (1 + length xs % cap) 0 ≡ length xs
      → (get_elem? hs (length xs % cap) ≡ some (some None)) × Ring xs c true cap ws (set hs (length xs % cap) none)
  ring_takes xs c cap ws hs r here = let n : ℕ = length xs in let a : ℕ = n % cap in let places = r.places in let low : a < cap = mod-lt n places in (
    r.room a low (omega arith) (λ e. absurd (false≢true e)),
    record {
      wide = r.wide;
      deep = length-set hs a none ∙ r.deep;
      places = places;
      claims = r.claims;
      marks = r.marks;
      queue = λ k x y. let q = r.queue k x y in let q₀ = q.0 in (q.0, (q.1.0, (q.1.1.0, set_else hs a (k % cap) none (apart ws (k % cap) n (λ e. omega arith) a here) ∙ q.1.1.1)));
      room = λ j l x y. set_else hs a j none (apart ws j n (y refl) a here) ∙ r.room j l x (λ e. absurd (false≢true e));
      ready = λ _. here;
    },
  )

  pub ring_posts : (xs : List T) (x : T) (c cap : ℕ) (ws : List ℕ) (hs : Homes T) → Ring xs c true cap ws hs → Ring (xs ++ x ∷ []) c false cap ws (set hs (length xs % cap) (some (Some x)))
  ring_posts xs x c cap ws hs r = let n : ℕ = length xs in let a : ℕ = n % cap in let places = r.places in let low : a < cap = mod-lt n places in let here = r.ready refl in let claims = r.claims in let deep = r.deep in
      let long : length (xs ++ x ∷ []) ≡ n + 1 = length-append xs (x ∷ []) in record {
        wide = r.wide;
        deep = length-set hs a (some (Some x)) ∙ r.deep;
        places = places;
        claims = omega arith;
        marks = λ j l. let m : ℕ = get_or ws (1 + j) 0 in let k = r.marks j l in let k₀ = k.at_place in let k₁ = k.least in let k₂ = k.most in record {
          at_place = k.at_place;
          least = ⊎_elim (λ (e : m + cap ≡ n). let same : n % cap ≡ j = ap (λ (z : ℕ). z % cap) (sym e) ∙ (add-mod_right m cap ∙ k₀) in
              let shown : m ≡ n = sym (ap (λ (z : ℕ). get_or ws (1 + z) 0) same) ∙ here in absurd (omega arith)) (λ ne. omega arith) (cases_eq (m + cap) n);
          most = omega arith;
        };
        queue = λ k lo hi. ⊎_elim (λ (e : k ≡ n). let same : k % cap ≡ a = ap (λ (z : ℕ). z % cap) e in (
          ap (λ (z : ℕ). get_or ws (1 + z) 0) same ∙ (here ∙ sym e),
          (x, (at_last xs x k (sym e), ap (get_elem? (set hs a (some (Some x)))) same ∙ set_here hs a (some (Some x)) (omega arith))),
        ))
            (λ ne. let q = r.queue k lo (omega arith) in let q₀ = q.0 in (q.0, (q.1.0, (at_longer xs (x ∷ []) k q.1.0 q.1.1.0, set_else hs a (k % cap) (some (Some x)) (apart ws (k % cap) n (λ e. ne (sym q₀ ∙ e)) a here) ∙ q.1.1.1))))
            (cases_eq k n);
        room = λ j l b d. let m : ℕ = get_or ws (1 + j) 0 in let more : n < m = omega arith in set_else hs a j (some (Some x)) (apart ws j n (λ e. omega arith) a here) ∙ r.room j l (omega arith) (λ _ e. omega arith);
        ready = λ e. absurd (false≢true e);
      }

  pub ring_claims : (xs : List T) (c : ℕ) (p : Bool) (cap : ℕ) (ws : List ℕ) (hs : Homes T) → Ring xs c p cap ws hs → c < length xs → Ring xs (c + 1) p cap ws (set hs (c % cap) none)
  ring_claims xs c p cap ws hs r some_left = let a : ℕ = c % cap in let q = r.queue c (omega arith) some_left in let here = q.0 in record {
    wide = r.wide;
    deep = length-set hs a none ∙ r.deep;
    places = r.places;
    claims = omega arith;
    marks = r.marks;
    queue = λ k lo hi. let s = r.queue k (omega arith) hi in let s₀ = s.0 in (s.0, (s.1.0, (s.1.1.0, set_else hs a (k % cap) none (apart ws (k % cap) c (λ e. omega arith) a here) ∙ s.1.1.1)));
    room = λ j l b d. set_else hs a j none (apart ws j c (λ e. omega arith) a here) ∙ r.room j l b d;
    ready = r.ready;
  }

  pub ring_empties : (xs : List T) (c : ℕ) (p : Bool) (cap : ℕ) (ws : List ℕ) (hs : Homes T) (k : ℕ) → Ring xs c p cap ws hs → k < c → get_or ws (1 + k % cap) 0 ≡ k
      → Ring xs c p cap (set ws (1 + k % cap) (k + cap)) (set hs (k % cap) (some None))
  ring_empties xs c p cap ws hs k r below here = let n : ℕ = length xs in let a : ℕ = k % cap in let places = r.places in let low : a < cap = mod-lt k places in let claims = r.claims in let deep = r.deep in let wide = r.wide in
      let now = get_or-set_same ws (1 + a) (k + cap) 0 (omega arith) in let else = λ (j : ℕ) (d : j ≢ a). get_or-set_other ws (1 + a) (1 + j) (k + cap) 0 (λ e. d (omega arith)) in record {
        wide = length-set ws (1 + a) (k + cap) ∙ r.wide;
        deep = length-set hs a (some None) ∙ r.deep;
        places = places;
        claims = r.claims;
        marks = λ j l. ⊎_elim (λ (e : j ≡ a). let old = r.marks a low in let old₁ = old.least in let is : get_or (set ws (1 + a) (k + cap)) (1 + j) 0 ≡ k + cap = ap (λ (z : ℕ). get_or (set ws (1 + a) (k + cap)) (1 + z) 0) e ∙ now in
            let here₁ : k ≡ get_or ws (1 + a) 0 = sym here in
            subst (Marked n cap j) (sym is) record { at_place = add-mod_right k cap ∙ sym e; least = omega arith; most = omega arith })
            (λ d. subst (Marked n cap j) (sym (else j d)) (r.marks j l)) (cases_eq j a);
        queue = λ i lo hi. let q = r.queue i lo hi in let q₀ = q.0 in let d : i % cap ≢ a = apart ws (i % cap) k (λ e. omega arith) a here in (else (i % cap) d ∙ q.0, (q.1.0, (q.1.1.0, set_else hs a (i % cap) (some None) d ∙ q.1.1.1)));
        room = λ j l b d. ⊎_elim (λ (e : j ≡ a). ap (get_elem? (set hs a (some None))) e ∙ set_here hs a (some None) (omega arith))
            (λ ne. set_else hs a j (some None) ne ∙ r.room j l (subst (λ (m : ℕ). n ≤ m) (else j ne) b) (λ e f. d e (else j ne ∙ f))) (cases_eq j a);
        ready = λ e. let q = r.ready e in else (n % cap) (apart ws (n % cap) k (λ f. omega arith) a here) ∙ q;
      }

  -- the place of a ticket t that may be next there shows t, or the ticket before, whose item is not yet marked emptied
  pub still_full : (xs : List T) (c : ℕ) (p : Bool) (cap : ℕ) (ws : List ℕ) (hs : Homes T) (t : ℕ) → Ring xs c p cap ws hs → length xs ≤ t → t < length xs + cap → get_or ws (1 + t % cap) 0 ≢ t → get_or ws (1 + t % cap) 0 + cap ≡ t
  still_full xs c p cap ws hs t r lo hi ne = let n : ℕ = length xs in let places = r.places in let m : ℕ = get_or ws (1 + t % cap) 0 in let k = r.marks (t % cap) (mod-lt t places) in
      let k₀ = k.at_place in let k₁ = k.least in let k₂ = k.most in ⊎_elim (λ (l : m < t). ⊎_elim (λ (z : t < m + cap). absurd (ne (one_turn m t cap (omega arith) z k₀)))
      (λ z. one_turn (m + cap) t cap z (omega arith) (add-mod_right m cap ∙ k₀)) (cases_lt t (m + cap)))
      (λ (l : t ≤ m). absurd (ne (sym (one_turn t m cap l (omega arith) (sym k₀))))) (cases_lt m t)
