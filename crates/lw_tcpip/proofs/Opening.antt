-- Lines that are opened one after another.
use Rattle.std.proofs.Common.{◌≡◌, ◌≢◌, inl, inr, ℕ, zero, suc, false, ◌+◌, ◌-◌, ◌<◌, ◌≤◌, List, [], ◌∷◌, ◌++◌, length, slice_get, Option, Some, refl, ap, sym, ◌∙◌, subst, arith, length-append, add-zero}
use Rattle.tcpip_mbox.specs.Tokens.{Named, Sender, Receiver, fresh, ArePuts}
use Rattle.tcpip_mbox.specs.Tokens.{AreNumbered as ArePutsFrom}
use Rattle.lw_tcpip.specs.declared.message.Task.{Task}
use Rattle.lw_tcpip.specs.declared.message.Service.{Service}
use Rattle.lw_tcpip.specs.declared.reply.LineKey.{LineKey}
use Rattle.lw_tcpip.specs.Tokens.{LineSeen, SeatSeen, IsSeat, AreNew, IsServer, fresh_line, AreNumbered, AreLines}
use Rattle.lw_tcpip.proofs.Lists.{get_push, not_both}

-- the number that the line k of n is told of the others
abbrev pub others_at : ℕ → ℕ → ℕ
others_at n zero = n - 1
others_at n (suc k) = 0

module _ {C V L : Type 0} (t : Named (Service L)) (n : ℕ) where
  -- the Puts from the number k on
  abbrev pub PutsFrom : ℕ → List (Sender (Task C V) (Service L)) → Type 0
  PutsFrom k [] = Unit {0}
  PutsFrom k (p ∷ ps) = (p ≡ fresh t.table (Some t.key) k (others_at n k)) × PutsFrom (suc k) ps

module _ {V L : Type 0} (t : Named (Service L)) (n : ℕ) where
  -- the lines from the number k on
  abbrev pub LinesFrom : ℕ → List (LineSeen L V) → Type 0
  LinesFrom k [] = Unit {0}
  LinesFrom k (l ∷ ls) = (l ≡ fresh_line t k (others_at n k)) × LinesFrom (suc k) ls

nothing_there : {X : Type 0} (i : ℕ) (x : X) → slice_get [] i ≡ Some x → ⊥
nothing_there {X} zero x e = cc
nothing_there {X} (suc i) x e = cc

module _ {V L : Type 0} (t : Named (Service L)) (n : ℕ) where
  later_lines : (k : ℕ) (ls : List (LineSeen L V)) → LinesFrom t n (suc k) ls → AreNumbered t (suc k) ls
  later_lines k [] h = tt
  later_lines k (l ∷ ls) h = let e : suc k + 1 ≡ suc (suc k) = omega arith in (h.0, subst (λ (j : ℕ). AreNumbered t j ls) (sym e) (later_lines (suc k) ls h.1))

  pub lines_from : (ls : List (LineSeen L V)) → LinesFrom t n 0 ls → length ls ≡ n → 0 < n → AreLines t n ls
  lines_from [] h e some = absurd (omega arith)
  lines_from (l ∷ ls) h e some = (h.0, later_lines 0 ls h.1, e)

  pub line_pushed : (k : ℕ) (ls : List (LineSeen L V)) (l : LineSeen L V) → LinesFrom t n k ls → l ≡ fresh_line t (k + length ls) (others_at n (k + length ls)) → LinesFrom t n k (ls ++ l ∷ [])
  line_pushed k [] l h is = (is ∙ ap (λ (j : ℕ). fresh_line t j (others_at n j)) (add-zero k), tt)
  line_pushed k (d ∷ ls) l h is = (h.0, line_pushed (suc k) ls l h.1 (is ∙ ap (λ (j : ℕ). fresh_line t j (others_at n j)) (let e : k + length (d ∷ ls) ≡ suc k + length ls = omega arith in e)))

module _ {L : Type 0} (t : Named (Service L)) where
  pub seat_pushed : (ss : List (SeatSeen (LineKey (Named (Service L))))) (s : SeatSeen (LineKey (Named (Service L)))) → AreNew t.table (Some t.key) ss → IsSeat t.table (Some t.key) (length ss) 0 false s → AreNew t.table (Some t.key) (ss ++ s ∷ [])
  seat_pushed ss s h new line u found = elim (get_push ss s u line found) [ inl old ↦ h line u old | inr here ↦ subst (λ (k : ℕ). IsSeat t.table (Some t.key) k 0 false u) (sym here.0) (subst (λ (v : SeatSeen (LineKey (Named (Service L)))). IsSeat t.table (Some t.key) (length ss) 0 false v) here.1 new) ]

  none_seated : AreNew t.table (Some t.key) []
  none_seated line s found = absurd (nothing_there line s found)

module _ {C V L : Type 0} (t : Named (Service L)) (n : ℕ) where
  later_puts : (k : ℕ) (ps : List (Sender (Task C V) (Service L))) → ArePutsFrom t.table (Some t.key) (suc k) ps → PutsFrom t n (suc k) ps
  later_puts k [] h = tt
  later_puts k (p ∷ ps) h = let e : suc k + 1 ≡ suc (suc k) = omega arith in (h.0, later_puts (suc k) ps (subst (λ (j : ℕ). ArePutsFrom t.table (Some t.key) j ps) e h.1))

  pub puts_from : (ps : List (Sender (Task C V) (Service L))) → ArePuts t n ps → PutsFrom t n 0 ps
  puts_from [] h = absurd h
  puts_from (p ∷ ps) h = (h.0, later_puts 0 ps h.1)

  pub some_lines : (ps : List (Sender (Task C V) (Service L))) → ArePuts t n ps → 0 < n
  some_lines [] h = absurd h
  some_lines (p ∷ ps) h = let e = h.2 in omega arith

  -- what holds while so many lines were opened, and these Puts are left
  pub record Opened (all : ℕ) (lines : List (LineSeen L V)) (seats : List (SeatSeen (LineKey (Named (Service L))))) (rest : List (Sender (Task C V) (Service L))) : Type 0 where
    pub opened : LinesFrom t n 0 lines
    pub seated : AreNew t.table (Some t.key) seats
    pub many : length seats ≡ length lines
    pub left : PutsFrom t n (length lines) rest
    pub whole : length lines + length rest ≡ all

  pub put_fresh : (all : ℕ) (lines : List (LineSeen L V)) (seats : List (SeatSeen (LineKey (Named (Service L))))) (p : Sender (Task C V) (Service L)) (rest : List (Sender (Task C V) (Service L))) → Opened all lines seats (p ∷ rest) → p ≡ fresh t.table (Some t.key) p.number p.others
  put_fresh all lines seats p rest h = let e = h.left.0 in e ∙ ap (λ (q : Sender (Task C V) (Service L)). fresh t.table (Some t.key) q.number q.others) (sym e)

  pub opened_first : (ps : List (Sender (Task C V) (Service L))) → ArePuts t n ps → Opened (length ps) [] [] ps
  opened_first ps h = record { opened = tt; seated = none_seated t; many = refl; left = puts_from ps h; whole = omega arith }

  pub opened_next : (all : ℕ) (lines : List (LineSeen L V)) (seats : List (SeatSeen (LineKey (Named (Service L))))) (p : Sender (Task C V) (Service L)) (rest : List (Sender (Task C V) (Service L))) (l : LineSeen L V) (s : SeatSeen (LineKey (Named (Service L))))
      → Opened all lines seats (p ∷ rest) → l ≡ fresh_line t p.number p.others → IsSeat t.table (Some t.key) p.number 0 false s → Opened all (lines ++ l ∷ []) (seats ++ s ∷ []) rest
  opened_next all lines seats p rest l s h is new = let e = h.left.0 in let at : p.number ≡ length lines = ap (λ (q : Sender (Task C V) (Service L)). q.number) e in
      let more = length-append lines (l ∷ []) in let many = h.many in let whole = h.whole in
      let one : suc (length lines) ≡ length (lines ++ l ∷ []) = omega arith in
      record {
        opened = line_pushed t n 0 lines l h.opened (is ∙ (ap (λ (q : Sender (Task C V) (Service L)). fresh_line t q.number q.others) e ∙ ap (λ (j : ℕ). fresh_line t j (others_at n j)) (let z : length lines ≡ 0 + length lines = omega arith in z)));
        seated = seat_pushed t seats s h.seated (subst (λ (k : ℕ). IsSeat t.table (Some t.key) k 0 false s) (at ∙ sym many) new);
        many = omega (arith, length-append seats (s ∷ []));
        left = subst (λ (k : ℕ). PutsFrom t n k rest) one h.left.1;
        whole = omega arith;
      }

  pub opened_last : (ps : List (Sender (Task C V) (Service L))) (lines : List (LineSeen L V)) (seats : List (SeatSeen (LineKey (Named (Service L))))) (rest : List (Sender (Task C V) (Service L))) → ArePuts t n ps → n ≡ length ps → length rest ≡ 0 → Opened (length ps) lines seats rest
      → AreLines t n lines × AreNew t.table (Some t.key) seats × (length seats ≡ n)
  opened_last ps lines seats rest h e none o = let many = o.many in let whole = o.whole in
      (lines_from t n lines o.opened (omega arith) (some_lines ps h), o.seated, omega arith)

  pub puts_many : (ps : List (Sender (Task C V) (Service L))) → ArePuts t n ps → length ps ≡ n
  puts_many [] h = absurd h
  puts_many (p ∷ ps) h = h.2

  pub server_new : (get : Receiver (Task C V) (Service L)) (seats : List (SeatSeen (LineKey (Named (Service L))))) → get ≡ record { table = t.table; key = Some t.key; others = n - 1; given = []; back = [] } → 0 < n → length seats ≡ n → AreNew t.table (Some t.key) seats → IsServer get seats false
  server_new get seats is some many new = subst (λ (r : Receiver (Task C V) (Service L)). IsServer r seats false) (sym is) (record { many = omega arith; each = λ line s found. new line s found; ended = λ e. absurd (not_both e) })
