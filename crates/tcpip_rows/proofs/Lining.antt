-- Workers that are lined up, and put back, one after another.
use Rattle.std.proofs.Common.{◌≡◌, ◌+◌, ℕ, List, [], ◌∷◌, ◌++◌, All, false, length, Some, refl, sym, subst, ap, arith, length-append}
use Rattle.std.proofs.lemmas.List.Elements.{All-nil, All-cons, All-head, All-tail, All-push}
use Rattle.hist_lock.specs.Callers.{Known, Begun, IsCallerOf}
use Rattle.tcpip_mbox.specs.Tokens.{Named}
use Rattle.lw_tcpip.specs.declared.message.Service.{Service}
use Rattle.lw_tcpip.specs.Tokens.{LineSeen, IsLineOf, fresh_line, AreNumbered, AreLines}
use Rattle.tcpip_rows.specs.declared.counter.Counter.{Counter}
use Rattle.tcpip_rows.specs.declared.counter.Addition.{Addition}
use Rattle.tcpip_rows.specs.declared.worker.Worker.{Worker}
use Rattle.tcpip_rows.specs.declared.worker.Worker.TheVariants.{Asks, Calls}
use Rattle.tcpip_rows.specs.Workers.{IsReady, IsDone}

-- the line is of this mailbox, and hasn't left
abbrev pub IsOpen : Named (Service (Begun Counter)) → LineSeen (Begun Counter) ℕ → Type 0
IsOpen t l = IsLineOf t l × (l.left ≡ false)

module _ (t : Named (Service (Begun Counter))) where
  numbered_open : (n : ℕ) (ls : List (LineSeen (Begun Counter) ℕ)) → AreNumbered t n ls → All (IsOpen t) ls
  numbered_open n [] h = All-nil (IsOpen t)
  numbered_open n (l ∷ ls) h = All-cons (IsOpen t) l ls (subst (IsOpen t) (sym h.0) ((refl, refl, refl), refl)) (numbered_open (n + 1) ls h.1)

  pub lines_open : (n : ℕ) (ls : List (LineSeen (Begun Counter) ℕ)) → AreLines t n ls → All (IsOpen t) ls
  lines_open n [] h = absurd h
  lines_open n (l ∷ ls) h = All-cons (IsOpen t) l ls (subst (IsOpen t) (sym h.0) ((refl, refl, refl), refl)) (numbered_open 1 ls h.1)

  -- one worker more, who asks by the first of the lines that are left
  pub one_more_asks : (l : LineSeen (Begun Counter) ℕ) (ls left : List (LineSeen (Begun Counter) ℕ)) (ws more : List Worker) (c : Known Counter Addition)
      → left ≡ l ∷ ls → more ≡ ws ++ Asks l c ∷ [] → IsCallerOf t.key.lock.value c → All (IsOpen t) left → All (IsReady t) ws → All (IsReady t) more × All (IsOpen t) ls
  one_more_asks l ls left ws more c here there own opened ready =
      let now : All (IsOpen t) (l ∷ ls) = subst (λ (xs : List (LineSeen (Begun Counter) ℕ)). All (IsOpen t) xs) here opened in
      let first = All-head (IsOpen t) l ls now in
      (subst (λ (xs : List Worker). All (IsReady t) xs) (sym there) (All-push (IsReady t) ws (Asks l c) ready (first.0, first.1, own)), All-tail (IsOpen t) l ls now)

  -- one caller more, whose worker is put back
  pub one_more_back : (w : Worker) (ws left : List Worker) (cs more : List (Known Counter Addition)) (lock : Begun Counter) (c : Known Counter Addition)
      → left ≡ w ∷ ws → more ≡ cs ++ c ∷ [] → IsCallerOf lock c → All (IsDone t) left → All (IsCallerOf lock) cs → All (IsCallerOf lock) more × All (IsDone t) ws
  one_more_back w ws left cs more lock c here there own done all =
      let now : All (IsDone t) (w ∷ ws) = subst (λ (xs : List Worker). All (IsDone t) xs) here done in
      (subst (λ (xs : List (Known Counter Addition)). All (IsCallerOf lock) xs) (sym there) (All-push (IsCallerOf lock) cs c all own), All-tail (IsDone t) w ws now)

-- the first caller stays at the head
pub head_stays : {X : Type 0} (first c : X) (cs more : List X) → ((rest : List X) × (cs ≡ first ∷ rest)) → more ≡ cs ++ c ∷ [] → (rest : List X) × (more ≡ first ∷ rest)
head_stays first c cs more (rest, is) there = (rest ++ c ∷ [], rw (there, is) refl)
