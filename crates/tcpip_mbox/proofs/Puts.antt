-- The Puts of a new mailbox.
use Rattle.std.proofs.Common.{◌≡◌, ℕ, ◌+◌, List, [], ◌∷◌, ◌++◌, length, ap, ◌∙◌, arith, Option}
use Rattle.atomic_table.specs.Seated.{TableId}
use Rattle.crossbeam_queue.specs.Passes.{Pass, view}
use Rattle.tcpip_mbox.specs.declared.view.Letter.{Letter}
use Rattle.tcpip_mbox.specs.declared.view.View.{View}
use Rattle.tcpip_mbox.specs.Views.{putter}
use Rattle.tcpip_mbox.specs.Tokens.{Sender, fresh, sender_at, AreNumbered}

module _ {M K : Type 0} (table : TableId) (key : Option K) where
  pub AreNumbered-push : (n : ℕ) (ps : List (Sender M K)) (p : Sender M K) → AreNumbered table key n ps → p ≡ fresh table key (n + length ps) 0 → AreNumbered table key n (ps ++ p ∷ [])
  AreNumbered-push n [] p h e = (e ∙ ap (λ (k : ℕ). fresh table key k 0) (omega arith), tt)
  AreNumbered-push n (q ∷ qs) p h e = (h.0, AreNumbered-push (n + 1) qs p h.1 (e ∙ ap (λ (k : ℕ). fresh table key k 0) (omega arith)))

  pub fresh_at : (p : Pass (Letter M) (View M K)) (number : ℕ) → p.table_id ≡ table → view p ≡ putter key number 0 [] 0 [] → sender_at p number ≡ fresh table key number 0
  fresh_at p number at is = ap (λ (v : View M K). let s : Sender M K = record { table = p.table_id; key = v.key; number = number; others = v.others; sent = v.sent; known = v.known } in s) is ∙ ap (λ (t : TableId). fresh t key number 0) at
