-- What holds of the server after each message.
use Rattle.std.proofs.Common.{◌≡◌, ◌≢◌, ℕ, ◌+◌, ◌<◌, ◌≤◌, All, List, [], ◌∷◌, ◌++◌, length, slice_get, slice_set, Option, Some, Bool, true, false, ◌||◌, refl, ap, sym, ◌∙◌, subst, arith, get_or, length-set}
use Rattle.std.proofs.lemmas.Option.{get_or_from_slice_get}
use Rattle.std.proofs.lemmas.List.Folds.{list_any-append}
use mathlib.Core.Logic.{dite}
use mathlib.Core.List.{IsPrefix}
use native.Mathlib.Decide.{ℕ_discrete}
use Rattle.atomic_table.specs.Seated.{TableId}
use Rattle.tcpip_mbox.specs.declared.view.Letter.{Letter}
use Rattle.tcpip_mbox.specs.Letters.{sent_by}
use Rattle.tcpip_mbox.specs.Tokens.{Named, Sender, Receiver, letter}
use Rattle.tcpip_mbox.proofs.Letters.{sent_by-same, sent_by-else}
use Rattle.reply_box.specs.Places.{Named as PlaceNamed, Side}
use Rattle.lw_tcpip.specs.declared.message.Task.{Task}
use Rattle.lw_tcpip.specs.declared.message.Task.TheVariants.{Frame, Call, Leave}
use Rattle.lw_tcpip.specs.declared.message.Service.{Service}
use Rattle.lw_tcpip.specs.declared.reply.LineKey.{LineKey}
use Rattle.lw_tcpip.specs.Tasks.{is_leave, frames_of, calls_in, has_left}
use Rattle.lw_tcpip.specs.Tokens.{SeatSeen, answered, IsSeat, AreSeats, IsServer, IsLine}
use Rattle.lw_tcpip.proofs.Lists.{get_set_same, get_set_other, get_within, whole_by, not_both, any-snoc}
use Rattle.lw_tcpip.proofs.LineSteps.{frames-frame, frames-call, frames-leave, calls-frame, calls-call, calls-leave, left-frame, left-call, left-leave}

true_or : (a b : Bool) → a ≡ true → (a || b) ≡ true
true_or a b e = ap (λ (x : Bool). x || b) e

module _ {C V : Type 0} where
  -- a line that has left stays so
  pub left-more : (line n : ℕ) (given : List (Letter (Task C V))) (m : Task C V) → has_left (sent_by line given) ≡ true → has_left (sent_by line (given ++ letter n m ∷ [])) ≡ true
  left-more line n given m left = dite (ℕ_discrete n line)
      (λ is. ap has_left (sent_by-same line given (letter n m) is) ∙ (any-snoc is_leave (sent_by line given) m ∙ true_or (has_left (sent_by line given)) (is_leave m) left))
      (λ no. ap has_left (sent_by-else line given (letter n m) no) ∙ left)

module _ {C V L : Type 0} (get : Receiver (Task C V) (Service L)) (seats : List (SeatSeen (LineKey (Named (Service L))))) (ended : Bool) (h : IsServer get seats ended) (n : ℕ) (low : n ≤ get.others) where
  -- the seat of the line n changed as its message says, and the others' lines sent nothing
  seats_step : (m : Task C V) (s t : SeatSeen (LineKey (Named (Service L)))) → slice_get seats n ≡ Some s → IsSeat get.table get.key n (calls_in (sent_by n (get.given ++ letter n m ∷ []))) (has_left (sent_by n (get.given ++ letter n m ∷ []))) t → AreSeats get.table get.key (get.given ++ letter n m ∷ []) (slice_set seats n t)
  seats_step m s t at new line u found = dite (ℕ_discrete line n)
      (λ is. subst (λ (k : ℕ). IsSeat get.table get.key k (calls_in (sent_by k (get.given ++ letter n m ∷ []))) (has_left (sent_by k (get.given ++ letter n m ∷ []))) u) (sym is) (subst (λ (v : SeatSeen (LineKey (Named (Service L)))). IsSeat get.table get.key n (calls_in (sent_by n (get.given ++ letter n m ∷ []))) (has_left (sent_by n (get.given ++ letter n m ∷ []))) v)
      (get_set_same seats t u n (subst (λ (k : ℕ). slice_get (slice_set seats n t) k ≡ Some u) is found)) new))
      (λ no. let old = h.each line u (get_set_other seats t u n line no found) in let same = sent_by-else line get.given (letter n m) (λ e. no (sym e)) in record {
        own = old.own;
        place = old.place;
        count = old.count ∙ ap calls_in (sym same);
        left = λ l. ap has_left same ∙ old.left l;
      })

  -- a question was taken and answered
  pub server_called : (line : ℕ) (c : C) (v : V) (s : SeatSeen (LineKey (Named (Service L)))) → slice_get seats n ≡ Some s → IsServer (record get { given = get.given ++ letter n (Call line c v) ∷ [] }) (slice_set seats n (answered s)) ended
  server_called line c v s at = let old = h.each n s at in let same = sent_by-same n get.given (letter n (Call line c v)) refl in record {
    many = length-set seats n (answered s) ∙ h.many;
    each = seats_step (Call line c v) s (answered s) at (record {
      own = old.own;
      place = old.place;
      count = (let count = old.count in let calls = ap calls_in same in let one = calls-call (sent_by n get.given) line c v in omega arith);
      left = λ l. left-more n n get.given (Call line c v) (old.left l);
    });
    ended = λ e i below. left-more i n get.given (Call line c v) (h.ended e i below);
  }

  -- a frame was taken
  pub server_fed : (v : V) → IsServer (record get { given = get.given ++ letter n (Frame v) ∷ [] }) seats ended
  server_fed v = record {
    many = h.many;
    each = λ line u found. let old = h.each line u found in record {
      own = old.own;
      place = old.place;
      count = dite (ℕ_discrete n line)
          (λ is. let e = ap calls_in (sent_by-same line get.given (letter n (Frame v)) is) ∙ calls-frame (sent_by line get.given) v in old.count ∙ sym e)
          (λ no. old.count ∙ ap calls_in (sym (sent_by-else line get.given (letter n (Frame v)) no)));
      left = λ l. left-more line n get.given (Frame v) (old.left l);
    };
    ended = λ e i below. left-more i n get.given (Frame v) (h.ended e i below);
  }

  -- a last message was taken
  pub server_left : (line : ℕ) (s : SeatSeen (LineKey (Named (Service L)))) (all : Bool) → slice_get seats n ≡ Some s → (all ≡ true → All (λ (t : SeatSeen (LineKey (Named (Service L)))). t.left ≡ true) (slice_set seats n (record s { left = true })))
      → IsServer (record get { given = get.given ++ letter n (Leave line) ∷ [] }) (slice_set seats n (record s { left = true })) all
  server_left line s all at whole = let old = h.each n s at in let same = sent_by-same n get.given (letter n (Leave line)) refl in
      let many = length-set seats n (record s { left = true }) ∙ h.many in
      let each : AreSeats get.table get.key (get.given ++ letter n (Leave line) ∷ []) (slice_set seats n (record s { left = true })) = seats_step (Leave line) s (record s { left = true }) at (record {
        own = old.own;
        place = old.place;
        count = old.count ∙ sym (ap calls_in same ∙ calls-leave (sent_by n get.given) line);
        left = λ l. ap has_left same ∙ left-leave (sent_by n get.given) line;
      }) in record {
        many = many;
        each = each;
        ended = λ e i below. let there = get_within (slice_set seats n (record s { left = true })) i (omega arith) in
            (each i there.0 there.1).left (ap (λ (t : SeatSeen (LineKey (Named (Service L)))). t.left) (sym (get_or_from_slice_get (slice_set seats n (record s { left = true })) i there.0 there.0 there.1)) ∙ whole e i there.0 (omega arith));
      }

module _ {C V : Type 0} where
  pub taken-frame : (given : List (Letter (Task C V))) (n : ℕ) (v : V) → n ≡ 0 → frames_of (sent_by 0 (given ++ letter n (Frame v) ∷ [])) ≡ frames_of (sent_by 0 given) ++ v ∷ []
  taken-frame given n v is = ap frames_of (sent_by-same 0 given (letter n (Frame v)) is) ∙ frames-frame (sent_by 0 given) v

  pub taken-call : (given : List (Letter (Task C V))) (n line : ℕ) (c : C) (v : V) → frames_of (sent_by 0 (given ++ letter n (Call line c v) ∷ [])) ≡ frames_of (sent_by 0 given)
  taken-call given n line c v = dite (ℕ_discrete n 0)
      (λ is. ap frames_of (sent_by-same 0 given (letter n (Call line c v)) is) ∙ frames-call (sent_by 0 given) line c v)
      (λ no. ap frames_of (sent_by-else 0 given (letter n (Call line c v)) no))

  pub taken-leave : (given : List (Letter (Task C V))) (n line : ℕ) → frames_of (sent_by 0 (given ++ letter n (Leave line) ∷ [])) ≡ frames_of (sent_by 0 given)
  taken-leave given n line = dite (ℕ_discrete n 0)
      (λ is. ap frames_of (sent_by-same 0 given (letter n (Leave line)) is) ∙ frames-leave (sent_by 0 given) line)
      (λ no. ap frames_of (sent_by-else 0 given (letter n (Leave line)) no))

  -- what was given of a line that has left is all that it put in
  pub gathered : (given : List (Letter (Task C V))) (n : ℕ) (sent before : List (Task C V)) (line : ℕ) → has_left (sent_by n given) ≡ true → IsPrefix (sent_by n given) sent → sent ≡ before ++ Leave line ∷ [] → has_left before ≡ false → sent_by n given ≡ sent
  gathered given n sent before line left p last none = whole_by is_leave (sent_by n given) before (Leave line) p.0 left none (p.1 ∙ last) ∙ sym last

  pub gathered_line : (given : List (Letter (Task C V))) (n : ℕ) (sent : List (Task C V)) → has_left (sent_by n given) ≡ true → IsPrefix (sent_by n given) sent → (has_left sent ≡ true → (before : List (Task C V)) × (line : ℕ) × (sent ≡ before ++ Leave line ∷ []) × (has_left before ≡ false)) → sent_by n given ≡ sent
  gathered_line given n sent left p last = let l = last (ap has_left (sym p.1) ∙ (list_any-append is_leave (sent_by n given) p.0 ∙ true_or (has_left (sent_by n given)) (has_left p.0) left)) in gathered given n sent l.0 l.1 left p l.2 l.3
