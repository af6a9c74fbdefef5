-- A question and its reply: what the line reads off it, and that the server's reply is one.
use Rattle.std.proofs.Common.{◌≡◌, ℕ, ◌+◌, List, [], ◌∷◌, ◌++◌, length, Bool, Result, refl, ap, sym, ◌∙◌, subst}
use Rattle.std.specs.declared.alloc.AllocError.{AllocError}
use mathlib.Core.List.{IsPrefix}
use Rattle.hist_lock.specs.Histories.{made_by}
use Rattle.hist_lock.specs.Callers.{Known, Begun}
use Rattle.tcpip_mbox.specs.declared.view.Letter.{Letter}
use Rattle.tcpip_mbox.specs.Letters.{sent_by}
use Rattle.tcpip_mbox.specs.Tokens.{Named, Noted, letter}
use Rattle.tcpip_mbox.proofs.Letters.{sent_by-same}
use Rattle.lw_tcpip.specs.declared.message.Task.{Task}
use Rattle.lw_tcpip.specs.declared.message.Task.TheVariants.{Frame, Call, Leave}
use Rattle.lw_tcpip.specs.declared.message.Service.{Service}
use Rattle.lw_tcpip.specs.declared.reply.Reply.{Reply}
use Rattle.lw_tcpip.specs.declared.reply.LineKey.{LineKey}
use Rattle.lw_tcpip.specs.Tasks.{is_call, frames_of, calls_in}
use Rattle.lw_tcpip.specs.Replies.{IsMadeOf, IsAnswer, Answers}
use Rattle.lw_tcpip.proofs.Lists.{same_end}
use Rattle.lw_tcpip.proofs.LineSteps.{frames-call}
use Rattle.lw_tcpip.proofs.Seats.{taken-call}

module _ {C V : Type 0} where
  same_caller : (m n : ℕ) (c d : C) (v w : V) → Call m c v ≡ Call n d w → c ≡ d
  same_caller m n c d v w e = cc

  same_event : (m n : ℕ) (c d : C) (v w : V) → Call m c v ≡ Call n d w → v ≡ w
  same_event m n c d v w e = cc

module _ {O E S T V R : Type 0} (state : O → S) (tag : O → T) (by : E → ℕ) (same : V → V → Type 0) (tells : T → E → V → R → Type 0) (steps : S → E → S → Type 0) where
  module _ (key : LineKey (Named (Service (Begun O)))) (n : ℕ) (r : Reply (Known O E) R V (Noted (Task (Known O E) V))) (h : Answers state tag by same tells steps key n r)
      (number : ℕ) (sent : List (Task (Known O E) V)) (c : Known O E) (v : V) (at : key.line ≡ number) (count : n ≡ calls_in sent)
      (p : IsPrefix (sent_by number r.note.given) (sent ++ Call number c v ∷ [])) where
    -- the reply was made right after this question was taken
    whole : (h.earlier ≡ sent) × (Call key.line h.who h.event ≡ Call number c v)
    whole = same_end is_call h.earlier sent (Call key.line h.who h.event) (Call number c v) p.0 refl (h.place ∙ count)
        (ap (λ (l : List (Task (Known O E) V)). l ++ p.0) (sym h.asked ∙ ap (λ (k : ℕ). sent_by k r.note.given) at) ∙ p.1)

    pub given_whole : sent_by number r.note.given ≡ sent ++ Call number c v ∷ []
    given_whole = ap (λ (k : ℕ). sent_by k r.note.given) (sym at) ∙ (h.asked ∙ (λ i. whole.0 i ++ whole.1 i ∷ []))

    pub answer_to : IsAnswer state tag by same tells steps key.mbox.value.key.lock.value.start c v r.caller r.result
    answer_to = subst (λ (d : Known O E). IsAnswer state tag by same tells steps key.mbox.value.key.lock.value.start d v r.caller r.result) (same_caller key.line number h.who c h.event v whole.1)
        (subst (λ (w : V). IsAnswer state tag by same tells steps key.mbox.value.key.lock.value.start h.who w r.caller r.result) (same_event key.line number h.who c h.event v whole.1) h.answer)

    pub fed_to : number ≡ 0 → IsMadeOf (tells (tag key.mbox.value.key.lock.value.start)) (made_by by key.mbox.value.key.server r.caller.seen) (frames_of sent) r.lost
    fed_to first = subst (λ (l : List V). IsMadeOf (tells (tag key.mbox.value.key.lock.value.start)) (made_by by key.mbox.value.key.server r.caller.seen) l r.lost)
        (ap (λ (k : ℕ). frames_of (sent_by k r.note.given)) (sym first) ∙ (ap frames_of given_whole ∙ frames-call sent number c v)) h.fed

    -- the same by what the line knows of the mailbox
    pub told : (terms : Service (Begun O)) → key.mbox.value.key ≡ terms → IsAnswer state tag by same tells steps terms.lock.value.start c v r.caller r.result
        × (number ≡ 0 → IsMadeOf (tells (tag terms.lock.value.start)) (made_by by terms.server r.caller.seen) (frames_of sent) r.lost)
    told terms is = subst (λ (s : Service (Begun O)). IsAnswer state tag by same tells steps s.lock.value.start c v r.caller r.result
        × (number ≡ 0 → IsMadeOf (tells (tag s.lock.value.start)) (made_by by s.server r.caller.seen) (frames_of sent) r.lost)) is (answer_to, fed_to)

  -- what the server gives is a reply to the question that it took
  pub answers_made : (key : LineKey (Named (Service (Begun O)))) (terms : Service (Begun O)) (start : O) (n count line : ℕ) (given : List (Letter (Task (Known O E) V))) (c : Known O E) (v : V) (back : Known O E) (result : Result R (AllocError × V))
      (note : Noted (Task (Known O E) V)) (lost : Bool) (mine : List E) → note.table ≡ key.mbox.value.table → key.mbox.value.key ≡ terms → terms.lock.value.start ≡ start → key.line ≡ n → line ≡ n → count ≡ calls_in (sent_by n given) →
      note.given ≡ given ++ letter n (Call line c v) ∷ [] → IsAnswer state tag by same tells steps start c v back result → made_by by terms.server back.seen ≡ mine → IsMadeOf (tells (tag start)) mine (frames_of (sent_by 0 given)) lost →
      Answers state tag by same tells steps key count (record { caller = back; result = result; lost = lost; note = note })
  answers_made key terms start n count line given c v back result note lost mine table is begun at own counts noted answer heard made = let from : key.mbox.value.key.lock.value.start ≡ start = ap (λ (s : Service (Begun O)). s.lock.value.start) is ∙ begun in
      record {
        earlier = sent_by n given;
        who = c;
        event = v;
        table = table;
        asked = ap (λ (k : ℕ). sent_by k note.given) at ∙ (ap (λ (l : List (Letter (Task (Known O E) V))). sent_by n l) noted ∙ (sent_by-same n given (letter n (Call line c v)) refl ∙ ap (λ (k : ℕ). sent_by n given ++ Call k c v ∷ []) (own ∙ sym at)));
        place = sym counts;
        answer = subst (λ (o : O). IsAnswer state tag by same tells steps o c v back result) (sym from) answer;
        fed = subst (λ (o : O). IsMadeOf (tells (tag o)) (made_by by key.mbox.value.key.server back.seen) (frames_of (sent_by 0 note.given)) lost) (sym from)
            (subst (λ (l : List V). IsMadeOf (tells (tag start)) (made_by by key.mbox.value.key.server back.seen) l lost) (sym (ap (λ (l : List (Letter (Task (Known O E) V))). frames_of (sent_by 0 l)) noted ∙ taken-call given n line c v))
            (subst (λ (es : List E). IsMadeOf (tells (tag start)) es (frames_of (sent_by 0 given)) lost) (sym (ap (λ (s : Service (Begun O)). made_by by s.server back.seen) is ∙ heard)) made));
      }
