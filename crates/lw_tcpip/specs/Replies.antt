-- Replies: what they say of the question that they answer.
use Rattle.std.specs.Prelude.{◌≡◌, ℕ, ◌<◌, Bool, MatchBool, List, [], ◌∷◌, ◌++◌, length, Result, IfOk, IfErr}
use Rattle.std.specs.declared.alloc.AllocError.{AllocError}
use Rattle.std.specs.List.{AllZip}
use mathlib.Core.List.{IsPrefix}
use Rattle.hist_lock.specs.Histories.{made_by}
use Rattle.hist_lock.specs.Callers.{Known, Begun, IsSameCaller, Extends, HasHistory}
use Rattle.tcpip_mbox.specs.Letters.{sent_by}
use Rattle.tcpip_mbox.specs.Tokens.{Named, Noted}
use Rattle.lw_tcpip.specs.declared.message.Task.{Task}
use Rattle.lw_tcpip.specs.declared.message.Task.TheVariants.{Call}
use Rattle.lw_tcpip.specs.declared.message.Service.{Service}
use Rattle.lw_tcpip.specs.declared.reply.Reply.{Reply}
use Rattle.lw_tcpip.specs.declared.reply.LineKey.{LineKey}
use Rattle.lw_tcpip.specs.Tasks.{frames_of, calls_in}

-- there are as many entries as events, and each tells the event at its place with some reply
abbrev pub Each : {E V R : Type 0} → (E → V → R → Type 0) → List E → List V → Type 0
Each {E} {V} {R} tells es vs = AllZip (λ (e : E) (v : V). (r : R) × tells e v r) es vs

-- there is one entry more, which tells the event with some reply
abbrev pub AddsEntry : {E V R : Type 0} → (E → V → R → Type 0) → List E → V → List E → Type 0
AddsEntry {E} {V} {R} tells before v after = (e : E) × (r : R) × (after ≡ before ++ e ∷ []) × tells e v r

-- each entry tells the frame at its place; where a frame was given up there are fewer entries than frames
abbrev pub IsMadeOf : {E V R : Type 0} → (E → V → R → Type 0) → List E → List V → Bool → Type 0
IsMadeOf tells es vs lost = MatchBool lost (length es < length vs) (Each tells es vs)

module _ {O E S T V R : Type 0} (state : O → S) (tag : O → T) (by : E → ℕ) (same : V → V → Type 0) (tells : T → E → V → R → Type 0) (steps : S → E → S → Type 0) where
  -- the caller made one entry, which tells the event and the reply; or it made none, and an event came back that is the same
  pub record IsAnswer (start : O) (who : Known O E) (event : V) (back : Known O E) (r : Result R (AllocError × V)) : Type 0 where
    pub caller : IsSameCaller who back
    pub ok : IfOk r (λ x. Extends by (tells (tag start)) who event x back)
    pub err : IfErr r (λ x. same event x.1 × IsPrefix who.seen back.seen × (back.mine ≡ who.mine))
    pub history : HasHistory state by steps start back

  -- The reply was made when the question with so many before it was the last message taken of its line. It is the answer to that question,
  -- and what the caller then knows of the entries of the tcpip thread is what came of the frames
  pub record Answers (key : LineKey (Named (Service (Begun O)))) (n : ℕ) (r : Reply (Known O E) R V (Noted (Task (Known O E) V))) : Type 0 where
    pub earlier : List (Task (Known O E) V)
    pub who : Known O E
    pub event : V
    pub table : r.note.table ≡ key.mbox.value.table
    pub asked : sent_by key.line r.note.given ≡ earlier ++ Call key.line who event ∷ []
    pub place : calls_in earlier ≡ n
    pub answer : IsAnswer key.mbox.value.key.lock.value.start who event r.caller r.result
    pub fed : IsMadeOf (tells (tag key.mbox.value.key.lock.value.start)) (made_by by key.mbox.value.key.server r.caller.seen) (frames_of (sent_by 0 r.note.given)) r.lost
