-- What contracts see of a line after each of its messages.
use Rattle.std.proofs.Common.{◌≡◌, ℕ, ◌+◌, max, List, [], ◌∷◌, ◌++◌, length, Bool, true, false, refl, ap, sym, ◌∙◌, subst}
use Rattle.tcpip_mbox.specs.Tokens.{Named, Sender}
use Rattle.reply_box.specs.Places.{Named as PlaceNamed, Side}
use Rattle.lw_tcpip.specs.declared.message.Task.{Task}
use Rattle.lw_tcpip.specs.declared.message.Task.TheVariants.{Frame, Call, Leave}
use Rattle.lw_tcpip.specs.declared.message.Service.{Service}
use Rattle.lw_tcpip.specs.declared.reply.LineKey.{LineKey}
use Rattle.lw_tcpip.specs.Tasks.{frames_of, has_left}
use Rattle.lw_tcpip.specs.Tokens.{LineSeen, IsLine}
use Rattle.lw_tcpip.proofs.LineSteps.{frames-frame, frames-call, frames-leave, left-frame, left-call, left-leave, line_asked, line_fed, line_left}

module _ {C V L : Type 0} where
  -- what contracts see of a line with this Put
  abbrev pub seen_of : Sender (Task C V) (Service L) → ℕ → ℕ → ℕ → Bool → LineSeen L V
  seen_of p places entries refusals lost = record { mbox = p.table; terms = p.key; places = places; number = p.number; others = p.others; frames = frames_of p.sent; entries = entries; refusals = refusals; left = has_left p.sent; lost = lost }

  module _ (put sent now : Sender (Task C V) (Service L)) (box : PlaceNamed (LineKey (Named (Service L)))) (waits got : Side (LineKey (Named (Service L)))) (places refusals : ℕ) (h : IsLine put box waits places refusals) (stays : has_left put.sent ≡ false) where
    module _ (line : ℕ) (c : C) (v : V) (given : List (Task C V)) (post : sent ≡ record put { sent = put.sent ++ Call line c v ∷ [] }) (meet : now ≡ record sent { known = max sent.known (length given) }) (whole : given ≡ put.sent ++ Call line c v ∷ []) where
      asked_put : now ≡ record put { sent = put.sent ++ Call line c v ∷ []; known = max put.known (length (put.sent ++ Call line c v ∷ [])) }
      asked_put = meet ∙ (ap (λ (p : Sender (Task C V) (Service L)). let q : Sender (Task C V) (Service L) = record p { known = max p.known (length given) } in q) post
          ∙ ap (λ (l : List (Task C V)). let q : Sender (Task C V) (Service L) = record put { sent = put.sent ++ Call line c v ∷ []; known = max put.known (length l) } in q) whole)

      pub asked_line : got ≡ record waits { count = waits.count + 1 } → IsLine now box got places refusals
      asked_line took = subst (λ (p : Sender (Task C V) (Service L)). IsLine p box got places refusals) (sym asked_put)
          (subst (λ (w : Side (LineKey (Named (Service L)))). IsLine (record put { sent = put.sent ++ Call line c v ∷ []; known = max put.known (length (put.sent ++ Call line c v ∷ [])) }) box w places refusals) (sym took) (line_asked put box waits places refusals h stays line c v))

      pub asked_seen : (entries : ℕ) (lost : Bool) (old : LineSeen L V) (entries' : ℕ) (lost' : Bool) → seen_of put places entries' refusals lost' ≡ old → seen_of now places entries refusals lost ≡ record old { entries = entries; lost = lost }
      asked_seen entries lost old entries' lost' is = ap (λ (p : Sender (Task C V) (Service L)). seen_of p places entries refusals lost) asked_put
          ∙ ((λ i. record (seen_of put places entries refusals lost) { frames = frames-call put.sent line c v i; left = left-call put.sent line c v i })
          ∙ ap (λ (l : LineSeen L V). let k : LineSeen L V = record l { entries = entries; lost = lost } in k) is)

    pub fed_line : put.number ≡ 0 → (v : V) → now ≡ record put { sent = put.sent ++ Frame v ∷ [] } → IsLine now box waits places refusals
    fed_line first v is = subst (λ (p : Sender (Task C V) (Service L)). IsLine p box waits places refusals) (sym is) (line_fed put box waits places refusals h stays first v)

    pub fed_seen : (v : V) → now ≡ record put { sent = put.sent ++ Frame v ∷ [] } → (entries : ℕ) (lost : Bool) (old : LineSeen L V) → seen_of put places entries refusals lost ≡ old → seen_of now places entries refusals lost ≡ record old { frames = old.frames ++ v ∷ [] }
    fed_seen v is entries lost old seen = ap (λ (p : Sender (Task C V) (Service L)). seen_of p places entries refusals lost) is
        ∙ ((λ i. record (seen_of put places entries refusals lost) { frames = frames-frame put.sent v i; left = left-frame put.sent v i })
        ∙ ap (λ (l : LineSeen L V). let k : LineSeen L V = record l { frames = l.frames ++ v ∷ [] } in k) seen)

    pub left_line : (line : ℕ) → now ≡ record put { sent = put.sent ++ Leave line ∷ [] } → IsLine now box waits places refusals
    left_line line is = subst (λ (p : Sender (Task C V) (Service L)). IsLine p box waits places refusals) (sym is) (line_left put box waits places refusals h stays line)

    pub left_seen : (line : ℕ) → now ≡ record put { sent = put.sent ++ Leave line ∷ [] } → (entries : ℕ) (lost : Bool) (old : LineSeen L V) → seen_of put places entries refusals lost ≡ old → seen_of now places entries refusals lost ≡ record old { left = true }
    left_seen line is entries lost old seen = ap (λ (p : Sender (Task C V) (Service L)). seen_of p places entries refusals lost) is
        ∙ ((λ i. record (seen_of put places entries refusals lost) { frames = frames-leave put.sent line i; left = left-leave put.sent line i })
        ∙ ap (λ (l : LineSeen L V). let k : LineSeen L V = record l { left = true } in k) seen)
