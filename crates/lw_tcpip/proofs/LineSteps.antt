-- What holds of a line after each of its messages.
use Rattle.std.proofs.Common.{◌≡◌, ◌≢◌, ℕ, ◌+◌, ◌<◌, ◌≤◌, max, min, List, [], ◌∷◌, ◌++◌, length, Bool, true, false, ◌||◌, refl, ap, sym, ◌∙◌, subst, arith, append-nil, length-append}
use Rattle.std.proofs.lemmas.List.Elements.{filter_map-append}
use Rattle.tcpip_mbox.specs.Tokens.{Named, Sender}
use Rattle.reply_box.specs.Places.{Named as PlaceNamed, Side}
use Rattle.lw_tcpip.specs.declared.message.Task.{Task}
use Rattle.lw_tcpip.specs.declared.message.Task.TheVariants.{Frame, Call, Leave}
use Rattle.lw_tcpip.specs.declared.message.Service.{Service}
use Rattle.lw_tcpip.specs.declared.reply.LineKey.{LineKey}
use Rattle.lw_tcpip.specs.Results.{raised}
use Rattle.lw_tcpip.specs.Tasks.{frame_in, is_call, is_leave, frames_of, calls_in, has_left}
use Rattle.lw_tcpip.specs.Tokens.{IsLine}
use Rattle.lw_tcpip.proofs.Lists.{count_by-snoc, any-snoc, or-false, not_both, whole_by}

or-true : (b : Bool) → (b || true) ≡ true
or-true true = refl
or-true false = refl

module _ {C V : Type 0} where
  pub frames-frame : (ms : List (Task C V)) (v : V) → frames_of (ms ++ Frame v ∷ []) ≡ frames_of ms ++ v ∷ []
  frames-frame ms v = filter_map-append frame_in ms (Frame v ∷ [])

  pub frames-call : (ms : List (Task C V)) (line : ℕ) (c : C) (v : V) → frames_of (ms ++ Call line c v ∷ []) ≡ frames_of ms
  frames-call ms line c v = filter_map-append frame_in ms (Call line c v ∷ []) ∙ append-nil (frames_of ms)

  pub frames-leave : (ms : List (Task C V)) (line : ℕ) → frames_of (ms ++ Leave line ∷ []) ≡ frames_of ms
  frames-leave ms line = filter_map-append frame_in ms (Leave line ∷ []) ∙ append-nil (frames_of ms)

  pub calls-frame : (ms : List (Task C V)) (v : V) → calls_in (ms ++ Frame v ∷ []) ≡ calls_in ms
  calls-frame ms v = let e = count_by-snoc is_call ms (Frame v) in omega arith

  pub calls-call : (ms : List (Task C V)) (line : ℕ) (c : C) (v : V) → calls_in (ms ++ Call line c v ∷ []) ≡ calls_in ms + 1
  calls-call ms line c v = count_by-snoc is_call ms (Call line c v)

  pub calls-leave : (ms : List (Task C V)) (line : ℕ) → calls_in (ms ++ Leave line ∷ []) ≡ calls_in ms
  calls-leave ms line = let e = count_by-snoc is_call ms (Leave line) in omega arith

  pub left-frame : (ms : List (Task C V)) (v : V) → has_left (ms ++ Frame v ∷ []) ≡ has_left ms
  left-frame ms v = any-snoc is_leave ms (Frame v) ∙ or-false (has_left ms)

  pub left-call : (ms : List (Task C V)) (line : ℕ) (c : C) (v : V) → has_left (ms ++ Call line c v ∷ []) ≡ has_left ms
  left-call ms line c v = any-snoc is_leave ms (Call line c v) ∙ or-false (has_left ms)

  pub left-leave : (ms : List (Task C V)) (line : ℕ) → has_left (ms ++ Leave line ∷ []) ≡ true
  left-leave ms line = any-snoc is_leave ms (Leave line) ∙ or-true (has_left ms)

module _ {C V L : Type 0} (put : Sender (Task C V) (Service L)) (place : PlaceNamed (LineKey (Named (Service L)))) (waits : Side (LineKey (Named (Service L)))) (places refusals : ℕ) (h : IsLine put place waits places refusals) (stays : has_left put.sent ≡ false) where
  -- a question was asked, and its answer taken
  pub line_asked : (line : ℕ) (c : C) (v : V) → IsLine (record put { sent = put.sent ++ Call line c v ∷ []; known = max put.known (length (put.sent ++ Call line c v ∷ [])) }) place (record waits { count = waits.count + 1 }) places refusals
  line_asked line c v = let none = left-call put.sent line c v ∙ stays in let most = h.most in let asked = h.asked in let calls = calls-call put.sent line c v in let frames = ap length (frames-call put.sent line c v) in
      let more = length-append put.sent (Call line c v ∷ []) in
      record {
        own = h.own;
        place = h.place;
        asked = omega arith;
        known = λ l n. omega arith;
        frames = λ l n. omega arith;
        most = omega arith;
        last = λ l. absurd (not_both (sym none ∙ l));
        refused = λ some. let r = h.refused some in omega arith;
      }

  -- a frame was put in
  pub line_fed : put.number ≡ 0 → (v : V) → IsLine (record put { sent = put.sent ++ Frame v ∷ [] }) place waits places refusals
  line_fed first v = let none = left-frame put.sent v ∙ stays in let most = h.most in let calls = calls-frame put.sent v in let frames = ap length (frames-frame put.sent v) in
      let more = length-append put.sent (Frame v ∷ []) in let one = length-append (frames_of put.sent) (v ∷ []) in let before = h.frames stays first in
      record {
        own = h.own;
        place = h.place;
        asked = h.asked ∙ sym calls;
        known = λ l n. absurd (n first);
        frames = λ l n. omega arith;
        most = omega arith;
        last = λ l. absurd (not_both (sym none ∙ l));
        refused = λ some. let r = h.refused some in omega arith;
      }

  -- a frame was refused
  pub line_refused : put.number ≡ 0 → places + put.known ≤ length put.sent + put.others → IsLine put place waits places (raised refusals)
  line_refused first full = let before = h.frames stays first in
      record {
        own = h.own;
        place = h.place;
        asked = h.asked;
        known = h.known;
        frames = h.frames;
        most = h.most;
        last = h.last;
        refused = λ some. omega arith;
      }

  -- the last message was put in
  pub line_left : (line : ℕ) → IsLine (record put { sent = put.sent ++ Leave line ∷ [] }) place waits places refusals
  line_left line = let left = left-leave put.sent line in let most = h.most in let calls = calls-leave put.sent line in let frames = ap length (frames-leave put.sent line) in
      let more = length-append put.sent (Leave line ∷ []) in
      record {
        own = h.own;
        place = h.place;
        asked = h.asked ∙ sym calls;
        known = λ l n. absurd (not_both (sym l ∙ left));
        frames = λ l n. absurd (not_both (sym l ∙ left));
        most = omega arith;
        last = λ l. (put.sent, line, refl, stays);
        refused = λ some. let r = h.refused some in omega arith;
      }
