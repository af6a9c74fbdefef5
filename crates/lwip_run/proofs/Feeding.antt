-- What is known while frames are fed.
use Rattle.std.proofs.Common.{ℕ, ◌≡◌, ◌+◌, ◌++◌, ◌∙◌, List, [], ◌∷◌, suc, length, map, ap, sym, refl, arith, add-zero, append_assoc, append-nil}
use Rattle.std.proofs.lemmas.List.{length-append}
use Rattle.lw_events.specs.declared.event.Event.{Event}
use Rattle.lw_events.specs.declared.event.Event.TheVariants.{Frame}
use Rattle.lw_events.specs.declared.entry.Entry.{Entry}
use Rattle.lw_input.specs.State.{State}
use Rattle.lw_layers.specs.Step.{step}
use Rattle.lw_layers.specs.History.{entry_of, granted, state_after}
use Rattle.lw_transcript.specs.declared.lines.Evidence.{Evidence}
use Rattle.lw_transcript.specs.declared.lines.Evidence.TheVariants.{At}
use Rattle.call_types.specs.declared.outcome.Outcome.TheVariants.{Fed}
use Rattle.lw_rules.specs.Schedule.{Configuration, entries_of, made, named_from}
use Rattle.lwip_run.specs.Plain.{FedAll, TakesFrame}

-- some of the frames were fed
pub record Feeding (actor : ℕ) (before now : Configuration) (seen_before seen_now : List Evidence) : Type 0 where
  pub done : List (List ℕ)
  pub split : before.left ≡ done ++ now.left
  pub state : now.state ≡ state_after before.state (map Frame done)
  pub entries : now.entries ≡ before.entries ++ entries_of before.state actor (map Frame done)
  pub seen : seen_now ≡ seen_before ++ named_from (length before.entries) done

-- one event more leaves the state of the step of that event
state_more : (s : State) (events : List (Event (List ℕ))) (event : Event (List ℕ)) → state_after s (events ++ event ∷ []) ≡ (step (state_after s events) event granted).state
state_more s [] event = refl
state_more s (e ∷ events) event = state_more (step s e granted).state events event

-- one event more has one entry more
entries_more : (s : State) (actor : ℕ) (events : List (Event (List ℕ))) (event : Event (List ℕ)) → entries_of s actor (events ++ event ∷ []) ≡ entries_of s actor events ++ entry_of (state_after s events) actor event granted ∷ []
entries_more s actor [] event = refl
entries_more s actor (e ∷ events) event =
    ap (λ (es : List Entry). entry_of s actor e granted ∷ es) (entries_more (step s e granted).state actor events event)

-- frames as events, one more
frames_more : (frames : List (List ℕ)) (frame : List ℕ) → map Frame (frames ++ frame ∷ []) ≡ map Frame frames ++ Frame frame ∷ []
frames_more [] frame = refl
frames_more (f ∷ frames) frame = ap (λ (events : List (Event (List ℕ))). Frame f ∷ events) (frames_more frames frame)

-- one frame more has one name more
named_more : (n : ℕ) (frames : List (List ℕ)) (frame : List ℕ) → named_from n (frames ++ frame ∷ []) ≡ named_from n frames ++ At (n + length frames + 1) ∷ []
named_more n [] frame = ap (λ k. At (k + 1) ∷ []) (sym (add-zero n))
named_more n (f ∷ frames) frame =
    ap (λ (names : List Evidence). At (n + 1) ∷ names)
    (named_more (n + 1) frames frame ∙ ap (λ k. named_from (n + 1) frames ++ At k ∷ []) (omega arith))

-- each frame has its entry
length_fed : (s : State) (actor : ℕ) (frames : List (List ℕ)) → length (entries_of s actor (map Frame frames)) ≡ length frames
length_fed s actor [] = refl
length_fed s actor (frame ∷ frames) = ap suc (length_fed (step s (Frame frame) granted).state actor frames)

-- nothing was fed yet
pub begins_feeding : (actor : ℕ) (c : Configuration) (seen : List Evidence) → Feeding actor c c seen seen
begins_feeding actor c seen =
    record { done = []; split = refl; state = refl; entries = sym (append-nil c.entries); seen = sym (append-nil seen) }

-- one frame more was fed
pub feeds_one : (actor : ℕ) (before now taken after : Configuration) (seen_before seen_now seen_after : List Evidence) (frame : List ℕ) (number : ℕ) → Feeding actor before now seen_before seen_now → TakesFrame now taken frame → after ≡ made taken actor (Frame frame ∷ []) → number ≡ length taken.entries + 1 → seen_after ≡ seen_now ++ At number ∷ [] → Feeding actor before after seen_before seen_after
feeds_one actor before now taken after seen_before seen_now seen_after frame number so_far takes makes numbered sees =
    let events = map Frame so_far.done in
    let kept : taken.entries ≡ now.entries = ap (λ (c : Configuration). c.entries) takes.rest in
    let state_kept : taken.state ≡ now.state = ap (λ (c : Configuration). c.state) takes.rest in
    let s : State = state_after before.state events in
    let is_state : taken.state ≡ s = state_kept ∙ so_far.state in
    let left_is : after.left ≡ taken.left = ap (λ (c : Configuration). c.left) makes in
    let long : length taken.entries ≡ length before.entries + length so_far.done =
    ap length (kept ∙ so_far.entries)
    ∙ (length-append before.entries (entries_of before.state actor events)
    ∙ ap (λ k. length before.entries + k) (length_fed before.state actor so_far.done)) in
    record {
      done = so_far.done ++ frame ∷ [];
      split = so_far.split
          ∙ ap (λ (fs : List (List ℕ)). so_far.done ++ fs) (takes.first ∙ ap (λ (fs : List (List ℕ)). frame ∷ fs) (sym left_is))
          ∙ sym (append_assoc so_far.done (frame ∷ []) after.left);
      state = ap (λ (c : Configuration). c.state) makes
          ∙ ap (λ (t : State). (step t (Frame frame) granted).state) is_state
          ∙ sym (state_more before.state events (Frame frame))
          ∙ ap (λ (es : List (Event (List ℕ))). state_after before.state es) (sym (frames_more so_far.done frame));
      entries = ap (λ (c : Configuration). c.entries) makes
          ∙ ap (λ (t : State). taken.entries ++ entry_of t actor (Frame frame) granted ∷ []) is_state
          ∙ ap (λ (es : List Entry). es ++ entry_of s actor (Frame frame) granted ∷ []) (kept ∙ so_far.entries)
          ∙ append_assoc before.entries (entries_of before.state actor events) (entry_of s actor (Frame frame) granted ∷ [])
          ∙ ap (λ (es : List Entry). before.entries ++ es) (sym (entries_more before.state actor events (Frame frame)))
          ∙ ap (λ (es : List (Event (List ℕ))). before.entries ++ entries_of before.state actor es) (sym (frames_more so_far.done frame));
      seen = sees
          ∙ ap (λ (names : List Evidence). names ++ At number ∷ []) so_far.seen
          ∙ append_assoc seen_before (named_from (length before.entries) so_far.done) (At number ∷ [])
          ∙ ap (λ k. seen_before ++ (named_from (length before.entries) so_far.done ++ At k ∷ [])) (numbered ∙ ap (λ k. k + 1) long)
          ∙ ap (λ (names : List Evidence). seen_before ++ names) (sym (named_more (length before.entries) so_far.done frame));
    }

-- all frames were fed
pub all_fed : (actor : ℕ) (before now : Configuration) (seen_before seen_now : List Evidence) → Feeding actor before now seen_before seen_now → now.left ≡ [] → FedAll actor before now seen_before seen_now (Fed (length before.left))
all_fed actor before now seen_before seen_now so_far none =
    let whole : so_far.done ≡ before.left =
    sym (append-nil so_far.done) ∙ ap (λ (fs : List (List ℕ)). so_far.done ++ fs) (sym none) ∙ sym so_far.split in
    let config = λ (s : State) (fs : List (List ℕ)) (es : List Entry). let c : Configuration = record { state = s; left = fs; entries = es } in c in
    record {
      config = ap (λ (s : State). config s now.left now.entries) so_far.state
          ∙ ap (λ (fs : List (List ℕ)). config (state_after before.state (map Frame so_far.done)) fs now.entries) none
          ∙ ap (λ (es : List Entry). config (state_after before.state (map Frame so_far.done)) [] es) so_far.entries
          ∙ ap (λ (fs : List (List ℕ)). config (state_after before.state (map Frame fs)) [] (before.entries ++ entries_of before.state actor (map Frame fs))) whole;
      seen = so_far.seen ∙ ap (λ (fs : List (List ℕ)). seen_before ++ named_from (length before.entries) fs) whole;
      count = refl;
    }
