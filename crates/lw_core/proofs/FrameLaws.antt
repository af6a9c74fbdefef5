-- The entry of a frame that was taken in.
use Rattle.std.proofs.Common.{◌≡◌, ◌∙◌, ℕ, Bool, true, false, List, map, refl, sym, ap, subst}
use Rattle.lw_events.specs.declared.event.Event.TheVariants.{Frame}
use Rattle.lw_events.specs.declared.event.Reply.{Reply}
use Rattle.lw_events.specs.declared.event.Reply.TheVariants.{Done}
use Rattle.lw_events.specs.declared.entry.Entry.{Entry}
use Rattle.lw_events.specs.declared.entry.Post.{Post}
use Rattle.lw_events.specs.Events.{had_place}
use Rattle.lw_input.specs.State.{State}
use Rattle.lw_layers.specs.declared.receive.Received.{Received}
use Rattle.lw_layers.specs.History.{IsStep}
use Rattle.lw_layers.specs.Outcomes.{Outcome}
use Rattle.lw_layers.specs.Step.{frame_granted}

granted_short : (s : State) (octets : List ℕ) (short : Bool) (places : List Bool) → (frame_granted s octets short places).short ≡ short
granted_short s octets true places = refl
granted_short s octets false places = refl

granted_reply : (s : State) (octets : List ℕ) (short : Bool) (places : List Bool) → (frame_granted s octets short places).reply ≡ Done
granted_reply s octets true places = refl
granted_reply s octets false places = refl

-- the entry of a frame, dropped or not, is that of the step
pub is_fed : (s t : State) (actor : ℕ) (octets told : List ℕ) (made : Received) (r : Entry × Reply) → octets ≡ told
    → t ≡ (frame_granted s octets made.short (map had_place made.posts)).state
    → made.frames ≡ (frame_granted s octets made.short (map had_place made.posts)).frames
    → made.posts ≡ (frame_granted s octets made.short (map had_place made.posts)).posts
    → r ≡ (record { actor = actor; event = Frame told; short = made.short; posts = made.posts; frames = made.frames; reply = Done }, Done)
    → IsStep s actor (Frame octets) r.0 r.1 t
is_fed s t actor octets told made r same state_is frames_is posts_is r_is =
    let places : List Bool = map had_place made.posts in
    let o : Outcome = frame_granted s octets made.short places in
    let entry : Bool → List Post → List (List ℕ) → Reply → Entry = λ short posts frames reply. record { actor = actor; event = Frame octets; short = short; posts = posts; frames = frames; reply = reply } in
    let own : r ≡ (entry made.short made.posts made.frames Done, Done) =
    r_is ∙ ap (λ (xs : List ℕ). let q : Entry × Reply = (record { actor = actor; event = Frame xs; short = made.short; posts = made.posts; frames = made.frames; reply = Done }, Done) in q) (sym same) in
    subst (λ (q : Entry × Reply). IsStep s actor (Frame octets) q.0 q.1 t) (sym own)
    (record {
      made = ap (λ (b : Bool). entry b made.posts made.frames Done) (sym (granted_short s octets made.short places))
          ∙ ap (λ (posts : List Post). entry o.short posts made.frames Done) posts_is
          ∙ ap (λ (frames : List (List ℕ)). entry o.short o.posts frames Done) frames_is
          ∙ ap (λ (reply : Reply). entry o.short o.posts o.frames reply) (sym (granted_reply s octets made.short places));
      answered = sym (granted_reply s octets made.short places);
      moved = state_is;
    })
