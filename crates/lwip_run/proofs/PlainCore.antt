-- What a core over payloads needs of them, and what its step leaves where none is refused.
use Rattle.std.proofs.Common.{ℕ, ◌≡◌, ◌+◌, ◌++◌, ◌∙◌, Bool, true, false, List, [], ◌∷◌, length, map, All, Option, Some, None, Result, Ok, Err, IfOk, ap, sym, refl, arith}
use Rattle.std.specs.Prelude.{option_to_list}
use Rattle.std.proofs.lemmas.List.Elements.{All-rest, All-same, All-weaker}
use Rattle.lw_payload.specs.declared.kinds.Kind.{Kind}
use Rattle.lw_payload.specs.declared.kinds.Kind.TheVariants.{Ram, Pool}
use Rattle.lw_payload.specs.Views.{HomeView, plain_home}
use Rattle.lw_events.specs.declared.event.Event.{Event}
use Rattle.lw_events.specs.declared.event.Event.TheVariants.{Frame}
use Rattle.lw_events.specs.declared.event.Reply.{Reply}
use Rattle.lw_events.specs.declared.entry.Post.{Post}
use Rattle.lw_events.specs.declared.entry.Entry.{Entry}
use Rattle.lw_events.specs.Events.{Grants, grants_of, had_place}
use Rattle.lw_input.specs.State.{State}
use Rattle.lw_layers.specs.Step.{step}
use Rattle.lw_layers.specs.History.{IsStep, entry_of, granted}
use Rattle.lw_layers.specs.Claims.{KindIsShort}
use Rattle.lw_layers.proofs.NoEnds.{nothing_posted_by}
use Rattle.lw_rules.specs.Schedule.{Configuration, made}
use Rattle.lw_transcript.specs.Transcript.{IsFrame}
use Rattle.lwip_run.specs.Plain.{IsBody, NeverRefuses}

-- octets that nobody counts are never refused
pub plain_never : {H : Type 0} → NeverRefuses {H = H} (λ home. plain_home) (λ home after kind n. ⊥)
plain_never = record {
  makes = λ home kind. refl;
  fits = λ home kind n h. h;
  full = λ home after kind n h. h;
  counts = λ home. omega arith;
}

-- frames are short enough
pub frames_bodies : (frames : List (List ℕ)) → All IsFrame frames → All IsBody frames
frames_bodies frames short = All-weaker IsFrame IsBody (λ frame few. omega arith) frames short

-- so are those behind the first, where that was taken
pub rest_bodies : (first : Option (List ℕ)) (before after : List (List ℕ)) → before ≡ option_to_list first ++ after → All IsBody before → All IsBody after
rest_bodies (Some frame) before after is short = All-rest IsBody frame after before is short
rest_bodies None before after is short = All-same IsBody after before (sym is) short

-- an entry for which no pool was short tells that all was granted, where no port has an end
pub posts_none : (s : State) (actor : ℕ) (event : Event (List ℕ)) (entry : Entry) → s.endpoints.udp.ends ≡ [] → entry ≡ entry_of s actor event (grants_of entry) → entry.posts ≡ []
posts_none s actor event entry none is = ap (λ (e : Entry). e.posts) is ∙ nothing_posted_by s event (grants_of entry) none

tells_granted : (s : State) (actor : ℕ) (event : Event (List ℕ)) (entry : Entry) → s.endpoints.udp.ends ≡ [] → entry ≡ entry_of s actor event (grants_of entry) → entry.short ≡ false → grants_of entry ≡ granted
tells_granted s actor event entry none is whole =
    ap (λ (short : Bool). let g : Grants = record { short = short; places = map had_place entry.posts } in g) whole
    ∙ ap (λ (posts : List Post). let g : Grants = record { short = false; places = map had_place posts } in g) (posts_none s actor event entry none is)

-- what is not true is false
not_short : (b : Bool) → (b ≡ true → ⊥) → b ≡ false
not_short true h = absurd (h refl)
not_short false h = refl

-- a step that no Home refused RAM for is one turn of the schedule
pub step_made : {H : Type 0} (home_seen : H → HomeView) (may_refuse : H → H → Kind → ℕ → Type 0) (home : H) (c d : Configuration) (actor : ℕ)
    (event : Event (List ℕ)) (entry : Entry) (reply : Reply) → c.state.endpoints.udp.ends ≡ [] → NeverRefuses home_seen may_refuse
    → (entry.short ≡ true → KindIsShort may_refuse home (home_seen home) Ram) → IsStep c.state actor event entry reply d.state
    → d.left ≡ c.left → d.entries ≡ c.entries ++ entry ∷ [] → d ≡ made c actor (event ∷ [])
step_made home_seen may_refuse home c d actor event entry reply none never short is left entries =
    let whole : entry.short ≡ false = not_short entry.short (λ b. let r = short b in never.full home r.after Ram r.octets r.refused) in
    let grants = tells_granted c.state actor event entry none is.made whole in
    let state : d.state ≡ (step c.state event granted).state = is.moved ∙ ap (λ (g : Grants). (step c.state event g).state) grants in
    let made_entry : entry ≡ entry_of c.state actor event granted = is.made ∙ ap (λ (g : Grants). entry_of c.state actor event g) grants in
    let config = λ (s : State) (fs : List (List ℕ)) (es : List Entry). let x : Configuration = record { state = s; left = fs; entries = es } in x in
    ap (λ (s : State). config s d.left d.entries) state
    ∙ ap (λ (fs : List (List ℕ)). config (step c.state event granted).state fs d.entries) left
    ∙ ap (λ (es : List Entry). config (step c.state event granted).state c.left es)
    (entries ∙ ap (λ (e : Entry). c.entries ++ e ∷ []) made_entry)

-- a step that leaves the ends leaves none where there is none
pub stays_none : (s t : State) (actor : ℕ) (event : Event (List ℕ)) (entry : Entry) (reply : Reply) → ((g : Grants) → (step s event g).state.endpoints.udp.ends ≡ s.endpoints.udp.ends)
    → s.endpoints.udp.ends ≡ [] → IsStep s actor event entry reply t → t.endpoints.udp.ends ≡ []
stays_none s t actor event entry reply each none is = ap (λ (u : State). u.endpoints.udp.ends) is.moved ∙ each (grants_of entry) ∙ none

-- so is a frame that was fed, once its entry stands behind the others
pub fed_made : {E H : Type 0} (home_seen : H → HomeView) (may_refuse : H → H → Kind → ℕ → Type 0) (home : H) (c d : Configuration) (actor : ℕ) (octets told : List ℕ) (entry : Entry) (reply : Reply) (r : Result ℕ E)
    → c.state.endpoints.udp.ends ≡ [] → NeverRefuses home_seen may_refuse → (entry.short ≡ true → KindIsShort may_refuse home (home_seen home) Ram)
    → IsStep c.state actor (Frame told) entry reply d.state → told ≡ octets → d.left ≡ c.left
    → IfOk r (λ n. (d.entries ≡ c.entries ++ entry ∷ []) × (n ≡ length c.entries + 1)) → IfOk r (λ n. (d ≡ made c actor (Frame octets ∷ [])) × (n ≡ length c.entries + 1))
fed_made home_seen may_refuse home c d actor octets told entry reply (Ok n) none never short is same left pushed =
    (step_made home_seen may_refuse home c d actor (Frame told) entry reply none never short is left pushed.0 ∙ ap (λ (xs : List ℕ). made c actor (Frame xs ∷ [])) same, pushed.1)
fed_made home_seen may_refuse home c d actor octets told entry reply (Err e) none never short is same left pushed = tt
