-- Layers over an event that brings no payload.
use Rattle.std.proofs.Common.{◌≡◌, ℕ, ◌∙◌, true, false, List, length, Some, refl, sym, ap, subst}
use Rattle.lw_payload.specs.Views.{View}
use Rattle.lw_events.specs.declared.event.Event.{Event}
use Rattle.lw_events.specs.declared.event.Event.TheVariants.{Stop}
use Rattle.lw_events.specs.declared.event.Reply.{Reply}
use Rattle.lw_events.specs.declared.event.Reply.TheVariants.{Done}
use Rattle.lw_events.specs.declared.entry.Entry.{Entry}
use Rattle.lw_api_msg.specs.Endpoints.{Table}
use Rattle.lw_arp.specs.Neighbours.{packets}
use Rattle.lw_link.specs.Sound.{IsSoundWay}
use Rattle.lw_layers.specs.declared.layers.Layers.{Layers}
use Rattle.lw_layers.specs.Calls.{call_answer, HasVariables}
use Rattle.lw_core.specs.Held.{CoreSeen, IsQuietStep}
use Rattle.lw_layers.specs.History.{IsStep}
use Rattle.lw_input.specs.Input.{begun}
use Rattle.lw_layers.specs.Layers.{state_of}
use Rattle.lw_input.specs.State.{State}
use Rattle.lw_layers.specs.Step.{Ended}
use Rattle.lw_layers.proofs.CallLaws.{answer_step, quiet_by, quiet_entry}

module _ {P H : Type 0} (seen : P → View) where
  abbrev pub core_of : Layers P H → CoreSeen P
  core_of l = record { state = state_of seen l; waiting = packets l.neighbours; kept = l.fragments.kept }

  -- where just the connections and their names changed
  pub quiet_answer : (l m : Layers P H) (c : CoreSeen P) (actor : ℕ) (event : Event (List ℕ)) (reply : Reply) (r : Entry × Reply) → core_of l ≡ c
      → call_answer (state_of seen l) event ≡ Some (reply, m.endpoints) → m ≡ record l { endpoints = m.endpoints } → r ≡ quiet_entry actor event reply
      → IsQuietStep c actor event r.0 r.1 (core_of m)
  quiet_answer l m c actor event reply r view is rest entry =
      subst (λ (x : CoreSeen P). IsQuietStep x actor event r.0 r.1 (core_of m)) view
      (record {
        step = answer_step (state_of seen l) (state_of seen m) actor event (reply, m.endpoints) r is (ap (state_of seen) rest) entry;
        short = ap (λ (x : Entry × Reply). x.0.short) entry;
        posts = ap (λ (x : Entry × Reply). x.0.posts) entry;
        waiting = ap (λ (x : Layers P H). packets x.neighbours) rest;
        kept = ap (λ (x : Layers P H). x.fragments.kept) rest;
      })

  -- the end of the run
  pub quiet_end : (l : Layers P H) (c : CoreSeen P) (actor : ℕ) (r : Entry × Reply) → core_of l ≡ c → r ≡ quiet_entry actor Stop Done
      → IsQuietStep c actor Stop r.0 r.1 (core_of (record l { words = record l.words { stopped = true } }))
  quiet_end l c actor r view entry =
      let s : State = state_of seen l in
      subst (λ (x : CoreSeen P). IsQuietStep x actor Stop r.0 r.1 (core_of (record l { words = record l.words { stopped = true } }))) view
      (record {
        step = quiet_by s (record s { words = record s.words { stopped = true } }) actor Stop Ended Done r refl refl entry;
        short = ap (λ (x : Entry × Reply). x.0.short) entry;
        posts = ap (λ (x : Entry × Reply). x.0.posts) entry;
        waiting = refl;
        kept = refl;
      })

  -- what is known of layers stays so
  pub quiet_sound : (l m : Layers P H) → m ≡ record l { endpoints = m.endpoints } → length m.endpoints.vars ≡ length l.endpoints.vars
      → IsSoundWay (begun (state_of seen l)) × HasVariables (state_of seen l) → IsSoundWay (begun (state_of seen m)) × HasVariables (state_of seen m)
  quiet_sound l m rest many both = (
    subst (λ (x : Layers P H). IsSoundWay (begun (state_of seen x))) (sym rest) both.0,
    many ∙ both.1 ∙ sym (ap (λ (x : Layers P H). x.limits.variables) rest),
  )

  -- where the connections and their names stayed too, nothing changed
  pub quiet_same : (l m : Layers P H) (c : CoreSeen P) → core_of l ≡ c → m ≡ record l { endpoints = m.endpoints } → m.endpoints ≡ l.endpoints → core_of m ≡ c
  quiet_same l m c view rest same = ap core_of rest ∙ ap (λ (e : Table). core_of (record l { endpoints = e })) same ∙ view
