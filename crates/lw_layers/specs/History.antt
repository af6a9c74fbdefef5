-- Histories of the serial stack.
use Rattle.std.specs.Prelude.{ℕ, ◌≡◌, false, List, [], ◌∷◌}
use Rattle.lw_events.specs.declared.event.Event.{Event}
use Rattle.lw_events.specs.declared.event.Reply.{Reply}
use Rattle.lw_events.specs.declared.entry.Entry.{Entry}
use Rattle.lw_events.specs.Events.{Grants, grants_of}
use Rattle.lw_layers.specs.Calls.{IsServed}
use Rattle.lw_input.specs.State.{State}
use Rattle.lw_layers.specs.Step.{step}

-- the entry of an event that is granted this: its answer, posts and frames are those of the serial step
abbrev pub entry_of : State → ℕ → Event (List ℕ) → Grants → Entry
entry_of s actor event g =
    let o = step s event g in
    record { actor = actor; event = event; short = o.short; posts = o.posts; frames = o.frames; reply = o.reply }

-- one event of the core: the entry is that of the event, by the grants that it tells, and the state moves by the serial step
pub record IsStep (s : State) (actor : ℕ) (event : Event (List ℕ)) (entry : Entry) (reply : Reply) (t : State) : Type 0 where
  pub made : entry ≡ entry_of s actor event (grants_of entry)
  pub answered : reply ≡ (step s event (grants_of entry)).reply
  pub moved : t ≡ (step s event (grants_of entry)).state

-- a replay: each entry is of an event that the stack has, with the answer, the posts and the frames of the serial step of the
-- state that those before it leave
abbrev pub IsReplay : State → List Entry → Type 0
IsReplay s [] = Unit {0}
IsReplay s (e ∷ es) =
    IsServed s.limits e.event × (e ≡ entry_of s e.actor e.event (grants_of e)) × IsReplay (step s e.event (grants_of e)).state es

-- no pool is short for an event, and it posts nothing
abbrev pub granted : Grants
granted = record { short = false; places = [] }

-- the state that events leave which are granted all that they ask for
abbrev pub state_after : State → List (Event (List ℕ)) → State
state_after s [] = s
state_after s (event ∷ events) = state_after (step s event granted).state events
