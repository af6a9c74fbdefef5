-- The transcript of the serial schedule is one of the grammar.
use Rattle.std.proofs.Common.{ℕ, ◌≡◌, ◌+◌, ◌≤◌, ◌++◌, ◌∙◌, List, [], ◌∷◌, suc, length, map, All, codes, subst, sym, ap, refl, arith}
use Rattle.std.proofs.lemmas.List.Elements.{All-nil, All-cons, All-head, All-tail}
use Rattle.lw_base.specs.declared.addresses.Net.{Net}
use Rattle.lw_base.specs.declared.limits.Limits.{Limits}
use Rattle.lw_events.specs.declared.event.Event.{Event}
use Rattle.lw_events.specs.declared.event.Event.TheVariants.{Frame, Stop as StopEvent}
use Rattle.lw_events.specs.declared.entry.Entry.{Entry}
use Rattle.lw_input.specs.State.{State, opening}
use Rattle.lw_layers.specs.Step.{step}
use Rattle.lw_layers.specs.History.{entry_of, granted, state_after}
use Rattle.lw_layers.proofs.NoEnds.{fed_ends, nothing_posted_by}
use Rattle.lw_events.specs.declared.entry.Post.{Post}
use Rattle.lw_script.specs.declared.parts.Call.{Call}
use Rattle.lw_script.specs.declared.parts.Call.TheVariants.{FeedAll, Stop}
use Rattle.lw_script.specs.declared.parts.Script.{Script}
use Rattle.lw_script.specs.Parts.{call_text, limits_of}
use Rattle.lw_script.specs.Driver.{driver_calls}
use Rattle.lw_transcript.specs.declared.lines.Version.TheVariants.{One}
use Rattle.lw_transcript.specs.declared.lines.Evidence.TheVariants.{At}
use Rattle.lw_transcript.specs.declared.lines.CallPart.{CallPart}
use Rattle.lw_transcript.specs.declared.lines.Body.{Body}
use Rattle.lw_transcript.specs.declared.lines.ActorPart.{ActorPart}
use Rattle.lw_transcript.specs.Transcript.{IsFrame, IsPost, IsCore, IsCallText, IsEvidence, IsCallPart, IsActor, IsTranscript}
use Rattle.lw_rules.specs.Lines.{core_lines_from}
use Rattle.lw_rules.specs.Schedule.{Configuration, entries_of, named_from, turn, call_parts, after_calls, beginning, body_of, serial_transcript}

-- what is known of the states of a stack that sends short frames: it holds where a stack begins, each step keeps it, and
-- where it holds a step sends frames of at most 65,535 octets
pub record SendsShort (HasSound : State → Type 0) : Type 0 where
  pub begins : (net : Net) (limits : Limits) → length net.mac.0 ≤ 6 → HasSound (opening net limits)
  pub stays : (s : State) (event : Event (List ℕ)) → HasSound s → HasSound (step s event granted).state
  pub short : (s : State) (event : Event (List ℕ)) → HasSound s → All IsFrame (step s event granted).frames

-- lines of short frames, and then other lines
core_short : (HasSound : State → Type 0) → SendsShort HasSound → (s : State) (n : ℕ) (frames : List (List ℕ)) (more : List Entry) → HasSound s → s.endpoints.udp.ends ≡ [] → All IsFrame frames → ((k : ℕ) → All (IsCore One) (core_lines_from k more)) → All (IsCore One) (core_lines_from n (entries_of s 0 (map Frame frames) ++ more))
core_short HasSound laws s n [] more sound none short rest = rest n
core_short HasSound laws s n (frame ∷ frames) more sound none short rest =
    All-cons (IsCore One) (record { number = n; entry = entry_of s 0 (Frame frame) granted })
    (core_lines_from (n + 1) (entries_of (step s (Frame frame) granted).state 0 (map Frame frames) ++ more))
    (record {
      event = All-head IsFrame frame frames short;
      posts = subst (λ (posts : List Post). All IsPost posts) (sym (nothing_posted_by s (Frame frame) granted none)) (All-nil IsPost);
      frames = laws.short s (Frame frame) sound;
    })
    (core_short HasSound laws (step s (Frame frame) granted).state (n + 1) frames more (laws.stays s (Frame frame) sound) (fed_ends s frame granted ∙ none) (All-tail IsFrame frame frames short) rest)

-- the texts of calls are words with single spaces
text_of_call : (call : Call) → IsCallText (call_text call)
text_of_call FeedAll =
    record { words = codes "feed" ∷ codes "all" ∷ []; some = omega arith; each = refl; spelled = refl }
text_of_call Stop = record { words = codes "stop" ∷ []; some = omega arith; each = refl; spelled = refl }

-- the evidence of frames has numbers alone
named_evidence : (n : ℕ) (frames : List (List ℕ)) → All (IsEvidence One) (named_from n frames)
named_evidence n [] = All-nil (IsEvidence One)
named_evidence n (frame ∷ frames) =
    All-cons (IsEvidence One) (At (n + 1)) (named_from (n + 1) frames) tt (named_evidence (n + 1) frames)

-- what a call saw and did is of the grammar
part_of_turn : (c : Configuration) (call : Call) → IsCallPart One (record { text = call_text call; seen = (turn c 0 call).seen; result = (turn c 0 call).result })
part_of_turn c FeedAll = record { text = text_of_call FeedAll; seen = named_evidence (length c.entries) c.left; result = tt }
part_of_turn c Stop =
    record { text = text_of_call Stop; seen = All-cons (IsEvidence One) (At (length c.entries + 1)) [] tt (All-nil (IsEvidence One)); result = tt }

-- so is what calls saw and did, one after another
parts_of_turns : (c : Configuration) (calls : List Call) → All (IsCallPart One) (call_parts c 0 calls)
parts_of_turns c [] = All-nil (IsCallPart One)
parts_of_turns c (call ∷ calls) =
    let t = turn c 0 call in
    All-cons (IsCallPart One) (record { text = call_text call; seen = t.seen; result = t.result })
    (call_parts t.config 0 calls) (part_of_turn c call) (parts_of_turns t.config calls)

-- one part for each call
length-call_parts : (c : Configuration) (calls : List Call) → length (call_parts c 0 calls) ≡ length calls
length-call_parts c [] = refl
length-call_parts c (call ∷ calls) = ap suc (length-call_parts (turn c 0 call).config calls)

-- the body of the schedule with these calls
abbrev with_calls : Script → List (List ℕ) → List Call → Body
with_calls script frames calls =
    body_of (after_calls (beginning script frames) 0 calls).entries (call_parts (beginning script frames) 0 calls)

-- the core lines of a run that feeds all frames and stops
core_of_run : (HasSound : State → Type 0) → SendsShort HasSound → (script : Script) (frames : List (List ℕ)) → length script.net.mac.0 ≤ 6 → All IsFrame frames → All (IsCore One) (with_calls script frames (FeedAll ∷ Stop ∷ [])).core
core_of_run HasSound laws script frames own short =
    let s = opening script.net (limits_of script.profile) in
    let stop = entry_of (state_after s (map Frame frames)) 0 StopEvent granted in
    core_short HasSound laws s 1 frames (stop ∷ []) (laws.begins script.net (limits_of script.profile) own) refl short
    (λ k. All-cons (IsCore One) (record { number = k; entry = stop }) [] (record { event = tt; posts = All-nil IsPost; frames = All-nil IsFrame }) (All-nil (IsCore One)))

-- the schedule of a script whose driver has the one command `feed all` gives a transcript of the grammar
pub serial_is_transcript : (HasSound : State → Type 0) → SendsShort HasSound → (script : Script) (frames : List (List ℕ)) → script.commands ≡ FeedAll ∷ [] → length script.net.mac.0 ≤ 6 → All IsFrame frames → IsTranscript (serial_transcript script frames)
serial_is_transcript HasSound laws script frames only own short =
    let calls : FeedAll ∷ Stop ∷ [] ≡ driver_calls script = sym (ap (λ (commands : List Call). commands ++ Stop ∷ []) only) in
    let actor : ActorPart = record { calls = call_parts (beginning script frames) 0 (driver_calls script) } in
    let few : length (driver_calls script) ≡ 2 = sym (ap length calls) in
    record {
      bodies = record {
        sizes = refl;
        core = subst (λ (cs : List Call). All (IsCore One) (with_calls script frames cs).core) calls (core_of_run HasSound laws script frames own short);
        actors = All-cons (IsActor One) actor []
            (record {
              calls = parts_of_turns (beginning script frames) (driver_calls script);
              few = omega (arith, few, length-call_parts (beginning script frames) (driver_calls script));
            })
            (All-nil (IsActor One));
        driver = omega arith;
        few = omega arith;
        left = λ k h. absurd (omega arith);
      };
    }
