-- The serial schedule gives a legal transcript.
use Rattle.std.proofs.Common.{ℕ, ◌≡◌, ◌+◌, ◌++◌, ◌∙◌, List, [], ◌∷◌, suc, length, map, slice_get, All, Some, ap, sym, subst, refl, arith, append_assoc, append-nil, add_comm, add-zero, codes}
use Rattle.std.proofs.lemmas.List.Elements.{All-nil, All-cons}
use Rattle.std.proofs.lemmas.List.{length-append}
use Rattle.std.specs.List.Sorted.{IsStrictlyIncreasing}
use Rattle.lw_events.specs.declared.event.Event.TheVariants.{Frame, Stop as StopEvent}
use Rattle.lw_events.specs.declared.entry.Entry.{Entry}
use Rattle.lw_input.specs.State.{State, opening}
use Rattle.lw_layers.specs.Step.{step}
use Rattle.lw_layers.specs.History.{entry_of, granted, state_after}
use Rattle.lw_script.specs.declared.parts.Call.{Call}
use Rattle.lw_script.specs.declared.parts.Call.TheVariants.{FeedAll, Stop}
use Rattle.lw_script.specs.declared.parts.Script.{Script}
use Rattle.lw_script.specs.Parts.{limits_of}
use Rattle.lw_script.specs.Driver.{driver_calls}
use Rattle.lw_transcript.specs.declared.lines.CoreLine.{CoreLine}
use Rattle.lw_transcript.specs.declared.lines.Evidence.TheVariants.{At}
use Rattle.lw_transcript.specs.declared.lines.Evidence.{Evidence}
use Rattle.call_types.specs.declared.outcome.Outcome.TheVariants.{Ok as OkOutcome, Fed}
use Rattle.lw_transcript.specs.declared.lines.CallPart.{CallPart}
use Rattle.lw_transcript.specs.declared.lines.ActorPart.{ActorPart}
use Rattle.lw_transcript.specs.declared.lines.Body.{Body}
use Rattle.lw_rules.specs.Lines.{core_lines_from}
use Rattle.lw_rules.specs.Schedule.{entries_of, named_from, after_calls, call_parts, beginning, body_of, serial_body, serial_transcript}
use Rattle.lw_rules.specs.Legal.{count_from, names_in, names_of, IsFrameLine, AreCalls, ReplayRule, GrantRule, InputRule, EndRule, IsLegal}
use Rattle.lw_rules.proofs.LinesLaws.{IsGranted, entries_granted, lines_granted, replay_entries, entries_back, numbers_of_lines, length-core_lines_from, frames_of_lines, count_lines, count_from-append, count_rises, seam, frames_given}

-- the names of the evidence of frames, counted from n + 1
names_of_named : (n : ℕ) (frames : List (List ℕ)) → names_in (named_from n frames) ≡ count_from (n + 1) frames
names_of_named n [] = refl
names_of_named n (frame ∷ frames) = ap (λ (ns : List ℕ). (n + 1) ∷ ns) (names_of_named (n + 1) frames)

-- the evidence of frames names lines alone
named_alone : (n : ℕ) (frames : List (List ℕ)) → named_from n frames ≡ map At (names_in (named_from n frames))
named_alone n [] = refl
named_alone n (frame ∷ frames) = ap (λ (seen : List Evidence). At (n + 1) ∷ seen) (named_alone (n + 1) frames)

-- one line of evidence for each frame
length-named_from : (n : ℕ) (frames : List (List ℕ)) → length (named_from n frames) ≡ length frames
length-named_from n [] = refl
length-named_from n (frame ∷ frames) = ap suc (length-named_from (n + 1) frames)

-- counting frames, events or entries gives the same numbers
count_entries : (s : State) (n : ℕ) (frames : List (List ℕ)) → count_from n (entries_of s 0 (map Frame frames)) ≡ count_from n frames
count_entries s n [] = refl
count_entries s n (frame ∷ frames) = ap (λ (ns : List ℕ). n ∷ ns) (count_entries (step s (Frame frame) granted).state (n + 1) frames)

-- as many entries as frames
length_entries : (s : State) (frames : List (List ℕ)) → length (entries_of s 0 (map Frame frames)) ≡ length frames
length_entries s [] = refl
length_entries s (frame ∷ frames) = ap suc (length_entries (step s (Frame frame) granted).state frames)

-- an entry under its number
abbrev line_of : ℕ → Entry → CoreLine
line_of n e = record { number = n; entry = e }

-- each frame that was fed has its line, whatever stands before the lines and behind them
lines_named : (core front : List CoreLine) (s : State) (n : ℕ) (frames : List (List ℕ)) (more : List Entry) → length front ≡ n → core ≡ front ++ core_lines_from (n + 1) (entries_of s 0 (map Frame frames) ++ more) → All (IsFrameLine core 0) (names_in (named_from n frames))
lines_named core front s n [] more long is = All-nil (IsFrameLine core 0)
lines_named core front s n (frame ∷ frames) more long is =
    let line : CoreLine = record { number = n + 1; entry = entry_of s 0 (Frame frame) granted } in
    let behind : List CoreLine = core_lines_from (n + 1 + 1) (entries_of (step s (Frame frame) granted).state 0 (map Frame frames) ++ more) in
    let stands : slice_get core n ≡ Some line =
    subst (λ k. slice_get core k ≡ Some line) long (rw is (seam front line behind)) in
    All-cons (IsFrameLine core 0) (n + 1) (names_in (named_from (n + 1) frames))
    (frame, record { place = n; line = line; number = refl; stands = stands; own = refl; given = refl })
    (
    lines_named core (front ++ line ∷ []) (step s (Frame frame) granted).state (n + 1) frames more
    (length-append front (line ∷ []) ∙ ap (λ k. k + 1) long)
    (is ∙ sym (append_assoc front (line ∷ []) behind))
    )

-- lines of two histories, one behind the other
core_lines_from-append : (n : ℕ) (xs ys : List Entry) → core_lines_from n (xs ++ ys) ≡ core_lines_from n xs ++ core_lines_from (n + length xs) ys
core_lines_from-append n [] ys = ap (λ k. core_lines_from k ys) (sym (add-zero n))
core_lines_from-append n (x ∷ xs) ys =
    ap (λ (lines : List CoreLine). line_of n x ∷ lines)
    (core_lines_from-append (n + 1) xs ys ∙ ap (λ k. core_lines_from (n + 1) xs ++ core_lines_from k ys) (omega arith))

-- the last line of a history
last_line : (xs : List Entry) (e : Entry) → slice_get (core_lines_from 1 (xs ++ e ∷ [])) (length xs) ≡ Some (line_of (1 + length xs) e)
last_line xs e =
    let parts = core_lines_from-append 1 xs (e ∷ []) in
    let found = seam (core_lines_from 1 xs) (line_of (1 + length xs) e) [] in
    rw parts (subst (λ k. slice_get (core_lines_from 1 xs ++ line_of (1 + length xs) e ∷ []) k ≡ Some (line_of (1 + length xs) e)) (length-core_lines_from 1 xs) found)

-- the history of a run that feeds these frames and then stops, from a state
abbrev entries_fed : State → List (List ℕ) → List Entry
entries_fed s frames = entries_of s 0 (map Frame frames)

abbrev stop_entry : State → List (List ℕ) → Entry
stop_entry s frames = entry_of (state_after s (map Frame frames)) 0 StopEvent granted

-- what the driver of such a run saw and did
abbrev driver_parts : State → List (List ℕ) → List CallPart
driver_parts s frames =
    record { text = codes "feed all"; seen = named_from 0 frames; result = Fed (length frames) }
    ∷ record { text = codes "stop"; seen = At (length (entries_fed s frames) + 1) ∷ []; result = OkOutcome } ∷ []

-- the body of such a run
abbrev run_body : State → List (List ℕ) → Body
run_body s frames = body_of (entries_fed s frames ++ stop_entry s frames ∷ []) (driver_parts s frames)

-- the names of the driver's evidence are the numbers of all lines
all_named : (s : State) (frames : List (List ℕ)) → names_of (record { calls = driver_parts s frames }) ≡ map (λ line. line.number) (run_body s frames).core
all_named s frames =
    let fed = entries_fed s frames in
    let named = names_of_named 0 frames in
    let counted = count_entries s 1 frames in
    let split = count_from-append 1 fed (stop_entry s frames ∷ []) in
    let numbers = numbers_of_lines 1 (fed ++ stop_entry s frames ∷ []) in
    ap (λ (ns : List ℕ). ns ++ (length fed + 1) ∷ []) (named ∙ sym counted)
    ∙ ap (λ k. count_from 1 fed ++ k ∷ []) (add_comm (length fed) 1)
    ∙ sym split ∙ sym numbers

-- the driver's calls are as the call relation says
calls_made : (s : State) (frames : List (List ℕ)) → AreCalls (run_body s frames).core 0 (FeedAll ∷ Stop ∷ []) (driver_parts s frames)
calls_made s frames =
    let fed = entries_fed s frames in
    let core = (run_body s frames).core in (
      refl,
      (
        named_alone 0 frames,
        lines_named core [] s 0 frames (stop_entry s frames ∷ []) refl refl,
        ap Fed (sym (length-named_from 0 frames)),
      ),
      (
        refl,
        (
          length fed + 1,
          refl,
          record {
            place = length fed;
            line = line_of (1 + length fed) (stop_entry s frames);
            number = refl;
            stands = last_line fed (stop_entry s frames);
            own = refl;
            given = refl;
          },
          refl,
        ),
        tt,
      ),
    )

-- the history is a replay
replayed : (script : Script) (frames : List (List ℕ)) → ReplayRule script (run_body (opening script.net (limits_of script.profile)) frames)
replayed script frames =
    let s = opening script.net (limits_of script.profile) in
    let entries = entries_fed s frames ++ stop_entry s frames ∷ [] in
    record {
      numbers = numbers_of_lines 1 entries ∙ sym (count_lines 1 1 entries);
      replay = rw (entries_back 1 entries) (replay_entries s 0 frames (stop_entry s frames ∷ []) refl (tt, refl, tt));
    }

-- each event was granted all
all_granted : (s : State) (frames : List (List ℕ)) → s.endpoints.udp.ends ≡ [] → GrantRule (run_body s frames)
all_granted s frames none =
    let stop = All-cons IsGranted (stop_entry s frames) [] refl (All-nil IsGranted) in
    record {
      granted = lines_granted 1 (entries_fed s frames ++ stop_entry s frames ∷ []) (entries_granted s 0 frames (stop_entry s frames ∷ []) none stop);
    }

-- the frames fed are those of the capture
fed_in_order : (s : State) (frames : List (List ℕ)) → InputRule frames (run_body s frames)
fed_in_order s frames =
    record { fed = frames_given s 0 1 frames (stop_entry s frames ∷ []) ∙ append-nil frames }

-- the end line counts
counted_at_end : (s : State) (frames : List (List ℕ)) → EndRule (run_body s frames)
counted_at_end s frames =
    let entries = entries_fed s frames ++ stop_entry s frames ∷ [] in
    record { core = sym (length-core_lines_from 1 entries); out = sym (frames_of_lines 1 entries) }

-- the transcript of a schedule with these calls
abbrev with_calls : Script → List (List ℕ) → List Call → Body
with_calls script frames calls =
    body_of (after_calls (beginning script frames) 0 calls).entries (call_parts (beginning script frames) 0 calls)

-- what is legal of a body, with the calls named apart from the script
record Legal (script : Script) (frames : List (List ℕ)) (calls : List Call) (body : Body) : Type 0 where
  replay : ReplayRule script body
  grants : GrantRule body
  driver : ActorPart
  only : body.actors ≡ driver ∷ []
  made : AreCalls body.core 0 calls driver.calls
  rise : IsStrictlyIncreasing (names_of driver)
  named : names_of driver ≡ map (λ line. line.number) body.core
  input : InputRule frames body
  ends : EndRule body

legal_run : (script : Script) (frames : List (List ℕ)) → Legal script frames (FeedAll ∷ Stop ∷ []) (with_calls script frames (FeedAll ∷ Stop ∷ []))
legal_run script frames =
    let s = opening script.net (limits_of script.profile) in
    let entries = entries_fed s frames ++ stop_entry s frames ∷ [] in
    let named = all_named s frames in
    record {
      replay = replayed script frames;
      grants = all_granted s frames refl;
      driver = record { calls = driver_parts s frames };
      only = refl;
      made = calls_made s frames;
      rise = subst IsStrictlyIncreasing (sym (named ∙ numbers_of_lines 1 entries)) (count_rises 1 entries);
      named = named;
      input = fed_in_order s frames;
      ends = counted_at_end s frames;
    }

-- the schedule of a script whose driver has the one command `feed all` gives a legal transcript
pub serial_is_legal : (script : Script) (frames : List (List ℕ)) → script.commands ≡ FeedAll ∷ [] → IsLegal script frames (serial_transcript script frames)
serial_is_legal script frames only =
    let calls : FeedAll ∷ Stop ∷ [] ≡ driver_calls script = sym (ap (λ (commands : List Call). commands ++ Stop ∷ []) only) in
    let legal : Legal script frames (driver_calls script) (with_calls script frames (driver_calls script)) =
    subst (λ (cs : List Call). Legal script frames cs (with_calls script frames cs)) calls (legal_run script frames) in
    record {
      version = refl;
      body = serial_body script frames;
      form = refl;
      replay = legal.replay;
      grants = legal.grants;
      calls = record {
        driver = legal.driver;
        only = legal.only;
        calls = legal.made;
        rise = legal.rise;
        named = legal.named;
        schedule = refl;
      };
      input = legal.input;
      ends = legal.ends;
    }
