-- A run on one thread is the serial schedule.
use Rattle.std.proofs.Common.{ℕ, ◌≡◌, ◌∙◌, List, [], ◌∷◌, ap, subst, sym, refl, slice_index_or}
use Rattle.lw_events.specs.declared.entry.Entry.{Entry}
use Rattle.lw_script.specs.declared.parts.Call.{Call}
use Rattle.lw_script.specs.declared.parts.Script.{Script}
use Rattle.lw_script.specs.Parts.{call_text}
use Rattle.lw_script.specs.Driver.{driver_calls}
use Rattle.lw_transcript.specs.declared.lines.Version.TheVariants.{One}
use Rattle.lw_transcript.specs.declared.lines.Form.TheVariants.{Serial}
use Rattle.lw_transcript.specs.declared.lines.Evidence.{Evidence}
use Rattle.call_types.specs.declared.outcome.Outcome.{Outcome}
use Rattle.lw_transcript.specs.declared.lines.CallPart.{CallPart}
use Rattle.lw_transcript.specs.declared.lines.Body.{Body}
use Rattle.lw_transcript.specs.declared.lines.Transcript.{Transcript}
use Rattle.lw_actors.specs.declared.api.Step.TheVariants.{Did}
use Rattle.lw_actors.specs.declared.progress.DoneCall.{DoneCall}
use Rattle.lw_actors.specs.declared.progress.Progress.{Progress}
use Rattle.lw_actors.specs.Runs.{Ran}
use Rattle.lw_rules.specs.Schedule.{Configuration, turn, after_calls, call_parts, beginning, body_of, serial_transcript}
use Rattle.lw_serial.specs.Rounds.{IsSerialRun}
use Rattle.lwip_run.specs.Plain.{plain_gives}
use Rattle.lwip_run.specs.Parts.{parts_of}

-- calls made one after another leave what the schedule leaves
ran_config : (c : Configuration) (calls : List Call) (done : List DoneCall) (after : Configuration) → Ran plain_gives 0 c calls done after → after ≡ after_calls c 0 calls
ran_config c [] [] after ran = sym ran
ran_config c [] (d ∷ done) after ran = absurd ran
ran_config c (call ∷ calls) [] after ran = absurd ran
ran_config c (call ∷ calls) (d ∷ done) after ran =
    ran_config ran.0 calls done after ran.2
    ∙ ap (λ (u : Configuration). after_calls u 0 calls) ran.1.config

-- calls that ended so with these results
same_result : (a b : Outcome) → Did a ≡ Did b → a ≡ b
same_result a b h = cc

-- calls made one after another saw and did what the schedule says
ran_parts : (c : Configuration) (calls : List Call) (done : List DoneCall) (after : Configuration) → Ran plain_gives 0 c calls done after → parts_of calls done ≡ call_parts c 0 calls
ran_parts c [] [] after ran = refl
ran_parts c [] (d ∷ done) after ran = absurd ran
ran_parts c (call ∷ calls) [] after ran = absurd ran
ran_parts c (call ∷ calls) (d ∷ done) after ran =
    let t = turn c 0 call in
    let part = λ (seen : List Evidence) (result : Outcome). let p : CallPart = record { text = call_text call; seen = seen; result = result } in p in
    ap (λ (seen : List Evidence). part seen d.result ∷ parts_of calls done) ran.1.seen
    ∙ ap (λ (result : Outcome). part t.seen result ∷ parts_of calls done) (same_result d.result t.result ran.1.result)
    ∙ ap (λ (parts : List CallPart). part t.seen t.result ∷ parts) (ran_parts ran.0 calls done after ran.2)
    ∙ ap (λ (u : Configuration). part t.seen t.result ∷ call_parts u 0 calls) ran.1.config

-- the transcript of a run
pub run_is_serial : (script : Script) (frames : List (List ℕ)) (begun ended : Configuration) (all : List Progress) (first : Progress) (entries : List Entry) (calls : List Call) (done : List DoneCall) (body : Body) → begun ≡ beginning script frames → IsSerialRun plain_gives script begun all ended → first ≡ slice_index_or all 0 first → done ≡ first.done → entries ≡ ended.entries → calls ≡ driver_calls script → body ≡ body_of entries (parts_of calls done) → record { version = One; form = Serial body } ≡ serial_transcript script frames
run_is_serial script frames begun ended all first entries calls done body begins run is_first is_done is_entries is_calls is_body =
    let driver : first ≡ run.driver = is_first ∙ ap (λ (ps : List Progress). slice_index_or ps 0 first) run.only in
    let list : done ≡ run.driver.done = is_done ∙ ap (λ (p : Progress). p.done) driver in
    let ran : Ran plain_gives 0 (beginning script frames) (driver_calls script) done ended =
    subst (λ (ds : List DoneCall). Ran plain_gives 0 (beginning script frames) (driver_calls script) ds ended) (sym list)
    (subst (λ (c : Configuration). Ran plain_gives 0 c (driver_calls script) run.driver.done ended) begins run.ran) in
    let transcript = λ (b : Body). let t : Transcript = record { version = One; form = Serial b } in t in
    ap transcript
    (
    is_body
    ∙ ap (λ (cs : List Call). body_of entries (parts_of cs done)) is_calls
    ∙ ap (λ (es : List Entry). body_of es (parts_of (driver_calls script) done))
    (is_entries ∙ ap (λ (c : Configuration). c.entries) (ran_config (beginning script frames) (driver_calls script) done ended ran))
    ∙ ap (λ (ps : List CallPart). body_of (after_calls (beginning script frames) 0 (driver_calls script)).entries ps)
    (ran_parts (beginning script frames) (driver_calls script) done ended ran)
    )
