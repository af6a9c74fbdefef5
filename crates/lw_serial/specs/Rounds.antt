-- What a run of all actors on one thread leaves.
use Rattle.std.specs.Prelude.{ℕ, ◌≡◌, ◌++◌, Bool, false, List, [], ◌∷◌, length}
use Rattle.lw_script.specs.declared.parts.Call.{Call}
use Rattle.lw_script.specs.declared.parts.Script.{Script}
use Rattle.lw_script.specs.Driver.{driver_calls}
use Rattle.lw_transcript.specs.declared.lines.Evidence.{Evidence}
use Rattle.lw_actors.specs.declared.api.Step.{Step}
use Rattle.lw_actors.specs.declared.api.Step.TheVariants.{Did}
use Rattle.lw_actors.specs.declared.progress.DoneCall.{DoneCall}
use Rattle.lw_actors.specs.declared.progress.Progress.{Progress}
use Rattle.lw_actors.specs.Runs.{Ran}

-- one call more ended, from this state to that one
pub record Ends {S : Type 0} (gives : S → ℕ → Call → Bool → List Evidence → Step → S → Type 0) (s : S) (call : Call) (before now : List DoneCall) (t : S) : Type 0 where
  pub call_done : DoneCall
  pub behind : now ≡ before ++ call_done ∷ []
  pub given : gives s 0 call false call_done.seen (Did call_done.result) t

-- the driver, the one actor of the script, made all its calls in their order, and none is begun
pub record IsSerialRun {S : Type 0} (gives : S → ℕ → Call → Bool → List Evidence → Step → S → Type 0) (script : Script) (s : S) (all : List Progress) (t : S) : Type 0 where
  pub driver : Progress
  pub only : all ≡ driver ∷ []
  pub next : driver.next ≡ length (driver_calls script)
  pub begun : driver.begun ≡ false
  pub seen : driver.seen ≡ []
  pub ran : Ran gives 0 s (driver_calls script) driver.done t
