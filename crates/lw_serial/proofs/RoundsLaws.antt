-- Laws of a run of all actors on one thread.
use Rattle.std.proofs.Common.{ℕ, ◌++◌, Bool, List, [], ◌∷◌, subst, sym}
use Rattle.lw_script.specs.declared.parts.Call.{Call}
use Rattle.lw_transcript.specs.declared.lines.Evidence.{Evidence}
use Rattle.lw_actors.specs.declared.api.Step.{Step}
use Rattle.lw_actors.specs.declared.progress.DoneCall.{DoneCall}
use Rattle.lw_actors.specs.Runs.{Ran}
use Rattle.lw_actors.proofs.RunsLaws.{ran_more}
use Rattle.lw_serial.specs.Rounds.{Ends}

-- one call more of the driver ended
pub ran_then : {S : Type 0} (gives : S → ℕ → Call → Bool → List Evidence → Step → S → Type 0) (s t u : S) (calls : List Call) (call : Call) (before now : List DoneCall) → Ran gives 0 s calls before t → Ends gives t call before now u → Ran gives 0 s (calls ++ call ∷ []) now u
ran_then gives s t u calls call before now ran ends =
    subst (λ (ds : List DoneCall). Ran gives 0 s (calls ++ call ∷ []) ds u) (sym ends.behind)
    (ran_more gives 0 s t u calls before call ends.call_done ran ends.given)
