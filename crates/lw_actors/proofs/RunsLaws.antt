-- Laws of calls made one after another.
use Rattle.std.proofs.Common.{ℕ, ◌≡◌, ◌++◌, Bool, false, List, [], ◌∷◌, length, suc, ap, subst, sym, refl}
use Rattle.lw_script.specs.declared.parts.Call.{Call}
use Rattle.lw_transcript.specs.declared.lines.Evidence.{Evidence}
use Rattle.lw_actors.specs.declared.api.Step.{Step}
use Rattle.lw_actors.specs.declared.api.Step.TheVariants.{Did}
use Rattle.lw_actors.specs.declared.progress.DoneCall.{DoneCall}
use Rattle.lw_actors.specs.Runs.{Ran}

-- one call more
pub ran_more : {S : Type 0} (gives : S → ℕ → Call → Bool → List Evidence → Step → S → Type 0) (actor : ℕ) (s t u : S) (calls : List Call) (done : List DoneCall) (call : Call) (d : DoneCall) → Ran gives actor s calls done t → gives t actor call false d.seen (Did d.result) u → Ran gives actor s (calls ++ call ∷ []) (done ++ d ∷ []) u
ran_more {S = S} gives actor s t u [] [] call d ran given =
    (u, subst (λ (x : S). gives x actor call false d.seen (Did d.result) u) (sym ran) given, refl)
ran_more gives actor s t u [] (e ∷ done) call d ran given = absurd ran
ran_more gives actor s t u (c ∷ calls) [] call d ran given = absurd ran
ran_more gives actor s t u (c ∷ calls) (e ∷ done) call d ran given =
    (ran.0, ran.1, ran_more gives actor ran.0 t u calls done call d ran.2 given)

-- as many calls ended as were made
pub ran_length : {S : Type 0} (gives : S → ℕ → Call → Bool → List Evidence → Step → S → Type 0) (actor : ℕ) (s t : S) (calls : List Call) (done : List DoneCall) → Ran gives actor s calls done t → length done ≡ length calls
ran_length gives actor s t [] [] ran = refl
ran_length gives actor s t [] (e ∷ done) ran = absurd ran
ran_length gives actor s t (c ∷ calls) [] ran = absurd ran
ran_length gives actor s t (c ∷ calls) (e ∷ done) ran = ap suc (ran_length gives actor ran.0 t calls done ran.2)
