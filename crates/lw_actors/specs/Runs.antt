use Rattle.std.specs.Prelude.{ℕ, ◌≡◌, Bool, false, List, [], ◌∷◌}
use Rattle.lw_script.specs.declared.parts.Call.{Call}
use Rattle.lw_transcript.specs.declared.lines.Evidence.{Evidence}
use Rattle.lw_actors.specs.declared.api.Step.{Step}
use Rattle.lw_actors.specs.declared.api.Step.TheVariants.{Did}
use Rattle.lw_actors.specs.declared.progress.DoneCall.{DoneCall}

-- calls of an actor that were made one after another, each to its end: what each saw and did, and the states
abbrev pub Ran : {S : Type 0} → (S → ℕ → Call → Bool → List Evidence → Step → S → Type 0) → ℕ → S → List Call → List DoneCall → S → Type 0
Ran gives actor s [] [] t = s ≡ t
Ran gives actor s [] (d ∷ ds) t = ⊥
Ran gives actor s (call ∷ calls) [] t = ⊥
Ran {S = S} gives actor s (call ∷ calls) (d ∷ ds) t =
    (u : S) × gives s actor call false d.seen (Did d.result) u × Ran gives actor u calls ds t
