-- The calls of an actor, one after another.
use Rattle.std.specs.Prelude.{ℕ, ◌≡◌, List, [], ◌∷◌, ◌++◌, ◌==◌, if◌then◌else◌}
use Rattle.call_types.specs.declared.call.Call.{Call}
use Rattle.call_places.specs.declared.asks.Ask.{Ask}
use Rattle.call_places.specs.declared.asks.Answer.{Answer}
use Rattle.call_places.specs.declared.place.Caller.{Caller}
use Rattle.call_places.specs.declared.place.Caller.TheVariants.{Driver, Actor}
use Rattle.call_places.specs.declared.place.Place.TheVariants.{Done}
use Rattle.lw_calls.specs.Machine.{begins}
use Rattle.call_runs.specs.Goes.{Goes, IsCall}
use Rattle.call_runs.specs.declared.done.DoneCall.{DoneCall}

-- who makes the calls of an actor: actor 0 is the driver
abbrev pub caller_of : ℕ → Caller
caller_of actor = if actor == 0 then Driver else Actor

-- calls of an actor that were made one after another, each to its end: what each saw and did, and the states
abbrev pub Ran : {S : Type 0} → (S → ℕ → Ask → Answer → S → Type 0) → ℕ → S → List Call → List DoneCall → S → Type 0
Ran gives actor s [] [] t = s ≡ t
Ran gives actor s [] (d ∷ ds) t = ⊥
Ran gives actor s (call ∷ calls) [] t = ⊥
Ran {S = S} gives actor s (call ∷ calls) (d ∷ ds) t =
    (u : S) × Goes gives actor s (begins (caller_of actor) call) [] d.seen u (Done d.result) × Ran gives actor u calls ds t

-- what was done is of these calls, in their order
abbrev pub AreCalls : ℕ → List Call → List DoneCall → Type 0
AreCalls actor [] [] = Unit {0}
AreCalls actor [] (d ∷ ds) = ⊥
AreCalls actor (call ∷ calls) [] = ⊥
AreCalls actor (call ∷ calls) (d ∷ ds) = IsCall (caller_of actor) call d.seen d.result × AreCalls actor calls ds

-- the first of these calls were made, and these are left
pub record HasRun {S : Type 0} (gives : S → ℕ → Ask → Answer → S → Type 0) (actor : ℕ) (s : S) (calls left : List Call) (done : List DoneCall) (t : S) : Type 0 where
  pub made : List Call
  pub all : calls ≡ made ++ left
  pub ran : Ran gives actor s made done t
