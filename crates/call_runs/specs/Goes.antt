-- Calls over any stack: what answers lead to, what is written on the way, and when a result is one of its call.
use Rattle.std.specs.Prelude.{ℕ, ◌≡◌, true, List, [], ◌∷◌, ◌++◌}
use Rattle.call_types.specs.declared.call.Call.{Call}
use Rattle.call_types.specs.declared.outcome.Outcome.{Outcome}
use Rattle.call_places.specs.declared.asks.Ask.{Ask}
use Rattle.call_places.specs.declared.asks.Answer.{Answer}
use Rattle.call_places.specs.declared.place.Caller.{Caller}
use Rattle.call_places.specs.declared.place.Seen.{Seen}
use Rattle.call_places.specs.declared.place.Place.{Place}
use Rattle.call_places.specs.declared.place.Place.TheVariants.{Done}
use Rattle.lw_calls.specs.Machine.{begins, asks, steps}
use Rattle.lw_calls.specs.Fits.{fits}

-- where answers lead, one after another
abbrev pub leads : Place → List Answer → Place
leads place [] = place
leads place (x ∷ xs) = leads (steps place x).next xs

-- the lines that they write
abbrev pub writes : Place → List Answer → List Seen
writes place [] = []
writes place (x ∷ xs) = (steps place x).wrote ++ writes (steps place x).next xs

-- a stack gave these answers to what was asked, from this state to that
abbrev pub Given : {S : Type 0} → (S → ℕ → Ask → Answer → S → Type 0) → ℕ → S → Place → List Answer → S → Type 0
Given gives actor s place [] t = s ≡ t
Given {S = S} gives actor s place (x ∷ xs) t =
    (u : S) × gives s actor (asks place) x u × Given gives actor u (steps place x).next xs t

-- each answer fits what was asked
abbrev pub Fitting : Place → List Answer → Type 0
Fitting place [] = Unit {0}
Fitting place (x ∷ xs) = (fits (asks place) x ≡ true) × Fitting (steps place x).next xs

-- a call went on from one place to another: by answers that the stack gave and that fit, which led there and wrote what
-- is behind what was seen before
pub record Goes {S : Type 0} (gives : S → ℕ → Ask → Answer → S → Type 0) (actor : ℕ) (s : S) (place : Place) (before now : List Seen) (t : S) (to : Place) : Type 0 where
  pub answers : List Answer
  pub given : Given gives actor s place answers t
  pub fitting : Fitting place answers
  pub led : to ≡ leads place answers
  pub wrote : now ≡ before ++ writes place answers

-- one answer led from one place to another
pub record Steps {S : Type 0} (gives : S → ℕ → Ask → Answer → S → Type 0) (actor : ℕ) (s : S) (place : Place) (before now : List Seen) (t : S) (to : Place) : Type 0 where
  pub answer : Answer
  pub given : gives s actor (asks place) answer t
  pub fitting : fits (asks place) answer ≡ true
  pub led : to ≡ (steps place answer).next
  pub wrote : now ≡ before ++ (steps place answer).wrote

-- The call relation

-- a call can see this and end so: fitting answers lead it to this result, and write just these lines
pub record IsCall (caller : Caller) (call : Call) (seen : List Seen) (result : Outcome) : Type 0 where
  pub answers : List Answer
  pub fitting : Fitting (begins caller call) answers
  pub led : leads (begins caller call) answers ≡ Done result
  pub wrote : seen ≡ writes (begins caller call) answers

-- a call was made: what it wrote stands behind what was seen before
pub record WasMade (caller : Caller) (call : Call) (before now : List Seen) (result : Outcome) : Type 0 where
  pub seen : List Seen
  pub behind : now ≡ before ++ seen
  pub call_ : IsCall caller call seen result
