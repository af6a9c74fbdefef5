-- Laws of calls that go on answer by answer.
use Rattle.std.proofs.Common.{ℕ, ◌≡◌, ◌∙◌, ◌++◌, true, List, [], ◌∷◌, ap, subst, sym, refl, append_assoc, append-nil}
use Rattle.call_types.specs.declared.call.Call.{Call}
use Rattle.call_types.specs.declared.outcome.Outcome.{Outcome}
use Rattle.call_places.specs.declared.asks.Ask.{Ask}
use Rattle.call_places.specs.declared.asks.Answer.{Answer}
use Rattle.call_places.specs.declared.place.Caller.{Caller}
use Rattle.call_places.specs.declared.place.Seen.{Seen}
use Rattle.call_places.specs.declared.place.Place.{Place}
use Rattle.call_places.specs.declared.place.Step.{Step}
use Rattle.call_places.specs.declared.place.Place.TheVariants.{Done}
use Rattle.lw_calls.specs.Machine.{begins, asks, steps}
use Rattle.lw_calls.specs.Fits.{fits}
use Rattle.call_runs.specs.Goes.{leads, writes, Given, Fitting, Goes, Steps, WasMade}

-- one answer more leads one step on
pub leads_more : (place : Place) (xs : List Answer) (x : Answer) → leads place (xs ++ x ∷ []) ≡ (steps (leads place xs) x).next
leads_more place [] x = refl
leads_more place (y ∷ xs) x = leads_more (steps place y).next xs x

-- and writes its lines behind the others
pub writes_more : (place : Place) (xs : List Answer) (x : Answer) → writes place (xs ++ x ∷ []) ≡ writes place xs ++ (steps (leads place xs) x).wrote
writes_more place [] x = append-nil (steps place x).wrote
writes_more place (y ∷ xs) x =
    ap (λ (l : List Seen). (steps place y).wrote ++ l) (writes_more (steps place y).next xs x) ∙ sym
    (append_assoc (steps place y).wrote (writes (steps place y).next xs) (steps (leads (steps place y).next xs) x).wrote)

-- the stack gave one answer more
pub given_more : {S : Type 0} (gives : S → ℕ → Ask → Answer → S → Type 0) (actor : ℕ) (s : S) (place : Place) (xs : List Answer) (x : Answer) (t u : S) → Given gives actor s place xs t → gives t actor (asks (leads place xs)) x u → Given gives actor s place (xs ++ x ∷ []) u
given_more {S = S} gives actor s place [] x t u given more =
    (u, subst (λ (v : S). gives v actor (asks place) x u) (sym given) more, refl)
given_more gives actor s place (y ∷ xs) x t u given more =
    (given.0, given.1, given_more gives actor given.0 (steps place y).next xs x t u given.2 more)

-- one answer more fits
pub fitting_more : (place : Place) (xs : List Answer) (x : Answer) → Fitting place xs → fits (asks (leads place xs)) x ≡ true → Fitting place (xs ++ x ∷ [])
fitting_more place [] x fitting more = (more, tt)
fitting_more place (y ∷ xs) x fitting more = (fitting.0, fitting_more (steps place y).next xs x fitting.1 more)

-- without an answer a call is where it was
pub goes_none : {S : Type 0} (gives : S → ℕ → Ask → Answer → S → Type 0) (actor : ℕ) (s : S) (place : Place) (before : List Seen) → Goes gives actor s place before before s place
goes_none gives actor s place before =
    record { answers = []; given = refl; fitting = tt; led = refl; wrote = sym (append-nil before) }

-- one step more
pub goes_more : {S : Type 0} (gives : S → ℕ → Ask → Answer → S → Type 0) (actor : ℕ) (s t u : S) (place at to : Place) (before now later : List Seen) → Goes gives actor s place before now t at → Steps gives actor t at now later u to → Goes gives actor s place before later u to
goes_more {S = S} gives actor s t u place at to before now later g step =
    let more : Steps gives actor t (leads place g.answers) now later u to = subst (λ (p : Place). Steps gives actor t p now later u to) g.led step in
    let x = more.answer in
    let wrote = (steps (leads place g.answers) x).wrote in
    record {
      answers = g.answers ++ x ∷ [];
      given = given_more gives actor s place g.answers x t u g.given more.given;
      fitting = fitting_more place g.answers x g.fitting more.fitting;
      led = more.led ∙ sym (leads_more place g.answers x);
      wrote = more.wrote ∙ (ap (λ (l : List Seen). l ++ wrote) g.wrote ∙ (append_assoc before (writes place g.answers) wrote ∙ ap (λ (l : List Seen). before ++ l) (sym (writes_more place g.answers x))));
    }

-- a call that went to its end was made
pub call_made : {S : Type 0} (gives : S → ℕ → Ask → Answer → S → Type 0) (actor : ℕ) (caller : Caller) (s t : S) (call : Call) (before now : List Seen) (result : Outcome) → Goes gives actor s (begins caller call) before now t (Done result) → WasMade caller call before now result
call_made gives actor caller s t call before now result g = record {
  seen = writes (begins caller call) g.answers;
  behind = g.wrote;
  call_ = record { answers = g.answers; fitting = g.fitting; led = sym g.led; wrote = refl };
}

-- one answer makes one step
pub step_made : {S : Type 0} (gives : S → ℕ → Ask → Answer → S → Type 0) (actor : ℕ) (s t : S) (place : Place) (before now : List Seen) (asked : Ask) (answer : Answer) (made : Step) → asked ≡ asks place → gives s actor asked answer t → fits asked answer ≡ true → made ≡ steps place answer → now ≡ before ++ made.wrote → Steps gives actor s place before now t made.next
step_made gives actor s t place before now asked answer made is given fitting led wrote = record {
  answer = answer;
  given = subst (λ (a : Ask). gives s actor a answer t) is given;
  fitting = subst (λ (a : Ask). fits a answer ≡ true) is fitting;
  led = ap (λ (m : Step). m.next) led;
  wrote = wrote ∙ ap (λ (m : Step). before ++ m.wrote) led;
}

-- the same where the step began at a place that is this one
pub goes_more_from : {S : Type 0} (gives : S → ℕ → Ask → Answer → S → Type 0) (actor : ℕ) (s t u : S) (place at from to : Place) (before now later : List Seen) → from ≡ at → Goes gives actor s place before now t at → Steps gives actor t from now later u to → Goes gives actor s place before later u to
goes_more_from {S = S} gives actor s t u place at from to before now later is g step =
    goes_more gives actor s t u place at to before now later g (subst (λ (p : Place). Steps gives actor t p now later u to) is step)

-- a call was made that went on from where it begins
pub call_made_from : {S : Type 0} (gives : S → ℕ → Ask → Answer → S → Type 0) (actor : ℕ) (caller : Caller) (s t : S) (place : Place) (call : Call) (before now : List Seen) (result : Outcome) → place ≡ begins caller call → Goes gives actor s place before now t (Done result) → WasMade caller call before now result
call_made_from {S = S} gives actor caller s t place call before now result is g =
    call_made gives actor caller s t call before now result (subst (λ (p : Place). Goes gives actor s p before now t (Done result)) is g)
