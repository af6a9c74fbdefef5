-- Laws of calls made one after another.
use Rattle.std.proofs.Common.{ℕ, ◌≡◌, ◌∙◌, ◌++◌, List, [], ◌∷◌, length, subst, sym, refl, append_assoc, append-nil, arith}
use Rattle.call_types.specs.declared.call.Call.{Call}
use Rattle.call_places.specs.declared.asks.Ask.{Ask}
use Rattle.call_places.specs.declared.asks.Answer.{Answer}
use Rattle.call_places.specs.declared.place.Place.TheVariants.{Done}
use Rattle.lw_calls.specs.Machine.{begins}
use Rattle.call_runs.specs.Goes.{Goes}
use Rattle.call_runs.specs.Runs.{caller_of, Ran, AreCalls, HasRun}
use Rattle.call_runs.specs.declared.done.DoneCall.{DoneCall}

-- one call more
pub ran_more : {S : Type 0} (gives : S → ℕ → Ask → Answer → S → Type 0) (actor : ℕ) (s t u : S) (calls : List Call) (done : List DoneCall) (call : Call) (d : DoneCall) → Ran gives actor s calls done t → Goes gives actor t (begins (caller_of actor) call) [] d.seen u (Done d.result) → Ran gives actor s (calls ++ call ∷ []) (done ++ d ∷ []) u
ran_more {S = S} gives actor s t u [] [] call d ran made =
    (u, subst (λ (x : S). Goes gives actor x (begins (caller_of actor) call) [] d.seen u (Done d.result)) (sym ran) made, refl)
ran_more gives actor s t u [] (e ∷ done) call d ran made = absurd ran
ran_more gives actor s t u (c ∷ calls) [] call d ran made = absurd ran
ran_more gives actor s t u (c ∷ calls) (e ∷ done) call d ran made =
    (ran.0, ran.1, ran_more gives actor ran.0 t u calls done call d ran.2 made)

-- what was done is of the calls
pub are_calls : {S : Type 0} (gives : S → ℕ → Ask → Answer → S → Type 0) (actor : ℕ) (s t : S) (calls : List Call) (done : List DoneCall) → Ran gives actor s calls done t → AreCalls actor calls done
are_calls gives actor s t [] [] ran = tt
are_calls gives actor s t [] (d ∷ done) ran = absurd ran
are_calls gives actor s t (c ∷ calls) [] ran = absurd ran
are_calls gives actor s t (c ∷ calls) (d ∷ done) ran =
    (record { answers = ran.1.answers; fitting = ran.1.fitting; led = sym ran.1.led; wrote = ran.1.wrote }, are_calls gives actor ran.0 t calls done ran.2)

-- at first all are left
pub none_run : {S : Type 0} (gives : S → ℕ → Ask → Answer → S → Type 0) (actor : ℕ) (s : S) (calls : List Call) → HasRun gives actor s calls calls [] s
none_run gives actor s calls = record { made = []; all = refl; ran = refl }

-- one call less is left
pub has_run_more : {S : Type 0} (gives : S → ℕ → Ask → Answer → S → Type 0) (actor : ℕ) (s t u : S) (calls left : List Call) (done : List DoneCall) (call : Call) (d : DoneCall) → HasRun gives actor s calls (call ∷ left) done t → Goes gives actor t (begins (caller_of actor) call) [] d.seen u (Done d.result) → HasRun gives actor s calls left (done ++ d ∷ []) u
has_run_more gives actor s t u calls left done call d h made = record {
  made = h.made ++ call ∷ [];
  all = h.all ∙ sym (append_assoc h.made (call ∷ []) left);
  ran = ran_more gives actor s t u h.made done call d h.ran made;
}

-- at last none is
pub all_run : {S : Type 0} (gives : S → ℕ → Ask → Answer → S → Type 0) (actor : ℕ) (s t : S) (calls : List Call) (done : List DoneCall) → HasRun gives actor s calls [] done t → Ran gives actor s calls done t
all_run {S = S} gives actor s t calls done h =
    subst (λ (xs : List Call). Ran gives actor s xs done t) (sym (h.all ∙ append-nil h.made)) h.ran

-- the same in the words of a loop over the calls
pub none_run_from : {S : Type 0} (gives : S → ℕ → Ask → Answer → S → Type 0) (actor : ℕ) (s : S) (calls left : List Call) (done : List DoneCall) → left ≡ calls → done ≡ [] → HasRun gives actor s calls left done s
none_run_from {S = S} gives actor s calls left done all none =
    subst (λ (xs : List Call). HasRun gives actor s calls xs done s) (sym all) (subst (λ (ds : List DoneCall). HasRun gives actor s calls calls ds s) (sym none) (none_run gives actor s calls))

pub has_run_from : {S : Type 0} (gives : S → ℕ → Ask → Answer → S → Type 0) (actor : ℕ) (s t u : S) (calls left rest : List Call) (done later : List DoneCall) (call : Call) (d : DoneCall) → left ≡ call ∷ rest → later ≡ done ++ d ∷ [] → HasRun gives actor s calls left done t → Goes gives actor t (begins (caller_of actor) call) [] d.seen u (Done d.result) → HasRun gives actor s calls rest later u
has_run_from {S = S} gives actor s t u calls left rest done later call d first more h made =
    subst (λ (ds : List DoneCall). HasRun gives actor s calls rest ds u) (sym more)
    (has_run_more gives actor s t u calls rest done call d (subst (λ (xs : List Call). HasRun gives actor s calls xs done t) first h) made)

nothing : (xs : List Call) → length xs ≡ 0 → xs ≡ []
nothing [] e = refl
nothing (x ∷ xs) e = absurd (omega arith)

pub all_run_from : {S : Type 0} (gives : S → ℕ → Ask → Answer → S → Type 0) (actor : ℕ) (s t : S) (calls left : List Call) (done : List DoneCall) → length left ≡ 0 → HasRun gives actor s calls left done t → Ran gives actor s calls done t
all_run_from {S = S} gives actor s t calls left done none h =
    all_run gives actor s t calls done (subst (λ (xs : List Call). HasRun gives actor s calls xs done t) (nothing left none) h)

pub all_made_from : {S : Type 0} (gives : S → ℕ → Ask → Answer → S → Type 0) (actor : ℕ) (s t : S) (calls left : List Call) (done : List DoneCall) → length left ≡ 0 → HasRun gives actor s calls left done t → AreCalls actor calls done
all_made_from gives actor s t calls left done none h =
    are_calls gives actor s t calls done (all_run_from gives actor s t calls left done none h)
