use Rattle.std.proofs.Common.{List, ◌∙◌, ap, subst, sym, rules}
use Rattle.lw_actors.specs.Runs.{Ran}
use Rattle.lw_actors.specs.declared.progress.DoneCall.{DoneCall}
use Rattle.lw_actors.specs.declared.progress.Progress.{Progress}
use Rattle.lw_actors.proofs.RunsLaws.{ran_length}
use Rattle.lw_script.specs.Driver.{driver_calls}
use Rattle.lw_serial.proofs.rounds.run_serial.Goals as goal

pub returns : goal.returns
returns g c =
    let made = c.in_ok-driver.ensures in
    record {
      driver = c.in_ok-driver.driver;
      only = search rules;
      next = ap (λ (p : Progress). p.next) made ∙ ran_length g.A.Api.gives 0 (g.A.Api.state c.args.api.now) (g.A.Api.state c.all_calls.new.api) (driver_calls c.args.script.now) c.in_ok-done.done.items c.in_ok-done.ensures;
      begun = ap (λ (p : Progress). p.begun) made;
      seen = ap (λ (p : Progress). p.seen) made;
      ran = subst
          (λ (done : List DoneCall). Ran g.A.Api.gives 0 (g.A.Api.state c.args.api.now) (driver_calls c.args.script.now) done (g.A.Api.state c.all_calls.new.api))
          (sym (ap (λ (p : Progress). p.done) made)) c.in_ok-done.ensures;
    }
