use Rattle.std.proofs.Common.{ℕ, ◌≡◌, ◌∙◌, ◌++◌, List, subst, decimal, codes}
use Rattle.lw_outside.specs.Sinks.{Adds, AddsFront}
use Rattle.lwip_run.proofs.Fronts.{first_front, on_error, second_front}
use Rattle.lwip_run.proofs.refusal.write_numbered.Goals as goal

pub returns-in_err-write_two-clause-failed : goal.returns-in_err-write_two-clause-failed
returns-in_err-write_two-clause-failed g c =
    let seen = g.K.Sink.seen in
    let text : c.as_bytes.result.now ≡ decimal c.args.number = c.as_bytes.ensures.value ∙ c.format.ensures.text in
    let front =
    subst (λ (digits : List ℕ). AddsFront (seen c.args.sink.now) (seen c.write_two.new.sink) (c.args.head.now ++ digits)) text
    c.in_err-write_two.ensures.failed in
    on_error c.from_residual.result
    (first_front (seen c.args.sink.now) (seen c.write_two.new.sink) (c.args.head.now ++ decimal c.args.number) (codes "\n") front)

pub returns-in_err-write_all-clause-failed : goal.returns-in_err-write_all-clause-failed
returns-in_err-write_all-clause-failed g c =
    let seen = g.K.Sink.seen in
    let text : c.as_bytes.result.now ≡ decimal c.args.number = c.as_bytes.ensures.value ∙ c.format.ensures.text in
    let added =
    subst (λ (digits : List ℕ). Adds (seen c.args.sink.now) (seen c.write_two.new.sink) (c.args.head.now ++ digits)) text
    c.in_ok-write_two.ensures.ok in
    on_error c.from_residual-in_err-write_all.result
    (second_front (seen c.args.sink.now) (seen c.write_two.new.sink) (seen c.write_all.new.sink) (c.args.head.now ++ decimal c.args.number) (codes "\n") added c.in_err-write_all.ensures.failed)
