use Rattle.lwip_run.proofs.Fronts.{first_front, on_error, second_front}
use Rattle.lwip_run.proofs.refusal.write_two.Goals as goal

pub returns-in_err-write_all-clause-failed : goal.returns-in_err-write_all-clause-failed
returns-in_err-write_all-clause-failed g c =
    let seen = g.K.Sink.seen in
    on_error c.from_residual.result
    (first_front (seen c.args.sink.now) (seen c.write_all.new.sink) c.args.first.now c.args.second.now c.in_err-write_all.ensures.failed)

pub returns-in_err-write_all-2-clause-failed : goal.returns-in_err-write_all-2-clause-failed
returns-in_err-write_all-2-clause-failed g c =
    let seen = g.K.Sink.seen in
    on_error c.from_residual-in_err-write_all-2.result
    (second_front (seen c.args.sink.now) (seen c.write_all.new.sink) (seen c.write_all-2.new.sink) c.args.first.now c.args.second.now c.in_ok-write_all.ensures.ok c.in_err-write_all-2.ensures.failed)
