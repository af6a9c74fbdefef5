use Rattle.std.proofs.Common.{◌≡◌, ◌∙◌, Bool, List, ℕ, false, true, [], ap, sym}
use Rattle.lw_transcript.specs.Page.{PageSeen, IsPrinted}
use Rattle.lw_transcript.specs.Transcript.{transcript_spelling}
use Rattle.lw_transcript.proofs.Printing.{printed_whole, taken_whole}
use Rattle.lw_transcript.proofs.spelling.write_transcript.Goals as goal

pub returns-then-is_failed-clause-err : goal.returns-then-is_failed-clause-err
returns-then-is_failed-clause-err g c =
    let seen = g.K.Sink.seen in
    let printed : IsPrinted (seen c.args.sink.now) (seen c.flush.new.sink) c.flush.new.self (transcript_spelling c.args.t.now) =
    printed_whole (seen c.args.sink.now) (seen c.transcript.new.sink) (seen c.flush.new.sink) c.in-Ok.page c.transcript.new.page
    c.flush.new.self (transcript_spelling c.args.t.now) (ap (λ (p : PageSeen). p.pending) c.in-Ok.ensures)
    (ap (λ (p : PageSeen). p.failed) c.in-Ok.ensures) c.transcript.ensures c.flush.ensures.prints in
    (printed.taken, printed.rose (sym c.is_failed.ensures ∙ c.if-is_failed.true))

pub returns-then-is_failed-clause-later : goal.returns-then-is_failed-clause-later
returns-then-is_failed-clause-later g c =
    let seen = g.K.Sink.seen in
    let printed : IsPrinted (seen c.args.sink.now) (seen c.flush.new.sink) c.flush.new.self (transcript_spelling c.args.t.now) =
    printed_whole (seen c.args.sink.now) (seen c.transcript.new.sink) (seen c.flush.new.sink) c.in-Ok.page c.transcript.new.page
    c.flush.new.self (transcript_spelling c.args.t.now) (ap (λ (p : PageSeen). p.pending) c.in-Ok.ensures)
    (ap (λ (p : PageSeen). p.failed) c.in-Ok.ensures) c.transcript.ensures c.flush.ensures.prints in
    printed.later

pub returns-clause-ok : goal.returns-clause-ok
returns-clause-ok g c =
    let seen = g.K.Sink.seen in
    let printed : IsPrinted (seen c.args.sink.now) (seen c.flush.new.sink) c.flush.new.self (transcript_spelling c.args.t.now) =
    printed_whole (seen c.args.sink.now) (seen c.transcript.new.sink) (seen c.flush.new.sink) c.in-Ok.page c.transcript.new.page
    c.flush.new.self (transcript_spelling c.args.t.now) (ap (λ (p : PageSeen). p.pending) c.in-Ok.ensures)
    (ap (λ (p : PageSeen). p.failed) c.in-Ok.ensures) c.transcript.ensures c.flush.ensures.prints in
    taken_whole (seen c.args.sink.now) (seen c.flush.new.sink) c.flush.new.self (transcript_spelling c.args.t.now) c.flush.ensures.empty
    (sym c.is_failed.ensures ∙ c.if-is_failed.false) printed

pub returns-clause-later : goal.returns-clause-later
returns-clause-later g c =
    let seen = g.K.Sink.seen in
    let printed : IsPrinted (seen c.args.sink.now) (seen c.flush.new.sink) c.flush.new.self (transcript_spelling c.args.t.now) =
    printed_whole (seen c.args.sink.now) (seen c.transcript.new.sink) (seen c.flush.new.sink) c.in-Ok.page c.transcript.new.page
    c.flush.new.self (transcript_spelling c.args.t.now) (ap (λ (p : PageSeen). p.pending) c.in-Ok.ensures)
    (ap (λ (p : PageSeen). p.failed) c.in-Ok.ensures) c.transcript.ensures c.flush.ensures.prints in
    printed.later
