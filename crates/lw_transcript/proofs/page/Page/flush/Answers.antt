use Rattle.std.proofs.Common.{◌≡◌, ◌∙◌, take, ap, sym, refl}
use Rattle.lw_transcript.specs.Page.{PageSeen}
use Rattle.lw_transcript.specs.contracts.page.Page.{the_view}
use Rattle.lw_transcript.proofs.Printing.{Prints-flush}
use Rattle.lw_transcript.proofs.page.Page.flush.Goals as goal

pub returns-clause-prints : goal.returns-clause-prints
returns-clause-prints g c =
    let seen = g.K.Sink.seen in
    let before = c.args.self.now in
    let after : PageSeen = record { pending = take 0 c.self.inside.buffer.items; failed = c.is_err-self-inside.result } in
    Prints-flush (seen c.args.sink.now) (seen c.write_all-written.new.sink) before after c.split_at.result.0.now c.write_all-written.result
    (ap (λ (p : PageSeen). p.failed) (sym c.self.view_is) ∙ c.if-self.false)
    (c.split_at.ensures.front ∙ ap (take c.self.inside.filled) c.deref.ensures.value ∙ ap (λ (p : PageSeen). p.pending) c.self.view_is)
    c.write_all-written.ensures.ok c.write_all-written.ensures.failed c.write_all-written.ensures.cause refl c.is_err-self-inside.ensures.value
