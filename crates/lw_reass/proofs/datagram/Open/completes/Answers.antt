use Rattle.std.proofs.Common.{◌+◌, nat_eq, sym, ap, ◌∙◌}
use Rattle.lw_reass.proofs.Wholes.{fitting, completes_count, completes_never}
use Rattle.lw_reass.specs.Opens.{datagram}
use Rattle.lw_reass.proofs.datagram.Open.completes.Goals as goal

pub returns-in-Some : goal.returns-in-Some
returns-in-Some g c =
    ap (λ m. nat_eq c.in-Some.end (m + c.args.n)) c.count.ensures.exact
    ∙ sym (completes_count (datagram c.args.self.now) c.args.h.now c.args.n c.in-Some.end c.requires.open.within (fitting (datagram c.args.self.now) c.args.h.now c.args.n c.requires.fits) c.requires.free (sym c.end_with.ensures ∙ c.in-Some.is))

pub returns-in-None : goal.returns-in-None
returns-in-None g c = sym (completes_never (datagram c.args.self.now) c.args.h.now c.args.n (sym c.end_with.ensures ∙ c.in-None.is))
