use Rattle.std.proofs.Common.{rules, sym, ◌∙◌}
use Rattle.lw_mbox.proofs.TakerSteps.{loads, ready_at}
use Rattle.lw_mbox.proofs.taker.Taker.try_fetch.Goals as goal

pub load-loaded-requires : goal.load-loaded-requires
load-loaded-requires g c = (search rules, search rules, loads g.T.Mail.fits _ _ _ _ (search rules))

pub fetch_at-requires : goal.fetch_at-requires
fetch_at-requires g c = let l = c.load-loaded.ensures.2 in let r = ready_at _ _ _ c.read-word.result l.2 c.read-word.ensures c.if-word.false in let i = c.self.invariant in let m = c.mbox.invariant in record {
  table = (search rules, m.0, m.1, m.2, m.3);
  idle = (search rules, search rules, l.1 ∙ i.0);
  word = (c.read-word.ensures, r.0, sym c.has.ensures ∙ c.if-has.false, r.1);
}
