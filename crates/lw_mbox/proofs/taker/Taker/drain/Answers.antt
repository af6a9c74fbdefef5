use Rattle.std.proofs.Common.{rules, sym, ap, ◌∙◌}
use Rattle.lw_base.specs.declared.event_word.Flag.TheVariants.{Closed}
use Rattle.lw_base.specs.declared.event_word.Word.{Word}
use Rattle.lw_base.specs.EventWord.{is_set}
use Rattle.lw_mbox.specs.Rule.{word_of}
use Rattle.lw_mbox.proofs.Trails.{never_closed}
use Rattle.lw_mbox.proofs.TakerSteps.{loads, ready_at}
use Rattle.lw_mbox.proofs.taker.Taker.drain.Goals as goal

pub load-loaded-requires : goal.load-loaded-requires
load-loaded-requires g c = (search rules, search rules, loads g.T.Mail.fits _ _ _ _ (search rules))

pub drain_at-requires : goal.drain_at-requires
drain_at-requires g c = let l = c.load-loaded.ensures.2 in let r = ready_at _ _ _ c.read-word.result l.2 c.read-word.ensures c.if-word.false in let i = c.self.invariant in let m = c.mbox.invariant in record {
  table = (search rules, m.0, m.1, m.2, m.3);
  idle = (search rules, search rules, l.1 ∙ i.0);
  word = (c.read-word.ensures, r.0, search rules, r.1);
}

pub returns-then-not-has : goal.returns-then-not-has
returns-then-not-has g c = let l = c.load-loaded.ensures.2.2 in let shut = sym c.has.ensures ∙ c.if-not-has.true in
    let never = never_closed c.self.inside.seat.me.0.trail.met (word_of c.load-loaded.result) l.newer (ap (λ (w : Word). is_set Closed w.flags) (sym c.read-word.ensures) ∙ shut) in search rules
