use Rattle.std.proofs.Common.{rules, ◌≡◌, ◌%◌, ◌<◌, ◌∙◌, subst, false}
use Rattle.lw_mbox.proofs.TakerSteps.{claims, claimed_slot, claimed_ok}
use Rattle.lw_base.specs.declared.event_word.Word.{Word}
use Rattle.lw_base.specs.declared.event_word.Flag.TheVariants.{Closed}
use Rattle.lw_base.specs.EventWord.{is_set}
use Rattle.lw_mbox.proofs.taker.fetch_at.Goals as goal

pub compare_exchange-found-requires : goal.compare_exchange-found-requires
compare_exchange-found-requires g c = let q = c.requires in let w = q.word in (search rules, search rules, claims g.T.Mail.fits _ _ _ _ false _ q.idle.0 q.idle.1 (subst (λ (z : Word). z.claimed < z.posted) w.0 w.1) (subst (λ (z : Word). is_set Closed z.flags ≡ false) w.0 w.2))

pub take-requires : goal.take-requires
take-requires g c = let q = c.requires in let s = claimed_slot g.T.Mail.fits false _ _ _ _ _ c.args.capacity c.args.word c.if-found-loaded.false q.word.0 q.table.2 q.idle.2 c.compare_exchange-found.ensures.2 in record { table = search rules; holds = s.0; slot = s.1 }

pub returns : goal.returns
returns g c = let q = c.compare_exchange-found.ensures in let t = c.take.ensures in record {
  table = (t.table.0 ∙ q.0, t.table.1 ∙ q.1);
  claims = claimed_ok g.T.Mail.fits false c.args.ring.now.shared.table_id.slots c.args.loaded c.args.seat.now.me c.compare_exchange-found.new.seat.me c.take.new.seat.me c.compare_exchange-found.result (c.args.word.claimed % c.args.capacity) c.take.result c.if-found-loaded.false q.2 t.seat.0 t.seat.1 t.item;
}
