use Rattle.std.proofs.Common.{◌∙◌, length, refl}
use Rattle.lw_layers.proofs.PlanLaws.{mail_stands}
use Rattle.lw_layers.proofs.mail.mail_of.Goals as goal

pub returns-clause-mail : goal.returns-clause-mail
returns-clause-mail c = λ cs octets goes within stands.
    mail_stands cs c.in-Some.post c.args.post c.args.body.now c.from_vec-octets.result octets c.args.before (length c.args.body.now) c.in-Some.is refl goes within stands
    (c.from_vec-octets.ensures ∙ c.in_ok-from_slice.ensures.items)
