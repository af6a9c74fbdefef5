use Rattle.std.proofs.Common.{rules, List, [], ◌∷◌, ◌++◌, ap, subst, ◌∙◌, arith}
use Rattle.tcpip_mbox.specs.declared.view.Letter.{Letter}
use Rattle.tcpip_mbox.specs.Letters.{sent_by}
use Rattle.tcpip_mbox.proofs.Steps.{pops, emptied}
use Rattle.tcpip_mbox.proofs.mbox.TcpipMbox.get.Goals as goal

pub pop_as-requires-clause-rule : goal.pop_as-requires-clause-rule
pop_as-requires-clause-rule g c = (pops g.M.Message.fits _ _ c.args.self.now.key (search rules) (search rules), emptied g.M.Message.fits _ _ c.args.self.now.key (search rules) (search rules))

pub returns-clause-some : goal.returns-clause-some
returns-clause-some g c = let told = c.in_ok-letter.ensures.rule in let x = c.in_ok-letter.letter in let same = ap (λ r. r.given) c.get.view_is in (
  x.from,
  (let le = told.1 in let same = ap (λ r. r.others) c.get.view_is in omega arith),
  subst (λ (l : List (Letter g.row.M.Denot)). g.M.Message.fits c.args.self.now.key x.from (sent_by x.from l) x.message) same (told.2 c.args.self.now.key (ap (λ r. r.key) c.get.view_is ∙ c.requires.own.1)),
  ap (λ v. v.given) told.0 ∙ ap (λ (l : List (Letter g.row.M.Denot)). l ++ x ∷ []) same,
)
