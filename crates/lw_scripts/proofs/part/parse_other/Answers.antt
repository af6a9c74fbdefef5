use Rattle.lw_scripts.proofs.part.parse_other.Goals as goal

pub returns-in-Some : goal.returns-in-Some
returns-in-Some c = (c.in-Some.ensures.1 c.args.version, c.in-Some.ensures.0)
