use Rattle.std.proofs.Common.{sym, subst}
use Rattle.std.specs.Prelude.{IsTrue}
use Rattle.lw_payload.specs.declared.kinds.Kind.TheVariants.{Pool}
use Rattle.lw_payload.specs.Views.{Pools}
use Rattle.bench_pbuf.proofs.rounds.rounds.Goals as goal

pub one_round-requires-clause-makes : goal.one_round-requires-clause-makes
one_round-requires-clause-makes g c = subst (λ (x : Pools). IsTrue (x.makes Pool)) (sym c.loop-round.invariant.pools) c.requires.makes
