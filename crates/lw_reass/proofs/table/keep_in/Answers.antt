use Rattle.std.proofs.Common.{◌≡◌}
use Rattle.lw_reass.specs.Opens.{the_datagram}
use Rattle.lw_reass.proofs.Wholes.{fitting}
use Rattle.lw_reass.proofs.Tables.{here_all, kept_datagrams, kept_bodies, kept_each}
use Rattle.lw_reass.proofs.table.keep_in.Goals as goal

pub keep-requires-clause-family : goal.keep-requires-clause-family
keep-requires-clause-family g c =
    here_all (λ p. (g.P.Payload.seen p).family ≡ (g.P.Payload.seen c.args.body).family) c.args.opens.now.items c.args.place c.index_mut-datagram.result.now c.requires.within c.index_mut-datagram.ensures.value c.requires.family

pub returns-clause-datagrams : goal.returns-clause-datagrams
returns-clause-datagrams g c =
    kept_datagrams c.args.opens.now.items c.args.place c.index_mut-datagram.result.now c.keep.new.self c.args.h.now (g.P.Payload.seen c.args.body).octets c.requires.within c.index_mut-datagram.ensures.value c.keep.ensures.datagram

pub returns-clause-bodies : goal.returns-clause-bodies
returns-clause-bodies g c = kept_bodies g.P.Payload.seen c.args.opens.now.items c.args.place c.index_mut-datagram.result.now c.keep.new.self c.args.body c.requires.within c.index_mut-datagram.ensures.value c.keep.ensures.bodies

pub returns-clause-each : goal.returns-clause-each
returns-clause-each g c =
    kept_each g.P.Payload.seen c.args.opens.now.items c.args.place c.index_mut-datagram.result.now c.keep.new.self c.args.h.now (g.P.Payload.seen c.args.body).octets c.requires.within c.index_mut-datagram.ensures.value c.requires.each
    (fitting (the_datagram c.args.opens.now.items c.args.place c.args.h.now) c.args.h.now _ c.requires.fits) c.keep.ensures.datagram c.keep.ensures.stand
