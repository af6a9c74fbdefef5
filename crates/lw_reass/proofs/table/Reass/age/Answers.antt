use Rattle.std.proofs.Common.{◌++◌, List, map, length, ap, ◌∙◌, subst, sym, arith}
use Rattle.std.specs.List.{All}
use Rattle.lw_reass.specs.Datagrams.{aged}
use Rattle.lw_reass.specs.Opens.{datagram, IsOpen}
use Rattle.lw_reass.specs.declared.datagram.Open.{Open}
use Rattle.lw_reass.proofs.Adds.{all_seen}
use Rattle.lw_reass.proofs.Ages.{nexts_few, nexts_each, nexts_datagrams, kept_aged, over_aged, holds_all}
use Rattle.lw_reass.proofs.table.Reass.age.Goals as goal

pub age_all-requires-clause-room : goal.age_all-requires-clause-room
age_all-requires-clause-room g c =
    let size = ap length (all_seen c.args.self.now c.self.inside.opens.items (ap (λ r. r.kept) c.self.view_is)) in
    let room = c.requires in
    omega arith

pub invariant_of-self : goal.invariant_of-self
invariant_of-self g c = record {
  few = let less = nexts_few c.self.inside.opens.items in let few = c.self.invariant.few in let same = ap length c.age_all.ensures.opens in omega arith;
  each = subst (λ (os : List (Open g.row.P.Denot g.row.P-Home.Denot)). All (IsOpen g.P.Payload.seen) os) (sym c.age_all.ensures.opens) (nexts_each g.P.Payload.seen c.self.inside.opens.items c.self.invariant.each);
  empty = c.self.invariant.empty;
  none = c.self.invariant.none;
  place = let same = c.age_all.ensures.capacity in let place = c.self.invariant.place in omega arith;
}

pub returns-clause-datagrams : goal.returns-clause-datagrams
returns-clause-datagrams g c = ap (λ os. map datagram os) c.age_all.ensures.opens ∙ nexts_datagrams c.self.inside.opens.items ∙ ap (λ r. aged r.datagrams) c.self.view_is

pub returns-clause-kept : goal.returns-clause-kept
returns-clause-kept g c =
    kept_aged c.args.self.now c.self.inside.opens.items c.age_all.new.opens.items (ap (λ r. r.datagrams) c.self.view_is) (ap (λ r. r.kept) c.self.view_is) c.age_all.ensures.opens

pub returns-clause-given : goal.returns-clause-given
returns-clause-given g c =
    c.age_all.ensures.given ∙ ap (λ ps. c.args.gone.now.items ++ ps) (over_aged c.args.self.now c.self.inside.opens.items (ap (λ r. r.datagrams) c.self.view_is) (ap (λ r. r.kept) c.self.view_is))

pub returns-clause-bodies : goal.returns-clause-bodies
returns-clause-bodies g c =
    holds_all g.P.Payload.seen c.args.self.now c.self.inside.opens.items c.age_all.new.opens.items (ap (λ r. r.datagrams) c.self.view_is) (ap (λ r. r.kept) c.self.view_is) c.age_all.ensures.opens
