use Rattle.std.proofs.Common.{◌≡◌, [], ◌∷◌, map, length, vec_capacity, sym, ap, ◌∙◌, arith}
use Rattle.lw_reass.specs.Opens.{datagram}
use Rattle.lw_reass.proofs.Adds.{planned_keep, planned_complete, planned_inside, planned_place, fits_opened, free_opened, all_inside, few_with, keep_seen, complete_seen, complete_outcome, holds_seen}
use Rattle.lw_reass.proofs.table.Reass.add.Goals as goal

pub open_in-requires-clause-place : goal.open_in-requires-clause-place
open_in-requires-clause-place g c =
    let planned = (planned_inside c.args.self.now.datagrams c.self.inside.opens.items c.args.h.now (length (g.P.Payload.seen c.args.body).octets) c.in-Keep.place (ap (λ r. r.datagrams) c.self.view_is)
    (planned_keep c.args.self.now.datagrams c.args.h.now (length (g.P.Payload.seen c.args.body).octets) c.in-Keep.place (sym c.requires.plan ∙ c.in-Keep.is))) in
    planned.at

pub open_in-requires-clause-capacity : goal.open_in-requires-clause-capacity
open_in-requires-clause-capacity g c =
    planned_place c.self.inside.opens.items c.args.h.now (length (g.P.Payload.seen c.args.body).octets) c.in-Keep.place (vec_capacity c.self.inside.opens)
    (planned_inside c.args.self.now.datagrams c.self.inside.opens.items c.args.h.now (length (g.P.Payload.seen c.args.body).octets) c.in-Keep.place (ap (λ r. r.datagrams) c.self.view_is)
    (planned_keep c.args.self.now.datagrams c.args.h.now (length (g.P.Payload.seen c.args.body).octets) c.in-Keep.place (sym c.requires.plan ∙ c.in-Keep.is))) c.self.invariant.place

pub keep_in-requires-clause-fits : goal.keep_in-requires-clause-fits
keep_in-requires-clause-fits g c =
    fits_opened (map datagram c.self.inside.opens.items) c.args.h.now (length (g.P.Payload.seen c.args.body).octets) c.in-Keep.place c.open_in.new.opens.items
    (planned_inside c.args.self.now.datagrams c.self.inside.opens.items c.args.h.now (length (g.P.Payload.seen c.args.body).octets) c.in-Keep.place (ap (λ r. r.datagrams) c.self.view_is)
    (planned_keep c.args.self.now.datagrams c.args.h.now (length (g.P.Payload.seen c.args.body).octets) c.in-Keep.place (sym c.requires.plan ∙ c.in-Keep.is))) c.open_in.ensures.datagrams

pub keep_in-requires-clause-free : goal.keep_in-requires-clause-free
keep_in-requires-clause-free g c =
    free_opened (map datagram c.self.inside.opens.items) c.args.h.now (length (g.P.Payload.seen c.args.body).octets) c.in-Keep.place c.open_in.new.opens.items
    (planned_inside c.args.self.now.datagrams c.self.inside.opens.items c.args.h.now (length (g.P.Payload.seen c.args.body).octets) c.in-Keep.place (ap (λ r. r.datagrams) c.self.view_is)
    (planned_keep c.args.self.now.datagrams c.args.h.now (length (g.P.Payload.seen c.args.body).octets) c.in-Keep.place (sym c.requires.plan ∙ c.in-Keep.is))) c.open_in.ensures.datagrams

pub keep_in-requires-clause-family : goal.keep_in-requires-clause-family
keep_in-requires-clause-family g c =
    all_inside (λ p. (g.P.Payload.seen p).family ≡ (g.P.Payload.seen c.args.body).family) c.args.self.now.kept c.self.inside.opens.items c.open_in.new.opens.items (ap (λ r. r.kept) c.self.view_is) c.open_in.ensures.bodies c.requires.family

pub invariant_of-self : goal.invariant_of-self
invariant_of-self g c =
    let most = few_with c.self.inside.opens.items c.open_in.new.opens.items c.args.h.now (length (g.P.Payload.seen c.args.body).octets) c.in-Keep.place
    (planned_inside c.args.self.now.datagrams c.self.inside.opens.items c.args.h.now (length (g.P.Payload.seen c.args.body).octets) c.in-Keep.place (ap (λ r. r.datagrams) c.self.view_is)
    (planned_keep c.args.self.now.datagrams c.args.h.now (length (g.P.Payload.seen c.args.body).octets) c.in-Keep.place (sym c.requires.plan ∙ c.in-Keep.is))) c.open_in.ensures.datagrams c.self.invariant.few in
    record {
      few = let less = c.keep_in.ensures.length in omega arith;
      each = c.keep_in.ensures.each;
      empty = c.open_in.ensures.empty;
      none = c.open_in.ensures.none;
      place = let a = c.keep_in.ensures.capacity in let b = c.open_in.ensures.capacity in let d = c.self.invariant.place in omega arith;
    }

pub returns-in-Keep-clause-datagrams : goal.returns-in-Keep-clause-datagrams
returns-in-Keep-clause-datagrams g c =
    keep_seen c.args.self.now.datagrams c.self.inside.opens.items c.open_in.new.opens.items c.keep_in.new.opens.items c.args.h.now (g.P.Payload.seen c.args.body).octets c.in-Keep.place (ap (λ r. r.datagrams) c.self.view_is)
    (sym c.requires.plan ∙ c.in-Keep.is) c.open_in.ensures.datagrams c.keep_in.ensures.datagrams

pub returns-in-Keep-clause-bodies : goal.returns-in-Keep-clause-bodies
returns-in-Keep-clause-bodies g c =
    holds_seen g.P.Payload.seen c.args.body [] c.args.self.now.kept c.self.inside.opens.items c.open_in.new.opens.items c.keep_in.new.opens.items (ap (λ r. r.kept) c.self.view_is) c.open_in.ensures.bodies c.keep_in.ensures.bodies

pub open_in-requires-in-Complete-clause-place : goal.open_in-requires-in-Complete-clause-place
open_in-requires-in-Complete-clause-place g c =
    let planned = (planned_inside c.args.self.now.datagrams c.self.inside.opens.items c.args.h.now (length (g.P.Payload.seen c.args.body).octets) c.in-Complete.place (ap (λ r. r.datagrams) c.self.view_is)
    (planned_complete c.args.self.now.datagrams c.args.h.now (length (g.P.Payload.seen c.args.body).octets) c.in-Complete.place c.in-Complete.whole (sym c.requires.plan ∙ c.in-Complete.is))) in
    planned.at

pub open_in-requires-in-Complete-clause-capacity : goal.open_in-requires-in-Complete-clause-capacity
open_in-requires-in-Complete-clause-capacity g c =
    planned_place c.self.inside.opens.items c.args.h.now (length (g.P.Payload.seen c.args.body).octets) c.in-Complete.place (vec_capacity c.self.inside.opens)
    (planned_inside c.args.self.now.datagrams c.self.inside.opens.items c.args.h.now (length (g.P.Payload.seen c.args.body).octets) c.in-Complete.place (ap (λ r. r.datagrams) c.self.view_is)
    (planned_complete c.args.self.now.datagrams c.args.h.now (length (g.P.Payload.seen c.args.body).octets) c.in-Complete.place c.in-Complete.whole (sym c.requires.plan ∙ c.in-Complete.is))) c.self.invariant.place

pub take_whole-requires-clause-fits : goal.take_whole-requires-clause-fits
take_whole-requires-clause-fits g c =
    fits_opened (map datagram c.self.inside.opens.items) c.args.h.now (length (g.P.Payload.seen c.args.body).octets) c.in-Complete.place c.open_in-in-Complete.new.opens.items
    (planned_inside c.args.self.now.datagrams c.self.inside.opens.items c.args.h.now (length (g.P.Payload.seen c.args.body).octets) c.in-Complete.place (ap (λ r. r.datagrams) c.self.view_is)
    (planned_complete c.args.self.now.datagrams c.args.h.now (length (g.P.Payload.seen c.args.body).octets) c.in-Complete.place c.in-Complete.whole (sym c.requires.plan ∙ c.in-Complete.is))) c.open_in-in-Complete.ensures.datagrams

pub take_whole-requires-clause-free : goal.take_whole-requires-clause-free
take_whole-requires-clause-free g c =
    free_opened (map datagram c.self.inside.opens.items) c.args.h.now (length (g.P.Payload.seen c.args.body).octets) c.in-Complete.place c.open_in-in-Complete.new.opens.items
    (planned_inside c.args.self.now.datagrams c.self.inside.opens.items c.args.h.now (length (g.P.Payload.seen c.args.body).octets) c.in-Complete.place (ap (λ r. r.datagrams) c.self.view_is)
    (planned_complete c.args.self.now.datagrams c.args.h.now (length (g.P.Payload.seen c.args.body).octets) c.in-Complete.place c.in-Complete.whole (sym c.requires.plan ∙ c.in-Complete.is))) c.open_in-in-Complete.ensures.datagrams

pub take_whole-requires-clause-family : goal.take_whole-requires-clause-family
take_whole-requires-clause-family g c =
    all_inside (λ p. (g.P.Payload.seen p).family ≡ (g.P.Payload.seen c.args.body).family) c.args.self.now.kept c.self.inside.opens.items c.open_in-in-Complete.new.opens.items (ap (λ r. r.kept) c.self.view_is) c.open_in-in-Complete.ensures.bodies c.requires.family

pub invariant_of-self-in-Complete : goal.invariant_of-self-in-Complete
invariant_of-self-in-Complete g c =
    let most = few_with c.self.inside.opens.items c.open_in-in-Complete.new.opens.items c.args.h.now (length (g.P.Payload.seen c.args.body).octets) c.in-Complete.place
    (planned_inside c.args.self.now.datagrams c.self.inside.opens.items c.args.h.now (length (g.P.Payload.seen c.args.body).octets) c.in-Complete.place (ap (λ r. r.datagrams) c.self.view_is)
    (planned_complete c.args.self.now.datagrams c.args.h.now (length (g.P.Payload.seen c.args.body).octets) c.in-Complete.place c.in-Complete.whole (sym c.requires.plan ∙ c.in-Complete.is))) c.open_in-in-Complete.ensures.datagrams c.self.invariant.few in
    record {
      few = let less = c.take_whole.ensures.length in omega arith;
      each = c.take_whole.ensures.each;
      empty = c.open_in-in-Complete.ensures.empty;
      none = c.open_in-in-Complete.ensures.none;
      place = let a = c.take_whole.ensures.capacity in let b = c.open_in-in-Complete.ensures.capacity in let d = c.self.invariant.place in omega arith;
    }

pub returns-in-Complete-clause-datagrams : goal.returns-in-Complete-clause-datagrams
returns-in-Complete-clause-datagrams g c =
    complete_seen c.args.self.now.datagrams c.self.inside.opens.items c.open_in-in-Complete.new.opens.items c.take_whole.new.opens.items c.args.h.now (g.P.Payload.seen c.args.body).octets c.in-Complete.place c.in-Complete.whole (ap (λ r. r.datagrams) c.self.view_is)
    (sym c.requires.plan ∙ c.in-Complete.is) c.open_in-in-Complete.ensures.datagrams c.take_whole.ensures.datagrams

pub returns-in-Complete-clause-outcome : goal.returns-in-Complete-clause-outcome
returns-in-Complete-clause-outcome g c =
    complete_outcome c.args.self.now.datagrams c.self.inside.opens.items c.open_in-in-Complete.new.opens.items c.args.h.now (g.P.Payload.seen c.args.body).octets (g.P.Payload.seen c.take_whole.result).octets c.in-Complete.place c.in-Complete.whole (ap (λ r. r.datagrams) c.self.view_is)
    (sym c.requires.plan ∙ c.in-Complete.is) c.open_in-in-Complete.ensures.datagrams c.take_whole.ensures.octets

pub returns-in-Complete-clause-bodies : goal.returns-in-Complete-clause-bodies
returns-in-Complete-clause-bodies g c =
    holds_seen g.P.Payload.seen c.args.body (c.take_whole.result ∷ []) c.args.self.now.kept c.self.inside.opens.items c.open_in-in-Complete.new.opens.items c.take_whole.new.opens.items (ap (λ r. r.kept) c.self.view_is) c.open_in-in-Complete.ensures.bodies c.take_whole.ensures.bodies
