use Rattle.std.proofs.Common.{List, All, ap, length, subst, sym, arith}
use Rattle.std.specs.Prelude.{slice_range}
use Rattle.pbuf_seats.specs.declared.owner.Owner.{Owner}
use Rattle.pbuf_spans.specs.Parts.{Part, rows_in, IsUnder}
use Rattle.pbuf_spans.specs.Spans.{octets_of, is_own}
use Rattle.pbuf_spans.proofs.Spans.{length-parts_of, owners_held, rows_in-parts_of}
use Rattle.pbuf_spans.proofs.Cutting.{all_spent}
use Rattle.pbuf_spans.proofs.span.Span.give_up.Goals as goal

pub give_up_all-ended-requires-clause-under : goal.give_up_all-ended-requires-clause-under
give_up_all-ended-requires-clause-under c =
    let s = c.self.inside in
    owners_held (λ (o : Owner). IsUnder c.args.seat.now.holder.table o) (is_own s.body) (slice_range (octets_of s.body) s.from s.to) s.pbufs.items
    (subst (λ (l : List Part). All (λ p. IsUnder c.args.seat.now.holder.table p.owner) l) (sym c.self.view_is) c.requires.under)

pub give_up_all-ended-requires-clause-listed : goal.give_up_all-ended-requires-clause-listed
give_up_all-ended-requires-clause-listed c = λ t.
    let s = c.self.inside in
    let l = c.requires.listed t in
    let e = ap (λ (x : List Part). rows_in x t) c.self.view_is in
    let r = rows_in-parts_of (is_own s.body) (slice_range (octets_of s.body) s.from s.to) s.pbufs.items t in
    omega arith

pub give_up_all-ended-requires-clause-few : goal.give_up_all-ended-requires-clause-few
give_up_all-ended-requires-clause-few c =
    let s = c.self.inside in
    let f = c.requires.few in
    let e = ap length c.self.view_is in
    let l = length-parts_of (is_own s.body) (slice_range (octets_of s.body) s.from s.to) s.pbufs.items in
    omega arith

pub returns-clause-spent : goal.returns-clause-spent
returns-clause-spent c =
    let s = c.self.inside in
    all_spent c.args.seat.now c.give_up_all-ended.new.seat c.give_up.new.seat (is_own s.body) (slice_range (octets_of s.body) s.from s.to) s.pbufs.items c.args.self c.self.view_is c.give_up_all-ended.ensures.spent c.give_up.ensures

pub returns-clause-few : goal.returns-clause-few
returns-clause-few c =
    let s = c.self.inside in
    let f = c.give_up_all-ended.ensures.few in
    let e = ap length c.self.view_is in
    let l = length-parts_of (is_own s.body) (slice_range (octets_of s.body) s.from s.to) s.pbufs.items in
    omega arith
