use Rattle.std.proofs.Common.{◌≡◌, ◌∙◌, false, List, length, ap, sym, subst, arith}
use Rattle.std.specs.Prelude.{slice_range}
use Rattle.std.specs.List.{refill}
use Rattle.std.specs.Arc.{arc_value}
use Rattle.std.proofs.lemmas.List.{length-map}
use Rattle.pbuf_seats.specs.declared.pbuf.Pbuf.{Pbuf}
use Rattle.pbuf_spans.specs.Spans.{lens, parts_of, bare, octets_of, is_own}
use Rattle.pbuf_spans.specs.Shares.{first_held, MayShare, AllShared, OwnersShared}
use Rattle.pbuf_spans.specs.Windows.{WindowSeen}
use Rattle.pbuf_spans.proofs.Spans.{length-parts_of}
use Rattle.pbuf_spans.proofs.Sharing.{seen_joined, looks_through, may_bare, all_shared, refill_all, lens_firsts, lens_seconds}
use Rattle.pbuf_spans.proofs.span.Span.second.Goals as goal

pub add_owners-requires-clause-may : goal.add_owners-requires-clause-may
add_owners-requires-clause-may c =
    let s = c.self.inside in
    subst (λ (l : List Pbuf). MayShare c.args.seat.now (bare l)) (sym c.as_mut_slice.ensures.value)
    (may_bare (is_own s.body) (slice_range (octets_of s.body) s.from s.to) s.pbufs.items c.args.self.now c.self.view_is c.args.seat.now c.requires.may)

pub add_owners-requires-clause-room : goal.add_owners-requires-clause-room
add_owners-requires-clause-room c =
    let s = c.self.inside in
    let e = ap length c.as_mut_slice.ensures.value in
    let v = ap length c.self.view_is in
    let n = length-parts_of (is_own s.body) (slice_range (octets_of s.body) s.from s.to) s.pbufs.items in
    let r = c.requires.room in
    omega arith

-- the pbufs that are written back
back : (c : goal.After-window) → refill c.self.inside.pbufs.len c.self.inside.pbufs.items c.add_owners.new.pbufs ≡ c.add_owners.new.pbufs
back c =
    let a = ap length c.as_mut_slice.ensures.value in
    let b = c.as_mut_slice.ensures.len in
    let d = ap length c.add_owners.ensures.first in
    let e = length-map c.as_mut_slice.result.now (first_held c.args.hands) in
    refill_all c.self.inside.pbufs.len c.self.inside.pbufs.items c.add_owners.new.pbufs (omega arith) (omega arith)

pub invariant_of-self : goal.invariant_of-self
invariant_of-self c =
    let s = c.self.inside in
    let f = ap lens c.add_owners.ensures.first in
    let g = lens_firsts c.args.hands c.as_mut_slice.result.now in
    let v = ap lens c.as_mut_slice.ensures.value in
    let w = ap lens (back c) in
    let i = c.self.invariant.0 in
    (omega arith, c.self.invariant.1)

pub invariant_of-result : goal.invariant_of-result
invariant_of-result c =
    let s = c.self.inside in
    let w = c.window.inside in
    let l = looks_through s.body s.from s.to s.pbufs.items c.args.self.now c.self.invariant c.self.view_is (arc_value w.body).items w.from w.to c.window.invariant.0 c.window.invariant.1 (ap (λ (x : WindowSeen). x.octets) c.window.view_is ∙ c.requires.window) in
    let f = ap lens c.add_owners.ensures.second in
    let g = lens_seconds c.args.hands c.as_mut_slice.result.now in
    let v = ap lens c.as_mut_slice.ensures.value in
    let i = l.0 in
    (omega arith, l.1)

pub returns : goal.returns
returns c =
    let s = c.self.inside in
    let w = c.window.inside in
    let text = slice_range (octets_of s.body) s.from s.to in
    let window = slice_range (arc_value w.body).items w.from w.to in
    let same = ap (λ (x : WindowSeen). x.octets) c.window.view_is ∙ (c.requires.window ∙ sym (seen_joined s.body s.from s.to s.pbufs.items c.args.self.now c.self.invariant c.self.view_is)) in
    subst (λ (l : List Pbuf). AllShared c.args.hands c.args.self.now (parts_of (is_own s.body) text l) (parts_of false window c.add_owners.new.others.items)) (sym (back c))
    (all_shared (is_own s.body) text s.pbufs.items c.args.self.now c.self.view_is c.args.hands c.add_owners.new.pbufs c.add_owners.new.others.items window c.requires.shared same
    (subst (λ (l : List Pbuf). OwnersShared c.args.hands l c.add_owners.new.pbufs c.add_owners.new.others.items) c.as_mut_slice.ensures.value c.add_owners.ensures))
