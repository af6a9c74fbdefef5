use Rattle.std.proofs.Common.{rules, ◌≡◌, ◌∷◌, List, length, get_or, refl, subst, sym, ◌∙◌}
use Rattle.std.proofs.lemmas.List.{get_or_default}
use Rattle.pbuf_seats.specs.Seats.{SeatSeen}
use Rattle.pbuf_spans.specs.Parts.{Part}
use Rattle.pbuf_spans.specs.Shares.{MayShare}
use Rattle.lw_pbuf.specs.Chains.{all_parts}
use Rattle.lw_pbuf.proofs.Sharing.{spanned_inside, spanned_may, spanned_next, spanned_last, spanned_full}
use Rattle.lw_pbuf.proofs.share.share_spans.Goals as goal

pub share_with-requires-clause-may : goal.share_with-requires-clause-may
share_with-requires-clause-may c =
    let l = c.loop-twin in
    let s = l.invariant.spanned in
    let left : l.twin-iterator.rest.items ≡ c.in-Some.twin ∷ c.next.new.self.rest.items = search rules in
    let inside = spanned_inside c.args.hands c.args.spans.now l.spans l.others.items l.twin-iterator.rest.items c.next.new.self.rest.items c.in-Some.twin l.i s left in
    let p : List Part = get_or l.spans l.i c.index-spans-i.result in
    spanned_may c.args.hands c.args.spans.now l.spans l.others.items l.twin-iterator.rest.items c.next.new.self.rest.items c.in-Some.twin l.i s left p (get_or_default l.spans l.i c.index-spans-i.result p inside) l.seat
    (subst (λ (x : SeatSeen). MayShare x (all_parts c.args.spans.now)) (sym l.invariant.same) c.requires.may)

pub loop-twin-preserved : goal.loop-twin-preserved
loop-twin-preserved c =
    let l = c.loop-twin in
    let s = l.invariant.spanned in
    let left : l.twin-iterator.rest.items ≡ c.in-Some.twin ∷ c.next.new.self.rest.items = search rules in
    let inside = spanned_inside c.args.hands c.args.spans.now l.spans l.others.items l.twin-iterator.rest.items c.next.new.self.rest.items c.in-Some.twin l.i s left in
    let p : List Part = get_or l.spans l.i c.index-spans-i.result in
    record {
      spanned = spanned_next c.args.hands c.args.spans.now l.spans l.others.items l.twin-iterator.rest.items c.next.new.self.rest.items c.in-Some.twin l.i s left p (get_or_default l.spans l.i c.index-spans-i.result p inside)
          c.share_with.new.self c.share_with.result _ c.push_reserved.new.self.items c.share_with.ensures.shared refl c.push_reserved.ensures.items;
      same = c.share_with.ensures.same ∙ l.invariant.same;
      capacity = search rules;
    }

pub returns-clause-shared : goal.returns-clause-shared
returns-clause-shared c =
    let l = c.loop-twin in
    let none : length l.twin-iterator.rest.items ≡ 0 = search rules in
    spanned_last c.args.hands c.args.spans.now l.spans l.others.items l.twin-iterator.rest.items l.i l.invariant.spanned none

pub returns-clause-full : goal.returns-clause-full
returns-clause-full c =
    let l = c.loop-twin in
    let none : length l.twin-iterator.rest.items ≡ 0 = search rules in
    spanned_full c.args.hands c.args.spans.now l.spans l.others.items l.twin-iterator.rest.items l.i l.invariant.spanned none
