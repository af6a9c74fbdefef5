use Rattle.std.proofs.Common.{◌≡◌, ◌<◌, List, length, get_or, sym, subst, arith}
use Rattle.std.proofs.lemmas.List.{get_or_default}
use Rattle.pbuf_spans.specs.Parts.{Part}
use Rattle.pbuf_spans.specs.Shares.{MayShare}
use Rattle.lw_pbuf.proofs.Sharing.{one_span, one_shared, one_full}
use Rattle.lw_pbuf.proofs.share.share_one.Goals as goal

pub share-requires : goal.share-requires
share-requires c =
    let p : List Part = get_or c.args.spans.now 0 c.index-spans-0.result in
    let inside : 0 < length c.args.spans.now = let one = c.requires.one in omega arith in
    subst (λ (l : List Part). MayShare c.args.seat.now l) (sym (one_span c.args.spans.now p p c.requires.one (get_or_default c.args.spans.now 0 c.index-spans-0.result p inside)).0) c.requires.may
