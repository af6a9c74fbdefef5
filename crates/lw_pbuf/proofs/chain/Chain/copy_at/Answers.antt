use Rattle.std.proofs.Common.{◌≡◌, ◌≤◌, ◌+◌, ◌∙◌, List, length, ap, sym, subst, arith}
use Rattle.std.specs.Prelude.{slice_range}
use Rattle.pbuf_spans.specs.Parts.{Part, joined}
use Rattle.lw_pbuf.specs.Chains.{ChainSeen, all_parts}
use Rattle.lw_pbuf.proofs.chain.Chain.copy_at.Goals as goal

pub copy_out-requires : goal.copy_out-requires
copy_out-requires c =
    let v : length (joined (all_parts c.self.inside.spans.items)) ≡ length (joined c.args.self.now.parts) = ap (λ (x : ChainSeen). length (joined x.parts)) c.self.view_is in
    let e = ap (λ (l : List (List Part)). length (joined (all_parts l))) c.as_slice.ensures in
    let w = c.requires.within in
    record { within = omega arith }

pub returns : goal.returns
returns c =
    c.copy_out.ensures
    ∙ ap (λ (l : List (List Part)). slice_range (joined (all_parts l)) c.args.from (c.args.from + length c.args.out.now)) c.as_slice.ensures
    ∙ ap (λ (x : ChainSeen). slice_range (joined x.parts) c.args.from (c.args.from + length c.args.out.now)) c.self.view_is
