use Rattle.std.proofs.Common.{ℕ, ◌++◌, ◌∷◌, ◌∙◌, List, [], ap}
use Rattle.lw_frag.specs.Pieces.{Piece}
use Rattle.lw_link.specs.Way.{packet, packet_frame}
use Rattle.lw_link.proofs.FrameLaws.{full_more}
use Rattle.lw_link.proofs.frames.push_frames.Goals as goal

pub loop-index-preserved : goal.loop-index-preserved
loop-index-preserved c =
    full_more c.args.net.now c.args.mac c.args.head.now c.args.body.now c.loop-index.frames.items c.push.new.self.items c.args.frames.now.items c.loop-index.index c.loop-index.invariant
    (c.in_ok-push.ensures.items
    ∙ ap (λ (f : List ℕ). c.loop-index.frames.items ++ f ∷ [])
    (c.in_ok-piece_frame.ensures ∙ ap (λ (p : Piece). packet_frame c.args.net.now c.args.mac (packet c.args.body.now p)) c.full_piece-piece.ensures))
