use Rattle.std.proofs.Common.{◌≡◌, ◌+◌, ◌-◌, ◌*◌, ◌/◌, ◌++◌, ◌∷◌, [], true, ℕ, List, sym, ap, ◌∙◌, arith}
use Rattle.std.proofs.lemmas.List.FromFn.{map-range_with_len_more}
use Rattle.lw_base.specs.declared.heads.IpHead.{IpHead}
use Rattle.lw_frag.specs.Pieces.{Piece, full_pieces, piece}
use Rattle.lw_frag.proofs.pieces.pieces.Goals as goal

-- one more full fragment behind those so far
one_more : (h : IpHead) (i full : ℕ) (old new : List Piece) → old ≡ full_pieces h i full
    → new ≡ old ++ piece h (i * full) full true ∷ [] → new ≡ full_pieces h (i + 1) full
one_more h i full old new so_far pushed =
    pushed
    ∙ ap (λ (ps : List Piece). ps ++ piece h (i * full) full true ∷ []) so_far
    ∙ sym (map-range_with_len_more (λ (k : ℕ). piece h (k * full) full true) 0 i i (omega arith))

pub loop-index-preserved : goal.loop-index-preserved
loop-index-preserved c =
    let h = c.args.h.now in
    let full = (c.args.mtu - 20) / 8 * 8 in
    one_more h c.loop-index.index full c.loop-index.pieces.items c.push.new.self.items c.loop-index.invariant
    (c.in_ok-push.ensures.items ∙ ap (λ (p : Piece). c.loop-index.pieces.items ++ p ∷ []) c.piece.ensures)
