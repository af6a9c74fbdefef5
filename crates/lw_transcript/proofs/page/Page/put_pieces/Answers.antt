use Rattle.std.proofs.Common.{List, ℕ, refl}
use Rattle.hex.specs.Hex.{encode_lower, lower_digits}
use Rattle.lw_transcript.proofs.Printing.{encode-append, encode-none, put_more, put_none}
use Rattle.lw_transcript.proofs.page.Page.put_pieces.Goals as goal

pub loop-rest-init : goal.loop-rest-init
loop-rest-init g c = put_none (λ (x : List ℕ). x) (g.K.Sink.seen c.args.sink.now) c.args.self.now c.args.octets.now refl

pub loop-rest-preserved : goal.loop-rest-preserved
loop-rest-preserved g c =
    let seen = g.K.Sink.seen in
    put_more (λ (x : List ℕ). x) (seen c.args.sink.now) (seen c.loop-rest.sink) (seen c.room.new.sink) c.args.self.now c.loop-rest.self
    c.room.new.self c.add.new.self c.args.octets.now c.loop-rest.rest.now c.split_at.result.0.now c.split_at.result.1.now
    (λ xs ys. refl) c.loop-rest.invariant c.split_at.ensures.by_index.0 c.room.ensures.prints c.add.ensures.pending c.add.ensures.failed
