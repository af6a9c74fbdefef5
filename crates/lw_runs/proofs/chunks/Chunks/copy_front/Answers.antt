use Rattle.std.proofs.Common.{◌^◌, ◌<◌, length, take, ap, ◌∙◌}
use Rattle.std.proofs.lemmas.Result.{on_ok_weaker}
use Rattle.lw_runs.proofs.Texts.{All-front}
use Rattle.lw_runs.proofs.ChunkTexts.{place_more, all_chunk, all_front, copied_front}
use Rattle.lw_runs.proofs.chunks.Chunks.copy_front.Goals as goal

pub copy_all-requires : goal.copy_all-requires
copy_all-requires g c =
    all_front (λ p. length (g.P.Payload.seen p).octets < 2 ^ 32) (λ v. v.items) c.args.self.now.runs c.self.inside.chunks.items c.deref-2.result.now c.split_at.result.0.now c.place_of-place.result.chunk (ap (λ k. k.runs) c.self.view_is) c.deref-2.ensures.value c.split_at.ensures.front c.requires.short

pub copy_runs-requires : goal.copy_runs-requires
copy_runs-requires g c =
    All-front (λ p. length (g.P.Payload.seen p).octets < 2 ^ 32) c.place_of-place.result.at c.index.result.now.items c.split_at-2.result.0.now
    (c.split_at-2.ensures.front ∙ ap (λ xs. take c.place_of-place.result.at xs) c.deref-3.ensures.value)
    (all_chunk (λ p. length (g.P.Payload.seen p).octets < 2 ^ 32) (λ v. v.items) c.args.self.now.runs c.self.inside.chunks.items c.place_of-place.result.chunk c.index.result.now (ap (λ k. k.runs) c.self.view_is)
    (place_more (λ v. v.items) c.self.inside.chunks.items c.deref.result.now c.args.from c.place_of-place.result.chunk c.place_of-place.result.at c.deref.ensures.value c.place_of-place.ensures)
    c.index.ensures c.requires.short)

pub returns : goal.returns
returns g c =
    on_ok_weaker c.copy_runs.result
    (λ e. copied_front g.P.Payload.seen (λ v. v.items) c.args.self.now.runs c.self.inside.chunks.items c.deref.result.now c.deref-2.result.now c.split_at.result.0.now c.deref-3.result.now c.split_at-2.result.0.now c.args.from c.place_of-place.result.chunk c.place_of-place.result.at c.index.result.now
    c.args.all.now.items c.copy_all.new.all.items c.copy_runs.new.all.items (ap (λ k. k.runs) c.self.view_is) c.deref.ensures.value c.place_of-place.ensures c.index.ensures c.deref-2.ensures.value c.split_at.ensures.front c.deref-3.ensures.value c.split_at-2.ensures.front c.in_ok-copy_all.ensures e) c.copy_runs.ensures
