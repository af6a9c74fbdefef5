use Rattle.std.proofs.Common.{[], ◌∷◌, length, ap, ◌∙◌, sym, length-append, arith}
use Rattle.lw_runs.specs.Kept.{Kept}
use Rattle.lw_reass.proofs.Places.{place_within}
use Rattle.lw_reass.proofs.Rooms.{past_room}
use Rattle.lw_reass.proofs.Adds.{fresh_open, pushed_each, pushed_room}
use Rattle.lw_reass.proofs.table.open_in.Goals as goal

pub returns-clause-within : goal.returns-clause-within
returns-clause-within g c =
    let most = place_within c.args.opens.now.items c.args.h.now in
    let at = c.requires.place in
    let size = ap length c.push_reserved.ensures.items in
    let more = length-append c.args.opens.now.items (c.new-2.result ∷ []) in
    omega arith

pub returns-clause-room : goal.returns-clause-room
returns-clause-room g c =
    let most = place_within c.args.opens.now.items c.args.h.now in
    let at = c.requires.place in
    pushed_room c.args.opens.now.items c.push_reserved.new.self.items c.new-2.result c.args.place c.args.spare.now.room 0 c.push_reserved.ensures.items (omega arith)
    (ap (λ (k : Kept _). k.room) (c.new-2.ensures.runs ∙ c.replace-runs.ensures.value))
    ∙ sym (past_room c.args.opens.now.items c.args.place c.args.spare.now.room (omega arith))

pub returns-clause-each : goal.returns-clause-each
returns-clause-each g c =
    pushed_each g.P.Payload.seen c.args.opens.now.items c.push_reserved.new.self.items c.new-2.result c.push_reserved.ensures.items
    (fresh_open g.P.Payload.seen c.new-2.result c.replace-runs.result c.args.h.now c.new-2.ensures.datagram c.new-2.ensures.runs (ap (λ (k : Kept _). k.bodies) c.replace-runs.ensures.value ∙ c.requires.none)) c.requires.each
