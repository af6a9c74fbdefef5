use Rattle.std.proofs.Common.{◌∙◌, sym, subst, arith}
use Rattle.lw_base.specs.declared.event_word.Flag.TheVariants.{Writable}
use Rattle.lw_conn.specs.Connections.{Connections}
use Rattle.lw_layers.specs.Boxes.{AreBoxesOf}
use Rattle.lw_layers.proofs.BoxLaws.{keep_flag, keep_made, keep_same, keep_then, made_box, new_box}
use Rattle.lw_layers.proofs.CallLaws.{new_conns, number_is}
use Rattle.lw_layers.proofs.layers.Layers.new_udp.Goals as goal

pub make-requires : goal.make-requires
make-requires g c =
    let next = number_is c.args.self.now.limits c.args.self.now.endpoints.conns c.in-Some.conn (sym c.in-Some.is ∙ c.next.ensures) in
    let least = c.requires.boxes.made in
    record { next = (omega (arith, next), omega (arith, next, least)) }

pub returns-in_err-make-clause-boxes : goal.returns-in_err-make-clause-boxes
returns-in_err-make-clause-boxes g c = subst (AreBoxesOf c.args.self.now.endpoints.conns) (sym c.in_err-make.ensures.err) c.requires.boxes

pub returns-in_err-make-clause-items : goal.returns-in_err-make-clause-items
returns-in_err-make-clause-items g c = keep_same (g.B.Boxes.seen c.args.boxes.now) (g.B.Boxes.seen c.make.new.self) c.in_err-make.ensures.err

pub returns-in_err-reply-clause-boxes : goal.returns-in_err-reply-clause-boxes
returns-in_err-reply-clause-boxes g c =
    let cs : Connections = c.args.self.now.endpoints.conns in
    let next = number_is c.args.self.now.limits cs c.in-Some.conn (sym c.in-Some.is ∙ c.next.ensures) in
    let made = made_box cs (g.B.Boxes.seen c.args.boxes.now) (g.B.Boxes.seen c.make.new.self) c.in-Some.conn next c.requires.boxes c.in_ok-make.ensures.ok in
    subst (λ e. AreBoxesOf e.conns (g.B.Boxes.seen c.make.new.self)) (sym c.in_err-reply.ensures.err) made

pub returns-in_err-reply-clause-items : goal.returns-in_err-reply-clause-items
returns-in_err-reply-clause-items g c =
    let next = number_is c.args.self.now.limits c.args.self.now.endpoints.conns c.in-Some.conn (sym c.in-Some.is ∙ c.next.ensures) in
    let least = c.requires.boxes.made in
    keep_made (g.B.Boxes.seen c.args.boxes.now) (g.B.Boxes.seen c.make.new.self) c.in-Some.conn (omega (arith, next, least)) c.in_ok-make.ensures.ok

pub set-requires-clause-made : goal.set-requires-clause-made
set-requires-clause-made g c =
    let next = number_is c.args.self.now.limits c.args.self.now.endpoints.conns c.in-Some.conn (sym c.in-Some.is ∙ c.next.ensures) in
    let now = c.in_ok-make.ensures.ok.made in
    (omega (arith, next), omega (arith, now))

pub returns-clause-boxes : goal.returns-clause-boxes
returns-clause-boxes g c =
    let cs : Connections = c.args.self.now.endpoints.conns in
    let next = number_is c.args.self.now.limits cs c.in-Some.conn (sym c.in-Some.is ∙ c.next.ensures) in
    let made = made_box cs (g.B.Boxes.seen c.args.boxes.now) (g.B.Boxes.seen c.make.new.self) c.in-Some.conn next c.requires.boxes c.in_ok-make.ensures.ok in
    let now = c.in_ok-make.ensures.ok.made in
    subst (λ (xs : Connections). AreBoxesOf xs (g.B.Boxes.seen c.set.new.self))
    (sym (new_conns c.args.self.now.limits c.args.self.now.endpoints c.new_udp.new.self c.in_ok-reply.reply c.in-Some.conn (sym c.in-Some.is ∙ c.next.ensures) c.in_ok-reply.ensures.ok))
    (new_box cs (g.B.Boxes.seen c.make.new.self) (g.B.Boxes.seen c.set.new.self) c.in-Some.conn next (omega (arith, now)) made c.set.ensures.set)

pub returns-clause-items : goal.returns-clause-items
returns-clause-items g c =
    let next = number_is c.args.self.now.limits c.args.self.now.endpoints.conns c.in-Some.conn (sym c.in-Some.is ∙ c.next.ensures) in
    let least = c.requires.boxes.made in
    keep_then (g.B.Boxes.seen c.args.boxes.now) (g.B.Boxes.seen c.make.new.self) (g.B.Boxes.seen c.set.new.self)
    (keep_made (g.B.Boxes.seen c.args.boxes.now) (g.B.Boxes.seen c.make.new.self) c.in-Some.conn (omega (arith, next, least)) c.in_ok-make.ensures.ok)
    (keep_flag (g.B.Boxes.seen c.make.new.self) (g.B.Boxes.seen c.set.new.self) c.in-Some.conn Writable c.set.ensures.set)
