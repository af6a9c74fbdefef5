use Rattle.std.proofs.Common.{◌≡◌, true, is_some, sym, subst, rules}
use Rattle.lw_base.specs.declared.event_word.Flag.TheVariants.{Closed}
use Rattle.lw_conn.specs.Connections.{Connections, connection}
use Rattle.lw_layers.specs.Boxes.{AreBoxesOf}
use Rattle.lw_layers.proofs.BoxLaws.{closed_box, keep_flag, keep_self, live_made}
use Rattle.lw_layers.proofs.CallLaws.{close_conns}
use Rattle.lw_layers.proofs.layers.Layers.close.Goals as goal

pub returns-then-is_none-clause-items : goal.returns-then-is_none-clause-items
returns-then-is_none-clause-items g c = keep_self (g.B.Boxes.seen c.args.boxes.now)

pub set-requires-clause-made : goal.set-requires-clause-made
set-requires-clause-made g c =
    let live : is_some (connection c.args.self.now.endpoints.conns c.args.conn) ≡ true = search rules in
    live_made c.args.self.now.endpoints.conns (g.B.Boxes.seen c.args.boxes.now) c.args.conn live c.requires.boxes

pub returns-clause-boxes : goal.returns-clause-boxes
returns-clause-boxes g c =
    let live : is_some (connection c.args.self.now.endpoints.conns c.args.conn) ≡ true = search rules in
    subst (λ (xs : Connections). AreBoxesOf xs (g.B.Boxes.seen c.set.new.self))
    (sym (close_conns c.args.self.now.endpoints c.close.new.self c.args.conn c.close.result live c.close.ensures))
    (closed_box c.args.self.now.endpoints.conns (g.B.Boxes.seen c.args.boxes.now) (g.B.Boxes.seen c.set.new.self) c.args.conn live c.requires.boxes c.set.ensures.set)

pub returns-clause-items : goal.returns-clause-items
returns-clause-items g c = keep_flag (g.B.Boxes.seen c.args.boxes.now) (g.B.Boxes.seen c.set.new.self) c.args.conn Closed c.set.ensures.set
