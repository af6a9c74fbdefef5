use Rattle.std.proofs.Common.{◌≡◌, Option, ℕ, IfSome, IsTrue, is_some, subst}
use Rattle.lw_conn.specs.Connections.{connection}
use Rattle.lw_api_msg.specs.Endpoints.{Table}
use Rattle.lw_api_msg.proofs.EndLaws.{best_is_live}
use Rattle.lw_api_msg.proofs.endpoints.Endpoints.best.Goals as goal

pub returns-clause-live : goal.returns-clause-live
returns-clause-live c =
    subst (λ (e : Table). IfSome c.best.result (λ conn. IsTrue (is_some (connection e.conns conn)))) c.self.view_is
    (best_is_live (record { udp = c.self.inside.udp; conns = c.self.inside.conns; fds = c.self.inside.fds; vars = c.self.inside.vars; signals = c.self.inside.signals })
    c.args.src c.args.dst c.best.result c.self.invariant c.best.ensures)
