use Rattle.std.proofs.Common.{◌≡◌, ℕ, ◌+◌, ◌-◌, ◌≤◌, ◌==◌, IsTrue, is_some, Some, length, slice_get, option_and_then, slice_set, subst, sym, arith}
use Rattle.std.proofs.lemmas.List.{length-set}
use Rattle.lw_conn.specs.Connections.{Connections, connection}
use Rattle.lw_conn.proofs.LiveLaws.{live_set, stands}
use Rattle.lw_conn.proofs.connections.Conns.put.Goals as goal

pub invariant_of-self : goal.invariant_of-self
invariant_of-self c =
    let there = subst (λ (cs : Connections). IsTrue (is_some (connection cs c.args.conn))) (sym c.self.view_is) c.requires.live in
    let set = live_set c.self.inside.places.items (c.args.conn - 1) (Some c.args.after) (stands (c.args.conn == 0) (option_and_then (λ x. x) (slice_get c.self.inside.places.items (c.args.conn - 1))) there) in
    let many = c.self.invariant.0 in
    let few = c.self.invariant.1 in
    (omega (arith, set, many), omega (arith, few, length-set c.self.inside.places.items (c.args.conn - 1) (Some c.args.after)))
