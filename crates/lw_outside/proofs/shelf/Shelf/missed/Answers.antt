use Rattle.std.proofs.Common.{subst, sym, Err}
use Rattle.lw_outside.specs.Shelf.{left_at, octets_of}
use Rattle.lw_outside.proofs.Ties.{Stands, Told, told_looked_for}
use Rattle.lw_outside.proofs.shelf.Shelf.missed.Goals as goal

pub invariant_of-self : goal.invariant_of-self
invariant_of-self c =
    let held = octets_of c.args.self.now.files.items in
    let left = left_at c.args.self.now.files.items c.args.self.now.read.items in
    let log = c.args.self.now.log.sought in
    let told = told_looked_for held log c.args.name.now (Err c.args.failed) c.args.self.now.told in
    record {
      paired = c.args.self.now.paired;
      few = c.args.self.now.few;
      told = subst (Told held) (sym c.then-self.ensures) told;
      stands = subst (Stands held left) (sym c.then-self.ensures) c.args.self.now.stands;
    }
