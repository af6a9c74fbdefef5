use Rattle.std.proofs.Common.{refl, subst, sym, Err}
use Rattle.lw_outside.specs.Files.{read_more}
use Rattle.lw_outside.specs.Shelf.{left_at, octets_of}
use Rattle.lw_outside.proofs.Ties.{Stands, Told, failed_step, stands_with, told_with}
use Rattle.lw_outside.proofs.shelf.Shelf.not_read.Goals as goal

pub invariant_of-self : goal.invariant_of-self
invariant_of-self c =
    let held = octets_of c.args.self.now.files.items in
    let left = left_at c.args.self.now.files.items c.args.self.now.read.items in
    let log = c.args.self.now.log.sought in
    let n = c.args.number in
    let buf = c.args.buf.now in
    let step = failed_step held (left n) buf c.args.failed in
    let told = told_with held left left log n (read_more (Err c.args.failed) buf) c.args.self.now.stands step c.args.self.now.told in
    let stands = stands_with held left left log n (read_more (Err c.args.failed) buf) (λ f. refl) c.args.self.now.stands step (λ m ne. refl) in
    record {
      paired = c.args.self.now.paired;
      few = c.args.self.now.few;
      told = subst (Told held) (sym c.then-self.ensures) told;
      stands = subst (Stands held left) (sym c.then-self.ensures) stands;
    }
