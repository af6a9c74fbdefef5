use Rattle.std.proofs.Common.{◌≡◌, ◌≢◌, ◌∙◌, ◌<◌, ◌++◌, ℕ, List, [], length, take, refl, subst, sym, Ok}
use Rattle.lw_outside.specs.declared.named_file.NamedFile.{NamedFile}
use Rattle.lw_outside.specs.Files.{read_more}
use Rattle.lw_outside.specs.Shelf.{left_at, octets_of}
use Rattle.lw_outside.proofs.Ties.{Stands, Told, read_step, stands_with, told_with}
use Rattle.lw_outside.proofs.shelf.Shelf.read.Goals as goal

pub invariant_of-self : goal.invariant_of-self
invariant_of-self c =
    let held = octets_of c.args.self.now.files.items in
    let left = left_at c.args.self.now.files.items c.args.self.now.read.items in
    let left' = left_at c.args.self.now.files.items c.read_at-count.new.read.items in
    let log = c.args.self.now.log.sought in
    let n = c.args.number in
    let count = c.read_at-count.result in
    let buf = c.read_at-count.new.buf in
    let is : c.deref.result.now ≡ c.args.self.now.files.items = c.deref.ensures.value in
    let read = c.args.self.now.read.items in
    let read' = c.read_at-count.new.read.items in
    let octets = subst (λ (files : List NamedFile). left_at files read n ≡ take count buf ++ left_at files read' n) is c.read_at-count.ensures.octets in
    let end = subst (λ (files : List NamedFile). count ≡ 0 → 0 < length buf → left_at files read' n ≡ []) is c.read_at-count.ensures.end in
    let others = subst (λ (files : List NamedFile). (m : ℕ) → m ≢ n → left_at files read' m ≡ left_at files read m) is c.read_at-count.ensures.others in
    let step = read_step held (left n) (left' n) buf count octets end in
    let told = told_with held left left' log n (read_more (Ok count) buf) c.args.self.now.stands step c.args.self.now.told in
    let stands = stands_with held left left' log n (read_more (Ok count) buf) (λ f. refl) c.args.self.now.stands step others in
    record {
      paired = c.read_at-count.ensures.paired ∙ c.args.self.now.paired;
      few = c.args.self.now.few;
      told = subst (Told held) (sym c.then-self.ensures) told;
      stands = subst (Stands held left') (sym c.then-self.ensures) stands;
    }
