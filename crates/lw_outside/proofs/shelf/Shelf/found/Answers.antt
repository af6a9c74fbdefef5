use Rattle.std.proofs.Common.{◌≡◌, ◌≢◌, ◌∙◌, ℕ, List, drop, slice_index, ap, subst, sym, Ok}
use Rattle.lw_outside.specs.Shelf.{left_at, octets_at, octets_of}
use Rattle.lw_outside.proofs.Ties.{Stands, Told, set_here, set_there, stands_found, told_looked_for}
use Rattle.lw_outside.proofs.shelf.Shelf.found.Goals as goal

pub invariant_of-self : goal.invariant_of-self
invariant_of-self c =
    let files = c.args.self.now.files.items in
    let held = octets_of files in
    let read = c.args.self.now.read.items in
    let read' = c.begin.new.read.items in
    let log = c.args.self.now.log.sought in
    let n = c.args.number in
    let from : ℕ → ℕ → List ℕ = λ m count. drop count (octets_at files m) in
    let here : slice_index read' n ≡ 0 = ap (λ (l : List ℕ). slice_index l n) c.begin.ensures.begun ∙ set_here read n in
    let begins : held c.args.name.now ≡ left_at files read' n = c.requires ∙ sym (ap (from n) here) in
    let others : (m : ℕ) → m ≢ n → left_at files read' m ≡ left_at files read m = λ m ne. ap (from m) (ap (λ (l : List ℕ). slice_index l m) c.begin.ensures.begun ∙ set_there read n m ne) in
    let told = told_looked_for held log c.args.name.now (Ok n) c.args.self.now.told in
    let stands = stands_found held (left_at files read) (left_at files read') log c.args.name.now n c.args.self.now.stands begins others in
    record {
      paired = c.begin.ensures.paired ∙ c.args.self.now.paired;
      few = c.args.self.now.few;
      told = subst (Told held) (sym c.then-self.ensures) told;
      stands = subst (Stands held (left_at files read')) (sym c.then-self.ensures) stands;
    }
