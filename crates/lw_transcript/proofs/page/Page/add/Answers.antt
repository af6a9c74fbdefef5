use Rattle.std.proofs.Common.{◌≡◌, ◌∙◌, ◌+◌, ◌≤◌, ◌*◌, ◌++◌, length, take, drop, ap, sym, refl, arith}
use Rattle.hex.specs.Hex.{encode_lower, lower_digits}
use Rattle.hex.proofs.HexLemmas.{length-encode_with}
use Rattle.lw_transcript.specs.Page.{PageSeen}
use Rattle.lw_transcript.proofs.Printing.{fits_page, take_placed, length_placed}
use Rattle.lw_transcript.proofs.page.Page.add.Goals as goal

pub invariant_of-self : goal.invariant_of-self
invariant_of-self c =
    let n = c.self.inside.filled in
    let xs = c.self.inside.buffer.items in
    let fits = fits_page n (length c.args.octets.now) xs c.args.self.now.pending c.self.invariant.0 c.self.invariant.1 (ap (λ (p : PageSeen). p.pending) c.self.view_is) c.requires in
    let long = c.self.invariant.0 in
    (ap length c.place.ensures ∙ length_placed n (length c.args.octets.now) xs c.args.octets.now (omega (arith, fits, long)) refl ∙ c.self.invariant.0, fits)

pub returns-clause-pending : goal.returns-clause-pending
returns-clause-pending c =
    let n = c.self.inside.filled in
    let xs = c.self.inside.buffer.items in
    let pending = ap (λ (p : PageSeen). p.pending) c.self.view_is in
    let long = c.self.invariant.0 in
    let inside = c.self.invariant.1 in
    ap (take (n + (length c.args.octets.now))) c.place.ensures ∙ take_placed n (length c.args.octets.now) xs c.args.octets.now (drop (length c.args.octets.now) (drop n xs)) (omega (arith, long, inside)) refl
    ∙ ap (λ l. l ++ c.args.octets.now) pending
