use Rattle.std.proofs.Common.{◌≡◌, ◌∙◌, ◌+◌, ◌≤◌, ◌*◌, ◌++◌, length, take, drop, ap, sym, refl, arith}
use Rattle.hex.specs.Hex.{encode_lower, lower_digits}
use Rattle.hex.proofs.HexLemmas.{length-encode_with}
use Rattle.lw_transcript.specs.Page.{PageSeen}
use Rattle.lw_transcript.proofs.Printing.{fits_page, take_placed, length_placed}
use Rattle.lw_transcript.proofs.page.Page.add_hex.Goals as goal

pub invariant_of-self : goal.invariant_of-self
invariant_of-self c =
    let n = c.self.inside.filled in
    let xs = c.self.inside.buffer.items in
    let fits = fits_page n (2 * length c.args.octets.now) xs c.args.self.now.pending c.self.invariant.0 c.self.invariant.1 (ap (λ (p : PageSeen). p.pending) c.self.view_is) c.requires in
    let long = c.self.invariant.0 in
    (ap length c.place_hex.ensures ∙ length_placed n (2 * length c.args.octets.now) xs (encode_lower c.args.octets.now) (omega (arith, fits, long)) (sym (length-encode_with lower_digits c.args.octets.now)) ∙ c.self.invariant.0, fits)

pub returns-clause-pending : goal.returns-clause-pending
returns-clause-pending c =
    let n = c.self.inside.filled in
    let xs = c.self.inside.buffer.items in
    let pending = ap (λ (p : PageSeen). p.pending) c.self.view_is in
    let long = c.self.invariant.0 in
    let inside = c.self.invariant.1 in
    ap (take (n + (2 * length c.args.octets.now))) c.place_hex.ensures ∙ take_placed n (2 * length c.args.octets.now) xs (encode_lower c.args.octets.now) (drop (2 * length c.args.octets.now) (drop n xs)) (omega (arith, long, inside)) (sym (length-encode_with lower_digits c.args.octets.now))
    ∙ ap (λ l. l ++ (encode_lower c.args.octets.now)) pending
