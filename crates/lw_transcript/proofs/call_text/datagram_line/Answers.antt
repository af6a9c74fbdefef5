use Rattle.std.proofs.Common.{◌≡◌, ◌+◌, ◌∷◌, [], ℕ, ap, arith, codes, length}
use Rattle.lw_transcript.specs.Fields.{Word, Number, Address, Hex, line}
use Rattle.lw_transcript.proofs.Printing.{Prints-same}
use Rattle.lw_transcript.proofs.call_text.datagram_line.Goals as goal

pub returns : goal.returns
returns g c =
    let long : 0 + length c.args.octets.now ≡ length c.args.octets.now = omega arith in
    Prints-same c.whole_line.ensures
    (ap
    (λ n.
    line
    (Word (codes "dgram") ∷ Number c.args.conn ∷ Number c.args.ticket ∷ Address c.args.from.0 ∷ Number c.args.from.1.0 ∷ Number n
    ∷ Hex c.args.octets.now ∷ [])) long)
