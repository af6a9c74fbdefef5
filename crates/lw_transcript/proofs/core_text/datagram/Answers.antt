use Rattle.std.proofs.Common.{◌≡◌, ◌+◌, ◌∷◌, [], ℕ, ap, arith, codes, length}
use Rattle.std.specs.List.{flat_map}
use Rattle.lw_transcript.specs.Fields.{Word, Number, Address, behind_text}
use Rattle.lw_transcript.proofs.Printing.{Prints-same}
use Rattle.lw_transcript.proofs.core_text.datagram.Goals as goal

pub returns : goal.returns
returns g c =
    let long : 0 + length c.args.octets.now ≡ length c.args.octets.now = omega arith in
    Prints-same c.behind.ensures
    (ap (λ n. flat_map behind_text (Word (codes "datagram") ∷ Address c.args.ip ∷ Number c.args.port.0 ∷ Number n ∷ [])) long)
