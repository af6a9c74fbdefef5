use Rattle.std.proofs.Common.{[], ◌∷◌, ◌++◌, List, ℕ, codes, ap}
use Rattle.script_words.proofs.HexLaws.{counted_octets}
use Rattle.script_words.proofs.send_data.parse_digits.Goals as goal

pub returns-in-Some : goal.returns-in-Some
returns-in-Some c =
    let found = rw c.in-Some.is at c.in_ok-found.ensures in
    (counted_octets c.args.digits.now c.in-Some.octets found.1 found.0 c.requires.0 c.requires.1, ap (λ (t : List ℕ). (codes "x:" ++ t) ∷ []) found.1)

pub returns-in-None : goal.returns-in-None
returns-in-None c =
    let missing = rw c.in-None.is at c.in_ok-found.ensures in
    λ octets h e. missing octets h.1 e
