use Rattle.std.proofs.Common.{[], ◌∷◌, ◌/◌, ◌%◌, ◌^◌}
use Rattle.script_words.proofs.Spellings.{ip_dotted}
use Rattle.std.proofs.Common.{subst, sym, List, ℕ}
use Rattle.std.specs.Net.Grammar.{IsDotted}
use Rattle.script_words.proofs.addresses.parse_ip.Goals as goal

pub returns-in-Err : goal.returns-in-Err
returns-in-Err c = λ ip small is.
    c.in-Err.ensures
    (record { octets = ip.0 / 2 ^ 24 ∷ ip.0 / 2 ^ 16 % 256 ∷ ip.0 / 2 ^ 8 % 256 ∷ ip.0 % 256 ∷ [] })
    (subst (λ (t : List ℕ). IsDotted t (ip.0 / 2 ^ 24 ∷ ip.0 / 2 ^ 16 % 256 ∷ ip.0 / 2 ^ 8 % 256 ∷ ip.0 % 256 ∷ [])) (sym is) (ip_dotted ip small))
