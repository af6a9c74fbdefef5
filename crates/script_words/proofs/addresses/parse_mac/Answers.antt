use Rattle.std.proofs.Common.{refl, arith}
use Rattle.script_words.proofs.Spellings.{mac_length, mac_octet, mac_of_octets}
use Rattle.script_words.proofs.addresses.parse_mac.Goals as goal

pub returns-in_default : goal.returns-in_default
returns-in_default c = λ mac h is. let long = mac_length c.args.word.now mac h is in absurd (omega arith)

pub returns-in_default-2 : goal.returns-in_default-2
returns-in_default-2 c = λ mac h is. let long = mac_length c.args.word.now mac h is in absurd (omega arith)

pub returns-in_err-first : goal.returns-in_err-first
returns-in_err-first c =
    rw c.from_residual.ensures
    (λ mac h is. let at = mac_octet c.args.word.now mac h is 0 0 1 (omega arith) refl refl in c.in_err-first.ensures at.0 at.1 at.2)

pub returns-in_err-second : goal.returns-in_err-second
returns-in_err-second c =
    rw c.from_residual-in_err-second.ensures
    (λ mac h is. let at = mac_octet c.args.word.now mac h is 1 2 3 (omega arith) refl refl in c.in_err-second.ensures at.0 at.1 at.2)

pub returns-in_err-third : goal.returns-in_err-third
returns-in_err-third c =
    rw c.from_residual-in_err-third.ensures
    (λ mac h is. let at = mac_octet c.args.word.now mac h is 2 4 5 (omega arith) refl refl in c.in_err-third.ensures at.0 at.1 at.2)

pub returns-in_err-fourth : goal.returns-in_err-fourth
returns-in_err-fourth c =
    rw c.from_residual-in_err-fourth.ensures
    (λ mac h is. let at = mac_octet c.args.word.now mac h is 3 6 7 (omega arith) refl refl in c.in_err-fourth.ensures at.0 at.1 at.2)

pub returns-in_err-fifth : goal.returns-in_err-fifth
returns-in_err-fifth c =
    rw c.from_residual-in_err-fifth.ensures
    (λ mac h is. let at = mac_octet c.args.word.now mac h is 4 8 9 (omega arith) refl refl in c.in_err-fifth.ensures at.0 at.1 at.2)

pub returns-in_err-sixth : goal.returns-in_err-sixth
returns-in_err-sixth c =
    rw c.from_residual-in_err-sixth.ensures
    (λ mac h is. let at = mac_octet c.args.word.now mac h is 5 10 11 (omega arith) refl refl in c.in_err-sixth.ensures at.0 at.1 at.2)

pub returns : goal.returns
returns c =
    mac_of_octets c.args.word.now c.in_ok-first.first c.in_ok-second.second c.in_ok-third.third c.in_ok-fourth.fourth c.in_ok-fifth.fifth c.in_ok-sixth.sixth (omega arith) c.in_ok-first.ensures c.in_ok-second.ensures c.in_ok-third.ensures c.in_ok-fourth.ensures c.in_ok-fifth.ensures c.in_ok-sixth.ensures
