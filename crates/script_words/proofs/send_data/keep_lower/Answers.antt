use Rattle.std.proofs.Common.{◌≡◌, ◌∙◌, List, ℕ, subst, sym, ap}
use Rattle.hex.specs.Hex.{IsBytes, encode_lower}
use Rattle.script_words.proofs.HexLaws.{decoded_bytes, not_lower, not_same}
use Rattle.script_words.proofs.send_data.keep_lower.Goals as goal

pub returns-then-is_text : goal.returns-then-is_text
returns-then-is_text c =
    let spelled : c.as_str.result.now ≡ encode_lower c.args.octets.items = c.as_str.ensures.value ∙ c.in_ok-spelled.ensures ∙ ap encode_lower c.as_slice.ensures.value in
    subst (λ (octets : List ℕ). IsBytes octets × (c.args.digits.now ≡ encode_lower octets)) (sym c.from_vec.ensures)
    (decoded_bytes c.args.digits.now c.args.octets.items c.requires, c.is_text.ensures.0 c.if-is_text.true ∙ spelled)

pub returns-else-is_text : goal.returns-else-is_text
returns-else-is_text c =
    let spelled : c.as_str.result.now ≡ encode_lower c.args.octets.items = c.as_str.ensures.value ∙ c.in_ok-spelled.ensures ∙ ap encode_lower c.as_slice.ensures.value in
    not_lower c.args.digits.now c.args.octets.items c.requires
    (λ e. not_same c.is_text.result c.if-is_text.false (c.is_text.ensures.1 (e ∙ sym spelled)))
