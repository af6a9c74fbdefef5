use Rattle.std.proofs.Common.{◌≡◌, ◌++◌, drop}
use Rattle.std.specs.List.{flat_map}
use Rattle.script_words.specs.Values.{hex_octet}
use Rattle.script_texts.proofs.text.put_hex.Given as goal

abbrev pub invariant-loop-octet : goal.invariant-loop-octet
invariant-loop-octet l = l.out.items ++ flat_map hex_octet (drop l.octet-index l.octets) ≡ l.initial.out.items ++ flat_map hex_octet l.octets
