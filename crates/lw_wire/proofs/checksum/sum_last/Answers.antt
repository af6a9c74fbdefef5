use Rattle.std.proofs.Common.{◌*◌, ◌∙◌, ap, ℕ, arith}
use Rattle.lw_wire.proofs.ChecksumWords.{no_octet, one_octet}
use Rattle.lw_wire.proofs.checksum.sum_last.Goals as goal

pub returns-in-len1-clause-sum : goal.returns-in-len1-clause-sum
returns-in-len1-clause-sum c = ap (λ (x : ℕ). 256 * x) c.from.ensures ∙ one_octet c.args.last.now (omega arith)

pub returns-in_default-clause-sum : goal.returns-in_default-clause-sum
returns-in_default-clause-sum c = let len = c.in_default.len_below in no_octet c.args.last.now (omega arith)
