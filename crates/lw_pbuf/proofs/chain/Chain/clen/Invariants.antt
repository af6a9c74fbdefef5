use Rattle.std.proofs.Common.{◌≡◌, ◌+◌, length, drop}
use Rattle.lw_pbuf.specs.Chains.{all_parts}
use Rattle.lw_pbuf.proofs.chain.Chain.clen.Given as goal

abbrev pub invariant-loop-span : goal.invariant-loop-span
invariant-loop-span l = l.count + length (all_parts (drop l.span-index l.span-items)) ≡ length l.self.parts
