use Rattle.std.proofs.Common.{◌≡◌, ◌++◌}
use Rattle.lw_frag.specs.Pieces.{full_len, full_pieces}
use Rattle.lw_link.specs.Way.{mtu}
use Rattle.lw_link.proofs.FrameLaws.{frames_with}
use Rattle.lw_link.proofs.frames.push_frames.Given as goal

abbrev pub invariant-loop-index : goal.invariant-loop-index
invariant-loop-index l = l.frames.items ≡ l.fn.frames.items ++ frames_with l.net l.mac l.body (full_pieces l.head l.index (full_len mtu))
