use Rattle.std.proofs.Common.{◌≤◌, length, drop}
use Rattle.lw_pcap.specs.Records.{Records}
use Rattle.lw_pcap.proofs.capture.read_frames.Given as goal

abbrev pub invariant-loop-rest : goal.invariant-loop-rest
invariant-loop-rest l = record {
  read : Records l.endian (drop 24 l.bytes) l.frames.items l.rest;
  within : length l.rest ≤ length l.bytes;
}

abbrev pub decreases-loop-rest : goal.decreases-loop-rest
decreases-loop-rest l = length l.rest
