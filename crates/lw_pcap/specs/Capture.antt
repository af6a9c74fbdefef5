use Rattle.std.specs.Prelude.{◌≡◌, ◌-◌, ◌<◌, ◌⊎◌, ℕ, List, [], length, drop, Some, Err}
use Rattle.lw_pcap.specs.declared.header.Endian.{Endian}
use Rattle.lw_pcap.specs.declared.fault.PcapFault.{PcapFault}
use Rattle.lw_pcap.specs.Header.{SpellsHeader, header_of}
use Rattle.lw_pcap.specs.Records.{Records, record_fault}

-- the octets are a capture of these frames: its header, then a record for each frame, and no more
pub record SpellsCapture (octets : List ℕ) (frames : List (List ℕ)) : Type 0 where
  pub endian : Endian
  pub header : SpellsHeader endian octets
  pub records : Records endian (drop 24 octets) frames []

-- behind the header and the records of some frames, octets are left whose first record has this fault;
-- its place is counted from the start of the file
pub record RecordFails (octets : List ℕ) (fault : PcapFault) : Type 0 where
  pub endian : Endian
  pub header : SpellsHeader endian octets
  pub before : List (List ℕ)
  pub rest : List ℕ
  pub records : Records endian (drop 24 octets) before rest
  pub left : 0 < length rest
  pub fails : record_fault endian (length octets - length rest) rest ≡ Some fault

-- the first fault of octets that are no capture: of the header, or of a record
abbrev pub CaptureFails : List ℕ → PcapFault → Type 0
CaptureFails octets fault = (header_of octets ≡ Err fault) ⊎ RecordFails octets fault
