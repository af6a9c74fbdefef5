use Rattle.std.specs.Prelude.{ℕ}
use Rattle.lw_pcap.specs.declared.fault.PcapFault.{PcapFault}
use Rattle.lw_pcap.specs.declared.fault.PcapFault.TheVariants.{BadMagic, BadVersion, BadLink, Truncated, TooLong, NoMemory}

-- the offset of the header or record that fails; the header stands at 0
abbrev pub fault_at : PcapFault → ℕ
fault_at BadMagic = 0
fault_at BadVersion = 0
fault_at BadLink = 0
fault_at (Truncated at) = at
fault_at (TooLong at) = at
fault_at NoMemory = 0
