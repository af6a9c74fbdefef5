-- What holds of the way out at any time: hardware addresses have six octets, and packets and frames are short.
use Rattle.std.specs.Prelude.{ℕ, ◌≤◌, List, length, All, IfSome}
use Rattle.lw_base.specs.declared.addresses.Mac.{Mac}
use Rattle.lw_arp.specs.declared.entries.ArpEntry.{ArpEntry}
use Rattle.lw_link.specs.Way.{Way, IsPacket}

-- as many octets as a frame may have
abbrev pub IsShort : List ℕ → Type 0
IsShort octets = length octets ≤ 65535

-- a hardware address has six octets at most
abbrev pub IsSix : Mac → Type 0
IsSix mac = length mac.0 ≤ 6

-- the hardware address of an entry has six octets at most, and the packet that waits fits one frame
pub record IsSound (e : ArpEntry (List ℕ)) : Type 0 where
  pub mac : IfSome e.mac IsSix
  pub packet : IfSome e.packet IsPacket

-- the own hardware address has six octets at most, each entry is sound, and the frames that went out are short
pub record IsSoundWay (w : Way) : Type 0 where
  pub own : IsSix w.link.net.mac
  pub others : All IsSound w.link.neighbours
  pub frames : All IsShort w.out
