-- A capture of one ARP request, and the same cut behind ten octets of its record.
use Rattle.std.proofs.Common.{◌++◌, ℕ, List, [], ◌∷◌, take, refl, inr, lit≤, lit<}
use Rattle.lw_pcap.specs.declared.header.Endian.TheVariants.{Little}
use Rattle.lw_pcap.specs.declared.fault.PcapFault.TheVariants.{Truncated}
use Rattle.lw_pcap.specs.Capture.{SpellsCapture, CaptureFails}

-- the header that tcpdump writes on a machine whose lowest octet comes first
abbrev pub file_header : List ℕ
file_header =
    0xd4 ∷ 0xc3 ∷ 0xb2 ∷ 0xa1 ∷ 0x02 ∷ 0x00 ∷ 0x04 ∷ 0x00 ∷ 0x00 ∷ 0x00 ∷ 0x00 ∷ 0x00 ∷ 0x00 ∷ 0x00 ∷
    0x00 ∷ 0x00 ∷ 0xff ∷ 0xff ∷ 0x00 ∷ 0x00 ∷ 0x01 ∷ 0x00 ∷ 0x00 ∷ 0x00 ∷ []

-- the head of a record of 42 octets
abbrev pub record_head : List ℕ
record_head =
    0x00 ∷ 0x00 ∷ 0x00 ∷ 0x00 ∷ 0x00 ∷ 0x00 ∷ 0x00 ∷ 0x00 ∷ 0x2a ∷ 0x00 ∷ 0x00 ∷ 0x00 ∷ 0x2a ∷ 0x00 ∷
    0x00 ∷ 0x00 ∷ []

-- who has 10.0.0.1? asks 10.0.0.2
abbrev pub arp_request : List ℕ
arp_request =
    0xff ∷ 0xff ∷ 0xff ∷ 0xff ∷ 0xff ∷ 0xff ∷ 0x02 ∷ 0x00 ∷ 0x00 ∷ 0x00 ∷ 0x00 ∷ 0x02 ∷ 0x08 ∷ 0x06 ∷
    0x00 ∷ 0x01 ∷ 0x08 ∷ 0x00 ∷ 0x06 ∷ 0x04 ∷ 0x00 ∷ 0x01 ∷ 0x02 ∷ 0x00 ∷ 0x00 ∷ 0x00 ∷ 0x00 ∷ 0x02 ∷
    0x0a ∷ 0x00 ∷ 0x00 ∷ 0x02 ∷ 0x00 ∷ 0x00 ∷ 0x00 ∷ 0x00 ∷ 0x00 ∷ 0x00 ∷ 0x0a ∷ 0x00 ∷ 0x00 ∷ 0x01 ∷ []

-- the octets spell this one frame
pub request_spelled : SpellsCapture (file_header ++ record_head ++ arp_request) (arp_request ∷ [])
request_spelled = record {
  endian = Little;
  header = record { whole = lit≤ tt; magic = refl; major = refl; minor = refl; link = refl };
  records = ([], record { head = record_head; spelled = refl; head_length = refl; frame_length = refl; few = lit≤ tt }, refl);
}

-- cut to 34 octets, they fail at 24
pub request_cut : CaptureFails (take 34 (file_header ++ record_head ++ arp_request)) (Truncated 24)
request_cut = inr (record {
  endian = Little;
  header = record { whole = lit≤ tt; magic = refl; major = refl; minor = refl; link = refl };
  before = [];
  rest = take 10 record_head;
  records = refl;
  left = lit< tt;
  fails = refl;
})
