use Rattle.std.specs.Prelude.{◌≡◌, ◌+◌, ◌≤◌, ℕ, if◌then◌else◌, nat_lt, List, [], ◌∷◌, ◌++◌, length, Option, Some, None}
use Rattle.lw_pcap.specs.declared.header.Endian.{Endian}
use Rattle.lw_pcap.specs.declared.fault.PcapFault.{PcapFault}
use Rattle.lw_pcap.specs.declared.fault.PcapFault.TheVariants.{Truncated, TooLong}
use Rattle.lw_pcap.specs.Header.{number_at}

-- how many octets of its frame a record says that it holds: the third of its head's four numbers,
-- behind the time in seconds and its fraction
abbrev pub captured : Endian → List ℕ → ℕ
captured endian octets = number_at endian 8 4 octets

-- the octets begin with a record: a head of 16 octets, then the frame; `behind` is what follows
pub record SpellsRecord (endian : Endian) (octets frame behind : List ℕ) : Type 0 where
  pub head : List ℕ
  pub spelled : octets ≡ head ++ frame ++ behind
  pub head_length : length head ≡ 16
  pub frame_length : length frame ≡ captured endian octets
  pub few : length frame ≤ 65535

-- the octets begin with the records of these frames, and `rest` is what follows
abbrev pub Records : Endian → List ℕ → List (List ℕ) → List ℕ → Type 0
Records endian octets [] rest = octets ≡ rest
Records endian octets (frame ∷ frames) rest =
    (behind : List ℕ) × SpellsRecord endian octets frame behind × Records endian behind frames rest

-- the first fault of the record that begins these octets, at a place of the file
abbrev pub record_fault : Endian → ℕ → List ℕ → Option PcapFault
record_fault endian place octets =
    if nat_lt (length octets) 16 then Some (Truncated place)
    else (if nat_lt 65535 (captured endian octets) then Some (TooLong place)
    else (if nat_lt (length octets) (16 + captured endian octets) then Some (Truncated place)
    else None))
