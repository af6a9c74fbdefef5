-- How each line of a script is spelled. An address is a number below 2^32, its first octet the highest (RFC 791).
use Rattle.std.specs.Prelude.{◌≡◌, ℕ, ◌+◌, ◌-◌, ◌/◌, ◌%◌, ◌^◌, ◌<◌, ◌≤◌, nat_lt, if◌then◌else◌, List, [], ◌∷◌, ◌++◌, length, All, flat_map, codes}
use Rattle.std.specs.Net.Text.{dotted_text}
use Rattle.lw_base.specs.declared.addresses.Ip.{Ip}
use Rattle.lw_base.specs.declared.addresses.Mac.{Mac}
use Rattle.lw_base.specs.declared.addresses.Net.{Net}
use Rattle.lw_script.specs.declared.parts.Profile.{Profile}
use Rattle.lw_script.specs.Parts.{profile_word}

-- the four octets of an address, each in decimal without leading zeros, with dots between them
abbrev pub ip_spelling : Ip → List ℕ
ip_spelling ip = dotted_text (ip.0 / 2 ^ 24) (ip.0 / 2 ^ 16 % 256) (ip.0 / 2 ^ 8 % 256) (ip.0 % 256)

-- a hexadecimal digit, in lower case
abbrev pub hex_digit : ℕ → ℕ
hex_digit d = if nat_lt d 10 then 48 + d else 87 + d

-- an octet as two hexadecimal digits
abbrev pub hex_octet : ℕ → List ℕ
hex_octet n = hex_digit (n / 16) ∷ hex_digit (n % 16) ∷ []

-- the octets of a hardware address, with nothing between them
abbrev pub mac_spelling : Mac → List ℕ
mac_spelling mac = flat_map hex_octet mac.0

-- the head line of version 1
abbrev pub head_spelling : List ℕ
head_spelling = codes "lwip 1"

-- the line of a stack's addresses
abbrev pub net_spelling : Net → List ℕ
net_spelling net =
    codes "net " ++ ip_spelling net.ip ++ codes " " ++ ip_spelling net.mask ++ codes " "
    ++ ip_spelling net.gateway ++ codes " " ++ mac_spelling net.mac

-- the line of a stack's sizes
abbrev pub limits_spelling : Profile → List ℕ
limits_spelling profile = codes "limits " ++ profile_word profile

-- a mask of a subnet: ones from the highest bit on, then k zeros (RFC 950)
abbrev pub IsMask : ℕ → Type 0
IsMask mask = (k : ℕ) × (k ≤ 32) × (mask ≡ 2 ^ 32 - 2 ^ k)

-- a hardware address has six octets
pub record IsMac (mac : Mac) : Type 0 where
  pub six : length mac.0 ≡ 6
  pub octets : All (λ n. n < 256) mac.0

-- addresses of 32 bits, a mask among them, and a hardware address
pub record IsNet (net : Net) : Type 0 where
  pub ip : net.ip.0 < 2 ^ 32
  pub mask : IsMask net.mask.0
  pub gateway : net.gateway.0 < 2 ^ 32
  pub mac : IsMac net.mac
