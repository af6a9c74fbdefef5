-- How the words of a script are spelled: addresses, numbers, names of variables and signals, and data. An address is a
-- number below 2^32, its first octet the highest (RFC 791).
use Rattle.std.specs.Prelude.{◌≡◌, ℕ, ◌+◌, ◌-◌, ◌/◌, ◌%◌, ◌^◌, ◌<◌, ◌≤◌, nat_lt, if◌then◌else◌, Bool, true, false, List, [], ◌∷◌, ◌++◌, length, All, codes, decimal, Option, Some, None}
use Rattle.std.specs.List.{flat_map}
use Rattle.std.specs.Net.Text.{dotted_text}
use Rattle.hex.specs.Hex.{encode_lower}
use Rattle.lw_base.specs.declared.addresses.Ip.{Ip}
use Rattle.lw_base.specs.declared.addresses.Mac.{Mac}
use Rattle.lw_base.specs.declared.addresses.Net.{Net}
use Rattle.lw_events.specs.declared.event.Proto.{Proto}
use Rattle.lw_events.specs.declared.event.Proto.TheVariants.{Tcp, Udp}
use Rattle.call_types.specs.declared.call.Data.{Data}
use Rattle.call_types.specs.declared.call.Data.TheVariants.{Spelled, Fill}
use Rattle.call_types.specs.declared.call.SelectItem.{SelectItem}
use Rattle.call_types.specs.declared.call.Side.{Side}
use Rattle.call_types.specs.declared.call.Side.TheVariants.{A as SideA, B as SideB}
use Rattle.call_types.specs.declared.call.Test.{Test}
use Rattle.call_types.specs.declared.call.Test.TheVariants.{Readable, Writable, Except}

-- the four octets of an address, each in decimal without leading zeros, with dots between them
abbrev pub ip_spelling : Ip → List ℕ
ip_spelling ip = dotted_text (ip.0 / 2 ^ 24) (ip.0 / 2 ^ 16 % 256) (ip.0 / 2 ^ 8 % 256) (ip.0 % 256)

-- a mask of a subnet: ones from the highest bit on, then k zeros (RFC 950)
abbrev pub IsMask : ℕ → Type 0
IsMask mask = (k : ℕ) × (k ≤ 32) × (mask ≡ 2 ^ 32 - 2 ^ k)

-- a hexadecimal digit, in lower case
abbrev pub hex_digit : ℕ → ℕ
hex_digit d = if nat_lt d 10 then 48 + d else 87 + d

-- an octet as two hexadecimal digits
abbrev pub hex_octet : ℕ → List ℕ
hex_octet n = hex_digit (n / 16) ∷ hex_digit (n % 16) ∷ []

-- the octets of a hardware address, with nothing between them
abbrev pub mac_spelling : Mac → List ℕ
mac_spelling mac = flat_map hex_octet mac.0

-- a hardware address has six octets
pub record IsMac (mac : Mac) : Type 0 where
  pub six : length mac.0 ≡ 6
  pub octets : All (λ n. n < 256) mac.0

-- a variable, as `v5`
abbrev pub var_word : ℕ → List ℕ
var_word n = codes "v" ++ decimal n

-- a signal, as `s5`
abbrev pub signal_word : ℕ → List ℕ
signal_word n = codes "s" ++ decimal n

-- a transport
abbrev pub proto_word : Proto → List ℕ
proto_word Tcp = codes "tcp"
proto_word Udp = codes "udp"

-- whether a setting is on
abbrev pub bool_word : Bool → List ℕ
bool_word false = codes "0"
bool_word true = codes "1"

-- one of the two stacks on a wire
abbrev pub side_word : Side → List ℕ
side_word SideA = codes "a"
side_word SideB = codes "b"

-- how many ticks a select waits, where `inf` is without end
abbrev pub limit_word : Option ℕ → List ℕ
limit_word None = codes "inf"
limit_word (Some ticks) = decimal ticks

-- how many frames are fed, where `all` is those that are left
abbrev pub amount_word : Option ℕ → List ℕ
amount_word None = codes "all"
amount_word (Some frames) = decimal frames

-- the letter of a test
abbrev pub test_letter : Test → List ℕ
test_letter Readable = codes "r"
test_letter Writable = codes "w"
test_letter Except = codes "e"

-- a test of a variable's connection, as `r5`
abbrev pub item_word : SelectItem → List ℕ
item_word item = test_letter item.test ++ decimal item.var

-- data: `x:HEX`, or the words `fill N K`
abbrev pub data_words : Data → List (List ℕ)
data_words (Spelled octets) = (codes "x:" ++ encode_lower octets) ∷ []
data_words (Fill count first) = codes "fill" ∷ decimal count ∷ decimal first ∷ []

-- addresses of 32 bits, a mask among them, and a hardware address
pub record IsNet (net : Net) : Type 0 where
  pub ip : net.ip.0 < 2 ^ 32
  pub mask : IsMask net.mask.0
  pub gateway : net.gateway.0 < 2 ^ 32
  pub mac : IsMac net.mac

-- the words of the line of a stack's addresses
abbrev pub net_words : Net → List (List ℕ)
net_words net = codes "net" ∷ ip_spelling net.ip ∷ ip_spelling net.mask ∷ ip_spelling net.gateway ∷ mac_spelling net.mac ∷ []
