-- Which addresses are those of one host (RFC 919, RFC 1112, RFC 1122 3.2.1.3).
use Rattle.std.specs.Prelude.{ℕ, ◌^◌, ◌-◌, ◌/◌, ◌==◌, ◌&&◌, ◌||◌, not, Bool, bit_or}
use Rattle.lw_base.specs.declared.addresses.Ip.{Ip}
use Rattle.lw_base.specs.declared.addresses.Net.{Net}

-- the broadcast address of the own subnet: the own address with all bits outside the mask set (RFC 919)
abbrev pub subnet_broadcast : Net → ℕ
subnet_broadcast net = bit_or net.ip.0 (2 ^ 32 - 1 - net.mask.0)

-- a broadcast address: 255.255.255.255 or that of the own subnet. The own address counts as none
abbrev pub is_broadcast : Net → Ip → Bool
is_broadcast net ip = not (ip.0 == net.ip.0) && (ip.0 == 2 ^ 32 - 1 || ip.0 == subnet_broadcast net)

-- a multicast address: one of 224.0.0.0/4 (RFC 1112, 4)
abbrev pub is_multicast : Ip → Bool
is_multicast ip = ip.0 / 2 ^ 28 == 14

-- an address of one host: no broadcast and no multicast address
abbrev pub is_host : Net → Ip → Bool
is_host net ip = not (is_broadcast net ip) && not (is_multicast ip)
