use Rattle.std.specs.Prelude.{◌≡◌, ◌==◌, Result, Ok, Err, bit_and, if◌then◌else◌}
use Rattle.lw_base.specs.declared.addresses.Ip.{Ip}
use Rattle.lw_base.specs.declared.addresses.Net.{Net}
use Rattle.lw_base.specs.declared.errors.Err.{Err as Code}
use Rattle.lw_base.specs.declared.errors.Err.TheVariants.{Rte}

-- an address whose bits under the mask are those of the own address is on the own subnet (RFC 950)
abbrev pub IsOnSubnet : Net → Ip → Type 0
IsOnSubnet net dst = bit_and dst.0 net.mask.0 ≡ bit_and net.ip.0 net.mask.0

-- the next hop to an address: itself on the own subnet, else the gateway, where there is one (RFC 1122, 3.3.1.1)
abbrev pub route_of : Net → Ip → Result Ip Code
route_of net dst =
    if bit_and dst.0 net.mask.0 == bit_and net.ip.0 net.mask.0
    then Ok dst
    else (if net.gateway.0 == 0 then Err Rte else Ok net.gateway)
