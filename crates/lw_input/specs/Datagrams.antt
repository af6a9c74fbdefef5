-- Which datagrams a stack takes (RFC 791, RFC 1122 3.2.1.3).
use Rattle.std.specs.Prelude.{◌==◌, ◌&&◌, ◌||◌, not, Bool}
use Rattle.lw_base.specs.declared.addresses.Net.{Net}
use Rattle.lw_base.specs.declared.heads.IpHead.{IpHead}
use Rattle.lw_netif.specs.Hosts.{is_broadcast, is_host}

-- a datagram is a fragment, where more fragments follow or it isn't the first
abbrev pub is_fragment : IpHead → Bool
is_fragment h = h.mf || not (h.offset == 0)

-- a datagram is taken that goes to the own address or to a broadcast address, from the address of one host
abbrev pub is_accepted : Net → IpHead → Bool
is_accepted net h = (h.dst.0 == net.ip.0 || is_broadcast net h.dst) && is_host net h.src
