-- The header's two forms agree: octets spell a header exactly where reading it gives its byte order.
use Rattle.std.proofs.Common.{◌≡◌, ◌≤◌, ℕ, List, length, Option, Some, None, Ok, arith}
use Rattle.std.proofs.lemmas.Bool.Decides.{nat_tests}
use Rattle.lw_pcap.specs.declared.header.Endian.{Endian}
use Rattle.lw_pcap.specs.Header.{number_at, endian_of, SpellsHeader, header_with, header_of}

-- a magic that is known, version and link type lie behind a header that reads well
known : (magic : Option Endian) (octets : List ℕ) (endian : Endian) → header_with magic octets ≡ Ok endian
    → (magic ≡ Some endian) × (number_at endian 4 2 octets ≡ 2) × (number_at endian 6 2 octets ≡ 4) × (number_at endian 20 4 octets ≡ 1)
known None octets endian e = cc
known (Some m) octets endian e = grind (arith, nat_tests)

-- a header that reads well is spelled
pub header_spelled : (octets : List ℕ) (endian : Endian) → header_of octets ≡ Ok endian → SpellsHeader endian octets
header_spelled octets endian e =
    let whole : 24 ≤ length octets = grind (arith, nat_tests) in
    let e' : header_with (endian_of octets) octets ≡ Ok endian = grind (arith, nat_tests) in
    let k = known (endian_of octets) octets endian e' in
    record { whole = whole; magic = k.0; major = k.1; minor = k.2; link = k.3 }

-- a spelled header reads well
pub header_read : (octets : List ℕ) (endian : Endian) → SpellsHeader endian octets → header_of octets ≡ Ok endian
header_read octets endian s =
    let whole = s.whole in
    let magic = s.magic in
    let major = s.major in
    let minor = s.minor in
    let link = s.link in
    let with_magic : header_with (Some endian) octets ≡ Ok endian = grind (arith, nat_tests) in
    let same : header_with (endian_of octets) octets ≡ Ok endian = cc in
    grind (arith, nat_tests)
