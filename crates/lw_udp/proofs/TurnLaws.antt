use Rattle.std.proofs.Common.{◌≡◌, ℕ, ◌+◌, ◌-◌, ◌%◌, ◌<◌, ◌≤◌, Bool, true, false, not, List, length, map, None, refl, sym, ◌∙◌, ap, zero-add, arith, leb, Contains}
use Rattle.std.specs.List.{range_with_len}
use Rattle.std.proofs.lemmas.List.{get_or-map}
use Rattle.std.proofs.lemmas.List.FromFn.{length-range_with_len, length-map-range_with_len, get_or-range_with_len}
use Rattle.std.proofs.lemmas.Bool.Decides.{nat_tests}
use Rattle.lw_base.specs.declared.addresses.Port.{Port}
use Rattle.lw_udp.specs.declared.ends.UdpEnd.{UdpEnd}
use Rattle.lw_udp.specs.Ends.{Table}
use Rattle.lw_udp.specs.Ports.{port_after, is_used, first_free, free_port}
use Rattle.lw_udp.proofs.ListLaws.{each_fails, not_found}
use Rattle.lw_udp.specs.Laws.{PortsLaw}

-- the places behind g that reach q, where the place of g + 1 is no greater, and where it is
ahead : (g q : ℕ) → q < 16384 → (g + 1) % 16384 ≤ q → (g + 1 + (q - (g + 1) % 16384)) % 16384 ≡ q
ahead g q below le = omega arith

behind : (g q : ℕ) → q < 16384 → q < (g + 1) % 16384 → (g + 1 + (q + 16384 - (g + 1) % 16384)) % 16384 ≡ q
behind g q below gt = omega arith

every : (given : Port) (port : ℕ) → 49152 ≤ port → port < 65536 → (k : ℕ) × (k < 16384) × ((port_after given k).0 ≡ port)
every given port low high =
    let q = port - 49152 in
    let r = (given.0 + 1) % 16384 in
    let below : q < 16384 = omega arith in
    elim (leb r q) as (λ b. leb r q ≡ b → (k : ℕ) × (k < 16384) × ((port_after given k).0 ≡ port)) [
      | true ↦ λ e.
          let le : r ≤ q = grind (arith, nat_tests) in
          let at = ahead given.0 q below le in
          (q - r, omega arith, omega (arith, at))
      | false ↦ λ e.
          let gt : q < r = grind (arith, nat_tests) in
          let at = behind given.0 q below gt in
          (q + 16384 - r, omega arith, omega (arith, at))
    ] refl

rising : (given : Port) → 49152 ≤ given.0 → given.0 < 65535 → (port_after given 0).0 ≡ given.0 + 1
rising given low high = omega arith

contains_turn : (f : ℕ → Port) (n k : ℕ) → k < n → Contains (map f (range_with_len 0 n)) (f k)
contains_turn f n k below =
    let long : length (map f (range_with_len 0 n)) ≡ n = length-map-range_with_len f 0 n in
    let len : length (range_with_len 0 n) ≡ n = length-range_with_len 0 n in
    let within : k < length (range_with_len 0 n) = omega arith in
    (k, omega arith, get_or-map f (range_with_len 0 n) k 0 (f k) within ∙ ap f (get_or-range_with_len 0 n k 0 below ∙ zero-add k))

fails_not : (b : Bool) → not b ≡ false → b ≡ true
fails_not true h = refl
fails_not false h = absurd (cc)

used_at : (ends : List UdpEnd) (given : Port) (n k : ℕ) → k < n → first_free ends given n ≡ None → is_used ends (port_after given k) ≡ true
unfolding first_free
used_at ends given n k below none =
    let free : Port → Bool = λ port. not (is_used ends port) in
    let all = map (port_after given) (range_with_len 0 n) in
    fails_not _ (each_fails free all (port_after given k) (contains_turn (port_after given) n k below) (not_found free all none))

full : (t : Table) (port : Port) → 49152 ≤ port.0 → port.0 < 65536 → free_port t ≡ None → is_used t.ends port ≡ true
full t port low high none =
    let at = every t.given port.0 low high in
    let same : port_after t.given at.0 ≡ port = ap (λ (n : ℕ). let p : Port = record { 0 = n } in p) at.2 in
    ap (is_used t.ends) (sym same) ∙ used_at t.ends t.given 16384 at.0 at.1 none

pub ports : PortsLaw
ports = record { rising = rising; around = refl; every = every; full = full }
