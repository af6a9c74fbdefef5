-- What the reader of UDP heads answers is spelled by the octets, and what is spelled is read.
use Rattle.std.proofs.Common.{◌≡◌, ◌+◌, ◌<◌, ◌++◌, ◌∷◌, ◌==◌, ◌||◌, inl, inr, Bool, true, false, ℕ, List, Ok, Err, IfOk, length, drop, not, take, nat_lt, if◌then◌else◌, refl, sym, ap, subst, ◌∙◌, arith, eqb-true, ltb-false, le-ltb, length-append}
use Rattle.std.proofs.Math.Bool.{or-true}
use Rattle.std.proofs.lemmas.Bool.{or_cases}
use Rattle.std.proofs.lemmas.List.{take_at}
use Rattle.byteorder.specs.Endian.{big_bytes}
use Rattle.lw_base.specs.declared.addresses.Ip.{Ip}
use Rattle.lw_base.specs.declared.heads.UdpHead.{UdpHead}
use Rattle.lw_wire.specs.declared.fault.WireFault.{WireFault}
use Rattle.lw_wire.specs.declared.fault.WireFault.TheVariants.{Short, BadField, BadSum}
use Rattle.lw_wire.specs.Fields.{AreOctets, u16_at}
use Rattle.lw_wire.specs.Sums.{has_right_sum, HasRightSum, pseudo_head}
use Rattle.lw_wire.specs.Udp.{has_udp_sum, HasUdpSpelling, HasUdpSum, ReadsUdp, SpellsUdp, udp_fields, udp_of, udp_protocol, udp_spelling, udp_sum, udp_with_sum}
use Rattle.lw_wire.proofs.FieldsLaws.{number_first}
use Rattle.lw_wire.proofs.ChecksumLaws.{octets_append, octets_bytes}
use Rattle.lw_wire.proofs.SumsLaws.{octets_cons, octets_take, right-by_test, sent_in_place, test-right}

-- the pseudo head's octets
octets_pseudo : (src dst : Ip) (protocol total : ℕ) → protocol < 256 → AreOctets (pseudo_head src dst protocol total)
octets_pseudo src dst protocol total small =
    let addresses = octets_append (big_bytes 4 src.0) (big_bytes 4 dst.0) (octets_bytes 4 src.0) (octets_bytes 4 dst.0) in
    let last = octets_cons 0 (protocol ∷ big_bytes 2 total) (omega arith) (octets_cons protocol (big_bytes 2 total) small (octets_bytes 2 total)) in
    octets_append (big_bytes 4 src.0 ++ big_bytes 4 dst.0) (0 ∷ protocol ∷ big_bytes 2 total) addresses last

-- the test of a datagram's sum tells that it is right
sum-by_test : (datagram : List ℕ) (src dst : Ip) (total : ℕ) → AreOctets datagram → has_udp_sum datagram src dst total ≡ true
    → HasUdpSum datagram src dst total
sum-by_test datagram src dst total small is =
    let covered : List ℕ = pseudo_head src dst udp_protocol total ++ datagram in
    let octets = octets_append (pseudo_head src dst udp_protocol total) datagram (octets_pseudo src dst udp_protocol total (omega arith)) small in
    elim (or_cases (u16_at 6 datagram == 0) (has_right_sum covered) is) [
      | inl none ↦ inl (eqb-true _ _ none)
      | inr right ↦ inr (right-by_test covered octets right)
    ]

-- and is met where the sum is right
test-sum : (datagram : List ℕ) (src dst : Ip) (total : ℕ) → HasUdpSum datagram src dst total → has_udp_sum datagram src dst total ≡ true
test-sum datagram src dst total (inl none) = rw none refl
test-sum datagram src dst total (inr right) =
    let is = test-right (pseudo_head src dst udp_protocol total ++ datagram) right in
    ap (λ (b : Bool). u16_at 6 datagram == 0 || b) is ∙ or-true (u16_at 6 datagram == 0)

-- by the tests, in their order
found_by : (octets : List ℕ) (src dst : Ip) → AreOctets octets → (short small_field over right : Bool) → nat_lt (length octets) 8 ≡ short
    → nat_lt (udp_fields octets).total 8 ≡ small_field → nat_lt (length octets) (udp_fields octets).total ≡ over
    → has_udp_sum (take (udp_fields octets).total octets) src dst (udp_fields octets).total ≡ right
    → IfOk {T = UdpHead × ℕ} {E = WireFault}
    (if short then Err Short
    else (if small_field then Err BadField
    else (if over then Err Short
    else (if not right then Err BadSum else Ok (udp_fields octets, 8)))))
    (λ r. SpellsUdp octets src dst r.0 r.1)
found_by octets src dst small true less over right short field fits sum = tt
found_by octets src dst small false true over right short field fits sum = tt
found_by octets src dst small false false true right short field fits sum = tt
found_by octets src dst small false false false false short field fits sum = tt
found_by octets src dst small false false false true short field fits sum =
    let total = (udp_fields octets).total in
    record {
      fields = refl;
      behind = refl;
      head = ltb-false _ _ field;
      total = ltb-false _ _ fits;
      sum = sum-by_test (take total octets) src dst total (octets_take total octets small) sum;
    }

-- what is read is spelled
pub udp-found : (octets : List ℕ) (src dst : Ip) → AreOctets octets → IfOk (udp_of octets src dst) (λ r. SpellsUdp octets src dst r.0 r.1)
unfolding udp_of
udp-found octets src dst small =
    let total = (udp_fields octets).total in
    found_by octets src dst small (nat_lt (length octets) 8) (nat_lt total 8) (nat_lt (length octets) total)
    (has_udp_sum (take total octets) src dst total) refl refl refl refl

-- the fields that are spelled are read
udp-only_fields : (octets : List ℕ) (src dst : Ip) (place : ℕ) → SpellsUdp octets src dst (udp_fields octets) place
    → udp_of octets src dst ≡ Ok (udp_fields octets, place)
unfolding udp_of
udp-only_fields octets src dst place spells =
    let head = spells.head in
    let total = spells.total in
    let long : nat_lt (length octets) 8 ≡ false = le-ltb _ _ (omega arith) in
    let counts : nat_lt (udp_fields octets).total 8 ≡ false = le-ltb _ _ head in
    let within : nat_lt (length octets) (udp_fields octets).total ≡ false = le-ltb _ _ total in
    let right = test-sum (take (udp_fields octets).total octets) src dst (udp_fields octets).total spells.sum in
    let behind = sym spells.behind in
    rw (long, counts, within, right, behind) refl

-- what is spelled is read
pub udp-only : (octets : List ℕ) (src dst : Ip) (h : UdpHead) (place : ℕ) → SpellsUdp octets src dst h place
    → udp_of octets src dst ≡ Ok (h, place)
udp-only octets src dst h place spells =
    let here = subst (λ (x : UdpHead). SpellsUdp octets src dst x place) spells.fields spells in
    udp-only_fields octets src dst place here ∙ ap (λ (x : UdpHead). Ok (x, place)) (sym spells.fields)

-- a datagram is as long as its head and its data
length-udp_spelling : (h : UdpHead) (src dst : Ip) (body : List ℕ) → length (udp_spelling h src dst body) ≡ 8 + length body
unfolding udp_spelling
length-udp_spelling h src dst body = omega arith

-- the fields of a datagram are those that were written
udp-fields : (h : UdpHead) (sum : ℕ) (rest : List ℕ) → HasUdpSpelling h → h ≡ udp_fields (udp_with_sum sum h ++ rest)
udp-fields h sum rest fits =
    let octets : List ℕ = udp_with_sum sum h ++ rest in
    let sport : u16_at 0 octets ≡ h.sport.0 = number_first 0 2 h.sport.0 octets (drop 2 octets) refl fits.sport in
    let dport : u16_at 2 octets ≡ h.dport.0 = number_first 2 2 h.dport.0 octets (drop 4 octets) refl fits.dport in
    let total : u16_at 4 octets ≡ h.total = number_first 4 2 h.total octets (drop 6 octets) refl fits.total in
    rw (sport, dport, total) refl

-- the sum of a datagram is right
udp-right : (h : UdpHead) (src dst : Ip) (body : List ℕ) → AreOctets body
    → HasRightSum (pseudo_head src dst udp_protocol h.total ++ udp_spelling h src dst body)
unfolding udp_spelling udp_sum
udp-right h src dst body small =
    let fields : List ℕ = big_bytes 2 h.sport.0 ++ big_bytes 2 h.dport.0 ++ big_bytes 2 h.total in
    let ports = octets_append (big_bytes 2 h.sport.0) (big_bytes 2 h.dport.0) (octets_bytes 2 h.sport.0) (octets_bytes 2 h.dport.0) in
    let all = octets_append (big_bytes 2 h.sport.0 ++ big_bytes 2 h.dport.0) (big_bytes 2 h.total) ports (octets_bytes 2 h.total) in
    sent_in_place (pseudo_head src dst udp_protocol h.total ++ fields) body
    (octets_append (pseudo_head src dst udp_protocol h.total) fields (octets_pseudo src dst udp_protocol h.total (omega arith)) all)
    small refl

-- a datagram spells its head, behind which its data stands, whatever stands behind the datagram
udp-spelled : (h : UdpHead) (src dst : Ip) (body padding : List ℕ) → h.total ≡ 8 + length body → HasUdpSpelling h → AreOctets body
    → SpellsUdp (udp_spelling h src dst body ++ padding) src dst h 8
unfolding udp_spelling
udp-spelled h src dst body padding counts fits small =
    let datagram : take h.total (udp_spelling h src dst body ++ padding) ≡ udp_spelling h src dst body = take_at (udp_spelling h src dst body) padding h.total (length-udp_spelling h src dst body ∙ sym counts) in
    record {
      fields = udp-fields h (udp_sum h src dst body) (body ++ padding) fits;
      behind = refl;
      head = omega arith;
      total = omega (arith, length-append body padding);
      sum = rw datagram (inr (udp-right h src dst body small));
    }

-- a datagram is read again, whatever stands behind it, and its data stands at the place that is answered
pub udp-read_back : (h : UdpHead) (src dst : Ip) (body padding : List ℕ) → h.total ≡ 8 + length body → HasUdpSpelling h → AreOctets body
    → ReadsUdp (udp_spelling h src dst body ++ padding) src dst h body
unfolding udp_spelling
udp-read_back h src dst body padding counts fits small =
    (udp-only (udp_spelling h src dst body ++ padding) src dst h 8 (udp-spelled h src dst body padding counts fits small), take_at body padding (length body) refl)

-- the octets of a datagram are those of its head with its sum, and then its data
pub udp-joined : (h : UdpHead) (src dst : Ip) (body front : List ℕ) (sum : ℕ) → front ≡ udp_with_sum sum h → sum ≡ udp_sum h src dst body
    → front ++ body ≡ udp_spelling h src dst body
unfolding udp_spelling
udp-joined h src dst body front sum is sum_is = rw (is, sum_is) refl
