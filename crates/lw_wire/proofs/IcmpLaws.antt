-- What the reader of ICMP heads answers is spelled by the octets, and what is spelled is read.
use Rattle.std.proofs.Common.{◌≡◌, ◌+◌, ◌++◌, ◌∷◌, [], Bool, true, false, ℕ, List, Ok, Err, IfOk, length, not, nat_lt, if◌then◌else◌, refl, sym, arith, ltb-false, le-ltb}
use Rattle.byteorder.specs.Endian.{big_bytes}
use Rattle.lw_base.specs.declared.heads.IcmpHead.{IcmpHead}
use Rattle.lw_wire.specs.declared.fault.WireFault.{WireFault}
use Rattle.lw_wire.specs.declared.fault.WireFault.TheVariants.{Short, BadSum}
use Rattle.lw_wire.specs.Checksum.{internet_sum}
use Rattle.lw_wire.specs.Fields.{AreOctets, u8_at, u32_at}
use Rattle.lw_wire.specs.Sums.{has_right_sum, HasRightSum}
use Rattle.lw_wire.specs.Icmp.{icmp_fields, icmp_of, icmp_spelling, icmp_with_sum, HasIcmpSpelling, ReadsIcmp, SpellsIcmp}
use Rattle.lw_wire.proofs.FieldsLaws.{number_first}
use Rattle.lw_wire.proofs.ChecksumLaws.{octets_append, octets_bytes, sum_in_place}
use Rattle.lw_wire.proofs.SumsLaws.{octets_cons, right-by_test, test-right}

-- by the tests of the length and of the sum
found_by : (octets : List ℕ) → AreOctets octets → (short right : Bool) → nat_lt (length octets) 8 ≡ short
    → has_right_sum octets ≡ right
    → IfOk {T = IcmpHead × ℕ} {E = WireFault} (if short then Err Short else (if not right then Err BadSum else Ok (icmp_fields octets, 8))) (λ r. SpellsIcmp octets r.0 r.1)
found_by octets small true right is sum = tt
found_by octets small false false is sum = tt
found_by octets small false true is sum = record {
  head = ltb-false _ _ is;
  fields = refl;
  behind = refl;
  sum = right-by_test octets small sum;
}

-- what is read is spelled
pub icmp-found : (octets : List ℕ) → AreOctets octets → IfOk (icmp_of octets) (λ r. SpellsIcmp octets r.0 r.1)
unfolding icmp_of
icmp-found octets small = found_by octets small (nat_lt (length octets) 8) (has_right_sum octets) refl refl

-- what is spelled is read
pub icmp-only : (octets : List ℕ) (h : IcmpHead) (place : ℕ) → SpellsIcmp octets h place → icmp_of octets ≡ Ok (h, place)
unfolding icmp_of
icmp-only octets h place spells =
    let long : nat_lt (length octets) 8 ≡ false = le-ltb _ _ spells.head in
    let right = test-right octets spells.sum in
    let fields = sym spells.fields in
    let behind = sym spells.behind in
    rw (long, right, fields, behind) refl

-- a message is as long as its head and its data
pub length-icmp_spelling : (h : IcmpHead) (body : List ℕ) → length (icmp_spelling h body) ≡ 8 + length body
unfolding icmp_spelling
length-icmp_spelling h body = omega arith

-- the fields of a message are those that were written
icmp-fields : (h : IcmpHead) (sum : ℕ) (body : List ℕ) → HasIcmpSpelling h → h ≡ icmp_fields (icmp_with_sum sum h ++ body)
icmp-fields h sum body fits =
    let octets : List ℕ = icmp_with_sum sum h ++ body in
    let kind : u8_at 0 octets ≡ h.kind = omega arith in
    let code : u8_at 1 octets ≡ h.code = omega arith in
    let rest : u32_at 4 octets ≡ h.rest = number_first 4 4 h.rest octets body refl fits.rest in
    rw (kind, code, rest) refl

-- the sum of a message is right
icmp-right : (h : IcmpHead) (body : List ℕ) → HasIcmpSpelling h → AreOctets body → HasRightSum (icmp_spelling h body)
unfolding icmp_spelling
icmp-right h body fits small =
    sum_in_place (h.kind ∷ h.code ∷ []) (big_bytes 4 h.rest ++ body)
    (octets_cons h.kind (h.code ∷ []) fits.kind (octets_cons h.code [] fits.code (λ i. omega arith)))
    (octets_append (big_bytes 4 h.rest) body (octets_bytes 4 h.rest) small)
    refl

-- a message spells its head, behind which its data stands
icmp-spelled : (h : IcmpHead) (body : List ℕ) → HasIcmpSpelling h → AreOctets body → SpellsIcmp (icmp_spelling h body) h 8
unfolding icmp_spelling
icmp-spelled h body fits small = record {
  head = omega (arith, length-icmp_spelling h body);
  fields = icmp-fields h (internet_sum (icmp_with_sum 0 h ++ body)) body fits;
  behind = refl;
  sum = icmp-right h body fits small;
}

-- a message is read again, and its data stands at the place that is answered
pub icmp-read_back : (h : IcmpHead) (body : List ℕ) → HasIcmpSpelling h → AreOctets body
    → ReadsIcmp (icmp_spelling h body) h body
unfolding icmp_spelling
icmp-read_back h body fits small =
    (icmp-only (icmp_spelling h body) h 8 (icmp-spelled h body fits small), refl)

-- the octets of a message are those of its head with its sum, and then its data
pub icmp-joined : (h : IcmpHead) (body front : List ℕ) (sum : ℕ) → front ≡ icmp_with_sum sum h → sum ≡ internet_sum (icmp_with_sum 0 h ++ body)
    → front ++ body ≡ icmp_spelling h body
unfolding icmp_spelling
icmp-joined h body front sum is sum_is = rw (is, sum_is) refl
