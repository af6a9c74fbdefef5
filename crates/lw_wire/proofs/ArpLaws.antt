-- What the reader of ARP packets answers is spelled by the octets, and what is spelled is read.
use Rattle.std.proofs.Common.{◌≡◌, ◌^◌, ◌<◌, ◌≤◌, ◌++◌, ◌==◌, ◌&&◌, inl, inr, Bool, true, false, ℕ, List, [], ◌∷◌, Ok, Err, IfOk, length, drop, slice_index_or, nat_lt, if◌then◌else◌, refl, ap, ◌∙◌, arith, append_assoc, ltb-false, le-ltb, eqb-true, length-append}
use Rattle.std.proofs.lemmas.Bool.{and_parts, or_cases}
use Rattle.std.proofs.lemmas.List.{drop_at}
use Rattle.byteorder.specs.Endian.{big_bytes}
use Rattle.lw_base.specs.declared.heads.ArpPacket.{ArpPacket}
use Rattle.lw_wire.specs.declared.fault.WireFault.{WireFault}
use Rattle.lw_wire.specs.declared.fault.WireFault.TheVariants.{Short, BadField}
use Rattle.lw_wire.specs.Fields.{AreOctets, u8_at, u16_at}
use Rattle.lw_wire.specs.Arp.{arp_fields, arp_of, arp_spelling, HasArpSpelling, is_arp_operation, is_ethernet_ipv4, IsArpOperation, ReadsArp, SpellsArp}
use Rattle.lw_wire.proofs.FieldsLaws.{length-part_at, number_at-fits, number_behind, number_first, part_behind, part_first, part_then, six_then, u8_then, u16_then, u32_then}

-- the four fields that every packet has alike
record KindFields (octets : List ℕ) : Type 0 where
  hardware : u16_at 0 octets ≡ 1
  protocol : u16_at 2 octets ≡ 0x0800
  hardware_length : u8_at 4 octets ≡ 6
  protocol_length : u8_at 5 octets ≡ 4

kind_fields : (octets : List ℕ) → is_ethernet_ipv4 octets ≡ true → KindFields octets
kind_fields octets is =
    let last = and_parts (u16_at 0 octets == 1 && u16_at 2 octets == 0x0800 && u8_at 4 octets == 6) (u8_at 5 octets == 4) is in
    let third = and_parts (u16_at 0 octets == 1 && u16_at 2 octets == 0x0800) (u8_at 4 octets == 6) last.0 in
    let second = and_parts (u16_at 0 octets == 1) (u16_at 2 octets == 0x0800) third.0 in
    record {
      hardware = eqb-true _ _ second.0;
      protocol = eqb-true _ _ second.1;
      hardware_length = eqb-true _ _ third.1;
      protocol_length = eqb-true _ _ last.1;
    }

-- the test of the operation
pub is-arp_operation : (op : ℕ) → is_arp_operation op ≡ true → IsArpOperation op
is-arp_operation op is = elim (or_cases (op == 1) (op == 2) is) [ inl one ↦ inl (eqb-true _ _ one) | inr two ↦ inr (eqb-true _ _ two) ]

pub arp_operation-is : (op : ℕ) → IsArpOperation op → is_arp_operation op ≡ true
arp_operation-is op h = elim h [ inl one ↦ rw one refl | inr two ↦ rw two refl ]

-- an operation fits two octets
operation-fits : (op : ℕ) → IsArpOperation op → op < 2 ^ 16
operation-fits op h = elim h [ inl one ↦ omega arith | inr two ↦ omega arith ]

-- the fields that twenty-eight octets have make up these octets
arp_spelled : (octets : List ℕ) → AreOctets octets → 28 ≤ length octets → KindFields octets
    → octets ≡ arp_spelling (arp_fields octets) ++ drop 28 octets
arp_spelled octets small len kind =
    let from_tip = u32_then 24 _ octets (drop 28 octets) small (omega arith) refl refl in
    let from_tmac = part_then 18 6 octets _ from_tip in
    let from_sip = u32_then 14 _ octets _ small (omega arith) refl from_tmac in
    let from_smac = part_then 8 6 octets _ from_sip in
    let from_op = u16_then 6 _ octets _ small (omega arith) refl from_smac in
    let from_protocol_length = u8_then 5 4 octets _ small (omega arith) kind.protocol_length from_op in
    let from_hardware_length = u8_then 4 6 octets _ small (omega arith) kind.hardware_length from_protocol_length in
    let from_protocol = u16_then 2 0x0800 octets _ small (omega arith) kind.protocol from_hardware_length in
    let from_hardware = u16_then 0 1 octets _ small (omega arith) kind.hardware from_protocol in
    simp append_assoc from_hardware

-- the fields that twenty-eight octets have are those of a packet, where the operation is allowed
arp_fits : (octets : List ℕ) → AreOctets octets → 28 ≤ length octets → IsArpOperation (u16_at 6 octets) → HasArpSpelling (arp_fields octets)
arp_fits octets small len operation = record {
  op = operation;
  smac = length-part_at 8 6 octets (omega arith);
  sip = number_at-fits 14 4 octets small;
  tmac = length-part_at 18 6 octets (omega arith);
  tip = number_at-fits 24 4 octets small;
}

-- by the tests of the length and of the fields
found_by : (octets : List ℕ) → AreOctets octets → (short allowed : Bool) → nat_lt (length octets) 28 ≡ short
    → (is_ethernet_ipv4 octets && is_arp_operation (u16_at 6 octets)) ≡ allowed
    → IfOk {T = ArpPacket} {E = WireFault} (if short then Err Short else (if allowed then Ok (arp_fields octets) else Err BadField)) (λ p. SpellsArp octets p)
found_by octets small true allowed is may = tt
found_by octets small false false is may = tt
found_by octets small false true is may =
    let long = ltb-false _ _ is in
    let both = and_parts (is_ethernet_ipv4 octets) (is_arp_operation (u16_at 6 octets)) may in
    record {
      spelled = arp_spelled octets small long (kind_fields octets both.0);
      fits = arp_fits octets small long (is-arp_operation _ both.1);
    }

-- what is read is spelled
pub arp-found : (octets : List ℕ) → AreOctets octets → IfOk (arp_of octets) (λ p. SpellsArp octets p)
arp-found octets small = found_by octets small (nat_lt (length octets) 28) (is_ethernet_ipv4 octets && is_arp_operation (u16_at 6 octets)) refl refl

-- a packet in front of any octets is read
arp-before : (octets : List ℕ) (p : ArpPacket) (rest : List ℕ) → HasArpSpelling p → octets ≡ arp_spelling p ++ rest
    → arp_of octets ≡ Ok p
arp-before octets p rest fits spelled =
    let from_hardware : octets ≡ big_bytes 2 1 ++ (big_bytes 2 0x0800 ++ (big_bytes 1 6 ++ (big_bytes 1 4 ++ (big_bytes 2 p.op ++ (p.smac.0 ++ (big_bytes 4 p.sip.0 ++ (p.tmac.0 ++ (big_bytes 4 p.tip.0 ++ rest)))))))) = simp append_assoc at spelled in
    let hardware = number_first 0 2 1 octets _ from_hardware (omega arith) in
    let from_protocol = number_behind 0 2 1 octets _ from_hardware in
    let protocol = number_first 2 2 0x0800 octets _ from_protocol (omega arith) in
    let from_hardware_length = number_behind 2 2 0x0800 octets _ from_protocol in
    let hardware_length = number_first 4 1 6 octets _ from_hardware_length (omega arith) in
    let from_protocol_length = number_behind 4 1 6 octets _ from_hardware_length in
    let protocol_length = number_first 5 1 4 octets _ from_protocol_length (omega arith) in
    let from_op = number_behind 5 1 4 octets _ from_protocol_length in
    let op = number_first 6 2 p.op octets _ from_op (operation-fits p.op fits.op) in
    let from_smac = number_behind 6 2 p.op octets _ from_op in
    let smac = part_first 8 6 octets p.smac.0 _ from_smac fits.smac in
    let from_sip = part_behind 8 6 octets p.smac.0 _ from_smac fits.smac in
    let sip = number_first 14 4 p.sip.0 octets _ from_sip fits.sip in
    let from_tmac = number_behind 14 4 p.sip.0 octets _ from_sip in
    let tmac = part_first 18 6 octets p.tmac.0 _ from_tmac fits.tmac in
    let from_tip = part_behind 18 6 octets p.tmac.0 _ from_tmac fits.tmac in
    let tip = number_first 24 4 p.tip.0 octets _ from_tip fits.tip in
    let long : nat_lt (length octets) 28 ≡ false = le-ltb _ _ (omega (arith, simp length-append at (ap length from_hardware))) in
    let allowed = arp_operation-is p.op fits.op in
    rw (long, hardware, protocol, hardware_length, protocol_length, op, allowed, smac, sip, tmac, tip) refl

-- what is spelled is read
pub arp-only : (octets : List ℕ) (p : ArpPacket) → SpellsArp octets p → arp_of octets ≡ Ok p
arp-only octets p spells = arp-before octets p (drop 28 octets) spells.fits spells.spelled

-- a packet has twenty-eight octets
length-arp_spelling : (p : ArpPacket) → HasArpSpelling p → length (arp_spelling p) ≡ 28
length-arp_spelling p fits = simp length-append (omega arith)

-- a packet is read again, whatever stands behind it, from its place on
pub arp-read_back : (p : ArpPacket) (body : List ℕ) → HasArpSpelling p
    → ReadsArp (arp_spelling p ++ body) p body
arp-read_back p body fits =
    (arp-before _ p body fits refl, drop_at (arp_spelling p) body 28 (length-arp_spelling p fits))

-- the octets of a packet, one by one
pub arp-joined : (p : ArpPacket) (hardware protocol op sip tip : List ℕ) → length p.smac.0 ≡ 6 → length p.tmac.0 ≡ 6
    → hardware ≡ big_bytes 2 1 → protocol ≡ big_bytes 2 0x0800 → op ≡ big_bytes 2 p.op → sip ≡ big_bytes 4 p.sip.0 → tip ≡ big_bytes 4 p.tip.0
    → slice_index_or hardware 0 0 ∷ slice_index_or hardware 1 0 ∷ slice_index_or protocol 0 0 ∷ slice_index_or protocol 1 0 ∷ 6 ∷ 4 ∷ slice_index_or op 0 0 ∷ slice_index_or op 1 0
    ∷ slice_index_or p.smac.0 0 0 ∷ slice_index_or p.smac.0 1 0 ∷ slice_index_or p.smac.0 2 0 ∷ slice_index_or p.smac.0 3 0 ∷ slice_index_or p.smac.0 4 0 ∷ slice_index_or p.smac.0 5 0
    ∷ slice_index_or sip 0 0 ∷ slice_index_or sip 1 0 ∷ slice_index_or sip 2 0 ∷ slice_index_or sip 3 0
    ∷ slice_index_or p.tmac.0 0 0 ∷ slice_index_or p.tmac.0 1 0 ∷ slice_index_or p.tmac.0 2 0 ∷ slice_index_or p.tmac.0 3 0 ∷ slice_index_or p.tmac.0 4 0 ∷ slice_index_or p.tmac.0 5 0
    ∷ slice_index_or tip 0 0 ∷ slice_index_or tip 1 0 ∷ slice_index_or tip 2 0 ∷ slice_index_or tip 3 0 ∷ []
    ≡ arp_spelling p
arp-joined p hardware protocol op sip tip smac tmac hardware_is protocol_is op_is sip_is tip_is =
    let last = six_then p.tmac.0 (big_bytes 4 p.tip.0) tmac in
    let from_sip = ap (λ (r : List ℕ). big_bytes 4 p.sip.0 ++ r) last in
    let from_smac = six_then p.smac.0 _ smac ∙ ap (λ (r : List ℕ). p.smac.0 ++ r) from_sip in
    let whole = ap (λ (r : List ℕ). big_bytes 2 1 ++ big_bytes 2 0x0800 ++ big_bytes 1 6 ++ big_bytes 1 4 ++ big_bytes 2 p.op ++ r) from_smac in
    rw (hardware_is, protocol_is, op_is, sip_is, tip_is) (simp append_assoc whole)
