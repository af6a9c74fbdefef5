-- What the reader of IPv4 headers answers is spelled by the octets, and what is spelled is read.
use Rattle.std.proofs.Common.{◌≡◌, ◌+◌, ◌*◌, ◌/◌, ◌%◌, ◌^◌, ◌<◌, ◌≤◌, ◌++◌, ◌∷◌, [], ◌==◌, ◌&&◌, Bool, true, false, ℕ, List, Ok, Err, IfOk, length, drop, not, take, nat_le, nat_lt, if◌then◌else◌, refl, sym, ap, subst, ◌∙◌, arith, eqb-true, eq-eqb, ne_eqb, le-leb, leb-true, ltb-false, le-ltb, length-append}
use Rattle.std.proofs.lemmas.Bool.{and_parts, and_from}
use Rattle.std.proofs.lemmas.List.{take_at}
use Rattle.std.specs.Int.{bit_at, from_bool}
use Rattle.byteorder.specs.Endian.{big_bytes}
use Rattle.lw_base.specs.declared.heads.IpHead.{IpHead}
use Rattle.lw_wire.specs.declared.fault.WireFault.{WireFault}
use Rattle.lw_wire.specs.declared.fault.WireFault.TheVariants.{Short, BadField, BadSum}
use Rattle.lw_wire.specs.Checksum.{internet_sum}
use Rattle.lw_wire.specs.Fields.{AreOctets, u8_at, u16_at, u32_at}
use Rattle.lw_wire.specs.Sums.{has_right_sum, HasRightSum}
use Rattle.lw_wire.specs.Ip.{flags_and_offset, ip_fields, ip_of, ip_spelling, ip_with_sum, is_ip, FitsIp, HasIpSpelling, ReadsIp, SpellsIp}
use Rattle.lw_wire.proofs.FieldsLaws.{number_first}
use Rattle.lw_wire.proofs.ChecksumLaws.{octets_append, octets_bytes, sum_in_place}
use Rattle.lw_wire.proofs.SumsLaws.{octets_cons, octets_take, right-by_test, test-right}

-- what the test of the fields tells
record IpForm (octets : List ℕ) : Type 0 where
  version : u8_at 0 octets / 2 ^ 4 ≡ 4
  words : 20 ≤ (ip_fields octets).head_len
  header : (ip_fields octets).head_len ≤ (ip_fields octets).total

ip_form : (octets : List ℕ) → is_ip octets ≡ true → IpForm octets
ip_form octets is =
    let version : Bool = u8_at 0 octets / 2 ^ 4 == 4 in
    let words : Bool = nat_le 20 (ip_fields octets).head_len in
    let last = and_parts (version && words) (nat_le (ip_fields octets).head_len (ip_fields octets).total) is in
    let first = and_parts version words last.0 in
    record { version = eqb-true _ _ first.0; words = leb-true _ _ first.1; header = leb-true _ _ last.1 }

-- by the tests, in their order
found_by : (octets : List ℕ) → AreOctets octets → (short is over right : Bool) → nat_lt (length octets) 20 ≡ short
    → is_ip octets ≡ is → nat_lt (length octets) (ip_fields octets).total ≡ over
    → has_right_sum (take (ip_fields octets).head_len octets) ≡ right
    → IfOk {T = IpHead × ℕ} {E = WireFault}
    (if short then Err Short
    else (if not is then Err BadField
    else (if over then Err Short
    else (if not right then Err BadSum else Ok (ip_fields octets, (ip_fields octets).head_len)))))
    (λ r. SpellsIp octets r.0 r.1)
found_by octets small true is over right short field fits sum = tt
found_by octets small false false over right short field fits sum = tt
found_by octets small false true true right short field fits sum = tt
found_by octets small false true false false short field fits sum = tt
found_by octets small false true false true short field fits sum =
    let form = ip_form octets field in
    record {
      version = form.version;
      fields = refl;
      behind = refl;
      words = form.words;
      header = form.header;
      total = ltb-false _ _ fits;
      sum = right-by_test (take (ip_fields octets).head_len octets) (octets_take (ip_fields octets).head_len octets small) sum;
    }

-- what is read is spelled
pub ip-found : (octets : List ℕ) → AreOctets octets → IfOk (ip_of octets) (λ r. SpellsIp octets r.0 r.1)
unfolding ip_of
ip-found octets small =
    found_by octets small (nat_lt (length octets) 20) (is_ip octets) (nat_lt (length octets) (ip_fields octets).total)
    (has_right_sum (take (ip_fields octets).head_len octets)) refl refl refl refl

-- the fields that are spelled are read
ip-only_fields : (octets : List ℕ) (place : ℕ) → SpellsIp octets (ip_fields octets) place
    → ip_of octets ≡ Ok (ip_fields octets, (ip_fields octets).head_len)
unfolding ip_of
ip-only_fields octets place spells =
    let words = spells.words in
    let header = spells.header in
    let total = spells.total in
    let long : nat_lt (length octets) 20 ≡ false = le-ltb _ _ (omega arith) in
    let version = eq-eqb (u8_at 0 octets / 2 ^ 4) 4 spells.version in
    let is : is_ip octets ≡ true = and_from _ _ (and_from _ _ version (le-leb _ _ words)) (le-leb _ _ header) in
    let within : nat_lt (length octets) (ip_fields octets).total ≡ false = le-ltb _ _ total in
    let right = test-right (take (ip_fields octets).head_len octets) spells.sum in
    rw (long, is, within, right) refl

-- what is spelled is read
pub ip-only : (octets : List ℕ) (h : IpHead) (place : ℕ) → SpellsIp octets h place → ip_of octets ≡ Ok (h, place)
ip-only octets h place spells =
    let here = subst (λ (x : IpHead). SpellsIp octets x place) spells.fields spells in
    ip-only_fields octets place here
    ∙ ap (λ (n : ℕ). Ok (ip_fields octets, n)) (sym here.behind)
    ∙ ap (λ (x : IpHead). Ok (x, place)) (sym spells.fields)

-- two flags and thirteen bits are read again
flags-df : (df mf : Bool) (units : ℕ) → units < 2 ^ 13 → (bit_at (from_bool df * 2 ^ 14 + from_bool mf * 2 ^ 13 + units) 14 == 1) ≡ df
flags-df true true units small = eq-eqb _ _ (omega arith)
flags-df true false units small = eq-eqb _ _ (omega arith)
flags-df false true units small = ne_eqb _ _ (λ h. omega arith)
flags-df false false units small = ne_eqb _ _ (λ h. omega arith)

flags-mf : (df mf : Bool) (units : ℕ) → units < 2 ^ 13 → (bit_at (from_bool df * 2 ^ 14 + from_bool mf * 2 ^ 13 + units) 13 == 1) ≡ mf
flags-mf true true units small = eq-eqb _ _ (omega arith)
flags-mf true false units small = ne_eqb _ _ (λ h. omega arith)
flags-mf false true units small = eq-eqb _ _ (omega arith)
flags-mf false false units small = ne_eqb _ _ (λ h. omega arith)

flags-units : (df mf : Bool) (units : ℕ) → units < 2 ^ 13 → (from_bool df * 2 ^ 14 + from_bool mf * 2 ^ 13 + units) % 2 ^ 13 ≡ units
flags-units true true units small = omega arith
flags-units true false units small = omega arith
flags-units false true units small = omega arith
flags-units false false units small = omega arith

flags-fit : (df mf : Bool) (units : ℕ) → units < 2 ^ 13 → from_bool df * 2 ^ 14 + from_bool mf * 2 ^ 13 + units < 2 ^ 16
flags-fit true true units small = omega arith
flags-fit true false units small = omega arith
flags-fit false true units small = omega arith
flags-fit false false units small = omega arith

-- the fields of a header are those that were written
ip-fields : (h : IpHead) (n sum : ℕ) (rest : List ℕ) → FitsIp h n → HasIpSpelling h → h ≡ ip_fields (ip_with_sum sum h ++ rest)
ip-fields h n sum rest counts fits =
    let octets : List ℕ = ip_with_sum sum h ++ rest in
    let units : h.offset / 8 < 2 ^ 13 = let most = counts.offset in omega arith in
    let head_len : 4 * (u8_at 0 octets % 2 ^ 4) ≡ h.head_len = sym counts.head_len in
    let tos : u8_at 1 octets ≡ h.tos = omega arith in
    let total : u16_at 2 octets ≡ h.total = number_first 2 2 h.total octets (drop 4 octets) refl fits.total in
    let id : u16_at 4 octets ≡ h.id = number_first 4 2 h.id octets (drop 6 octets) refl fits.id in
    let flags : u16_at 6 octets ≡ flags_and_offset h = number_first 6 2 (flags_and_offset h) octets (drop 8 octets) refl (flags-fit h.df h.mf (h.offset / 8) units) in
    let df = flags-df h.df h.mf (h.offset / 8) units in
    let mf = flags-mf h.df h.mf (h.offset / 8) units in
    let offset : 8 * (flags_and_offset h % 2 ^ 13) ≡ h.offset =
    let whole = flags-units h.df h.mf (h.offset / 8) units in let eighths = counts.units in omega arith in
    let ttl : u8_at 8 octets ≡ h.ttl = omega arith in
    let proto : u8_at 9 octets ≡ h.proto = omega arith in
    let src : u32_at 12 octets ≡ h.src.0 = number_first 12 4 h.src.0 octets (drop 16 octets) refl fits.src in
    let dst : u32_at 16 octets ≡ h.dst.0 = number_first 16 4 h.dst.0 octets (drop 20 octets) refl fits.dst in
    rw (head_len, tos, total, id, flags, df, mf, offset, ttl, proto, src, dst) refl

-- the sum of a header is right
ip-right : (h : IpHead) → HasIpSpelling h → HasRightSum (ip_spelling h)
unfolding ip_spelling
ip-right h fits =
    let words : List ℕ = big_bytes 2 h.id ++ big_bytes 2 (flags_and_offset h) in
    let front = octets_cons 0x45 (h.tos ∷ big_bytes 2 h.total) (omega arith) (octets_cons h.tos (big_bytes 2 h.total) fits.tos (octets_bytes 2 h.total)) in
    let middle = octets_append (big_bytes 2 h.id) (big_bytes 2 (flags_and_offset h)) (octets_bytes 2 h.id) (octets_bytes 2 (flags_and_offset h)) in
    let last = octets_cons h.ttl (h.proto ∷ []) fits.ttl (octets_cons h.proto [] fits.proto (λ i. omega arith)) in
    let addresses = octets_append (big_bytes 4 h.src.0) (big_bytes 4 h.dst.0) (octets_bytes 4 h.src.0) (octets_bytes 4 h.dst.0) in
    sum_in_place ((0x45 ∷ h.tos ∷ big_bytes 2 h.total) ++ words ++ (h.ttl ∷ h.proto ∷ [])) (big_bytes 4 h.src.0 ++ big_bytes 4 h.dst.0)
    (octets_append ((0x45 ∷ h.tos ∷ big_bytes 2 h.total) ++ words) (h.ttl ∷ h.proto ∷ []) (octets_append (0x45 ∷ h.tos ∷ big_bytes 2 h.total) words front middle) last)
    addresses refl

-- a packet spells its header, behind which its data stands, whatever stands behind the packet
ip-spelled : (h : IpHead) (body padding : List ℕ) → FitsIp h (length body) → HasIpSpelling h → SpellsIp (ip_spelling h ++ body ++ padding) h 20
unfolding ip_spelling
ip-spelled h body padding counts fits =
    let head_len = counts.head_len in
    let total = counts.total in
    record {
      version = refl;
      fields = ip-fields h (length body) (internet_sum (ip_with_sum 0 h)) (body ++ padding) counts fits;
      behind = sym head_len;
      words = omega arith;
      header = omega arith;
      total = omega (arith, length-append body padding);
      sum = rw head_len (ip-right h fits);
    }

-- a packet is read again, whatever stands behind it, and its data stands at the place that is answered
pub ip-read_back : (h : IpHead) (body padding : List ℕ) → FitsIp h (length body) → HasIpSpelling h
    → ReadsIp (ip_spelling h ++ body ++ padding) h body
unfolding ip_spelling
ip-read_back h body padding counts fits =
    (ip-only (ip_spelling h ++ body ++ padding) h 20 (ip-spelled h body padding counts fits), take_at body padding (length body) refl)

-- the octets of a header are those with its sum, which is taken over those with 0
pub ip-joined : (h : IpHead) (zeros front : List ℕ) (sum : ℕ) → zeros ≡ ip_with_sum 0 h → front ≡ ip_with_sum sum h → sum ≡ internet_sum (zeros ++ [])
    → front ≡ ip_spelling h
unfolding ip_spelling
ip-joined h zeros front sum zeros_is is sum_is = rw (is, sum_is, zeros_is) refl
