-- What the reader of Ethernet heads answers is spelled by the octets, and what is spelled is read.
use Rattle.std.proofs.Common.{◌≡◌, ◌≤◌, ◌++◌, Bool, true, false, ℕ, List, [], ◌∷◌, Ok, Err, IfOk, length, drop, slice_index_or, nat_lt, if◌then◌else◌, refl, sym, ap, ◌∙◌, arith, append_assoc, ltb-false, le-ltb, length-append}
use Rattle.std.proofs.lemmas.List.{drop_at}
use Rattle.byteorder.specs.Endian.{big_bytes}
use Rattle.lw_base.specs.declared.heads.EthHead.{EthHead}
use Rattle.lw_wire.specs.declared.fault.WireFault.{WireFault}
use Rattle.lw_wire.specs.declared.fault.WireFault.TheVariants.{Short}
use Rattle.lw_wire.specs.Eth.{eth_fields, eth_of, eth_spelling, HasEthSpelling, ReadsEth, SpellsEth}
use Rattle.lw_wire.specs.Fields.{AreOctets}
use Rattle.lw_wire.proofs.FieldsLaws.{length-part_at, number_at-fits, number_first, part_behind, part_first, part_then, six_then, u16_then}

-- the fields that fourteen octets have make up these octets
eth_spelled : (octets : List ℕ) → AreOctets octets → 14 ≤ length octets
    → octets ≡ eth_spelling (eth_fields octets) ++ drop 14 octets
eth_spelled octets small len =
    let from_type = u16_then 12 _ octets (drop 14 octets) small (omega arith) refl refl in
    let from_src = part_then 6 6 octets _ from_type in
    let from_dst = part_then 0 6 octets _ from_src in
    simp append_assoc from_dst

-- the fields that fourteen octets have are those of a head
eth_fits : (octets : List ℕ) → AreOctets octets → 14 ≤ length octets → HasEthSpelling (eth_fields octets)
eth_fits octets small len = record {
  dst = length-part_at 0 6 octets (omega arith);
  src = length-part_at 6 6 octets (omega arith);
  ethertype = number_at-fits 12 2 octets small;
}

-- by the test of the length
found_by : (octets : List ℕ) → AreOctets octets → (short : Bool) → nat_lt (length octets) 14 ≡ short
    → IfOk {T = EthHead × ℕ} {E = WireFault} (if short then Err Short else Ok (eth_fields octets, 14)) (λ r. SpellsEth octets r.0 r.1)
found_by octets small true is = tt
found_by octets small false is =
    let long = ltb-false _ _ is in
    record { spelled = eth_spelled octets small long; behind = refl; fits = eth_fits octets small long }

-- what is read is spelled
pub eth-found : (octets : List ℕ) → AreOctets octets → IfOk (eth_of octets) (λ r. SpellsEth octets r.0 r.1)
eth-found octets small = found_by octets small (nat_lt (length octets) 14) refl

-- a head in front of any octets is read
eth-before : (octets : List ℕ) (h : EthHead) (rest : List ℕ) → HasEthSpelling h → octets ≡ eth_spelling h ++ rest
    → eth_of octets ≡ Ok (h, 14)
eth-before octets h rest fits spelled =
    let from_dst : octets ≡ h.dst.0 ++ (h.src.0 ++ (big_bytes 2 h.ethertype ++ rest)) = simp append_assoc at spelled in
    let dst = part_first 0 6 octets h.dst.0 _ from_dst fits.dst in
    let from_src = part_behind 0 6 octets h.dst.0 _ from_dst fits.dst in
    let src = part_first 6 6 octets h.src.0 _ from_src fits.src in
    let from_type = part_behind 6 6 octets h.src.0 _ from_src fits.src in
    let ethertype = number_first 12 2 h.ethertype octets rest from_type fits.ethertype in
    let long : nat_lt (length octets) 14 ≡ false = le-ltb _ _ (omega (arith, simp length-append at (ap length from_dst))) in
    rw (long, dst, src, ethertype) refl

-- what is spelled is read
pub eth-only : (octets : List ℕ) (h : EthHead) (place : ℕ) → SpellsEth octets h place → eth_of octets ≡ Ok (h, place)
eth-only octets h place spells =
    eth-before octets h (drop place octets) spells.fits spells.spelled ∙ ap (λ (n : ℕ). Ok (h, n)) (sym spells.behind)

-- a head has fourteen octets
pub length-eth_spelling : (h : EthHead) → HasEthSpelling h → length (eth_spelling h) ≡ 14
length-eth_spelling h fits = simp length-append (omega arith)

-- a head is read again from in front of its data, which begins at the place that is answered
pub eth-read_back : (h : EthHead) (body : List ℕ) → HasEthSpelling h
    → ReadsEth (eth_spelling h ++ body) h body
eth-read_back h body fits =
    (eth-before _ h body fits refl, drop_at (eth_spelling h) body 14 (length-eth_spelling h fits))

-- the octets of a head, one by one
pub eth-joined : (h : EthHead) (ethertype : List ℕ) → length h.dst.0 ≡ 6 → length h.src.0 ≡ 6 → ethertype ≡ big_bytes 2 h.ethertype
    → slice_index_or h.dst.0 0 0 ∷ slice_index_or h.dst.0 1 0 ∷ slice_index_or h.dst.0 2 0 ∷ slice_index_or h.dst.0 3 0 ∷ slice_index_or h.dst.0 4 0 ∷ slice_index_or h.dst.0 5 0
    ∷ slice_index_or h.src.0 0 0 ∷ slice_index_or h.src.0 1 0 ∷ slice_index_or h.src.0 2 0 ∷ slice_index_or h.src.0 3 0 ∷ slice_index_or h.src.0 4 0 ∷ slice_index_or h.src.0 5 0
    ∷ slice_index_or ethertype 0 0 ∷ slice_index_or ethertype 1 0 ∷ []
    ≡ eth_spelling h
eth-joined h ethertype dst src is =
    rw is (simp append_assoc
    (six_then h.dst.0 _ dst ∙ ap (λ (r : List ℕ). h.dst.0 ++ r) (six_then h.src.0 (big_bytes 2 h.ethertype) src)))
