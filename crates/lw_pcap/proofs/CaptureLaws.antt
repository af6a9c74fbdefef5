-- Octets spell one list of frames, or fail with one fault, and never both.
use Rattle.std.proofs.Common.{◌≡◌, ◌+◌, ◌*◌, ◌-◌, ◌<◌, ◌≤◌, ◌++◌, ℕ, zero, suc, List, [], ◌∷◌, length, take, drop, Option, Some, None, Result, Ok, Err, ◌⊎◌, inl, inr, refl, sym, ◌∙◌, ap, subst, arith, All}
use Rattle.std.proofs.lemmas.List.{length-drop}
use Rattle.lw_pcap.specs.declared.header.Endian.{Endian}
use Rattle.lw_pcap.specs.declared.fault.PcapFault.{PcapFault}
use Rattle.lw_pcap.specs.Header.{SpellsHeader, header_of}
use Rattle.lw_pcap.specs.Records.{captured, SpellsRecord, Records, record_fault}
use Rattle.lw_pcap.specs.Capture.{SpellsCapture, CaptureFails}
use Rattle.lw_pcap.proofs.HeaderLaws.{header_spelled, header_read}
use Rattle.lw_pcap.proofs.RecordLaws.{record_length, record_frame, record_behind, record_sound, record_spelled}

-- one more record behind those that are read
pub one_more : (endian : Endian) (octets : List ℕ) (frames : List (List ℕ)) (rest frame behind : List ℕ)
    → Records endian octets frames rest → SpellsRecord endian rest frame behind
    → Records endian octets (frames ++ frame ∷ []) behind
one_more endian octets [] rest frame behind is_rest s =
    (behind, subst (λ (xs : List ℕ). SpellsRecord endian xs frame behind) (sym is_rest) s, refl)
one_more endian octets (f ∷ fs) rest frame behind r s =
    (r.0, r.1, one_more endian r.0 fs rest frame behind r.2 s)

-- each record takes 16 octets at least
pub records_length : (endian : Endian) (octets : List ℕ) (frames : List (List ℕ)) (rest : List ℕ)
    → Records endian octets frames rest → 16 * length frames + length rest ≤ length octets
records_length endian octets [] rest is_rest = omega (arith, ap length is_rest)
records_length endian octets (f ∷ fs) rest r =
    let first = record_length endian octets f r.0 r.1 in
    let others = records_length endian r.0 fs rest r.2 in
    omega arith

-- each frame has at most 65,535 octets
pub records_short : (endian : Endian) (octets : List ℕ) (frames : List (List ℕ)) (rest : List ℕ)
    → Records endian octets frames rest → All (λ frame. length frame ≤ 65535) frames
records_short endian octets [] rest is_rest k d below = absurd (omega arith)
records_short endian octets (f ∷ fs) rest r zero d below = r.1.few
records_short endian octets (f ∷ fs) rest r (suc k) d below = records_short endian r.0 fs rest r.2 k d (omega arith)

-- no record begins here
abbrev NoRecord : Endian → List ℕ → Type 0
NoRecord endian octets = (frame behind : List ℕ) → SpellsRecord endian octets frame behind → ⊥

-- two readings of the same records that both end where no record begins are one
same_records : (endian : Endian) (octets : List ℕ) (xs ys : List (List ℕ)) (rest rest' : List ℕ)
    → Records endian octets xs rest → Records endian octets ys rest' → NoRecord endian rest → NoRecord endian rest'
    → (xs ≡ ys) × (rest ≡ rest')
same_records endian octets [] [] rest rest' r r' ends ends' = (refl, sym r ∙ r')
same_records endian octets [] (y ∷ ys) rest rest' r r' ends ends' =
    absurd (ends y r'.0 (subst (λ (xs : List ℕ). SpellsRecord endian xs y r'.0) r r'.1))
same_records endian octets (x ∷ xs) [] rest rest' r r' ends ends' =
    absurd (ends' x r.0 (subst (λ (xs : List ℕ). SpellsRecord endian xs x r.0) r' r.1))
same_records endian octets (x ∷ xs) (y ∷ ys) rest rest' r r' ends ends' =
    let frames : x ≡ y = record_frame endian octets x r.0 r.1 ∙ sym (record_frame endian octets y r'.0 r'.1) in
    let behinds : r'.0 ≡ r.0 = record_behind endian octets y r'.0 r'.1 ∙ sym (record_behind endian octets x r.0 r.1) in
    let second = subst (λ (behind : List ℕ). Records endian behind ys rest') behinds r'.2 in
    let others = same_records endian r.0 xs ys rest rest' r.2 second ends ends' in
    (rw (frames, others.0) refl, others.1)

-- no record begins where nothing is left
nothing_left : (endian : Endian) → NoRecord endian []
nothing_left endian frame behind s =
    let whole = record_length endian [] frame behind s in
    omega arith

-- no record begins where one has a fault
faulty : (endian : Endian) (place : ℕ) (octets : List ℕ) (fault : PcapFault) → record_fault endian place octets ≡ Some fault
    → NoRecord endian octets
faulty endian place octets fault e frame behind s =
    let none = record_sound endian place octets frame behind s in
    cc

-- two byte orders that one header shows are the same
same_endian : (octets : List ℕ) (e e' : Endian) → SpellsHeader e octets → SpellsHeader e' octets → e ≡ e'
same_endian octets e e' s s' =
    let a = s.magic in
    let b = s'.magic in
    cc

-- octets spell at most one list of frames
pub capture_once : (octets : List ℕ) (xs ys : List (List ℕ)) → SpellsCapture octets xs → SpellsCapture octets ys → xs ≡ ys
capture_once octets xs ys s s' =
    let same = same_endian octets s'.endian s.endian s'.header s.header in
    let second = subst (λ (e : Endian). Records e (drop 24 octets) ys []) same s'.records in
    (same_records s.endian (drop 24 octets) xs ys [] [] s.records second (nothing_left s.endian) (nothing_left s.endian)).0

-- no octets spell a capture and fail
pub capture_sound : (octets : List ℕ) (frames : List (List ℕ)) (fault : PcapFault) → SpellsCapture octets frames
    → CaptureFails octets fault → ⊥
capture_sound octets frames fault s (inl e) =
    let read = header_read octets s.endian s.header in
    cc
capture_sound octets frames fault s (inr f) =
    let same = same_endian octets f.endian s.endian f.header s.header in
    let second = subst (λ (e : Endian). Records e (drop 24 octets) f.before f.rest) same f.records in
    let fails = subst (λ (e : Endian). record_fault e (length octets - length f.rest) f.rest ≡ Some fault) same f.fails in
    let ends = same_records s.endian (drop 24 octets) frames f.before [] f.rest s.records second (nothing_left s.endian)
    (faulty s.endian _ f.rest fault fails) in
    let left = f.left in
    let none : 0 ≡ length f.rest = ap length ends.1 in
    omega arith

-- octets fail with at most one fault
pub fault_once : (octets : List ℕ) (a b : PcapFault) → CaptureFails octets a → CaptureFails octets b → a ≡ b
fault_once octets a b (inl e) (inl e') = cc
fault_once octets a b (inl e) (inr f) = let read = header_read octets f.endian f.header in cc
fault_once octets a b (inr f) (inl e) = let read = header_read octets f.endian f.header in cc
fault_once octets a b (inr f) (inr f') =
    let same = same_endian octets f'.endian f.endian f'.header f.header in
    let second = subst (λ (e : Endian). Records e (drop 24 octets) f'.before f'.rest) same f'.records in
    let fails = subst (λ (e : Endian). record_fault e (length octets - length f'.rest) f'.rest ≡ Some b) same f'.fails in
    let ends = same_records f.endian (drop 24 octets) f.before f'.before f.rest f'.rest f.records second
    (faulty f.endian _ f.rest a f.fails) (faulty f.endian _ f'.rest b fails) in
    let here = subst (λ (rest : List ℕ). record_fault f.endian (length octets - length rest) rest ≡ Some a) ends.1 f.fails in
    cc

-- where records are read to: nothing is left, or the next one has a fault
abbrev Ends : Endian → ℕ → List ℕ → Type 0
Ends endian total rest =
    (rest ≡ []) ⊎ ((fault : PcapFault) × (0 < length rest) × (record_fault endian (total - length rest) rest ≡ Some fault))

-- the records that these octets begin with, up to such an end
abbrev Read : Endian → ℕ → List ℕ → Type 0
Read endian total octets =
    (frames : List (List ℕ)) × (rest : List ℕ) × Records endian octets frames rest × Ends endian total rest

-- they are read where all shorter octets are
read_next : (n : ℕ) (endian : Endian) (total : ℕ) (octets : List ℕ) → length octets ≤ suc n → 0 < length octets
    → ((behind : List ℕ) → length behind ≤ n → Read endian total behind)
    → (fault : Option PcapFault) → record_fault endian (total - length octets) octets ≡ fault → Read endian total octets
read_next n endian total octets few some shorter (Some fault) e = ([], octets, refl, inr (fault, some, e))
read_next n endian total octets few some shorter None e =
    let s = record_spelled endian (total - length octets) octets e in
    let frame : List ℕ = take (captured endian octets) (drop 16 octets) in
    let behind : List ℕ = drop (captured endian octets) (drop 16 octets) in
    let whole = record_length endian octets frame behind s in
    let r = shorter behind (omega arith) in
    (frame ∷ r.0, r.1, (behind, s, r.2), r.3)

-- and so all are
read_all : (n : ℕ) (endian : Endian) (total : ℕ) (octets : List ℕ) → length octets ≤ n → Read endian total octets
read_all n endian total [] few = ([], [], refl, inl refl)
read_all zero endian total (x ∷ xs) few = absurd (omega arith)
read_all (suc n) endian total (x ∷ xs) few =
    read_next n endian total (x ∷ xs) few (omega arith) (λ behind. read_all n endian total behind)
    (record_fault endian (total - length (x ∷ xs)) (x ∷ xs)) refl

-- octets whose header is spelled spell a capture, or fail
with_header : (octets : List ℕ) (endian : Endian) → SpellsHeader endian octets → Read endian (length octets) (drop 24 octets)
    → ((frames : List (List ℕ)) × SpellsCapture octets frames) ⊎ ((fault : PcapFault) × CaptureFails octets fault)
with_header octets endian s (frames, rest, r, inl none) =
    inl (
      frames,
      record {
        endian = endian;
        header = s;
        records = subst (λ (xs : List ℕ). Records endian (drop 24 octets) frames xs) none r;
      },
    )
with_header octets endian s (frames, rest, r, inr f) =
    inr (
      f.0,
      inr (record {
        endian = endian;
        header = s;
        before = frames;
        rest = rest;
        records = r;
        left = f.1;
        fails = f.2;
      }),
    )

-- octets spell a capture, or fail
pub capture_or_fault : (octets : List ℕ)
    → ((frames : List (List ℕ)) × SpellsCapture octets frames) ⊎ ((fault : PcapFault) × CaptureFails octets fault)
capture_or_fault octets = from octets (header_of octets) refl
  where
    from : (octets : List ℕ) (header : Result Endian PcapFault) → header_of octets ≡ header
        → ((frames : List (List ℕ)) × SpellsCapture octets frames) ⊎ ((fault : PcapFault) × CaptureFails octets fault)
    from octets (Ok endian) e =
        with_header octets endian (header_spelled octets endian e) (read_all (length (drop 24 octets)) endian (length octets) (drop 24 octets) (omega arith))
    from octets (Err fault) e = inr (fault, inl e)

-- 24 octets of header, and 16 and more for each frame
pub capture_few : (octets : List ℕ) (frames : List (List ℕ)) → SpellsCapture octets frames → 24 + 16 * length frames ≤ length octets
capture_few octets frames s =
    let whole = s.header.whole in
    let others = records_length s.endian (drop 24 octets) frames [] s.records in
    omega (arith, length-drop 24 octets)

-- each frame has at most 65,535 octets
pub capture_short : (octets : List ℕ) (frames : List (List ℕ)) → SpellsCapture octets frames → All (λ frame. length frame ≤ 65535) frames
capture_short octets frames s = records_short s.endian (drop 24 octets) frames [] s.records
