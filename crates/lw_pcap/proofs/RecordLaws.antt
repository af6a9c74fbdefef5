-- Octets begin with at most one record, and then that record has no fault.
use Rattle.std.proofs.Common.{◌≡◌, ◌+◌, ◌≤◌, ◌++◌, ℕ, List, length, take, drop, None, sym, ◌∙◌, ap, arith, length-append, append_assoc}
use Rattle.std.proofs.Math.Seq.{drop-append_seam, take-append_seam}
use Rattle.std.proofs.lemmas.List.{take-append-drop, length-take, length-drop}
use Rattle.std.proofs.lemmas.Bool.Decides.{nat_tests}
use Rattle.lw_pcap.specs.declared.header.Endian.{Endian}
use Rattle.lw_pcap.specs.Records.{captured, SpellsRecord, record_fault}

-- how long the octets of a record and of what follows are
pub record_length : (endian : Endian) (octets frame behind : List ℕ) → SpellsRecord endian octets frame behind
    → length octets ≡ 16 + length frame + length behind
record_length endian octets frame behind s =
    let head = s.head_length in
    let whole : length octets ≡ length (s.head ++ frame ++ behind) = ap length s.spelled in
    omega (arith, length-append (s.head ++ frame) behind, length-append s.head frame)

-- a record's frame stands behind its head
pub record_frame : (endian : Endian) (octets frame behind : List ℕ) → SpellsRecord endian octets frame behind
    → frame ≡ take (captured endian octets) (drop 16 octets)
record_frame endian octets frame behind s =
    let body : drop 16 octets ≡ frame ++ behind =
    rw (s.spelled, append_assoc, ← s.head_length) (drop-append_seam s.head (frame ++ behind)) in
    rw (body, ← s.frame_length) (sym (take-append_seam frame behind))

-- what follows a record stands behind its frame
pub record_behind : (endian : Endian) (octets frame behind : List ℕ) → SpellsRecord endian octets frame behind
    → behind ≡ drop (captured endian octets) (drop 16 octets)
record_behind endian octets frame behind s =
    let body : drop 16 octets ≡ frame ++ behind =
    rw (s.spelled, append_assoc, ← s.head_length) (drop-append_seam s.head (frame ++ behind)) in
    rw (body, ← s.frame_length) (sym (drop-append_seam frame behind))

-- a record that is spelled has no fault
pub record_sound : (endian : Endian) (place : ℕ) (octets frame behind : List ℕ) → SpellsRecord endian octets frame behind
    → record_fault endian place octets ≡ None
record_sound endian place octets frame behind s =
    let whole = record_length endian octets frame behind s in
    let same = s.frame_length in
    let few = s.few in
    grind (arith, nat_tests)

-- octets whose first record has no fault begin with one
pub record_spelled : (endian : Endian) (place : ℕ) (octets : List ℕ) → record_fault endian place octets ≡ None
    → SpellsRecord endian octets (take (captured endian octets) (drop 16 octets)) (drop (captured endian octets) (drop 16 octets))
record_spelled endian place octets e =
    let long : 16 ≤ length octets = grind (arith, nat_tests) in
    let few : captured endian octets ≤ 65535 = grind (arith, nat_tests) in
    let whole : 16 + captured endian octets ≤ length octets = grind (arith, nat_tests) in
    record {
      head = take 16 octets;
      spelled = sym (append_assoc (take 16 octets) _ _ ∙ ap (λ (xs : List ℕ). take 16 octets ++ xs) (take-append-drop (captured endian octets) (drop 16 octets)) ∙ take-append-drop 16 octets);
      head_length = omega (arith, length-take 16 octets);
      frame_length = omega (arith, length-take (captured endian octets) (drop 16 octets), length-drop 16 octets);
      few = omega (arith, length-take (captured endian octets) (drop 16 octets));
    }
