use Rattle.std.proofs.Common.{◌≡◌, ◌<◌, ◌⊎◌, ◌++◌, ◌∷◌, [], ℕ, List, length, drop, false, ◌==◌, Result, Ok, Err, IfErr, arith, inr, refl, sym, subst}
use Rattle.std.proofs.lemmas.Bool.{eqb-true}
use Rattle.std.specs.Result.{IsErrAnd}
use Rattle.lw_pcap.specs.declared.fault.PcapFault.{PcapFault}
use Rattle.lw_pcap.specs.declared.fault.PcapFault.TheVariants.{NoMemory}
use Rattle.lw_pcap.specs.Records.{Records}
use Rattle.lw_pcap.specs.Capture.{CaptureFails}
use Rattle.lw_pcap.proofs.HeaderLaws.{header_spelled}
use Rattle.lw_pcap.proofs.RecordLaws.{record_length}
use Rattle.lw_pcap.proofs.CaptureLaws.{one_more}
use Rattle.lw_pcap.proofs.capture.read_frames.Goals as goal

-- an error that a `?` passes on is the one that it met
passed_on : {X : Type 0} (P : PcapFault → Type 0) (r : Result X PcapFault) (fault : PcapFault) → IsErrAnd r (λ e. e ≡ fault) → P fault
    → IfErr r P
passed_on P (Ok x) fault h p = tt
passed_on P (Err e) fault h p = subst P (sym h) p

-- a list of no length is empty
no_octets : (octets : List ℕ) → length octets ≡ 0 → octets ≡ []
no_octets [] none = refl
no_octets (x ∷ xs) none = absurd (omega arith)

-- a list whose length is tested not to be 0 has some
some_octets : (octets : List ℕ) → (length octets == 0) ≡ false → 0 < length octets
some_octets [] test = cc
some_octets (x ∷ xs) test = omega arith

pub returns-in_err-frame-clause-fails : goal.returns-in_err-frame-clause-fails
returns-in_err-frame-clause-fails c =
    let fails : CaptureFails c.args.bytes.now c.in_err-frame.field-0.0 = inr (record {
      endian = c.in_ok-endian.endian;
      header = header_spelled c.args.bytes.now c.in_ok-endian.endian (sym c.in_ok-endian.ensures.exact);
      before = c.loop-rest.frames.items;
      rest = c.loop-rest.rest.now;
      records = c.loop-rest.invariant.read;
      left = some_octets c.loop-rest.rest.now (sym c.loop-rest-test.ensures);
      fails = c.in_err-frame.ensures;
    }) in
    passed_on (λ fault. (fault ≡ NoMemory) ⊎ CaptureFails c.args.bytes.now fault) c.from_residual-in_err-frame.result
    c.in_err-frame.field-0.0 c.from_residual-in_err-frame.ensures.1 (inr fails)

pub loop-rest-preserved : goal.loop-rest-preserved
loop-rest-preserved c =
    let whole = record_length c.in_ok-endian.endian c.loop-rest.rest.now c.in_ok-frame.frame.now c.in_ok-frame.behind.now c.in_ok-frame.ensures in
    let within = c.loop-rest.invariant.within in
    let read = one_more c.in_ok-endian.endian (drop 24 c.args.bytes.now) c.loop-rest.frames.items c.loop-rest.rest.now
    c.in_ok-frame.frame.now c.in_ok-frame.behind.now c.loop-rest.invariant.read c.in_ok-frame.ensures in
    let more : c.push_copy.new.frames.items ≡ c.loop-rest.frames.items ++ c.in_ok-frame.frame.now ∷ [] = c.in_ok-push_copy.ensures.ok in
    record {
      read = subst (λ (frames : List (List ℕ)). Records c.in_ok-endian.endian (drop 24 c.args.bytes.now) frames c.in_ok-frame.behind.now) (sym more) read;
      within = omega arith;
    }

pub returns-clause-found : goal.returns-clause-found
returns-clause-found c =
    let none : c.loop-rest.rest.now ≡ [] = no_octets c.loop-rest.rest.now (eqb-true _ _ (sym c.loop-rest-test.ensures)) in
    record {
      endian = c.in_ok-endian.endian;
      header = header_spelled c.args.bytes.now c.in_ok-endian.endian (sym c.in_ok-endian.ensures.exact);
      records = rw (c.from_vec.ensures, ← none) c.loop-rest.invariant.read;
    }
