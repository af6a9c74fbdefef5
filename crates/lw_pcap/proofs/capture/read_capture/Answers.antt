use Rattle.std.proofs.Common.{◌≡◌, ◌⊎◌, ◌+◌, ◌*◌, ◌≤◌, ℕ, List, length, All, Result, Ok, Err, IfOk, IfErr, inl, inr, ap}
use Rattle.lw_pcap.specs.declared.capture.Capture.{Capture}
use Rattle.lw_pcap.specs.declared.fault.PcapFault.{PcapFault}
use Rattle.lw_pcap.specs.declared.fault.PcapFault.TheVariants.{NoMemory}
use Rattle.lw_pcap.specs.Capture.{SpellsCapture, CaptureFails}
use Rattle.lw_pcap.proofs.CaptureLaws.{capture_once, capture_sound, fault_once, capture_few, capture_short}
use Rattle.lw_pcap.proofs.capture.read_capture.Goals as goal

-- octets that spell a capture give its frames, where memory is left
reads : (octets : List ℕ) (r : Result Capture PcapFault) → IfOk r (λ c. SpellsCapture octets c.frames)
    → IfErr r (λ fault. (fault ≡ NoMemory) ⊎ CaptureFails octets fault) → (frames : List (List ℕ)) → SpellsCapture octets frames
    → (r ≡ Err NoMemory) ⊎ IfOk r (λ c. c.frames ≡ frames)
reads octets (Ok c) found fails frames s = inr (capture_once octets c.frames frames found s)
reads octets (Err fault) found (inl e) frames s = inl (ap Err e)
reads octets (Err fault) found (inr f) frames s = absurd (capture_sound octets frames fault s f)

-- octets that fail give their fault, where memory is left
refuses : (octets : List ℕ) (r : Result Capture PcapFault) → IfOk r (λ c. SpellsCapture octets c.frames)
    → IfErr r (λ fault. (fault ≡ NoMemory) ⊎ CaptureFails octets fault) → (fault : PcapFault) → CaptureFails octets fault
    → (r ≡ Err NoMemory) ⊎ (r ≡ Err fault)
refuses octets (Ok c) found fails fault f = absurd (capture_sound octets c.frames fault found f)
refuses octets (Err e) found (inl none) fault f = inl (ap Err none)
refuses octets (Err e) found (inr f') fault f = inr (ap Err (fault_once octets e fault f' f))

-- what is spelled has so many octets
few : (octets : List ℕ) (r : Result Capture PcapFault) → IfOk r (λ c. SpellsCapture octets c.frames)
    → IfOk r (λ c. 24 + 16 * length c.frames ≤ length octets)
few octets (Ok c) found = capture_few octets c.frames found
few octets (Err e) found = tt

-- and short frames
short : (octets : List ℕ) (r : Result Capture PcapFault) → IfOk r (λ c. SpellsCapture octets c.frames)
    → IfOk r (λ c. All (λ frame. length frame ≤ 65535) c.frames)
short octets (Ok c) found = capture_short octets c.frames found
short octets (Err e) found = tt

pub returns : goal.returns
returns c =
    let octets = c.args.bytes.now in
    let r = c.read_frames.result in
    let e = c.read_frames.ensures in
    record {
      found = e.found;
      only = reads octets r e.found e.fails;
      fails = e.fails;
      refuses = refuses octets r e.found e.fails;
      few = few octets r e.found;
      short = short octets r e.found;
    }
