use Rattle.std.proofs.Common.{◌≡◌, ◌∙◌, ◌⊎◌, ℕ, List, subst, sym}
use Rattle.lw_pcap.specs.declared.fault.PcapFault.TheVariants.{NoMemory}
use Rattle.lw_pcap.specs.Capture.{CaptureFails}
use Rattle.lwip_run.specs.declared.refusal.Refusal.{Refusal}
use Rattle.lwip_run.specs.Serial.{CaptureRefused}
use Rattle.lwip_run.proofs.SerialFiles.{capture_fault}
use Rattle.lwip_run.proofs.files_in.capture_in.Goals as goal

pub returns : goal.returns
returns g c =
    let seen = g.F.Files.seen in
    let one = c.in_ok-octets.ensures in
    let fault = c.in-Err.fault in
    let same : c.deref.result.now ≡ one.0.gave = c.deref.ensures.value ∙ one.3.1 in
    let fails = subst (λ (octets : List ℕ). (fault ≡ NoMemory) ⊎ CaptureFails octets fault) same c.in-Err.ensures.fails in
    let refused = capture_fault (seen c.args.files.now) (seen c.file_in.new.files) one.0 fault one.3.0 fails in
    (one.0, one.1, one.2, subst (λ (r : Refusal). CaptureRefused (seen c.args.files.now) (seen c.file_in.new.files) r one.0) (sym c.refusal.ensures) refused)
