use Rattle.lwip_run.specs.Serial.{IsCapture, SeesBoth, SerialRefused}
use Rattle.lwip_run.proofs.SerialFiles.{both, capture_refused, passed_on}
use Rattle.lwip_run.proofs.plain.serial_files.Goals as goal

pub returns : goal.returns
returns g c =
    let seen = g.F.Files.seen in
    both c.args.script.now c.args.capture.now (seen c.args.files.now) (seen c.script_in.new.files) (seen c.capture_in.new.files)
    c.in_ok-says.says (IsCapture c.in_ok-frames.frames) c.in_ok-says.ensures c.in_ok-frames.ensures

pub returns-in_err-frames : goal.returns-in_err-frames
returns-in_err-frames g c =
    let seen = g.F.Files.seen in
    let refused =
    capture_refused c.args.script.now c.args.capture.now (seen c.args.files.now) (seen c.script_in.new.files) (seen c.capture_in.new.files) c.in_ok-says.says c.in_err-frames.field-0.0
    c.in_ok-says.ensures c.in_err-frames.ensures in
    passed_on c.from_residual-in_err-frames.result c.in_err-frames.field-0.0
    (λ r. SeesBoth c.args.script.now c.args.capture.now (seen c.args.files.now) (seen c.capture_in.new.files) r.0 (IsCapture r.1))
    (SerialRefused c.args.script.now c.args.capture.now (seen c.args.files.now) (seen c.capture_in.new.files)) c.from_residual-in_err-frames.ensures.1 refused
