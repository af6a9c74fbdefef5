use Rattle.std.proofs.Common.{refl}
use Rattle.lw_pcap.proofs.CaptureLaws.{capture_short}
use Rattle.lw_transcript.specs.Transcript.{transcript_spelling}
use Rattle.lw_rules.specs.Schedule.{serial_transcript}
use Rattle.lwip_run.specs.Comes.{SerialComes, outside}
use Rattle.lwip_run.proofs.SerialFiles.{ending_on, refused_comes, text_of_both, wrote_part}
use Rattle.lwip_run.proofs.plain.serial_form.Goals as goal

pub returns-in_err-says : goal.returns-in_err-says
returns-in_err-says g c =
    let before = outside (g.F.Files.seen c.args.files.now) (g.K.Sink.seen c.args.out.now) in
    let now = outside (g.F.Files.seen c.serial_files.new.files) (g.K.Sink.seen c.args.out.now) in
    let comes = refused_comes c.args.script.now c.args.capture.now before now c.in_err-says.field-0.0 c.in_err-says.ensures refl in
    ending_on c.from_residual.result c.in_err-says.field-0.0 (SerialComes c.args.script.now c.args.capture.now before now) c.from_residual.ensures.1 comes

pub write_serial-requires-clause-short : goal.write_serial-requires-clause-short
write_serial-requires-clause-short g c =
    let both = c.in_ok-says.ensures in
    capture_short both.capture.gave c.in_ok-says.frames both.came.1

pub returns-in-Ok : goal.returns-in-Ok
returns-in-Ok g c =
    let seen = g.F.Files.seen in
    let says = c.in_ok-says.says in
    let frames = c.in_ok-says.frames in (
      transcript_spelling (serial_transcript says frames),
      text_of_both c.args.script.now c.args.capture.now (seen c.args.files.now) (seen c.serial_files.new.files) says frames c.in_ok-says.ensures,
      c.in-Ok.ensures.ok,
    )

pub returns : goal.returns
returns g c =
    let seen = g.F.Files.seen in
    let says = c.in_ok-says.says in
    let frames = c.in_ok-says.frames in
    wrote_part c.args.script.now c.args.capture.now (outside (seen c.args.files.now) (g.K.Sink.seen c.args.out.now))
    (outside (seen c.serial_files.new.files) (g.K.Sink.seen c.write_serial.new.out)) (transcript_spelling (serial_transcript says frames))
    c.in-Err-Failed.field-0 c.in-Err-Failed.field-0-is
    (text_of_both c.args.script.now c.args.capture.now (seen c.args.files.now) (seen c.serial_files.new.files) says frames c.in_ok-says.ensures)
    c.in-Err-Failed.ensures.err
