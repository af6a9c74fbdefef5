use Rattle.std.proofs.Common.{subst, sym}
use Rattle.lw_core.proofs.ShortFrames.{IsSoundState, opening_sound, step_short, step_sound}
use Rattle.lw_transcript.specs.Transcript.{IsTranscript}
use Rattle.lw_rules.proofs.TranscriptLaws.{serial_is_transcript}
use Rattle.lwip_run.proofs.texts.write_serial.Goals as goal

pub write_transcript-requires : goal.write_transcript-requires
write_transcript-requires g c =
    subst IsTranscript (sym c.in-Ok.ensures)
    (serial_is_transcript IsSoundState (record { begins = opening_sound; stays = step_sound; short = step_short })
    c.args.script.now c.args.frames c.requires.commands c.requires.address c.requires.short)
