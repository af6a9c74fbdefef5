-- What a call adds to a log.
use Rattle.std.specs.Prelude.{List, ◌∷◌}
use Rattle.lw_outside.specs.declared.file_log.FileStep.{FileStep}
use Rattle.lw_outside.specs.declared.file_log.FileStep.TheVariants.{Found, Gave}
use Rattle.lw_outside.specs.Files.{FileSeen, looked_for, read_more, with_file}

-- the files that were looked for, behind one more call
abbrev pub sought_after : FileStep → List FileSeen → List FileSeen
sought_after (Found name result) fs = looked_for name.now result ∷ fs
sought_after (Gave number buf result) fs = with_file number (read_more result buf.now) fs
