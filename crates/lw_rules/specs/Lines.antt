-- The lines of a transcript that the entries of a history are written as.
use Rattle.std.specs.Prelude.{ℕ, ◌+◌, List, [], ◌∷◌, sum_by, length}
use Rattle.lw_events.specs.declared.entry.Entry.{Entry}
use Rattle.lw_transcript.specs.declared.lines.CoreLine.{CoreLine}

-- the entries of a history as they are written, numbered from n
abbrev pub core_lines_from : ℕ → List Entry → List CoreLine
core_lines_from n [] = []
core_lines_from n (e ∷ es) = record { number = n; entry = e } ∷ core_lines_from (n + 1) es

-- how many frames the entries sent
abbrev pub frames_sent : List Entry → ℕ
frames_sent es = sum_by (λ e. length e.frames) es
