-- What printing does to a page and to the sink behind it.
use Rattle.std.specs.Prelude.{ℕ, ◌≡◌, ◌≤◌, Bool, true, false, List, ◌++◌}
use Rattle.lw_outside.specs.Faults.{Rose}
use Rattle.lw_outside.specs.Sinks.{SinkSeen, AddsFront}
use Rattle.lw_transcript.specs.declared.page.WriteFault.{WriteFault}
use Rattle.lw_transcript.specs.declared.page.WriteFault.TheVariants.{NoMemory, Failed}

-- what is seen of a page: the octets that the sink has yet to take, and whether a write failed
pub record PageSeen : Type 0 where
  pub pending : List ℕ
  pub failed : Bool

-- a text was printed since the sink was as at the start: it took a front of the text, and all but what is pending, unless a
-- write failed, of which the count of faults tells
pub record IsPrinted (start now : SinkSeen) (page : PageSeen) (text : List ℕ) : Type 0 where
  pub taken : AddsFront start now text
  pub pending : page.failed ≡ false → taken.behind ≡ page.pending
  pub later : start.faults ≤ now.faults
  pub rose : page.failed ≡ true → Rose start.faults now.faults

-- a text is printed: it stands behind whatever was printed before
pub record Prints (before now : SinkSeen) (page after : PageSeen) (text : List ℕ) : Type 0 where
  pub behind : (start : SinkSeen) (printed : List ℕ) → IsPrinted start before page printed → IsPrinted start now after (printed ++ text)

-- what comes of a text that was not written whole: without memory for a page the sink took nothing, and where a write failed
-- it took a front, and its count of faults rose
abbrev pub Breaks : SinkSeen → SinkSeen → List ℕ → WriteFault → Type 0
Breaks before now text NoMemory = now ≡ before
Breaks before now text Failed = AddsFront before now text × Rose before.faults now.faults
