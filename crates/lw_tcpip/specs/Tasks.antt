-- Tasks: the messages of a line, and what they must fit.
use Rattle.std.specs.Prelude.{◌≡◌, ℕ, Bool, true, false, List, filter_map, count_by, Option, Some, None}
use Rattle.std.specs.List.{list_any}
use Rattle.hist_lock.specs.Callers.{Known, Begun, IsCallerOf}
use Rattle.lw_tcpip.specs.declared.message.Task.{Task}
use Rattle.lw_tcpip.specs.declared.message.Task.TheVariants.{Frame, Call, Leave}
use Rattle.lw_tcpip.specs.declared.message.Service.{Service}

module _ {C V : Type 0} where
  -- the frame, if the message is one
  abbrev pub frame_in : Task C V → Option V
  frame_in (Frame v) = Some v
  frame_in (Call line c v) = None
  frame_in (Leave line) = None

  -- whether the message is a question
  abbrev pub is_call : Task C V → Bool
  is_call (Frame v) = false
  is_call (Call line c v) = true
  is_call (Leave line) = false

  -- whether it is the last of its line
  abbrev pub is_leave : Task C V → Bool
  is_leave (Frame v) = false
  is_leave (Call line c v) = false
  is_leave (Leave line) = true

  -- the frames among the messages, in their order
  abbrev pub frames_of : List (Task C V) → List V
  frames_of ms = filter_map frame_in ms

  -- how many questions there are among them
  abbrev pub calls_in : List (Task C V) → ℕ
  calls_in ms = count_by is_call ms

  -- whether the line has left
  abbrev pub has_left : List (Task C V) → Bool
  has_left ms = list_any is_leave ms

-- A frame is of the line 0 and fits the object's tag. So does the event of a question, whose caller is one of the lock that is served.
-- A question and a last message bear the number of their line
abbrev pub Fits : {O E V T : Type 0} → (T → V → Type 0) → (O → T) → Service (Begun O) → ℕ → List (Task (Known O E) V) → Task (Known O E) V → Type 0
Fits fits tag s n earlier (Frame v) = (n ≡ 0) × fits (tag s.lock.value.start) v
Fits fits tag s n earlier (Call line c v) = (line ≡ n) × IsCallerOf s.lock.value c × fits (tag s.lock.value.start) v
Fits fits tag s n earlier (Leave line) = line ≡ n
