-- What an event leaves.
use Rattle.std.specs.Prelude.{ℕ, ◌+◌, ◌-◌, ◌^◌, Bool, List, min, take}
use Rattle.lw_netif.specs.Frames.{frames_left}
use Rattle.lw_events.specs.declared.entry.Post.{Post}
use Rattle.lw_events.specs.declared.event.Reply.{Reply}
use Rattle.lw_input.specs.State.{State}

-- what a step leaves: the next state, the answer, whether a pool was short for it, the posts that were tried, and the frames sent
pub record Outcome : Type 0 where
  pub state : State
  pub reply : Reply
  pub short : Bool
  pub posts : List Post
  pub frames : List (List ℕ)

-- a count that stands still at its last value
abbrev pub counted : ℕ → ℕ
counted n = min (n + 1) (2 ^ 32 - 1)

-- the frames that go out: once the count of frames sent stands at its last value, they are lost
abbrev pub going : State → List (List ℕ) → List (List ℕ)
going s frames = take (frames_left s.sent) frames
