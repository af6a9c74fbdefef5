-- What was seen of a sink: the octets that it took.
use Rattle.std.specs.Prelude.{◌≡◌, ◌++◌, ◌<◌, ◌≤◌, ℕ, length, take, List, Result, IfOk, MatchResult}
use Rattle.lw_outside.specs.declared.files.Failed.{Failed}
use Rattle.lw_outside.specs.Faults.{HasCause}

-- what was seen of a sink
pub record SinkSeen : Type 0 where
  -- the octets that it took, in order
  pub took : List ℕ
  -- how many calls failed; the count stops at its last value
  pub faults : ℕ

-- these octets were taken
abbrev pub Adds : SinkSeen → SinkSeen → List ℕ → Type 0
Adds before now octets = now.took ≡ before.took ++ octets

-- some front of the octets was taken
pub record AddsFront (before now : SinkSeen) (octets : List ℕ) : Type 0 where
  pub front : List ℕ
  pub behind : List ℕ
  pub split : octets ≡ front ++ behind
  pub adds : Adds before now front

-- what `write` does: as much of the front of its piece as it answers was taken, and nothing where it fails
pub record Writes (before now : SinkSeen) (piece : List ℕ) (result : Result ℕ Failed) : Type 0 where
  pub bound : IfOk result (λ n. n ≤ length piece)
  pub progress : IfOk result (λ n. 0 < length piece → 0 < n)
  pub took : MatchResult result (λ n. Adds before now (take n piece)) (λ _. now.took ≡ before.took)
  pub cause : HasCause before.faults now.faults result
