-- Calls that are made directly on a core: each is one turn of the serial schedule.
use Rattle.std.specs.Prelude.{ℕ, ◌≡◌, ◌+◌, ◌-◌, ◌++◌, ◌^◌, ◌<◌, Bool, IsTrue, List, [], ◌∷◌, length, map, All}
use Rattle.lw_events.specs.declared.event.Event.TheVariants.{Frame}
use Rattle.lw_payload.specs.declared.kinds.Kind.{Kind}
use Rattle.lw_payload.specs.Views.{View, HomeView, IsTooLong}
use Rattle.lw_payload.specs.Totals.{IsOwned, total}
use Rattle.lw_script.specs.declared.parts.Call.{Call}
use Rattle.lw_transcript.specs.declared.lines.Evidence.{Evidence}
use Rattle.call_types.specs.declared.outcome.Outcome.{Outcome}
use Rattle.call_types.specs.declared.outcome.Outcome.TheVariants.{Fed}
use Rattle.lw_actors.specs.declared.api.Step.{Step}
use Rattle.lw_actors.specs.declared.api.Step.TheVariants.{Did}
use Rattle.lw_rules.specs.Schedule.{Configuration, Turn, made, named_from, turn}

-- octets so few that a payload may have them
abbrev pub IsBody : List ℕ → Type 0
IsBody octets = length octets < 2 ^ 32

-- Homes that make each payload that they are asked for: they make every kind, none is too long for them or is refused as Empty,
-- and their counts of POOL never end
pub record NeverRefuses {H : Type 0} (home_seen : H → HomeView) (may_refuse : H → H → Kind → ℕ → Type 0) : Type 0 where
  pub makes : (home : H) (kind : Kind) → IsTrue ((home_seen home).pools.makes kind)
  pub fits : (home : H) (kind : Kind) (n : ℕ) → ¬ IsTooLong (home_seen home) kind n
  pub full : (home after : H) (kind : Kind) (n : ℕ) → ¬ may_refuse home after kind n
  pub counts : (home : H) → (home_seen home).counts.made + (home_seen home).counts.refused < 2 ^ 64 - 1

-- what a core holds may be given to its Home, which makes each payload; and the frames that are left are short enough
pub record IsAtHome {P H : Type 0} (seen : P → View) (home_seen : H → HomeView) (may_refuse : H → H → Kind → ℕ → Type 0) (home : H)
    (held : List P) (left : List (List ℕ)) : Type 0 where
  pub never : NeverRefuses home_seen may_refuse
  pub owned : IsOwned (home_seen home) (total seen (home_seen home).pools.family held)
  pub frames : All IsBody left

-- a call that gave what a turn of the schedule gives
pub record IsTurn (t : Turn) (added : List Evidence) (done : Step) (after : Configuration) : Type 0 where
  pub config : after ≡ t.config
  pub seen : added ≡ t.seen
  pub result : done ≡ Did t.result

-- each call is one turn of the schedule
abbrev pub plain_gives : Configuration → ℕ → Call → Bool → List Evidence → Step → Configuration → Type 0
plain_gives before actor call begun added done after = IsTurn (turn before actor call) added done after

-- the first of the frames that are left is taken
pub record TakesFrame (before after : Configuration) (frame : List ℕ) : Type 0 where
  pub first : before.left ≡ frame ∷ after.left
  pub rest : after ≡ record before { left = after.left }

-- all frames that were left were fed
pub record FedAll (actor : ℕ) (before after : Configuration) (seen_before seen_after : List Evidence) (outcome : Outcome) : Type 0 where
  pub config : after ≡ record (made before actor (map Frame before.left)) { left = [] }
  pub seen : seen_after ≡ seen_before ++ named_from (length before.entries) before.left
  pub count : outcome ≡ Fed (length before.left)
