-- The payloads that a stack holds.
use Rattle.std.specs.Prelude.{◌≡◌, ℕ, ◌<◌, false, List, [], ◌++◌, All, flat_map, length, map}
use Rattle.std.specs.List.{AllZip}
use Rattle.lw_payload.specs.Views.{View}
use Rattle.lw_runs.specs.Kept.{AreSameButRoom, Stand}
use Rattle.lw_arp.specs.Neighbours.{packets}
use Rattle.lw_events.specs.declared.event.Event.{Event}
use Rattle.lw_events.specs.declared.event.Reply.{Reply}
use Rattle.lw_events.specs.declared.entry.Entry.{Entry}
use Rattle.lw_layers.specs.History.{IsStep}
use Rattle.lw_input.specs.State.{State}

-- what contracts see of a stack: its state, and the payloads that it holds: the packets that wait, and those that are kept of
-- each datagram
pub record CoreSeen (P : Type 0) : Type 0 where
  pub state : State
  pub waiting : List P
  pub kept : List (List P)

-- all payloads that a stack holds
abbrev pub held_by : {P : Type 0} → CoreSeen P → List P
held_by c = c.waiting ++ flat_map (λ ps. ps) c.kept

-- the payloads are those of the state: the packets that wait have the octets that wait in it, the fragments that are kept stand
-- in its datagrams, and none is empty
pub record IsTied {P : Type 0} (seen : P → View) (c : CoreSeen P) : Type 0 where
  pub waiting : packets c.state.link.neighbours ≡ map (λ p. (seen p).octets) c.waiting
  pub some : All (λ p. 0 < length (seen p).octets) c.waiting
  pub kept : AllZip (λ d ps. Stand seen d.octets ps) c.state.fragments c.kept

-- a stack in the same state, whose payloads have only other room
pub record IsSameCore {P : Type 0} (seen : P → View) (before after : CoreSeen P) : Type 0 where
  pub state : after.state ≡ before.state
  pub waiting : after.waiting ≡ before.waiting
  pub kept : AreSameButRoom seen (flat_map (λ ps. ps) before.kept) (flat_map (λ ps. ps) after.kept)

-- an event was made that brings no payload: no pool was short for it, it posted nothing, and the stack holds what it held
pub record IsQuietStep {P : Type 0} (before : CoreSeen P) (actor : ℕ) (event : Event (List ℕ)) (entry : Entry) (reply : Reply)
    (after : CoreSeen P) : Type 0 where
  pub step : IsStep before.state actor event entry reply after.state
  pub short : entry.short ≡ false
  pub posts : entry.posts ≡ []
  pub waiting : after.waiting ≡ before.waiting
  pub kept : after.kept ≡ before.kept
