-- A stack sends short frames.
use Rattle.std.proofs.Common.{ℕ, ◌≤◌, false, List, [], length, All}
use Rattle.std.proofs.lemmas.List.Elements.{All-nil, All-take}
use Rattle.lw_base.specs.declared.addresses.Net.{Net}
use Rattle.lw_base.specs.declared.limits.Limits.{Limits}
use Rattle.lw_events.specs.declared.event.Event.{Event}
use Rattle.lw_netif.specs.Frames.{frames_left}
use Rattle.lw_wire.specs.Eth.{eth_of}
use Rattle.lw_link.specs.Sound.{IsShort, IsSound, IsSoundWay}
use Rattle.lw_input.specs.Arrivals.{arrival_of}
use Rattle.lw_input.specs.Input.{begun, moved}
use Rattle.lw_input.specs.State.{State, opening}
use Rattle.lw_layers.specs.Step.{Served, Fed, Ticked, Sends, Answered, Ended, Unserved, served, served_step, step}
use Rattle.lw_layers.specs.Ticks.{tick_moved}
use Rattle.lw_layers.specs.History.{granted}
use Rattle.lw_layers.proofs.SoundLaws.{ended_sound, frame_brings_six, granted_sound, moved_sound}
use Rattle.lw_layers.proofs.SendLaws.{send_short, send_sound}
use Rattle.lw_layers.proofs.TickLaws.{tick_sound}

-- a state in which the way out is sound
abbrev pub IsSoundState : State → Type 0
IsSoundState s = IsSoundWay (begun s)

pub opening_sound : (net : Net) (limits : Limits) → length net.mac.0 ≤ 6 → IsSoundState (opening net limits)
opening_sound net limits own = record { own = own; others = All-nil IsSound; frames = All-nil IsShort }

served_sound : (s : State) (x : Served) → IsSoundState s → IsSoundState (served_step s x granted).state
served_sound s (Fed octets) sound = granted_sound s octets false [] sound
served_sound s Ticked sound = ended_sound (tick_moved s).way (tick_sound s sound)
served_sound s (Sends conn ip port given) sound = send_sound s conn ip port given false sound
served_sound s (Answered a) sound = sound
served_sound s Ended sound = sound
served_sound s Unserved sound = sound

pub step_sound : (s : State) (event : Event (List ℕ)) → IsSoundState s → IsSoundState (step s event granted).state
step_sound s event sound = served_sound s (served s event) sound

served_short : (s : State) (x : Served) → IsSoundState s → All IsShort (served_step s x granted).frames
served_short s (Fed octets) sound =
    let a = arrival_of s.link.net octets in
    let m = moved s octets a in
    All-take IsShort (frames_left s.sent) m.way.out (moved_sound s octets a (frame_brings_six s.link.net octets (eth_of octets)) sound).frames
served_short s Ticked sound = All-take IsShort (frames_left s.sent) (tick_moved s).way.out (tick_sound s sound).frames
served_short s (Sends conn ip port given) sound = send_short s conn ip port given false sound
served_short s (Answered a) sound = All-nil IsShort
served_short s Ended sound = All-nil IsShort
served_short s Unserved sound = All-nil IsShort

pub step_short : (s : State) (event : Event (List ℕ)) → IsSoundState s → All IsShort (step s event granted).frames
step_short s event sound = served_short s (served s event) sound
