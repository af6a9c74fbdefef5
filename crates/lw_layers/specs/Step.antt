-- The serial step: what an event does to a state, its answer, what it posts and the frames that it sends.
use Rattle.std.specs.Prelude.{ℕ, ◌++◌, Bool, true, false, List, [], Option, Some, None}
use Rattle.lw_events.specs.declared.event.Event.{Event}
use Rattle.lw_events.specs.declared.event.Event.TheVariants.{Frame, Tick, SendTo, Stop}
use Rattle.lw_events.specs.declared.event.Reply.TheVariants.{Done}
use Rattle.lw_events.specs.declared.event.SendData.{SendData}
use Rattle.lw_events.specs.Events.{Grants}
use Rattle.lw_base.specs.declared.addresses.Ip.{Ip}
use Rattle.lw_base.specs.declared.addresses.Port.{Port}
use Rattle.lw_api_msg.specs.Endpoints.{Answer, Table as Endpoints}
use Rattle.lw_input.specs.Arrivals.{arrival_of}
use Rattle.lw_layers.specs.Calls.{call_answer}
use Rattle.lw_input.specs.Input.{Delivery, Moved, moved}
use Rattle.lw_layers.specs.Outcomes.{Outcome, counted, going}
use Rattle.lw_layers.specs.Posts.{posted, posts_of}
use Rattle.lw_layers.specs.Sends.{send_step}
use Rattle.lw_input.specs.State.{State, Words}
use Rattle.lw_layers.specs.Ticks.{tick_step}

-- one frame more came
abbrev pub with_frame : Words → Words
with_frame w = record w { frames = counted w.frames }

-- the connections with their ends and names, after a post is counted
abbrev pub endpoints_after : State → Option Delivery → List Bool → Endpoints
endpoints_after s delivery places = record s.endpoints { conns = posted s.endpoints.conns delivery places }

-- a frame brought this: it is counted, what moved stays so, what goes to a connection is posted where there is a place, and what
-- goes out is sent
abbrev pub after_frame : State → Moved → List Bool → Outcome
after_frame s m places =
    let frames = going s m.way.out in
    record {
      state = record s {
        link = m.way.link;
        fragments = m.fragments;
        sent = s.sent ++ frames;
        endpoints = endpoints_after s m.delivery places;
        words = with_frame s.words;
      };
      reply = Done;
      short = false;
      posts = posts_of s.endpoints.conns m.delivery places;
      frames = frames;
    }

-- the step of a frame, whose posts have these places
abbrev pub frame_step : State → List ℕ → List Bool → Outcome
frame_step s octets places = after_frame s (moved s octets (arrival_of s.link.net octets)) places

-- a frame is dropped whole, since RAM was short: it is counted
abbrev pub dropped : State → Outcome
dropped s = record { state = record s { words = with_frame s.words }; reply = Done; short = true; posts = []; frames = [] }

-- the run ends
abbrev pub stopped : State → Outcome
stopped s = record { state = record s { words = record s.words { stopped = true } }; reply = Done; short = false; posts = []; frames = [] }

-- the step of a frame for which RAM was short, or not
abbrev pub frame_granted : State → List ℕ → Bool → List Bool → Outcome
frame_granted s octets true places = dropped s
frame_granted s octets false places = frame_step s octets places

-- an event of a call is answered: the connections and their names change, and nothing is sent
abbrev pub answered : State → Answer → Outcome
answered s a = record { state = record s { endpoints = a.1 }; reply = a.0; short = false; posts = []; frames = [] }

-- what becomes of an event: a frame is taken in, a tick passes, a datagram is sent, a call is answered, the run ends; or the stack
-- hasn't the event yet
pub data Served : Type 0 where
  Fed : List ℕ → Served
  Ticked : Served
  Sends : ℕ → Ip → Port → SendData → Served
  Answered : Answer → Served
  Ended : Served
  Unserved : Served

-- what becomes of an event that asks for no more than an answer
abbrev pub by_answer : Option Answer → Served
by_answer (Some a) = Answered a
by_answer None = Unserved

abbrev pub served : State → Event (List ℕ) → Served
served s (Frame octets) = Fed octets
served s Tick = Ticked
served s (SendTo conn ip port given) = Sends conn ip port given
served s Stop = Ended
served s other = by_answer (call_answer s other)

-- an event that isn't served changes nothing
abbrev pub unserved : State → Outcome
unserved s = record { state = s; reply = Done; short = false; posts = []; frames = [] }

-- the step of an event, by what becomes of it
abbrev pub served_step : State → Served → Grants → Outcome
served_step s (Fed octets) g = frame_granted s octets g.short g.places
served_step s Ticked g = tick_step s
served_step s (Sends conn ip port given) g = send_step s conn ip port given g.short
served_step s (Answered a) g = answered s a
served_step s Ended g = stopped s
served_step s Unserved g = unserved s

-- the serial step of an event, by what it is granted: a pool may be short for a frame and for a datagram that is sent, and only a
-- frame posts
abbrev pub step : State → Event (List ℕ) → Grants → Outcome
step s event g = served_step s (served s event) g
