-- What a tick does: a quarter of a second goes by (RFC 791, section 3.2; RFC 1122, section 2.3.2.1).
use Rattle.std.specs.Prelude.{◌≡◌, ℕ, zero, suc, ◌+◌, ◌<◌, ◌++◌, false, List, [], ◌∷◌, None, All, filter, map, nat_lt}
use Rattle.lw_base.specs.declared.addresses.Ip.{Ip}
use Rattle.lw_events.specs.declared.event.Reply.TheVariants.{Ticks}
use Rattle.lw_arp.specs.Neighbours.{aged as neighbours_aged, asked_again}
use Rattle.lw_link.specs.Way.{Way, asks, knows}
use Rattle.lw_reass.specs.Datagrams.{Datagram, aged as fragments_aged}
use Rattle.lw_input.specs.Input.{Moved, begun}
use Rattle.lw_layers.specs.Outcomes.{Outcome, counted, going}
use Rattle.lw_input.specs.State.{State, Words}

-- addresses are asked for, one after another
abbrev pub asks_all : Way → List Ip → Way
asks_all w [] = w
asks_all w (ip ∷ ips) = asks_all (asks w ip) ips

-- what a tick changes: what is kept of datagrams and what is known of neighbours is one tick older, what is over is given up, and
-- the addresses that wait for an answer are asked for again
abbrev pub tick_moved : State → Moved
tick_moved s = record {
  way = asks_all (knows (begun s) (neighbours_aged s.link.neighbours)) (asked_again s.link.neighbours);
  fragments = fragments_aged s.fragments;
  delivery = None;
}

-- one tick more went by
abbrev pub with_tick : Words → Words
with_tick w = record w { ticks = counted w.ticks }

-- the step of a tick: it is counted, which answers it, and what goes out is sent
abbrev pub tick_step : State → Outcome
tick_step s =
    let m = tick_moved s in
    let frames = going s m.way.out in
    let words = with_tick s.words in
    record {
      state = record s { link = m.way.link; fragments = m.fragments; sent = s.sent ++ frames; words = words };
      reply = Ticks words.ticks;
      short = false;
      posts = [];
      frames = frames;
    }

-- Ticks alone

-- the state after n ticks
abbrev pub after_ticks : ℕ → State → State
after_ticks zero s = s
after_ticks (suc n) s = after_ticks n (tick_step s).state

-- a datagram that is n ticks older
abbrev pub older_by : ℕ → Datagram → Datagram
older_by n d = record d { age = d.age + n }

-- after n ticks each datagram of which fragments came is n ticks older, and just those are there that are younger than 60 ticks
-- then: a datagram is given up at its 60th tick and not before (RFC 791, section 3.2, whose timer is 15 seconds)
abbrev pub FragmentsLaw : Type 0
FragmentsLaw = (s : State) (n : ℕ) → All (λ d. d.age < 60) s.fragments
    → (after_ticks n s).fragments ≡ filter (λ d. nat_lt d.age 60) (map (older_by n) s.fragments)
