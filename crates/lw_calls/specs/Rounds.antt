-- The rounds of a wire between two stacks, as each side has them: side a sends and is then fed, side b is fed and sends.
use Rattle.std.specs.Prelude.{ℕ, ◌+◌, ◌%◌, ◌==◌, nat_le, Bool, true, false, [], ◌∷◌, None, if◌then◌else◌}
use Rattle.lw_events.specs.declared.event.Event.TheVariants.{Tick as TickEvent}
use Rattle.call_types.specs.declared.call.Side.{Side}
use Rattle.call_types.specs.declared.call.Side.TheVariants.{A, B}
use Rattle.lw_events.specs.declared.event.Reply.{Reply}
use Rattle.call_types.specs.declared.outcome.Outcome.TheVariants.{Ok as OkOutcome}
use Rattle.call_types.specs.declared.sight.Sight.TheVariants.{Count as CountSight, Dropped as DroppedSight}
use Rattle.call_places.specs.declared.asks.Ask.{Ask}
use Rattle.call_places.specs.declared.asks.Ask.TheVariants.{Core as AskCore, Signal as AskSignal, Feed as AskFeed, Sent as AskSent, Over as AskOver}
use Rattle.call_places.specs.declared.asks.Feeding.{Feeding}
use Rattle.call_places.specs.declared.asks.Feeding.TheVariants.{Fed, Dropped, NoMore}
use Rattle.call_places.specs.declared.asks.Answer.{Answer}
use Rattle.call_places.specs.declared.place.Seen.TheVariants.{Core, Sight}
use Rattle.call_places.specs.declared.place.RoundsEnd.{RoundsEnd}
use Rattle.call_places.specs.declared.place.RoundsEnd.TheVariants.{After, Signal, Other}
use Rattle.call_places.specs.declared.place.Rounds.{Rounds}
use Rattle.call_places.specs.declared.place.RoundStage.{RoundStage}
use Rattle.call_places.specs.declared.place.RoundStage.TheVariants.{Come, Sent, Feed, Tick}
use Rattle.call_places.specs.declared.place.Place.{Place}
use Rattle.call_places.specs.declared.place.Place.TheVariants.{Round, Done}
use Rattle.call_places.specs.declared.place.Step.{Step}
use Rattle.call_places.specs.Steps.{to, ends}
use Rattle.lw_calls.specs.Answers.{on, reply_of, number_of, whether_of, feeding_of}

-- it is this side
abbrev pub is_same : Side → Side → Bool
is_same A A = true
is_same A B = false
is_same B A = false
is_same B B = true

-- a round begins with the frames of side a
abbrev pub first_half : Side → RoundStage
first_half A = Sent
first_half B = Feed

-- a tick follows each of so many rounds, and every fourth of those that a signal ends
abbrev pub has_tick : RoundsEnd → ℕ → Bool
has_tick (After n) made = true
has_tick (Signal signal count) made = made % 4 == 0
has_tick Other made = made % 4 == 0

-- the end of so many rounds, or the next one
abbrev pub counts_on : ℕ → Rounds → Place
counts_on n rounds = if nat_le n rounds.made then Done OkOutcome else Round (first_half rounds.side) rounds

-- the end is looked for: after so many rounds, or by what is asked
abbrev pub comes_by : RoundsEnd → Rounds → Place
comes_by (After n) rounds = counts_on n rounds
comes_by (Signal signal count) rounds = Round Come rounds
comes_by Other rounds = Round Come rounds

-- a round begins: first it is seen whether the rounds are at their end
abbrev pub comes : Rounds → Place
comes rounds = comes_by rounds.end rounds

-- rounds on a side, from the first
abbrev pub rounds_on : Side → RoundsEnd → Place
rounds_on side end = comes (record { side = side; end = end; made = 0 })

-- one round more was made
abbrev pub made_one : Rounds → Rounds
made_one rounds = record { side = rounds.side; end = rounds.end; made = rounds.made + 1 }

-- a tick, or the next round
abbrev pub ticks_or : Bool → Rounds → Place
ticks_or true rounds = Round Tick rounds
ticks_or false rounds = comes rounds

-- a round is over
abbrev pub round_over : Rounds → Place
round_over rounds = ticks_or (has_tick rounds.end (rounds.made + 1)) (made_one rounds)

-- what follows as the own frames went out, and as the other side's came in
abbrev pub past_sent : Side → Rounds → Place
past_sent A rounds = Round Feed rounds
past_sent B rounds = round_over rounds

-- what follows as the other side's frames came in
abbrev pub past_feed : Side → Rounds → Place
past_feed A rounds = round_over rounds
past_feed B rounds = Round Sent rounds

-- what a side asks in a round
abbrev pub come_asks : RoundsEnd → Ask
come_asks (After n) = AskOver
come_asks (Signal signal count) = AskSignal signal
come_asks Other = AskOver

-- what a side asks at each stage of a round
abbrev pub round_asks : RoundStage → RoundsEnd → Ask
round_asks Come end = come_asks end
round_asks Sent end = AskSent
round_asks Feed end = AskFeed None false
round_asks Tick end = AskCore TickEvent

-- the next round, or the end
abbrev pub came_by : Bool → ℕ → ℕ → Rounds → Step
came_by true signal n rounds = ends OkOutcome (Sight (CountSight signal n) ∷ [])
came_by false signal n rounds = to (Round (first_half rounds.side) rounds) []

-- the rounds are at their end, or the next one goes on
abbrev pub after_over : Rounds → Bool → Step
after_over rounds true = ends OkOutcome []
after_over rounds false = to (Round (first_half rounds.side) rounds) []

-- what a round's first look leads to
abbrev pub after_come : RoundsEnd → Rounds → Answer → Step
after_come (After n) rounds x = on (after_over rounds) (whether_of x)
after_come (Signal signal count) rounds x = on (λ n. came_by (nat_le count n) signal n rounds) (number_of x)
after_come Other rounds x = on (after_over rounds) (whether_of x)

-- a line for each frame that came in
abbrev pub round_fed : Rounds → Feeding → Step
round_fed rounds Fed = to (Round Feed rounds) (Core ∷ [])
round_fed rounds (Dropped k cause) = to (Round Feed rounds) (Sight (DroppedSight k cause) ∷ [])
round_fed rounds NoMore = to (past_feed rounds.side rounds) []

-- a core line whose reply changes nothing
abbrev pub makes_core : Place → Reply → Step
makes_core place reply = to place (Core ∷ [])

-- where an answer leads a side
abbrev pub after_round : RoundStage → Rounds → Answer → Step
after_round Come rounds x = after_come rounds.end rounds x
after_round Sent rounds x = on (makes_core (past_sent rounds.side rounds)) (reply_of x)
after_round Feed rounds x = on (round_fed rounds) (feeding_of x)
after_round Tick rounds x = on (makes_core (comes rounds)) (reply_of x)
