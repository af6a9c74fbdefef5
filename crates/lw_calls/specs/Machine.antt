-- The calls as one machine: how a call begins, what it asks, and where an answer leads it.
use Rattle.std.specs.Prelude.{ℕ, ◌+◌, ◌-◌, ◌==◌, Bool, true, false, [], ◌∷◌, Option, Some, None, if◌then◌else◌}
use Rattle.lw_events.specs.declared.event.Event.TheVariants.{Tick as TickEvent, New as NewEvent, Write as WriteEvent, Signal as SignalEvent, Stop as StopEvent}
use Rattle.lw_events.specs.declared.event.FdOption.TheVariants.{NonBlock as NonBlockOption, Timeout as TimeoutOption}
use Rattle.call_types.specs.declared.call.Call.{Call}
use Rattle.call_types.specs.declared.call.Call.TheVariants.{New, Bind, Connect, Listen, Accept, Send, SendTo, Recv, RecvAll, RecvFrom, RecvItem, TryItem, Shutdown, Close, NonBlock, NoDelay, Timeout, GetAddr, Select, Signal, Await, Feed, Burst, Tick, Stop, AwaitSide, Pump, Until}
use Rattle.call_types.specs.declared.call.Side.{Side}
use Rattle.call_places.specs.declared.place.Caller.{Caller}
use Rattle.call_places.specs.declared.place.Caller.TheVariants.{Actor, Driver, Wire}
use Rattle.call_places.specs.declared.place.RoundsEnd.{RoundsEnd}
use Rattle.call_places.specs.declared.place.RoundsEnd.TheVariants.{After, Signal as RoundsSignal, Other}
use Rattle.call_types.specs.declared.call.Interface.{Interface}
use Rattle.call_types.specs.declared.call.Interface.TheVariants.{Socket, Netconn}
use Rattle.call_types.specs.declared.outcome.Outcome.TheVariants.{Ok as OkOutcome, Fed as FedOutcome, Fail}
use Rattle.call_types.specs.declared.sight.Sight.TheVariants.{Dropped as DroppedSight}
use Rattle.lw_base.specs.declared.errors.Err.TheVariants.{Val}
use Rattle.call_places.specs.declared.asks.Ask.{Ask}
use Rattle.call_places.specs.declared.asks.Ask.TheVariants.{Core as AskCore, Var as AskVar, Fd as AskFd, Ticks as AskTicks, Stop as AskStop, Signal as AskSignal, See as AskSee, Take as AskTake, Empty as AskEmpty, Feed as AskFeed, Pause as AskPause, Nothing as AskNothing}
use Rattle.call_places.specs.declared.asks.Portion.{Portion}
use Rattle.call_places.specs.declared.asks.Portion.TheVariants.{Accepted as AcceptedPortion, Item as ItemPortion, Octets as OctetsPortion}
use Rattle.call_places.specs.declared.asks.Feeding.{Feeding}
use Rattle.call_places.specs.declared.asks.Feeding.TheVariants.{Fed, Dropped, NoMore}
use Rattle.call_places.specs.declared.asks.Answer.{Answer}
use Rattle.call_places.specs.declared.place.Seen.TheVariants.{Core, Sight}
use Rattle.call_places.specs.declared.place.ReadKind.{ReadKind}
use Rattle.call_places.specs.declared.place.ReadKind.TheVariants.{Once, All, From, Item}
use Rattle.call_places.specs.declared.place.Use.{Use}
use Rattle.call_places.specs.declared.place.Use.TheVariants.{Bind as BindUse, Connect as ConnectUse, Listen as ListenUse, Accept as AcceptUse, Send as SendUse, SendTo as SendToUse, Read as ReadUse, TryItem as TryItemUse, Shutdown as ShutdownUse, Close as CloseUse, NoDelay as NoDelayUse, GetAddr as GetAddrUse}
use Rattle.call_places.specs.declared.place.FdUse.TheVariants.{OfConn, Close as CloseFdUse, Set}
use Rattle.call_places.specs.declared.place.VarUse.TheVariants.{OfConn as OfConnVar, OfFd}
use Rattle.call_places.specs.declared.place.Timing.{Timing}
use Rattle.call_places.specs.declared.place.Want.{Want}
use Rattle.call_places.specs.declared.place.Want.TheVariants.{Signal as SignalWant, Accept as AcceptWant, Read as ReadWant, Connected, Room, Scan}
use Rattle.call_places.specs.declared.place.Stage.{Stage}
use Rattle.call_places.specs.declared.place.Stage.TheVariants.{Try, Begin, Stop as StopStage, Now, Pause}
use Rattle.call_places.specs.declared.place.Then.TheVariants.{Answer as AnswerThen, Ticks as TicksThen, Made}
use Rattle.call_places.specs.declared.place.Place.{Place}
use Rattle.call_places.specs.declared.place.Place.TheVariants.{Var as VarPlace, Fd as FdPlace, Make, Write as WritePlace, Empty as EmptyPlace, Waits, Round, Feed as FeedPlace, Done}
use Rattle.call_places.specs.declared.place.Step.{Step}
use Rattle.call_places.specs.Steps.{to, ends, makes}
use Rattle.lw_calls.specs.Answers.{on, reply_of, var_of, fd_of, number_of, whether_of, word_of, piece_of, emptied_of, feeding_of, turn_of}
use Rattle.call_places.specs.Waits.{waiting, timed, after_begin, after_stop, after_now, after_pause}
use Rattle.call_places.specs.Reads.{after_count, after_connect_look, after_accept, after_read}
use Rattle.call_places.specs.Sends.{after_write, after_room}
use Rattle.call_places.specs.Selects.{selects, next_target, see_target, after_scan}
use Rattle.lw_calls.specs.Uses.{after_var, after_fd}
use Rattle.lw_calls.specs.Replies.{after_reply, closes}
use Rattle.lw_calls.specs.Rounds.{rounds_on, is_same, round_asks, after_round}

-- How a call begins

-- a call looks its connection up: a netconn call by its variable, a socket call by that one's descriptor too
abbrev pub uses : Interface → ℕ → Use → Place
uses Socket var use_ = VarPlace var (OfFd (OfConn use_))
uses Netconn var use_ = VarPlace var (OfConnVar use_)

-- a close frees the descriptor of a socket; a netconn has none
abbrev pub begins_close : Interface → ℕ → Place
begins_close Socket var = VarPlace var (OfFd CloseFdUse)
begins_close Netconn var = VarPlace var (OfConnVar CloseUse)

-- so many ticks
abbrev pub begins_ticks : ℕ → Place
begins_ticks n = if n == 0 then Done OkOutcome else makes TickEvent (TicksThen (n - 1))

-- a wait for a signal
abbrev pub awaits : Caller → ℕ → ℕ → Place
awaits caller signal count = waiting (SignalWant (record { signal = signal; count = count; caller = caller })) (timed None None)

-- the commands of a wire, as each of its sides makes them: a wait for a signal of one side, and rounds
abbrev pub awaits_on : Bool → Side → ℕ → ℕ → Place
awaits_on true side signal count = awaits (Wire side) signal count
awaits_on false side signal count = Done OkOutcome

-- how a side's rounds end: by a signal on the side that it is of, else as the other side says
abbrev pub end_on : Bool → ℕ → ℕ → RoundsEnd
end_on true signal count = RoundsSignal signal count
end_on false signal count = Other

-- `await SIDE`, as each side of a wire makes it; nobody else has it
abbrev pub awaits_side : Caller → Side → ℕ → ℕ → Place
awaits_side Actor at signal count = Done (Fail Val)
awaits_side Driver at signal count = Done (Fail Val)
awaits_side (Wire side) at signal count = awaits_on (is_same side at) side signal count

-- `pump N`: so many rounds
abbrev pub pumps : Caller → ℕ → Place
pumps Actor n = Done (Fail Val)
pumps Driver n = Done (Fail Val)
pumps (Wire side) n = rounds_on side (After n)

-- `until SIDE S K`: rounds until a signal came so often on a side
abbrev pub pumps_until : Caller → Side → ℕ → ℕ → Place
pumps_until Actor at signal count = Done (Fail Val)
pumps_until Driver at signal count = Done (Fail Val)
pumps_until (Wire side) at signal count = rounds_on side (end_on (is_same side at) signal count)

-- where a call begins
abbrev pub begins : Caller → Call → Place
begins caller (New interface var proto) = makes (NewEvent proto) (Made interface var)
begins caller (Bind interface var ip port) = uses interface var (BindUse ip port)
begins caller (Connect interface var ip port) = uses interface var (ConnectUse ip port)
begins caller (Listen interface var) = uses interface var ListenUse
begins caller (Accept interface var fresh) = uses interface var (AcceptUse interface fresh)
begins caller (Send interface var octets) = uses interface var (SendUse octets)
begins caller (SendTo interface var ip port octets) = uses interface var (SendToUse ip port octets)
begins caller (Recv var n) = uses Socket var (ReadUse Once n)
begins caller (RecvAll var n) = uses Socket var (ReadUse All n)
begins caller (RecvFrom var n) = uses Socket var (ReadUse From n)
begins caller (RecvItem var) = uses Netconn var (ReadUse Item 0)
begins caller (TryItem var) = uses Netconn var TryItemUse
begins caller (Shutdown interface var) = uses interface var ShutdownUse
begins caller (Close interface var) = begins_close interface var
begins caller (NonBlock var on) = VarPlace var (OfFd (Set (NonBlockOption on)))
begins caller (NoDelay var on) = uses Socket var (NoDelayUse on)
begins caller (Timeout var ticks) = VarPlace var (OfFd (Set (TimeoutOption ticks)))
begins caller (GetAddr var which) = uses Socket var (GetAddrUse which)
begins caller (Select limit items) = selects (record { limit = limit; items = items; targets = [] })
begins caller (Signal signal) = makes (SignalEvent signal) AnswerThen
begins caller (Await signal count) = awaits caller signal count
begins caller (Feed left) = FeedPlace left false 0
begins caller (Burst n) = FeedPlace (Some n) true 0
begins caller (Tick n) = begins_ticks n
begins caller Stop = makes StopEvent AnswerThen
begins caller (AwaitSide side signal count) = awaits_side caller side signal count
begins caller (Pump n) = pumps caller n
begins caller (Until side signal count) = pumps_until caller side signal count

-- What a call asks

-- what a receive takes: a whole item, or the octets still wanted
abbrev pub portion_of : ReadKind → ℕ → ℕ → Portion
portion_of Once count got = OctetsPortion (count - got)
portion_of All count got = OctetsPortion (count - got)
portion_of From count got = OctetsPortion (count - got)
portion_of Item count got = ItemPortion

-- what a wait's try asks
abbrev pub tries : Want → Ask
tries (SignalWant awaiting) = AskSignal awaiting.signal
tries (AcceptWant accepting) = AskTake accepting.conn AcceptedPortion
tries (ReadWant reading) = AskTake reading.conn (portion_of reading.kind reading.count reading.got)
tries (Connected conn) = AskSee conn
tries (Room sending) = AskSee sending.conn
tries (Scan scan) = see_target (next_target scan)

-- what a wait asks at each of its stages
abbrev pub waits_for : Stage → Want → Ask
waits_for Try want = tries want
waits_for Begin want = AskTicks
waits_for StopStage want = AskStop
waits_for Now want = AskTicks
waits_for Pause want = AskPause

-- what a call asks where it stands
abbrev pub asks : Place → Ask
asks (VarPlace var use_) = AskVar var
asks (FdPlace var fd use_) = AskFd fd
asks (Make event after held) = AskCore event
asks (WritePlace sending due held) = AskCore (WriteEvent sending.conn sending.rest)
asks (EmptyPlace conn) = AskEmpty conn
asks (Waits stage want timing) = waits_for stage want
asks (Round stage rounds) = round_asks stage rounds.end
asks (FeedPlace left burst fed) = AskFeed left burst
asks (Done result) = AskNothing

-- a call has ended, or lets the others have their turn
abbrev pub is_pause : Stage → Bool
is_pause Try = false
is_pause Begin = false
is_pause StopStage = false
is_pause Now = false
is_pause Pause = true

-- a place at which a call has ended, or lets the others have their turn
abbrev pub is_resting : Place → Bool
is_resting (VarPlace var use_) = false
is_resting (FdPlace var fd use_) = false
is_resting (Make event after held) = false
is_resting (WritePlace sending due held) = false
is_resting (EmptyPlace conn) = false
is_resting (Waits stage want timing) = is_pause stage
is_resting (Round stage rounds) = false
is_resting (FeedPlace left burst fed) = false
is_resting (Done result) = true

-- Where an answer leads a call

-- one frame less is left
abbrev pub less : Option ℕ → Option ℕ
less (Some n) = Some (n - 1)
less None = None

-- a feed after one frame more
abbrev pub feeds_on : Option ℕ → Bool → ℕ → Place
feeds_on left burst fed = FeedPlace (less left) burst (fed + 1)

-- a line for each frame that was fed, and the number of them at the end
abbrev pub after_feed : Option ℕ → Bool → ℕ → Feeding → Step
after_feed left burst fed Fed = to (feeds_on left burst fed) (Core ∷ [])
after_feed left burst fed (Dropped k cause) = to (feeds_on left burst fed) (Sight (DroppedSight k cause) ∷ [])
after_feed left burst fed NoMore = ends (FedOutcome fed) []

-- what a wait's try leads to
abbrev pub after_try : Want → Timing → Answer → Step
after_try (SignalWant awaiting) timing x = on (after_count awaiting timing) (number_of x)
after_try (AcceptWant accepting) timing x = on (after_accept accepting timing) (piece_of x)
after_try (ReadWant reading) timing x = on (after_read reading timing) (piece_of x)
after_try (Connected conn) timing x = on (after_connect_look conn timing) (word_of x)
after_try (Room sending) timing x = on (after_room sending timing) (word_of x)
after_try (Scan scan) timing x = on (after_scan scan timing) (word_of x)

-- what a wait's look leads to
abbrev pub after_wait : Stage → Want → Timing → Answer → Step
after_wait Try want timing x = after_try want timing x
after_wait Begin want timing x = on (after_begin want timing) (number_of x)
after_wait StopStage want timing x = on (after_stop want timing) (whether_of x)
after_wait Now want timing x = on (after_now want timing) (number_of x)
after_wait Pause want timing x = on (after_pause want timing) (turn_of x)

-- where an answer leads a call, and what this writes
abbrev pub steps : Place → Answer → Step
steps (VarPlace var use_) x = on (after_var var use_) (var_of x)
steps (FdPlace var fd use_) x = on (after_fd var fd use_) (fd_of x)
steps (Make event after held) x = on (after_reply after held) (reply_of x)
steps (WritePlace sending due held) x = on (after_write sending due held) (reply_of x)
steps (EmptyPlace conn) x = on (λ conns. to (closes conns 0) []) (emptied_of x)
steps (Waits stage want timing) x = after_wait stage want timing x
steps (Round stage rounds) x = after_round stage rounds x
steps (FeedPlace left burst fed) x = on (after_feed left burst fed) (feeding_of x)
steps (Done result) x = ends result []
