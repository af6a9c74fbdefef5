-- Where a call may stand in a script: with an actor, with the driver, or on the wire.
use Rattle.std.specs.Prelude.{Bool, true, false}
use Rattle.call_types.specs.declared.call.Call.{Call}
use Rattle.call_types.specs.declared.call.Call.TheVariants.{Signal, Await, Feed, Burst, Tick, Stop, AwaitSide, Pump, Until}

-- a call that actors make
abbrev pub is_actors : Call → Bool
is_actors (Feed frames) = false
is_actors (Burst n) = false
is_actors (Tick n) = false
is_actors Stop = false
is_actors (AwaitSide side s k) = false
is_actors (Pump n) = false
is_actors (Until side s k) = false
is_actors other = true

-- a command of the driver
abbrev pub is_drivers : Call → Bool
is_drivers (Feed frames) = true
is_drivers (Burst n) = true
is_drivers (Tick n) = true
is_drivers (Signal s) = true
is_drivers (Await s k) = true
is_drivers other = false

-- a command of the wire
abbrev pub is_wires : Call → Bool
is_wires (AwaitSide side s k) = true
is_wires (Pump n) = true
is_wires (Until side s k) = true
is_wires other = false
