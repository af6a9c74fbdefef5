-- Where a call may stand is told by its kind.
use Rattle.std.proofs.Common.{◌≡◌, true, refl, inl, inr}
use Rattle.call_types.specs.declared.call.Call.{Call}
use Rattle.call_types.specs.declared.call.Call.TheVariants.{Signal, Await, Feed, Burst, Tick, Stop, AwaitSide, Pump, Until}
use Rattle.script_words.specs.Calls.{IsActorCall, IsCall, IsDriverCall, IsWireCall}
use Rattle.script_words.specs.declared.version.Version.{Version}
use Rattle.lw_scripts.specs.Kinds.{is_actors, is_drivers, is_wires}

drivers_is_actors : (version : Version) (call : Call) → IsDriverCall call → is_actors call ≡ true → IsActorCall version call
drivers_is_actors version (Signal s) h e = h
drivers_is_actors version (Await s k) h e = h
drivers_is_actors version (Feed frames) h e = cc
drivers_is_actors version (Burst n) h e = cc
drivers_is_actors version (Tick n) h e = cc
drivers_is_actors version other h e = absurd h

wires_is_actors : (version : Version) (call : Call) → IsWireCall call → is_actors call ≡ true → IsActorCall version call
wires_is_actors version (AwaitSide side s k) h e = cc
wires_is_actors version (Pump n) h e = cc
wires_is_actors version (Until side s k) h e = cc
wires_is_actors version other h e = absurd h

pub actors_call : (version : Version) (call : Call) → IsCall version call → is_actors call ≡ true → IsActorCall version call
actors_call version call (inl h) e = h
actors_call version call (inr (inl h)) e = drivers_is_actors version call h e
actors_call version call (inr (inr h)) e = wires_is_actors version call h e

actors_is_drivers : (version : Version) (call : Call) → IsActorCall version call → is_drivers call ≡ true → IsDriverCall call
actors_is_drivers version (Signal s) h e = h
actors_is_drivers version (Await s k) h e = h
actors_is_drivers version (Feed frames) h e = absurd h
actors_is_drivers version (Burst n) h e = absurd h
actors_is_drivers version (Tick n) h e = absurd h
actors_is_drivers version other h e = cc

wires_is_drivers : (call : Call) → IsWireCall call → is_drivers call ≡ true → IsDriverCall call
wires_is_drivers (AwaitSide side s k) h e = cc
wires_is_drivers (Pump n) h e = cc
wires_is_drivers (Until side s k) h e = cc
wires_is_drivers other h e = absurd h

pub drivers_call : (version : Version) (call : Call) → IsCall version call → is_drivers call ≡ true → IsDriverCall call
drivers_call version call (inl h) e = actors_is_drivers version call h e
drivers_call version call (inr (inl h)) e = h
drivers_call version call (inr (inr h)) e = wires_is_drivers call h e

actors_is_wires : (version : Version) (call : Call) → IsActorCall version call → is_wires call ≡ true → IsWireCall call
actors_is_wires version (AwaitSide side s k) h e = absurd h
actors_is_wires version (Pump n) h e = absurd h
actors_is_wires version (Until side s k) h e = absurd h
actors_is_wires version other h e = cc

drivers_is_wires : (call : Call) → IsDriverCall call → is_wires call ≡ true → IsWireCall call
drivers_is_wires (AwaitSide side s k) h e = absurd h
drivers_is_wires (Pump n) h e = absurd h
drivers_is_wires (Until side s k) h e = absurd h
drivers_is_wires other h e = cc

pub wires_call : (version : Version) (call : Call) → IsCall version call → is_wires call ≡ true → IsWireCall call
wires_call version call (inl h) e = actors_is_wires version call h e
wires_call version call (inr (inl h)) e = drivers_is_wires call h e
wires_call version call (inr (inr h)) e = h

-- the kind of each call
pub kind_of_actors : (version : Version) (call : Call) → IsActorCall version call → is_actors call ≡ true
kind_of_actors version (Feed frames) h = absurd h
kind_of_actors version (Burst n) h = absurd h
kind_of_actors version (Tick n) h = absurd h
kind_of_actors version Stop h = absurd h
kind_of_actors version (AwaitSide side s k) h = absurd h
kind_of_actors version (Pump n) h = absurd h
kind_of_actors version (Until side s k) h = absurd h
kind_of_actors version other h = refl

pub kind_of_drivers : (call : Call) → IsDriverCall call → is_drivers call ≡ true
kind_of_drivers (Feed frames) h = refl
kind_of_drivers (Burst n) h = refl
kind_of_drivers (Tick n) h = refl
kind_of_drivers (Signal s) h = refl
kind_of_drivers (Await s k) h = refl
kind_of_drivers other h = absurd h

pub kind_of_wires : (call : Call) → IsWireCall call → is_wires call ≡ true
kind_of_wires (AwaitSide side s k) h = refl
kind_of_wires (Pump n) h = refl
kind_of_wires (Until side s k) h = refl
kind_of_wires other h = absurd h
