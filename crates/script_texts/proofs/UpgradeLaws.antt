-- A script with all sizes named is one of version 2.
use Rattle.std.proofs.Common.{◌≡◌, ◌<◌, ◌≤◌, ◌⊎◌, ℕ, List, Option, Some, None, true, All, refl, lit≤, arith, unwrap_or}
use Rattle.std.proofs.lemmas.List.Elements.{All-weaker}
use Rattle.lw_base.specs.declared.limits.Limits.{Limits}
use Rattle.call_types.specs.declared.call.Call.{Call}
use Rattle.call_types.specs.declared.call.Call.TheVariants.{New, Bind, Connect, Listen, Accept, Send, SendTo, Recv, RecvAll, RecvFrom, RecvItem, TryItem, Shutdown, Close, NonBlock, NoDelay, Timeout, GetAddr, Select, Signal, Await, Feed, Burst, Tick, Stop, AwaitSide, Pump, Until}
use Rattle.call_types.specs.declared.call.SelectItem.{SelectItem}
use Rattle.script_words.specs.declared.version.Version.{Version}
use Rattle.script_words.specs.declared.version.Version.TheVariants.{One as FirstVersion, Two as SecondVersion}
use Rattle.script_words.specs.Calls.{AreItems, IsActorCall, IsWithin, items_of, variables_of}
use Rattle.lw_scripts.specs.declared.parts.ActorScript.{ActorScript}
use Rattle.lw_scripts.specs.declared.parts.Body.{Body}
use Rattle.lw_scripts.specs.declared.parts.Body.TheVariants.{One, Two}
use Rattle.lw_scripts.specs.declared.parts.Profile.{Profile}
use Rattle.lw_scripts.specs.declared.parts.Profile.TheVariants.{Default, Small, Wide}
use Rattle.lw_scripts.specs.declared.parts.Script.{Script}
use Rattle.lw_scripts.specs.declared.parts.SizeName.{SizeName}
use Rattle.lw_scripts.specs.declared.parts.SizeName.TheVariants.{Ram, Pool, Rom, Reference, Mailbox, Tcpip, Descriptors, Window}
use Rattle.lw_scripts.specs.declared.parts.Stack.{Stack}
use Rattle.lw_scripts.specs.declared.wanted.Wanted.TheVariants.{Either}
use Rattle.lw_scripts.specs.Forms.{takes_version}
use Rattle.lw_scripts.specs.Grammar.{IsScript, takes_body}
use Rattle.lw_scripts.specs.Limits.{profile_limits}
use Rattle.lw_scripts.specs.Parts.{IsActor, IsBody, IsScriptCall, IsSize, IsStack, least_of, most_of}
use Rattle.lw_scripts.specs.Whole.{script_lines, script_parts}
use Rattle.script_texts.specs.Upgrades.{upgraded, upgraded_body, upgraded_stack}
use Rattle.script_texts.proofs.StartLaws.{all_said, no_comments}

-- a variable of any version is one of version 2
more : (version : Version) (n : ℕ) → n < variables_of version → n < variables_of SecondVersion
more FirstVersion n h = omega (arith, h)
more SecondVersion n h = h

most : (version : Version) (n : ℕ) → n ≤ items_of version → n ≤ items_of SecondVersion
most FirstVersion n h = omega (arith, h)
most SecondVersion n h = h

items_still : (version : Version) (items : List SelectItem) → AreItems version items → AreItems SecondVersion items
items_still version items h =
    ((h.0.0, most version _ h.0.1), All-weaker (λ (item : SelectItem). item.var < variables_of version) (λ item. item.var < variables_of SecondVersion) (λ item k. more version item.var k) items h.1)

-- an actor's call of any version is one of version 2
actors_still : (version : Version) (call : Call) → IsActorCall version call → IsActorCall SecondVersion call
actors_still version (New i v proto) h = more version v h
actors_still version (Bind i v ip port) h = (more version v h.0, h.1)
actors_still version (Connect i v ip port) h = (more version v h.0, h.1)
actors_still version (Listen i v) h = more version v h
actors_still version (Accept i v w) h = (more version v h.0, more version w h.1)
actors_still version (Send i v octets) h = (more version v h.0, h.1)
actors_still version (SendTo i v ip port octets) h = (more version v h.0, h.1, h.2)
actors_still version (Recv v n) h = (more version v h.0, h.1)
actors_still version (RecvAll v n) h = (more version v h.0, h.1)
actors_still version (RecvFrom v n) h = (more version v h.0, h.1)
actors_still version (RecvItem v) h = more version v h
actors_still version (TryItem v) h = more version v h
actors_still version (Shutdown i v) h = more version v h
actors_still version (Close i v) h = more version v h
actors_still version (NonBlock v on) h = more version v h
actors_still version (NoDelay v on) h = more version v h
actors_still version (Timeout v ticks) h = (more version v h.0, h.1)
actors_still version (GetAddr v which) h = more version v h
actors_still version (Select limit items) h = (h.0, items_still version items h.1)
actors_still version (Signal s) h = h
actors_still version (Await s k) h = h
actors_still version (Feed frames) h = h
actors_still version (Burst n) h = h
actors_still version (Tick n) h = h
actors_still version Stop h = h
actors_still version (AwaitSide side s k) h = h
actors_still version (Pump n) h = h
actors_still version (Until side s k) h = h

actor_still : (version : Version) (actor : ActorScript) → IsActor version actor → IsActor SecondVersion actor
actor_still version actor h = record {
  name = h.name;
  calls = All-weaker (IsScriptCall version) (IsScriptCall SecondVersion) (λ call k. (actors_still version call k.0, k.1)) actor.calls h.calls;
}

-- the sizes of a profile are in their ranges
record AreWithin (l : Limits) : Type 0 where
  ram : IsWithin 1 1024 l.ram
  pool : IsWithin 1 1024 l.pool
  rom : IsWithin 1 1024 l.rom
  reference : IsWithin 1 1024 l.reference
  mailbox : IsWithin 1 64 l.mailbox
  tcpip : IsWithin 1 1024 l.tcpip
  descriptors : IsWithin 1 1024 l.descriptors
  window : IsWithin 5840 1048576 l.window

profile_within : (version : Version) (profile : Profile) → AreWithin (profile_limits version profile)
profile_within version Default = record { ram = (lit≤ tt, lit≤ tt); pool = (lit≤ tt, lit≤ tt); rom = (lit≤ tt, lit≤ tt); reference = (lit≤ tt, lit≤ tt); mailbox = (lit≤ tt, lit≤ tt); tcpip = (lit≤ tt, lit≤ tt); descriptors = (lit≤ tt, lit≤ tt); window = (lit≤ tt, lit≤ tt) }
profile_within version Small = record { ram = (lit≤ tt, lit≤ tt); pool = (lit≤ tt, lit≤ tt); rom = (lit≤ tt, lit≤ tt); reference = (lit≤ tt, lit≤ tt); mailbox = (lit≤ tt, lit≤ tt); tcpip = (lit≤ tt, lit≤ tt); descriptors = (lit≤ tt, lit≤ tt); window = (lit≤ tt, lit≤ tt) }
profile_within version Wide = record { ram = (lit≤ tt, lit≤ tt); pool = (lit≤ tt, lit≤ tt); rom = (lit≤ tt, lit≤ tt); reference = (lit≤ tt, lit≤ tt); mailbox = (lit≤ tt, lit≤ tt); tcpip = (lit≤ tt, lit≤ tt); descriptors = (lit≤ tt, lit≤ tt); window = (lit≤ tt, lit≤ tt) }

-- so is the size that a script names, else the profile's
size_within : (version : Version) (name : SizeName) (o : Option ℕ) (base : ℕ) → IsSize version name o → IsWithin (least_of name) (most_of name) base → IsSize SecondVersion name (Some (unwrap_or o base))
size_within version name None base h k = (refl, k)
size_within version name (Some n) base h k = (refl, h.1)

stack_still : (version : Version) (stack : Stack) → IsStack version stack → IsStack SecondVersion (upgraded_stack version stack)
stack_still version stack h =
    let base = profile_limits version stack.profile in
    let within = profile_within version stack.profile in
    record {
      net = h.net;
      sizes = record {
        ram = size_within version Ram stack.sizes.ram base.ram h.sizes.ram within.ram;
        pool = size_within version Pool stack.sizes.pool base.pool h.sizes.pool within.pool;
        rom = size_within version Rom stack.sizes.rom base.rom h.sizes.rom within.rom;
        reference = size_within version Reference stack.sizes.reference base.reference h.sizes.reference within.reference;
        mailbox = size_within version Mailbox stack.sizes.mailbox base.mailbox h.sizes.mailbox within.mailbox;
        tcpip = size_within version Tcpip stack.sizes.tcpip base.tcpip h.sizes.tcpip within.tcpip;
        descriptors = size_within version Descriptors stack.sizes.descriptors base.descriptors h.sizes.descriptors within.descriptors;
        window = size_within version Window stack.sizes.window base.window h.sizes.window within.window;
      };
      few = h.few;
      actors = All-weaker (IsActor version) (IsActor SecondVersion) (actor_still version) stack.actors h.actors;
    }

body_still : (version : Version) (body : Body) → IsBody version body → IsBody SecondVersion (upgraded_body version body)
body_still version (One one) h = record { stack = stack_still version one.stack h.stack; driver = h.driver }
body_still version (Two two) h = record {
  a = stack_still version two.a h.a;
  b = stack_still version two.b h.b;
  frames = h.frames;
  apart = h.apart;
  commands = h.commands;
}

any_body : (body : Body) → takes_body Either body ≡ true
any_body (One one) = refl
any_body (Two two) = refl

pub still_script : (s : Script) → IsBody s.version s.body → IsScript Either (script_lines (upgraded s)) (upgraded s)
still_script s h = record {
  comments = no_comments (script_parts (upgraded s));
  spelled = all_said (script_parts (upgraded s));
  body = body_still s.version s.body h;
  version = refl;
  kind = any_body (upgraded s).body;
}
