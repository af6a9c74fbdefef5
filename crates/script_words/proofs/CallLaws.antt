-- What isn't in any group is no call.
use Rattle.std.proofs.Common.{◌≡◌, ◌≢◌, ℕ, List, [], Option, Some, None, MatchOption, Result, Ok, Err, IfOk, sym, subst, ◌∙◌}
use Rattle.call_types.specs.declared.call.Call.{Call}
use Rattle.call_types.specs.declared.call.Call.TheVariants.{New, Bind, Connect, Listen, Accept, Send, SendTo, Recv, RecvAll, RecvFrom, RecvItem, TryItem, Shutdown, Close, NonBlock, NoDelay, Timeout, GetAddr, Select, Signal, Await, Feed, Burst, Tick, Stop, AwaitSide, Pump, Until}
use Rattle.script_words.specs.declared.version.Version.{Version}
use Rattle.script_words.specs.Calls.{IsActorCall, IsDriverCall, IsWireCall}
use Rattle.script_words.specs.Groups.{LacksAwait, LacksFeed, LacksLong, LacksShort, LacksSignal}
use Rattle.script_words.specs.Spelling.{call_spelling, call_words}
use Rattle.script_words.specs.Words.{pieces}
use Rattle.script_words.proofs.Solid.{SolidLine, actor_solid, driver_solid, line_of, wire_solid, words_of}

pub no_call : (version : Version) (ws : List (List ℕ)) → LacksShort version ws → LacksLong version ws → (call : Call) → IsActorCall version call → ws ≢ call_words call
no_call version ws s l (New i v proto) = s.new i v proto
no_call version ws s l (Bind i v ip port) = s.end.bind i v ip port
no_call version ws s l (Connect i v ip port) = s.end.connect i v ip port
no_call version ws s l (Listen i v) = s.single.listen i v
no_call version ws s l (Accept i v w) = s.accept i v w
no_call version ws s l (Send i v octets) = l.send i v octets
no_call version ws s l (SendTo i v ip port octets) = l.send_to i v ip port octets
no_call version ws s l (Recv v n) = s.count.recv v n
no_call version ws s l (RecvAll v n) = s.count.recv_all v n
no_call version ws s l (RecvFrom v n) = s.count.recv_from v n
no_call version ws s l (RecvItem v) = s.single.recv_item v
no_call version ws s l (TryItem v) = s.single.try_item v
no_call version ws s l (Shutdown i v) = s.single.shutdown i v
no_call version ws s l (Close i v) = s.single.close i v
no_call version ws s l (NonBlock v on) = s.setting.non_block v on
no_call version ws s l (NoDelay v on) = s.setting.no_delay v on
no_call version ws s l (Timeout v n) = s.count.timeout v n
no_call version ws s l (GetAddr v which) = s.single.addr v which
no_call version ws s l (Select limit items) = l.select limit items
no_call version ws s l (Signal n) = s.signal n
no_call version ws s l (Await n k) = λ h. s.await n k h.0 h.1
no_call version ws s l (Feed frames) = λ h. absurd h
no_call version ws s l (Burst n) = λ h. absurd h
no_call version ws s l (Tick n) = λ h. absurd h
no_call version ws s l Stop = λ h. absurd h
no_call version ws s l (AwaitSide side n k) = λ h. absurd h
no_call version ws s l (Pump n) = λ h. absurd h
no_call version ws s l (Until side n k) = λ h. absurd h

pub no_command : (ws : List (List ℕ)) → LacksFeed ws → LacksSignal ws → LacksAwait ws → (call : Call) → IsDriverCall call → ws ≢ call_words call
no_command ws f s a (Feed frames) = f.feed frames
no_command ws f s a (Burst n) = f.burst n
no_command ws f s a (Tick n) = f.tick n
no_command ws f s a (Signal n) = s n
no_command ws f s a (Await n k) = λ h. a n k h.0 h.1
no_command ws f s a other = λ h. absurd h

no_words : (call : Call) → SolidLine (call_words call) → [] ≡ call_words call → ⊥
no_words call h e = subst SolidLine (sym e) h

pub no_actor_words : (version : Version) (call : Call) → IsActorCall version call → [] ≢ call_words call
no_actor_words version call h = no_words call (actor_solid version call h)

pub no_driver_words : (call : Call) → IsDriverCall call → [] ≢ call_words call
no_driver_words call h = no_words call (driver_solid call h)

pub no_wire_words : (call : Call) → IsWireCall call → [] ≢ call_words call
no_wire_words call h = no_words call (wire_solid call h)

-- what was found among the longer calls, where none of the shorter ones is spelled
pub any_length : {E : Type 0} (version : Version) (ws : List (List ℕ)) (r : Result (Option Call) E) → LacksShort version ws → IfOk r (λ q. MatchOption q (LacksLong version ws) (λ call. IsActorCall version call × (ws ≡ call_words call))) → IfOk r (λ q. MatchOption q ((call : Call) → IsActorCall version call → ws ≢ call_words call) (λ call. IsActorCall version call × (ws ≡ call_words call)))
any_length version ws (Ok None) s h = no_call version ws s h
any_length version ws (Ok (Some call)) s h = h
any_length version ws (Err e) s h = h

-- a line is read by its words
pub actor_line : {E : Type 0} (version : Version) (line : List ℕ) (ws : List (List ℕ)) (r : Result (Option Call) E) → ws ≡ pieces 32 line → IfOk r (λ q. MatchOption q ((call : Call) → IsActorCall version call → ws ≢ call_words call) (λ call. IsActorCall version call × (ws ≡ call_words call))) → IfOk r (λ q. MatchOption q ((call : Call) → IsActorCall version call → line ≢ call_spelling call) (λ call. IsActorCall version call × (line ≡ call_spelling call)))
actor_line version line ws (Ok None) e h = λ call k is. h call k (e ∙ words_of call line (actor_solid version call k) is)
actor_line version line ws (Ok (Some call)) e h = (h.0, line_of call line (actor_solid version call h.0) (sym e ∙ h.1))
actor_line version line ws (Err x) e h = h

pub driver_line : (line : List ℕ) (ws : List (List ℕ)) (r : Option Call) → ws ≡ pieces 32 line → MatchOption r ((call : Call) → IsDriverCall call → ws ≢ call_words call) (λ call. IsDriverCall call × (ws ≡ call_words call)) → MatchOption r ((call : Call) → IsDriverCall call → line ≢ call_spelling call) (λ call. IsDriverCall call × (line ≡ call_spelling call))
driver_line line ws None e h = λ call k is. h call k (e ∙ words_of call line (driver_solid call k) is)
driver_line line ws (Some call) e h = (h.0, line_of call line (driver_solid call h.0) (sym e ∙ h.1))

pub wire_line : (line : List ℕ) (ws : List (List ℕ)) (r : Option Call) → ws ≡ pieces 32 line → MatchOption r ((call : Call) → IsWireCall call → ws ≢ call_words call) (λ call. IsWireCall call × (ws ≡ call_words call)) → MatchOption r ((call : Call) → IsWireCall call → line ≢ call_spelling call) (λ call. IsWireCall call × (line ≡ call_spelling call))
wire_line line ws None e h = λ call k is. h call k (e ∙ words_of call line (wire_solid call k) is)
wire_line line ws (Some call) e h = (h.0, line_of call line (wire_solid call h.0) (sym e ∙ h.1))

-- a line without words spells no call
pub no_actor_line : (version : Version) (line : List ℕ) → [] ≡ pieces 32 line → (call : Call) → IsActorCall version call → line ≢ call_spelling call
no_actor_line version line none call h e =
    no_actor_words version call h (none ∙ words_of call line (actor_solid version call h) e)
