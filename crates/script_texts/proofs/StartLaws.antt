-- No line of a part of a script begins with '#'.
use Rattle.std.specs.Prelude.{decimal}
use Rattle.std.proofs.Common.{◌≡◌, ℕ, Bool, true, false, not, List, [], ◌∷◌, map, filter, IsTrue, All, refl, sym, ap, ◌∙◌}
use Rattle.std.proofs.lemmas.Bool.{false≢true}
use Rattle.std.specs.Str.{IsAscii}
use Rattle.std.proofs.lemmas.List.Elements.{All-nil, All-cons}
use Rattle.call_types.specs.declared.call.Call.{Call as ACall}
use Rattle.call_types.specs.declared.call.Call.TheVariants.{New, Bind, Connect, Listen, Accept, Send, SendTo, Recv, RecvAll, RecvFrom, RecvItem, TryItem, Shutdown, Close, NonBlock, NoDelay, Timeout, GetAddr, Select, Signal, Await, Feed, Burst, Tick, Stop, AwaitSide, Pump, Until}
use Rattle.call_types.specs.declared.call.Interface.{Interface}
use Rattle.call_types.specs.declared.call.Interface.TheVariants.{Socket, Netconn}
use Rattle.call_types.specs.declared.call.Side.TheVariants.{A as SideA, B as SideB}
use Rattle.lw_events.specs.declared.event.Which.TheVariants.{Local, Remote}
use Rattle.script_words.specs.declared.version.Version.TheVariants.{One as FirstVersion, Two as SecondVersion}
use Rattle.script_words.specs.Spelling.{call_spelling}
use Rattle.script_words.specs.Values.{side_word}
use Rattle.script_words.specs.Words.{spaced}
use Rattle.lw_scripts.specs.declared.part.Part.{Part}
use Rattle.lw_scripts.specs.declared.part.Part.TheVariants.{Head, Pair, Side, Net, Limits, Size, Actor, Call, Driver, Wire, Fault}
use Rattle.lw_scripts.specs.declared.parts.Change.{Change}
use Rattle.lw_scripts.specs.declared.parts.Change.TheVariants.{Lose, Twice}
use Rattle.lw_scripts.specs.declared.parts.Profile.TheVariants.{Default, Small, Wide}
use Rattle.lw_scripts.specs.Grammar.{HasAsciiComments, is_comment, said}
use Rattle.lw_scripts.specs.Line.{part_spelling}
use Rattle.lw_scripts.specs.Spelling.{change_word}

call_starts : (call : ACall) → is_comment (call_spelling call) ≡ false
call_starts (New Socket v proto) = refl
call_starts (New Netconn v proto) = refl
call_starts (Bind Socket v ip port) = refl
call_starts (Bind Netconn v ip port) = refl
call_starts (Connect Socket v ip port) = refl
call_starts (Connect Netconn v ip port) = refl
call_starts (Listen Socket v) = refl
call_starts (Listen Netconn v) = refl
call_starts (Accept Socket v w) = refl
call_starts (Accept Netconn v w) = refl
call_starts (Send Socket v octets) = refl
call_starts (Send Netconn v octets) = refl
call_starts (SendTo Socket v ip port octets) = refl
call_starts (SendTo Netconn v ip port octets) = refl
call_starts (Recv v n) = refl
call_starts (RecvAll v n) = refl
call_starts (RecvFrom v n) = refl
call_starts (RecvItem v) = refl
call_starts (TryItem v) = refl
call_starts (Shutdown Socket v) = refl
call_starts (Shutdown Netconn v) = refl
call_starts (Close Socket v) = refl
call_starts (Close Netconn v) = refl
call_starts (NonBlock v on) = refl
call_starts (NoDelay v on) = refl
call_starts (Timeout v ticks) = refl
call_starts (GetAddr v Local) = refl
call_starts (GetAddr v Remote) = refl
call_starts (Select limit items) = refl
call_starts (Signal s) = refl
call_starts (Await s k) = refl
call_starts (Feed frames) = refl
call_starts (Burst n) = refl
call_starts (Tick n) = refl
call_starts Stop = refl
call_starts (AwaitSide side s k) = refl
call_starts (Pump n) = refl
call_starts (Until side s k) = refl

change_starts : (change : Change) (word : List ℕ) (words : List (List ℕ)) → is_comment (spaced (change_word change ∷ word ∷ words)) ≡ false
change_starts Lose word words = refl
change_starts Twice word words = refl

pub part_starts : (part : Part) → is_comment (part_spelling part) ≡ false
part_starts (Head FirstVersion) = refl
part_starts (Head SecondVersion) = refl
part_starts Pair = refl
part_starts (Side SideA) = refl
part_starts (Side SideB) = refl
part_starts (Net net) = refl
part_starts (Limits Default) = refl
part_starts (Limits Small) = refl
part_starts (Limits Wide) = refl
part_starts (Size name size) = refl
part_starts (Actor name way) = refl
part_starts (Call call) = call_starts call
part_starts Driver = refl
part_starts Wire = refl
part_starts (Fault f) = change_starts f.change (side_word f.side) (decimal f.frame ∷ [])

kept : (line : List ℕ) (lines : List (List ℕ)) → is_comment line ≡ false → said (line ∷ lines) ≡ line ∷ said lines
kept line lines e = rw e refl

-- so all of them say something
pub all_said : (parts : List Part) → said (map part_spelling parts) ≡ map part_spelling parts
all_said [] = refl
all_said (part ∷ parts) =
    kept (part_spelling part) (map part_spelling parts) (part_starts part) ∙ ap (λ (lines : List (List ℕ)). part_spelling part ∷ lines) (all_said parts)

-- and none is a comment
pub no_comments : (parts : List Part) → HasAsciiComments (map part_spelling parts)
no_comments [] = All-nil (λ line. IsTrue (is_comment line) → IsAscii line)
no_comments (part ∷ parts) =
    All-cons (λ line. IsTrue (is_comment line) → IsAscii line) (part_spelling part) (map part_spelling parts)
    (λ t. absurd (false≢true (sym (part_starts part) ∙ t))) (no_comments parts)
