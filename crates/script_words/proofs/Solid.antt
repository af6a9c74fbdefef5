-- The words of a call have no spaces, so that a line is cut into just these.
use Rattle.std.proofs.Common.{◌≡◌, ◌≢◌, ℕ, ◌+◌, ◌/◌, ◌%◌, ◌<◌, ◌≤◌, ◌^◌, ◌==◌, Bool, true, false, not, ◌&&◌, List, [], ◌∷◌, ◌++◌, length, get_or, map, codes, decimal, Option, Some, None, refl, sym, ap, ◌∙◌, subst, arith, lit<, All, inl, inr}
use Rattle.std.proofs.lemmas.Bool.{cases_lt}
use Rattle.std.proofs.lemmas.List.{get_or_past}
use Rattle.std.proofs.lemmas.List.Elements.{All-cons, All-head, All-tail}
use Rattle.hex.specs.Hex.{encode_lower, encode_with, lower_digits}
use Rattle.lw_base.specs.declared.addresses.Ip.{Ip}
use Rattle.lw_base.specs.declared.addresses.Net.{Net}
use Rattle.lw_base.specs.declared.addresses.Port.{Port}
use Rattle.lw_events.specs.declared.event.Proto.{Proto}
use Rattle.lw_events.specs.declared.event.Proto.TheVariants.{Tcp, Udp}
use Rattle.lw_events.specs.declared.event.Which.{Which}
use Rattle.lw_events.specs.declared.event.Which.TheVariants.{Local, Remote}
use Rattle.call_types.specs.declared.call.Call.{Call}
use Rattle.call_types.specs.declared.call.Call.TheVariants.{New, Bind, Connect, Listen, Accept, Send, SendTo, Recv, RecvAll, RecvFrom, RecvItem, TryItem, Shutdown, Close, NonBlock, NoDelay, Timeout, GetAddr, Select, Signal, Await, Feed, Burst, Tick, Stop, AwaitSide, Pump, Until}
use Rattle.call_types.specs.declared.call.Data.{Data}
use Rattle.call_types.specs.declared.call.Data.TheVariants.{Spelled, Fill}
use Rattle.call_types.specs.declared.call.Interface.{Interface}
use Rattle.call_types.specs.declared.call.Interface.TheVariants.{Socket, Netconn}
use Rattle.call_types.specs.declared.call.SelectItem.{SelectItem}
use Rattle.call_types.specs.declared.call.Side.{Side}
use Rattle.call_types.specs.declared.call.Side.TheVariants.{A as SideA, B as SideB}
use Rattle.call_types.specs.declared.call.Test.{Test}
use Rattle.call_types.specs.declared.call.Test.TheVariants.{Readable, Writable, Except}
use Rattle.script_words.specs.declared.version.Version.{Version}
use Rattle.script_words.specs.declared.version.Version.TheVariants.{One, Two}
use Rattle.script_words.specs.Calls.{IsActorCall, IsAmount, IsCount, IsData, IsDriverCall, IsEnd, IsLimit, IsWireCall, variables_of}
use Rattle.script_words.specs.Spelling.{by, call_spelling, call_words, which_word}
use Rattle.script_words.specs.Values.{IsNet, amount_word, bool_word, data_words, ip_spelling, item_word, limit_word, net_words, proto_word, side_word, signal_word, test_letter, var_word}
use Rattle.script_words.specs.Words.{pieces, spaced}
use Rattle.script_words.proofs.Pieces.{Misses, pieces_at, pieces_none, same_pieces}
use Rattle.script_words.proofs.Spellings.{decimal_solid, ip_solid, joined_solid, mask_small, none_missed, octets_solid}

-- no octet of a text is a space
abbrev pub solid_test : List ℕ → Bool
solid_test [] = true
solid_test (x ∷ xs) = not (x == 32) && solid_test xs

both : (a b : Bool) → (not a && b) ≡ true → (a ≡ false) × (b ≡ true)
both true b e = cc
both false b e = (refl, e)

pub solid : (xs : List ℕ) → solid_test xs ≡ true → Misses 32 xs
solid [] e = none_missed 32
solid (x ∷ xs) e =
    let parts = both (x == 32) (solid_test xs) e in
    All-cons (λ c. (c == 32) ≡ false) x xs parts.0 (solid xs parts.1)

-- no word has a space
abbrev pub Solids : List (List ℕ) → Type 0
Solids [] = Unit {0}
Solids (w ∷ ws) = Misses 32 w × Solids ws

-- there is a word, and none has a space
abbrev pub SolidLine : List (List ℕ) → Type 0
SolidLine [] = ⊥
SolidLine (w ∷ ws) = Misses 32 w × Solids ws

cut_solid : (w : List ℕ) (ws : List (List ℕ)) → Misses 32 w → Solids ws → pieces 32 (spaced (w ∷ ws)) ≡ w ∷ ws
cut_solid w [] h k = pieces_none 32 w h
cut_solid w (x ∷ ws) h k =
    pieces_at 32 w (spaced (x ∷ ws)) h ∙ ap (λ (t : List (List ℕ)). w ∷ t) (cut_solid x ws k.0 k.1)

pub cut_line : (ws : List (List ℕ)) → SolidLine ws → pieces 32 (spaced ws) ≡ ws
cut_line [] h = absurd h
cut_line (w ∷ ws) h = cut_solid w ws h.0 h.1

by_solid : (i : Interface) (s n : List ℕ) → solid_test s ≡ true → solid_test n ≡ true → Misses 32 (by i s n)
by_solid Socket s n h k = solid s h
by_solid Netconn s n h k = solid n k

lettered_solid : (letter : List ℕ) (n : ℕ) → solid_test letter ≡ true → n < 2 ^ 64 → Misses 32 (letter ++ decimal n)
lettered_solid letter n e h = joined_solid letter (decimal n) (solid letter e) (decimal_solid n h)

pub var_small : (version : Version) (v : ℕ) → v < variables_of version → v < 2 ^ 32
var_small One v h = omega arith
var_small Two v h = omega arith

var_solid : (version : Version) (v : ℕ) → v < variables_of version → Misses 32 (var_word v)
var_solid version v h = let small = var_small version v h in lettered_solid (codes "v") v refl (omega arith)

signal_solid : (s : ℕ) → s < 16 → Misses 32 (signal_word s)
signal_solid s h = lettered_solid (codes "s") s refl (omega arith)

proto_solid : (proto : Proto) → Misses 32 (proto_word proto)
proto_solid Tcp = solid (codes "tcp") refl
proto_solid Udp = solid (codes "udp") refl

bool_solid : (on : Bool) → Misses 32 (bool_word on)
bool_solid true = solid (codes "1") refl
bool_solid false = solid (codes "0") refl

pub side_solid : (side : Side) → Misses 32 (side_word side)
side_solid SideA = solid (codes "a") refl
side_solid SideB = solid (codes "b") refl

which_solid : (which : Which) → Misses 32 (which_word which)
which_solid Local = solid (codes "local") refl
which_solid Remote = solid (codes "remote") refl

limit_solid : (limit : Option ℕ) → IsLimit limit → Misses 32 (limit_word limit)
limit_solid None h = solid (codes "inf") refl
limit_solid (Some ticks) h = decimal_solid ticks (omega arith)

amount_solid : (amount : Option ℕ) → IsAmount amount → Misses 32 (amount_word amount)
amount_solid None h = solid (codes "all") refl
amount_solid (Some frames) h = let most = h.1 in decimal_solid frames (omega arith)

hex_digit_solid : (i : ℕ) → (get_or lower_digits i 0 == 32) ≡ false
hex_digit_solid i =
    elim (cases_lt i 16) [
      | inl low ↦ let all = solid lower_digits refl in all i 0 low
      | inr past ↦ let none : get_or lower_digits i 0 ≡ 0 = get_or_past lower_digits i 0 past in ap (λ (c : ℕ). c == 32) none
    ]

hex_solid : (octets : List ℕ) → Misses 32 (encode_lower octets)
unfolding encode_with
hex_solid [] = none_missed 32
hex_solid (b ∷ bs) =
    All-cons (λ c. (c == 32) ≡ false) (get_or lower_digits (b / 16) 0) (get_or lower_digits (b % 16) 0 ∷ encode_lower bs) (hex_digit_solid (b / 16))
    (All-cons (λ c. (c == 32) ≡ false) (get_or lower_digits (b % 16) 0) (encode_lower bs) (hex_digit_solid (b % 16)) (hex_solid bs))

data_solid : (d : Data) → IsData d → SolidLine (data_words d)
data_solid (Spelled octets) h = (joined_solid (codes "x:") (encode_lower octets) (solid (codes "x:") refl) (hex_solid octets), tt)
data_solid (Fill count first) h =
    let most = h.0.1 in let small = h.1 in
    (solid (codes "fill") refl, (decimal_solid count (omega arith), (decimal_solid first (omega arith), tt)))

line_words : (ws : List (List ℕ)) → SolidLine ws → Solids ws
line_words [] h = absurd h
line_words (w ∷ ws) h = h

letter_solid : (test : Test) → Misses 32 (test_letter test)
letter_solid Readable = solid (codes "r") refl
letter_solid Writable = solid (codes "w") refl
letter_solid Except = solid (codes "e") refl

pub within_solid : (n most : ℕ) → n ≤ most → most < 2 ^ 64 → Misses 32 (decimal n)
within_solid n most h k = decimal_solid n (omega arith)

pub count_solid : (n : ℕ) → IsCount n → Misses 32 (decimal n)
count_solid n h = within_solid n 1000000 h.1 (lit< tt)

ip_solid_32 : (ip : Ip) → ip.0 < 2 ^ 32 → Misses 32 (ip_spelling ip)
ip_solid_32 ip h = ip_solid ip (omega arith)

port_solid : (port : Port) → port.0 < 2 ^ 16 → Misses 32 (decimal port.0)
port_solid port h = decimal_solid port.0 (omega arith)

end_solid : (ip : Ip) (port : Port) → IsEnd ip port → Solids (ip_spelling ip ∷ decimal port.0 ∷ [])
end_solid ip port h = (ip_solid_32 ip h.0, (port_solid port h.1, tt))

item_solid : (item : SelectItem) → item.var < 2 ^ 32 → Misses 32 (item_word item)
item_solid item h = joined_solid (test_letter item.test) (decimal item.var) (letter_solid item.test) (decimal_solid item.var (omega arith))

items_solid : (version : Version) (items : List SelectItem) → All (λ item. item.var < variables_of version) items → Solids (map item_word items)
items_solid version [] h = tt
items_solid version (item ∷ items) h =
    (item_solid item (var_small version item.var (All-head (λ i. i.var < variables_of version) item items h)), items_solid version items (All-tail (λ i. i.var < variables_of version) item items h))

pub actor_solid : (version : Version) (call : Call) → IsActorCall version call → SolidLine (call_words call)
actor_solid version (New i v proto) h = (by_solid i (codes "socket") (codes "nnew") refl refl, (var_solid version v h, (proto_solid proto, tt)))
actor_solid version (Bind i v ip port) h = (by_solid i (codes "bind") (codes "nbind") refl refl, (var_solid version v h.0, end_solid ip port h.1))
actor_solid version (Connect i v ip port) h = (by_solid i (codes "connect") (codes "nconnect") refl refl, (var_solid version v h.0, end_solid ip port h.1))
actor_solid version (Listen i v) h = (by_solid i (codes "listen") (codes "nlisten") refl refl, (var_solid version v h, tt))
actor_solid version (Accept i v w) h = (by_solid i (codes "accept") (codes "naccept") refl refl, (var_solid version v h.0, (var_solid version w h.1, tt)))
actor_solid version (Send i v octets) h = (by_solid i (codes "send") (codes "nwrite") refl refl, (var_solid version v h.0, line_words (data_words octets) (data_solid octets h.1)))
actor_solid version (SendTo i v ip port octets) h = (by_solid i (codes "sendto") (codes "nsend") refl refl, (var_solid version v h.0, (ip_solid_32 ip h.1.0, (port_solid port h.1.1, line_words (data_words octets) (data_solid octets h.2)))))
actor_solid version (Recv v n) h = (solid (codes "recv") refl, (var_solid version v h.0, (within_solid n 65536 h.1.1 (lit< tt), tt)))
actor_solid version (RecvAll v n) h = (solid (codes "recvall") refl, (var_solid version v h.0, (within_solid n 16777216 h.1.1 (lit< tt), tt)))
actor_solid version (RecvFrom v n) h = (solid (codes "recvfrom") refl, (var_solid version v h.0, (within_solid n 65536 h.1.1 (lit< tt), tt)))
actor_solid version (RecvItem v) h = (solid (codes "nrecv") refl, (var_solid version v h, tt))
actor_solid version (TryItem v) h = (solid (codes "ntry") refl, (var_solid version v h, tt))
actor_solid version (Shutdown i v) h = (by_solid i (codes "shutdown") (codes "nshutdown") refl refl, (var_solid version v h, tt))
actor_solid version (Close i v) h = (by_solid i (codes "close") (codes "nclose") refl refl, (var_solid version v h, tt))
actor_solid version (NonBlock v on) h = (solid (codes "nonblock") refl, (var_solid version v h, (bool_solid on, tt)))
actor_solid version (NoDelay v on) h = (solid (codes "nodelay") refl, (var_solid version v h, (bool_solid on, tt)))
actor_solid version (Timeout v n) h = (solid (codes "timeout") refl, (var_solid version v h.0, (within_solid n 1000000 h.1 (lit< tt), tt)))
actor_solid version (GetAddr v which) h = (which_solid which, (var_solid version v h, tt))
actor_solid version (Select limit items) h = (solid (codes "select") refl, (limit_solid limit h.0, items_solid version items h.1.1))
actor_solid version (Signal s) h = (solid (codes "signal") refl, (signal_solid s h, tt))
actor_solid version (Await s k) h = (solid (codes "await") refl, (signal_solid s h.0, (count_solid k h.1, tt)))
actor_solid version other h = absurd h

pub driver_solid : (call : Call) → IsDriverCall call → SolidLine (call_words call)
driver_solid (Feed frames) h = (solid (codes "feed") refl, (amount_solid frames h, tt))
driver_solid (Burst n) h = (solid (codes "burst") refl, (count_solid n h, tt))
driver_solid (Tick n) h = (solid (codes "tick") refl, (count_solid n h, tt))
driver_solid (Signal s) h = (solid (codes "signal") refl, (signal_solid s h, tt))
driver_solid (Await s k) h = (solid (codes "await") refl, (signal_solid s h.0, (count_solid k h.1, tt)))
driver_solid other h = absurd h

pub wire_solid : (call : Call) → IsWireCall call → SolidLine (call_words call)
wire_solid (AwaitSide side s k) h = (solid (codes "await") refl, (side_solid side, (signal_solid s h.0, (count_solid k h.1, tt))))
wire_solid (Pump n) h = (solid (codes "pump") refl, (count_solid n h, tt))
wire_solid (Until side s k) h = (solid (codes "until") refl, (side_solid side, (signal_solid s h.0, (count_solid k h.1, tt))))
wire_solid other h = absurd h

-- a line that spells a call has the call's words, and only such a line has them
pub words_of : (call : Call) (line : List ℕ) → SolidLine (call_words call) → line ≡ call_spelling call → pieces 32 line ≡ call_words call
words_of call line h e = ap (pieces 32) e ∙ cut_line (call_words call) h

pub line_of : (call : Call) (line : List ℕ) → SolidLine (call_words call) → pieces 32 line ≡ call_words call → line ≡ call_spelling call
line_of call line h e = same_pieces 32 line (call_spelling call) (e ∙ sym (cut_line (call_words call) h))

net_solid : (net : Net) → IsNet net → SolidLine (net_words net)
net_solid net h =
    (solid (codes "net") refl, (ip_solid_32 net.ip h.ip, (ip_solid_32 net.mask (mask_small net.mask.0 h.mask), (ip_solid_32 net.gateway h.gateway, (octets_solid net.mac.0, tt)))))

pub words_of_net : (net : Net) (line : List ℕ) → IsNet net → line ≡ spaced (net_words net) → pieces 32 line ≡ net_words net
words_of_net net line h e = ap (pieces 32) e ∙ cut_line (net_words net) (net_solid net h)

pub line_of_net : (net : Net) (line : List ℕ) → IsNet net → pieces 32 line ≡ net_words net → line ≡ spaced (net_words net)
line_of_net net line h e = same_pieces 32 line (spaced (net_words net)) (e ∙ sym (cut_line (net_words net) (net_solid net h)))

-- a line that is these words with spaces between has just these words
pub spaced_words : (ws : List (List ℕ)) (line : List ℕ) → SolidLine ws → line ≡ spaced ws → pieces 32 line ≡ ws
spaced_words ws line h e = ap (pieces 32) e ∙ cut_line ws h

pub words_spaced : (ws : List (List ℕ)) (line : List ℕ) → SolidLine ws → pieces 32 line ≡ ws → line ≡ spaced ws
words_spaced ws line h e = same_pieces 32 line (spaced ws) (e ∙ sym (cut_line ws h))
