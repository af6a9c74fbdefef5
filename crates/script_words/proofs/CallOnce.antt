-- Each line spells one call at most: from its words the call can be found.
use Rattle.std.proofs.Common.{◌≡◌, ◌≢◌, ℕ, ◌+◌, ◌*◌, ◌-◌, ◌/◌, ◌%◌, ◌<◌, ◌≤◌, ◌^◌, ◌==◌, Bool, true, false, cond, List, [], ◌∷◌, ◌++◌, length, get_or, drop, map, codes, decimal, append-nil, Option, Some, None, Result, Ok, Err, refl, sym, ap, ◌∙◌, subst, arith, lit≤, lit<, inl, inr, All}
use Rattle.std.specs.Str.{bytes_eq}
use Rattle.std.specs.Str.Parse.{digits_value}
use Rattle.std.specs.Net.Reader.{read_ipv4}
use Rattle.std.proofs.NetLemmas.Ipv4.{read_ipv4_complete}
use Rattle.std.specs.Int.{IsInRange}
use Rattle.std.proofs.lemmas.Fmt.{decimal_is_IsNumeral, decimal_nonempty}
use Rattle.std.proofs.lemmas.Slice.Eq.{bytes_eq-Decides}
use Rattle.std.proofs.lemmas.Str.Parse.{digit_at}
use Rattle.std.proofs.lemmas.List.Elements.{All-head, All-tail}
use Rattle.hex.specs.Hex.{IsBytes, decode_of, encode_lower}
use Rattle.hex.specs.declared.error.FromHexError.{FromHexError}
use Rattle.hex.proofs.HexLemmas.{decode_of-encode_lower}
use Rattle.lw_base.specs.declared.addresses.Ip.{Ip}
use Rattle.lw_base.specs.declared.addresses.Port.{Port}
use Rattle.lw_events.specs.declared.event.Proto.{Proto}
use Rattle.lw_events.specs.declared.event.Proto.TheVariants.{Tcp, Udp}
use Rattle.lw_events.specs.declared.event.Which.{Which}
use Rattle.lw_events.specs.declared.event.Which.TheVariants.{Local, Remote}
use Rattle.call_types.specs.declared.call.Call.{Call}
use Rattle.call_types.specs.declared.call.Call.TheVariants.{New, Bind, Connect, Listen, Accept, Send, SendTo, Recv, RecvAll, RecvFrom, RecvItem, TryItem, Shutdown, Close, NonBlock, NoDelay, Timeout, GetAddr, Select, Signal, Await, Feed, Burst, Tick, Stop, AwaitSide, Pump, Until}
use Rattle.call_types.specs.declared.call.Data.{Data}
use Rattle.call_types.specs.declared.call.Data.TheVariants.{Spelled, Fill}
use Rattle.call_types.specs.declared.call.Interface.{Interface}
use Rattle.call_types.specs.declared.call.Interface.TheVariants.{Socket, Netconn}
use Rattle.call_types.specs.declared.call.SelectItem.{SelectItem}
use Rattle.call_types.specs.declared.call.Side.{Side}
use Rattle.call_types.specs.declared.call.Side.TheVariants.{A as SideA, B as SideB}
use Rattle.call_types.specs.declared.call.Test.{Test}
use Rattle.call_types.specs.declared.call.Test.TheVariants.{Readable, Writable, Except}
use Rattle.script_words.specs.declared.version.Version.{Version}
use Rattle.script_words.specs.declared.version.Version.TheVariants.{One, Two}
use Rattle.script_words.specs.Calls.{IsActorCall, IsAmount, IsCall, IsCount, IsData, IsDriverCall, IsEnd, IsLimit, IsWireCall, variables_of}
use Rattle.script_words.specs.Spelling.{by, call_spelling, call_words, which_word}
use Rattle.script_words.specs.Values.{amount_word, bool_word, data_words, ip_spelling, item_word, limit_word, proto_word, side_word, signal_word, test_letter, var_word}
use Rattle.script_words.specs.Words.{pieces, spaced}
use Rattle.script_words.proofs.Solid.{SolidLine, actor_solid, driver_solid, var_small, wire_solid, words_of}
use Rattle.script_words.proofs.Spellings.{ip_dotted}

abbrev num : List ℕ → ℕ
num word = digits_value 10 word

abbrev var_of : List ℕ → ℕ
var_of word = num (drop 1 word)

abbrev proto_of : List ℕ → Proto
proto_of word = cond (bytes_eq word (codes "tcp")) Tcp Udp

abbrev bool_of : List ℕ → Bool
bool_of word = bytes_eq word (codes "1")

abbrev side_of : List ℕ → Side
side_of word = cond (bytes_eq word (codes "a")) SideA SideB

abbrev limit_of : List ℕ → Option ℕ
limit_of word = cond (bytes_eq word (codes "inf")) None (Some (num word))

abbrev amount_of : List ℕ → Option ℕ
amount_of word = cond (bytes_eq word (codes "all")) None (Some (num word))

abbrev test_of : List ℕ → Test
test_of word = cond (get_or word 0 0 == 114) Readable (cond (get_or word 0 0 == 119) Writable Except)

abbrev item_of : List ℕ → SelectItem
item_of word = record { test = test_of word; var = var_of word }

abbrev ip_value : Option (List ℕ × List ℕ) → Ip
ip_value (Some (a ∷ b ∷ c ∷ d ∷ [], rest)) = record { 0 = a * 2 ^ 24 + b * 2 ^ 16 + c * 2 ^ 8 + d }
ip_value other = record { 0 = 0 }

abbrev ip_of : List ℕ → Ip
ip_of word = ip_value (read_ipv4 word)

abbrev port_of : List ℕ → Port
port_of word = record { 0 = num word }

abbrev octets_of : Result (List ℕ) FromHexError → List ℕ
octets_of (Ok octets) = octets
octets_of (Err e) = []

abbrev contents_of : List (List ℕ) → Data
contents_of ws =
    cond (bytes_eq (get_or ws 0 []) (codes "fill")) (Fill (num (get_or ws 1 [])) (num (get_or ws 2 [])))
    (Spelled (octets_of (decode_of (drop 2 (get_or ws 0 [])))))

abbrev named : List ℕ → List (List ℕ) → Call
named name ws =
    cond (bytes_eq name (codes "socket")) (New Socket (var_of (get_or ws 0 [])) (proto_of (get_or ws 1 []))) (
    cond (bytes_eq name (codes "nnew")) (New Netconn (var_of (get_or ws 0 [])) (proto_of (get_or ws 1 []))) (
    cond (bytes_eq name (codes "bind")) (Bind Socket (var_of (get_or ws 0 [])) (ip_of (get_or ws 1 [])) (port_of (get_or ws 2 []))) (
    cond (bytes_eq name (codes "nbind")) (Bind Netconn (var_of (get_or ws 0 [])) (ip_of (get_or ws 1 [])) (port_of (get_or ws 2 []))) (
    cond (bytes_eq name (codes "connect")) (Connect Socket (var_of (get_or ws 0 [])) (ip_of (get_or ws 1 [])) (port_of (get_or ws 2 []))) (
    cond (bytes_eq name (codes "nconnect")) (Connect Netconn (var_of (get_or ws 0 [])) (ip_of (get_or ws 1 [])) (port_of (get_or ws 2 []))) (
    cond (bytes_eq name (codes "listen")) (Listen Socket (var_of (get_or ws 0 []))) (
    cond (bytes_eq name (codes "nlisten")) (Listen Netconn (var_of (get_or ws 0 []))) (
    cond (bytes_eq name (codes "accept")) (Accept Socket (var_of (get_or ws 0 [])) (var_of (get_or ws 1 []))) (
    cond (bytes_eq name (codes "naccept")) (Accept Netconn (var_of (get_or ws 0 [])) (var_of (get_or ws 1 []))) (
    cond (bytes_eq name (codes "send")) (Send Socket (var_of (get_or ws 0 [])) (contents_of (drop 1 ws))) (
    cond (bytes_eq name (codes "nwrite")) (Send Netconn (var_of (get_or ws 0 [])) (contents_of (drop 1 ws))) (
    cond (bytes_eq name (codes "sendto")) (SendTo Socket (var_of (get_or ws 0 [])) (ip_of (get_or ws 1 [])) (port_of (get_or ws 2 [])) (contents_of (drop 3 ws))) (
    cond (bytes_eq name (codes "nsend")) (SendTo Netconn (var_of (get_or ws 0 [])) (ip_of (get_or ws 1 [])) (port_of (get_or ws 2 [])) (contents_of (drop 3 ws))) (
    cond (bytes_eq name (codes "recv")) (Recv (var_of (get_or ws 0 [])) (num (get_or ws 1 []))) (
    cond (bytes_eq name (codes "recvall")) (RecvAll (var_of (get_or ws 0 [])) (num (get_or ws 1 []))) (
    cond (bytes_eq name (codes "recvfrom")) (RecvFrom (var_of (get_or ws 0 [])) (num (get_or ws 1 []))) (
    cond (bytes_eq name (codes "nrecv")) (RecvItem (var_of (get_or ws 0 []))) (
    cond (bytes_eq name (codes "ntry")) (TryItem (var_of (get_or ws 0 []))) (
    cond (bytes_eq name (codes "shutdown")) (Shutdown Socket (var_of (get_or ws 0 []))) (
    cond (bytes_eq name (codes "nshutdown")) (Shutdown Netconn (var_of (get_or ws 0 []))) (
    cond (bytes_eq name (codes "close")) (Close Socket (var_of (get_or ws 0 []))) (
    cond (bytes_eq name (codes "nclose")) (Close Netconn (var_of (get_or ws 0 []))) (
    cond (bytes_eq name (codes "nonblock")) (NonBlock (var_of (get_or ws 0 [])) (bool_of (get_or ws 1 []))) (
    cond (bytes_eq name (codes "nodelay")) (NoDelay (var_of (get_or ws 0 [])) (bool_of (get_or ws 1 []))) (
    cond (bytes_eq name (codes "timeout")) (Timeout (var_of (get_or ws 0 [])) (num (get_or ws 1 []))) (
    cond (bytes_eq name (codes "local")) (GetAddr (var_of (get_or ws 0 [])) Local) (
    cond (bytes_eq name (codes "remote")) (GetAddr (var_of (get_or ws 0 [])) Remote) (
    cond (bytes_eq name (codes "select")) (Select (limit_of (get_or ws 0 [])) (map item_of (drop 1 ws))) (
    cond (bytes_eq name (codes "signal")) (Signal (var_of (get_or ws 0 []))) (
    cond (bytes_eq name (codes "feed")) (Feed (amount_of (get_or ws 0 []))) (
    cond (bytes_eq name (codes "burst")) (Burst (num (get_or ws 0 []))) (
    cond (bytes_eq name (codes "tick")) (Tick (num (get_or ws 0 []))) (
    cond (bytes_eq name (codes "stop")) (Stop) (
    cond (bytes_eq name (codes "pump")) (Pump (num (get_or ws 0 []))) (
    cond (bytes_eq name (codes "until")) (Until (side_of (get_or ws 0 [])) (var_of (get_or ws 1 [])) (num (get_or ws 2 []))) (
    cond (length ws == 2) (Await (var_of (get_or ws 0 [])) (num (get_or ws 1 []))) (AwaitSide (side_of (get_or ws 0 [])) (var_of (get_or ws 1 [])) (num (get_or ws 2 [])))))))))))))))))))))))))))))))))))))))

abbrev call_of : List (List ℕ) → Call
call_of ws = named (get_or ws 0 []) (drop 1 ws)

num_back : (n : ℕ) → n < 2 ^ 64 → num (decimal n) ≡ n
num_back n h = (decimal_is_IsNumeral n h).1

var_back : (version : Version) (v : ℕ) → v < variables_of version → num (decimal v) ≡ v
var_back version v h = let small = var_small version v h in num_back v (omega arith)

signal_back : (s : ℕ) → s < 16 → num (decimal s) ≡ s
signal_back s h = num_back s (omega arith)

count_back : (n : ℕ) → IsCount n → num (decimal n) ≡ n
count_back n h = let most = h.1 in num_back n (omega arith)

proto_back : (proto : Proto) → proto_of (proto_word proto) ≡ proto
proto_back Tcp = refl
proto_back Udp = refl

bool_back : (on : Bool) → bool_of (bool_word on) ≡ on
bool_back true = refl
bool_back false = refl

side_back : (side : Side) → side_of (side_word side) ≡ side
side_back SideA = refl
side_back SideB = refl

within_back : (n most : ℕ) → n ≤ most → most < 2 ^ 64 → num (decimal n) ≡ n
within_back n most h k = num_back n (omega arith)

port_back : (port : Port) → port.0 < 2 ^ 16 → port_of (decimal port.0) ≡ port
port_back port h = let n = num_back port.0 (omega arith) in λ i. record { 0 = n i }

ip_back : (ip : Ip) → ip.0 < 2 ^ 32 → ip_of (ip_spelling ip) ≡ ip
ip_back ip h =
    let text = ip_spelling ip in
    let octets = ip.0 / 2 ^ 24 ∷ ip.0 / 2 ^ 16 % 256 ∷ ip.0 / 2 ^ 8 % 256 ∷ ip.0 % 256 ∷ [] in
    let reads : read_ipv4 text ≡ Some (octets, []) = ap read_ipv4 (sym (append-nil text)) ∙ read_ipv4_complete text octets [] (ip_dotted ip h) (lit≤ tt) in
    let n : ip.0 / 2 ^ 24 * 2 ^ 24 + ip.0 / 2 ^ 16 % 256 * 2 ^ 16 + ip.0 / 2 ^ 8 % 256 * 2 ^ 8 + ip.0 % 256 ≡ ip.0 = omega arith in
    ap ip_value reads ∙ (λ i. record { 0 = n i })

not_yes : (b : Bool) → (b ≡ true → ⊥) → b ≡ false
not_yes true h = absurd (h refl)
not_yes false h = refl

not_same : (xs ys : List ℕ) → (xs ≡ ys → ⊥) → bytes_eq xs ys ≡ false
not_same xs ys h =
    let decides = bytes_eq-Decides xs ys in
    not_yes (bytes_eq xs ys) (λ e. h (decides.0 e))

not_text : (n x : ℕ) (xs : List ℕ) → n < 2 ^ 64 → 57 < x → bytes_eq (decimal n) (x ∷ xs) ≡ false
not_text n x xs h far =
    not_same (decimal n) (x ∷ xs) (λ e.
    let some = decimal_nonempty n h in
    let first : IsInRange 48 57 (get_or (decimal n) 0 0) = digit_at (decimal n) 0 (decimal_is_IsNumeral n h).0.1 some in
    let same : get_or (decimal n) 0 0 ≡ x = ap (λ (t : List ℕ). get_or t 0 0) e in
    absurd (omega arith))

limit_back : (limit : Option ℕ) → IsLimit limit → limit_of (limit_word limit) ≡ limit
limit_back None h = refl
limit_back (Some ticks) h =
    let no : bytes_eq (decimal ticks) (codes "inf") ≡ false = not_text ticks 105 (110 ∷ 102 ∷ []) (omega arith) (lit< tt) in
    let n = num_back ticks (omega arith) in
    ap (λ (b : Bool). cond b None (Some (num (decimal ticks)))) no ∙ (λ i. Some (n i))

amount_back : (amount : Option ℕ) → IsAmount amount → amount_of (amount_word amount) ≡ amount
amount_back None h = refl
amount_back (Some frames) h =
    let most = h.1 in
    let no : bytes_eq (decimal frames) (codes "all") ≡ false = not_text frames 97 (108 ∷ 108 ∷ []) (omega arith) (lit< tt) in
    let n = num_back frames (omega arith) in
    ap (λ (b : Bool). cond b None (Some (num (decimal frames)))) no ∙ (λ i. Some (n i))

tested_back : (version : Version) (test : Test) (v : ℕ) → v < variables_of version → item_of (item_word (record { test = test; var = v })) ≡ record { test = test; var = v }
tested_back version Readable v h = let n = var_back version v h in λ i. record { test = Readable; var = n i }
tested_back version Writable v h = let n = var_back version v h in λ i. record { test = Writable; var = n i }
tested_back version Except v h = let n = var_back version v h in λ i. record { test = Except; var = n i }

item_back : (version : Version) (item : SelectItem) → item.var < variables_of version → item_of (item_word item) ≡ item
item_back version item h = tested_back version item.test item.var h

items_back : (version : Version) (items : List SelectItem) → All (λ item. item.var < variables_of version) items → map item_of (map item_word items) ≡ items
items_back version [] h = refl
items_back version (item ∷ items) h =
    let one = item_back version item (All-head (λ i. i.var < variables_of version) item items h) in
    let more = items_back version items (All-tail (λ i. i.var < variables_of version) item items h) in
    λ i. one i ∷ more i

contents_back : (d : Data) → IsData d → contents_of (data_words d) ≡ d
contents_back (Spelled octets) h =
    let back = decode_of-encode_lower octets h.1 in λ i. Spelled (octets_of (back i))
contents_back (Fill count first) h =
    let most = h.0.1 in let small = h.1 in
    let c = num_back count (omega arith) in
    let f = num_back first (omega arith) in
    λ i. Fill (c i) (f i)

actor_back : (version : Version) (call : Call) → IsActorCall version call → call_of (call_words call) ≡ call
actor_back version (New Socket v proto) h = λ i. New Socket (var_back version v h i) (proto_back proto i)
actor_back version (Bind Socket v ip port) h = λ i. Bind Socket (var_back version v h.0 i) (ip_back ip h.1.0 i) (port_back port h.1.1 i)
actor_back version (Connect Socket v ip port) h = λ i. Connect Socket (var_back version v h.0 i) (ip_back ip h.1.0 i) (port_back port h.1.1 i)
actor_back version (Listen Socket v) h = λ i. Listen Socket (var_back version v h i)
actor_back version (Accept Socket v w) h = λ i. Accept Socket (var_back version v h.0 i) (var_back version w h.1 i)
actor_back version (Send Socket v octets) h = λ i. Send Socket (var_back version v h.0 i) (contents_back octets h.1 i)
actor_back version (SendTo Socket v ip port octets) h = λ i. SendTo Socket (var_back version v h.0 i) (ip_back ip h.1.0 i) (port_back port h.1.1 i) (contents_back octets h.2 i)
actor_back version (Shutdown Socket v) h = λ i. Shutdown Socket (var_back version v h i)
actor_back version (Close Socket v) h = λ i. Close Socket (var_back version v h i)
actor_back version (New Netconn v proto) h = λ i. New Netconn (var_back version v h i) (proto_back proto i)
actor_back version (Bind Netconn v ip port) h = λ i. Bind Netconn (var_back version v h.0 i) (ip_back ip h.1.0 i) (port_back port h.1.1 i)
actor_back version (Connect Netconn v ip port) h = λ i. Connect Netconn (var_back version v h.0 i) (ip_back ip h.1.0 i) (port_back port h.1.1 i)
actor_back version (Listen Netconn v) h = λ i. Listen Netconn (var_back version v h i)
actor_back version (Accept Netconn v w) h = λ i. Accept Netconn (var_back version v h.0 i) (var_back version w h.1 i)
actor_back version (Send Netconn v octets) h = λ i. Send Netconn (var_back version v h.0 i) (contents_back octets h.1 i)
actor_back version (SendTo Netconn v ip port octets) h = λ i. SendTo Netconn (var_back version v h.0 i) (ip_back ip h.1.0 i) (port_back port h.1.1 i) (contents_back octets h.2 i)
actor_back version (Shutdown Netconn v) h = λ i. Shutdown Netconn (var_back version v h i)
actor_back version (Close Netconn v) h = λ i. Close Netconn (var_back version v h i)
actor_back version (Recv v n) h = λ i. Recv (var_back version v h.0 i) (within_back n 65536 h.1.1 (lit< tt) i)
actor_back version (RecvAll v n) h = λ i. RecvAll (var_back version v h.0 i) (within_back n 16777216 h.1.1 (lit< tt) i)
actor_back version (RecvFrom v n) h = λ i. RecvFrom (var_back version v h.0 i) (within_back n 65536 h.1.1 (lit< tt) i)
actor_back version (RecvItem v) h = λ i. RecvItem (var_back version v h i)
actor_back version (TryItem v) h = λ i. TryItem (var_back version v h i)
actor_back version (NonBlock v on) h = λ i. NonBlock (var_back version v h i) (bool_back on i)
actor_back version (NoDelay v on) h = λ i. NoDelay (var_back version v h i) (bool_back on i)
actor_back version (Timeout v n) h = λ i. Timeout (var_back version v h.0 i) (within_back n 1000000 h.1 (lit< tt) i)
actor_back version (GetAddr v Local) h = λ i. GetAddr (var_back version v h i) Local
actor_back version (GetAddr v Remote) h = λ i. GetAddr (var_back version v h i) Remote
actor_back version (Select limit items) h = λ i. Select (limit_back limit h.0 i) (items_back version items h.1.1 i)
actor_back version (Signal s) h = λ i. Signal (signal_back s h i)
actor_back version (Await s k) h = λ i. Await (signal_back s h.0 i) (count_back k h.1 i)
actor_back version other h = absurd h

driver_back : (call : Call) → IsDriverCall call → call_of (call_words call) ≡ call
driver_back (Feed frames) h = λ i. Feed (amount_back frames h i)
driver_back (Burst n) h = λ i. Burst (count_back n h i)
driver_back (Tick n) h = λ i. Tick (count_back n h i)
driver_back (Signal s) h = λ i. Signal (signal_back s h i)
driver_back (Await s k) h = λ i. Await (signal_back s h.0 i) (count_back k h.1 i)
driver_back other h = absurd h

wire_back : (call : Call) → IsWireCall call → call_of (call_words call) ≡ call
wire_back (AwaitSide side s k) h = λ i. AwaitSide (side_back side i) (signal_back s h.0 i) (count_back k h.1 i)
wire_back (Pump n) h = λ i. Pump (count_back n h i)
wire_back (Until side s k) h = λ i. Until (side_back side i) (signal_back s h.0 i) (count_back k h.1 i)
wire_back other h = absurd h

once : (a b : Call) → call_of (call_words a) ≡ a → call_of (call_words b) ≡ b → call_words a ≡ call_words b → a ≡ b
once a b h k e = sym h ∙ ap call_of e ∙ k

any_back : (version : Version) (call : Call) → IsCall version call → call_of (call_words call) ≡ call
any_back version call (inl h) = actor_back version call h
any_back version call (inr (inl h)) = driver_back call h
any_back version call (inr (inr h)) = wire_back call h

any_solid : (version : Version) (call : Call) → IsCall version call → SolidLine (call_words call)
any_solid version call (inl h) = actor_solid version call h
any_solid version call (inr (inl h)) = driver_solid call h
any_solid version call (inr (inr h)) = wire_solid call h

-- a line is of one call at most
pub one_call : (version : Version) (a b : Call) → IsCall version a → IsCall version b → call_spelling a ≡ call_spelling b → a ≡ b
one_call version a b h k e =
    once a b (any_back version a h) (any_back version b k)
    (sym (words_of a (call_spelling a) (any_solid version a h) refl) ∙ words_of b (call_spelling a) (any_solid version b k) e)
