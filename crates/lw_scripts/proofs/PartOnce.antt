-- A line spells one part at most.
use Rattle.std.proofs.Common.{◌≡◌, ℕ, ◌<◌, ◌^◌, cond, List, [], ◌∷◌, get_or, codes, refl, sym, ap, ◌∙◌, arith, inl, inr}
use Rattle.std.specs.Str.{bytes_eq}
use Rattle.std.proofs.lemmas.Fmt.{decimal_injective}
use Rattle.call_types.specs.declared.call.Call.{Call as ACall}
use Rattle.call_types.specs.declared.call.Call.TheVariants.{New, Bind, Connect, Listen, Accept, Send, SendTo, Shutdown, Close, GetAddr}
use Rattle.call_types.specs.declared.call.Interface.TheVariants.{Socket, Netconn}
use Rattle.call_types.specs.declared.call.Side.{Side as CallSide}
use Rattle.call_types.specs.declared.call.Side.TheVariants.{A as SideA, B as SideB}
use Rattle.lw_events.specs.declared.event.Which.TheVariants.{Local, Remote}
use Rattle.lw_base.specs.declared.addresses.Net.{Net as Addresses}
use Rattle.script_words.specs.Calls.{IsCall, IsCount, IsWithin}
use Rattle.script_words.specs.Spelling.{call_spelling, call_words}
use Rattle.script_words.specs.Values.{IsNet, net_words, side_word}
use Rattle.script_words.specs.Words.{pieces, spaced}
use Rattle.script_words.specs.declared.version.Version.{Version}
use Rattle.script_words.specs.declared.version.Version.TheVariants.{One as FirstVersion, Two as SecondVersion}
use Rattle.script_words.proofs.CallOnce.{one_call}
use Rattle.script_words.proofs.Pieces.{Misses}
use Rattle.script_words.proofs.Solid.{actor_solid, driver_solid, side_solid, solid, spaced_words, wire_solid, words_of, words_of_net}
use Rattle.script_words.proofs.Spellings.{ip_once, mac_once, mask_small}
use Rattle.lw_scripts.specs.Limits.{profile_word}
use Rattle.lw_scripts.specs.declared.part.Part.{Part}
use Rattle.lw_scripts.specs.declared.part.Part.TheVariants.{Head, Pair, Side, Net, Limits, Size, Actor, Call, Driver, Wire, Fault}
use Rattle.lw_scripts.specs.declared.parts.Change.{Change}
use Rattle.lw_scripts.specs.declared.parts.Change.TheVariants.{Lose, Twice}
use Rattle.lw_scripts.specs.declared.parts.Fault.{Fault as WireFault}
use Rattle.lw_scripts.specs.declared.parts.Profile.{Profile}
use Rattle.lw_scripts.specs.declared.parts.Profile.TheVariants.{Default, Small, Wide}
use Rattle.lw_scripts.specs.declared.parts.SizeName.{SizeName}
use Rattle.lw_scripts.specs.declared.parts.SizeName.TheVariants.{Ram, Pool, Rom, Reference, Mailbox, Tcpip, Descriptors, Window}
use Rattle.lw_scripts.specs.declared.parts.Way.{Way}
use Rattle.lw_scripts.specs.declared.parts.Way.TheVariants.{Direct, Message}
use Rattle.lw_scripts.specs.Line.{IsPart, part_spelling}
use Rattle.lw_scripts.specs.Parts.{least_of, most_of}
use Rattle.lw_scripts.specs.Spelling.{actor_words, change_word, fault_words, size_word, size_words, way_word}
use Rattle.lw_scripts.proofs.LineLaws.{actor_solid as named_solid, fault_solid, most_small, size_solid}

-- the words of a part
abbrev part_words : Part → List (List ℕ)
part_words (Head FirstVersion) = codes "lwip" ∷ codes "1" ∷ []
part_words (Head SecondVersion) = codes "lwip" ∷ codes "2" ∷ []
part_words Pair = codes "pair" ∷ []
part_words (Side side) = codes "side" ∷ side_word side ∷ []
part_words (Net net) = net_words net
part_words (Limits profile) = codes "limits" ∷ profile_word profile ∷ []
part_words (Size name size) = size_words name size
part_words (Actor name way) = actor_words name way
part_words (Call call) = call_words call
part_words Driver = codes "driver" ∷ []
part_words Wire = codes "wire" ∷ []
part_words (Fault f) = fault_words f

profile_solid : (profile : Profile) → Misses 32 (profile_word profile)
profile_solid Default = solid (codes "default") refl
profile_solid Small = solid (codes "small") refl
profile_solid Wide = solid (codes "wide") refl

call_cut : (version : Version) (call : ACall) → IsCall version call → pieces 32 (call_spelling call) ≡ call_words call
call_cut version call (inl h) = words_of call (call_spelling call) (actor_solid version call h) refl
call_cut version call (inr (inl h)) = words_of call (call_spelling call) (driver_solid call h) refl
call_cut version call (inr (inr h)) = words_of call (call_spelling call) (wire_solid call h) refl

-- a part's line is cut into its words
part_cut : (version : Version) (p : Part) → IsPart version p → pieces 32 (part_spelling p) ≡ part_words p
part_cut version (Head FirstVersion) h = spaced_words (codes "lwip" ∷ codes "1" ∷ []) (codes "lwip 1") (solid (codes "lwip") refl, (solid (codes "1") refl, tt)) refl
part_cut version (Head SecondVersion) h = spaced_words (codes "lwip" ∷ codes "2" ∷ []) (codes "lwip 2") (solid (codes "lwip") refl, (solid (codes "2") refl, tt)) refl
part_cut version Pair h = spaced_words (codes "pair" ∷ []) (codes "pair") (solid (codes "pair") refl, tt) refl
part_cut version (Side side) h = spaced_words (codes "side" ∷ side_word side ∷ []) (part_spelling (Side side)) (solid (codes "side") refl, (side_solid side, tt)) refl
part_cut version (Net net) h = words_of_net net (spaced (net_words net)) h refl
part_cut version (Limits profile) h = spaced_words (codes "limits" ∷ profile_word profile ∷ []) (part_spelling (Limits profile)) (solid (codes "limits") refl, (profile_solid profile, tt)) refl
part_cut version (Size name size) h = spaced_words (size_words name size) (spaced (size_words name size)) (size_solid name size h.1) refl
part_cut version (Actor name way) h = spaced_words (actor_words name way) (spaced (actor_words name way)) (named_solid name way h) refl
part_cut version (Call call) h = call_cut version call h
part_cut version Driver h = spaced_words (codes "driver" ∷ []) (codes "driver") (solid (codes "driver") refl, tt) refl
part_cut version Wire h = spaced_words (codes "wire" ∷ []) (codes "wire") (solid (codes "wire") refl, tt) refl
part_cut version (Fault f) h = spaced_words (fault_words f) (spaced (fault_words f)) (fault_solid f h) refl

-- the kinds of parts, by number
abbrev kind : Part → ℕ
kind (Head version) = 0
kind Pair = 1
kind (Side side) = 2
kind (Net net) = 3
kind (Limits profile) = 4
kind (Size name size) = 5
kind (Actor name way) = 6
kind (Call call) = 7
kind Driver = 8
kind Wire = 9
kind (Fault f) = 10

-- the kind of part that begins with a word
abbrev kind_of : List ℕ → ℕ
kind_of word =
    cond (bytes_eq word (codes "lwip")) 0 (
    cond (bytes_eq word (codes "pair")) 1 (
    cond (bytes_eq word (codes "side")) 2 (
    cond (bytes_eq word (codes "net")) 3 (
    cond (bytes_eq word (codes "limits")) 4 (
    cond (bytes_eq word (codes "size")) 5 (
    cond (bytes_eq word (codes "actor")) 6 (
    cond (bytes_eq word (codes "driver")) 8 (
    cond (bytes_eq word (codes "wire")) 9 (
    cond (bytes_eq word (codes "lose")) 10 (
    cond (bytes_eq word (codes "twice")) 10 7))))))))))

call_kind : (call : ACall) → kind_of (get_or (call_words call) 0 []) ≡ 7
call_kind (New Socket v proto) = refl
call_kind (New Netconn v proto) = refl
call_kind (Bind Socket v ip port) = refl
call_kind (Bind Netconn v ip port) = refl
call_kind (Connect Socket v ip port) = refl
call_kind (Connect Netconn v ip port) = refl
call_kind (Listen Socket v) = refl
call_kind (Listen Netconn v) = refl
call_kind (Accept Socket v w) = refl
call_kind (Accept Netconn v w) = refl
call_kind (Send Socket v octets) = refl
call_kind (Send Netconn v octets) = refl
call_kind (SendTo Socket v ip port octets) = refl
call_kind (SendTo Netconn v ip port octets) = refl
call_kind (Shutdown Socket v) = refl
call_kind (Shutdown Netconn v) = refl
call_kind (Close Socket v) = refl
call_kind (Close Netconn v) = refl
call_kind (GetAddr v Local) = refl
call_kind (GetAddr v Remote) = refl
call_kind other = refl

fault_kind : (change : Change) → kind_of (change_word change) ≡ 10
fault_kind Lose = refl
fault_kind Twice = refl

kind_back : (p : Part) → kind_of (get_or (part_words p) 0 []) ≡ kind p
kind_back (Head FirstVersion) = refl
kind_back (Head SecondVersion) = refl
kind_back Pair = refl
kind_back (Side side) = refl
kind_back (Net net) = refl
kind_back (Limits profile) = refl
kind_back (Size name size) = refl
kind_back (Actor name way) = refl
kind_back (Call call) = call_kind call
kind_back Driver = refl
kind_back Wire = refl
kind_back (Fault f) = fault_kind f.change

abbrev version_back : List ℕ → Version
version_back word = cond (bytes_eq word (codes "1")) FirstVersion SecondVersion

head_back : (a : Version) → version_back (get_or (part_words (Head a)) 1 []) ≡ a
head_back FirstVersion = refl
head_back SecondVersion = refl

abbrev side_of : List ℕ → CallSide
side_of word = cond (bytes_eq word (codes "a")) SideA SideB

side_back : (side : CallSide) → side_of (side_word side) ≡ side
side_back SideA = refl
side_back SideB = refl

abbrev profile_of : List ℕ → Profile
profile_of word = cond (bytes_eq word (codes "default")) Default (cond (bytes_eq word (codes "small")) Small Wide)

profile_back : (profile : Profile) → profile_of (profile_word profile) ≡ profile
profile_back Default = refl
profile_back Small = refl
profile_back Wide = refl

abbrev size_of : List ℕ → SizeName
size_of word =
    cond (bytes_eq word (codes "ram")) Ram (
    cond (bytes_eq word (codes "pool")) Pool (
    cond (bytes_eq word (codes "rom")) Rom (
    cond (bytes_eq word (codes "ref")) Reference (
    cond (bytes_eq word (codes "box")) Mailbox (
    cond (bytes_eq word (codes "tcpip")) Tcpip (
    cond (bytes_eq word (codes "fds")) Descriptors Window))))))

size_back : (name : SizeName) → size_of (size_word name) ≡ name
size_back Ram = refl
size_back Pool = refl
size_back Rom = refl
size_back Reference = refl
size_back Mailbox = refl
size_back Tcpip = refl
size_back Descriptors = refl
size_back Window = refl

-- a size's word is of one size
pub size_name_once : (a b : SizeName) → size_word a ≡ size_word b → a ≡ b
size_name_once a b e = sym (size_back a) ∙ ap size_of e ∙ size_back b

abbrev way_of : List ℕ → Way
way_of word = cond (bytes_eq word (codes "direct")) Direct Message

way_back : (way : Way) → way_of (way_word way) ≡ way
way_back Direct = refl
way_back Message = refl

abbrev change_of : List ℕ → Change
change_of word = cond (bytes_eq word (codes "lose")) Lose Twice

change_back : (change : Change) → change_of (change_word change) ≡ change
change_back Lose = refl
change_back Twice = refl

-- what can be found from a word is the same where the word is
back_once : {A : Type 0} (of : List ℕ → A) (x y : List ℕ) (a b : A) → of x ≡ a → of y ≡ b → x ≡ y → a ≡ b
back_once of x y a b h k e = sym h ∙ ap of e ∙ k

abbrev word_at : ℕ → List (List ℕ) → List ℕ
word_at n words = get_or words n []

nets_once : (a b : Addresses) → IsNet a → IsNet b → net_words a ≡ net_words b → a ≡ b
nets_once a b h k e =
    let ip = ip_once a.ip b.ip h.ip k.ip (ap (word_at 1) e) in
    let mask = ip_once a.mask b.mask (mask_small a.mask.0 h.mask) (mask_small b.mask.0 k.mask) (ap (word_at 2) e) in
    let gateway = ip_once a.gateway b.gateway h.gateway k.gateway (ap (word_at 3) e) in
    let mac = mac_once a.mac b.mac h.mac k.mac (ap (word_at 4) e) in
    λ i. record { ip = ip i; mask = mask i; gateway = gateway i; mac = mac i }

small_size : (name : SizeName) (size : ℕ) → IsWithin (least_of name) (most_of name) size → size < 2 ^ 64
small_size name size h = let most = h.1 in let small = most_small name in omega arith

sizes_once : (m n : SizeName) (x y : ℕ) → x < 2 ^ 64 → y < 2 ^ 64 → size_words m x ≡ size_words n y → Size m x ≡ Size n y
sizes_once m n x y h k e =
    let name = back_once size_of (size_word m) (size_word n) m n (size_back m) (size_back n) (ap (word_at 1) e) in
    let size = decimal_injective x y h k (ap (word_at 2) e) in
    λ i. Size (name i) (size i)

actors_once : (a b : List ℕ) (v w : Way) → actor_words a v ≡ actor_words b w → Actor a v ≡ Actor b w
actors_once a b v w e =
    let name : a ≡ b = ap (word_at 1) e in
    let way = back_once way_of (way_word v) (way_word w) v w (way_back v) (way_back w) (ap (word_at 2) e) in
    λ i. Actor (name i) (way i)

faults_once : (f g : WireFault) → IsCount f.frame → IsCount g.frame → fault_words f ≡ fault_words g → f ≡ g
faults_once f g h k e =
    let most = h.1 in let more = k.1 in
    let change = back_once change_of (change_word f.change) (change_word g.change) f.change g.change (change_back f.change) (change_back g.change) (ap (word_at 0) e) in
    let side = back_once side_of (side_word f.side) (side_word g.side) f.side g.side (side_back f.side) (side_back g.side) (ap (word_at 1) e) in
    let frame = decimal_injective f.frame g.frame (omega arith) (omega arith) (ap (word_at 2) e) in
    λ i. record { change = change i; side = side i; frame = frame i }

-- parts of one kind are the same where their words and lines are
same_kind : (version : Version) (p q : Part) → IsPart version p → IsPart version q → kind p ≡ kind q → part_words p ≡ part_words q → part_spelling p ≡ part_spelling q → p ≡ q
same_kind version (Head a) (Head b) h k n w e = ap Head (back_once version_back (word_at 1 (part_words (Head a))) (word_at 1 (part_words (Head b))) a b (head_back a) (head_back b) (ap (word_at 1) w))
same_kind version Pair Pair h k n w e = refl
same_kind version (Side a) (Side b) h k n w e = ap Side (back_once side_of (side_word a) (side_word b) a b (side_back a) (side_back b) (ap (word_at 1) w))
same_kind version (Net a) (Net b) h k n w e = ap Net (nets_once a b h k w)
same_kind version (Limits a) (Limits b) h k n w e = ap Limits (back_once profile_of (profile_word a) (profile_word b) a b (profile_back a) (profile_back b) (ap (word_at 1) w))
same_kind version (Size a x) (Size b y) h k n w e = sizes_once a b x y (small_size a x h.1) (small_size b y k.1) w
same_kind version (Actor a v) (Actor b u) h k n w e = actors_once a b v u w
same_kind version (Call a) (Call b) h k n w e = ap Call (one_call version a b h k e)
same_kind version Driver Driver h k n w e = refl
same_kind version Wire Wire h k n w e = refl
same_kind version (Fault f) (Fault g) h k n w e = ap Fault (faults_once f g h k w)
same_kind version p q h k n w e = absurd (omega arith)

-- two parts with the same line are the same
pub one_part : (version : Version) (p q : Part) → IsPart version p → IsPart version q → part_spelling p ≡ part_spelling q → p ≡ q
one_part version p q h k e =
    let words : part_words p ≡ part_words q = sym (part_cut version p h) ∙ ap (pieces 32) e ∙ part_cut version q k in
    let kinds : kind p ≡ kind q = sym (kind_back p) ∙ ap (λ (w : List (List ℕ)). kind_of (word_at 0 w)) words ∙ kind_back q in
    same_kind version p q h k kinds words e
