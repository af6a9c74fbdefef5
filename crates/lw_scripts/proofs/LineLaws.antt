-- A line that is none of these says nothing.
use Rattle.std.proofs.Common.{◌≡◌, ◌≢◌, ℕ, ◌<◌, ◌^◌, ◌==◌, false, List, codes, get_or, Option, Some, None, MatchOption, Result, Ok, Err, IfOk, refl, sym, ◌∙◌, arith, ne_eqb, inl, inr, ◌⊎◌, lit<}
use Rattle.std.specs.Int.{IsInRange}
use Rattle.call_types.specs.declared.call.Call.{Call as ACall}
use Rattle.lw_base.specs.declared.addresses.Net.{Net as Addresses}
use Rattle.script_words.specs.Calls.{IsCall, IsCount, IsWithin}
use Rattle.script_words.specs.Spelling.{call_spelling}
use Rattle.script_words.specs.Values.{IsNet, net_words}
use Rattle.script_words.specs.Words.{pieces, spaced}
use Rattle.script_words.specs.declared.version.Version.{Version}
use Rattle.script_words.proofs.Pieces.{Misses}
use Rattle.script_words.proofs.Solid.{SolidLine, count_solid, side_solid, solid, spaced_words, within_solid, words_spaced}
use Rattle.lw_scripts.specs.declared.part.Part.{Part}
use Rattle.lw_scripts.specs.declared.part.Part.TheVariants.{Head, Pair, Side, Net, Limits, Size, Actor, Call, Driver, Wire, Fault}
use Rattle.lw_scripts.specs.declared.parts.Change.{Change}
use Rattle.lw_scripts.specs.declared.parts.Change.TheVariants.{Lose, Twice}
use Rattle.lw_scripts.specs.declared.parts.Fault.{Fault as WireFault}
use Rattle.lw_scripts.specs.declared.parts.SizeName.{SizeName}
use Rattle.lw_scripts.specs.declared.parts.SizeName.TheVariants.{Ram, Pool, Rom, Reference, Mailbox, Tcpip, Descriptors, Window}
use Rattle.lw_scripts.specs.declared.parts.Way.{Way}
use Rattle.lw_scripts.specs.declared.parts.Way.TheVariants.{Direct, Message}
use Rattle.lw_scripts.specs.Line.{IsOther, IsPart, LacksFixed, LacksNamed, NamedAs, part_spelling}
use Rattle.lw_scripts.specs.Parts.{IsName, least_of, most_of}
use Rattle.lw_scripts.specs.Spelling.{actor_words, change_word, fault_words, size_word, size_words, way_word}

size_name_solid : (name : SizeName) → Misses 32 (size_word name)
size_name_solid Ram = solid (codes "ram") refl
size_name_solid Pool = solid (codes "pool") refl
size_name_solid Rom = solid (codes "rom") refl
size_name_solid Reference = solid (codes "ref") refl
size_name_solid Mailbox = solid (codes "box") refl
size_name_solid Tcpip = solid (codes "tcpip") refl
size_name_solid Descriptors = solid (codes "fds") refl
size_name_solid Window = solid (codes "window") refl

pub most_small : (name : SizeName) → most_of name < 2 ^ 64
most_small Ram = lit< tt
most_small Pool = lit< tt
most_small Rom = lit< tt
most_small Reference = lit< tt
most_small Mailbox = lit< tt
most_small Tcpip = lit< tt
most_small Descriptors = lit< tt
most_small Window = lit< tt

pub size_solid : (name : SizeName) (size : ℕ) → IsWithin (least_of name) (most_of name) size → SolidLine (size_words name size)
size_solid name size h =
    (solid (codes "size") refl, (size_name_solid name, (within_solid size (most_of name) h.1 (most_small name), tt)))

letter_solid : (c : ℕ) → IsInRange 97 122 c ⊎ IsInRange 48 57 c → (c == 32) ≡ false
letter_solid c (inl h) = let least = h.0 in let ne : c ≢ 32 = omega arith in ne_eqb c 32 ne
letter_solid c (inr h) = let least = h.0 in let ne : c ≢ 32 = omega arith in ne_eqb c 32 ne

name_solid : (name : List ℕ) → IsName name → Misses 32 name
name_solid name h = λ k d lt. letter_solid (get_or name k d) (h.letters k d lt)

way_solid : (way : Way) → Misses 32 (way_word way)
way_solid Direct = solid (codes "direct") refl
way_solid Message = solid (codes "message") refl

pub actor_solid : (name : List ℕ) (way : Way) → IsName name → SolidLine (actor_words name way)
actor_solid name way h = (solid (codes "actor") refl, (name_solid name h, (way_solid way, tt)))

change_solid : (change : Change) → Misses 32 (change_word change)
change_solid Lose = solid (codes "lose") refl
change_solid Twice = solid (codes "twice") refl

pub fault_solid : (f : WireFault) → IsCount f.frame → SolidLine (fault_words f)
fault_solid f h = (change_solid f.change, (side_solid f.side, (count_solid f.frame h, tt)))

no_part : (version : Version) (line : List ℕ) (ws : List (List ℕ)) → ws ≡ pieces 32 line → LacksFixed line → ((net : Addresses) → IsNet net → line ≢ spaced (net_words net)) → LacksNamed version ws → (p : Part) → IsOther version p → line ≢ part_spelling p
no_part version line ws cut fixed nets named (Head v) h e = fixed.head v e
no_part version line ws cut fixed nets named Pair h e = fixed.pair e
no_part version line ws cut fixed nets named (Side side) h e = fixed.side side e
no_part version line ws cut fixed nets named (Net net) h e = nets net h e
no_part version line ws cut fixed nets named (Limits profile) h e = fixed.limits profile e
no_part version line ws cut fixed nets named (Size name size) h e =
    named.size name size h (cut ∙ spaced_words (size_words name size) line (size_solid name size h.1) e)
no_part version line ws cut fixed nets named (Actor name way) h e =
    named.actor name way h (cut ∙ spaced_words (actor_words name way) line (actor_solid name way h) e)
no_part version line ws cut fixed nets named (Call call) h e = h
no_part version line ws cut fixed nets named Driver h e = fixed.driver e
no_part version line ws cut fixed nets named Wire h e = fixed.wire e
no_part version line ws cut fixed nets named (Fault f) h e =
    named.fault f h (cut ∙ spaced_words (fault_words f) line (fault_solid f h) e)

named_part : (version : Version) (line : List ℕ) (ws : List (List ℕ)) (p : Part) → ws ≡ pieces 32 line → NamedAs version ws p → IsPart version p × (line ≡ part_spelling p)
named_part version line ws (Size name size) cut h = (h.0, words_spaced (size_words name size) line (size_solid name size h.0.1) (sym cut ∙ h.1))
named_part version line ws (Actor name way) cut h = (h.0, words_spaced (actor_words name way) line (actor_solid name way h.0) (sym cut ∙ h.1))
named_part version line ws (Fault f) cut h = (h.0, words_spaced (fault_words f) line (fault_solid f h.0) (sym cut ∙ h.1))
named_part version line ws other cut h = absurd h

-- what a line says that is no call, no single text and no addresses
pub last_part : {E : Type 0} (version : Version) (line : List ℕ) (ws : List (List ℕ)) (r : Result (Option Part) E) → ws ≡ pieces 32 line → LacksFixed line → ((net : Addresses) → IsNet net → line ≢ spaced (net_words net)) → IfOk r (λ q. MatchOption q (LacksNamed version ws) (NamedAs version ws)) → IfOk r (λ q. MatchOption q ((p : Part) → IsOther version p → line ≢ part_spelling p) (λ p. IsPart version p × (line ≡ part_spelling p)))
last_part version line ws (Ok None) cut fixed nets h = no_part version line ws cut fixed nets h
last_part version line ws (Ok (Some p)) cut fixed nets h = named_part version line ws p cut h
last_part version line ws (Err e) cut fixed nets h = h

call_or_other : (version : Version) (line : List ℕ) → ((call : ACall) → IsCall version call → line ≢ call_spelling call) → ((p : Part) → IsOther version p → line ≢ part_spelling p) → (p : Part) → IsPart version p → line ≢ part_spelling p
call_or_other version line calls others (Call call) h e = calls call h e
call_or_other version line calls others (Head v) h e = others (Head v) h e
call_or_other version line calls others Pair h e = others Pair h e
call_or_other version line calls others (Side side) h e = others (Side side) h e
call_or_other version line calls others (Net net) h e = others (Net net) h e
call_or_other version line calls others (Limits profile) h e = others (Limits profile) h e
call_or_other version line calls others (Size name size) h e = others (Size name size) h e
call_or_other version line calls others (Actor name way) h e = others (Actor name way) h e
call_or_other version line calls others Driver h e = others Driver h e
call_or_other version line calls others Wire h e = others Wire h e
call_or_other version line calls others (Fault f) h e = others (Fault f) h e

-- what a line says that is no call is what it says
pub other_part : {E : Type 0} (version : Version) (line : List ℕ) (r : Result (Option Part) E) → ((call : ACall) → IsCall version call → line ≢ call_spelling call) → IfOk r (λ q. MatchOption q ((p : Part) → IsOther version p → line ≢ part_spelling p) (λ p. IsPart version p × (line ≡ part_spelling p))) → IfOk r (λ q. MatchOption q ((p : Part) → IsPart version p → line ≢ part_spelling p) (λ p. IsPart version p × (line ≡ part_spelling p)))
other_part version line (Ok None) calls h = call_or_other version line calls h
other_part version line (Ok (Some p)) calls h = h
other_part version line (Err e) calls h = h
