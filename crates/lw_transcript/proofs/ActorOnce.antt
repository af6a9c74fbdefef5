-- The text of actors with their calls is of one list of them.
use Rattle.std.proofs.Common.{◌≡◌, ◌≢◌, ℕ, ◌^◌, ◌<◌, Bool, true, List, [], ◌∷◌, ◌++◌, map, All, refl, sym, ap, ◌∙◌, arith, codes, decimal, append_assoc}
use Rattle.std.proofs.lemmas.Fmt.{decimal_injective}
use Rattle.std.proofs.lemmas.List.{append_cancel_left}
use Rattle.std.proofs.lemmas.List.Elements.{All-cons, All-head, All-nil, All-tail}
use Rattle.std.specs.List.{flat_map}
use Rattle.call_types.specs.declared.outcome.Outcome.{Outcome}
use Rattle.call_types.specs.declared.sight.Sight.{Sight}
use Rattle.call_types.specs.declared.sight.Sight.TheVariants.{Take, Datagram, Accepted, Saw as SawWord, Ticks, Stopped, Count, Var, Fdw, Dropped}
use Rattle.lw_transcript.specs.declared.lines.Version.{Version}
use Rattle.lw_transcript.specs.declared.lines.Evidence.{Evidence}
use Rattle.lw_transcript.specs.declared.lines.Evidence.TheVariants.{At, Saw}
use Rattle.lw_transcript.specs.declared.lines.CallPart.{CallPart}
use Rattle.lw_transcript.specs.declared.lines.ActorPart.{ActorPart}
use Rattle.lw_transcript.specs.Fields.{Field, Word, Name, field_text, line}
use Rattle.lw_transcript.specs.CallLines.{call_lines, call_text, did_text, evidence_text, outcome_fields, sight_fields}
use Rattle.lw_transcript.specs.Transcript.{IsActor, IsCallPart, IsCallText, actor_lines, actor_text, numbered}
use Rattle.lw_transcript.specs.Laws.{AreHeld, IsHeld, IsToldActor, IsToldCall, IsToldEvidence}
use Rattle.lw_transcript.proofs.Cut.{call-misses, cut_once, decimal_once}
use Rattle.lw_transcript.proofs.LineLists.{Anything, ReadOnce, apart, each_once, first, numbered_once, regroup, same_list, whole}
use Rattle.lw_transcript.proofs.FieldsBack.{are_plain}
use Rattle.lw_transcript.proofs.WordsOnce.{line_once}
use Rattle.lw_transcript.proofs.CallsBack.{outcome_back, outcome_in, outcome_plain, sight_back, sight_in, sight_plain}

-- a field of a line's first word
held_word : (word : List ℕ) (fs : List Field) → AreHeld fs → AreHeld (Word word ∷ fs)
held_word word fs h = All-cons IsHeld (Word word) fs tt h

-- the first field of a sight
abbrev head_of : List Field → Field
head_of [] = Word []
head_of (f ∷ fs) = f

-- the others
abbrev tail_of : List Field → List Field
tail_of [] = []
tail_of (f ∷ fs) = fs

sight_parts : (x : Sight) → sight_fields x ≡ head_of (sight_fields x) ∷ tail_of (sight_fields x)
sight_parts (Take conn ticket from octets) = refl
sight_parts (Datagram conn ticket ip port octets) = refl
sight_parts (Accepted conn ticket fresh) = refl
sight_parts (SawWord conn word) = refl
sight_parts (Ticks n) = refl
sight_parts Stopped = refl
sight_parts (Count signal n) = refl
sight_parts (Var var handle) = refl
sight_parts (Fdw fd conn nonblock timeout) = refl
sight_parts (Dropped frame cause) = refl

-- lines of fields, of which each has one or more
lines_once : (fs gs : List Field) (r s : List ℕ) → fs ≡ head_of fs ∷ tail_of fs → gs ≡ head_of gs ∷ tail_of gs → are_plain fs ≡ true → are_plain gs ≡ true
    → AreHeld fs → AreHeld gs → line fs ++ r ≡ line gs ++ s → (map field_text fs ≡ map field_text gs) × (r ≡ s)
lines_once [] gs r s a b p q h k e = absurd (let no : [] ≡ Word [] ∷ [] = a in cc)
lines_once (f ∷ fs) [] r s a b p q h k e = absurd (let no : [] ≡ Word [] ∷ [] = b in cc)
lines_once (f ∷ fs) (g ∷ gs) r s a b p q h k e = line_once f g fs gs r s p q h k e

sight_once : (a b : Sight) (r s : List ℕ) → AreHeld (sight_fields a) → AreHeld (sight_fields b) → line (sight_fields a) ++ r ≡ line (sight_fields b) ++ s → (a ≡ b) × (r ≡ s)
sight_once a b r s h k e =
    let words = lines_once (sight_fields a) (sight_fields b) r s (sight_parts a) (sight_parts b) (sight_plain a) (sight_plain b) h k e in
    (sym (sight_back a [] h) ∙ ap (λ (ws : List (List ℕ)). sight_in (ws ++ [])) words.0 ∙ sight_back b [] k, words.1)

at_parts : (a r : List ℕ) → (((codes "@" ++ a) ++ []) ++ codes "\n") ++ r ≡ codes "@" ++ (a ++ 10 ∷ r)
at_parts a r = simp append_assoc

-- no sight begins with an at
no_at : (x : Sight) (r : List ℕ) → first (line (sight_fields x) ++ r) ≢ 64
no_at (Take conn ticket from octets) r = λ e. omega arith
no_at (Datagram conn ticket ip port octets) r = λ e. omega arith
no_at (Accepted conn ticket fresh) r = λ e. omega arith
no_at (SawWord conn word) r = λ e. omega arith
no_at (Ticks n) r = λ e. omega arith
no_at Stopped r = λ e. omega arith
no_at (Count signal n) r = λ e. omega arith
no_at (Var var handle) r = λ e. omega arith
no_at (Fdw fd conn nonblock timeout) r = λ e. omega arith
no_at (Dropped frame cause) r = λ e. omega arith

-- the line of evidence
evidence_once : (a b : Evidence) (r s : List ℕ) → IsToldEvidence a → IsToldEvidence b → evidence_text a ++ r ≡ evidence_text b ++ s → (a ≡ b) × (r ≡ s)
evidence_once (At m) (At n) r s h k e =
    let cut = decimal_once 10 m n r s (omega arith) h k (append_cancel_left (codes "@") (decimal m ++ 10 ∷ r) (decimal n ++ 10 ∷ s) (sym (at_parts (decimal m) r) ∙ e ∙ at_parts (decimal n) s)) in
    (ap At cut.0, cut.1)
evidence_once (At m) (Saw y) r s h k e = absurd (no_at y s (sym (ap first e)))
evidence_once (Saw x) (At n) r s h k e = absurd (no_at x r (ap first e))
evidence_once (Saw x) (Saw y) r s h k e =
    let same = sight_once x y r s h k e in
    (ap Saw same.0, same.1)

-- the second octet, and 0 where there is none
abbrev second : List ℕ → ℕ
second [] = 0
second (x ∷ []) = 0
second (x ∷ y ∷ r) = y

-- evidence begins otherwise than the result does
abbrev BeginsEvidence : List ℕ → Type 0
BeginsEvidence r = (first r ≡ 100) → second r ≢ 105

sight_begins : (x : Sight) (r : List ℕ) → BeginsEvidence (line (sight_fields x) ++ r)
sight_begins (Take conn ticket from octets) r = λ d i. omega arith
sight_begins (Datagram conn ticket ip port octets) r = λ d i. omega arith
sight_begins (Accepted conn ticket fresh) r = λ d i. omega arith
sight_begins (SawWord conn word) r = λ d i. omega arith
sight_begins (Ticks n) r = λ d i. omega arith
sight_begins Stopped r = λ d i. omega arith
sight_begins (Count signal n) r = λ d i. omega arith
sight_begins (Var var handle) r = λ d i. omega arith
sight_begins (Fdw fd conn nonblock timeout) r = λ d i. omega arith
sight_begins (Dropped frame cause) r = λ d i. omega arith

evidence_begins : (a : Evidence) (r : List ℕ) → BeginsEvidence (evidence_text a ++ r)
evidence_begins (At n) r = λ d i. omega arith
evidence_begins (Saw x) r = sight_begins x r

evidence_read : ReadOnce evidence_text whole IsToldEvidence BeginsEvidence Anything
evidence_read = record { begins = evidence_begins; goes_on = λ _ _. tt; once = λ a b r s h k _ _ e. evidence_once a b r s h k e }

-- the line of what a call gave
did_once : (a b : Outcome) (r s : List ℕ) → AreHeld (outcome_fields a) → AreHeld (outcome_fields b) → did_text a ++ r ≡ did_text b ++ s → (a ≡ b) × (r ≡ s)
did_once a b r s h k e =
    let words = line_once (Word (codes "did")) (Word (codes "did")) (outcome_fields a) (outcome_fields b) r s (outcome_plain a) (outcome_plain b)
    (held_word (codes "did") (outcome_fields a) h) (held_word (codes "did") (outcome_fields b) k) e in
    let both = words.0 in
    let given : map field_text (outcome_fields a) ≡ map field_text (outcome_fields b) = cc in
    (sym (outcome_back a h) ∙ ap (λ (ws : List (List ℕ)). outcome_in (ws ++ [])) given ∙ outcome_back b k, words.1)

-- the parts of the line of a call
call_parts : (a b r : List ℕ) → (codes "call " ++ a ++ codes " " ++ b ++ codes "\n") ++ r ≡ (codes "call " ++ a ++ codes " ") ++ (b ++ 10 ∷ r)
call_parts a b r = simp append_assoc

-- the line of a call with this number
text_once : (n : ℕ) (a b r s : List ℕ) → IsCallText a → IsCallText b → call_text n a ++ r ≡ call_text n b ++ s → (a ≡ b) × (r ≡ s)
text_once n a b r s h k e =
    let parts = sym (call_parts (decimal n) a r) ∙ e ∙ call_parts (decimal n) b s in
    cut_once 10 a b r s (call-misses a h) (call-misses b k) (append_cancel_left (codes "call " ++ decimal n ++ codes " ") (a ++ 10 ∷ r) (b ++ 10 ∷ s) parts)

-- a call of the grammar, whose fields are such as the types hold
record IsRead (call : CallPart) : Type 0 where
  text : IsCallText call.text
  told : IsToldCall call

call_once : (n : ℕ) (a b : CallPart) (r s : List ℕ) → IsRead a → IsRead b → call_lines n a ++ r ≡ call_lines n b ++ s → (a ≡ b) × (r ≡ s)
call_once n a b r s h k e =
    let left : call_lines n a ++ r ≡ call_text n a.text ++ (flat_map evidence_text a.seen ++ (did_text a.result ++ r)) = regroup (call_text n a.text) (flat_map evidence_text a.seen) (did_text a.result) r in
    let right : call_lines n b ++ s ≡ call_text n b.text ++ (flat_map evidence_text b.seen ++ (did_text b.result ++ s)) = regroup (call_text n b.text) (flat_map evidence_text b.seen) (did_text b.result) s in
    let text = text_once n a.text b.text _ _ h.text k.text (sym left ∙ e ∙ right) in
    let seen = each_once evidence_text whole IsToldEvidence BeginsEvidence Anything evidence_read a.seen b.seen (did_text a.result ++ r) (did_text b.result ++ s) h.told.seen k.told.seen
    (λ b. b refl refl) (λ b. b refl refl) tt tt text.1 in
    let same = same_list a.seen b.seen seen.0 in
    let did = did_once a.result b.result r s h.told.result k.told.result seen.1 in
    let all : a ≡ b = λ i. record { text = text.0 i; seen = same i; result = did.0 i } in
    (all, did.1)

abbrev BeginsCall : List ℕ → Type 0
BeginsCall r = first r ≡ 99

calls_read : (n : ℕ) → ReadOnce (call_lines n) whole IsRead BeginsCall Anything
calls_read n = record { begins = λ _ _. refl; goes_on = λ _ _. tt; once = λ a b r s h k _ _ e. call_once n a b r s h k e }

all_read : (version : Version) (calls : List CallPart) → All (IsCallPart version) calls → All IsToldCall calls → All IsRead calls
all_read version [] h k = All-nil IsRead
all_read version (x ∷ xs) h k =
    All-cons IsRead x xs (record { text = (All-head (IsCallPart version) x xs h).text; told = All-head IsToldCall x xs k })
    (all_read version xs (All-tail (IsCallPart version) x xs h) (All-tail IsToldCall x xs k))

-- an actor of the grammar, the fields of whose calls are such as the types hold
pub record IsReadActor (version : Version) (actor : ActorPart) : Type 0 where
  pub grammar : IsActor version actor
  pub told : IsToldActor actor

-- no call begins what stands behind an actor
abbrev pub IsBehindActor : List ℕ → Type 0
IsBehindActor r = first r ≢ 99

actor_once : (version : Version) (n : ℕ) (a b : ActorPart) (r s : List ℕ) → IsReadActor version a → IsReadActor version b → IsBehindActor r → IsBehindActor s → actor_lines n a ++ r ≡ actor_lines n b ++ s → (a ≡ b) × (r ≡ s)
actor_once version n a b r s h k hr hs e =
    let parts = sym (append_assoc (actor_text n) (numbered call_lines 1 a.calls) r) ∙ e ∙ append_assoc (actor_text n) (numbered call_lines 1 b.calls) s in
    let behind = append_cancel_left (actor_text n) (numbered call_lines 1 a.calls ++ r) (numbered call_lines 1 b.calls ++ s) parts in
    let calls = numbered_once call_lines whole IsRead BeginsCall Anything calls_read 1 a.calls b.calls r s (all_read version a.calls h.grammar.calls h.told) (all_read version b.calls k.grammar.calls k.told)
    hr hs tt tt behind in
    let same = same_list a.calls b.calls calls.0 in
    let all : a ≡ b = λ i. record { calls = same i } in
    (all, calls.1)

abbrev pub BeginsActor : List ℕ → Type 0
BeginsActor r = first r ≡ 97

pub actors_read : (version : Version) (n : ℕ) → ReadOnce (actor_lines n) whole (IsReadActor version) BeginsActor IsBehindActor
actors_read version n = record { begins = λ _ _. refl; goes_on = λ a r same. apart 97 99 (omega arith) same; once = actor_once version n }

-- the actors of a body
pub all_actors : (version : Version) (actors : List ActorPart) → All (IsActor version) actors → All IsToldActor actors → All (IsReadActor version) actors
all_actors version [] h k = All-nil (IsReadActor version)
all_actors version (x ∷ xs) h k =
    All-cons (IsReadActor version) x xs (record { grammar = All-head (IsActor version) x xs h; told = All-head IsToldActor x xs k })
    (all_actors version xs (All-tail (IsActor version) x xs h) (All-tail IsToldActor x xs k))
