-- The text of core lines is of one list of them, but for the octets that were posted.
use Rattle.std.proofs.Common.{◌≡◌, ◌≢◌, ℕ, ◌⊎◌, inl, inr, ◌^◌, ◌<◌, Bool, true, false, ◌&&◌, List, [], ◌∷◌, ◌++◌, map, All, refl, sym, ap, ◌∙◌, subst, arith, codes, decimal, append_assoc}
use Rattle.std.proofs.lemmas.Bool.{and_parts}
use Rattle.std.proofs.lemmas.Fmt.{decimal_injective}
use Rattle.std.proofs.lemmas.List.{append_cancel_left, map-append}
use Rattle.std.proofs.lemmas.List.Elements.{All-cons, All-head, All-nil, All-tail}
use Rattle.std.proofs.lemmas.List.Folds.{list_all-append}
use Rattle.std.specs.List.{flat_map}
use Rattle.hex.specs.Hex.{IsBytes, encode_lower}
use Rattle.lw_events.specs.declared.event.Event.{Event}
use Rattle.lw_events.specs.declared.event.Reply.{Reply}
use Rattle.lw_events.specs.declared.entry.Post.{Post}
use Rattle.lw_events.specs.declared.entry.Post.TheVariants.{Item, Full}
use Rattle.lw_events.specs.declared.entry.Entry.{Entry}
use Rattle.lw_transcript.specs.declared.lines.CoreLine.{CoreLine}
use Rattle.lw_transcript.specs.Fields.{Field, Word, Number, Hex, field_text, line}
use Rattle.lw_transcript.specs.CoreLines.{core_fields, core_lines, core_text, event_fields, item_fields, out_text, post_fields, post_text, reply_fields, short_fields}
use Rattle.lw_transcript.specs.Laws.{AreHeld, IsHeld, IsToldCore, bare_core, bare_post}
use Rattle.lw_transcript.proofs.FieldsBack.{are_plain, field_as, is_plain}
use Rattle.lw_transcript.proofs.WordsOnce.{line_once}
use Rattle.lw_transcript.proofs.EventsBack.{event_back, event_in, event_plain, reply_back, reply_in, reply_plain}
use Rattle.lw_transcript.proofs.PostsBack.{post_back, post_in, post_plain}
use Rattle.lw_transcript.proofs.LineLists.{Anything, ReadOnce, apart, each_once, first, regroup, same_list, whole}
use Rattle.lw_transcript.proofs.Cut.{hex_injective}

-- the first of two parts
front_held : (xs ys : List Field) → AreHeld (xs ++ ys) → AreHeld xs
front_held [] ys h = All-nil IsHeld
front_held (x ∷ xs) ys h = All-cons IsHeld x xs (All-head IsHeld x (xs ++ ys) h) (front_held xs ys (All-tail IsHeld x (xs ++ ys) h))

-- the second
back_held : (xs ys : List Field) → AreHeld (xs ++ ys) → AreHeld ys
back_held [] ys h = h
back_held (x ∷ xs) ys h = back_held xs ys (All-tail IsHeld x (xs ++ ys) h)

short_plain : (x : Bool) → are_plain (short_fields x) ≡ true
short_plain true = refl
short_plain false = refl

short_once : (x y : Bool) → map field_text (short_fields x) ≡ map field_text (short_fields y) → x ≡ y
short_once true true e = refl
short_once true false e = absurd (let no : codes "short" ∷ [] ≡ [] = e in cc)
short_once false true e = absurd (let no : [] ≡ codes "short" ∷ [] = e in cc)
short_once false false e = refl

-- the fields behind the actor
abbrev behind_actor : Entry → List Field
behind_actor x = event_fields x.event ++ Word (codes "->") ∷ (reply_fields x.reply ++ short_fields x.short)

behind_plain : (x : Entry) → are_plain (behind_actor x) ≡ true
behind_plain x =
    let a = event_plain x.event in
    let b = reply_plain x.reply in
    let c = short_plain x.short in
    list_all-append is_plain (event_fields x.event) (Word (codes "->") ∷ (reply_fields x.reply ++ short_fields x.short))
    ∙ (rw (a, list_all-append is_plain (reply_fields x.reply) (short_fields x.short), b, c) refl)

-- the words behind the actor
abbrev end_words : Entry → List (List ℕ)
end_words x = map field_text (reply_fields x.reply) ++ map field_text (short_fields x.short)

words_behind : (x : Entry) → map field_text (behind_actor x) ≡ map field_text (event_fields x.event) ++ codes "->" ∷ end_words x
words_behind x =
    map-append field_text (event_fields x.event) (Word (codes "->") ∷ (reply_fields x.reply ++ short_fields x.short))
    ∙ ap (λ (ws : List (List ℕ)). map field_text (event_fields x.event) ++ codes "->" ∷ ws) (map-append field_text (reply_fields x.reply) (short_fields x.short))

-- what the words behind the actor are of
record SameEnd (x y : Entry) : Type 0 where
  event : x.event ≡ y.event
  reply : x.reply ≡ y.reply
  short : x.short ≡ y.short

end_once : (x y : Entry) → AreHeld (behind_actor x) → AreHeld (behind_actor y) → map field_text (behind_actor x) ≡ map field_text (behind_actor y) → SameEnd x y
end_once x y h k e =
    let words = sym (words_behind x) ∙ e ∙ words_behind y in
    let event : x.event ≡ y.event =
    sym (event_back x.event (end_words x) (front_held (event_fields x.event) _ h)) ∙ ap event_in words
    ∙ event_back y.event (end_words y) (front_held (event_fields y.event) _ k) in
    let same : map field_text (event_fields x.event) ++ codes "->" ∷ end_words x ≡ map field_text (event_fields x.event) ++ codes "->" ∷ end_words y =
    words ∙ ap (λ (ev : Event (List ℕ)). map field_text (event_fields ev) ++ codes "->" ∷ end_words y) (sym event) in
    let arrows : codes "->" ∷ end_words x ≡ codes "->" ∷ end_words y = append_cancel_left (map field_text (event_fields x.event)) (codes "->" ∷ end_words x) (codes "->" ∷ end_words y) same in
    let rest : end_words x ≡ end_words y = cc in
    let held_x = All-tail IsHeld (Word (codes "->")) (reply_fields x.reply ++ short_fields x.short) (back_held (event_fields x.event) _ h) in
    let held_y = All-tail IsHeld (Word (codes "->")) (reply_fields y.reply ++ short_fields y.short) (back_held (event_fields y.event) _ k) in
    let reply : x.reply ≡ y.reply =
    sym (reply_back x.reply (map field_text (short_fields x.short)) (front_held (reply_fields x.reply) _ held_x)) ∙ ap reply_in rest
    ∙ reply_back y.reply (map field_text (short_fields y.short)) (front_held (reply_fields y.reply) _ held_y) in
    let ends : map field_text (reply_fields x.reply) ++ map field_text (short_fields x.short) ≡ map field_text (reply_fields x.reply) ++ map field_text (short_fields y.short) =
    rest ∙ ap (λ (re : Reply). map field_text (reply_fields re) ++ map field_text (short_fields y.short)) (sym reply) in
    record {
      event = event;
      reply = reply;
      short = short_once x.short y.short (append_cancel_left (map field_text (reply_fields x.reply)) (map field_text (short_fields x.short)) (map field_text (short_fields y.short)) ends);
    }

-- the line of an event is of one number and one entry, but for posts and frames
record SameLine (a b : CoreLine) (r s : List ℕ) : Type 0 where
  number : a.number ≡ b.number
  actor : a.entry.actor ≡ b.entry.actor
  end : SameEnd a.entry b.entry
  behind : r ≡ s

core_line_once : (a b : CoreLine) (r s : List ℕ) → IsToldCore a → IsToldCore b → core_text a.number a.entry ++ r ≡ core_text b.number b.entry ++ s → SameLine a b r s
core_line_once a b r s h k e =
    let x = a.entry in
    let y = b.entry in
    let xs = Number a.number ∷ Number x.actor ∷ behind_actor x in
    let ys = Number b.number ∷ Number y.actor ∷ behind_actor y in
    let words = line_once (Word (codes "core")) (Word (codes "core")) xs ys r s (behind_plain x) (behind_plain y) h.fields k.fields e in
    let both = words.0 in
    let held_x = All-tail IsHeld (Word (codes "core")) xs h.fields in
    let held_y = All-tail IsHeld (Word (codes "core")) ys k.fields in
    let more_x = All-tail IsHeld (Number a.number) (Number x.actor ∷ behind_actor x) held_x in
    let more_y = All-tail IsHeld (Number b.number) (Number y.actor ∷ behind_actor y) held_y in
    let na : a.number < 2 ^ 32 = All-head IsHeld (Number a.number) (Number x.actor ∷ behind_actor x) held_x in
    let nb : b.number < 2 ^ 32 = All-head IsHeld (Number b.number) (Number y.actor ∷ behind_actor y) held_y in
    let xa : x.actor < 2 ^ 32 = All-head IsHeld (Number x.actor) (behind_actor x) more_x in
    let ya : y.actor < 2 ^ 32 = All-head IsHeld (Number y.actor) (behind_actor y) more_y in
    let numbers : decimal a.number ≡ decimal b.number = cc in
    let actors : decimal x.actor ≡ decimal y.actor = cc in
    let rest : map field_text (behind_actor x) ≡ map field_text (behind_actor y) = cc in
    record {
      number = decimal_injective a.number b.number (omega arith) (omega arith) numbers;
      actor = decimal_injective x.actor y.actor (omega arith) (omega arith) actors;
      end = end_once x y (All-tail IsHeld (Number x.actor) (behind_actor x) more_x) (All-tail IsHeld (Number y.actor) (behind_actor y) more_y) rest;
      behind = words.1;
    }

-- the line of a frame
out_once : (a b r s : List ℕ) → IsBytes a → IsBytes b → out_text a ++ r ≡ out_text b ++ s → (a ≡ b) × (r ≡ s)
out_once a b r s h k e =
    let held = λ (octets : List ℕ) (bytes : IsBytes octets). All-cons IsHeld (Word (codes "out")) (Hex octets ∷ []) tt (All-cons IsHeld (Hex octets) [] bytes (All-nil IsHeld)) in
    let words = line_once (Word (codes "out")) (Word (codes "out")) (Hex a ∷ []) (Hex b ∷ []) r s refl refl (held a h) (held b k) e in
    let both = words.0 in
    let texts : encode_lower a ≡ encode_lower b = cc in
    (hex_injective a b h k texts, words.1)

-- the line of a post
abbrev IsToldPost : Post → Type 0
IsToldPost post = AreHeld (post_fields post)

post_parts : (x y : Post) (r s : List ℕ) → IsToldPost x → IsToldPost y → post_text x ++ r ≡ post_text y ++ s → (map field_text (post_fields x) ≡ map field_text (post_fields y)) × (r ≡ s)
post_parts (Item c t x) (Item d u y) r s h k e =
    line_once (Word (codes "post")) (Word (codes "post")) (Number c ∷ Number t ∷ item_fields x) (Number d ∷ Number u ∷ item_fields y) r s (post_plain (Item c t x)) (post_plain (Item d u y)) h k e
post_parts (Item c t x) (Full d) r s h k e = apart 112 102 (omega arith) (ap first e)
post_parts (Full c) (Item d u y) r s h k e = apart 102 112 (omega arith) (ap first e)
post_parts (Full c) (Full d) r s h k e =
    line_once (Word (codes "full")) (Word (codes "full")) (Number c ∷ []) (Number d ∷ []) r s refl refl h k e

post_once : (x y : Post) (r s : List ℕ) → IsToldPost x → IsToldPost y → post_text x ++ r ≡ post_text y ++ s → (bare_post x ≡ bare_post y) × (r ≡ s)
post_once x y r s h k e =
    let words = post_parts x y r s h k e in
    (sym (post_back x [] h) ∙ ap (λ (ws : List (List ℕ)). post_in (ws ++ [])) words.0 ∙ post_back y [] k, words.1)

-- the line of a post begins as no other does
abbrev BeginsPost : List ℕ → Type 0
BeginsPost r = (first r ≡ 112) ⊎ (first r ≡ 102)

post_begins : (a : Post) (r : List ℕ) → BeginsPost (post_text a ++ r)
post_begins (Item c t x) r = inl refl
post_begins (Full c) r = inr refl

posts_read : ReadOnce post_text bare_post IsToldPost BeginsPost Anything
posts_read = record { begins = post_begins; goes_on = λ _ _. tt; once = λ a b r s h k _ _ e. post_once a b r s h k e }

-- so does the line of a frame
abbrev BeginsOut : List ℕ → Type 0
BeginsOut r = first r ≡ 111

outs_read : ReadOnce out_text whole IsBytes BeginsOut Anything
outs_read = record { begins = λ _ _. refl; goes_on = λ _ _. tt; once = λ a b r s h k _ _ e. out_once a b r s h k e }

-- what stands behind a core line begins with no post and no frame
pub record IsBehindCore (r : List ℕ) : Type 0 where
  pub post : BeginsPost r → ⊥
  pub out : BeginsOut r → ⊥

-- with other octets no post begins, and no frame
pub behind_core : (r : List ℕ) → first r ≢ 112 → first r ≢ 102 → first r ≢ 111 → IsBehindCore r
behind_core r no_post no_full no_out = record { post = λ b. elim b [ inl p ↦ no_post p | inr f ↦ no_full f ]; out = no_out }

-- nor does one behind frames
outs_behind : (outs : List (List ℕ)) (r : List ℕ) → IsBehindCore r → BeginsPost (flat_map out_text outs ++ r) → ⊥
outs_behind [] r h b = h.post b
outs_behind (x ∷ xs) r h b =
    elim b [
      | inl p ↦ apart 111 112 (omega arith) p
      | inr f ↦ apart 111 102 (omega arith) f
    ]

core_once : (a b : CoreLine) (r s : List ℕ) → IsToldCore a → IsToldCore b → IsBehindCore r → IsBehindCore s → core_lines a ++ r ≡ core_lines b ++ s → (bare_core a ≡ bare_core b) × (r ≡ s)
core_once a b r s h k hr hs e =
    let x = a.entry in
    let y = b.entry in
    let left : core_lines a ++ r ≡ core_text a.number x ++ (flat_map post_text x.posts ++ (flat_map out_text x.frames ++ r)) = regroup (core_text a.number x) (flat_map post_text x.posts) (flat_map out_text x.frames) r in
    let right : core_lines b ++ s ≡ core_text b.number y ++ (flat_map post_text y.posts ++ (flat_map out_text y.frames ++ s)) = regroup (core_text b.number y) (flat_map post_text y.posts) (flat_map out_text y.frames) s in
    let line = core_line_once a b _ _ h k (sym left ∙ e ∙ right) in
    let posts = each_once post_text bare_post IsToldPost BeginsPost Anything posts_read x.posts y.posts (flat_map out_text x.frames ++ r) (flat_map out_text y.frames ++ s) h.posts k.posts
    (outs_behind x.frames r hr) (outs_behind y.frames s hs) tt tt line.behind in
    let outs = each_once out_text whole IsBytes BeginsOut Anything outs_read x.frames y.frames r s h.frames k.frames hr.out hs.out tt tt posts.1 in
    let frames = same_list x.frames y.frames outs.0 in
    let same : bare_core a ≡ bare_core b = λ i. record {
      number = line.number i;
      entry = record { actor = line.actor i; event = line.end.event i; short = line.end.short i; posts = posts.0 i; frames = frames i; reply = line.end.reply i };
    } in
    (same, outs.1)

-- the core line begins as nothing else does that may stand behind core lines
abbrev pub BeginsCore : List ℕ → Type 0
BeginsCore r = first r ≡ 99

pub cores_read : ReadOnce core_lines bare_core IsToldCore BeginsCore IsBehindCore
cores_read = record {
  begins = λ _ _. refl;
  goes_on = λ a r. behind_core (core_lines a ++ r) (omega arith) (omega arith) (omega arith);
  once = core_once;
}
