-- A text is of one transcript, but for the octets that were posted.
use Rattle.std.proofs.Common.{◌≡◌, ◌≢◌, ◌⊎◌, inl, inr, ℕ, ◌^◌, ◌<◌, Bool, true, false, List, [], ◌∷◌, ◌++◌, map, All, Option, Some, None, option_to_list, refl, sym, ap, ◌∙◌, subst, arith, codes, decimal, append_assoc, append-nil, if◌then◌else◌}
use Rattle.std.proofs.lemmas.List.{append_cancel_left}
use Rattle.std.proofs.lemmas.List.Elements.{All-cons, All-head, All-nil, All-tail}
use Rattle.std.specs.Prelude.{IsNone, IsSome}
use Rattle.std.specs.List.{flat_map}
use Rattle.lw_transcript.specs.declared.lines.Version.{Version}
use Rattle.lw_transcript.specs.declared.lines.Version.TheVariants.{One, Two}
use Rattle.lw_transcript.specs.declared.lines.Form.{Form}
use Rattle.lw_transcript.specs.declared.lines.Form.TheVariants.{Serial, Run, Pair}
use Rattle.lw_transcript.specs.declared.lines.Sizes.{Sizes}
use Rattle.lw_transcript.specs.declared.lines.ActorPart.{ActorPart}
use Rattle.lw_transcript.specs.declared.lines.Left.{Left}
use Rattle.lw_transcript.specs.declared.lines.Share.{Share}
use Rattle.lw_transcript.specs.declared.lines.Pools.{Pools}
use Rattle.lw_transcript.specs.declared.lines.EndLine.{EndLine}
use Rattle.lw_transcript.specs.declared.lines.Body.{Body}
use Rattle.lw_transcript.specs.declared.lines.Transcript.{Transcript}
use Rattle.lw_transcript.specs.Fields.{Field, Word, Number, Name, Address, Hex, Flags, Share as ShareField, field_text, line}
use Rattle.lw_transcript.specs.CoreLines.{core_lines}
use Rattle.lw_transcript.specs.Transcript.{AreBodies, HasSizes, IsActor, IsBody, IsTranscript, actor_lines, body_text, end_fields, end_text, form_name, form_text, head_text, left_fields, left_text, numbered, pools_fields, side_text, sizes_fields, sizes_text, transcript_spelling, version_text}
use Rattle.lw_transcript.specs.Laws.{AreHeld, AreTold, IsHeld, IsTold, IsToldBody, IsToldCore, bare, bare_body, bare_core, bare_form}
use Rattle.lw_transcript.proofs.LineLists.{Anything, ReadOnce, apart, each_once, first, numbered_once, same_list, whole}
use Rattle.lw_transcript.proofs.FieldsBack.{Sort, AWord, ANumber, AShare, are_plain, fields_as, fields_back, sort_of}
use Rattle.lw_transcript.proofs.Tables.{Row, field_in, number_at, by_row, by_row_back, same_text, word_in}
use Rattle.lw_transcript.proofs.WordsOnce.{line_once}
use Rattle.lw_transcript.proofs.CoreOnce.{BeginsCore, IsBehindCore, behind_core, cores_read}
use Rattle.lw_transcript.proofs.ActorOnce.{BeginsActor, IsBehindActor, IsReadActor, actors_read, all_actors}

head_plain : (v : Version) (f : Form) → are_plain (Word (codes "lwip") ∷ Word (version_text v) ∷ Word (form_name f) ∷ []) ≡ true
head_plain One (Serial b) = refl
head_plain One (Run b) = refl
head_plain One (Pair a b) = refl
head_plain Two (Serial b) = refl
head_plain Two (Run b) = refl
head_plain Two (Pair a b) = refl

head_held : (v : Version) (f : Form) → AreHeld (Word (codes "lwip") ∷ Word (version_text v) ∷ Word (form_name f) ∷ [])
head_held v f =
    All-cons IsHeld (Word (codes "lwip")) (Word (version_text v) ∷ Word (form_name f) ∷ []) tt
    (All-cons IsHeld (Word (version_text v)) (Word (form_name f) ∷ []) tt (All-cons IsHeld (Word (form_name f)) [] tt (All-nil IsHeld)))

same_version : (v w : Version) → version_text v ≡ version_text w → v ≡ w
same_version One One e = refl
same_version One Two e = apart 49 50 (omega arith) (ap first e)
same_version Two One e = apart 50 49 (omega arith) (ap first e)
same_version Two Two e = refl

-- the first line
head_once : (v w : Version) (f g : Form) (r s : List ℕ) → head_text v f ++ r ≡ head_text w g ++ s → (v ≡ w) × (form_name f ≡ form_name g) × (r ≡ s)
head_once v w f g r s e =
    let words = line_once (Word (codes "lwip")) (Word (codes "lwip")) (Word (version_text v) ∷ Word (form_name f) ∷ []) (Word (version_text w) ∷ Word (form_name g) ∷ []) r s
    (head_plain v f) (head_plain w g) (head_held v f) (head_held w g) e in
    let both = words.0 in
    let versions : version_text v ≡ version_text w = cc in
    let names : form_name f ≡ form_name g = cc in
    (same_version v w versions, names, words.1)

-- the line of the sizes
abbrev sizes_row : Row Sizes
sizes_row = record {
  word = codes "sizes";
  sorts = λ _. AWord ∷ AWord ∷ ANumber ∷ AWord ∷ ANumber ∷ AWord ∷ ANumber ∷ AWord ∷ ANumber ∷ AWord ∷ ANumber ∷ AWord ∷ ANumber ∷ AWord ∷ ANumber ∷ AWord ∷ ANumber ∷ [];
  value = λ fs. record {
    ram = number_at 2 fs;
    pool = number_at 4 fs;
    rom = number_at 6 fs;
    reference = number_at 8 fs;
    mailbox = number_at 10 fs;
    tcpip = number_at 12 fs;
    descriptors = number_at 14 fs;
    window = number_at 16 fs;
  };
}

sizes_back : (x : Sizes) → AreHeld (sizes_fields x) → by_row sizes_row (map field_text (sizes_fields x) ++ []) ≡ x
sizes_back x h = by_row_back sizes_row (sizes_fields x) [] x refl refl h refl

-- the fields behind the first
abbrev more_sizes : Sizes → List Field
more_sizes sizes =
    Word (codes "ram") ∷ Number sizes.ram ∷ Word (codes "pool") ∷ Number sizes.pool
    ∷ Word (codes "rom") ∷ Number sizes.rom ∷ Word (codes "ref") ∷ Number sizes.reference
    ∷ Word (codes "box") ∷ Number sizes.mailbox ∷ Word (codes "tcpip") ∷ Number sizes.tcpip
    ∷ Word (codes "fds") ∷ Number sizes.descriptors ∷ Word (codes "window") ∷ Number sizes.window ∷ []

sizes_once : (a b : Sizes) (r s : List ℕ) → AreHeld (sizes_fields a) → AreHeld (sizes_fields b) → sizes_text a ++ r ≡ sizes_text b ++ s → (a ≡ b) × (r ≡ s)
sizes_once a b r s h k e =
    let words = line_once (Word (codes "sizes")) (Word (codes "sizes")) (more_sizes a) (more_sizes b) r s refl refl h k e in
    (sym (sizes_back a h) ∙ ap (λ (ws : List (List ℕ)). by_row sizes_row (ws ++ [])) words.0 ∙ sizes_back b k, words.1)

-- the sizes of a body, where they are told by its version
told_sizes : (v : Version) (a b : Option Sizes) (r s : List ℕ) → HasSizes v a → HasSizes v b
    → All (λ sizes. AreHeld (sizes_fields sizes)) (option_to_list a) → All (λ sizes. AreHeld (sizes_fields sizes)) (option_to_list b)
    → flat_map sizes_text (option_to_list a) ++ r ≡ flat_map sizes_text (option_to_list b) ++ s → (a ≡ b) × (r ≡ s)
told_sizes One None None r s h k p q e = (refl, e)
told_sizes One None (Some b) r s h k p q e = absurd (let e : true ≡ false = k in cc)
told_sizes One (Some a) b r s h k p q e = absurd (let e : true ≡ false = h in cc)
told_sizes Two None b r s h k p q e = absurd (let e : false ≡ true = h in cc)
told_sizes Two (Some a) None r s h k p q e = absurd (let e : false ≡ true = k in cc)
told_sizes Two (Some a) (Some b) r s h k p q e =
    let parts = sym (ap (λ (t : List ℕ). t ++ r) (append-nil (sizes_text a))) ∙ e ∙ ap (λ (t : List ℕ). t ++ s) (append-nil (sizes_text b)) in
    let same = sizes_once a b r s (All-head (λ (x : Sizes). AreHeld (sizes_fields x)) a [] p) (All-head (λ (x : Sizes). AreHeld (sizes_fields x)) b [] q) parts in
    (ap Some same.0, same.1)

-- the line of what was left
abbrev left_row : Row Left
left_row = record {
  word = codes "left";
  sorts = λ _. AWord ∷ ANumber ∷ ANumber ∷ ANumber ∷ [];
  value = λ fs. record { conn = number_at 1 fs; ticket = number_at 2 fs; from = number_at 3 fs };
}

left_back : (x : Left) → AreHeld (left_fields x) → by_row left_row (map field_text (left_fields x) ++ []) ≡ x
left_back x h = by_row_back left_row (left_fields x) [] x refl refl h refl

left_once : (a b : Left) (r s : List ℕ) → AreHeld (left_fields a) → AreHeld (left_fields b) → left_text a ++ r ≡ left_text b ++ s → (a ≡ b) × (r ≡ s)
left_once a b r s h k e =
    let words = line_once (Word (codes "left")) (Word (codes "left")) (Number a.conn ∷ Number a.ticket ∷ Number a.from ∷ []) (Number b.conn ∷ Number b.ticket ∷ Number b.from ∷ []) r s refl refl h k e in
    (sym (left_back a h) ∙ ap (λ (ws : List (List ℕ)). by_row left_row (ws ++ [])) words.0 ∙ left_back b k, words.1)

abbrev IsToldLeft : Left → Type 0
IsToldLeft left = AreHeld (left_fields left)

abbrev BeginsLeft : List ℕ → Type 0
BeginsLeft r = first r ≡ 108

lefts_read : ReadOnce left_text whole IsToldLeft BeginsLeft Anything
lefts_read = record { begins = λ _ _. refl; goes_on = λ _ _. tt; once = λ a b r s h k _ _ e. left_once a b r s h k e }

-- the line of the end
abbrev end_sorts : List (List ℕ) → List Sort
end_sorts words =
    if same_text (word_in 5 words) (codes "pools") then
    AWord ∷ AWord ∷ ANumber ∷ AWord ∷ ANumber ∷ AWord ∷ AWord ∷ AShare ∷ AWord ∷ AShare ∷ AWord ∷ AShare ∷ AWord ∷ AShare ∷ []
    else AWord ∷ AWord ∷ ANumber ∷ AWord ∷ ANumber ∷ []

abbrev share_in : Field → Share
share_in (Word word) = record { free = 0; all = 0 }
share_in (Number n) = record { free = 0; all = 0 }
share_in (Name letters n) = record { free = 0; all = 0 }
share_in (Address ip) = record { free = 0; all = 0 }
share_in (Hex octets) = record { free = 0; all = 0 }
share_in (Flags flags) = record { free = 0; all = 0 }
share_in (ShareField free all) = record { free = free; all = all }

abbrev share_at : ℕ → List Field → Share
share_at n fs = share_in (field_in n fs)

abbrev pools_in : Field → List Field → Option Pools
pools_in (Word word) fs =
    if same_text word (codes "pools") then Some (record { ram = share_at 7 fs; pool = share_at 9 fs; rom = share_at 11 fs; reference = share_at 13 fs }) else None
pools_in (Number n) fs = None
pools_in (Name letters n) fs = None
pools_in (Address ip) fs = None
pools_in (Hex octets) fs = None
pools_in (Flags flags) fs = None
pools_in (ShareField free all) fs = None

abbrev end_row : Row EndLine
end_row = record {
  word = codes "end";
  sorts = end_sorts;
  value = λ fs. record { core = number_at 2 fs; out = number_at 4 fs; pools = pools_in (field_in 5 fs) fs };
}

abbrev end_line : ℕ → ℕ → Option Pools → EndLine
end_line core out pools = record { core = core; out = out; pools = pools }

end_plain : (core out : ℕ) (pools : Option Pools) → are_plain (end_fields (end_line core out pools)) ≡ true
end_plain core out None = refl
end_plain core out (Some pools) = refl

end_back : (core out : ℕ) (pools : Option Pools) → AreHeld (end_fields (end_line core out pools))
    → by_row end_row (map field_text (end_fields (end_line core out pools)) ++ []) ≡ end_line core out pools
end_back core out None h = by_row_back end_row (end_fields (end_line core out None)) [] (end_line core out None) refl refl h refl
end_back core out (Some pools) h = by_row_back end_row (end_fields (end_line core out (Some pools))) [] (end_line core out (Some pools)) refl refl h refl

abbrev more_end : EndLine → List Field
more_end end = Word (codes "core") ∷ Number end.core ∷ Word (codes "out") ∷ Number end.out ∷ pools_fields end.pools

end_once : (a b : EndLine) (r s : List ℕ) → AreHeld (end_fields a) → AreHeld (end_fields b) → end_text a ++ r ≡ end_text b ++ s → (a ≡ b) × (r ≡ s)
end_once a b r s h k e =
    let words = line_once (Word (codes "end")) (Word (codes "end")) (more_end a) (more_end b) r s (end_plain a.core a.out a.pools) (end_plain b.core b.out b.pools) h k e in (
      sym (end_back a.core a.out a.pools h) ∙ ap (λ (ws : List (List ℕ)). by_row end_row (ws ++ [])) words.0 ∙ end_back b.core b.out b.pools k,
      words.1,
    )

-- behind what was left the end begins
no_left : (b : Body) (r : List ℕ) → BeginsLeft (end_text b.end ++ r) → ⊥
no_left b r e = omega arith

-- it begins with an l or an e
lefts_begin : (lefts : List Left) (end : EndLine) (r : List ℕ) → (first (flat_map left_text lefts ++ (end_text end ++ r)) ≡ 108) ⊎ (first (flat_map left_text lefts ++ (end_text end ++ r)) ≡ 101)
lefts_begin [] end r = inr refl
lefts_begin (x ∷ xs) end r = inl refl

no_actor : (r : List ℕ) → (first r ≡ 108) ⊎ (first r ≡ 101) → (BeginsActor r → ⊥) × IsBehindActor r
no_actor r (inl a) = (λ c. omega arith, λ c. omega arith)
no_actor r (inr a) = (λ c. omega arith, λ c. omega arith)

-- what stands behind core lines: actors, or what stands behind them
actors_begin : (actors : List ActorPart) (lefts : List Left) (end : EndLine) (r : List ℕ)
    → (first (numbered actor_lines 0 actors ++ (flat_map left_text lefts ++ (end_text end ++ r))) ≡ 97)
    ⊎ ((first (numbered actor_lines 0 actors ++ (flat_map left_text lefts ++ (end_text end ++ r))) ≡ 108)
    ⊎ (first (numbered actor_lines 0 actors ++ (flat_map left_text lefts ++ (end_text end ++ r))) ≡ 101))
actors_begin [] lefts end r = inr (lefts_begin lefts end r)
actors_begin (x ∷ xs) lefts end r = inl refl

no_core : (r : List ℕ) → (first r ≡ 97) ⊎ ((first r ≡ 108) ⊎ (first r ≡ 101)) → (BeginsCore r → ⊥) × IsBehindCore r
no_core r (inl a) = (λ c. omega arith, behind_core r (λ c. omega arith) (λ c. omega arith) (λ c. omega arith))
no_core r (inr (inl a)) = (λ c. omega arith, behind_core r (λ c. omega arith) (λ c. omega arith) (λ c. omega arith))
no_core r (inr (inr a)) = (λ c. omega arith, behind_core r (λ c. omega arith) (λ c. omega arith) (λ c. omega arith))

-- the parts of a body
body_parts : (a b c d e r : List ℕ) → (a ++ b ++ c ++ d ++ e) ++ r ≡ a ++ (b ++ (c ++ (d ++ (e ++ r))))
body_parts a b c d e r = simp append_assoc

body_once : (v : Version) (a b : Body) (r s : List ℕ) → IsBody v a → IsBody v b → IsToldBody a → IsToldBody b → body_text a ++ r ≡ body_text b ++ s → (bare_body a ≡ bare_body b) × (r ≡ s)
body_once v a b r s h k p q e =
    let after_a = no_core (numbered actor_lines 0 a.actors ++ (flat_map left_text a.left ++ (end_text a.end ++ r))) (actors_begin a.actors a.left a.end r) in
    let after_b = no_core (numbered actor_lines 0 b.actors ++ (flat_map left_text b.left ++ (end_text b.end ++ s))) (actors_begin b.actors b.left b.end s) in
    let left_a = no_actor (flat_map left_text a.left ++ (end_text a.end ++ r)) (lefts_begin a.left a.end r) in
    let left_b = no_actor (flat_map left_text b.left ++ (end_text b.end ++ s)) (lefts_begin b.left b.end s) in
    let parts = sym (body_parts (flat_map sizes_text (option_to_list a.sizes)) (flat_map core_lines a.core) (numbered actor_lines 0 a.actors) (flat_map left_text a.left) (end_text a.end) r) ∙ e
    ∙ body_parts (flat_map sizes_text (option_to_list b.sizes)) (flat_map core_lines b.core) (numbered actor_lines 0 b.actors) (flat_map left_text b.left) (end_text b.end) s in
    let sizes = told_sizes v a.sizes b.sizes _ _ h.sizes k.sizes p.sizes q.sizes parts in
    let cores = each_once core_lines bare_core IsToldCore BeginsCore IsBehindCore cores_read a.core b.core _ _ p.core q.core after_a.0 after_b.0 after_a.1 after_b.1 sizes.1 in
    let actors = numbered_once actor_lines whole (IsReadActor v) BeginsActor IsBehindActor (actors_read v) 0 a.actors b.actors _ _
    (all_actors v a.actors h.actors p.actors) (all_actors v b.actors k.actors q.actors) left_a.0 left_b.0 left_a.1 left_b.1 cores.1 in
    let lefts = each_once left_text whole IsToldLeft BeginsLeft Anything lefts_read a.left b.left _ _ p.left q.left (no_left a r) (no_left b s) tt tt actors.1 in
    let end = end_once a.end b.end r s p.end q.end lefts.1 in
    let same_actors = same_list a.actors b.actors actors.0 in
    let same_lefts = same_list a.left b.left lefts.0 in
    let same : bare_body a ≡ bare_body b = λ i. record { sizes = sizes.0 i; core = cores.0 i; actors = same_actors i; left = same_lefts i; end = end.0 i } in
    (same, end.1)

-- two bodies, each behind its side
pair_parts : (a b c d : List ℕ) → a ++ b ++ c ++ d ≡ a ++ (b ++ (c ++ d))
pair_parts a b c d = simp append_assoc

-- one body alone
alone : (v : Version) (a b : Body) → IsBody v a → IsBody v b → IsToldBody a → IsToldBody b → body_text a ≡ body_text b → bare_body a ≡ bare_body b
alone v a b h k p q e = (body_once v a b [] [] h k p q (append-nil (body_text a) ∙ e ∙ sym (append-nil (body_text b)))).0

form_once : (v : Version) (f g : Form) → AreBodies v f → AreBodies v g → AreTold f → AreTold g → form_name f ≡ form_name g → form_text f ≡ form_text g → bare_form f ≡ bare_form g
form_once v (Serial a) (Serial b) h k p q n e = ap Serial (alone v a b h k p q e)
form_once v (Serial a) (Run b) h k p q n e = apart 115 114 (omega arith) (ap first n)
form_once v (Serial a) (Pair b c) h k p q n e = apart 115 112 (omega arith) (ap first n)
form_once v (Run a) (Serial b) h k p q n e = apart 114 115 (omega arith) (ap first n)
form_once v (Run a) (Run b) h k p q n e = ap Run (alone v a b h k p q e)
form_once v (Run a) (Pair b c) h k p q n e = apart 114 112 (omega arith) (ap first n)
form_once v (Pair a b) (Serial c) h k p q n e = apart 112 115 (omega arith) (ap first n)
form_once v (Pair a b) (Run c) h k p q n e = apart 112 114 (omega arith) (ap first n)
form_once v (Pair a b) (Pair c d) h k p q n e =
    let texts = sym (pair_parts (side_text (codes "a")) (body_text a) (side_text (codes "b")) (body_text b)) ∙ e
    ∙ pair_parts (side_text (codes "a")) (body_text c) (side_text (codes "b")) (body_text d) in
    let one = body_once v a c _ _ h.0 k.0 p.0 q.0 (append_cancel_left (side_text (codes "a")) _ _ texts) in
    let two = alone v b d h.1 k.1 p.1 q.1 (append_cancel_left (side_text (codes "b")) _ _ one.1) in
    let first_body : bare_body a ≡ bare_body c = one.0 in
    cc

-- a text is of one transcript
pub transcript_once : (t u : Transcript) → IsTranscript t → IsTranscript u → IsTold t → IsTold u → transcript_spelling t ≡ transcript_spelling u → bare t ≡ bare u
transcript_once t u h k p q e =
    let head = head_once t.version u.version t.form u.form (form_text t.form) (form_text u.form) e in
    let other : AreBodies t.version u.form = subst (λ (v : Version). AreBodies v u.form) (sym head.0) k.bodies in
    let forms = form_once t.version t.form u.form h.bodies other p q head.1 head.2 in
    λ i. record { version = head.0 i; form = forms i }
