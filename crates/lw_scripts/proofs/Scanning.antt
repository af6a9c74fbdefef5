-- What a reader knows of the octets that it has left.
use Rattle.std.proofs.Common.{◌≡◌, ◌≢◌, ℕ, zero, suc, ◌+◌, ◌-◌, ◌<◌, ◌≤◌, ◌==◌, Bool, true, false, cond, not, List, [], ◌∷◌, ◌++◌, length, map, take, IsTrue, MatchResult, IfOk, Option, Some, None, Result, Ok, Err, refl, sym, ap, ◌∙◌, subst, arith, append_assoc, append-nil, length-append, eqb-true}
use Rattle.std.proofs.lemmas.List.{map-append}
use Rattle.std.proofs.lemmas.List.Elements.{All-push, All-contains, Contains-append_left, Contains-push, filter-append}
use Rattle.std.proofs.lemmas.Option.{none-some}
use Rattle.std.specs.Option.{ok_or}
use Rattle.std.specs.Str.{IsAscii, IsNotAscii}
use Rattle.std.specs.List.{onto_first}
use Rattle.script_words.specs.Words.{pieces}
use Rattle.script_words.specs.declared.version.Version.{Version}
use Rattle.lw_scripts.specs.declared.part.Part.{Part}
use Rattle.lw_scripts.specs.declared.parts.Script.{Script}
use Rattle.lw_scripts.specs.declared.place.Place.{Place}
use Rattle.lw_scripts.specs.declared.place.Place.TheVariants.{Begin}
use Rattle.lw_scripts.specs.declared.reader.ScriptFault.{ScriptFault}
use Rattle.lw_scripts.specs.declared.reader.ScriptFault.TheVariants.{Line, NoMemory}
use Rattle.lw_scripts.specs.declared.wanted.Wanted.{Wanted}
use Rattle.lw_scripts.specs.Grammar.{BeginsScript, FailsAt, HasAsciiComments, IsFault, SpellsScript, is_comment, said}
use Rattle.lw_scripts.specs.Line.{IsPart, part_spelling}
use Rattle.lw_scripts.specs.Reading.{accept, script_of, version_of}
use Rattle.lw_scripts.specs.Told.{Answers, GoesOn, Knows, StopsAt, told}
use Rattle.lw_scripts.proofs.GrammarLaws.{wanted_here}
use Rattle.lw_scripts.proofs.LinesTold.{no_script, script_here}
use Rattle.lw_scripts.proofs.PartOnce.{one_part}
use Rattle.lw_scripts.proofs.Scripts.{begins, is_script}
use Rattle.lw_scripts.proofs.Sound.{step}

said_part : (lines : List (List ℕ)) (line : List ℕ) → is_comment line ≡ false → said (lines ++ line ∷ []) ≡ said lines ++ line ∷ []
said_part lines line is =
    filter-append (λ l. not (is_comment l)) lines (line ∷ [])
    ∙ ap (λ (b : Bool). said lines ++ cond (not b) (line ∷ []) []) is

said_comment : (lines : List (List ℕ)) (line : List ℕ) → is_comment line ≡ true → said (lines ++ line ∷ []) ≡ said lines
said_comment lines line is =
    filter-append (λ l. not (is_comment l)) lines (line ∷ [])
    ∙ ap (λ (b : Bool). said lines ++ cond (not b) (line ∷ []) []) is
    ∙ append-nil (said lines)

-- a comment that isn't ASCII stands in no script
pub stops_comment : (wanted : Wanted) (e : Place) (line : List ℕ) → is_comment line ≡ true → IsNotAscii line → GoesOn wanted e line None
stops_comment wanted e line is (i, high) = λ lines k (more, s, h).
    let ascii = All-contains (λ l. IsTrue (is_comment l) → IsAscii l) ((lines ++ line ∷ []) ++ more) line h.comments
    (Contains-append_left (lines ++ line ∷ []) more line (Contains-push lines line)) in
    let low = ascii (is) i in absurd (omega arith)

-- a comment that is ASCII says nothing
pub goes_on_comment : (wanted : Wanted) (e : Place) (line : List ℕ) → is_comment line ≡ true → IsAscii line → GoesOn wanted e line (Some e)
goes_on_comment wanted e line is ascii = λ lines k.
    record {
      comments = All-push (λ l. IsTrue (is_comment l) → IsAscii l) lines line k.comments (λ t. ascii);
      spelled = said_comment lines line is ∙ k.spelled;
      holds = k.holds;
    }

goes_on_part : (wanted : Wanted) (e next : Place) (line : List ℕ) → is_comment line ≡ false → Answers wanted e line (Some next) → GoesOn wanted e line (Some next)
goes_on_part wanted e next line is (p, h, spelled, accepted) = λ lines k.
    let s = step wanted e p next accepted k.holds h in
    record {
      comments = All-push (λ l. IsTrue (is_comment l) → IsAscii l) lines line k.comments (λ t. absurd (cc));
      spelled =
          said_part lines line is
          ∙ ap (λ (l : List (List ℕ)). l ++ line ∷ []) k.spelled
          ∙ ap (λ (l : List ℕ). map part_spelling (told e) ++ l ∷ []) spelled
          ∙ sym (map-append part_spelling (told e) (p ∷ []))
          ∙ ap (map part_spelling) (sym s.1);
      holds = s.0;
    }

stops_part : (wanted : Wanted) (e : Place) (line : List ℕ) → is_comment line ≡ false → Answers wanted e line None → GoesOn wanted e line None
stops_part wanted e line is refused = λ lines k (more, s, h).
    no_script wanted e s line (said more) k.holds (wanted_here wanted ((lines ++ line ∷ []) ++ more) s h)
    (sym (append_assoc (map part_spelling (told e)) (line ∷ []) (said more))
    ∙ ap (λ (l : List (List ℕ)). (l ++ line ∷ []) ++ said more) (sym k.spelled)
    ∙ ap (λ (l : List (List ℕ)). l ++ said more) (sym (said_part lines line is))
    ∙ sym (filter-append (λ l. not (is_comment l)) (lines ++ line ∷ []) more)
    ∙ h.spelled)
    refused

goes_on_line : (wanted : Wanted) (e : Place) (line : List ℕ) (o : Option Place) → is_comment line ≡ false → Answers wanted e line o → GoesOn wanted e line o
goes_on_line wanted e line None is h = stops_part wanted e line is h
goes_on_line wanted e line (Some next) is h = goes_on_part wanted e next line is h

pub goes_on_behind : {E : Type 0} (wanted : Wanted) (e : Place) (line : List ℕ) (r : Result (Option Place) E) → is_comment line ≡ false → IfOk r (Answers wanted e line) → IfOk r (GoesOn wanted e line)
goes_on_behind wanted e line (Ok o) is h = goes_on_line wanted e line o is h
goes_on_behind wanted e line (Err x) is h = h

-- a line that is no part is refused
pub no_answer : (wanted : Wanted) (place : Place) (line : List ℕ) (version : Version) → version ≡ version_of place → ((p : Part) → IsPart version p → line ≢ part_spelling p) → Answers wanted place line None
no_answer wanted place line version same h = λ p is e. absurd (h p (subst (λ (v : Version). IsPart v p) (sym same) is) e)

-- a line that is a part answers what is made of that part
part_answers : (wanted : Wanted) (place : Place) (line : List ℕ) (p : Part) (o : Option Place) → IsPart (version_of place) p → line ≡ part_spelling p → o ≡ accept wanted place p → Answers wanted place line o
part_answers wanted place line p None is e same = λ q k f.
    let one = one_part (version_of place) q p k is (sym f ∙ e) in
    ap (accept wanted place) one ∙ sym same
part_answers wanted place line p (Some next) is e same = (p, is, e, sym same)

pub answers : {E : Type 0} (wanted : Wanted) (place : Place) (line : List ℕ) (version : Version) (p : Part) (r : Result (Option Place) E) → version ≡ version_of place → IsPart version p × (line ≡ part_spelling p) → IfOk r (λ o. o ≡ accept wanted place p) → IfOk r (Answers wanted place line)
answers wanted place line version p (Ok o) same h made =
    part_answers wanted place line p o (subst (λ (v : Version). IsPart v p) same h.0) h.1 made
answers wanted place line version p (Err x) same h made = made

-- a step tells the place behind the line, or that no script goes on with it
pub steps : (wanted : Wanted) (place : Place) (line : List ℕ) (number : ℕ) (o : Option Place) (r : Result Place ScriptFault) → GoesOn wanted place line o → r ≡ ok_or o (Line number) → MatchResult r (λ next. GoesOn wanted place line (Some next)) (StopsAt wanted place line number)
steps wanted place line number None r h e =
    subst (λ (q : Result Place ScriptFault). MatchResult q (λ next. GoesOn wanted place line (Some next)) (StopsAt wanted place line number)) (sym e) (refl, h)
steps wanted place line number (Some next) r h e =
    subst (λ (q : Result Place ScriptFault). MatchResult q (λ next. GoesOn wanted place line (Some next)) (StopsAt wanted place line number)) (sym e) h

no_comments_here : HasAsciiComments []
no_comments_here k d h = absurd (omega arith)

-- the lines before those that are left, and what they told
pub record Scanned (wanted : Wanted) (octets rest : List ℕ) (e : Place) (n : ℕ) : Type 0 where
  pub lines : List (List ℕ)
  pub pieced : pieces 10 octets ≡ lines ++ pieces 10 rest
  pub knows : Knows wanted e lines
  pub counted : n ≡ length lines + 1
  pub room : n + length rest ≤ length octets + 1

pub scan_start : (wanted : Wanted) (octets : List ℕ) → Scanned wanted octets octets Begin 1
scan_start wanted octets =
    record {
      lines = [];
      pieced = refl;
      knows = record { comments = no_comments_here; spelled = refl; holds = tt };
      counted = refl;
      room = omega arith;
    }

pub scan_step : (wanted : Wanted) (octets rest line behind : List ℕ) (e next : Place) (n : ℕ) → Scanned wanted octets rest e n → (pieces 10 rest ≡ line ∷ pieces 10 behind) × (length behind < length rest) → GoesOn wanted e line (Some next) → Scanned wanted octets behind next (n + 1)
scan_step wanted octets rest line behind e next n s (cut, less) on =
    let counted = s.counted in let room = s.room in
    record {
      lines = s.lines ++ line ∷ [];
      pieced = s.pieced ∙ ap (λ (l : List (List ℕ)). s.lines ++ l) cut ∙ sym (append_assoc s.lines (line ∷ []) (pieces 10 behind));
      knows = on s.lines s.knows;
      counted = omega (arith, length-append s.lines (line ∷ []));
      room = omega arith;
    }

-- pieces have a last one
onto_last : (x : ℕ) (parts front : List (List ℕ)) (last : List ℕ) → parts ≡ front ++ last ∷ [] → (f : List (List ℕ)) × (l : List ℕ) × (onto_first x parts ≡ f ++ l ∷ [])
onto_last x parts [] last is = ([], x ∷ last, ap (onto_first x) is)
onto_last x parts (y ∷ front) last is = ((x ∷ y) ∷ front, last, ap (onto_first x) is)

last_of_cons : (b : Bool) (x : ℕ) (parts front : List (List ℕ)) (last : List ℕ) → parts ≡ front ++ last ∷ [] → (f : List (List ℕ)) × (l : List ℕ) × (cond b ([] ∷ parts) (onto_first x parts) ≡ f ++ l ∷ [])
last_of_cons true x parts front last is = ([] ∷ front, last, ap (λ (l : List (List ℕ)). [] ∷ l) is)
last_of_cons false x parts front last is = onto_last x parts front last is

last_piece : (at : ℕ) (xs : List ℕ) → (front : List (List ℕ)) × (last : List ℕ) × (pieces at xs ≡ front ++ last ∷ [])
last_piece at [] = ([], [], refl)
last_piece at (x ∷ xs) =
    let (front, last, is) = last_piece at xs in
    last_of_cons (x == at) x (pieces at xs) front last is

take_front : (xs ys : List (List ℕ)) (n : ℕ) → n ≡ length xs → take n (xs ++ ys) ≡ xs
take_front [] ys zero e = refl
take_front [] ys (suc n) e = absurd (omega arith)
take_front (x ∷ xs) ys zero e = absurd (omega arith)
take_front (x ∷ xs) ys (suc n) e = ap (λ (l : List (List ℕ)). x ∷ l) (take_front xs ys n (omega arith))

-- a line with which no script goes on is where the octets stop being one
pub scan_stop : (wanted : Wanted) (octets rest line behind : List ℕ) (e : Place) (n : ℕ) → Scanned wanted octets rest e n → (pieces 10 rest ≡ line ∷ pieces 10 behind) × (length behind < length rest) → GoesOn wanted e line None → FailsAt wanted octets n
scan_stop wanted octets rest line behind e n s (cut, less) off =
    let (front, last, is) = last_piece 10 behind in
    let counted = s.counted in
    let all = s.lines ++ line ∷ front in
    let long = length-append s.lines (line ∷ front) in
    let regroup : s.lines ++ line ∷ front ≡ (s.lines ++ line ∷ []) ++ front = sym (append_assoc s.lines (line ∷ []) front) in
    let one = length-append s.lines (line ∷ []) in
    let before : take (n - 1) (s.lines ++ line ∷ front) ≡ s.lines = take_front s.lines (line ∷ front) (n - 1) (omega arith) in
    let upto : take n (s.lines ++ line ∷ front) ≡ s.lines ++ line ∷ [] = ap (take n) regroup ∙ take_front (s.lines ++ line ∷ []) front n (omega arith) in
    record {
      lines = s.lines ++ line ∷ front;
      behind = last;
      ended = s.pieced ∙ ap (λ (l : List (List ℕ)). s.lines ++ l) (cut ∙ ap (λ (l : List (List ℕ)). line ∷ l) is) ∙ sym (append_assoc s.lines (line ∷ front) (last ∷ []));
      counted = (omega arith, omega arith);
      before = subst (BeginsScript wanted) (sym before) (begins wanted e s.lines s.knows.comments s.knows.spelled s.knows.holds);
      stops = λ _ begun. off s.lines s.knows (subst (BeginsScript wanted) upto begun);
      early = λ past. absurd (omega arith);
    }

-- where the lines end too early, or octets stand behind the last
scan_early : (wanted : Wanted) (octets rest : List ℕ) (e : Place) (n : ℕ) → Scanned wanted octets rest e n → pieces 10 rest ≡ rest ∷ [] → (rest ≡ [] → script_of e ≡ None) → FailsAt wanted octets n
scan_early wanted octets rest e n s cut short =
    let counted = s.counted in
    record {
      lines = s.lines;
      behind = rest;
      ended = s.pieced ∙ ap (λ (l : List (List ℕ)). s.lines ++ l) cut;
      counted = (omega arith, omega arith);
      before = subst (BeginsScript wanted) (sym (take_front s.lines [] (n - 1) (omega arith)) ∙ ap (take (n - 1)) (append-nil s.lines)) (begins wanted e s.lines s.knows.comments s.knows.spelled s.knows.holds);
      stops = λ within. absurd (omega arith);
      early = λ past none t h.
          none-some t (sym (short none) ∙ script_here wanted e t s.knows.holds (wanted_here wanted s.lines t h) (sym s.knows.spelled ∙ h.spelled));
    }

no_octets : (xs : List ℕ) → (length xs == 0) ≡ true → xs ≡ []
no_octets [] e = refl
no_octets (x ∷ xs) e = let none = eqb-true (length (x ∷ xs)) 0 e in absurd (omega arith)

pub scan_behind : (wanted : Wanted) (octets rest : List ℕ) (e : Place) (n : ℕ) → Scanned wanted octets rest e n → pieces 10 rest ≡ rest ∷ [] → (length rest == 0) ≡ false → FailsAt wanted octets n
scan_behind wanted octets rest e n s cut some =
    scan_early wanted octets rest e n s cut (λ none. let empty : (length rest == 0) ≡ true = ap (λ (t : List ℕ). length t == 0) none in absurd (cc))

scan_whole : (wanted : Wanted) (octets rest : List ℕ) (e : Place) (t : Script) (n : ℕ) → Scanned wanted octets rest e n → pieces 10 rest ≡ rest ∷ [] → rest ≡ [] → script_of e ≡ Some t → SpellsScript wanted octets t
scan_whole wanted octets rest e t n s cut none is =
    let known = is_script wanted e t is s.knows.holds in
    record {
      lines = s.lines;
      ended = s.pieced ∙ ap (λ (l : List (List ℕ)). s.lines ++ l) (cut ∙ ap (λ (l : List ℕ). l ∷ []) none);
      script = record { comments = s.knows.comments; spelled = s.knows.spelled ∙ ap (map part_spelling) known.1; body = known.0.body; version = known.0.version; kind = known.0.kind };
    }

scan_answer : (wanted : Wanted) (octets rest : List ℕ) (e : Place) (n : ℕ) (o : Option Script) → Scanned wanted octets rest e n → pieces 10 rest ≡ rest ∷ [] → (length rest == 0) ≡ true → o ≡ script_of e → MatchResult (ok_or o (Line n)) (SpellsScript wanted octets) (IsFault wanted octets)
scan_answer wanted octets rest e n None s cut empty is = scan_early wanted octets rest e n s cut (λ _. sym is)
scan_answer wanted octets rest e n (Some t) s cut empty is = scan_whole wanted octets rest e t n s cut (no_octets rest empty) (sym is)

pub scan_end : (wanted : Wanted) (octets rest : List ℕ) (e : Place) (n : ℕ) (o : Option Script) (r : Result Script ScriptFault) → Scanned wanted octets rest e n → pieces 10 rest ≡ rest ∷ [] → (length rest == 0) ≡ true → o ≡ script_of e → r ≡ ok_or o (Line n) → MatchResult r (SpellsScript wanted octets) (IsFault wanted octets)
scan_end wanted octets rest e n o r s cut empty is same =
    subst (λ (q : Result Script ScriptFault). MatchResult q (SpellsScript wanted octets) (IsFault wanted octets)) (sym same)
    (scan_answer wanted octets rest e n o s cut empty is)

-- a step that stops at the line is where the octets stop being a script
pub scan_fault : (wanted : Wanted) (octets rest line behind : List ℕ) (e : Place) (n : ℕ) (f : ScriptFault) → Scanned wanted octets rest e n → (pieces 10 rest ≡ line ∷ pieces 10 behind) × (length behind < length rest) → StopsAt wanted e line n f → IsFault wanted octets f
scan_fault wanted octets rest line behind e n (Line m) s cut h = subst (FailsAt wanted octets) (sym h.0) (scan_stop wanted octets rest line behind e n s cut h.1)
scan_fault wanted octets rest line behind e n NoMemory s cut h = tt
