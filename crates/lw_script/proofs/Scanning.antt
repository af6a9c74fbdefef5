-- What a reader knows of the octets that it has left.
use Rattle.std.proofs.Common.{◌≡◌, ℕ, zero, suc, ◌+◌, ◌-◌, ◌<◌, ◌≤◌, ◌==◌, Bool, true, false, cond, not, List, [], ◌∷◌, ◌++◌, length, take, IsTrue, MatchOption, MatchResult, Option, Some, None, Result, refl, sym, ap, ◌∙◌, subst, arith, rules, lit≤, lit<, append_assoc, append-nil, length-append, eqb-true}
use Rattle.std.proofs.lemmas.List.Elements.{All-push, All-append, All-cons, All-contains, Contains-append_left, Contains-push, filter-append}
use Rattle.std.specs.Option.{ok_or}
use Rattle.std.specs.Str.{IsAscii, IsNotAscii}
use Rattle.std.specs.List.{onto_first}
use Rattle.lw_base.specs.declared.addresses.Net.{Net}
use Rattle.lw_script.specs.declared.parts.Call.TheVariants.{FeedAll}
use Rattle.lw_script.specs.declared.parts.Profile.{Profile}
use Rattle.lw_script.specs.declared.parts.Profile.TheVariants.{Default}
use Rattle.lw_script.specs.declared.parts.Script.{Script}
use Rattle.lw_script.specs.declared.reader.Expected.{Expected}
use Rattle.lw_script.specs.declared.reader.Expected.TheVariants.{Head, Addresses, Sizes, Nothing}
use Rattle.lw_script.specs.Grammar.{BeginsScript, FailsAt, HasAsciiComments, SpellsScript, is_comment, said, script_lines}
use Rattle.lw_script.specs.Reading.{CanFollow, Follows, GoesOn, Knows, pieces, told}
use Rattle.lw_script.specs.Spelling.{IsNet, head_spelling, limits_spelling, net_spelling}

said_part : (lines : List (List ℕ)) (line : List ℕ) → is_comment line ≡ false → said (lines ++ line ∷ []) ≡ said lines ++ line ∷ []
said_part lines line is =
    filter-append (λ l. not (is_comment l)) lines (line ∷ [])
    ∙ ap (λ (b : Bool). said lines ++ cond (not b) (line ∷ []) []) is

-- a comment that isn't ASCII stands in no script
pub stops_comment : (e : Expected) (line : List ℕ) → is_comment line ≡ true → IsNotAscii line → GoesOn e line None
stops_comment e line is (i, high) = λ lines k (more, s, h).
    let ascii = All-contains (λ l. IsTrue (is_comment l) → IsAscii l) ((lines ++ line ∷ []) ++ more) line h.comments
    (Contains-append_left (lines ++ line ∷ []) more line (Contains-push lines line)) in
    let low = ascii (is) i in absurd (omega arith)

pub goes_on_part : (e next : Expected) (line : List ℕ) → is_comment line ≡ false → Follows e line next → GoesOn e line (Some next)
goes_on_part e next line is f = λ lines k.
    record {
      comments = All-push (λ l. IsTrue (is_comment l) → IsAscii l) lines line k.comments (λ t. absurd (cc));
      spelled = said_part lines line is ∙ ap (λ (l : List (List ℕ)). l ++ line ∷ []) k.spelled ∙ sym f.told_more;
      net = f.net k.net;
    }

pub stops_part : (e : Expected) (line : List ℕ) → is_comment line ≡ false → (CanFollow e line → ⊥) → GoesOn e line None
stops_part e line is stays = λ lines k (more, s, h).
    stays (
      s,
      said more,
      h.net,
      sym (append_assoc (told e) (line ∷ []) (said more))
          ∙ ap (λ (l : List (List ℕ)). (l ++ line ∷ []) ++ said more) (sym k.spelled)
          ∙ ap (λ (l : List (List ℕ)). l ++ said more) (sym (said_part lines line is))
          ∙ sym (filter-append (λ l. not (is_comment l)) (lines ++ line ∷ []) more)
          ∙ h.spelled,
    )

pub goes_on_behind : (e : Expected) (line : List ℕ) (r : Option Expected) → is_comment line ≡ false → MatchOption r (CanFollow e line → ⊥) (Follows e line) → GoesOn e line r
goes_on_behind e line None is h = stops_part e line is h
goes_on_behind e line (Some next) is h = goes_on_part e next line is h

pub no_comments : HasAsciiComments []
no_comments k d h = absurd (omega arith)

pub plain : (line : List ℕ) (lines : List (List ℕ)) → is_comment line ≡ false → HasAsciiComments lines → HasAsciiComments (line ∷ lines)
plain line lines is h = All-cons (λ l. IsTrue (is_comment l) → IsAscii l) line lines (λ t. absurd (cc)) h

begins_with : (lines rest : List (List ℕ)) (s : Script) → HasAsciiComments lines → HasAsciiComments rest → said rest ≡ rest → said lines ++ rest ≡ script_lines s → IsNet s.net → s.commands ≡ FeedAll ∷ [] → BeginsScript lines
begins_with lines rest s h k all e net commands = (
  rest,
  s,
  record {
    comments = All-append (λ l. IsTrue (is_comment l) → IsAscii l) lines rest h k;
    spelled = filter-append (λ l. not (is_comment l)) lines rest ∙ ap (λ (l : List (List ℕ)). said lines ++ l) all ∙ e;
    net = net;
    commands = commands;
  },
)

-- some addresses
abbrev some_net : Net
some_net = record { ip = record { 0 = 0 }; mask = record { 0 = 0 }; gateway = record { 0 = 0 }; mac = record { 0 = 0 ∷ 0 ∷ 0 ∷ 0 ∷ 0 ∷ 0 ∷ [] } }

some_is_net : IsNet some_net
some_is_net =
    record {
      ip = lit< tt;
      mask = (32, lit≤ tt, refl);
      gateway = lit< tt;
      mac = record { six = refl; octets = λ k d h. search rules };
    }

abbrev script_with : Net → Profile → Script
script_with net profile = record { net = net; profile = profile; commands = FeedAll ∷ [] }

pub knows_begins : (e : Expected) (lines : List (List ℕ)) → Knows e lines → BeginsScript lines
knows_begins Head lines k =
    begins_with lines (head_spelling ∷ net_spelling some_net ∷ limits_spelling Default ∷ []) (script_with some_net Default) k.comments
    (plain head_spelling (net_spelling some_net ∷ limits_spelling Default ∷ []) refl (plain (net_spelling some_net) (limits_spelling Default ∷ []) refl (plain (limits_spelling Default) [] refl no_comments))) refl
    (ap (λ (l : List (List ℕ)). l ++ (head_spelling ∷ net_spelling some_net ∷ limits_spelling Default ∷ [])) k.spelled) some_is_net refl
knows_begins Addresses lines k =
    begins_with lines (net_spelling some_net ∷ limits_spelling Default ∷ []) (script_with some_net Default) k.comments
    (plain (net_spelling some_net) (limits_spelling Default ∷ []) refl (plain (limits_spelling Default) [] refl no_comments)) refl
    (ap (λ (l : List (List ℕ)). l ++ (net_spelling some_net ∷ limits_spelling Default ∷ [])) k.spelled) some_is_net refl
knows_begins (Sizes net) lines k =
    begins_with lines (limits_spelling Default ∷ []) (script_with net Default) k.comments
    (plain (limits_spelling Default) [] refl no_comments) refl
    (ap (λ (l : List (List ℕ)). l ++ (limits_spelling Default ∷ [])) k.spelled) k.net refl
knows_begins (Nothing net profile) lines k =
    begins_with lines [] (script_with net profile) k.comments no_comments refl (append-nil (said lines) ∙ k.spelled) k.net refl

-- the lines before those that are left, and what they told
pub record Scanned (octets rest : List ℕ) (e : Expected) (n : ℕ) : Type 0 where
  pub lines : List (List ℕ)
  pub pieced : pieces 10 octets ≡ lines ++ pieces 10 rest
  pub knows : Knows e lines
  pub counted : n ≡ length lines + 1
  pub room : n + length rest ≤ length octets + 1

pub scan_start : (octets : List ℕ) → Scanned octets octets Head 1
scan_start octets =
    record {
      lines = [];
      pieced = refl;
      knows = record { comments = no_comments; spelled = refl; net = tt };
      counted = refl;
      room = omega arith;
    }

pub scan_step : (octets rest line behind : List ℕ) (e next : Expected) (n : ℕ) → Scanned octets rest e n → (pieces 10 rest ≡ line ∷ pieces 10 behind) × (length behind < length rest) → GoesOn e line (Some next) → Scanned octets behind next (n + 1)
scan_step octets rest line behind e next n s (cut, less) on =
    let counted = s.counted in let room = s.room in
    record {
      lines = s.lines ++ line ∷ [];
      pieced = s.pieced ∙ ap (λ (l : List (List ℕ)). s.lines ++ l) cut ∙ sym (append_assoc s.lines (line ∷ []) (pieces 10 behind));
      knows = on s.lines s.knows;
      counted = omega (arith, length-append s.lines (line ∷ []));
      room = omega arith;
    }

-- pieces have a last one
onto_last : (x : ℕ) (parts front : List (List ℕ)) (last : List ℕ) → parts ≡ front ++ last ∷ [] → (f : List (List ℕ)) × (l : List ℕ) × (onto_first x parts ≡ f ++ l ∷ [])
onto_last x parts [] last is = ([], x ∷ last, ap (onto_first x) is)
onto_last x parts (y ∷ front) last is = ((x ∷ y) ∷ front, last, ap (onto_first x) is)

last_of_cons : (b : Bool) (x : ℕ) (parts front : List (List ℕ)) (last : List ℕ) → parts ≡ front ++ last ∷ [] → (f : List (List ℕ)) × (l : List ℕ) × (cond b ([] ∷ parts) (onto_first x parts) ≡ f ++ l ∷ [])
last_of_cons true x parts front last is = ([] ∷ front, last, ap (λ (l : List (List ℕ)). [] ∷ l) is)
last_of_cons false x parts front last is = onto_last x parts front last is

last_piece : (at : ℕ) (xs : List ℕ) → (front : List (List ℕ)) × (last : List ℕ) × (pieces at xs ≡ front ++ last ∷ [])
last_piece at [] = ([], [], refl)
last_piece at (x ∷ xs) =
    let (front, last, is) = last_piece at xs in
    last_of_cons (x == at) x (pieces at xs) front last is

take_front : (xs ys : List (List ℕ)) (n : ℕ) → n ≡ length xs → take n (xs ++ ys) ≡ xs
take_front [] ys zero e = refl
take_front [] ys (suc n) e = absurd (omega arith)
take_front (x ∷ xs) ys zero e = absurd (omega arith)
take_front (x ∷ xs) ys (suc n) e = ap (λ (l : List (List ℕ)). x ∷ l) (take_front xs ys n (omega arith))

-- a line with which no script goes on is where the octets stop being one
pub scan_stop : (octets rest line behind : List ℕ) (e : Expected) (n : ℕ) → Scanned octets rest e n → (pieces 10 rest ≡ line ∷ pieces 10 behind) × (length behind < length rest) → GoesOn e line None → FailsAt octets n
scan_stop octets rest line behind e n s (cut, less) off =
    let (front, last, is) = last_piece 10 behind in
    let counted = s.counted in
    let all = s.lines ++ line ∷ front in
    let long = length-append s.lines (line ∷ front) in
    let regroup : s.lines ++ line ∷ front ≡ (s.lines ++ line ∷ []) ++ front = sym (append_assoc s.lines (line ∷ []) front) in
    let one = length-append s.lines (line ∷ []) in
    let before : take (n - 1) (s.lines ++ line ∷ front) ≡ s.lines = take_front s.lines (line ∷ front) (n - 1) (omega arith) in
    let upto : take n (s.lines ++ line ∷ front) ≡ s.lines ++ line ∷ [] = ap (take n) regroup ∙ take_front (s.lines ++ line ∷ []) front n (omega arith) in
    record {
      lines = s.lines ++ line ∷ front;
      behind = last;
      ended = s.pieced ∙ ap (λ (l : List (List ℕ)). s.lines ++ l) (cut ∙ ap (λ (l : List (List ℕ)). line ∷ l) is) ∙ sym (append_assoc s.lines (line ∷ front) (last ∷ []));
      counted = (omega arith, omega arith);
      before = subst BeginsScript (sym before) (knows_begins e s.lines s.knows);
      stops = λ _ begun. off s.lines s.knows (subst BeginsScript upto begun);
      early = λ past. absurd (omega arith);
    }

-- where the lines end too early, or octets stand behind the last
pub scan_early : (octets rest : List ℕ) (e : Expected) (n : ℕ) → Scanned octets rest e n → pieces 10 rest ≡ rest ∷ [] → (rest ≡ [] → length (told e) < 3) → FailsAt octets n
scan_early octets rest e n s cut short =
    let counted = s.counted in
    record {
      lines = s.lines;
      behind = rest;
      ended = s.pieced ∙ ap (λ (l : List (List ℕ)). s.lines ++ l) cut;
      counted = (omega arith, omega arith);
      before = subst BeginsScript (sym (take_front s.lines [] (n - 1) (omega arith)) ∙ ap (take (n - 1)) (append-nil s.lines)) (knows_begins e s.lines s.knows);
      stops = λ within. absurd (omega arith);
      early = λ past none t h. let few = short none in let same = ap length (sym s.knows.spelled ∙ h.spelled) in absurd (omega arith);
    }

pub scan_whole : (octets rest : List ℕ) (net : Net) (profile : Profile) (n : ℕ) → Scanned octets rest (Nothing net profile) n → pieces 10 rest ≡ rest ∷ [] → rest ≡ [] → SpellsScript octets (record { net = net; profile = profile; commands = FeedAll ∷ [] })
scan_whole octets rest net profile n s cut none =
    record {
      lines = s.lines;
      ended = s.pieced ∙ ap (λ (l : List (List ℕ)). s.lines ++ l) (cut ∙ ap (λ (l : List ℕ). l ∷ []) none);
      script = record { comments = s.knows.comments; spelled = s.knows.spelled; net = s.knows.net; commands = refl };
    }

no_octets : (xs : List ℕ) → (length xs == 0) ≡ true → xs ≡ []
no_octets [] e = refl
no_octets (x ∷ xs) e = let none = eqb-true (length (x ∷ xs)) 0 e in absurd (omega arith)

pub scan_behind : (octets rest : List ℕ) (e : Expected) (n : ℕ) → Scanned octets rest e n → pieces 10 rest ≡ rest ∷ [] → (length rest == 0) ≡ false → FailsAt octets n
scan_behind octets rest e n s cut some =
    scan_early octets rest e n s cut (λ none. let empty : (length rest == 0) ≡ true = ap (λ (t : List ℕ). length t == 0) none in absurd (cc))

pub scan_end : (octets rest : List ℕ) (e : Expected) (n : ℕ) (o : Option (Net × Profile)) (r : Result (Net × Profile) ℕ) → Scanned octets rest e n → pieces 10 rest ≡ rest ∷ [] → (length rest == 0) ≡ true → MatchOption o (length (told e) < 3) (λ p. e ≡ Nothing p.0 p.1) → r ≡ ok_or o n → MatchResult r (λ p. SpellsScript octets (record { net = p.0; profile = p.1; commands = FeedAll ∷ [] })) (FailsAt octets)
scan_end octets rest e n None r s cut empty short is =
    subst (λ (q : Result (Net × Profile) ℕ). MatchResult q (λ p. SpellsScript octets (record { net = p.0; profile = p.1; commands = FeedAll ∷ [] })) (FailsAt octets)) (sym is)
    (scan_early octets rest e n s cut (λ _. short))
scan_end octets rest e n (Some p) r s cut empty told_is is =
    subst (λ (q : Result (Net × Profile) ℕ). MatchResult q (λ p. SpellsScript octets (record { net = p.0; profile = p.1; commands = FeedAll ∷ [] })) (FailsAt octets)) (sym is)
    (scan_whole octets rest p.0 p.1 n (subst (λ (f : Expected). Scanned octets rest f n) told_is s) cut (no_octets rest empty))
