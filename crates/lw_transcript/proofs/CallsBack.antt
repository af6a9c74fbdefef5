-- What calls saw and gave is read back from its words.
use Rattle.std.proofs.Common.{◌≡◌, ℕ, suc, Bool, true, false, ◌&&◌, List, [], ◌∷◌, ◌++◌, drop, length, map, All, Option, Some, None, refl, sym, ap, ◌∙◌, codes, decimal, if◌then◌else◌}
use Rattle.std.proofs.lemmas.Bool.{and_parts}
use Rattle.lw_base.specs.declared.errors.Err.TheVariants.{Ok as OkCode, Mem, Buf, Timeout as TimeoutCode, Rte, InProgress, Val, WouldBlock, Use, Already, IsConn, Conn as ConnCode, If, Abrt, Rst, Clsd, Arg}
use Rattle.lw_base.specs.declared.event_word.Word.{Word as EventWord}
use Rattle.lw_events.specs.declared.event.Handle.{Handle}
use Rattle.lw_events.specs.declared.event.Handle.TheVariants.{Conn as ConnHandle, Fd as FdHandle}
use Rattle.call_types.specs.declared.call.Test.{Test}
use Rattle.call_types.specs.declared.call.Test.TheVariants.{Readable, Writable, Except}
use Rattle.call_types.specs.declared.call.SelectItem.{SelectItem}
use Rattle.call_types.specs.declared.outcome.Outcome.{Outcome}
use Rattle.call_types.specs.declared.outcome.Outcome.TheVariants.{Ok as OkOutcome, Conn, Fd, Sent, Read, From, Addr, Ready, Nothing, Fed, Fail}
use Rattle.call_types.specs.declared.sight.DropCause.{DropCause}
use Rattle.call_types.specs.declared.sight.DropCause.TheVariants.{Short, Full}
use Rattle.call_types.specs.declared.sight.Sight.{Sight}
use Rattle.call_types.specs.declared.sight.Sight.TheVariants.{Take, Datagram, Accepted, Saw, Ticks, Stopped, Count, Var, Fdw, Dropped}
use Rattle.lw_transcript.specs.Fields.{Field, field_text}
use Rattle.lw_transcript.specs.CallLines.{outcome_fields, sight_fields, test_field}
use Rattle.lw_transcript.specs.Laws.{AreHeld}
use Rattle.lw_transcript.proofs.FieldsBack.{Sort, AWord, ANumber, AName, AnAddress, AHex, TheFlags, are_plain, is_plain, sort_of}
use Rattle.lw_transcript.proofs.Tables.{Row, field_in, ip_at, number_at, port_at, read_back, read_by, row_of, same_text, text_at, word_in}
use Rattle.lw_transcript.proofs.EventsBack.{code_in, fail_row, handle_in, is_one, row}

abbrev cause_in : List ℕ → DropCause
cause_in word = if same_text word (codes "short") then Short else Full

abbrev var_sorts : List (List ℕ) → List Sort
var_sorts words = if same_text (word_in 2 words) (codes "none") then AWord ∷ AName ∷ AWord ∷ [] else AWord ∷ AName ∷ AWord ∷ ANumber ∷ []

abbrev named_in : List ℕ → ℕ → Option Handle
named_in word n = if same_text word (codes "none") then None else Some (handle_in word n)

abbrev stopped_row : Row Sight
stopped_row = row (codes "stopped") (AWord ∷ []) (λ fs. Stopped)

abbrev sight_rows : List (Row Sight)
sight_rows =
    row (codes "take") (AWord ∷ ANumber ∷ ANumber ∷ ANumber ∷ ANumber ∷ AHex ∷ []) (λ fs. Take (number_at 1 fs) (number_at 2 fs) (number_at 3 fs) (text_at 5 fs))
    ∷ row (codes "dgram") (AWord ∷ ANumber ∷ ANumber ∷ AnAddress ∷ ANumber ∷ ANumber ∷ AHex ∷ []) (λ fs. Datagram (number_at 1 fs) (number_at 2 fs) (ip_at 3 fs) (port_at 4 fs) (text_at 6 fs))
    ∷ row (codes "acc") (AWord ∷ ANumber ∷ ANumber ∷ ANumber ∷ []) (λ fs. Accepted (number_at 1 fs) (number_at 2 fs) (number_at 3 fs))
    ∷ row (codes "saw") (AWord ∷ ANumber ∷ ANumber ∷ ANumber ∷ TheFlags ∷ []) (λ fs. Saw (number_at 1 fs) (record { posted = number_at 2 fs; claimed = number_at 3 fs; flags = number_at 4 fs }))
    ∷ row (codes "ticks") (AWord ∷ ANumber ∷ []) (λ fs. Ticks (number_at 1 fs))
    ∷ row (codes "sig") (AWord ∷ AName ∷ ANumber ∷ []) (λ fs. Count (number_at 1 fs) (number_at 2 fs))
    ∷ record { word = codes "var"; sorts = var_sorts; value = λ fs. Var (number_at 1 fs) (named_in (text_at 2 fs) (number_at 3 fs)) }
    ∷ row (codes "fdw") (AWord ∷ ANumber ∷ ANumber ∷ ANumber ∷ ANumber ∷ []) (λ fs. Fdw (number_at 1 fs) (number_at 2 fs) (is_one (number_at 3 fs)) (number_at 4 fs))
    ∷ row (codes "drop") (AWord ∷ ANumber ∷ AWord ∷ []) (λ fs. Dropped (number_at 1 fs) (cause_in (text_at 2 fs)))
    ∷ []

-- the sight of these words
abbrev pub sight_in : List (List ℕ) → Sight
sight_in words = read_by stopped_row sight_rows words

pub sight_plain : (x : Sight) → are_plain (sight_fields x) ≡ true
sight_plain (Take conn ticket from octets) = refl
sight_plain (Datagram conn ticket ip port octets) = refl
sight_plain (Accepted conn ticket fresh) = refl
sight_plain (Saw conn word) = refl
sight_plain (Ticks n) = refl
sight_plain Stopped = refl
sight_plain (Count signal n) = refl
sight_plain (Var var None) = refl
sight_plain (Var var (Some (ConnHandle conn))) = refl
sight_plain (Var var (Some (FdHandle fd))) = refl
sight_plain (Fdw fd conn true timeout) = refl
sight_plain (Fdw fd conn false timeout) = refl
sight_plain (Dropped frame Short) = refl
sight_plain (Dropped frame Full) = refl

-- a sight
pub sight_back : (x : Sight) (r : List (List ℕ)) → AreHeld (sight_fields x) → sight_in (map field_text (sight_fields x) ++ r) ≡ x
sight_back (Take conn ticket from octets) r h = read_back stopped_row sight_rows _ (sight_fields (Take conn ticket from octets)) r (Take conn ticket from octets) refl refl refl h refl
sight_back (Datagram conn ticket ip port octets) r h = read_back stopped_row sight_rows _ (sight_fields (Datagram conn ticket ip port octets)) r (Datagram conn ticket ip port octets) refl refl refl h refl
sight_back (Accepted conn ticket fresh) r h = read_back stopped_row sight_rows _ (sight_fields (Accepted conn ticket fresh)) r (Accepted conn ticket fresh) refl refl refl h refl
sight_back (Saw conn word) r h = read_back stopped_row sight_rows _ (sight_fields (Saw conn word)) r (Saw conn word) refl refl refl h refl
sight_back (Ticks n) r h = read_back stopped_row sight_rows _ (sight_fields (Ticks n)) r (Ticks n) refl refl refl h refl
sight_back Stopped r h = read_back stopped_row sight_rows _ (sight_fields Stopped) r Stopped refl refl refl h refl
sight_back (Count signal n) r h = read_back stopped_row sight_rows _ (sight_fields (Count signal n)) r (Count signal n) refl refl refl h refl
sight_back (Var var None) r h = read_back stopped_row sight_rows _ (sight_fields (Var var None)) r (Var var None) refl refl refl h refl
sight_back (Var var (Some (ConnHandle conn))) r h = read_back stopped_row sight_rows _ (sight_fields (Var var (Some (ConnHandle conn)))) r (Var var (Some (ConnHandle conn))) refl refl refl h refl
sight_back (Var var (Some (FdHandle fd))) r h = read_back stopped_row sight_rows _ (sight_fields (Var var (Some (FdHandle fd)))) r (Var var (Some (FdHandle fd))) refl refl refl h refl
sight_back (Fdw fd conn true timeout) r h = read_back stopped_row sight_rows _ (sight_fields (Fdw fd conn true timeout)) r (Fdw fd conn true timeout) refl refl refl h refl
sight_back (Fdw fd conn false timeout) r h = read_back stopped_row sight_rows _ (sight_fields (Fdw fd conn false timeout)) r (Fdw fd conn false timeout) refl refl refl h refl
sight_back (Dropped frame Short) r h = read_back stopped_row sight_rows _ (sight_fields (Dropped frame Short)) r (Dropped frame Short) refl refl refl h refl
sight_back (Dropped frame Full) r h = read_back stopped_row sight_rows _ (sight_fields (Dropped frame Full)) r (Dropped frame Full) refl refl refl h refl

abbrev test_in : List ℕ → Test
test_in word = if same_text word (codes "r") then Readable else if same_text word (codes "w") then Writable else Except

abbrev letters_of : Field → List ℕ
letters_of f = text_at 0 (f ∷ [])

abbrev item_in : Field → SelectItem
item_in f = record { test = test_in (letters_of f); var = number_at 0 (f ∷ []) }

tests_back : (test : Test) (var : ℕ) → item_in (test_field (record { test = test; var = var })) ≡ record { test = test; var = var }
tests_back Readable var = refl
tests_back Writable var = refl
tests_back Except var = refl

test_back : (item : SelectItem) → item_in (test_field item) ≡ item
test_back item = tests_back item.test item.var

items_back : (items : List SelectItem) → map item_in (map test_field items) ≡ items
items_back [] = refl
items_back (x ∷ xs) =
    let one : item_in (test_field x) ≡ x = test_back x in
    let more : map item_in (map test_field xs) ≡ xs = items_back xs in
    cc

plain_test : (test : Test) (var : ℕ) → are_plain (test_field (record { test = test; var = var }) ∷ []) ≡ true
plain_test Readable var = refl
plain_test Writable var = refl
plain_test Except var = refl

-- as many names as there are words
abbrev names_for : List (List ℕ) → List Sort
names_for [] = []
names_for (w ∷ ws) = AName ∷ names_for ws

abbrev rest_of : List (List ℕ) → List (List ℕ)
rest_of [] = []
rest_of (w ∷ ws) = ws

names_sorts : (items : List SelectItem) → names_for (map field_text (map test_field items) ++ []) ≡ map sort_of (map test_field items)
names_sorts [] = refl
names_sorts (x ∷ xs) = ap (λ (sorts : List Sort). AName ∷ sorts) (names_sorts xs)

plain_tests : (items : List SelectItem) → are_plain (map test_field items) ≡ true
plain_tests [] = refl
plain_tests (x ∷ xs) =
    let one : are_plain (test_field x ∷ []) ≡ true = plain_test x.test x.var in
    let more : are_plain (map test_field xs) ≡ true = plain_tests xs in
    rw (and_parts (is_plain (test_field x)) true one).0 more

abbrev outcome_rows : List (Row Outcome)
outcome_rows =
    row (codes "ok") (AWord ∷ []) (λ fs. OkOutcome)
    ∷ row (codes "conn") (AWord ∷ ANumber ∷ []) (λ fs. Conn (number_at 1 fs))
    ∷ row (codes "fd") (AWord ∷ ANumber ∷ []) (λ fs. Fd (number_at 1 fs))
    ∷ row (codes "sent") (AWord ∷ ANumber ∷ []) (λ fs. Sent (number_at 1 fs))
    ∷ row (codes "read") (AWord ∷ ANumber ∷ []) (λ fs. Read (number_at 1 fs))
    ∷ row (codes "from") (AWord ∷ AnAddress ∷ ANumber ∷ ANumber ∷ []) (λ fs. From (ip_at 1 fs) (port_at 2 fs) (number_at 3 fs))
    ∷ row (codes "addr") (AWord ∷ AnAddress ∷ ANumber ∷ []) (λ fs. Addr (ip_at 1 fs) (port_at 2 fs))
    ∷ record { word = codes "ready"; sorts = λ words. AWord ∷ names_for (rest_of words); value = λ fs. Ready (map item_in (drop 1 fs)) }
    ∷ row (codes "none") (AWord ∷ []) (λ fs. Nothing)
    ∷ row (codes "fed") (AWord ∷ ANumber ∷ []) (λ fs. Fed (number_at 1 fs))
    ∷ []

-- the outcome of these words
abbrev pub outcome_in : List (List ℕ) → Outcome
outcome_in words = read_by (fail_row Fail) outcome_rows words

pub outcome_plain : (x : Outcome) → are_plain (outcome_fields x) ≡ true
outcome_plain OkOutcome = refl
outcome_plain (Conn n) = refl
outcome_plain (Fd n) = refl
outcome_plain (Sent n) = refl
outcome_plain (Read n) = refl
outcome_plain (From ip port n) = refl
outcome_plain (Addr ip port) = refl
outcome_plain (Ready items) = plain_tests items
outcome_plain Nothing = refl
outcome_plain (Fed n) = refl
outcome_plain (Fail OkCode) = refl
outcome_plain (Fail Mem) = refl
outcome_plain (Fail Buf) = refl
outcome_plain (Fail TimeoutCode) = refl
outcome_plain (Fail Rte) = refl
outcome_plain (Fail InProgress) = refl
outcome_plain (Fail Val) = refl
outcome_plain (Fail WouldBlock) = refl
outcome_plain (Fail Use) = refl
outcome_plain (Fail Already) = refl
outcome_plain (Fail IsConn) = refl
outcome_plain (Fail ConnCode) = refl
outcome_plain (Fail If) = refl
outcome_plain (Fail Abrt) = refl
outcome_plain (Fail Rst) = refl
outcome_plain (Fail Clsd) = refl
outcome_plain (Fail Arg) = refl

-- an outcome, at the end of its line
pub outcome_back : (x : Outcome) → AreHeld (outcome_fields x) → outcome_in (map field_text (outcome_fields x) ++ []) ≡ x
outcome_back OkOutcome h = read_back (fail_row Fail) outcome_rows _ (outcome_fields OkOutcome) [] OkOutcome refl refl refl h refl
outcome_back (Conn n) h = read_back (fail_row Fail) outcome_rows _ (outcome_fields (Conn n)) [] (Conn n) refl refl refl h refl
outcome_back (Fd n) h = read_back (fail_row Fail) outcome_rows _ (outcome_fields (Fd n)) [] (Fd n) refl refl refl h refl
outcome_back (Sent n) h = read_back (fail_row Fail) outcome_rows _ (outcome_fields (Sent n)) [] (Sent n) refl refl refl h refl
outcome_back (Read n) h = read_back (fail_row Fail) outcome_rows _ (outcome_fields (Read n)) [] (Read n) refl refl refl h refl
outcome_back (From ip port n) h = read_back (fail_row Fail) outcome_rows _ (outcome_fields (From ip port n)) [] (From ip port n) refl refl refl h refl
outcome_back (Addr ip port) h = read_back (fail_row Fail) outcome_rows _ (outcome_fields (Addr ip port)) [] (Addr ip port) refl refl refl h refl
outcome_back (Ready items) h =
    read_back (fail_row Fail) outcome_rows _ (outcome_fields (Ready items)) [] (Ready items) refl (ap (λ (sorts : List Sort). AWord ∷ sorts) (names_sorts items))
    (plain_tests items) h (ap Ready (items_back items))
outcome_back Nothing h = read_back (fail_row Fail) outcome_rows _ (outcome_fields Nothing) [] Nothing refl refl refl h refl
outcome_back (Fed n) h = read_back (fail_row Fail) outcome_rows _ (outcome_fields (Fed n)) [] (Fed n) refl refl refl h refl
outcome_back (Fail OkCode) h = read_back (fail_row Fail) outcome_rows _ (outcome_fields (Fail OkCode)) [] (Fail OkCode) refl refl refl h refl
outcome_back (Fail Mem) h = read_back (fail_row Fail) outcome_rows _ (outcome_fields (Fail Mem)) [] (Fail Mem) refl refl refl h refl
outcome_back (Fail Buf) h = read_back (fail_row Fail) outcome_rows _ (outcome_fields (Fail Buf)) [] (Fail Buf) refl refl refl h refl
outcome_back (Fail TimeoutCode) h = read_back (fail_row Fail) outcome_rows _ (outcome_fields (Fail TimeoutCode)) [] (Fail TimeoutCode) refl refl refl h refl
outcome_back (Fail Rte) h = read_back (fail_row Fail) outcome_rows _ (outcome_fields (Fail Rte)) [] (Fail Rte) refl refl refl h refl
outcome_back (Fail InProgress) h = read_back (fail_row Fail) outcome_rows _ (outcome_fields (Fail InProgress)) [] (Fail InProgress) refl refl refl h refl
outcome_back (Fail Val) h = read_back (fail_row Fail) outcome_rows _ (outcome_fields (Fail Val)) [] (Fail Val) refl refl refl h refl
outcome_back (Fail WouldBlock) h = read_back (fail_row Fail) outcome_rows _ (outcome_fields (Fail WouldBlock)) [] (Fail WouldBlock) refl refl refl h refl
outcome_back (Fail Use) h = read_back (fail_row Fail) outcome_rows _ (outcome_fields (Fail Use)) [] (Fail Use) refl refl refl h refl
outcome_back (Fail Already) h = read_back (fail_row Fail) outcome_rows _ (outcome_fields (Fail Already)) [] (Fail Already) refl refl refl h refl
outcome_back (Fail IsConn) h = read_back (fail_row Fail) outcome_rows _ (outcome_fields (Fail IsConn)) [] (Fail IsConn) refl refl refl h refl
outcome_back (Fail ConnCode) h = read_back (fail_row Fail) outcome_rows _ (outcome_fields (Fail ConnCode)) [] (Fail ConnCode) refl refl refl h refl
outcome_back (Fail If) h = read_back (fail_row Fail) outcome_rows _ (outcome_fields (Fail If)) [] (Fail If) refl refl refl h refl
outcome_back (Fail Abrt) h = read_back (fail_row Fail) outcome_rows _ (outcome_fields (Fail Abrt)) [] (Fail Abrt) refl refl refl h refl
outcome_back (Fail Rst) h = read_back (fail_row Fail) outcome_rows _ (outcome_fields (Fail Rst)) [] (Fail Rst) refl refl refl h refl
outcome_back (Fail Clsd) h = read_back (fail_row Fail) outcome_rows _ (outcome_fields (Fail Clsd)) [] (Fail Clsd) refl refl refl h refl
outcome_back (Fail Arg) h = read_back (fail_row Fail) outcome_rows _ (outcome_fields (Fail Arg)) [] (Fail Arg) refl refl refl h refl
