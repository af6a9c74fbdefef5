-- A look writes no core line.
use Rattle.std.proofs.Common.{ℕ, ◌≡◌, ◌∙◌, ◌+◌, ◌++◌, Bool, true, false, List, [], ◌∷◌, Option, Some, None, refl, ap, arith, length, nat_le, ◌==◌}
use Rattle.lw_base.specs.declared.addresses.Ip.{Ip}
use Rattle.lw_base.specs.declared.addresses.Port.{Port}
use Rattle.lw_base.specs.declared.event_word.Word.{Word}
use Rattle.call_places.specs.declared.asks.Piece.{Piece}
use Rattle.call_places.specs.declared.asks.Piece.TheVariants.{Segment, Datagram, Accepted, Nothing}
use Rattle.call_places.specs.declared.asks.Turn.{Turn}
use Rattle.call_places.specs.declared.asks.Turn.TheVariants.{GoOn, GiveUp}
use Rattle.call_places.specs.declared.asks.Answer.{Answer}
use Rattle.call_places.specs.declared.place.Seen.{Seen}
use Rattle.call_places.specs.declared.place.Seen.TheVariants.{Core, Sight}
use Rattle.call_places.specs.declared.place.ReadKind.{ReadKind}
use Rattle.call_places.specs.declared.place.ReadKind.TheVariants.{Once, All, From, Item}
use Rattle.call_places.specs.declared.place.Awaiting.{Awaiting}
use Rattle.call_places.specs.declared.place.Accepting.{Accepting}
use Rattle.call_places.specs.declared.place.Reading.{Reading}
use Rattle.call_places.specs.declared.place.Sending.{Sending}
use Rattle.call_places.specs.declared.place.ScanTarget.{ScanTarget}
use Rattle.call_places.specs.declared.place.Scan.{Scan}
use Rattle.call_places.specs.declared.place.Timing.{Timing}
use Rattle.call_places.specs.declared.place.Due.{Due}
use Rattle.call_places.specs.declared.place.Due.TheVariants.{AtOnce, Stopped, Time, GivenUp}
use Rattle.call_places.specs.declared.place.Want.{Want}
use Rattle.call_places.specs.declared.place.Want.TheVariants.{Signal, Accept, Read, Connected, Room, Scan as ScanWant}
use Rattle.call_places.specs.declared.place.Stage.{Stage}
use Rattle.call_places.specs.declared.place.Stage.TheVariants.{Try, Begin, Stop, Now, Pause}
use Rattle.call_places.specs.declared.place.Place.TheVariants.{Waits}
use Rattle.call_places.specs.declared.place.Step.{Step}
use Rattle.lw_base.specs.declared.event_word.Flag.TheVariants.{Writable as WritableFlag, Ended as EndedFlag, Fault as FaultFlag, Closed as ClosedFlag, Listen as ListenFlag}
use Rattle.lw_base.specs.EventWord.{is_set}
use Rattle.call_types.specs.declared.sight.Sight.TheVariants.{Count as CountSight, Saw}
use Rattle.call_places.specs.Waits.{after_now, vain_by, time_lines, due_lines, is_scan, begin_lines, after_begin, after_stop, after_pause}
use Rattle.call_places.specs.Reads.{counted, connect_looks, none_accepted, after_accept, read_segment, read_octets, read_datagram, read_so_far, wants_more, none_read, after_read, took, got_datagram, saw, after_count, after_connect_look, is_unreadable}
use Rattle.call_places.specs.Sends.{room_by, may_write, after_room}
use Rattle.call_places.specs.Selects.{scan_by, scan_over, scan_target, scanned, next_target, unscanned, after_scan}
use Rattle.lw_calls.specs.Answers.{on, number_of, word_of, piece_of, whether_of, turn_of}
use Rattle.lw_calls.specs.Machine.{steps, after_try}
use Rattle.lw_calls.specs.Laws.{cores, held_by, LookLaw}

pub cores_append : (xs ys : List Seen) → cores (xs ++ ys) ≡ cores xs + cores ys
cores_append [] ys = omega arith
cores_append (Core ∷ xs) ys = let h = cores_append xs ys in omega arith
cores_append (Sight sight ∷ xs) ys = cores_append xs ys

pub cores_time : (scan : Bool) (begun : Option ℕ) (now : ℕ) → cores (time_lines scan begun now) ≡ 0
cores_time true (Some begun) now = refl
cores_time true None now = refl
cores_time false begun now = refl

pub cores_due : (scan : Bool) (begun : Option ℕ) (due : Due) → cores (due_lines scan begun due) ≡ 0
cores_due scan begun AtOnce = refl
cores_due scan begun Stopped = refl
cores_due scan begun (Time now) = cores_time scan begun now
cores_due scan begun GivenUp = refl

pub cores_vain : (due : Option Due) (want : Want) (timing : Timing) (lines : List Seen) → cores lines ≡ 0 → cores (vain_by due want timing lines).wrote ≡ 0
cores_vain None want timing lines h = refl
cores_vain (Some due) want timing lines h =
    let a = cores_append (due_lines (is_scan want) timing.begun due) lines in
    let d = cores_due (is_scan want) timing.begun due in omega arith

pub cores_counted : (b : Bool) (awaiting : Awaiting) (timing : Timing) (n : ℕ) → cores (counted b awaiting timing n).wrote ≡ 0
cores_counted true awaiting timing n = refl
cores_counted false awaiting timing n = cores_vain timing.due (Signal awaiting) timing (Sight (CountSight awaiting.signal n) ∷ []) refl

pub cores_connect : (closed fault open_ : Bool) (conn : ℕ) (timing : Timing) (word : Word) → cores (connect_looks closed fault open_ conn timing word).wrote ≡ 0
cores_connect true fault open_ conn timing word = refl
cores_connect false true open_ conn timing word = refl
cores_connect false false true conn timing word = refl
cores_connect false false false conn timing word = cores_vain timing.due (Connected conn) timing (saw conn word) refl

pub cores_none_accepted : (closed listens : Bool) (accepting : Accepting) (timing : Timing) (word : Word) → cores (none_accepted closed listens accepting timing word).wrote ≡ 0
cores_none_accepted true listens accepting timing word = refl
cores_none_accepted false false accepting timing word = refl
cores_none_accepted false true accepting timing word = cores_vain timing.due (Accept accepting) timing (saw accepting.conn word) refl

pub cores_accept : (accepting : Accepting) (timing : Timing) (piece : Piece) → cores (after_accept accepting timing piece).wrote ≡ 0
cores_accept accepting timing (Segment ticket from octets) = refl
cores_accept accepting timing (Datagram ticket ip port octets) = refl
cores_accept accepting timing (Accepted ticket fresh) = refl
cores_accept accepting timing (Nothing word) = cores_none_accepted (is_set ClosedFlag word.flags) (is_set ListenFlag word.flags) accepting timing word

pub cores_segment : (kind : ReadKind) (reading : Reading) (timing : Timing) (n : ℕ) (lines : List Seen) → cores lines ≡ 0 → cores (read_segment kind reading timing n lines).wrote ≡ 0
cores_segment Once reading timing n lines h = refl
cores_segment All reading timing n lines h = refl
cores_segment From reading timing n lines h = h
cores_segment Item reading timing n lines h = refl

pub cores_so_far : (b : Bool) (reading : Reading) (timing : Timing) (n : ℕ) (lines : List Seen) → cores lines ≡ 0 → cores (read_so_far b reading timing n lines).wrote ≡ 0
cores_so_far true reading timing n lines h = h
cores_so_far false reading timing n lines h = h

pub cores_octets : (b : Bool) (reading : Reading) (timing : Timing) (n : ℕ) (lines : List Seen) → cores lines ≡ 0 → cores (read_octets b reading timing n lines).wrote ≡ 0
cores_octets true reading timing n lines h = h
cores_octets false reading timing n lines h = cores_so_far (wants_more reading.kind (reading.got + n) reading.count) reading timing (reading.got + n) lines h

pub cores_datagram : (kind : ReadKind) (reading : Reading) (timing : Timing) (ip : Ip) (port : Port) (n : ℕ) (lines : List Seen) → cores lines ≡ 0 → cores (read_datagram kind reading timing ip port n lines).wrote ≡ 0
cores_datagram Once reading timing ip port n lines h = cores_octets (n == 0) reading timing n lines h
cores_datagram All reading timing ip port n lines h = cores_octets (n == 0) reading timing n lines h
cores_datagram From reading timing ip port n lines h = h
cores_datagram Item reading timing ip port n lines h = cores_octets (n == 0) reading timing n lines h

pub cores_none_read : (closed fault ended : Bool) (reading : Reading) (timing : Timing) (word : Word) → cores (none_read closed fault ended reading timing word).wrote ≡ 0
cores_none_read true fault ended reading timing word = refl
cores_none_read false true ended reading timing word = refl
cores_none_read false false true reading timing word = refl
cores_none_read false false false reading timing word = cores_vain timing.due (Read reading) timing (saw reading.conn word) refl

pub cores_read : (reading : Reading) (timing : Timing) (piece : Piece) → cores (after_read reading timing piece).wrote ≡ 0
cores_read reading timing (Segment ticket from octets) = cores_segment reading.kind reading timing (length octets) (took reading.conn ticket from octets) refl
cores_read reading timing (Datagram ticket ip port octets) = cores_datagram reading.kind reading timing ip port (length octets) (got_datagram reading.conn ticket ip port octets) refl
cores_read reading timing (Accepted ticket fresh) = refl
cores_read reading timing (Nothing word) = cores_none_read (is_unreadable word) (is_set FaultFlag word.flags) (is_set EndedFlag word.flags) reading timing word

pub cores_room : (b : Bool) (sending : Sending) (timing : Timing) → cores (room_by b sending timing).wrote ≡ 0
cores_room true sending timing = refl
cores_room false sending timing = refl

pub cores_scan_over : (b : Bool) (scan : Scan) (timing : Timing) → cores scan.shown ≡ 0 → cores (scan_over b scan timing).wrote ≡ 0
cores_scan_over true scan timing h = cores_vain timing.due (ScanWant (unscanned scan.targets)) timing scan.shown h
cores_scan_over false scan timing h = h

pub cores_scan_by : (b : Bool) (scan : Scan) (timing : Timing) → cores scan.shown ≡ 0 → cores (scan_by b scan timing).wrote ≡ 0
cores_scan_by true scan timing h = cores_scan_over (length scan.ready == 0) scan timing h
cores_scan_by false scan timing h = refl

pub cores_scan : (target : Option ScanTarget) (scan : Scan) (timing : Timing) (word : Word) → cores scan.shown ≡ 0 → cores (scan_target target scan timing word).wrote ≡ 0
cores_scan None scan timing word h = refl
cores_scan (Some target) scan timing word h =
    cores_scan_by (nat_le (length (scanned scan target word).targets) (length (scanned scan target word).shown)) (scanned scan target word) timing (cores_append scan.shown (Sight (Saw target.conn word) ∷ []) ∙ ap (λ n. n + 0) h)

pub cores_on : {A : Type 0} (x : Option A) (f : A → Step) → ((a : A) → cores (f a).wrote ≡ 0) → cores (on f x).wrote ≡ 0
cores_on (Some a) f h = h a
cores_on None f h = refl

pub cores_try : (want : Want) (timing : Timing) (x : Answer) → cores (held_by want) ≡ 0 → cores (after_try want timing x).wrote ≡ 0
cores_try (Signal awaiting) timing x h = cores_on (number_of x) (λ n. after_count awaiting timing n) (λ n. cores_counted (nat_le awaiting.count n) awaiting timing n)
cores_try (Accept accepting) timing x h = cores_on (piece_of x) (λ piece. after_accept accepting timing piece) (λ piece. cores_accept accepting timing piece)
cores_try (Read reading) timing x h = cores_on (piece_of x) (λ piece. after_read reading timing piece) (λ piece. cores_read reading timing piece)
cores_try (Connected conn) timing x h = cores_on (word_of x) (λ word. after_connect_look conn timing word) (λ word. cores_connect (is_set ClosedFlag word.flags) (is_set FaultFlag word.flags) (is_set WritableFlag word.flags) conn timing word)
cores_try (Room sending) timing x h = cores_on (word_of x) (λ word. after_room sending timing word) (λ word. cores_room (may_write word) sending timing)
cores_try (ScanWant scan) timing x h = cores_on (word_of x) (λ word. after_scan scan timing word) (λ word. cores_scan (next_target scan) scan timing word h)

pub cores_begin : (b : Bool) (begun : ℕ) → cores (begin_lines b begun) ≡ 0
cores_begin true begun = refl
cores_begin false begun = refl

pub cores_stop : (want : Want) (timing : Timing) (b : Bool) → cores (after_stop want timing b).wrote ≡ 0
cores_stop want timing true = refl
cores_stop want timing false = refl

pub cores_pause : (want : Want) (timing : Timing) (turn : Turn) → cores (after_pause want timing turn).wrote ≡ 0
cores_pause want timing GoOn = refl
cores_pause want timing GiveUp = refl

pub cores_wait : (stage : Stage) (want : Want) (timing : Timing) (x : Answer) → cores (held_by want) ≡ 0 → cores (steps (Waits stage want timing) x).wrote ≡ 0
cores_wait Try want timing x h = cores_try want timing x h
cores_wait Begin want timing x h = cores_on (number_of x) (λ n. after_begin want timing n) (λ n. cores_begin (is_scan want) n)
cores_wait Stop want timing x h = cores_on (whether_of x) (λ b. after_stop want timing b) (λ b. cores_stop want timing b)
cores_wait Now want timing x h = cores_on (number_of x) (λ n. after_now want timing n) (λ n. refl)
cores_wait Pause want timing x h = cores_on (turn_of x) (λ turn. after_pause want timing turn) (λ turn. cores_pause want timing turn)

pub looks : LookLaw
looks = record { look = cores_wait; stays = λ result x. refl; quiet = λ result x. refl }
