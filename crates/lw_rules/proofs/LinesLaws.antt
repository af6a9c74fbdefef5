-- Laws of histories, and of the lines that they are written as.
use Rattle.std.proofs.Common.{ℕ, ◌≡◌, ◌+◌, ◌<◌, ◌++◌, ◌∙◌, Bool, false, List, [], ◌∷◌, zero, suc, length, map, sum_by, slice_get, get_or, All, Some, ap, sym, subst, refl, arith, add-zero}
use Rattle.std.specs.List.{flat_map}
use Rattle.std.proofs.lemmas.List.Elements.{All-nil, All-cons, All-head, All-tail}
use Rattle.std.proofs.lemmas.List.Sums.{sum_by-cons}
use Rattle.std.specs.List.Sorted.{IsStrictlyIncreasing}
use Rattle.std.specs.Prelude.{option_to_list}
use Rattle.lw_events.specs.declared.event.Event.{Event}
use Rattle.lw_events.specs.declared.event.Event.TheVariants.{Frame}
use Rattle.lw_events.specs.declared.entry.Entry.{Entry}
use Rattle.lw_input.specs.State.{State}
use Rattle.lw_layers.specs.Step.{Served, Fed, Ticked, Sends, Answered, Ended, Unserved, served, served_step, step}
use Rattle.lw_layers.specs.History.{IsReplay, entry_of, granted, state_after}
use Rattle.lw_layers.proofs.NoEnds.{nothing_posted_by}
use Rattle.lw_layers.proofs.SendLaws.{send_granted}
use Rattle.lw_events.specs.declared.entry.Post.{Post}
use Rattle.lw_events.specs.Events.{Grants, grants_of, had_place}
use Rattle.lw_transcript.specs.declared.lines.CoreLine.{CoreLine}
use Rattle.lw_rules.specs.Lines.{core_lines_from, frames_sent}
use Rattle.lw_rules.specs.Schedule.{entries_of}
use Rattle.lw_rules.specs.Legal.{count_from, frame_in}

-- each event has its entry
pub length-entries_of : (s : State) (actor : ℕ) (events : List (Event (List ℕ))) → length (entries_of s actor events) ≡ length events
length-entries_of s actor [] = refl
length-entries_of s actor (event ∷ events) = ap suc (length-entries_of (step s event granted).state actor events)

-- no pool was short for what was granted all
served_whole : (s : State) (x : Served) → (served_step s x granted).short ≡ false
served_whole s (Fed octets) = refl
served_whole s Ticked = refl
served_whole s (Sends conn ip port given) = ap (λ (g : Grants). g.short) (send_granted s conn ip port given)
served_whole s (Answered a) = refl
served_whole s Ended = refl
served_whole s Unserved = refl

-- the entry of an event that is granted all tells that it was, where no port has an end
pub entry_granted : (s : State) (actor : ℕ) (event : Event (List ℕ)) → s.endpoints.udp.ends ≡ [] → grants_of (entry_of s actor event granted) ≡ granted
entry_granted s actor event none =
    ap (λ (b : Bool). let g : Grants = record { short = b; places = map had_place (step s event granted).posts } in g) (served_whole s (served s event))
    ∙ ap (λ (posts : List Post). let g : Grants = record { short = false; places = map had_place posts } in g) (nothing_posted_by s event granted none)

-- what an entry tells of its grants is that all was granted: no pool was short for it, and it posted nothing
abbrev pub IsGranted : Entry → Type 0
IsGranted e = grants_of e ≡ granted

-- frames that are fed one after another are a replay, before any other replay
pub replay_entries : (s : State) (actor : ℕ) (frames : List (List ℕ)) (more : List Entry) → s.endpoints.udp.ends ≡ [] → IsReplay (state_after s (map Frame frames)) more → IsReplay s (entries_of s actor (map Frame frames) ++ more)
replay_entries s actor [] more none h = h
replay_entries s actor (octets ∷ frames) more none h =
    let all : granted ≡ grants_of (entry_of s actor (Frame octets) granted) = sym (entry_granted s actor (Frame octets) none) in (
      tt,
      ap (λ (g : Grants). entry_of s actor (Frame octets) g) all,
      subst (λ (g : Grants). IsReplay (step s (Frame octets) g).state (entries_of (step s (Frame octets) granted).state actor (map Frame frames) ++ more)) all
          (replay_entries (step s (Frame octets) granted).state actor frames more none h),
    )

-- so do all entries of frames that are fed one after another
pub entries_granted : (s : State) (actor : ℕ) (frames : List (List ℕ)) (more : List Entry) → s.endpoints.udp.ends ≡ [] → All IsGranted more → All IsGranted (entries_of s actor (map Frame frames) ++ more)
entries_granted s actor [] more none rest = rest
entries_granted s actor (frame ∷ frames) more none rest =
    All-cons IsGranted (entry_of s actor (Frame frame) granted) (entries_of (step s (Frame frame) granted).state actor (map Frame frames) ++ more)
    (entry_granted s actor (Frame frame) none) (entries_granted (step s (Frame frame) granted).state actor frames more none rest)

-- the lines tell what the entries tell
pub lines_granted : (n : ℕ) (es : List Entry) → All IsGranted es → All (λ line. IsGranted line.entry) (core_lines_from n es)
lines_granted n [] all = All-nil (λ (line : CoreLine). IsGranted line.entry)
lines_granted n (e ∷ es) all =
    All-cons (λ (line : CoreLine). IsGranted line.entry) (record { number = n; entry = e }) (core_lines_from (n + 1) es)
    (All-head IsGranted e es all) (lines_granted (n + 1) es (All-tail IsGranted e es all))

-- the lines of a history are read as that history
pub entries_back : (n : ℕ) (es : List Entry) → map (λ line. line.entry) (core_lines_from n es) ≡ es
entries_back n [] = refl
entries_back n (e ∷ es) = ap (λ (xs : List Entry). e ∷ xs) (entries_back (n + 1) es)

-- the lines of a history are numbered in turn
pub numbers_of_lines : (n : ℕ) (es : List Entry) → map (λ line. line.number) (core_lines_from n es) ≡ count_from n es
numbers_of_lines n [] = refl
numbers_of_lines n (e ∷ es) = ap (λ (xs : List ℕ). n ∷ xs) (numbers_of_lines (n + 1) es)

-- as many lines as entries
pub length-core_lines_from : (n : ℕ) (es : List Entry) → length (core_lines_from n es) ≡ length es
length-core_lines_from n [] = refl
length-core_lines_from n (e ∷ es) = ap suc (length-core_lines_from (n + 1) es)

-- the lines have the frames of the entries
pub frames_of_lines : (n : ℕ) (es : List Entry) → sum_by (λ line. length line.entry.frames) (core_lines_from n es) ≡ frames_sent es
frames_of_lines n [] = refl
frames_of_lines n (e ∷ es) =
    sum_by-cons (λ (line : CoreLine). length line.entry.frames) (record { number = n; entry = e }) (core_lines_from (n + 1) es)
    ∙ ap (λ k. length e.frames + k) (frames_of_lines (n + 1) es)
    ∙ sym (sum_by-cons (λ (x : Entry). length x.frames) e es)

-- counting the lines or the entries gives the same numbers
pub count_lines : (k n : ℕ) (es : List Entry) → count_from k (core_lines_from n es) ≡ count_from k es
count_lines k n [] = refl
count_lines k n (e ∷ es) = ap (λ (xs : List ℕ). k ∷ xs) (count_lines (k + 1) (n + 1) es)

-- a count of two lists goes on from the first
pub count_from-append : {A : Type 0} (n : ℕ) (xs ys : List A) → count_from n (xs ++ ys) ≡ count_from n xs ++ count_from (n + length xs) ys
count_from-append n [] ys = ap (λ k. count_from k ys) (sym (add-zero n))
count_from-append n (x ∷ xs) ys =
    ap (λ (ns : List ℕ). n ∷ ns)
    (count_from-append (n + 1) xs ys ∙ ap (λ k. count_from (n + 1) xs ++ count_from k ys) (omega arith))

-- a count is as long as what it counts
pub length-count_from : {A : Type 0} (n : ℕ) (xs : List A) → length (count_from n xs) ≡ length xs
length-count_from n [] = refl
length-count_from n (x ∷ xs) = ap suc (length-count_from (n + 1) xs)

-- the k-th number of a count
pub get_or-count_from : {A : Type 0} (n : ℕ) (xs : List A) (k : ℕ) → k < length xs → get_or (count_from n xs) k 0 ≡ n + k
get_or-count_from n [] k h = absurd (omega arith)
get_or-count_from n (x ∷ xs) zero h = sym (add-zero n)
get_or-count_from n (x ∷ xs) (suc k) h =
    get_or-count_from (n + 1) xs k (omega arith) ∙ omega arith

-- a count rises
pub count_rises : {A : Type 0} (n : ℕ) (xs : List A) → IsStrictlyIncreasing (count_from n xs)
count_rises n xs k h =
    let few = length-count_from n xs in
    let here : k < length xs = omega arith in
    let next : k + 1 < length xs = omega arith in
    rw (get_or-count_from n xs k here, get_or-count_from n xs (k + 1) next) (omega arith)

-- the element behind a front
pub seam : {A : Type 0} (front : List A) (x : A) (behind : List A) → slice_get (front ++ x ∷ behind) (length front) ≡ Some x
seam [] x behind = refl
seam (y ∷ front) x behind = seam front x behind

-- the frames that lines were given, where events of frames come before other entries
pub frames_given : (s : State) (actor n : ℕ) (frames : List (List ℕ)) (more : List Entry) → flat_map (λ line. option_to_list (frame_in line.entry.event)) (core_lines_from n (entries_of s actor (map Frame frames) ++ more)) ≡ frames ++ flat_map (λ line. option_to_list (frame_in line.entry.event)) (core_lines_from (n + length frames) more)
frames_given s actor n [] more =
    ap (λ k. flat_map (λ line. option_to_list (frame_in line.entry.event)) (core_lines_from k more)) (sym (add-zero n))
frames_given s actor n (frame ∷ frames) more =
    ap (λ (xs : List (List ℕ)). frame ∷ xs)
    (
    frames_given (step s (Frame frame) granted).state actor (n + 1) frames more
    ∙ ap
    (λ k. frames ++ flat_map (λ line. option_to_list (frame_in line.entry.event)) (core_lines_from k more))
    (omega arith)
    )
