-- What a tick does to the way out, to what is kept and to what is held.
use Rattle.std.proofs.Common.{◌≡◌, ℕ, zero, suc, ◌+◌, ◌≤◌, ◌<◌, ◌++◌, ◌∙◌, Bool, true, false, not, cond, List, [], ◌∷◌, filter, length, get_or, map, nat_lt, take, append-nil, refl, sym, ap, subst, arith}
use Rattle.std.specs.List.{All, sum_by}
use Rattle.std.proofs.lemmas.Bool.Decides.{nat_tests}
use Rattle.std.proofs.lemmas.List.{take_more}
use Rattle.std.proofs.lemmas.List.Elements.{All-cons, All-filter, All-head, All-map, All-nil, All-tail, All-weaker, filter_passes}
use Rattle.lw_base.specs.declared.addresses.Ip.{Ip}
use Rattle.lw_netif.specs.Frames.{frames_left}
use Rattle.lw_payload.specs.Views.{View, HomeView, Pools}
use Rattle.lw_payload.specs.Totals.{total, IsOwned, Moves}
use Rattle.lw_payload.proofs.TotalLaws.{IsOwned-moved, IsSameTotal-alike, Moves-same, Moves-then}
use Rattle.lw_runs.specs.Kept.{Holds}
use Rattle.lw_runs.proofs.HoldsLaws.{Moves-holds}
use Rattle.lw_arp.specs.declared.entries.ArpEntry.{ArpEntry}
use Rattle.lw_arp.specs.Neighbours.{aged as neighbours_aged, asked_again, is_over, older as older_entry}
use Rattle.lw_events.specs.declared.entry.Entry.{Entry}
use Rattle.lw_events.specs.declared.event.Event.TheVariants.{Tick}
use Rattle.lw_events.specs.declared.event.Reply.{Reply}
use Rattle.lw_link.specs.Sound.{IsShort, IsSound, IsSoundWay}
use Rattle.lw_link.specs.Way.{Link, Way, asks, knows}
use Rattle.lw_link.proofs.ShortLaws.{asks_sound}
use Rattle.lw_reass.specs.Datagrams.{Datagram, aged as fragments_aged, older as older_datagram}
use Rattle.lw_reass.specs.Table.{Reassembly}
use Rattle.lw_layers.specs.declared.layers.Layers.{Layers}
use Rattle.lw_input.specs.Input.{begun}
use Rattle.lw_layers.specs.declared.receive.Received.{Received}
use Rattle.lw_layers.specs.History.{IsStep}
use Rattle.lw_layers.specs.Outcomes.{Outcome, counted}
use Rattle.lw_input.specs.State.{State}
use Rattle.lw_layers.specs.Ticks.{FragmentsLaw, after_ticks, asks_all, older_by, tick_moved, tick_step, with_tick}
use Rattle.lw_layers.proofs.MoveLaws.{IsOwned-back, IsOwned-by, IsOwned-front, Moves-back, Moves-by, Moves-front}

-- What goes out

-- one address more is asked for
pub asks_more : (w : Way) (ips : List Ip) (ip : Ip) → asks_all w (ips ++ ip ∷ []) ≡ asks (asks_all w ips) ip
asks_more w [] ip = refl
asks_more w (first ∷ ips) ip = asks_more (asks w first) ips ip

-- the next of a list of addresses is asked for
pub asks_next : (w : Way) (ips : List Ip) (i : ℕ) (d : Ip) → i < length ips → asks_all w (take (i + 1) ips) ≡ asks (asks_all w (take i ips)) (get_or ips i d)
asks_next w ips i d within = ap (asks_all w) (take_more ips i d within) ∙ asks_more w (take i ips) (get_or ips i d)

-- who asks learns nothing by it
asks_link : (w : Way) (ips : List Ip) → (asks_all w ips).link ≡ w.link
asks_link w [] = refl
asks_link w (ip ∷ ips) = asks_link (asks w ip) ips

asks_all_sound : (w : Way) (ips : List Ip) → IsSoundWay w → IsSoundWay (asks_all w ips)
asks_all_sound w [] sound = sound
asks_all_sound w (ip ∷ ips) sound = asks_all_sound (asks w ip) ips (asks_sound w ip sound)

-- what is known of neighbours stays sound as it gets older
aged_sound : (table : List (ArpEntry (List ℕ))) → All IsSound table → All IsSound (neighbours_aged table)
aged_sound table sound =
    All-filter (λ e. not (is_over e)) IsSound (map older_entry table)
    (All-map IsSound older_entry table (All-weaker IsSound (λ e. IsSound (older_entry e)) (λ e is. record { mac = is.mac; packet = is.packet }) table sound))

-- so does the way out over a tick
pub tick_sound : (s : State) → IsSoundWay (begun s) → IsSoundWay (tick_moved s).way
tick_sound s sound =
    asks_all_sound (knows (begun s) (neighbours_aged s.link.neighbours)) (asked_again s.link.neighbours)
    (record { own = sound.own; others = aged_sound s.link.neighbours sound.others; frames = sound.frames })

-- The state that is left

pub state_ticked : (s : State) (table : List (ArpEntry (List ℕ))) (ds : List Datagram) (frames : List (List ℕ))
    → table ≡ neighbours_aged s.link.neighbours → ds ≡ fragments_aged s.fragments → frames ≡ (tick_moved s).way.out
    → record {
      limits = s.limits;
      link = record { net = s.link.net; neighbours = table; next_id = s.link.next_id };
      fragments = ds;
      sent = s.sent ++ take (frames_left s.sent) frames;
      endpoints = s.endpoints;
      words = with_tick s.words;
    } ≡ (tick_step s).state
state_ticked s table ds frames table_is ds_is frames_is =
    let way : Way = (tick_moved s).way in
    let link_is : record { net = s.link.net; neighbours = table; next_id = s.link.next_id } ≡ way.link =
    ap (λ (t : List (ArpEntry (List ℕ))). record { net = s.link.net; neighbours = t; next_id = s.link.next_id }) table_is
    ∙ sym (asks_link (knows (begun s) (neighbours_aged s.link.neighbours)) (asked_again s.link.neighbours)) in
    ap (λ (l : Link). record { limits = s.limits; link = l; fragments = ds; sent = s.sent ++ take (frames_left s.sent) frames; endpoints = s.endpoints; words = with_tick s.words }) link_is
    ∙ ap (λ (x : List Datagram). record { limits = s.limits; link = way.link; fragments = x; sent = s.sent ++ take (frames_left s.sent) frames; endpoints = s.endpoints; words = with_tick s.words }) ds_is
    ∙ ap (λ (out : List (List ℕ)). record { limits = s.limits; link = way.link; fragments = fragments_aged s.fragments; sent = s.sent ++ take (frames_left s.sent) out; endpoints = s.endpoints; words = with_tick s.words }) frames_is

-- the layers once the tick is counted and the frames are sent
pub ticked_layers : {P H : Type 0} (s counts after : Layers P H) (table : List (ArpEntry P)) (fragments : Reassembly P) (frames : List (List ℕ))
    → counts ≡ record s { neighbours = table; fragments = fragments; words = record s.words { ticks = counted s.words.ticks } }
    → after ≡ record counts { sent = counts.sent ++ take (frames_left counts.sent) frames }
    → after ≡ record s { neighbours = table; fragments = fragments; sent = s.sent ++ take (frames_left s.sent) frames; words = record s.words { ticks = counted s.words.ticks } }
ticked_layers {P} {H} s counts after table fragments frames counts_is sends =
    sends ∙ ap (λ (x : Layers P H). record x { sent = x.sent ++ take (frames_left x.sent) frames }) counts_is

-- the entry of a tick is that of the step
pub is_ticked : (s t : State) (actor : ℕ) (made : Received) (frames : List (List ℕ)) (reply : Reply) (r : Entry × Reply)
    → t ≡ (tick_step s).state → frames ≡ (tick_step s).frames → made ≡ record { posts = []; frames = frames; short = false } → reply ≡ (tick_step s).reply
    → r ≡ (record { actor = actor; event = Tick; short = made.short; posts = made.posts; frames = made.frames; reply = reply }, reply)
    → IsStep s actor Tick r.0 r.1 t
is_ticked s t actor made frames reply r state_is frames_is made_is reply_is r_is =
    let o : Outcome = tick_step s in
    let entry : Received → Reply → Entry = λ m answer. record { actor = actor; event = Tick; short = m.short; posts = m.posts; frames = m.frames; reply = answer } in
    let sent : List (List ℕ) → Received = λ fs. record { posts = []; frames = fs; short = false } in
    let step : IsStep s actor Tick (entry made reply) reply t = record {
      made = ap (λ (m : Received). entry m reply) made_is ∙ ap (λ (fs : List (List ℕ)). entry (sent fs) reply) frames_is ∙ ap (entry (sent o.frames)) reply_is;
      answered = reply_is;
      moved = state_is;
    } in
    subst (λ (q : Entry × Reply). IsStep s actor Tick q.0 q.1 t) (sym r_is) step

-- What is held

-- fragments that are given up may be given
pub given_up_owned : {P : Type 0} (seen : P → View) (h : HomeView) (old new gone given : List P) → Holds seen old (gone ++ new) → given ≡ gone
    → IsOwned h (total seen h.pools.family old) → IsOwned h (total seen h.pools.family given)
given_up_owned {P} seen h old new gone given holds is owned =
    let f : List ℕ = h.pools.family in
    subst (λ (ps : List P). IsOwned h (total seen f ps)) (sym is)
    (IsOwned-front seen f h gone new (IsOwned-moved h h (total seen f old) (total seen f (gone ++ new)) owned (Moves-holds seen h f old (gone ++ new) holds)))

-- and when they were, the others are left
pub given_up_moves : {P : Type 0} (seen : P → View) (h k : HomeView) (old new gone given : List P) → Holds seen old (gone ++ new) → given ≡ gone
    → Moves h k (total seen h.pools.family given) (total seen h.pools.family []) → Moves h k (total seen h.pools.family old) (total seen h.pools.family new)
given_up_moves {P} seen h k old new gone given holds is spent =
    let f : List ℕ = h.pools.family in
    Moves-then h h k (total seen f old) (total seen f (gone ++ new)) (total seen f new) (Moves-holds seen h f old (gone ++ new) holds)
    (Moves-front seen f h k gone [] new (subst (λ (ps : List P). Moves h k (total seen f ps) (total seen f [])) is spent))

-- packets that leave the table
left_moves : {P : Type 0} (seen : P → View) (h : HomeView) (old new gone none : List P) → none ≡ [] → ((w : P → ℕ) → sum_by w (new ++ gone) ≡ sum_by w (old ++ none))
    → Moves h h (total seen h.pools.family old) (total seen h.pools.family (new ++ gone))
left_moves {P} seen h old new gone none is alike =
    let same : old ++ none ≡ old = ap (λ (ps : List P). old ++ ps) is ∙ append-nil old in
    Moves-same h (total seen h.pools.family old) (total seen h.pools.family (new ++ gone))
    (IsSameTotal-alike seen h.pools.family old (new ++ gone) (subst (λ (ps : List P). (w : P → ℕ) → sum_by w (new ++ gone) ≡ sum_by w ps) same alike))

-- may be given too
pub left_owned : {P : Type 0} (seen : P → View) (h : HomeView) (old new gone none : List P) → none ≡ [] → ((w : P → ℕ) → sum_by w (new ++ gone) ≡ sum_by w (old ++ none))
    → IsOwned h (total seen h.pools.family old) → IsOwned h (total seen h.pools.family gone)
left_owned seen h old new gone none is alike owned =
    let f = h.pools.family in
    IsOwned-back seen f h new gone (IsOwned-moved h h (total seen f old) (total seen f (new ++ gone)) owned (left_moves seen h old new gone none is alike))

pub left_spent : {P : Type 0} (seen : P → View) (h k : HomeView) (old new gone none : List P) → none ≡ [] → ((w : P → ℕ) → sum_by w (new ++ gone) ≡ sum_by w (old ++ none))
    → Moves h k (total seen h.pools.family gone) (total seen h.pools.family []) → Moves h k (total seen h.pools.family old) (total seen h.pools.family new)
left_spent {P} seen h k old new gone none is alike spent =
    let f = h.pools.family in
    subst (λ (ps : List P). Moves h k (total seen f old) (total seen f ps)) (append-nil new)
    (Moves-then h h k (total seen f old) (total seen f (new ++ gone)) (total seen f (new ++ [])) (left_moves seen h old new gone none is alike) (Moves-back seen f h k gone [] new spent))

-- what a stack holds, once its fragments and then its packets are older
pub packets_owned : {P : Type 0} (seen : P → View) (h k : HomeView) (packets kept rest : List P) → IsOwned h (total seen h.pools.family (packets ++ kept))
    → Moves h k (total seen h.pools.family kept) (total seen h.pools.family rest) → IsOwned k (total seen k.pools.family packets)
packets_owned seen h k packets kept rest owned moved =
    let f = h.pools.family in
    IsOwned-by seen k.pools.family f k packets (sym (ap (λ (p : Pools). p.family) moved.pools))
    (IsOwned-front seen f k packets rest (IsOwned-moved h k (total seen f (packets ++ kept)) (total seen f (packets ++ rest)) owned (Moves-back seen f h k kept rest packets moved)))

pub ticked_moves : {P : Type 0} (seen : P → View) (h k l : HomeView) (packets kept rest left after : List P)
    → Moves h k (total seen h.pools.family kept) (total seen h.pools.family rest) → Moves k l (total seen k.pools.family packets) (total seen k.pools.family left) → after ≡ left ++ rest
    → Moves h l (total seen h.pools.family (packets ++ kept)) (total seen h.pools.family after)
ticked_moves {P} seen h k l packets kept rest left after one two is =
    let f : List ℕ = h.pools.family in
    subst (λ (ps : List P). Moves h l (total seen f (packets ++ kept)) (total seen f ps)) (sym is)
    (Moves-then h k l (total seen f (packets ++ kept)) (total seen f (packets ++ rest)) (total seen f (left ++ rest))
    (Moves-back seen f h k kept rest packets one)
    (Moves-front seen f k l packets left rest (Moves-by seen f k.pools.family k l packets left (ap (λ (p : Pools). p.family) one.pools) two)))

-- Ticks alone

abbrev young : Datagram → Bool
young d = nat_lt d.age 60

is_young : (n : ℕ) → n < 60 → nat_lt n 60 ≡ true
is_young n less = grind (arith, nat_tests)

was_young : (n : ℕ) → nat_lt n 60 ≡ true → n < 60
was_young n less = grind (arith, nat_tests)

stays_old : (n m : ℕ) → n ≤ m → nat_lt n 60 ≡ false → nat_lt m 60 ≡ false
stays_old n m more old = grind (arith, nat_tests)

-- without a tick all are there
none_over : (ds : List Datagram) → All (λ (d : Datagram). d.age < 60) ds → ds ≡ filter young (map (older_by 0) ds)
none_over [] all = refl
none_over (d ∷ ds) all =
    let same : d.age + 0 ≡ d.age = omega arith in
    let now : nat_lt d.age 60 ≡ true = is_young d.age (All-head (λ (x : Datagram). x.age < 60) d ds all) in
    rw (same, now) (ap (λ (xs : List Datagram). d ∷ xs) (none_over ds (All-tail (λ (x : Datagram). x.age < 60) d ds all)))

-- one tick and n more are n + 1
one_more : (n : ℕ) (ds : List Datagram) → filter young (map (older_by n) (fragments_aged ds)) ≡ filter young (map (older_by (suc n)) ds)
one_more n [] = refl
one_more n (d ∷ ds) =
    let same : (d.age + 1) + n ≡ d.age + suc n = omega arith in
    elim (nat_lt (d.age + 1) 60) as (λ b. nat_lt (d.age + 1) 60 ≡ b → filter young (map (older_by n) (cond b (older_datagram d ∷ fragments_aged ds) (fragments_aged ds))) ≡ filter young (map (older_by (suc n)) (d ∷ ds))) [
      | true ↦ λ is. ap (λ (m : ℕ). cond (nat_lt m 60) (record d { age = m } ∷ filter young (map (older_by n) (fragments_aged ds))) (filter young (map (older_by n) (fragments_aged ds)))) same
          ∙ ap (λ (xs : List Datagram). cond (nat_lt (d.age + suc n) 60) (older_by (suc n) d ∷ xs) xs) (one_more n ds)
      | false ↦ λ is. let over : nat_lt (d.age + suc n) 60 ≡ false = stays_old (d.age + 1) (d.age + suc n) (omega arith) is in
          rw over (one_more n ds)
    ] refl

pub fragments_end : FragmentsLaw
fragments_end s zero all = none_over s.fragments all
fragments_end s (suc n) all =
    fragments_end (tick_step s).state n
    (All-weaker (λ (d : Datagram). young d ≡ true) (λ (d : Datagram). d.age < 60) (λ d is. was_young d.age is) (fragments_aged s.fragments) (filter_passes young (map older_datagram s.fragments)))
    ∙ one_more n s.fragments
