use Rattle.std.proofs.Common.{◌≡◌, ℕ, ◌+◌, ◌<◌, ◌≤◌, ◌-◌, suc, true, false, List, [], ◌∷◌, ◌++◌, length, get_or, set, take, drop, Option, Some, None, refl, ap, sym, ◌∙◌, arith, All, option_to_list, append_assoc, drop-cons, length-append, option_and_then}
use Rattle.std.specs.List.{remove, cons_option, slice_get}
use Rattle.std.proofs.lemmas.List.{take-set, take-append-le, take_all, drop_at, drop-set-lt, take_more_set, length-set, length-take-le, get_or-set_same}
use Rattle.std.proofs.lemmas.Option.{slice_get_read}
use Rattle.std.proofs.lemmas.List.Edits.{length-remove}
use Rattle.std.proofs.lemmas.List.Elements.{All-rest}
use Rattle.lw_arp.specs.declared.entries.ArpEntry.{ArpEntry}
use Rattle.lw_arp.specs.Neighbours.{lifetime, older, is_over, aged, expired}

-- in the course of a tick the entries before a place are done, and the rest is still to be done
pub record Ticks {P : Type 0} (old now : List (ArpEntry P)) (place : ℕ) (gone_old gone : List P) (room_old room gone_room_old gone_room : ℕ) : Type 0 where
  pub within : place ≤ length now
  pub table : take place now ++ aged (drop place now) ≡ aged old
  pub lost : gone ++ expired (drop place now) ≡ gone_old ++ expired old
  pub young : All (λ (e : ArpEntry P). e.age < lifetime e) (drop place now)
  pub more : room_old ≤ room
  pub gone_more : gone_room_old ≤ gone_room
  pub gone_left : length gone + (length now - place) ≤ gone_room

-- a packet that may be there, before others
cons_option_append : {X : Type 0} (o : Option X) (xs : List X) → cons_option o xs ≡ option_to_list o ++ xs
cons_option_append None xs = refl
cons_option_append (Some x) xs = refl

-- what a tick does to the first entry, where its time is over
aged_over : {P : Type 0} (x : ArpEntry P) (xs : List (ArpEntry P)) → is_over (older x) ≡ true → aged (x ∷ xs) ≡ aged xs
aged_over x xs over = rw over refl

expired_over : {P : Type 0} (x : ArpEntry P) (xs : List (ArpEntry P)) → is_over (older x) ≡ true → expired (x ∷ xs) ≡ option_to_list x.packet ++ expired xs
expired_over x xs over = rw over (cons_option_append x.packet (expired xs))

-- and where it isn't
aged_alive : {P : Type 0} (x : ArpEntry P) (xs : List (ArpEntry P)) → is_over (older x) ≡ false → aged (x ∷ xs) ≡ older x ∷ aged xs
aged_alive x xs alive = rw alive refl

expired_alive : {P : Type 0} (x : ArpEntry P) (xs : List (ArpEntry P)) → is_over (older x) ≡ false → expired (x ∷ xs) ≡ expired xs
expired_alive x xs alive = rw alive refl

-- a list without the element at a place, where another one stood before
removed_is : {X : Type 0} (xs : List X) (i : ℕ) (y : X) → remove (set xs i y) i ≡ take i xs ++ drop (suc i) xs
removed_is xs i y = rw (take-set xs i y, drop-set-lt (suc i) xs i y (omega arith)) refl

removed_front : {X : Type 0} (xs : List X) (i : ℕ) (y : X) → i < length xs → take i (remove (set xs i y) i) ≡ take i xs
removed_front xs i y within =
    let long = length-take-le i xs (omega arith) in
    ap (take i) (removed_is xs i y) ∙ take-append-le i (take i xs) (drop (suc i) xs) (omega arith) ∙ take_all i (take i xs) (omega arith)

removed_back : {X : Type 0} (xs : List X) (i : ℕ) (y : X) → i < length xs → drop i (remove (set xs i y) i) ≡ drop (suc i) xs
removed_back xs i y within = ap (drop i) (removed_is xs i y) ∙ drop_at (take i xs) (drop (suc i) xs) i (length-take-le i xs (omega arith))

removed_long : {X : Type 0} (xs : List X) (i : ℕ) (y : X) → i < length xs → length (remove (set xs i y) i) + 1 ≡ length xs
removed_long xs i y within =
    let same = length-set xs i y in
    length-remove (set xs i y) i (omega arith) ∙ same

at_most_one : {X : Type 0} (o : Option X) → length (option_to_list o) ≤ 1
at_most_one None = omega arith
at_most_one (Some x) = omega arith

-- the packet at a place where an entry was put
pub packet_put : {P : Type 0} (now : List (ArpEntry P)) (i : ℕ) (y : ArpEntry P) → i < length now → option_and_then (λ (e : ArpEntry P). e.packet) (slice_get (set now i y) i) ≡ y.packet
packet_put now i y within =
    let long = length-set now i y in
    rw (slice_get_read (set now i y) (length (set now i y)) i y refl (omega arith) (sym (get_or-set_same now i y y within))) refl

-- the step of a tick at an entry whose time is over
pub Ticks-removed : {P : Type 0} {old now : List (ArpEntry P)} {place : ℕ} {gone_old gone : List P} {r s g h : ℕ} (x : ArpEntry P) (packet : Option P) (r' h' : ℕ) → Ticks old now place gone_old gone r s g h → place < length now → x ≡ get_or now place x → is_over (older x) ≡ true → packet ≡ x.packet → s ≤ r' → h ≤ h'
    → Ticks old (remove (set now place (older x)) place) place gone_old (gone ++ option_to_list packet) r r' g h'
Ticks-removed {P} {old} {now} {place} {gone_old} {gone} {r} {s} {g} {h} x packet r' h' t within read over given room gone_room =
    let rest = drop (suc place) now in
    let split : drop place now ≡ x ∷ rest = drop-cons now place x within ∙ ap (λ e. e ∷ rest) (sym read) in
    let after = remove (set now place (older x)) place in
    let front : take place after ≡ take place now = removed_front now place (older x) within in
    let back : drop place after ≡ rest = removed_back now place (older x) within in
    let long : length after + 1 ≡ length now = removed_long now place (older x) within in
    let one = at_most_one packet in
    record {
      within = let w = t.within in omega arith;
      table = rw (front, back) (ap (λ l. take place now ++ l) (sym (aged_over x rest over) ∙ ap aged (sym split)) ∙ t.table);
      lost = rw (back, given) (append_assoc gone (option_to_list x.packet) (expired rest) ∙ ap (λ l. gone ++ l) (sym (expired_over x rest over) ∙ ap expired (sym split)) ∙ t.lost);
      young = rw back (All-rest (λ (e : ArpEntry P). e.age < lifetime e) x rest (drop place now) split t.young);
      more = let m = t.more in omega arith;
      gone_more = let m = t.gone_more in omega arith;
      gone_left = let m = t.gone_left in omega (arith, length-append gone (option_to_list packet));
    }

-- and at one that stays
pub Ticks-kept : {P : Type 0} {old now : List (ArpEntry P)} {place : ℕ} {gone_old gone : List P} {r s g h : ℕ} (x : ArpEntry P) → Ticks old now place gone_old gone r s g h → place < length now → x ≡ get_or now place x → is_over (older x) ≡ false
    → Ticks old (set now place (older x)) (place + 1) gone_old gone r s g h
Ticks-kept {P} {old} {now} {place} {gone_old} {gone} {r} {s} {g} {h} x t within read alive =
    let rest = drop (suc place) now in
    let split : drop place now ≡ x ∷ rest = drop-cons now place x within ∙ ap (λ e. e ∷ rest) (sym read) in
    let after = set now place (older x) in
    let next : place + 1 ≡ suc place = omega arith in
    let front : take (place + 1) after ≡ take place now ++ older x ∷ [] = take_more_set now place (older x) within in
    let back : drop (place + 1) after ≡ rest = ap (λ n. drop n after) next ∙ drop-set-lt (suc place) now place (older x) (omega arith) in
    let long : length after ≡ length now = length-set now place (older x) in
    record {
      within = omega arith;
      table = rw (front, back) (append_assoc (take place now) (older x ∷ []) (aged rest)
          ∙ ap (λ l. take place now ++ l) (sym (aged_alive x rest alive) ∙ ap aged (sym split)) ∙ t.table);
      lost = rw back (ap (λ l. gone ++ l) (sym (expired_alive x rest alive) ∙ ap expired (sym split)) ∙ t.lost);
      young = rw back (All-rest (λ (e : ArpEntry P). e.age < lifetime e) x rest (drop place now) split t.young);
      more = t.more;
      gone_more = t.gone_more;
      gone_left = let m = t.gone_left in omega arith;
    }
