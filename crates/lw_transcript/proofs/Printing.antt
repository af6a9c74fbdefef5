-- Pages that are printed on in turn, and texts of one element more.
use Rattle.std.specs.Prelude.{ℕ, ◌+◌, ◌<◌, ◌≤◌, ◌≡◌, Bool, true, false, List, [], ◌∷◌, ◌++◌, length, take, drop, Result, Ok, Err, OnOk, OnErr, is_err}
use Rattle.std.proofs.Common.{refl, sym, ap, subst, get_or, arith, ◌∙◌, append_assoc}
use Rattle.std.proofs.lemmas.Grind.{common_steps}
use Rattle.std.proofs.lemmas.List.{take_more, take_all, append-nil, length-take-le, length-append, length-drop}
use Rattle.std.proofs.Math.Seq.{take-append_seam}
use Rattle.std.proofs.lemmas.List.Concat.{flat_map-append}
use Rattle.std.specs.List.{flat_map}
use Rattle.hex.specs.Hex.{encode_lower, encode_with, lower_digits}
use Rattle.lw_outside.specs.Faults.{HasCause, Rose}
use Rattle.lw_outside.specs.Sinks.{SinkSeen, Adds, AddsFront}
use Rattle.lw_transcript.specs.Page.{PageSeen, IsPrinted, Prints}
use Rattle.lw_transcript.specs.Fields.{Field, behind_text}
use Rattle.lw_transcript.specs.Transcript.{numbered}

-- one text behind another
pub Prints-then : {r s t : SinkSeen} {a b c : PageSeen} {x y : List ℕ} → Prints r s a b x → Prints s t b c y → Prints r t a c (x ++ y)
Prints-then {r} {s} {t} {a} {b} {c} {x} {y} first second = record {
  behind = λ start printed h. subst (λ (z : List ℕ). IsPrinted start t c z) (append_assoc printed x y)
      (second.behind start (printed ++ x) (first.behind start printed h));
}

-- the same text in another spelling
pub Prints-same : {r s : SinkSeen} {a b : PageSeen} {x y : List ℕ} → Prints r s a b x → x ≡ y → Prints r s a b y
Prints-same {r} {s} {a} {b} p e = subst (λ (x : List ℕ). Prints r s a b x) e p

-- a text that is put on the page
pub Prints-add : (s : SinkSeen) (a b : PageSeen) (x : List ℕ) → b.pending ≡ a.pending ++ x → b.failed ≡ a.failed → Prints s s a b x
Prints-add s a b x put same = record {
  behind = λ start printed h. record {
    taken = record {
      front = h.taken.front;
      behind = h.taken.behind ++ x;
      split = ap (λ (l : List ℕ). l ++ x) h.taken.split ∙ append_assoc h.taken.front h.taken.behind x;
      adds = h.taken.adds;
    };
    pending = λ calm. ap (λ (l : List ℕ). l ++ x) (h.pending (sym same ∙ calm)) ∙ sym put;
    later = h.later;
    rose = λ broken. h.rose (sym same ∙ broken);
  };
}

-- nothing is printed
pub Prints-none : (s : SinkSeen) (a : PageSeen) → Prints s s a a []
Prints-none s a = Prints-add s a a [] (sym (append-nil a.pending)) refl

-- behind a failed write the page is emptied alone
pub Prints-lost : (s : SinkSeen) (a b : PageSeen) → a.failed ≡ true → b.failed ≡ true → Prints s s a b []
Prints-lost s a b before after = record {
  behind = λ start printed h. record {
    taken = record {
      front = h.taken.front;
      behind = h.taken.behind;
      split = append-nil printed ∙ h.taken.split;
      adds = h.taken.adds;
    };
    pending = λ calm. absurd (let e : true ≡ false = sym after ∙ calm in cc);
    later = h.later;
    rose = λ broken. h.rose before;
  };
}

-- what was pending was taken
pub Prints-flushed : (s t : SinkSeen) (a b : PageSeen) → a.failed ≡ false → Adds s t a.pending → s.faults ≤ t.faults → b.pending ≡ [] → b.failed ≡ false → Prints s t a b []
Prints-flushed s t a b calm added rose empty still = record {
  behind = λ start printed h. record {
    taken = record {
      front = printed;
      behind = [];
      split = refl;
      adds =
          added ∙ ap (λ (l : List ℕ). l ++ a.pending) h.taken.adds ∙ append_assoc start.took h.taken.front a.pending
          ∙ ap (λ (l : List ℕ). start.took ++ l) (ap (λ (l : List ℕ). h.taken.front ++ l) (sym (h.pending calm)) ∙ sym h.taken.split);
    };
    pending = λ _. sym empty;
    later = let first = h.later in omega arith;
    rose = λ broken. absurd (let e : true ≡ false = sym broken ∙ still in cc);
  };
}

-- a count that rose since a later time rose
rose_since : (m n k : ℕ) → m ≤ n → Rose n k → Rose m k
rose_since m n k h r = omega arith

-- a front of what was pending was taken, and a write failed
pub Prints-broken : (s t : SinkSeen) (a b : PageSeen) → a.failed ≡ false → AddsFront s t a.pending → s.faults ≤ t.faults → Rose s.faults t.faults → b.failed ≡ true → Prints s t a b []
Prints-broken s t a b calm front rises rose broken = record {
  behind = λ start printed h. record {
    taken = record {
      front = h.taken.front ++ front.front;
      behind = front.behind;
      split =
          append-nil printed ∙ h.taken.split ∙ ap (λ (l : List ℕ). h.taken.front ++ l) (h.pending calm ∙ front.split)
          ∙ sym (append_assoc h.taken.front front.front front.behind);
      adds =
          front.adds ∙ ap (λ (l : List ℕ). l ++ front.front) h.taken.adds
          ∙ append_assoc start.took h.taken.front front.front;
    };
    pending = λ still. absurd (let e : true ≡ false = sym broken ∙ still in cc);
    later = let first = h.later in omega arith;
    rose = λ _. rose_since start.faults s.faults t.faults h.later rose;
  };
}

-- what is pending is given to the sink, by what writing answered
pub Prints-flush : {T E : Type 0} (s t : SinkSeen) (a b : PageSeen) (octets : List ℕ) (r : Result T E) → a.failed ≡ false → octets ≡ a.pending
    → OnOk r (Adds s t octets) → OnErr r (AddsFront s t octets) → HasCause s.faults t.faults r → b.pending ≡ [] → b.failed ≡ is_err r
    → Prints s t a b []
Prints-flush s t a b octets (Ok x) calm is added front cause empty failed =
    Prints-flushed s t a b calm (subst (λ (l : List ℕ). Adds s t l) is added) cause.later empty failed
Prints-flush s t a b octets (Err e) calm is added front cause empty failed =
    Prints-broken s t a b calm (subst (λ (l : List ℕ). AddsFront s t l) is front) cause.later cause.failed failed

-- the front of a list in which a piece was placed at n
pub take_placed : (n m : ℕ) (xs piece rest : List ℕ) → n ≤ length xs → m ≡ length piece → take (n + m) (take n xs ++ piece ++ rest) ≡ take n xs ++ piece
take_placed n m xs piece rest inside is =
    let front : length (take n xs) ≡ n = length-take-le n xs inside in
    let both : length (take n xs ++ piece) ≡ n + m = length-append (take n xs) piece ∙ omega (arith, front, is) in
    subst (λ k. take k (take n xs ++ piece ++ rest) ≡ take n xs ++ piece) both (take-append_seam (take n xs ++ piece) rest)

-- the length of a list in which a piece was placed at n
pub length_placed : (n m : ℕ) (xs piece : List ℕ) → n + m ≤ length xs → m ≡ length piece → length (take n xs ++ piece ++ drop m (drop n xs)) ≡ length xs
length_placed n m xs piece inside is =
    let front : length (take n xs) ≡ n = length-take-le n xs (omega arith) in
    let parts = length-append (take n xs ++ piece) (drop m (drop n xs)) in
    let two = length-append (take n xs) piece in
    let back = length-drop m (drop n xs) in
    let behind = length-drop n xs in
    omega (arith, front, parts, two, back, behind, is)

-- what is pending and a piece more fit a page
pub fits_page : (n m : ℕ) (xs pending : List ℕ) → length xs ≡ 65536 → n ≤ 65536 → take n xs ≡ pending → length pending + m ≤ 65536 → n + m ≤ 65536
fits_page n m xs pending long inside is few =
    let front : length (take n xs) ≡ n = length-take-le n xs (omega arith) in
    let same = ap length is in
    omega (arith, front, same)

-- all octets before the rest are printed, by this spelling
pub record PutSoFar (f : List ℕ → List ℕ) (r s : SinkSeen) (a b : PageSeen) (octets rest : List ℕ) : Type 0 where
  pub front : List ℕ
  pub split : octets ≡ front ++ rest
  pub printed : Prints r s a b (f front)

-- hexadecimal piece by piece
pub encode-append : (t xs ys : List ℕ) → encode_with t (xs ++ ys) ≡ encode_with t xs ++ encode_with t ys
unfolding encode_with
encode-append t [] ys = refl
encode-append t (x ∷ xs) ys = ap (λ (l : List ℕ). encode_with t (x ∷ []) ++ l) (encode-append t xs ys)

-- the text of no octets
pub encode-none : encode_lower [] ≡ []
unfolding encode_with
encode-none = refl

-- nothing is put yet
pub put_none : (f : List ℕ → List ℕ) (s : SinkSeen) (a : PageSeen) (octets : List ℕ) → f [] ≡ [] → PutSoFar f s s a a octets octets
put_none f s a octets none = record { front = []; split = refl; printed = Prints-same (Prints-none s a) (sym none) }

-- a piece more is put
pub put_more : (f : List ℕ → List ℕ) (r s t : SinkSeen) (a b c d : PageSeen) (octets rest : List ℕ) (piece behind : List ℕ)
    → ((xs ys : List ℕ) → f (xs ++ ys) ≡ f xs ++ f ys) → PutSoFar f r s a b octets rest → rest ≡ piece ++ behind
    → Prints s t b c [] → d.pending ≡ c.pending ++ f piece → d.failed ≡ c.failed
    → PutSoFar f r t a d octets behind
put_more f r s t a b c d octets rest piece behind parts so_far cut room put same = record {
  front = so_far.front ++ piece;
  split = so_far.split ∙ ap (λ (l : List ℕ). so_far.front ++ l) cut ∙ sym (append_assoc so_far.front piece behind);
  printed =
      Prints-same (Prints-then (Prints-then so_far.printed room) (Prints-add t c d (f piece) put same))
      (ap (λ (l : List ℕ). l ++ f piece) (append-nil (f so_far.front)) ∙ sym (parts so_far.front piece));
}

-- all is put
pub put_all : (f : List ℕ → List ℕ) (r s : SinkSeen) (a b : PageSeen) (octets rest : List ℕ) → length rest ≡ 0 → PutSoFar f r s a b octets rest → Prints r s a b (f octets)
put_all f r s a b octets [] none so_far = Prints-same so_far.printed (ap f (sym (append-nil so_far.front) ∙ sym so_far.split))
put_all f r s a b octets (x ∷ rest) none so_far = absurd (omega arith)

-- the text of a list of which all is printed
pub Prints-whole : {X : Type 0} {r s : SinkSeen} {a b : PageSeen} (f : List X → List ℕ) (xs : List X) (i : ℕ) → length xs ≤ i
    → Prints r s a b (f (take i xs)) → Prints r s a b (f xs)
Prints-whole f xs i h p = Prints-same p (ap f (take_all i xs h))

-- the texts of one element more
flat_map-more : {X : Type 0} (f : X → List ℕ) (xs : List X) (i : ℕ) (x : X) → i < length xs → x ≡ get_or xs i x
    → flat_map f (take (i + 1) xs) ≡ flat_map f (take i xs) ++ f x
flat_map-more f xs i x h is =
    let cut = take_more xs i x h in
    let parts = flat_map-append f (take i xs) (get_or xs i x ∷ []) in
    let last = append-nil (f x) in
    rw (cut, parts, ← is) (ap (λ (r : List ℕ). flat_map f (take i xs) ++ r) last)

-- the texts of one element more, printed
pub Prints-each : {X : Type 0} {r s t : SinkSeen} {a b c : PageSeen} (f : X → List ℕ) (xs : List X) (i : ℕ) (x : X) → i < length xs
    → x ≡ get_or xs i x → Prints r s a b (flat_map f (take i xs)) → Prints s t b c (f x)
    → Prints r t a c (flat_map f (take (i + 1) xs))
Prints-each f xs i x h is first second = Prints-same (Prints-then first second) (sym (flat_map-more f xs i x h is))

-- one element more, at the number behind
numbered-push : {X : Type 0} (f : ℕ → X → List ℕ) (n : ℕ) (xs : List X) (x : X)
    → numbered f n (xs ++ x ∷ []) ≡ numbered f n xs ++ f (n + length xs) x
numbered-push f n [] x = grind (arith, common_steps)
numbered-push f n (y ∷ ys) x =
    let more = numbered-push f (n + 1) ys x in
    let place : (n + 1) + length ys ≡ n + length (y ∷ ys) = omega arith in
    grind (arith, common_steps, more)

-- the texts of one numbered element more
numbered-more : {X : Type 0} (f : ℕ → X → List ℕ) (n : ℕ) (xs : List X) (i : ℕ) (x : X) → i < length xs
    → x ≡ get_or xs i x → numbered f n (take (i + 1) xs) ≡ numbered f n (take i xs) ++ f (n + i) x
numbered-more f n xs i x h is =
    let cut = take_more xs i x h in
    let parts = numbered-push f n (take i xs) (get_or xs i x) in
    let place : length (take i xs) ≡ i = length-take-le i xs (omega arith) in
    rw (cut, parts, place, ← is) refl

-- the texts of one numbered element more, printed
pub Prints-numbered : {X : Type 0} {r s t : SinkSeen} {a b c : PageSeen} (f : ℕ → X → List ℕ) (n : ℕ) (xs : List X) (i k : ℕ) (x : X)
    → k ≡ n + i → i < length xs → x ≡ get_or xs i x → Prints r s a b (numbered f n (take i xs)) → Prints s t b c (f k x)
    → Prints r t a c (numbered f n (take (i + 1) xs))
Prints-numbered f n xs i k x e h is first second =
    let last = Prints-same second (ap (λ (m : ℕ). f m x) e) in
    Prints-same (Prints-then first last) (sym (numbered-more f n xs i x h is))

-- what a whole text that was printed on an empty page comes to
pub printed_whole : (s t u : SinkSeen) (a b c : PageSeen) (text : List ℕ) → a.pending ≡ [] → a.failed ≡ false → Prints s t a b text → Prints t u b c [] → IsPrinted s u c text
printed_whole s t u a b c text empty calm first last =
    let begun : IsPrinted s s a [] = record {
      taken = record { front = []; behind = []; split = refl; adds = sym (append-nil s.took) };
      pending = λ _. sym empty;
      later = omega arith;
      rose = λ broken. absurd (let e : true ≡ false = sym broken ∙ calm in cc);
    } in
    let all : IsPrinted s u c (text ++ []) = (Prints-then first last).behind s [] begun in
    subst (λ (x : List ℕ). IsPrinted s u c x) (append-nil text) all

-- nothing is pending, and no write failed: all of the text was taken
pub taken_whole : (s u : SinkSeen) (c : PageSeen) (text : List ℕ) → c.pending ≡ [] → c.failed ≡ false → IsPrinted s u c text → Adds s u text
taken_whole s u c text empty calm p =
    let whole : text ≡ p.taken.front =
    p.taken.split ∙ ap (λ (l : List ℕ). p.taken.front ++ l) (p.pending calm ∙ empty) ∙ append-nil p.taken.front in
    p.taken.adds ∙ ap (λ (l : List ℕ). s.took ++ l) (sym whole)

-- fields that are printed behind a line's first word and other fields
pub Prints-behind : {r s t : SinkSeen} {a b c : PageSeen} (word : List ℕ) (xs ys : List Field) → Prints r s a b (word ++ flat_map behind_text xs)
    → Prints s t b c (flat_map behind_text ys) → Prints r t a c (word ++ flat_map behind_text (xs ++ ys))
Prints-behind word xs ys first second =
    Prints-same (Prints-then first second)
    (append_assoc word (flat_map behind_text xs) (flat_map behind_text ys)
    ∙ ap (λ (t : List ℕ). word ++ t) (sym (flat_map-append behind_text xs ys)))

-- fields that are printed behind others
pub Prints-two : {r s t : SinkSeen} {a b c : PageSeen} (xs ys : List Field) → Prints r s a b (flat_map behind_text xs)
    → Prints s t b c (flat_map behind_text ys) → Prints r t a c (flat_map behind_text (xs ++ ys))
Prints-two xs ys first second = Prints-same (Prints-then first second) (sym (flat_map-append behind_text xs ys))
