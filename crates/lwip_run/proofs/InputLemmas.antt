-- What is known while a file is read.
use Rattle.std.proofs.Common.{ℕ, ◌≡◌, ◌∙◌, ◌+◌, ◌-◌, ◌≤◌, ◌<◌, ◌++◌, ◌==◌, ◌||◌, ◌&&◌, nat_lt, nat_eq, Bool, true, false, List, [], ◌∷◌, length, take, Option, Some, None, Result, Ok, Err, IfSome, IsSome, IsTrue, All, is_some, OnErr, ap, subst, sym, refl, append-nil, append_assoc, slice_index_or, eq-eqb, ne_eqb, arith}
use Rattle.std.proofs.lemmas.Bool.{lt-ltb}
use Rattle.std.proofs.lemmas.List.{length-append, length-take-le}
use Rattle.std.proofs.lemmas.List.Elements.{All-append, All-cons, All-head, All-nil}
use Rattle.lw_outside.specs.declared.files.Failed.{Failed}
use Rattle.lw_outside.specs.Faults.{Rose}
use Rattle.lw_outside.specs.Files.{FileSeen, FilesSeen, Finds, IsGiven, IsReadOf, Reads, SameNames, Tells, file_of, is_number, looked_for, read_more, with_file}
use Rattle.lwip_run.specs.Reading.{IsLonger, IsLost, IsRead, Sees, SeesOne}

-- a file of which these octets were read so far
abbrev pub opened : List ℕ → ℕ → List ℕ → FileSeen
opened name n octets = record { name = name; number = Some n; gave = octets; ended = false; failed = false }

-- it is the one that was looked for last
pub record Reading (before now : FilesSeen) (name : List ℕ) (n : ℕ) (octets : List ℕ) (limit : ℕ) : Type 0 where
  pub sought : now.sought ≡ opened name n octets ∷ before.sought
  pub few : length octets ≤ limit + 1
  pub names : SameNames before.holds now.holds
  pub later : before.faults ≤ now.faults

-- where one file more is seen, what it gave is a front of what its name holds
pub one_more : (before now : FilesSeen) (f : FileSeen) → Tells now → now.sought ≡ f ∷ before.sought → SameNames before.holds now.holds → before.faults ≤ now.faults → Sees before now (f ∷ [])
one_more before now f tells is names later =
    let P : FileSeen → Type 0 = λ h. IfSome (now.holds h.name) (λ octets. IsReadOf octets h) in
    let Q : FileSeen → Type 0 = λ h. IfSome (before.holds h.name) (λ octets. IsReadOf octets h) in
    let all : All P (f ∷ before.sought) = subst (λ (fs : List FileSeen). All P fs) is tells in
    let head : P f = All-head P f before.sought all in
    let told : Q f = subst (λ (held : Option (List ℕ)). IfSome held (λ octets. IsReadOf octets f)) (names f.name) head in
    record { sought = is; told = All-cons Q f [] told (All-nil Q); names = names; later = later }

-- the file that was looked for last has its number
last_given : (n : ℕ) (f : FileSeen) (fs : List FileSeen) → f.number ≡ Some n → is_number n f.number ≡ true
last_given n f fs is = ap (is_number n) is ∙ eq-eqb n n refl

with_last : (n : ℕ) (g : FileSeen → FileSeen) (f : FileSeen) (fs : List FileSeen) → f.number ≡ Some n → with_file n g (f ∷ fs) ≡ g f ∷ fs
with_last n g f fs is = rw (last_given n f fs is) refl

pub reading_given : (before now : FilesSeen) (name : List ℕ) (n : ℕ) (octets : List ℕ) (limit : ℕ) → Reading before now name n octets limit → IsGiven n now.sought
reading_given before now name n octets limit r =
    let here : file_of n (opened name n octets ∷ before.sought) ≡ Some (opened name n octets) = rw (last_given n (opened name n octets) before.sought refl) refl in
    ap is_some (ap (file_of n) r.sought ∙ here)

pub reading_starts : (before now : FilesSeen) (name : List ℕ) (n : ℕ) (result : Result ℕ Failed) (limit : ℕ) → Finds before now name result → result ≡ Ok n → Reading before now name n [] limit
reading_starts before now name n result limit finds is = record {
  sought = finds.sought ∙ ap (λ (r : Result ℕ Failed). looked_for name r ∷ before.sought) is;
  few = omega arith;
  names = finds.names;
  later = finds.cause.later;
}

-- a read of the file
read_sought : (before between now : FilesSeen) (name : List ℕ) (n : ℕ) (octets buf : List ℕ) (limit : ℕ) (result : Result ℕ Failed) → Reading before between name n octets limit → Reads between now n buf result → now.sought ≡ read_more result buf (opened name n octets) ∷ before.sought
read_sought before between now name n octets buf limit result r reads =
    reads.sought ∙ ap (with_file n (read_more result buf)) r.sought ∙ with_last n (read_more result buf) (opened name n octets) before.sought refl

read_names : (before between now : FilesSeen) → SameNames before.holds between.holds → SameNames between.holds now.holds → SameNames before.holds now.holds
read_names before between now p q = λ name. q name ∙ p name

-- a read that gave octets
pub reading_more : (before between now : FilesSeen) (name : List ℕ) (n : ℕ) (octets buf : List ℕ) (limit count : ℕ) (result : Result ℕ Failed) → result ≡ Ok count → 0 < count → count ≤ length buf → length octets + length buf ≤ limit + 1 → Reading before between name n octets limit → Reads between now n buf result → Reading before now name n (octets ++ take count buf) limit
reading_more before between now name n octets buf limit count result is some within room r reads =
    let sought = read_sought before between now name n octets buf limit result r reads in
    let not_end : (count == 0) ≡ false = ne_eqb count 0 (λ z. omega arith) in
    let same : read_more (Ok count) buf (opened name n octets) ≡ opened name n (octets ++ take count buf) = rw not_end refl in
    let long : length (octets ++ take count buf) ≡ length octets + length (take count buf) = length-append octets (take count buf) in
    let part : length (take count buf) ≡ count = length-take-le count buf within in
    record {
      sought = sought ∙ ap (λ (r : Result ℕ Failed). read_more r buf (opened name n octets) ∷ before.sought) is ∙ ap (λ (f : FileSeen). f ∷ before.sought) same;
      few = omega arith;
      names = read_names before between now r.names reads.names;
      later = let first = r.later in let second = reads.cause.later in omega arith;
    }

-- the read that met the end
pub reading_ends : (before between now : FilesSeen) (name : List ℕ) (n : ℕ) (octets buf : List ℕ) (limit : ℕ) (result : Result ℕ Failed) → result ≡ Ok 0 → 0 < length buf → length octets ≤ limit → Tells now → Reading before between name n octets limit → Reads between now n buf result → SeesOne name before now (λ file. IsRead limit file × (octets ≡ file.gave))
reading_ends before between now name n octets buf limit result is room few tells r reads =
    let sought = read_sought before between now name n octets buf limit result r reads ∙ ap (λ (r : Result ℕ Failed). read_more r buf (opened name n octets) ∷ before.sought) is in
    let file : FileSeen = read_more (Ok 0) buf (opened name n octets) in
    let later : before.faults ≤ now.faults = let first = r.later in let second = reads.cause.later in omega arith in
    let same : octets ++ take 0 buf ≡ octets = append-nil octets in
    let ended : nat_lt 0 (length buf) ≡ true = lt-ltb 0 (length buf) room in (
      file,
      one_more before now file tells sought (read_names before between now r.names reads.names) later,
      refl,
      (record { ended = ended; few = subst (λ (l : List ℕ). length l ≤ limit) (sym same) few }, sym same),
    )

-- a read that failed
pub reading_fails : (before between now : FilesSeen) (name : List ℕ) (n : ℕ) (octets buf : List ℕ) (limit : ℕ) (result : Result ℕ Failed) (e : Failed) → result ≡ Err e → Tells now → Reading before between name n octets limit → Reads between now n buf result → SeesOne name before now (IsLost before now)
reading_fails before between now name n octets buf limit result e is tells r reads =
    let sought = read_sought before between now name n octets buf limit result r reads ∙ ap (λ (r : Result ℕ Failed). read_more r buf (opened name n octets) ∷ before.sought) is in
    let file : FileSeen = read_more (Err e) buf (opened name n octets) in
    let later : before.faults ≤ now.faults = let first = r.later in let second = reads.cause.later in omega arith in
    let failed = subst (λ (r : Result ℕ Failed). OnErr r (Rose between.faults now.faults)) is reads.cause.failed in (
      file,
      one_more before now file tells sought (read_names before between now r.names reads.names) later,
      refl,
      (refl, let first = r.later in omega arith),
    )

-- the file wasn't found
pub not_found : (before now : FilesSeen) (name : List ℕ) (result : Result ℕ Failed) (e : Failed) → result ≡ Err e → Tells now → Finds before now name result → SeesOne name before now (IsLost before now)
not_found before now name result e is tells finds =
    let sought = finds.sought ∙ ap (λ (r : Result ℕ Failed). looked_for name r ∷ before.sought) is in
    let failed = subst (λ (r : Result ℕ Failed). OnErr r (Rose before.faults now.faults)) is finds.cause.failed in
    (looked_for name (Err e), one_more before now (looked_for name (Err e)) tells sought finds.names finds.cause.later, refl, (refl, failed))

-- reading stops, with these octets
pub reading_stops : (before now : FilesSeen) (name : List ℕ) (n : ℕ) (octets : List ℕ) (limit : ℕ) → Tells now → Reading before now name n octets limit → (P : FileSeen → Type 0) → P (opened name n octets) → SeesOne name before now P
reading_stops before now name n octets limit tells r P p =
    (opened name n octets, one_more before now (opened name n octets) tells r.sought r.names r.later, refl, p)

-- files that were looked for in two parts of a call
pub Sees-then : (before between now : FilesSeen) (fs gs : List FileSeen) → Sees before between fs → Sees between now gs → Sees before now (gs ++ fs)
Sees-then before between now fs gs first second =
    let Q : FileSeen → Type 0 = λ h. IfSome (before.holds h.name) (λ octets. IsReadOf octets h) in
    let told : All Q gs =
    λ k d below. subst (λ (held : Option (List ℕ)). IfSome held (λ octets. IsReadOf octets (slice_index_or gs k d))) (first.names (slice_index_or gs k d).name) (second.told k d below) in
    record {
      sought = second.sought ∙ ap (λ (l : List FileSeen). gs ++ l) first.sought ∙ sym (append_assoc gs fs before.sought);
      told = All-append Q gs fs told first.told;
      names = read_names before between now first.names second.names;
      later = let one = first.later in let two = second.later in omega arith;
    }

-- a read, whatever it gave
same_name : (result : Result ℕ Failed) (buf : List ℕ) (f : FileSeen) → (read_more result buf f).name ≡ f.name
same_name (Ok n) buf f = refl
same_name (Err e) buf f = refl

pub reading_anyway : (before between now : FilesSeen) (name : List ℕ) (n : ℕ) (octets buf : List ℕ) (limit : ℕ) (result : Result ℕ Failed) → Tells now → Reading before between name n octets limit → Reads between now n buf result → SeesOne name before now (λ _. Unit {0})
reading_anyway before between now name n octets buf limit result tells r reads =
    let sought = read_sought before between now name n octets buf limit result r reads in
    let file : FileSeen = read_more result buf (opened name n octets) in
    let later : before.faults ≤ now.faults = let first = r.later in let second = reads.cause.later in omega arith in
    (file, one_more before now file tells sought (read_names before between now r.names reads.names) later, same_name result buf (opened name n octets), tt)
