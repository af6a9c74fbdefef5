-- What a call does to what is known of the files in memory.
use Rattle.std.proofs.Common.{◌≡◌, ◌≢◌, ◌∙◌, ◌⊎◌, ⊎_elim, inl, inr, ℕ, ◌<◌, ◌||◌, ◌&&◌, ◌++◌, Bool, true, false, nat_eq, nat_lt, List, [], ◌∷◌, Option, None, Some, Result, Ok, Err, All, length, take, option_map, ap, subst, sym, refl, append_assoc, append-nil, eq-eqb, ne_eqb, slice_index, slice_set, ◌≤◌, arith}
use Rattle.std.proofs.Math.Seq.{take-append_seam}
use Rattle.std.proofs.lemmas.Bool.{cases_eq, cases_lt}
use Rattle.std.proofs.lemmas.List.{get_or-set_same, get_or-set_other, get_or_past, set_past}
use Rattle.std.proofs.lemmas.List.Elements.{All-cons, All-head, All-tail}
use Rattle.lw_outside.specs.declared.files.Failed.{Failed}
use Rattle.lw_outside.specs.Files.{FileSeen, IsReadOf, file_of, is_number, looked_for, read_more, with_file}
use Rattle.lw_outside.specs.Shelf.{Leaves}

-- of each number what was read stands before what is left
abbrev pub Stands : (List ℕ → List ℕ) → (ℕ → List ℕ) → List FileSeen → Type 0
Stands held left log = (n : ℕ) (f : FileSeen) → file_of n log ≡ Some f → Leaves (held f.name) (left n) f

abbrev pub Told : (List ℕ → List ℕ) → List FileSeen → Type 0
Told held log = All (λ f. IsReadOf (held f.name) f) log

-- a change that keeps numbers
abbrev KeepsNumber : (FileSeen → FileSeen) → Type 0
KeepsNumber g = (f : FileSeen) → (g f).number ≡ f.number

file_here : (n : ℕ) (f : FileSeen) (fs : List FileSeen) → is_number n f.number ≡ true → file_of n (f ∷ fs) ≡ Some f
file_here n f fs is = rw is refl

file_there : (n : ℕ) (f : FileSeen) (fs : List FileSeen) → is_number n f.number ≡ false → file_of n (f ∷ fs) ≡ file_of n fs
file_there n f fs is = rw is refl

with_here : (n : ℕ) (g : FileSeen → FileSeen) (f : FileSeen) (fs : List FileSeen) → is_number n f.number ≡ true → with_file n g (f ∷ fs) ≡ g f ∷ fs
with_here n g f fs is = rw is refl

with_there : (n : ℕ) (g : FileSeen → FileSeen) (f : FileSeen) (fs : List FileSeen) → is_number n f.number ≡ false → with_file n g (f ∷ fs) ≡ f ∷ with_file n g fs
with_there n g f fs is = rw is refl

-- the file of the number is the changed one
same_at : (n : ℕ) (g : FileSeen → FileSeen) (f : FileSeen) (fs : List FileSeen) → KeepsNumber g → file_of n (with_file n g fs) ≡ option_map g (file_of n fs) → (b : Bool) → is_number n f.number ≡ b → file_of n (with_file n g (f ∷ fs)) ≡ option_map g (file_of n (f ∷ fs))
same_at n g f fs keeps rest true is =
    ap (file_of n) (with_here n g f fs is) ∙ file_here n (g f) fs (ap (is_number n) (keeps f) ∙ is) ∙ sym (ap (option_map g) (file_here n f fs is))
same_at n g f fs keeps rest false is =
    ap (file_of n) (with_there n g f fs is) ∙ file_there n f (with_file n g fs) is ∙ rest ∙ sym (ap (option_map g) (file_there n f fs is))

same : (n : ℕ) (g : FileSeen → FileSeen) (fs : List FileSeen) → KeepsNumber g → file_of n (with_file n g fs) ≡ option_map g (file_of n fs)
same n g [] keeps = refl
same n g (f ∷ fs) keeps = same_at n g f fs keeps (same n g fs keeps) (is_number n f.number) refl

-- a file has one number
one_number : (o : Option ℕ) (m n : ℕ) → m ≢ n → is_number n o ≡ true → is_number m o ≡ false
one_number None m n ne is = refl
one_number (Some k) m n ne is = grind arith

-- the files of other numbers stay
other_at : (m n : ℕ) (g : FileSeen → FileSeen) (f : FileSeen) (fs : List FileSeen) → KeepsNumber g → m ≢ n → file_of m (with_file n g fs) ≡ file_of m fs → (b c : Bool) → is_number n f.number ≡ b → is_number m f.number ≡ c → file_of m (with_file n g (f ∷ fs)) ≡ file_of m (f ∷ fs)
other_at m n g f fs keeps ne rest true c is it =
    let not_m : is_number m f.number ≡ false = one_number f.number m n ne is in
    ap (file_of m) (with_here n g f fs is) ∙ file_there m (g f) fs (ap (is_number m) (keeps f) ∙ not_m) ∙ sym (file_there m f fs not_m)
other_at m n g f fs keeps ne rest false true is it =
    ap (file_of m) (with_there n g f fs is) ∙ file_here m f (with_file n g fs) it ∙ sym (file_here m f fs it)
other_at m n g f fs keeps ne rest false false is it =
    ap (file_of m) (with_there n g f fs is) ∙ file_there m f (with_file n g fs) it ∙ rest ∙ sym (file_there m f fs it)

other : (m n : ℕ) (g : FileSeen → FileSeen) (fs : List FileSeen) → KeepsNumber g → m ≢ n → file_of m (with_file n g fs) ≡ file_of m fs
other m n g [] keeps ne = refl
other m n g (f ∷ fs) keeps ne = other_at m n g f fs keeps ne (other m n g fs keeps ne) (is_number n f.number) (is_number m f.number) refl refl

-- what stands of each file stands behind a change of one
changed : (o : Option FileSeen) (g : FileSeen → FileSeen) (f' : FileSeen) → option_map g o ≡ Some f' → (P : FileSeen → Type 0) → ((f : FileSeen) → o ≡ Some f → P (g f)) → P f'
changed None g f' is P h = absurd (cc)
changed (Some f) g f' is P h = subst P (some_of (g f) f' is) (h f refl)
  where
    some_of : (x y : FileSeen) → Some x ≡ Some y → x ≡ y
    some_of x y e = cc

pub stands_with : (held : List ℕ → List ℕ) (left left' : ℕ → List ℕ) (log : List FileSeen) (n : ℕ) (g : FileSeen → FileSeen) → KeepsNumber g → Stands held left log → ((f : FileSeen) → Leaves (held f.name) (left n) f → Leaves (held (g f).name) (left' n) (g f)) → ((m : ℕ) → m ≢ n → left' m ≡ left m) → Stands held left' (with_file n g log)
stands_with held left left' log n g keeps stands step others m f' is =
    ⊎_elim
    (λ (e : m ≡ n).
    let is_n : file_of n (with_file n g log) ≡ Some f' = subst (λ (k : ℕ). file_of k (with_file n g log) ≡ Some f') e is in
    let was : option_map g (file_of n log) ≡ Some f' = sym (same n g log keeps) ∙ is_n in
    subst (λ (k : ℕ). Leaves (held f'.name) (left' k) f') (sym e) (changed (file_of n log) g f' was (λ (h : FileSeen). Leaves (held h.name) (left' n) h) (λ f found. step f (stands n f found))))
    (λ ne.
    let was : file_of m log ≡ Some f' = sym (other m n g log keeps ne) ∙ is in
    subst (λ (rest : List ℕ). Leaves (held f'.name) rest f') (sym (others m ne)) (stands m f' was))
    (cases_eq m n)

-- what stands of a file was read of it
read_of : (held : List ℕ → List ℕ) (rest : List ℕ) (f : FileSeen) → Leaves (held f.name) rest f → IsReadOf (held f.name) f
read_of held rest f at = (rw at.0 (take-append_seam f.gave rest), λ over. sym (at.0 ∙ ap (λ (l : List ℕ). f.gave ++ l) (at.1 over) ∙ append-nil f.gave))

told_at : (held : List ℕ → List ℕ) (n : ℕ) (g : FileSeen → FileSeen) (f : FileSeen) (fs : List FileSeen) → ((h : FileSeen) → file_of n (f ∷ fs) ≡ Some h → IsReadOf (held (g h).name) (g h)) → Told held (f ∷ fs) → (((h : FileSeen) → file_of n fs ≡ Some h → IsReadOf (held (g h).name) (g h)) → Told held (with_file n g fs)) → (b : Bool) → is_number n f.number ≡ b → Told held (with_file n g (f ∷ fs))
told_at held n g f fs step told rest true is =
    subst (Told held) (sym (with_here n g f fs is))
    (All-cons (λ (h : FileSeen). IsReadOf (held h.name) h) (g f) fs (step f (file_here n f fs is)) (All-tail (λ (h : FileSeen). IsReadOf (held h.name) h) f fs told))
told_at held n g f fs step told rest false is =
    subst (Told held) (sym (with_there n g f fs is))
    (All-cons (λ (h : FileSeen). IsReadOf (held h.name) h) f (with_file n g fs) (All-head (λ (h : FileSeen). IsReadOf (held h.name) h) f fs told)
    (rest (λ h found. step h (file_there n f fs is ∙ found))))

told_by_step : (held : List ℕ → List ℕ) (n : ℕ) (g : FileSeen → FileSeen) (log : List FileSeen) → ((h : FileSeen) → file_of n log ≡ Some h → IsReadOf (held (g h).name) (g h)) → Told held log → Told held (with_file n g log)
told_by_step held n g [] step told = told
told_by_step held n g (f ∷ fs) step told =
    told_at held n g f fs step told
    (λ later. told_by_step held n g fs later (All-tail (λ (h : FileSeen). IsReadOf (held h.name) h) f fs told)) (is_number n f.number) refl

pub told_with : (held : List ℕ → List ℕ) (left left' : ℕ → List ℕ) (log : List FileSeen) (n : ℕ) (g : FileSeen → FileSeen) → Stands held left log → ((f : FileSeen) → Leaves (held f.name) (left n) f → Leaves (held (g f).name) (left' n) (g f)) → Told held log → Told held (with_file n g log)
told_with held left left' log n g stands step told =
    told_by_step held n g log (λ h found. read_of held (left' n) (g h) (step h (stands n h found))) told

-- a read gives what is left, as far as it goes
pub read_step : (held : List ℕ → List ℕ) (left left' buf : List ℕ) (count : ℕ) → left ≡ take count buf ++ left' → (count ≡ 0 → 0 < length buf → left' ≡ []) → (f : FileSeen) → Leaves (held f.name) left f → Leaves (held f.name) left' (read_more (Ok count) buf f)
read_step held left left' buf count is end f at = (
  at.0 ∙ ap (λ (l : List ℕ). f.gave ++ l) is ∙ sym (append_assoc f.gave (take count buf) left'),
  λ over. ⊎_elim (λ was. behind (take count buf) left' (sym is ∙ at.1 was)) (λ met. end (count_of met) (room_of met)) (either f.ended (nat_eq count 0 && nat_lt 0 (length buf)) over),
)
  where
    behind : (xs ys : List ℕ) → xs ++ ys ≡ [] → ys ≡ []
    behind [] ys e = e
    behind (x ∷ xs) ys e = absurd (cc)

    either : (a b : Bool) → (a || b) ≡ true → (a ≡ true) ⊎ (b ≡ true)
    either true b e = inl refl
    either false b e = inr e

    count_of : (nat_eq count 0 && nat_lt 0 (length buf)) ≡ true → count ≡ 0
    count_of e = grind arith

    room_of : (nat_eq count 0 && nat_lt 0 (length buf)) ≡ true → 0 < length buf
    room_of e = grind arith

-- a read that fails gives nothing
pub failed_step : (held : List ℕ → List ℕ) (left buf : List ℕ) (e : Failed) → (f : FileSeen) → Leaves (held f.name) left f → Leaves (held f.name) left (read_more (Err e) buf f)
failed_step held left buf e f at = at

-- a file that was just looked for
nothing_read : (held : List ℕ → List ℕ) (name : List ℕ) (result : Result ℕ Failed) → IsReadOf (held (looked_for name result).name) (looked_for name result)
nothing_read held name (Ok n) = (refl, λ e. absurd (cc))
nothing_read held name (Err e) = (refl, λ e. absurd (cc))

pub told_looked_for : (held : List ℕ → List ℕ) (log : List FileSeen) (name : List ℕ) (result : Result ℕ Failed) → Told held log → Told held (looked_for name result ∷ log)
told_looked_for held log name result told =
    All-cons (λ (h : FileSeen). IsReadOf (held h.name) h) (looked_for name result) log (nothing_read held name result) told

found_here : (held : List ℕ → List ℕ) (rest : List ℕ) (name : List ℕ) (k : ℕ) (f : FileSeen) → held name ≡ rest → Some (looked_for name (Ok k)) ≡ Some f → Leaves (held f.name) rest f
found_here held rest name k f is e =
    let same_file : looked_for name (Ok k) ≡ f = cc in
    subst (λ (h : FileSeen). Leaves (held h.name) rest h) same_file (is, λ over. absurd (cc))

pub stands_found : (held : List ℕ → List ℕ) (left left' : ℕ → List ℕ) (log : List FileSeen) (name : List ℕ) (k : ℕ) → Stands held left log → held name ≡ left' k → ((m : ℕ) → m ≢ k → left' m ≡ left m) → Stands held left' (looked_for name (Ok k) ∷ log)
stands_found held left left' log name k stands begins others m f is =
    ⊎_elim
    (λ (e : m ≡ k).
    let here : file_of m (looked_for name (Ok k) ∷ log) ≡ Some (looked_for name (Ok k)) = file_here m (looked_for name (Ok k)) log (eq-eqb k m (sym e)) in
    found_here held (left' m) name k f (begins ∙ ap left' (sym e)) (sym here ∙ is))
    (λ ne.
    let there : file_of m (looked_for name (Ok k) ∷ log) ≡ file_of m log = file_there m (looked_for name (Ok k)) log (ne_eqb k m (λ e. ne (sym e))) in
    subst (λ (rest : List ℕ). Leaves (held f.name) rest f) (sym (others m ne)) (stands m f (sym there ∙ is)))
    (cases_eq m k)

-- the count of a number is set to 0, and the others stay
pub set_here : (read : List ℕ) (k : ℕ) → slice_index (slice_set read k 0) k ≡ 0
set_here read k = ⊎_elim (λ below. get_or-set_same read k 0 0 below) (λ (past : length read ≤ k). ap (λ (l : List ℕ). slice_index l k) (set_past read k 0 past) ∙ get_or_past read k 0 past) (cases_lt k (length read))

pub set_there : (read : List ℕ) (k m : ℕ) → m ≢ k → slice_index (slice_set read k 0) m ≡ slice_index read m
set_there read k m ne = get_or-set_other read k m 0 0 ne
