-- What lines say of the parts that they are.
use Rattle.std.proofs.Common.{◌≡◌, ℕ, List, [], ◌∷◌, ◌++◌, length, drop, map, All, Some, None, refl, sym, ap, ◌∙◌, subst, arith, option_and_then}
use Rattle.std.proofs.lemmas.List.Elements.{All-head, All-tail}
use Rattle.std.proofs.lemmas.Option.{none-some, same_Some}
use Rattle.script_words.specs.declared.version.Version.{Version}
use Rattle.script_words.specs.declared.version.Version.TheVariants.{One as FirstVersion}
use Rattle.lw_scripts.specs.declared.part.Part.{Part}
use Rattle.lw_scripts.specs.declared.part.Part.TheVariants.{Head}
use Rattle.lw_scripts.specs.declared.parts.Script.{Script}
use Rattle.lw_scripts.specs.declared.place.Place.{Place}
use Rattle.lw_scripts.specs.declared.place.Place.TheVariants.{Begin, Started, Paired, Sided, Addressed, Filling, Driving, Wiring}
use Rattle.lw_scripts.specs.declared.wanted.Wanted.{Wanted}
use Rattle.lw_scripts.specs.Line.{IsPart, part_spelling}
use Rattle.lw_scripts.specs.Reading.{accept, accept_all, script_of, version_of}
use Rattle.lw_scripts.specs.Spelling.{head_spelling}
use Rattle.lw_scripts.specs.Told.{Holds, told}
use Rattle.lw_scripts.specs.Whole.{body_parts, script_lines, script_parts}
use Rattle.lw_scripts.proofs.PartOnce.{one_part}
use Rattle.lw_scripts.proofs.Retold.{chain, retold}
use Rattle.lw_scripts.proofs.Scripts.{IsWanted, ends, parts_are}

-- these parts begin the others, and the next one is this line
record Splits (version : Version) (xs ys : List Part) (line : List ℕ) : Type 0 where
  pub next : Part
  pub tail : List Part
  pub all : ys ≡ xs ++ next ∷ tail
  pub spelled : line ≡ part_spelling next
  pub is : IsPart version next

splits : (version : Version) (xs ys : List Part) (line : List ℕ) (rest : List (List ℕ)) → All (IsPart version) xs → All (IsPart version) ys → map part_spelling xs ++ line ∷ rest ≡ map part_spelling ys → Splits version xs ys line
splits version [] [] line rest h k e = let n = ap length e in absurd (omega (arith, n))
splits version [] (y ∷ ys) line rest h k e =
    record { next = y; tail = ys; all = refl; spelled = cc; is = All-head (IsPart version) y ys k }
splits version (x ∷ xs) [] line rest h k e = let n = ap length e in absurd (omega (arith, n))
splits version (x ∷ xs) (y ∷ ys) line rest h k e =
    let heads : part_spelling x ≡ part_spelling y = cc in
    let tails : map part_spelling xs ++ line ∷ rest ≡ map part_spelling ys = cc in
    let same = one_part version x y (All-head (IsPart version) x xs h) (All-head (IsPart version) y ys k) heads in
    let s = splits version xs ys line rest (All-tail (IsPart version) x xs h) (All-tail (IsPart version) y ys k) tails in
    let back = sym same in
    let all = s.all in
    record { next = s.next; tail = s.tail; all = λ i. back i ∷ all i; spelled = s.spelled; is = s.is }

same_parts : (version : Version) (xs ys : List Part) → All (IsPart version) xs → All (IsPart version) ys → map part_spelling xs ≡ map part_spelling ys → xs ≡ ys
same_parts version [] [] h k e = refl
same_parts version [] (y ∷ ys) h k e = let n = ap length e in absurd (omega (arith, n))
same_parts version (x ∷ xs) [] h k e = let n = ap length e in absurd (omega (arith, n))
same_parts version (x ∷ xs) (y ∷ ys) h k e =
    let heads : part_spelling x ≡ part_spelling y = cc in
    let tails : map part_spelling xs ≡ map part_spelling ys = cc in
    let same = one_part version x y (All-head (IsPart version) x xs h) (All-head (IsPart version) y ys k) heads in
    let later = same_parts version xs ys (All-tail (IsPart version) x xs h) (All-tail (IsPart version) y ys k) tails in
    λ i. same i ∷ later i

same_head_version : (a b : Version) → Head a ≡ Head b → a ≡ b
same_head_version a b e = cc

version_once : (a b : Version) → head_spelling a ≡ head_spelling b → a ≡ b
version_once a b e = same_head_version a b (one_part FirstVersion (Head a) (Head b) tt tt e)

-- a place that told the parts of a script has its version
head_of : (v w : Version) (xs ys : List Part) → Head v ∷ xs ≡ Head w ∷ ys → v ≡ w
head_of v w xs ys e = cc

first_version : (place : Place) (version : Version) (parts : List Part) → told place ≡ Head version ∷ parts → version_of place ≡ version
first_version Begin version parts e = let n = ap length e in absurd (omega (arith, n))
first_version (Started v) version parts e = head_of v version (drop 1 (told (Started v))) parts e
first_version (Paired v) version parts e = head_of v version (drop 1 (told (Paired v))) parts e
first_version (Sided v whose) version parts e = head_of v version (drop 1 (told (Sided v whose))) parts e
first_version (Addressed v whose net) version parts e = head_of v version (drop 1 (told (Addressed v whose net))) parts e
first_version (Filling v whose stack) version parts e = head_of v version (drop 1 (told (Filling v whose stack))) parts e
first_version (Driving v stack driver) version parts e = head_of v version (drop 1 (told (Driving v stack driver))) parts e
first_version (Wiring v a b wire) version parts e = head_of v version (drop 1 (told (Wiring v a b wire))) parts e

-- the parts of a script are parts of its version
script_are : (wanted : Wanted) (s : Script) → IsWanted wanted s → (version : Version) → version ≡ s.version → All (IsPart version) (script_parts s)
script_are wanted s h version e =
    let (place, end) = ends wanted s h in
    let own = first_version place s.version (body_parts s.body) end.told_all in
    subst (λ (v : Version). All (IsPart v) (script_parts s)) (own ∙ sym e)
    (subst (All (IsPart (version_of place))) end.told_all (parts_are wanted place end.holds))

-- a place behind the head line, and a script whose lines begin so
behind_head : (wanted : Wanted) (version : Version) (xs : List Part) (s : Script) (line : List ℕ) (rest : List (List ℕ)) → All (IsPart version) (Head version ∷ xs) → IsWanted wanted s → map part_spelling (Head version ∷ xs) ++ line ∷ rest ≡ script_lines s → Splits version (Head version ∷ xs) (script_parts s) line
behind_head wanted version xs s line rest h k e =
    let heads : head_spelling version ≡ head_spelling s.version = cc in
    let same = version_once version s.version heads in
    splits version (Head version ∷ xs) (script_parts s) line rest h (script_are wanted s k version same) e

at_place : (wanted : Wanted) (place : Place) (s : Script) (line : List ℕ) (rest : List (List ℕ)) → Holds wanted place → IsWanted wanted s → map part_spelling (told place) ++ line ∷ rest ≡ script_lines s → Splits (version_of place) (told place) (script_parts s) line
at_place wanted Begin s line rest h k e =
    record { next = Head s.version; tail = body_parts s.body; all = refl; spelled = cc; is = tt }
at_place wanted (Started v) s line rest h k e = behind_head wanted v (drop 1 (told (Started v))) s line rest (parts_are wanted (Started v) h) k e
at_place wanted (Paired v) s line rest h k e = behind_head wanted v (drop 1 (told (Paired v))) s line rest (parts_are wanted (Paired v) h) k e
at_place wanted (Sided v whose) s line rest h k e = behind_head wanted v (drop 1 (told (Sided v whose))) s line rest (parts_are wanted (Sided v whose) h) k e
at_place wanted (Addressed v whose net) s line rest h k e = behind_head wanted v (drop 1 (told (Addressed v whose net))) s line rest (parts_are wanted (Addressed v whose net) h) k e
at_place wanted (Filling v whose stack) s line rest h k e = behind_head wanted v (drop 1 (told (Filling v whose stack))) s line rest (parts_are wanted (Filling v whose stack) h) k e
at_place wanted (Driving v stack driver) s line rest h k e = behind_head wanted v (drop 1 (told (Driving v stack driver))) s line rest (parts_are wanted (Driving v stack driver) h) k e
at_place wanted (Wiring v a b wire) s line rest h k e = behind_head wanted v (drop 1 (told (Wiring v a b wire))) s line rest (parts_are wanted (Wiring v a b wire) h) k e

-- where no part that a line may be is accepted, no script goes on with the line
pub no_script : (wanted : Wanted) (place : Place) (s : Script) (line : List ℕ) (rest : List (List ℕ)) → Holds wanted place → IsWanted wanted s → map part_spelling (told place) ++ line ∷ rest ≡ script_lines s → ((p : Part) → IsPart (version_of place) p → line ≡ part_spelling p → accept wanted place p ≡ None) → ⊥
no_script wanted place s line rest h k e refused =
    let split = at_place wanted place s line rest h k e in
    let (final, end) = ends wanted s k in
    let stuck = refused split.next split.is split.spelled in
    let none : accept_all wanted Begin (script_parts s) ≡ None =
    ap (accept_all wanted Begin) split.all
    ∙ chain wanted Begin (told place) place (split.next ∷ split.tail) None (retold wanted place h) (ap (option_and_then (λ n. accept_all wanted n split.tail)) stuck) in
    let some : accept_all wanted Begin (script_parts s) ≡ Some final = ap (accept_all wanted Begin) (sym end.told_all) ∙ retold wanted final end.holds in
    none-some final (sym none ∙ some)

same_head : (wanted : Wanted) (version : Version) (xs : List Part) (s : Script) → All (IsPart version) (Head version ∷ xs) → IsWanted wanted s → map part_spelling (Head version ∷ xs) ≡ script_lines s → Head version ∷ xs ≡ script_parts s
same_head wanted version xs s h k e =
    let heads : head_spelling version ≡ head_spelling s.version = cc in
    let same = version_once version s.version heads in
    same_parts version (Head version ∷ xs) (script_parts s) h (script_are wanted s k version same) e

same_told : (wanted : Wanted) (place : Place) (s : Script) → Holds wanted place → IsWanted wanted s → map part_spelling (told place) ≡ script_lines s → told place ≡ script_parts s
same_told wanted Begin s h k e = let n = ap length e in absurd (omega (arith, n))
same_told wanted (Started v) s h k e = same_head wanted v (drop 1 (told (Started v))) s (parts_are wanted (Started v) h) k e
same_told wanted (Paired v) s h k e = same_head wanted v (drop 1 (told (Paired v))) s (parts_are wanted (Paired v) h) k e
same_told wanted (Sided v whose) s h k e = same_head wanted v (drop 1 (told (Sided v whose))) s (parts_are wanted (Sided v whose) h) k e
same_told wanted (Addressed v whose net) s h k e = same_head wanted v (drop 1 (told (Addressed v whose net))) s (parts_are wanted (Addressed v whose net) h) k e
same_told wanted (Filling v whose stack) s h k e = same_head wanted v (drop 1 (told (Filling v whose stack))) s (parts_are wanted (Filling v whose stack) h) k e
same_told wanted (Driving v stack driver) s h k e = same_head wanted v (drop 1 (told (Driving v stack driver))) s (parts_are wanted (Driving v stack driver) h) k e
same_told wanted (Wiring v a b wire) s h k e = same_head wanted v (drop 1 (told (Wiring v a b wire))) s (parts_are wanted (Wiring v a b wire) h) k e

-- lines that lead to a place and are a script are the script of that place
pub script_here : (wanted : Wanted) (place : Place) (s : Script) → Holds wanted place → IsWanted wanted s → map part_spelling (told place) ≡ script_lines s → script_of place ≡ Some s
script_here wanted place s h k e =
    let (final, end) = ends wanted s k in
    let same = same_told wanted place s h k e in
    let places : Some place ≡ Some final =
    sym (retold wanted place h) ∙ ap (accept_all wanted Begin) (same ∙ sym end.told_all) ∙ retold wanted final end.holds in
    ap script_of (same_Some place final places) ∙ end.script

-- two scripts with the same lines are the same
pub one_script : (wanted : Wanted) (s t : Script) → IsWanted wanted s → IsWanted wanted t → script_lines s ≡ script_lines t → s ≡ t
one_script wanted s t h k e =
    let (final, end) = ends wanted s h in
    let there = script_here wanted final t end.holds k (ap (map part_spelling) end.told_all ∙ e) in
    same_Some s t (sym end.script ∙ there)
