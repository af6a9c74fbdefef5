-- Which frames of a wire are named.
use Rattle.std.proofs.Common.{◌≡◌, ◌≢◌, ℕ, ◌==◌, Bool, true, false, ◌&&◌, ◌||◌, List, [], ◌∷◌, ◌++◌, All, refl, ◌∙◌, ne_eqb, eq-eqb}
use Rattle.std.proofs.lemmas.List.Elements.{All-head, All-nil, All-push, All-tail}
use Rattle.call_types.specs.declared.call.Side.{Side}
use Rattle.call_types.specs.declared.call.Side.TheVariants.{A as SideA, B as SideB}
use Rattle.lw_scripts.specs.declared.parts.Fault.{Fault}
use Rattle.lw_scripts.specs.Marks.{is_named, is_side}
use Rattle.lw_scripts.specs.Parts.{AreApart, IsOther}

or_false : (a b : Bool) → (a || b) ≡ false → (a ≡ false) × (b ≡ false)
or_false true b e = cc
or_false false b e = (refl, e)

same_side : (a b : Side) → a ≡ b → is_side a b ≡ true
same_side SideA SideA e = refl
same_side SideA SideB e = cc
same_side SideB SideA e = cc
same_side SideB SideB e = refl

not_here : (a b : Side) (x y : ℕ) → (is_side a b && (x == y)) ≡ false → a ≡ b → x ≢ y
not_here a b x y e same equal =
    let side = same_side a b same in
    let number = eq-eqb x y equal in
    let both : (is_side a b && (x == y)) ≡ true = λ i. side i && number i in
    absurd (cc)

elsewhere : (a b : Side) (x y : ℕ) → (a ≡ b → x ≢ y) → (is_side a b && (x == y)) ≡ false
elsewhere SideA SideA x y h = ne_eqb x y (h refl)
elsewhere SideA SideB x y h = refl
elsewhere SideB SideA x y h = refl
elsewhere SideB SideB x y h = ne_eqb x y (h refl)

-- a fault of a frame that isn't named can stand behind the others
pub apart_more : (faults : List Fault) (f : Fault) → AreApart faults → is_named faults f.side f.frame ≡ false → AreApart (faults ++ f ∷ [])
apart_more [] f h e = (All-nil (IsOther f), tt)
apart_more (g ∷ faults) f h e =
    let both = or_false (is_side g.side f.side && (g.frame == f.frame)) (is_named faults f.side f.frame) e in
    (All-push (IsOther g) faults f h.0 (not_here g.side f.side g.frame f.frame both.0), apart_more faults f h.1 both.1)

middle : (P : Fault → Type 0) (faults : List Fault) (f : Fault) (rest : List Fault) → All P (faults ++ f ∷ rest) → P f
middle P [] f rest h = All-head P f rest h
middle P (g ∷ faults) f rest h = middle P faults f rest (All-tail P g (faults ++ f ∷ rest) h)

-- no fault in front of another names its frame
pub apart_front : (faults : List Fault) (f : Fault) (rest : List Fault) → AreApart (faults ++ f ∷ rest) → is_named faults f.side f.frame ≡ false
apart_front [] f rest h = refl
apart_front (g ∷ faults) f rest h =
    let here = elsewhere g.side f.side g.frame f.frame (middle (IsOther g) faults f rest h.0) in
    let later = apart_front faults f rest h.1 in
    λ i. here i || later i

pub or_last : (a : Bool) → (a || false) ≡ a
or_last true = refl
or_last false = refl

or_assoc : (a b c : Bool) → (a || (b || c)) ≡ ((a || b) || c)
or_assoc true b c = refl
or_assoc false b c = refl

-- naming one more frame
pub named_more : (faults : List Fault) (f : Fault) (side : Side) (frame : ℕ) → is_named (faults ++ f ∷ []) side frame ≡ (is_named faults side frame || (is_side f.side side && (f.frame == frame)))
named_more [] f side frame = or_last (is_side f.side side && (f.frame == frame))
named_more (g ∷ faults) f side frame =
    let later = named_more faults f side frame in
    (λ i. (is_side g.side side && (g.frame == frame)) || later i)
    ∙ or_assoc (is_side g.side side && (g.frame == frame)) (is_named faults side frame) (is_side f.side side && (f.frame == frame))
