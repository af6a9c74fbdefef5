-- Which frames of a wire are named.
use Rattle.std.specs.Prelude.{◌≡◌, ℕ, ◌==◌, Bool, true, false, ◌&&◌, List, get_or}
use Rattle.std.specs.List.{list_any}
use Rattle.call_types.specs.declared.call.Side.{Side}
use Rattle.call_types.specs.declared.call.Side.TheVariants.{A as SideA, B as SideB}
use Rattle.lw_scripts.specs.declared.parts.Fault.{Fault}

-- two sides are the same
abbrev pub is_side : Side → Side → Bool
is_side SideA SideA = true
is_side SideB SideB = true
is_side a b = false

-- a frame of a side is named by one of the faults
abbrev pub is_named : List Fault → Side → ℕ → Bool
is_named faults side frame = list_any (λ f. is_side f.side side && (f.frame == frame)) faults

-- the numbers that are marked are those of a side's frames that are named
abbrev pub AreMarks : List Fault → Side → List Bool → Type 0
AreMarks faults side marks = (frame : ℕ) → get_or marks frame false ≡ is_named faults side frame
