-- Pbufs whose octets stand behind one another in one body.
use Rattle.std.specs.Prelude.{◌≡◌, ℕ, ◌+◌, ◌≤◌, Bool, true, false, List, [], ◌∷◌, length, map, take, drop, sum_by}
use Rattle.std.specs.Arc.{arc_value}
use Rattle.pbuf_seats.specs.declared.pbuf.Pbuf.{Pbuf}
use Rattle.pbuf_spans.specs.declared.body.Body.{Body}
use Rattle.pbuf_spans.specs.declared.body.Body.TheVariants.{Own, Shared}
use Rattle.pbuf_spans.specs.Parts.{Part}

-- all octets of a body, whether it is shared or not
abbrev pub octets_of : Body → List ℕ
octets_of (Own v) = v.items
octets_of (Shared a) = (arc_value a).items

-- whether the body is one chain's alone
abbrev pub is_own : Body → Bool
is_own (Own v) = true
is_own (Shared a) = false

-- how many octets pbufs have together
abbrev pub lens : List Pbuf → ℕ
lens ps = sum_by (λ p. p.len) ps

-- pbufs as parts: each has the next of these octets, as many as its length says
abbrev pub parts_of : Bool → List ℕ → List Pbuf → List Part
parts_of own text [] = []
parts_of own text (p ∷ ps) = record { owner = p.owner; octets = take p.len text; own = own } ∷ parts_of own (drop p.len text) ps

-- pbufs as parts of which only the owners count
abbrev pub bare : List Pbuf → List Part
bare ps = map (λ p. record { owner = p.owner; octets = []; own = true }) ps

-- the pbufs of a span have together the octets of its body from `from` on and below `to`
abbrev pub IsSpan : Body → (from to : ℕ) → List Pbuf → Type 0
IsSpan body from to ps = (from + lens ps ≡ to) × (to ≤ length (octets_of body))
