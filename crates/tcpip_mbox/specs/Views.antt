-- What the passes know, and how it changes where one puts in, takes out, is split in two, or takes in another.
use Rattle.std.specs.Prelude.{ℕ, ◌+◌, max, true, false, List, [], ◌∷◌, ◌++◌, length, Option, None}
use Rattle.tcpip_mbox.specs.declared.view.Letter.{Letter}
use Rattle.tcpip_mbox.specs.declared.view.Returned.{Returned}
use Rattle.tcpip_mbox.specs.declared.view.View.{View}
use Rattle.tcpip_mbox.specs.Letters.{sent_by}

-- a Put that was taken back
abbrev pub returned : {M : Type 0} → ℕ → List M → Returned M
returned number sent = record { number = number; sent = sent }

module _ {M K : Type 0} where
  -- a Put
  abbrev pub putter : Option K → ℕ → ℕ → List M → ℕ → List (Letter M) → View M K
  putter key number others sent known given = record { key = key; puts = true; number = number; others = others; sent = sent; known = known; gets = false; given = given; back = [] }

  -- the Get
  abbrev pub getter : Option K → ℕ → List (Letter M) → View M K
  getter key others given = record { key = key; puts = false; number = 0; others = others; sent = []; known = 0; gets = true; given = given; back = [] }

  -- a note of what was given
  abbrev pub teller : List (Letter M) → View M K
  teller given = record { key = None; puts = false; number = 0; others = 0; sent = []; known = 0; gets = false; given = given; back = [] }

  -- what is left of a pass that another took in
  abbrev pub nobody : View M K
  nobody = teller []

  -- the first pass, which is both the first Put and the Get
  abbrev pub both_ways : Option K → ℕ → View M K
  both_ways key others = record { key = key; puts = true; number = 0; others = others; sent = []; known = 0; gets = true; given = []; back = [] }

  -- it has no key yet, and there is no other Put
  abbrev pub firstborn : View M K
  firstborn = both_ways None 0

  -- the pass that knows a key
  abbrev pub with_key : Option K → View M K → View M K
  with_key key v = record v { key = key }

  -- the first Put has made one Put more
  abbrev pub with_one_more : View M K → View M K
  with_one_more v = record v { others = v.others + 1 }

  -- the Put that the first makes
  abbrev pub newest : View M K → View M K
  newest v = putter v.key (v.others + 1) 0 [] 0 []

  -- the pass without the right to take out
  abbrev pub putting : View M K → View M K
  putting v = record v { gets = false }

  -- a pass that has this right alone
  abbrev pub getting : View M K → View M K
  getting v = getter v.key v.others v.given

  -- a note of what this pass knows as given
  abbrev pub telling : View M K → View M K
  telling v = teller v.given

  -- the Put knows as given what the note says
  abbrev pub met : View M K → View M K → View M K
  met v w = record v { known = max v.known (length (sent_by v.number w.given)); given = w.given }

  -- the Put has put a letter in
  abbrev pub sent_one : View M K → Letter M → View M K
  sent_one v x = record v { sent = v.sent ++ x.message ∷ [] }

  -- the Get has given a letter
  abbrev pub got_one : View M K → Letter M → View M K
  got_one v x = record v { given = v.given ++ x ∷ [] }

  -- the Get has taken a Put back
  abbrev pub gathered : View M K → View M K → View M K
  gathered v w = record v { back = v.back ++ returned w.number w.sent ∷ [] }
