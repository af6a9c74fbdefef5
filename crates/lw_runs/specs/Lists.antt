use Rattle.std.specs.Prelude.{◌≡◌, ℕ, ◌≤◌, List, [], ◌∷◌, nat_lt, if◌then◌else◌, flat_map}
use Rattle.std.specs.List.{All}
use Rattle.lw_payload.specs.Views.{View}
use Rattle.lw_payload.specs.Calls.{IsSameButRoom}
use Rattle.lw_runs.specs.declared.run.Run.{Run}

-- a run put among others before the first that begins behind it
abbrev pub put : {P : Type 0} → Run P → List (Run P) → List (Run P)
put r [] = r ∷ []
put r (h ∷ t) = if nat_lt r.at h.at then r ∷ h ∷ t else h ∷ put r t

-- the octets of payloads one behind another
abbrev pub text_of : {P : Type 0} → (P → View) → List P → List ℕ
text_of seen ps = flat_map (λ p. (seen p).octets) ps

-- payloads are all of the first one's family
abbrev pub OneFamily : {P : Type 0} → (P → View) → List P → Type 0
OneFamily seen [] = Unit {0}
OneFamily seen (p ∷ ps) = All (λ q. (seen q).family ≡ (seen p).family) ps

-- the first run has a payload that has only other room
abbrev pub FirstChanged : {P : Type 0} → (P → View) → List (Run P) → List (Run P) → Type 0
FirstChanged seen [] after = after ≡ []
FirstChanged {P} seen (r ∷ rs) after = (q : P) × IsSameButRoom (seen r.body) (seen q) × (after ≡ record r { body = q } ∷ rs)

-- the first run's payload has room for so many parts
abbrev pub FirstHasRoomFor : {P : Type 0} → (P → View) → List (Run P) → ℕ → Type 0
FirstHasRoomFor seen [] n = Unit {0}
FirstHasRoomFor seen (r ∷ rs) n = n ≤ (seen r.body).room
