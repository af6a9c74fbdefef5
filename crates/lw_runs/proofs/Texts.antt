use Rattle.std.proofs.Common.{◌≡◌, ℕ, ◌+◌, ◌-◌, ◌<◌, false, not, cond, nat_lt, List, [], ◌∷◌, ◌++◌, map, length, take, drop, Some, refl, sym, ap, ◌∙◌, subst, append_assoc}
use Rattle.std.specs.List.{All, position_or_len}
use Rattle.std.proofs.lemmas.List.{take-map, drop-map, map-append}
use Rattle.std.proofs.lemmas.List.Concat.{flat_map-append}
use Rattle.std.proofs.lemmas.List.Elements.{All-take, All-drop, All-same}
use Rattle.lw_payload.specs.Views.{View, plain_view}
use Rattle.lw_runs.specs.Positions.{missing, with_octets, overlaps, octets_in}
use Rattle.lw_runs.specs.Runs.{spread, InOrder, bodies_of}
use Rattle.lw_runs.specs.Lists.{put, text_of}
use Rattle.lw_runs.specs.declared.run.Run.{Run}
use Rattle.lw_runs.proofs.Spreads.{insert_is_put}
use Rattle.lw_runs.proofs.Joins.{octets_in-spread}
use Rattle.lw_runs.proofs.RunsLaws.{fits_in, put_octets}

-- an octet list as a payload
abbrev as_view : List ℕ → View
as_view xs = plain_view xs 0

-- a run with its octets as its payload
abbrev plain : {P : Type 0} → (P → View) → Run P → Run (List ℕ)
plain seen r = record { at = r.at; end = r.end; body = (seen r.body).octets }

plain_spread : {P : Type 0} (seen : P → View) (a : ℕ) (runs : List (Run P)) → spread as_view a (map (plain seen) runs) ≡ spread seen a runs
plain_spread seen a [] = refl
plain_spread seen a (r ∷ rs) = ap (λ xs. missing (r.at - a) ++ map Some (seen r.body).octets ++ xs) (plain_spread seen r.end rs)

plain_order : {P : Type 0} (seen : P → View) (a : ℕ) (runs : List (Run P)) → InOrder seen a runs → InOrder as_view a (map (plain seen) runs)
plain_order seen a [] order = tt
plain_order seen a (r ∷ rs) order = (order.0, order.1, order.2, plain_order seen r.end rs order.3)

plain_text : {P : Type 0} (seen : P → View) (runs : List (Run P)) → text_of as_view (bodies_of (map (plain seen) runs)) ≡ text_of seen (bodies_of runs)
plain_text seen [] = refl
plain_text seen (r ∷ rs) = ap (λ xs. (seen r.body).octets ++ xs) (plain_text seen rs)

plain_place : {P : Type 0} (seen : P → View) (from : ℕ) (runs : List (Run P)) → position_or_len (λ r. nat_lt from r.at) (map (plain seen) runs) ≡ position_or_len (λ r. nat_lt from r.at) runs
plain_place seen from [] = refl
plain_place seen from (r ∷ rs) = ap (λ n. cond (not (nat_lt from r.at)) (1 + n) 0) (plain_place seen from rs)

-- the octets before a place, some more, and those behind it, are the octets there with these put in
pub text_with : {P : Type 0} (seen : P → View) (runs : List (Run P)) (from i : ℕ) (xs : List ℕ) → 0 < length xs → InOrder seen 0 runs → overlaps (spread seen 0 runs) from (length xs) ≡ false → i ≡ position_or_len (λ r. nat_lt from r.at) runs
    → text_of seen (bodies_of (take i runs)) ++ xs ++ text_of seen (bodies_of (drop i runs)) ≡ octets_in (with_octets (spread seen 0 runs) from xs)
text_with {P} seen runs from i xs some order free place =
    let plains = map (plain seen) runs in
    let r : Run (List ℕ) = record { at = from; end = from + length xs; body = xs } in
    let free_there : overlaps (spread as_view 0 plains) from (length xs) ≡ false = rw (plain_spread seen 0 runs) free in
    let fits = fits_in as_view r plains (length xs) some refl refl (plain_order seen 0 runs order) free_there in
    let at : i ≡ position_or_len (λ s. nat_lt from s.at) plains = place ∙ sym (plain_place seen from runs) in
    let put_in : put r plains ≡ take i plains ++ r ∷ drop i plains = sym (insert_is_put r plains) ∙ rw at refl in
    let front : text_of as_view (bodies_of (take i plains)) ≡ text_of seen (bodies_of (take i runs)) = rw (take-map (plain seen) i runs) (plain_text seen (take i runs)) in
    let back : text_of as_view (bodies_of (drop i plains)) ≡ text_of seen (bodies_of (drop i runs)) = rw (drop-map (plain seen) i runs) (plain_text seen (drop i runs)) in
    let all : text_of as_view (bodies_of (put r plains)) ≡ text_of as_view (bodies_of (take i plains)) ++ (xs ++ text_of as_view (bodies_of (drop i plains))) =
    ap (λ ys. text_of as_view (bodies_of ys)) put_in
    ∙ ap (text_of as_view) (map-append (λ (s : Run (List ℕ)). s.body) (take i plains) (r ∷ drop i plains))
    ∙ flat_map-append (λ p. (as_view p).octets) (bodies_of (take i plains)) (bodies_of (r ∷ drop i plains)) in
    append_assoc (text_of seen (bodies_of (take i runs))) xs (text_of seen (bodies_of (drop i runs)))
    ∙ rw (← front, ← back) (sym all ∙ sym (octets_in-spread as_view 0 (put r plains)) ∙ ap octets_in (put_octets as_view r plains fits) ∙ rw (plain_spread seen 0 runs) refl)

-- what holds of each payload of runs, holds of those of a part
pub All-front : {P : Type 0} (Q : P → Type 0) (i : ℕ) (runs part : List (Run P)) → part ≡ take i runs → All Q (bodies_of runs) → All Q (bodies_of part)
All-front {P} Q i runs part e all =
    subst (λ (xs : List (Run P)). All Q (bodies_of xs)) (sym e) (All-same Q (bodies_of (take i runs)) (take i (bodies_of runs)) (sym (take-map (λ (r : Run P). r.body) i runs)) (All-take Q i (bodies_of runs) all))

pub All-back : {P : Type 0} (Q : P → Type 0) (i : ℕ) (runs part : List (Run P)) → part ≡ drop i runs → All Q (bodies_of runs) → All Q (bodies_of part)
All-back {P} Q i runs part e all =
    subst (λ (xs : List (Run P)). All Q (bodies_of xs)) (sym e) (All-same Q (bodies_of (drop i runs)) (drop i (bodies_of runs)) (sym (drop-map (λ (r : Run P). r.body) i runs)) (All-drop Q i (bodies_of runs) all))

-- three texts appended to nothing
pub assembled : (a b c d out x y z : List ℕ) → a ≡ [] → b ≡ a ++ x → c ≡ b ++ y → d ≡ c ++ z → out ≡ d → out ≡ x ++ y ++ z
assembled a b c d out x y z p q r s t = t ∙ s ∙ ap (λ l. l ++ z) (r ∙ ap (λ l. l ++ y) (q ∙ ap (λ l. l ++ x) p))
