-- What is true of a seat and a chain is true of them as a Home and a payload.
use Rattle.std.proofs.Common.{◌≡◌, ℕ, ◌+◌, ◌*◌, ◌<◌, ◌≤◌, Bool, true, false, cond, ◌&&◌, eqb, eqb-true, List, [], ◌∷◌, length, get_or, All, Some, None, refl, sym, ap, ◌∙◌, arith}
use Rattle.std.specs.Option.{IsSome, IsSomeAnd, IfSome}
use Rattle.std.specs.Prelude.{◌||◌, not}
use Rattle.std.proofs.lemmas.Bool.{false≢true}
use Rattle.std.proofs.lemmas.List.Elements.{All-head, All-tail}
use Rattle.lw_payload.specs.declared.kinds.Kind.{Kind}
use Rattle.lw_payload.specs.declared.kinds.Kind.TheVariants.{Ram, Pool, Rom, Ref}
use Rattle.lw_payload.specs.Views.{Slot, IsShort, IsTooLong, free_of, pbufs_of, pool_one}
use Rattle.lw_payload.specs.Calls.{IsMade, IsRefused, KeepsHome, last_of, asked_after}
use Rattle.lw_payload.proofs.RowLaws.{sum_by_places}
use Rattle.pbuf_counts.specs.Owners.{claim_weight, first_adds}
use Rattle.pbuf_seats.specs.declared.makes.Makes.{Makes}
use Rattle.pbuf_seats.specs.Kept.{counts_of, rows_of}
use Rattle.pbuf_seats.specs.Owners.{adds_of}
use Rattle.pbuf_seats.specs.Seats.{SeatSeen}
use Rattle.pbuf_spans.specs.Parts.{Part, rows_in, least_adds}
use Rattle.lw_pbuf.specs.Chains.{ChainSeen}
use Rattle.lw_pbuf.specs.Takes.{is_counted, places_of, free_in}
use Rattle.lw_pbuf.specs.Makes.{longest_of, claims_for, granted_of, denied_of, IsAlloc, IsDenied, KeepsSeat}
use Rattle.lw_pbuf.specs.Homes.{family_of, of_kinds, pool_places, weighs_in, pools_of, home_of, payload_of}
use Rattle.lw_payload.proofs.CountLaws.{place_within}
use Rattle.lw_pbuf.proofs.Homes.{few_slots}

claims_here : (b r c : Bool) (rights : ℕ) → eqb rights 1 ≡ r → (not b || r) && c ≡ true → b ≡ true → rights ≡ 1
claims_here true true c rights e makes counted = eqb-true rights 1 e
claims_here true false c rights e makes counted = absurd (false≢true makes)
claims_here false r c rights e makes counted = absurd (false≢true counted)

last_test : (b c : Bool) (claimed : ℕ) → eqb claimed 0 ≡ c → b && c ≡ true → claimed ≡ 0
last_test true true claimed e makes = eqb-true claimed 0 e
last_test true false claimed e makes = absurd (false≢true makes)
last_test false c claimed e makes = absurd (false≢true makes)

-- whether the seat makes the kind
abbrev pub may_make : SeatSeen → Kind → Bool
may_make h kind = (home_of h).pools.makes kind

-- a seat that makes POOL has the right to claim it where it isn't kept, and has counted all its claims
pub right_here : (h : SeatSeen) (kind : Kind) → may_make h kind ≡ true → is_counted h kind ≡ true → h.holder.rights ≡ 1
right_here h Ram makes counted = absurd (false≢true counted)
right_here h Pool makes counted = claims_here (eqb (length h.kept.pool.items) 0) (eqb h.holder.rights 1) (eqb h.claimed 0) h.holder.rights refl makes counted
right_here h Rom makes counted = absurd (false≢true counted)
right_here h Ref makes counted = absurd (false≢true counted)

pub settled_here : (h : SeatSeen) (kind : Kind) → may_make h kind ≡ true → kind ≡ Pool → h.claimed ≡ 0
settled_here h Ram makes is = absurd (let e = is in cc)
settled_here h Pool makes is = last_test (not (eqb (length h.kept.pool.items) 0) || eqb h.holder.rights 1) (eqb h.claimed 0) h.claimed refl makes
settled_here h Rom makes is = absurd (let e = is in cc)
settled_here h Ref makes is = absurd (let e = is in cc)

-- Sizes

size_kept : (b : Bool) (n : ℕ) → b ≡ false → IsSome (cond b None (Some n))
size_kept false n e = refl
size_kept true n e = absurd (false≢true (sym e))

size_some : (b : Bool) (n : ℕ) → IsSome (cond b None (Some n)) → b ≡ false
size_some false n e = refl
size_some true n e = absurd (false≢true e)

size_and : (b : Bool) (n : ℕ) (P : ℕ → Type 0) → IsSomeAnd (cond b None (Some n)) P → (b ≡ false) × P n
size_and false n P holds = (refl, holds)
size_and true n P holds = absurd holds

and_size : (b : Bool) (n : ℕ) (P : ℕ → Type 0) → b ≡ false → P n → IsSomeAnd (cond b None (Some n)) P
and_size false n P e holds = holds
and_size true n P e holds = absurd (false≢true (sym e))

-- how many pbufs of the kind the seat keeps
abbrev sizes : SeatSeen → Kind → ℕ
sizes h kind = of_kinds (length h.kept.ram.items) (length h.kept.pool.items) (length h.kept.rom.items) (length h.kept.reference.items) kind

sizes_are : (h : SeatSeen) (kind : Kind) → sizes h kind ≡ length (counts_of kind h.kept)
sizes_are h Ram = refl
sizes_are h Pool = refl
sizes_are h Rom = refl
sizes_are h Ref = refl

-- the counts of a kept kind aren't atomic
off_here : (h : SeatSeen) (kind : Kind) → eqb (sizes h kind) 0 ≡ false → is_counted h kind ≡ false
off_here h Ram e = refl
off_here h Pool e = e
off_here h Rom e = refl
off_here h Ref e = refl

above : (b : Bool) (n : ℕ) → eqb n 0 ≡ b → 0 < n → b ≡ false
above true n e some = absurd (let z = eqb-true n 0 e in omega arith)
above false n e some = refl

weighs_cases : (b : Bool) (n : ℕ) → claim_weight * cond b n 0 ≡ cond b (claim_weight * n) 0
weighs_cases true n = refl
weighs_cases false n = refl

weighs_same : (h : SeatSeen) (kind : Kind) (n : ℕ) → claim_weight * claims_for h kind n ≡ weighs_in (length h.kept.pool.items) kind n
weighs_same h Ram n = refl
weighs_same h Pool n = weighs_cases (eqb (length h.kept.pool.items) 0) (pbufs_of Pool n)
weighs_same h Rom n = refl
weighs_same h Ref n = refl

-- the slots without a row are the counts that are 0
free_slots : (h : SeatSeen) (kind : Kind) → free_of (rows_of h.kept) kind (length (counts_of kind h.kept)) ≡ free_in h kind
free_slots h kind = sum_by_places (λ (x : ℕ). cond {A = ℕ} (eqb x 0) 1 0) (λ (i : ℕ). cond {A = ℕ} (eqb (get_or (counts_of kind h.kept) i 0) 0) 1 0) (counts_of kind h.kept) 0
    (λ k within. ap (λ (j : ℕ). cond {A = ℕ} (eqb (get_or (counts_of kind h.kept) j 0) 0) 1 0) (omega arith))

-- Makes

least_first : (ps : List Part) → All (λ p. adds_of p.owner ≡ first_adds) ps → 65533 ≤ least_adds ps
least_first [] all = omega arith
least_first (p ∷ ps) all =
    let here = All-head (λ (q : Part). adds_of q.owner ≡ first_adds) p ps all in
    let rest = least_first ps (All-tail (λ (q : Part). adds_of q.owner ≡ first_adds) p ps all) in
    omega arith

few_octets : (kind : Kind) (n : ℕ) → pbufs_of kind n ≤ n
few_octets Ram n = omega arith
few_octets Pool n = omega arith
few_octets Rom n = omega arith
few_octets Ref n = omega arith

granted_least : (kind : Kind) (n : ℕ) (m : Makes) → m.made ≤ (granted_of kind n m).made
granted_least Ram n m = omega arith
granted_least Pool n m = omega arith
granted_least Rom n m = omega arith
granted_least Ref n m = omega arith

granted_most : (kind : Kind) (n : ℕ) (m : Makes) → (granted_of kind n m).made ≤ m.made + pool_one kind
granted_most Ram n m = omega arith
granted_most Pool n m = omega arith
granted_most Rom n m = omega arith
granted_most Ref n m = omega arith

granted_refused : (kind : Kind) (n : ℕ) (m : Makes) → (granted_of kind n m).refused ≡ m.refused
granted_refused Ram n m = refl
granted_refused Pool n m = refl
granted_refused Rom n m = refl
granted_refused Ref n m = refl

granted_last : (kind : Kind) (n : ℕ) (m : Makes) → (granted_of kind n m).last_refused ≡ m.last_refused
granted_last Ram n m = refl
granted_last Pool n m = refl
granted_last Rom n m = refl
granted_last Ref n m = refl

denied_made : (kind : Kind) (n : ℕ) (m : Makes) → (denied_of kind n m).made ≡ m.made
denied_made Ram n m = refl
denied_made Pool n m = refl
denied_made Rom n m = refl
denied_made Ref n m = refl

denied_refused : (kind : Kind) (n : ℕ) (m : Makes) → (denied_of kind n m).refused ≡ m.refused + pool_one kind
denied_refused Ram n m = omega arith
denied_refused Pool n m = omega arith
denied_refused Rom n m = omega arith
denied_refused Ref n m = omega arith

denied_last : (kind : Kind) (n : ℕ) (m : Makes) → (denied_of kind n m).last_refused ≡ last_of kind n m.last_refused
denied_last Ram n m = refl
denied_last Pool n m = refl
denied_last Rom n m = refl
denied_last Ref n m = refl

-- a seat that gave a row of a kind out keeps pbufs of it
kept_some : (h k : SeatSeen) (kind : Kind) (s : Slot) (ps : List Part) → rows_of k.kept s ≡ rows_of h.kept s + rows_in ps s → 0 < rows_in ps s → s.kind ≡ kind → ((j : Kind) → length (counts_of j k.kept) ≡ length (counts_of j h.kept)) → 0 < sizes h kind
kept_some h k kind s ps rows some is same =
    let w = place_within (counts_of s.kind k.kept) s.place (omega arith) in
    let e = same s.kind in
    let l = ap (λ (j : Kind). length (counts_of j h.kept)) is in
    let z = sizes_are h kind in
    omega arith

size_if : (b : Bool) (n : ℕ) (P : ℕ → Type 0) → (b ≡ false → P n) → IfSome (cond b None (Some n)) P
size_if false n P holds = holds refl
size_if true n P holds = tt

granted_made : (kind : Kind) (n : ℕ) (m : Makes) → (granted_of kind n m).made ≡ m.made + pool_one kind
granted_made Ram n m = omega arith
granted_made Pool n m = omega arith
granted_made Rom n m = omega arith
granted_made Ref n m = omega arith

-- the count of the pbufs of POOL asked for
granted_asked : (kind : Kind) (n : ℕ) (m : Makes) → (granted_of kind n m).asked ≡ asked_after kind n m.asked
granted_asked Ram n m = refl
granted_asked Pool n m = refl
granted_asked Rom n m = refl
granted_asked Ref n m = refl

denied_asked : (kind : Kind) (n : ℕ) (m : Makes) → (denied_of kind n m).asked ≡ asked_after kind n m.asked
denied_asked Ram n m = refl
denied_asked Pool n m = refl
denied_asked Rom n m = refl
denied_asked Ref n m = refl

-- there are as many places as the seat can take pbufs of POOL from
pool_there : (h : SeatSeen) (kind : Kind) → kind ≡ Pool → of_kinds (length h.kept.ram.items) (pool_places h.holder.table (length h.kept.pool.items)) (length h.kept.rom.items) (length h.kept.reference.items) kind ≡ places_of h kind
pool_there h Ram is = absurd (let e = is in cc)
pool_there h Pool is = refl
pool_there h Rom is = absurd (let e = is in cc)
pool_there h Ref is = absurd (let e = is in cc)

-- a chain that was made is a payload that was made
pub made_law : (h k : SeatSeen) (kind : Kind) (text : List ℕ) (c : ChainSeen) → IsAlloc h k kind text c → KeepsSeat h k kind (length text) → IsMade (home_of h) (home_of k) kind text (payload_of c)
made_law h k kind text c a keeps =
    let counts = λ (f : Makes → ℕ). ap f a.makes in
    record {
      octets = a.octets;
      parts = let p = a.parts in let f = few_octets kind (length text) in omega arith;
      shares = least_first c.parts a.adds;
      fresh = a.fresh;
      family = ap family_of a.table;
      rows = a.rows;
      kept = λ s some. let q = a.kept s some in (q.0, size_kept (eqb (sizes h kind) 0) (sizes h kind) (above (eqb (sizes h kind) 0) (sizes h kind) refl (kept_some h k kind s c.parts (a.rows s) some q.0 keeps.sizes)));
      alone = a.alone;
      free = size_if (eqb (sizes h kind) 0) (sizes h kind) (λ n. free_of (rows_of k.kept) kind n + pbufs_of kind (length text) ≡ free_of (rows_of h.kept) kind n) (λ kept.
          let f = a.free (off_here h kind kept) in
          let before = free_slots h kind in
          let after = free_slots k kind in
          let size = ap (free_of (rows_of h.kept) kind) (sizes_are h kind) in
          let same = ap (free_of (rows_of k.kept) kind) (sizes_are h kind ∙ sym (keeps.sizes kind)) in
          omega arith);
      few = λ m. let t = few_slots c.parts kind m in let p = a.parts in omega arith;
      weighs = a.weighs ∙ weighs_same h kind (length text);
      weight = a.weight;
      made_least = let e = counts (λ x. x.made) in let g = granted_least kind (length text) h.makes in omega arith;
      made_most = let e = counts (λ x. x.made) in let g = granted_most kind (length text) h.makes in omega arith;
      made = λ _. counts (λ x. x.made) ∙ granted_made kind (length text) h.makes;
      asks = λ _. counts (λ x. x.asked) ∙ granted_asked kind (length text) h.makes;
      refused = counts (λ x. x.refused) ∙ granted_refused kind (length text) h.makes;
      last_refused = counts (λ x. x.last_refused) ∙ granted_last kind (length text) h.makes;
    }

-- a refusal
pub denied_law : (h k : SeatSeen) (kind : Kind) (n : ℕ) → IsDenied h k kind n → IsRefused (home_of h) (home_of k) kind n
denied_law h k kind n d = record {
  rows = d.rows;
  weight = d.weight;
  made = ap (λ (x : Makes). x.made) d.makes ∙ denied_made kind n h.makes;
  refused = ap (λ (x : Makes). x.refused) d.makes ∙ denied_refused kind n h.makes;
  last_refused = ap (λ (x : Makes). x.last_refused) d.makes ∙ denied_last kind n h.makes;
  asks = λ _. ap (λ (x : Makes). x.asked) d.makes ∙ denied_asked kind n h.makes;
  asked = λ pool. let a = d.asked pool in let p = pool_there h kind pool in omega arith;
}

-- what every call keeps
pub keeps_law : (h k : SeatSeen) (kind : Kind) (n : ℕ) → KeepsSeat h k kind n → KeepsHome (home_of h) (home_of k) kind n
keeps_law h k kind n s = record {
  pools = λ i. pools_of (s.table i) (s.sizes Ram i) (s.sizes Pool i) (s.sizes Rom i) (s.sizes Ref i) (s.right i) (s.claimed i);
  asked_least = s.asked_least;
  asked_most = s.asked_most;
}

-- too few are free exactly where the seat has fewer
pub short_law : (h : SeatSeen) (kind : Kind) (n : ℕ) → IsSome ((home_of h).pools.size kind) → (is_counted h kind ≡ false → free_in h kind < pbufs_of kind n) → IsShort (home_of h) kind n
short_law h kind n kept few =
    let off = size_some (eqb (sizes h kind) 0) (sizes h kind) kept in
    and_size (eqb (sizes h kind) 0) (sizes h kind) (λ size. free_of (rows_of h.kept) kind size < pbufs_of kind n) off
    (let f = few (off_here h kind off) in let e = free_slots h kind in let z = ap (free_of (rows_of h.kept) kind) (sizes_are h kind) in omega arith)

pub enough_law : (h : SeatSeen) (kind : Kind) (n : ℕ) → (is_counted h kind ≡ false → pbufs_of kind n ≤ free_in h kind) → IsShort (home_of h) kind n → ⊥
enough_law h kind n enough short =
    let q = size_and (eqb (sizes h kind) 0) (sizes h kind) (λ size. free_of (rows_of h.kept) kind size < pbufs_of kind n) short in
    let few = q.1 in
    let f = enough (off_here h kind q.0) in
    let e = free_slots h kind in
    let z = ap (free_of (rows_of h.kept) kind) (sizes_are h kind) in
    absurd (omega arith)

-- what holds of a Home's longest payloads
pub fits_law : (h : SeatSeen) (kind : Kind) (n : ℕ) → n ≤ longest_of kind → IsTooLong (home_of h) kind n → ⊥
fits_law h kind n fits long = absurd (let l : longest_of kind < n = long in omega arith)
