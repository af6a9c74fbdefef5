-- Spans that are given up one after another.
use Rattle.std.proofs.Common.{◌≡◌, ℕ, ◌+◌, ◌^◌, ◌<◌, ◌≤◌, List, [], ◌∷◌, ◌++◌, length, sym, ap, ◌∙◌, subst, arith, length-append}
use Rattle.atomic_table.specs.Seated.{TableId}
use Rattle.lw_payload.specs.Views.{Slot}
use Rattle.pbuf_seats.specs.Kept.{rows_of}
use Rattle.pbuf_seats.specs.Owners.{ended_at}
use Rattle.pbuf_seats.specs.Seats.{SeatSeen}
use Rattle.pbuf_spans.specs.Parts.{Part, rows_in, IsChain, IsSpent}
use Rattle.lw_pbuf.specs.Chains.{ChainSeen, all_parts, IsOf}
use Rattle.lw_pbuf.proofs.Joined.{few_parts}
use Rattle.pbuf_spans.proofs.Owning.{same_seat, same_then}
use Rattle.lw_pbuf.proofs.Spans.{rows_in-append, weight_in-append, all_parts-push, chain-front, chain-back, all_parts-one}

-- the rows that stand before others, and those others, are among the rows that the seat gave out
pub listed-front : (h : SeatSeen) (xs ys : List Part) → ((s : Slot) → rows_in (xs ++ ys) s ≤ rows_of h.kept s) → (s : Slot) → rows_in xs s ≤ rows_of h.kept s
listed-front h xs ys listed s = let l = listed s in let a = rows_in-append xs ys s in omega arith

pub listed-back : (h : SeatSeen) (xs ys : List Part) → ((s : Slot) → rows_in (xs ++ ys) s ≤ rows_of h.kept s) → (s : Slot) → rows_in ys s ≤ rows_of h.kept s
listed-back h xs ys listed s = let l = listed s in let a = rows_in-append xs ys s in omega arith

-- a chain stays one under the counts of a seat that took pbufs back
pub chain-later : (h k : SeatSeen) (xs ys : List Part) → IsSpent h k xs → IsChain h.holder.table ys → IsChain k.holder.table ys
chain-later h k xs ys a chain = subst (λ (t : TableId). IsChain t ys) (sym a.same.table) chain

-- pbufs may be given up: they are under the seat's counts, and their rows are among those that it gave out
pub record MayGive (h : SeatSeen) (ps : List Part) : Type 0 where
  pub chain : IsChain h.holder.table ps
  pub listed : (s : Slot) → rows_in ps s ≤ rows_of h.kept s

pub give-front : (h : SeatSeen) (xs ys : List Part) → MayGive h (xs ++ ys) → MayGive h xs
give-front h xs ys m = record { chain = chain-front h.holder.table xs ys m.chain; listed = listed-front h xs ys m.listed }

pub give-back : (h : SeatSeen) (xs ys : List Part) → MayGive h (xs ++ ys) → MayGive h ys
give-back h xs ys m = record { chain = chain-back h.holder.table xs ys m.chain; listed = listed-back h xs ys m.listed }

pub give-few : (h : SeatSeen) (ps : List Part) → MayGive h ps → length ps < 2 ^ 32
give-few h ps m = let f = few_parts ps m.chain.some in let s = m.chain.short in omega arith

-- so may the one span of a chain
pub one-few : (t : TableId) (spans : List (List Part)) (ps : List Part) → spans ≡ ps ∷ [] → IsChain t (all_parts spans) → length ps < 2 ^ 32
one-few t spans ps is chain =
    let f = few_parts (all_parts spans) chain.some in
    let s = chain.short in
    let e : length (all_parts spans) ≡ length ps = ap (λ (l : List (List Part)). length (all_parts l)) is ∙ ap (λ (l : List Part). length l) (all_parts-one ps) in
    omega arith

-- those that stood before the ones that were given up may still be
pub give-then : (h k : SeatSeen) (xs ys : List Part) → MayGive h (xs ++ ys) → IsSpent h k ys → MayGive k xs
give-then h k xs ys m spent = record {
  chain = chain-later h k ys xs spent (chain-front h.holder.table xs ys m.chain);
  listed = λ s. let l = m.listed s in let r = spent.rows s in let a = rows_in-append xs ys s in omega arith;
}

-- and those that stood behind
pub give-rest : (h k : SeatSeen) (xs ys : List Part) → MayGive h (xs ++ ys) → IsSpent h k xs → MayGive k ys
give-rest h k xs ys m spent = record {
  chain = chain-later h k xs ys spent (chain-back h.holder.table xs ys m.chain);
  listed = λ s. let l = m.listed s in let r = spent.rows s in let a = rows_in-append xs ys s in omega arith;
}

-- of the spans `all` those of `rest` are still to be given up; the pbufs of the others were given up to the seat h, which is k now
pub record Frees (h k : SeatSeen) (all rest : List (List Part)) (ended : ℕ) : Type 0 where
  pub may : MayGive k (all_parts rest)
  pub spent : (l : SeatSeen) → IsSpent k l (all_parts rest) → IsSpent h l (all_parts all)
  pub few : ended + length (all_parts rest) ≤ length (all_parts all)
  pub ends : ended_at k ≡ ended_at h + ended
  pub most : length (all_parts all) < 2 ^ 32

pub frees_first : (h : SeatSeen) (spans : List (List Part)) → IsChain h.holder.table (all_parts spans) → ((s : Slot) → rows_in (all_parts spans) s ≤ rows_of h.kept s) → Frees h h spans spans 0
frees_first h spans chain listed = record { may = record { chain = chain; listed = listed }; spent = λ l s. s; few = omega arith; ends = omega arith; most = let f = few_parts (all_parts spans) chain.some in let s = chain.short in omega arith }

module _ (h k : SeatSeen) (all rest more : List (List Part)) (ps : List Part) (ended : ℕ) (f : Frees h k all rest ended) (is : rest ≡ more ++ ps ∷ []) where
  parts : all_parts rest ≡ all_parts more ++ ps
  parts = ap (λ (l : List (List Part)). all_parts l) is ∙ all_parts-push more ps

  may : MayGive k (all_parts more ++ ps)
  may = subst (λ (l : List Part). MayGive k l) parts f.may

  pub frees_span : MayGive k ps
  frees_span = give-back k (all_parts more) ps may

  pub frees_few : (n : ℕ) → n ≤ length ps → ended + n < 2 ^ 32
  frees_few n small = let a = f.few in let m = f.most in let b = ap (λ (l : List Part). length l) parts in let d = length-append (all_parts more) ps in omega arith

  pub frees_next : (l : SeatSeen) (n : ℕ) → IsSpent k l ps → ended_at l ≡ ended_at k + n → n ≤ length ps → Frees h l all more (ended + n)
  frees_next l n spent end small = record {
    may = give-then k l (all_parts more) ps may spent;
    spent = λ m s. f.spent m (subst (λ (x : List Part). IsSpent k m x) (sym parts) record {
      rows = λ t. let r = spent.rows t in let q = s.rows t in let e = rows_in-append (all_parts more) ps t in omega arith;
      weight = let r = spent.weight in let q = s.weight in let e = weight_in-append (all_parts more) ps in omega arith;
      same = same_then k l m spent.same s.same;
    });
    few = let a = f.few in let b = ap (λ (x : List Part). length x) parts in let d = length-append (all_parts more) ps in omega arith;
    ends = let e = f.ends in omega arith;
    most = f.most;
  }

-- nothing was given up
pub spent-none : (h : SeatSeen) → IsSpent h h []
spent-none h = record { rows = λ s. omega arith; weight = omega arith; same = same_seat h }

pub frees_last : (h k : SeatSeen) (all rest : List (List Part)) (ended : ℕ) → Frees h k all rest ended → length rest ≡ 0 → IsSpent h k (all_parts all) × (ended ≤ length (all_parts all))
frees_last h k all [] ended f none = (f.spent k (spent-none k), let a = f.few in omega arith)
frees_last h k all (ps ∷ spans) ended f none = absurd (omega arith)

-- a chain that may be given up to the seat
pub of_chain : (h : SeatSeen) (t : TableId) (c : ChainSeen) (ps : List Part) → IsOf h c → ps ≡ c.parts → t ≡ c.table → IsChain t ps → MayGive h ps
of_chain h t c ps of same under chain = record {
  chain = subst (λ (u : TableId). IsChain u ps) (under ∙ of.table) chain;
  listed = λ s. let e = ap (λ (l : List Part). rows_in l s) same in let l = of.listed s in omega arith;
}
