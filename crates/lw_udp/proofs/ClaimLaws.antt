use Rattle.std.proofs.Common.{◌≡◌, ℕ, zero, suc, ◌+◌, ◌<◌, true, false, ◌||◌, ◌&&◌, cond, eqb, ltb, List, [], ◌∷◌, ◌++◌, length, get_or, take, Option, Some, None, refl, ap, sym, subst, ◌∙◌, arith, All, Contains}
use Rattle.std.specs.List.{fold, reduce, filter_map, cons_option}
use Rattle.std.specs.Option.{option_map}
use Rattle.std.proofs.lemmas.Bool.Decides.{nat_tests}
use Rattle.std.proofs.lemmas.List.{append-nil, take_more}
use Rattle.std.proofs.lemmas.List.Elements.{All-nil, All-cons, filter_map-append}
use Rattle.std.proofs.lemmas.List.Sums.{fold-append}
use Rattle.lw_udp.specs.declared.ends.UdpEnd.{UdpEnd}
use Rattle.lw_udp.specs.declared.delivery.Claim.{Claim}
use Rattle.lw_udp.specs.Ends.{Socket}
use Rattle.lw_udp.specs.Delivery.{rank, claim_of, goes_before, first_of, first_with, first_claim, GoesTo, GoesNowhere}
use Rattle.lw_udp.specs.Laws.{DeliveryLaw}
use Rattle.lw_udp.proofs.ListLaws.{All-head, All-tail, Contains-cons, all_given, given_at, nothing_given}

-- The first claim, step by step

joined : (cs : List Claim) (c : Option Claim) → reduce first_of (cs ++ cons_option c []) ≡ first_with (reduce first_of cs) c
joined [] None = refl
joined [] (Some c) = refl
joined (a ∷ cs) None = ap (reduce first_of) (append-nil (a ∷ cs))
joined (a ∷ cs) (Some c) = ap Some (fold-append first_of a cs (c ∷ []))

-- the first claim with one end more
pub first_more : (src dst : Socket) (ends : List UdpEnd) (i : ℕ) (d : UdpEnd) (first claim new : Option Claim) → i < length ends → first ≡ first_claim src dst (take i ends) → claim ≡ claim_of src dst (get_or ends i d) → new ≡ first_with first claim → new ≡ first_claim src dst (take (i + 1) ends)
first_more src dst ends i d first claim new within so_far its step =
    let h : UdpEnd → Option Claim = claim_of src dst in
    let e = get_or ends i d in
    let more : first_claim src dst (take i ends ++ e ∷ []) ≡ first_with (first_claim src dst (take i ends)) (h e) =
    ap (reduce first_of) (filter_map-append h (take i ends) (e ∷ [])) ∙ joined (filter_map h (take i ends)) (h e) in
    step ∙ ap (λ (o : Option Claim). first_with o claim) so_far ∙ ap (first_with (first_claim src dst (take i ends))) its
    ∙ sym more ∙ sym (ap (first_claim src dst) (take_more ends i d within))

-- The order of claims

not_itself : (p m : ℕ) → (ltb p p || (eqb p p && ltb m m)) ≡ false
not_itself p m = grind (arith, nat_tests)

not_back : (p m q n : ℕ) → (ltb p q || (eqb p q && ltb m n)) ≡ true → (ltb q p || (eqb q p && ltb n m)) ≡ false
not_back p m q n h = grind (arith, nat_tests)

chained : (p m q n r k : ℕ) → (ltb p q || (eqb p q && ltb m n)) ≡ false → (ltb q r || (eqb q r && ltb n k)) ≡ false → (ltb p r || (eqb p r && ltb m k)) ≡ false
chained p m q n r k h h' = grind (arith, nat_tests)

-- no claim goes before w
abbrev NotBefore : Claim → Claim → Type 0
NotBefore w c = goes_before c w ≡ false

-- the first of some claims is one of them, and none goes before it
abbrev IsFirst : List Claim → Claim → Type 0
IsFirst cs w = All (NotBefore w) cs × Contains cs w

moved : (a b : Claim) (cs : List Claim) (w : Claim) (k : ℕ) → k < length (a ∷ cs) → get_or (a ∷ cs) k w ≡ w → Contains (a ∷ b ∷ cs) w
moved a b cs w zero within at = (0, omega arith, at)
moved a b cs w (suc k) within at = (suc (suc k), omega arith, at)

first_is_first : (a : Claim) (cs : List Claim) → IsFirst (a ∷ cs) (fold first_of a cs)
first_is_first a [] = (All-cons (NotBefore a) a [] (not_itself (rank a.class) a.conn) (All-nil (NotBefore a)), (0, omega arith, refl))
first_is_first a (b ∷ cs) =
    elim (goes_before b a) as (λ v. goes_before b a ≡ v → IsFirst (a ∷ b ∷ cs) (fold first_of (cond v b a) cs)) [
      | true ↦ λ e.
          let w = fold first_of b cs in
          let it = first_is_first b cs in
          let head = All-head (NotBefore w) b cs it.0 in
          let back = not_back (rank b.class) b.conn (rank a.class) a.conn e in (
            All-cons (NotBefore w) a (b ∷ cs) (chained (rank a.class) a.conn (rank b.class) b.conn (rank w.class) w.conn back head) it.0,
            Contains-cons a (b ∷ cs) w it.1,
          )
      | false ↦ λ e.
          let w = fold first_of a cs in
          let it = first_is_first a cs in
          let head = All-head (NotBefore w) a cs it.0 in
          let rest = All-tail (NotBefore w) a cs it.0 in (
            All-cons (NotBefore w) a (b ∷ cs) head (All-cons (NotBefore w) b cs (chained (rank b.class) b.conn (rank a.class) a.conn (rank w.class) w.conn e head) rest),
            moved a b cs w it.1.0 it.1.1 it.1.2,
          )
    ] refl

-- Where a datagram goes

goes_by : (src dst : Socket) (ends : List UdpEnd) (conn : ℕ) (cs : List Claim) → filter_map (claim_of src dst) ends ≡ cs → option_map (λ (c : Claim). c.conn) (reduce first_of cs) ≡ Some conn → GoesTo src dst ends conn
goes_by src dst ends conn [] same goes = absurd (cc)
goes_by src dst ends conn (a ∷ cs) same goes =
    let h : UdpEnd → Option Claim = claim_of src dst in
    let w = fold first_of a cs in
    let it = first_is_first a cs in
    let number : w.conn ≡ conn = cc in
    let all = subst (λ (l : List Claim). All (NotBefore w) l) (sym same) it.0 in
    let at = subst (λ (l : List Claim). Contains l w) (sym same) it.1 in
    record {
      claim = w;
      number = number;
      claimed = given_at h ends w at.0 at.1 at.2;
      first = all_given h (NotBefore w) ends all;
    }

nowhere_by : (src dst : Socket) (ends : List UdpEnd) (cs : List Claim) → filter_map (claim_of src dst) ends ≡ cs → option_map (λ (c : Claim). c.conn) (reduce first_of cs) ≡ None → GoesNowhere src dst ends
nowhere_by src dst ends [] same none = nothing_given (claim_of src dst) ends same
nowhere_by src dst ends (a ∷ cs) same none = absurd (cc)

pub delivery : DeliveryLaw
delivery = record {
  somewhere = λ src dst ends conn goes. goes_by src dst ends conn (filter_map (claim_of src dst) ends) refl goes;
  nowhere = λ src dst ends none. nowhere_by src dst ends (filter_map (claim_of src dst) ends) refl none;
}
