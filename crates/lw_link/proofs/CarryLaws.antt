-- What payloads come to while a plan is carried out.
use Rattle.std.proofs.Common.{ℕ, ◌≡◌, ◌+◌, ◌++◌, ◌∙◌, List, [], ◌∷◌, take, ap, sym, subst, arith}
use Rattle.std.specs.List.{sum_by}
use Rattle.std.proofs.lemmas.List.Sums.{sum_by-append}
use Rattle.std.proofs.lemmas.List.{append-nil}
use Rattle.lw_base.specs.declared.addresses.Ip.{Ip}
use Rattle.lw_payload.specs.Views.{View, HomeView, Pools}
use Rattle.lw_payload.specs.Totals.{IsOwned, IsSum, Moves, stranger, total}
use Rattle.lw_payload.proofs.TotalLaws.{IsOwned-left, IsOwned-moved, IsSum-none, Moves-beside, Moves-same, Moves-then, IsSameTotal-alike}
use Rattle.lw_arp.specs.declared.entries.ArpEntry.{ArpEntry}
use Rattle.lw_arp.specs.Neighbours.{WeighAlike, looked_up, packets}
use Rattle.lw_link.specs.Way.{asked_for}
use Rattle.lw_link.proofs.PlanLaws.{asked_more}

-- lists that weigh alike, one of them in two parts
sum_alike : {P : Type 0} (seen : P → View) (f : List ℕ) (ps qs os : List P) → WeighAlike ps (qs ++ os) → IsSum (total seen f ps) (total seen f os) (total seen f qs)
sum_alike seen f ps qs os alike = record {
  rows = λ s. let a = alike (λ p. (seen p).rows s) in let b = sum_by-append (λ p. (seen p).rows s) qs os in omega arith;
  weight = let a = alike (λ p. (seen p).weight) in let b = sum_by-append (λ p. (seen p).weight) qs os in omega arith;
  strangers = let a = alike (λ p. stranger f (seen p)) in let b = sum_by-append (λ p. stranger f (seen p)) qs os in omega arith;
}

-- what is given back is owned
pub given_owned : {P : Type 0} (seen : P → View) (f : List ℕ) (h : HomeView) (ps qs os : List P) → WeighAlike ps (qs ++ os) → IsOwned h (total seen f ps) → IsOwned h (total seen f os)
given_owned seen f h ps qs os alike owned = IsOwned-left h (total seen f ps) (total seen f os) (total seen f qs) (sum_alike seen f ps qs os alike) owned

-- and where it is given up, the rest stays
pub given_moves : {P : Type 0} (seen : P → View) (f : List ℕ) (h k : HomeView) (ps qs os : List P) → WeighAlike ps (qs ++ os) → Moves h k (total seen f os) (total seen f []) → Moves h k (total seen f ps) (total seen f qs)
given_moves seen f h k ps qs os alike moves =
    Moves-beside h k (total seen f os) (total seen f []) (total seen f qs) (total seen f ps) (total seen f qs) moves (sum_alike seen f ps qs os alike) (IsSum-none seen f qs)

-- where nothing is given back nothing moves
pub none_moves : {P : Type 0} (seen : P → View) (f : List ℕ) (h : HomeView) (ps qs : List P) → WeighAlike ps (qs ++ []) → Moves h h (total seen f ps) (total seen f qs)
none_moves seen f h ps qs alike =
    Moves-same h (total seen f ps) (total seen f qs) (IsSameTotal-alike seen f ps qs (λ w. sym (ap (sum_by w) (append-nil qs)) ∙ alike w))

-- a Home keeps its family
family_kept : (h k : HomeView) → k.pools ≡ h.pools → k.pools.family ≡ h.pools.family
family_kept h k same = ap (λ (p : Pools). p.family) same

-- what moved is owned, for the family of the Home as it is now
pub owned_now : {P : Type 0} (seen : P → View) (h k : HomeView) (ps qs : List P) → IsOwned h (total seen h.pools.family ps) → Moves h k (total seen h.pools.family ps) (total seen h.pools.family qs) → IsOwned k (total seen k.pools.family qs)
owned_now seen h k ps qs owned moves =
    subst (λ (f : List ℕ). IsOwned k (total seen f qs)) (sym (family_kept h k moves.pools))
    (IsOwned-moved h k (total seen h.pools.family ps) (total seen h.pools.family qs) owned moves)

-- one move after another
pub moves_on : {P : Type 0} (seen : P → View) (h k l : HomeView) (ps qs rs : List P) → Moves h k (total seen h.pools.family ps) (total seen h.pools.family qs) → Moves k l (total seen k.pools.family qs) (total seen k.pools.family rs) → Moves h l (total seen h.pools.family ps) (total seen h.pools.family rs)
moves_on seen h k l ps qs rs first second =
    Moves-then h k l (total seen h.pools.family ps) (total seen h.pools.family qs) (total seen h.pools.family rs) first
    (subst (λ (f : List ℕ). Moves k l (total seen f qs) (total seen f rs)) (family_kept h k first.pools) second)

-- the addresses that were looked up so far
pub record Asked {P : Type 0} (seen : P → View) (h k : HomeView) (before now : List (ArpEntry P)) (ips : List Ip) : Type 0 where
  pub table : now ≡ asked_for before ips
  pub owned : IsOwned h (total seen h.pools.family (packets before))
  pub moves : Moves h k (total seen h.pools.family (packets before)) (total seen h.pools.family (packets now))

-- one more
pub Asked-more : {P : Type 0} (seen : P → View) (h k l : HomeView) (before now then : List (ArpEntry P)) (ips : List Ip) (i : ℕ) (ip : Ip) → take (i + 1) ips ≡ take i ips ++ ip ∷ [] → then ≡ looked_up now ip → Moves k l (total seen k.pools.family (packets now)) (total seen k.pools.family (packets then)) → Asked seen h k before now (take i ips) → Asked seen h l before then (take (i + 1) ips)
Asked-more seen h k l before now then ips i ip more is moves so_far = record {
  table = is ∙ ap (λ t. looked_up t ip) so_far.table ∙ sym (ap (asked_for before) more ∙ asked_more before (take i ips) ip);
  owned = so_far.owned;
  moves = moves_on seen h k l (packets before) (packets now) (packets then) so_far.moves moves;
}
