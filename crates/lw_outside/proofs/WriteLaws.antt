-- Writing piece by piece.
use Rattle.std.proofs.Common.{◌≡◌, ℕ, ◌≤◌, List, ◌++◌, take, drop, sym, ap, ◌∙◌, append_assoc, take-append-drop, arith}
use Rattle.lw_outside.specs.Sinks.{SinkSeen, Adds}

-- all before the rest was taken, and the count of faults didn't fall
pub record WrittenSoFar (before now : SinkSeen) (octets rest : List ℕ) : Type 0 where
  pub front : List ℕ
  pub split : octets ≡ front ++ rest
  pub adds : Adds before now front
  pub later : before.faults ≤ now.faults

-- one piece behind another
pub Adds-then : (before between now : SinkSeen) (first second : List ℕ) → Adds before between first → Adds between now second → Adds before now (first ++ second)
Adds-then before between now first second a b =
    b ∙ ap (λ (l : List ℕ). l ++ second) a ∙ append_assoc before.took first second

-- one more call took some front of the rest
pub written_more : (before between now : SinkSeen) (octets rest : List ℕ) (count : ℕ)
    → WrittenSoFar before between octets rest → Adds between now (take count rest) → between.faults ≤ now.faults
    → WrittenSoFar before now octets (drop count rest)
written_more before between now octets rest count w added rose = record {
  front = w.front ++ take count rest;
  split =
      w.split ∙ ap (λ l. w.front ++ l) (sym (take-append-drop count rest)) ∙ sym (append_assoc w.front (take count rest) (drop count rest));
  adds = Adds-then before between now w.front (take count rest) w.adds added;
  later = let first = w.later in omega arith;
}
