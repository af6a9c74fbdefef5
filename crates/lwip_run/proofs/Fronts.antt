-- Fronts of texts that are written piece by piece.
use Rattle.std.proofs.Common.{ℕ, List, ◌++◌, Result, Ok, Err, OnErr, sym, ap, ◌∙◌, append_assoc}
use Rattle.lw_outside.specs.Sinks.{Adds, AddsFront, SinkSeen}
use Rattle.lw_outside.proofs.WriteLaws.{Adds-then}

-- a front of the first piece is a front of both
pub first_front : (before now : SinkSeen) (first second : List ℕ) → AddsFront before now first → AddsFront before now (first ++ second)
first_front before now first second f =
    record {
      front = f.front;
      behind = f.behind ++ second;
      split = ap (λ (octets : List ℕ). octets ++ second) f.split ∙ append_assoc f.front f.behind second;
      adds = f.adds;
    }

-- the first piece and a front of the second are a front of both
pub second_front : (before between now : SinkSeen) (first second : List ℕ) → Adds before between first → AddsFront between now second → AddsFront before now (first ++ second)
second_front before between now first second a f =
    record {
      front = first ++ f.front;
      behind = f.behind;
      split = ap (λ (octets : List ℕ). first ++ octets) f.split ∙ sym (append_assoc first f.front f.behind);
      adds = Adds-then before between now first f.front a f.adds;
    }

-- what holds anyway holds on an error
pub on_error : {A E P : Type 0} (r : Result A E) → P → OnErr r P
on_error (Ok x) p = tt
on_error (Err e) p = p
