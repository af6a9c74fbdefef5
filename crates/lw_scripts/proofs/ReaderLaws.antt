-- What a reader's one answer says of every script and every fault.
use Rattle.std.proofs.Common.{◌≡◌, ℕ, ◌⊎◌, List, Result, Ok, Err, MatchResult, refl, ap, subst, inl, inr}
use Rattle.lw_scripts.specs.declared.parts.Script.{Script}
use Rattle.lw_scripts.specs.declared.reader.ScriptFault.{ScriptFault}
use Rattle.lw_scripts.specs.declared.reader.ScriptFault.TheVariants.{Line, NoMemory}
use Rattle.lw_scripts.specs.declared.wanted.Wanted.{Wanted}
use Rattle.lw_scripts.specs.Grammar.{FailsAt, IsFault, SpellsScript}
use Rattle.lw_scripts.proofs.GrammarLaws.{exclusive, fails_once, spells_once}

pub only_script : (wanted : Wanted) (octets : List ℕ) (r : Result Script ScriptFault) → MatchResult r (SpellsScript wanted octets) (IsFault wanted octets) → (s : Script) → SpellsScript wanted octets s → (r ≡ Ok s) ⊎ (r ≡ Err NoMemory)
only_script wanted octets (Ok t) h s k = inl (ap Ok (spells_once wanted octets t s h k))
only_script wanted octets (Err (Line n)) h s k = absurd (exclusive wanted octets s n k h)
only_script wanted octets (Err NoMemory) h s k = inr refl

pub line_fails : (wanted : Wanted) (octets : List ℕ) (r : Result Script ScriptFault) → MatchResult r (SpellsScript wanted octets) (IsFault wanted octets) → (n : ℕ) → r ≡ Err (Line n) → FailsAt wanted octets n
line_fails wanted octets (Ok t) h n e = cc
line_fails wanted octets (Err (Line m)) h n e = let same : m ≡ n = cc in subst (λ (k : ℕ). FailsAt wanted octets k) same h
line_fails wanted octets (Err NoMemory) h n e = cc

pub first_fault : (wanted : Wanted) (octets : List ℕ) (r : Result Script ScriptFault) → MatchResult r (SpellsScript wanted octets) (IsFault wanted octets) → (n : ℕ) → FailsAt wanted octets n → (r ≡ Err (Line n)) ⊎ (r ≡ Err NoMemory)
first_fault wanted octets (Ok t) h n k = absurd (exclusive wanted octets t n h k)
first_fault wanted octets (Err (Line m)) h n k = inl (ap (λ (l : ℕ). Err (Line l)) (fails_once wanted octets m n h k))
first_fault wanted octets (Err NoMemory) h n k = inr refl
