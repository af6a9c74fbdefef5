-- What a reader's one answer says of every script and every fault.
use Rattle.std.proofs.Common.{◌≡◌, ℕ, ◌⊎◌, List, Result, Ok, Err, MatchResult, refl, ap, subst, inl, inr}
use Rattle.lw_script.specs.declared.parts.Script.{Script}
use Rattle.lw_script.specs.declared.reader.ScriptFault.{ScriptFault}
use Rattle.lw_script.specs.declared.reader.ScriptFault.TheVariants.{Line, NoMemory}
use Rattle.lw_script.specs.Faults.{IsFault}
use Rattle.lw_script.specs.Grammar.{FailsAt, SpellsScript}
use Rattle.lw_script.proofs.GrammarLaws.{exclusive, fails_once, spells_once}

pub only_script : (octets : List ℕ) (r : Result Script ScriptFault) → MatchResult r (SpellsScript octets) (IsFault octets) → (s : Script) → SpellsScript octets s → (r ≡ Ok s) ⊎ (r ≡ Err NoMemory)
only_script octets (Ok t) h s k = inl (ap Ok (spells_once octets t s h k))
only_script octets (Err (Line n)) h s k = absurd (exclusive octets s n k h)
only_script octets (Err NoMemory) h s k = inr refl

pub line_fails : (octets : List ℕ) (r : Result Script ScriptFault) → MatchResult r (SpellsScript octets) (IsFault octets) → (n : ℕ) → r ≡ Err (Line n) → FailsAt octets n
line_fails octets (Ok t) h n e = cc
line_fails octets (Err (Line m)) h n e = let same : m ≡ n = cc in subst (λ (k : ℕ). FailsAt octets k) same h
line_fails octets (Err NoMemory) h n e = cc

pub first_fault : (octets : List ℕ) (r : Result Script ScriptFault) → MatchResult r (SpellsScript octets) (IsFault octets) → (n : ℕ) → FailsAt octets n → (r ≡ Err (Line n)) ⊎ (r ≡ Err NoMemory)
first_fault octets (Ok t) h n k = absurd (exclusive octets t n h k)
first_fault octets (Err (Line m)) h n k = inl (ap (λ (l : ℕ). Err (Line l)) (fails_once octets m n h k))
first_fault octets (Err NoMemory) h n k = inr refl
