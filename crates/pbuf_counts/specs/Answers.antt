-- The words of clauses on what the calls of counts answer.
use Rattle.std.specs.Prelude.{ℕ, ◌+◌, ◌∷◌}
use Rattle.pbuf_counts.specs.declared.answers.Claim.{Claim}
use Rattle.pbuf_counts.specs.declared.answers.Claim.TheVariants.{Got, InUse}
use Rattle.pbuf_counts.specs.declared.answers.Dropped.{Dropped}
use Rattle.pbuf_counts.specs.declared.answers.Dropped.TheVariants.{Left, Last}
use Rattle.pbuf_counts.specs.Plays.{fewer}
use Rattle.pbuf_counts.specs.Holders.{Known, known, view_of}

-- P of the new holder, where the pbuf was claimed
abbrev pub IfGot : Claim → (Known → Type 0) → Type 0
IfGot (Got h) P = P h
IfGot (InUse n) P = Unit {0}

-- P of the count that was found, where the pbuf was in use
abbrev pub IfInUse : Claim → (ℕ → Type 0) → Type 0
IfInUse (Got h) P = Unit {0}
IfInUse (InUse n) P = P n

-- the count that the claim found
abbrev pub count_at : Claim → ℕ
count_at (Got h) = 0
count_at (InUse n) = n

-- P of the number of owners left, where some are
abbrev pub IfLeft : Dropped → (ℕ → Type 0) → Type 0
IfLeft (Left n) P = P n
IfLeft Last P = Unit {0}

-- the count that the drop found: one owner more than it left
abbrev pub count_before : Dropped → ℕ
count_before (Left n) = n + 1
count_before Last = 1

-- The holder of one owner less. With its last owner go its place and the adds that it had left
abbrev pub less : Known → Known
less h = known h.table (fewer (view_of h))

-- how a drop leaves the holder: with one owner less, and at Last with the pbuf among those whose life it ended
abbrev pub after_drop : Dropped → Known → Known
after_drop (Left n) h = less h
after_drop Last h = record (less h) { ended = h.place ∷ h.ended }
