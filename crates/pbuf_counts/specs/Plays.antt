-- What each step on a count tells.
use Rattle.std.specs.Prelude.{◌≡◌, ◌≢◌, ℕ, ◌+◌, ◌-◌, ◌<◌, ◌≤◌, ◌==◌, cond, ◌∷◌}
use Rattle.atomic_table.specs.Table.{Me, Step}
use Rattle.pbuf_counts.specs.declared.rule.View.{View}
use Rattle.pbuf_counts.specs.Owners.{whole, first_adds, most_owners, owns, times, living, IsCount}

-- the holder after a step that found the count n of the pbuf k
abbrev pub finding : ℕ → ℕ → View → View
finding k n v = record v { found = (k, n) ∷ v.found }

-- the holder of one owner less. With its last owner go its place and the adds that it had left
abbrev pub fewer : View → View
fewer v = cond (v.owners == 1) (record v { place = 0; owners = 0; adds = 0 }) (record v { owners = v.owners - 1 })

-- the holder after its pbuf's life has ended
abbrev pub ending : View → View
ending v = record (fewer v) { ended = v.place ∷ v.ended }

module _ {S : Type 0} where
  -- at 0 the pbuf is claimed; else the right to claim has claimed it before
  abbrev pub tried : Step S → Me S View → ℕ → Me S View → Type 0
  tried st m n m' = (n ≤ most_owners) × IsCount st.word m.0 n × (n ≡ 0 → m' ≡ (record m.0 { place = st.word; owners = 1; adds = first_adds; got = st.word ∷ m.0.got }, m.1))
      × (n ≢ 0 → (0 < times st.word m.0.got) × (m' ≡ (finding st.word n m.0, m.1)))

  abbrev pub added : Step S → Me S View → ℕ → Me S View → Type 0
  added st m n m' = m' ≡ (record m.0 { owners = 2; adds = m.0.adds - 1 }, m.1)

  -- at 1 it was the pbuf's last owner, and its life has ended
  abbrev pub left : Step S → Me S View → ℕ → Me S View → Type 0
  left st m n m' = (0 < n) × (n ≤ most_owners) × IsCount m.0.place m.0 n × (n ≡ 1 → m.0.owners ≡ 1)
      × (m' ≡ (finding m.0.place n (cond (n == 1) (ending m.0) (fewer m.0)), m.1))

  -- a holder of the whole weight is the only one with owners, claims or Lasts
  abbrev pub looked : Step S → Me S View → ℕ → Me S View → Type 0
  looked st m n m' = (n ≤ most_owners) × IsCount st.word m.0 n
      × (m.0.weight ≡ whole → (n ≡ owns st.word m.0) × (times st.word m.0.got ≡ times st.word m.0.ended + living n))
      × (m' ≡ (finding st.word n m.0, m.1))
