-- The rule of the table of counts.
use Rattle.std.specs.Prelude.{◌≡◌, ℕ, length, slice_index}
use Rattle.atomic_table.specs.Table.{State}
use Rattle.pbuf_counts.specs.declared.rule.View.{View}
use Rattle.pbuf_counts.specs.Owners.{count_of, IsOwnerList}

-- At each moment there are n words, each is the count of its pbuf, and the views of all seats are an owner list
pub record Ruled {S : Type 0} (n : ℕ) (s : State S View) : Type 0 where
  pub wide : length s.words ≡ n
  pub count : (k : ℕ) → slice_index s.words k ≡ count_of k s.views
  pub list : IsOwnerList s.views
