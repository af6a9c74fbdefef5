-- The rule of the mailbox's queue: what holds between any two steps.
use Rattle.std.specs.Prelude.{◌≡◌, ◌≢◌, ◌⊎◌, ℕ, ◌+◌, ◌≤◌, ◌==◌, ltb, cond, All, sum_by, true, List, [], ◌∷◌, ◌++◌, length, Some}
use mathlib.Core.Option.{some}
use mathlib.Core.List.{IsPrefix}
use lib.ListN.{get_elem?}
use Rattle.tcpip_mbox.specs.declared.view.Letter.{Letter}
use Rattle.tcpip_mbox.specs.declared.view.View.{View}
use Rattle.tcpip_mbox.specs.Letters.{sent_by, Fitting, returns, AllOf}
use Rattle.tcpip_mbox.specs.Views.{firstborn}

-- 1 for a number that is at most the other
abbrev pub up_to : ℕ → ℕ → ℕ
up_to most n = cond (ltb most n) 0 1

module _ {M K : Type 0} where
  -- 1 for the pass that takes messages out
  abbrev pub getters_in : View M K → ℕ
  getters_in v = cond v.gets 1 0

  -- 1 for the pass of the Put n, or for the one that took it back
  abbrev pub putters_in : ℕ → View M K → ℕ
  putters_in n v = cond v.puts (cond (v.number == n) 1 0) 0 + returns n v.back

  -- what a Put knows
  pub record Sends (given items : List (Letter M)) (others : ℕ) (v : View M K) : Type 0 where
    pub all : sent_by v.number (given ++ items) ≡ v.sent
    pub below : v.number ≤ others
    pub first : v.number ≡ 0 → v.others ≡ others
    pub known : v.known ≤ length (sent_by v.number given)

  -- what a pass knows
  pub record Knows (key : K) (given items : List (Letter M)) (others : ℕ) (v : View M K) : Type 0 where
    pub put_key : v.puts ≡ true → v.key ≡ Some key
    pub get_key : v.gets ≡ true → v.key ≡ Some key
    pub sends : v.puts ≡ true → Sends given items others v
    pub gets : v.gets ≡ true → (v.given ≡ given) × (v.others ≡ others)
    pub hears : IsPrefix v.given given
    pub backs : AllOf (given ++ items) v.back

  -- There is one Get at most and one Put of each number up to `others`, which may have been taken back. Of each Put but the first at most one message lies in the queue
  pub record Kept (fits : K → ℕ → List M → M → Type 0) (items : List (Letter M)) (views : List (View M K)) : Type 0 where
    pub key : K
    pub given : List (Letter M)
    pub others : ℕ
    pub getters : sum_by getters_in views ≤ 1
    pub putters : (n : ℕ) → sum_by (putters_in n) views ≤ up_to others n
    pub numbers : All (λ (x : Letter M). x.from ≤ others) (given ++ items)
    pub single : (n : ℕ) → n ≢ 0 → length (sent_by n items) ≤ 1
    pub fit : Fitting (fits key) given items
    pub each : (i : ℕ) (v : View M K) → get_elem? views i ≡ some v → Knows key given items others v

  -- at first there is one pass, which has no key
  abbrev pub Ruled : (K → ℕ → List M → M → Type 0) → List (Letter M) → List (View M K) → Type 0
  Ruled fits items views = ((items ≡ []) × (views ≡ firstborn ∷ [])) ⊎ Kept fits items views
