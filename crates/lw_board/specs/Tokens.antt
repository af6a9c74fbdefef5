-- A board, its writer and its lookers, as contracts see them.
use Rattle.std.specs.Prelude.{◌≡◌, ℕ, List, Bool, Option, Some, refl}
use Rattle.std.specs.Coded.{Coded, code_by, coded×, coded_ℕ, coded_bool, coded_list}
use base.Stored.{Gv, gnil, gnum, gcons, code_l, inj_l, num}
use Rattle.std.proofs.Common.{ap}
use Rattle.atomic_table.specs.Seated.{TableId}
use Rattle.lw_board.specs.Places.{Store, a_store, Trail, start, load, note, both}

-- which board: what no other board shares with it, how many words it has, and what it was told of their values
pub record Named (F : Type 0) : Type 0 where
  pub id : TableId
  pub words : ℕ
  pub about : F

-- the board that a token is of
pub record Origin (F : Type 0) : Type 0 where
  pub id : TableId
  pub about : Option F

-- what a token keeps of its board
abbrev pub origin : {F : Type 0} → Named F → Origin F
origin b = record { id = b.id; about = Some b.about }

-- the writer: its board, its stores, oldest first, and the trails that it took back
pub record Written (F : Type 0) : Type 0 where
  pub board : Origin F
  pub stores : List Store
  pub back : List Trail

-- a looker: its board, and all that it has seen
pub record Seen (F : Type 0) : Type 0 where
  pub board : Origin F
  pub trail : Trail

-- what a token's view keeps: how many words the table has, whether it is the writer's, and what it stored, took back and saw
pub record History : Type 0 where
  pub words : ℕ
  pub leads : Bool
  pub stores : List Store
  pub back : List Trail
  pub trail : Trail

abbrev pub store_coded : Coded Store
store_coded = code_by (ℕ × ℕ) (coded× coded_ℕ coded_ℕ) (λ s. (s.word, s.value)) (λ p. a_store p.0 p.1) (λ _. refl)

-- a trail is stored as a tree, whose head tells the item
abbrev trail_code : Trail → Gv
trail_code start = gnil
trail_code (load t word value) = gcons (gnum word) (gcons (gnum value) (trail_code t))
trail_code (note t seen) = gcons gnil (gcons (code_l store_coded.code seen) (trail_code t))
trail_code (both t u) = gcons (gcons gnil (trail_code t)) (trail_code u)

abbrev head : Gv → Gv
head gnil = gnil
head (gnum n) = gnil
head (gcons a b) = a

abbrev tail : Gv → Gv
tail gnil = gnil
tail (gnum n) = gnil
tail (gcons a b) = b

pub trail_inj : (t u : Trail) → trail_code t ≡ trail_code u → t ≡ u
trail_inj start start p = refl
trail_inj (load t i v) (load u j w) p = λ k. load (trail_inj t u (ap (λ g. tail (tail g)) p) k) (ap (λ g. num (head g)) p k) (ap (λ g. num (head (tail g))) p k)
trail_inj (note t a) (note u b) p = λ k. note (trail_inj t u (ap (λ g. tail (tail g)) p) k) (inj_l store_coded a b (ap (λ g. head (tail g)) p) k)
trail_inj (both t a) (both u b) p = λ k. both (trail_inj t u (ap (λ g. tail (head g)) p) k) (trail_inj a b (ap tail p) k)
trail_inj start (load u j w) p = cc
trail_inj start (note u b) p = cc
trail_inj start (both u b) p = cc
trail_inj (load t i v) start p = cc
trail_inj (load t i v) (note u b) p = cc
trail_inj (load t i v) (both u b) p = cc
trail_inj (note t a) start p = cc
trail_inj (note t a) (load u j w) p = cc
trail_inj (note t a) (both u b) p = cc
trail_inj (both t a) start p = cc
trail_inj (both t a) (load u j w) p = cc
trail_inj (both t a) (note u b) p = cc

abbrev pub trail_coded : Coded Trail
trail_coded = record { code = trail_code; inj = trail_inj }

abbrev pub history_coded : Coded History
history_coded = code_by (ℕ × (Bool × (List Store × (List Trail × Trail)))) (coded× coded_ℕ (coded× coded_bool (coded× (coded_list store_coded) (coded× (coded_list trail_coded) trail_coded))))
    (λ h. (h.words, (h.leads, (h.stores, (h.back, h.trail))))) (λ p. record { words = p.0; leads = p.1.0; stores = p.1.1.0; back = p.1.1.1.0; trail = p.1.1.1.1 }) (λ _. refl)
