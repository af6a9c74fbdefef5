-- The tests of a `select` as far as they are read.
use Rattle.std.proofs.Common.{◌≡◌, ◌≢◌, ℕ, ◌+◌, ◌<◌, ◌≤◌, List, [], ◌∷◌, ◌++◌, length, get_or, drop, map, refl, sym, ap, ◌∙◌, subst, arith, All, append_assoc, append-nil, length-append}
use Rattle.std.proofs.lemmas.List.{at_drop_all, at_drop_more}
use Rattle.std.proofs.lemmas.List.Elements.{All-push, All-tail, All-head}
use Rattle.call_types.specs.declared.call.SelectItem.{SelectItem}
use Rattle.script_words.specs.declared.version.Version.{Version}
use Rattle.script_words.specs.Calls.{AreItems, items_of, variables_of}
use Rattle.script_words.specs.Values.{item_word}
use Rattle.script_words.specs.Writing.{onto}

-- a test of a variable
abbrev pub HasVar : Version → SelectItem → Type 0
HasVar version item = item.var < variables_of version

-- some words are these tests, and some are still to be read
pub record AreRead (version : Version) (all : List (List ℕ)) (items : List SelectItem) (rest : List (List ℕ)) : Type 0 where
  pub split : all ≡ map item_word items ++ rest
  pub few : length items ≤ items_of version
  pub vars : All (HasVar version) items

pub none_read : (version : Version) (all : List (List ℕ)) → AreRead version all [] all
none_read version all = record { split = refl; few = omega arith; vars = λ k d h. absurd (omega arith) }

map_more : (items : List SelectItem) (item : SelectItem) → map item_word (items ++ item ∷ []) ≡ map item_word items ++ item_word item ∷ []
map_more [] item = refl
map_more (x ∷ xs) item = ap (λ (t : List (List ℕ)). item_word x ∷ t) (map_more xs item)

pub one_read : (version : Version) (all rest behind : List (List ℕ)) (items : List SelectItem) (item : SelectItem) → AreRead version all items rest → rest ≡ item_word item ∷ behind → HasVar version item → length items < items_of version → AreRead version all (items ++ item ∷ []) behind
one_read version all rest behind items item r e h few =
    record {
      split = r.split ∙ ap (λ (t : List (List ℕ)). map item_word items ++ t) e ∙ sym (append_assoc (map item_word items) (item_word item ∷ []) behind) ∙ ap (λ (t : List (List ℕ)). t ++ behind) (sym (map_more items item));
      few = omega (arith, length-append items (item ∷ []));
      vars = All-push (HasVar version) items item r.vars h;
    }

-- tests whose first words are some tests' have other tests behind them
pub record Later (version : Version) (items whole : List SelectItem) (rest : List (List ℕ)) : Type 0 where
  pub later : List SelectItem
  pub spelled : rest ≡ map item_word later
  pub vars : All (HasVar version) later
  pub counted : length whole ≡ length items + length later

pub later_items : (version : Version) (items whole : List SelectItem) (rest : List (List ℕ)) → All (HasVar version) whole → map item_word items ++ rest ≡ map item_word whole → Later version items whole rest
later_items version [] whole rest h e = record { later = whole; spelled = e; vars = h; counted = omega arith }
later_items version (x ∷ xs) [] rest h e = absurd (cc)
later_items version (x ∷ xs) (y ∷ ys) rest h e =
    let tails : map item_word xs ++ rest ≡ map item_word ys = cc in
    let l = later_items version xs ys rest (All-tail (HasVar version) y ys h) tails in
    let n = l.counted in
    record { later = l.later; spelled = l.spelled; vars = l.vars; counted = omega arith }

no_first : (version : Version) (word : List ℕ) (behind : List (List ℕ)) (later : List SelectItem) → ((item : SelectItem) → HasVar version item → word ≢ item_word item) → All (HasVar version) later → word ∷ behind ≡ map item_word later → ⊥
no_first version word behind [] never h e = absurd (cc)
no_first version word behind (x ∷ xs) never h e = never x (All-head (HasVar version) x xs h) (cc)

-- a word that is no test stands among the tests of no select
pub stops : (version : Version) (all rest behind : List (List ℕ)) (word : List ℕ) (items : List SelectItem) → AreRead version all items rest → rest ≡ word ∷ behind → ((item : SelectItem) → HasVar version item → word ≢ item_word item) → (whole : List SelectItem) → AreItems version whole → all ≢ map item_word whole
stops version all rest behind word items r e never whole h is =
    let l = later_items version items whole rest h.1 (sym r.split ∙ is) in
    no_first version word behind l.later never l.vars (sym e ∙ l.spelled)

some_later : (word : List ℕ) (behind : List (List ℕ)) (later : List SelectItem) → word ∷ behind ≡ map item_word later → 0 < length later
some_later word behind [] e = absurd (cc)
some_later word behind (x ∷ xs) e = omega arith

-- there are no more tests than a select has at most
pub too_many : (version : Version) (all rest behind : List (List ℕ)) (word : List ℕ) (items : List SelectItem) → AreRead version all items rest → rest ≡ word ∷ behind → length items ≡ items_of version → (whole : List SelectItem) → AreItems version whole → all ≢ map item_word whole
too_many version all rest behind word items r e full whole h is =
    let l = later_items version items whole rest h.1 (sym r.split ∙ is) in
    let some = some_later word behind l.later (sym e ∙ l.spelled) in
    let n = l.counted in
    let most = h.0.1 in
    absurd (omega arith)

no_words : (later : List SelectItem) → map item_word later ≡ [] → length later ≡ 0
no_words [] e = refl
no_words (x ∷ xs) e = absurd (cc)

-- a select has a test
pub none_at_all : (version : Version) (all rest : List (List ℕ)) (items : List SelectItem) → AreRead version all items rest → rest ≡ [] → length items ≡ 0 → (whole : List SelectItem) → AreItems version whole → all ≢ map item_word whole
none_at_all version all rest items r e none whole h is =
    let l = later_items version items whole rest h.1 (sym r.split ∙ is) in
    let nothing : map item_word l.later ≡ [] = sym l.spelled ∙ e in
    let n = l.counted in
    let least = h.0.0 in
    let zero = no_words l.later nothing in
    absurd (omega arith)

-- the words are read to their end
pub all_read : (version : Version) (all rest : List (List ℕ)) (items : List SelectItem) → AreRead version all items rest → rest ≡ [] → 0 < length items → AreItems version items × (all ≡ map item_word items)
all_read version all rest items r e some =
    (((omega arith, r.few), r.vars), r.split ∙ ap (λ (t : List (List ℕ)). map item_word items ++ t) e ∙ append-nil (map item_word items))

-- one item more is written
pub onto_more : (text : List ℕ) (items : List SelectItem) (i : ℕ) (d : SelectItem) → i < length items → onto text (map item_word (drop i items)) ≡ onto (text ++ 32 ∷ item_word (get_or items i d)) (map item_word (drop (i + 1) items))
onto_more text items i d h = at_drop_more (λ (xs : List SelectItem). onto text (map item_word xs)) items i d h

-- all items are written
pub onto_all : (text : List ℕ) (items : List SelectItem) (i : ℕ) → length items ≤ i → onto text (map item_word (drop i items)) ≡ text
onto_all text items i h = at_drop_all (λ (xs : List SelectItem). onto text (map item_word xs)) items i h
