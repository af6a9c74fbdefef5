-- Words that are the form `serial`.
use Rattle.std.proofs.Common.{ℕ, ◌≡◌, ◌≤◌, ◌<◌, ◌∙◌, Bool, true, false, not, List, [], ◌∷◌, length, map, nat_eq, slice_index_or, string_bytes, codes, ap, sym, refl, arith}
use Rattle.std.specs.Cmp.Lexicographic.{pointwise, same_text}
use Rattle.std.specs.declared.string.String.{String}
use Rattle.std.specs.declared.alloc.Global.{Global}
use Rattle.lwip_run.specs.Answers.{serial_words}

-- a list of three, by its places
pub three : {A : Type 0} (ws : List A) (a b c : A) → 3 ≤ length ws → length ws < 4 → a ≡ slice_index_or ws 0 a → b ≡ slice_index_or ws 1 b → c ≡ slice_index_or ws 2 c → ws ≡ a ∷ b ∷ c ∷ []
three [] a b c least below first second third = absurd (omega arith)
three (x ∷ []) a b c least below first second third = absurd (omega arith)
three (x ∷ y ∷ []) a b c least below first second third = absurd (omega arith)
three (x ∷ y ∷ z ∷ []) a b c least below first second third = cc
three (x ∷ y ∷ z ∷ w ∷ ws) a b c least below first second third = absurd (omega arith)

-- a test that failed to tell them apart
not_false : (b : Bool) → false ≡ not b → true ≡ b
not_false true h = refl
not_false false h = cc

-- three words, the first of them `serial`
pub form_words : (words : List (String Global)) (a b c : String Global) (first script capture : List ℕ) → words ≡ a ∷ b ∷ c ∷ [] → first ≡ string_bytes a → script ≡ string_bytes b → capture ≡ string_bytes c → false ≡ not (pointwise nat_eq first (codes "serial")) → map (string_bytes {Z = Global}) words ≡ serial_words script capture
form_words words a b c first script capture is is_first is_script is_capture same =
    let serial : first ≡ codes "serial" = same_text first (codes "serial") (not_false (pointwise nat_eq first (codes "serial")) same) in
    ap (map (string_bytes {Z = Global})) is
    ∙ ap (λ (w : List ℕ). w ∷ string_bytes b ∷ string_bytes c ∷ []) (sym is_first ∙ serial)
    ∙ ap (λ (w : List ℕ). codes "serial" ∷ w ∷ string_bytes c ∷ []) (sym is_script)
    ∙ ap (λ (w : List ℕ). codes "serial" ∷ script ∷ w ∷ []) (sym is_capture)
