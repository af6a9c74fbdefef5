-- A call's name and the words behind it, a space before each, are its text.
use Rattle.std.proofs.Common.{◌≡◌, ℕ, List, [], ◌∷◌, ◌++◌, refl, sym, ap, ◌∙◌, append_assoc}
use Rattle.call_types.specs.declared.call.Call.{Call}
use Rattle.call_types.specs.declared.call.Call.TheVariants.{Stop}
use Rattle.script_words.specs.Spelling.{call_spelling, call_words}
use Rattle.script_words.specs.Words.{spaced}
use Rattle.script_words.specs.Writing.{arguments_of, name_of, onto}

regroup : (text name word : List ℕ) → (text ++ name) ++ 32 ∷ word ≡ ((text ++ name) ++ 32 ∷ []) ++ word
regroup text name word = simp append_assoc

gathered : (text name rest : List ℕ) → ((text ++ name) ++ 32 ∷ []) ++ rest ≡ text ++ (name ++ 32 ∷ rest)
gathered text name rest = simp append_assoc

pub onto_spaced : (text name : List ℕ) (words : List (List ℕ)) → onto (text ++ name) words ≡ text ++ spaced (name ∷ words)
onto_spaced text name [] = refl
onto_spaced text name (word ∷ words) =
    ap (λ (t : List ℕ). onto t words) (regroup text name word)
    ∙ onto_spaced ((text ++ name) ++ 32 ∷ []) word words
    ∙ gathered text name (spaced (word ∷ words))

call_named : (call : Call) → name_of call ∷ arguments_of call ≡ call_words call
call_named Stop = refl
call_named other = refl

pub whole_call : (text : List ℕ) (call : Call) → onto (text ++ name_of call) (arguments_of call) ≡ text ++ call_spelling call
whole_call text call = onto_spaced text (name_of call) (arguments_of call) ∙ ap (λ (ws : List (List ℕ)). text ++ spaced ws) (call_named call)
