-- The lines of a history, one more behind those before.
use Rattle.std.proofs.Common.{ℕ, ◌≡◌, ◌+◌, ◌++◌, ◌∙◌, List, [], ◌∷◌, length, map, sym, ap, arith}
use Rattle.std.proofs.lemmas.List.{length-map, map-append}
use Rattle.lw_events.specs.declared.entry.Entry.{Entry}
use Rattle.lw_transcript.specs.declared.lines.CoreLine.{CoreLine}
use Rattle.lw_rules.specs.Lines.{core_lines_from}

abbrev line_of : ℕ → Entry → CoreLine
line_of n e = record { number = n; entry = e }

-- one entry more is one line more, with the next number
lines_more : (n : ℕ) (es : List Entry) (e : Entry) → core_lines_from n (es ++ e ∷ []) ≡ core_lines_from n es ++ line_of (n + length es) e ∷ []
lines_more n [] e = let same : n ≡ n + 0 = omega arith in ap (λ (k : ℕ). line_of k e ∷ []) same
lines_more n (x ∷ es) e =
    let same : n + 1 + length es ≡ n + length (x ∷ es) = omega arith in
    ap (λ (lines : List CoreLine). line_of n x ∷ lines)
    (lines_more (n + 1) es e ∙ ap (λ (k : ℕ). core_lines_from (n + 1) es ++ line_of k e ∷ []) same)

-- numbered lines with the next one behind them are numbered
pub numbered_more : (lines after : List CoreLine) (n : ℕ) (e : Entry) → lines ≡ core_lines_from 1 (map (λ line. line.entry) lines) → n ≡ length lines + 1 → after ≡ lines ++ line_of n e ∷ []
    → after ≡ core_lines_from 1 (map (λ line. line.entry) after)
numbered_more lines after n e numbered next is =
    let entry : CoreLine → Entry = λ (line : CoreLine). line.entry in
    let es : List Entry = map entry lines in
    let many = length-map lines entry in
    let same : n ≡ 1 + length es = omega (arith, many) in
    is
    ∙ ap (λ (ls : List CoreLine). ls ++ line_of n e ∷ []) numbered
    ∙ ap (λ (k : ℕ). core_lines_from 1 es ++ line_of k e ∷ []) same
    ∙ sym (lines_more 1 es e)
    ∙ ap (core_lines_from 1) (sym (map-append entry lines (line_of n e ∷ [])))
    ∙ ap (λ (ls : List CoreLine). core_lines_from 1 (map entry ls)) (sym is)
