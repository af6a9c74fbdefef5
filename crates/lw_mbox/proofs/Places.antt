-- For callers: a place that was found is still found when it is the next ticket's.
use Rattle.std.proofs.Common.{◌≡◌, ℕ, ◌+◌, List, [], ◌∷◌, ◌++◌, Contains, Ok, sym, ap, subst}
use Rattle.std.proofs.lemmas.List.Elements.{Contains-push, Contains-append_left}
use Rattle.lw_mbox.specs.Changes.{posted}
use Rattle.lw_mbox.specs.Tokens.{Desk, Offers}

pub place_found : {T K : Type 0} (cap n : ℕ) (d e f : Desk T K) (u : Unit {0}) (ms : List ℕ) → Offers cap d n (Ok u) e → f.marks ≡ e.marks ++ ms → posted f.changes ≡ posted d.changes + n → Contains f.marks (posted f.changes)
place_found {T} {K} cap n d e f u ms o kept more = subst (λ (l : List ℕ). Contains l (posted f.changes)) (sym kept) (Contains-append_left e.marks ms (posted f.changes)
    (subst (λ (l : List ℕ). Contains l (posted f.changes)) (sym (ap (λ (z : Desk T K). z.marks) o.1)) (subst (Contains (d.marks ++ (posted d.changes + n) ∷ [])) (sym more) (Contains-push d.marks (posted d.changes + n)))))
