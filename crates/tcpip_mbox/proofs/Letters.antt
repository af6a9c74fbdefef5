-- Letters, and the messages of one Put among them.
use Rattle.std.proofs.Common.{◌≡◌, ◌≢◌, ℕ, zero, suc, ◌+◌, ◌≤◌, eqb, ltb, cond, All, Bool, true, false, List, [], ◌∷◌, ◌++◌, length, sym, refl, ap, ◌∙◌, subst, arith, append_assoc, append-nil, length-append, ne_eqb, eq-eqb, le-ltb}
use Rattle.std.proofs.lemmas.Bool.Decides.{nat_tests}
use Rattle.std.proofs.lemmas.List.Elements.{All-nil, All-cons, All-head, All-tail}
use mathlib.Core.List.{IsPrefix}
use Rattle.tcpip_mbox.specs.declared.view.Letter.{Letter}
use Rattle.tcpip_mbox.specs.declared.view.Returned.{Returned}
use Rattle.tcpip_mbox.specs.Letters.{sent_by, Fitting, returns, AllOf}

module _ {E : Type 0} where
  pub prefix_same : (xs ys : List E) → xs ≡ ys → IsPrefix xs ys
  prefix_same xs ys e = ([], append-nil xs ∙ e)

  pub prefix_more : (xs ys zs : List E) → IsPrefix xs ys → IsPrefix xs (ys ++ zs)
  prefix_more xs ys zs p = (p.0 ++ zs, sym (append_assoc xs p.0 zs) ∙ ap (λ (l : List E). l ++ zs) p.1)

  pub prefix_trans : (xs ys zs : List E) → IsPrefix xs ys → IsPrefix ys zs → IsPrefix xs zs
  prefix_trans xs ys zs p q = (p.0 ++ q.0, sym (append_assoc xs p.0 q.0) ∙ (ap (λ (l : List E). l ++ q.0) p.1 ∙ q.1))

  pub prefix_length : (xs ys : List E) → IsPrefix xs ys → length xs ≤ length ys
  prefix_length xs ys p = let e = ap length p.1 in omega (arith, length-append xs p.0)

  pub cond-append : (b : Bool) (m : E) (l r : List E) → cond b (m ∷ l) l ++ r ≡ cond b (m ∷ (l ++ r)) (l ++ r)
  cond-append true m l r = refl
  cond-append false m l r = refl

  pub cond-length : (b : Bool) (m : E) (l : List E) → length (cond b (m ∷ l) l) ≡ cond b 1 0 + length l
  cond-length true m l = omega arith
  cond-length false m l = omega arith

  pub All-append : (P : E → Type 0) (xs ys : List E) → All P xs → All P ys → All P (xs ++ ys)
  All-append P [] ys a b = b
  All-append P (x ∷ xs) ys a b = All-cons P x (xs ++ ys) (All-head P x xs a) (All-append P xs ys (All-tail P x xs a) b)

  pub All-front : (P : E → Type 0) (xs ys : List E) → All P (xs ++ ys) → All P xs
  All-front P [] ys a = All-nil P
  All-front P (x ∷ xs) ys a = All-cons P x xs (All-head P x (xs ++ ys) a) (All-front P xs ys (All-tail P x (xs ++ ys) a))

  pub All-back : (P : E → Type 0) (xs ys : List E) → All P (xs ++ ys) → All P ys
  All-back P [] ys a = a
  All-back P (x ∷ xs) ys a = All-back P xs ys (All-tail P x (xs ++ ys) a)

  pub no-elements : (xs : List E) → length xs ≡ 0 → xs ≡ []
  no-elements [] h = refl
  no-elements (x ∷ xs) h = absurd (omega arith)

upto-first : (f : ℕ) → ◌≡◌ {A = ℕ} (cond (ltb 0 f) 0 1) (cond (eqb f 0) 1 0)
upto-first f = grind (arith, nat_tests)

upto-next : (n f : ℕ) → ◌≡◌ {A = ℕ} (cond (ltb (suc n) f) 0 1) (cond (ltb n f) 0 1 + cond (eqb f (suc n)) 1 0)
upto-next n f = grind (arith, nat_tests)

module _ {M : Type 0} where
  pub sent_by-append : (n : ℕ) (xs ys : List (Letter M)) → sent_by n (xs ++ ys) ≡ sent_by n xs ++ sent_by n ys
  sent_by-append n [] ys = refl
  sent_by-append n (x ∷ xs) ys = ap (λ (l : List M). cond (eqb x.from n) (x.message ∷ l) l) (sent_by-append n xs ys) ∙ sym (cond-append (eqb x.from n) x.message (sent_by n xs) (sent_by n ys))

  pub sent_by-same : (n : ℕ) (xs : List (Letter M)) (x : Letter M) → x.from ≡ n → sent_by n (xs ++ x ∷ []) ≡ sent_by n xs ++ x.message ∷ []
  sent_by-same n xs x is = sent_by-append n xs (x ∷ []) ∙ ap (λ (b : Bool). sent_by n xs ++ cond b (x.message ∷ []) []) (eq-eqb x.from n is)

  pub sent_by-else : (n : ℕ) (xs : List (Letter M)) (x : Letter M) → x.from ≢ n → sent_by n (xs ++ x ∷ []) ≡ sent_by n xs
  sent_by-else n xs x other = sent_by-append n xs (x ∷ []) ∙ (ap (λ (b : Bool). sent_by n xs ++ cond b (x.message ∷ []) []) (ne_eqb x.from n other) ∙ append-nil (sent_by n xs))

  pub sent_by-none : (n : ℕ) (xs : List (Letter M)) → All (λ (x : Letter M). x.from ≢ n) xs → sent_by n xs ≡ []
  sent_by-none n [] h = refl
  sent_by-none n (x ∷ xs) h = let P : Letter M → Type 0 = λ (x : Letter M). x.from ≢ n in
      ap (λ (b : Bool). cond b (x.message ∷ sent_by n xs) (sent_by n xs)) (ne_eqb x.from n (All-head P x xs h)) ∙ sent_by-none n xs (All-tail P x xs h)

  pub sent_by-prefix : (n : ℕ) (xs ys : List (Letter M)) → IsPrefix xs ys → IsPrefix (sent_by n xs) (sent_by n ys)
  sent_by-prefix n xs ys p = (sent_by n p.0, sym (sent_by-append n xs p.0) ∙ ap (λ (l : List (Letter M)). sent_by n l) p.1)

  pub Fitting-push : (fits : ℕ → List M → M → Type 0) (before xs : List (Letter M)) (x : Letter M) → Fitting fits before xs → fits x.from (sent_by x.from (before ++ xs)) x.message → Fitting fits before (xs ++ x ∷ [])
  Fitting-push fits before [] x h f = (subst (λ (l : List (Letter M)). fits x.from (sent_by x.from l) x.message) (append-nil before) f, tt)
  Fitting-push fits before (y ∷ ys) x h f = (h.0, Fitting-push fits (before ++ y ∷ []) ys x h.1 (subst (λ (l : List (Letter M)). fits x.from (sent_by x.from l) x.message) (sym (append_assoc before (y ∷ []) ys)) f))

  -- how many letters are of Puts up to n
  abbrev pub upto : ℕ → List (Letter M) → ℕ
  upto n [] = 0
  upto n (x ∷ xs) = cond (ltb n x.from) 0 1 + upto n xs

  pub upto-all : (n : ℕ) (xs : List (Letter M)) → All (λ (x : Letter M). x.from ≤ n) xs → upto n xs ≡ length xs
  upto-all n [] h = refl
  upto-all n (x ∷ xs) h = let P : Letter M → Type 0 = λ (x : Letter M). x.from ≤ n in
      let one : ◌≡◌ {A = ℕ} (cond (ltb n x.from) 0 1) 1 = ap (λ (b : Bool). let k : ℕ = cond b 0 1 in k) (le-ltb n x.from (All-head P x xs h)) in
      let rest = upto-all n xs (All-tail P x xs h) in omega arith

  pub upto-zero : (xs : List (Letter M)) → upto 0 xs ≡ length (sent_by 0 xs)
  upto-zero [] = refl
  upto-zero (x ∷ xs) = omega (arith, upto-first x.from, upto-zero xs, cond-length (eqb x.from 0) x.message (sent_by 0 xs))

  pub upto-suc : (n : ℕ) (xs : List (Letter M)) → upto (suc n) xs ≡ upto n xs + length (sent_by (suc n) xs)
  upto-suc n [] = refl
  upto-suc n (x ∷ xs) = omega (arith, upto-next n x.from, upto-suc n xs, cond-length (eqb x.from (suc n)) x.message (sent_by (suc n) xs))

  few : (n : ℕ) (xs : List (Letter M)) → ((k : ℕ) → k ≢ 0 → length (sent_by k xs) ≤ 1) → upto n xs ≤ length (sent_by 0 xs) + n
  few zero xs one = omega (arith, upto-zero xs)
  few (suc n) xs one = omega (arith, upto-suc n xs, few n xs one, one (suc n) (λ e. omega arith))

  -- where one message at most lies of each Put but the first, those that lie are at most the first's and one of each other
  pub few_lie : (n : ℕ) (xs : List (Letter M)) → All (λ (x : Letter M). x.from ≤ n) xs → ((k : ℕ) → k ≢ 0 → length (sent_by k xs) ≤ 1) → length xs ≤ length (sent_by 0 xs) + n
  few_lie n xs all one = omega (arith, upto-all n xs all, few n xs one)

  -- where nothing lies in the queue, all was given
  pub none_left : (given items : List (Letter M)) (bs : List (Returned M)) → length items ≡ 0 → AllOf (given ++ items) bs → AllOf given bs
  none_left given [] bs h a = subst (λ (l : List (Letter M)). AllOf l bs) (append-nil given) a
  none_left given (x ∷ xs) bs h a = absurd (omega arith)

  pub returns-append : (n : ℕ) (bs cs : List (Returned M)) → returns n (bs ++ cs) ≡ returns n bs + returns n cs
  returns-append n [] cs = omega arith
  returns-append n (b ∷ bs) cs = let rest = returns-append n bs cs in omega arith

  -- where no Put of this number was taken back, each that was has another
  pub none_back : (n : ℕ) (bs : List (Returned M)) → returns n bs ≡ 0 → All (λ (b : Returned M). b.number ≢ n) bs
  none_back n [] h = All-nil (λ (b : Returned M). b.number ≢ n)
  none_back n (b ∷ bs) h = All-cons (λ (b : Returned M). b.number ≢ n) b bs (λ is. let one : ◌≡◌ {A = ℕ} (cond (eqb b.number n) 1 0) 1 = ap (λ (c : Bool). let k : ℕ = cond c 1 0 in k) (eq-eqb b.number n is) in absurd (omega arith)) (none_back n bs (omega arith))

  -- a letter of another Put joins
  pub AllOf-else : (letters : List (Letter M)) (x : Letter M) (bs : List (Returned M)) → All (λ (b : Returned M). b.number ≢ x.from) bs → AllOf letters bs → AllOf (letters ++ x ∷ []) bs
  AllOf-else letters x [] other h = All-nil (λ (b : Returned M). sent_by b.number (letters ++ x ∷ []) ≡ b.sent)
  AllOf-else letters x (b ∷ bs) other h = let N : Returned M → Type 0 = λ (b : Returned M). b.number ≢ x.from in let P : Returned M → Type 0 = λ (b : Returned M). sent_by b.number letters ≡ b.sent in
      All-cons (λ (b : Returned M). sent_by b.number (letters ++ x ∷ []) ≡ b.sent) b bs (sent_by-else b.number letters x (λ is. All-head N b bs other (sym is)) ∙ All-head P b bs h) (AllOf-else letters x bs (All-tail N b bs other) (All-tail P b bs h))
