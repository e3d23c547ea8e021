-- Rows with one entry for each column.
use Rattle.std.proofs.Common.{◌≡◌, ◌≢◌, ◌∙◌, cond, ℕ, zero, suc, ◌+◌, ◌<◌, List, [], ◌∷◌, ◌++◌, length, get_or, take, refl, ap, sym}
use Rattle.std.proofs.Common.{append_assoc}
use Rattle.std.proofs.Common.{arith}
use Rattle.std.proofs.lemmas.List.{take_more, map_more, append-nil}
use Rattle.std.proofs.lemmas.Bool.{eq-eqb, ne_eqb}
use Rattle.base_numbers.specs.Vector.{zeros}
use Rattle.base_numbers.specs.Rational.{ℚ, zero_ℚ, one_ℚ, neg_ℚ}
use Rattle.theory_transformers.specs.JointProblems.{ones, split_list}
use Rattle.solve_joint.specs.Rows.{on_number, on_numbers}

-- one zero more extends the zeros
pub zeros_more : (n : ℕ) → zeros (n + 1) ≡ zeros n ++ zero_ℚ ∷ []
zeros_more zero = refl
zeros_more (suc n) = let e : suc n + 1 ≡ suc (n + 1) = omega arith in ap zeros e ∙ ap (λ xs. zero_ℚ ∷ xs) (zeros_more n)

split-append : (xs ys : List ℚ) → split_list (xs ++ ys) ≡ split_list xs ++ split_list ys
unfolding split_list
split-append [] ys = refl
split-append (x ∷ xs) ys = ap (λ zs. x ∷ (neg_ℚ x ∷ zs)) (split-append xs ys)

split_pair : (x : ℚ) → split_list (x ∷ []) ≡ x ∷ (neg_ℚ x ∷ [])
unfolding split_list
split_pair x = refl

-- a coefficient and its negation extend the split list
pub split_more : (coeffs : List ℚ) (i : ℕ) (x y : ℚ) (first : List ℚ) → i < length coeffs → x ≡ get_or coeffs i x → y ≡ neg_ℚ x →
    ((first ++ split_list (take i coeffs)) ++ x ∷ []) ++ y ∷ [] ≡ first ++ split_list (take (i + 1) coeffs)
split_more coeffs i x y first l e f =
    append_assoc (first ++ split_list (take i coeffs)) (x ∷ []) (y ∷ [])
    ∙ append_assoc first (split_list (take i coeffs)) (x ∷ (y ∷ []))
    ∙ ap (λ zs. first ++ zs) (ap (λ z. split_list (take i coeffs) ++ x ∷ (z ∷ [])) f
    ∙ ap (λ zs. split_list (take i coeffs) ++ zs) (sym (split_pair x)) ∙ sym (split-append (take i coeffs) (x ∷ []))
    ∙ ap (λ z. split_list (take i coeffs ++ z ∷ [])) e ∙ ap split_list (sym (take_more coeffs i x l)))

-- one more listed unknown extends the rises
rises_more : (c : ℚ) (target : ℕ) (list : List ℕ) (i : ℕ) (x : ℚ) (first : List ℚ) → i < length list
    → on_number c target (get_or list i 0) ≡ x
    → (first ++ on_numbers c target (take i list)) ++ x ∷ [] ≡ first ++ on_numbers c target (take (i + 1) list)
rises_more c target list i x first l f =
    append_assoc first (on_numbers c target (take i list)) (x ∷ [])
    ∙ ap (λ xs. first ++ xs) (ap (λ y. on_numbers c target (take i list) ++ y ∷ []) (sym f)
    ∙ sym (map_more (on_number c target) list i 0 l))

-- the rise of the target, behind the zeros before it
pub rises_on : (c : ℚ) (target : ℕ) (list : List ℕ) (i n : ℕ) (row mid new first : List ℚ) → i < length list → get_or list i 0 ≡ target
    → row ++ zeros n ≡ first ++ on_numbers c target (take i list) → mid ≡ row ++ zeros n → new ≡ mid ++ c ∷ []
    → new ++ zeros 0 ≡ first ++ on_numbers c target (take (i + 1) list)
rises_on c target list i n row mid new first l q h f k =
    append-nil new ∙ k ∙ ap (λ xs. xs ++ c ∷ []) (f ∙ h)
    ∙ rises_more c target list i c first l (ap (λ b. cond b c zero_ℚ) (eq-eqb (get_or list i 0) target q))

-- one more unknown that is not the target
pub rises_off : (c : ℚ) (target : ℕ) (list : List ℕ) (i n : ℕ) (row first : List ℚ) → i < length list → get_or list i 0 ≢ target
    → row ++ zeros n ≡ first ++ on_numbers c target (take i list)
    → row ++ zeros (n + 1) ≡ first ++ on_numbers c target (take (i + 1) list)
rises_off c target list i n row first l d h =
    ap (λ xs. row ++ xs) (zeros_more n) ∙ sym (append_assoc row (zeros n) (zero_ℚ ∷ [])) ∙ ap (λ xs. xs ++ zero_ℚ ∷ []) h
    ∙ rises_more c target list i zero_ℚ first l (ap (λ b. cond b c zero_ℚ) (ne_eqb (get_or list i 0) target d))

-- a one more extends the ones
pub ones_more : (n : ℕ) → ones (n + 1) ≡ ones n ++ one_ℚ ∷ []
unfolding ones
ones_more zero = refl
ones_more (suc n) = let e : suc n + 1 ≡ suc (n + 1) = omega arith in ap ones e ∙ ap (λ xs. one_ℚ ∷ xs) (ones_more n)
