-- What bounds say is true of a state that fits them.
use Rattle.std.proofs.Common.{◌≡◌, ◌==◌, ◌<◌, ◌+◌, ◌++◌, ℕ, suc, ℤ, pos, neg_ℤ, nat_abs, ◌+ℤ◌, ◌*ℤ◌, ◌≤ℤ◌, Bool, true, false, List, [], ◌∷◌}
use Rattle.std.proofs.Common.{Some, length, refl, sym, subst, subst₂, ⊎_elim, add-zero, zero-add, arith}
use Rattle.std.specs.Prelude.{if◌then◌else◌, slice_get}
use Rattle.std.specs.List.{All, list_any}
use Rattle.std.proofs.lemmas.Bool.{and_parts, or_cases, eqb-true}
use Rattle.std.proofs.lemmas.List.Elements.{All-nil, All-cons, All-append, All-contains}
use Rattle.base_numbers.specs.Extended.{Ext, neg_inf, fin, pos_inf, ◌≤ᴱ◌}
use Rattle.base_numbers.specs.Rational.{ℚ, whole, ◌≤ℚ◌}
use Rattle.lang_tree.specs.Meaning.{State, dot}
use Rattle.flow_systems.specs.States.{dotℚ, rational}
use Rattle.flow_systems.proofs.states.RationalStates.{dot_rational}
use Rattle.acsl_notes.specs.Clauses.{Clause, at_most, equals, IsTrueAt, Bounded, bounded_from, is_over, is_opposite, is_negative_of, meets}
use Rattle.acsl_notes.specs.Clauses.{clause_at, clauses_of, clauses_from, clauses_unless, clauses}
use Rattle.acsl_notes.specs.Laws.{ClausesHold}
use Rattle.acsl_notes.proofs.truth.Values.{at_most_num, between_opposites, opposite_dot, opposite_of_sum}

-- each row's value is at most its bound
abbrev AllWithin : State → List Bounded → Type 0
AllWithin x [] = Unit {0}
AllWithin x ((row, bound) ∷ rows) = (fin (whole (dot row x)) ≤ᴱ bound) × AllWithin x rows

-- where a row's bound meets that of its opposite, its value is the bound
met_is : (x : State) (row : List ℤ) (q : ℚ) (others : List Bounded) → whole (dot row x) ≤ℚ q → AllWithin x others
    → list_any (meets row q) others ≡ true → (pos q.den *ℤ dot row x) ≡ q.num
met_is x row q [] l h m = cc
met_is x row q ((other, bound) ∷ others) l h m =
    ⊎_elim (λ here. met_here bound h.0 (and_parts (is_opposite row other) (is_negative_of q bound) here))
    (λ later. met_is x row q others l h.1 later)
    (or_cases (meets row q (other, bound)) (list_any (meets row q) others) m)
  where
    met_here : (b : Ext) → fin (whole (dot other x)) ≤ᴱ b → (is_opposite row other ≡ true) × (is_negative_of q b ≡ true)
        → (pos q.den *ℤ dot row x) ≡ q.num
    met_here neg_inf w (o, n) = absurd w
    met_here pos_inf w (o, n) = cc
    met_here (fin p) w (o, n) =
        let parts = and_parts (nat_abs (q.num +ℤ p.num) == 0) (q.den == p.den) n in
        let num : p.num ≡ neg_ℤ q.num = opposite_of_sum q.num p.num parts.0 in
        let den : q.den ≡ p.den = eqb-true q.den p.den parts.1 in
        let value : dot other x ≡ neg_ℤ (dot row x) = opposite_dot row other x o in
        let under : (pos p.den *ℤ dot other x) ≤ℤ p.num = at_most_num (dot other x) p w in
        between_opposites (dot row x) q.num q.den (at_most_num (dot row x) q l)
        (subst₂ (λ (d : ℕ) (z : ℤ). (pos d *ℤ z) ≤ℤ neg_ℤ q.num) (sym den) value (subst (λ n. (pos p.den *ℤ dot other x) ≤ℤ n) num under))

-- what a row's bound says is true
clause_true : (x : State) (row : List ℤ) (q : ℚ) (others : List Bounded) → whole (dot row x) ≤ℚ q → AllWithin x others
    → IsTrueAt (clause_at row q others) x
clause_true x row q others l h = by (list_any (meets row q) others) refl
  where
    by : (b : Bool) → list_any (meets row q) others ≡ b → IsTrueAt (if b then equals q.den row q.num else at_most q.den row q.num) x
    by true e = met_is x row q others l h e
    by false e = at_most_num (dot row x) q l

-- every clause of a list is true
abbrev AreTrue : State → List Clause → Type 0
AreTrue x said = All (λ clause. IsTrueAt clause x) said

-- what a row says, if anything, is true
row_true : (x : State) (known : List ℕ) (before : List Bounded) (row : List ℤ) (bound : Ext) (behind : List Bounded)
    → fin (whole (dot row x)) ≤ᴱ bound → AllWithin x behind → AreTrue x (clauses_of known before row bound behind)
row_true x known before row neg_inf behind l h = All-nil (λ clause. IsTrueAt clause x)
row_true x known before row pos_inf behind l h = All-nil (λ clause. IsTrueAt clause x)
row_true x known before row (fin q) behind l h = by (is_over 0 known row) (list_any (meets row q) before)
  where
    by : (over met : Bool) → AreTrue x (if over then (if met then [] else clause_at row q behind ∷ []) else [])
    by true true = All-nil (λ clause. IsTrueAt clause x)
    by true false = All-cons (λ clause. IsTrueAt clause x) (clause_at row q behind) [] (clause_true x row q behind l h)
        (All-nil (λ clause. IsTrueAt clause x))
    by false met = All-nil (λ clause. IsTrueAt clause x)

-- what rows say is true
rows_true : (x : State) (known : List ℕ) (before rows : List Bounded) → AllWithin x rows → AreTrue x (clauses_from known before rows)
rows_true x known before [] h = All-nil (λ clause. IsTrueAt clause x)
rows_true x known before ((row, bound) ∷ rows) h =
    All-append (λ clause. IsTrueAt clause x) (clauses_of known before row bound rows)
    (clauses_from known (before ++ (row, bound) ∷ []) rows)
    (row_true x known before row bound rows h.0 h.1) (rows_true x known (before ++ (row, bound) ∷ []) rows h.1)

-- ---- a state that fits
within_from : (x : State) (r : ℕ) (rows : List (List ℤ)) (bounds : ℕ → Ext)
    → ((k : ℕ) (row : List ℤ) → slice_get rows k ≡ Some row → fin (dotℚ row (rational x)) ≤ᴱ bounds (r + k))
    → AllWithin x (bounded_from r rows bounds)
within_from x r [] bounds h = tt
within_from x r (row ∷ rows) bounds h = (
  subst₂ (λ (q : ℚ) (n : ℕ). fin q ≤ᴱ bounds n) (dot_rational row x) (add-zero r) (h 0 row refl),
  within_from x (suc r) rows bounds (λ k other listed. let place : r + suc k ≡ suc r + k = omega arith in
      subst (λ n. fin (dotℚ other (rational x)) ≤ᴱ bounds n) place (h (suc k) other listed)),
)

-- no state fits where the first bound is -inf
none_under : (x : State) (template : List (List ℤ)) (bounds : ℕ → Ext) → 0 < length template → AllWithin x (bounded_from 0 template bounds)
    → bounds 0 ≡ neg_inf → ⊥
none_under x [] bounds some h e = absurd (omega (arith, some))
none_under x (row ∷ rows) bounds some h e = subst (λ b. fin (whole (dot row x)) ≤ᴱ b) e h.0

-- what the bounds of a point say is true of a state that is within them
said_true : (x : State) (known : List ℕ) (template : List (List ℤ)) (bounds : ℕ → Ext) → 0 < length template
    → AllWithin x (bounded_from 0 template bounds)
    → AreTrue x (clauses known template bounds)
said_true x known template bounds some h = by (bounds 0) refl
  where
    by : (first : Ext) → bounds 0 ≡ first → AreTrue x (clauses_unless known template bounds first)
    by neg_inf e = absurd (none_under x template bounds some h e)
    by (fin q) e = rows_true x known [] (bounded_from 0 template bounds) h
    by pos_inf e = rows_true x known [] (bounded_from 0 template bounds) h

-- where a vector holds in a program's runs, so does what it says
pub clauses_hold : ClausesHold
clauses_hold variables body template v some holds p known clause said run now runs listed at =
    let fits = holds run now p runs listed at in
    All-contains (λ c. IsTrueAt c now.state) (clauses known template (v p)) clause
    (said_true now.state known template (v p) some
    (within_from now.state 0 template (v p) (λ k row found. subst (λ n. fin (dotℚ row (rational now.state)) ≤ᴱ v p n) (sym (zero-add k))
    (fits k row found)))) said
