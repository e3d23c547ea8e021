-- Expressions with steps that stand apart.
use Rattle.std.proofs.Common.{◌≡◌, ◌≢◌, ⊎_elim, ◌<◌, ◌≤◌, ◌+◌, ℕ, Bool, false, refl, sym, ap, subst, ◌∙◌, arith, true≢false, eq-eqb}
use Rattle.std.specs.Prelude.{◌==◌, ◌&&◌, IsTrue, if◌then◌else◌}
use Rattle.std.proofs.lemmas.Bool.Decides.{eqb_tells}
use Rattle.source_tree.specs.Expressions.{Expression, Expressions, number, variable, unknown, call, element, grouped, negative, positive}
use Rattle.source_tree.specs.Expressions.{stepped, inverse, joined, compared, both, either, chosen, none, more}
use Rattle.source_tree.specs.Expressions.{Extent, Subscripts, no_subscript, subscript}
use Rattle.source_core.specs.Laws.{occurrences, occurrences_in, occurrences_of_indexes, all_steps, all_steps_in, all_steps_of_indexes}
use Rattle.source_core.specs.Laws.{has_no_step, are_steps_certain, are_steps_certain_in, are_steps_certain_of_indexes, steps_apart}
use Rattle.source_core.proofs.forms.Tests.{both_of, both_from}

-- variables of which a step may stand in an expression: those that pass a test and occur in it
abbrev pub Stepped : (n : ℕ) → (ℕ → Bool) → (ℕ → ℕ) → ℕ → Type 0
Stepped n test counts i = (i < n) × IsTrue (test i) × (1 ≤ counts i)

-- how often variables occur in an expression
abbrev pub counts : Expression → ℕ → ℕ
counts e = λ i. occurrences i e

-- in expressions together
abbrev pub counts_in : Expressions → ℕ → ℕ
counts_in es = λ i. occurrences_in i es

-- in indexes together
abbrev pub counts_at : Subscripts → ℕ → ℕ
counts_at is = λ i. occurrences_of_indexes i is

-- of what occurs in the first of two parts steps may stand in both together
pub wider-first : (n : ℕ) (test : ℕ → Bool) (c d : ℕ → ℕ) (i : ℕ) → Stepped n test c i → Stepped n test (λ j. c j + d j) i
wider-first n test c d i k = let o = k.2 in (k.0, k.1, omega (arith, o))

-- and of what occurs in the second
pub wider-second : (n : ℕ) (test : ℕ → Bool) (c d : ℕ → ℕ) (i : ℕ) → Stepped n test d i → Stepped n test (λ j. c j + d j) i
wider-second n test c d i k = let o = k.2 in (k.0, k.1, omega (arith, o))

-- each step in an expression is of a variable that passes the test, and certain; such a variable occurs once
abbrev pub Apart : (ℕ → Bool) → Expression → Type 0
Apart test e = IsTrue (all_steps test e) × IsTrue (are_steps_certain e) × ((i : ℕ) → IsTrue (test i) → occurrences i e ≤ 1)

-- so in expressions together
abbrev pub ApartIn : (ℕ → Bool) → Expressions → Type 0
ApartIn test es =
    IsTrue (all_steps_in test es) × IsTrue (are_steps_certain_in es) × ((i : ℕ) → IsTrue (test i) → occurrences_in i es ≤ 1)

-- so in indexes together
abbrev pub ApartAt : (ℕ → Bool) → Subscripts → Type 0
ApartAt test is =
    IsTrue (all_steps_of_indexes test is) × IsTrue (are_steps_certain_of_indexes is)
    × ((i : ℕ) → IsTrue (test i) → occurrences_of_indexes i is ≤ 1)

-- ---- tests
pub counted-once : (a b : ℕ) → IsTrue (a == b) → a ≡ b
counted-once a b h = ⊎_elim (λ t. t.1) (λ f. absurd (true≢false (sym h ∙ f.0))) (eqb_tells a b)

-- how often one variable occurs in another
abbrev pub occurs_in : (var i : ℕ) → ℕ
occurs_in j i = if i == j then 1 else 0

-- a variable occurs in itself
pub occurs-itself : (i : ℕ) → occurs_in i i ≡ 1
occurs-itself i = ap (λ (t : Bool). let k : ℕ = if t then 1 else 0 in k) (eq-eqb i i refl)

-- a variable that doesn't occur in another isn't this
pub occurs-not : (i j : ℕ) → occurs_in j i ≡ 0 → j ≢ i
occurs-not i j h = λ e. let k = subst (λ v. occurs_in v i ≡ 0) e h in let o = occurs-itself i in omega (arith, k, o)

-- no variable passes where no step stands
pub none_passes : (i : ℕ) → IsTrue false → ⊥
none_passes i h = true≢false (sym h)

-- no step stands where none passes
pub stepless : (n : ℕ) (c : ℕ → ℕ) (i : ℕ) → Stepped n (λ j. false) c i → ⊥
stepless n c i k = none_passes i k.1

mutual
  -- where each step passes two tests, it passes what these give
  pub all_steps-join : (a b c : ℕ → Bool) → ((i : ℕ) → IsTrue (a i) → IsTrue (b i) → IsTrue (c i)) → (e : Expression)
      → IsTrue (all_steps a e) → IsTrue (all_steps b e) → IsTrue (all_steps c e)
  all_steps-join a b c t (number v at) p q = refl
  all_steps-join a b c t (variable i at) p q = refl
  all_steps-join a b c t (unknown at) p q = refl
  all_steps-join a b c t (call es at) p q = all_in-join a b c t es p q
  all_steps-join a b c t (element is at) p q = all_at-join a b c t is p q
  all_steps-join a b c t (stepped direction moment i sign at) p q = t i p q
  all_steps-join a b c t (grouped at e) p q = all_steps-join a b c t e p q
  all_steps-join a b c t (negative at e) p q = all_steps-join a b c t e p q
  all_steps-join a b c t (positive at e) p q = all_steps-join a b c t e p q
  all_steps-join a b c t (inverse at e) p q = all_steps-join a b c t e p q
  all_steps-join a b c t (joined o sign e f) p q =
      let r = both_of (all_steps a e) (all_steps a f) p in
      let s = both_of (all_steps b e) (all_steps b f) q in
      both_from (all_steps c e) (all_steps c f) (all_steps-join a b c t e r.0 s.0) (all_steps-join a b c t f r.1 s.1)
  all_steps-join a b c t (compared rel sign e f) p q =
      let r = both_of (all_steps a e) (all_steps a f) p in
      let s = both_of (all_steps b e) (all_steps b f) q in
      both_from (all_steps c e) (all_steps c f) (all_steps-join a b c t e r.0 s.0) (all_steps-join a b c t f r.1 s.1)
  all_steps-join a b c t (both d e) p q =
      let r = both_of (all_steps a d) (all_steps a e) p in
      let s = both_of (all_steps b d) (all_steps b e) q in
      both_from (all_steps c d) (all_steps c e) (all_steps-join a b c t d r.0 s.0) (all_steps-join a b c t e r.1 s.1)
  all_steps-join a b c t (either d e) p q =
      let r = both_of (all_steps a d) (all_steps a e) p in
      let s = both_of (all_steps b d) (all_steps b e) q in
      both_from (all_steps c d) (all_steps c e) (all_steps-join a b c t d r.0 s.0) (all_steps-join a b c t e r.1 s.1)
  all_steps-join a b c t (chosen sign d e f) p q =
      let r = both_of (all_steps a d) (all_steps a e && all_steps a f) p in
      let s = both_of (all_steps b d) (all_steps b e && all_steps b f) q in
      let u = both_of (all_steps a e) (all_steps a f) r.1 in
      let v = both_of (all_steps b e) (all_steps b f) s.1 in
      both_from (all_steps c d) (all_steps c e && all_steps c f) (all_steps-join a b c t d r.0 s.0)
      (both_from (all_steps c e) (all_steps c f) (all_steps-join a b c t e u.0 v.0) (all_steps-join a b c t f u.1 v.1))

  -- so in expressions together
  pub all_in-join : (a b c : ℕ → Bool) → ((i : ℕ) → IsTrue (a i) → IsTrue (b i) → IsTrue (c i)) → (es : Expressions)
      → IsTrue (all_steps_in a es) → IsTrue (all_steps_in b es) → IsTrue (all_steps_in c es)
  all_in-join a b c t none p q = refl
  all_in-join a b c t (more e es) p q =
      let r = both_of (all_steps a e) (all_steps_in a es) p in
      let s = both_of (all_steps b e) (all_steps_in b es) q in
      both_from (all_steps c e) (all_steps_in c es) (all_steps-join a b c t e r.0 s.0) (all_in-join a b c t es r.1 s.1)

  all_at-join : (a b c : ℕ → Bool) → ((i : ℕ) → IsTrue (a i) → IsTrue (b i) → IsTrue (c i)) → (is : Subscripts)
      → IsTrue (all_steps_of_indexes a is) → IsTrue (all_steps_of_indexes b is) → IsTrue (all_steps_of_indexes c is)
  all_at-join a b c t no_subscript p q = refl
  all_at-join a b c t (subscript extent bracket e is) p q =
      let r = both_of (all_steps a e) (all_steps_of_indexes a is) p in
      let s = both_of (all_steps b e) (all_steps_of_indexes b is) q in
      both_from (all_steps c e) (all_steps_of_indexes c is) (all_steps-join a b c t e r.0 s.0) (all_at-join a b c t is r.1 s.1)

-- ---- whole expressions
-- as the premise of the laws says
pub apart-alone : (e : Expression) → IsTrue (steps_apart e) → Apart (λ i. occurrences i e == 1) e
apart-alone e h =
    let p = both_of (all_steps (λ i. occurrences i e == 1) e) (are_steps_certain e) h in
    (p.0, p.1, λ i t. let o = counted-once (occurrences i e) 1 t in omega (arith, o))

-- with another variable counted
pub apart-target : (var : ℕ) (e : Expression)
    → IsTrue (all_steps (λ i. (if var == i then 1 else 0) + occurrences i e == 1) e && are_steps_certain e)
    → Apart (λ i. occurs_in i var + occurrences i e == 1) e
apart-target var e h =
    let p = both_of (all_steps (λ i. occurs_in i var + occurrences i e == 1) e) (are_steps_certain e) h in
    (p.0, p.1, λ i t. let o = counted-once (occurs_in i var + occurrences i e) 1 t in omega (arith, o))

-- so expressions together
pub apart-together : (es : Expressions) → IsTrue (all_steps_in (λ i. occurrences_in i es == 1) es && are_steps_certain_in es)
    → ApartIn (λ i. occurrences_in i es == 1) es
apart-together es h =
    let p = both_of (all_steps_in (λ i. occurrences_in i es == 1) es) (are_steps_certain_in es) h in
    (p.0, p.1, λ i t. let o = counted-once (occurrences_in i es) 1 t in omega (arith, o))

mutual
  -- where no step stands, steps are certain
  certain-none : (e : Expression) → IsTrue (has_no_step e) → IsTrue (are_steps_certain e)
  certain-none (number v at) h = refl
  certain-none (variable i at) h = refl
  certain-none (unknown at) h = refl
  certain-none (call es at) h = certain-none_in es h
  certain-none (element is at) h = certain-none_at is h
  certain-none (stepped direction moment i sign at) h = refl
  certain-none (grouped at e) h = certain-none e h
  certain-none (negative at e) h = certain-none e h
  certain-none (positive at e) h = certain-none e h
  certain-none (inverse at e) h = certain-none e h
  certain-none (joined o sign e f) h =
      let p = both_of (has_no_step e) (has_no_step f) h in
      both_from (are_steps_certain e) (are_steps_certain f) (certain-none e p.0) (certain-none f p.1)
  certain-none (compared rel sign e f) h =
      let p = both_of (has_no_step e) (has_no_step f) h in
      both_from (are_steps_certain e) (are_steps_certain f) (certain-none e p.0) (certain-none f p.1)
  certain-none (both c d) h =
      let p = both_of (has_no_step c) (has_no_step d) h in both_from (are_steps_certain c) (has_no_step d) (certain-none c p.0) p.1
  certain-none (either c d) h =
      let p = both_of (has_no_step c) (has_no_step d) h in both_from (are_steps_certain c) (has_no_step d) (certain-none c p.0) p.1
  certain-none (chosen sign c e f) h =
      let p = both_of (has_no_step c) (has_no_step e && has_no_step f) h in
      both_from (are_steps_certain c) (has_no_step e && has_no_step f) (certain-none c p.0) p.1

  certain-none_in : (es : Expressions) → IsTrue (all_steps_in (λ i. false) es) → IsTrue (are_steps_certain_in es)
  certain-none_in none h = refl
  certain-none_in (more e es) h =
      let p = both_of (has_no_step e) (all_steps_in (λ i. false) es) h in
      both_from (are_steps_certain e) (are_steps_certain_in es) (certain-none e p.0) (certain-none_in es p.1)

  certain-none_at : (is : Subscripts) → IsTrue (all_steps_of_indexes (λ i. false) is) → IsTrue (are_steps_certain_of_indexes is)
  certain-none_at no_subscript h = refl
  certain-none_at (subscript extent bracket e is) h =
      let p = both_of (has_no_step e) (all_steps_of_indexes (λ i. false) is) h in
      both_from (are_steps_certain e) (are_steps_certain_of_indexes is) (certain-none e p.0) (certain-none_at is p.1)

-- where no step stands, each passes any test
pub passes-none : (test : ℕ → Bool) (e : Expression) → IsTrue (has_no_step e) → IsTrue (all_steps test e)
passes-none test e h = all_steps-join (λ i. false) (λ i. false) test (λ i p q. absurd (none_passes i p)) e h h

-- an expression without steps
pub apart-none : (e : Expression) → IsTrue (has_no_step e) → Apart (λ i. false) e
apart-none e h = (h, certain-none e h, λ i t. absurd (none_passes i t))

-- ---- parts
-- the first of two parts
pub apart-first : (test : ℕ → Bool) (e : Expression) (s c : Bool) (counts : ℕ → ℕ) → IsTrue (all_steps test e && s)
    → IsTrue (are_steps_certain e && c) → ((i : ℕ) → IsTrue (test i) → occurrences i e + counts i ≤ 1) → Apart test e
apart-first test e s c counts p q once = (
  (both_of (all_steps test e) s p).0,
  (both_of (are_steps_certain e) c q).0,
  λ i t. let o = once i t in omega (arith, o),
)

-- the second of two operands
pub apart-second : (test : ℕ → Bool) (e f : Expression) → IsTrue (all_steps test e && all_steps test f)
    → IsTrue (are_steps_certain e && are_steps_certain f)
    → ((i : ℕ) → IsTrue (test i) → occurrences i e + occurrences i f ≤ 1) → Apart test f
apart-second test e f p q once = (
  (both_of (all_steps test e) (all_steps test f) p).1,
  (both_of (are_steps_certain e) (are_steps_certain f) q).1,
  λ i t. let o = once i t in omega (arith, o),
)

-- the first of expressions
pub apart-head : (test : ℕ → Bool) (e : Expression) (es : Expressions) → ApartIn test (more e es) → Apart test e
apart-head test e es a = apart-first test e (all_steps_in test es) (are_steps_certain_in es) (counts_in es) a.0 a.1 a.2

-- those behind it
pub apart-later : (test : ℕ → Bool) (e : Expression) (es : Expressions) → ApartIn test (more e es) → ApartIn test es
apart-later test e es a = (
  (both_of (all_steps test e) (all_steps_in test es) a.0).1,
  (both_of (are_steps_certain e) (are_steps_certain_in es) a.1).1,
  λ i t. let o = a.2 i t in omega (arith, o),
)

-- the first of indexes
pub apart-index : (test : ℕ → Bool) (extent : Extent) (bracket : ℕ) (e : Expression) (is : Subscripts)
    → ApartAt test (subscript extent bracket e is) → Apart test e
apart-index test extent bracket e is a =
    apart-first test e (all_steps_of_indexes test is) (are_steps_certain_of_indexes is) (counts_at is) a.0 a.1 a.2

-- those behind it
pub apart-next : (test : ℕ → Bool) (extent : Extent) (bracket : ℕ) (e : Expression) (is : Subscripts)
    → ApartAt test (subscript extent bracket e is) → ApartAt test is
apart-next test extent bracket e is a = (
  (both_of (all_steps test e) (all_steps_of_indexes test is) a.0).1,
  (both_of (are_steps_certain e) (are_steps_certain_of_indexes is) a.1).1,
  λ i t. let o = a.2 i t in omega (arith, o),
)
