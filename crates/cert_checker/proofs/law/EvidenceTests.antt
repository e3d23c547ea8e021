-- The first test that fails, sums left out.
use Rattle.std.proofs.Common.{◌≡◌, ◌∙◌, ℕ, zero, suc, ◌+◌, ◌<◌, ◌≤◌, List, [], ◌∷◌, ◌++◌, append_assoc, refl, ap, ap₂, subst, arith}
use Rattle.std.specs.Prelude.{ℤ, Option, None, true, false, flat_map}
use Rattle.std.specs.List.{range_with_len}
use native.Mathlib.Decide.{dec_lt}
use Rattle.base_fractions.specs.Operation.{Operation}
use Rattle.flow_edges.specs.declared.edge.Edge.{Edge}
use Rattle.flow_systems.specs.declared.spot.Site.{Site}
use Rattle.flow_systems.specs.Equations.{Equations, Vector}
use Rattle.flow_systems.specs.FitTests.{fit_operations}
use Rattle.flow_systems.specs.TraceTests.{trace_operations}
use Rattle.theory_validity.specs.Words.{start_of}
use Rattle.theory_validity.specs.Steps.{Pieces, word}
use Rattle.theory_validity.specs.Decide.{dec_and, dec_by, dec_runs}
use Rattle.theory_validity.specs.Faults.{Fault, unless, and_then}
use Rattle.cert_checker.specs.Events.{Event, Sum, Test, sums, decided, first_fault}
use Rattle.cert_checker.specs.Runs.{dec_fits, fit_events, run_events}

-- ---- lists of events
-- the first fault of two lists of events is that of the first one, and else that of the second
pub first_fault-append : (a b : List Event) → first_fault (a ++ b) ≡ and_then (first_fault a) (first_fault b)
unfolding first_fault
first_fault-append [] b = refl
first_fault-append (Sum site o ∷ a) b = first_fault-append a b
first_fault-append (Test true f ∷ a) b = first_fault-append a b
first_fault-append (Test false f ∷ a) b = refl

sums_faultless : (site : Site) (os : List Operation) → first_fault (sums site os) ≡ None
unfolding first_fault sums
sums_faultless site [] = refl
sums_faultless site (o ∷ os) = sums_faultless site os

-- sums are passed over
pub sums_then : (site : Site) (os : List Operation) (es : List Event) → first_fault (sums site os ++ es) ≡ first_fault es
sums_then site os es = first_fault-append (sums site os) es ∙ ap (λ a. and_then a (first_fault es)) (sums_faultless site os)

-- a test comes before what follows it
pub test_then : {P : Type 0} (d : Dec P) (f : Fault) (es : List Event) → first_fault (Test (decided d) f ∷ es) ≡ unless d f (first_fault es)
unfolding first_fault
test_then (yes p) f es = refl
test_then (no n) f es = refl

-- ---- tests with one fault
-- a test in two parts
pub unless_pair : {A P Q : Type 0} (all : Dec A) (p : Dec P) (q : Dec Q) (f : Fault) (next : Option Fault) → (A → P) → (A → Q) → (P → Q → A)
    → unless p f (unless q f next) ≡ unless all f next
unless_pair (yes a) (yes x) (yes y) f next left right join = refl
unless_pair (yes a) (yes x) (no m) f next left right join = absurd (m (right a))
unless_pair (yes a) (no m) q f next left right join = absurd (m (left a))
unless_pair (no n) (yes x) (yes y) f next left right join = absurd (n (join x y))
unless_pair (no n) (yes x) (no m) f next left right join = refl
unless_pair (no n) (no m) q f next left right join = refl

-- a first part that the second one needs
fits_first : {P Q : Type 0} (p : Dec P) (q : Dec Q) (f : Fault) (next : Option Fault) → (Q → P)
    → and_then (and_then (unless p f None) (unless q f None)) next ≡ unless q f next
fits_first (yes x) (yes y) f next need = refl
fits_first (yes x) (no m) f next need = refl
fits_first (no n) (yes y) f next need = absurd (n (need y))
fits_first (no n) (no m) f next need = refl

-- a test alone
none_then : {P : Type 0} (d : Dec P) (f : Fault) → first_fault (Test (decided d) f ∷ []) ≡ unless d f None
unfolding first_fault
none_then d f = test_then d f []

-- where a trace runs
pub run_then : (site : Site) (f : Fault) (system : Equations) (z : Vector) (edge : Edge) (row : List ℤ) (t : Pieces) (es : List Event) →
    first_fault (run_events site f system z edge row t ++ es) ≡ unless (dec_runs system z edge (word t)) f (first_fault es)
unfolding run_events fit_events
run_then site f system z edge row t es =
    let fitted = dec_fits system z edge.from (start_of system.variables (word t)) in
    let runs = dec_runs system z edge (word t) in
    let first = sums site (fit_operations system.template (z edge.from) 0 (start_of system.variables (word t))) ++ Test (decided fitted) f
    ∷ [] in
    let second = sums site (trace_operations edge.actions t.start t.free row) ++ Test (decided runs) f ∷ [] in
    first_fault-append (first ++ second) es
    ∙ ap (λ a. and_then a (first_fault es))
    (first_fault-append first second
    ∙ ap₂ and_then
    (sums_then site (fit_operations system.template (z edge.from) 0 (start_of system.variables (word t))) (Test (decided fitted) f ∷ [])
    ∙ none_then fitted f)
    (sums_then site (trace_operations edge.actions t.start t.free row) (Test (decided runs) f ∷ []) ∙ none_then runs f))
    ∙ fits_first fitted runs f (first_fault es) (λ h. h.fits)

-- ---- tests of numbers in a row
module _ {P : ℕ → Type 0} (d : (k : ℕ) → Dec (P k)) where
  -- all numbers from a on
  abbrev pub From : ℕ → ℕ → Type 0
  From a n = (k : ℕ) → a ≤ k → k < a + n → P k

  all_none : (a : ℕ) → From a 0
  all_none a k l m = absurd (omega (arith, l, m))

  all_first : (a n : ℕ) → From a (suc n) → P a
  all_first a n h = h a (omega arith) (omega arith)

  all_later : (a n : ℕ) → From a (suc n) → From (a + 1) n
  all_later a n h k l m = h k (omega (arith, l)) (omega (arith, m))

  all_more : (a n : ℕ) → P a → From (a + 1) n → From a (suc n)
  all_more a n h more k l m = by (dec_lt a k)
    where
      by : Dec (a < k) → P k
      by (yes i) = more k (omega (arith, i)) (omega (arith, m))
      by (no i) = subst P (let e : a ≡ k = omega (arith, i, l) in e) h

  -- whether all numbers from a on pass is decided
  pub dec_from : (a n : ℕ) → Dec (From a n)
  dec_from a zero = yes (all_none a)
  dec_from a (suc n) = dec_by (λ p. all_more a n p.0 p.1) (λ h. (all_first a n h, all_later a n h)) (dec_and (d a) (dec_from (a + 1) n))

  -- each is tested after a sum
  pub each_then : (site : Site) (f : Fault) (os : ℕ → List Operation) (es : List Event) (a n : ℕ) (all : Dec (From a n)) →
      first_fault (flat_map (λ k. sums site (os k) ++ Test (decided (d k)) f ∷ []) (range_with_len a n) ++ es)
      ≡ unless all f (first_fault es)
  each_then site f os es a zero (yes h) = refl
  each_then site f os es a zero (no m) = absurd (m (all_none a))
  each_then site f os es a (suc n) all =
      let rest = flat_map (λ k. sums site (os k) ++ Test (decided (d k)) f ∷ []) (range_with_len (a + 1) n) in
      ap first_fault (append_assoc (sums site (os a) ++ Test (decided (d a)) f ∷ []) rest es
      ∙ append_assoc (sums site (os a)) (Test (decided (d a)) f ∷ []) (rest ++ es))
      ∙ sums_then site (os a) (Test (decided (d a)) f ∷ (rest ++ es))
      ∙ test_then (d a) f (rest ++ es)
      ∙ ap (unless (d a) f) (each_then site f os es (a + 1) n (dec_from (a + 1) n))
      ∙ unless_pair all (d a) (dec_from (a + 1) n) f (first_fault es) (all_first a n) (all_later a n) (all_more a n)
