-- Sums with a test behind them, and lists of such.
use Rattle.std.proofs.Common.{◌≡◌, ◌∙◌, ◌↔◌, ℕ, ◌+◌, ◌<◌, ◌≤◌, Bool, true, false, not, true≢false, List, [], ◌∷◌, ◌++◌, length, get_or}
use Rattle.std.proofs.Common.{drop, refl, sym, ap, subst}
use Rattle.std.specs.Prelude.{Option, Some, None, IsTrue, MatchOption, flat_map, is_some}
use Rattle.std.specs.Bool.{then_some}
use Rattle.std.specs.Ordering.{eq_by_cmp, is_eq}
use Rattle.std.specs.declared.cmp.Ordering.{Ordering}
use Rattle.std.specs.declared.cmp.Ordering.TheVariants.{Less, Equal, Greater}
use Rattle.std.proofs.lemmas.List.{drop_more, drop_all}
use Rattle.base_numbers.specs.Rational.{ℚ}
use Rattle.base_numbers.specs.Compare.{cmp_ℚ}
use Rattle.base_numbers.proofs.compare.Compared.{cmp-equal, equal-cmp}
use Rattle.base_fractions.specs.Fits.{long_limit}
use Rattle.base_fractions.specs.Operation.{Operation, first_wide}
use Rattle.flow_systems.specs.declared.spot.Site.{Site}
use Rattle.theory_validity.specs.Faults.{Fault}
use Rattle.cert_checker.specs.declared.fault.CheckFault.{CheckFault}
use Rattle.cert_checker.specs.Events.{Event, Test, fault_answer, wide_answer, first_stop, sums, decided}
use Rattle.cert_checker.proofs.following.Traces.{stop_sooner, stop_later, test_no, alone_yes, sums_none, sums_some}

-- what `==` answers
pub test_same : (a b : ℚ) (r : Bool) → r ≡ eq_by_cmp cmp_ℚ a b → IsTrue r ↔ (a ≡ b)
test_same a b r e = (λ t. cmp-equal a b (equal (cmp_ℚ a b) (sym e ∙ t)), λ s. e ∙ ap is_eq (equal-cmp a b s))
  where
    equal : (o : Ordering) → is_eq o ≡ true → o ≡ Equal
    equal Less f = cc
    equal Equal f = refl
    equal Greater f = cc

-- ---- a sum with a test behind it
module _ {P : Type 0} (d : Dec P) (site : Site) (fault : Fault) (os : List Operation) where
  -- both
  abbrev pub Tested : List Event
  Tested = sums site os ++ Test (decided d) fault ∷ []

  -- a sum that is wide stops, before its test
  pub tested_wide : (w : Operation) → first_wide long_limit os ≡ Some w → first_stop Tested ≡ Some (wide_answer site w)
  tested_wide w e = stop_sooner (sums site os) (Test (decided d) fault ∷ []) (wide_answer site w) (sums_some site os w e)

  -- where no operation is wide and the test passes, nothing stops
  pub tested_yes : first_wide long_limit os ≡ None → P → first_stop Tested ≡ None
  tested_yes e p = stop_later (sums site os) (Test (decided d) fault ∷ []) (sums_none site os e) ∙ alone_yes d fault p

  -- where no operation is wide and the test fails, its fault stops
  pub tested_no : first_wide long_limit os ≡ None → ¬ P → first_stop Tested ≡ Some (fault_answer fault)
  tested_no e n = stop_later (sums site os) (Test (decided d) fault ∷ []) (sums_none site os e) ∙ test_no d fault [] n

-- ---- the events of all numbers of a list, as far as none of the first i stops
module _ (f : ℕ → List Event) (ks : List ℕ) (i : ℕ) (h : first_stop (flat_map f ks) ≡ first_stop (flat_map f (drop i ks))) where
  module _ (k : ℕ) (l : i < length ks) (e : k ≡ get_or ks i k) where
    left : first_stop (flat_map f ks) ≡ first_stop (f k ++ flat_map f (drop (i + 1) ks))
    left = h ∙ ap (λ js. first_stop (flat_map f js)) (drop_more ks i k l)
        ∙ ap (λ j. first_stop (f j ++ flat_map f (drop (i + 1) ks))) (sym e)

    -- where a number's events don't stop, the next numbers are left
    pub all_more : first_stop (f k) ≡ None → first_stop (flat_map f ks) ≡ first_stop (flat_map f (drop (i + 1) ks))
    all_more n = left ∙ stop_later (f k) (flat_map f (drop (i + 1) ks)) n

    -- where a number's events stop, the list stops there
    pub all_stop : (a : CheckFault) → first_stop (f k) ≡ Some a → first_stop (flat_map f ks) ≡ Some a
    all_stop a n = left ∙ stop_sooner (f k) (flat_map f (drop (i + 1) ks)) a n

  -- where all numbers are passed, nothing stops
  pub all_pass : length ks ≤ i → first_stop (flat_map f ks) ≡ None
  unfolding first_stop
  all_pass l = h ∙ ap (λ js. first_stop (flat_map f js)) (drop_all i ks l)

-- ---- what a call answers that tells a test
-- what it says at one site and fault
abbrev pub Told : List Event → Fault → Option (Unit {0}) → Type 0
Told es fault o = MatchOption o (first_stop es ≡ Some (fault_answer fault)) (λ u. Unit {0} × (first_stop es ≡ None))

module _ (es : List Event) (fault : Fault) (o : Option (Unit {0})) (r : Bool) (e : is_some o ≡ not r) where
  -- where the call answers none, the fault stops
  pub told_no : r ≡ true → Told es fault o → first_stop es ≡ Some (fault_answer fault)
  told_no t h = by o refl
    where
      by : (x : Option (Unit {0})) → o ≡ x → first_stop es ≡ Some (fault_answer fault)
      by None q = subst (Told es fault) q h
      by (Some u) q = absurd (true≢false (sym (ap is_some q) ∙ e ∙ ap not t))

  -- where the call answers a value, nothing stops
  pub told_yes : r ≡ false → Told es fault o → first_stop es ≡ None
  told_yes t h = by o refl
    where
      by : (x : Option (Unit {0})) → o ≡ x → first_stop es ≡ None
      by None q = absurd (true≢false (sym (sym (ap is_some q) ∙ e ∙ ap not t)))
      by (Some u) q = (subst (Told es fault) q h).1

-- where an answer is a value exactly if a test passes: nothing stops if it passes, and else the fault stops
pub told_if : (es : List Event) (fault : Fault) (passes : Bool) → (passes ≡ true → first_stop es ≡ None)
    → (passes ≡ false → first_stop es ≡ Some (fault_answer fault)) → (o : Option (Unit {0})) → o ≡ then_some passes tt
    → Told es fault o
told_if es fault true passed failed o e = subst (Told es fault) (sym e) (tt, passed refl)
told_if es fault false passed failed o e = subst (Told es fault) (sym e) (failed refl)

-- ---- what a call answers that finds a value
module _ (es : List Event) (fault : Fault) (x : ℚ) where
  -- what it says at one site and fault
  abbrev Found : Option ℚ → Type 0
  Found o = MatchOption o (first_stop es ≡ Some (fault_answer fault)) (λ v. (v ≡ x) × (first_stop es ≡ None))

  -- where no value is found, the fault stops
  pub found_none : (o : Option ℚ) → ((v : ℚ) → o ≡ Some v → ⊥) → Found o → first_stop es ≡ Some (fault_answer fault)
  found_none None n h = h
  found_none (Some v) n h = absurd (n v refl)

  -- a value that is found is the right one, and nothing stops
  pub found_some : (o : Option ℚ) (v : ℚ) → o ≡ Some v → Found o → (v ≡ x) × (first_stop es ≡ None)
  found_some o v e h = subst Found e h
