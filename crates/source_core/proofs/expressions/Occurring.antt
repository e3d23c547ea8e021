-- A variable of which a step stands in an expression occurs there.
use Rattle.std.proofs.Common.{◌≤◌, ◌+◌, ℕ, Bool, refl, arith}
use Rattle.std.specs.Prelude.{◌&&◌, IsTrue}
use Rattle.source_tree.specs.Expressions.{Expression, Expressions, number, variable, unknown, call, element, grouped, negative, positive}
use Rattle.source_tree.specs.Expressions.{stepped, inverse, joined, compared, both, either, chosen, none, more}
use Rattle.source_tree.specs.Expressions.{Subscripts, no_subscript, subscript}
use Rattle.source_core.specs.Laws.{occurrences, occurrences_in, occurrences_of_indexes, all_steps, all_steps_in, all_steps_of_indexes}
use Rattle.source_core.proofs.forms.Tests.{both_from}
use Rattle.source_core.proofs.expressions.Apart.{counts, counts_in, counts_at, occurs-itself}

-- what each variable passes that occurs in either part
abbrev Passing : (ℕ → Bool) → (counts : ℕ → ℕ) → Type 0
Passing test counts = (i : ℕ) → 1 ≤ counts i → IsTrue (test i)

first : (test : ℕ → Bool) (c d : ℕ → ℕ) → Passing test (λ i. c i + d i) → Passing test c
first test c d f i l = f i (omega (arith, l))

second : (test : ℕ → Bool) (c d : ℕ → ℕ) → Passing test (λ i. c i + d i) → Passing test d
second test c d f i l = f i (omega (arith, l))

mutual
  -- each step passes a test that each variable passes which occurs in the expression
  pub steps_occur : (test : ℕ → Bool) (e : Expression) → ((i : ℕ) → 1 ≤ occurrences i e → IsTrue (test i)) → IsTrue (all_steps test e)
  steps_occur test (number v at) f = refl
  steps_occur test (variable i at) f = refl
  steps_occur test (unknown at) f = refl
  steps_occur test (call es at) f = steps_occur_in test es f
  steps_occur test (element is at) f = steps_occur_at test is f
  steps_occur test (stepped direction moment i sign at) f = f i (let o = occurs-itself i in omega (arith, o))
  steps_occur test (grouped at e) f = steps_occur test e f
  steps_occur test (negative at e) f = steps_occur test e f
  steps_occur test (positive at e) f = steps_occur test e f
  steps_occur test (inverse at e) f = steps_occur test e f
  steps_occur test (joined o sign a b) f = both_from (all_steps test a) (all_steps test b)
      (steps_occur test a (first test (counts a) (counts b) f)) (steps_occur test b (second test (counts a) (counts b) f))
  steps_occur test (compared rel sign a b) f = both_from (all_steps test a) (all_steps test b)
      (steps_occur test a (first test (counts a) (counts b) f)) (steps_occur test b (second test (counts a) (counts b) f))
  steps_occur test (both a b) f = both_from (all_steps test a) (all_steps test b)
      (steps_occur test a (first test (counts a) (counts b) f)) (steps_occur test b (second test (counts a) (counts b) f))
  steps_occur test (either a b) f = both_from (all_steps test a) (all_steps test b)
      (steps_occur test a (first test (counts a) (counts b) f)) (steps_occur test b (second test (counts a) (counts b) f))
  steps_occur test (chosen sign c a b) f =
      let g = second test (counts c) (λ i. occurrences i a + occurrences i b) f in
      both_from (all_steps test c) (all_steps test a && all_steps test b)
      (steps_occur test c (first test (counts c) (λ i. occurrences i a + occurrences i b) f))
      (both_from (all_steps test a) (all_steps test b)
      (steps_occur test a (first test (counts a) (counts b) g)) (steps_occur test b (second test (counts a) (counts b) g)))

  -- so in expressions together
  pub steps_occur_in : (test : ℕ → Bool) (es : Expressions) → ((i : ℕ) → 1 ≤ occurrences_in i es → IsTrue (test i))
      → IsTrue (all_steps_in test es)
  steps_occur_in test none f = refl
  steps_occur_in test (more e es) f = both_from (all_steps test e) (all_steps_in test es)
      (steps_occur test e (first test (counts e) (counts_in es) f))
      (steps_occur_in test es (second test (counts e) (counts_in es) f))

  steps_occur_at : (test : ℕ → Bool) (is : Subscripts) → ((i : ℕ) → 1 ≤ occurrences_of_indexes i is → IsTrue (test i))
      → IsTrue (all_steps_of_indexes test is)
  steps_occur_at test no_subscript f = refl
  steps_occur_at test (subscript extent bracket e is) f = both_from (all_steps test e) (all_steps_of_indexes test is)
      (steps_occur test e (first test (counts e) (counts_at is) f))
      (steps_occur_at test is (second test (counts e) (counts_at is) f))
