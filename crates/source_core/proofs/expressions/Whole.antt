-- What is kept of a whole expression, as its laws say.
use Rattle.std.proofs.Common.{◌≡◌, ⊎_elim, ◌<◌, ◌≤◌, ℕ, Bool, true, false, get_or, refl, sym, ◌∙◌, arith, true≢false}
use Rattle.std.specs.Prelude.{ℤ, pos, ◌==◌, ◌&&◌, not, IsTrue}
use Rattle.std.proofs.lemmas.Bool.Decides.{eqb_tells}
use Rattle.lang_tree.specs.Meaning.{State}
use Rattle.base_integers.specs.declared.integers.Integers.{Integers}
use Rattle.source_tree.specs.Expressions.{Expression}
use Rattle.source_tree.specs.Values.{May}
use Rattle.source_core.specs.Preludes.{AllLeave}
use Rattle.source_core.specs.Laws.{Agree, is_over, occurrences, all_steps}
use Rattle.source_core.specs.Laws.{are_steps_certain, steps_apart}
use Rattle.source_core.specs.Elaborated.{elaborated}
use Rattle.source_core.proofs.forms.Tests.{both_of, both_from, below_or_not}
use Rattle.source_core.proofs.preludes.Preludes.{leave-keeps}
use Rattle.source_core.proofs.preludes.Parts.{Written}
use Rattle.source_core.proofs.expressions.Apart.{Stepped, Apart, counts, counted-once, all_steps-join, apart-alone, none_passes}
use Rattle.source_core.proofs.expressions.Ranges.{left-behind}
use Rattle.source_core.proofs.expressions.Kept.{kept}

not_itself : (i : ℕ) → IsTrue (not (i == i)) → ⊥
not_itself i h = ⊎_elim (λ t. by (i == i) t.0 h) (λ f. f.1 refl) (eqb_tells i i)
  where
    by : (t : Bool) → t ≡ true → IsTrue (not t) → ⊥
    by true e k = none_passes 0 k
    by false e k = true≢false (sym e)

module _ (integers : Integers) (line : ℕ) (e : Expression) (n h : ℕ) (s : n ≤ h) (o : IsTrue (is_over n e)) where
  -- a prelude keeps each variable but those of which steps stand in the expression
  pub keeps-others : IsTrue (steps_apart e) → (x y : State) → AllLeave (elaborated integers line e h).prelude x y → (i : ℕ) → i < h
      → IsTrue (all_steps (λ j. not (j == i)) e) → get_or x i (pos 0) ≡ get_or y i (pos 0)
  keeps-others p x y l i low others =
      let once = both_of (all_steps (λ j. occurrences j e == 1) e) (are_steps_certain e) p in
      let test = λ (j : ℕ). (occurrences j e == 1) && not (j == i) in
      let a : Apart test e = (
        all_steps-join (λ j. occurrences j e == 1) (λ j. not (j == i)) test
            (λ j t u. both_from (occurrences j e == 1) (not (j == i)) t u) e once.0 others,
        once.1,
        λ j t. let c = counted-once (occurrences j e) 1 (both_of (occurrences j e == 1) (not (j == i)) t).0 in omega (arith, c),
      ) in
      let k = kept integers line e n h test s o a in
      leave-keeps (Written (Stepped n test (counts e)) h) (elaborated integers line e h).prelude x y i k.fits.writes l
      (λ w. ⊎_elim (λ u. not_itself i (both_of (occurrences i e == 1) (not (i == i)) u.1).1) (λ u. omega (arith, u, low)) w)

  -- hidden variables that were taken before stay, too, where the expression leaves a state
  pub agrees-whole : IsTrue (steps_apart e) → (x y w : State) (z : ℤ) → May integers e x z y
      → AllLeave (elaborated integers line e h).prelude x w → Agree n y w → Agree h y w
  agrees-whole p x y w z m l a i low = ⊎_elim (λ v. a i v) (λ b. left-behind integers e n x z y i o b m ∙ hidden b) (below_or_not i n)
    where
      hidden : n ≤ i → get_or x i (pos 0) ≡ get_or w i (pos 0)
      hidden b =
          let test = λ (j : ℕ). occurrences j e == 1 in
          let k = kept integers line e n h test s o (apart-alone e p) in
          leave-keeps (Written (Stepped n test (counts e)) h) (elaborated integers line e h).prelude x w i k.fits.writes l
          (λ v. ⊎_elim (λ u. let c = u.0 in omega (arith, c, b)) (λ u. omega (arith, u, low)) v)
