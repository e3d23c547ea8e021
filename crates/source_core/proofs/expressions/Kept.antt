-- The values that an expression may have are those of what it is in the core.
use Rattle.std.proofs.Common.{◌≡◌, ◌≤◌, ◌+◌, ℕ, Bool, true, false, not, [], ◌∷◌, ◌++◌}
use Rattle.std.proofs.Common.{refl, sym, subst, ◌∙◌, arith}
use Rattle.std.specs.Prelude.{ℤ, pos, negsuc, neg_ℤ, ◌-ℤ◌, ◌&&◌, IsTrue}
use Rattle.std.proofs.lemmas.Int.{ints}
use Rattle.std.proofs.lemmas.Bool.{ltb-true}
use Rattle.lang_tree.specs.Meaning.{State, MayBe}
use Rattle.lang_tree.specs.Tree as tree
use Rattle.lang_tree.specs.Tree.{checks}
use Rattle.lang_tree.specs.declared.check.Check.{Check}
use Rattle.lang_tree.specs.declared.check.CheckKind.TheVariants.{Index}
use Rattle.source_tree.specs.Expressions.{Expression, Expressions, number, variable, unknown, call, element, grouped, negative, positive}
use Rattle.source_tree.specs.Expressions.{stepped, inverse, joined, compared, both, either, chosen, none, more}
use Rattle.source_tree.specs.Expressions.{Subscripts, no_subscript, subscript}
use Rattle.source_tree.specs.Values.{truth_number, May, AllMay, AreIndexes}
use Rattle.source_core.specs.Laws.{is_over, are_over, are_indexes_over, Agree, occurrences, all_steps, are_steps_certain, has_no_step}
use Rattle.source_core.specs.Preludes.{AllLeave}
use Rattle.source_core.specs.Elaborated.{Elaborated, Evaluated, elaborated, evaluated, form_behind, numbered, tested, is_held}
use Rattle.source_core.specs.Elaborated.{indexed, is_index}
use Rattle.source_core.specs.Forms.{opposite}
use Rattle.source_core.proofs.forms.Tests.{both_of}
use Rattle.source_core.proofs.forms.Forms.{value-variable, value-opposite}
use Rattle.source_core.proofs.forms.Over.{over_variable, over_scaled}
use Rattle.source_core.proofs.preludes.Preludes.{leave-then}
use Rattle.source_core.proofs.preludes.Parts.{Fits, fits-none, fits-then, fits-more, Keeps}
use Rattle.source_core.proofs.expressions.Operated.{fits-check, leave-check, keeps-operation_on, keeps-number_at, keeps-ranged}
use Rattle.source_core.proofs.expressions.Operands.{keeps-compared, keeps-both, keeps-either}
use Rattle.source_core.proofs.expressions.Apart.{Stepped, counts, counts_in, counts_at, wider-first, wider-second, Apart, ApartIn, ApartAt}
use Rattle.source_core.proofs.expressions.Apart.{apart-none, apart-first, apart-second, apart-head, apart-later, apart-index, apart-next}
use Rattle.source_core.proofs.expressions.Stepping.{keeps-step}
use Rattle.source_core.proofs.expressions.Pairs.{KeptAt, as-number, as-truth, two-numbers, two-truths, one-number}
use Rattle.base_integers.specs.declared.integers.Integers.{Integers}

-- what is kept of the values that other values give
pub through : (integers : Integers) {n h : ℕ} {S : ℕ → Type 0} {P Q : State → ℤ → State → Type 0} {e : Elaborated}
    → ((x : State) (z : ℤ) (y : State) → Q x z y → P x z y) → Keeps integers n S h P e → Keeps integers n S h Q e
through integers f k = record { fits = k.fits; over = k.over; keeps = λ x s z y a m. k.keeps x s z y a (f x z y m) }

-- what is kept of arguments, or of indexes
pub record KeepsAll (n : ℕ) (S : ℕ → Type 0) (h : ℕ) (P : State → State → Type 0) (e : Evaluated) : Type 0 where
  -- their prelude takes the hidden variables from h up to the next one
  pub fits : Fits n S h e.prelude e.next
  -- where they have values their prelude leaves what they leave
  pub keeps : (x s y : State) → Agree n x s → P x y → (t : State) × AllLeave e.prelude s t × Agree n y t

-- the opposite of a value
negates : (a z v w : ℤ) → z ≡ neg_ℤ a → a ≡ v → w ≡ pos 0 -ℤ v → z ≡ w
negates a z v w p q r = omega (arith, ints, p, q, r)

less_one : (t : Bool) → pos 1 -ℤ truth_number t ≡ truth_number (not t)
less_one true = refl
less_one false = refl

inverts : (t : Bool) (M : Bool → Type 0) → M t → M (not (not t))
inverts true M m = m
inverts false M m = m

same : (n : ℕ) (x y s : State) → y ≡ x → Agree n x s → Agree n y s
same n x y s e a = subst (λ w. Agree n w s) (sym e) a

mutual
  -- each value that an expression may have is one that its result may be behind its prelude, which leaves what the expression leaves
  pub kept : (integers : Integers) (line : ℕ) (e : Expression) (n h : ℕ) (test : ℕ → Bool) → n ≤ h → IsTrue (is_over n e) → Apart test e
      → KeptAt integers line n h test e
  kept integers line (number v at) n h test s o a =
      through integers (λ x z y m. (m.0, m.2)) (keeps-number_at integers line n (Stepped n test (λ i. 0)) h v at s)
  kept integers line (variable i at) n h test s o a = let l = ltb-true i n o in record {
    fits = fits-none n (Stepped n test (counts (variable i at))) h s;
    over = over_variable h i (omega (arith, l, s));
    keeps = λ x t z y g m. (t, refl, same n x y t m.1 g, m.0 ∙ g i l ∙ sym (value-variable i t));
  }
  kept integers line (unknown at) n h test s o a = record {
    fits = fits-none n (Stepped n test (λ i. 0)) h s;
    over = tt;
    keeps = λ x t z y g m. (t, refl, same n x y t m.1 g, m.0);
  }
  kept integers line (call es at) n h test s o a = let k = all_kept integers line es n h test s o a in record {
    fits = k.fits;
    over = tt;
    keeps = λ x t z y g m. let r = k.keeps x t y g m.0 in (r.0, r.1, r.2, m.1);
  }
  kept integers line (element is at) n h test s o a = let k = all_indexed integers line is n h test s o a in record {
    fits = k.fits;
    over = tt;
    keeps = λ x t z y g m. let r = k.keeps x t y g m.0 in (r.0, r.1, r.2, m.1);
  }
  kept integers line (stepped direction moment i sign at) n h test s o a =
      keeps-step integers line n h test direction moment i sign at s (ltb-true i n o) a.0
  kept integers line (grouped at e) n h test s o a = kept integers line e n h test s o a
  kept integers line (negative at e) n h test s o a =
      let k = as-number integers line n h test e (kept integers line e n h test s o a) in
      let v = numbered integers line (elaborated integers line e h) in
      keeps-ranged integers line n (Stepped n test (counts e)) h (May integers (negative at e)) at is_held
      (form_behind v.prelude v.next (opposite v.form)) record {
        fits = k.fits;
        over = over_scaled v.next (negsuc 0) v.form k.over;
        keeps = λ x t z y g m.
            let r = k.keeps x t m.0 y g m.1 in (r.0, r.1, r.2, negates m.0 z _ _ m.2 r.3 (value-opposite v.form r.0));
      }
  kept integers line (positive at e) n h test s o a =
      let k = as-number integers line n h test e (kept integers line e n h test s o a) in
      record { fits = k.fits; over = k.over; keeps = k.keeps }
  kept integers line (inverse at e) n h test s o a =
      let k = as-truth integers line n h test e (kept integers line e n h test s o a) in
      let v = tested (elaborated integers line e h) in
      record {
        fits = k.fits;
        over = k.over;
        keeps = λ x t z y g m.
            let r = k.keeps x t m.0 y g m.2 in
            (r.0, r.1, r.2, (not m.1, inverts m.1 (λ b. MayBe b v.condition r.0) (r.3 m.1 m.3), m.4 ∙ less_one m.1));
      }
  kept integers line (joined k sign e f) n h test s o a =
      let p = both_of (is_over n e) (is_over n f) o in
      let ke = kept integers line e n h test s p.0 (apart-first test e (all_steps test f) (are_steps_certain f) (counts f) a.0 a.1 a.2) in
      let u = numbered integers line (elaborated integers line e h) in
      let later : n ≤ u.next = omega (arith, s, (as-number integers line n h test e ke).fits.grows) in
      let kf = kept integers line f n u.next test later p.1 (apart-second test e f a.0 a.1 a.2) in
      let w = numbered integers line (elaborated integers line f u.next) in
      through integers (λ x z y m. (m.1, m.2, (m.0, m.3, m.4), m.5, m.6))
      (keeps-operation_on integers line n (Stepped n test (λ i. occurrences i e + occurrences i f)) h k sign
      (λ x b d y. (t : State) × May integers e x b t × May integers f t d y) (u.prelude ++ w.prelude) w.next u.form w.form
      (two-numbers integers line n h test e f a.2 ke kf))
  kept integers line (compared rel sign e f) n h test s o a =
      let p = both_of (is_over n e) (is_over n f) o in
      let ke = kept integers line e n h test s p.0 (apart-first test e (all_steps test f) (are_steps_certain f) (counts f) a.0 a.1 a.2) in
      let u = numbered integers line (elaborated integers line e h) in
      let later : n ≤ u.next = omega (arith, s, (as-number integers line n h test e ke).fits.grows) in
      let kf = kept integers line f n u.next test later p.1 (apart-second test e f a.0 a.1 a.2) in
      let w = numbered integers line (elaborated integers line f u.next) in
      through integers (λ x z y m. (m.1, m.2, m.3, (m.0, m.4, m.5), m.6, m.7))
      (keeps-compared integers n (Stepped n test (λ i. occurrences i e + occurrences i f)) h
      (λ x b d y. (t : State) × May integers e x b t × May integers f t d y) (u.prelude ++ w.prelude) w.next rel u.form w.form
      (two-numbers integers line n h test e f a.2 ke kf))
  kept integers line (both c d) n h test s o a =
      let p = both_of (is_over n c) (is_over n d) o in
      let q = both_of (are_steps_certain c) (has_no_step d) a.1 in
      let kc = kept integers line c n h test s p.0 (apart-first test c (all_steps test d) (has_no_step d) (counts d) a.0 a.1 a.2) in
      let v = elaborated integers line c h in
      let kd = kept integers line d n v.next (λ i. false) (omega (arith, s, kc.fits.grows)) p.1 (apart-none d q.1) in
      let w = elaborated integers line d v.next in
      through integers (λ x z y m. m)
      (keeps-both integers n (Stepped n test (λ i. occurrences i c + occurrences i d)) h (May integers c) (May integers d) _ w.next
      (tested v).condition (tested w).condition (two-truths integers line n h test c d (tested v).condition kc kd))
  kept integers line (either c d) n h test s o a =
      let p = both_of (is_over n c) (is_over n d) o in
      let q = both_of (are_steps_certain c) (has_no_step d) a.1 in
      let kc = kept integers line c n h test s p.0 (apart-first test c (all_steps test d) (has_no_step d) (counts d) a.0 a.1 a.2) in
      let v = elaborated integers line c h in
      let kd = kept integers line d n v.next (λ i. false) (omega (arith, s, kc.fits.grows)) p.1 (apart-none d q.1) in
      let w = elaborated integers line d v.next in
      through integers (λ x z y m. m)
      (keeps-either integers n (Stepped n test (λ i. occurrences i c + occurrences i d)) h (May integers c) (May integers d) _ w.next
      (tested v).condition (tested w).condition (two-truths integers line n h test c d (tree.negation (tested v).condition) kc kd))
  kept integers line (chosen sign c e f) n h test s o a =
      let p = both_of (is_over n c) (is_over n e && is_over n f) o in
      let p' = both_of (is_over n e) (is_over n f) p.1 in
      let q = both_of (are_steps_certain c) (has_no_step e && has_no_step f) a.1 in
      let q' = both_of (has_no_step e) (has_no_step f) q.1 in
      let kc = kept integers line c n h test s p.0
      (apart-first test c (all_steps test e && all_steps test f) (has_no_step e && has_no_step f)
      (λ i. occurrences i e + occurrences i f) a.0 a.1 a.2) in
      let v = elaborated integers line c h in
      let after : n ≤ v.next = omega (arith, s, kc.fits.grows) in
      let ke = kept integers line e n v.next (λ i. false) after p'.0 (apart-none e q'.0) in
      let u = numbered integers line (elaborated integers line e v.next) in
      let kf = kept integers line f n u.next (λ i. false)
      (omega (arith, after, (as-number integers line n v.next (λ i. false) e ke).fits.grows)) p'.1 (apart-none f q'.1) in
      through integers (λ x z y m. m) (one-number integers line n h test c e f kc ke kf)

  -- where arguments have values their prelude leaves what they leave
  pub all_kept : (integers : Integers) (line : ℕ) (es : Expressions) (n h : ℕ) (test : ℕ → Bool) → n ≤ h → IsTrue (are_over n es)
      → ApartIn test es
      → KeepsAll n (Stepped n test (counts_in es)) h (AllMay integers es) (evaluated integers line es h)
  all_kept integers line none n h test s o a = record {
    fits = fits-none n (Stepped n test (λ i. 0)) h s;
    keeps = λ x t y g m. (t, refl, same n x y t m g);
  }
  all_kept integers line (more e es) n h test s o a =
      let p = both_of (is_over n e) (are_over n es) o in
      let v = elaborated integers line e h in
      let k = kept integers line e n h test s p.0 (apart-head test e es a) in
      let l = all_kept integers line es n v.next test (omega (arith, s, k.fits.grows)) p.1 (apart-later test e es a) in
      let w = evaluated integers line es v.next in
      let S = Stepped n test (counts_in (more e es)) in
      record {
        fits = fits-then n S h v.next w.next v.prelude w.prelude
            (fits-more n (Stepped n test (counts e)) S h v.prelude v.next (wider-first n test (counts e) (counts_in es)) k.fits)
            (fits-more n (Stepped n test (counts_in es)) S v.next w.prelude w.next (wider-second n test (counts e) (counts_in es)) l.fits);
        keeps = λ x t y g m.
            let r = k.keeps x t m.1 m.0 g m.2 in
            let q = l.keeps m.0 r.0 y r.2 m.3 in (q.0, leave-then v.prelude w.prelude t r.0 q.0 r.1 q.1, q.2);
      }

  -- so where indexes are within their extents
  pub all_indexed : (integers : Integers) (line : ℕ) (is : Subscripts) (n h : ℕ) (test : ℕ → Bool) → n ≤ h
      → IsTrue (are_indexes_over n is) → ApartAt test is
      → KeepsAll n (Stepped n test (counts_at is)) h (AreIndexes integers is) (indexed integers line is h)
  all_indexed integers line no_subscript n h test s o a = record {
    fits = fits-none n (Stepped n test (λ i. 0)) h s;
    keeps = λ x t y g m. (t, refl, same n x y t m g);
  }
  all_indexed integers line (subscript extent bracket e is) n h test s o a =
      let p = both_of (is_over n e) (are_indexes_over n is) o in
      let k = as-number integers line n h test e (kept integers line e n h test s p.0 (apart-index test extent bracket e is a)) in
      let i = numbered integers line (elaborated integers line e h) in
      let about : Check = record { kind = Index; at = bracket } in
      let c = is_index extent i.form in
      let first = i.prelude ++ checks about c line ∷ [] in
      let f = fits-check n (Stepped n test (counts e)) h i.prelude i.next about c line k.fits in
      let l = all_indexed integers line is n i.next test (omega (arith, s, k.fits.grows)) p.1 (apart-next test extent bracket e is a) in
      let w = indexed integers line is i.next in
      let S = Stepped n test (counts_at (subscript extent bracket e is)) in
      record {
        fits = fits-then n S h i.next w.next first w.prelude
            (fits-more n (Stepped n test (counts e)) S h first i.next (wider-first n test (counts e) (counts_at is)) f)
            (fits-more n (Stepped n test (counts_at is)) S i.next w.prelude w.next (wider-second n test (counts e) (counts_at is)) l.fits);
        keeps = λ x t y g m.
            let r = k.keeps x t m.1 m.0 g m.2 in
            let q = leave-check i.prelude about c line t r.0 r.1 in
            let z = l.keeps m.0 r.0 y r.2 m.4 in (z.0, leave-then first w.prelude t r.0 z.0 q z.1, z.2);
      }
