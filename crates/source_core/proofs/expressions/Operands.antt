-- What is kept of operands that are evaluated one after another.
use Rattle.std.proofs.Common.{◌≡◌, ◌≢◌, ◌⊎◌, inl, inr, ⊎_elim, ℕ, suc, Bool, true, false, List, [], ◌∷◌, ◌++◌}
use Rattle.std.proofs.Common.{refl, sym, ap₂, subst, ◌∙◌, arith}
use Rattle.std.specs.Prelude.{ℤ, pos, ◌-ℤ◌}
use Rattle.lang_tree.specs.declared.form.Form.{Form}
use Rattle.lang_tree.specs.declared.cond.Rel.{Rel}
use Rattle.lang_tree.specs.Tree.{Condition}
use Rattle.lang_tree.specs.Tree as tree
use Rattle.lang_tree.specs.Meaning.{State, value, Relates, MayBe}
use Rattle.lang_tree.specs.Tree.{Deed, havocs, wheres}
use Rattle.source_tree.specs.Values.{truth_number, Tells, Compares}
use Rattle.source_core.specs.Forms.{variable_form}
use Rattle.source_core.specs.Preludes.{AllLeave, all_under}
use Rattle.source_core.specs.Laws.{Agree}
use Rattle.source_core.specs.Elaborated.{a_truth, Numbered, Tested, related, selects, choice}
use Rattle.source_core.proofs.forms.Forms.{value-minus}
use Rattle.source_core.proofs.forms.Over.{FormOver, over_more, over_minus, over_variable, ConditionOver, condition_over_more, value-agrees}
use Rattle.source_core.proofs.forms.Over.{may_be-agrees, agree_trans, agree_less}
use Rattle.source_core.proofs.preludes.Preludes.{WritesFrom, leave-then, leave-agrees, hidden-agrees, writes-under, leave-under}
use Rattle.source_core.proofs.preludes.Parts.{Written, Fits, fits-then, goes-given, given-one, one_of, Keeps, KeepsNumber, KeepsTruth}
use Rattle.source_core.proofs.expressions.Operated.{Both}
use Rattle.base_integers.specs.declared.integers.Integers.{Integers}

-- a form keeps its value on the way through deeds
abbrev pub Stays : List Deed → Form → Type 0
Stays ds f = (x y : State) → AllLeave ds x y → value f x ≡ value f y

-- ---- two numbers
-- two operands that are kept as numbers are kept together, one behind the other, where the form of the first keeps its value
pub both-numbered : (n : ℕ) (S : ℕ → Type 0) (h : ℕ) (P Q : State → ℤ → State → Type 0) (a b : Numbered) → Stays b.prelude a.form
    → KeepsNumber n S h P a → KeepsNumber n S a.next Q b
    → Both n S h (λ x u v y. (w : State) × P x u w × Q w v y) (a.prelude ++ b.prelude) b.next a.form b.form
both-numbered n S h P Q a b stays k l = record {
  fits = fits-then n S h a.next b.next a.prelude b.prelude k.fits l.fits;
  first_over = over_more a.next b.next a.form l.fits.grows k.over;
  second_over = l.over;
  keeps = λ x s u v y g m.
      let p = k.keeps x s u m.0 g m.1 in
      let q = l.keeps m.0 p.0 v y p.2 m.2 in
      (q.0, leave-then a.prelude b.prelude s p.0 q.0 p.1 q.1, q.2, p.3 ∙ stays p.0 q.0 q.1, q.3);
}

compares-forms : (t : Bool) (rel : Rel) (f g : Form) (y : State) (u v : ℤ) → u ≡ value f y → v ≡ value g y → Compares t rel u v
    → MayBe t (related rel f g) y
compares-forms true rel f g y u v p q h =
    subst (λ z. Relates rel z) (ap₂ (λ (a b : ℤ). a -ℤ b) p q ∙ sym (value-minus f g y)) h
compares-forms false rel f g y u v p q h =
    subst (λ z. ¬ (Relates rel z)) (ap₂ (λ (a b : ℤ). a -ℤ b) p q ∙ sym (value-minus f g y)) h

-- what a comparison of two operands tells is what its condition may be
pub keeps-compared : (integers : Integers) (n : ℕ) (S : ℕ → Type 0) (h : ℕ) (R : State → ℤ → ℤ → State → Type 0) (ds : List Deed) (m : ℕ)
    (rel : Rel) (f g : Form) → Both n S h R ds m f g
    → Keeps integers n S h (λ x z y. (u v : ℤ) × (t : Bool) × R x u v y × Compares t rel u v × (z ≡ truth_number t))
    record { prelude = ds; result = a_truth (related rel f g); next = m }
keeps-compared integers n S h R ds m rel f g b = record {
  fits = b.fits;
  over = over_minus m f g b.first_over b.second_over;
  keeps = λ x s z y a r. let k = b.keeps x s r.0 r.1 y a r.3 in
      (k.0, k.1, k.2, (r.2, compares-forms r.2 rel f g k.0 r.0 r.1 k.3 k.4 r.4, r.5));
}

-- ---- preludes whose checks stand under a condition
-- a prelude fits with its checks under a condition
pub fits-under : (n : ℕ) (S : ℕ → Type 0) (h : ℕ) (c : Condition) (ds : List Deed) (m : ℕ) → Fits n S h ds m
    → Fits n S h (all_under c ds) m
fits-under n S h c ds m f = record {
  above = f.above;
  grows = f.grows;
  writes = writes-under (Written S h) c ds f.writes;
  goes = λ x. let g = f.goes x in (g.0, leave-under c ds x g.0 g.1);
}

-- ---- two conditions, the checks of the second under another one
pub record Joint (n : ℕ) (S : ℕ → Type 0) (h : ℕ) (P Q : State → ℤ → State → Type 0) (ds : List Deed) (m : ℕ)
    (c d : Condition) : Type 0 where
  -- the prelude takes the hidden variables from h up to m
  pub fits : Fits n S h ds m
  -- the first condition has no variables but those that are taken
  pub first_over : ConditionOver m c
  -- nor has the second
  pub second_over : ConditionOver m d
  -- where the first has a value
  pub alone : (x s : State) (u : ℤ) (y : State) → Agree n x s → P x u y
      → (t : State) × AllLeave ds s t × Agree n y t × ((b : Bool) → Tells b u → MayBe b c t)
  -- where both have
  pub together : (x s : State) (u v : ℤ) (w y : State) → Agree n x s → P x u w → Q w v y
      → (t : State) × AllLeave ds s t × Agree n y t × ((b : Bool) → Tells b u → MayBe b c t) × ((b : Bool) → Tells b v → MayBe b d t)

-- two operands that are kept as conditions are kept together, the checks of the second under another condition, where the second writes
-- hidden variables alone
pub joint-tested : (n : ℕ) (S : ℕ → Type 0) (h : ℕ) (P Q : State → ℤ → State → Type 0) (a b : Tested) (c : Condition)
    → WritesFrom a.next b.prelude → KeepsTruth n S h P a → KeepsTruth n S a.next Q b
    → Joint n S h P Q (a.prelude ++ all_under c b.prelude) b.next a.condition b.condition
joint-tested n S h P Q a b c alone k l = record {
  fits = fits-then n S h a.next b.next a.prelude (all_under c b.prelude) k.fits (fits-under n S a.next c b.prelude b.next l.fits);
  first_over = condition_over_more a.next b.next a.condition l.fits.grows k.over;
  second_over = l.over;
  alone = λ x s u y g m.
      let p = k.keeps x s u y g m in
      let q = l.fits.goes p.0 in (
        q.0,
        leave-then a.prelude (all_under c b.prelude) s p.0 q.0 p.1 (leave-under c b.prelude p.0 q.0 q.1),
        hidden-agrees n a.next b.prelude y p.0 q.0 l.fits.above alone p.2 q.1,
        λ t e. may_be-agrees a.next t a.condition p.0 q.0 k.over (leave-agrees a.next b.prelude p.0 q.0 alone q.1) (p.3 t e),
      );
  together = λ x s u v w y g m r.
      let p = k.keeps x s u w g m in
      let q = l.keeps w p.0 v y p.2 r in (
        q.0,
        leave-then a.prelude (all_under c b.prelude) s p.0 q.0 p.1 (leave-under c b.prelude p.0 q.0 q.1),
        q.2,
        (λ t e. may_be-agrees a.next t a.condition p.0 q.0 k.over (leave-agrees a.next b.prelude p.0 q.0 alone q.1) (p.3 t e)),
        q.3,
      );
}

-- the values that `&&` of two operands may have
abbrev pub AndMay : (P Q : State → ℤ → State → Type 0) → State → ℤ → State → Type 0
AndMay P Q x z y =
    (P x (pos 0) y × (z ≡ pos 0))
    ⊎ ((w : State) × (a b : ℤ) × (t : Bool) × P x a w × (a ≢ pos 0) × Q w b y × Tells t b × (z ≡ truth_number t))

-- the values that `||` of two operands may have
abbrev pub OrMay : (P Q : State → ℤ → State → Type 0) → State → ℤ → State → Type 0
OrMay P Q x z y =
    ((a : ℤ) × P x a y × (a ≢ pos 0) × (z ≡ pos 1))
    ⊎ ((w : State) × (b : ℤ) × (t : Bool) × P x (pos 0) w × Q w b y × Tells t b × (z ≡ truth_number t))

-- what `&&` tells is what its condition may be
pub keeps-both : (integers : Integers) (n : ℕ) (S : ℕ → Type 0) (h : ℕ) (P Q : State → ℤ → State → Type 0) (ds : List Deed) (m : ℕ)
    (c d : Condition) → Joint n S h P Q ds m c d
    → Keeps integers n S h (AndMay P Q) record { prelude = ds; result = a_truth (tree.both c d); next = m }
keeps-both integers n S h P Q ds m c d j = record {
  fits = j.fits;
  over = (j.first_over, j.second_over);
  keeps = λ x s z y a r. ⊎_elim
      (λ k. let g = j.alone x s (pos 0) y a k.0 in (g.0, g.1, g.2, (false, inl (g.3 false refl), k.1)))
      (λ k.
      let g = j.together x s k.1 k.2 k.0 y a k.4 k.6 in
      (g.0, g.1, g.2, (k.3, true_as k.3 g.0 (g.3 true k.5) (g.4 k.3 k.7), k.8))) r;
}
  where
    true_as : (t : Bool) (y : State) → MayBe true c y → MayBe t d y → MayBe t (tree.both c d) y
    true_as true y a b = (a, b)
    true_as false y a b = inr b

-- what `||` tells is what its condition may be
pub keeps-either : (integers : Integers) (n : ℕ) (S : ℕ → Type 0) (h : ℕ) (P Q : State → ℤ → State → Type 0) (ds : List Deed) (m : ℕ)
    (c d : Condition) → Joint n S h P Q ds m c d
    → Keeps integers n S h (OrMay P Q) record { prelude = ds; result = a_truth (tree.either c d); next = m }
keeps-either integers n S h P Q ds m c d j = record {
  fits = j.fits;
  over = (j.first_over, j.second_over);
  keeps = λ x s z y a r. ⊎_elim
      (λ k. let g = j.alone x s k.0 y a k.1 in (g.0, g.1, g.2, (true, inl (g.3 true k.2), k.3)))
      (λ k.
      let g = j.together x s (pos 0) k.1 k.0 y a k.3 k.4 in
      (g.0, g.1, g.2, (k.2, false_as k.2 g.0 (g.3 false refl) (g.4 k.2 k.5), k.6))) r;
}
  where
    false_as : (t : Bool) (y : State) → MayBe false c y → MayBe t d y → MayBe t (tree.either c d) y
    false_as true y a b = inr b
    false_as false y a b = (a, b)

-- ---- one of two numbers
-- the values that `?:` of three operands may have
abbrev pub OneMay : (P Q R : State → ℤ → State → Type 0) → State → ℤ → State → Type 0
OneMay P Q R x z y = ((w : State) × (a : ℤ) × P x a w × (a ≢ pos 0) × Q w z y) ⊎ ((w : State) × P x (pos 0) w × R w z y)

-- each value that `?:` may have is one that its hidden variable may have, where both sides write hidden variables alone
pub keeps-choice : (integers : Integers) (line n : ℕ) (S : ℕ → Type 0) (h : ℕ) (P Q R : State → ℤ → State → Type 0) (c : Tested)
    (f g : Numbered) → WritesFrom c.next f.prelude → WritesFrom f.next g.prelude → KeepsTruth n S h P c
    → KeepsNumber n S c.next Q f → KeepsNumber n S f.next R g → Keeps integers n S h (OneMay P Q R) (choice line c f g)
keeps-choice integers line n S h P Q R c f g alone_yes alone_no k l m = record {
  fits = fits-then n S h c.next (suc g.next) c.prelude (one ++ (two ++ last)) k.fits
      (fits-then n S c.next f.next (suc g.next) one (two ++ last) (fits-under n S c.next c.condition f.prelude f.next l.fits)
      (fits-then n S f.next g.next (suc g.next) two last (fits-under n S f.next (tree.negation c.condition) g.prelude g.next m.fits)
      (goes-given line n S c.condition g.next f.form g.form (omega (arith, m.fits.above, m.fits.grows)) over_c over_f m.over)));
  over = over_variable (suc g.next) g.next (omega arith);
  keeps = λ x s z y a r. ⊎_elim (λ p. yes x s z y a p.0 p.1 p.2 p.3 p.4) (λ p. no x s z y a p.0 p.1 p.2) r;
}
  where
    one : List Deed
    one = all_under c.condition f.prelude

    two : List Deed
    two = all_under (tree.negation c.condition) g.prelude

    last : List Deed
    last = havocs g.next line ∷ wheres (selects c.condition g.next f.form g.form) line ∷ []

    over_c : ConditionOver g.next c.condition
    over_c = condition_over_more c.next g.next c.condition (omega (arith, l.fits.grows, m.fits.grows)) k.over

    over_f : FormOver g.next f.form
    over_f = over_more f.next g.next f.form m.fits.grows l.over

    -- both preludes behind that of the condition, and the value that the last deeds give
    ends : (s p q r y : State) (t : Bool) (z : ℤ) → AllLeave c.prelude s p → AllLeave f.prelude p q → AllLeave g.prelude q r
        → Agree n y r → MayBe t c.condition p → z ≡ value (one_of t f.form g.form) r
        → (w : State) × AllLeave (c.prelude ++ (one ++ (two ++ last))) s w × Agree n y w × (z ≡ value (variable_form g.next) w)
    ends s p q r y t z a b d agree truth e =
        let pq = leave-agrees c.next f.prelude p q alone_yes b in
        let qr = agree_less c.next f.next q r l.fits.grows (leave-agrees f.next g.prelude q r alone_no d) in
        let at_r = may_be-agrees c.next t c.condition p r k.over (agree_trans c.next p q r pq qr) truth in
        let w = given-one line t c.condition g.next f.form g.form r over_c over_f m.over at_r in (
          w.0,
          leave-then c.prelude (one ++ (two ++ last)) s p w.0 a
              (leave-then one (two ++ last) p q w.0 (leave-under c.condition f.prelude p q b)
              (leave-then two last q r w.0 (leave-under (tree.negation c.condition) g.prelude q r d) w.1)),
          hidden-agrees n g.next last y r w.0 (omega (arith, m.fits.above, m.fits.grows)) (omega arith, tt) agree w.1,
          e ∙ w.2,
        )

    yes : (x s : State) (z : ℤ) (y : State) → Agree n x s → (w : State) (a : ℤ) → P x a w → a ≢ pos 0 → Q w z y
        → (t : State) × AllLeave (c.prelude ++ (one ++ (two ++ last))) s t × Agree n y t × (z ≡ value (variable_form g.next) t)
    yes x s z y agree w a u none v =
        let p = k.keeps x s a w agree u in
        let q = l.keeps w p.0 z y p.2 v in
        let r = m.fits.goes q.0 in
        ends s p.0 q.0 r.0 y true z p.1 q.1 r.1 (hidden-agrees n f.next g.prelude y q.0 r.0 m.fits.above alone_no q.2 r.1) (p.3 true none)
        (q.3 ∙ value-agrees f.next f.form q.0 r.0 l.over (leave-agrees f.next g.prelude q.0 r.0 alone_no r.1))

    no : (x s : State) (z : ℤ) (y : State) → Agree n x s → (w : State) → P x (pos 0) w → R w z y
        → (t : State) × AllLeave (c.prelude ++ (one ++ (two ++ last))) s t × Agree n y t × (z ≡ value (variable_form g.next) t)
    no x s z y agree w u v =
        let p = k.keeps x s (pos 0) w agree u in
        let q = l.fits.goes p.0 in
        let r = m.keeps w q.0 z y (hidden-agrees n c.next f.prelude w p.0 q.0 l.fits.above alone_yes p.2 q.1) v in
        ends s p.0 q.0 r.0 y false z p.1 q.1 r.1 r.2 (p.3 false refl) r.3
