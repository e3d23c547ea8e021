-- What an expression without its places is in the core: the same, but for the lines and places of its deeds.
use Rattle.std.proofs.Common.{◌≡◌, ◌∙◌, ◌++◌, ◌∷◌, ℕ, suc, ℤ, pos, Bool, true, false, List, [], refl, ap, ap₂, subst}
use Rattle.std.proofs.Common.{if◌then◌else◌}
use Rattle.lang_tree.specs.declared.form.Form.{Form}
use Rattle.lang_tree.specs.declared.cond.Rel.TheVariants.{Ne}
use Rattle.lang_tree.specs.declared.check.CheckKind.TheVariants.{Divisor, Index, Range}
use Rattle.lang_tree.specs.Tree as tree
use Rattle.lang_tree.specs.Tree.{Condition, Deed, havocs, wheres}
use Rattle.source_tree.specs.Expressions.{Operation, plus, minus, times, over, remainder}
use Rattle.source_tree.specs.Expressions.{Expression, Expressions, number, variable, unknown, call, element, grouped, negative, positive}
use Rattle.source_tree.specs.Expressions.{inverse, joined, compared, both, either, chosen, none, more, Extent, Subscripts, no_subscript}
use Rattle.source_tree.specs.Expressions.{subscript}
use Rattle.source_core.specs.Forms as form
use Rattle.source_core.specs.Forms.{constant_form, variable_form, opposite, is_constant}
use Rattle.source_core.specs.Preludes.{all_under}
use Rattle.source_core.specs.Elaborated.{Result, a_form, a_truth, any, Elaborated, Numbered, Tested, Evaluated, related, selects}
use Rattle.source_core.specs.Elaborated.{tested, form_behind, is_unit, is_divisor, is_index, as_number, numbered, product}
use Rattle.source_core.specs.Elaborated.{unless_zero, quotient_by, remainder_by, operated, index_behind, choice, elaborated, evaluated}
use Rattle.source_core.specs.Elaborated.{checked, divides, havocked, is_held, operation_held, form_in, held, ranged, number_at, has}
use Rattle.source_tree.specs.Expressions.{Direction, Moment, stepped}
use Rattle.source_tree.specs.Values.{step_by}
use Rattle.source_core.specs.Elaborated.{indexed, step_behind, step_form}
use Rattle.source_core.specs.Elaborated.{operation_on}
use Rattle.source_core.specs.Core.{taken_any}
use Rattle.acsl_shift.specs.Sources.{expression_without, expressions_without, subscripts_without}
use Rattle.acsl_shift.proofs.moves.Deeds.{bare_deeds, bare_append, bare_under}
use Rattle.base_integers.specs.declared.integers.Integers.{Integers}
use Rattle.base_integers.specs.declared.integers.Integers.TheVariants.{Mathematical, Machine}
use Rattle.base_integers.specs.declared.integers.Width.{Width}

-- without the lines and places of its prelude
abbrev pub bare : Elaborated → Elaborated
bare e = record { prelude = bare_deeds e.prelude; result = e.result; next = e.next }

-- likewise as a number
abbrev pub bare_number : Numbered → Numbered
bare_number a = record { prelude = bare_deeds a.prelude; form = a.form; next = a.next }

-- as a condition
abbrev pub bare_test : Tested → Tested
bare_test a = record { prelude = bare_deeds a.prelude; condition = a.condition; next = a.next }

-- and a prelude alone
abbrev pub bare_evaluated : Evaluated → Evaluated
bare_evaluated a = record { prelude = bare_deeds a.prelude; next = a.next }

-- a result and the next hidden variable behind a prelude
abbrev behind : Result → ℕ → List Deed → Elaborated
behind r h ds = record { prelude = ds; result = r; next = h }

-- a prelude alone
abbrev alone : Elaborated → Evaluated
alone e = record { prelude = e.prelude; next = e.next }

-- a choice of two
if_bare : (b : Bool) (x y z w : Elaborated) → bare x ≡ z → bare y ≡ w → bare (if b then x else y) ≡ (if b then z else w)
if_bare true x y z w h i = h
if_bare false x y z w h i = i

-- ---- machine integers
-- any of them is taken
pub any_bare : (integers : Integers) (line var : ℕ) → bare_deeds (taken_any integers var line) ≡ taken_any integers var 0
any_bare Mathematical line var = refl
any_bare (Machine width) line var = refl

-- an operation with a check that its result is one
ranged_bare : (integers : Integers) (line place : ℕ) (holds : Width → Form → Condition) (e : Elaborated)
    → bare (ranged integers line place holds e) ≡ ranged integers 0 0 holds (bare e)
ranged_bare Mathematical line place holds e = refl
ranged_bare (Machine width) line place holds e =
    ap (behind e.result e.next) (bare_append e.prelude (checked line Range place (holds width (form_in e.result)) ∷ []))

-- a number of the text
number_bare : (integers : Integers) (line : ℕ) (v : ℤ) (at h : ℕ) → bare (number_at integers line v at h) ≡ number_at integers 0 v 0 h
number_bare Mathematical line v at h = refl
number_bare (Machine width) line v at h = if_bare (has width v) _ _ _ _ refl refl

module _ (integers : Integers) (line : ℕ) where
  -- any of the integers is taken behind a prelude
  behind_any : (ds : List Deed) (h : ℕ)
      → bare_deeds (ds ++ havocs h line ∷ held integers line h) ≡ bare_deeds ds ++ havocs h 0 ∷ held integers 0 h
  behind_any ds h = bare_append ds (taken_any integers h line) ∙ ap (λ (es : List Deed). bare_deeds ds ++ es) (any_bare integers line h)

  -- a result as a number
  as_number_bare : (ds : List Deed) (h : ℕ) (r : Result)
      → bare_number (as_number integers line ds h r) ≡ as_number integers 0 (bare_deeds ds) h r
  as_number_bare ds h (a_form f) = refl
  as_number_bare ds h (a_truth c) =
      ap (λ (x : List Deed). let a : Numbered = record { prelude = x; form = variable_form h; next = suc h } in a)
      (bare_append ds (havocs h line ∷ wheres (selects c h (constant_form (pos 1)) (constant_form (pos 0))) line ∷ []))
  as_number_bare ds h any =
      ap (λ (x : List Deed). let a : Numbered = record { prelude = x; form = variable_form h; next = suc h } in a) (behind_any ds h)

  -- an expression as a number
  pub numbered_bare : (e : Elaborated) (f : Elaborated) → bare e ≡ f → bare_number (numbered integers line e) ≡ numbered integers 0 f
  numbered_bare e f h = as_number_bare e.prelude e.next e.result ∙ ap (λ (x : Elaborated). numbered integers 0 x) h

  -- any number
  havocked_bare : (ds : List Deed) (h : ℕ) → bare (havocked integers line ds h) ≡ havocked integers 0 (bare_deeds ds) h
  havocked_bare ds h = ap (behind (a_form (variable_form h)) (suc h)) (behind_any ds h)

  -- a product
  product_bare : (ds : List Deed) (h : ℕ) (f g : Form) → bare (product integers line ds h f g) ≡ product integers 0 (bare_deeds ds) h f g
  product_bare ds h f g = if_bare (is_constant f) _ _ _ _ refl (if_bare (is_constant g) _ _ _ _ refl (havocked_bare ds h))

  -- behind a check of the divisor
  unless_bare : (ds : List Deed) (h sign : ℕ) (g : Form)
      → bare (unless_zero integers line ds h sign g) ≡ unless_zero integers 0 (bare_deeds ds) h 0 g
  unless_bare ds h sign g =
      havocked_bare (ds ++ checked line Divisor sign (related Ne g (constant_form (pos 0))) ∷ []) h
      ∙ ap (λ (x : List Deed). havocked integers 0 x h)
      (bare_append ds (checked line Divisor sign (related Ne g (constant_form (pos 0))) ∷ []))

  -- a quotient by a number
  quotient_bare : (ds : List Deed) (h : ℕ) (f : Form) (c : ℤ) → bare (quotient_by line ds h f c) ≡ quotient_by 0 (bare_deeds ds) h f c
  quotient_bare ds h f c =
      if_bare (is_unit c) _ _ _ _ refl (if_bare (is_constant f) _ _ _ _ refl
      (ap (behind (a_form (variable_form h)) (suc h)) (bare_append ds (havocs h line ∷ wheres (divides f c h) line ∷ []))))

  -- a remainder by a number
  remainder_bare : (ds : List Deed) (h : ℕ) (f : Form) (c : ℤ) → bare (remainder_by line ds h f c) ≡ remainder_by 0 (bare_deeds ds) h f c
  remainder_bare ds h f c =
      if_bare (is_unit c) _ _ _ _ refl (if_bare (is_constant f) _ _ _ _ refl
      (ap (behind (a_form (form.minus f (form.scaled c (variable_form h)))) (suc h))
      (bare_append ds (havocs h line ∷ wheres (divides f c h) line ∷ []))))

  -- an operation
  operated_bare : (o : Operation) (sign : ℕ) (ds : List Deed) (h : ℕ) (f g : Form)
      → bare (operated integers line o sign ds h f g) ≡ operated integers 0 o 0 (bare_deeds ds) h f g
  operated_bare plus sign ds h f g = refl
  operated_bare minus sign ds h f g = refl
  operated_bare times sign ds h f g = product_bare ds h f g
  operated_bare over sign ds h f g = if_bare (is_divisor g) _ _ _ _ (quotient_bare ds h f g.constant) (unless_bare ds h sign g)
  operated_bare remainder sign ds h f g = if_bare (is_divisor g) _ _ _ _ (remainder_bare ds h f g.constant) (unless_bare ds h sign g)

  -- with a check of its result
  operation_bare : (o : Operation) (sign : ℕ) (ds : List Deed) (h : ℕ) (f g : Form)
      → bare (operation_on integers line o sign ds h f g) ≡ operation_on integers 0 o 0 (bare_deeds ds) h f g
  operation_bare o sign ds h f g =
      ranged_bare integers line sign (λ width r. operation_held width o f g r) (operated integers line o sign ds h f g)
      ∙ ap (λ (x : Elaborated). ranged integers 0 0 (λ width r. operation_held width o f g r) x) (operated_bare o sign ds h f g)

  -- a step
  step_bare : (direction : Direction) (moment : Moment) (i sign h : ℕ)
      → bare (step_behind integers line direction moment i sign h) ≡ step_behind integers 0 direction moment i 0 h
  step_bare direction moment i sign h =
      let one = constant_form (pos 1) in
      let a = operation_on integers line (step_by direction) sign [] h (variable_form i) one in
      let left = step_form direction moment i in
      ap (behind (a_form left) a.next) (bare_append a.prelude (tree.sets i (form_in a.result) line ∷ []))
      ∙ ap (λ (x : Elaborated). form_behind (x.prelude ++ tree.sets i (form_in x.result) 0 ∷ []) x.next left)
      (operation_bare (step_by direction) sign [] h (variable_form i) one)

  -- an index with its check
  index_bare : (extent : Extent) (bracket : ℕ) (i j : Numbered) → bare_number i ≡ j
      → bare_evaluated (index_behind line extent bracket i) ≡ index_behind 0 extent 0 j
  index_bare extent bracket i j h =
      ap (λ (ds : List Deed). let e : Evaluated = record { prelude = ds; next = i.next } in e)
      (bare_append i.prelude (checked line Index bracket (is_index extent i.form) ∷ []))
      ∙ ap (λ (x : Numbered). index_behind 0 extent 0 x) h

  -- what is made of two numbers, the second behind the first
  two_numbers : (K L : List Deed → ℕ → Form → Form → Elaborated)
      → ((ds : List Deed) (h : ℕ) (f g : Form) → bare (K ds h f g) ≡ L (bare_deeds ds) h f g)
      → (a x : Numbered) → bare_number a ≡ x → (b : Numbered) (y : ℕ → Numbered) → bare_number b ≡ y a.next
      → bare (K (a.prelude ++ b.prelude) b.next a.form b.form) ≡ L (x.prelude ++ (y x.next).prelude) (y x.next).next x.form (y x.next).form
  two_numbers K L same a x ea b y eb =
      let P : Numbered → Type 0 = λ z. bare (K (a.prelude ++ b.prelude) b.next a.form b.form)
      ≡ L (z.prelude ++ (y z.next).prelude) (y z.next).next z.form (y z.next).form in
      let Q : Numbered → Type 0 = λ z. bare (K (a.prelude ++ b.prelude) b.next a.form b.form)
      ≡ L (bare_deeds a.prelude ++ z.prelude) z.next a.form z.form in
      subst P ea (subst Q eb (same (a.prelude ++ b.prelude) b.next a.form b.form
      ∙ ap (λ (ds : List Deed). L ds b.next a.form b.form) (bare_append a.prelude b.prelude)))

  -- what is made of two conditions, the checks of the second under one that the first gives
  two_tests : (F : Condition → Condition) (G : Condition → Condition → Result) (a x : Tested) → bare_test a ≡ x → (b : Tested)
      (y : ℕ → Tested) → bare_test b ≡ y a.next → bare (behind (G a.condition b.condition) b.next
      (a.prelude ++ all_under (F a.condition) b.prelude))
      ≡ behind (G x.condition (y x.next).condition) (y x.next).next (x.prelude ++ all_under (F x.condition) (y x.next).prelude)
  two_tests F G a x ea b y eb =
      let K = behind (G a.condition b.condition) b.next (a.prelude ++ all_under (F a.condition) b.prelude) in
      let P : Tested → Type 0 = λ z. bare K
      ≡ behind (G z.condition (y z.next).condition) (y z.next).next (z.prelude ++ all_under (F z.condition) (y z.next).prelude) in
      let Q : Tested → Type 0 = λ z. bare K
      ≡ behind (G a.condition z.condition) z.next (bare_deeds a.prelude ++ all_under (F a.condition) z.prelude) in
      subst P ea (subst Q eb (ap (behind (G a.condition b.condition) b.next)
      (bare_append a.prelude (all_under (F a.condition) b.prelude)
      ∙ ap (λ (ds : List Deed). bare_deeds a.prelude ++ ds) (bare_under (F a.condition) b.prelude))))

  -- the prelude of a choice
  choice_prelude : (c : Tested) (f g : Numbered) → bare (choice line c f g) ≡ choice 0 (bare_test c) (bare_number f) (bare_number g)
  choice_prelude c f g =
      let last = havocs g.next line ∷ wheres (selects c.condition g.next f.form g.form) line ∷ [] in
      let yes = all_under c.condition f.prelude in
      let not = all_under (tree.negation c.condition) g.prelude in
      ap (behind (a_form (variable_form g.next)) (suc g.next))
      (bare_append c.prelude (yes ++ (not ++ last))
      ∙ ap (λ (ds : List Deed). bare_deeds c.prelude ++ ds)
      (bare_append yes (not ++ last)
      ∙ ap₂ (λ (ds es : List Deed). ds ++ es) (bare_under c.condition f.prelude)
      (bare_append not last ∙ ap (λ (ds : List Deed). ds ++ bare_deeds last) (bare_under (tree.negation c.condition) g.prelude))))

  -- a choice, each part behind those before it
  choice_bare : (c x : Tested) → bare_test c ≡ x → (f : Numbered) (y : ℕ → Numbered) → bare_number f ≡ y c.next
      → (g : Numbered) (z : ℕ → Numbered) → bare_number g ≡ z f.next
      → bare (choice line c f g) ≡ choice 0 x (y x.next) (z (y x.next).next)
  choice_bare c x ec f y ef g z eg =
      let P : Tested → Type 0 = λ w. bare (choice line c f g) ≡ choice 0 w (y w.next) (z (y w.next).next) in
      let Q : Numbered → Type 0 = λ w. bare (choice line c f g) ≡ choice 0 (bare_test c) w (z w.next) in
      let R : Numbered → Type 0 = λ w. bare (choice line c f g) ≡ choice 0 (bare_test c) (bare_number f) w in
      subst P ec (subst Q ef (subst R eg (choice_prelude c f g)))

  -- what is evaluated one behind the other
  more_bare : (a x : Evaluated) → bare_evaluated a ≡ x → (b : Evaluated) (y : ℕ → Evaluated) → bare_evaluated b ≡ y a.next
      → (let e : Evaluated = record { prelude = bare_deeds (a.prelude ++ b.prelude); next = b.next } in e)
      ≡ (let e : Evaluated = record { prelude = x.prelude ++ (y x.next).prelude; next = (y x.next).next } in e)
  more_bare a x ea b y eb =
      let both_of : List Deed → Evaluated → Evaluated = λ ds e. record { prelude = ds ++ e.prelude; next = e.next } in
      let now : Evaluated = record { prelude = bare_deeds (a.prelude ++ b.prelude); next = b.next } in
      let P : Evaluated → Type 0 = λ z. now ≡ both_of z.prelude (y z.next) in
      let Q : Evaluated → Type 0 = λ z. now ≡ both_of (bare_deeds a.prelude) z in
      subst P ea (subst Q eb (ap (λ (ds : List Deed). let e : Evaluated = record { prelude = ds; next = b.next } in e)
      (bare_append a.prelude b.prelude)))

  -- an expression that is evaluated to a condition
  tested_bare : (e : Elaborated) (f : Elaborated) → bare e ≡ f → bare_test (tested e) ≡ tested f
  tested_bare e f h = ap (λ (x : Elaborated). tested x) h

  mutual
    -- an expression
    pub elaborated_bare : (e : Expression) (h : ℕ) → bare (elaborated integers line e h) ≡ elaborated integers 0 (expression_without e) h
    elaborated_bare (number v at) h = number_bare integers line v at h
    elaborated_bare (variable i at) h = refl
    elaborated_bare (unknown at) h = refl
    elaborated_bare (call es at) h = ap (λ (x : Evaluated). behind any x.next x.prelude) (evaluated_bare es h)
    elaborated_bare (element is at) h = ap (λ (x : Evaluated). behind any x.next x.prelude) (indexed_bare is h)
    elaborated_bare (stepped direction moment i sign at) h = step_bare direction moment i sign h
    elaborated_bare (grouped at e) h = elaborated_bare e h
    elaborated_bare (negative at e) h =
        let a = numbered integers line (elaborated integers line e h) in
        ranged_bare integers line at is_held (form_behind a.prelude a.next (opposite a.form))
        ∙ ap (λ (a : Numbered). ranged integers 0 0 is_held (form_behind a.prelude a.next (opposite a.form)))
        (numbered_bare (elaborated integers line e h) (elaborated integers 0 (expression_without e) h) (elaborated_bare e h))
    elaborated_bare (positive at e) h = ap (λ (a : Numbered). form_behind a.prelude a.next a.form)
        (numbered_bare (elaborated integers line e h) (elaborated integers 0 (expression_without e) h) (elaborated_bare e h))
    elaborated_bare (inverse at e) h = ap (λ (a : Tested). behind (a_truth (tree.negation a.condition)) a.next a.prelude)
        (tested_bare (elaborated integers line e h) (elaborated integers 0 (expression_without e) h) (elaborated_bare e h))
    elaborated_bare (joined o sign e f) h =
        let a = numbered integers line (elaborated integers line e h) in
        two_numbers (operation_on integers line o sign) (operation_on integers 0 o 0) (operation_bare o sign) a (numbered integers 0
        (elaborated integers 0 (expression_without e) h))
        (numbered_bare (elaborated integers line e h) (elaborated integers 0 (expression_without e) h) (elaborated_bare e h))
        (numbered integers line (elaborated integers line f a.next))
        (λ n. numbered integers 0 (elaborated integers 0 (expression_without f) n))
        (numbered_bare (elaborated integers line f a.next) (elaborated integers 0 (expression_without f) a.next) (elaborated_bare f a.next))
    elaborated_bare (compared rel sign e f) h =
        let a = numbered integers line (elaborated integers line e h) in
        let K : List Deed → ℕ → Form → Form → Elaborated = λ ds n x y. behind (a_truth (related rel x y)) n ds in
        two_numbers K K (λ ds n x y. refl) a (numbered integers 0 (elaborated integers 0 (expression_without e) h))
        (numbered_bare (elaborated integers line e h) (elaborated integers 0 (expression_without e) h) (elaborated_bare e h))
        (numbered integers line (elaborated integers line f a.next))
        (λ n. numbered integers 0 (elaborated integers 0 (expression_without f) n))
        (numbered_bare (elaborated integers line f a.next) (elaborated integers 0 (expression_without f) a.next) (elaborated_bare f a.next))
    elaborated_bare (both c d) h =
        let a = tested (elaborated integers line c h) in
        two_tests (λ x. x) (λ x y. a_truth (tree.both x y)) a (tested (elaborated integers 0 (expression_without c) h))
        (tested_bare (elaborated integers line c h) (elaborated integers 0 (expression_without c) h) (elaborated_bare c h))
        (tested (elaborated integers line d a.next)) (λ n. tested (elaborated integers 0 (expression_without d) n))
        (tested_bare (elaborated integers line d a.next) (elaborated integers 0 (expression_without d) a.next) (elaborated_bare d a.next))
    elaborated_bare (either c d) h =
        let a = tested (elaborated integers line c h) in
        two_tests tree.negation (λ x y. a_truth (tree.either x y)) a (tested (elaborated integers 0 (expression_without c) h))
        (tested_bare (elaborated integers line c h) (elaborated integers 0 (expression_without c) h) (elaborated_bare c h))
        (tested (elaborated integers line d a.next)) (λ n. tested (elaborated integers 0 (expression_without d) n))
        (tested_bare (elaborated integers line d a.next) (elaborated integers 0 (expression_without d) a.next) (elaborated_bare d a.next))
    elaborated_bare (chosen sign c e f) h =
        let a = tested (elaborated integers line c h) in
        let b = numbered integers line (elaborated integers line e a.next) in
        choice_bare a (tested (elaborated integers 0 (expression_without c) h))
        (tested_bare (elaborated integers line c h) (elaborated integers 0 (expression_without c) h) (elaborated_bare c h))
        b (λ n. numbered integers 0 (elaborated integers 0 (expression_without e) n))
        (numbered_bare (elaborated integers line e a.next) (elaborated integers 0 (expression_without e) a.next) (elaborated_bare e a.next))
        (numbered integers line (elaborated integers line f b.next))
        (λ n. numbered integers 0 (elaborated integers 0 (expression_without f) n))
        (numbered_bare (elaborated integers line f b.next) (elaborated integers 0 (expression_without f) b.next) (elaborated_bare f b.next))

    -- expressions one behind the other
    pub evaluated_bare : (es : Expressions) (h : ℕ)
        → bare_evaluated (evaluated integers line es h) ≡ evaluated integers 0 (expressions_without es) h
    evaluated_bare none h = refl
    evaluated_bare (more e es) h =
        let a = elaborated integers line e h in
        more_bare (alone a) (alone (elaborated integers 0 (expression_without e) h))
        (ap (λ (x : Elaborated). alone x) (elaborated_bare e h)) (evaluated integers line es a.next)
        (λ n. evaluated integers 0 (expressions_without es) n) (evaluated_bare es a.next)

    -- indexes one behind the other
    indexed_bare : (is : Subscripts) (h : ℕ) → bare_evaluated (indexed integers line is h) ≡ indexed integers 0 (subscripts_without is) h
    indexed_bare no_subscript h = refl
    indexed_bare (subscript extent bracket e is) h =
        let i = numbered integers line (elaborated integers line e h) in
        let j = numbered integers 0 (elaborated integers 0 (expression_without e) h) in
        more_bare (index_behind line extent bracket i) (index_behind 0 extent 0 j)
        (index_bare extent bracket i j
        (numbered_bare (elaborated integers line e h) (elaborated integers 0 (expression_without e) h) (elaborated_bare e h)))
        (indexed integers line is i.next) (λ n. indexed integers 0 (subscripts_without is) n) (indexed_bare is i.next)
