-- What is kept of an operand in the core: as any result, as a number, and as a condition.
use Rattle.std.proofs.Common.{◌≡◌, ◌⊎◌, inl, inr, ◌≤◌, ℕ, suc, Bool, true, false, List, [], ◌∷◌, ◌++◌}
use Rattle.std.proofs.Common.{refl, sym, ◌∙◌, arith}
use Rattle.std.specs.Prelude.{ℤ, pos, ◌-ℤ◌}
use Rattle.std.proofs.lemmas.Int.{ints}
use Rattle.lang_tree.specs.declared.form.Form.{Form}
use Rattle.lang_tree.specs.Tree.{Condition}
use Rattle.lang_tree.specs.Meaning.{State, put, value, MayBe}
use Rattle.lang_tree.proofs.Put.{get_or-put_same}
use Rattle.lang_tree.specs.Tree.{Deed, havocs, wheres}
use Rattle.source_tree.specs.Values.{Tells}
use Rattle.source_core.specs.Forms.{variable_form}
use Rattle.source_core.specs.Preludes.{AllLeave}
use Rattle.source_core.specs.Laws.{Agree, MayResult}
use Rattle.source_core.specs.Elaborated.{Result, a_form, a_truth, any, Elaborated, Numbered, Tested}
use Rattle.source_core.specs.Elaborated.{selects}
use Rattle.source_core.proofs.forms.Forms.{value-minus, value-variable}
use Rattle.source_core.proofs.forms.Over.{FormOver, ConditionOver, value-agrees, may_be-agrees, has_truth}
use Rattle.source_core.proofs.preludes.Preludes.{leave-then, WritesIn, WritesFrom, writes-then, writes-more, leave-agrees}
use Rattle.base_integers.specs.declared.integers.Integers.{Integers}

-- a prelude stops no run
abbrev pub Goes : List Deed → Type 0
Goes ds = (x : State) → (y : State) × AllLeave ds x y

-- two preludes that stop no run stop none one behind the other
pub goes-then : (ds es : List Deed) → Goes ds → Goes es → Goes (ds ++ es)
goes-then ds es g h x = let p = g x in let q = h p.0 in (q.0, leave-then ds es x p.0 q.0 p.1 q.1)

-- no coefficients in a result but for the first n variables
abbrev pub ResultOver : ℕ → Result → Type 0
ResultOver n (a_form f) = FormOver n f
ResultOver n (a_truth c) = ConditionOver n c
ResultOver n any = Unit {0}

-- what may be written: these variables, and those from h on
abbrev pub Written : (ℕ → Type 0) → ℕ → ℕ → Type 0
Written S h i = S i ⊎ (h ≤ i)

-- a prelude that stops no run and writes these of the first n variables, and hidden variables from h up to another number
pub record Fits (n : ℕ) (S : ℕ → Type 0) (h : ℕ) (ds : List Deed) (next : ℕ) : Type 0 where
  -- hidden variables stand behind the others
  pub above : n ≤ h
  -- they are taken upwards
  pub grows : h ≤ next
  -- other variables are kept
  pub writes : WritesIn (Written S h) ds
  -- from each state a state is left
  pub goes : Goes ds

-- an empty prelude takes no hidden variable
pub fits-none : (n : ℕ) (S : ℕ → Type 0) (h : ℕ) → n ≤ h → Fits n S h [] h
fits-none n S h a = record { above = a; grows = omega arith; writes = tt; goes = λ x. (x, refl) }

-- two preludes fit one behind the other, where the second takes hidden variables from where the first ends
pub fits-then : (n : ℕ) (S : ℕ → Type 0) (h m k : ℕ) (ds es : List Deed) → Fits n S h ds m → Fits n S m es k → Fits n S h (ds ++ es) k
fits-then n S h m k ds es f g = record {
  above = f.above;
  grows = omega (arith, f.grows, g.grows);
  writes = writes-then (Written S h) ds es f.writes (writes-more (Written S m) (Written S h) es later g.writes);
  goes = goes-then ds es f.goes g.goes;
}
  where
    later : (i : ℕ) → Written S m i → Written S h i
    later i (inl s) = inl s
    later i (inr l) = let u = f.grows in inr (omega (arith, u, l))

-- a prelude that writes these of the first n variables writes none but more of them
pub fits-more : (n : ℕ) (S V : ℕ → Type 0) (h : ℕ) (ds : List Deed) (next : ℕ) → ((i : ℕ) → S i → V i) → Fits n S h ds next
    → Fits n V h ds next
fits-more n S V h ds next m f = record {
  above = f.above;
  grows = f.grows;
  writes = writes-more (Written S h) (Written V h) ds more f.writes;
  goes = f.goes;
}
  where
    more : (i : ℕ) → Written S h i → Written V h i
    more i (inl s) = inl (m i s)
    more i (inr l) = inr l

-- where none of the first n is written, hidden variables are alone
pub hidden-alone : (n : ℕ) (S : ℕ → Type 0) (h : ℕ) (ds : List Deed) (next : ℕ) → ((i : ℕ) → S i → ⊥) → Fits n S h ds next
    → WritesFrom h ds
hidden-alone n S h ds next none f = writes-more (Written S h) (λ i. h ≤ i) ds alone f.writes
  where
    alone : (i : ℕ) → Written S h i → h ≤ i
    alone i (inl s) = absurd (none i s)
    alone i (inr l) = l

-- the values that an operand may have, and the states that it leaves, are those of what is left of it: where the core's state has the same
-- values of the first n variables
pub record Keeps (integers : Integers) (n : ℕ) (S : ℕ → Type 0) (h : ℕ) (P : State → ℤ → State → Type 0) (e : Elaborated) : Type 0 where
  -- the prelude takes the hidden variables from h up to the next one
  pub fits : Fits n S h e.prelude e.next
  -- the result has no variables but those that are taken
  pub over : ResultOver e.next e.result
  -- behind the prelude the result may be each value of the operand
  pub keeps : (x s : State) (z : ℤ) (y : State) → Agree n x s → P x z y
      → (t : State) × AllLeave e.prelude s t × Agree n y t × MayResult integers e.result t z

-- the same of an operand that is a number
pub record KeepsNumber (n : ℕ) (S : ℕ → Type 0) (h : ℕ) (P : State → ℤ → State → Type 0) (e : Numbered) : Type 0 where
  -- the prelude takes the hidden variables from h up to the next one
  pub fits : Fits n S h e.prelude e.next
  -- the form has no variables but those that are taken
  pub over : FormOver e.next e.form
  -- behind the prelude the form may have each value of the operand
  pub keeps : (x s : State) (z : ℤ) (y : State) → Agree n x s → P x z y
      → (t : State) × AllLeave e.prelude s t × Agree n y t × (z ≡ value e.form t)

-- the same of an operand that is a condition
pub record KeepsTruth (n : ℕ) (S : ℕ → Type 0) (h : ℕ) (P : State → ℤ → State → Type 0) (e : Tested) : Type 0 where
  -- the prelude takes the hidden variables from h up to the next one
  pub fits : Fits n S h e.prelude e.next
  -- the condition has no variables but those that are taken
  pub over : ConditionOver e.next e.condition
  -- behind the prelude the condition may be what each value of the operand tells
  pub keeps : (x s : State) (z : ℤ) (y : State) → Agree n x s → P x z y
      → (t : State) × AllLeave e.prelude s t × Agree n y t × ((b : Bool) → Tells b z → MayBe b e.condition t)

-- ---- a hidden variable with a value
-- a hidden variable has the value that it is given
pub hidden-is : (h : ℕ) (x : State) (z : ℤ) → value (variable_form h) (put (pos 0) x h z) ≡ z
hidden-is h x z = value-variable h (put (pos 0) x h z) ∙ get_or-put_same (pos 0) x h z (pos 0)

havoc-agrees : (h line : ℕ) (x : State) (z : ℤ) → Agree h x (put (pos 0) x h z)
havoc-agrees h line x z =
    leave-agrees h (havocs h line ∷ []) x (put (pos 0) x h z) (omega arith, tt) (put (pos 0) x h z, (z, refl), refl)

-- of two forms the first where it is true, else the second
abbrev pub one_of : Bool → Form → Form → Form
one_of true f g = f
one_of false f g = g

-- a variable that is the one of two forms which a condition tells is what the choice between them asks for
pub selects-one : (t : Bool) (c : Condition) (h : ℕ) (f g : Form) (y : State) → MayBe t c y
    → value (variable_form h) y ≡ value (one_of t f g) y → MayBe true (selects c h f g) y
selects-one true c h f g y m e = inl (m, (value-minus (variable_form h) f y ∙ same _ _ e))
  where
    same : (a b : ℤ) → a ≡ b → a -ℤ b ≡ pos 0
    same a b e = omega (arith, ints, e)
selects-one false c h f g y m e = inr (m, (value-minus (variable_form h) g y ∙ same _ _ e))
  where
    same : (a b : ℤ) → a ≡ b → a -ℤ b ≡ pos 0
    same a b e = omega (arith, ints, e)

-- a hidden variable may be given the one of two forms which a condition tells
pub given-one : (line : ℕ) (t : Bool) (c : Condition) (h : ℕ) (f g : Form) (x : State) → ConditionOver h c → FormOver h f → FormOver h g
    → MayBe t c x → (y : State) × AllLeave (havocs h line ∷ wheres (selects c h f g) line ∷ []) x y
    × (value (one_of t f g) x ≡ value (variable_form h) y)
given-one line t c h f g x o p q m =
    let z = value (one_of t f g) x in
    let y = put (pos 0) x h z in
    let a = havoc-agrees h line x z in
    let is = hidden-is h x z in
    let same = value-agrees h (one_of t f g) x y (either_over t) a in
    (y, (y, (z, refl), (y, (selects-one t c h f g y (may_be-agrees h t c x y o a m) (is ∙ same), refl), refl)), sym is)
  where
    either_over : (t : Bool) → FormOver h (one_of t f g)
    either_over true = p
    either_over false = q

-- the deeds that give a hidden variable one of two forms take this variable alone
pub goes-given : (line n : ℕ) (S : ℕ → Type 0) (c : Condition) (h : ℕ) (f g : Form) → n ≤ h → ConditionOver h c → FormOver h f
    → FormOver h g → Fits n S h (havocs h line ∷ wheres (selects c h f g) line ∷ []) (suc h)
goes-given line n S c h f g a o p q = record {
  above = a;
  grows = omega arith;
  writes = (inr (omega arith), tt);
  goes = λ x. let m = has_truth c x in let r = given-one line m.0 c h f g x o p q m.1 in (r.0, r.1);
}
