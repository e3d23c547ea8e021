-- What the code answers of the limits of a statement.
use Rattle.std.proofs.Common.{◌≡◌, ◌∙◌, ℕ, Bool, true, false, List, [], ◌∷◌, Some, None, Result, Ok, Err, refl, sym, ap, ap₂, subst}
use Rattle.std.specs.Prelude.{◌&&◌}
use Rattle.std.specs.List.{list_all}
use Rattle.std.specs.declared.alloc.Global.{Global}
use Rattle.std.specs.declared.vec.Vec.{Vec}
use Rattle.lang_tree.specs.Tree.{Condition, Deed}
use Rattle.lang_tree.specs.DeedView.{deeds_of, condition_of}
use Rattle.lang_tree.specs.declared.deed.Deed as code_deed
use Rattle.source_core.specs.Elaborated as core
use Rattle.source_value.specs.Kept.{is_within, is_small as small, have_small, kept_deeds, kept_condition}
use Rattle.source_meaning.specs.declared.fault.FunctionFault.{FunctionFault}
use Rattle.source_meaning.specs.declared.fault.FunctionFault.TheVariants as fault
use Rattle.source_meaning.specs.declared.fault.Limit.TheVariants as limit
use Rattle.source_meaning.specs.Results.{◌>>=◌, provided}
use Rattle.source_meaning.specs.Limits.{is_small, is_small_deed, limited}
use Rattle.source_reader.specs.Answers.{Answers}
use Rattle.source_reader.specs.declared.stop.Stop.{Stop}
use Rattle.source_reader.specs.declared.stop.Stop.TheVariants.{Fault, Unlike}
use Rattle.source_change.specs.Tests.{IsTest}
use Rattle.source_change.specs.declared.conditions.Test.{Test}
use Rattle.source_change.proofs.limited.Limits.{small_deeds, kept_some, kept_none, both_true, right_false, past_hidden, past_leaves}
use Rattle.source_change.proofs.limited.Limits.{within_limits}

-- a fault that is told is the one that is wanted
pub told : {A B : Type 0} (Is : A → B → Type 0) (s : Stop) (e : FunctionFault) (w : Result B FunctionFault) → s ≡ Fault e → w ≡ Err e
    → Answers Is (Err s) w
told Is (Fault d) e w h k = λ n. let g : e ≡ d = cc in k ∙ ap Err g
told Is Unlike e w h k = cc

module _ (n at next : ℕ) where
  -- too many hidden variables
  pub hidden_told : {A B : Type 0} (Is : A → B → Type 0) (s : Stop) (ds : List Deed) (cs : List Condition) (x : B)
      → s ≡ Fault (fault.Limit at limit.Hidden) → is_within n next ≡ false → Answers Is (Err s) (limited n at next ds cs x)
  hidden_told Is s ds cs x h e = told Is s (fault.Limit at limit.Hidden) (limited n at next ds cs x) h (past_hidden n at next ds cs x e)

  small_all : (ds : List Deed) (b : Bool) → have_small ds ≡ b → (list_all is_small_deed ds && true) ≡ b
  small_all ds b e = on (list_all is_small_deed ds) (small_deeds ds ∙ e) where
    on : (a : Bool) → a ≡ b → (a && true) ≡ b
    on true h = h
    on false h = h

  -- deeds that are kept
  pub deeds_told : (ds : List Deed) (v : Vec code_deed.Deed Global) → Some (deeds_of v.items) ≡ kept_deeds n next ds
      → Answers (λ (v : Vec code_deed.Deed Global) es. deeds_of v.items ≡ es) (Ok v) (limited n at next ds [] ds)
  deeds_told ds v e =
      let k = kept_some (is_within n next && have_small ds) (deeds_of v.items) ds e in
      let b = both_true (is_within n next) (have_small ds) k.0 in
      (ds, within_limits n at next ds [] ds b.0 (small_all ds true b.1), k.1)

  -- and that aren't
  pub leaves_told : {A : Type 0} (Is : A → List Deed → Type 0) (s : Stop) (ds : List Deed) → s ≡ Fault (fault.Limit at limit.Leaves)
      → is_within n next ≡ true → None ≡ kept_deeds n next ds → Answers Is (Err s) (limited n at next ds [] ds)
  leaves_told Is s ds h w e =
      let k = kept_none (is_within n next && have_small ds) ds e in
      told Is s (fault.Limit at limit.Leaves) (limited n at next ds [] ds) h
      (past_leaves n at next ds [] ds w (small_all ds false (right_false (is_within n next) (have_small ds) w k)))

  -- a condition that is kept, behind its prelude
  pub test_told : (t : core.Tested) (r : Test) → Some (deeds_of r.prelude.items) ≡ kept_deeds n next t.prelude
      → Some (condition_of r.cond) ≡ kept_condition n next t.condition
      → Answers IsTest (Ok r) (limited n at next t.prelude (t.condition ∷ []) t)
  test_told t r e f =
      let k = kept_some (is_within n next && have_small t.prelude) (deeds_of r.prelude.items) t.prelude e in
      let l = kept_some (is_within n next && small t.condition) (condition_of r.cond) t.condition f in
      let b = both_true (is_within n next) (have_small t.prelude) k.0 in
      let d = both_true (is_within n next) (small t.condition) l.0 in (
        t,
        within_limits n at next t.prelude (t.condition ∷ []) t b.0
            (ap₂ (λ a b. a && (b && true)) (small_deeds t.prelude ∙ b.1) d.1),
        record { prelude = k.1; condition = l.1 },
      )

  -- a prelude that isn't
  pub prelude_told : {A : Type 0} (Is : A → core.Tested → Type 0) (s : Stop) (t : core.Tested) → s ≡ Fault (fault.Limit at limit.Leaves)
      → is_within n next ≡ true → None ≡ kept_deeds n next t.prelude → Answers Is (Err s) (limited n at next t.prelude (t.condition ∷ []) t)
  prelude_told Is s t h w e =
      let k = right_false (is_within n next) (have_small t.prelude) w (kept_none (is_within n next && have_small t.prelude) t.prelude e) in
      told Is s (fault.Limit at limit.Leaves) (limited n at next t.prelude (t.condition ∷ []) t) h
      (past_leaves n at next t.prelude (t.condition ∷ []) t w (ap (λ a. a && (is_small t.condition && true)) (small_deeds t.prelude ∙ k)))

  -- a condition that isn't
  pub condition_told : {A : Type 0} (Is : A → core.Tested → Type 0) (s : Stop) (t : core.Tested) → s ≡ Fault (fault.Limit at limit.Leaves)
      → is_within n next ≡ true → None ≡ kept_condition n next t.condition
      → Answers Is (Err s) (limited n at next t.prelude (t.condition ∷ []) t)
  condition_told Is s t h w e =
      let k = right_false (is_within n next) (small t.condition) w (kept_none (is_within n next && small t.condition) t.condition e) in
      told Is s (fault.Limit at limit.Leaves) (limited n at next t.prelude (t.condition ∷ []) t) h
      (past_leaves n at next t.prelude (t.condition ∷ []) t w (ap (λ b. list_all is_small_deed t.prelude && (b && true)) k ∙ none_of
      (list_all is_small_deed t.prelude))) where
        none_of : (a : Bool) → (a && (false && true)) ≡ false
        none_of true = refl
        none_of false = refl

-- what is answered of one thing within the limits is answered of another
pub as_limited : {A B D : Type 0} (n at next : ℕ) (ds : List Deed) (cs : List Condition) (Is : A → B → Type 0) (Was : A → D → Type 0)
    (r : Result A Stop) (x : B) (z : D) → ((a : A) → Is a x → Was a z) → Answers Is r (limited n at next ds cs x)
    → Answers Was r (limited n at next ds cs z)
as_limited {A} {B} {D} n at next ds cs Is Was r x z h a = on r (is_within n next)
    (list_all is_small_deed ds && list_all is_small cs) a where
      on : (r : Result A Stop) (p q : Bool)
          → Answers Is r (provided p (fault.Limit at limit.Hidden) x >>= λ x. provided q (fault.Limit at limit.Leaves) x)
          → Answers Was r (provided p (fault.Limit at limit.Hidden) z >>= λ x. provided q (fault.Limit at limit.Leaves) x)
      on (Ok v) true true a =
          let k = a.1 in let e : x ≡ a.0 = cc in (z, refl, h v (let P : B → Type 0 = λ y. Is v y in subst P (sym e) a.2))
      on (Ok v) true false a = let e = a.1 in cc
      on (Ok v) false q a = let e = a.1 in cc
      on (Err (Fault e)) true true a = λ n. let k = a n in cc
      on (Err (Fault e)) true false a = λ n. let k = a n in cc
      on (Err (Fault e)) false q a = λ n. let k = a n in cc
      on (Err Unlike) p q a = a
