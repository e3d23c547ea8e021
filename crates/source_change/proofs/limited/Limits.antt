-- What the limits of a statement answer.
use Rattle.std.proofs.Common.{◌≡◌, ◌∙◌, ◌++◌, ℕ, Bool, true, false, List, [], ◌∷◌, Some, None, Ok, Err, refl, ap, ap₂}
use Rattle.std.specs.Prelude.{◌&&◌}
use Rattle.std.specs.List.{list_all}
use Rattle.std.proofs.lemmas.List.Folds.{list_all-append}
use Rattle.lang_tree.specs.Tree.{Condition, Deed, sets, havocs, wheres, checks}
use Rattle.source_value.specs.Kept.{is_within, has_small, have_small, kept}
use Rattle.source_meaning.specs.declared.fault.FunctionFault.TheVariants as fault
use Rattle.source_meaning.specs.declared.fault.Limit.TheVariants as limit
use Rattle.source_meaning.specs.Results.{◌>>=◌, provided}
use Rattle.source_meaning.specs.Limits.{is_small, is_small_deed, limited}

-- both say the same of a deed
small_deed : (d : Deed) → is_small_deed d ≡ has_small d
small_deed (sets var f line) = refl
small_deed (havocs var line) = refl
small_deed (wheres c line) = refl
small_deed (checks about c line) = refl

-- and of deeds
pub small_deeds : (ds : List Deed) → list_all is_small_deed ds ≡ have_small ds
small_deeds [] = refl
small_deeds (d ∷ ds) = ap₂ (λ a b. a && b) (small_deed d) (small_deeds ds)

-- what is kept is there, and is that
pub kept_some : {A : Type 0} (b : Bool) (x y : A) → Some x ≡ kept b y → (b ≡ true) × (x ≡ y)
kept_some true x y e = (refl, cc)
kept_some false x y e = absurd cc

-- what is not kept is past a limit
pub kept_none : {A : Type 0} (b : Bool) (y : A) → None ≡ kept b y → b ≡ false
kept_none true y e = absurd cc
kept_none false y e = refl

-- both are, where both together are
pub both_true : (a b : Bool) → (a && b) ≡ true → (a ≡ true) × (b ≡ true)
both_true true true e = (refl, refl)
both_true true false e = absurd cc
both_true false b e = absurd cc

-- where both together are not and the first is, the second is not
pub right_false : (a b : Bool) → a ≡ true → (a && b) ≡ false → b ≡ false
right_false true b e f = f
right_false false b e f = absurd cc

-- past the limit of hidden variables
pub past_hidden : {A : Type 0} (n at next : ℕ) (ds : List Deed) (cs : List Condition) (x : A) → is_within n next ≡ false
    → limited n at next ds cs x ≡ Err (fault.Limit at limit.Hidden)
past_hidden n at next ds cs x e =
    ap (λ b. provided b (fault.Limit at limit.Hidden) x
    >>= λ x. provided (list_all is_small_deed ds && list_all is_small cs) (fault.Limit at limit.Leaves) x) e

-- past that of leaves
pub past_leaves : {A : Type 0} (n at next : ℕ) (ds : List Deed) (cs : List Condition) (x : A) → is_within n next ≡ true
    → (list_all is_small_deed ds && list_all is_small cs) ≡ false → limited n at next ds cs x ≡ Err (fault.Limit at limit.Leaves)
past_leaves n at next ds cs x e f =
    ap₂ (λ a b. provided a (fault.Limit at limit.Hidden) x >>= λ x. provided b (fault.Limit at limit.Leaves) x) e f

-- within both
pub within_limits : {A : Type 0} (n at next : ℕ) (ds : List Deed) (cs : List Condition) (x : A) → is_within n next ≡ true
    → (list_all is_small_deed ds && list_all is_small cs) ≡ true → limited n at next ds cs x ≡ Ok x
within_limits n at next ds cs x e f =
    ap₂ (λ a b. provided a (fault.Limit at limit.Hidden) x >>= λ x. provided b (fault.Limit at limit.Leaves) x) e f

-- the limits are the same of whatever is to come
pub limited_as : {A B : Type 0} (n at next : ℕ) (ds : List Deed) (cs : List Condition) (x : A) (y : B)
    → limited n at next ds cs x ≡ (limited n at next ds cs y >>= λ _. Ok x)
limited_as n at next ds cs x y = on (is_within n next) (list_all is_small_deed ds && list_all is_small cs) where
  on : (a b : Bool) → (provided a (fault.Limit at limit.Hidden) x >>= λ x. provided b (fault.Limit at limit.Leaves) x)
      ≡ ((provided a (fault.Limit at limit.Hidden) y >>= λ y. provided b (fault.Limit at limit.Leaves) y) >>= λ _. Ok x)
  on true true = refl
  on true false = refl
  on false b = refl

-- and of one deed more without a condition
pub limited_more : {A B : Type 0} (n at next : ℕ) (ds : List Deed) (d : Deed) (x : A) (y : B) → is_small_deed d ≡ true
    → limited n at next (ds ++ d ∷ []) [] x ≡ (limited n at next ds [] y >>= λ _. Ok x)
limited_more n at next ds d x y e =
    ap (λ b. provided (is_within n next) (fault.Limit at limit.Hidden) x >>= λ x. provided (b && true) (fault.Limit at limit.Leaves) x)
    (list_all-append is_small_deed ds (d ∷ []) ∙ ap (λ b. list_all is_small_deed ds && (b && true)) e ∙ on (list_all is_small_deed ds))
    ∙ limited_as n at next ds [] x y where
      on : (b : Bool) → (b && (true && true)) ≡ b
      on true = refl
      on false = refl
