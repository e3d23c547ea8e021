-- Words of an edge: a start state and one value for each free assignment, and the forms that composing the actions gives over them.
use Rattle.std.specs.Prelude.{ℕ, zero, suc, ◌+◌, ℤ, List, [], ◌∷◌, map}
use Rattle.base_numbers.specs.Rational.{ℚ, whole, zero_ℚ, one_ℚ, ◌+ℚ◌, ◌-ℚ◌, ◌*ℚ◌, ◌≤ℚ◌}
use Rattle.base_numbers.specs.Vector.{dot, add_vec, scale_vec}
use Rattle.lang_tree.specs.declared.form.Form.{Form}
use Rattle.lang_tree.specs.Meaning.{put as put_at}
use Rattle.flow_edges.specs.declared.edge.Action.{Action}
use Rattle.flow_edges.specs.declared.edge.Action.TheVariants.{Guard, Assign, Havoc, Check}
use Rattle.flow_systems.specs.States.{RationalState}

-- the start values and then the free values, in order
abbrev pub Word : Type 0
Word = List ℚ

-- a form over the columns of a word
pub record Affine : Type 0 where
  pub coeffs : List ℚ
  pub constant : ℚ

-- the value of a form at a word, and its linear part at a direction
unfoldable pub val : Affine → Word → ℚ
val f w = dot f.coeffs w +ℚ f.constant

-- the linear part of a form at a direction
unfoldable pub lin : Affine → Word → ℚ
lin f d = dot f.coeffs d

-- the form over one column more, in front
unfoldable pub shifted : Affine → Affine
shifted f = record f { coeffs = zero_ℚ ∷ f.coeffs }

-- the form whose value is column k
unfoldable pub column : ℕ → Affine
column zero = record { coeffs = one_ℚ ∷ []; constant = zero_ℚ }
column (suc k) = shifted (column k)

-- the first n columns
unfoldable pub columns : ℕ → List Affine
columns zero = []
columns (suc n) = column 0 ∷ map shifted (columns n)

-- the values of forms
unfoldable pub values : List Affine → Word → RationalState
values fs w = map (λ f. val f w) fs

-- the form whose value is 0
abbrev pub no_form : Affine
no_form = record { coeffs = []; constant = zero_ℚ }

-- a state of forms with this one at a variable; variables before it that the state lacks get the form 0
abbrev pub with_form : List Affine → ℕ → Affine → List Affine
with_form fs var f = put_at no_form fs var f

-- a row's or a form's value over a state of forms
unfoldable pub combined : List ℤ → List Affine → Affine
combined [] fs = record { coeffs = []; constant = zero_ℚ }
combined (c ∷ cs) [] = record { coeffs = []; constant = zero_ℚ }
combined (c ∷ cs) (f ∷ fs) =
    let rest = combined cs fs in
    record { coeffs = add_vec (scale_vec (whole c) f.coeffs) rest.coeffs; constant = (whole c *ℚ f.constant) +ℚ rest.constant }

-- a program's form over a state of forms
unfoldable pub composed : Form → List Affine → Affine
composed form fs = let r = combined form.coeffs fs in record r { constant = r.constant +ℚ whole form.constant }

-- the composed guards, in order, from a state of forms; the next free value is column k
unfoldable pub guards_from : ℕ → List Affine → List Action → List Affine
guards_from k fs [] = []
guards_from k fs (Guard form ∷ actions) = composed form fs ∷ guards_from k fs actions
guards_from k fs (Assign var form ∷ actions) = guards_from k (with_form fs var (composed form fs)) actions
guards_from k fs (Havoc var ∷ actions) = guards_from (suc k) (with_form fs var (column k)) actions
guards_from k fs (Check about ∷ actions) = guards_from k fs actions

-- the state of forms at the end
unfoldable pub ends_from : ℕ → List Affine → List Action → List Affine
ends_from k fs [] = fs
ends_from k fs (Guard form ∷ actions) = ends_from k fs actions
ends_from k fs (Assign var form ∷ actions) = ends_from k (with_form fs var (composed form fs)) actions
ends_from k fs (Havoc var ∷ actions) = ends_from (suc k) (with_form fs var (column k)) actions
ends_from k fs (Check about ∷ actions) = ends_from k fs actions

-- how many free values a word has
unfoldable pub free_count : List Action → ℕ
free_count [] = 0
free_count (Guard form ∷ actions) = free_count actions
free_count (Assign var form ∷ actions) = free_count actions
free_count (Havoc var ∷ actions) = suc (free_count actions)
free_count (Check about ∷ actions) = free_count actions

-- how many columns a word over n variables has
unfoldable pub width : ℕ → List Action → ℕ
width n actions = n + free_count actions

-- the composed guards, and the forms of a row at the start and at the end, over n variables
unfoldable pub guard_forms : ℕ → List Action → List Affine
guard_forms n actions = guards_from n (columns n) actions

-- the form of a row at the start
unfoldable pub start_form : ℕ → List ℤ → Affine
start_form n row = combined row (columns n)

-- the form of a row at the end
unfoldable pub end_form : ℕ → List Action → List ℤ → Affine
end_form n actions row = combined row (ends_from n (columns n) actions)

-- the states at the start and at the end
unfoldable pub start_of : ℕ → Word → RationalState
start_of n w = values (columns n) w

-- the state at the end
unfoldable pub end_of : ℕ → List Action → Word → RationalState
end_of n actions w = values (ends_from n (columns n) actions) w

-- every form is at most 0 at the word
abbrev pub AllAtMost : List Affine → Word → Type 0
AllAtMost [] w = Unit {0}
AllAtMost (g ∷ gs) w = (val g w ≤ℚ zero_ℚ) × AllAtMost gs w

-- no form rises along the direction
abbrev pub AllFall : List Affine → Word → Type 0
AllFall [] d = Unit {0}
AllFall (g ∷ gs) d = (lin g d ≤ℚ zero_ℚ) × AllFall gs d

-- a word passes where every composed guard is at most 0; a direction keeps that where no guard rises
pub record Passes (n : ℕ) (actions : List Action) (w : Word) : Type 0 where
  pub all : AllAtMost (guard_forms n actions) w

-- a direction along which no composed guard rises
pub record Falls (n : ℕ) (actions : List Action) (d : Word) : Type 0 where
  pub all : AllFall (guard_forms n actions) d

-- between two words, and from a word along a direction
unfoldable pub mix : ℚ → Word → Word → Word
mix t u v = add_vec (scale_vec (one_ℚ -ℚ t) u) (scale_vec t v)

-- from a word along a direction
unfoldable pub moved : Word → ℚ → Word → Word
moved w s d = add_vec w (scale_vec s d)
