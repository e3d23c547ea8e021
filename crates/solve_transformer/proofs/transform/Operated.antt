-- The value of a problem as the transformer of an edge and a row.
use Rattle.std.proofs.Common.{◌≡◌, ◌∙◌, ℕ, zero, suc, ◌+◌, ◌-◌, ◌*◌, ◌<◌, ◌≤◌, ◌||◌, true, false, ℤ, List, [], ◌∷◌, length, get_or, drop}
use Rattle.std.proofs.Common.{take, map, Some, None, Result, Ok, Err, refl, ap, ap₂, sym, subst, subst₂, arith}
use Rattle.std.specs.Prelude.{slice_get, IsTrue, IfOk, IfErr, OnOk}
use Rattle.std.proofs.lemmas.List.{get_or-drop, get_or_default, drop-map, take_rest}
use Rattle.std.proofs.lemmas.Option.{slice_get-map, slice_get_within, slice_get-get_or}
use mathlib.Core.Path.{fun_ext}
use Rattle.std.proofs.lemmas.Bool.{or_right}
use Rattle.base_numbers.specs.Rational.{ℚ}
use Rattle.base_numbers.specs.Extended.{Ext as Extended, neg_inf, fin, pos_inf, ◌<ᴱ◌}
use Rattle.base_fractions.specs.declared.ext.Ext.{Ext}
use Rattle.base_fractions.specs.Extended.{extended}
use Rattle.base_fractions.specs.Fits.{long_limit}
use Rattle.base_fractions.specs.Operation.{first_wide}
use Rattle.flow_edges.specs.declared.edge.Action.{Action}
use Rattle.flow_edges.specs.declared.edge.Action.TheVariants.{Guard, Assign, Havoc, Check}
use Rattle.flow_edges.specs.declared.edge.Edge.{Edge}
use Rattle.flow_systems.specs.Equations.{Equations, Vector}
use Rattle.flow_systems.specs.declared.system.System.{System}
use Rattle.flow_systems.specs.SystemLimits.{is_over}
use Rattle.flow_systems.proofs.Sizes.{both}
use Rattle.flow_systems.specs.View.{equations_of, vector_of, vector_at, edge_at}
use Rattle.flow_systems.specs.declared.spot.PartFault.{PartFault}
use Rattle.flow_systems.specs.declared.spot.PartFault.TheVariants.{Wide, NoMemory}
use Rattle.theory_validity.specs.Words.{columns, free_count, width, guard_forms, end_form}
use Rattle.lp_theory.specs.Problem as lp
use Rattle.lp_theory.specs.Simplex.{lp as solved}
use Rattle.lp_simplex.specs.Operations.{first_refused, run_operations}
use Rattle.theory_transformers.specs.EdgeProblems.{is_lost, lost, whole_problem}
use Rattle.std.proofs.lemmas.List.{length-map}
use Rattle.solve_composition.specs.declared.affine.Affine.{Affine}
use Rattle.solve_composition.specs.declared.value.Value.{Value}
use Rattle.solve_composition.specs.declared.value.Value.TheVariants.{Unreached, Empty, Best, Unbounded}
use Rattle.solve_composition.specs.Composed.{EdgeForms, dense, edge_forms, AreComposed}
use Rattle.solve_transformer.specs.Values.{ReadsOutcome, reading_operations, IsValue, NoneWide, IsOperatorFault}
use Rattle.solve_transformer.specs.Values.{problem_reading}
use Rattle.solve_transformer.specs.Splits.{bounds_at, IsSource}
use Rattle.solve_transformer.specs.Readings.{IsProblemFault}
use Rattle.solve_composition.proofs.Places.{read_at}
use Rattle.flow_systems.proofs.EdgeActions.{edge_fits}
use Rattle.solve_composition.proofs.composed.Means.{paths_count, forms_are, have_columns}
use Rattle.solve_composition.proofs.operations.Walked.{guards_few}
use Rattle.flow_edges.specs.declared.limits.TheConstants.{MOST_ACTIONS}

-- ---- bounds at the source
pub source_is : (list : List Ext) (bounds : List Extended) (rows rows' p p' : ℕ) → map extended list ≡ bounds → rows' ≡ rows → p' ≡ p
    → bounds_at (drop (p' * rows') list) ≡ vector_of rows bounds p
source_is list bounds rows rows' p p' e f g =
    fun_ext (λ r.
    ap (λ xs. get_or xs r neg_inf) (sym (drop-map extended (p' * rows') list)) ∙ get_or-drop (p' * rows') (map extended list) r neg_inf
    ∙ ap (λ xs. get_or xs (p' * rows' + r) neg_inf) e ∙ ap₂ (λ a b. get_or bounds (b * a + r) neg_inf) f g)

-- the bounds that are taken from a list are those of the source
pub source_taken : (list : List Ext) (bounds : List Extended) (rows rows' p p' : ℕ) → map extended list ≡ bounds → rows' ≡ rows → p' ≡ p →
    bounds_at (take (length list - p' * rows') (drop (p' * rows') list)) ≡ vector_of rows bounds p
source_taken list bounds rows rows' p p' e f g = ap bounds_at (take_rest list (p' * rows')) ∙ source_is list bounds rows rows' p p' e f g

-- the bounds at an edge's source, as the code takes them
pub source_at : (s : System) (edge : ℕ) → edge < length s.flow.edges → (edges : List Edge) → edges ≡ s.flow.edges
    → (x : Edge) (list : List Ext) (bounds : List Extended) → map extended list ≡ bounds → (rows : ℕ) → rows ≡ length s.template →
    bounds_at (take (length list - (get_or edges edge x).from * rows) (drop ((get_or edges edge x).from * rows) list))
    ≡ vector_at s bounds (edge_at s edge).from
source_at s edge l edges same x list bounds e rows r =
    let d : Edge = record { from = 0; to = 0; actions = [] } in
    source_taken list bounds (length s.template) rows (edge_at s edge).from (get_or edges edge x).from e r
    (ap (λ (y : Edge). y.from) (ap (λ (es : List Edge). get_or es edge x) same ∙ get_or_default s.flow.edges edge x d l))

-- a source with a row at minus infinity is lost
pub lost_at : (B : ℕ → Extended) (rows : List (List ℤ)) (r : ℕ) → r < length rows → B r ≡ neg_inf → lost B rows ≡ true
unfolding lost
lost_at B [] r l e = absurd (omega (arith, l))
lost_at B (row ∷ rows) zero l e = ap (λ b. is_lost b || lost (λ k. B (suc k)) rows) e
lost_at B (row ∷ rows) (suc r) l e = or_right (is_lost (B 0)) (lost (λ k. B (suc k)) rows)
    (lost_at (λ k. B (suc k)) rows r (omega (arith, l)) e)

above_is : (b : Extended) → neg_inf <ᴱ b → is_lost b ≡ false
above_is neg_inf h = absurd h
above_is (fin c) h = refl
above_is pos_inf h = refl

-- a source with no row at minus infinity is not lost
pub none_at : (B : ℕ → Extended) (rows : List (List ℤ)) → ((k : ℕ) → k < length rows → neg_inf <ᴱ B k) → lost B rows ≡ false
unfolding lost
none_at B [] h = refl
none_at B (row ∷ rows) h = ap₂ (λ a b. a || b) (above_is (B 0) (h 0 (omega arith)))
    (none_at (λ k. B (suc k)) rows (λ k l. h (suc k) (omega (arith, l))))

-- ---- the source of an edge and a row
pub template_over : (s : System) → IsTrue (is_over (length s.flow.names) s.template)
template_over s = (both (is_over (length s.flow.names) s.template) _ s.within_limits).0

-- there are at most as many free values as actions
pub frees_few : (actions : List Action) → free_count actions ≤ length actions
unfolding free_count
frees_few [] = omega arith
frees_few (Guard form ∷ actions) = let h = frees_few actions in omega (arith, h)
frees_few (Assign var form ∷ actions) = let h = frees_few actions in omega (arith, h)
frees_few (Havoc var ∷ actions) = let h = frees_few actions in omega (arith, h)
frees_few (Check about ∷ actions) = let h = frees_few actions in omega (arith, h)

-- and at most as many guards
pub forms_few : (n : ℕ) (actions : List Action) → length (guard_forms n actions) ≤ length actions
unfolding guard_forms
forms_few n actions = guards_few n (columns n) actions

-- the forms of an edge of a system, which has few free values and few guards
pub record PathSizes (s : System) (paths : List EdgeForms) (edge : ℕ) : Type 0 where
  -- the composed forms of the edge
  pub forms : EdgeForms
  -- they stand at the edge's place
  pub here : slice_get paths edge ≡ Some forms
  -- their free values are those of the edge's actions
  pub frees : forms.frees ≡ free_count (edge_at s edge).actions
  -- there are few free values
  pub few_frees : forms.frees ≤ MOST_ACTIONS
  -- there are few guards
  pub few_guards : length forms.guards ≤ MOST_ACTIONS

-- the composed forms of an edge of the system have no more free values and guards than an edge may have actions
pub path_sizes : (s : System) (paths : List EdgeForms) (edge : ℕ) → AreComposed (equations_of s) paths → edge < length s.flow.edges
    → PathSizes s paths edge
path_sizes s paths edge h l =
    let system = equations_of s in
    let n = system.variables in
    let e = edge_at s edge in
    let forms = get_or paths edge (edge_forms 0 [] []) in
    let count = paths_count system paths h in
    let here = slice_get-get_or paths edge (edge_forms 0 [] []) (omega (arith, count, l)) in
    let is = forms_are system paths h edge e forms (slice_get-get_or s.flow.edges edge (record { from = 0; to = 0; actions = [] }) l)
    here in
    let most = (edge_fits s.flow s.flow.edges edge e refl l (sym (get_or_default s.flow.edges edge e
    (record { from = 0; to = 0; actions = [] }) l))).few in
    let frees = (have_columns n system.template e.actions forms is).0 in
    let few = frees_few e.actions in
    let guards = ap (λ (f : EdgeForms). length f.guards) is ∙ length-map (guard_forms n e.actions) (dense (width n e.actions)) in
    let few_forms = forms_few n e.actions in
    record {
      forms = forms;
      here = here;
      frees = frees;
      few_frees = omega (arith, frees, few, most);
      few_guards =
          omega (arith, guards, few_forms, most);
    }

module _ (system : Equations) (paths : List EdgeForms) (h : AreComposed system paths) (k : ℕ) (path inside : EdgeForms)
    (view : inside ≡ path) (p : slice_get paths k ≡ Some path) (e : Edge) (i : slice_get system.edges k ≡ Some e) where
  inside_is : inside ≡ edge_forms system.variables system.template e.actions
  inside_is = view ∙ forms_are system paths h k e path i p

  -- there is one composed form for each row of the template
  pub rows_are : length inside.rows ≡ length system.template
  rows_are = (have_columns system.variables system.template e.actions inside inside_is).3

  module _ (z : Vector) (row : ℕ) (cs : List ℤ) (j : slice_get system.template row ≡ Some cs) (w : ℕ)
      (columns : w ≡ width system.variables e.actions) (template : List (List ℤ)) (t : template ≡ system.template) (source : List Ext)
      (b : bounds_at source ≡ z e.from) where
    -- the guards and a row of the edge's composed forms are the source of its problem
    pub source_from : (guards rows : List Affine) → guards ≡ inside.guards → rows ≡ inside.rows → (form : Affine)
        → form ≡ get_or rows row form → IsSource system z e cs w template source guards form
    source_from guards rows g rs form fr =
        let within : row < length inside.rows = let l = slice_get_within system.template row cs j in let c = rows_are in
        omega (arith, l, c) in
        let at_row = read_at inside.rows rows row form rs fr within in
        let all = ap (λ (f : EdgeForms). slice_get f.rows row) (sym inside_is) ∙ at_row in
        let same = sym (slice_get-map (λ u. dense (width system.variables e.actions) (end_form system.variables e.actions u))
        system.template row) ∙ all in
        let goal : dense (width system.variables e.actions) (end_form system.variables e.actions cs) ≡ form = cc in
        record {
          columns = columns;
          rows = t;
          bounds = b;
          limits = g ∙ ap (λ (f : EdgeForms). f.guards) inside_is ∙ ap (λ m. map (dense m) (guard_forms system.variables e.actions))
              (sym columns);
          goal = sym goal ∙ ap (λ m. dense m (end_form system.variables e.actions cs)) (sym columns);
        }

-- ---- the value
module _ (system : Equations) (z : Vector) (e : Edge) (cs : List ℤ) (w : ℕ) (template : List (List ℤ)) (source : List Ext)
    (guards : List Affine) (form : Affine) (s : IsSource system z e cs w template source guards form) where
  -- where no row of the source is at minus infinity, it is not lost
  pub not_lost : (n : ℕ) → n ≡ length system.template → ((k : ℕ) → k < n → neg_inf <ᴱ bounds_at source k)
      → lost (z e.from) system.template ≡ false
  not_lost n f h = none_at (z e.from) system.template (λ k l. subst (λ B. neg_inf <ᴱ B k) s.bounds (h k (subst (λ m. k < m) (sym f) l)))

  module _ (P : lp.Problem) (same : P ≡ whole_problem system z e cs) (n : ℕ) (nn : n ≡ system.variables) (count : ℕ)
      (c : count ≡ length guards) (none : lost (z e.from) system.template ≡ false) where
    constant_is : form.constant ≡ (end_form system.variables e.actions cs).constant
    constant_is = ap (λ (f : Affine). f.constant) s.goal

    count_is : count ≡ length (guard_forms system.variables e.actions)
    count_is = c ∙ ap (λ (gs : List Affine). length gs) s.limits ∙ length-map (guard_forms system.variables e.actions) (dense w)

    reading_is : reading_operations w form.constant (solved P) ≡ problem_reading system z e cs
    reading_is = ap₂ (λ a b. reading_operations a b (solved P)) s.columns constant_is
        ∙ ap (λ Q. reading_operations (width system.variables e.actions) (end_form system.variables e.actions cs).constant (solved Q)) same

    moved : (v : Value) → ReadsOutcome n w form.constant (bounds_at source) template count (solved P) v →
        ReadsOutcome system.variables (width system.variables e.actions) (end_form system.variables e.actions cs).constant (z e.from)
        system.template (length (guard_forms system.variables e.actions)) (solved (whole_problem system z e cs)) v
    moved v h =
        subst₂ (λ a Q. ReadsOutcome system.variables (width system.variables e.actions) (end_form system.variables e.actions cs).constant
        (z e.from) system.template a (solved Q) v) count_is same
        (subst₂ (λ B t. ReadsOutcome system.variables (width system.variables e.actions) (end_form system.variables e.actions cs).constant B
        t count (solved P) v) s.bounds s.rows
        (subst₂ (λ a b. ReadsOutcome system.variables a b (bounds_at source) template count (solved P) v) s.columns constant_is
        (subst (λ a. ReadsOutcome a w form.constant (bounds_at source) template count (solved P) v) nn h)))

    never : (a b : ℕ) (q : ℚ) (B : ℕ → Extended) (t : List (List ℤ)) (m r : ℕ) (o : lp.Outcome) → ReadsOutcome a b q B t m o (Unreached r)
        → ⊥
    never a b q B t m r (lp.best x v y) h = h
    never a b q B t m r (lp.unbounded x d) h = h
    never a b q B t m r (lp.empty y) h = h

    value_is : (v : Value) → ReadsOutcome n w form.constant (bounds_at source) template count (solved P) v → IsValue system z e cs v
    value_is (Unreached r) h = absurd (never n w form.constant (bounds_at source) template count r (solved P) h)
    value_is (Empty rows multipliers) h = (none, moved (Empty rows multipliers) h)
    value_is (Best value trace rows multipliers) h = (none, moved (Best value trace rows multipliers) h)
    value_is (Unbounded trace direction) h = (none, moved (Unbounded trace direction) h)

    -- a value that is read from the problem's outcome is the transformer's value
    pub value_of : (res : Result Value PartFault) → IfOk res (ReadsOutcome n w form.constant (bounds_at source) template count (solved P))
        → IfOk res (IsValue system z e cs)
    value_of (Ok v) h = value_is v h
    value_of (Err f) h = tt

    -- where solving and reading have no wide operation, the transformer has none
    pub none_of : (res : Result Value PartFault) → OnOk res (first_refused long_limit (run_operations P) ≡ None)
        → OnOk res (first_wide long_limit (reading_operations w form.constant (solved P)) ≡ None) → OnOk res (NoneWide system z e cs)
    none_of (Ok v) h g = λ f. (
      subst (λ Q. first_refused long_limit (run_operations Q) ≡ None) same h,
      subst (λ os. first_wide long_limit os ≡ None) reading_is g,
    )
    none_of (Err f) h g = tt

    fault_is : (f : PartFault) → IsProblemFault P (reading_operations w form.constant (solved P)) f → IsOperatorFault system z e cs f
    fault_is (Wide part wide) h = (none, subst₂ (λ Q os. IsProblemFault Q os (Wide part wide)) same reading_is h)
    fault_is NoMemory h = tt

    -- a fault of the problem or of its reading is a fault of the transformer
    pub fault_of : (res : Result Value PartFault) → IfErr res (IsProblemFault P (reading_operations w form.constant (solved P)))
        → IfErr res (IsOperatorFault system z e cs)
    fault_of (Ok v) h = tt
    fault_of (Err f) h = fault_is f h
