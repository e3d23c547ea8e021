-- Actions that are composed one after the other.
use Rattle.std.proofs.Common.{◌≡◌, ◌∙◌, ◌==◌, ℕ, suc, ◌+◌, ◌<◌, ◌≤◌, ℤ, List, [], ◌∷◌, ◌++◌, length, get_or, drop, map, append_assoc, None}
use Rattle.std.proofs.Common.{refl, ap, ap₂, sym, subst, arith}
use Rattle.std.specs.Prelude.{flat_map}
use Rattle.std.specs.List.{list_all}
use Rattle.std.proofs.lemmas.Bool.{eqb-true}
use Rattle.std.proofs.lemmas.List.{drop_more, drop_all, append-nil, map-append}
use Rattle.base_numbers.specs.Rational.{ℚ}
use Rattle.flow_edges.specs.declared.edge.Action.{Action}
use Rattle.flow_edges.specs.declared.edge.Action.TheVariants.{Guard, Assign, Havoc, Check}
use Rattle.base_fractions.specs.Fits.{long_limit}
use Rattle.base_fractions.specs.Operation.{first_wide}
use Rattle.flow_systems.proofs.Faults.{sooner}
use Rattle.flow_systems.proofs.Widths.{first_wide_later}
use Rattle.flow_systems.proofs.Sizes.{both}
use Rattle.theory_validity.specs.Words.{Affine as Form, with_form, column, composed, free_count, guards_from, ends_from}
use Rattle.solve_composition.specs.declared.affine.Affine.{Affine}
use Rattle.flow_systems.specs.declared.fault.Fault.TheVariants.{Wide, NoMemory}
use Rattle.solve_composition.specs.Composed.{first_entries, dense}
use Rattle.solve_composition.specs.Operations.{row_composition, action_composition, actions_composition, next_state, next_column}
use Rattle.flow_systems.specs.Faults.{OperationFault, IsFaultOf}
use Rattle.solve_composition.specs.Walks.{has_width, IsState, action_guards}
use Rattle.solve_composition.specs.ComposedLaws.{form_of}

-- ---- each state is one of forms of the theory
entries_all : (w : ℕ) (xs : List ℚ) → length xs ≡ w → xs ≡ first_entries w xs
entries_all w [] e = subst (λ n. [] ≡ first_entries n []) e refl
entries_all w (x ∷ xs) e = subst (λ n. x ∷ xs ≡ first_entries n (x ∷ xs)) e (ap (λ ys. x ∷ ys) (entries_all (length xs) xs refl))

-- a state of forms of one width is that of its own forms with all their columns
pub state_of : (w : ℕ) (state : List Affine) → IsState w state → state ≡ map (dense w) (map form_of state)
state_of w [] h = refl
state_of w (f ∷ state) h =
    let p = both (length f.coeffs == w) (list_all (has_width w) state) h in
    ap₂ (λ x xs. x ∷ xs) (ap (λ cs. let g : Affine = record { coeffs = cs; constant = f.constant } in g)
    (entries_all w f.coeffs (eqb-true (length f.coeffs) w p.0))) (state_of w state p.1)

-- ---- one action
guards_cons : (k : ℕ) (forms : List Form) (action : Action) (rest : List Action)
    → guards_from k forms (action ∷ rest) ≡ action_guards forms action
    ++ guards_from (next_column k action) (next_state k forms action) rest
unfolding guards_from
guards_cons k forms (Guard form) rest = refl
guards_cons k forms (Assign var form) rest = refl
guards_cons k forms (Havoc var) rest = refl
guards_cons k forms (Check about) rest = refl

ends_cons : (k : ℕ) (forms : List Form) (action : Action) (rest : List Action)
    → ends_from k forms (action ∷ rest) ≡ ends_from (next_column k action) (next_state k forms action) rest
unfolding ends_from
ends_cons k forms (Guard form) rest = refl
ends_cons k forms (Assign var form) rest = refl
ends_cons k forms (Havoc var) rest = refl
ends_cons k forms (Check about) rest = refl

guards_nil : (k : ℕ) (forms : List Form) → guards_from k forms [] ≡ []
unfolding guards_from
guards_nil k forms = refl

ends_nil : (k : ℕ) (forms : List Form) → ends_from k forms [] ≡ forms
unfolding ends_from
ends_nil k forms = refl

-- ---- all actions, as far as the first i are composed: the guards so far, the state of forms now, and what is left
pub record IsWalked (w k : ℕ) (forms : List Form) (actions : List Action) (i next : ℕ) (state guards : List Affine) (now : List Form) :
    Type 0 where
  -- the state is that of the forms now, with all their columns
  pub state_now : state ≡ map (dense w) now
  -- all guards are those so far, and then those of the actions left
  pub guards_now : map (dense w) (guards_from k forms actions) ≡ guards ++ map (dense w) (guards_from next now (drop i actions))
  -- the forms at the end are those that the actions left lead to
  pub ends_left : ends_from k forms actions ≡ ends_from next now (drop i actions)
  -- the first wide operation of all actions is that of the actions left
  pub first_left : (template : List (List ℤ)) → first_wide long_limit (actions_composition w template k forms actions)
      ≡ first_wide long_limit (actions_composition w template next now (drop i actions))

-- some state of forms is it
abbrev pub Walked : ℕ → ℕ → List Form → List Action → ℕ → ℕ → List Affine → List Affine → Type 0
Walked w k forms actions i next state guards = (now : List Form) × IsWalked w k forms actions i next state guards now

module _ (w k : ℕ) (forms : List Form) (actions : List Action) where
  -- before the first action the walk is at its start
  pub walked_none : (next : ℕ) (state : List Affine) → next ≡ k → state ≡ map (dense w) forms
      → IsWalked w k forms actions 0 next state [] forms
  walked_none next state n e = record {
    state_now = e;
    guards_now = ap (λ j. map (dense w) (guards_from j forms actions)) (sym n);
    ends_left = ap (λ j. ends_from j forms actions) (sym n);
    first_left = λ template. ap (λ j. first_wide long_limit (actions_composition w template j forms actions)) (sym n);
  }

  module _ (i next : ℕ) (state guards : List Affine) (now : List Form) (h : IsWalked w k forms actions i next state guards now)
      (action : Action) (l : i < length actions) (e : action ≡ get_or actions i action) where
    left : drop i actions ≡ action ∷ drop (i + 1) actions
    left = drop_more actions i action l ∙ ap (λ a. a ∷ drop (i + 1) actions) (sym e)

    first_on : (template : List (List ℤ)) →
        first_wide long_limit (actions_composition w template k forms actions)
        ≡ first_wide long_limit (action_composition w now action ++ actions_composition w template (next_column next action)
        (next_state next now action) (drop (i + 1) actions))
    first_on template = h.first_left template ∙ ap (λ later. first_wide long_limit (actions_composition w template next now later)) left

    -- an action that composes takes the walk one action further
    pub walked_more : (after : ℕ) (state' guards' : List Affine) → after ≡ next_column next action
        → state' ≡ map (dense w) (next_state next now action) → guards' ≡ guards ++ map (dense w) (action_guards now action) →
        first_wide long_limit (action_composition w now action) ≡ None
        → IsWalked w k forms actions (i + 1) after state' guards' (next_state next now action)
    walked_more after state' guards' n s g f = record {
      state_now = s;
      guards_now = h.guards_now ∙ ap (λ later. guards ++ map (dense w) (guards_from next now later)) left
          ∙ ap (λ gs. guards ++ map (dense w) gs) (guards_cons next now action (drop (i + 1) actions))
          ∙ ap (λ gs. guards ++ gs) (map-append (dense w) (action_guards now action)
          (guards_from (next_column next action) (next_state next now action) (drop (i + 1) actions)))
          ∙ sym (append_assoc guards (map (dense w) (action_guards now action))
          (map (dense w) (guards_from (next_column next action) (next_state next now action) (drop (i + 1) actions))))
          ∙ ap₂ (λ gs j. gs ++ map (dense w) (guards_from j (next_state next now action) (drop (i + 1) actions))) (sym g) (sym n);
      ends_left = h.ends_left ∙ ap (ends_from next now) left ∙ ends_cons next now action (drop (i + 1) actions)
          ∙ ap (λ j. ends_from j (next_state next now action) (drop (i + 1) actions)) (sym n);
      first_left = λ template. first_on template
          ∙ first_wide_later long_limit (action_composition w now action)
          (actions_composition w template (next_column next action) (next_state next now action) (drop (i + 1) actions)) f
          ∙ ap (λ j. first_wide long_limit (actions_composition w template j (next_state next now action) (drop (i + 1) actions))) (sym n);
    }

    -- a fault of the action at hand is a fault of all actions
    pub walked_wide : (fault : OperationFault) → IsFaultOf (action_composition w now action) fault → (template : List (List ℤ))
        → IsFaultOf (actions_composition w template k forms actions) fault
    walked_wide NoMemory f template = tt
    walked_wide (Wide o) f template =
        first_on template ∙ sooner (action_composition w now action) (actions_composition w template (next_column next action)
        (next_state next now action) (drop (i + 1) actions)) (Wide o) f

  module _ (i next : ℕ) (state guards : List Affine) (now : List Form) (h : IsWalked w k forms actions i next state guards now)
      (l : length actions ≤ i) where
    ends_now : ends_from k forms actions ≡ now
    ends_now = h.ends_left ∙ ap (ends_from next now) (drop_all i actions l) ∙ ends_nil next now

    -- at the end the guards are those of all actions
    pub walked_guards : guards ≡ map (dense w) (guards_from k forms actions)
    walked_guards = sym (h.guards_now ∙ ap (λ later. guards ++ map (dense w) (guards_from next now later)) (drop_all i actions l)
        ∙ ap (λ gs. guards ++ map (dense w) gs) (guards_nil next now) ∙ append-nil guards)

    -- at the end the state is that of the forms behind all actions
    pub walked_state : state ≡ map (dense w) (ends_from k forms actions)
    walked_state = h.state_now ∙ ap (map (dense w)) (sym ends_now)

    -- at the end the operations that are left are those of the template's rows
    pub walked_first : (template : List (List ℤ)) → first_wide long_limit (actions_composition w template k forms actions)
        ≡ first_wide long_limit (flat_map (row_composition w (ends_from k forms actions)) template)
    walked_first template =
        h.first_left template ∙ ap (λ later. first_wide long_limit (actions_composition w template next now later)) (drop_all i actions l)
        ∙ ap (λ fs. first_wide long_limit (flat_map (row_composition w fs) template)) (sym ends_now)

-- ---- how many there are
pub column_frees : (k : ℕ) (action : Action) → next_column k action ≡ k + free_count (action ∷ [])
unfolding free_count
column_frees k (Guard form) = omega arith
column_frees k (Assign var form) = omega arith
column_frees k (Havoc var) = omega arith
column_frees k (Check about) = omega arith

-- actions have at most as many guards as there are actions
pub guards_few : (k : ℕ) (forms : List Form) (actions : List Action) → length (guards_from k forms actions) ≤ length actions
unfolding guards_from
guards_few k forms [] = omega arith
guards_few k forms (Guard form ∷ actions) = let h = guards_few k forms actions in omega (arith, h)
guards_few k forms (Assign var form ∷ actions) = let h = guards_few k (with_form forms var (composed form forms)) actions in
    omega (arith, h)
guards_few k forms (Havoc var ∷ actions) = let h = guards_few (suc k) (with_form forms var (column k)) actions in omega (arith, h)
guards_few k forms (Check about ∷ actions) = let h = guards_few k forms actions in omega (arith, h)
