-- What a test of the code is for a vector that has its bounds.
use Rattle.std.proofs.Common.{◌≡◌, ◌∙◌, ◌⊎◌, inl, inr, ⊎_elim, ℕ, ◌+◌, ◌*◌, ◌/◌, ◌%◌, ◌<◌, Bool, true, false, List, [], ◌∷◌, ◌++◌, length}
use Rattle.std.proofs.Common.{map, get_or, refl, sym, ap, ap₂, subst, arith, if◌then◌else◌}
use Rattle.std.specs.Prelude.{slice_set, Some}
use Rattle.std.proofs.lemmas.Nat.{div-add-mod', div-mul-add, mod-mul-add}
use Rattle.std.proofs.lemmas.List.{get_or-set_same, get_or-set_other, map-append}
use Rattle.base_numbers.specs.Rational.{ℚ}
use Rattle.base_numbers.specs.Extended.{Ext as Extended, neg_inf, fin, pos_inf, ◌≤ᴱ◌, ◌<ᴱ◌}
use Rattle.base_numbers.proofs.extended.ExtendedLaws.{ext_le_or_lt}
use Rattle.base_fractions.specs.Fits.{long_limit}
use Rattle.base_fractions.specs.Operation.{first_wide, operation_of}
use Rattle.flow_systems.specs.Equations.{Equations, Vector}
use Rattle.flow_systems.specs.View.{equations_of}
use Rattle.flow_systems.specs.declared.system.System.{System}
use Rattle.theory_validity.specs.Steps.{Item, Step, edge_of, row_of, names, put, new_value, after_step}
use Rattle.theory_validity.proofs.steps.Puts.{named_is, names_itself}
use Rattle.cert_types.specs.declared.step.Step.{Step as CodeStep}
use Rattle.cert_types.specs.declared.step.Step.TheVariants.{Plain, Jump, Ray}
use Rattle.cert_types.specs.Certificates.{step_of, plain_item, jump_item, pieces_of, no_pieces}
use Rattle.theory_strategy.specs.Picks.{value_at, choice}
use Rattle.theory_strategy.specs.Growth.{with_words, raised_to}
use Rattle.theory_rounds.specs.Rounds.{exact_raise}
use Rattle.theory_rounds.proofs.raises.ProblemsAgree.{transformer_agrees}
use Rattle.solve_composition.specs.declared.value.Value.{Value}
use Rattle.solve_composition.specs.declared.value.Value.TheVariants.{Unreached, Empty, Best, Unbounded}
use Rattle.solve_transformer.specs.Values.{IsValue}
use Rattle.solve_composition.specs.Value.{number_of}
use Rattle.flow_systems.specs.declared.sums.Constants.TheVariants.{Zero}
use Rattle.solve_raise.specs.Moves.{carried}
use Rattle.solve_raise.specs.Lows.{low_of}
use Rattle.solve_raise.specs.Numbers.{fitting}
use Rattle.solve_raise.specs.Raises.{choice_of, raised, raise_operations, HasSizes, Rises}
use Rattle.solve_rounds.specs.declared.growing.Growing.{Growing}
use Rattle.flow_systems.specs.declared.fault.Fault.{Fault}
use Rattle.flow_systems.specs.declared.spot.Spot.{Spot}
use Rattle.flow_systems.specs.declared.fault.Fault.TheVariants.{Wide, NoMemory}
use Rattle.solve_offers.specs.AtBounds.{transformers, vector_at}
use Rattle.solve_rounds.specs.GrowthStops.{IsStopIn}
use Rattle.solve_rounds.specs.Growing.{Agrees, bound_given, HasItem, NamesOne, tested, IsGo, IsValueAt, IsValueStop, IsStepStop}
use Rattle.solve_offers.proofs.offers.Unknowns.{row_within}
use Rattle.solve_offers.proofs.ValuesAgree.{value_agrees, fault_agrees}
use Rattle.solve_rounds.proofs.growing.RaiseRead.{not_below, raise_is, sizes_are, rises_are}

-- ---- the step of a raise
-- it names the raised unknown alone
pub raised_names : (system : Equations) (rows edge unknown : ℕ) (b : Extended) (value : Value) → b <ᴱ number_of value
    → NamesOne rows unknown (raised system (choice_of rows unknown edge) b value)
unfolding raised with_words choice
raised_names system rows edge unknown b (Unreached r) h = absurd (not_below b h)
raised_names system rows edge unknown b (Empty ys gs) h = absurd (not_below b h)
raised_names system rows edge unknown b (Best value trace ys gs) h =
    record {
      item = with_words (choice_of rows unknown edge) (pieces_of trace) no_pieces (raised_to fitting b value);
      single = refl;
      point =
          refl;
      row = refl;
    }
raised_names system rows edge unknown b (Unbounded trace direction) h =
    let u = choice_of rows unknown edge in
    record {
      item = with_words u (low_of system (edge_of system u) (row_of system u) b trace direction) (pieces_of direction)
          (carried Zero system (edge_of system u) (row_of system u) direction);
      single = refl;
      point = refl;
      row = refl;
    }

-- a step that names an unknown has an item
pub has_item : (rows unknown : ℕ) (step : CodeStep) → NamesOne rows unknown (step_of rows step) → HasItem step
has_item rows unknown (Plain []) one = absurd (let f : [] ≡ one.item ∷ [] = one.single in cc)
has_item rows unknown (Plain (i ∷ is)) one = omega arith
has_item rows unknown (Jump []) one = absurd (let f : [] ≡ one.item ∷ [] = one.single in cc)
has_item rows unknown (Jump (i ∷ is)) one = omega arith
has_item rows unknown (Ray is) one = tt

-- the bound that it gives is that of its item
given_is : (rows : ℕ) (step : CodeStep) (item : Item) → (step_of rows step).items ≡ item ∷ []
    → bound_given step ≡ new_value (step_of rows step).kind item
unfolding new_value
given_is rows (Plain []) item e = absurd (let f : [] ≡ item ∷ [] = e in cc)
given_is rows (Plain (i ∷ is)) item e =
    let f : plain_item rows i ∷ map (plain_item rows) is ≡ item ∷ [] = e in
    let g : plain_item rows i ≡ item = cc in
    ap (λ (x : Item). fin x.number) g
given_is rows (Jump []) item e = absurd (let f : [] ≡ item ∷ [] = e in cc)
given_is rows (Jump (i ∷ is)) item e =
    let f : jump_item rows i ∷ map (jump_item rows) is ≡ item ∷ [] = e in
    let g : jump_item rows i ≡ item = cc in
    ap (λ (x : Item). fin x.number) g
given_is rows (Ray is) item e = refl

truth : (b : Bool) → (b ≡ true) ⊎ (b ≡ false)
truth true = inl refl
truth false = inr refl

module _ (system : System) (bounds : List Extended) (unknown : ℕ) (within : unknown < length system.flow.points * length system.template)
    (size : length bounds ≡ length system.flow.points * length system.template)
    (z : Vector) (agrees : Agrees system z bounds) where
  row_there : unknown % length system.template < length system.template
  row_there = row_within unknown (length system.flow.points) (length system.template) within

  -- the vector has the unknown's bound
  pub bound_is : z (unknown / length system.template) (unknown % length system.template) ≡ get_or bounds unknown neg_inf
  bound_is = agrees (unknown / length system.template) (unknown % length system.template) row_there
      ∙ ap (λ k. get_or bounds k neg_inf) (div-add-mod' unknown (length system.template))

  -- after a step that names the unknown alone, it has the new bounds
  pub agrees_after : (step : CodeStep) → NamesOne (length system.template) unknown (step_of (length system.template) step) →
      Agrees system (after_step (step_of (length system.template) step) z) (slice_set bounds unknown (bound_given step))
  unfolding after_step put
  agrees_after step one p r l =
      ap (λ items. put (new_value (step_of (length system.template) step).kind) items z p r) one.single
      ∙ ⊎_elim here there (truth (names one.item p r))
    where
      there_is : one.item.point * length system.template + one.item.row ≡ unknown
      there_is = ap₂ (λ a b. a * length system.template + b) one.point one.row ∙ div-add-mod' unknown (length system.template)

      here : names one.item p r ≡ true → (if names one.item p r then new_value (step_of (length system.template) step).kind one.item else z
          p r) ≡ vector_at system (slice_set bounds unknown (bound_given step)) p r
      here e =
          let h = named_is one.item p r e in
          let k : p * length system.template + r ≡ unknown = sym (ap₂ (λ a b. a * length system.template + b) h.0 h.1) ∙ there_is in
          ap (λ b. if b then new_value (step_of (length system.template) step).kind one.item else z p r) e
          ∙ sym (given_is (length system.template) step one.item one.single)
          ∙ sym (ap (λ j. get_or (slice_set bounds unknown (bound_given step)) j neg_inf) k
          ∙ get_or-set_same bounds unknown (bound_given step) neg_inf (omega (arith, size, within)))

      there : names one.item p r ≡ false → (if names one.item p r then new_value (step_of (length system.template) step).kind one.item
          else z p r) ≡ vector_at system (slice_set bounds unknown (bound_given step)) p r
      there e =
          ap (λ b. if b then new_value (step_of (length system.template) step).kind one.item else z p r) e
          ∙ agrees p r l
          ∙ sym (get_or-set_other bounds unknown (p * length system.template + r) (bound_given step) neg_inf other)
        where
          other : p * length system.template + r ≡ unknown → ⊥
          other k =
              let q : p ≡ one.item.point = sym (div-mul-add p (length system.template) r l) ∙ ap (λ j. j / length system.template) k
              ∙ sym one.point in
              let s : r ≡ one.item.row = sym (mod-mul-add p (length system.template) r l) ∙ ap (λ j. j % length system.template) k
              ∙ sym one.row in
              let t : true ≡ false = sym (names_itself one.item) ∙ ap₂ (names one.item) (sym q) (sym s) ∙ e in
              cc

  module _ (edge : ℕ) where
    -- the tested unknown's edge and row
    abbrev u : Item
    u = tested system edge unknown

    module _ (value : Value) (h : IsValueAt system bounds edge (unknown % length system.template) value) where
      -- the value is that at the vector
      pub value_is : IsValue (equations_of system) z (edge_of (equations_of system) u) (row_of (equations_of system) u) value
      unfolding edge_of row_of choice
      value_is =
          value_agrees (equations_of system) (vector_at system bounds) z (edge_of (equations_of system) u) (row_of (equations_of system) u)
          (λ p r l. sym (agrees p r l)) value h.is_value

      -- and its number the transformer there
      pub number_is : value_at (equations_of system) (transformers system) z u ≡ number_of value
      unfolding edge_of row_of choice
      number_is =
          transformer_agrees (equations_of system) z (vector_at system bounds) agrees (edge_of (equations_of system) u)
          (row_of (equations_of system) u)
          ∙ h.supremum

      tested_bound : z u.point u.row ≡ get_or bounds unknown neg_inf
      unfolding choice
      tested_bound = bound_is

      -- nothing is raised where the value doesn't exceed the bound
      pub stays : (bound : Extended) → bound ≡ get_or bounds unknown neg_inf → (bound <ᴱ number_of value → ⊥) →
          value_at (equations_of system) (transformers system) z u ≤ᴱ z u.point u.row
      stays bound is none =
          ⊎_elim (λ k. k)
          (λ k. absurd (none (subst (λ b. b <ᴱ number_of value) (tested_bound ∙ sym is) (subst (λ v. z u.point u.row <ᴱ v) number_is k))))
          (ext_le_or_lt (value_at (equations_of system) (transformers system) z u) (z u.point u.row))

      -- where the edge's value is not above the bound, the transformer's value stays within it
      pub stays_within : (bound : Extended) → bound ≡ get_or bounds unknown neg_inf → (bound <ᴱ number_of value → ⊥)
          → value_at (equations_of system) (transformers system) z u ≤ᴱ get_or bounds unknown neg_inf
      stays_within bound is none = subst (λ b. value_at (equations_of system) (transformers system) z u ≤ᴱ b) tested_bound
          (stays bound is none)

      module _ (bound : Extended) (is : bound ≡ get_or bounds unknown neg_inf) (exceeds : bound <ᴱ number_of value) where
        -- the transformer's value at the unknown exceeds its bound
        exceeds_there : z u.point u.row <ᴱ value_at (equations_of system) (transformers system) z u
        exceeds_there =
            subst (λ v. z u.point u.row <ᴱ v) (sym number_is) (subst (λ b. b <ᴱ number_of value) (is ∙ sym tested_bound) exceeds)

        -- the step is that of the theory
        pub goes : (step : Step) → step ≡ raised (equations_of system) u bound value → exact_raise fitting (equations_of system) z u ≡ step
        goes step made =
            raise_is (equations_of system) z u exceeds_there value value_is number_is
            ∙ ap (λ b. raised (equations_of system) u b value) (tested_bound ∙ sym is) ∙ sym made

        -- the step is taken
        pub go_is : (old new : Growing) (step : CodeStep) → step_of (length system.template) step
            ≡ raised (equations_of system) u bound value →
            new.bounds ≡ slice_set bounds unknown (bound_given step) → new.raised.items ≡ slice_set old.raised.items unknown true
            → new.steps.items ≡ old.steps.items ++ step ∷ [] →
            IsGo system edge unknown z old new
        go_is old new step made b r s =
            let e = goes (step_of (length system.template) step) made in
            record {
              exceeds = exceeds_there;
              steps = ap (map (step_of (length system.template))) s ∙ map-append (step_of (length system.template)) old.steps.items
                  (step ∷ [])
                  ∙ ap (λ x. map (step_of (length system.template)) old.steps.items ++ x ∷ []) (sym e);
              agrees = subst (λ x. Agrees system (after_step x z) new.bounds) (sym e)
                  (subst (Agrees system (after_step (step_of (length system.template) step) z)) (sym b)
                  (agrees_after step (subst (NamesOne (length system.template) unknown) (sym made)
                  (raised_names (equations_of system) (length system.template) edge unknown bound value exceeds))));
              raised = r;
            }

        -- a wide operation of the raise
        pub step_stop : (raises round : ℕ) (stop : Fault Spot) → IsStepStop (raise_operations (equations_of system) u bound value) raises
            round stop →
            IsStopIn (equations_of system) (record { vector = z; unknown = tested system edge unknown; raises = raises } ∷ []) round stop
        step_stop raises round (Wide spot) k = record {
          round = k.round;
          test = record { vector = z; unknown = tested system edge unknown; raises = raises };
          listed = inl refl;
          formula = inr (record {
            site = k.site;
            exceeds = exceeds_there;
            value = value;
            is_value = value_is;
            wide = subst (λ b. first_wide long_limit (raise_operations (equations_of system) u b value)
                ≡ Some (operation_of (λ (q : ℚ). q) spot.wide)) (is ∙ sym tested_bound) k.wide;
          });
        }
        step_stop raises round NoMemory k = tt

    -- a wide operation of the test
    pub value_stop : get_or bounds unknown neg_inf <ᴱ pos_inf → (raises round : ℕ) (stop : Fault Spot) →
        IsValueStop system bounds edge (unknown % length system.template) round stop →
        IsStopIn (equations_of system) (record { vector = z; unknown = tested system edge unknown; raises = raises } ∷ []) round stop
    unfolding edge_of row_of choice
    value_stop limited raises round (Wide spot) k = record {
      round = k.round;
      test = record { vector = z; unknown = tested system edge unknown; raises = raises };
      listed = inl refl;
      formula = inl (record {
        limited = subst (λ b. b <ᴱ pos_inf) (sym bound_is) limited;
        part = k.part;
        site = k.site;
        wide = fault_agrees (equations_of system) (vector_at system bounds) z (edge_of (equations_of system) u)
            (row_of (equations_of system) u)
            (λ p r l. sym (agrees p r l)) k.part spot.wide k.wide;
      });
    }
    value_stop limited raises round NoMemory k = tt

-- the sizes and the direction of a value that was found
pub value_sizes : (system : System) (bounds : List Extended) (edge unknown : ℕ) (value : Value)
    → IsValueAt system bounds edge (unknown % length system.template) value →
    HasSizes (equations_of system) (choice_of (length system.template) unknown edge) value
unfolding edge_of row_of choice
value_sizes system bounds edge unknown value h = sizes_are (equations_of system) (vector_at system bounds) (tested system edge unknown)
    value h.is_value

-- where the code's value exceeds a bound, the transformer's value does
pub value_rises : (system : System) (bounds : List Extended) (edge unknown : ℕ) (value : Value)
    → IsValueAt system bounds edge (unknown % length system.template) value →
    Rises (equations_of system) (choice_of (length system.template) unknown edge) value
unfolding edge_of row_of choice
value_rises system bounds edge unknown value h = rises_are (equations_of system) (vector_at system bounds) (tested system edge unknown)
    value h.evidence
