-- Marks and steps after one more raise.
use Rattle.std.proofs.Common.{◌≡◌, ◌∙◌, ◌⊎◌, inl, inr, ⊎_elim, ℕ, zero, suc, ◌+◌, ◌*◌, ◌/◌, ◌%◌, ◌<◌, ◌≤◌, ◌||◌, Bool, true, false}
use Rattle.std.proofs.Common.{true≢false, List, [], ◌∷◌, ◌++◌, length, map, get_or, refl, sym, ap, ap₂, arith, length-append}
use Rattle.std.specs.Prelude.{slice_set}
use Rattle.std.specs.List.{filter}
use Rattle.std.specs.Prelude.{nat_le}
use Rattle.std.proofs.lemmas.Bool.{leb-true}
use Rattle.std.proofs.lemmas.Nat.{div-add-mod'}
use Rattle.std.proofs.lemmas.List.{get_or-set_same, get_or-set_other, length-set, map-append, append-nil, get_or_default}
use Rattle.std.proofs.lemmas.List.Folds.{list_any-append}
use Rattle.std.proofs.lemmas.List.Sums.{count_by-le-length, length-filter}
use Rattle.std.proofs.lemmas.Bool.Decides.{eqb_tells}
use Rattle.base_numbers.specs.Extended.{Ext as Extended}
use Rattle.flow_systems.specs.declared.system.System.{System}
use Rattle.flow_systems.specs.SystemLimits.{is_over}
use Rattle.flow_systems.proofs.Sizes.{both}
use Rattle.theory_validity.specs.Steps.{Item, Step, names}
use Rattle.theory_validity.proofs.steps.Puts.{named_is, names_itself}
use Rattle.cert_types.specs.declared.step.Step.{Step as CodeStep}
use Rattle.cert_types.specs.Certificates.{step_of}
use Rattle.theory_strategy.specs.Growth.{items_of}
use Rattle.theory_strategy.proofs.growth.GrowthLaw.{items-append}
use Rattle.solve_rounds.specs.declared.growing.Growing.{Growing}
use Rattle.solve_rounds.specs.GrowthTests.{is_named}
use Rattle.solve_rounds.specs.Growing.{steps_so_far, IsKept, NamesOne}
use Rattle.flow_systems.specs.declared.limits.TheConstants.{MOST_UNKNOWNS}

abbrev marks : List Bool → ℕ
marks raised = length (filter (λ marked. marked) raised)

-- one more mark
marks_set : (raised : List Bool) (u : ℕ) → u < length raised → get_or raised u false ≡ false
    → marks (slice_set raised u true) ≡ suc (marks raised)
marks_set [] u l e = absurd (omega arith)
marks_set (true ∷ raised) zero l e = absurd (true≢false e)
marks_set (false ∷ raised) zero l e = refl
marks_set (true ∷ raised) (suc u) l e = ap suc (marks_set raised u (omega arith) e)
marks_set (false ∷ raised) (suc u) l e = marks_set raised u (omega arith) e

truth : (b : Bool) → (b ≡ true) ⊎ (b ≡ false)
truth true = inl refl
truth false = inr refl

items_one : (s : Step) (item : Item) → s.items ≡ item ∷ [] → items_of (s ∷ []) ≡ item ∷ []
unfolding items_of
items_one s item e = append-nil s.items ∙ e

-- which unknowns steps and one more name
names_more : (rows unknown : ℕ) (steps : List Step) (s : Step) (one : NamesOne rows unknown s) (u : ℕ) →
    is_named rows (items_of (steps ++ s ∷ [])) u ≡ (is_named rows (items_of steps) u || (names one.item (u / rows) (u % rows) || false))
names_more rows unknown steps s one u =
    ap (λ l. is_named rows l u) (items-append steps (s ∷ []) ∙ ap (λ l. items_of steps ++ l) (items_one s one.item one.single))
    ∙ list_any-append (λ item. names item (u / rows) (u % rows)) (items_of steps) (one.item ∷ [])

named_now : (rows unknown : ℕ) (item : Item) → item.point ≡ unknown / rows → item.row ≡ unknown % rows
    → names item (unknown / rows) (unknown % rows) ≡ true
named_now rows unknown item e f = sym (ap₂ (names item) e f) ∙ names_itself item

not_named : (rows unknown u : ℕ) (item : Item) → item.point ≡ unknown / rows → item.row ≡ unknown % rows → (u ≡ unknown → ⊥)
    → names item (u / rows) (u % rows) ≡ false
not_named rows unknown u item e f other = ⊎_elim (λ h. absurd (other (same h))) (λ h. h) (truth (names item (u / rows) (u % rows)))
  where
    same : names item (u / rows) (u % rows) ≡ true → u ≡ unknown
    same h =
        let k = named_is item (u / rows) (u % rows) h in
        sym (div-add-mod' u rows) ∙ ap₂ (λ a b. a * rows + b) (sym k.0 ∙ e) (sym k.1 ∙ f) ∙ div-add-mod' unknown rows

or_false : (b : Bool) → b || (false || false) ≡ b
or_false true = refl
or_false false = refl

or_true : (b : Bool) → b || (true || false) ≡ true
or_true true = refl
or_true false = refl

-- after one more raise everything is kept
pub kept_more : (system : System) (old new : Growing) (unknown : ℕ) (bound : Extended) (step : CodeStep) → IsKept system old
    → unknown < length system.flow.points * length system.template →
    get_or old.raised.items unknown false ≡ false → NamesOne (length system.template) unknown (step_of (length system.template) step) →
    new.bounds ≡ slice_set old.bounds unknown bound → new.raised.items ≡ slice_set old.raised.items unknown true
    → new.steps.items ≡ old.steps.items ++ step ∷ [] → IsKept system new
kept_more system old new unknown bound step kept within unraised one b r s =
    record {
      bounds = ap (λ l. length l) b ∙ length-set old.bounds unknown bound ∙ kept.bounds;
      raised = ap (λ l. length l) r ∙ length-set old.raised.items unknown true ∙ kept.raised;
      named = λ u l.
          ap (λ m. get_or m u false) r
          ∙ ⊎_elim (λ e. here u e.1) (λ e. there u l e.1) (eqb_tells u unknown)
          ∙ sym (ap (λ steps. is_named (length system.template) (items_of steps) u) steps_are
          ∙ names_more (length system.template) unknown (steps_so_far system old) (step_of (length system.template) step) one u);
      count = ap (λ l. length l) s ∙ length-append old.steps.items (step ∷ [])
          ∙ (let c = kept.count in let e : length old.steps.items + 1 ≡ suc (marks old.raised.items) = omega arith in e)
          ∙ sym (ap marks r ∙ marks_set old.raised.items unknown (let k = kept.raised in omega arith) unraised);
    }
  where
    steps_are : steps_so_far system new ≡ steps_so_far system old ++ step_of (length system.template) step ∷ []
    steps_are = ap (map (step_of (length system.template))) s ∙ map-append (step_of (length system.template)) old.steps.items (step ∷ [])

    here : (u : ℕ) → u ≡ unknown → get_or (slice_set old.raised.items unknown true) u false
        ≡ (is_named (length system.template) (items_of (steps_so_far system old)) u
        || (names one.item (u / length system.template) (u % length system.template) || false))
    here u e =
        ap (λ k. get_or (slice_set old.raised.items unknown true) k false) e
        ∙ get_or-set_same old.raised.items unknown true false (let k = kept.raised in omega arith)
        ∙ sym (ap (λ k. is_named (length system.template) (items_of (steps_so_far system old)) u
        || (names one.item (k / length system.template) (k % length system.template) || false)) e
        ∙ ap (λ n. is_named (length system.template) (items_of (steps_so_far system old)) u || (n || false))
        (named_now (length system.template) unknown one.item one.point one.row)
        ∙ or_true (is_named (length system.template) (items_of (steps_so_far system old)) u))

    there : (u : ℕ) → u < length system.flow.points * length system.template → (u ≡ unknown → ⊥)
        → get_or (slice_set old.raised.items unknown true) u false
        ≡ (is_named (length system.template) (items_of (steps_so_far system old)) u
        || (names one.item (u / length system.template) (u % length system.template) || false))
    there u l other =
        get_or-set_other old.raised.items unknown u true false other
        ∙ kept.named u l
        ∙ sym (ap (λ n. is_named (length system.template) (items_of (steps_so_far system old)) u || (n || false))
        (not_named (length system.template) unknown u one.item one.point one.row other)
        ∙ or_false (is_named (length system.template) (items_of (steps_so_far system old)) u))

-- there are at most as many steps as unknowns
pub few_steps : (system : System) (growing : Growing) → IsKept system growing
    → length growing.steps.items ≤ length system.flow.points * length system.template
few_steps system growing kept = (let a = kept.count in let b = kept.raised in
    omega (arith, a, b, length-filter (λ (m : Bool). m) growing.raised.items, count_by-le-length (λ (m : Bool). m) growing.raised.items))

-- there are at most MOST_UNKNOWNS unknowns
pub system_size : (system : System) → length system.flow.points * length system.template ≤ MOST_UNKNOWNS
system_size system =
    let n = length system.flow.points * length system.template in
    leb-true n MOST_UNKNOWNS (both (is_over (length system.flow.names) system.template) (nat_le n MOST_UNKNOWNS) system.within_limits).1

-- a mark that was read
pub mark_is : (raised : List Bool) (u : ℕ) (b : Bool) → u < length raised → b ≡ get_or raised u b → get_or raised u false ≡ b
mark_is raised u b l e = get_or_default raised u false b l ∙ sym e
