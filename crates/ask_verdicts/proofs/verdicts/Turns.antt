-- The cases that the loop has judged.
use Rattle.std.proofs.Common.{◌≡◌, ◌∙◌, ◌↔◌, ℕ, ◌+◌, ◌<◌, List, [], length, get_or, Some, None, subst}
use Rattle.std.specs.Prelude.{Option, MatchOption}
use Rattle.std.proofs.lemmas.List.{get_or_default}
use Rattle.base_numbers.specs.Rational.{ℚ}
use Rattle.base_fractions.specs.declared.wide.Wide.{Wide}
use Rattle.lang_tree.specs.declared.form.Form.{Form}
use Rattle.flow_edges.specs.declared.edge.Action.{Action}
use Rattle.flow_systems.specs.States.{RationalState}
use Rattle.flow_systems.specs.Equations.{Equations, Vector}
use Rattle.flow_systems.specs.declared.spot.Part.{Part}
use Rattle.flow_systems.specs.declared.spot.PartFault.TheVariants.{Wide as WidePart}
use Rattle.lp_simplex.specs.Operations.{capped}
use Rattle.ask_verdicts.specs.Breaking.{NoneBreaks, NoneOpen}
use Rattle.ask_verdicts.specs.Verdicts.{FitsFor, IsBreaking, IsFaultFor, IsOpen, IsFirstFault, AllFit}
use Rattle.ask_verdicts.specs.declared.outcome.Verdict.TheVariants.{Proved, Open}
use Rattle.ask_verdicts.specs.declared.outcome.VerdictFault.TheVariants.{Wide as WideVerdict}
use Rattle.ask_verdicts.proofs.firsts.Firsts.{IsPassed, passed_more, found_fits}
use Rattle.ask_verdicts.proofs.verdicts.Once.{open_apart, open_somewhere}

-- the case that an element of the list is
pub case_at : (cases : List (List Form)) (i : ℕ) (item case : List Form) → i < length cases → item ≡ get_or cases i item → case ≡ item
    → case ≡ get_or cases i []
case_at cases i item case l e f = f ∙ e ∙ get_or_default cases i item [] l

module _ (system : Equations) (z : Vector) (p : ℕ) (before : List Action) (cases : List (List Form)) where
  -- no state breaks one of the first i cases, and no operation for them is wide
  abbrev pub IsJudged : ℕ → Type 0
  IsJudged i = IsPassed (λ k. NoneBreaks system z p before (get_or cases k [])) (λ k. FitsFor system z p before (get_or cases k [])) i

  module _ (i : ℕ) (judged : IsJudged i) (item case : List Form) (within : i < length cases) (is_item : item ≡ get_or cases i item)
      (is_case : case ≡ item) where
    here : case ≡ get_or cases i []
    here = case_at cases i item case within is_item is_case

    -- the first wide operation for this case
    pub judged_wide : (named : ℕ) (part : Part) (wide : Wide ℚ) → named ≡ capped i
        → IsFaultFor system z p before case (WidePart part wide) → IsFirstFault system z p before cases (WideVerdict named part wide)
    judged_wide named part wide e h = record {
      number = i;
      within = within;
      before = judged.none_below;
      fit = judged.fit;
      here = (e, subst (λ g. IsFaultFor system z p before g (WidePart part wide)) here h);
    }

    module _ (fit : FitsFor system z p before case) (found : Option RationalState)
        (says : MatchOption found (NoneBreaks system z p before case) (IsBreaking system z p before case)) where
      fit_here : FitsFor system z p before (get_or cases i [])
      fit_here = subst (FitsFor system z p before) here fit

      -- one case more that no state breaks
      pub judged_more : found ≡ None → IsJudged (i + 1)
      judged_more none =
          let unbroken = subst (λ o. MatchOption o (NoneBreaks system z p before case) (IsBreaking system z p before case)) none says in
          passed_more (λ k. NoneBreaks system z p before (get_or cases k [])) (λ k. FitsFor system z p before (get_or cases k [])) i judged
          fit_here (subst (NoneBreaks system z p before) here unbroken)

      -- a case that a state breaks
      module _ (x : RationalState) (some : found ≡ Some x) where
        breaking_here : IsBreaking system z p before (get_or cases i []) x
        breaking_here =
            let breaking = subst (λ o. MatchOption o (NoneBreaks system z p before case) (IsBreaking system z p before case)) some says in
            subst (λ g. IsBreaking system z p before g x) here breaking

        -- is the first one
        pub judged_open : IsOpen system z p before cases x
        judged_open = record { number = i; within = within; before = judged.none_below; here = breaking_here }

        -- so the verdict is not that it is proved
        pub judged_unproved : (Open x ≡ Proved) ↔ NoneOpen system z p before cases (length cases)
        judged_unproved = (
          (λ e. absurd (open_apart x e)),
          (λ none. absurd (open_somewhere system z p before cases x judged_open none)),
        )

        -- and up to it no operation is wide
        pub judged_fits : AllFit system z p before cases
        judged_fits =
            found_fits (λ k. NoneBreaks system z p before (get_or cases k [])) (λ k. FitsFor system z p before (get_or cases k [])) i judged
            fit_here (length cases) (λ none. none x breaking_here.breaks)
