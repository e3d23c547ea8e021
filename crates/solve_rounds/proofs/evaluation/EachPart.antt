-- Each part of a list is a list of the same kind.
use Rattle.std.proofs.Common.{◌≡◌, ◌∙◌, inl, inr, ℕ, zero, suc, ◌+◌, ◌*◌, ◌<◌, ◌≤◌, List, [], ◌∷◌, length, get_or, map, sym, ap, subst}
use Rattle.std.proofs.Common.{arith}
use Rattle.std.specs.Prelude.{Option, Some, None}
use Rattle.std.proofs.lemmas.List.{get_or-map, length-map}
use Rattle.base_facts.specs.Elements.{In}
use Rattle.flow_systems.specs.View.{equations_of}
use Rattle.flow_systems.specs.declared.system.System.{System}
use Rattle.cert_types.specs.declared.step.Step.{Step as CodeStep}
use Rattle.theory_transformers.specs.JointProblems.{Listed}
use Rattle.theory_transformers.specs.Parts.{InSome}
use Rattle.theory_transformers.proofs.parts.PartsLaw.{parts_sound}
use Rattle.solve_joint.specs.Numbers.{number_of, listed_of, all_listed, Rises, IsPicked, ArePicked}
use Rattle.solve_joint.specs.PartLists.{EachRises, listed_parts, part_numbers}
use Rattle.solve_joint.proofs.numbers.NodeFacts.{number_back}
use Rattle.solve_rounds.specs.Lows.{edge_in, raise_at, IsRaised}
use Rattle.solve_rounds.specs.Turning.{IsPart}
use Rattle.solve_rounds.proofs.turning.TurnItems.{place_of, in_place}
use Rattle.solve_rounds.proofs.turning.Turned.{picked_in}
use Rattle.solve_rounds.proofs.evaluation.Parting.{of_map}
use Rattle.flow_systems.specs.declared.limits.TheConstants.{MOST_UNKNOWNS}

-- what holds of each of a list holds of each of another whose elements are in it
each_in : (P : ℕ → Type 0) (xs list : List ℕ) → ((u : ℕ) → In xs u → In list u) → ((k : ℕ) → k < length list → P (get_or list k 0))
    → (k : ℕ) → k < length xs → P (get_or xs k 0)
each_in P xs list within h k l = let p = place_of list (get_or xs k 0) 0 (within (get_or xs k 0) (in_place xs 0 k l)) in
    subst P p.2 (h p.0 p.1)

-- a list whose numbers are all picked is a picked list
pub picked_all : (system : System) (pick : List (Option ℕ)) (xs : List ℕ) → ((k : ℕ) → k < length xs → IsPicked system pick (get_or xs k 0))
    → ArePicked system pick xs
picked_all system pick [] h = tt
picked_all system pick (u ∷ xs) h = (h 0 (omega arith), picked_all system pick xs (λ k l. h (suc k) (omega arith)))

-- the numbers of a rising list below a bound are few
pub rising_few : (n from : ℕ) (list : List ℕ) → Rises from list → ((k : ℕ) → k < length list → get_or list k 0 < from + n) → length list ≤ n
rising_few n from [] h within = omega arith
rising_few zero from (u ∷ list) h within = let a = h.0 in let b = within 0 (omega arith) in absurd (omega arith)
rising_few (suc n) from (u ∷ list) h within =
    let r = rising_few n (u + 1) list h.1 (λ k l. below k l (within (suc k) (omega arith))) in omega arith
  where
    below : (k : ℕ) → k < length list → get_or list k 0 < from + suc n → get_or list k 0 < u + 1 + n
    below k l b = let a = h.0 in omega arith

in_some : (ps : List (List Listed)) (k : ℕ) (w : Listed) → k < length ps → In (get_or ps k []) w → InSome ps w
in_some [] k w l m = absurd (omega arith)
in_some (p ∷ ps) zero w l m = inl m
in_some (p ∷ ps) (suc k) w l m = inr (in_some ps k w (omega arith) m)

each_rises : (ps : List (List ℕ)) (k : ℕ) → k < length ps → EachRises ps → Rises 0 (get_or ps k [])
each_rises [] k l h = absurd (omega arith)
each_rises (p ∷ ps) zero l h = h.0
each_rises (p ∷ ps) (suc k) l h = each_rises ps k (omega arith) h.1

module _ (system : System) (pick : List (Option ℕ)) (raises : List CodeStep) (places list : List ℕ)
    (whole : IsPart system pick raises places list) where
  -- a member of a part is in the list
  pub part_within : (k : ℕ) → k < length (part_numbers system pick list) → (u : ℕ) → In (get_or (part_numbers system pick list) k []) u
      → In list u
  part_within k l u m =
      let rows = length system.template in
      let us = all_listed system pick list in
      let ps = listed_parts system pick list in
      let l' : k < length ps = subst (λ n. k < n) (length-map ps (map (number_of rows))) l in
      let w = of_map (number_of rows) (get_or ps k []) u (subst (λ s. In s u) (get_or-map (map (number_of rows)) ps k [] [] l') m) in
      let v = of_map (listed_of rows pick) list w.0 (parts_sound (equations_of system) us w.0 (in_some ps k w.0 l' w.1)) in
      subst (In list) (sym (number_back rows pick v.0) ∙ ap (number_of rows) v.2 ∙ w.2) v.1

  -- each part is one
  pub each_part : EachRises (part_numbers system pick list) → (k : ℕ) → k < length (part_numbers system pick list)
      → IsPart system pick raises places (get_or (part_numbers system pick list) k [])
  each_part rise k l =
      let xs = get_or (part_numbers system pick list) k [] in
      let within = part_within k l in
      record {
        rises = each_rises (part_numbers system pick list) k l rise;
        picked = picked_all system pick xs (each_in (IsPicked system pick) xs list within (picked_in system pick list whole.picked));
        raised = each_in (IsRaised raises places) xs list within whole.raised;
        edges = each_in (λ u. get_or pick u None ≡ Some (edge_in (raise_at raises places u))) xs list within whole.edges;
      }

  -- with few members
  pub part_few : length system.flow.points * length system.template ≤ MOST_UNKNOWNS → EachRises (part_numbers system pick list) → (k : ℕ)
      → k < length (part_numbers system pick list) → length (get_or (part_numbers system pick list) k []) ≤ MOST_UNKNOWNS
  part_few few rise k l =
      let p = each_part rise k l in
      let xs = get_or (part_numbers system pick list) k [] in
      let n = length system.flow.points * length system.template in
      let h = rising_few n 0 xs p.rises (λ j m. let i = (picked_in system pick xs p.picked j m).in_range in omega arith) in
      omega arith
