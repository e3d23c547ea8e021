-- The items of a list's raises as listed unknowns.
use Rattle.std.proofs.Common.{◌≡◌, ◌∙◌, ℕ, suc, ◌/◌, ◌%◌, List, [], ◌∷◌, length, get_or, refl, sym, ap, ap₂, arith}
use Rattle.std.specs.Prelude.{Option, Some, None}
use Rattle.flow_systems.specs.declared.system.System.{System}
use Rattle.cert_types.specs.declared.step.Step.{Step as CodeStep}
use Rattle.cert_types.specs.declared.step.Step.TheVariants.{Plain, Jump, Ray}
use Rattle.cert_types.specs.Certificates.{pieces_of}
use Rattle.theory_transformers.specs.JointProblems.{Listed}
use Rattle.solve_joint.specs.Numbers.{edge_of, listed_of, all_listed}
use Rattle.theory_rounds.specs.JointItems.{listed_item, listed_items}
use Rattle.solve_rounds.specs.Lows.{IsFilled, unknown_in, edge_in, low_in, item_in, raise_at, IsRaised, AreRaised, ArePickedRaises}
use Rattle.solve_rounds.specs.Lows.{items_at}

-- what the item of a step with items is
pub record IsItemOf (rows : ℕ) (step : CodeStep) : Type 0 where
  -- the item's point is that of its unknown
  pub point : (item_in rows step).point ≡ unknown_in step / rows
  -- the item's row is that of its unknown
  pub row : (item_in rows step).row ≡ unknown_in step % rows
  -- the item's edge is that of its step
  pub edge : (item_in rows step).edge ≡ edge_in step
  -- the item's low trace is that of its step
  pub low : (item_in rows step).low ≡ pieces_of (low_in step)

-- a step that is filled has its item
pub item_is : (rows : ℕ) (step : CodeStep) → IsFilled step → IsItemOf rows step
item_is rows (Plain []) h = absurd (omega arith)
item_is rows (Plain (item ∷ items)) h = record { point = refl; row = refl; edge = refl; low = refl }
item_is rows (Jump []) h = absurd (omega arith)
item_is rows (Jump (item ∷ items)) h = record { point = refl; row = refl; edge = refl; low = refl }
item_is rows (Ray []) h = absurd (omega arith)
item_is rows (Ray (item ∷ items)) h = record { point = refl; row = refl; edge = refl; low = refl }

-- the raise of an unknown as an item
pub raised_item : (rows : ℕ) (raises : List CodeStep) (places : List ℕ) (u : ℕ) → IsRaised raises places u →
    ((item_in rows (raise_at raises places u)).point ≡ u / rows) × ((item_in rows (raise_at raises places u)).row ≡ u % rows)
raised_item rows raises places u h =
    let i = item_is rows (raise_at raises places u) h.filled in
    (i.point ∙ ap (λ n. n / rows) h.unknown, i.row ∙ ap (λ n. n % rows) h.unknown)

some_edge : (o : Option ℕ) (e : ℕ) → o ≡ Some e → edge_of o ≡ e
some_edge None e h = cc
some_edge (Some f) e h = same f e h
  where
    same : (a b : ℕ) → Some a ≡ Some b → a ≡ b
    same a b h = cc

-- a raised unknown with its picked edge is the listed unknown of its item
pub listed_here : (rows : ℕ) (pick : List (Option ℕ)) (raises : List CodeStep) (places : List ℕ) (u : ℕ) → IsRaised raises places u
    → get_or pick u None ≡ Some (edge_in (raise_at raises places u)) →
    listed_item (item_in rows (raise_at raises places u)) ≡ listed_of rows pick u
listed_here rows pick raises places u h e =
    let i = item_is rows (raise_at raises places u) h.filled in
    let p = raised_item rows raises places u h in
    ap (λ n. let l : Listed = record {
      point = n;
      row = (item_in rows (raise_at raises places u)).row;
      edge =
          (item_in rows (raise_at raises places u)).edge;
    } in l) p.0
    ∙ ap₂ (λ n m. let l : Listed = record { point = u / rows; row = n; edge = m } in l) p.1
    (i.edge ∙ sym (some_edge (get_or pick u None) (edge_in (raise_at raises places u)) e))

-- the items are those of the listed unknowns
pub listed_same : (system : System) (pick : List (Option ℕ)) (raises : List CodeStep) (places list : List ℕ) → AreRaised raises places list
    → ArePickedRaises pick raises places list →
    listed_items (items_at (length system.template) raises places list) ≡ all_listed system pick list
unfolding listed_items
listed_same system pick raises places [] h e = refl
listed_same system pick raises places (u ∷ list) h e =
    ap₂ (λ x xs. x ∷ xs) (listed_here (length system.template) pick raises places u (h 0 (omega arith)) (e 0 (omega arith)))
    (listed_same system pick raises places list (λ k l. h (suc k) (omega arith)) (λ k l. e (suc k) (omega arith)))
