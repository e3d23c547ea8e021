-- What example certificates share: an entry that sets x to 0, the rows x and -x, and the plain step that finds their bounds after it.
use Rattle.std.proofs.Common.{inl, inr, ℕ, zero, suc, ◌<◌, List, [], ◌∷◌, pos, negsuc, refl, subst, arith}
use Rattle.std.proofs.lemmas.Option.{same_Some}
use Rattle.base_facts.specs.Elements.{In}
use Rattle.base_numbers.specs.Gcd.{gcd, gcd_within}
use Rattle.base_numbers.specs.Vector.{dot, add_vec, scale_vec}
use Rattle.base_numbers.specs.Rational.{whole, zero_ℚ, one_ℚ, is_reduced, ratio, le_ℚ, lt_ℚ, neg_ℚ, ◌+ℚ◌, ◌-ℚ◌, ◌*ℚ◌, ◌≤ℚ◌}
use Rattle.base_numbers.specs.Extended.{fin, ◌≤ᴱ◌}
use Rattle.flow_edges.specs.declared.edge.Action.TheVariants.{Assign}
use Rattle.flow_edges.specs.declared.edge.Edge.{Edge}
use Rattle.flow_systems.specs.Equations.{Equations, Vector, Fits}
use Rattle.flow_systems.specs.States.{RationalState, dotℚ}
use Rattle.theory_validity.specs.Words.{val, lin, shifted, column, columns, values, combined, composed, guards_from, ends_from, free_count}
use Rattle.theory_validity.specs.Words.{width, guard_forms, start_form, end_form, start_of, end_of}
use Rattle.theory_validity.specs.Steps.{Item, Runs, edge_of, row_of, names, put, new_value, after_step, end_value, Plain, Step}
use Rattle.theory_validity.specs.Steps.{Placed, PlainItem, ValidStep, start_vector}

-- what holds of the only element of a list, or of both
pub only : {A : Type 0} (P : A → Type 0) (x : A) → P x → (z : A) → In (x ∷ []) z → P z
only P x a z (inl e) = subst P e a
only P x a z (inr m) = absurd m

-- what holds of both elements of a list
pub both : {A : Type 0} (P : A → Type 0) (x y : A) → P x → P y → (z : A) → In (x ∷ y ∷ []) z → P z
both P x y a b z (inl e) = subst P e a
both P x y a b z (inr m) = only P y b z m

-- the edge from the entry, which sets x to 0
abbrev pub enter : Edge
enter = record { from = 0; to = 1; actions = Assign 0 (record { coeffs = pos 0 ∷ []; constant = pos 0 }) ∷ [] }

-- the system of that edge and others, over the rows x and -x
abbrev pub entered : ℕ → List Edge → Equations
entered points edges = record {
  variables = 1;
  points = points;
  edges = enter ∷ edges;
  template = (pos 1 ∷ []) ∷ (negsuc 0 ∷ []) ∷ [];
}

-- the item that bounds a row by 0 where the edge from the entry ends
abbrev pub at_zero : ℕ → Item
at_zero row = record {
  point = 1;
  row = row;
  edge = 0;
  low = record { start = whole (pos 5) ∷ []; free = [] };
  second =
      record { start = []; free = [] };
  number = whole (pos 0);
}

-- the step that finds both bounds
abbrev pub first : Step
first = record { kind = Plain; items = at_zero 0 ∷ at_zero 1 ∷ [] }

-- numbers compute where all these are open
unfoldable pub computing : whole (pos 1) ≤ℚ whole (pos 3)
unfolding le_ℚ lt_ℚ whole is_reduced ratio gcd gcd_within zero_ℚ one_ℚ ◌+ℚ◌ ◌*ℚ◌ ◌-ℚ◌ neg_ℚ val lin shifted column columns values combined
    composed guards_from ends_from free_count width guard_forms start_form end_form start_of end_of edge_of row_of names put new_value
    after_step end_value start_vector dot add_vec scale_vec
computing = record { le = tt }

module _ (points : ℕ) (edges : List Edge) where
  -- a state fits where its two rows do
  pub fits_both : (v : Vector) (p : ℕ) (x : RationalState) → fin (dotℚ (pos 1 ∷ []) x) ≤ᴱ v p 0 → fin (dotℚ (negsuc 0 ∷ []) x) ≤ᴱ v p 1
      → Fits (entered points edges) v p x
  fits_both v p x a b zero row e = subst (λ s. fin (dotℚ s x) ≤ᴱ v p 0) (same_Some (pos 1 ∷ []) row e) a
  fits_both v p x a b (suc zero) row e = subst (λ s. fin (dotℚ s x) ≤ᴱ v p 1) (same_Some (negsuc 0 ∷ []) row e) b
  fits_both v p x a b (suc (suc r)) row e = cc

  -- the first step is valid
  pub first_valid : 1 < points → ValidStep (entered points edges) start_vector first
  unfolding computing
  first_valid l = record {
    distinct = ((refl, tt), (tt, tt));
    placed = both (Placed (entered points edges)) (at_zero 0) (at_zero 1) (placed 0 (omega arith)) (placed 1 (omega arith));
    valid = both (PlainItem (entered points edges) start_vector) (at_zero 0) (at_zero 1)
        (record { size = (refl, refl); runs = runs; above = tt; reached = record { le = tt } })
        (record { size = (refl, refl); runs = runs; above = tt; reached = record { le = tt } });
  }
    where
      placed : (row : ℕ) → row < 2 → Placed (entered points edges) (at_zero row)
      placed row k = record { later = omega arith; point_within = l; row_within = k; edge_within = omega arith; into = refl }

      runs : Runs (entered points edges) start_vector enter (whole (pos 5) ∷ [])
      runs = record { passes = record { all = tt }; fits = fits_both start_vector 0 (start_of 1 (whole (pos 5) ∷ [])) tt tt }
