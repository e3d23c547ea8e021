-- The stated layout on a small system, and the parts of small lists.
use Rattle.std.proofs.Common.{◌≡◌, ℕ, zero, suc, List, [], ◌∷◌, refl}
use Rattle.std.specs.Prelude.{pos, negsuc}
use Rattle.base_numbers.specs.Rational.{ℚ, whole, zero_ℚ, one_ℚ, ◌+ℚ◌, ◌*ℚ◌, ◌-ℚ◌, neg_ℚ}
use Rattle.base_numbers.specs.Extended.{fin, pos_inf}
use Rattle.base_numbers.specs.Vector.{add_vec, scale_vec}
use Rattle.flow_edges.specs.declared.edge.Action.TheVariants.{Guard, Assign}
use Rattle.flow_edges.specs.declared.edge.Edge.{Edge}
use Rattle.flow_systems.specs.Equations.{Equations, Vector}
use Rattle.theory_validity.specs.Words.{shifted, column, columns, combined, composed, guards_from, ends_from, free_count, width}
use Rattle.theory_validity.specs.Words.{guard_forms, start_form, end_form}
use Rattle.theory_validity.specs.Certificates.{num}
use Rattle.theory_transformers.specs.Limits.{Limit, limits_problem}
use Rattle.theory_transformers.specs.EdgeProblems.{source_limit, source_limits, guard_limits}
use Rattle.theory_transformers.specs.JointProblems.{Listed, picked, own_row, is_at, columns_of, split_list, on_rise, own_limit}
use Rattle.theory_transformers.specs.JointProblems.{block_limits, joint_limits, word_columns, joint_problem}
use Rattle.theory_transformers.specs.Parts.{leans, same, reaches, together, all_in, keep, first_of, ready, part_before, parts_from, parts}

-- one variable x, one row x; the loop's edge: x - 9 is at most 0, x takes x + 1
abbrev loop : Edge
loop = record {
  from = 1;
  to = 1;
  actions = Guard (record { coeffs = pos 1 ∷ []; constant = negsuc 8 })
      ∷ (Assign 0 (record { coeffs = pos 1 ∷ []; constant = pos 1 }) ∷ []);
}

abbrev sample : Equations
sample = record { variables = 1; points = 2; edges = loop ∷ []; template = (pos 1 ∷ []) ∷ [] }

abbrev head : Listed
head = record { point = 1; row = 0; edge = 0 }

abbrev base : Vector
base zero r = pos_inf
base (suc p) r = fin zero_ℚ

abbrev one_times : ℚ → ℚ
one_times q = whole (pos 1) *ℚ q

abbrev source_row : Limit
source_row = record { coeffs = neg_ℚ one_ℚ ∷ (one_times one_ℚ ∷ (neg_ℚ (one_times one_ℚ) ∷ [])); side = zero_ℚ }

abbrev guard_row : Limit
guard_row = record {
  coeffs = zero_ℚ ∷ (one_times one_ℚ ∷ (neg_ℚ (one_times one_ℚ) ∷ []));
  side =
      neg_ℚ ((one_times zero_ℚ +ℚ zero_ℚ) +ℚ whole (negsuc 8));
}

abbrev own : Limit
own = record {
  coeffs = one_ℚ ∷ ((neg_ℚ one_ℚ *ℚ one_times (one_times one_ℚ)) ∷ (neg_ℚ (neg_ℚ one_ℚ *ℚ one_times (one_times one_ℚ)) ∷ []));
  side = (one_times ((one_times zero_ℚ +ℚ zero_ℚ) +ℚ whole (pos 1)) +ℚ zero_ℚ) -ℚ zero_ℚ;
}

-- the source row with -1 on its own rise, the guard, and the own row; one rise and two split columns
layout : joint_limits sample base (head ∷ []) 0 (head ∷ []) ≡ source_row ∷ (guard_row ∷ (own ∷ []))
unfolding joint_limits block_limits own_limit source_limits source_limit guard_limits picked own_row is_at columns_of split_list on_rise
    start_form end_form guard_forms guards_from ends_from width free_count combined composed columns column shifted add_vec scale_vec num
layout = refl

column_count : (joint_problem sample base (head ∷ [])).cols ≡ 3
unfolding joint_problem limits_problem word_columns columns_of picked width free_count
column_count = refl

-- ---- parts
abbrev at_point : ℕ → Listed
at_point p = record { point = p; row = 0; edge = p }

abbrev from_point : ℕ → Edge
from_point p = record { from = p; to = 0; actions = [] }

-- edge k begins at the k-th of these points
abbrev with_sources : ℕ → ℕ → ℕ → Equations
with_sources a b c = record {
  variables = 1;
  points = 4;
  edges = from_point 0 ∷ (from_point a ∷ (from_point b ∷ (from_point c ∷ [])));
  template = (pos 1 ∷ []) ∷ [];
}

abbrev three : List Listed
three = at_point 1 ∷ (at_point 2 ∷ (at_point 3 ∷ []))

-- 1 leans on 2, 2 on 3, 3 on itself: the last comes first
chain_parts : parts (with_sources 2 3 3) three ≡ (at_point 3 ∷ []) ∷ ((at_point 2 ∷ []) ∷ ((at_point 1 ∷ []) ∷ []))
unfolding parts parts_from part_before first_of ready all_in keep together reaches leans same picked
chain_parts = refl

-- 1 and 3 lean on each other, 2 on 3
pair_parts : parts (with_sources 3 3 1) three ≡ (at_point 1 ∷ (at_point 3 ∷ [])) ∷ ((at_point 2 ∷ []) ∷ [])
unfolding parts parts_from part_before first_of ready all_in keep together reaches leans same picked
pair_parts = refl

-- 1 and 2 lean on themselves, 3 on 2: the lowest that may come next does
free_parts : parts (with_sources 1 2 2) three ≡ (at_point 1 ∷ []) ∷ ((at_point 2 ∷ []) ∷ ((at_point 3 ∷ []) ∷ []))
unfolding parts parts_from part_before first_of ready all_in keep together reaches leans same picked
free_parts = refl
