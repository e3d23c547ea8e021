-- The rows over the numbers of a list are those of the theory's joint problem.
use Rattle.std.proofs.Common.{◌≡◌, ◌≢◌, ◌∙◌, ◌⊎◌, inl, inr, ⊎_elim, ℕ, zero, suc, ◌+◌, ◌*◌, ◌/◌, ◌%◌, ◌<◌, ◌==◌, ◌&&◌, cond, Bool, true}
use Rattle.std.proofs.Common.{false, List, [], ◌∷◌, ◌++◌, length, get_or, map, Option, refl, ap, ap₂, sym, div-add-mod', mod-lt, arith}
use Rattle.std.proofs.Common.{if◌then◌else◌}
use Rattle.std.specs.Prelude.{ℤ}
use Rattle.std.proofs.lemmas.Bool.Decides.{eqb_tells}
use Rattle.std.proofs.lemmas.Nat.{div-mul-add, mod-mul-add}
use mathlib.Core.Path.{fun_ext}
use Rattle.base_numbers.specs.Vector.{zeros}
use Rattle.base_numbers.specs.Rational.{ℚ, zero_ℚ, one_ℚ, neg_ℚ, ◌-ℚ◌}
use Rattle.base_numbers.specs.Extended.{Ext, neg_inf}
use Rattle.flow_systems.specs.declared.system.System.{System}
use Rattle.flow_systems.specs.Equations.{Equations, Vector}
use Rattle.flow_systems.specs.View.{equations_of, vector_of}
use Rattle.theory_validity.specs.Words.{guard_forms, end_form}
use Rattle.theory_validity.specs.Certificates.{num}
use Rattle.theory_transformers.specs.Limits.{Limit}
use Rattle.theory_transformers.specs.EdgeProblems.{source_limit, source_limits, guard_limits}
use Rattle.theory_transformers.specs.JointProblems.{Listed, picked, own_row, columns_of, is_at, split_list, on_rise, own_limit}
use Rattle.theory_transformers.specs.JointProblems.{block_limits, joint_limits, word_columns}
use Rattle.theory_transformers.specs.JointPoints.{Unlisted, Distinct}
use Rattle.solve_joint.specs.Numbers.{listed_of, all_listed, Rises, ArePicked}
use Rattle.solve_joint.specs.Rows.{on_numbers, embedded}
use Rattle.solve_joint.specs.Blocks.{edge_at, edge_for, own_of, block_of, blocks_from, split_width, split_columns}

same_true : (a b : ℕ) → a ≡ b → a == b ≡ true
same_true a b e = ⊎_elim (λ h. h.0) (λ h. absurd (h.1 e)) (eqb_tells a b)

-- the comparison of two different numbers is false
same_false : (a b : ℕ) → ¬ (a ≡ b) → a == b ≡ false
same_false a b n = ⊎_elim (λ h. absurd (n h.1)) (λ h. h.0) (eqb_tells a b)

-- a number is that of a point and a row where these are its quotient and its remainder
pub number_is : (rows u p r : ℕ) → r < rows → (u / rows == p) && (u % rows == r) ≡ u == p * rows + r
number_is rows u p r l = ⊎_elim
    (λ h. ap₂ (λ a b. a && b) (same_true (u / rows) p (ap (λ v. v / rows) h.1 ∙ div-mul-add p rows r l))
    (same_true (u % rows) r (ap (λ v. v % rows) h.1 ∙ mod-mul-add p rows r l)) ∙ sym h.0)
    (λ h. not_both (u / rows == p) (u % rows == r) (eqb_tells (u / rows) p) (eqb_tells (u % rows) r) h.1 ∙ sym h.0)
    (eqb_tells u (p * rows + r))
  where
    not_both : (a b : Bool) → ((a ≡ true) × (u / rows ≡ p)) ⊎ ((a ≡ false) × (u / rows ≢ p))
        → ((b ≡ true) × (u % rows ≡ r)) ⊎ ((b ≡ false) × (u % rows ≢ r)) → u ≢ p * rows + r → a && b ≡ false
    not_both a b (inr h) k n = ap (λ x. x && b) h.0
    not_both a b (inl h) (inr k) n = ap₂ (λ x y. x && y) h.0 k.0
    not_both a b (inl h) (inl k) n = absurd (n (sym (div-add-mod' u rows) ∙ ap₂ (λ x y. x * rows + y) h.1 k.1))

module _ (rows : ℕ) (pick : List (Option ℕ)) where
  -- no number behind a number is that one
  later_zero : (c : ℚ) (t k : ℕ) (list : List ℕ) → t < k → Rises k list
      → on_numbers c t list ≡ zeros (length (map (listed_of rows pick) list))
  later_zero c t k [] l h = refl
  later_zero c t k (u ∷ list) l h =
      let a = h.0 in
      ap₂ (λ x xs. x ∷ xs) (ap (λ b. cond b c zero_ℚ) (same_false u t (λ e. omega (arith, e, l, a))))
      (later_zero c t (u + 1) list (omega (arith, l, a)) h.1)

  on_rise_is : (c : ℚ) (p r k : ℕ) (list : List ℕ) → r < rows → Rises k list
      → on_numbers c (p * rows + r) list ≡ on_rise c (map (listed_of rows pick) list) p r
  unfolding on_rise is_at
  on_rise_is c p r k [] l h = refl
  on_rise_is c p r k (u ∷ list) l h =
      by (eqb_tells u (p * rows + r)) (on_rise_is c p r (u + 1) list l h.1)
      ∙ ap (λ b. if b then c ∷ zeros (length (map (listed_of rows pick) list)) else zero_ℚ ∷ on_rise c (map (listed_of rows pick) list) p r)
      (sym (number_is rows u p r l))
    where
      by : ((u == p * rows + r ≡ true) × (u ≡ p * rows + r)) ⊎ ((u == p * rows + r ≡ false) × (u ≢ p * rows + r))
          → on_numbers c (p * rows + r) list ≡ on_rise c (map (listed_of rows pick) list) p r →
          on_numbers c (p * rows + r) (u ∷ list) ≡ (if u == p * rows + r then c
          ∷ zeros (length (map (listed_of rows pick) list)) else zero_ℚ ∷ on_rise c (map (listed_of rows pick) list) p r)
      by (inl e) t = ap₂ (λ x xs. x ∷ xs) (ap (λ b. cond b c zero_ℚ) e.0)
          (later_zero c (p * rows + r) (u + 1) list (let i = e.1 in omega (arith, i)) h.1)
          ∙ ap (λ b. if b then c ∷ zeros (length (map (listed_of rows pick) list)) else zero_ℚ
          ∷ on_rise c (map (listed_of rows pick) list) p r) (sym e.0)
      by (inr e) t = ap₂ (λ x xs. x ∷ xs) (ap (λ b. cond b c zero_ℚ) e.0) t
          ∙ ap (λ b. if b then c ∷ zeros (length (map (listed_of rows pick) list)) else zero_ℚ
          ∷ on_rise c (map (listed_of rows pick) list) p r) (sym e.0)

  no_rise : (list : List ℕ) → on_numbers zero_ℚ 0 list ≡ zeros (length (map (listed_of rows pick) list))
  no_rise [] = refl
  no_rise (u ∷ list) = ap₂ (λ x xs. x ∷ xs) (by (u == 0)) (no_rise list)
    where
      by : (b : Bool) → cond b zero_ℚ zero_ℚ ≡ zero_ℚ
      by true = refl
      by false = refl

-- the same rows from the same parts
source_one : (f g : List ℚ → List ℚ) (n : ℕ) (b : Ext) (row : List ℤ) (xs ys : List Limit) → f ≡ g → xs ≡ ys
    → source_limit f n b row xs ≡ source_limit g n b row ys
source_one f g n b row xs ys e h = ap₂ (λ k zs. source_limit k n b row zs) e h

sources_same : (f g : ℕ → List ℚ → List ℚ) (n : ℕ) (bounds : ℕ → Ext) (template : List (List ℤ))
    → ((r : ℕ) → r < length template → f r ≡ g r) → source_limits f n bounds template ≡ source_limits g n bounds template
unfolding source_limits
sources_same f g n bounds [] h = refl
sources_same f g n bounds (row ∷ template) h =
    source_one (f 0) (g 0) n (bounds 0) row (source_limits (λ r. f (suc r)) n (λ r. bounds (suc r)) template)
    (source_limits (λ r. g (suc r)) n (λ r. bounds (suc r)) template) (h 0 (omega arith))
    (sources_same (λ r. f (suc r)) (λ r. g (suc r)) n (λ r. bounds (suc r)) template (λ r l. h (suc r) (omega (arith, l))))

module _ (system : System) (pick : List (Option ℕ)) (base : List Ext) (list : List ℕ) (rises : Rises 0 list) where
  abbrev eqs : Equations
  eqs = equations_of system

  abbrev R : ℕ
  R = length system.template

  abbrev us : List Listed
  us = all_listed system pick list

  abbrev b : Vector
  b = vector_of R base

  block_is : (offset u : ℕ) → u < length system.flow.points * R → block_of system base list offset (edge_for pick u) u
      ≡ block_limits eqs b us offset (listed_of R pick u)
  unfolding block_limits own_limit picked own_row
  block_is offset u l =
      let x = listed_of R pick u in
      let e = edge_for pick u in
      let small : u % R < R = mod-lt u (positive (length system.flow.points) R u l) in
      let own : on_numbers one_ℚ u list ≡ on_rise one_ℚ us x.point x.row =
      ap (λ v. on_numbers one_ℚ v list) (sym (div-add-mod' u R)) ∙ on_rise_is R pick one_ℚ (u / R) (u % R) 0 list small rises in
      let bound : get_or base u neg_inf ≡ b x.point x.row = ap (λ v. get_or base v neg_inf) (sym (div-add-mod' u R)) in
      ap₂ (λ xs ys. xs ++ ys)
      (sources_same (λ r. embedded (neg_ℚ one_ℚ) ((edge_at system e).from * R + r) list offset)
      (λ r w. on_rise (neg_ℚ one_ℚ) us (edge_at system e).from r ++ (zeros offset ++ split_list w)) (length system.flow.names)
      (b (edge_at system e).from) system.template
      (λ r k. fun_ext (λ w. ap (λ xs. xs ++ (zeros offset ++ split_list w))
      (on_rise_is R pick (neg_ℚ one_ℚ) (edge_at system e).from r 0 list k rises))))
      (ap₂ (λ xs ys. xs ++ ys ∷ [])
      (ap (λ f. guard_limits f (guard_forms (length system.flow.names) (edge_at system e).actions))
      (fun_ext (λ w. ap (λ xs. xs ++ (zeros offset ++ split_list w)) (no_rise R pick list))))
      (own_is offset u own bound))
    where
      positive : (points rows u : ℕ) → u < points * rows → 0 < rows
      positive points zero u h = absurd (omega (arith, h))
      positive points (suc n) u h = omega arith

      own_is : (offset u : ℕ) → on_numbers one_ℚ u list ≡ on_rise one_ℚ us (u / R) (u % R) → get_or base u neg_inf ≡ b (u / R) (u % R)
          → own_of system base list offset (edge_for pick u) (u % R) u ≡ own_limit eqs b us offset (listed_of R pick u)
      own_is offset u own bound =
          let f = end_form (length system.flow.names) (edge_at system (edge_for pick u)).actions (get_or system.template (u % R) []) in
          let P : List ℚ → Ext → Limit = λ xs v. record {
            coeffs = xs ++ (zeros offset
                ++ split_list (Rattle.base_numbers.specs.Vector.scale_vec (neg_ℚ one_ℚ) f.coeffs));
            side = f.constant -ℚ num v;
          } in
          ap₂ P own bound

  width_is : (u : ℕ) → split_width system (edge_for pick u) ≡ columns_of eqs (listed_of R pick u) + columns_of eqs (listed_of R pick u)
  unfolding columns_of picked
  width_is u = refl

  -- the columns of a list of numbers are those of the words of its unknowns
  pub columns_are : (rest : List ℕ) → split_columns system pick rest ≡ word_columns eqs (all_listed system pick rest)
  unfolding word_columns
  columns_are [] = refl
  columns_are (u ∷ rest) = ap₂ (λ x y. x + y) (width_is u) (columns_are rest)

  -- the blocks of a list of numbers are the joint limits of its unknowns
  pub blocks_are : (offset : ℕ) (rest : List ℕ) → ArePicked system pick rest
      → blocks_from system pick base list offset rest ≡ joint_limits eqs b us offset (all_listed system pick rest)
  unfolding joint_limits
  blocks_are offset [] h = refl
  blocks_are offset (u ∷ rest) h =
      ap₂ (λ xs ys. xs ++ ys) (block_is offset u h.0.in_range)
      (ap (λ w. blocks_from system pick base list (offset + w) rest) (width_is u)
      ∙ blocks_are (offset + (columns_of eqs (listed_of R pick u) + columns_of eqs (listed_of R pick u))) rest h.1)

-- ---- no unknown stands twice
module _ (system : System) (pick : List (Option ℕ)) where
  unlisted_behind : (u k : ℕ) (rest : List ℕ) → u < k → u % length system.template < length system.template → Rises k rest
      → Unlisted (all_listed system pick rest) (u / length system.template) (u % length system.template)
  unfolding is_at
  unlisted_behind u k [] l s h = tt
  unlisted_behind u k (v ∷ rest) l s h =
      let a = h.0 in (
        number_is (length system.template) v (u / length system.template) (u % length system.template) s
            ∙ ap (λ n. v == n) (div-add-mod' u (length system.template)) ∙ same_false v u (λ e. omega (arith, e, l, a)),
        unlisted_behind u (v + 1) rest (omega (arith, l, a)) s h.1,
      )

  -- the unknowns of a rising list of numbers are distinct
  pub listed_distinct : (k : ℕ) (list : List ℕ) → Rises k list → ArePicked system pick list → Distinct (all_listed system pick list)
  listed_distinct k [] h p = tt
  listed_distinct k (u ∷ rest) h p =
      let some = rows_some (length system.flow.points) (length system.template) u p.0.in_range in
      (unlisted_behind u (u + 1) rest (omega arith) (mod-lt u some) h.1, listed_distinct (u + 1) rest h.1 p.1)
    where
      rows_some : (points rows u : ℕ) → u < points * rows → 0 < rows
      rows_some points zero u h = absurd (omega (arith, h))
      rows_some points (suc n) u h = omega arith
