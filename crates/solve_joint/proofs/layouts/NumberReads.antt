-- The numbers that are read are those of base plus rise.
use Rattle.std.proofs.Common.{◌≡◌, ◌∙◌, ℕ, suc, ◌+◌, ◌≤◌, inl, inr, Bool, true, false, List, [], ◌∷◌, length, get_or, drop, map, Option}
use Rattle.std.proofs.Common.{refl, ap, ap₂, sym, subst, div-add-mod', arith, if◌then◌else◌}
use Rattle.std.proofs.lemmas.List.{length-map}
use Rattle.base_facts.specs.Elements.{In}
use Rattle.base_numbers.specs.Rational.{ℚ, zero_ℚ, ◌+ℚ◌}
use Rattle.base_numbers.specs.Extended.{Ext, neg_inf, fin, pos_inf}
use Rattle.flow_systems.specs.declared.system.System.{System}
use Rattle.flow_systems.specs.View.{equations_of, vector_of}
use Rattle.theory_validity.specs.Certificates.{num}
use Rattle.theory_transformers.specs.Limits.{tabulate}
use Rattle.theory_transformers.specs.JointProblems.{Listed, is_at, rise_at, raise_by, raised, AllRising}
use Rattle.theory_transformers.specs.JointPoints.{Distinct, Unlisted}
use Rattle.theory_transformers.proofs.joint_problems.Rises.{is_at_itself}
use Rattle.theory_transformers.proofs.joint_problems.JointLists.{rising_at, not_unlisted, distinct_same}
use Rattle.solve_joint.specs.Numbers.{listed_of, all_listed}
use Rattle.solve_joint.specs.Blocks.{edge_for, split_width}
use Rattle.solve_joint.specs.Layouts.{rises_from, layout_of, number_at}
use Rattle.solve_joint.proofs.blocks.WordReads.{at_tabulate, tabulate_same}

map_in : (f g : Listed → ℚ) (xs : List Listed) → ((v : Listed) → In xs v → f v ≡ g v) → map f xs ≡ map g xs
map_in f g [] h = refl
map_in f g (x ∷ xs) h = ap₂ (λ y ys. y ∷ ys) (h x (inl refl)) (map_in f g xs (λ v m. h v (inr m)))

-- the rise of each listed unknown is the entry at its place
pub rises_here : (list : List Listed) (x : ℕ → ℚ) → Distinct list → map (λ u. rise_at list x u.point u.row) list ≡ tabulate (length list) x
unfolding rise_at
rises_here [] x d = refl
rises_here (u ∷ list) x d =
    let later : Listed → ℚ = λ v. rise_at list (λ k. x (suc k)) v.point v.row in
    ap₂ (λ y ys. y ∷ ys) (ap (λ t. if t then x 0 else later u) (is_at_itself u))
    (map_in (λ v. rise_at (u ∷ list) x v.point v.row) later list (λ v m. ap (λ t. if t then x 0 else later v)
    (other v m (is_at u v.point v.row) refl)) ∙ rises_here list (λ k. x (suc k)) d.1)
  where
    other : (v : Listed) → In list v → (t : Bool) → is_at u v.point v.row ≡ t → t ≡ false
    other v m false e = refl
    other v m true e = absurd (not_unlisted list v m (subst (λ s. Unlisted list s.point s.row)
        (distinct_same (u ∷ list) u v d (inl refl) (inr m) e) d.0))

num_raised : (v : Ext) (c q : ℚ) → v ≡ fin c → num v +ℚ q ≡ num (raise_by v q)
unfolding num raise_by
num_raised neg_inf c q e = cc
num_raised (fin d) c q e = refl
num_raised pos_inf c q e = cc

module _ (system : System) (pick : List (Option ℕ)) (base : List Ext) where
  numbers_from : (N : ℕ) (x : ℕ → ℚ) (n place offset : ℕ) (rest : List ℕ) (g : Listed → ℚ) → place + length rest ≤ N
      → map g (all_listed system pick rest) ≡ tabulate (length rest) (λ j. x (place + j)) →
      map (number_at base (tabulate N x)) (rises_from system pick n place offset rest)
      ≡ map (λ u. num (vector_of (length system.template) base u.point u.row) +ℚ g u) (all_listed system pick rest)
  numbers_from N x n place offset [] g l h = refl
  numbers_from N x n place offset (u ∷ rest) g l h =
      let e : place ≡ place + 0 = omega arith in
      ap₂ (λ y ys. y ∷ ys)
      (ap₂ (λ v q. num (get_or base v neg_inf) +ℚ q) (sym (div-add-mod' u (length system.template)))
      (at_tabulate N x place (omega (arith, l)) ∙ ap x e ∙ sym (ap (λ ys. get_or ys 0 zero_ℚ) h)))
      (numbers_from N x n (place + 1) (offset + split_width system (edge_for pick u)) rest g (omega (arith, l))
      (ap (drop 1) h ∙ tabulate_same (length rest) (λ j. x (place + suc j)) (λ j. x (place + 1 + j))
      (λ j. let k : place + suc j ≡ place + 1 + j = omega arith in ap x k)))

  -- the numbers that are read of a list are those of base plus rise
  pub numbers_are : (list : List ℕ) (N : ℕ) (x : ℕ → ℚ) → length list ≤ N
      → AllRising (equations_of system) (vector_of (length system.template) base) (all_listed system pick list)
      → Distinct (all_listed system pick list) →
      map (number_at base (tabulate N x)) (layout_of system pick list)
      ≡ map (λ u. num (raised (all_listed system pick list) x (vector_of (length system.template) base) u.point u.row))
      (all_listed system pick list)
  unfolding raised
  numbers_are list N x l rising distinct =
      let us = all_listed system pick list in
      let b = vector_of (length system.template) base in
      numbers_from N x (length list) 0 0 list (λ u. rise_at us x u.point u.row) (omega (arith, l))
      (rises_here us x distinct ∙ ap (λ n. tabulate n x) (length-map list (listed_of (length system.template) pick))
      ∙ tabulate_same (length list) x (λ j. x (0 + j)) (λ j. let k : j ≡ 0 + j = omega arith in ap x k))
      ∙ map_in (λ u. num (b u.point u.row) +ℚ rise_at us x u.point u.row)
      (λ u. num (raise_by (b u.point u.row) (rise_at us x u.point u.row))) us
      (λ u m. let r = rising_at (equations_of system) b us u rising m in
      num_raised (b u.point u.row) r.bound (rise_at us x u.point u.row) r.finite)
