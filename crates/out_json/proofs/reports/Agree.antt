-- The value of a report depends on its vector's bounds at the points and the rows alone, where there is a row.
use Rattle.std.proofs.Common.{◌≡◌, ◌∙◌, ◌+◌, ◌<◌, ◌≤◌, ℕ, suc, List, [], ◌∷◌, length, refl, ap, ap₂, arith}
use Rattle.std.specs.Prelude.{ℤ, codes}
use Rattle.base_numbers.specs.Extended.{Ext, neg_inf, fin, pos_inf}
use Rattle.serde_json.specs.Data.{Items, array, item, member, object, string}
use Rattle.flow_edges.specs.declared.point.Point.{Point}
use Rattle.flow_systems.specs.declared.footer.Footer.{Footer}
use Rattle.flow_systems.specs.Equations.{Vector}
use Rattle.flow_systems.specs.Report.{bound_text}
use Rattle.out_json.specs.Pieces.{footer_member}
use Rattle.out_json.specs.Reports.{bounded_members, is_reachable, last_members, place_members, point_bounds}
use Rattle.out_json.specs.Reports.{point_value, point_values, report_value, row_bounds, row_members}

rows_agree : (r : ℕ) (rows : List (List ℤ)) (f g : ℕ → Ext)
    → ((s : ℕ) → r ≤ s → s < r + length rows → f s ≡ g s) → row_bounds r rows f ≡ row_bounds r rows g
rows_agree r [] f g h = refl
rows_agree r (row ∷ rows) f g h =
    let here : f r ≡ g r = h r (omega arith) (omega arith) in
    let rest : (s : ℕ) → suc r ≤ s → s < suc r + length rows → f s ≡ g s = λ s a b. h s (omega arith) (omega arith) in
    ap₂ (λ bound items. item (string (bound_text bound)) items) here (rows_agree (suc r) rows f g rest)

module _ (template : List (List ℤ)) (some : 0 < length template) where
  bounds_agree : (f g : ℕ → Ext) (first : Ext) → ((r : ℕ) → r < length template → f r ≡ g r)
      → point_bounds template f first ≡ point_bounds template g first
  bounds_agree f g neg_inf h = refl
  bounds_agree f g (fin q) h = rows_agree 0 template f g (λ r a b. h r (omega arith))
  bounds_agree f g pos_inf h = rows_agree 0 template f g (λ r a b. h r (omega arith))

  point_agrees : (v w : Vector) (p : ℕ) (point : Point) → ((r : ℕ) → r < length template → v p r ≡ w p r)
      → point_value template v p point ≡ point_value template w p point
  point_agrees v w p point h =
      ap (λ first. object (bounded_members template (v p) first p point)) (h 0 some)
      ∙ ap (λ items. object (member (codes "bounds") (array items) (place_members point (last_members p (is_reachable (w p 0))))))
      (bounds_agree (v p) (w p) (w p 0) h)

  points_agree : (v w : Vector) (k : ℕ) (points : List Point)
      → ((p r : ℕ) → k ≤ p → p < k + length points → r < length template → v p r ≡ w p r)
      → point_values template v k points ≡ point_values template w k points
  points_agree v w k [] h = refl
  points_agree v w k (point ∷ points) h =
      let here : (r : ℕ) → r < length template → v k r ≡ w k r = λ r. h k r (omega arith) (omega arith) in
      let rest : (p r : ℕ) → suc k ≤ p → p < suc k + length points → r < length template → v p r ≡ w p r = λ p r a b.
      h p r (omega arith) (omega arith) in
      ap₂ (λ first others. item first others) (point_agrees v w k point here) (points_agree v w (suc k) points rest)

  -- vectors that agree there have one value, by the footer
  pub report_values_agree : (names : List (List ℕ)) (points : List Point) (v w : Vector) (footer other : Footer)
      → ((p r : ℕ) → p < length points → r < length template → v p r ≡ w p r) → footer ≡ other
      → report_value names points template v footer ≡ report_value names points template w other
  report_values_agree names points v w footer other h e =
      ap₂ (λ (items : Items) last. object (footer_member last (member (codes "points") (array items) (row_members names template))))
      (points_agree v w 0 points (λ p r a b. h p r (omega arith))) e
