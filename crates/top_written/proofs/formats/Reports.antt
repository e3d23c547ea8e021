-- Vectors that agree at the points and the rows have reports that are written alike, where there is a row.
use Rattle.std.proofs.Common.{◌≡◌, ◌∙◌, ◌++◌, ◌+◌, ◌<◌, ◌≤◌, ℕ, suc, List, [], ◌∷◌, length, refl, ap, ap₂, arith}
use Rattle.std.specs.Prelude.{ℤ}
use Rattle.base_numbers.specs.Extended.{Ext, neg_inf, fin, pos_inf}
use Rattle.flow_edges.specs.declared.point.Point.{Point}
use Rattle.flow_systems.specs.declared.footer.Footer.{Footer}
use Rattle.flow_systems.specs.Equations.{Vector}
use Rattle.flow_systems.specs.Report.{bound_lines, footer_line, head_line, point_lines, points_lines, row_line, row_lines, variables_line}
use Rattle.out_json.specs.Pieces.{value_line}
use Rattle.out_json.proofs.reports.Agree.{report_values_agree}
use Rattle.ask_words.specs.declared.format.Format.{Format}
use Rattle.ask_words.specs.declared.format.Format.TheVariants.{Text, Json, Sarif}
use Rattle.top_written.specs.Formats.{report_in}

rows_agree : (names : List (List ℕ)) (r : ℕ) (rows : List (List ℤ)) (f g : ℕ → Ext)
    → ((s : ℕ) → r ≤ s → s < r + length rows → f s ≡ g s) → row_lines names r rows f ≡ row_lines names r rows g
rows_agree names r [] f g h = refl
rows_agree names r (row ∷ rows) f g h =
    let here : f r ≡ g r = h r (omega arith) (omega arith) in
    let rest : (s : ℕ) → suc r ≤ s → s < suc r + length rows → f s ≡ g s = λ s a b. h s (omega arith) (omega arith) in
    ap₂ (λ bound lines. row_line names row bound ++ lines) here (rows_agree names (suc r) rows f g rest)

module _ (names : List (List ℕ)) (template : List (List ℤ)) (some : 0 < length template) where
  bounds_agree : (f g : ℕ → Ext) (first : Ext) → ((r : ℕ) → r < length template → f r ≡ g r)
      → bound_lines names template f first ≡ bound_lines names template g first
  bounds_agree f g neg_inf h = refl
  bounds_agree f g (fin q) h = rows_agree names 0 template f g (λ r a b. h r (omega arith))
  bounds_agree f g pos_inf h = rows_agree names 0 template f g (λ r a b. h r (omega arith))

  -- the lines of a point depend on its bounds at the rows
  pub point_agrees : (v w : Vector) (p : ℕ) (point : Point) → ((r : ℕ) → r < length template → v p r ≡ w p r)
      → point_lines names template v p point ≡ point_lines names template w p point
  point_agrees v w p point h = ap (λ lines. head_line p point ++ lines)
      (ap (bound_lines names template (v p)) (h 0 some) ∙ bounds_agree (v p) (w p) (w p 0) h)

  points_agree : (v w : Vector) (k : ℕ) (points : List Point)
      → ((p r : ℕ) → k ≤ p → p < k + length points → r < length template → v p r ≡ w p r)
      → points_lines names template v k points ≡ points_lines names template w k points
  points_agree v w k [] h = refl
  points_agree v w k (point ∷ points) h =
      let here : (r : ℕ) → r < length template → v k r ≡ w k r = λ r. h k r (omega arith) (omega arith) in
      let rest : (p r : ℕ) → suc k ≤ p → p < suc k + length points → r < length template → v p r ≡ w p r = λ p r a b.
      h p r (omega arith) (omega arith) in
      ap₂ (λ first others. first ++ others) (point_agrees v w k point here) (points_agree v w (suc k) points rest)

-- vectors that agree at the points and the rows have one report in a format, by its footer
pub reports_agree : (format : Format) (names : List (List ℕ)) (points : List Point) (template : List (List ℤ)) (v w : Vector)
    (footer other : Footer) → 0 < length template → ((p r : ℕ) → p < length points → r < length template → v p r ≡ w p r)
    → footer ≡ other → report_in format names points template v footer ≡ report_in format names points template w other
reports_agree Text names points template v w footer other some agree e =
    ap₂ (λ lines last. variables_line names ++ lines ++ footer_line last)
    (points_agree names template some v w 0 points (λ p r l h. agree p r (omega arith))) e
reports_agree Json names points template v w footer other some agree e =
    ap (λ d. value_line d) (report_values_agree template some names points v w footer other agree e)
reports_agree Sarif names points template v w footer other some agree e =
    ap (λ d. value_line d) (report_values_agree template some names points v w footer other agree e)
