-- A post-solution that is at most every post-solution solves its system, where every transformer is known with evidence.
use Rattle.std.proofs.Common.{◌≡◌, ◌∙◌, ◌⊎◌, inl, inr, ⊎_elim, ℕ, ◌<◌, List, [], ◌∷◌, length, refl, sym, ap, subst, subst₂, arith}
use Rattle.std.specs.Prelude.{ℤ, slice_get, Some, Contains}
use Rattle.std.proofs.lemmas.Option.{slice_get_within}
use Rattle.base_facts.proofs.elements.Membership.{contains_from_in}
use Rattle.base_facts.specs.Elements.{In}
use Rattle.base_numbers.specs.Rational.{zero_ℚ}
use Rattle.base_numbers.specs.Extended.{Ext, fin, pos_inf, ◌≤ᴱ◌, ◌<ᴱ◌}
use Rattle.base_numbers.proofs.extended.ExtendedLaws.{≤ᴱ_trans, ext_le_or_lt, ext_not_le_of_lt}
use Rattle.flow_systems.specs.Equations.{Equations, Vector, PostSolution, Exceeds, Least}
use Rattle.flow_edges.specs.declared.edge.Edge.{Edge}
use Rattle.theory_validity.specs.Steps.{Below, end_value, Upper, Item, put}
use Rattle.theory_validity.specs.Certificates.{edges_into}
use Rattle.theory_validity.specs.Transformers.{Reaches}
use Rattle.theory_validity.proofs.steps.Puts.{named_or_not, put-unnamed, put-named, put_below, below_itself, upper_below}
use Rattle.theory_validity.proofs.certificates.Needs.{in_of_contains, in_edges_into}
use Rattle.theory_validity.proofs.steps.ShownLaw.{exceeds_by_word}
use Rattle.theory_validity.proofs.steps.CertificateLaw.{upper_of_post, post_of_uppers}
use Rattle.theory_validity.proofs.words.TransformerLaw.{reach_exceeds, reach_upper, reach_least}
use Rattle.theory_validity.proofs.certificates.Greatest.{greatest, greatest_above, greatest_below, below_greatest, edge_into}

-- an item that only names an unknown
naming : ℕ → ℕ → Item
naming p r = record {
  point = p;
  row = r;
  edge = 0;
  low = record { start = []; free = [] };
  second =
      record { start = []; free = [] };
  number = zero_ℚ;
}

module _ (system : Equations) (T : Vector → Edge → List ℤ → Ext) (reaches :
    (z : Vector) (edge : Edge) (row : List ℤ) → Reaches system z edge row (T z edge row)) where
  -- the greatest transformer of the edges into a point
  most : Vector → ℕ → List ℤ → Ext
  most F p row = greatest (λ edge. T F edge row) (edges_into p system.edges)

  lowered : Vector → ℕ → ℕ → List ℤ → Vector
  lowered F p r row = put (λ item. most F p row) (naming p r ∷ []) F

  most_below : (F : Vector) (p r : ℕ) (row : List ℤ) → PostSolution system F → slice_get system.template r ≡ Some row
      → most F p row ≤ᴱ F p r
  unfolding most
  most_below F p r row post e = greatest_below (λ edge. T F edge row) (edges_into p system.edges) (F p r) (λ edge m.
      let i = edge_into p system.edges edge m in
      subst (λ k. T F edge row ≤ᴱ F k r) i.1 (reach_least system F edge row (T F edge row) (F edge.to r) (reaches F edge row)
      (upper_of_post system F edge r row post (contains_from_in system.edges edge i.0) e)))

  lowered_below : (F : Vector) (p r : ℕ) (row : List ℤ) → PostSolution system F → slice_get system.template r ≡ Some row
      → Below system (lowered F p r row) F
  unfolding lowered naming
  lowered_below F p r row post e =
      put_below system (λ item. most F p row) (naming p r ∷ []) F F (below_itself system F) (λ item m. by item m)
    where
      by : (item : Item) → In (naming p r ∷ []) item → most F p row ≤ᴱ F item.point item.row
      by item (inl f) = subst (λ k. most F p row ≤ᴱ F k.point k.row) f (most_below F p r row post e)
      by item (inr m) = absurd m

  lowered-other : (F : Vector) (p r s k : ℕ) (row : List ℤ) → ((p ≡ s) × (r ≡ k)) ⊎ (lowered F p r row s k ≡ F s k)
  unfolding lowered naming
  lowered-other F p r s k row = ⊎_elim (λ n. by n.0 n.1 n.2 n.3) (λ u. inr (put-unnamed (λ item. most F p row) (naming p r ∷ []) F s k u))
      (named_or_not (naming p r ∷ []) s k)
    where
      by : (item : Item) → In (naming p r ∷ []) item → item.point ≡ s → item.row ≡ k
          → ((p ≡ s) × (r ≡ k)) ⊎ (put (λ item. most F p row) (naming p r ∷ []) F s k ≡ F s k)
      by item (inl f) e g = inl (ap (λ i. i.point) f ∙ e, ap (λ i. i.row) f ∙ g)
      by item (inr m) e g = absurd m

  lowered-same : (F : Vector) (p r : ℕ) (row : List ℤ) → lowered F p r row p r ≡ most F p row
  unfolding lowered naming
  lowered-same F p r row = put-named (λ item. most F p row) (naming p r ∷ []) F (naming p r) (tt, tt) (inl refl)

  -- lowering one bound to the greatest transformer keeps a post-solution
  lowered_post : (F : Vector) (p r : ℕ) (row : List ℤ) → 0 < p → PostSolution system F → slice_get system.template r ≡ Some row
      → PostSolution system (lowered F p r row)
  unfolding most
  lowered_post F p r row later post e = post_of_uppers system (lowered F p r row) entry upper
    where
      entry : (k : ℕ) → k < length system.template → lowered F p r row 0 k ≡ pos_inf
      entry k l = ⊎_elim (λ h. let z = h.0 in absurd (omega arith)) (λ h. h ∙ post.entry k l) (lowered-other F p r 0 k row)

      some_same : (a b : List ℤ) → Some a ≡ Some b → a ≡ b
      some_same a b h = cc

      upper : (edge : Edge) (k : ℕ) (line : List ℤ) → Contains system.edges edge → slice_get system.template k ≡ Some line
          → Upper system (lowered F p r row) edge line (lowered F p r row edge.to k)
      upper edge k line listed f = ⊎_elim here (λ h. subst (Upper system (lowered F p r row) edge line) (sym h)
          (upper_below system (lowered F p r row) F edge line (F edge.to k) (lowered_below F p r row post e)
          (upper_of_post system F edge k line post listed f))) (lowered-other F p r edge.to k row)
        where
          here : (p ≡ edge.to) × (r ≡ k) → Upper system (lowered F p r row) edge line (lowered F p r row edge.to k)
          here h =
              let same : row ≡ line = some_same row line (sym e ∙ ap (slice_get system.template) h.1 ∙ f) in
              let m : In (edges_into p system.edges) edge = subst (λ q. In (edges_into q system.edges) edge) (sym h.0)
              (in_edges_into system.edges edge (in_of_contains system.edges edge listed)) in
              let u : Upper system (lowered F p r row) edge row (most F p row) = λ w runs.
              ≤ᴱ_trans (fin (end_value system edge row w)) (T F edge row) (most F p row)
              (upper_below system (lowered F p r row) F edge row (T F edge row) (lowered_below F p r row post e)
              (reach_upper system F edge row (T F edge row) (reaches F edge row)) w runs)
              (greatest_above (λ g. T F g row) (edges_into p system.edges) edge m) in
              subst₂ (λ a b. Upper system (lowered F p r row) edge line (lowered F p r row a b)) h.0 h.1
              (subst (λ v. Upper system (lowered F p r row) edge line v) (sym (lowered-same F p r row))
              (subst (λ s. Upper system (lowered F p r row) edge s (most F p row)) same u))

  -- a post-solution that is at most every post-solution is the least solution
  pub least_of_below : (F : Vector) → PostSolution system F → ((q : Vector) → PostSolution system q → Below system F q) → Least system F
  unfolding most
  least_of_below F post below = record {
    solves = record { post = post; supported = supported };
    below =
        λ q h p r within l. below q h p r l;
  }
    where
      supported : (p r : ℕ) (row : List ℤ) (number : Ext) → 0 < p → p < system.points → slice_get system.template r ≡ Some row
          → number <ᴱ F p r → Exceeds system F p row number
      supported p r row number later within e less =
          let high : F p r ≤ᴱ most F p row = subst (λ v. F p r ≤ᴱ v) (lowered-same F p r row)
          (below (lowered F p r row) (lowered_post F p r row later post e) p r (slice_get_within system.template r row e)) in
          let x = below_greatest (λ edge. T F edge row) (edges_into p system.edges) number
          (lt_le number (F p r) (most F p row) less high) in
          let i = edge_into p system.edges x.0 x.1 in
          let w = reach_exceeds system F x.0 row (T F x.0 row) number (reaches F x.0 row) x.2 in
          exceeds_by_word system F x.0 p row number w.0 (contains_from_in system.edges x.0 i.0) i.1 w.1 w.2
        where
          lt_le : (a b c : Ext) → a <ᴱ b → b ≤ᴱ c → a <ᴱ c
          lt_le a b c h i = ⊎_elim (λ l. absurd (ext_not_le_of_lt a b h (≤ᴱ_trans b c a i l))) (λ l. l) (ext_le_or_lt c a)
