-- How much evidence is needed.
use Rattle.std.proofs.Common.{◌≡◌, ◌∙◌, ℕ, suc, ◌+◌, ◌*◌, ◌<◌, eqb, Bool, true, false, cond, List, [], ◌∷◌, length, refl, ap, arith}
use Rattle.std.proofs.Common.{if◌then◌else◌}
use Rattle.std.specs.Prelude.{◌==◌}
use Rattle.std.specs.List.{filter, count_by}
use Rattle.std.proofs.lemmas.List.Sums.{length-filter}
use Rattle.std.proofs.lemmas.List.{length-append}
use Rattle.base_numbers.specs.Extended.{pos_inf}
use Rattle.base_fractions.specs.declared.ext.Ext.{Ext}
use Rattle.base_fractions.specs.declared.ext.Ext.TheVariants.{NegInf, Fin, PosInf}
use Rattle.base_fractions.specs.Extended.{extended}
use Rattle.flow_edges.specs.declared.edge.Edge.{Edge}
use Rattle.flow_systems.specs.Equations.{Equations, Vector}
use Rattle.theory_validity.specs.Certificates.{into_needs, needs_at, needs}
use Rattle.cert_checker.specs.Needs.{needs_from, needs_of}
use Rattle.cert_checker.proofs.events.Numbers.{needs_all, needs_next, needs_end}

into_needs-filter : (p r k : ℕ) (edges : List Edge) → length (into_needs p r k edges) ≡ length (filter (λ edge. edge.to == p) edges)
unfolding into_needs
into_needs-filter p r k [] = refl
into_needs-filter p r k (edge ∷ edges) = by (eqb edge.to p) (into_needs-filter p r (suc k) edges)
  where
    by : (b : Bool) → length (into_needs p r (suc k) edges) ≡ length (filter (λ other. other.to == p) edges) →
        length (if b then record { edge = edge; number = k; row = r } ∷ into_needs p r (suc k) edges else into_needs p r (suc k) edges)
        ≡ length (cond b (edge ∷ filter (λ other. other.to == p) edges) (filter (λ other. other.to == p) edges))
    by true e = ap suc e
    by false e = e

-- edges into a point, counted
pub length-into_needs : (p r k : ℕ) (edges : List Edge) → length (into_needs p r k edges) ≡ count_by (λ edge. edge.to == p) edges
length-into_needs p r k edges = into_needs-filter p r k edges ∙ length-filter (λ edge. edge.to == p) edges

-- a bound that isn't +∞ needs evidence for each edge
pub needs_finite : (system : Equations) (p r : ℕ) (b : Ext) → (b ≡ PosInf → ⊥)
    → needs_at system p r (extended b) ≡ into_needs p r 0 system.edges
unfolding needs_at
needs_finite system p r NegInf n = refl
needs_finite system p r (Fin q) n = refl
needs_finite system p r PosInf n = absurd (n refl)

-- +∞ needs none
pub needs_top : (system : Equations) (p r : ℕ) → needs_at system p r pos_inf ≡ []
unfolding needs_at
needs_top system p r = refl

-- ---- unknown by unknown
module _ (system : Equations) (z : Vector) where
  -- so many are needed before number u
  abbrev pub CountLeft : ℕ → ℕ → Type 0
  CountLeft u count = count + length (needs_from system z u) ≡ length (needs system z)

  -- before the first unknown past the entry nothing is needed
  pub count_first : CountLeft (length system.template) 0
  count_first = let e = ap (λ ns. length ns) (needs_all system z) in omega (arith, e)

  -- with one more unknown its own needs are counted too
  pub count_more : (u count more : ℕ) → u < system.points * length system.template → more ≡ length (needs_of system z u) → CountLeft u count
      → CountLeft (u + 1) (count + more)
  count_more u count more l q h =
      let e = ap (λ ns. length ns) (needs_next system z u l) in
      let a = length-append (needs_of system z u) (needs_from system z (u + 1)) in
      omega (arith, e, a, q, h)

  -- with all unknowns the count is what is needed
  pub count_all : (u count : ℕ) → system.points * length system.template < suc u → CountLeft u count → count ≡ length (needs system z)
  count_all u count l h = let e = ap (λ ns. length ns) (needs_end system z u (omega (arith, l))) in omega (arith, e, h)
