-- What is needed from a place on.
use Rattle.std.proofs.Common.{◌≡◌, ◌∙◌, ℕ, zero, suc, ◌+◌, ◌*◌, ◌/◌, ◌%◌, ◌<◌, ◌≤◌, eqb, Bool, true, false, List, [], ◌∷◌, ◌++◌}
use Rattle.std.proofs.Common.{length, get_or}
use Rattle.std.proofs.Common.{drop, refl, sym, ap, add-one, arith, if◌then◌else◌}
use Rattle.std.specs.Prelude.{nat_lt}
use Rattle.std.proofs.Math.Seq.{drop-cons}
use Rattle.std.proofs.lemmas.Bool.{lt-ltb, ltb-true}
use Rattle.std.proofs.lemmas.List.{drop_all}
use Rattle.base_numbers.specs.Extended.{Ext, neg_inf, fin, pos_inf}
use Rattle.flow_edges.specs.declared.edge.Edge.{Edge}
use Rattle.flow_systems.specs.Equations.{Equations, Vector}
use Rattle.theory_validity.specs.Certificates.{Need, into_needs, needs, needs_at}
use Rattle.cert_checker.specs.declared.needs.Needed.{Needed}
use Rattle.cert_checker.specs.Needs.{IsInto, edge_of, needs_from, needs_into, needs_left, unless_top}
use Rattle.cert_checker.proofs.events.Numbers.{needs_all, needs_end, needs_next}

-- ---- edge by edge

-- the edge at a number
pub edge_there : (edges : List Edge) (k : ℕ) (edge : Edge) → k < length edges → edge ≡ get_or edges k edge → edge ≡ edge_of edges k
edge_there [] k edge l is = absurd (omega arith)
edge_there (first ∷ edges) zero edge l is = is
edge_there (first ∷ edges) (suc k) edge l is = edge_there edges k edge (omega arith) is

module _ (p r : ℕ) (edges : List Edge) (k : ℕ) where
  module _ (edge : Edge) (l : k < length edges) (is : edge ≡ get_or edges k edge) where
    dropped : drop k edges ≡ edge ∷ drop (suc k) edges
    dropped = drop-cons edges k edge l ∙ ap (λ e. e ∷ drop (suc k) edges) (sym is)

    into_step : (b : Bool) → eqb edge.to p ≡ b → into_needs p r k (drop k edges)
        ≡ (if b then record { edge = edge; number = k; row = r } ∷ into_needs p r (suc k) (drop (suc k) edges)
        else into_needs p r (suc k) (drop (suc k) edges))
    unfolding into_needs
    into_step b e = ap (into_needs p r k) dropped ∙ ap (λ t. if t then record { edge = edge; number = k; row = r }
        ∷ into_needs p r (suc k) (drop (suc k) edges) else into_needs p r (suc k) (drop (suc k) edges)) e

    -- an edge that ends at the point is needed
    pub into_yes : eqb edge.to p ≡ true → into_needs p r k (drop k edges)
        ≡ record { edge = edge; number = k; row = r } ∷ into_needs p r (k + 1) (drop (k + 1) edges)
    into_yes e = into_step true e
        ∙ ap (λ j. record { edge = edge; number = k; row = r } ∷ into_needs p r j (drop j edges)) (sym (add-one k))

    -- another one isn't
    pub into_no : eqb edge.to p ≡ false → into_needs p r k (drop k edges) ≡ into_needs p r (k + 1) (drop (k + 1) edges)
    into_no e = into_step false e ∙ ap (λ j. into_needs p r j (drop j edges)) (sym (add-one k))

    -- so it is the first one from its number on
    pub into_first : eqb edge.to p ≡ true → (first : ℕ) → into_needs p r first (drop first edges) ≡ into_needs p r k (drop k edges)
        → edge.to ≡ p → IsInto p r edges first k
    into_first e first h to =
        let at = edge_there edges k edge l is in
        record {
          ends = ap (λ (x : Edge). x.to) (sym at) ∙ to;
          left = h ∙ into_yes e
              ∙ ap (λ (x : Edge). record { edge = x; number = k; row = r } ∷ into_needs p r (k + 1) (drop (k + 1) edges)) at;
        }

  -- past the last edge there is none
  pub into_end : length edges ≤ k → into_needs p r k (drop k edges) ≡ []
  unfolding into_needs
  into_end l = ap (into_needs p r k) (drop_all k edges l)

-- ---- unknown by unknown

module _ (system : Equations) (z : Vector) where
  -- a place
  abbrev pub place : ℕ → ℕ → Needed
  place u k = record { unknown = u; edge = k }

  left_if : (u k : ℕ) (b : Bool) → nat_lt u (system.points * length system.template) ≡ b
      → needs_left system z (place u k) ≡ (if b then needs_into system z (place u k) ++ needs_from system z (u + 1) else [])
  unfolding needs_left
  left_if u k b e = ap (λ t. if t then needs_into system z (place u k) ++ needs_from system z (u + 1) else []) e

  left_in : (u k : ℕ) → u < system.points * length system.template
      → needs_left system z (place u k) ≡ needs_into system z (place u k) ++ needs_from system z (u + 1)
  left_in u k l = left_if u k true (lt-ltb u (system.points * length system.template) l)

  -- past the last unknown nothing is needed
  pub left_end : (u k : ℕ) → system.points * length system.template ≤ u → needs_left system z (place u k) ≡ []
  left_end u k l = by (nat_lt u (system.points * length system.template)) refl
    where
      by : (b : Bool) → nat_lt u (system.points * length system.template) ≡ b → needs_left system z (place u k) ≡ []
      by true e = absurd (let h = ltb-true u (system.points * length system.template) e in omega (arith, h, l))
      by false e = left_if u k false e

  unless_needs : (p r : ℕ) (v : Ext) → needs_at system p r v ≡ unless_top v (into_needs p r 0 system.edges)
  unfolding needs_at
  unless_needs p r neg_inf = refl
  unless_needs p r (fin c) = refl
  unless_needs p r pos_inf = refl

  -- from the first edge of an unknown on all is needed that this unknown and the later ones need
  pub left_from : (u : ℕ) → needs_left system z (place u 0) ≡ needs_from system z u
  left_from u = by (nat_lt u (system.points * length system.template)) refl
    where
      by : (b : Bool) → nat_lt u (system.points * length system.template) ≡ b → needs_left system z (place u 0) ≡ needs_from system z u
      by true e =
          let l = ltb-true u (system.points * length system.template) e in
          let w = length system.template in
          left_if u 0 true e ∙ ap (λ ns. ns ++ needs_from system z (u + 1)) (sym (unless_needs (u / w) (u % w) (z (u / w) (u % w))))
          ∙ sym (needs_next system z u l)
      by false e = left_if u 0 false e ∙ sym (needs_end system z u (past (system.points * length system.template) u e))
        where
          past : (n k : ℕ) → nat_lt k n ≡ false → n ≤ k
          past n k h = grind (arith, h)

  -- from the first place on all is needed
  pub left_all : needs_left system z (place (length system.template) 0) ≡ needs system z
  left_all = left_from (length system.template) ∙ sym (needs_all system z)

  -- where an unknown needs no more, the next ones are left
  pub left_passed : (u k : ℕ) → u < system.points * length system.template → needs_into system z (place u k) ≡ []
      → needs_left system z (place u k) ≡ needs_left system z (place (u + 1) 0)
  left_passed u k l e = left_in u k l ∙ ap (λ ns. ns ++ needs_from system z (u + 1)) e ∙ sym (left_from (u + 1))

  -- where an unknown needs evidence for an edge, what comes after it is left
  pub left_found : (u k j : ℕ) (need : Need) → u < system.points * length system.template
      → needs_into system z (place u k) ≡ need ∷ needs_into system z (place u j)
      → needs_left system z (place u k) ≡ need ∷ needs_left system z (place u j)
  left_found u k j need l e =
      left_in u k l ∙ ap (λ ns. ns ++ needs_from system z (u + 1)) e ∙ ap (λ ns. need ∷ ns) (sym (left_in u j l))
