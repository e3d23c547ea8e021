-- What stands where the bounds of some unknowns change.
use Rattle.std.proofs.Common.{◌≡◌, ◌∙◌, ⊎_elim, ℕ, ◌+◌, ◌*◌, ◌/◌, ◌%◌, ◌<◌, ◌≤◌, true, false, true≢false, List, length, get_or, sym, ap}
use Rattle.std.proofs.Common.{subst₂, arith}
use Rattle.std.specs.Prelude.{None}
use Rattle.std.proofs.lemmas.Bool.Decides.{eqb_tells}
use Rattle.std.proofs.lemmas.Nat.{div-mul-add}
use Rattle.base_numbers.specs.Extended.{Ext as Extended, ◌≤ᴱ◌}
use Rattle.flow_systems.specs.View.{equations_of}
use Rattle.flow_systems.specs.declared.system.System.{System}
use Rattle.theory_transformers.proofs.edge_problems.TransformerOf.{transformer_by_source}
use Rattle.solve_offers.specs.declared.known.Known.{Known}
use Rattle.solve_offers.specs.AtBounds.{vector_at, edge_at, row_at}
use Rattle.solve_offers.specs.Known.{AreKnown, Forgets, HasEntries, HasMarks, IsPartOf, IsSameAt, KeepsOthers, known_at}
use Rattle.solve_offers.proofs.at_bounds.KnownValues.{no_value, found_by_source}
use Rattle.solve_offers.proofs.known.Forgotten.{stands_at, stays_none}
use Rattle.solve_offers.proofs.known.Marks.{stays_unmarked}
use Rattle.solve_offers.proofs.offers.Unknowns.{row_within}

module _ (system : System) (changed : List ℕ) (old : Known) where
  -- nothing is known of the edges that start at the points of the first i unknowns, and neither these points nor those where such an edge
  -- ends are marked
  pub record Unknown (new : Known) (i : ℕ) : Type 0 where
    -- there is an entry for each edge and row
    pub entries : HasEntries system new
    -- there is a mark for each point
    pub marks : HasMarks system new
    -- nothing else is known than before
    pub part : IsPartOf new old
    -- of the edges that start at the points so far nothing is known
    pub gone : (k edge row : ℕ) → k < i → edge < length system.flow.edges → row < length system.template
        → (edge_at system edge).from ≡ get_or changed k 0 / length system.template → known_at system new edge row ≡ None
    -- no mark comes up
    pub keeps : (p : ℕ) → get_or new.settled.items p false ≡ true → get_or old.settled.items p false ≡ true
    -- the points so far have none
    pub unmarked : (k : ℕ) → k < i → get_or new.settled.items (get_or changed k 0 / length system.template) false ≡ false
    -- nor have those where an edge from one of them ends
    pub ends : (k edge : ℕ) → k < i → edge < length system.flow.edges
        → (edge_at system edge).from ≡ get_or changed k 0 / length system.template
        → get_or new.settled.items (edge_at system edge).to false ≡ false

  -- before the first unknown
  pub unknown_none : HasEntries system old → HasMarks system old → Unknown old 0
  unknown_none entries marks = record {
    entries = entries;
    marks = marks;
    part = λ k found e. e;
    gone = λ k edge row l. absurd (omega (arith, l));
    keeps = λ p t. t;
    unmarked = λ k l. absurd (omega (arith, l));
    ends = λ k edge l. absurd (omega (arith, l));
  }

  -- one more unknown
  pub unknown_more : (mid new : Known) (i : ℕ) → Unknown mid i → Forgets system (get_or changed i 0 / length system.template) mid new
      → Unknown new (i + 1)
  unknown_more mid new i so_far forgets = record {
    entries = forgets.entries;
    marks = forgets.marks;
    part = λ k found e. so_far.part k found (forgets.part k found e);
    gone = λ k edge row l p q from. ⊎_elim
        (λ e. forgets.gone edge row p q (from ∙ ap (λ n. get_or changed n 0 / length system.template) e.1))
        (λ apart. stays_none (known_at system mid edge row) (known_at system new edge row)
        (forgets.part (edge * length system.template + row)) (so_far.gone k edge row (omega (arith, l, apart.1)) p q from))
        (eqb_tells k i);
    keeps = λ p t. so_far.keeps p (forgets.keeps p t);
    unmarked = λ k l. ⊎_elim
        (λ e. ap (λ n. get_or new.settled.items (get_or changed n 0 / length system.template) false) e.1 ∙ forgets.unmarked)
        (λ apart. let p = get_or changed k 0 / length system.template in
        stays_unmarked (get_or mid.settled.items p false) (get_or new.settled.items p false) (forgets.keeps p)
        (so_far.unmarked k (omega (arith, l, apart.1))))
        (eqb_tells k i);
    ends = λ k edge l p from. ⊎_elim
        (λ e. forgets.ends edge p (from ∙ ap (λ n. get_or changed n 0 / length system.template) e.1))
        (λ apart. let q = (edge_at system edge).to in
        stays_unmarked (get_or mid.settled.items q false) (get_or new.settled.items q false) (forgets.keeps q)
        (so_far.ends k edge (omega (arith, l, apart.1)) p from))
        (eqb_tells k i);
  }

  module _ (before after : List Extended) (others : KeepsOthers changed before after) where
    -- the bounds of a point of no changed unknown stay
    same_at : (p : ℕ) → ((k : ℕ) → k < length changed → p ≡ get_or changed k 0 / length system.template → ⊥)
        → IsSameAt system before after p
    same_at p none row l = sym (others (p * length system.template + row) (λ m.
        let c = stands_at changed (p * length system.template + row) m in
        none c.0 c.1 (sym (div-mul-add p (length system.template) row l) ∙ ap (λ u. u / length system.template) (sym c.2))))

    -- what is known after all unknowns stands
    pub known_after : (new : Known) (i : ℕ) → length changed ≤ i → AreKnown system before old → Unknown new i → AreKnown system after new
    known_after new i last known so_far = record {
      entries = so_far.entries;
      stand = λ edge row found p q k. found_by_source system before after edge row found
          (same_at (edge_at system edge).from
          (λ n l from. no_value found (sym (so_far.gone n edge row (omega (arith, l, last)) p q from) ∙ k)))
          (known.stand edge row found p q (so_far.part (edge * length system.template + row) found k));
      marks = so_far.marks;
      settled = λ u within t edge l to. subst₂ (λ a b. a ≤ᴱ b)
          (transformer_by_source (equations_of system) (vector_at system before) (vector_at system after) (edge_at system edge)
          (row_at system (u % length system.template)) (source_same u t edge l to))
          (same_at (u / length system.template)
          (λ n l e. true≢false (sym t ∙ ap (λ p. get_or new.settled.items p false) e ∙ so_far.unmarked n (omega (arith, l, last))))
          (u % length system.template) (row_within u (length system.flow.points) (length system.template) within))
          (known.settled u within (so_far.keeps (u / length system.template) t) edge l to);
    }
      where
        source_same : (u : ℕ) → get_or new.settled.items (u / length system.template) false ≡ true → (edge : ℕ)
            → edge < length system.flow.edges → (edge_at system edge).to ≡ u / length system.template
            → IsSameAt system before after (edge_at system edge).from
        source_same u t edge l to = same_at (edge_at system edge).from (λ n k from.
            true≢false (sym t ∙ ap (λ p. get_or new.settled.items p false) (sym to) ∙ so_far.ends n edge (omega (arith, k, last)) l from))
