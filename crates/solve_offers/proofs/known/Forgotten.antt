-- What is forgotten of the edges that start at a point, edge by edge.
use Rattle.std.proofs.Common.{◌≡◌, ◌∙◌, ⊎_elim, ℕ, ◌+◌, ◌*◌, ◌<◌, ◌≤◌, true, false, List, [], length, get_or, refl, sym, ap, subst}
use Rattle.std.proofs.Common.{arith}
use Rattle.std.specs.Prelude.{Option, Some, None, slice_set}
use Rattle.std.proofs.lemmas.Bool.Decides.{eqb_tells}
use Rattle.std.proofs.lemmas.List.{get_or_default}
use Rattle.base_facts.proofs.elements.Membership.{contains_from_in}
use Rattle.base_facts.specs.Elements.{In}
use Rattle.flow_systems.specs.declared.system.System.{System}
use Rattle.solve_offers.specs.declared.found.Found.{Found}
use Rattle.solve_offers.specs.declared.known.Known.{Known}
use Rattle.solve_offers.specs.AtBounds.{edge_at}
use Rattle.solve_offers.specs.Known.{Forgets, HasEntries, HasMarks, IsPartOf, KeepsLists, KeepsMarks, known_at}
use Rattle.solve_offers.proofs.at_bounds.KnownValues.{no_value, kept_marks, marked_marks}
use Rattle.solve_offers.proofs.known.Marks.{mark_gone, stays_unmarked, was_mark}

-- a part doesn't know what the whole doesn't
pub stays_none : (whole part : Option Found) → ((found : Found) → part ≡ Some found → whole ≡ Some found) → whole ≡ None → part ≡ None
stays_none whole None is e = refl
stays_none whole (Some found) is e = absurd (no_value found (sym e ∙ is found refl))

-- an element of a list of numbers stands at some place
pub stands_at : (numbers : List ℕ) (number : ℕ) → In numbers number → (k : ℕ) × (k < length numbers) × (get_or numbers k 0 ≡ number)
stands_at numbers number m = let c = contains_from_in numbers number m in
    (c.0, c.1, get_or_default numbers c.0 0 number c.1 ∙ c.2)

module _ (system : System) (point : ℕ) (old : Known) where
  -- the edges that start at the point
  abbrev numbers : List ℕ
  numbers = get_or old.outgoing point []

  -- nothing is known of the first i edges, and neither the point nor a point where one of them ends is marked
  pub record ForgottenTo (new : Known) (i : ℕ) : Type 0 where
    -- there is an entry for each edge and row
    pub entries : HasEntries system new
    -- there is a mark for each point
    pub marks : HasMarks system new
    -- the lists of edges stay
    pub lists : KeepsLists old new
    -- nothing else is known than before
    pub part : IsPartOf new old
    -- of the edges so far nothing is known
    pub gone : (k row : ℕ) → k < i → row < length system.template
        → known_at system new (get_or (get_or old.outgoing point []) k 0) row ≡ None
    -- no mark comes up
    pub keeps : (p : ℕ) → get_or new.settled.items p false ≡ true → get_or old.settled.items p false ≡ true
    -- the point has none
    pub unmarked : get_or new.settled.items point false ≡ false
    -- nor has a point where one of the edges so far ends
    pub ends : (k : ℕ) → k < i → get_or new.settled.items (edge_at system (get_or (get_or old.outgoing point []) k 0)).to false ≡ false

  -- before the first edge
  pub forgotten_none : (new : Known) → HasEntries system old → HasMarks system old → new.values.items ≡ old.values.items
      → new.settled.items ≡ slice_set old.settled.items point false → KeepsLists old new → ForgottenTo new 0
  forgotten_none new entries marks values settled lists = record {
    entries = ap (λ l. length l) values ∙ entries;
    marks = marked_marks system old new point false marks settled lists;
    lists = lists;
    part = λ k found e. sym (ap (λ l. get_or l k None) values) ∙ e;
    gone = λ k row l. absurd (omega (arith, l));
    keeps = was_mark old.settled.items new.settled.items point settled;
    unmarked = mark_gone old.settled.items new.settled.items point settled;
    ends = λ k l. absurd (omega (arith, l));
  }

  -- one more edge
  pub forgotten_more : (mid half new : Known) (i : ℕ) → ForgottenTo mid i → HasEntries system half
      → ((row : ℕ) → row < length system.template → known_at system half (get_or numbers i 0) row ≡ None) → IsPartOf half mid
      → KeepsMarks mid half → new.values.items ≡ half.values.items
      → new.settled.items ≡ slice_set half.settled.items (edge_at system (get_or numbers i 0)).to false → KeepsLists half new
      → ForgottenTo new (i + 1)
  forgotten_more mid half new i so_far entries gone part same values settled lists = record {
    entries = ap (λ l. length l) values ∙ entries;
    marks = marked_marks system half new end false (kept_marks system mid half so_far.marks same) settled lists;
    lists = (lists.0 ∙ same.1.0 ∙ so_far.lists.0, lists.1 ∙ same.1.1 ∙ so_far.lists.1);
    part = λ k found e. so_far.part k found (was_known k found e);
    gone = λ k row l q. ⊎_elim
        (λ e. ap (λ n. known_at system new (get_or numbers n 0) row) e.1
        ∙ ap (λ l. get_or l (get_or numbers i 0 * length system.template + row) None) values ∙ gone row q)
        (λ apart. stays_none (known_at system mid (get_or numbers k 0) row) (known_at system new (get_or numbers k 0) row)
        (was_known (get_or numbers k 0 * length system.template + row)) (so_far.gone k row (omega (arith, l, apart.1)) q))
        (eqb_tells k i);
    keeps = λ p t. so_far.keeps p (was p t);
    unmarked = stays_unmarked (get_or mid.settled.items point false) (get_or new.settled.items point false) (was point) so_far.unmarked;
    ends = λ k l. ⊎_elim
        (λ e. ap (λ n. get_or new.settled.items (edge_at system (get_or numbers n 0)).to false) e.1
        ∙ mark_gone half.settled.items new.settled.items end settled)
        (λ apart. let p = (edge_at system (get_or numbers k 0)).to in
        stays_unmarked (get_or mid.settled.items p false) (get_or new.settled.items p false) (was p)
        (so_far.ends k (omega (arith, l, apart.1))))
        (eqb_tells k i);
  }
    where
      end : ℕ
      end = (edge_at system (get_or numbers i 0)).to

      was_known : (k : ℕ) (found : Found) → get_or new.values.items k None ≡ Some found → get_or mid.values.items k None ≡ Some found
      was_known k found e = part k found (sym (ap (λ l. get_or l k None) values) ∙ e)

      was : (p : ℕ) → get_or new.settled.items p false ≡ true → get_or mid.settled.items p false ≡ true
      was p t = subst (λ ms. get_or ms p false ≡ true) same.0 (was_mark half.settled.items new.settled.items end settled p t)

  -- all edges that start at the point
  pub forgotten_all : (new : Known) (i : ℕ) → HasMarks system old → length numbers ≤ i → ForgottenTo new i → Forgets system point old new
  forgotten_all new i marks last so_far = record {
    entries = so_far.entries;
    marks = so_far.marks;
    part = so_far.part;
    gone = λ edge row p q from. let at = place edge p from in
        ap (λ n. known_at system new n row) (sym at.2) ∙ so_far.gone at.0 row (let l = at.1 in omega (arith, l, last)) q;
    keeps = so_far.keeps;
    unmarked = so_far.unmarked;
    ends = λ edge p from. let at = place edge p from in
        ap (λ n. get_or new.settled.items (edge_at system n).to false) (sym at.2)
        ∙ so_far.ends at.0 (let l = at.1 in omega (arith, l, last));
  }
    where
      place : (edge : ℕ) → edge < length system.flow.edges → (edge_at system edge).from ≡ point
          → (k : ℕ) × (k < length numbers) × (get_or numbers k 0 ≡ edge)
      place edge p from = stands_at numbers edge
          (subst (λ q. In (get_or old.outgoing q []) edge) from (marks.leaving.listed edge p))
