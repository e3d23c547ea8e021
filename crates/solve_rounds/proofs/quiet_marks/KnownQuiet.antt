-- Known transformers that don't exceed bounds.
use Rattle.std.proofs.Common.{◌≡◌, ◌∙◌, ⊎_elim, ℕ, ◌+◌, ◌*◌, ◌/◌, ◌%◌, ◌<◌, ◌≤◌, Bool, true, false, true≢false, not, List, length, get_or}
use Rattle.std.proofs.Common.{sym, ap, subst, subst₂, IsTrue, arith, below_more}
use Rattle.std.specs.Prelude.{Option, Some, None, slice_set}
use Rattle.std.proofs.lemmas.Bool.Decides.{eqb_tells}
use Rattle.std.proofs.lemmas.List.{get_or-set_same, get_or-set_other, length-set}
use Rattle.std.proofs.lemmas.Nat.{div-add-mod', div-mul-add}
use Rattle.base_numbers.specs.Extended.{Ext as Extended, neg_inf, ◌≤ᴱ◌, ◌<ᴱ◌}
use Rattle.base_numbers.proofs.extended.ExtendedLaws.{ext_le_or_lt}
use Rattle.base_fractions.specs.Extended.{extended}
use Rattle.base_fractions.specs.declared.ext.Ext.{Ext as CodeExtended}
use Rattle.flow_systems.specs.View.{equations_of}
use Rattle.flow_systems.specs.declared.system.System.{System}
use Rattle.theory_validity.specs.Steps.{edge_of, row_of}
use Rattle.theory_strategy.specs.Picks.{choice, value_at}
use Rattle.solve_raise.specs.Raises.{choice_of}
use Rattle.solve_offers.specs.AtBounds.{EdgesAreThere, transformers, vector_at, edge_at, row_at}
use Rattle.solve_offers.specs.declared.known.Known.{Known}
use Rattle.solve_offers.specs.Known.{AreKnown, IsSettled, known_value}
use Rattle.solve_offers.proofs.at_bounds.KnownValues.{known_stands}
use Rattle.solve_offers.proofs.offers.Unknowns.{row_within}
use Rattle.solve_rounds.specs.declared.growing.Growing.{Growing}
use Rattle.solve_rounds.specs.Growing.{AreQuiet, AreWithin, EdgesEnd, IsKnownWithin, IsWithin}

-- what doesn't exceed is at most
pub at_most : (value bound : Extended) (exceeds : Bool) → (bound <ᴱ value → IsTrue exceeds) → IsTrue (not exceeds) → value ≤ᴱ bound
at_most value bound exceeds told q = ⊎_elim (λ k. k) (λ k. absurd (not_both exceeds (told k) q)) (ext_le_or_lt value bound)
  where
    not_both : (b : Bool) → IsTrue b → IsTrue (not b) → ⊥
    not_both true p q = true≢false (sym q)
    not_both false p q = true≢false (sym p)

module _ (system : System) (bounds : List Extended) (pick : List (Option ℕ)) where
  -- a known value that is at most its bound is the picked transformer
  pub known_within : (known : Known) (u edge : ℕ) (value : Option CodeExtended) (bound : CodeExtended) → AreKnown system bounds known
      → u < length system.flow.points * length system.template → edge < length system.flow.edges →
      get_or pick u None ≡ Some edge → value ≡ known_value system known edge (u % length system.template)
      → extended bound ≡ get_or bounds u neg_inf → IsKnownWithin value bound → IsWithin system bounds pick u
  unfolding edge_of row_of choice
  known_within known u edge None bound are l m picked is there within other e = absurd within
  known_within known u edge (Some value) bound are l m picked is there within other e =
      let same : edge ≡ other = some_same edge other (sym picked ∙ e) in
      subst (λ (k : ℕ). value_at (equations_of system) (transformers system) (vector_at system bounds)
      (choice_of (length system.template) u k) ≤ᴱ get_or bounds u neg_inf) same
      (subst₂ (λ (t b : Extended). t ≤ᴱ b) (known_stands system bounds known edge (u % length system.template) value are m
      (row_within u (length system.flow.points) (length system.template) l) is) there within)
    where
      some_same : (a b : ℕ) → Some a ≡ Some b → a ≡ b
      some_same a b e = cc

  -- a settled unknown is within its bound
  pub settled_within : (u : ℕ) → EdgesAreThere system pick → EdgesEnd system pick → IsSettled system bounds u
      → IsWithin system bounds pick u
  unfolding edge_of row_of choice
  settled_within u there ends settled edge e =
      subst (λ k. transformers system (vector_at system bounds) (edge_at system edge) (row_at system (u % length system.template))
      ≤ᴱ get_or bounds k neg_inf) (div-add-mod' u (length system.template)) (settled edge (there u edge e) (ends u edge e))

  -- the marks of the first rows of a point are right, and those of other points are as before
  pub record RowsMarked (point n : ℕ) (old new : List Bool) : Type 0 where
    -- there are as many marks as before
    pub size : length new ≡ length old
    -- the marks of other points are as before
    pub others : (u : ℕ) → (u / length system.template ≡ point → ⊥) → get_or new u false ≡ get_or old u false
    -- each of these rows that is marked has a picked transformer within its bound
    pub within : (r : ℕ) → r < n → get_or new (point * length system.template + r) false ≡ true
        → IsWithin system bounds pick (point * length system.template + r)

  -- one more
  pub rows_more : (point n : ℕ) (old mid : List Bool) (mark : Bool) → RowsMarked point n old mid → n < length system.template
      → point * length system.template + n < length mid
      → (IsTrue mark → IsWithin system bounds pick (point * length system.template + n))
      → RowsMarked point (n + 1) old (slice_set mid (point * length system.template + n) mark)
  rows_more point n old mid mark so_far l placed told = record {
    size = length-set mid at mark ∙ so_far.size;
    others = λ u o. get_or-set_other mid at u mark false
        (λ e. o (ap (λ k. k / length system.template) e ∙ div-mul-add point (length system.template) n l)) ∙ so_far.others u o;
    within = below_more (λ r. get_or (slice_set mid at mark) (point * length system.template + r) false ≡ true
        → IsWithin system bounds pick (point * length system.template + r)) n
        (λ r k m. so_far.within r k (sym (get_or-set_other mid at (point * length system.template + r) mark false
        (λ e. omega (arith, k, e))) ∙ m))
        (λ m. told (sym (get_or-set_same mid at mark false placed) ∙ m));
  }
    where
      at : ℕ
      at = point * length system.template + n

  -- all rows of the point
  pub rows_all : (point n : ℕ) (old new : List Bool) → RowsMarked point n old new → length system.template ≤ n → (u : ℕ)
      → u < length system.flow.points * length system.template → u / length system.template ≡ point → get_or new u false ≡ true
      → IsWithin system bounds pick u
  rows_all point n old new marked whole u l e m =
      let row = row_within u (length system.flow.points) (length system.template) l in
      let is : point * length system.template + u % length system.template ≡ u =
      ap (λ p. p * length system.template + u % length system.template) (sym e) ∙ div-add-mod' u (length system.template) in
      subst (IsWithin system bounds pick) is (marked.within (u % length system.template) (omega (arith, row, whole))
      (ap (λ k. get_or new k false) is ∙ m))

  -- there is a mark for each unknown, and those of the first points are right
  pub record PointsMarked (points : ℕ) (marks : List Bool) : Type 0 where
    -- there is a mark for each unknown
    pub size : length marks ≡ length system.flow.points * length system.template
    -- each unknown of these points that is marked has a picked transformer within its bound
    pub within : (u : ℕ) → u < length system.flow.points * length system.template → u / length system.template < points
        → get_or marks u false ≡ true → IsWithin system bounds pick u

  -- one more point, the marks of which are right
  pub points_more : (point : ℕ) (old new : List Bool) → PointsMarked point old → length new ≡ length old
      → ((u : ℕ) → (u / length system.template ≡ point → ⊥) → get_or new u false ≡ get_or old u false)
      → ((u : ℕ) → u < length system.flow.points * length system.template → u / length system.template ≡ point → get_or new u false ≡ true
      → IsWithin system bounds pick u) → PointsMarked (point + 1) new
  points_more point old new so_far size others here = record {
    size = size ∙ so_far.size;
    within = λ u l p m. ⊎_elim (λ t. here u l t.1 m) (λ t. let o = t.1 in so_far.within u l (omega (arith, p, o)) (sym (others u o) ∙ m))
        (eqb_tells (u / length system.template) point);
  }

  -- marked unknowns are quiet before anything is raised, and settled points are calm
  pub quiet_within : (known : Known) (growing : Growing) → EdgesAreThere system pick → EdgesEnd system pick → AreKnown system bounds known
      → growing.bounds ≡ bounds → growing.calm.items ≡ known.settled.items → AreWithin system bounds pick growing.quiet.items
      → AreQuiet system pick growing
  quiet_within known growing there ends are b c marked = record {
    marks = record { quiet = marked.size; calm = ap (λ l. length l) c ∙ are.marks.size };
    within = λ u l m. subst (λ x. IsWithin system x pick u) (sym b) (marked.within u l m);
    calm = λ u l m n. subst (λ x. IsWithin system x pick u) (sym b)
        (settled_within u there ends (are.settled u l (sym (ap (λ x. get_or x (u / length system.template) false) c) ∙ m)));
  }
