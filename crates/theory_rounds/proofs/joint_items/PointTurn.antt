-- The turn at a point of the joint problem: its items reach their numbers at the vector reached, where those are the transformers.
use Rattle.std.proofs.Common.{◌≡◌, ◌∙◌, inl, inr, ⊎_elim, ℕ, Bool, true, false, List, [], ◌∷◌, length, refl, sym, ap, subst, if◌then◌else◌}
use Rattle.theory_validity.proofs.certificates.StepNumbers.{num-fin}
use Rattle.base_facts.specs.Elements.{In}
use Rattle.base_numbers.specs.Rational.{ℚ, ◌≤ℚ◌}
use Rattle.base_numbers.specs.Extended.{Ext, fin, ◌≤ᴱ◌, ◌<ᴱ◌}
use Rattle.flow_systems.specs.Equations.{Equations, Vector}
use Rattle.theory_validity.specs.Words.{Word}
use Rattle.theory_validity.specs.Steps.{Runs, end_value, Item, Jump, edge_of, row_of, names, put, new_value, Unnamed, Distinct, Sized}
use Rattle.theory_validity.specs.Steps.{item_value, word}
use Rattle.theory_validity.specs.Certificates.{num}
use Rattle.lp_theory.specs.Problem.{IsBest}
use Rattle.theory_transformers.specs.EdgeProblems.{transformer}
use Rattle.theory_transformers.specs.JointProblems.{picked, own_row, columns_of, is_at, raised, joint_problem, joint_words, Supports}
use Rattle.theory_transformers.specs.JointProblems.{AllSupport, AllRising}
use Rattle.theory_transformers.specs.JointPoints.{Unlisted}
use Rattle.theory_transformers.specs.JointSteps.{pieces}
use Rattle.theory_transformers.proofs.joint_problems.JointMeaning.{point_supports}
use Rattle.theory_transformers.proofs.joint_problems.Rises.{is_at_means, raised_unlisted}
use Rattle.theory_transformers.proofs.joint_problems.JointLists.{supported_at}
use Rattle.theory_transformers.proofs.joint_problems.JointBest.{raised_candidate}
use Rattle.theory_transformers.proofs.joint_problems.JointTight.{joint_tight, joint_rises}
use Rattle.theory_transformers.proofs.joint_problems.JointLows.{AllSized, num_back, word_pieces, pieces_sized}
use Rattle.theory_transformers.proofs.joint_problems.RaySteps.{sized_words}
use Rattle.theory_strategy.specs.Picks.{value_at}
use Rattle.theory_strategy.specs.Growth.{split, with_words}
use Rattle.theory_strategy.specs.Round.{SameItem, PointFacts}
use Rattle.theory_rounds.specs.JointItems.{listed_item, listed_items, point_items}
use Rattle.theory_rounds.proofs.joint_items.ListedItems.{in_listed, apart_items}

-- the item of a point for an unknown
abbrev point_item : ℕ → Vector → Item → Word → Item
point_item n y u high = with_words u u.low (split n high) (num (y u.point u.row))

-- what an item of the point is made of
record Made (system : Equations) (y : Vector) (list : List Item) (item : Item) : Type 0 where
  unknown : Item
  listed : In list unknown
  high : Word
  is : point_item system.variables y unknown high ≡ item
  sized : length high ≡ columns_of system (listed_item unknown)
  supports : Supports system y (listed_item unknown) high

point_made : (system : Equations) (y : Vector) (list : List Item) (highs : List Word) → AllSized system (listed_items list) highs
    → AllSupport system y (listed_items list) highs → (item : Item) →
    In (point_items system.variables y list highs) item → Made system y list item
unfolding point_items listed_items
point_made system y [] highs si su item m = absurd m
point_made system y (u ∷ list) [] si su item m = absurd si
point_made system y (u ∷ list) (high ∷ highs) si su item m = ⊎_elim
    (λ e. record { unknown = u; listed = inl refl; high = high; is = e; sized = si.0; supports = su.0 })
    (λ k. let h = point_made system y list highs si.1 su.1 item k in
    record { unknown = h.unknown; listed = inr h.listed; high = h.high; is = h.is; sized = h.sized; supports = h.supports })
    m

same_words : (u : Item) (n : ℕ) (y : Vector) (high : Word) → SameItem u (point_item n y u high)
unfolding with_words
same_words u n y high = record { point = refl; row = refl; edge = refl; low = refl }

point_covers : (system : Equations) (y : Vector) (list : List Item) (highs : List Word) → AllSized system (listed_items list) highs
    → (u : Item) → In list u →
    (v : Item) × In (point_items system.variables y list highs) v × SameItem u v
unfolding point_items listed_items
point_covers system y [] highs si u m = absurd m
point_covers system y (v ∷ list) [] si u m = absurd si
point_covers system y (v ∷ list) (high ∷ highs) si u m = ⊎_elim
    (λ e. (
      point_item system.variables y v high,
      inl refl,
      subst (λ s. SameItem s (point_item system.variables y v high)) e
          (same_words v system.variables y high),
    ))
    (λ k. let r = point_covers system y list highs si.1 u k in (r.0, inr r.1, r.2))
    m

point_unnamed : (n : ℕ) (y : Vector) (list : List Item) (highs : List Word) (p r : ℕ) → Unnamed list p r
    → Unnamed (point_items n y list highs) p r
unfolding point_items with_words names
point_unnamed n y [] highs p r h = tt
point_unnamed n y (u ∷ list) [] p r h = tt
point_unnamed n y (u ∷ list) (high ∷ highs) p r h = (h.0, point_unnamed n y list highs p r h.1)

point_distinct : (n : ℕ) (y : Vector) (list : List Item) (highs : List Word) → Distinct list → Distinct (point_items n y list highs)
unfolding point_items with_words
point_distinct n y [] highs d = tt
point_distinct n y (u ∷ list) [] d = tt
point_distinct n y (u ∷ list) (high ∷ highs) d = (point_unnamed n y list highs u.point u.row d.0, point_distinct n y list highs d.1)

-- the items put the vector's numbers in place
point_puts : (system : Equations) (b y : Vector) (list : List Item) (highs : List Word) (p r : ℕ)
    → AllSized system (listed_items list) highs → ((u : Item) → In list u → (c : ℚ) × (y u.point u.row ≡ fin c)) →
    (Unlisted (listed_items list) p r → b p r ≡ y p r) → put (new_value Jump) (point_items system.variables y list highs) b p r ≡ y p r
unfolding put point_items listed_items with_words names is_at new_value
point_puts system b y [] highs p r si f k = k tt
point_puts system b y (u ∷ list) [] p r si f k = absurd si
point_puts system b y (u ∷ list) (high ∷ highs) p r si f k =
    by (is_at (listed_item u) p r) refl (f u (inl refl)) (λ e. point_puts system b y list highs p r si.1 (λ v m. f v (inr m))
    (λ n. k (e, n)))
  where
    by : (t : Bool) → is_at (listed_item u) p r ≡ t → ((c : ℚ) × (y u.point u.row ≡ fin c))
        → (is_at (listed_item u) p r ≡ false → put (new_value Jump) (point_items system.variables y list highs) b p r ≡ y p r) →
        (if t then fin (num (y u.point u.row)) else put (new_value Jump) (point_items system.variables y list highs) b p r) ≡ y p r
    by true e c t = let n = is_at_means (listed_item u) p r e in num_back (y u.point u.row) c.0 c.1 ∙ ap (λ s. y s u.row) n.0
        ∙ ap (λ s. y p s) n.1
    by false e c t = t e

module _ (system : Equations) (b : Vector) (list : List Item) (x : ℕ → ℚ) (v : ℚ) (w : ℕ → ℚ)
    (rising : AllRising system b (listed_items list)) (distinct : Distinct list)
    (best : IsBest (joint_problem system b (listed_items list)) x v w) where
  abbrev y : Vector
  y = raised (listed_items list) x b

  abbrev highs : List Word
  highs = joint_words system (listed_items list) x

  abbrev items : List Item
  items = point_items system.variables y list highs

  finite : (u : Item) → In list u → (c : ℚ) × (y u.point u.row ≡ fin c)
  finite u m =
      let s = supported_at system b y (listed_items list) (listed_item u)
      (raised_candidate system b (listed_items list) x rising best.point).inside (in_listed list u m) in
      (s.bound, s.finite)

  leads : put (new_value Jump) items b ≡ y
  leads i p r = point_puts system b y list highs p r (sized_words system (listed_items list) x) finite
      (λ n. sym (raised_unlisted (listed_items list) x b p r n)) i

  made : (item : Item) → In items item → Made system y list item
  made item m = point_made system y list highs (sized_words system (listed_items list) x)
      (point_supports system b (listed_items list) x rising best.point) item m

  -- what is known of an item of the point
  record Reached (item : Item) : Type 0 where
    rises : b item.point item.row <ᴱ fin item.number
    size : Sized system item item.second
    runs : Runs system y (edge_of system item) (word item.second)
    reaches : item.number ≤ℚ item_value system item (word item.second)
    same : value_at system (transformer system) y item ≡ fin item.number

  num_le : (e : Ext) (c a : ℚ) → e ≡ fin c → e ≤ᴱ fin a → num e ≤ℚ a
  num_le e c a f h = subst (λ s. s ≤ℚ a) (sym (num-fin e c f)) (subst (λ s. s ≤ᴱ fin a) f h)

  reached : (u : Item) (high : Word) → In list u → length high ≡ columns_of system (listed_item u) → Supports system y (listed_item u) high
      → Reached (point_item system.variables y u high)
  unfolding with_words split pieces edge_of row_of picked own_row columns_of
  reached u high m size supports =
      let c = finite u m in
      let n = system.variables in
      let all = listed_items list in
      record {
        rises = subst (λ s. b u.point u.row <ᴱ s) (sym (num_back (y u.point u.row) c.0 c.1))
            (joint_rises system b all x w v rising (apart_items list distinct) best (listed_item u) (in_listed list u m));
        size = pieces_sized system (listed_item u) high size;
        runs = subst (λ s. Runs system y (edge_of system u) s) (sym (word_pieces n high)) supports.runs;
        reaches = subst (λ s. num (y u.point u.row) ≤ℚ end_value system (edge_of system u) (row_of system u) s) (sym (word_pieces n high))
            (num_le (y u.point u.row) c.0 (end_value system (edge_of system u) (row_of system u) high) c.1 supports.reaches);
        same = joint_tight system b all x w v rising (apart_items list distinct) best (listed_item u) (in_listed list u m)
            ∙ sym (num_back (y u.point u.row) c.0 c.1);
      }

  reached_is : (item : Item) → In items item → Reached item
  reached_is item m = let h = made item m in subst Reached h.is (reached h.unknown h.high h.listed h.sized h.supports)

  -- the facts of the turn
  pub point_turn : PointFacts system (transformer system) b list items
  point_turn = record {
    distinct = point_distinct system.variables y list highs distinct;
    listed = λ item m. let h = made item m in (
      h.unknown,
      h.listed,
      subst (SameItem h.unknown) h.is
          (same_words h.unknown system.variables y h.high),
    );
    covers = point_covers system y list highs (sized_words system (listed_items list) x);
    rises = λ item m. (reached_is item m).rises;
    size = λ item m. (reached_is item m).size;
    runs = λ item m. subst (λ z. Runs system z (edge_of system item) (word item.second)) (sym leads) (reached_is item m).runs;
    reaches = λ item m. (reached_is item m).reaches;
    same = λ item m. ap (λ z. value_at system (transformer system) z item) leads ∙ (reached_is item m).same;
  }
