-- Transformers that stay known from round to round.
use Rattle.std.proofs.Common.{◌≡◌, ◌∙◌, ⊎_elim, ℕ, ◌+◌, ◌*◌, ◌/◌, ◌<◌, Bool, true, false, true≢false, List, length, get_or, refl}
use Rattle.std.proofs.Common.{sym, ap, subst, arith}
use Rattle.std.specs.Prelude.{Option, Some, None, slice_set, replicate}
use Rattle.std.proofs.lemmas.Bool.Decides.{eqb_tells}
use Rattle.std.specs.Option.{option_map}
use Rattle.std.proofs.lemmas.Bool.{cases_lt}
use Rattle.std.proofs.lemmas.List.{get_or_past, get_or-set_same, get_or-set_other, get_or-replicate, length-replicate, length-set}
use Rattle.std.proofs.lemmas.Nat.{mul-add-lt, same_from_place}
use Rattle.base_numbers.specs.Extended.{Ext as Extended}
use Rattle.base_fractions.specs.declared.ext.Ext.{Ext}
use Rattle.flow_systems.specs.View.{equations_of}
use Rattle.flow_systems.specs.declared.system.System.{System}
use Rattle.theory_transformers.proofs.edge_problems.TransformerOf.{transformer_by_source}
use Rattle.solve_offers.specs.declared.found.Found.{Found}
use Rattle.solve_offers.specs.declared.known.Known.{Known}
use Rattle.solve_offers.specs.AtBounds.{vector_at, edge_at, row_at, IsTransformerAt}
use Rattle.solve_offers.specs.Found.{IsFound}
use Rattle.solve_offers.specs.Incoming.{numbers_by_point}
use Rattle.solve_offers.specs.Known.{AreKnown, HasMarks, IsSameAt, IsSettled, KeepsLists, KeepsMarks, known_at, known_value}
use Rattle.solve_offers.specs.Outgoing.{AreLeaving}
use Rattle.solve_offers.proofs.known.UpperSources.{upper_by_source}

-- nothing isn't something
pub no_value : (found : Found) → None ≡ Some found → ⊥
no_value found e = cc

same_value : (a b : Found) → Some a ≡ Some b → a ≡ b
same_value a b e = cc

-- what is known of an edge and a row was found at the bounds
pub known_found : (system : System) (bounds : List Extended) (known : Known) (edge row : ℕ) (found : Found) → AreKnown system bounds known
    → edge < length system.flow.edges → row < length system.template →
    Some found ≡ known_at system known edge row → IsFound system bounds edge row found
known_found system bounds known edge row found are p q e = are.stand edge row found p q (sym e)

-- a transformer that is known is that at the bounds
pub known_stands : (system : System) (bounds : List Extended) (known : Known) (edge row : ℕ) (value : Ext) → AreKnown system bounds known
    → edge < length system.flow.edges → row < length system.template →
    Some value ≡ known_value system known edge row → IsTransformerAt system bounds edge row value
known_stands system bounds known edge row value are p q e = by (known_at system known edge row) refl e
  where
    by : (o : Option Found) → known_at system known edge row ≡ o → Some value ≡ option_map (λ (found : Found). found.value) o
        → IsTransformerAt system bounds edge row value
    by None k e = cc
    by (Some found) k e = let same : found.value ≡ value = cc in subst (IsTransformerAt system bounds edge row) same
        (are.stand edge row found p q k).value

-- the entry of an edge and a row is one of all
pub place_within : (system : System) (edge row : ℕ) → edge < length system.flow.edges → row < length system.template →
    edge * length system.template + row < length system.flow.edges * length system.template
place_within system edge row p q = let l = mul-add-lt edge (length system.template) row (length system.flow.edges) p q in omega (arith, l)

-- what was found at bounds stands where the edge's source has the same
pub found_by_source : (system : System) (before after : List Extended) (edge row : ℕ) (found : Found)
    → IsSameAt system before after (edge_at system edge).from → IsFound system before edge row found → IsFound system after edge row found
found_by_source system before after edge row found same is =
    let E = equations_of system in
    let z = vector_at system before in
    let q = vector_at system after in
    record {
      value = is.value ∙ transformer_by_source E z q (edge_at system edge) (row_at system row) same;
      upper = is.upper ∙ upper_by_source E z q (edge_at system edge) (row_at system row) same;
    }

-- an entry that is made none is none
none_set : (xs : List (Option Found)) (place : ℕ) → get_or (slice_set xs place None) place None ≡ None
none_set xs place = ⊎_elim (λ l. get_or-set_same xs place None None l)
    (λ l. get_or_past (slice_set xs place None) place None (let n = length-set xs place None in omega (arith, l, n)))
    (cases_lt place (length xs))

-- a mark stands within the list
mark_within : (marks : List Bool) (p : ℕ) → get_or marks p false ≡ true → p < length marks
mark_within marks p t = ⊎_elim (λ l. l) (λ l. absurd (true≢false (sym t ∙ get_or_past marks p false (omega (arith, l)))))
    (cases_lt p (length marks))

no_mark : (n p : ℕ) → get_or (replicate n false) p false ≡ true → ⊥
no_mark n p t =
    let l = mark_within (replicate n false) p t in
    let size = length-replicate n false in
    true≢false (sym t ∙ get_or-replicate n p false false (omega (arith, l, size)))

-- nothing is known
pub known_none : (system : System) (known : Known) → known.values.items ≡ replicate (length system.flow.edges * length system.template) None
    → known.settled.items ≡ replicate (length system.flow.points) false
    → known.incoming ≡ numbers_by_point (length system.flow.points) system.flow.edges → AreLeaving system known.outgoing
    → (bounds : List Extended) → AreKnown system bounds known
known_none system known e s lists leaving bounds = record {
  entries = ap (λ l. length l) e ∙ length-replicate (length system.flow.edges * length system.template) None;
  stand = λ edge row value p q k.
      absurd (no_value value (sym (get_or-replicate (length system.flow.edges * length system.template)
      (edge * length system.template + row) None None (place_within system edge row p q))
      ∙ sym (ap (λ l. get_or l (edge * length system.template + row) None) e) ∙ k));
  marks = record {
    size = ap (λ l. length l) s ∙ length-replicate (length system.flow.points) false;
    listed = lists;
    leaving = leaving;
  };
  settled = λ u l t. absurd (no_mark (length system.flow.points) (u / length system.template)
      (subst (λ ms. get_or ms (u / length system.template) false ≡ true) s t));
}

-- the marks stay
pub kept_marks : (system : System) (old new : Known) → HasMarks system old → KeepsMarks old new → HasMarks system new
kept_marks system old new marks same = record {
  size = ap (λ ms. length ms) same.0 ∙ marks.size;
  listed = same.1.0 ∙ marks.listed;
  leaving = subst (AreLeaving system) (sym same.1.1) marks.leaving;
}

-- a point's mark is set
pub marked_marks : (system : System) (old new : Known) (point : ℕ) (settled : Bool) → HasMarks system old
    → new.settled.items ≡ slice_set old.settled.items point settled → KeepsLists old new → HasMarks system new
marked_marks system old new point settled marks is same = record {
  size = ap (λ ms. length ms) is ∙ length-set old.settled.items point settled ∙ marks.size;
  listed = same.0 ∙ marks.listed;
  leaving = subst (AreLeaving system) (sym same.1) marks.leaving;
}

-- a transformer is kept
pub known_more : (system : System) (bounds : List Extended) (old new : Known) (edge row : ℕ) (value : Found)
    → edge < length system.flow.edges → row < length system.template → AreKnown system bounds old →
    new.values.items ≡ slice_set old.values.items (edge * length system.template + row) (Some value) → KeepsMarks old new
    → IsFound system bounds edge row value → AreKnown system bounds new
known_more system bounds old new edge row value p q known e same is = record {
  entries = ap (λ l. length l) e ∙ length-set old.values.items (edge * length system.template + row) (Some value) ∙ known.entries;
  stand = λ other r v a b k.
      ⊎_elim
      (λ s. here other r v b s.1 (sym (ap (λ l. get_or l (other * length system.template + r) None) e) ∙ k))
      (λ apart. known.stand other r v a b
      (sym (get_or-set_other old.values.items (edge * length system.template + row) (other * length system.template + r) (Some value) None
      apart.1) ∙ sym (ap (λ l. get_or l (other * length system.template + r) None) e) ∙ k))
      (eqb_tells (other * length system.template + r) (edge * length system.template + row));
  marks = kept_marks system old new known.marks same;
  settled = λ u l t. known.settled u l (subst (λ ms. get_or ms (u / length system.template) false ≡ true) same.0 t);
}
  where
    within : edge * length system.template + row < length old.values.items
    within = let l = place_within system edge row p q in let h = known.entries in omega (arith, l, h)

    here : (other r : ℕ) (v : Found) → r < length system.template → other * length system.template + r ≡ edge * length system.template + row
        →
        get_or (slice_set old.values.items (edge * length system.template + row) (Some value)) (other * length system.template + r) None
        ≡ Some v → IsFound system bounds other r v
    here other r v b s k =
        let one = same_from_place other r edge row (length system.template) b q s in
        let same : value ≡ v = same_value value v (sym (get_or-set_same old.values.items (edge * length system.template + row) (Some value)
        None within)
        ∙ sym (ap (λ n. get_or (slice_set old.values.items (edge * length system.template + row) (Some value)) n None) s) ∙ k) in
        subst (λ x. IsFound system bounds other r x) same
        (subst (λ n. IsFound system bounds n r value) (sym one.0) (subst (λ n. IsFound system bounds edge n value) (sym one.1) is))

-- what was known of an edge and a row isn't any more
pub known_less : (system : System) (bounds : List Extended) (old new : Known) (place : ℕ) → AreKnown system bounds old
    → new.values.items ≡ slice_set old.values.items place None → KeepsMarks old new → AreKnown system bounds new
known_less system bounds old new place known e same = record {
  entries = ap (λ l. length l) e ∙ length-set old.values.items place None ∙ known.entries;
  stand = λ edge row value p q k. known.stand edge row value p q (was (edge * length system.template + row) value
      (sym (ap (λ l. get_or l (edge * length system.template + row) None) e) ∙ k));
  marks = kept_marks system old new known.marks same;
  settled = λ u l t. known.settled u l (subst (λ ms. get_or ms (u / length system.template) false ≡ true) same.0 t);
}
  where
    was : (k : ℕ) (value : Found) → get_or (slice_set old.values.items place None) k None ≡ Some value
        → get_or old.values.items k None ≡ Some value
    was k value is =
        ⊎_elim
        (λ s. absurd (no_value value (sym (gone k s.1) ∙ is)))
        (λ apart. sym (get_or-set_other old.values.items place k None None apart.1) ∙ is)
        (eqb_tells k place)
      where
        gone : (k : ℕ) → k ≡ place → get_or (slice_set old.values.items place None) k None ≡ None
        gone k s = ap (λ n. get_or (slice_set old.values.items place None) n None) s ∙ none_set old.values.items place

-- a point is settled
pub known_settled : (system : System) (bounds : List Extended) (old new : Known) (point : ℕ) → AreKnown system bounds old
    → new.values.items ≡ old.values.items → new.settled.items ≡ slice_set old.settled.items point true → KeepsLists old new
    → ((u : ℕ) → u < length system.flow.points * length system.template → u / length system.template ≡ point → IsSettled system bounds u)
    → AreKnown system bounds new
known_settled system bounds old new point known e s lists here = record {
  entries = ap (λ l. length l) e ∙ known.entries;
  stand = λ edge row value p q k. known.stand edge row value p q
      (sym (ap (λ l. get_or l (edge * length system.template + row) None) e) ∙ k);
  marks = marked_marks system old new point true known.marks s lists;
  settled = λ u l t. ⊎_elim
      (λ same. here u l same.1)
      (λ apart. known.settled u l (sym (get_or-set_other old.settled.items point (u / length system.template) true false apart.1)
      ∙ sym (ap (λ ms. get_or ms (u / length system.template) false) s) ∙ t))
      (eqb_tells (u / length system.template) point);
}
