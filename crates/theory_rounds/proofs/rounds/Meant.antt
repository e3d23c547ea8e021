-- The exact transformers are the transformers that the definition of chains means, and make the offers that it means.
use Rattle.std.proofs.Common.{◌≡◌, ◌∙◌, ◌⊎◌, inl, inr, ⊎_elim, ℕ, zero, suc, ◌+◌, ◌<◌, eqb, ltb, Bool, true, false, true≢false, List, []}
use Rattle.std.proofs.Common.{◌∷◌, ◌++◌, length, map, get_or, refl, sym, ap, subst, arith, if◌then◌else◌}
use Rattle.std.specs.Prelude.{ℤ, Some, slice_get, Contains}
use Rattle.std.specs.Option.{option_map}
use Rattle.std.proofs.lemmas.Bool.{lt-ltb}
use Rattle.std.proofs.lemmas.Bool.Decides.{eqb_tells}
use Rattle.std.proofs.lemmas.Option.{slice_get_within, slice_get-get_or, get_or_from_slice_get, slice_get-map}
use Rattle.std.proofs.lemmas.List.{length-map}
use Rattle.base_facts.specs.Elements.{In}
use Rattle.base_numbers.specs.Extended.{Ext, neg_inf, fin, pos_inf, ◌≤ᴱ◌, ◌<ᴱ◌}
use Rattle.base_numbers.proofs.extended.ExtendedLaws.{ext_le_or_lt, ext_not_le_of_lt}
use Rattle.flow_edges.specs.declared.edge.Edge.{Edge}
use Rattle.flow_systems.specs.States.{dotℚ}
use Rattle.flow_systems.specs.Equations.{Equations, Vector, Fits}
use Rattle.theory_validity.specs.Words.{start_of, end_of}
use Rattle.theory_validity.specs.Steps.{Runs, end_value, Upper}
use Rattle.theory_validity.specs.Certificates.{edges_into}
use Rattle.theory_validity.proofs.words.Traces.{start_length, trace_of_word, word_of_trace}
use Rattle.theory_transformers.specs.EdgeProblems.{transformer}
use Rattle.theory_transformers.proofs.edge_problems.TransformerOf.{transformer_is}
use Rattle.theory_strategy.specs.Policy.{exceeding, offers}
use Rattle.theory_chains.specs.Transformers.{IsUpper, IsTransformer}
use Rattle.theory_chains.specs.Offers.{Offer, numbers_into, IsOffer, Exceeds, SomeExceeds}

-- ---- transformers
-- what bounds the words' end values bounds the values after transitions
pub upper_of_words : (system : Equations) (z : Vector) (edge : Edge) (row : List ℤ) (number : Ext) → Upper system z edge row number
    → IsUpper system z edge row number
unfolding end_value
upper_of_words system z edge row number upper x y t =
    let w = word_of_trace system.variables edge.actions x y t.starts t.trace in
    let runs : Runs system z edge (x ++ w.0) = record { passes = w.2; fits = subst (λ s. Fits system z edge.from s) (sym w.3) t.fits } in
    subst (λ s. fin (dotℚ row s) ≤ᴱ number) w.4 (upper (x ++ w.0) runs)

-- what bounds the values after transitions bounds the words' end values
pub upper_of_transitions : (system : Equations) (z : Vector) (edge : Edge) (row : List ℤ) (number : Ext) → Contains system.edges edge
    → IsUpper system z edge row number → Upper system z edge row number
unfolding end_value
upper_of_transitions system z edge row number listed upper w runs =
    upper (start_of system.variables w) (end_of system.variables edge.actions w)
    (record {
      listed = listed;
      starts = start_length system.variables w;
      fits = runs.fits;
      trace =
          trace_of_word system.variables edge.actions w runs.passes;
    })

transformer_meant : (system : Equations) (z : Vector) (edge : Edge) (row : List ℤ) → Contains system.edges edge
    → IsTransformer system z edge row (transformer system z edge row)
transformer_meant system z edge row listed =
    let t = transformer_is system z edge row in
    record {
      upper = upper_of_words system z edge row (transformer system z edge row) t.upper;
      least = λ other u. t.least other (upper_of_transitions system z edge row other listed u);
    }

-- ---- edges into a point
contains_at : {A : Type 0} (xs : List A) (k : ℕ) (x : A) → slice_get xs k ≡ Some x → Contains xs x
contains_at xs k x e = (k, slice_get_within xs k x e, get_or_from_slice_get xs k x x e)

-- where an edge into a point stands: its number, itself
record Stands (p k j n : ℕ) (edges : List Edge) : Type 0 where
  place : ℕ
  is_number : n ≡ k + place
  edge : Edge
  is_edge : slice_get edges place ≡ Some edge
  at : slice_get (edges_into p edges) j ≡ Some edge
  into : edge.to ≡ p

some_number : (a b : ℕ) → Some a ≡ Some b → a ≡ b
some_number a b e = cc

later : (p k j i n : ℕ) (edge : Edge) (edges : List Edge) → Stands p (suc k) j n edges
    → slice_get (edges_into p (edge ∷ edges)) i ≡ slice_get (edges_into p edges) j → Stands p k i n (edge ∷ edges)
later p k j i n edge edges s e = record {
  place = suc s.place;
  is_number = (let h = s.is_number in omega arith);
  edge = s.edge;
  is_edge =
      s.is_edge;
  at = e ∙ s.at;
  into = s.into;
}

stands : (p k : ℕ) (edges : List Edge) (j n : ℕ) → slice_get (numbers_into p k edges) j ≡ Some n → Stands p k j n edges
unfolding edges_into
stands p k [] j n e = cc
stands p k (edge ∷ edges) j n e = by (eqb edge.to p) refl (eqb_tells edge.to p) j e (λ i f. stands p (suc k) edges i n f)
  where
    by : (b : Bool) → eqb edge.to p ≡ b → ((b ≡ true) × (edge.to ≡ p)) ⊎ ((b ≡ false) × (edge.to ≡ p → ⊥)) → (i : ℕ) →
        slice_get (if b then k ∷ numbers_into p (suc k) edges else numbers_into p (suc k) edges) i ≡ Some n →
        ((i : ℕ) → slice_get (numbers_into p (suc k) edges) i ≡ Some n → Stands p (suc k) i n edges) → Stands p k i n (edge ∷ edges)
    by true b (inl t) zero f rec =
        record {
          place = 0;
          is_number = sym (some_number k n f) ∙ omega arith;
          edge = edge;
          is_edge = refl;
          at = ap (λ c. slice_get (if c then edge ∷ edges_into p edges else edges_into p edges) 0) b;
          into = t.1;
        }
    by true b (inl t) (suc i) f rec = later p k i (suc i) n edge edges (rec i f)
        (ap (λ c. slice_get (if c then edge ∷ edges_into p edges else edges_into p edges) (suc i)) b)
    by true b (inr t) i f rec = absurd (true≢false t.0)
    by false b t i f rec = later p k i i n edge edges (rec i f) (ap (λ c. slice_get
        (if c then edge ∷ edges_into p edges else edges_into p edges) i) b)

length_into : (p k : ℕ) (edges : List Edge) → length (edges_into p edges) ≡ length (numbers_into p k edges)
unfolding edges_into
length_into p k [] = refl
length_into p k (edge ∷ edges) = by (eqb edge.to p) (length_into p (suc k) edges)
  where
    by : (b : Bool) → length (edges_into p edges) ≡ length (numbers_into p (suc k) edges) →
        length (if b then edge ∷ edges_into p edges else edges_into p edges)
        ≡ length (if b then k ∷ numbers_into p (suc k) edges else numbers_into p (suc k) edges)
    by true e = ap suc e
    by false e = e

-- ---- offers
-- what an unknown is offered by the exact transformers
unfoldable pub exact_offer : Equations → Vector → ℕ → ℕ → Offer
exact_offer system z p r = record {
  bound = z p r;
  edges = numbers_into p 0 system.edges;
  values = map (λ edge. transformer system z edge (get_or system.template r [])) (edges_into p system.edges);
}

module _ (system : Equations) (z : Vector) (p r : ℕ) where
  abbrev T : Edge → Ext
  T edge = transformer system z edge (get_or system.template r [])

  value_of : (j : ℕ) (edge : Edge) (number : Ext) → slice_get (edges_into p system.edges) j ≡ Some edge
      → slice_get (map T (edges_into p system.edges)) j ≡ Some number → T edge ≡ number
  value_of j edge number e f = by (sym (ap (option_map T) e) ∙ sym (slice_get-map T (edges_into p system.edges) j) ∙ f)
    where
      by : Some (T edge) ≡ Some number → T edge ≡ number
      by h = cc

  -- the exact offer is the one that the definition means
  pub offer_meant : r < length system.template → IsOffer system z p r (exact_offer system z p r)
  unfolding exact_offer
  offer_meant l = record {
    bound = refl;
    edges = refl;
    count = length-map (edges_into p system.edges) T ∙ length_into p 0 system.edges;
    values = λ j k number e f.
        let s = stands p 0 system.edges j k e in
        let at : slice_get system.edges k ≡ Some s.edge = ap (slice_get system.edges) (s.is_number ∙ omega arith) ∙ s.is_edge in
        record {
          edge = s.edge;
          is_edge = at;
          row = get_or system.template r [];
          is_row = slice_get-get_or system.template r [] l;
          is_transformer = subst (IsTransformer system z s.edge (get_or system.template r [])) (value_of j s.edge number s.at f)
              (transformer_meant system z s.edge (get_or system.template r []) (contains_at system.edges k s.edge at));
        };
  }

  -- ---- what exceeds
  -- a listed edge into the point that exceeds has a position
  record Position (k n : ℕ) (edges : List Edge) : Type 0 where
    position : ℕ
    is_number : slice_get (numbers_into p k edges) position ≡ Some n
    exceeds : z p r <ᴱ get_or (map T (edges_into p edges)) position neg_inf

  position_of : (k : ℕ) (edges : List Edge) (n : ℕ) → In (exceeding system (transformer system) z p r k edges) n → Position k n edges
  unfolding exceeding edges_into
  position_of k [] n m = absurd m
  position_of k (edge ∷ edges) n m = by (eqb edge.to p) refl (ext_le_or_lt (T edge) (z p r)) m (λ i. position_of (suc k) edges n i)
    where
      next : (b : Bool) → eqb edge.to p ≡ b → Position (suc k) n edges → Position k n (edge ∷ edges)
      next true b h = record {
        position = suc h.position;
        is_number = ap (λ c. slice_get (if c then k ∷ numbers_into p (suc k) edges else numbers_into p (suc k) edges) (suc h.position)) b
            ∙ h.is_number;
        exceeds = subst (λ c. z p r <ᴱ get_or (map T (if c then edge ∷ edges_into p edges else edges_into p edges)) (suc h.position)
            neg_inf) (sym b) h.exceeds;
      }
      next false b h = record {
        position = h.position;
        is_number = ap (λ c. slice_get (if c then k ∷ numbers_into p (suc k) edges else numbers_into p (suc k) edges) h.position) b
            ∙ h.is_number;
        exceeds = subst (λ c. z p r <ᴱ get_or (map T (if c then edge ∷ edges_into p edges else edges_into p edges)) h.position neg_inf)
            (sym b) h.exceeds;
      }

      by : (b : Bool) → eqb edge.to p ≡ b → (o : (T edge ≤ᴱ z p r) ⊎ (z p r <ᴱ T edge)) →
          In (if b then ⊎_elim (λ h. exceeding system (transformer system) z p r (suc k) edges)
          (λ h. k ∷ exceeding system (transformer system) z p r (suc k) edges) o else exceeding system (transformer system) z p r
          (suc k) edges) n →
          (In (exceeding system (transformer system) z p r (suc k) edges) n → Position (suc k) n edges) → Position k n (edge ∷ edges)
      by false b o m rec = next false b (rec m)
      by true b (inl h) m rec = next true b (rec m)
      by true b (inr h) m rec = ⊎_elim first (λ i. next true b (rec i)) m
        where
          first : k ≡ n → Position k n (edge ∷ edges)
          first e = record {
            position = 0;
            is_number = ap (λ c. slice_get (if c then k ∷ numbers_into p (suc k) edges else numbers_into p (suc k) edges) 0) b ∙ ap Some e;
            exceeds = subst (λ c. z p r <ᴱ get_or (map T (if c then edge ∷ edges_into p edges else edges_into p edges)) 0 neg_inf) (sym b)
                h;
          }

  nothing_below : (x : Ext) → x <ᴱ neg_inf → ⊥
  nothing_below neg_inf h = h
  nothing_below (fin c) h = h
  nothing_below pos_inf h = h

  -- and a position that exceeds has such an edge
  edge_of_position : (k : ℕ) (edges : List Edge) (j : ℕ) → z p r <ᴱ get_or (map T (edges_into p edges)) j neg_inf →
      (n : ℕ) × (slice_get (numbers_into p k edges) j ≡ Some n) × In (exceeding system (transformer system) z p r k edges) n
  unfolding exceeding edges_into
  edge_of_position k [] j h = absurd (nothing_below (z p r) h)
  edge_of_position k (edge ∷ edges) j h = by (eqb edge.to p) (ext_le_or_lt (T edge) (z p r)) j h (λ i g. edge_of_position (suc k) edges i g)
    where
      by : (b : Bool) → (o : (T edge ≤ᴱ z p r) ⊎ (z p r <ᴱ T edge)) → (i : ℕ)
          → z p r <ᴱ get_or (map T (if b then edge ∷ edges_into p edges else edges_into p edges)) i neg_inf →
          ((i : ℕ) → z p r <ᴱ get_or (map T (edges_into p edges)) i neg_inf
          → (n : ℕ) × (slice_get (numbers_into p (suc k) edges) i ≡ Some n)
          × In (exceeding system (transformer system) z p r (suc k) edges) n) →
          (n : ℕ) × (slice_get (if b then k ∷ numbers_into p (suc k) edges else numbers_into p (suc k) edges) i ≡ Some n)
          × In (if b then ⊎_elim (λ h. exceeding system (transformer system) z p r (suc k) edges)
          (λ h. k ∷ exceeding system (transformer system) z p r (suc k) edges) o else exceeding system (transformer system) z p r
          (suc k) edges) n
      by false o i g rec = rec i g
      by true (inl le) zero g rec = absurd (ext_not_le_of_lt (z p r) (T edge) g le)
      by true (inl le) (suc i) g rec = rec i g
      by true (inr lt) zero g rec = (k, refl, inl refl)
      by true (inr lt) (suc i) g rec = let f = rec i g in (f.0, f.1, inr f.2)

  -- some transformer exceeds exactly where something is offered
  offered_exceeds : (n : ℕ) → In (offers system (transformer system) z p r) n
      → (j : ℕ) × (slice_get (exact_offer system z p r).edges j ≡ Some n) × Exceeds (exact_offer system z p r) j
  unfolding offers exact_offer
  offered_exceeds n m = by (ltb r (length system.template)) m
    where
      by : (b : Bool) → In (if b then exceeding system (transformer system) z p r 0 system.edges else []) n →
          (j : ℕ) × (slice_get (numbers_into p 0 system.edges) j ≡ Some n) × (z p r <ᴱ get_or (map T (edges_into p system.edges)) j neg_inf)
      by true m = let h = position_of 0 system.edges n m in (h.position, h.is_number, h.exceeds)
      by false m = absurd m

  -- a position that exceeds is offered
  pub exceeds_offered : r < length system.template → (j : ℕ) → Exceeds (exact_offer system z p r) j
      → (n : ℕ) × (slice_get (exact_offer system z p r).edges j ≡ Some n) × In (offers system (transformer system) z p r) n
  unfolding offers exact_offer
  exceeds_offered l j h =
      let f = edge_of_position 0 system.edges j h in (
        f.0,
        f.1,
        subst (λ b. In (if b then exceeding system (transformer system) z p r 0 system.edges else []) f.0)
            (sym (lt-ltb r (length system.template) l)) f.2,
      )

  -- where nothing is offered, nothing exceeds
  pub nothing_exceeds : offers system (transformer system) z p r ≡ [] → r < length system.template → SomeExceeds (exact_offer system z p r)
      → ⊥
  nothing_exceeds e l s = let f = exceeds_offered l s.0 s.1 in subst (λ os. In os f.0) e f.2

  -- where something is offered, something exceeds
  pub something_exceeds : (k : ℕ) (ks : List ℕ) → offers system (transformer system) z p r ≡ k ∷ ks → SomeExceeds (exact_offer system z p r)
  something_exceeds k ks e = let f = offered_exceeds k (subst (λ os. In os k) (sym e) (inl refl)) in (f.0, f.2)

  -- each position that exceeds is that of an edge into the point
  pub exceeding_edge : (j : ℕ) → Exceeds (exact_offer system z p r) j →
      (edge : Edge) × Contains system.edges edge × (edge.to ≡ p) × (z p r <ᴱ transformer system z edge (get_or system.template r []))
  unfolding exact_offer
  exceeding_edge j h =
      let f = edge_of_position 0 system.edges j h in
      let s = stands p 0 system.edges j f.0 f.1 in (
        s.edge,
        contains_at system.edges s.place s.edge s.is_edge,
        s.into,
        subst (λ v. z p r <ᴱ v) (get_or_from_slice_get (map T (edges_into p system.edges)) j (T s.edge) neg_inf
            (slice_get-map T (edges_into p system.edges) j ∙ ap (option_map T) s.at)) h,
      )
