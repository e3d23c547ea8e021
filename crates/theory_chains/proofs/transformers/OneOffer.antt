-- There is one transformer and one offer, and vectors that agree at the template's rows have the same ones.
use Rattle.std.proofs.Common.{◌≡◌, ◌∙◌, ◌⊎◌, inl, inr, ⊎_elim, ℕ, zero, suc, ◌<◌, List, [], ◌∷◌, length, get_or, sym, ap, subst, subst₂}
use Rattle.std.specs.Prelude.{ℤ, Some, slice_get}
use Rattle.std.proofs.lemmas.List.{same_lists}
use Rattle.std.proofs.lemmas.Option.{slice_get_within, slice_get-get_or}
use Rattle.base_numbers.specs.Extended.{Ext, neg_inf, fin, pos_inf, ◌≤ᴱ◌, ◌<ᴱ◌}
use Rattle.base_numbers.proofs.extended.ExtendedLaws.{≤ᴱ_antisymm, ext_le_or_lt, ext_not_le_of_lt}
use Rattle.flow_edges.specs.declared.edge.Edge.{Edge}
use Rattle.flow_systems.specs.States.{RationalState, dotℚ}
use Rattle.flow_systems.specs.Equations.{Equations, Vector, Transition}
use Rattle.theory_chains.specs.Transformers.{IsUpper, IsTransformer, IsTransformerOf}
use Rattle.theory_chains.specs.Offers.{Offer, IsOffer, SomeExceeds}

-- vectors that agree at the template's rows
abbrev pub Agree : Equations → Vector → Vector → Type 0
Agree system v w = (p r : ℕ) → r < length system.template → v p r ≡ w p r

-- that vectors agree at the template's rows doesn't depend on their order
pub agree_sym : (system : Equations) (v w : Vector) → Agree system v w → Agree system w v
agree_sym system v w h p r l = sym (h p r l)

-- ---- transformers
pub transformer_one : (system : Equations) (v : Vector) (edge : Edge) (row : List ℤ) (number other : Ext)
    → IsTransformer system v edge row number → IsTransformer system v edge row other → number ≡ other
transformer_one system v edge row number other h i = ≤ᴱ_antisymm number other (h.least other i.upper) (i.least number h.upper)

some_row : (a b : List ℤ) → Some a ≡ Some b → a ≡ b
some_row a b e = cc

some_edge : (a b : Edge) → Some a ≡ Some b → a ≡ b
some_edge a b e = cc

-- a transition along an edge under a vector is one under each vector that agrees with it
pub transition_agrees : (system : Equations) (v w : Vector) (edge : Edge) (x y : RationalState) → Agree system v w
    → Transition system v edge x y → Transition system w edge x y
transition_agrees system v w edge x y h t =
    record {
      listed = t.listed;
      starts = t.starts;
      fits = λ r row e. subst (λ b. fin (dotℚ row x) ≤ᴱ b) (h edge.from r (slice_get_within system.template r row e)) (t.fits r row e);
      trace = t.trace;
    }

upper_agrees : (system : Equations) (v w : Vector) (edge : Edge) (row : List ℤ) (number : Ext) → Agree system v w
    → IsUpper system v edge row number → IsUpper system w edge row number
upper_agrees system v w edge row number h u x y t = u x y (transition_agrees system w v edge x y (agree_sym system v w h) t)

transformer_agrees : (system : Equations) (v w : Vector) (edge : Edge) (row : List ℤ) (number : Ext) → Agree system v w
    → IsTransformer system v edge row number → IsTransformer system w edge row number
transformer_agrees system v w edge row number h t =
    record {
      upper = upper_agrees system v w edge row number h t.upper;
      least =
          λ other u. t.least other (upper_agrees system w v edge row other (agree_sym system v w h) u);
    }

-- of numbers of edges and rows
transformer_of_one : (system : Equations) (v : Vector) (k r : ℕ) (number other : Ext) → IsTransformerOf system v k r number
    → IsTransformerOf system v k r other → number ≡ other
transformer_of_one system v k r number other h i =
    transformer_one system v i.edge i.row number other
    (subst₂ (λ e s. IsTransformer system v e s number) (some_edge h.edge i.edge (sym h.is_edge ∙ i.is_edge))
    (some_row h.row i.row (sym h.is_row ∙ i.is_row)) h.is_transformer)
    i.is_transformer

-- ---- offers
pub offer_agrees : (system : Equations) (v w : Vector) (p r : ℕ) (offer : Offer) → Agree system v w → r < length system.template
    → IsOffer system v p r offer → IsOffer system w p r offer
offer_agrees system v w p r offer h l o = record {
  bound = o.bound ∙ h p r l;
  edges = o.edges;
  count = o.count;
  values = λ j k number e f.
      let t = o.values j k number e f in
      record {
        edge = t.edge;
        is_edge = t.is_edge;
        row = t.row;
        is_row = t.is_row;
        is_transformer =
            transformer_agrees system v w t.edge t.row number h t.is_transformer;
      };
}

-- two offers of an unknown under one vector are the same
pub offer_one : (system : Equations) (v : Vector) (p r : ℕ) (offer other : Offer) → IsOffer system v p r offer → IsOffer system v p r other
    → offer ≡ other
offer_one system v p r offer other a b = λ i. record { bound = bounds i; edges = edges i; values = values i }
  where
    bounds : offer.bound ≡ other.bound
    bounds = a.bound ∙ sym b.bound

    edges : offer.edges ≡ other.edges
    edges = a.edges ∙ sym b.edges

    sizes : length offer.values ≡ length other.values
    sizes = a.count ∙ ap length edges ∙ sym b.count

    values : offer.values ≡ other.values
    values = same_lists offer.values other.values sizes each
      where
        each : (k : ℕ) (d : Ext) → k < length offer.values → get_or offer.values k d ≡ get_or other.values k d
        each k d l =
            let e = slice_get-get_or offer.edges k 0 (subst (λ n. k < n) a.count l) in
            transformer_of_one system v (get_or offer.edges k 0) r (get_or offer.values k d) (get_or other.values k d)
            (a.values k (get_or offer.edges k 0) (get_or offer.values k d) e (slice_get-get_or offer.values k d l))
            (b.values k (get_or offer.edges k 0) (get_or other.values k d) (ap (λ es. slice_get es k) (sym edges) ∙ e)
            (slice_get-get_or other.values k d (subst (λ n. k < n) sizes l)))

-- nothing is above the least
nothing_below : (x : Ext) → x <ᴱ neg_inf → ⊥
nothing_below neg_inf h = h
nothing_below (fin c) h = h
nothing_below pos_inf h = h

-- whether some transformer of an offer exceeds its bound
pub some_or_none : (offer : Offer) → SomeExceeds offer ⊎ (SomeExceeds offer → ⊥)
some_or_none offer = by offer.values
  where
    by : (values : List Ext) → ((j : ℕ) × (offer.bound <ᴱ get_or values j neg_inf))
        ⊎ ((j : ℕ) × (offer.bound <ᴱ get_or values j neg_inf) → ⊥)
    by [] = inr (λ h. nothing_below offer.bound h.1)
    by (x ∷ xs) = ⊎_elim (λ le. ⊎_elim (λ h. inl (suc h.0, h.1)) (λ none. inr (λ h. neither le none h.0 h.1)) (by xs)) (λ lt. inl (0, lt))
        (ext_le_or_lt x offer.bound)
      where
        neither : x ≤ᴱ offer.bound → ((j : ℕ) × (offer.bound <ᴱ get_or xs j neg_inf) → ⊥) → (j : ℕ)
            → offer.bound <ᴱ get_or (x ∷ xs) j neg_inf → ⊥
        neither le none zero h = ext_not_le_of_lt offer.bound x h le
        neither le none (suc j) h = none (j, h)
