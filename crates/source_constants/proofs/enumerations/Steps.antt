-- Enumerators one by one.
use Rattle.std.proofs.Common.{◌≡◌, ◌∙◌, ℤ, Bool, true, false, List, [], ◌∷◌, ◌++◌, Option, Some, None, refl, sym, ap, cond, append_assoc}
use Rattle.std.proofs.lemmas.List.{append-nil}
use Rattle.source_tokens.specs.declared.definition.Definition.{Definition}
use Rattle.source_constants.specs.declared.part.Part.{Part}
use Rattle.source_constants.specs.Enumerations.{is_comma, onto_first, parted, defined_as, next_behind, defining, counted}

-- parts more before the first list
abbrev pub with_front : List Part → List (List Part) → List (List Part)
with_front qs [] = qs ∷ []
with_front qs (s ∷ ss) = (qs ++ s) ∷ ss

-- definitions more before these
abbrev pub after : List Definition → Option (List Definition) → Option (List Definition)
after ds None = None
after ds (Some es) = Some (ds ++ es)

-- there is some list
record IsSome (ss : List (List Part)) : Type 0 where
  first : List Part
  rest : List (List Part)
  is : ss ≡ first ∷ rest

onto_some : (p : Part) (ss : List (List Part)) → IsSome (onto_first p ss)
onto_some p [] = record { first = p ∷ []; rest = []; is = refl }
onto_some p (s ∷ ss) = record { first = p ∷ s; rest = ss; is = refl }

parted_some : (ps : List Part) → IsSome (parted ps)
parted_some [] = record { first = []; rest = []; is = refl }
parted_some (p ∷ ps) = on (is_comma p) where
  on : (b : Bool) → IsSome (cond b ([] ∷ parted ps) (onto_first p (parted ps)))
  on true = record { first = []; rest = parted ps; is = refl }
  on false = onto_some p (parted ps)

-- no parts more
pub no_front : (ps : List Part) → with_front [] (parted ps) ≡ parted ps
no_front ps = let h = parted_some ps in ap (with_front []) h.is ∙ sym h.is

-- no definitions before others leave the others
pub none_after : (o : Option (List Definition)) → after [] o ≡ o
none_after None = refl
none_after (Some ds) = refl

front_onto : (qs : List Part) (p : Part) (ss : List (List Part)) → with_front qs (onto_first p ss) ≡ with_front (qs ++ p ∷ []) ss
front_onto qs p [] = refl
front_onto qs p (s ∷ ss) = ap (λ (l : List Part). l ∷ ss) (sym (append_assoc qs (p ∷ []) s))

-- a part that is no comma
pub one_more : (qs : List Part) (p : Part) (ps : List Part) → is_comma p ≡ false
    → with_front qs (parted (p ∷ ps)) ≡ with_front (qs ++ p ∷ []) (parted ps)
one_more qs p ps e =
    ap (λ b. with_front qs (cond b ([] ∷ parted ps) (onto_first p (parted ps)))) e ∙ front_onto qs p (parted ps)

-- what comes of one enumerator and the rest
abbrev pub joined : Option Definition → List (List Part) → Option (List Definition)
joined o ss = elim o [ None ↦ None | Some d ↦ defining d (counted (next_behind d.value) ss) ]

counted_two : (next : Option ℤ) (qs s : List Part) (ss : List (List Part))
    → counted next (qs ∷ s ∷ ss) ≡ joined (defined_as next qs) (s ∷ ss)
counted_two next [] s ss = refl
counted_two next (q ∷ qs) s ss = refl

counted_parted : (next : Option ℤ) (qs : List Part) (ss : List (List Part)) → IsSome ss
    → counted next (qs ∷ ss) ≡ joined (defined_as next qs) ss
counted_parted next qs ss h =
    ap (λ (l : List (List Part)). counted next (qs ∷ l)) h.is ∙ counted_two next qs h.first h.rest
    ∙ ap (λ (l : List (List Part)). joined (defined_as next qs) l) (sym h.is)

after_more : (ds : List Definition) (d : Definition) (o : Option (List Definition)) → after ds (defining d o) ≡ after (ds ++ d ∷ []) o
after_more ds d None = refl
after_more ds d (Some es) = ap (λ (l : List Definition). Some l) (sym (append_assoc ds (d ∷ []) es))

module _ (ds : List Definition) (next : Option ℤ) (qs : List Part) where
  -- behind a comma
  at_comma : (p : Part) (ps : List Part) → is_comma p ≡ true
      → after ds (counted next (with_front qs (parted (p ∷ ps)))) ≡ after ds (joined (defined_as next qs) (parted ps))
  at_comma p ps e =
      ap (λ b. after ds (counted next (with_front qs (cond b ([] ∷ parted ps) (onto_first p (parted ps)))))) e
      ∙ ap (λ (l : List Part). after ds (counted next (l ∷ parted ps))) (append-nil qs)
      ∙ ap (after ds) (counted_parted next qs (parted ps) (parted_some ps))

  -- an enumerator stands before it
  pub comma_goes : (p : Part) (ps : List Part) (d : Definition) → is_comma p ≡ true → Some d ≡ defined_as next qs
      → after ds (counted next (with_front qs (parted (p ∷ ps))))
      ≡ after (ds ++ d ∷ []) (counted (next_behind d.value) (with_front [] (parted ps)))
  comma_goes p ps d e h =
      at_comma p ps e ∙ ap (λ (o : Option Definition). after ds (joined o (parted ps))) (sym h)
      ∙ after_more ds d (counted (next_behind d.value) (parted ps))
      ∙ ap (λ (l : List (List Part)). after (ds ++ d ∷ []) (counted (next_behind d.value) l)) (sym (no_front ps))

  -- none stands before it
  pub comma_fails : (p : Part) (ps : List Part) → is_comma p ≡ true → None ≡ defined_as next qs
      → after ds (counted next (with_front qs (parted (p ∷ ps)))) ≡ None
  comma_fails p ps e h = at_comma p ps e ∙ ap (λ (o : Option Definition). after ds (joined o (parted ps))) (sym h)

  -- the last one
  at_end : after ds (counted next (with_front qs (parted []))) ≡ after ds (counted next (qs ∷ []))
  at_end = ap (λ (l : List Part). after ds (counted next (l ∷ []))) (append-nil qs)

  last_one : (q : Part) (more : List Part) → qs ≡ q ∷ more → counted next (qs ∷ []) ≡ joined (defined_as next qs) []
  last_one q more e =
      ap (λ (l : List Part). counted next (l ∷ [])) e ∙ ap (λ (l : List Part). joined (defined_as next l) []) (sym e)

  -- at the end of a list, its last constant is taken
  pub end_goes : (q : Part) (more : List Part) (d : Definition) → qs ≡ q ∷ more → Some d ≡ defined_as next qs
      → after ds (counted next (with_front qs (parted []))) ≡ Some (ds ++ d ∷ [])
  end_goes q more d e h =
      at_end ∙ ap (after ds) (last_one q more e) ∙ ap (λ (o : Option Definition). after ds (joined o [])) (sym h)

  -- and where it isn't taken, none is
  pub end_fails : (q : Part) (more : List Part) → qs ≡ q ∷ more → None ≡ defined_as next qs
      → after ds (counted next (with_front qs (parted []))) ≡ None
  end_fails q more e h =
      at_end ∙ ap (after ds) (last_one q more e) ∙ ap (λ (o : Option Definition). after ds (joined o [])) (sym h)

-- nothing stands behind the last comma
pub end_is : (ds : List Definition) (next : Option ℤ) → after ds (counted next (with_front [] (parted []))) ≡ Some ds
end_is ds next = ap (λ (l : List Definition). Some l) (append-nil ds)
