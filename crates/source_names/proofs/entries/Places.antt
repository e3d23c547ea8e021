-- Places of names.
use Rattle.indexmap.specs.IndexMap.{insert_entry}
use Rattle.std.specs.Prelude.{reverse, slice_get}
use Rattle.std.specs.Option.{option_map}
use Rattle.std.proofs.Common.{◌≡◌, ◌∙◌, ◌++◌, ◌<◌, ◌≤◌, ℕ, zero, suc, Bool, true, false, cond, List, [], ◌∷◌, length, map, Option, Some}
use Rattle.std.proofs.Common.{None}
use Rattle.std.proofs.Common.{refl, sym, ap, ap₂, arith, length-append}
use Rattle.std.specs.Map.{lookup}
use Rattle.std.specs.Str.{bytes_eq}
use Rattle.std.specs.declared.alloc.Global.{Global}
use Rattle.std.specs.declared.vec.Vec.{Vec}
use Rattle.std.proofs.lemmas.List.{reverse-append, reverse-reverse, length-reverse, get_or_append_left}
use Rattle.std.proofs.lemmas.Option.{slice_get-map, slice_get-get_or, slice_get_past}
use Rattle.std.proofs.lemmas.Bool.{ltb-true, ltb-false}
use Rattle.std.proofs.Common.{Bor}
use Rattle.std.specs.Slice.{IsItemAt}
use Rattle.std.proofs.Math.Seq.{get_or-append_seam}
use Rattle.std.proofs.lemmas.Slice.Eq.{bytes_eq-Decides}
use Rattle.source_meaning.specs.Names.{Named, declared, forgotten}
use Rattle.source_names.specs.declared.entry.Entry.{Entry}
use Rattle.source_names.specs.Entries.{named_of, names_in, place_of, HavePlaces}

-- what stands at a place, if there is one
abbrev pub at_place : Option ℕ → List Named → Option Named
at_place None ns = None
at_place (Some i) ns = slice_get ns i

place_within : (x : List ℕ) (ns : List Named) (i : ℕ) → place_of x ns ≡ Some i → i < length ns
place_within x [] i e = cc
place_within x (n ∷ ns) i e = on (bytes_eq x n.name) (λ j f. place_within x ns j f) e where
  on : (b : Bool) → ((j : ℕ) → place_of x ns ≡ Some j → j < length ns) → cond b (Some (length ns)) (place_of x ns) ≡ Some i
      → i < suc (length ns)
  on true f e = let g : length ns ≡ i = cc in omega arith
  on false f e = let g = f i e in omega arith

left_of : (ns : List Named) (n : Named) (i : ℕ) → i < length ns → slice_get (ns ++ n ∷ []) i ≡ slice_get ns i
left_of ns n i h =
    let g : i < length (ns ++ n ∷ []) = omega (arith, length-append ns (n ∷ [])) in
    slice_get-get_or (ns ++ n ∷ []) i n g ∙ ap Some (get_or_append_left ns (n ∷ []) n i h) ∙ sym (slice_get-get_or ns i n h)

at_end : (ns : List Named) (n : Named) (i : ℕ) → i ≡ length ns → slice_get (ns ++ n ∷ []) i ≡ Some n
at_end ns n i e =
    let g : i < length (ns ++ n ∷ []) = omega (arith, length-append ns (n ∷ [])) in
    slice_get-get_or (ns ++ n ∷ []) i n g ∙ ap (λ k. Some (get_or_of k)) e ∙ ap Some (get_or-append_seam ns n [] n) where
      get_or_of : ℕ → Named
      get_or_of k = Rattle.std.proofs.Common.get_or (ns ++ n ∷ []) k n

-- a name that was declared stands at its place
pub declared_at : (x : List ℕ) (ns : List Named) → declared x ns ≡ at_place (place_of x ns) (reverse ns)
declared_at x [] = refl
declared_at x (n ∷ ns) = on (bytes_eq x n.name) (place_of x ns) refl (declared_at x ns) where
  on : (b : Bool) (o : Option ℕ) → place_of x ns ≡ o → declared x ns ≡ at_place (place_of x ns) (reverse ns)
      → cond b (Some n) (declared x ns) ≡ at_place (cond b (Some (length ns)) (place_of x ns)) (reverse (n ∷ ns))
  on true o e h = sym (ap (λ ms. slice_get ms (length ns)) (reverse-append (n ∷ []) ns)
      ∙ at_end (reverse ns) n (length ns) (sym (length-reverse ns)))
  on false None e h = h ∙ ap (λ o. at_place o (reverse ns)) e ∙ sym (ap (λ o. at_place o (reverse (n ∷ ns))) e)
  on false (Some i) e h =
      let w = place_within x ns i e in
      let l = length-reverse ns in
      let v : i < length (reverse ns) = omega arith in
      h ∙ ap (λ o. at_place o (reverse ns)) e ∙ sym (left_of (reverse ns) n i v)
      ∙ ap (λ ms. slice_get ms i) (sym (reverse-append (n ∷ []) ns)) ∙ sym (ap (λ o. at_place o (reverse (n ∷ ns))) e)

-- the same of names of the code
pub found : (x : List ℕ) (items : List Entry) (i : ℕ) → place_of x (names_in items) ≡ Some i
    → option_map named_of (slice_get items i) ≡ declared x (names_in items)
found x items i e =
    sym (declared_at x (names_in items) ∙ ap (λ o. at_place o (reverse (names_in items))) e
    ∙ ap (λ ms. slice_get ms i) (reverse-reverse (map named_of items)) ∙ slice_get-map named_of items i)

-- a name that has no place was not declared
pub not_found : (x : List ℕ) (ns : List Named) → place_of x ns ≡ None → declared x ns ≡ None
not_found x ns e = declared_at x ns ∙ ap (λ o. at_place o (reverse ns)) e

abbrev same_text : List ℕ → Vec ℕ Global → Bool
same_text x k = bytes_eq x k.items

-- what is looked up once a key has a value
looked_up_in : (x : List ℕ) (es : List (Vec ℕ Global × ℕ)) (key : Vec ℕ Global) (v : ℕ)
    → lookup (same_text x) (insert_entry (λ (a b : Vec ℕ Global). bytes_eq a.items b.items) es key v)
    ≡ cond (bytes_eq x key.items) (Some v) (lookup (same_text x) es)
looked_up_in x [] key v = refl
looked_up_in x (e ∷ es) key v = on (bytes_eq key.items e.0.items) (bytes_eq x e.0.items) (bytes_eq x key.items) refl refl refl
    (looked_up_in x es key v) where
      insert : List (Vec ℕ Global × ℕ) → List (Vec ℕ Global × ℕ)
      insert es = insert_entry (λ (a b : Vec ℕ Global). bytes_eq a.items b.items) es key v

      on : (same here wanted : Bool) → bytes_eq key.items e.0.items ≡ same → bytes_eq x e.0.items ≡ here → bytes_eq x key.items ≡ wanted
          → lookup (same_text x) (insert es) ≡ cond (bytes_eq x key.items) (Some v) (lookup (same_text x) es)
          → lookup (same_text x) (cond same ((e.0, v) ∷ es) (e ∷ insert es))
          ≡ cond wanted (Some v) (cond here (Some e.1) (lookup (same_text x) es))
      on true true true s h w f = ap (λ b. cond b (Some v) (lookup (same_text x) es)) h
      on true false false s h w f = ap (λ b. cond b (Some v) (lookup (same_text x) es)) h
      on true true false s h w f = absurd (let k = (bytes_eq-Decides key.items e.0.items).0 s in
          let l = ap (bytes_eq x) k in cc)
      on true false true s h w f = absurd (let k = (bytes_eq-Decides key.items e.0.items).0 s in
          let l = ap (bytes_eq x) k in cc)
      on false true true s h w f = absurd (let k = (bytes_eq-Decides x e.0.items).0 h in
          let m = (bytes_eq-Decides x key.items).0 w in
          let l = (bytes_eq-Decides key.items e.0.items).1 (sym m ∙ k) in cc)
      on false true false s h w f = ap (λ b. cond b (Some e.1) (lookup (same_text x) (insert es))) h
      on false false wanted s h w f = ap (λ b. cond b (Some e.1) (lookup (same_text x) (insert es))) h ∙ f
          ∙ ap (λ b. cond b (Some v) (lookup (same_text x) es)) w

-- a name that is declared gets the last place
pub have_new : (entries now : List (Vec ℕ Global × ℕ)) (ns : List Named) (key : Vec ℕ Global) (n : Named) (place : ℕ)
    → HavePlaces entries ns → key.items ≡ n.name → place ≡ length ns
    → now ≡ insert_entry (λ (x y : Vec ℕ Global). bytes_eq x.items y.items) entries key place
    → HavePlaces now (n ∷ ns)
have_new entries now ns key n place h e f i = λ x. ap (lookup (same_text x)) i ∙ looked_up_in x entries key place
    ∙ ap (λ y. cond (bytes_eq x y) (Some place) (lookup (same_text x) entries)) e
    ∙ ap₂ (λ p o. cond (bytes_eq x n.name) (Some p) o) f (h x)

-- places stay where names are known no longer
pub place_forgotten : (x : List ℕ) (k : ℕ) (ns : List Named) → place_of x (forgotten k ns) ≡ place_of x ns
place_forgotten x zero ns = refl
place_forgotten x (suc k) [] = refl
place_forgotten x (suc k) (n ∷ ns) =
    ap₂ (λ l o. cond (bytes_eq x n.name) (Some l) o) (length_forgotten k ns) (place_forgotten x k ns) where
      length_forgotten : (k : ℕ) (ns : List Named) → length (forgotten k ns) ≡ length ns
      length_forgotten zero ns = refl
      length_forgotten (suc k) [] = refl
      length_forgotten (suc k) (n ∷ ns) = ap suc (length_forgotten k ns)

-- what is looked up in a list
pub looked_up : (xs : List Entry) (i : ℕ) (r : Option (Bor Entry)) → IsItemAt xs i r
    → option_map (λ (e : Bor Entry). named_of e.now) r ≡ option_map named_of (slice_get xs i)
looked_up xs i None h = ap (option_map named_of) (sym (slice_get_past xs i (ltb-false i (length xs) (sym h.0))))
looked_up xs i (Some e) h =
    let w : i < length xs = ltb-true i (length xs) (sym h.0) in
    ap (λ x. Some (named_of x)) h.1 ∙ ap (option_map named_of) (sym (slice_get-get_or xs i e.now w))
