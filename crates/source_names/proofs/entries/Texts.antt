-- Lists whose last part comes first, and maps that grow at their end.
use Rattle.indexmap.specs.IndexMap.{insert_entry}
use Rattle.std.specs.Prelude.{is_some, ◌||◌}
use Rattle.std.proofs.Common.{◌≡◌, ◌∙◌, ◌++◌, Bool, true, false, cond, List, [], ◌∷◌, map, Option, Some, None, refl, sym, ap, ℕ}
use Rattle.std.specs.Prelude.{reverse}
use Rattle.std.specs.List.{list_any}
use Rattle.std.specs.Map.{lookup}
use Rattle.std.specs.Str.{bytes_eq}
use Rattle.std.specs.declared.alloc.Global.{Global}
use Rattle.std.specs.declared.vec.Vec.{Vec}
use Rattle.std.proofs.lemmas.List.{reverse-append, map-append}
use Rattle.std.proofs.lemmas.List.Folds.{list_any-append}
use Rattle.source_names.specs.Entries.{texts_in}

-- one thing more at the end comes first
pub reverse_pushed : {A B : Type 0} (f : A → B) (xs : List A) (x : A) → reverse (map f (xs ++ x ∷ [])) ≡ f x ∷ reverse (map f xs)
reverse_pushed f xs x = ap reverse (map-append f xs (x ∷ [])) ∙ reverse-append (map f xs) (f x ∷ [])

-- where a key stands is told from the first entry on
pub lookup_pushed : {K V : Type 0} (t : K → Bool) (es : List (K × V)) (k : K) (v : V)
    → lookup t (es ++ (k, v) ∷ []) ≡ elim (lookup t es) as (λ o. Option V) [ None ↦ cond (t k) (Some v) None | Some w ↦ Some w ]
lookup_pushed t [] k v = refl
lookup_pushed {V} t (e ∷ es) k v = on (t e.0) (lookup_pushed t es k v) where
  on : (b : Bool)
      → lookup t (es ++ (k, v) ∷ []) ≡ elim (lookup t es) as (λ o. Option V) [ None ↦ cond (t k) (Some v) None | Some w ↦ Some w ]
      → cond b (Some e.1) (lookup t (es ++ (k, v) ∷ []))
      ≡ elim (cond b (Some e.1) (lookup t es)) as (λ o. Option V) [ None ↦ cond (t k) (Some v) None | Some w ↦ Some w ]
  on true h = refl
  on false h = h

-- a key that is new stands at the end
pub insert_absent : {K V : Type 0} (eq : K → K → Bool) (k : K) (v : V) (es : List (K × V)) → lookup (eq k) es ≡ None
    → insert_entry eq es k v ≡ es ++ (k, v) ∷ []
insert_absent eq k v [] h = refl
insert_absent {V} eq k v (e ∷ es) h = on (eq k e.0) (λ i. insert_absent eq k v es i) h where
  on : (b : Bool) → (lookup (eq k) es ≡ None → insert_entry eq es k v ≡ es ++ (k, v) ∷ []) → cond b (Some e.1) (lookup (eq k) es) ≡ None
      → cond b ((e.0, v) ∷ es) (e ∷ insert_entry eq es k v) ≡ e ∷ (es ++ (k, v) ∷ [])
  on true f i = cc
  on false f i = ap (λ xs. e ∷ xs) (f i)

-- a thing that is not there
pub none_there : {A : Type 0} (o : Option A) → is_some o ≡ false → o ≡ None
none_there None h = refl
none_there (Some n) h = cc

-- a test of any of a list, from its end
pub any_reversed : {A B : Type 0} (p : B → Bool) (f : A → B) (xs : List A) → list_any p (reverse (map f xs)) ≡ list_any (λ x. p (f x)) xs
any_reversed p f [] = refl
any_reversed p f (x ∷ xs) =
    ap (list_any p) (reverse-append (f x ∷ []) (map f xs)) ∙ list_any-append p (reverse (map f xs)) (f x ∷ [])
    ∙ ap (λ b. b || (p (f x) || false)) (any_reversed p f xs) ∙ swapped (list_any (λ x. p (f x)) xs) (p (f x)) where
      swapped : (a b : Bool) → (a || (b || false)) ≡ (b || a)
      swapped true true = refl
      swapped true false = refl
      swapped false true = refl
      swapped false false = refl

-- whether a text is a key
pub key_there : {V : Type 0} (x : List ℕ) (es : List (Vec ℕ Global × V))
    → is_some (lookup (λ (k : Vec ℕ Global). bytes_eq x k.items) es) ≡ list_any (bytes_eq x) (texts_in es)
key_there {V} x es = sym (any_reversed (bytes_eq x) (λ (e : Vec ℕ Global × V). e.0.items) es ∙ same es) where
  same : (es : List (Vec ℕ Global × V)) → list_any (λ (e : Vec ℕ Global × V). bytes_eq x e.0.items) es
      ≡ is_some (lookup (λ (k : Vec ℕ Global). bytes_eq x k.items) es)
  same [] = refl
  same (e ∷ es) = on (bytes_eq x e.0.items) (same es) where
    on : (b : Bool) → list_any (λ (e : Vec ℕ Global × V). bytes_eq x e.0.items) es
        ≡ is_some (lookup (λ (k : Vec ℕ Global). bytes_eq x k.items) es)
        → (b || list_any (λ (e : Vec ℕ Global × V). bytes_eq x e.0.items) es)
        ≡ is_some (cond b (Some e.1) (lookup (λ (k : Vec ℕ Global). bytes_eq x k.items) es))
    on true h = refl
    on false h = h

-- one key more
pub texts_pushed : {V : Type 0} (es now : List (Vec ℕ Global × V)) (key : Vec ℕ Global) (v : V) (x : List ℕ) → key.items ≡ x
    → list_any (bytes_eq x) (texts_in es) ≡ false → now ≡ insert_entry (λ (a b : Vec ℕ Global). bytes_eq a.items b.items) es key v
    → texts_in now ≡ x ∷ texts_in es
texts_pushed {V} es now key v x e f g =
    let n = key_there key.items es ∙ ap (λ y. list_any (bytes_eq y) (texts_in es)) e ∙ f in
    let i = insert_absent (λ (a b : Vec ℕ Global). bytes_eq a.items b.items) key v es
    (none_there (lookup (λ (k : Vec ℕ Global). bytes_eq key.items k.items) es) n) in
    ap texts_in (g ∙ i) ∙ reverse_pushed (λ (e : Vec ℕ Global × V). e.0.items) es (key, v) ∙ ap (λ y. y ∷ texts_in es) e
