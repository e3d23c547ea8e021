-- Names that stood before, kept in a set.
use Rattle.std.proofs.Common.{◌≡◌, ◌∙◌, ◌++◌, ℕ, Bool, true, false, List, [], ◌∷◌, ◌+◌, ◌<◌, suc, drop, get_or, length, arith, Some, refl}
use Rattle.std.proofs.Common.{sym, ap, map, if◌then◌else◌}
use Rattle.std.proofs.Math.Seq.{drop-cons}
use Rattle.std.specs.Prelude.{not, ◌||◌}
use Rattle.std.specs.List.{list_any}
use Rattle.std.specs.Str.{bytes_eq}
use Rattle.std.specs.declared.alloc.Global.{Global}
use Rattle.std.specs.declared.vec.Vec.{Vec}
use Rattle.std.proofs.lemmas.List.{map-append}
use Rattle.source_file.specs.declared.functions.Defined.{Defined}
use Rattle.source_file.specs.Choice.{repeated}

-- the function at a place, and those behind it
pub split : (fs : List Defined) (i : ℕ) (d : Defined) → i < length fs → d ≡ get_or fs i d → drop i fs ≡ d ∷ drop (i + 1) fs
split fs i d l e =
    let one : suc i ≡ i + 1 = omega arith in
    drop-cons fs i d l ∙ ap (λ (x : Defined). x ∷ drop (suc i) fs) (sym e) ∙ ap (λ (n : ℕ). d ∷ drop n fs) one

-- the texts of keys
abbrev pub texts : List (Vec ℕ Global) → List (List ℕ)
texts ks = map (λ (k : Vec ℕ Global). k.items) ks

-- a key has this text
abbrev pub has : List ℕ → List (Vec ℕ Global) → Bool
has x ks = list_any (λ (k : Vec ℕ Global). bytes_eq x k.items) ks

-- a text among them
pub any_text : (x : List ℕ) (ks : List (Vec ℕ Global)) → list_any (bytes_eq x) (texts ks) ≡ has x ks
any_text x [] = refl
any_text x (k ∷ ks) = ap (λ (b : Bool). bytes_eq x k.items || b) (any_text x ks)

not_false : (b : Bool) → not b ≡ false → b ≡ true
not_false true e = refl
not_false false e = cc

not_true : (b : Bool) → not b ≡ true → b ≡ false
not_true true e = cc
not_true false e = refl

module _ (d : Defined) (ds : List Defined) (ks : List (Vec ℕ Global)) (key : Vec ℕ Global) (e : key.items ≡ d.name) where
  same : list_any (bytes_eq d.name) (texts ks) ≡ has key.items ks
  same = ap (λ (x : List ℕ). list_any (bytes_eq x) (texts ks)) (sym e) ∙ any_text key.items ks

  -- the name stood before
  pub already : (r : Bool) → r ≡ not (has key.items ks) → r ≡ false → repeated (texts ks) (d ∷ ds) ≡ Some d.at
  already r h f =
      ap (λ (b : Bool). if b then Some d.at else repeated (texts ks ++ d.name ∷ []) ds) (same ∙ not_false (has key.items ks) (sym h ∙ f))

  -- it didn't
  pub fresh : (r : Bool) (now : List (Vec ℕ Global)) → r ≡ not (has key.items ks) → r ≡ true
      → now ≡ (if has key.items ks then ks else ks ++ key ∷ []) → repeated (texts ks) (d ∷ ds) ≡ repeated (texts now) ds
  fresh r now h f n =
      let none : has key.items ks ≡ false = not_true (has key.items ks) (sym h ∙ f) in
      let keys : now ≡ ks ++ key ∷ [] = n ∙ ap (λ (b : Bool). if b then ks else ks ++ key ∷ []) none in
      let names : texts now ≡ texts ks ++ d.name ∷ [] =
      ap texts keys ∙ map-append (λ (k : Vec ℕ Global). k.items) ks (key ∷ []) ∙ ap (λ (x : List ℕ). texts ks ++ x ∷ []) e in
      ap (λ (b : Bool). if b then Some d.at else repeated (texts ks ++ d.name ∷ []) ds) (same ∙ none)
      ∙ ap (λ (x : List (List ℕ)). repeated x ds) (sym names)
