-- What the tokens of a text declare, whatever their names stand for.
use Rattle.std.proofs.Common.{◌≡◌, ◌∙◌, ◌++◌, ◌&&◌, not, ℕ, ℤ, Bool, List, [], ◌∷◌, Option, min, refl, ap, ap₂}
use Rattle.std.proofs.Common.{if◌then◌else◌}
use Rattle.lang_tree.specs.declared.limits.TheConstants.{MOST_VARIABLES}
use Rattle.lang_tokens.specs.declared.token.Kind as lex_kind
use Rattle.lang_tokens.specs.declared.token.Token as lex_token
use Rattle.source_grammar.specs.Tokens.{Name, Kind, a_name, Token}
use Rattle.source_grammar.specs.Grammar.{Function, Reads}
use Rattle.source_meaning.specs.Walk.{distinct, width_of}
use Rattle.source_tokens.specs.declared.definition.Definition.{Definition}
use Rattle.source_tokens.specs.Constants.{constant_at}
use Rattle.source_tokens.specs.View.{bytes_of, kind_of, tokens_of}
use Rattle.source_file.specs.declared.width.Place.{Place}
use Rattle.source_file.specs.declared.width.Place.TheVariants.{Heading, Elsewhere, Declaring, Behind}
use Rattle.source_file.specs.Width.{begins_bracket, declared_by, declared_from, is_bracket, names, next, text_of}
use Rattle.source_file.proofs.width.Functions.{spelled_width}

-- what is true of all names with one text is true of a token whatever its name stands for
kind_same : {A : Type 0} (P : Kind → A) → ((x y : Name) → x.text ≡ y.text → P (a_name x) ≡ P (a_name y)) → (bytes : List ℕ)
    (v w : Option ℤ) (k : lex_kind.Kind) → P (kind_of bytes v k) ≡ P (kind_of bytes w k)
kind_same P h bytes v w (lex_kind.TheVariants.Word word) = refl
kind_same P h bytes v w lex_kind.TheVariants.Name = h (record { text = bytes; value = v }) (record { text = bytes; value = w }) refl
kind_same P h bytes v w (lex_kind.TheVariants.Number n) = refl
kind_same P h bytes v w (lex_kind.TheVariants.Sign sign) = refl
kind_same P h bytes v w (lex_kind.TheVariants.Foreign sort) = refl
kind_same P h bytes v w (lex_kind.TheVariants.Aside aside) = refl
kind_same P h bytes v w lex_kind.TheVariants.End = refl

next_name : (p : Place) (x y : Name) → next p (a_name x) ≡ next p (a_name y)
next_name Heading x y = refl
next_name Elsewhere x y = refl
next_name Declaring x y = refl
next_name (Behind d) x y = refl

declared_name : (p : Place) (ts : List Token) (x y : Name) → x.text ≡ y.text → declared_by p (a_name x) ts ≡ declared_by p (a_name y) ts
declared_name Heading ts x y e = refl
declared_name Elsewhere ts x y e = refl
declared_name Declaring ts x y e = ap (λ (b : List ℕ). if not (begins_bracket ts) then b ∷ [] else []) e
declared_name (Behind d) ts x y e = refl

module _ (ds es : List Definition) (text : List ℕ) where
  begins_same : (ts : List lex_token.Token) → begins_bracket (tokens_of ds text ts) ≡ begins_bracket (tokens_of es text ts)
  begins_same [] = refl
  begins_same (t ∷ ts) =
      kind_same is_bracket (λ x y e. refl) (bytes_of text t) (constant_at ds (bytes_of text t) t.at) (constant_at es (bytes_of text t) t.at)
      t.kind

  -- what tokens declare is the same by all definitions
  pub declared_same : (p : Place) (ts : List lex_token.Token)
      → declared_from p (tokens_of ds text ts) ≡ declared_from p (tokens_of es text ts)
  declared_same p [] = refl
  declared_same p (t ∷ ts) =
      let bytes = bytes_of text t in
      let v = constant_at ds bytes t.at in
      let w = constant_at es bytes t.at in
      let here : declared_by p (kind_of bytes v t.kind) (tokens_of ds text ts)
      ≡ declared_by p (kind_of bytes w t.kind) (tokens_of es text ts) =
      kind_same (λ (k : Kind). declared_by p k (tokens_of ds text ts)) (declared_name p (tokens_of ds text ts)) bytes v w t.kind
      ∙ ap (λ (b : Bool). if names p (kind_of bytes w t.kind) && not b then text_of (kind_of bytes w t.kind) ∷ [] else [])
      (begins_same ts) in
      let there : declared_from (next p (kind_of bytes v t.kind)) (tokens_of ds text ts)
      ≡ declared_from (next p (kind_of bytes w t.kind)) (tokens_of es text ts) =
      ap (λ (q : Place). declared_from q (tokens_of ds text ts)) (kind_same (next p) (λ x y e. next_name p x y) bytes v w t.kind)
      ∙ declared_same (next p (kind_of bytes w t.kind)) ts in
      ap₂ (λ (l m : List (List ℕ)). l ++ m) here there

-- how many variables a function declares whose tokens these are
pub tokens_width : (definitions : List Definition) (text : List ℕ) (ts : List lex_token.Token) (f : Function)
    → Reads (tokens_of definitions text ts) f
    → width_of f ≡ min MOST_VARIABLES (distinct [] (declared_from Heading (tokens_of [] text ts)))
tokens_width definitions text ts f reads =
    spelled_width f
    ∙ ap (λ (l : List (List ℕ)). min MOST_VARIABLES (distinct [] l))
    (ap (declared_from Heading) reads.spelled ∙ declared_same definitions [] text Heading ts)
