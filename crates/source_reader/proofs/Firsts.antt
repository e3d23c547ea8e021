-- What comes first.
use Rattle.std.proofs.Common.{◌≡◌, ◌∙◌, ◌≤◌, ℕ, ℤ, Option, List, [], ◌∷◌, length, get_or, refl, sym, ap, subst, arith}
use Rattle.lang_tokens.specs.declared.token.Token.{Token}
use Rattle.source_grammar.specs.Tokens.{Kind, a_name, a_number}
use Rattle.source_grammar.specs.View.{plain_kind}
use Rattle.source_tokens.specs.declared.definition.Definition.{Definition}
use Rattle.source_tokens.specs.Constants.{constant_at}
use Rattle.source_tokens.specs.View.{bytes_of, kind_of, tokens_of}
use Rattle.source_reader.specs.Marks.{mark_in}
use Rattle.source_reader.specs.Reading.{behind_first, first_kind}

-- the number that a token stands for as a name
abbrev pub value_at : List Definition → List ℕ → Token → Option ℤ
value_at constants text t = constant_at constants (bytes_of text t) t.at

-- the kind of a token
abbrev pub kind_at : List Definition → List ℕ → Token → Kind
kind_at constants text t = kind_of (bytes_of text t) (value_at constants text t) t.kind

-- the first of some tokens
pub first_kind_is : (constants : List Definition) (text : List ℕ) (ts : List Token) (d : Token) → 1 ≤ length ts
    → first_kind (tokens_of constants text ts) ≡ kind_at constants text (get_or ts 0 d)
first_kind_is constants text [] d h = absurd (omega (arith, h))
first_kind_is constants text (t ∷ ts) d h = refl

-- what any bytes and any value give for the kind of the first token, its own give
pub first_gives : {A : Type 0} (f : Kind → A) (constants : List Definition) (text : List ℕ) (ts : List Token) (d : Token) (r : A)
    → 1 ≤ length ts → ((bytes : List ℕ) (value : Option ℤ) → r ≡ f (kind_of bytes value (get_or ts 0 d).kind))
    → r ≡ f (first_kind (tokens_of constants text ts))
first_gives f constants text ts d r h g =
    let t = get_or ts 0 d in
    g (bytes_of text t) (value_at constants text t) ∙ ap f (sym (first_kind_is constants text ts d h))

-- what holds of the kind of the first token, whatever its name stands for
pub first_holds : (P : Kind → Type 0) (constants : List Definition) (text : List ℕ) (ts : List Token) (d : Token) → 1 ≤ length ts
    → ((value : Option ℤ) → P (kind_of (bytes_of text (get_or ts 0 d)) value (get_or ts 0 d).kind))
    → P (first_kind (tokens_of constants text ts))
first_holds P constants text ts d h g =
    subst P (sym (first_kind_is constants text ts d h)) (g (value_at constants text (get_or ts 0 d)))

-- likewise for the second
pub second_gives : {A : Type 0} (f : Kind → A) (constants : List Definition) (text : List ℕ) (ts : List Token) (d : Token) (r : A)
    → 2 ≤ length ts → ((bytes : List ℕ) (value : Option ℤ) → r ≡ f (kind_of bytes value (get_or ts 1 d).kind))
    → r ≡ f (first_kind (behind_first (tokens_of constants text ts)))
second_gives f constants text [] d r h g = absurd (omega (arith, h))
second_gives f constants text (t ∷ ts) d r h g = first_gives f constants text ts d r (omega (arith, h)) g

-- neither a name nor a number is a mark
pub plain_mark : (k : Kind) → mark_in (plain_kind k) ≡ mark_in k
plain_mark (a_name x) = refl
plain_mark (a_number n) = refl
plain_mark _ = refl
