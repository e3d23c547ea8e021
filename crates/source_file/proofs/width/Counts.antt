-- What the tokens of statements declare.
use Rattle.std.proofs.Common.{◌≡◌, ◌∙◌, ◌++◌, ◌&&◌, not, ℕ, suc, Bool, false, List, [], ◌∷◌, refl, sym, ap, ap₂, append_assoc}
use Rattle.std.proofs.Common.{if◌then◌else◌}
use Rattle.source_grammar.specs.Tokens.{replaces, Name, Kind, a_name, left_paren, right_paren, left_brace, right_brace, left_bracket}
use Rattle.source_grammar.specs.Tokens.{right_bracket, comma, semicolon, change_sign, int_word, Token, token}
use Rattle.source_grammar.specs.Grammar.{Sizes, last_size, next_size, spell_sizes, bare, given, sized, filled, Declarator, declarator}
use Rattle.source_grammar.specs.Grammar.{spell_declarator, MoreDeclarators, last_declarator, next_declarator, spell_more_declarators}
use Rattle.source_grammar.specs.Grammar.{Declarators, spell_declarators, spell_expr, spell_values}
use Rattle.source_grammar.specs.Grammar as tree
use Rattle.source_meaning.specs.Walk.{declared_one, declared_more, declared_in}
use Rattle.source_file.specs.declared.width.Place.{Place}
use Rattle.source_file.specs.declared.width.Place.TheVariants.{Heading, Elsewhere, Declaring, Behind}
use Rattle.source_file.specs.Width.{begins_bracket, behind, elsewhere, next, names, text_of, declared_from}
use Rattle.source_file.proofs.trees.Expressions.{IsPlain, IsOpening, IsClosing, IsReader, expr_read, sizes_read, braced_read}
use Rattle.source_file.proofs.trees.Statements.{IsWalker}

-- a token that declares nothing
pub quiet : (p q : Place) (k : Kind) (a : ℕ) (ts : List Token) → names p k ≡ false → next p k ≡ q
    → declared_from p (token k a ∷ ts) ≡ declared_from q ts
quiet p q k a ts e f =
    ap₂ (λ (b : Bool) (x : Place). (if b && not (begins_bracket ts) then text_of k ∷ [] else []) ++ declared_from x ts) e f

-- in a bracket more
abbrev pub inside : Place → Place
inside Heading = Heading
inside Elsewhere = Elsewhere
inside Declaring = Declaring
inside (Behind d) = Behind (suc d)

-- where an expression may stand
abbrev pub Calm : Place → Type 0
Calm Heading = ⊥
Calm Elsewhere = Unit {0}
Calm Declaring = ⊥
Calm (Behind d) = Unit {0}

-- where a statement may stand
abbrev pub Level : Place → Type 0
Level Heading = ⊥
Level Elsewhere = Unit {0}
Level Declaring = ⊥
Level (Behind d) = ⊥

elsewhere_plain : (k : Kind) → IsPlain k → elsewhere k ≡ Elsewhere
elsewhere_plain int_word h = absurd h
elsewhere_plain k h = refl

behind_plain : (k : Kind) (d : ℕ) → IsPlain k → behind k d ≡ Behind d
behind_plain left_paren d h = absurd h
behind_plain left_bracket d h = absurd h
behind_plain right_paren d h = absurd h
behind_plain right_bracket d h = absurd h
behind_plain left_brace d h = absurd h
behind_plain right_brace d h = absurd h
behind_plain comma d h = absurd h
behind_plain semicolon d h = absurd h
behind_plain k d h = refl

calm_inside : (s : Place) → Calm s → Calm (inside s)
calm_inside Heading h = absurd h
calm_inside Elsewhere h = tt
calm_inside Declaring h = absurd h
calm_inside (Behind d) h = tt

plain_declare : (s : Place) → Calm s → (k : Kind) → IsPlain k → (a : ℕ) (ts : List Token)
    → declared_from s (token k a ∷ ts) ≡ declared_from s ts
plain_declare Heading h k p a ts = absurd h
plain_declare Elsewhere h k p a ts = quiet Elsewhere Elsewhere k a ts refl (elsewhere_plain k p)
plain_declare Declaring h k p a ts = absurd h
plain_declare (Behind d) h k p a ts = quiet (Behind d) (Behind d) k a ts refl (behind_plain k d p)

elsewhere_opens : (k : Kind) → IsOpening k → elsewhere k ≡ Elsewhere
elsewhere_opens int_word h = absurd h
elsewhere_opens k h = refl

behind_opens : (k : Kind) (d : ℕ) → IsOpening k → behind k d ≡ Behind (suc d)
behind_opens left_paren d h = refl
behind_opens left_bracket d h = refl
behind_opens left_brace d h = refl
behind_opens k d h = absurd h

opens_declare : (s : Place) → Calm s → (k : Kind) → IsOpening k → (a : ℕ) (ts : List Token)
    → declared_from s (token k a ∷ ts) ≡ declared_from (inside s) ts
opens_declare Heading h k p a ts = absurd h
opens_declare Elsewhere h k p a ts = quiet Elsewhere Elsewhere k a ts refl (elsewhere_opens k p)
opens_declare Declaring h k p a ts = absurd h
opens_declare (Behind d) h k p a ts = quiet (Behind d) (Behind (suc d)) k a ts refl (behind_opens k d p)

elsewhere_closes : (k : Kind) → IsClosing k → elsewhere k ≡ Elsewhere
elsewhere_closes int_word h = absurd h
elsewhere_closes k h = refl

behind_closes : (k : Kind) (d : ℕ) → IsClosing k → behind k (suc d) ≡ Behind d
behind_closes right_paren d h = refl
behind_closes right_bracket d h = refl
behind_closes right_brace d h = refl
behind_closes k d h = absurd h

closes_declare : (s : Place) → Calm s → (k : Kind) → IsClosing k → (a : ℕ) (ts : List Token)
    → declared_from (inside s) (token k a ∷ ts) ≡ declared_from s ts
closes_declare Heading h k p a ts = absurd h
closes_declare Elsewhere h k p a ts = quiet Elsewhere Elsewhere k a ts refl (elsewhere_closes k p)
closes_declare Declaring h k p a ts = absurd h
closes_declare (Behind d) h k p a ts = quiet (Behind (suc d)) (Behind d) k a ts refl (behind_closes k d p)

comma_declares : (s : Place) → Calm s → (a : ℕ) (ts : List Token)
    → declared_from (inside s) (token comma a ∷ ts) ≡ declared_from (inside s) ts
comma_declares Heading h a ts = absurd h
comma_declares Elsewhere h a ts = quiet Elsewhere Elsewhere comma a ts refl refl
comma_declares Declaring h a ts = absurd h
comma_declares (Behind d) h a ts = quiet (Behind (suc d)) (Behind (suc d)) comma a ts refl refl

-- expressions declare nothing
pub reader : IsReader declared_from inside Calm
reader = record {
  calm_inside = calm_inside;
  plain = plain_declare;
  opens = opens_declare;
  closes = closes_declare;
  at_comma = comma_declares;
}

-- a name before tokens that make it a variable
pub bare_declares : (x : Name) (a : ℕ) (ts : List Token) → begins_bracket ts ≡ false
    → declared_from Declaring (token (a_name x) a ∷ ts) ≡ x.text ∷ declared_from (Behind 0) ts
bare_declares x a ts e = ap (λ (b : Bool). (if not b then x.text ∷ [] else []) ++ declared_from (Behind 0) ts) e

-- a name before the sizes of an array declares nothing
pub sized_declares : (x : Name) (a : ℕ) (zs : Sizes) (ts : List Token)
    → declared_from Declaring (token (a_name x) a ∷ (spell_sizes zs ++ ts)) ≡ declared_from (Behind 0) ts
sized_declares x a (last_size b z c) ts = sizes_read declared_from inside Calm reader (last_size b z c) (Behind 0) tt ts
sized_declares x a (next_size b z c zs) ts = sizes_read declared_from inside Calm reader (next_size b z c zs) (Behind 0) tt ts

-- a declarator before tokens that tell that a name before them is a variable
declarator_declares : (x : Declarator) (ts : List Token) → begins_bracket ts ≡ false
    → declared_from Declaring (spell_declarator x ++ ts) ≡ declared_one x ++ declared_from (Behind 0) ts
declarator_declares (declarator x a bare) ts h = bare_declares x a ts h
declarator_declares (declarator x a (given b e)) ts h =
    ap (λ (l : List (List ℕ)). x.text ∷ l) (expr_read declared_from inside Calm reader e (Behind 0) tt ts)
declarator_declares (declarator x a (sized zs)) ts h = sized_declares x a zs ts
declarator_declares (declarator x a (filled zs b c vs d)) ts h =
    let rest = token (change_sign replaces) b ∷ token left_brace c ∷ (spell_values vs ++ token right_brace d ∷ []) in
    ap (λ (l : List Token). declared_from Declaring (token (a_name x) a ∷ l)) (append_assoc (spell_sizes zs) rest ts)
    ∙ sized_declares x a zs (rest ++ ts) ∙ braced_read declared_from inside Calm reader c vs d (Behind 0) tt ts

-- behind a declarator no `[` stands
more_bare : (xs : MoreDeclarators) (b : ℕ) (ts : List Token) → begins_bracket (spell_more_declarators xs ++ token semicolon b ∷ ts) ≡ false
more_bare last_declarator b ts = refl
more_bare (next_declarator a x xs) b ts = refl

-- a declarator and those behind it
one_declares : (x : Declarator) (xs : MoreDeclarators) (b : ℕ) (ts : List Token)
    → declared_from (Behind 0) (spell_more_declarators xs ++ token semicolon b ∷ ts) ≡ declared_more xs ++ declared_from Elsewhere ts
    → declared_from Declaring ((spell_declarator x ++ spell_more_declarators xs) ++ token semicolon b ∷ ts)
    ≡ (declared_one x ++ declared_more xs) ++ declared_from Elsewhere ts
one_declares x xs b ts more =
    ap (declared_from Declaring) (append_assoc (spell_declarator x) (spell_more_declarators xs) (token semicolon b ∷ ts))
    ∙ declarator_declares x (spell_more_declarators xs ++ token semicolon b ∷ ts) (more_bare xs b ts)
    ∙ ap (λ (l : List (List ℕ)). declared_one x ++ l) more
    ∙ sym (append_assoc (declared_one x) (declared_more xs) (declared_from Elsewhere ts))

more_declares : (xs : MoreDeclarators) (b : ℕ) (ts : List Token)
    → declared_from (Behind 0) (spell_more_declarators xs ++ token semicolon b ∷ ts) ≡ declared_more xs ++ declared_from Elsewhere ts
more_declares last_declarator b ts = refl
more_declares (next_declarator a x xs) b ts = one_declares x xs b ts (more_declares xs b ts)

-- a declaration declares its variables
declaration_declares : (a : ℕ) (xs : Declarators) (b : ℕ) (ts : List Token)
    → declared_from Elsewhere (token int_word a ∷ (spell_declarators xs ++ token semicolon b ∷ ts))
    ≡ declared_in xs ++ declared_from Elsewhere ts
declaration_declares a (tree.declares x xs) b ts = one_declares x xs b ts (more_declares xs b ts)

level_calm : (s : Place) → Level s → Calm s
level_calm Heading h = absurd h
level_calm Elsewhere h = tt
level_calm Declaring h = absurd h
level_calm (Behind d) h = absurd h

level_inside : (s : Place) → Level s → Level (inside s)
level_inside Heading h = absurd h
level_inside Elsewhere h = tt
level_inside Declaring h = absurd h
level_inside (Behind d) h = absurd h

-- what is true elsewhere is true where a statement may stand
at_level : (P : Place → Type 0) → P Elsewhere → (s : Place) → Level s → P s
at_level P p Heading h = absurd h
at_level P p Elsewhere h = p
at_level P p Declaring h = absurd h
at_level P p (Behind d) h = absurd h

-- statements declare what their declarations do
pub walker : IsWalker declared_from inside Calm Level (λ xs r. xs ++ r)
walker = record {
  reads = reader;
  calm = level_calm;
  level_inside = level_inside;
  at_comma = at_level (λ s. (a : ℕ) (ts : List Token) → declared_from s (token comma a ∷ ts) ≡ declared_from s ts) (λ a ts. refl);
  at_semicolon = at_level (λ s. (a : ℕ) (ts : List Token) → declared_from s (token semicolon a ∷ ts) ≡ declared_from s ts) (λ a ts. refl);
  declares = at_level (λ s. (a : ℕ) (xs : Declarators) (b : ℕ) (ts : List Token)
      → declared_from s (token int_word a ∷ (spell_declarators xs ++ token semicolon b ∷ ts)) ≡ declared_in xs ++ declared_from s ts)
      declaration_declares;
  none = λ r. refl;
  more = λ xs ys r. append_assoc xs ys r;
}
