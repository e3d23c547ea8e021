-- The token of a C file that stands first, from the lexeme that does.
use Rattle.std.proofs.Common.{◌≡◌, ◌≤◌, ℕ, true, false, not, ◌&&◌, eqb, List, [], ◌∷◌, ◌++◌, length, refl, ap, sym, subst, ◌∙◌, arith}
use Rattle.std.proofs.Common.{Option, Some, None}
use Rattle.std.proofs.lemmas.Bool.{and_parts, and_from, eqb-true}
use Rattle.lang_tokens.specs.declared.lexicon.Lexicon.TheVariants.{C}
use Rattle.lang_tokens.specs.declared.lexeme.Lexeme.{Lexeme}
use Rattle.lang_tokens.specs.declared.before.Before.{Before}
use Rattle.lang_tokens.specs.declared.before.Before.TheVariants.{Blanks, Others, Directive}
use Rattle.lang_tokens.specs.declared.token.Aside.{Aside}
use Rattle.lang_tokens.specs.declared.token.Aside.TheVariants as aside
use Rattle.lang_tokens.specs.declared.token.Kind.{Kind}
use Rattle.lang_tokens.specs.declared.token.Kind.TheVariants as kind
use Rattle.lang_tokens.specs.Directives.{starts_comment, is_joint, is_blank_to_feed, is_directive}
use Rattle.lang_tokens.specs.Lexemes.{IsLexeme, an_other, a_stray, IsAside, foreign_outside, nothing_outside, IsNoToken, stray}
use Rattle.lang_tokens.specs.Reading.{token, IsLongest, IsApart, IsWholeToken, is_outside, is_blanks, may_stand, behind_token}
use Rattle.lang_tokens.specs.Faults.{NothingStarts}
use Rattle.lang_tokens.specs.Steps.{StandsFirst, LexemeFirst, NoLexemeFirst, IsOfCode, is_of_code, aside_of, IsBare}
use Rattle.lang_tokens.proofs.lexemes.CGrades.{no_kind}
use Rattle.lang_tokens.proofs.lexemes.Grades.{one_longest}
use Rattle.lang_tokens.proofs.lexemes.Led.{c_stray_starts}
use Rattle.lang_tokens.proofs.lexemes.Numbers.{numeral_apart}
use Rattle.lang_tokens.proofs.signs.Longest.{sign_apart}

-- the `#` of a directive is the longest lexeme
hash_longest : (bs : List ℕ) → IsLongest C (35 ∷ []) bs
hash_longest bs = record {
  lexeme = an_other (a_stray 35 refl refl);
  longest = λ other after e lexeme.
      let one = c_stray_starts other after bs 35 e lexeme refl in
      omega (arith, ap length one.1);
}

-- the `#` of a directive stands first as its own token
pub hash_stands : (before : Before) (rest : List ℕ) → (is_blanks before && is_directive C rest) ≡ true
    → StandsFirst C before rest (record { kind = Some (kind.Aside aside.Hash); len = 1; behind = Directive })
hash_stands before rest h = from rest (and_parts (is_blanks before) (is_directive C rest) h).1
  where
    from : (rest : List ℕ) → is_directive C rest ≡ true
        → StandsFirst C before rest (record { kind = Some (kind.Aside aside.Hash); len = 1; behind = Directive })
    from [] h = cc
    from (b ∷ bs) is =
        let hash : 35 ≡ b = sym (eqb-true b 35 (and_parts (eqb b 35) _ is).0) in
        record {
          piece = token (kind.Aside aside.Hash) (35 ∷ []);
          after = bs;
          split = ap (λ (x : ℕ). x ∷ bs) hash;
          fits = (
            (and_parts (is_blanks before) (is_directive C rest) h).0,
            record {
              is_token = refl;
              longest = hash_longest bs;
              apart = subst (λ (x : ℕ). is_directive C (x ∷ bs) ≡ true) (sym hash) is;
            },
          );
          length_is = refl;
          kind_is = refl;
          behind_is = refl;
        }

aside_is : (k : Option Kind) (bytes : List ℕ) → IsOfCode k bytes → IsAside (aside_of k) bytes
aside_is None bytes t = nothing_outside t
aside_is (Some (kind.Word word)) bytes t = t.1
aside_is (Some kind.Name) bytes t = t.1
aside_is (Some (kind.Number value)) bytes t = t.1
aside_is (Some (kind.Sign sign)) bytes t = t.1
aside_is (Some (kind.Foreign sort)) bytes t = foreign_outside sort t.1
aside_is (Some (kind.Aside sort)) bytes t = let none : false ≡ true = t.0 in cc
aside_is (Some kind.End) bytes t = absurd t.1

aside_apart : (k : Option Kind) (bytes after : List ℕ) → IsOfCode k bytes → starts_comment (bytes ++ after) ≡ false
    → is_joint (bytes ++ after) ≡ false → IsApart (kind.Aside (aside_of k)) bytes after
aside_apart None bytes after t no_comment no_joint = no_joint
aside_apart (Some (kind.Word word)) bytes after t no_comment no_joint = tt
aside_apart (Some kind.Name) bytes after t no_comment no_joint = tt
aside_apart (Some (kind.Number value)) bytes after t no_comment no_joint = tt
aside_apart (Some (kind.Sign sign)) bytes after t no_comment no_joint = sign_apart sign after (rw t.1 no_comment)
aside_apart (Some (kind.Foreign sort)) bytes after t no_comment no_joint = no_joint
aside_apart (Some (kind.Aside sort)) bytes after t no_comment no_joint = let none : false ≡ true = t.0 in cc
aside_apart (Some kind.End) bytes after t no_comment no_joint = absurd t.1

aside_stays : (k : Option Kind) → may_stand C Directive (kind.Aside (aside_of k)) ≡ true
aside_stays None = refl
aside_stays (Some kind.Name) = refl
aside_stays (Some k) = refl

-- in a directive a lexeme stands first as a token of it
pub aside_stands : (rest : List ℕ) (lexeme : Lexeme) → LexemeFirst rest lexeme → starts_comment rest ≡ false → is_joint rest ≡ false
    → StandsFirst C Directive rest (record { kind = Some (kind.Aside (aside_of lexeme.kind)); len = lexeme.len; behind = Directive })
aside_stands rest lexeme first no_comment no_joint = record {
  piece = token (kind.Aside (aside_of lexeme.kind)) first.bytes;
  after = first.after;
  split = first.split;
  fits = (
    aside_stays lexeme.kind,
    record {
      is_token = aside_is lexeme.kind first.bytes first.of_code;
      longest = first.longest;
      apart = aside_apart lexeme.kind first.bytes first.after first.of_code (rw first.split no_comment) (rw first.split no_joint);
    },
  );
  length_is = first.length_is;
  kind_is = refl;
  behind_is = refl;
}

-- a lexeme of this kind
pub first_of_kind : (rest : List ℕ) (lexeme : Lexeme) (k : Option Kind) → lexeme.kind ≡ k → LexemeFirst rest lexeme
    → LexemeFirst rest (record { kind = k; len = lexeme.len })
first_of_kind rest lexeme k e first =
    subst (λ (x : Option Kind). LexemeFirst rest (record { kind = x; len = lexeme.len })) e first

code_stays : (before : Before) (k : Kind) → is_of_code k ≡ true → is_outside before ≡ true → may_stand C before k ≡ true
code_stays before (kind.Aside sort) code out = cc
code_stays before k code out = out

code_behind : (k : Kind) → is_of_code k ≡ true → behind_token k ≡ Others
code_behind (kind.Aside sort) code = cc
code_behind k code = refl

code_apart : (k : Kind) (bytes after : List ℕ) → IsOfCode (Some k) bytes → IsLongest C bytes after → starts_comment (bytes ++ after) ≡ false
    → IsApart k bytes after
code_apart (kind.Number value) bytes after t longest no_comment = numeral_apart bytes after longest t.1.digits
code_apart (kind.Sign sign) bytes after t longest no_comment = sign_apart sign after (rw t.1 no_comment)
code_apart (kind.Aside sort) bytes after t longest no_comment = let none : false ≡ true = t.0 in absurd (cc)
code_apart k bytes after t longest no_comment = tt

-- outside of directives a lexeme stands first as the token that it is there
pub code_stands : (before : Before) (rest : List ℕ) (k : Kind) (len : ℕ) → is_outside before ≡ true
    → LexemeFirst rest (record { kind = Some k; len = len }) → starts_comment rest ≡ false
    → StandsFirst C before rest (record { kind = Some k; len = len; behind = Others })
code_stands before rest k len out first no_comment = record {
  piece = token k first.bytes;
  after = first.after;
  split = first.split;
  fits = (
    code_stays before k first.of_code.0 out,
    record {
      is_token = first.of_code.1;
      longest = first.longest;
      apart = code_apart k first.bytes first.after first.of_code first.longest (rw first.split no_comment);
    },
  );
  length_is = first.length_is;
  kind_is = refl;
  behind_is = code_behind k first.of_code.0;
}

no_token_starts : (before : Before) (rest : List ℕ) → IsBare before rest
    → ((k : Kind) (bytes after : List ℕ) → bytes ++ after ≡ rest → may_stand C before k ≡ true → IsWholeToken C k bytes after → ⊥)
    → NothingStarts C before rest
no_token_starts before [] bare none = let some : 1 ≤ 0 = bare.some in absurd (omega arith)
no_token_starts before (b ∷ bs) bare none = record {
  first = b;
  more = bs;
  split = refl;
  no_blank = bare.no_blank;
  no_comment = bare.no_comment;
  no_token = none;
}

-- where there is no lexeme, nothing starts
pub no_lexeme_starts : (before : Before) (rest : List ℕ) → IsBare before rest → NoLexemeFirst rest → NothingStarts C before rest
no_lexeme_starts before rest bare none =
    no_token_starts before rest bare (λ k bytes after e may t. none bytes after e t.longest.lexeme)

joint_bytes : (rest bytes after : List ℕ) → is_joint rest ≡ true → bytes ++ after ≡ rest → IsLexeme C bytes → 92 ∷ [] ≡ bytes
joint_bytes [] bytes after joint e lexeme = cc
joint_bytes (b ∷ bs) bytes after joint e lexeme =
    let is : b ≡ 92 = eqb-true b 92 (and_parts (eqb b 92) (is_blank_to_feed bs) joint).0 in
    let one = c_stray_starts bytes after bs b e lexeme (rw is refl) in
    let whole : one.0 ∷ after ≡ b ∷ bs = rw (← one.1) at e in
    let same : 92 ≡ one.0 = cc in
    ap (λ (x : ℕ). x ∷ []) same ∙ one.1

aside_no_joint : (a : Aside) (bytes after : List ℕ) → may_stand C Directive (kind.Aside a) ≡ true → 92 ∷ [] ≡ bytes
    → is_joint (bytes ++ after) ≡ true → IsAside a bytes → IsApart (kind.Aside a) bytes after → ⊥
aside_no_joint aside.Hash bytes after may e joint t apart = cc
aside_no_joint (aside.Word word) bytes after may e joint t apart = no_kind (kind.Word word) bytes (refl, t) (stray 92 refl e)
aside_no_joint aside.Name bytes after may e joint t apart = no_kind kind.Name bytes (refl, t) (stray 92 refl e)
aside_no_joint (aside.Number value) bytes after may e joint t apart = no_kind (kind.Number value) bytes (refl, t) (stray 92 refl e)
aside_no_joint (aside.Sign sign) bytes after may e joint t apart = no_kind (kind.Sign sign) bytes (refl, t) (stray 92 refl e)
aside_no_joint aside.Foreign bytes after may e joint t apart = let none : true ≡ false = sym joint ∙ apart in absurd (cc)

-- in a directive nothing starts where C joins lines
pub joint_starts_nothing : (rest : List ℕ) → IsBare Directive rest → is_joint rest ≡ true → NothingStarts C Directive rest
joint_starts_nothing rest bare joint = no_token_starts Directive rest bare unmet
  where
    unmet : (k : Kind) (bytes after : List ℕ) → bytes ++ after ≡ rest → may_stand C Directive k ≡ true → IsWholeToken C k bytes after → ⊥
    unmet (kind.Aside a) bytes after e may t =
        aside_no_joint a bytes after may (joint_bytes rest bytes after joint e t.longest.lexeme) (rw e joint) t.is_token t.apart
    unmet k bytes after e may t = cc

outside_no_aside : (before : Before) → is_outside before ≡ true → not (is_outside before) ≡ true → ⊥
outside_no_aside Blanks out h = cc
outside_no_aside Others out h = cc
outside_no_aside Directive out h = cc

-- outside of directives nothing starts where the lexeme is no token
pub no_code_starts : (before : Before) (rest : List ℕ) (len : ℕ) → is_outside before ≡ true → IsBare before rest
    → (is_blanks before && is_directive C rest) ≡ false → LexemeFirst rest (record { kind = None; len = len }) → NothingStarts C before rest
no_code_starts before rest len out bare no_directive first = no_token_starts before rest bare unmet
  where
    same : (k : Kind) (bytes after : List ℕ) → bytes ++ after ≡ rest → IsWholeToken C k bytes after → IsNoToken bytes
    same k bytes after e t = subst IsNoToken
        (one_longest C first.bytes first.after bytes after first.longest t.longest (first.split ∙ sym e)) first.of_code

    unmet : (k : Kind) (bytes after : List ℕ) → bytes ++ after ≡ rest → may_stand C before k ≡ true → IsWholeToken C k bytes after → ⊥
    unmet (kind.Aside aside.Hash) bytes after e may t =
        let is : is_directive C rest ≡ true = rw e at t.apart in
        let none : false ≡ true = sym no_directive ∙ and_from (is_blanks before) (is_directive C rest) may is in
        absurd (cc)
    unmet (kind.Aside a) bytes after e may t = outside_no_aside before out may
    unmet k bytes after e may t = no_kind k bytes (refl, t.is_token) (same k bytes after e t)
