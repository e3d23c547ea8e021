-- In C files a piece or a fault stands where neither a comment nor a blank does.
use Rattle.std.proofs.Common.{◌≡◌, ℕ, true, false, ◌&&◌, List, ◌∷◌, refl, arith, Option, Some, None, inl, ⊎_elim}
use Rattle.std.proofs.lemmas.Bool.{cases_Bool}
use Rattle.lang_tokens.specs.declared.lexicon.Lexicon.TheVariants.{C}
use Rattle.lang_tokens.specs.declared.lexeme.Lexeme.{Lexeme}
use Rattle.lang_tokens.specs.declared.before.Before.{Before}
use Rattle.lang_tokens.specs.declared.before.Before.TheVariants.{Blanks, Others, Directive}
use Rattle.lang_tokens.specs.declared.fault.LexFault.TheVariants.{BadByte}
use Rattle.lang_tokens.specs.declared.token.Kind.{Kind}
use Rattle.lang_tokens.specs.Directives.{starts_comment, is_directive, is_joint}
use Rattle.lang_tokens.specs.Reading.{is_blank_at, is_blanks, is_outside}
use Rattle.lang_tokens.specs.Steps.{LexemeFirst, IsBare}
use Rattle.lang_tokens.proofs.lexeme.First.{AtLexeme, a_lexeme, no_lexeme, at_lexeme}
use Rattle.lang_tokens.proofs.piece.CTokens.{hash_stands, aside_stands, first_of_kind, code_stands, no_lexeme_starts, joint_starts_nothing}
use Rattle.lang_tokens.proofs.piece.CTokens.{no_code_starts}
use Rattle.lang_tokens.proofs.reading.AtComments.{AtPlace, a_piece, a_fault}

at_aside : (place : ℕ) (rest : List ℕ) (lexeme : Lexeme) → IsBare Directive rest → LexemeFirst rest lexeme → AtPlace C Directive place rest
at_aside place rest lexeme bare first = ⊎_elim
    (λ (joint : is_joint rest ≡ true). a_fault (BadByte place) (inl (refl, joint_starts_nothing rest bare joint)))
    (λ (no_joint : is_joint rest ≡ false). a_piece _ (aside_stands rest lexeme first bare.no_comment no_joint))
    (cases_Bool (is_joint rest))

at_code : (before : Before) (place : ℕ) (rest : List ℕ) (lexeme : Lexeme) → is_outside before ≡ true → IsBare before rest
    → (is_blanks before && is_directive C rest) ≡ false → LexemeFirst rest lexeme → AtPlace C before place rest
at_code before place rest lexeme out bare no_directive first = from lexeme.kind refl
  where
    from : (k : Option Kind) → lexeme.kind ≡ k → AtPlace C before place rest
    from (Some k) e =
        a_piece _ (code_stands before rest k lexeme.len out (first_of_kind rest lexeme (Some k) e first) bare.no_comment)
    from None e = a_fault (BadByte place)
        (inl (refl, no_code_starts before rest lexeme.len out bare no_directive (first_of_kind rest lexeme None e first)))

by_place : (before : Before) (place : ℕ) (rest : List ℕ) (lexeme : Lexeme) → IsBare before rest
    → (is_blanks before && is_directive C rest) ≡ false → LexemeFirst rest lexeme → AtPlace C before place rest
by_place Blanks place rest lexeme bare no_directive first = at_code Blanks place rest lexeme refl bare no_directive first
by_place Others place rest lexeme bare no_directive first = at_code Others place rest lexeme refl bare no_directive first
by_place Directive place rest lexeme bare no_directive first = at_aside place rest lexeme bare first

by_lexeme : (before : Before) (place : ℕ) (rest : List ℕ) → IsBare before rest → (is_blanks before && is_directive C rest) ≡ false
    → AtLexeme rest → AtPlace C before place rest
by_lexeme before place rest bare no_directive (a_lexeme lexeme first) = by_place before place rest lexeme bare no_directive first
by_lexeme before place rest bare no_directive (no_lexeme none) =
    a_fault (BadByte place) (inl (refl, no_lexeme_starts before rest bare none))

-- where neither a comment nor a blank does, a piece or a fault stands
pub at_c : (before : Before) (place b : ℕ) (bs : List ℕ) → is_blank_at C before (b ∷ bs) ≡ false → starts_comment (b ∷ bs) ≡ false
    → AtPlace C before place (b ∷ bs)
at_c before place b bs no_blank no_comment = ⊎_elim
    (λ (hash : (is_blanks before && is_directive C (b ∷ bs)) ≡ true). a_piece _ (hash_stands before (b ∷ bs) hash))
    (λ (no_directive : (is_blanks before && is_directive C (b ∷ bs)) ≡ false).
    by_lexeme before place (b ∷ bs) (record { some = omega arith; no_blank = no_blank; no_comment = no_comment }) no_directive
    (at_lexeme b bs no_blank))
    (cases_Bool (is_blanks before && is_directive C (b ∷ bs)))
