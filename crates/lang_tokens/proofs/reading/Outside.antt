-- Where no directive goes on, blank bytes and comments leave it so.
use Rattle.std.proofs.Common.{◌≡◌, ℕ, true, cond, eqb, List, [], ◌∷◌, ◌++◌, refl, arith}
use Rattle.std.proofs.lemmas.Bool.{cond_both, false_from_ne_true, eqb-true, or_left}
use Rattle.lang_tokens.specs.declared.lexicon.Lexicon.{Lexicon}
use Rattle.lang_tokens.specs.declared.lexicon.Lexicon.TheVariants.{Own, C}
use Rattle.lang_tokens.specs.Bytes.{is_blank}
use Rattle.lang_tokens.specs.Directives.{is_directive}
use Rattle.lang_tokens.specs.declared.before.Before.{Before}
use Rattle.lang_tokens.specs.declared.before.Before.TheVariants.{Blanks, Others, Directive}
use Rattle.lang_tokens.specs.Reading.{Piece, is_outside, is_own_blank, is_blank_at, behind_blank, behind_comment, behind, behind_all}

blank_no_hash : (b : ℕ) → is_blank b ≡ true → eqb b 35 ≡ true → ⊥
blank_no_hash b l k = grind (arith, eqb-true)

own_blank : (before : Before) (b : ℕ) (rest : List ℕ) → is_outside before ≡ true → is_blank b ≡ true → is_own_blank before (b ∷ rest) ≡ true
own_blank Blanks b rest out is = or_left (is_blank b) (is_directive Own (b ∷ rest)) is
own_blank Others b rest out is = is
own_blank Directive b rest out is = cc

-- a blank byte is a blank where no directive goes on
pub plain_blank : (lexicon : Lexicon) (before : Before) (b : ℕ) (rest : List ℕ) → is_outside before ≡ true → is_blank b ≡ true
    → is_blank_at lexicon before (b ∷ rest) ≡ true
plain_blank Own before b rest out is = own_blank before b rest out is
plain_blank C before b rest out is = is

-- behind it no directive goes on
pub blank_outside : (before : Before) (b : ℕ) → is_outside before ≡ true → is_blank b ≡ true → is_outside (behind_blank before b) ≡ true
blank_outside before b out is = cond_both (eqb b 10) Blanks (cond (eqb b 35) Directive before) (λ (x : Before). is_outside x ≡ true)
    (λ feed. refl)
    (λ more. rw (false_from_ne_true (eqb b 35) (blank_no_hash b is)) out)

-- nor behind a comment
pub comment_outside : (before : Before) → is_outside before ≡ true → is_outside (behind_comment before) ≡ true
comment_outside Blanks out = refl
comment_outside Others out = refl
comment_outside Directive out = out

-- what stands in its line before what follows pieces behind pieces
pub behind-append : (before : Before) (ps qs : List Piece) → behind_all before (ps ++ qs) ≡ behind_all (behind_all before ps) qs
behind-append before [] qs = refl
behind-append before (p ∷ ps) qs = behind-append (behind before p) ps qs
