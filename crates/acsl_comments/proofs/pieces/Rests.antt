-- A piece fits also before a rest that begins alike and then goes on with a blank or a comment.
use Rattle.std.proofs.Common.{◌≡◌, ◌≤◌, ◌<◌, ◌⊎◌, inl, inr, ⊎_elim, ℕ, true, false, List, [], ◌∷◌, ◌++◌, length, refl, ap, ap₂, sym, ◌∙◌}
use Rattle.std.proofs.Common.{subst, arith}
use Rattle.std.proofs.lemmas.Bool.{cases_lt, false_from_ne_true}
use Rattle.std.proofs.lemmas.List.{append_assoc, length-append}
use Rattle.lang_tokens.specs.Bytes.{is_letter}
use Rattle.lang_tokens.specs.declared.lexicon.Lexicon.TheVariants.{C}
use Rattle.lang_tokens.specs.declared.token.Kind.{Kind}
use Rattle.lang_tokens.specs.declared.token.Kind.TheVariants as kind
use Rattle.lang_tokens.specs.Lexemes.{IsLexeme}
use Rattle.lang_tokens.specs.Reading.{IsLongest, IsClosed, IsApart, IsSignApart, IsWholeToken}
use Rattle.lang_tokens.specs.Directives.{goes_on_as_comment, starts_with_letter}
use Rattle.lang_tokens.specs.declared.sign.Sign.{Sign}
use Rattle.lang_tokens.specs.declared.sign.Sign.TheVariants.{LeftParen, Slash}
use Rattle.source_constants.specs.Directives.{is_code}
use Rattle.acsl_comments.proofs.pieces.Plain.{starts_gap, heads, lexeme_some, lexeme_gapless, no_gap_behind, no_feed_in, quoted_within}
use Rattle.acsl_comments.proofs.pieces.Plain.{gap_no_letter}

-- the shorter of two fronts of a list is a front of the other one
shorter_front : (xs ys zs vs : List ℕ) → xs ++ ys ≡ zs ++ vs → length xs ≤ length zs
    → (between : List ℕ) × (xs ++ between ≡ zs) × (between ++ vs ≡ ys)
shorter_front [] ys zs vs e h = (zs, refl, sym e)
shorter_front (x ∷ xs) ys [] vs e h = absurd (omega arith)
shorter_front (x ∷ xs) ys (z ∷ zs) vs e h =
    let one : x ≡ z = cc in
    let more : xs ++ ys ≡ zs ++ vs = cc in
    let found = shorter_front xs ys zs vs more (omega arith) in
    (found.0, ap₂ (λ (b : ℕ) (bs : List ℕ). b ∷ bs) one found.1, found.2)

-- Two rests begin alike, and then go on alike, or the second goes on with what starts a blank or a comment.
pub record Meets (rest now : List ℕ) : Type 0 where
  -- the front that both rests have
  pub front : List ℕ
  -- what follows it in the first rest
  pub before : List ℕ
  -- what follows it in the second rest
  pub after : List ℕ
  -- the first rest is that front and what follows
  pub was : front ++ before ≡ rest
  -- the second rest is that front and what follows
  pub is : front ++ after ≡ now
  -- they go on alike, or the second goes on with what starts a blank or a comment
  pub on : (before ≡ after) ⊎ (heads starts_gap after ≡ true)

module _ (bytes front before after : List ℕ) (longest : IsLongest C bytes (front ++ before)) where
  -- what goes past the fronts that are alike has a byte that no token has but a literal, and a literal would be the longest lexeme
  past : (other more between : List ℕ) → between ++ more ≡ after → (bytes ++ front) ++ between ≡ other → heads starts_gap after ≡ true
      → IsLexeme C other → length (bytes ++ front) < length other → ⊥
  past other more [] e f gap lexeme long = omega (arith, ap length f, length-append (bytes ++ front) [])
  past other more (b ∷ between) e f gap lexeme long =
      let starts : starts_gap b ≡ true = rw (← e) at gap in
      let some : 0 < length (bytes ++ front) = omega (arith, lexeme_some bytes longest.lexeme, length-append bytes front) in
      ⊎_elim
      (λ gapless. no_gap_behind (bytes ++ front) between b some (rw (← f) at gapless) starts)
      (λ quoted. let none = quoted_within bytes (front ++ b ∷ between) other longest.lexeme
      (sym (append_assoc bytes front (b ∷ between)) ∙ f) quoted in
      omega (arith, ap length none, length-append front (b ∷ between)))
      (lexeme_gapless other lexeme)

  -- the longest lexeme stays the longest
  still_longest : (before ≡ after) ⊎ (heads starts_gap after ≡ true) → (other more : List ℕ) → other ++ more ≡ bytes ++ (front ++ after)
      → IsLexeme C other → length other ≤ length bytes
  still_longest (inl same) other more e lexeme = longest.longest other more (rw (← same) at e) lexeme
  still_longest (inr gap) other more e lexeme = ⊎_elim
      (λ (long : length (bytes ++ front) < length other).
      let found = shorter_front (bytes ++ front) after other more (append_assoc bytes front after ∙ sym e) (omega arith) in
      absurd (past other more found.0 found.2 found.1 gap lexeme long))
      (λ (short : length other ≤ length (bytes ++ front)).
      let found = shorter_front other more (bytes ++ front) after (e ∙ sym (append_assoc bytes front after)) short in
      let whole : other ++ (found.0 ++ before) ≡ bytes ++ (front ++ before) =
      sym (append_assoc other found.0 before) ∙ (ap (λ (bs : List ℕ). bs ++ before) found.1 ∙ append_assoc bytes front before) in
      longest.longest other (found.0 ++ before) whole lexeme)
      (cases_lt (length (bytes ++ front)) (length other))

-- no letter follows, if none did
apart_after : (front before after : List ℕ) → (before ≡ after) ⊎ (heads starts_gap after ≡ true)
    → starts_with_letter (front ++ before) ≡ false → starts_with_letter (front ++ after) ≡ false
apart_after (b ∷ front) before after on h = h
apart_after [] before after (inl same) h = rw (← same) h
apart_after [] before [] (inr gap) h = refl
apart_after [] before (b ∷ after) (inr gap) h = false_from_ne_true (is_letter b) (gap_no_letter b gap)

-- a sign stays apart, where nothing that makes it the start of a comment follows a `/`
sign_apart : (sign : Sign) (now : List ℕ) → (sign ≡ Slash → goes_on_as_comment now ≡ false) → IsSignApart sign now
sign_apart LeftParen now h = tt
sign_apart Slash now h = h refl
sign_apart _ now h = tt

-- nothing follows that is not apart, if nothing did
still_apart : (k : Kind) (bytes front before after : List ℕ) → is_code k ≡ true → (before ≡ after) ⊎ (heads starts_gap after ≡ true)
    → (k ≡ kind.Sign Slash → goes_on_as_comment (front ++ after) ≡ false) → IsApart k bytes (front ++ before)
    → IsApart k bytes (front ++ after)
still_apart (kind.Number value) bytes front before after code on slash h = apart_after front before after on h
still_apart (kind.Word word) bytes front before after code on slash h = tt
still_apart kind.Name bytes front before after code on slash h = tt
still_apart (kind.Sign sign) bytes front before after code on slash h = sign_apart sign (front ++ after) (λ e. slash (ap kind.Sign e))
still_apart (kind.Foreign sort) bytes front before after code on slash h = tt
still_apart (kind.Aside sort) bytes front before after code on slash h = let none : false ≡ true = code in cc
still_apart kind.End bytes front before after code on slash h = tt

-- a whole token of no directive stays one
pub still_token : (k : Kind) (bytes rest now : List ℕ) → is_code k ≡ true → Meets rest now
    → (k ≡ kind.Sign Slash → goes_on_as_comment now ≡ false) → IsWholeToken C k bytes rest → IsWholeToken C k bytes now
still_token k bytes rest now code meets slash token =
    let longest : IsLongest C bytes (meets.front ++ meets.before) = rw meets.was token.longest in
    record {
      is_token = token.is_token;
      longest = record {
        lexeme = token.longest.lexeme;
        longest = λ other more e lexeme. still_longest bytes meets.front meets.before meets.after longest meets.on other more
            (rw meets.is e) lexeme;
      };
      apart = subst (IsApart k bytes) meets.is (still_apart k bytes meets.front meets.before meets.after code meets.on
          (subst (λ (bs : List ℕ). k ≡ kind.Sign Slash → goes_on_as_comment bs ≡ false) (sym meets.is) slash) (rw meets.was token.apart));
    }

-- the longest lexeme stays the longest where what follows is the same up to a line feed
pub longest_to_feed : (bytes front before after : List ℕ) → IsLongest C bytes (front ++ 10 ∷ before)
    → IsLongest C bytes (front ++ 10 ∷ after)
longest_to_feed bytes front before after longest = record { lexeme = longest.lexeme; longest = no_longer } where
  within : (other more between : List ℕ) → between ++ more ≡ 10 ∷ after → (bytes ++ front) ++ between ≡ other → IsLexeme C other
      → length (bytes ++ front) < length other → ⊥
  within other more [] e f lexeme long = omega (arith, ap length f, length-append (bytes ++ front) [])
  within other more (b ∷ between) e f lexeme long =
      let feed : b ≡ 10 = cc in
      let P : ℕ → Type 0 = λ n. IsLexeme C ((bytes ++ front) ++ n ∷ between) in
      no_feed_in (bytes ++ front) between (subst P feed (rw f lexeme))

  no_longer : (other more : List ℕ) → other ++ more ≡ bytes ++ (front ++ 10 ∷ after) → IsLexeme C other → length other ≤ length bytes
  no_longer other more e lexeme = ⊎_elim
      (λ (long : length (bytes ++ front) < length other).
      let found = shorter_front (bytes ++ front) (10 ∷ after) other more (append_assoc bytes front (10 ∷ after) ∙ sym e) (omega arith) in
      absurd (within other more found.0 found.2 found.1 lexeme long))
      (λ (short : length other ≤ length (bytes ++ front)).
      let found = shorter_front other more (bytes ++ front) (10 ∷ after) (e ∙ sym (append_assoc bytes front (10 ∷ after))) short in
      let whole : other ++ (found.0 ++ 10 ∷ before) ≡ bytes ++ (front ++ 10 ∷ before) =
      sym (append_assoc other found.0 (10 ∷ before)) ∙ (ap (λ (bs : List ℕ). bs ++ 10 ∷ before) found.1
      ∙ append_assoc bytes front (10 ∷ before)) in
      longest.longest other (found.0 ++ 10 ∷ before) whole lexeme)
      (cases_lt (length (bytes ++ front)) (length other))

-- where a comment is closed doesn't depend on what follows
pub still_closed : (body rest now : List ℕ) → IsClosed body rest → IsClosed body now
still_closed body rest now closed other after e = ⊎_elim
    (λ (short : length other < length body).
    let whole : (other ++ 42 ∷ 47 ∷ []) ++ after ≡ (body ++ 42 ∷ []) ++ 47 ∷ now =
    append_assoc other (42 ∷ 47 ∷ []) after ∙ (e ∙ sym (append_assoc body (42 ∷ []) (47 ∷ now))) in
    let within : length (other ++ 42 ∷ 47 ∷ []) ≤ length (body ++ 42 ∷ []) =
    omega (arith, length-append other (42 ∷ 47 ∷ []), length-append body (42 ∷ [])) in
    let found = shorter_front (other ++ 42 ∷ 47 ∷ []) after (body ++ 42 ∷ []) (47 ∷ now) whole within in
    let same : other ++ 42 ∷ 47 ∷ (found.0 ++ 47 ∷ rest) ≡ body ++ 42 ∷ 47 ∷ rest =
    sym (append_assoc other (42 ∷ 47 ∷ []) (found.0 ++ 47 ∷ rest)) ∙ (sym (append_assoc (other ++ 42 ∷ 47 ∷ []) found.0 (47 ∷ rest))
    ∙ (ap (λ (bs : List ℕ). bs ++ 47 ∷ rest) found.1 ∙ append_assoc body (42 ∷ []) (47 ∷ rest))) in
    closed other (found.0 ++ 47 ∷ rest) same)
    (λ (long : length body ≤ length other). long)
    (cases_lt (length other) (length body))
