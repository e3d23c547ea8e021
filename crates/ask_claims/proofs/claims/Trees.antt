-- What the code does with one claim is what the grammar says of it.
use Rattle.std.proofs.Common.{◌≡◌, ◌∙◌, ◌+◌, ◌++◌, ◌<◌, inl, inr, ℕ, Bool, true, false, nat_lt, List, [], ◌∷◌, length, drop, Option}
use Rattle.std.proofs.Common.{Some, None, Result, Ok, Err, refl, sym, ap, ap₂, subst, arith}
use Rattle.std.proofs.Math.Seq.{drop-append_seam}
use Rattle.std.proofs.lemmas.Bool.{ltb-true, ltb-false}
use Rattle.std.proofs.lemmas.List.{drop-drop}
use Rattle.std.specs.Prelude.{if◌then◌else◌, slice_range}
use Rattle.lang_grammar.specs.Expressions.{IsLongest, FineExpr, BeginsExpr}
use Rattle.lang_grammar.specs.Grammar.{Kind, a_name, colon, Token, token, Expr, spell_expr}
use Rattle.lang_grammar.specs.View.{kind_of, token_of, tokens_of}
use Rattle.flow_edges.specs.declared.point.Point.{Point}
use Rattle.lang_tokens.specs.TokenLists.{AreTokensOf}
use Rattle.lang_tokens.specs.declared.token.Kind as lex_kind
use Rattle.lang_tokens.specs.declared.token.Token as lex_token
use Rattle.lang_meaning.specs.declared.fault.ParseFault.{ParseFault}
use Rattle.lang_meaning.specs.declared.fault.ParseFault.TheVariants as parse
use Rattle.lang_meaning.specs.Expressions.{Meaning, as_truth, first_place, meant}
use Rattle.lang_meaning.specs.ExpressionAnswers.{ExpressionAnswer, ExpressionMeans}
use Rattle.lang_meaning.specs.Results as results
use Rattle.lang_feed.proofs.texts.Expressions.{longest_within}
use Rattle.lang_tree.specs.Cases.{cases_of}
use Rattle.lang_tree.specs.Tree.{Condition}
use Rattle.ask_claims.specs.Truth.{is_decided}
use Rattle.ask_claims.specs.declared.fault.ClaimFault.{ClaimFault}
use Rattle.ask_claims.specs.declared.fault.ClaimFault.TheVariants as fault
use Rattle.ask_claims.specs.Grammar.{Written, claim_then, AllGroup}
use Rattle.ask_claims.specs.Claims.{Stated, ◌>>=◌, parsed, point_of, choice_at, decided, truth_of, IsHead, FirstFault}
use Rattle.ask_claims.specs.Claims.{at_start, behind_name, within_condition, behind_condition, unknown_label, too_deep, no_condition}
use Rattle.ask_claims.specs.Claims.{many_cases, unexpected}
use Rattle.ask_claims.specs.Steps.{is_end, is_colon, is_semicolon, token_at, bytes_of, expected, known, labelled, few_cases}
use Rattle.ask_claims.specs.Steps.{finished, BeginsClaim}
use Rattle.ask_claims.proofs.claims.Ends.{ended, goes_on, colon_goes_on}
use Rattle.ask_claims.proofs.claims.Kinds.{word_other, sign_other, colon_same, semicolon_same, colon_is, semicolon_is, choice_same}
use Rattle.ask_claims.proofs.claims.Kinds.{drop_token, spelled}
use Rattle.ask_claims.proofs.claims.Parsed.{GoesOn, ClaimMeans}
use Rattle.ask_claims.proofs.claims.Turns.{first_same}
use Rattle.ask_claims.proofs.grammar.Unexpected.{names_claim, ends_text, unexpected_start, unexpected_colon, unexpected_within}
use Rattle.ask_claims.proofs.grammar.Unexpected.{unexpected_semicolon}

-- the tests behind an expression come after what it says
abbrev chosen : Bool → ℕ → Result (Unit {0}) ClaimFault
chosen b a = if b then Ok tt else Err (fault.Parse (parse.NondetHere a))

chosen_first : {B : Type 0} (b : Bool) (a : ℕ) (c : Condition) (after : Condition → Result B ClaimFault)
    → chosen b a >>= (λ _. after c) ≡ (chosen b a >>= λ _. Ok c) >>= after
chosen_first true a c after = refl
chosen_first false a c after = refl

truth_first : {B : Type 0} (t : Result Condition ParseFault) (a : ℕ) (after : Condition → Result B ClaimFault)
    → parsed t >>= (λ c. decided a c >>= λ _. after c) ≡ (parsed t >>= λ c. decided a c >>= λ _. Ok c) >>= after
truth_first (Err f) a after = refl
truth_first (Ok c) a after = chosen_first (is_decided c) a c after

module _ (text : List ℕ) (names : List (List ℕ)) (points : List Point) (tokens : List lex_token.Token) (are : AreTokensOf text tokens)
    (i : ℕ) (within : i < length tokens) where
  abbrev rest_at : ℕ → List Token
  rest_at j = drop j (tokens_of text tokens)

  abbrev Tree : Result (Stated × ℕ) ClaimFault → Type 0
  Tree r = BeginsClaim text names points tokens i r

  refused_by : (r : Result (Stated × ℕ) ClaimFault) (f : ClaimFault) → r ≡ Err f
      → ((cs : List Written) → AllGroup cs → length cs < 64 → FirstFault text names points cs (rest_at i) f) → Tree r
  refused_by r f e h = subst Tree (sym e) h

  -- behind a label and a colon
  module _ (x : List ℕ) (a b p : ℕ) (labels : point_of x points ≡ Some p) (place : (token_at tokens i).at ≡ a)
      (starts : rest_at i ≡ token (a_name x) a ∷ token colon b ∷ rest_at (i + 2)) (more : i + 2 < length tokens) where
    head : (cs : List Written) → length cs < 64 → IsHead points cs x
    head cs few = record { within = few; point = p; labels = labels }

    -- what comes after the expression
    abbrev rest_of : ℕ → Condition → Result (Stated × ℕ) ClaimFault
    rest_of j c =
        expected (is_semicolon (token_at tokens j).kind) (token_at tokens j).at >>= λ _. few_cases (token_at tokens i).at c
        >>= λ _. Ok (record { point = p; label = x; cond = c }, j + 1)

    module _ (e : Expr) (n : ℕ) (l : IsLongest (rest_at (i + 2)) n e) where
      inside : i + 2 + n < length tokens
      inside = longest_within text tokens (i + 2) n more (e, l)

      whole : rest_at (i + 2) ≡ spell_expr e ++ l.next ∷ l.rest
      whole = l.split ∙ ap (λ y. y ++ l.next ∷ l.rest) (sym l.reads.spelled)

      size : length (spell_expr e) ≡ n
      size = ap length l.reads.spelled ∙ l.size

      -- the token behind the expression, and what follows it
      next_is : l.next ∷ l.rest ≡ token_of text (token_at tokens (i + 2 + n)) ∷ rest_at (i + 2 + n + 1)
      next_is =
          sym (ap₂ drop (sym size) whole ∙ drop-append_seam (spell_expr e) (l.next ∷ l.rest)) ∙ drop-drop n (i + 2) (tokens_of text tokens)
          ∙ drop_token text tokens (i + 2 + n) inside

      abbrev kind_there : Kind
      kind_there = kind_of (bytes_of text (token_at tokens (i + 2 + n))) (token_at tokens (i + 2 + n)).kind

      all : rest_at i ≡ token (a_name x) a ∷ token colon b ∷ (spell_expr e ++ token_of text (token_at tokens (i + 2 + n))
          ∷ rest_at (i + 2 + n + 1))
      all = starts ∙ ap (λ y. token (a_name x) a ∷ token colon b ∷ y) (whole ∙ ap (λ y. spell_expr e ++ y) next_is)

      first : (token_at tokens (i + 2)).at ≡ first_place (spell_expr e)
      first = sym (ap first_place (drop_token text tokens (i + 2) more)) ∙ ap first_place whole ∙ first_same e (l.next ∷ l.rest)

      fine : FineExpr (spell_expr e)
      fine = subst FineExpr (sym l.reads.spelled) l.fine

      shut : BeginsExpr (spell_expr e ++ token_of text (token_at tokens (i + 2 + n)) ∷ []) → ⊥
      shut h =
          let same : l.next ≡ token_of text (token_at tokens (i + 2 + n)) = (let k = next_is in cc) in
          l.ends (subst BeginsExpr (ap₂ (λ y t. y ++ t ∷ []) l.reads.spelled (sym same)) h)

      -- the expression says this condition
      module _ (c : Condition) (says : truth_of text names e ≡ Ok c) (r : Result (Stated × ℕ) ClaimFault)
          (is : r ≡ rest_of (i + 2 + n) c) where
        abbrev written : Written
        written = record { name = x; name_at = a; colon_at = b; expr = e; semicolon_at = (token_at tokens (i + 2 + n)).at }

        no_semicolon : is_semicolon (token_at tokens (i + 2 + n)).kind ≡ false → Tree r
        no_semicolon k =
            refused_by r (fault.Parse (parse.Unexpected (token_at tokens (i + 2 + n)).at))
            (is ∙ ap (λ s. expected s (token_at tokens (i + 2 + n)).at >>= λ _. few_cases (token_at tokens i).at c
            >>= λ _. Ok (record { point = p; label = x; cond = c }, i + 2 + n + 1)) k)
            (λ cs g few. unexpected (token (a_name x) a ∷ token colon b ∷ spell_expr e) kind_there (token_at tokens (i + 2 + n)).at
            (rest_at (i + 2 + n + 1)) all
            (unexpected_semicolon cs g x a b e kind_there (token_at tokens (i + 2 + n)).at l.reads.good
            (semicolon_same _ (token_at tokens (i + 2 + n)).kind ∙ k) shut)
            (behind_condition x a b e c refl (head cs few) l.reads.good fine says) refl)

        module _ (k : is_semicolon (token_at tokens (i + 2 + n)).kind ≡ true) where
          claim_is : rest_at i ≡ claim_then written (rest_at (i + 2 + n + 1))
          claim_is = all ∙ ap (λ z. token (a_name x) a ∷ token colon b
              ∷ (spell_expr e ++ token z (token_at tokens (i + 2 + n)).at ∷ rest_at (i + 2 + n + 1)))
              (semicolon_is _ (token_at tokens (i + 2 + n)).kind k)

          shorter : r ≡ few_cases (token_at tokens i).at c >>= λ _. Ok (record { point = p; label = x; cond = c }, i + 2 + n + 1)
          shorter = is ∙ ap (λ s. expected s (token_at tokens (i + 2 + n)).at >>= λ _. few_cases (token_at tokens i).at c
              >>= λ _. Ok (record { point = p; label = x; cond = c }, i + 2 + n + 1)) k

          by_cases : (m : Bool) → nat_lt 64 (length (cases_of false c)) ≡ m → Tree r
          by_cases true m =
              refused_by r (fault.Cases a)
              (shorter ∙ ap (λ s. (if s then Err (fault.Cases (token_at tokens i).at) else Ok tt)
              >>= λ _. Ok (record { point = p; label = x; cond = c }, i + 2 + n + 1)) m
              ∙ ap (λ z. Err (fault.Cases z)) place)
              (λ cs g few. many_cases written (rest_at (i + 2 + n + 1)) c claim_is (head cs few) l.reads.good fine says
              (ltb-true 64 (length (cases_of false c)) m) refl)
          by_cases false m =
              subst Tree (sym (shorter ∙ ap (λ s. (if s then Err (fault.Cases (token_at tokens i).at) else Ok tt)
              >>= λ _. Ok (record { point = p; label = x; cond = c }, i + 2 + n + 1)) m)) (
                written,
                claim_is,
                record {
                  good = l.reads.good;
                  shallow = fine;
                  label = refl;
                  point = labels;
                  condition = says;
                  few = (let h = ltb-false 64 (length (cases_of false c)) m in omega arith);
                },
              )

        by_semicolon : (k : Bool) → is_semicolon (token_at tokens (i + 2 + n)).kind ≡ k → Tree r
        by_semicolon true k = by_cases k (nat_lt 64 (length (cases_of false c))) refl
        by_semicolon false k = no_semicolon k

      by_truth : (t : Result Condition ClaimFault) → truth_of text names e ≡ t → (r : Result (Stated × ℕ) ClaimFault)
          → r ≡ t >>= rest_of (i + 2 + n) → Tree r
      by_truth (Err f) says r is = refused_by r f is (λ cs g few. no_condition x a b (rest_at (i + 2)) n e starts (head cs few) l says)
      by_truth (Ok c) says r is = by_semicolon c says r is (is_semicolon (token_at tokens (i + 2 + n)).kind) refl

      -- what the code makes of an expression is what it says, and then the tests behind it
      finished_by : (w : Result Meaning ParseFault)
          → finished tokens i (p, x) (results.◌>>=◌ w (λ m. Ok (m, i + 2 + n)))
          ≡ (parsed w >>= λ m. parsed (as_truth (first_place (spell_expr e)) m) >>= λ c. decided (choice_at (spell_expr e)) c >>= λ _. Ok c)
          >>= rest_of (i + 2 + n)
      finished_by (Err f) = refl
      finished_by (Ok m) =
          ap₂ (λ q k. parsed (as_truth q m) >>= λ c. decided k c >>= λ _. rest_of (i + 2 + n) c) first
          (choice_same text (slice_range tokens (i + 2) (i + 2 + n)) ∙ ap choice_at (spelled text tokens (i + 2) n e l))
          ∙ truth_first (as_truth (first_place (spell_expr e)) m) (choice_at (spell_expr e)) (rest_of (i + 2 + n))

      read_there : (w : ExpressionAnswer) → w ≡ results.◌>>=◌ (meant text names (first_place (rest_at (i + 2))) e) (λ m. Ok (m, i + 2 + n))
          → (r : Result (Stated × ℕ) ClaimFault) → r ≡ finished tokens i (p, x) w → Tree r
      read_there w same r is =
          let there : first_place (rest_at (i + 2)) ≡ first_place (spell_expr e) = ap first_place whole ∙ first_same e (l.next ∷ l.rest) in
          by_truth (truth_of text names e) refl r (is ∙ ap (finished tokens i (p, x)) (same
          ∙ ap (λ q. results.◌>>=◌ (meant text names q e) (λ m. Ok (m, i + 2 + n))) there)
          ∙ finished_by (meant text names (first_place (spell_expr e)) e))

    by_expression : (w : ExpressionAnswer) → ExpressionMeans text (tokens_of text tokens) (i + 2) names w
        → (r : Result (Stated × ℕ) ClaimFault)
        → r ≡ finished tokens i (p, x) w → Tree r
    by_expression w (inl (d, (front, k, after, split, fine, unread, stops), e)) r is =
        refused_by r (fault.Parse (parse.Unexpected d)) (is ∙ ap (finished tokens i (p, x)) e)
        (λ cs g few. unexpected (token (a_name x) a ∷ token colon b ∷ front) k d after
        (starts ∙ ap (λ y. token (a_name x) a ∷ token colon b ∷ y) split)
        (unexpected_within cs g x a b front (token k d) fine.0 unread stops) (within_condition x a b front refl (head cs few) fine unread)
        refl)
    by_expression w (inr (inl (d, finds, e))) r is =
        refused_by r (fault.Parse (parse.Limit d Rattle.lang_meaning.specs.declared.fault.Limit.TheVariants.Nesting))
        (is ∙ ap (finished tokens i (p, x)) e)
        (λ cs g few. too_deep x a b (rest_at (i + 2)) d starts (head cs few) finds refl)
    by_expression w (inr (inr (e, n, l, h))) r is = read_there e n l w h r is

  -- ---- the beginning of a claim
  module _ (goes : is_end (token_at tokens i).kind ≡ false) where
    next : i + 1 < length tokens
    next = Rattle.ask_claims.proofs.claims.Ends.goes_on tokens i (ended text tokens are) within goes

    abbrev second : lex_token.Token
    second = token_at tokens (i + 1)

    two : rest_at i ≡ token_of text (token_at tokens i) ∷ token_of text second ∷ rest_at (i + 2)
    two =
        drop_token text tokens i within ∙ ap (λ y. token_of text (token_at tokens i) ∷ y) (drop_token text tokens (i + 1) next
        ∙ ap (λ j. token_of text second ∷ rest_at j) (let s : i + 1 + 1 ≡ i + 2 = omega arith in s))

    abbrev Goes : Result (ℕ × List ℕ) ClaimFault → Result (Stated × ℕ) ClaimFault → Type 0
    Goes h r = GoesOn text names tokens i (h >>= λ q. expected (is_colon second.kind) second.at >>= λ _. Ok q) r

    -- no name stands where one has to
    no_name : (k : lex_kind.Kind) (bytes : List ℕ) (a : ℕ) (r : Result (Stated × ℕ) ClaimFault)
        → (names_claim (kind_of bytes k) ≡ false) × (ends_text (kind_of bytes k) ≡ false)
        → rest_at i ≡ token (kind_of bytes k) a ∷ token_of text second ∷ rest_at (i + 2) → r ≡ Err (fault.Parse (parse.Unexpected a))
        → Tree r
    no_name k bytes a r o starts is =
        refused_by r (fault.Parse (parse.Unexpected a)) is
        (λ cs g few. unexpected [] (kind_of bytes k) a (token_of text second ∷ rest_at (i + 2)) starts
        (unexpected_start cs g (kind_of bytes k) a o.0 o.1) (at_start refl) refl)

    module _ (x : List ℕ) (a : ℕ) (place : (token_at tokens i).at ≡ a)
        (starts : rest_at i ≡ token (a_name x) a ∷ token_of text second ∷ rest_at (i + 2)) where
      by_colon : (p : ℕ) → point_of x points ≡ Some p → (k : Bool) → is_colon second.kind ≡ k → (r : Result (Stated × ℕ) ClaimFault)
          → GoesOn text names tokens i (expected k second.at >>= λ _. Ok (p, x)) r → Tree r
      by_colon p labels false k r is =
          refused_by r (fault.Parse (parse.Unexpected second.at)) is
          (λ cs g few. unexpected (token (a_name x) a ∷ []) (kind_of (bytes_of text second) second.kind) second.at (rest_at (i + 2)) starts
          (unexpected_colon cs g x a (kind_of (bytes_of text second) second.kind) second.at
          (colon_same (bytes_of text second) second.kind ∙ k))
          (behind_name x a refl (record { within = few; point = p; labels = labels })) refl)
      by_colon p labels true k r (w, means, is) =
          let more : i + 1 + 1 < length tokens = Rattle.ask_claims.proofs.claims.Ends.goes_on tokens (i + 1) (ended text tokens are) next
          (colon_goes_on second.kind k) in
          by_expression x a second.at p labels place
          (starts ∙ ap (λ z. token (a_name x) a ∷ token z second.at ∷ rest_at (i + 2)) (colon_is (bytes_of text second) second.kind k))
          (omega (arith, more)) w means r is

      by_point : (o : Option ℕ) → point_of x points ≡ o → (r : Result (Stated × ℕ) ClaimFault) → Goes (known x a o) r → Tree r
      by_point None unknown r is =
          refused_by r (fault.UnknownLabel a) is (λ cs g few. unknown_label x a (token_of text second ∷ rest_at (i + 2)) starts few unknown
          refl)
      by_point (Some p) labels r is = by_colon p labels (is_colon second.kind) refl r is

    by_kind : (k : lex_kind.Kind) (bytes : List ℕ) (a : ℕ) (r : Result (Stated × ℕ) ClaimFault) → is_end k ≡ false
        → (token_at tokens i).at ≡ a
        → rest_at i ≡ token (kind_of bytes k) a ∷ token_of text second ∷ rest_at (i + 2) → Goes (labelled points k bytes a) r → Tree r
    by_kind lex_kind.TheVariants.Name bytes a r o place starts is = by_point bytes a place starts (point_of bytes points) refl r is
    by_kind lex_kind.TheVariants.End bytes a r o place starts is = cc
    by_kind (lex_kind.TheVariants.Word w) bytes a r o place starts is =
        no_name (lex_kind.TheVariants.Word w) bytes a r (word_other w) starts is
    by_kind (lex_kind.TheVariants.Sign s) bytes a r o place starts is =
        no_name (lex_kind.TheVariants.Sign s) bytes a r (sign_other s) starts is
    by_kind (lex_kind.TheVariants.Number n) bytes a r o place starts is =
        no_name (lex_kind.TheVariants.Number n) bytes a r (refl, refl) starts is
    by_kind (lex_kind.TheVariants.Foreign f) bytes a r o place starts is =
        no_name (lex_kind.TheVariants.Foreign f) bytes a r (refl, refl) starts is
    by_kind (lex_kind.TheVariants.Aside s) bytes a r o place starts is =
        no_name (lex_kind.TheVariants.Aside s) bytes a r (refl, refl) starts is

    -- what the code finds at a claim is what the grammar says of it
    pub tree_of : (r : Result (Stated × ℕ) ClaimFault) → ClaimMeans text names points tokens i r → Tree r
    tree_of r is = by_kind (token_at tokens i).kind (bytes_of text (token_at tokens i)) (token_at tokens i).at r goes refl two is
