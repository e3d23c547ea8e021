-- A text is one thing at most.
use Rattle.std.proofs.Common.{◌≡◌, ◌∙◌, ◌⊎◌, inl, inr, ⊎_elim, ℕ, ◌+◌, List, Result, Ok, Err, refl, sym, ap, subst, subst₂}
use Rattle.std.specs.Prelude.{◌≢◌, IfOk, IfErr}
use Rattle.lang_tokens.specs.declared.lexicon.Lexicon.TheVariants.{Own}
use Rattle.lang_tokens.specs.declared.token.Token.{Token}
use Rattle.lang_tokens.specs.Reading.{Reads}
use Rattle.lang_tokens.proofs.reading.Once.{one_token_list, one_text_fault, no_fault}
use Rattle.lang_grammar.specs.View.{tokens_of}
use Rattle.lang_meaning.specs.ExpressionAnswers.{ExpressionAnswer, ExpressionMeans}
use Rattle.lang_meaning.proofs.meaning.OneExpression.{expression_once}
use Rattle.flow_transitions.specs.declared.auto.Auto.{Auto}
use Rattle.flow_transitions.specs.declared.fault.AutoFault.{AutoFault}
use Rattle.flow_transitions.specs.declared.fault.AutoFault.TheVariants as fault
use Rattle.flow_transitions.specs.AutoSymbols.{seen_at}
use Rattle.flow_transitions.specs.AutoReading.{Progress, Stepped, Wanted, a_token, an_expression, nothing, wanted_at, token_at}
use Rattle.flow_transitions.specs.AutoReading.{expression_at, content_of, AutoAnswer}
use Rattle.flow_transitions.specs.AutoReading.{ReadsTo, failed, ended, by_token, by_expression, no_expression, start}
use Rattle.flow_transitions.proofs.progress.Expressions.{meaning_in, next_in}
use Rattle.flow_transitions.specs.AutoReading.{IsRead, no_tokens, some_tokens}
use Rattle.flow_transitions.specs.AutoTexts.{content, IsAuto, GivesAuto}
use Rattle.flow_transitions.proofs.trees.Means.{read_is}
use Rattle.flow_transitions.proofs.trees.Back.{is_read}

-- the same progress wants one thing
other_want : (r s : Progress) (v w : Wanted) → r ≡ s → wanted_at r.stand ≡ v → wanted_at s.stand ≡ w → v ≡ w
other_want r s v w e h k = sym h ∙ ap (λ (z : Progress). wanted_at z.stand) e ∙ k

module _ (text : List ℕ) (tokens : List Token) where
  -- expressions that stand there over the variables of the same progress
  same_expression : (i : ℕ) (r s : Progress) (a b : ExpressionAnswer) → r ≡ s → ExpressionMeans text (tokens_of text tokens) i r.variables a
      →
      ExpressionMeans text (tokens_of text tokens) i s.variables b → a ≡ b
  same_expression i r s a b e h k =
      expression_once text (tokens_of text tokens) i s.variables a b (subst
      (λ (z : Progress). ExpressionMeans text (tokens_of text tokens) i z.variables a) e h) k

  once : (x : Stepped) (i : ℕ) (a b : AutoAnswer) → ReadsTo text tokens x i a → ReadsTo text tokens x i b → a ≡ b
  once x i a b (failed _ _ _ f e q) (failed _ _ _ g d p) = cc
  once x i a b (failed _ _ _ f e q) (ended _ _ _ r d w p) = absurd cc
  once x i a b (failed _ _ _ f e q) (by_token _ _ _ r d w h) = absurd cc
  once x i a b (failed _ _ _ f e q) (by_expression _ _ _ r m n d w g h) = absurd cc
  once x i a b (failed _ _ _ f e q) (no_expression _ _ _ r p d w g h) = absurd cc
  once x i a b (ended _ _ _ r d w p) (failed _ _ _ f e q) = absurd cc
  once x i a b (ended _ _ _ r d w p) (ended _ _ _ s e v q) =
      let same : r ≡ s = cc in p ∙ ap (λ (z : Progress). let answer : AutoAnswer = Ok (content_of z) in answer) same ∙ sym q
  once x i a b (ended _ _ _ r d w p) (by_token _ _ _ s e v h) =
      let same : r ≡ s = cc in let no = other_want r s nothing a_token same w v in absurd cc
  once x i a b (ended _ _ _ r d w p) (by_expression _ _ _ s m n e v g h) =
      let same : r ≡ s = cc in let no = other_want r s nothing an_expression same w v in absurd cc
  once x i a b (ended _ _ _ r d w p) (no_expression _ _ _ s f e v g h) =
      let same : r ≡ s = cc in let no = other_want r s nothing an_expression same w v in absurd cc
  once x i a b (by_token _ _ _ r d w h) (failed _ _ _ f e q) = absurd cc
  once x i a b (by_token _ _ _ r d w h) (ended _ _ _ s e v q) =
      let same : r ≡ s = cc in let no = other_want r s a_token nothing same w v in absurd cc
  once x i a b (by_token _ _ _ r d w h) (by_token _ _ _ s e v k) =
      let same : s ≡ r = cc in
      once (token_at r.stand r (seen_at text tokens i)) (i + 1) a b h
      (subst (λ (z : Progress). ReadsTo text tokens (token_at z.stand z (seen_at text tokens i)) (i + 1) b) same k)
  once x i a b (by_token _ _ _ r d w h) (by_expression _ _ _ s m n e v g k) =
      let same : r ≡ s = cc in let no = other_want r s a_token an_expression same w v in absurd cc
  once x i a b (by_token _ _ _ r d w h) (no_expression _ _ _ s f e v g k) =
      let same : r ≡ s = cc in let no = other_want r s a_token an_expression same w v in absurd cc
  once x i a b (by_expression _ _ _ r m n d w g h) (failed _ _ _ f e q) = absurd cc
  once x i a b (by_expression _ _ _ r m n d w g h) (ended _ _ _ s e v q) =
      let same : r ≡ s = cc in let no = other_want r s an_expression nothing same w v in absurd cc
  once x i a b (by_expression _ _ _ r m n d w g h) (by_token _ _ _ s e v k) =
      let same : r ≡ s = cc in let no = other_want r s an_expression a_token same w v in absurd cc
  once x i a b (by_expression _ _ _ r m n d w g h) (by_expression _ _ _ s l j e v f k) =
      let same : s ≡ r = cc in
      let found : ExpressionAnswer = Ok (l, j) in
      let wanted : ExpressionAnswer = Ok (m, n) in
      let one : found ≡ wanted = same_expression i s r found wanted same f g in
      let what : l ≡ m = ap (meaning_in m) one in
      let where_to : j ≡ n = ap (next_in n) one in
      once (expression_at r.stand (seen_at text tokens i).at m r) n a b h
      (subst (λ (z : Progress). ReadsTo text tokens (expression_at z.stand (seen_at text tokens i).at m z) n b) same
      (subst₂ (λ y o. ReadsTo text tokens (expression_at s.stand (seen_at text tokens i).at y s) o b) what where_to k))
  once x i a b (by_expression _ _ _ r m n d w g h) (no_expression _ _ _ s f e v k q) =
      let same : r ≡ s = cc in
      let found : ExpressionAnswer = Ok (m, n) in
      let refused : ExpressionAnswer = Err f in
      let one : found ≡ refused = same_expression i r s found refused same g k in
      absurd cc
  once x i a b (no_expression _ _ _ r p d w g h) (failed _ _ _ f e q) = absurd cc
  once x i a b (no_expression _ _ _ r p d w g h) (ended _ _ _ s e v q) =
      let same : r ≡ s = cc in let no = other_want r s an_expression nothing same w v in absurd cc
  once x i a b (no_expression _ _ _ r p d w g h) (by_token _ _ _ s e v k) =
      let same : r ≡ s = cc in let no = other_want r s an_expression a_token same w v in absurd cc
  once x i a b (no_expression _ _ _ r p d w g h) (by_expression _ _ _ s m n e v f k) =
      let same : r ≡ s = cc in
      let found : ExpressionAnswer = Ok (m, n) in
      let refused : ExpressionAnswer = Err p in
      let one : refused ≡ found = same_expression i r s refused found same g f in
      absurd cc
  once x i a b (no_expression _ _ _ r p d w g h) (no_expression _ _ _ s q e v f k) =
      let same : r ≡ s = cc in
      let this : ExpressionAnswer = Err p in
      let that : ExpressionAnswer = Err q in
      let one : this ≡ that = same_expression i r s this that same g f in
      let faults : p ≡ q = cc in
      h ∙ ap (λ z. let answer : AutoAnswer = Err (fault.Parse z) in answer) faults ∙ sym k

-- a text is read as one answer alone
read_once : (text : List ℕ) (a b : AutoAnswer) → IsRead text a → IsRead text b → a ≡ b
read_once text a b (no_tokens f h e) (no_tokens g k d) =
    e ∙ ap (λ z. let answer : AutoAnswer = Err (fault.Lex z) in answer) (one_text_fault Own text f g h k) ∙ sym d
read_once text a b (no_tokens f h e) (some_tokens tokens k r) = absurd (no_fault Own text tokens f k h)
read_once text a b (some_tokens tokens h r) (no_tokens f k d) = absurd (no_fault Own text tokens f h k)
read_once text a b (some_tokens tokens h r) (some_tokens others k s) =
    once text tokens (Ok start) 0 a b r (subst (λ ts. ReadsTo text ts (Ok start) 0 b) (one_token_list Own text others tokens k h) s)

-- a text has one answer alone
pub one_answer : (text : List ℕ) (a b : AutoAnswer) → IsAuto text a → IsAuto text b → a ≡ b
one_answer text a b h k = read_once text a b (is_read text a h) (is_read text b k)

-- memory is wanted, or not
memory_or : (f : AutoFault) → (f ≡ fault.NoMemory) ⊎ (f ≢ fault.NoMemory)
memory_or fault.NoMemory = inl refl
memory_or f = inr (λ e. cc)

-- a transition system that is read is what the text is
pub system_is : (text : List ℕ) (result : Result Auto AutoFault) → IfOk result (λ a. IsRead text (Ok (content a)))
    → IfOk result (λ a. IsAuto text (Ok (content a)))
system_is text (Ok a) h = read_is text (Ok (content a)) h
system_is text (Err f) h = tt

-- a fault that is read is what the text is
pub fault_is : (text : List ℕ) (result : Result Auto AutoFault) → IfErr result (λ f. f ≢ fault.NoMemory → IsRead text (Err f))
    → IfErr result (λ f. f ≢ fault.NoMemory → IsAuto text (Err f))
fault_is text (Ok a) h = tt
fault_is text (Err f) h = λ n. read_is text (Err f) (h n)

-- where the result is what is read of the text, or memory was wanted, it is every answer that the text is
pub gives : (text : List ℕ) (result : Result Auto AutoFault) → IfOk result (λ a. IsRead text (Ok (content a)))
    → IfErr result (λ f. f ≢ fault.NoMemory → IsRead text (Err f)) →
    (answer : AutoAnswer) → IsAuto text answer → GivesAuto result answer
gives text (Ok a) h k answer is = read_once text answer (Ok (content a)) (is_read text answer is) h
gives text (Err f) h k answer is =
    ⊎_elim (λ e. inl e) (λ n. inr (read_once text answer (Err f) (is_read text answer is) (k n))) (memory_or f)

-- what tokens read as is what the text is read as
pub answered : (text : List ℕ) (tokens ts : List Token) (result : Result Auto AutoFault) → ts ≡ tokens → Reads Own text tokens →
    IfOk result (λ a. ReadsTo text ts (Ok start) 0 (Ok (content a))) → IfOk result (λ a. IsRead text (Ok (content a)))
answered text tokens ts (Ok a) e r h = some_tokens ts (subst (Reads Own text) (sym e) r) h
answered text tokens ts (Err f) e r h = tt

-- a fault that tokens read as is what the text is read as
pub refused : (text : List ℕ) (tokens ts : List Token) (result : Result Auto AutoFault) → ts ≡ tokens → Reads Own text tokens →
    IfErr result (λ f. f ≢ fault.NoMemory → ReadsTo text ts (Ok start) 0 (Err f))
    → IfErr result (λ f. f ≢ fault.NoMemory → IsRead text (Err f))
refused text tokens ts (Ok a) e r h = tt
refused text tokens ts (Err f) e r h = λ n. some_tokens ts (subst (Reads Own text) (sym e) r) (h n)
