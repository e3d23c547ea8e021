-- A text is one thing at most.
use Rattle.std.proofs.Common.{◌≡◌, ◌∙◌, ◌++◌, ℕ, List, [], ◌∷◌, slice_get, Some, None, Result, Ok, Err, sym, ap, subst, append_assoc, ◌≢◌}
use Rattle.std.proofs.Common.{◌⊎◌, inl, inr, IfOk, IfErr, refl}
use Rattle.std.proofs.lemmas.List.{map-append, append-nil}
use Rattle.lang_tokens.specs.declared.lexicon.Lexicon.TheVariants.{Own}
use Rattle.lang_tokens.specs.declared.token.Token.{Token}
use Rattle.lang_tokens.specs.declared.fault.LexFault.{LexFault}
use Rattle.lang_tokens.specs.Faults.{HasFault}
use Rattle.lang_tokens.proofs.reading.Once.{one_token_list, one_text_fault, no_fault}
use Rattle.flow_rationals.specs.declared.fault.EquFault.{EquFault}
use Rattle.flow_rationals.specs.declared.fault.EquFault.TheVariants.{Lex, Unexpected, NoMemory}
use Rattle.flow_rationals.specs.declared.equation.Equation.{Equation}
use Rattle.flow_rationals.specs.declared.reading.symbol.Symbol.{Symbol}
use Rattle.flow_rationals.specs.declared.reading.written.Written.{Written}
use Rattle.flow_rationals.specs.Symbols.{symbol_of, symbols_of}
use Rattle.flow_rationals.specs.Grammar.{Spells, Begins}
use Rattle.flow_rationals.specs.EquFaults.{faults_of}
use Rattle.flow_rationals.specs.EquationTexts.{ReadsWritten, HasUnexpected, Answers, a_lexical_fault, an_unexpected, a_fault}
use Rattle.flow_rationals.specs.EquationTexts.{some_equations, equations_of, Gives}

begins_front : (xs ys : List Symbol) → Begins (xs ++ ys) → Begins xs
begins_front xs ys b = (b.0, ys ++ b.1, subst (λ s. Spells s b.0) (append_assoc xs ys b.1) b.2)

-- these tokens begin a text
abbrev Starts : List ℕ → List Token → Type 0
Starts text tokens = Begins (symbols_of text tokens)

starts_front : (text : List ℕ) (a b : List Token) → Starts text (a ++ b) → Starts text a
starts_front text a b h = begins_front (symbols_of text a) (symbols_of text b) (subst Begins (map-append (symbol_of text) a b) h)

-- the first token with which a beginning is none is one
same_token : (B : List Token → Type 0) → ((a b : List Token) → B (a ++ b) → B a) → (f g : List Token) (t u : Token) (r s : List Token)
    → f ++ t ∷ r ≡ g ++ u ∷ s → B f → (B (f ++ t ∷ []) → ⊥) → B g → (B (g ++ u ∷ []) → ⊥) → t ≡ u
same_token B closed [] [] t u r s e bf nf bg ng = cc
same_token B closed [] (y ∷ g) t u r s e bf nf bg ng =
    let x : t ≡ y = cc in
    let P : Token → Type 0 = λ z. B (z ∷ []) in
    absurd (nf (subst P (sym x) (closed (y ∷ []) g bg)))
same_token B closed (y ∷ f) [] t u r s e bf nf bg ng =
    let x : y ≡ u = cc in
    let P : Token → Type 0 = λ z. B (z ∷ []) in
    absurd (ng (subst P x (closed (y ∷ []) f bf)))
same_token B closed (y ∷ f) (z ∷ g) t u r s e bf nf bg ng =
    let x : y ≡ z = cc in
    let tail : f ++ t ∷ r ≡ g ++ u ∷ s = cc in
    let P : Token → Type 0 = λ w. B (w ∷ g) in
    let Q : Token → Type 0 = λ w. B (w ∷ (g ++ u ∷ [])) in
    same_token (λ w. B (y ∷ w)) (λ a b h. closed (y ∷ a) b h) f g t u r s tail bf nf (subst P (sym x) bg) (λ h. ng (subst Q x h))

same_unexpected : (text : List ℕ) (a b : ℕ) → HasUnexpected text a → HasUnexpected text b → a ≡ b
same_unexpected text a b h k =
    let tokens : h.front ++ h.token ∷ h.rest ≡ k.front ++ k.token ∷ k.rest = one_token_list Own text _ _ h.reads k.reads in
    let same : h.token ≡ k.token = same_token (Starts text) (starts_front text) h.front k.front h.token k.token h.rest k.rest tokens
    h.begins h.stops k.begins k.stops in
    sym h.place ∙ (ap (λ t. t.at) same ∙ k.place)

-- where a token is unexpected, the tokens spell no equations
unexpected_none : (text : List ℕ) (at : ℕ) (es : List Written) → HasUnexpected text at → ReadsWritten text es → ⊥
unexpected_none text at es h w =
    let tokens : w.tokens ≡ h.front ++ h.token ∷ h.rest = one_token_list Own text _ _ w.reads h.reads in
    let whole : Starts text w.tokens = (es, [], subst (λ s. Spells s es) (sym (append-nil (symbols_of text w.tokens))) w.spelled) in
    h.stops (starts_front text (h.front ++ h.token ∷ []) h.rest
    (subst (Starts text) (tokens ∙ sym (append_assoc h.front (h.token ∷ []) h.rest)) whole))

-- a text with a lexical fault is nothing else
pub lexical_alone : (text : List ℕ) (fault : LexFault) → HasFault Own text fault → (right : Result (List Equation) EquFault)
    → Answers text right → right ≡ Err (Lex fault)
lexical_alone text fault h right (a_lexical_fault other e k) = e ∙ ap (λ f. Err (Lex f)) (one_text_fault Own text other fault k h)
lexical_alone text fault h right (an_unexpected at e k) = absurd (no_fault Own text _ fault k.reads h)
lexical_alone text fault h right (a_fault other e es w f) = absurd (no_fault Own text _ fault w.reads h)
lexical_alone text fault h right (some_equations es e w f) = absurd (no_fault Own text _ fault w.reads h)

-- nor is one with an unexpected token
pub unexpected_alone : (text : List ℕ) (at : ℕ) → HasUnexpected text at → (right : Result (List Equation) EquFault) → Answers text right
    → right ≡ Err (Unexpected at)
unexpected_alone text at h right (a_lexical_fault other e k) = absurd (no_fault Own text _ other h.reads k)
unexpected_alone text at h right (an_unexpected b e k) = e ∙ ap (λ x. Err (Unexpected x)) (same_unexpected text b at k h)
unexpected_alone text at h right (a_fault other e es w f) = absurd (unexpected_none text at es h w)
unexpected_alone text at h right (some_equations es e w f) = absurd (unexpected_none text at es h w)

-- a text of these equations alone has their first fault, or is these equations
pub fault_alone : (text : List ℕ) (es : List Written) (fault : EquFault) → ReadsWritten text es
    → ((other : List Written) → ReadsWritten text other → es ≡ other) → slice_get (faults_of es) 0 ≡ Some fault
    → (right : Result (List Equation) EquFault) → Answers text right → right ≡ Err fault
fault_alone text es fault w only s right (a_lexical_fault other e k) = absurd (no_fault Own text _ other w.reads k)
fault_alone text es fault w only s right (an_unexpected at e k) = absurd (unexpected_none text at es k w)
fault_alone text es fault w only s right (a_fault other e fs v f) =
    let same : Some other ≡ Some fault = sym f ∙ (ap (λ x. slice_get (faults_of x) 0) (sym (only fs v)) ∙ s) in
    let one : other ≡ fault = cc in
    e ∙ ap Err one
fault_alone text es fault w only s right (some_equations fs e v f) =
    let none : Some fault ≡ None = sym s ∙ (ap (λ x. slice_get (faults_of x) 0) (only fs v) ∙ ap (λ x. slice_get x 0) f) in
    absurd cc

-- a text that spells these equations alone, without a fault, has them as its only answer
pub equations_alone : (text : List ℕ) (es : List Written) → ReadsWritten text es
    → ((other : List Written) → ReadsWritten text other → es ≡ other) → faults_of es ≡ [] → (right : Result (List Equation) EquFault)
    → Answers text right → right ≡ Ok (equations_of es)
equations_alone text es w only s right (a_lexical_fault other e k) = absurd (no_fault Own text _ other w.reads k)
equations_alone text es w only s right (an_unexpected at e k) = absurd (unexpected_none text at es k w)
equations_alone text es w only s right (a_fault other e fs v f) =
    let none : Some other ≡ None = sym f ∙ (ap (λ x. slice_get (faults_of x) 0) (sym (only fs v)) ∙ ap (λ x. slice_get x 0) s) in
    absurd cc
equations_alone text es w only s right (some_equations fs e v f) = e ∙ ap (λ x. Ok (equations_of x)) (sym (only fs v))

-- a fault that isn't want of memory is the only answer
fault_given : (text : List ℕ) (fault : EquFault) → (fault ≢ NoMemory → (right : Result (List Equation) EquFault) → Answers text right
    → right ≡ Err fault) → (right : Result (List Equation) EquFault) → Answers text right → (fault ≡ NoMemory) ⊎ (right ≡ Err fault)
fault_given text NoMemory h right a = inl refl
fault_given text fault h right a = inr (h (λ e. cc) right a)

-- a result that is the only answer, or is want of memory, is given whatever the answer
pub gives_alone : (text : List ℕ) (result : Result (List Equation) EquFault)
    → IfOk result (λ equations. (right : Result (List Equation) EquFault) → Answers text right → right ≡ Ok equations)
    → IfErr result (λ fault. fault ≢ NoMemory → (right : Result (List Equation) EquFault) → Answers text right → right ≡ Err fault)
    → (right : Result (List Equation) EquFault) → Answers text right → Gives result right
gives_alone text (Ok equations) h k right a = h right a
gives_alone text (Err fault) h k right a = fault_given text fault k right a
