-- A text has one answer at most.
use Rattle.std.proofs.Common.{◌≡◌, ◌∙◌, ℕ, List, sym, subst}
use Rattle.std.specs.Prelude.{Result}
use Rattle.lang_tokens.specs.declared.lexicon.Lexicon.TheVariants.{Own}
use Rattle.lang_tokens.specs.declared.token.Token.{Token}
use Rattle.lang_tokens.proofs.reading.Once.{one_token_list}
use Rattle.flow_rationals.specs.declared.fault.EquFault.{EquFault}
use Rattle.flow_rationals.specs.declared.equation.Equation.{Equation}
use Rattle.flow_rationals.specs.declared.reading.written.Written.{Written}
use Rattle.flow_rationals.specs.Symbols.{symbols_of}
use Rattle.flow_rationals.specs.Grammar.{Spells}
use Rattle.flow_rationals.specs.EquationTexts.{ReadsWritten, Answers, a_lexical_fault, an_unexpected, a_fault, some_equations}
use Rattle.flow_rationals.proofs.equation_texts.OneAnswer.{lexical_alone, unexpected_alone, fault_alone, equations_alone}
use Rattle.flow_rationals.proofs.grammar.Once.{spelled_once}

-- its tokens spell one list of equations
written_once : (text : List ℕ) (es fs : List Written) → ReadsWritten text es → ReadsWritten text fs → es ≡ fs
written_once text es fs h k =
    let tokens : h.tokens ≡ k.tokens = one_token_list Own text h.tokens k.tokens h.reads k.reads in
    spelled_once (symbols_of text k.tokens) es fs (subst (λ (ts : List Token). Spells (symbols_of text ts) es) tokens h.spelled) k.spelled

-- two answers to a text are the same
pub answers_once : (text : List ℕ) (one other : Result (List Equation) EquFault) → Answers text one → Answers text other → one ≡ other
answers_once text one other (a_lexical_fault fault e h) k = e ∙ sym (lexical_alone text fault h other k)
answers_once text one other (an_unexpected at e h) k = e ∙ sym (unexpected_alone text at h other k)
answers_once text one other (a_fault fault e es w h) k = e ∙ sym (fault_alone text es fault w (λ fs v. written_once text es fs w v) h other
    k)
answers_once text one other (some_equations es e w h) k = e ∙ sym (equations_alone text es w (λ fs v. written_once text es fs w v) h other
    k)
