-- A text of equations is refused by one cause, or means systems with the same equations.
use Rattle.std.proofs.Common.{◌≡◌, ◌∙◌, ℕ, List, refl, sym, ap}
use Rattle.std.specs.Prelude.{Result, Ok, Err}
use Rattle.flow_systems.specs.View.{equations_of}
use Rattle.flow_systems.specs.declared.system.System.{System}
use Rattle.flow_rationals.specs.declared.equation.Equation.{Equation}
use Rattle.flow_rationals.specs.declared.fault.EquFault.{EquFault}
use Rattle.flow_rationals.specs.EquationTexts.{Answers}
use Rattle.flow_rationals.specs.System.{system_of}
use Rattle.flow_rationals.proofs.equation_texts.Once.{answers_once}
use Rattle.top_texts.specs.EquationTexts.{IsEquationSystem, IsNoEquations}
use Rattle.top_status.specs.declared.status.TextCause.{TextCause}
use Rattle.top_status.specs.declared.status.TextCause.TheVariants.{Lex, Source as InSource, Flow, Rows, Unknowns, Claims, Equ, Auto}

abbrev answered : Result (List Equation) EquFault → Result (List Equation) EquFault
answered a = a

same_fault : (f g : EquFault) → answered (Err f) ≡ answered (Err g) → f ≡ g
same_fault f g e = cc

-- two answers that are the same have the same equations
pub same_equations : (x y : List Equation) → answered (Ok x) ≡ answered (Ok y) → x ≡ y
same_equations x y e = cc

fault_or_equations : (f : EquFault) (x : List Equation) → answered (Err f) ≡ answered (Ok x) → ⊥
fault_or_equations f x e = cc

-- the systems of a text have the same equations
pub equations_once : (text : List ℕ) (s t : System) → IsEquationSystem text s → IsEquationSystem text t → equations_of s ≡ equations_of t
equations_once text s t is js =
    is.system_is ∙ ap system_of (same_equations is.equations js.equations
    (answers_once text (Ok is.equations) (Ok js.equations) is.reading js.reading)) ∙ sym js.system_is

-- a text that has a system has no fault
not_faulty : (text : List ℕ) (f : EquFault) (s : System) → Answers text (Err f) → IsEquationSystem text s → ⊥
not_faulty text f s h is = fault_or_equations f is.equations (answers_once text (Err f) (Ok is.equations) h is.reading)

-- a text that is refused as equations means no system
pub not_equations : (text : List ℕ) (cause : TextCause) (s : System) → IsNoEquations text cause → IsEquationSystem text s → ⊥
not_equations text (Lex f) s h is = h
not_equations text (InSource f) s h is = h
not_equations text (Flow f) s h is = h
not_equations text (Rows f) s h is = h
not_equations text (Unknowns n) s h is = h
not_equations text (Claims f) s h is = h
not_equations text (Equ f) s h is = not_faulty text f s h is
not_equations text (Auto f) s h is = h

-- the cause is a fault of the text
a_fault : (text : List ℕ) (cause : TextCause) → IsNoEquations text cause → (f : EquFault) × (cause ≡ Equ f) × Answers text (Err f)
a_fault text (Lex f) h = absurd h
a_fault text (InSource f) h = absurd h
a_fault text (Flow f) h = absurd h
a_fault text (Rows f) h = absurd h
a_fault text (Unknowns n) h = absurd h
a_fault text (Claims f) h = absurd h
a_fault text (Equ f) h = (f, refl, h)
a_fault text (Auto f) h = absurd h

-- a text is refused by one cause
pub causes_once : (text : List ℕ) (c d : TextCause) → IsNoEquations text c → IsNoEquations text d → c ≡ d
causes_once text c d h k =
    let (f, e, a) = a_fault text c h in
    let (g, i, b) = a_fault text d k in
    e ∙ ap (λ x. Equ x) (same_fault f g (answers_once text (Err f) (Err g) a b)) ∙ sym i
