use Rattle.std.proofs.Common.{◌∙◌, Ok, slice_get, refl, sym, ap}
use Rattle.flow_rationals.specs.EquFaults.{faults_of}
use Rattle.flow_rationals.specs.EquationTexts.{equations_of, a_fault, some_equations}
use Rattle.flow_rationals.proofs.grammar.Whole.{written_some}
use Rattle.flow_rationals.proofs.equation_texts.OneAnswer.{fault_alone, equations_alone}
use Rattle.flow_rationals.proofs.reading.answer.Goals as goal

pub returns-in-Some-clause-refused : goal.returns-in-Some-clause-refused
returns-in-Some-clause-refused c = λ wanted.
    a_fault c.in-Some.fault refl c.in_ok-list.list.items c.in_ok-list.ensures.reads
    (ap (λ es. slice_get (faults_of es) 0) (sym c.deref.ensures.value) ∙ c.in-Some.ensures)

pub returns-in-Some-clause-alone : goal.returns-in-Some-clause-alone
returns-in-Some-clause-alone c = λ wanted.
    fault_alone c.args.text.now c.in_ok-list.list.items c.in-Some.fault c.in_ok-list.ensures.reads c.in_ok-list.ensures.only
    (ap (λ es. slice_get (faults_of es) 0) (sym c.deref.ensures.value) ∙ c.in-Some.ensures)

pub equations_of-requires-clause-some : goal.equations_of-requires-clause-some
equations_of-requires-clause-some c = written_some c.args.text.now c.in_ok-list.list.items _ c.deref-in-None.ensures.value
    c.in_ok-list.ensures.reads

pub equations_of-requires-clause-sound : goal.equations_of-requires-clause-sound
equations_of-requires-clause-sound c = ap faults_of (c.deref-in-None.ensures.value ∙ sym c.deref.ensures.value) ∙ c.in-None.ensures

pub returns-clause-equations : goal.returns-clause-equations
returns-clause-equations c =
    some_equations c.in_ok-list.list.items (ap Ok (c.in_ok-made-in-None.ensures ∙ ap equations_of c.deref-in-None.ensures.value))
    c.in_ok-list.ensures.reads
    (ap faults_of (sym c.deref.ensures.value) ∙ c.in-None.ensures)

pub returns-clause-equations_alone : goal.returns-clause-equations_alone
returns-clause-equations_alone c = λ right a.
    equations_alone c.args.text.now c.in_ok-list.list.items c.in_ok-list.ensures.reads c.in_ok-list.ensures.only
    (ap faults_of (sym c.deref.ensures.value) ∙ c.in-None.ensures) right a
    ∙ ap Ok (sym (c.in_ok-made-in-None.ensures ∙ ap equations_of c.deref-in-None.ensures.value))
