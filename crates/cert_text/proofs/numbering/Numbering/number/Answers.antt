use Rattle.std.proofs.Common.{List, map, sym, ap, ◌∙◌, subst}
use Rattle.cert_written.specs.declared.trace.Trace.{Trace}
use Rattle.cert_text.specs.Naming.{AreSpelt, trace_text}
use Rattle.cert_text.proofs.numbering.Texts.{any_listed, found_back, place_number}
use Rattle.cert_text.proofs.numbering.Numbering.number.Goals as goal

pub unwrap-requires : goal.unwrap-requires
unwrap-requires c =
    c.get_index_of.ensures.found
    ∙ any_listed c.as_slice.result.now c.args.trace.now c.self.inside.texts.keys c.args.self.now
    (c.as_slice.ensures.value ∙ c.in_ok-text.ensures.text)
    (c.self.invariant.0 ∙ ap (λ (ts : List Trace). map trace_text ts) c.self.view_is) ∙ c.requires

pub returns-clause-number : goal.returns-clause-number
returns-clause-number c =
    place_number c.as_slice.result.now c.args.trace.now c.self.inside.texts.keys c.args.self.now
    (c.as_slice.ensures.value ∙ c.in_ok-text.ensures.text)
    (c.self.invariant.0 ∙ ap (λ (ts : List Trace). map trace_text ts) c.self.view_is) c.unwrap.result
    (sym c.unwrap.ensures ∙ c.get_index_of.ensures.index)

pub returns-clause-back : goal.returns-clause-back
returns-clause-back c = found_back c.args.self.now c.args.trace.now c.in_ok-text.ensures.spelt
    (subst AreSpelt c.self.view_is c.self.invariant.1) c.requires
