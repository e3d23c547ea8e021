use Rattle.std.proofs.Common.{◌∙◌, sym}
use Rattle.source_items.proofs.division.Stood.{none_here, put_base, put_inside, some_here}
use Rattle.source_items.proofs.division.put.Goals as goal

pub returns-in_ok-take_element : goal.returns-in_ok-take_element
returns-in_ok-take_element c = λ st e met next.
    put_base st.base st.brackets e c.args.last c.args.index c.args.reading.now _ met next
    (sym c.as_slice.ensures.value ∙ none_here c.as_slice.result.now (sym c.if-is_empty.ensures))
    c.in_ok-take_element.ensures.brackets
    (λ count. c.in_ok-take_element.ensures.meets st.base e next.ends met.well.base next.matches count met.meets)

pub returns-else-is_empty : goal.returns-else-is_empty
returns-else-is_empty c = λ st e met next.
    put_inside st.base st.brackets e c.args.last c.args.index c.args.reading.now met next
    (λ none. some_here c.as_slice.result.now (sym c.if-is_empty.ensures) (c.as_slice.ensures.value ∙ none))
