-- What the frames of the second pass stand for.
use Rattle.std.specs.Prelude.{List, map}
use Rattle.lang_grammar.specs.Grammar.{Prefix, negative, positive, negation}
use Rattle.lang_grammar.specs.Symbols.{op_of, change_of, demand_of}
use Rattle.lang_tree.specs.View.{condition_of, statements_of}
use Rattle.lang_meaning.specs.Feed.{Test, of_if, of_while, of_do, of_demand, Within, of_items, of_branch, of_other, of_loop, of_body}
use Rattle.lang_meaning.specs.Feed.{of_for, Frame, side, before}
use Rattle.lang_meaning.specs.Feed.{group, test, assigns, initial, header, header_tested, under}
use Rattle.lang_reader.specs.Values.{value_of}
use Rattle.lang_reader.specs.declared.frame.Before as code_before
use Rattle.lang_reader.specs.declared.frame.Test as code_test
use Rattle.lang_reader.specs.declared.frame.Within as code_within
use Rattle.lang_reader.specs.declared.frame.Frame as code_frame

abbrev pub before_of : code_before.Before → Prefix
before_of code_before.TheVariants.Minus = negative
before_of code_before.TheVariants.Plus = positive
before_of code_before.TheVariants.Not = negation

abbrev pub test_of : code_test.Test → Test
test_of code_test.TheVariants.If = of_if
test_of code_test.TheVariants.While = of_while
test_of (code_test.TheVariants.Do b) = of_do b
test_of (code_test.TheVariants.Demand k) = of_demand (demand_of k)

abbrev pub within_of : code_within.Within → Within
within_of (code_within.TheVariants.Items k) = of_items k
within_of (code_within.TheVariants.Branch c a) = of_branch (condition_of c) a
within_of (code_within.TheVariants.Other c b a) = of_other (condition_of c) b a
within_of (code_within.TheVariants.Loop c a) = of_loop (condition_of c) a
within_of (code_within.TheVariants.Body a) = of_body a
within_of (code_within.TheVariants.For k a ns c g) = of_for k a (statements_of ns.items) (condition_of c) g

abbrev pub frame_of : code_frame.Frame → Frame
frame_of (code_frame.TheVariants.Side v o a) = side (value_of v) (op_of o) a
frame_of (code_frame.TheVariants.Before p a) = before (before_of p) a
frame_of (code_frame.TheVariants.Group a) = group a
frame_of (code_frame.TheVariants.Test t a) = test (test_of t) a
frame_of (code_frame.TheVariants.Assigns i g b a) = assigns i (change_of g) b a
frame_of (code_frame.TheVariants.Initial x a b) = initial x a b
frame_of (code_frame.TheVariants.Header k a ns) = header k a (statements_of ns.items)
frame_of (code_frame.TheVariants.HeaderTested k a ns c) = header_tested k a (statements_of ns.items) (condition_of c)
frame_of (code_frame.TheVariants.Under w ns) = under (within_of w) (statements_of ns.items)

-- the top first
abbrev pub frames_of : List code_frame.Frame → List Frame
frames_of fs = map frame_of fs
