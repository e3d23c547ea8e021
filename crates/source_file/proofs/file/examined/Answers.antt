use Rattle.std.proofs.Common.{inl, inr, [], refl}
use Rattle.source_grammar.specs.declared.machine.Syntax.TheVariants as syntax
use Rattle.source_tokens.specs.View.{tokens_of}
use Rattle.source_file.proofs.file.Told.{found_scan}
use Rattle.source_file.proofs.file.examined.Goals as goal

pub unreachable-requires : goal.unreachable-requires
unreachable-requires c =
    c.requires [] [] (found_scan c.in_ok-examine.field-0 syntax.Short c.in_ok-pieces.pieces.items c.as_slice.result.now
    (tokens_of [] [] c.args.tokens.now) c.as_slice.ensures.value (c.in_ok-pieces.ensures [] []) c.in_ok-examine.ensures.found
    c.in-Short.is)

pub returns-in-Whole-clause-whole : goal.returns-in-Whole-clause-whole
returns-in-Whole-clause-whole c = λ definitions text.
    found_scan c.in_ok-examine.field-0 syntax.Whole c.in_ok-pieces.pieces.items c.as_slice.result.now
    (tokens_of definitions text c.args.tokens.now) c.as_slice.ensures.value (c.in_ok-pieces.ensures definitions text)
    c.in_ok-examine.ensures.found c.in-Whole.is

pub returns-in-Unexpected-clause-fault : goal.returns-in-Unexpected-clause-fault
returns-in-Unexpected-clause-fault c = λ n integers definitions text. inl (
  c.in-Unexpected.at,
  found_scan c.in_ok-examine.field-0 (syntax.Unexpected c.in-Unexpected.at) c.in_ok-pieces.pieces.items c.as_slice.result.now
      (tokens_of definitions text c.args.tokens.now) c.as_slice.ensures.value (c.in_ok-pieces.ensures definitions text)
      c.in_ok-examine.ensures.found c.in-Unexpected.is,
  refl,
)

pub returns-in-Nested-clause-fault : goal.returns-in-Nested-clause-fault
returns-in-Nested-clause-fault c = λ n integers definitions text. inr (inl (
  c.in-Nested.at,
  found_scan c.in_ok-examine.field-0 (syntax.Nested c.in-Nested.at) c.in_ok-pieces.pieces.items c.as_slice.result.now
      (tokens_of definitions text c.args.tokens.now) c.as_slice.ensures.value (c.in_ok-pieces.ensures definitions text)
      c.in_ok-examine.ensures.found c.in-Nested.is,
  refl,
))
