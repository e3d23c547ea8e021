use Rattle.std.proofs.Common.{◌≡◌, ◌∙◌, ◌++◌, List, sym, ap}
use Rattle.source_grammar.specs.Tokens.{Token}
use Rattle.source_grammar.specs.Grammar.{Specifiers, gives_int, gives_void, storage, FunctionName, called, called_main, spell_function_name}
use Rattle.source_reader.specs.Reading.{Reading, at_tokens, first_kind, passed}
use Rattle.source_statement.specs.Onto.{onto_specifiers}
use Rattle.source_statement.specs.Starts.{start_in, start_of, a_storage, a_type, a_void}
use Rattle.source_statement.proofs.parts.Read.{at_first}
use Rattle.source_statement.proofs.parts.Starting.{says_storage}
use Rattle.source_statement.proofs.parameters.pass_name.Goals as goal

pub storage-init : goal.storage-init
storage-init c = record {
  left = λ ss f rest e. (ss, at_first c.args.reader.now (onto_specifiers ss (spell_function_name f ++ rest)) e);
}

pub storage-preserved : goal.storage-preserved
storage-preserved c = record {
  left = λ ss f rest e. let l = c.storage.invariant.left ss f rest e in on l.0 (spell_function_name f ++ rest) l.1;
} where
  on : (now : Specifiers) (w : List Token) → c.storage.reader ≡ at_tokens c.args.reader.now (onto_specifiers now w)
      → (x : Specifiers) × (c.skip.new.self ≡ at_tokens c.args.reader.now (onto_specifiers x w))
  on (gives_int a) w e =
      let h : a_storage ≡ a_type = sym (ap start_of c.in-Storage.is) ∙ c.coming.ensures
      ∙ ap (λ (r : Reading). start_in (first_kind r.ahead)) e in absurd cc
  on (gives_void a) w e =
      let h : a_storage ≡ a_void = sym (ap start_of c.in-Storage.is) ∙ c.coming.ensures
      ∙ ap (λ (r : Reading). start_in (first_kind r.ahead)) e in absurd cc
  on (storage a ss) w e = (ss, c.skip.ensures ∙ ap passed e)

pub returns : goal.returns
returns c = λ ss f rest e. let l = c.storage.invariant.left ss f rest e in on l.0 f rest l.1 where
  on : (now : Specifiers) (f : FunctionName) (rest : List Token)
      → c.storage.reader ≡ at_tokens c.args.reader.now (onto_specifiers now (spell_function_name f ++ rest))
      → c.skip-3.new.self ≡ at_tokens c.args.reader.now rest
  on (gives_int a) (called x b) rest e = c.skip-3.ensures ∙ ap passed (c.skip-2.ensures ∙ ap passed e)
  on (gives_int a) (called_main b) rest e = c.skip-3.ensures ∙ ap passed (c.skip-2.ensures ∙ ap passed e)
  on (gives_void a) (called x b) rest e = c.skip-3.ensures ∙ ap passed (c.skip-2.ensures ∙ ap passed e)
  on (gives_void a) (called_main b) rest e = c.skip-3.ensures ∙ ap passed (c.skip-2.ensures ∙ ap passed e)
  on (storage a ss) f rest e = absurd (c.in_default.not-Storage (says_storage c.coming.result
      (c.coming.ensures ∙ ap (λ (r : Reading). start_in (first_kind r.ahead)) e)))
