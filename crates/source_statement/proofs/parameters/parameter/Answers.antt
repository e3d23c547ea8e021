use Rattle.std.proofs.Common.{◌≡◌, ◌∙◌, ◌∷◌, ℕ, List, Result, Ok, Err, OnOk, refl, sym, ap, subst, arith}
use Rattle.lang_tokens.specs.Lines.{line_at}
use Rattle.source_grammar.specs.Tokens as g
use Rattle.source_grammar.specs.Tokens.{Kind, Name, Token, token, a_name, infix_sign, times_op, left_bracket}
use Rattle.source_grammar.specs.Grammar.{IntType, Bounds, sized_bounds, open_bound, open_bounds, Parameter, number_parameter}
use Rattle.source_grammar.specs.Grammar.{pointer_parameter, array_parameter, declarator, bare}
use Rattle.source_grammar.proofs.grammar.Follow.{AfterPart, NoBracket}
use Rattle.source_meaning.specs.Statements.{read_declarator}
use Rattle.source_meaning.specs.Walk.{read_parameter}
use Rattle.source_reader.specs.Answers.{Answers}
use Rattle.source_reader.specs.Reading.{Reading, at_tokens, first_kind}
use Rattle.source_change.specs.Tests.{WasRead, WasTaken, name_of}
use Rattle.source_change.specs.declared.names.Named.{Named}
use Rattle.source_change.proofs.results.Answered.{err_never, weaker}
use Rattle.source_change.proofs.spelled.Changes.{sizes_first}
use Rattle.source_statement.specs.Onto.{onto_bounds, onto_parameter, onto_type}
use Rattle.source_statement.specs.Starts.{start_in, start_of, a_bracket, a_star}
use Rattle.source_statement.specs.declared.starts.Start.{Start}
use Rattle.source_statement.specs.declared.starts.Start.TheVariants as start
use Rattle.source_change.proofs.firsts.Taken.{taken_is}
use Rattle.source_statement.proofs.parts.Pushes.{err_on}
use Rattle.source_statement.proofs.parts.Read.{same_read}
use Rattle.source_statement.proofs.steps.Labels.{on_ok}
use Rattle.source_statement.proofs.parameters.parameter.Goals as goal

-- what the code says is that
says_star : (s : Start) → start_of s ≡ a_star → s ≡ start.Star
says_star start.Star h = refl
says_star _ h = absurd cc

says_bracket : (s : Start) → start_of s ≡ a_bracket → s ≡ start.Bracket
says_bracket start.Bracket h = refl
says_bracket _ h = absurd cc

-- no bracket follows a parameter
no_bracket : (k : Kind) → AfterPart k → NoBracket k
no_bracket g.semicolon h = tt
no_bracket g.right_paren h = tt
no_bracket g.comma h = tt
no_bracket _ h = absurd h

not_bracket : (k : Kind) → AfterPart k → start_in k ≡ a_bracket → ⊥
not_bracket g.semicolon h e = cc
not_bracket g.right_paren h e = cc
not_bracket g.comma h e = cc
not_bracket _ h e = absurd h

-- an array has one
bounds_first : (bs : Bounds) (w : List Token) → first_kind (onto_bounds bs w) ≡ left_bracket
bounds_first (sized_bounds ss) w = sizes_first ss w
bounds_first (open_bound a b) w = refl
bounds_first (open_bounds a b ss) w = refl

on_any : {A B P : Type 0} (r : Result A B) → P → OnOk r P
on_any (Ok x) p = p
on_any (Err e) p = tt

pub returns-in-Star-clause-reads : goal.returns-in-Star-clause-reads
returns-in-Star-clause-reads c = λ p rest e h. on p rest e h where
  on : (p : Parameter) (rest : List Token) → c.args.reader.now.ahead ≡ onto_parameter p rest → AfterPart (first_kind rest)
      → Answers {A = Unit {0}} (λ _ r. WasRead c.args.reader.now.integers c.args.reader.now.variables rest c.args.reader.now
      c.pointer.new.reader c.pointer.new.known c.args.out.now.items c.args.out.now.items r) c.pointer.result
      (read_parameter c.args.reader.now.integers (line_at c.args.reader.now.text) c.args.known.now p)
  on (number_parameter t x a) rest e h =
      let mid = c.pass_type.ensures.passed t (token (a_name x) a ∷ rest) e in
      let k = sym (ap (λ (r : Reading). start_in (first_kind r.ahead)) mid) ∙ sym c.coming.ensures ∙ ap start_of c.in-Star.is in absurd cc
  on (array_parameter t x a bs) rest e h =
      let mid = c.pass_type.ensures.passed t (token (a_name x) a ∷ onto_bounds bs rest) e in
      let k = sym (ap (λ (r : Reading). start_in (first_kind r.ahead)) mid) ∙ sym c.coming.ensures ∙ ap start_of c.in-Star.is in absurd cc
  on (pointer_parameter t a x b) rest e h =
      let old : Reading = c.args.reader.now in
      let ts : List Token = token (infix_sign times_op) a ∷ token (a_name x) b ∷ rest in
      let mid : c.pass_type.new.reader ≡ at_tokens old ts = c.pass_type.ensures.passed t ts e in
      let P : Reading → Type 0 = λ m. Answers {A = Unit {0}} (λ _ r. WasRead m.integers m.variables rest m c.pointer.new.reader
      c.pointer.new.known c.args.out.now.items c.args.out.now.items r) c.pointer.result
      (read_parameter m.integers (line_at m.text) c.args.known.now (pointer_parameter t a x b)) in
      same_read old.integers old.variables ts rest old c.pointer.new.reader c.pointer.new.known c.args.out.now.items c.args.out.now.items
      c.pointer.result (read_parameter old.integers (line_at old.text) c.args.known.now (pointer_parameter t a x b))
      (subst P mid (c.pointer.ensures.reads t a x b rest (ap (λ (r : Reading). r.ahead) mid) c.args.out.now.items))

pub returns-in_err-first : goal.returns-in_err-first
returns-in_err-first c = record {
  reads = λ p rest e h. on p rest e;
  shorter = err_on c.from_residual.result _ _ c.from_residual.ensures.1;
} where
  named : (t : IntType) (x : Name) (a : ℕ) (ts rest : List Token) (p : Parameter)
      → c.args.reader.now.ahead ≡ onto_type t (token (a_name x) a ∷ ts)
      → Answers {A = Unit {0}} (λ _ r. WasRead c.args.reader.now.integers c.args.reader.now.variables rest c.args.reader.now
      c.take_name.new.reader c.args.known.now c.args.out.now.items c.args.out.now.items r) c.from_residual.result
      (read_parameter c.args.reader.now.integers (line_at c.args.reader.now.text) c.args.known.now p)
  named t x a ts rest p e =
      err_never (λ (n : Named) q. WasTaken ts c.pass_type.new.reader c.take_name.new.reader n q)
      (λ (u : Unit {0}) r. WasRead c.args.reader.now.integers c.args.reader.now.variables rest c.args.reader.now
      c.take_name.new.reader c.args.known.now c.args.out.now.items c.args.out.now.items r) c.from_residual.result
      c.in_err-first.field-0.0 (x, a)
      (read_parameter c.args.reader.now.integers (line_at c.args.reader.now.text) c.args.known.now p) c.from_residual.ensures.1
      (c.in_err-first.ensures.reads x a ts (ap (λ (r : Reading). r.ahead) (c.pass_type.ensures.passed t (token (a_name x) a ∷ ts) e)))

  on : (p : Parameter) (rest : List Token) → c.args.reader.now.ahead ≡ onto_parameter p rest
      → Answers {A = Unit {0}} (λ _ r. WasRead c.args.reader.now.integers c.args.reader.now.variables rest c.args.reader.now
      c.take_name.new.reader c.args.known.now c.args.out.now.items c.args.out.now.items r) c.from_residual.result
      (read_parameter c.args.reader.now.integers (line_at c.args.reader.now.text) c.args.known.now p)
  on (number_parameter t x a) rest e = named t x a rest rest (number_parameter t x a) e
  on (array_parameter t x a bs) rest e = named t x a (onto_bounds bs rest) rest (array_parameter t x a bs) e
  on (pointer_parameter t a x b) rest e =
      let mid = c.pass_type.ensures.passed t (token (infix_sign times_op) a ∷ token (a_name x) b ∷ rest) e in
      absurd (c.in_default.not-Star (says_star c.coming.result (c.coming.ensures
      ∙ ap (λ (r : Reading). start_in (first_kind r.ahead)) mid)))

pub returns-in-Bracket : goal.returns-in-Bracket
returns-in-Bracket c = record {
  reads = λ p rest e h. on p rest e h;
  shorter = on_ok c.array.result (λ l. let k = c.in_ok-first.ensures.shorter in let m = c.pass_type.ensures.shorter in
      omega (arith, l, k, m)) c.array.ensures.shorter;
} where
  on : (p : Parameter) (rest : List Token) → c.args.reader.now.ahead ≡ onto_parameter p rest → AfterPart (first_kind rest)
      → Answers {A = Unit {0}} (λ _ r. WasRead c.args.reader.now.integers c.args.reader.now.variables rest c.args.reader.now
      c.array.new.reader c.array.new.known c.args.out.now.items c.args.out.now.items r) c.array.result
      (read_parameter c.args.reader.now.integers (line_at c.args.reader.now.text) c.args.known.now p)
  on (number_parameter t x a) rest e h =
      let mid = c.pass_type.ensures.passed t (token (a_name x) a ∷ rest) e in
      let n = taken_is rest c.pass_type.new.reader c.take_name.new.reader c.in_ok-first.first x a
      (c.in_ok-first.ensures.reads x a rest (ap (λ (r : Reading). r.ahead) mid)) in
      absurd (not_bracket (first_kind rest) h (sym (ap (λ (r : Reading). start_in (first_kind r.ahead)) n.2) ∙ sym c.coming-2.ensures
      ∙ ap start_of c.in-Bracket.is))
  on (pointer_parameter t a x b) rest e h =
      let mid = c.pass_type.ensures.passed t (token (infix_sign times_op) a ∷ token (a_name x) b ∷ rest) e in
      absurd (c.in_default.not-Star (says_star c.coming.result (c.coming.ensures
      ∙ ap (λ (r : Reading). start_in (first_kind r.ahead)) mid)))
  on (array_parameter t x a bs) rest e h =
      let old : Reading = c.args.reader.now in
      let st = c.args.known.now in
      let ts : List Token = onto_bounds bs rest in
      let mid : c.pass_type.new.reader ≡ at_tokens old (token (a_name x) a ∷ ts) = c.pass_type.ensures.passed t (token (a_name x) a ∷ ts) e
      in
      let n = taken_is ts c.pass_type.new.reader c.take_name.new.reader c.in_ok-first.first x a
      (c.in_ok-first.ensures.reads x a ts (ap (λ (r : Reading). r.ahead) mid)) in
      let here : c.take_name.new.reader ≡ at_tokens old ts = n.2 ∙ ap (λ (r : Reading). at_tokens r ts) mid in
      let P : Reading → Name → ℕ → Type 0 = λ m x a. Answers {A = Unit {0}} (λ _ r. WasRead m.integers m.variables rest m
      c.array.new.reader c.array.new.known c.args.out.now.items c.args.out.now.items r) c.array.result
      (read_parameter m.integers (line_at m.text) st (array_parameter t x a bs)) in
      let q : P (at_tokens old ts) (name_of c.in_ok-first.first) c.in_ok-first.first.at =
      subst (λ m. P m (name_of c.in_ok-first.first) c.in_ok-first.first.at) here
      (c.array.ensures.reads t bs rest (ap (λ (r : Reading). r.ahead) here) (no_bracket (first_kind rest) h) c.args.out.now.items) in
      same_read old.integers old.variables ts rest old c.array.new.reader c.array.new.known c.args.out.now.items c.args.out.now.items
      c.array.result (read_parameter old.integers (line_at old.text) st (array_parameter t x a bs))
      (subst (λ a. P (at_tokens old ts) x a) n.1 (subst (λ x. P (at_tokens old ts) x c.in_ok-first.first.at) n.0 q))

pub returns-in_default-coming : goal.returns-in_default-coming
returns-in_default-coming c = record {
  reads = λ p rest e h. on p rest e;
  shorter = on_any c.bare.result (let k = c.in_ok-first.ensures.shorter in let m = c.pass_type.ensures.shorter in omega (arith, k, m));
} where
  on : (p : Parameter) (rest : List Token) → c.args.reader.now.ahead ≡ onto_parameter p rest
      → Answers {A = Unit {0}} (λ _ r. WasRead c.args.reader.now.integers c.args.reader.now.variables rest c.args.reader.now
      c.take_name.new.reader c.bare.new.known c.args.out.now.items c.bare.new.out.items r) c.bare.result
      (read_parameter c.args.reader.now.integers (line_at c.args.reader.now.text) c.args.known.now p)
  on (number_parameter t x a) rest e =
      let old : Reading = c.args.reader.now in
      let first : Named = c.in_ok-first.first in
      let mid : c.pass_type.new.reader ≡ at_tokens old (token (a_name x) a ∷ rest) =
      c.pass_type.ensures.passed t (token (a_name x) a ∷ rest) e in
      let n = taken_is rest c.pass_type.new.reader c.take_name.new.reader first x a
      (c.in_ok-first.ensures.reads x a rest (ap (λ (r : Reading). r.ahead) mid)) in
      let here : c.take_name.new.reader ≡ at_tokens old rest = n.2 ∙ ap (λ (r : Reading). at_tokens r rest) mid in
      let P : Reading → Name → ℕ → Type 0 = λ m x a. Answers {A = Unit {0}} (λ _ r. WasRead m.integers m.variables m.ahead m m
      c.bare.new.known c.args.out.now.items c.bare.new.out.items r) c.bare.result
      (read_declarator m.integers (line_at m.text) m.variables c.args.known.now (declarator x a bare)) in
      let q : P (at_tokens old rest) (name_of first) first.at = subst (λ m. P m (name_of first) first.at) here c.bare.ensures in
      weaker {A = Unit {0}} (λ _ r. WasRead old.integers old.variables rest (at_tokens old rest) (at_tokens old rest) c.bare.new.known
      c.args.out.now.items c.bare.new.out.items r) (λ _ r. WasRead old.integers old.variables rest old c.take_name.new.reader
      c.bare.new.known c.args.out.now.items c.bare.new.out.items r) c.bare.result
      (read_parameter old.integers (line_at old.text) c.args.known.now (number_parameter t x a))
      (λ _ r w. record { known = w.known; out = w.out; reader = here })
      (subst (λ a. P (at_tokens old rest) x a) n.1 (subst (λ x. P (at_tokens old rest) x first.at) n.0 q))
  on (pointer_parameter t a x b) rest e =
      let mid = c.pass_type.ensures.passed t (token (infix_sign times_op) a ∷ token (a_name x) b ∷ rest) e in
      absurd (c.in_default.not-Star (says_star c.coming.result (c.coming.ensures
      ∙ ap (λ (r : Reading). start_in (first_kind r.ahead)) mid)))
  on (array_parameter t x a bs) rest e =
      let ts : List Token = onto_bounds bs rest in
      let mid = c.pass_type.ensures.passed t (token (a_name x) a ∷ ts) e in
      let n = taken_is ts c.pass_type.new.reader c.take_name.new.reader c.in_ok-first.first x a
      (c.in_ok-first.ensures.reads x a ts (ap (λ (r : Reading). r.ahead) mid)) in
      absurd (c.in_default-coming.not-Bracket (says_bracket c.coming-2.result (c.coming-2.ensures
      ∙ ap (λ (r : Reading). start_in (first_kind r.ahead)) n.2 ∙ ap start_in (bounds_first bs rest))))
