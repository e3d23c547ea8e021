-- What holds of a function that is read.
use Rattle.std.proofs.Common.{◌≡◌, ◌≤◌, ◌+◌, ◌++◌, ◌∙◌, ℕ, false, IsTrue, List, [], ◌∷◌, length, min, reverse, Result, Ok, Err}
use Rattle.std.proofs.Common.{refl, sym, ap, subst, arith}
use Rattle.std.specs.Prelude.{◌&&◌, nat_le}
use Rattle.std.proofs.lemmas.Bool.{lt-ltb, le-leb, and_from}
use Rattle.std.proofs.lemmas.List.{length-reverse}
use Rattle.lang_tree.specs.declared.limits.TheConstants.{MOST_VARIABLES, MOST_HIDDEN}
use Rattle.lang_tree.specs.Limits.{are_statements, is_program}
use Rattle.lang_tree.specs.Tree.{nodes_in}
use Rattle.source_core.specs.Core.{taken_any, core_in}
use Rattle.source_grammar.specs.Tokens.{Name}
use Rattle.source_grammar.specs.Grammar.{MoreParameters, last_parameter, next_parameter, Parameters, no_parameters, void_parameters}
use Rattle.source_grammar.specs.Grammar.{some_parameters, Parameter, number_parameter, pointer_parameter, array_parameter, Function}
use Rattle.source_grammar.specs.Grammar.{function}
use Rattle.source_tree.specs.Expressions.{Extent, endless}
use Rattle.source_tree.specs.Statements.{Statements, declares, nil}
use Rattle.source_meaning.specs.declared.fault.FunctionFault.{FunctionFault}
use Rattle.source_meaning.specs.declared.fault.FunctionFault.TheVariants.{NoVariables}
use Rattle.source_meaning.specs.Results.{◌>>=◌}
use Rattle.source_meaning.specs.Names.{State, start_state, with_variable, declared_number, fresh_array, with_array}
use Rattle.source_meaning.specs.Arrays.{read_bounds}
use Rattle.source_meaning.specs.Limits.{counted}
use Rattle.source_meaning.specs.Statements.{followed_by, read_items}
use Rattle.source_meaning.specs.Walk.{declared_parameter, declared_after, declared_parameters, declared_items, distinct, width_of}
use Rattle.source_meaning.specs.Walk.{read_parameter}
use Rattle.source_meaning.specs.Walk.{read_more_parameters, read_parameters, function_of, walk}
use Rattle.source_meaning.specs.Laws.{AreApart}
use Rattle.source_meaning.proofs.results.Values.{OnValue, on_bind}
use Rattle.source_meaning.proofs.names.Sound.{Sound, start_sound, Declares, Counts, variable_sound, counted_sound}
use Rattle.source_meaning.proofs.names.Apart.{apart_reversed}
use Rattle.source_meaning.proofs.names.Added.{length_added}
use Rattle.source_meaning.proofs.expressions.Over.{anything}
use Rattle.source_meaning.proofs.statements.Good.{nodes, nodes_declares, Good, good_declares}
use Rattle.source_meaning.proofs.statements.Grows.{Grows, grows_none, grows_one, grows_then, fresh_grows, with_array_grows}
use Rattle.source_meaning.proofs.statements.Walked.{items_grow}
use Rattle.base_integers.specs.declared.integers.Integers.{Integers}

-- a function that is read: its variables in order and its statements
pub record Reads (integers : Integers) (f : Function) (r : List (List ℕ) × Statements) : Type 0 where
  -- it has as many variables as its width
  pub width : length r.0 ≡ width_of f
  -- it has a variable
  pub some : 1 ≤ length r.0
  -- it has no more variables than there may be
  pub few : length r.0 ≤ MOST_VARIABLES
  -- no two have one name
  pub apart : AreApart r.0
  -- it has no more statements than there may be
  pub short : nodes integers (length r.0) r.1 ≤ 4096
  -- they have its variables alone, and in the core they keep to the limits
  pub good : Good integers (length r.0) false r.1

module _ (integers : Integers) (line : ℕ → ℕ) (n : ℕ) where
  -- an array that is a parameter, behind which its bounds are read
  array_grows : (x : Name) (at : ℕ) (st : State) → Sound st → (r : State → Result (List Extent) FunctionFault)
      → OnValue (Grows integers n false st []) (fresh_array x at st >>= λ now. r now >>= λ extents. Ok (with_array x extents now, nil))
  array_grows x at st s r = fresh_grows integers line n false x at st s _
      (on_bind (λ extents. Unit {0}) (Grows integers n false st []) (r st) _ (anything (r st))
      (λ extents u. with_array_grows integers line n false x extents st (st, nil) (grows_none integers line n false st s)))

  parameter_grows : (st : State) → Sound st → (p : Parameter)
      → OnValue (Grows integers n false st (declared_parameter p)) (read_parameter integers line st p)
  parameter_grows st s (number_parameter t x at) =
      let G : State × Statements → Type 0 = Grows integers n false st (x.text ∷ []) in
      on_bind (Declares x.text st) G (with_variable x at st) _ (variable_sound x at st s)
      (λ now d. let i = declared_number now in
      let k = length (taken_any integers i (line at)) in
      on_bind (Counts k now) G (counted at k now) _ (counted_sound at k now d.sound)
      (λ more c. grows_one integers line n false st more (x.text ∷ []) k (declares i (line at)) c.sound (c.variables ∙ d.variables)
      (omega (arith, c.width, d.more)) (omega (arith, c.count, d.same)) (nodes_declares integers n i (line at))
      (λ l. good_declares integers n false i (line at) (lt-ltb i n (omega (arith, l, c.width, d.below))))))
  parameter_grows st s (pointer_parameter t a x at) = array_grows x at st s (λ now. Ok (endless ∷ []))
  parameter_grows st s (array_parameter t x at bs) = array_grows x at st s (λ now. read_bounds now bs)

  both_grow : (st : State) → Sound st → (p : Parameter) (ps : MoreParameters)
      → ((now : State) → Sound now → OnValue (Grows integers n false now (declared_after ps)) (read_more_parameters integers line now ps))
      → OnValue (Grows integers n false st (declared_parameter p ++ declared_after ps))
      (read_parameter integers line st p >>= λ r. read_more_parameters integers line r.0 ps >>= λ q. Ok (q.0, followed_by r.1 q.1))
  both_grow st s p ps f =
      let G : State × Statements → Type 0 = Grows integers n false st (declared_parameter p ++ declared_after ps) in
      on_bind (Grows integers n false st (declared_parameter p)) G (read_parameter integers line st p) _ (parameter_grows st s p)
      (λ r h. on_bind (Grows integers n false r.0 (declared_after ps)) G (read_more_parameters integers line r.0 ps) _ (f r.0 h.sound)
      (λ q i. grows_then integers line n false st (declared_parameter p) (declared_after ps) r q h i))

  more_parameters_grow : (st : State) → Sound st → (ps : MoreParameters)
      → OnValue (Grows integers n false st (declared_after ps)) (read_more_parameters integers line st ps)
  more_parameters_grow st s last_parameter = grows_none integers line n false st s
  more_parameters_grow st s (next_parameter a p ps) = both_grow st s p ps (λ r h. more_parameters_grow r h ps)

  parameters_grow : (st : State) → Sound st → (ps : Parameters)
      → OnValue (Grows integers n false st (declared_parameters ps)) (read_parameters integers line st ps)
  parameters_grow st s no_parameters = grows_none integers line n false st s
  parameters_grow st s (void_parameters a) = grows_none integers line n false st s
  parameters_grow st s (some_parameters p ps) = both_grow st s p ps (λ r h. more_parameters_grow r h ps)

function_reads : (integers : Integers) (line : ℕ → ℕ) (f : Function) (d : List (List ℕ)) (r : State × Statements)
    → width_of f ≡ min MOST_VARIABLES (distinct [] d)
    → Grows integers (width_of f) false start_state d r → OnValue (Reads integers f) (function_of integers line r.0 r.1)
function_reads integers line f d r w h = by (reverse r.0.variables) refl where
  by : (names : List (List ℕ)) → reverse r.0.variables ≡ names
      → OnValue (Reads integers f) (elim names as (λ z. Result (List (List ℕ) × Statements) FunctionFault)
      [ [] ↦ Err NoVariables | x ∷ xs ↦ Ok (x ∷ xs, r.1) ])
  by [] e = tt
  by (x ∷ xs) e =
      let l : length (x ∷ xs) ≡ length r.0.variables = ap length (sym e) ∙ length-reverse r.0.variables in
      let v : length r.0.variables ≡ distinct [] d = (let a = ap length h.variables in let b = length_added [] d in omega (arith, a, b)) in
      let k : width_of f ≡ length (x ∷ xs) = omega (arith, w, l, v, h.sound.few) in
      record {
        width = sym k;
        some = omega arith;
        few = omega (arith, l, h.sound.few);
        apart = subst AreApart e (apart_reversed r.0.variables h.sound.apart);
        short = subst (λ (m : ℕ). nodes integers m r.1 ≤ 4096) k (omega (arith, h.count, h.sound.short));
        good = subst (λ (m : ℕ). Good integers m false r.1) k (h.good (omega (arith, k, l)));
      }

-- a function that is read is one, or there is a fault
pub walk_reads : (integers : Integers) (line : ℕ → ℕ) (f : Function) → OnValue (Reads integers f) (walk integers line f)
walk_reads integers line (function ss g a ps b c is d) =
    let f = function ss g a ps b c is d in
    let n = width_of f in
    on_bind (Grows integers n false start_state (declared_parameters ps)) (Reads integers f)
    (read_parameters integers line start_state ps) _
    (parameters_grow integers line n start_state start_sound ps)
    (λ p h. on_bind (Grows integers n false p.0 (declared_items is)) (Reads integers f) (read_items integers line n false p.0 is) _
    (items_grow integers line n false is p.0 h.sound)
    (λ r i. function_reads integers line f (declared_parameters ps ++ declared_items is) (r.0, followed_by p.1 r.1) refl
    (grows_then integers line n false start_state (declared_parameters ps) (declared_items is) p r h i)))

-- its core is a program within the limits
pub program_limited : (integers : Integers) (f : Function) (r : List (List ℕ) × Statements) → Reads integers f r
    → IsTrue (is_program (length r.0) (core_in integers (length r.0) r.1))
program_limited integers f r h =
    let n = length r.0 in
    let body = core_in integers n r.1 in
    let all = are_statements (n + MOST_HIDDEN) false body in
    and_from (nat_le 1 n) (nat_le n MOST_VARIABLES && (nat_le (nodes_in body) 4096 && all)) (le-leb 1 n h.some)
    (and_from (nat_le n MOST_VARIABLES) (nat_le (nodes_in body) 4096 && all) (le-leb n MOST_VARIABLES h.few)
    (and_from (nat_le (nodes_in body) 4096) all (le-leb (nodes_in body) 4096 h.short) h.good.1))
