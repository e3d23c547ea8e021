-- Tokens at other places mean the same function, but for its lines and places.
use Rattle.std.proofs.Common.{◌≡◌, ◌∙◌, ◌∷◌, ℕ, false, List, [], length, reverse, Result, Ok, Err, refl, sym, ap, subst}
use Rattle.source_grammar.specs.Grammar.{MoreParameters, last_parameter, next_parameter, Parameters, no_parameters, void_parameters}
use Rattle.source_grammar.specs.Grammar.{some_parameters, Function, function, Parameter, number_parameter, pointer_parameter}
use Rattle.source_grammar.specs.Grammar.{array_parameter}
use Rattle.source_tree.specs.Statements.{Statements}
use Rattle.source_core.specs.Core.{taken_any, core_in}
use Rattle.source_meaning.specs.declared.fault.FunctionFault.{FunctionFault}
use Rattle.source_meaning.specs.declared.fault.FunctionFault.TheVariants.{NoVariables}
use Rattle.source_meaning.specs.Results.{◌>>=◌}
use Rattle.source_meaning.specs.Names.{State, start_state, with_variable, declared_number, fresh_array}
use Rattle.source_meaning.specs.Arrays.{read_bounds}
use Rattle.source_meaning.specs.Limits.{counted}
use Rattle.source_meaning.specs.Statements.{followed_by, read_items}
use Rattle.source_meaning.specs.Walk.{width_of, read_parameter, read_more_parameters, read_parameters, function_of, walk}
use Rattle.acsl_shift.specs.Sources.{without_places}
use Rattle.acsl_shift.specs.Law.{Stays, TokensMayMove}
use Rattle.acsl_shift.proofs.moves.Trees.{move_items, move_bounds, move_parameter, move_more_parameters, move_parameters, move_function}
use Rattle.acsl_shift.proofs.moves.Twice.{nowhere, twice_function}
use Rattle.acsl_shift.proofs.moves.Spelled.{moved_reads}
use Rattle.acsl_shift.proofs.moves.Declared.{same_width}
use Rattle.acsl_shift.proofs.moves.Seen.{seen, Seen, seen_ok, seen_then, seen_counted}
use Rattle.acsl_shift.proofs.moves.Parts.{followed_without, lines, seen_with_variable, seen_fresh_array, seen_bounds}
use Rattle.acsl_shift.proofs.moves.Cores.{any_length, cores_same}
use Rattle.acsl_shift.proofs.moves.Walked.{seen_items}
use Rattle.base_integers.specs.declared.integers.Integers.{Integers}

-- variables, and statements without their lines and places
abbrev named : List (List ℕ) × Statements → List (List ℕ) × Statements
named r = (r.0, without_places r.1)

module _ (integers : Integers) (line : ℕ → ℕ) where
  -- a parameter
  seen_parameter : (st : State) (p : Parameter)
      → Seen lines (read_parameter integers line st p) (read_parameter integers nowhere st (move_parameter nowhere p))
  seen_parameter st (number_parameter t x at) =
      seen_then (λ z. z) lines (with_variable x at st) (with_variable x 0 st) _ _ (seen_with_variable x at st) (λ now.
      let i = declared_number now in
      seen_then (λ z. z) lines (counted at (length (taken_any integers i (line at))) now)
      (counted 0 (length (taken_any integers i 0)) now) _ _
      (seen_counted at _ _ now (any_length integers i (line at))) (λ now. record { same = refl }))
  seen_parameter st (pointer_parameter t a x at) =
      seen_then (λ z. z) lines (fresh_array x at st) (fresh_array x 0 st) _ _ (seen_fresh_array x at st) (λ now. record { same = refl })
  seen_parameter st (array_parameter t x at bs) =
      seen_then (λ z. z) lines (fresh_array x at st) (fresh_array x 0 st) _ _ (seen_fresh_array x at st) (λ now.
      seen_then (λ z. z) lines (read_bounds now bs) (read_bounds now (move_bounds nowhere bs)) _ _ (seen_bounds now bs)
      (λ extents. record { same = refl }))

  -- the parameters behind the first
  seen_more_parameters : (st : State) (ps : MoreParameters)
      → Seen lines (read_more_parameters integers line st ps) (read_more_parameters integers nowhere st (move_more_parameters nowhere ps))
  seen_more_parameters st last_parameter = record { same = refl }
  seen_more_parameters st (next_parameter a p ps) =
      seen_then lines lines (read_parameter integers line st p) (read_parameter integers nowhere st (move_parameter nowhere p)) _ _
      (seen_parameter st p)
      (λ r.
      seen_then lines lines (read_more_parameters integers line r.0 ps)
      (read_more_parameters integers nowhere r.0 (move_more_parameters nowhere ps)) _ _
      (seen_more_parameters r.0 ps)
      (λ q. seen_ok lines _ _ (ap (λ (z : Statements). let w : State × Statements = (q.0, z) in w) (followed_without r.1 q.1))))

  -- the parameters
  seen_parameters : (st : State) (ps : Parameters)
      → Seen lines (read_parameters integers line st ps) (read_parameters integers nowhere st (move_parameters nowhere ps))
  seen_parameters st no_parameters = record { same = refl }
  seen_parameters st (void_parameters a) = record { same = refl }
  seen_parameters st (some_parameters p ps) =
      seen_then lines lines (read_parameter integers line st p) (read_parameter integers nowhere st (move_parameter nowhere p)) _ _
      (seen_parameter st p)
      (λ r.
      seen_then lines lines (read_more_parameters integers line r.0 ps)
      (read_more_parameters integers nowhere r.0 (move_more_parameters nowhere ps)) _ _
      (seen_more_parameters r.0 ps)
      (λ q. seen_ok lines _ _ (ap (λ (z : Statements). let w : State × Statements = (q.0, z) in w) (followed_without r.1 q.1))))

  -- there has to be a variable
  seen_function_of : (st : State) (body now : Statements) → without_places body ≡ now
      → Seen named (function_of integers line st body) (function_of integers nowhere st now)
  seen_function_of st body now h = by_names (reverse st.variables) where
    by_names : (names : List (List ℕ)) → Seen named
        (elim names as (λ z. Result (List (List ℕ) × Statements) FunctionFault) [ [] ↦ Err NoVariables | x ∷ xs ↦ Ok (x ∷ xs, body) ])
        (elim names as (λ z. Result (List (List ℕ) × Statements) FunctionFault) [ [] ↦ Err NoVariables | x ∷ xs ↦ Ok (x ∷ xs, now) ])
    by_names [] = record { same = refl }
    by_names (x ∷ xs) = seen_ok named _ _ (ap (λ (z : Statements). let w : List (List ℕ) × Statements = (x ∷ xs, z) in w) h)

  -- A function at one place means what it means, without lines and places.
  seen_walk : (f : Function) → Seen named (walk integers line f) (walk integers nowhere (move_function nowhere f))
  seen_walk (function ss f a ps b c is d) =
      let n = width_of (function ss f a ps b c is d) in
      let at : ℕ → Result (List (List ℕ) × Statements) FunctionFault = λ m. read_parameters integers nowhere start_state
      (move_parameters nowhere ps)
      >>= λ p. read_items integers nowhere m false p.0 (move_items nowhere is)
      >>= λ r. function_of integers nowhere r.0 (followed_by p.1 r.1) in
      let P : ℕ → Type 0 = λ m. Seen named (walk integers line (function ss f a ps b c is d)) (at m) in
      subst P (sym (same_width nowhere (function ss f a ps b c is d)))
      (seen_then lines named (read_parameters integers line start_state ps)
      (read_parameters integers nowhere start_state (move_parameters nowhere ps)) _ _
      (seen_parameters start_state ps) (λ p.
      seen_then lines named (read_items integers line n false p.0 is) (read_items integers nowhere n false p.0 (move_items nowhere is)) _ _
      (seen_items integers line n false p.0 is) (λ r. seen_function_of r.0 (followed_by p.1 r.1) _ (followed_without p.1 r.1))))

-- what was seen of an answer that is a value
answer_seen : (r : Result (List (List ℕ) × Statements) FunctionFault) (names : List (List ℕ)) (body : Statements)
    → seen named r ≡ Ok (names, body) → (now : Statements) × (r ≡ Ok (names, now)) × (without_places now ≡ body)
answer_seen (Ok x) names body h =
    let same : named x ≡ (let w : List (List ℕ) × Statements = (names, body) in w) = cc in (
      x.1,
      ap (λ (z : List (List ℕ)). let r : Result (List (List ℕ) × Statements) FunctionFault = Ok (z, x.1) in r)
          (ap (λ (z : List (List ℕ) × Statements). z.0) same),
      ap (λ (z : List (List ℕ) × Statements). z.1) same,
    )
answer_seen (Err e) names body h = cc

-- A function at other places means the same.
stays : (integers : Integers) (to line other : ℕ → ℕ) (f : Function) (names : List (List ℕ)) (body : Statements)
    → walk integers line f ≡ Ok (names, body)
    → Stays integers other (move_function to f) names body
stays integers to line other f names body h =
    let same = (seen_walk integers other (move_function to f)).same ∙ ap (λ (g : Function). walk integers nowhere g) (twice_function to f)
    ∙ sym (seen_walk integers line f).same ∙ ap (λ (r : Result (List (List ℕ) × Statements) FunctionFault). seen named r) h in
    let (now, means, e) = answer_seen (walk integers other (move_function to f)) names (without_places body) same in
    record {
      now = now;
      means = means;
      same = e;
      core = cores_same integers (length names) now ∙ ap (λ (ss : Statements). core_in integers (length names) ss) e
          ∙ sym (cores_same integers (length names) body);
    }

-- Tokens that read as a function read as the same one at other places.
pub tokens_may_move : TokensMayMove
tokens_may_move integers to tokens f r =
    (move_function to f, moved_reads to tokens f r, λ line other names body h. stays integers to line other f names body h)
