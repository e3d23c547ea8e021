-- Which trees are programs within the limits of the language.
use Rattle.std.specs.Prelude.{◌&&◌, ◌+◌, ℕ, Bool, true, false, length, nat_abs, nat_lt, nat_le}
use Rattle.std.specs.List.{list_all}
use Rattle.lang_tree.specs.Numbers.{is_number, are_numbers}
use Rattle.lang_tree.specs.declared.form.Form.{Form}
use Rattle.lang_tree.specs.declared.change.Change.{Change}
use Rattle.lang_tree.specs.declared.change.Change.TheVariants as change
use Rattle.lang_tree.specs.Tree.{Condition, free, compare, negation, both, either, leaf_count, LoopKind, while_loop, for_loop, do_loop}
use Rattle.lang_tree.specs.Tree.{Deed, sets, havocs, wheres, checks, Jump, breaks, continues, returns}
use Rattle.lang_tree.specs.Tree.{Statement, Statements, set, havoc, assume, only_where, check, branch, loop, jump, label}
use Rattle.lang_tree.specs.Tree.{nil, cons, nodes_in}
use Rattle.lang_tree.specs.declared.limits.TheConstants.{MOST_VARIABLES, MOST_HIDDEN}

-- numbers within 2^63 - 1
abbrev pub has_numbers : Form → Bool
has_numbers f = are_numbers f.coeffs && is_number f.constant

-- no coefficients but for n variables, and numbers within 2^63 - 1
abbrev pub is_form : ℕ → Form → Bool
is_form n f = nat_le (length f.coeffs) n && has_numbers f

-- a form that is compared with 0: adding 1 to its constant, or to the negated one, stays within 2^63 - 1
abbrev pub is_compared : ℕ → Form → Bool
is_compared n f = is_form n f && nat_le (nat_abs f.constant + 1) 9223372036854775807

-- each form that is compared is one over n variables
abbrev pub is_condition : ℕ → Condition → Bool
is_condition n free = true
is_condition n (compare rel form) = is_compared n form
is_condition n (negation c) = is_condition n c
is_condition n (both c d) = is_condition n c && is_condition n d
is_condition n (either c d) = is_condition n c && is_condition n d

-- such a condition with at most 64 leaves
abbrev pub is_tested : ℕ → Condition → Bool
is_tested n c = nat_le (leaf_count c) 64 && is_condition n c

-- variable and form of a change are over n variables
abbrev pub is_change : ℕ → Change → Bool
is_change n change.Unchanged = true
is_change n (change.Set var form line) = nat_lt var n && is_form n form
is_change n (change.Havoc var line) = nat_lt var n

-- variable, form and condition of a deed are over n variables
abbrev pub is_deed : ℕ → Deed → Bool
is_deed n (sets var form line) = nat_lt var n && is_form n form
is_deed n (havocs var line) = nat_lt var n
is_deed n (wheres cond line) = is_tested n cond
is_deed n (checks about cond line) = is_tested n cond

-- so are those of a loop's prelude and change
abbrev pub is_kind : ℕ → LoopKind → Bool
is_kind n (while_loop prelude) = list_all (is_deed n) prelude
is_kind n (for_loop prelude change) = list_all (is_deed n) prelude && list_all (is_deed n) change
is_kind n (do_loop prelude) = list_all (is_deed n) prelude

-- a `break` and a `continue` stand in a loop's body, and `inside` says whether this is one; a `return` stands anywhere
abbrev pub is_jump : (inside : Bool) → Jump → Bool
is_jump inside breaks = inside
is_jump inside continues = inside
is_jump inside returns = true

abbrev mutual
  -- variables, forms and conditions are over n variables; a jump stands where it may
  pub is_statement : ℕ → (inside : Bool) → Statement → Bool
  is_statement n inside (set var form line) = nat_lt var n && is_form n form
  is_statement n inside (havoc var line) = nat_lt var n
  is_statement n inside (assume cond line) = is_tested n cond
  is_statement n inside (only_where cond line) = is_tested n cond
  is_statement n inside (check about cond line) = is_tested n cond
  is_statement n inside (branch cond first second line) = is_tested n cond
      && (are_statements n inside first && are_statements n inside second)
  is_statement n inside (loop kind cond body line) = is_tested n cond && (is_kind n kind && are_statements n true body)
  is_statement n inside (jump kind line) = is_jump inside kind
  is_statement n inside (label name line) = true

  -- each statement is such a one
  pub are_statements : ℕ → (inside : Bool) → Statements → Bool
  are_statements n inside nil = true
  are_statements n inside (cons s rest) = is_statement n inside s && are_statements n inside rest

-- at least one variable and no more than there may be, and at most 4,096 statements over these and the hidden ones, with jumps where they
-- may stand
abbrev pub is_program : ℕ → Statements → Bool
is_program n body = nat_le 1 n && (nat_le n MOST_VARIABLES && (nat_le (nodes_in body) 4096 && are_statements (n + MOST_HIDDEN) false body))
