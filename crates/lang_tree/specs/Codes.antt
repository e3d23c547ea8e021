-- A code of the trees, by which a proof tells a block's values apart. It is no part of their meaning.
use Rattle.std.specs.Prelude.{◌≡◌, ℕ, zero, suc, ℤ, pos, negsuc, List, [], ◌∷◌, refl}
use Rattle.std.proofs.Common.{ap, ap₂, sym, ◌∙◌}
use base.Stored.{Coded, Gv, gcons, gnil, gnum}
use Rattle.lang_tree.specs.declared.form.Form.{Form}
use Rattle.lang_tree.specs.declared.cond.Rel.{Rel}
use Rattle.lang_tree.specs.declared.cond.Rel.TheVariants.{Eq, Ne, Lt, Le, Gt, Ge}
use Rattle.lang_tree.specs.Tree.{Condition, free, compare, negation, both, either, LoopKind, while_loop, for_loop, do_loop, Jump, breaks}
use Rattle.lang_tree.specs.Tree.{continues, returns, Deed, sets, havocs, wheres, checks}
use Rattle.lang_tree.specs.declared.check.Check.{Check}
use Rattle.lang_tree.specs.declared.check.CheckKind.{CheckKind}
use Rattle.lang_tree.specs.declared.check.CheckKind.TheVariants.{Assert, Divisor, Error, Index, Range}
use Rattle.lang_tree.specs.Tree.{Statement, Statements, set, havoc, assume, only_where, check, branch, loop, jump, label, nil, cons}

-- ---- numbers, names and forms
-- the code of a number
abbrev pub int_code : ℤ → Gv
int_code (pos n) = gcons gnil (gnum n)
int_code (negsuc n) = gnum n

int_from : Gv → ℤ
int_from (gnum n) = negsuc n
int_from (gcons a (gnum n)) = pos n
int_from g = pos 0

int_back : (z : ℤ) → int_from (int_code z) ≡ z
unfolding int_from
int_back (pos n) = refl
int_back (negsuc n) = refl

-- the code of a list of numbers
abbrev pub ints_code : List ℤ → Gv
ints_code [] = gnil
ints_code (z ∷ zs) = gcons (int_code z) (ints_code zs)

ints_from : Gv → List ℤ
ints_from (gcons z zs) = int_from z ∷ ints_from zs
ints_from g = []

ints_back : (zs : List ℤ) → ints_from (ints_code zs) ≡ zs
unfolding ints_from
ints_back [] = refl
ints_back (z ∷ zs) = ap₂ ◌∷◌ (int_back z) (ints_back zs)

-- the code of a name
abbrev pub name_code : List ℕ → Gv
name_code [] = gnil
name_code (b ∷ bs) = gcons (gnum b) (name_code bs)

name_from : Gv → List ℕ
name_from (gcons (gnum b) bs) = b ∷ name_from bs
name_from g = []

name_back : (bs : List ℕ) → name_from (name_code bs) ≡ bs
unfolding name_from
name_back [] = refl
name_back (b ∷ bs) = ap (λ r. b ∷ r) (name_back bs)

-- the code of a form
abbrev pub form_code : Form → Gv
form_code f = gcons (int_code f.constant) (ints_code f.coeffs)

form_from : Gv → Form
form_from (gcons c cs) = record { coeffs = ints_from cs; constant = int_from c }
form_from g = record { coeffs = []; constant = pos 0 }

form_back : (f : Form) → form_from (form_code f) ≡ f
unfolding form_from
form_back f = ap₂ (λ cs c. let r : Form = record { coeffs = cs; constant = c } in r) (ints_back f.coeffs) (int_back f.constant)

-- ---- conditions
-- the code of a relation
abbrev pub rel_code : Rel → Gv
rel_code Eq = gnum 0
rel_code Ne = gnum 1
rel_code Lt = gnum 2
rel_code Le = gnum 3
rel_code Gt = gnum 4
rel_code Ge = gnum 5

rel_from : Gv → Rel
rel_from (gnum zero) = Eq
rel_from (gnum (suc zero)) = Ne
rel_from (gnum (suc (suc zero))) = Lt
rel_from (gnum (suc (suc (suc zero)))) = Le
rel_from (gnum (suc (suc (suc (suc zero))))) = Gt
rel_from g = Ge

rel_back : (r : Rel) → rel_from (rel_code r) ≡ r
unfolding rel_from
rel_back Eq = refl
rel_back Ne = refl
rel_back Lt = refl
rel_back Le = refl
rel_back Gt = refl
rel_back Ge = refl

-- the code of a condition
abbrev pub condition_code : Condition → Gv
condition_code free = gnil
condition_code (compare r f) = gcons (gnum 0) (gcons (rel_code r) (form_code f))
condition_code (negation c) = gcons (gnum 1) (condition_code c)
condition_code (both c d) = gcons (gnum 2) (gcons (condition_code c) (condition_code d))
condition_code (either c d) = gcons (gnum 3) (gcons (condition_code c) (condition_code d))

condition_from : Gv → Condition
condition_from (gcons (gnum zero) (gcons r f)) = compare (rel_from r) (form_from f)
condition_from (gcons (gnum (suc zero)) c) = negation (condition_from c)
condition_from (gcons (gnum (suc (suc zero))) (gcons c d)) = both (condition_from c) (condition_from d)
condition_from (gcons (gnum (suc (suc (suc k)))) (gcons c d)) = either (condition_from c) (condition_from d)
condition_from g = free

condition_back : (c : Condition) → condition_from (condition_code c) ≡ c
unfolding condition_from
condition_back free = refl
condition_back (compare r f) = ap₂ compare (rel_back r) (form_back f)
condition_back (negation c) = ap negation (condition_back c)
condition_back (both c d) = ap₂ both (condition_back c) (condition_back d)
condition_back (either c d) = ap₂ either (condition_back c) (condition_back d)

-- ---- checks
-- the code of a kind of check
abbrev pub check_kind_code : CheckKind → Gv
check_kind_code Assert = gnum 0
check_kind_code Divisor = gnum 1
check_kind_code Error = gnum 2
check_kind_code Index = gnum 3
check_kind_code Range = gnum 4

kind_at : ℕ → CheckKind
kind_at zero = Assert
kind_at (suc zero) = Divisor
kind_at (suc (suc zero)) = Error
kind_at (suc (suc (suc zero))) = Index
kind_at n = Range

check_kind_from : Gv → CheckKind
check_kind_from (gnum n) = kind_at n
check_kind_from g = Assert

check_kind_back : (k : CheckKind) → check_kind_from (check_kind_code k) ≡ k
unfolding check_kind_from kind_at
check_kind_back Assert = refl
check_kind_back Divisor = refl
check_kind_back Error = refl
check_kind_back Index = refl
check_kind_back Range = refl

-- the code of a check
abbrev pub check_code : Check → Gv
check_code about = gcons (check_kind_code about.kind) (gnum about.at)

check_from : Gv → Check
check_from (gcons kind (gnum at)) = record { kind = check_kind_from kind; at = at }
check_from g = record { kind = Assert; at = 0 }

check_back : (about : Check) → check_from (check_code about) ≡ about
unfolding check_from
check_back about = ap (λ k. let r : Check = record { kind = k; at = about.at } in r) (check_kind_back about.kind)

-- ---- deeds, loops and jumps
-- the code of a deed
abbrev pub deed_code : Deed → Gv
deed_code (sets var form line) = gcons (gnum 0) (gcons (gnum var) (gcons (form_code form) (gnum line)))
deed_code (havocs var line) = gcons (gnum 1) (gcons (gnum var) (gnum line))
deed_code (wheres cond line) = gcons (gnum 2) (gcons (condition_code cond) (gnum line))
deed_code (checks about cond line) = gcons (gnum 3) (gcons (check_code about) (gcons (condition_code cond) (gnum line)))

deed_from : Gv → Deed
deed_from (gcons (gnum zero) (gcons (gnum var) (gcons form (gnum line)))) = sets var (form_from form) line
deed_from (gcons (gnum (suc zero)) (gcons (gnum var) (gnum line))) = havocs var line
deed_from (gcons (gnum (suc (suc zero))) (gcons cond (gnum line))) = wheres (condition_from cond) line
deed_from (gcons (gnum (suc (suc (suc k)))) (gcons about (gcons cond (gnum line)))) = checks (check_from about) (condition_from cond) line
deed_from g = havocs 0 0

deed_back : (d : Deed) → deed_from (deed_code d) ≡ d
unfolding deed_from
deed_back (sets var form line) = ap (λ f. sets var f line) (form_back form)
deed_back (havocs var line) = refl
deed_back (wheres cond line) = ap (λ c. wheres c line) (condition_back cond)
deed_back (checks about cond line) = ap₂ (λ a c. checks a c line) (check_back about) (condition_back cond)

-- the code of deeds
abbrev pub deeds_code : List Deed → Gv
deeds_code [] = gnil
deeds_code (d ∷ ds) = gcons (deed_code d) (deeds_code ds)

deeds_from : Gv → List Deed
deeds_from (gcons d ds) = deed_from d ∷ deeds_from ds
deeds_from g = []

deeds_back : (ds : List Deed) → deeds_from (deeds_code ds) ≡ ds
unfolding deeds_from
deeds_back [] = refl
deeds_back (d ∷ ds) = ap₂ ◌∷◌ (deed_back d) (deeds_back ds)

-- two lists of deeds with one code are the same
pub deeds_inj : (x y : List Deed) → deeds_code x ≡ deeds_code y → x ≡ y
deeds_inj x y e = sym (deeds_back x) ∙ ap deeds_from e ∙ deeds_back y

-- deeds are told apart by their codes
abbrev pub coded_deeds : Coded (List Deed)
coded_deeds = record { code = deeds_code; inj = deeds_inj }

-- the code of a kind of loop
abbrev pub kind_code : LoopKind → Gv
kind_code (while_loop p) = gcons (gnum 0) (deeds_code p)
kind_code (for_loop p g) = gcons (gnum 1) (gcons (deeds_code p) (deeds_code g))
kind_code (do_loop p) = gcons (gnum 2) (deeds_code p)

kind_from : Gv → LoopKind
kind_from (gcons (gnum zero) p) = while_loop (deeds_from p)
kind_from (gcons (gnum (suc zero)) (gcons p g)) = for_loop (deeds_from p) (deeds_from g)
kind_from (gcons (gnum (suc (suc k))) p) = do_loop (deeds_from p)
kind_from g = do_loop []

kind_back : (k : LoopKind) → kind_from (kind_code k) ≡ k
unfolding kind_from
kind_back (while_loop p) = ap while_loop (deeds_back p)
kind_back (for_loop p g) = ap₂ for_loop (deeds_back p) (deeds_back g)
kind_back (do_loop p) = ap do_loop (deeds_back p)

-- the code of a jump
abbrev pub jump_code : Jump → Gv
jump_code breaks = gnum 0
jump_code continues = gnum 1
jump_code returns = gnum 2

jump_from : Gv → Jump
jump_from (gnum zero) = breaks
jump_from (gnum (suc zero)) = continues
jump_from g = returns

jump_back : (j : Jump) → jump_from (jump_code j) ≡ j
unfolding jump_from
jump_back breaks = refl
jump_back continues = refl
jump_back returns = refl

-- ---- statements
abbrev mutual
  -- the code of a statement
  pub statement_code : Statement → Gv
  statement_code (set var form line) = gcons (gnum 0) (gcons (gnum var) (gcons (form_code form) (gnum line)))
  statement_code (havoc var line) = gcons (gnum 1) (gcons (gnum var) (gnum line))
  statement_code (assume cond line) = gcons (gnum 2) (gcons (condition_code cond) (gnum line))
  statement_code (branch cond first second line) =
      gcons (gnum 3) (gcons (condition_code cond) (gcons (statements_code first) (gcons (statements_code second) (gnum line))))
  statement_code (loop kind cond body line) =
      gcons (gnum 4) (gcons (kind_code kind) (gcons (condition_code cond) (gcons (statements_code body) (gnum line))))
  statement_code (jump kind line) = gcons (gnum 5) (gcons (jump_code kind) (gnum line))
  statement_code (label name line) = gcons (gnum 6) (gcons (name_code name) (gnum line))
  statement_code (only_where cond line) = gcons (gnum 7) (gcons (condition_code cond) (gnum line))
  statement_code (check about cond line) = gcons (gnum 8) (gcons (check_code about) (gcons (condition_code cond) (gnum line)))

  -- the code of a list of statements
  pub statements_code : Statements → Gv
  statements_code nil = gnil
  statements_code (cons s rest) = gcons (statement_code s) (statements_code rest)

mutual
  statement_from : Gv → Statement
  statement_from (gcons (gnum zero) (gcons (gnum var) (gcons form (gnum line)))) = set var (form_from form) line
  statement_from (gcons (gnum (suc zero)) (gcons (gnum var) (gnum line))) = havoc var line
  statement_from (gcons (gnum (suc (suc zero))) (gcons cond (gnum line))) = assume (condition_from cond) line
  statement_from (gcons (gnum (suc (suc (suc zero)))) (gcons cond (gcons first (gcons second (gnum line))))) =
      branch (condition_from cond) (statements_from first) (statements_from second) line
  statement_from (gcons (gnum (suc (suc (suc (suc zero))))) (gcons kind (gcons cond (gcons body (gnum line))))) =
      loop (kind_from kind) (condition_from cond) (statements_from body) line
  statement_from (gcons (gnum (suc (suc (suc (suc (suc zero)))))) (gcons kind (gnum line))) = jump (jump_from kind) line
  statement_from (gcons (gnum (suc (suc (suc (suc (suc (suc zero))))))) (gcons name (gnum line))) = label (name_from name) line
  statement_from (gcons (gnum (suc (suc (suc (suc (suc (suc (suc zero)))))))) (gcons cond (gnum line))) =
      only_where (condition_from cond) line
  statement_from (gcons (gnum (suc (suc (suc (suc (suc (suc (suc (suc k))))))))) (gcons about (gcons cond (gnum line)))) =
      check (check_from about) (condition_from cond) line
  statement_from g = havoc 0 0

  statements_from : Gv → Statements
  statements_from (gcons s rest) = cons (statement_from s) (statements_from rest)
  statements_from g = nil

mutual
  unfolding statement_from statements_from

  statement_back : (s : Statement) → statement_from (statement_code s) ≡ s
  statement_back (set var form line) = ap (λ f. set var f line) (form_back form)
  statement_back (havoc var line) = refl
  statement_back (assume cond line) = ap (λ c. assume c line) (condition_back cond)
  statement_back (branch cond first second line) =
      ap₂ (λ c f. branch c f (statements_from (statements_code second)) line) (condition_back cond) (statements_back first)
      ∙ ap (λ s. branch cond first s line) (statements_back second)
  statement_back (loop kind cond body line) =
      ap₂ (λ k c. loop k c (statements_from (statements_code body)) line) (kind_back kind) (condition_back cond)
      ∙ ap (λ b. loop kind cond b line) (statements_back body)
  statement_back (jump kind line) = ap (λ j. jump j line) (jump_back kind)
  statement_back (label name line) = ap (λ n. label n line) (name_back name)
  statement_back (only_where cond line) = ap (λ c. only_where c line) (condition_back cond)
  statement_back (check about cond line) = ap₂ (λ a c. check a c line) (check_back about) (condition_back cond)

  statements_back : (ss : Statements) → statements_from (statements_code ss) ≡ ss
  statements_back nil = refl
  statements_back (cons s rest) = ap₂ cons (statement_back s) (statements_back rest)

-- two lists of statements with one code are the same
pub statements_inj : (x y : Statements) → statements_code x ≡ statements_code y → x ≡ y
statements_inj x y e = sym (statements_back x) ∙ ap statements_from e ∙ statements_back y

-- statements are told apart by their codes
abbrev pub coded_statements : Coded Statements
coded_statements = record { code = statements_code; inj = statements_inj }
