-- Ring identities of rational numbers, decided by computing.
--  ring ρ (search reads depth 40) refl     proves an equation between +ℚ, -ℚ, *ℚ, neg_ℚ, zero_ℚ, one_ℚ, `whole` at a written-out number,
--  ◌/ℚ◌ where ρ has the divisor's inverse, and the terms of the list ρ
-- `search reads` reads the two sides as an expression over ρ, whose polynomial is computed; `refl` is accepted where nothing is left of it;
-- where something is, the refusal shows what.
use Rattle.std.proofs.Common.{◌≡◌, ℕ, zero, suc, Bool, true, false, T, List, [], ◌∷◌, ℤ, pos, negsuc, ◌+ℤ◌, ◌*ℤ◌, refl, ap, sym, ◌∙◌, subst}
use Prim.Native.Nat.{compare, Ordering}
use lib.Dec.{compare_is_eq, eqb, eqb→eq}
use Rattle.base_numbers.specs.Rational.{ℚ, whole, zero_ℚ, one_ℚ, ◌+ℚ◌, ◌*ℚ◌, neg_ℚ, ◌-ℚ◌, inv_ℚ, ◌/ℚ◌}
use Rattle.base_numbers.proofs.rational.Laws.{+ℚ_comm, +ℚ_assoc, +ℚ_idr, +ℚ_idl, +ℚ_invr, *ℚ_comm, *ℚ_assoc, *ℚ_idr, *ℚ_idl, *ℚ-+ℚ, +ℚ-*ℚ}
use Rattle.base_numbers.proofs.rational.Laws.{*ℚ-zero, zero-*ℚ, neg_ℚ-*ℚ, sub_ℚ_is, div_ℚ_is, whole-add, whole-mul, whole-neg, whole-zero}
use Rattle.base_numbers.proofs.rational.Laws.{whole-one}

-- ---- expressions, and how a number is read as one
pub data Expr : Type 0 where
  var : ℕ → Expr
  int : ℤ → Expr
  add sub mul : Expr → Expr → Expr
  neg : Expr → Expr

-- a stands in ρ
pub data StandsAt : List ℚ → ℚ → Type 0 where
  here : {a : ℚ} {ρ : List ℚ} → StandsAt (a ∷ ρ) a
  there : {a b : ℚ} {ρ : List ℚ} → StandsAt ρ a → StandsAt (b ∷ ρ) a

-- this computes to true at a written-out number, and is stuck at a variable
abbrev pub is_numeral : ℤ → Bool
is_numeral (pos n) = eqb n n
is_numeral (negsuc n) = eqb n n

pub data Reads (ρ : List ℚ) : ℚ → Type 0 where
  read_add : {a b : ℚ} → Reads ρ a → Reads ρ b → Reads ρ (a +ℚ b)
  read_sub : {a b : ℚ} → Reads ρ a → Reads ρ b → Reads ρ (a -ℚ b)
  read_mul : {a b : ℚ} → Reads ρ a → Reads ρ b → Reads ρ (a *ℚ b)
  read_neg : {a : ℚ} → Reads ρ a → Reads ρ (neg_ℚ a)
  read_div : {a : ℚ} (b : ℚ) → Reads ρ a → Reads ρ (inv_ℚ b) → Reads ρ (a /ℚ b)
  read_zero : Reads ρ zero_ℚ
  read_one : Reads ρ one_ℚ
  read_whole : (z : ℤ) → T (is_numeral z) → Reads ρ (whole z)
  read_var : {a : ℚ} → StandsAt ρ a → Reads ρ a

-- closes the test of a numeral
pub numeral : Unit {0}
numeral = tt

pub ruleset reads = (read_add, read_sub, read_mul, read_neg, read_div, read_zero, read_one, read_var, read_whole, numeral, here, there)

abbrev pub place : {ρ : List ℚ} {a : ℚ} → StandsAt ρ a → ℕ
place here = 0
place (there h) = suc (place h)

abbrev pub expr : {ρ : List ℚ} {a : ℚ} → Reads ρ a → Expr
expr (read_add r s) = add (expr r) (expr s)
expr (read_sub r s) = sub (expr r) (expr s)
expr (read_mul r s) = mul (expr r) (expr s)
expr (read_neg r) = neg (expr r)
expr (read_div b r s) = mul (expr r) (expr s)
expr read_zero = int (pos 0)
expr read_one = int (pos 1)
expr (read_whole z t) = int z
expr (read_var h) = var (place h)

abbrev pub look : List ℚ → ℕ → ℚ
look [] n = zero_ℚ
look (a ∷ ρ) zero = a
look (a ∷ ρ) (suc n) = look ρ n

abbrev pub eval : List ℚ → Expr → ℚ
eval ρ (var i) = look ρ i
eval ρ (int z) = whole z
eval ρ (add a b) = eval ρ a +ℚ eval ρ b
eval ρ (sub a b) = eval ρ a -ℚ eval ρ b
eval ρ (mul a b) = eval ρ a *ℚ eval ρ b
eval ρ (neg a) = neg_ℚ (eval ρ a)

look-place : {ρ : List ℚ} {a : ℚ} (h : StandsAt ρ a) → look ρ (place h) ≡ a
look-place here = refl
look-place (there h) = look-place h

-- the value of an expression read from a number is the number
pub eval-expr : {ρ : List ℚ} {a : ℚ} (r : Reads ρ a) → eval ρ (expr r) ≡ a
eval-expr {ρ} (read_add {a = x} {b = y} r s) = ap (λ z. z +ℚ eval ρ (expr s)) (eval-expr r) ∙ ap (λ z. x +ℚ z) (eval-expr s)
eval-expr {ρ} (read_sub {a = x} {b = y} r s) = ap (λ z. z -ℚ eval ρ (expr s)) (eval-expr r) ∙ ap (λ z. x -ℚ z) (eval-expr s)
eval-expr {ρ} (read_mul {a = x} {b = y} r s) = ap (λ z. z *ℚ eval ρ (expr s)) (eval-expr r) ∙ ap (λ z. x *ℚ z) (eval-expr s)
eval-expr (read_neg r) = ap neg_ℚ (eval-expr r)
eval-expr {ρ} (read_div {a = x} y r s) = ap (λ z. z *ℚ eval ρ (expr s)) (eval-expr r) ∙ ap (λ z. x *ℚ z) (eval-expr s) ∙ sym (div_ℚ_is x y)
eval-expr read_zero = whole-zero
eval-expr read_one = whole-one
eval-expr (read_whole z t) = refl
eval-expr (read_var h) = look-place h

-- ---- polynomials: a sum of terms, each an integer times variables in order
pub data Term : Type 0 where
  term : ℤ → List ℕ → Term

abbrev pub order : List ℕ → List ℕ → Ordering
order [] [] = Ordering.eq
order [] (j ∷ n) = Ordering.lt
order (i ∷ m) [] = Ordering.gt
order (i ∷ m) (j ∷ n) = elim (compare i j) [ Ordering.lt ↦ Ordering.lt | Ordering.eq ↦ order m n | Ordering.gt ↦ Ordering.gt ]

abbrev pub insert : ℕ → List ℕ → List ℕ
insert i [] = i ∷ []
insert i (j ∷ n) = elim (compare i j) [ Ordering.lt ↦ i ∷ j ∷ n | Ordering.eq ↦ i ∷ j ∷ n | Ordering.gt ↦ j ∷ insert i n ]

abbrev pub times : List ℕ → List ℕ → List ℕ
times [] n = n
times (i ∷ m) n = insert i (times m n)

abbrev pub put : ℤ → List ℕ → List Term → List Term
put c m [] = term c m ∷ []
put c m (term d n ∷ q) =
    elim (order m n) [ Ordering.lt ↦ term c m ∷ term d n ∷ q | Ordering.eq ↦ term (c +ℤ d) n ∷ q | Ordering.gt ↦ term d n ∷ put c m q ]

abbrev pub plus : List Term → List Term → List Term
plus [] q = q
plus (term c m ∷ p) q = put c m (plus p q)

abbrev pub scale : ℤ → List ℕ → List Term → List Term
scale c m [] = []
scale c m (term d n ∷ q) = term (c *ℤ d) (times m n) ∷ scale c m q

abbrev pub product : List Term → List Term → List Term
product [] q = []
product (term c m ∷ p) q = plus (scale c m q) (product p q)

abbrev pub poly : Expr → List Term
poly (var i) = term (pos 1) (i ∷ []) ∷ []
poly (int z) = term z [] ∷ []
poly (add a b) = plus (poly a) (poly b)
poly (sub a b) = plus (scale (negsuc 0) [] (poly b)) (poly a)
poly (mul a b) = product (poly a) (poly b)
poly (neg a) = scale (negsuc 0) [] (poly a)

abbrev pub is_zero : ℤ → Bool
is_zero (pos zero) = true
is_zero (pos (suc n)) = false
is_zero (negsuc n) = false

-- without the terms that vanish
abbrev pub clean : List Term → List Term
clean [] = []
clean (term c m ∷ p) = elim (is_zero c) [ true ↦ clean p | false ↦ term c m ∷ clean p ]

-- what is left of an expression, its terms sorted: nothing, if it is 0
abbrev pub leftover : Expr → List Term
leftover e = clean (poly e)

abbrev pub all_zero : List Term → Bool
all_zero [] = true
all_zero (term c m ∷ p) = elim (is_zero c) [ true ↦ all_zero p | false ↦ false ]

same_compare : (i j : ℕ) → compare i j ≡ Ordering.eq → i ≡ j
same_compare i j f = eqb→eq i j (subst (λ (o : Ordering). T (compare_is_eq o)) (sym f) tt)

-- ---- the polynomial's value is the expression's
module _ (ρ : List ℚ) where
  abbrev pub mono : List ℕ → ℚ
  mono [] = one_ℚ
  mono (i ∷ m) = look ρ i *ℚ mono m

  abbrev pub value : List Term → ℚ
  value [] = zero_ℚ
  value (term c m ∷ p) = whole c *ℚ mono m +ℚ value p

  order-eq : (m n : List ℕ) → order m n ≡ Ordering.eq → m ≡ n
  order-eq [] [] e = refl
  order-eq [] (j ∷ n) e = cc
  order-eq (i ∷ m) [] e = cc
  order-eq (i ∷ m) (j ∷ n) e = by (compare i j) refl e (order-eq m n)
    where
      by : (o : Ordering) → compare i j ≡ o → elim o [ Ordering.lt ↦ Ordering.lt | Ordering.eq ↦ order m n | Ordering.gt ↦ Ordering.gt ]
          ≡ Ordering.eq → (order m n ≡ Ordering.eq → m ≡ n) → i ∷ m ≡ j ∷ n
      by Ordering.lt f e h = cc
      by Ordering.eq f e h = let x = same_compare i j f in let y = h e in cc
      by Ordering.gt f e h = cc

  left_comm : (a b c : ℚ) → a *ℚ (b *ℚ c) ≡ b *ℚ (a *ℚ c)
  left_comm a b c = sym (*ℚ_assoc a b c) ∙ ap (λ x. x *ℚ c) (*ℚ_comm a b) ∙ *ℚ_assoc b a c

  add_left_comm : (a b c : ℚ) → a +ℚ (b +ℚ c) ≡ b +ℚ (a +ℚ c)
  add_left_comm a b c = sym (+ℚ_assoc a b c) ∙ ap (λ x. x +ℚ c) (+ℚ_comm a b) ∙ +ℚ_assoc b a c

  mono-insert : (i : ℕ) (n : List ℕ) → mono (insert i n) ≡ look ρ i *ℚ mono n
  mono-insert i [] = refl
  mono-insert i (j ∷ n) = by (compare i j) (mono-insert i n)
    where
      by : (o : Ordering) → mono (insert i n) ≡ look ρ i *ℚ mono n → mono
          (elim o [ Ordering.lt ↦ i ∷ j ∷ n | Ordering.eq ↦ i ∷ j ∷ n | Ordering.gt ↦ j ∷ insert i n ]) ≡ look ρ i *ℚ (look ρ j *ℚ mono n)
      by Ordering.lt h = refl
      by Ordering.eq h = refl
      by Ordering.gt h = ap (λ x. look ρ j *ℚ x) h ∙ left_comm (look ρ j) (look ρ i) (mono n)

  mono-times : (m n : List ℕ) → mono (times m n) ≡ mono m *ℚ mono n
  mono-times [] n = sym (*ℚ_idl (mono n))
  mono-times (i ∷ m) n = mono-insert i (times m n) ∙ ap (λ x. look ρ i *ℚ x) (mono-times m n) ∙ sym (*ℚ_assoc (look ρ i) (mono m) (mono n))

  -- a polynomial with a term put in has its value plus the term's
  pub value-put : (c : ℤ) (m : List ℕ) (q : List Term) → value (put c m q) ≡ whole c *ℚ mono m +ℚ value q
  value-put c m [] = refl
  value-put c m (term d n ∷ q) = by (order m n) refl (value-put c m q)
    where
      by : (o : Ordering) → order m n ≡ o → value (put c m q) ≡ whole c *ℚ mono m +ℚ value q
          → value (elim o [
            | Ordering.lt ↦ term c m ∷ term d n ∷ q
            | Ordering.eq ↦ term (c +ℤ d) n ∷ q
            | Ordering.gt ↦ term d n
                ∷ put c m q
          ]) ≡ whole c *ℚ mono m +ℚ (whole d *ℚ mono n +ℚ value q)
      by Ordering.lt e h = refl
      by Ordering.eq e h =
          ap (λ x. x *ℚ mono n +ℚ value q) (whole-add c d) ∙ ap (λ x. x +ℚ value q) (+ℚ-*ℚ (whole c) (whole d) (mono n))
          ∙ +ℚ_assoc (whole c *ℚ mono n) (whole d *ℚ mono n) (value q)
          ∙ ap (λ x. whole c *ℚ mono x +ℚ (whole d *ℚ mono n +ℚ value q)) (sym (order-eq m n e))
      by Ordering.gt e h = ap (λ x. whole d *ℚ mono n +ℚ x) h ∙ add_left_comm (whole d *ℚ mono n) (whole c *ℚ mono m) (value q)

  -- the value of a sum of polynomials is the sum of their values
  pub value-plus : (p q : List Term) → value (plus p q) ≡ value p +ℚ value q
  value-plus [] q = sym (+ℚ_idl (value q))
  value-plus (term c m ∷ p) q = value-put c m (plus p q) ∙ ap (λ x. whole c *ℚ mono m +ℚ x) (value-plus p q)
      ∙ sym (+ℚ_assoc (whole c *ℚ mono m) (value p) (value q))

  regroup : (a b c d : ℚ) → (a *ℚ b) *ℚ (c *ℚ d) ≡ (a *ℚ c) *ℚ (b *ℚ d)
  regroup a b c d = *ℚ_assoc a b (c *ℚ d) ∙ ap (λ x. a *ℚ x) (left_comm b c d) ∙ sym (*ℚ_assoc a c (b *ℚ d))

  -- the value of a polynomial times a term is the product of their values
  pub value-scale : (c : ℤ) (m : List ℕ) (q : List Term) → value (scale c m q) ≡ (whole c *ℚ mono m) *ℚ value q
  value-scale c m [] = sym (*ℚ-zero (whole c *ℚ mono m))
  value-scale c m (term d n ∷ q) =
      ap (λ x. x *ℚ mono (times m n) +ℚ value (scale c m q)) (whole-mul c d)
      ∙ ap (λ x. (whole c *ℚ whole d) *ℚ x +ℚ value (scale c m q)) (mono-times m n)
      ∙ ap (λ x. x +ℚ value (scale c m q)) (regroup (whole c) (whole d) (mono m) (mono n))
      ∙ ap (λ x. (whole c *ℚ mono m) *ℚ (whole d *ℚ mono n) +ℚ x) (value-scale c m q)
      ∙ sym (*ℚ-+ℚ (whole c *ℚ mono m) (whole d *ℚ mono n) (value q))

  value-product : (p q : List Term) → value (product p q) ≡ value p *ℚ value q
  value-product [] q = sym (zero-*ℚ (value q))
  value-product (term c m ∷ p) q =
      value-plus (scale c m q) (product p q) ∙ ap (λ x. x +ℚ value (product p q)) (value-scale c m q)
      ∙ ap (λ x. (whole c *ℚ mono m) *ℚ value q +ℚ x) (value-product p q)
      ∙ sym (+ℚ-*ℚ (whole c *ℚ mono m) (value p) (value q))

  value-minus : (q : List Term) → value (scale (negsuc 0) [] q) ≡ neg_ℚ (value q)
  value-minus q =
      value-scale (negsuc 0) [] q ∙ ap (λ x. x *ℚ value q) (*ℚ_idr (whole (negsuc 0)) ∙ whole-neg (pos 1) ∙ ap neg_ℚ whole-one)
      ∙ neg_ℚ-*ℚ one_ℚ (value q) ∙ ap neg_ℚ (*ℚ_idl (value q))

  -- the polynomial of an expression has its value
  pub value-poly : (e : Expr) → value (poly e) ≡ eval ρ e
  value-poly (var i) = +ℚ_idr (whole (pos 1) *ℚ (look ρ i *ℚ one_ℚ)) ∙ ap (λ x. x *ℚ (look ρ i *ℚ one_ℚ)) whole-one
      ∙ *ℚ_idl (look ρ i *ℚ one_ℚ) ∙ *ℚ_idr (look ρ i)
  value-poly (int z) = +ℚ_idr (whole z *ℚ one_ℚ) ∙ *ℚ_idr (whole z)
  value-poly (add a b) = value-plus (poly a) (poly b) ∙ ap (λ x. x +ℚ value (poly b)) (value-poly a)
      ∙ ap (λ x. eval ρ a +ℚ x) (value-poly b)
  value-poly (sub a b) =
      value-plus (scale (negsuc 0) [] (poly b)) (poly a) ∙ ap (λ x. x +ℚ value (poly a)) (value-minus (poly b))
      ∙ ap (λ x. neg_ℚ x +ℚ value (poly a)) (value-poly b) ∙ ap (λ x. neg_ℚ (eval ρ b) +ℚ x) (value-poly a)
      ∙ +ℚ_comm (neg_ℚ (eval ρ b)) (eval ρ a) ∙ sym (sub_ℚ_is (eval ρ a) (eval ρ b))
  value-poly (mul a b) = value-product (poly a) (poly b) ∙ ap (λ x. x *ℚ value (poly b)) (value-poly a)
      ∙ ap (λ x. eval ρ a *ℚ x) (value-poly b)
  value-poly (neg a) = value-minus (poly a) ∙ ap neg_ℚ (value-poly a)

  -- a polynomial all of whose coefficients are 0 has the value 0
  pub value-all_zero : (p : List Term) → T (all_zero p) → value p ≡ zero_ℚ
  value-all_zero [] t = refl
  value-all_zero (term (pos zero) m ∷ p) t =
      ap (λ x. x *ℚ mono m +ℚ value p) whole-zero ∙ ap (λ x. x +ℚ value p) (zero-*ℚ (mono m)) ∙ +ℚ_idl (value p) ∙ value-all_zero p t
  value-all_zero (term (pos (suc n)) m ∷ p) t = absurd t
  value-all_zero (term (negsuc n) m ∷ p) t = absurd t

  value-clean : (p : List Term) → value (clean p) ≡ value p
  value-clean [] = refl
  value-clean (term (pos zero) m ∷ p) =
      value-clean p ∙ sym (ap (λ x. x *ℚ mono m +ℚ value p) whole-zero ∙ ap (λ x. x +ℚ value p) (zero-*ℚ (mono m)) ∙ +ℚ_idl (value p))
  value-clean (term (pos (suc n)) m ∷ p) = ap (λ x. whole (pos (suc n)) *ℚ mono m +ℚ x) (value-clean p)
  value-clean (term (negsuc n) m ∷ p) = ap (λ x. whole (negsuc n) *ℚ mono m +ℚ x) (value-clean p)

-- ---- the theorems
is_zero_by : (ρ : List ℚ) {a : ℚ} (r : Reads ρ a) → leftover (expr r) ≡ [] → a ≡ zero_ℚ
is_zero_by ρ r e = sym (eval-expr r) ∙ sym (value-poly ρ (expr r)) ∙ sym (value-clean ρ (poly (expr r))) ∙ ap (λ p. value ρ p) e

-- numbers with the difference 0 are equal
pub same_from_zero : {a b : ℚ} → a -ℚ b ≡ zero_ℚ → a ≡ b
same_from_zero {a} {b} e =
    sym (+ℚ_idr a) ∙ ap (λ x. a +ℚ x) (sym (+ℚ_comm (neg_ℚ b) b ∙ +ℚ_invr b)) ∙ sym (+ℚ_assoc a (neg_ℚ b) b)
    ∙ ap (λ x. x +ℚ b) (sym (sub_ℚ_is a b) ∙ e) ∙ +ℚ_idl b

-- two numbers whose difference is, as a polynomial, 0 are equal
pub ring : (ρ : List ℚ) {a b : ℚ} (r : Reads ρ (a -ℚ b)) → leftover (expr r) ≡ [] → a ≡ b
ring ρ r e = same_from_zero (is_zero_by ρ r e)
