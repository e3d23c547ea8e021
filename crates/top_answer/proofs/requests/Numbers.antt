-- The numbers of options are within their limits.
use Rattle.std.proofs.Common.{◌≡◌, ℕ, ◌≤◌, Bool, true, false, List, length, refl, subst, arith, if◌then◌else◌}
use Rattle.std.specs.Prelude.{Option, Some, None, option_and_then, option_map, ◌&&◌, nat_le, nat_lt, unwrap_or, codes}
use Rattle.std.specs.Char.{is_ascii_digit}
use Rattle.std.specs.List.{list_all}
use Rattle.std.specs.Str.Parse.{digits_value}
use Rattle.base_limits.specs.declared.limits.TheConstants.{MOST_IMPROVEMENTS}
use Rattle.clap.specs.Words.{Row, Text, first_of}
use Rattle.ask_words.specs.Request.{analysis_in, improvements_in, policy_in, source_in}
use Rattle.ask_words.specs.Values.{domain_in, number_in}
use Rattle.ask_words.specs.declared.request.Analysis.{Analysis}
use Rattle.ask_words.specs.declared.request.Domain.{Domain}
use Rattle.ask_words.specs.declared.request.Policy.{Policy}
use Rattle.ask_words.specs.declared.request.Source.{Source}
use Rattle.ask_files.specs.Files.{Request}
use Rattle.top_answer.proofs.commands.Lawful.{IsInRange}

-- no request is absent and there
pub none_some : {A : Type 0} (b : A) → None ≡ Some b → ⊥
none_some b e = cc

same_some : {A : Type 0} (x y : A) → Some x ≡ Some y → x ≡ y
same_some x y e = cc

-- what a value that follows another comes of
pub and_then_some : {A B : Type 0} (f : A → Option B) (o : Option A) (b : B) → option_and_then f o ≡ Some b
    → (a : A) × (o ≡ Some a) × (f a ≡ Some b)
and_then_some f None b e = absurd (none_some b e)
and_then_some f (Some a) b e = (a, refl, e)

-- what a value that is made of another comes of
pub map_some : {A B : Type 0} (f : A → B) (o : Option A) (b : B) → option_map f o ≡ Some b → (a : A) × (o ≡ Some a) × (f a ≡ b)
map_some f None b e = absurd (none_some b e)
map_some f (Some a) b e = (a, refl, same_some (f a) b e)

if_value : (b : Bool) (v n : ℕ) → (if b then Some v else None) ≡ Some n → (b ≡ true) × (v ≡ n)
if_value true v n e = (refl, same v n e)
  where
    same : (x y : ℕ) → Some x ≡ Some y → x ≡ y
    same x y e = cc
if_value false v n e = absurd (none n e)
  where
    none : (n : ℕ) → None ≡ Some n → ⊥
    none n e = cc

last_true : (a b : Bool) → (a && b) ≡ true → b ≡ true
last_true true b e = e
last_true false b e = cc

first_true : (a b : Bool) → (a && b) ≡ true → a ≡ true
first_true true b e = refl
first_true false b e = cc

le_of : (a b : ℕ) → nat_le a b ≡ true → a ≤ b
le_of a b e = grind arith

bounded : (least most v : ℕ) (x y z : Bool) → (x && (y && (z && (nat_le least v && nat_le v most)))) ≡ true → (least ≤ v) × (v ≤ most)
bounded least most v x y z e =
    let both = last_true z _ (last_true y _ (last_true x _ e)) in
    (le_of least v (first_true (nat_le least v) (nat_le v most) both), le_of v most (last_true (nat_le least v) (nat_le v most) both))

-- a number that is read is within its range
pub number_bounds : (least most : ℕ) (text : Text) (n : ℕ) → number_in least most text ≡ Some n → (least ≤ n) × (n ≤ most)
number_bounds least most text n e =
    let v = if_value (nat_lt 0 (length text) && (nat_le (length text) 10
    && (list_all is_ascii_digit text && (nat_le least (digits_value 10 text) && nat_le (digits_value 10 text) most))))
    (digits_value 10 text) n e in
    subst (λ m. (least ≤ m) × (m ≤ most)) v.1 (bounded least most (digits_value 10 text) (nat_lt 0 (length text)) (nat_le (length text) 10)
    (list_all is_ascii_digit text) v.0)

-- ---- the options of an analysis

rows_in : List Row → Option (Domain Text)
rows_in given = domain_in (unwrap_or (first_of (codes "domain") given) (codes "intervals")) (first_of (codes "rows") given)

with_policy : List Row → Source Text → Domain Text → ℕ → Option (Analysis Text)
with_policy given program domain improvements = option_map (λ policy. record {
  program = program;
  domain = domain;
  improvements =
      improvements;
  policy = policy;
}) (policy_in given)

with_limit : List Row → Source Text → Domain Text → Option (Analysis Text)
with_limit given program domain = option_and_then (with_policy given program domain) (improvements_in given)

with_domain : List Row → Source Text → Option (Analysis Text)
with_domain given program = option_and_then (with_limit given program) (rows_in given)

-- the improvements that are given are within their limit
pub improvements_bound : (given : List Row) (n : ℕ) → improvements_in given ≡ Some n → n ≤ MOST_IMPROVEMENTS
improvements_bound given n e = (number_bounds 0 MOST_IMPROVEMENTS (unwrap_or (first_of (codes "improvements") given) (codes "1000")) n e).1

-- and so are those of an analysis
pub analysis_bounds : (given : List Row) (a : Analysis Text) → analysis_in given ≡ Some a → a.improvements ≤ MOST_IMPROVEMENTS
unfolding with_domain with_limit with_policy rows_in
analysis_bounds given a e =
    let program = and_then_some (with_domain given) (source_in given) a e in
    let domain = and_then_some (with_limit given program.0) (rows_in given) a program.2 in
    let improvements = and_then_some (with_policy given program.0 domain.0) (improvements_in given) a domain.2 in
    let made : Policy → Analysis Text = λ policy. record {
      program = program.0;
      domain = domain.0;
      improvements = improvements.0;
      policy =
          policy;
    } in
    let policy = map_some made (policy_in given) a improvements.2 in
    subst (λ (x : Analysis Text). x.improvements ≤ MOST_IMPROVEMENTS) policy.2
    (improvements_bound given improvements.0 improvements.1)

-- ---- requests that are made of one value

-- a request that is made of a value is in its range, where it is so of each value
pub ranged : {A : Type 0} (made : A → Request) (o : Option A) (r : Request) → option_map made o ≡ Some r → ((a : A) → IsInRange (made a))
    → IsInRange r
ranged made o r e h = let a = map_some made o r e in subst (λ r. IsInRange r) a.2 (h a.0)
