-- The members of a key, counted, and the last of them.
use Rattle.std.proofs.Common.{◌≡◌, ℕ, zero, suc, ◌+◌, ◌-◌, ◌<◌, ◌≤◌, List, length, Bool, true, false, Option, Some, None}
use Rattle.std.proofs.Common.{option_map, option_and_then, refl, sym, ap, ◌∙◌, arith}
use Rattle.std.specs.Prelude.{if◌then◌else◌}
use Rattle.std.specs.Str.{bytes_eq}
use Rattle.json.specs.Token.{Token}
use Rattle.json.specs.Json.{Json, Members, Parse, member, members, members_step, no_members, parse_map, read_key}
use Rattle.json.proofs.Grammar.{left, left_some, members_end, members_more}
use Rattle.base_values.specs.Places.{count_key, last, or_else}

-- the count and the last of what was read
abbrev pub tally : List ℕ → Option (Members × List Token) → Option ℕ
tally k o = option_map (λ p. count_key k p.0) o

abbrev pub latest : List ℕ → Option (Members × List Token) → Option Json
latest k o = option_and_then (λ p. last k p.0) o

abbrev pub plus : ℕ → Option ℕ → Option ℕ
plus m o = option_map (λ c. m + c) o

plus_some : (o : Option ℕ) (m n : ℕ) → plus m o ≡ Some n → (c : ℕ) × (o ≡ Some c) × (m + c ≡ n)
plus_some None m n e = absurd cc
plus_some (Some c) m n e = (c, refl, cc)

-- nothing more
pub plus_none : (o : Option ℕ) → o ≡ plus 0 o
plus_none None = refl
plus_none (Some c) = ap Some (omega arith)

plus_twice : (m n : ℕ) (o : Option ℕ) → plus m (plus n o) ≡ plus (m + n) o
plus_twice m n None = refl
plus_twice m n (Some c) = ap Some (omega arith)

-- ---- one member more

module _ (k l : List ℕ) (j : Json) where
  -- a member of the key is counted
  pub tally_same : bytes_eq l k ≡ true → (o : Option (Members × List Token)) → tally k (parse_map (member l j) o) ≡ plus 1 (tally k o)
  tally_same e None = refl
  tally_same e (Some p) = ap (λ b. Some (if b then 1 + count_key k p.0 else count_key k p.0)) e

  -- a member of another key is not
  pub tally_other : bytes_eq l k ≡ false → (o : Option (Members × List Token)) → tally k (parse_map (member l j) o) ≡ tally k o
  tally_other e None = refl
  tally_other e (Some p) = ap (λ b. Some (if b then 1 + count_key k p.0 else count_key k p.0)) e

  or_none : (x : Option Json) → or_else x None ≡ x
  or_none None = refl
  or_none (Some i) = refl

  -- nor is it the last one
  pub latest_other : bytes_eq l k ≡ false → (o : Option (Members × List Token)) → latest k (parse_map (member l j) o) ≡ latest k o
  latest_other e None = refl
  latest_other e (Some p) = ap (λ b. or_else (last k p.0) (if b then Some j else None)) e ∙ or_none (last k p.0)

  or_some : (x : Option Json) (i : Json) → x ≡ Some i → or_else x (Some j) ≡ x
  or_some None i e = absurd cc
  or_some (Some h) i e = refl

-- where a key is counted, there is a last member
pub counted : (k : List ℕ) (ms : Members) → 0 < count_key k ms → (j : Json) × (last k ms ≡ Some j)
counted k no_members h = let never : ⊥ = omega arith in absurd never
counted k (member l j ms) h = by (bytes_eq l k) refl h (counted k ms)
  where
    found : (x : Option Json) → (i : Json) × (or_else x (Some j) ≡ Some i)
    found None = (j, refl)
    found (Some i) = (i, refl)

    by : (b : Bool) → bytes_eq l k ≡ b → 0 < (if b then 1 + count_key k ms else count_key k ms)
        → (0 < count_key k ms → (i : Json) × (last k ms ≡ Some i))
        → (i : Json) × (or_else (last k ms) (if b then Some j else None) ≡ Some i)
    by true e g again = found (last k ms)
    by false e g again = let later = again g in (later.0, ap (λ x. or_else x None) later.1)

-- where it isn't, there is none
pub uncounted : (k : List ℕ) (ms : Members) → count_key k ms ≡ 0 → last k ms ≡ None
uncounted k no_members h = refl
uncounted k (member l j ms) h = by (bytes_eq l k) refl h (uncounted k ms)
  where
    by : (b : Bool) → bytes_eq l k ≡ b → (if b then 1 + count_key k ms else count_key k ms) ≡ 0
        → (count_key k ms ≡ 0 → last k ms ≡ None)
        → or_else (last k ms) (if b then Some j else None) ≡ None
    by true e g again = let never : ⊥ = omega arith in absurd never
    by false e g again = ap (λ x. or_else x None) (again g)

-- where some are counted, there is a last one
pub latest_some : (k : List ℕ) (o : Option (Members × List Token)) (n : ℕ) → tally k o ≡ Some n → 0 < n → (j : Json) × (latest k o ≡ Some j)
latest_some k None n e h = absurd cc
latest_some k (Some p) n e h = let is : count_key k p.0 ≡ n = cc in counted k p.0 (omega arith)

-- where none is, there is none
pub latest_none : (k : List ℕ) (o : Option (Members × List Token)) → tally k o ≡ Some 0 → latest k o ≡ None
latest_none k None e = refl
latest_none k (Some p) e = uncounted k p.0 cc

-- one that others follow is not the last
pub latest_same : (k l : List ℕ) (j : Json) → bytes_eq l k ≡ true → (o : Option (Members × List Token)) (n : ℕ) → tally k o ≡ Some n → 0 < n
    → latest k (parse_map (member l j) o) ≡ latest k o
latest_same k l j e None n h some = refl
latest_same k l j e (Some p) n h some =
    let there = latest_some k (Some p) n h some in
    ap (λ b. or_else (last k p.0) (if b then Some j else None)) e ∙ kept (last k p.0) there.0 there.1
  where
    kept : (x : Option Json) (i : Json) → x ≡ Some i → or_else x (Some j) ≡ x
    kept None i f = absurd cc
    kept (Some h) i f = refl

-- ---- the turns of a loop over members

module _ (p : Parse Json) (k : List ℕ) where
  members_turn : (n : ℕ) (l : List ℕ) (ts s : List Token) → 0 < n → read_key ts ≡ Some (Some l, s)
      → members p n ts ≡ option_and_then (λ q. parse_map (member l q.0) (members p (n - 1) q.1)) (p s)
  unfolding members
  members_turn zero l ts s h e = let never : ⊥ = omega arith in absurd never
  members_turn (suc n) l ts s h e =
      let less : n ≡ suc n - 1 = omega arith in
      ap (option_and_then (λ q. members_step p (members p n) q.0 q.1)) e
      ∙ ap (λ m. option_and_then (λ q. parse_map (member l q.0) (members p m q.1)) (p s)) less

  module _ (n : ℕ) (l : List ℕ) (ts s : List Token) (some : 0 < n) (key : read_key ts ≡ Some (Some l, s)) where
    -- the count past a member of the key
    pub count_same : (r : List Token) (found : ℕ) (all : Option ℕ) → bytes_eq l k ≡ true → left (p s) ≡ Some r
        → all ≡ plus found (tally k (members p n ts)) → all ≡ plus (found + 1) (tally k (members p (n - 1) r))
    count_same r found all e skip is =
        let j = left_some (p s) r skip in
        is ∙ ap (λ o. plus found (tally k o)) (members_more p n l ts s r j.0 some key j.1)
        ∙ ap (plus found) (tally_same k l j.0 e (members p (n - 1) r)) ∙ plus_twice found 1 _

    -- the count past another member
    pub count_other : (r : List Token) (all : Option ℕ) (found : ℕ) → bytes_eq l k ≡ false → left (p s) ≡ Some r
        → all ≡ plus found (tally k (members p n ts)) → all ≡ plus found (tally k (members p (n - 1) r))
    count_other r all found e skip is =
        let j = left_some (p s) r skip in
        is ∙ ap (λ o. plus found (tally k o)) (members_more p n l ts s r j.0 some key j.1)
        ∙ ap (plus found) (tally_other k l j.0 e (members p (n - 1) r))

    -- what is left to count past another member
    pub pass_other : (r : List Token) (c : ℕ) (all : Option Json) → bytes_eq l k ≡ false → left (p s) ≡ Some r
        → tally k (members p n ts) ≡ Some c → all ≡ latest k (members p n ts)
        → (tally k (members p (n - 1) r) ≡ Some c) × (all ≡ latest k (members p (n - 1) r))
    pass_other r c all e skip count is =
        let j = left_some (p s) r skip in
        let turn = members_more p n l ts s r j.0 some key j.1 in (
          sym (ap (tally k) turn ∙ tally_other k l j.0 e (members p (n - 1) r)) ∙ count,
          is ∙ ap (latest k) turn ∙ latest_other k l j.0 e (members p (n - 1) r),
        )

    -- what is left to count past a member of the key that others follow
    pub pass_same : (r : List Token) (c : ℕ) (all : Option Json) → bytes_eq l k ≡ true → left (p s) ≡ Some r
        → tally k (members p n ts) ≡ Some c → 1 < c → all ≡ latest k (members p n ts)
        → (tally k (members p (n - 1) r) ≡ Some (c - 1)) × (all ≡ latest k (members p (n - 1) r))
    pass_same r c all e skip count more is =
        let j = left_some (p s) r skip in
        let turn = members_more p n l ts s r j.0 some key j.1 in
        let one = plus_some (tally k (members p (n - 1) r)) 1 c (sym (ap (tally k) turn ∙ tally_same k l j.0 e (members p (n - 1) r))
        ∙ count) in
        let less : one.0 ≡ c - 1 = omega (arith, one.2) in
        let here : tally k (members p (n - 1) r) ≡ Some (c - 1) = one.1 ∙ ap Some less in (
          here,
          is ∙ ap (latest k) turn ∙ latest_same k l j.0 e (members p (n - 1) r) (c - 1) here (omega arith),
        )

    -- the last one, where one is left to count
    pub last_here : (all : Option Json) → bytes_eq l k ≡ true → tally k (members p n ts) ≡ Some 1 → all ≡ latest k (members p n ts)
        → option_map (λ q. q.0) (p s) ≡ all
    last_here all e count is =
        let turn = members_turn n l ts s some key in
        by (p s) (sym (ap (tally k) turn) ∙ count) ∙ sym (is ∙ ap (latest k) turn)
      where
        only : (j : Json) (o : Option (Members × List Token)) → tally k o ≡ Some 0 → latest k (parse_map (member l j) o) ≡ Some j
        only j None f = absurd cc
        only j (Some q) f =
            ap (λ b. or_else (last k q.0) (if b then Some j else None)) e ∙ ap (λ x. or_else x (Some j)) (uncounted k q.0 cc)

        by : (v : Option (Json × List Token))
            → tally k (option_and_then (λ q. parse_map (member l q.0) (members p (n - 1) q.1)) v) ≡ Some 1
            → option_map (λ q. q.0) v ≡ latest k (option_and_then (λ q. parse_map (member l q.0) (members p (n - 1) q.1)) v)
        by None f = absurd cc
        by (Some q) f =
            let one = plus_some (tally k (members p (n - 1) q.1)) 1 1 (sym (tally_same k l q.0 e (members p (n - 1) q.1)) ∙ f) in
            let none : one.0 ≡ 0 = omega (arith, one.2) in
            sym (only q.0 (members p (n - 1) q.1) (one.1 ∙ ap Some none))

  -- the count at the end
  pub count_ends : (n : ℕ) (ts r : List Token) (found : ℕ) (all : Option ℕ) → length ts ≤ n → read_key ts ≡ Some (None, r)
      → all ≡ plus found (tally k (members p n ts)) → all ≡ Some found
  count_ends n ts r found all enough e is =
      let none : found + 0 ≡ found = omega arith in
      is ∙ ap (λ o. plus found (tally k o)) (members_end p n ts r enough e) ∙ ap Some none
