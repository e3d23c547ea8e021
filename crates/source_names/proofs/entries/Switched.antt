-- Names that are known no longer.
use Rattle.std.specs.Prelude.{reverse, ◌-◌}
use Rattle.std.proofs.Common.{◌≡◌, ◌∙◌, ◌++◌, ◌+◌, ◌<◌, ◌≤◌, ℕ, zero, suc, false, List, [], ◌∷◌, length, map, get_or, refl}
use Rattle.std.proofs.Common.{sym, ap, ap₂}
use Rattle.std.proofs.Common.{arith}
use Rattle.std.proofs.lemmas.List.{reverse-append, map-append, length-reverse, length-map}
use Rattle.std.proofs.Math.ListN.{set}
use Rattle.indexmap.proofs.ReorderLemmas.{map-reverse}
use Rattle.source_meaning.specs.Names.{Named, forgotten}
use Rattle.source_names.specs.declared.entry.Entry.{Entry}
use Rattle.source_names.specs.Entries.{named_of, names_in}

-- a name that is known no longer
abbrev pub off : Entry → Entry
off e = record e { is_known = false }

-- those from place a to place b are known no longer
abbrev pub switched : (a b : ℕ) → List Entry → List Entry
switched a b [] = []
switched zero zero (e ∷ es) = e ∷ es
switched zero (suc b) (e ∷ es) = off e ∷ switched zero b es
switched (suc a) zero (e ∷ es) = e ∷ es
switched (suc a) (suc b) (e ∷ es) = e ∷ switched a b es

-- between a place and itself nothing is switched
pub switched_none : (a : ℕ) (es : List Entry) → switched a a es ≡ es
switched_none a [] = refl
switched_none zero (e ∷ es) = refl
switched_none (suc a) (e ∷ es) = ap (λ xs. e ∷ xs) (switched_none a es)

-- there are as many behind as before
pub length_switched : (a b : ℕ) (es : List Entry) → length (switched a b es) ≡ length es
length_switched a b [] = refl
length_switched zero zero (e ∷ es) = refl
length_switched zero (suc b) (e ∷ es) = ap suc (length_switched zero b es)
length_switched (suc a) zero (e ∷ es) = refl
length_switched (suc a) (suc b) (e ∷ es) = ap suc (length_switched a b es)

-- past the last name there is none
pub switched_past : (a b : ℕ) (es : List Entry) → length es ≤ a → switched a b es ≡ es
switched_past a b [] h = refl
switched_past zero b (e ∷ es) h = absurd (omega arith)
switched_past (suc a) zero (e ∷ es) h = refl
switched_past (suc a) (suc b) (e ∷ es) h = ap (λ xs. e ∷ xs) (switched_past a b es (omega arith))

-- one name more
pub switched_more : (a b : ℕ) (es : List Entry) (x : Entry) → a ≤ b → b < length es → x ≡ get_or (switched a b es) b x
    → set (switched a b es) b (off x) ≡ switched a (suc b) es
switched_more a b [] x h k e = absurd (omega arith)
switched_more zero zero (e ∷ es) x h k p = ap₂ (λ y ys. off y ∷ ys) p (sym (switched_none zero es))
switched_more zero (suc b) (e ∷ es) x h k p = ap (λ ys. off e ∷ ys) (switched_more zero b es x (omega arith) (omega arith) p)
switched_more (suc a) zero (e ∷ es) x h k p = absurd (omega arith)
switched_more (suc a) (suc b) (e ∷ es) x h k p = ap (λ ys. e ∷ ys) (switched_more a b es x (omega arith) (omega arith) p)

-- a name that is known no longer
abbrev dim : Named → Named
dim n = record n { is_known = false }

dimmed : (es : List Entry) → map named_of (map off es) ≡ map dim (map named_of es)
dimmed [] = refl
dimmed (e ∷ es) = ap (λ ns. dim (named_of e) ∷ ns) (dimmed es)

dim_first : (ns ms : List Named) → forgotten (length ns) (ns ++ ms) ≡ map dim ns ++ ms
dim_first [] ms = refl
dim_first (n ∷ ns) ms = ap (λ xs. dim n ∷ xs) (dim_first ns ms)

names_append : (xs ys : List Entry) → names_in (xs ++ ys) ≡ names_in ys ++ names_in xs
names_append xs ys = ap reverse (map-append named_of xs ys) ∙ reverse-append (map named_of xs) (map named_of ys)

names_dimmed : (es : List Entry) → names_in (map off es) ≡ map dim (names_in es)
names_dimmed es = ap reverse (dimmed es) ∙ sym (map-reverse dim (map named_of es))

-- there are as many
pub length_names : (es : List Entry) → length (names_in es) ≡ length es
length_names es = length-reverse (map named_of es) ∙ length-map es named_of

abbrev Split : ℕ → List Entry → Type 0
Split a es = (xs : List Entry) × (ys : List Entry) × (es ≡ xs ++ ys) × (switched a (length es) es ≡ xs ++ map off ys)
    × (length ys + a ≡ length es)

all_off : (es : List Entry) → switched 0 (length es) es ≡ map off es
all_off [] = refl
all_off (e ∷ es) = ap (λ xs. off e ∷ xs) (all_off es)

split : (a : ℕ) (es : List Entry) → a ≤ length es → Split a es
split zero es h = ([], es, refl, all_off es, omega arith)
split (suc a) [] h = absurd (omega arith)
split (suc a) (e ∷ es) h = let s : Split a es = split a es (omega arith) in
    (e ∷ s.0, s.1, ap (λ xs. e ∷ xs) s.2, ap (λ xs. e ∷ xs) s.3, (let l = s.4 in omega arith))

-- the names from a place on are known no longer
pub forgotten_from : (a : ℕ) (es now : List Entry) → a ≤ length es → now ≡ switched a (length es) es
    → names_in now ≡ forgotten (length (names_in es) - a) (names_in es)
forgotten_from a es now h e =
    let s : Split a es = split a es h in
    let l : length (names_in es) - a ≡ length (names_in s.1) = (let i = length_names es in let j = length_names s.1 in let k = s.4
    in omega arith) in
    ap names_in (e ∙ s.3) ∙ names_append s.0 (map off s.1) ∙ ap (λ ns. ns ++ names_in s.0) (names_dimmed s.1)
    ∙ sym (dim_first (names_in s.1) (names_in s.0)) ∙ sym (ap₂ forgotten l (ap names_in s.2 ∙ names_append s.0 s.1))

-- past the last name none changes
pub forgotten_past : (a : ℕ) (es now : List Entry) → length es ≤ a → now ≡ es
    → names_in now ≡ forgotten (length (names_in es) - a) (names_in es)
forgotten_past a es now h e =
    let l : length (names_in es) - a ≡ 0 = (let i = length_names es in omega arith) in
    ap names_in e ∙ sym (ap (λ k. forgotten k (names_in es)) l)
