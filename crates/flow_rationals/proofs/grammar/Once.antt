-- Symbols spell one list of equations at most.
use Rattle.std.proofs.Common.{◌≡◌, ◌∙◌, ℕ, List, [], ◌∷◌, Option, Some, None, refl, sym, ap, ap₂, subst}
use Rattle.flow_rationals.specs.declared.reading.symbol.Symbol.{Symbol}
use Rattle.flow_rationals.specs.declared.reading.symbol.Symbol.TheVariants.{Named, Plus, Star, Colon, Comma, RightParen, Min}
use Rattle.flow_rationals.specs.declared.reading.written.Below.{Below}
use Rattle.flow_rationals.specs.declared.reading.written.Ratio.{Ratio}
use Rattle.flow_rationals.specs.declared.reading.written.Part.{Part}
use Rattle.flow_rationals.specs.declared.reading.written.Part.TheVariants.{Multiple, Constant}
use Rattle.flow_rationals.specs.declared.reading.written.Addends.{Addends}
use Rattle.flow_rationals.specs.declared.reading.written.Choice.{Choice}
use Rattle.flow_rationals.specs.declared.reading.written.Choice.TheVariants.{Alone, Least}
use Rattle.flow_rationals.specs.declared.reading.written.Written.{Written}
use Rattle.flow_rationals.specs.Found.{NoColon, EndsSum, EndsPart}
use Rattle.flow_rationals.specs.Grammar.{below_then, ratio_then, factor_then, minus_then, part_then, parts_then, sum_then, sums_then}
use Rattle.flow_rationals.specs.Grammar.{choice_then, choices_then, equation_then, equations_symbols, Spells}
use Rattle.flow_rationals.proofs.grammar.Complete.{parts_end, sums_end, choices_end}

-- what stands after a part is no `:` and no `*`
no_colon : (ss : List Symbol) → EndsPart ss → NoColon ss
no_colon (Plus ∷ ss) h = tt
no_colon (Comma ∷ ss) h = tt
no_colon (RightParen ∷ ss) h = tt
no_colon ss h = absurd h

no_star : (ss rest : List Symbol) → EndsPart ss → ss ≡ Star ∷ rest → ⊥
no_star ss rest h e = let P : List Symbol → Type 0 = λ x. EndsPart x in subst P e h

no_plus : (ss rest : List Symbol) → EndsSum ss → ss ≡ Plus ∷ rest → ⊥
no_plus ss rest h e = let P : List Symbol → Type 0 = λ x. EndsSum x in subst P e h

colon_first : (ss rest : List Symbol) → NoColon ss → ss ≡ Colon ∷ rest → ⊥
colon_first ss rest h e = let P : List Symbol → Type 0 = λ x. NoColon x in subst P e h

abbrev Same : {X : Type 0} → X → X → List Symbol → List Symbol → Type 0
Same x y r s = (x ≡ y) × (r ≡ s)

below_once : (b c : Option Below) (r s : List Symbol) → NoColon r → NoColon s → below_then b r ≡ below_then c s → Same b c r s
below_once None None r s h k e = (refl, e)
below_once None (Some c) r s h k e = absurd (colon_first r _ h e)
below_once (Some b) None r s h k e = absurd (colon_first s _ k (sym e))
below_once (Some b) (Some c) r s h k e =
    let den : b.den ≡ c.den = cc in
    let at : b.at ≡ c.at = cc in
    let rest : r ≡ s = cc in
    let same : b ≡ c = ap₂ (λ x y. record { den = x; at = y }) den at in
    (ap Some same, rest)

abbrev ratio_with : ℕ → ℕ → Option Below → Ratio
ratio_with num at below = record { num = num; at = at; below = below }

ratio_once : (p q : Ratio) (r s : List Symbol) → NoColon r → NoColon s → ratio_then p r ≡ ratio_then q s → Same p q r s
ratio_once p q r s h k e =
    let num : p.num ≡ q.num = cc in
    let at : p.at ≡ q.at = cc in
    let rest : below_then p.below r ≡ below_then q.below s = cc in
    let below = below_once p.below q.below r s h k rest in
    let b : p.below ≡ q.below = below.0 in
    (ap (λ x. ratio_with x p.at p.below) num ∙ ap (λ x. ratio_with q.num x p.below) at ∙ ap (λ x. ratio_with q.num q.at x) b, below.1)

part_once : (p q : Part) (r s : List Symbol) → EndsPart r → EndsPart s → part_then p r ≡ part_then q s → Same p q r s
part_once (Multiple None name at) (Multiple None name' at') r s h k e =
    let n : name ≡ name' = cc in
    let a : at ≡ at' = cc in
    let rest : r ≡ s = cc in
    (ap₂ (λ x y. Multiple None x y) n a, rest)
part_once (Multiple None name at) (Multiple (Some f) name' at') r s h k e = absurd cc
part_once (Multiple None name at) (Constant None ratio) r s h k e = absurd cc
part_once (Multiple None name at) (Constant (Some minus) ratio) r s h k e = absurd cc
part_once (Multiple (Some f) name at) (Multiple None name' at') r s h k e = absurd cc
part_once (Multiple (Some f) name at) (Multiple (Some g) name' at') r s h k e =
    let x = ratio_once f g (Star ∷ Named name at ∷ r) (Star ∷ Named name' at' ∷ s) tt tt e in
    let rest : Star ∷ Named name at ∷ r ≡ Star ∷ Named name' at' ∷ s = x.1 in
    let fs : f ≡ g = x.0 in
    let n : name ≡ name' = cc in
    let a : at ≡ at' = cc in
    let tail : r ≡ s = cc in
    let same : Multiple (Some f) name at ≡ Multiple (Some g) name' at' = cc in
    (same, tail)
part_once (Multiple (Some f) name at) (Constant None ratio) r s h k e =
    let x = ratio_once f ratio (Star ∷ Named name at ∷ r) s tt (no_colon s k) e in
    absurd (no_star s _ k (sym x.1))
part_once (Multiple (Some f) name at) (Constant (Some minus) ratio) r s h k e = absurd cc
part_once (Constant None ratio) (Multiple None name' at') r s h k e = absurd cc
part_once (Constant None ratio) (Multiple (Some g) name' at') r s h k e =
    let x = ratio_once ratio g r (Star ∷ Named name' at' ∷ s) (no_colon r h) tt e in
    absurd (no_star r _ h x.1)
part_once (Constant None ratio) (Constant None other) r s h k e =
    let x = ratio_once ratio other r s (no_colon r h) (no_colon s k) e in
    (ap (λ y. Constant None y) x.0, x.1)
part_once (Constant None ratio) (Constant (Some minus) other) r s h k e = absurd cc
part_once (Constant (Some minus) ratio) (Multiple None name' at') r s h k e = absurd cc
part_once (Constant (Some minus) ratio) (Multiple (Some g) name' at') r s h k e = absurd cc
part_once (Constant (Some minus) ratio) (Constant None other) r s h k e = absurd cc
part_once (Constant (Some minus) ratio) (Constant (Some minus') other) r s h k e =
    let m : minus ≡ minus' = cc in
    let rest : ratio_then ratio r ≡ ratio_then other s = cc in
    let x = ratio_once ratio other r s (no_colon r h) (no_colon s k) rest in
    (ap₂ (λ y z. Constant (Some y) z) m x.0, x.1)

parts_once : (ps qs : List Part) (r s : List Symbol) → EndsSum r → EndsSum s → parts_then ps r ≡ parts_then qs s → Same ps qs r s
parts_once [] [] r s h k e = (refl, e)
parts_once [] (q ∷ qs) r s h k e = absurd (no_plus r _ h e)
parts_once (p ∷ ps) [] r s h k e = absurd (no_plus s _ k (sym e))
parts_once (p ∷ ps) (q ∷ qs) r s h k e =
    let tail : part_then p (parts_then ps r) ≡ part_then q (parts_then qs s) = cc in
    let x = part_once p q (parts_then ps r) (parts_then qs s) (parts_end ps r h) (parts_end qs s k) tail in
    let y = parts_once ps qs r s h k x.1 in
    (ap₂ (λ a b. a ∷ b) x.0 y.0, y.1)

sum_once : (a b : Addends) (r s : List Symbol) → EndsSum r → EndsSum s → sum_then a r ≡ sum_then b s → Same a b r s
sum_once a b r s h k e =
    let x = part_once a.first b.first (parts_then a.more r) (parts_then b.more s) (parts_end a.more r h) (parts_end b.more s k) e in
    let y = parts_once a.more b.more r s h k x.1 in
    let same : a ≡ b = ap₂ (λ p ps. record { first = p; more = ps }) x.0 y.0 in
    (same, y.1)

sums_once : (xs ys : List Addends) (r s : List Symbol) → sums_then xs r ≡ sums_then ys s → Same xs ys r s
sums_once [] [] r s e = (refl, (let rest : r ≡ s = cc in rest))
sums_once [] (y ∷ ys) r s e = absurd cc
sums_once (x ∷ xs) [] r s e = absurd cc
sums_once (x ∷ xs) (y ∷ ys) r s e =
    let tail : sum_then x (sums_then xs r) ≡ sum_then y (sums_then ys s) = cc in
    let a = sum_once x y (sums_then xs r) (sums_then ys s) (sums_end xs r) (sums_end ys s) tail in
    let b = sums_once xs ys r s a.1 in
    (ap₂ (λ u v. u ∷ v) a.0 b.0, b.1)

-- a sum doesn't begin with `min`
no_min : (p : Part) (r rest : List Symbol) → part_then p r ≡ Min ∷ rest → ⊥
no_min (Multiple None name at) r rest e = cc
no_min (Multiple (Some f) name at) r rest e = cc
no_min (Constant None ratio) r rest e = cc
no_min (Constant (Some minus) ratio) r rest e = cc

choice_once : (c d : Choice) (r s : List Symbol) → EndsSum r → EndsSum s → choice_then c r ≡ choice_then d s → Same c d r s
choice_once (Alone a) (Alone b) r s h k e = let x = sum_once a b r s h k e in (ap Alone x.0, x.1)
choice_once (Alone a) (Least first more) r s h k e = absurd (no_min a.first _ _ e)
choice_once (Least first more) (Alone b) r s h k e = absurd (no_min b.first _ _ (sym e))
choice_once (Least first more) (Least first' more') r s h k e =
    let tail : sum_then first (sums_then more r) ≡ sum_then first' (sums_then more' s) = cc in
    let x = sum_once first first' (sums_then more r) (sums_then more' s) (sums_end more r) (sums_end more' s) tail in
    let y = sums_once more more' r s x.1 in
    (ap₂ (λ a b. Least a b) x.0 y.0, y.1)

choices_once : (cs ds : List Choice) (r s : List Symbol) → choices_then cs r ≡ choices_then ds s → Same cs ds r s
choices_once [] [] r s e = (refl, (let rest : r ≡ s = cc in rest))
choices_once [] (d ∷ ds) r s e = absurd cc
choices_once (c ∷ cs) [] r s e = absurd cc
choices_once (c ∷ cs) (d ∷ ds) r s e =
    let tail : choice_then c (choices_then cs r) ≡ choice_then d (choices_then ds s) = cc in
    let x = choice_once c d (choices_then cs r) (choices_then ds s) (choices_end cs r) (choices_end ds s) tail in
    let y = choices_once cs ds r s x.1 in
    (ap₂ (λ a b. a ∷ b) x.0 y.0, y.1)

start_once : (m n : Option ℕ) (p q : Ratio) (r s : List Symbol) → NoColon r → NoColon s
    → minus_then m (ratio_then p r) ≡ minus_then n (ratio_then q s) → (m ≡ n) × (p ≡ q) × (r ≡ s)
start_once None None p q r s h k e = let x = ratio_once p q r s h k e in (refl, x.0, x.1)
start_once None (Some n) p q r s h k e = absurd cc
start_once (Some m) None p q r s h k e = absurd cc
start_once (Some m) (Some n) p q r s h k e =
    let same : m ≡ n = cc in
    let rest : ratio_then p r ≡ ratio_then q s = cc in
    let x = ratio_once p q r s h k rest in
    (ap Some same, x.0, x.1)

abbrev written_with : List ℕ → ℕ → Option ℕ → Ratio → List Choice → Written
written_with name at minus start choices = record { name = name; at = at; minus = minus; start = start; choices = choices }

equation_once : (d e : Written) (r s : List Symbol) → equation_then d r ≡ equation_then e s → Same d e r s
equation_once d e r s h =
    let name : d.name ≡ e.name = cc in
    let at : d.at ≡ e.at = cc in
    let tail : minus_then d.minus (ratio_then d.start (choices_then d.choices r))
    ≡ minus_then e.minus (ratio_then e.start (choices_then e.choices s)) = cc in
    let ends : (cs : List Choice) (t : List Symbol) → NoColon (choices_then cs t) =
    λ cs t. no_colon (choices_then cs t) (parts_end [] (choices_then cs t) (choices_end cs t)) in
    let x = start_once d.minus e.minus d.start e.start (choices_then d.choices r) (choices_then e.choices s) (ends d.choices r)
    (ends e.choices s) tail in
    let y = choices_once d.choices e.choices r s x.2 in (
      ap (λ n. written_with n d.at d.minus d.start d.choices) name
          ∙ ap (λ a. written_with e.name a d.minus d.start d.choices) at
          ∙ ap (λ m. written_with e.name e.at m d.start d.choices) x.0
          ∙ ap (λ q. written_with e.name e.at e.minus q d.choices) x.1
          ∙ ap (λ cs. written_with e.name e.at e.minus e.start cs) y.0,
      y.1,
    )

equations_once : (ds es : List Written) → equations_symbols ds ≡ equations_symbols es → ds ≡ es
equations_once [] [] h = refl
equations_once [] (e ∷ es) h = absurd cc
equations_once (d ∷ ds) [] h = absurd cc
equations_once (d ∷ ds) (e ∷ es) h =
    let x = equation_once d e (equations_symbols ds) (equations_symbols es) h in
    ap₂ (λ a b. a ∷ b) x.0 (equations_once ds es x.1)

-- two lists of equations that the same symbols spell are the same
pub spelled_once : (symbols : List Symbol) (ds es : List Written) → Spells symbols ds → Spells symbols es → ds ≡ es
spelled_once symbols [] es h k = absurd h
spelled_once symbols (d ∷ ds) [] h k = absurd k
spelled_once symbols (d ∷ ds) (e ∷ es) h k = let both : equations_symbols (d ∷ ds) ≡ equations_symbols (e ∷ es) = cc in
    equations_once (d ∷ ds) (e ∷ es) both
