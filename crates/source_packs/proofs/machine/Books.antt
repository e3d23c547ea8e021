-- What tokens tell, in order.
use Rattle.std.proofs.Common.{◌≡◌, ◌∙◌, ◌++◌, ◌∷◌, ℕ, Bool, true, false, List, [], refl, sym, ap, ap₂, append_assoc, if◌then◌else◌}
use Rattle.std.proofs.lemmas.List.{append-nil}
use Rattle.source_grammar.specs.Tokens.{Op, or_op, and_op, compare_op, plus_op, minus_op, times_op, over_op, remainder_op}
use Rattle.lang_groups.specs.Machine as lang
use Rattle.lang_groups.specs.Machine.{taken_all}
use Rattle.lang_groups.specs.Shapes.{Shape, nothing, one, enclosed, tied, compared, apart, occurring, marks_of}
use Rattle.lang_groups.specs.declared.mark.Mark.{Mark}
use Rattle.lang_groups.specs.declared.mark.Mark.TheVariants as mark
use Rattle.source_packs.specs.Shapes.{sides}
use Rattle.source_packs.specs.Machine.{Book, book, told}
use Rattle.source_packs.specs.declared.goal.Effect.TheVariants as effect

-- tokens in a row
pub taken_append : (xs ys : List Mark) (c : lang.State) → taken_all (xs ++ ys) c ≡ taken_all ys (taken_all xs c)
taken_append [] ys c = refl
taken_append (x ∷ xs) ys c = taken_append xs ys (lang.taken x c)

-- what counts for a loop: in its condition each variable, and else those that are changed
abbrev pub noted : Bool → List ℕ → List ℕ → List ℕ
noted true xs ys = xs
noted false xs ys = ys

noted_none : (t : Bool) → noted t [] [] ≡ []
noted_none true = refl
noted_none false = refl

noted_both : (t : Bool) (xs ys vs ws : List ℕ) → noted t xs ys ++ noted t vs ws ≡ noted t (xs ++ vs) (ys ++ ws)
noted_both true xs ys vs ws = refl
noted_both false xs ys vs ws = refl

-- the book behind tokens with these marks, among which these variables occur and these are changed
abbrev pub behind : List Mark → List ℕ → List ℕ → Book → Book
behind ms xs ys b = book (taken_all ms b.collector) (b.members ++ noted b.testing xs ys) b.starts b.testing

-- the book behind what has this shape, in which these variables are changed
abbrev pub seen : Shape → List ℕ → Book → Book
seen s ys b = behind (marks_of s) (occurring s) ys b

-- more tokens
pub behind_then : (ms ns : List Mark) (xs ys vs ws : List ℕ) (b : Book)
    → behind ns vs ws (behind ms xs ys b) ≡ behind (ms ++ ns) (xs ++ vs) (ys ++ ws) b
behind_then ms ns xs ys vs ws b = ap₂ (λ (c : lang.State) (l : List ℕ). book c l b.starts b.testing)
    (sym (taken_append ms ns b.collector))
    (append_assoc b.members (noted b.testing xs ys) (noted b.testing vs ws)
    ∙ ap (λ (l : List ℕ). b.members ++ l) (noted_both b.testing xs ys vs ws))

-- none
pub behind_none : (b : Book) → b ≡ behind [] [] [] b
behind_none b = ap (λ (l : List ℕ). book b.collector l b.starts b.testing)
    (sym (append-nil b.members) ∙ ap (λ (l : List ℕ). b.members ++ l) (sym (noted_none b.testing)))

-- a mark
pub mark_told : (m : Mark) (b : Book) → told (effect.Takes m) b ≡ behind (m ∷ []) [] [] b
mark_told m b = behind_none (told (effect.Takes m) b)

-- a variable
met : (t : Bool) (ms : List ℕ) (i : ℕ) → (if t then ms ++ i ∷ [] else ms) ≡ ms ++ noted t (i ∷ []) []
met true ms i = refl
met false ms i = sym (append-nil ms)

-- is what it tells
pub variable_told : (i : ℕ) (b : Book) → told (effect.Variable i) b ≡ seen (one i) [] b
variable_told i b = ap (λ (l : List ℕ). book (lang.taken (mark.Variable i) b.collector) l b.starts b.testing) (met b.testing b.members i)

-- one that is changed
changed : (t : Bool) (ms : List ℕ) (i : ℕ) → ms ++ i ∷ [] ≡ ms ++ noted t (i ∷ []) (i ∷ [])
changed true ms i = refl
changed false ms i = refl

-- is what it tells
pub target_told : (i : ℕ) (b : Book) → told (effect.Target i) b ≡ seen (one i) (i ∷ []) b
target_told i b = ap (λ (l : List ℕ). book (lang.taken (mark.Variable i) b.collector) l b.starts b.testing) (changed b.testing b.members i)

-- ---- shapes
-- what stands side by side
pub tied_seen : (s t : Shape) (ys ws : List ℕ) (b : Book) → seen t ws (seen s ys b) ≡ seen (tied s t) (ys ++ ws) b
tied_seen s t ys ws b = behind_then (marks_of s) (marks_of t) (occurring s) ys (occurring t) ws b

-- what is compared
pub compared_seen : (s t : Shape) (ys ws : List ℕ) (b : Book)
    → seen t ws (told (effect.Takes mark.Compares) (seen s ys b)) ≡ seen (compared s t) (ys ++ ws) b
compared_seen s t ys ws b = behind_then (marks_of s) (mark.Compares ∷ marks_of t) (occurring s) ys (occurring t) ws b

-- what is apart
pub apart_seen : (s t : Shape) (ys ws : List ℕ) (b : Book)
    → seen t ws (told (effect.Takes mark.Parts) (seen s ys b)) ≡ seen (apart s t) (ys ++ ws) b
apart_seen s t ys ws b = behind_then (marks_of s) (mark.Parts ∷ marks_of t) (occurring s) ys (occurring t) ws b

-- what brackets hold
pub enclosed_seen : (s : Shape) (ys : List ℕ) (b : Book)
    → told (effect.Takes mark.Closes) (seen s ys (told (effect.Takes mark.Opens) b)) ≡ seen (enclosed s) ys b
enclosed_seen s ys b = ap (λ (c : lang.State). book c (b.members ++ noted b.testing (occurring s) ys) b.starts b.testing)
    (sym (taken_append (marks_of s) (mark.Closes ∷ []) (lang.taken mark.Opens b.collector)))

-- brackets that hold nothing
pub empty_seen : (b : Book) → told (effect.Takes mark.Closes) (told (effect.Takes mark.Opens) b) ≡ seen (enclosed nothing) [] b
empty_seen b = ap (λ (x : Book). told (effect.Takes mark.Closes) x) (behind_none (told (effect.Takes mark.Opens) b))
    ∙ enclosed_seen nothing [] b

-- what a sign between two sides tells
abbrev pub op_told : Op → Book → Book
op_told or_op b = told (effect.Takes mark.Parts) b
op_told and_op b = told (effect.Takes mark.Parts) b
op_told (compare_op r) b = told (effect.Takes mark.Compares) b
op_told plus_op b = b
op_told minus_op b = b
op_told times_op b = b
op_told over_op b = b
op_told remainder_op b = b

-- its sides
pub sides_seen : (o : Op) (s t : Shape) (ys ws : List ℕ) (b : Book) → seen t ws (op_told o (seen s ys b)) ≡ seen (sides o s t) (ys ++ ws) b
sides_seen or_op s t ys ws b = apart_seen s t ys ws b
sides_seen and_op s t ys ws b = apart_seen s t ys ws b
sides_seen (compare_op r) s t ys ws b = compared_seen s t ys ws b
sides_seen plus_op s t ys ws b = tied_seen s t ys ws b
sides_seen minus_op s t ys ws b = tied_seen s t ys ws b
sides_seen times_op s t ys ws b = tied_seen s t ys ws b
sides_seen over_op s t ys ws b = tied_seen s t ys ws b
sides_seen remainder_op s t ys ws b = tied_seen s t ys ws b
