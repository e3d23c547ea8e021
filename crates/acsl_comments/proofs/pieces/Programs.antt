-- A text means the same function with comments put in.
use Rattle.std.proofs.Common.{◌≡◌, ◌∙◌, ◌++◌, ◌∷◌, inl, inr, ℕ, Bool, true, false, List, [], Option, Some, None, Result, Ok, Err, length}
use Rattle.std.proofs.Common.{map, ℤ}
use Rattle.std.proofs.Common.{if◌then◌else◌, refl, sym, ap, ap₂, subst, arith}
use Rattle.std.specs.Option.{option_map}
use Rattle.std.specs.List.{AllByRecursion}
use Rattle.std.proofs.lemmas.List.{map-append, length-append}
use Rattle.std.proofs.lemmas.List.Elements.{recursion_from_All, All-weaker}
use Rattle.lang_tokens.specs.Lines.{line_at}
use Rattle.lang_tokens.specs.Reading.{Reads, tokens_from, end_at}
use Rattle.lang_tokens.specs.TokenLists.{AreTokensAfter}
use Rattle.lang_tokens.specs.declared.lexicon.Lexicon.TheVariants.{C}
use Rattle.lang_tokens.specs.declared.before.Before.TheVariants.{Blanks}
use Rattle.lang_tokens.specs.declared.token.Token.{Token}
use Rattle.lang_tokens.specs.declared.token.Kind.{Kind}
use Rattle.lang_tokens.specs.declared.token.Kind.TheVariants as kind
use Rattle.lang_tokens.proofs.reading.Placed.{placed_tokens}
use Rattle.source_items.specs.declared.mark.Mark.{Mark}
use Rattle.source_items.specs.Divisions as file
use Rattle.source_grammar.specs.Tokens as g
use Rattle.source_tree.specs.Statements.{Statements}
use Rattle.source_meaning.specs.declared.fault.FunctionFault.{FunctionFault}
use Rattle.source_meaning.specs.Walk.{walk}
use Rattle.source_tokens.specs.Constants.{constant_at}
use Rattle.source_tokens.specs.View.{bytes_of, kind_of, tokens_of, marks_of}
use Rattle.source_tokens.specs.declared.definition.Definition.{Definition}
use Rattle.source_constants.specs.Directives.{is_code, code_of, asides_of, directives_of}
use Rattle.source_constants.specs.Items.{is_macro}
use Rattle.source_constants.specs.Definitions as constants
use Rattle.source_constants.specs.Definitions.{definitions_of}
use Rattle.source_file.specs.Choice.{repeated, chosen}
use Rattle.source_file.specs.Functions.{functions_of}
use Rattle.source_file.specs.declared.functions.Defined.{Defined}
use Rattle.source_file.specs.declared.fault.SourceFault.{SourceFault}
use Rattle.source_file.specs.declared.fault.SourceFault.TheVariants as fault
use Rattle.source_file.specs.Meaning.{Answer, item_of, walked, FunctionMeans, unless_macro, outside, first_outside, ItemMeans, ChosenMeans}
use Rattle.source_file.specs.Meaning.{FunctionsMean, first_place, twice, Means}
use Rattle.source_core.specs.Core.{core_in}
use Rattle.acsl_shift.specs.Moves.{moved, without_lines}
use Rattle.acsl_shift.specs.Sources.{without_places}
use Rattle.acsl_shift.specs.Law.{TokensMayMove, WholeMayMove}
use Rattle.acsl_comments.specs.Law.{ProgramsStay, token_moved_by, definition_moved_by}
use Rattle.acsl_comments.specs.Places.{Ascend, IsEdge}
use Rattle.acsl_comments.specs.Texts.{moved_by, with_comments}
use Rattle.acsl_comments.specs.declared.comment.Comment.{Comment}
use Rattle.acsl_comments.proofs.pieces.Places.{places}
use Rattle.acsl_comments.proofs.pieces.Edges.{edge_in}
use Rattle.acsl_comments.proofs.pieces.Stay.{stay, constant_moved}
use Rattle.acsl_comments.proofs.pieces.Together.{IsEdgeOf, AreTogether, edge_of, row_of, together}
use Rattle.acsl_comments.proofs.pieces.Files.{SameBytes, move_defined, move_option, same_marks, functions_moved, none_repeated}
use Rattle.acsl_comments.proofs.pieces.Files.{chosen_option}
use Rattle.acsl_comments.proofs.pieces.Defined.{same_filter, same_range, filter_moved, range_moved, macro_moved, definitions_moved}
use Rattle.acsl_comments.proofs.pieces.Defined.{repeated_moved}
use Rattle.base_integers.specs.declared.integers.Integers.{Integers}

-- lists with one more at the end
lasts : {A : Type 0} (xs ys : List A) (x y : A) → xs ++ x ∷ [] ≡ ys ++ y ∷ [] → (xs ≡ ys) × (x ≡ y)
lasts [] [] x y e = (refl, cc)
lasts {A} [] (z ∷ ys) x y e = absurd (omega (arith, ap (λ (l : List A). length l) e, length-append ys (y ∷ [])))
lasts {A} (z ∷ xs) [] x y e = absurd (omega (arith, ap (λ (l : List A). length l) e, length-append xs (x ∷ [])))
lasts (w ∷ xs) (z ∷ ys) x y e = let i = lasts xs ys x y cc in let (j, k) = i in (cc, k)

-- a result that is a value is what was walked
pub walked_ok : (r : Result (List (List ℕ) × Statements) FunctionFault) (x : List (List ℕ) × Statements)
    → (let a : Answer = Ok x in a) ≡ walked r → r ≡ Ok x
walked_ok (Ok y) x e = cc
walked_ok (Err f) x e = cc

-- what is meant, the same without lines and places
record Moves (integers : Integers) (Q : Answer → Type 0) (names : List (List ℕ)) (body : Statements) : Type 0 where
  -- the statements
  now : Statements
  -- they are meant
  means : Q (Ok (names, now))
  -- they are the same
  same : without_places now ≡ without_places body
  -- so is their core
  core : without_lines (core_in integers (length names) now) ≡ without_lines (core_in integers (length names) body)

-- it is meant in another way
moves_by : (integers : Integers) (P Q : Answer → Type 0) (names : List (List ℕ)) (body : Statements) → ((r : Answer) → P r → Q r)
    → Moves integers P names body
    → Moves integers Q names body
moves_by integers P Q names body f m = record { now = m.now; means = f (Ok (names, m.now)) m.means; same = m.same; core = m.core }

-- tokens of the same bytes
same_bytes : (comments : List Comment) (text written : List ℕ) (ts : List Token)
    → map (bytes_of written) (map (token_moved_by comments) ts) ≡ map (bytes_of text) ts → SameBytes comments text written ts
same_bytes comments text written [] e = tt
same_bytes comments text written (t ∷ ts) e = (cc, same_bytes comments text written ts cc)

-- neither place, where there is no first one
neither : (a b : Option ℕ) → first_place a b ≡ None → (a ≡ None) × (b ≡ None)
neither None b e = (refl, e)
neither (Some at) None e = cc
neither (Some at) (Some other) e = cc

module _ (comments : List Comment) (text : List ℕ) (order : Ascend 0 (length text) (places comments)) where
  -- the text with the comments
  abbrev written : List ℕ
  written = with_comments 0 text comments

  -- a token, a definition where they stand then
  abbrev mv : Token → Token
  mv t = token_moved_by comments t

  abbrev dmv : Definition → Definition
  dmv d = definition_moved_by comments d

  -- the tokens of a function as the grammar sees them
  parsed_moved : (ds : List Definition) (ts : List Token) → SameBytes comments text written ts
      → moved (moved_by comments) (tokens_of ds text ts) ≡ tokens_of (map dmv ds) written (map mv ts)
  parsed_moved ds [] h = refl
  parsed_moved ds (t ∷ ts) h =
      let at = moved_by comments t.at in
      let P : List ℕ → g.Token = λ bytes. g.token (kind_of bytes (constant_at (map dmv ds) bytes at) t.kind) at in
      ap₂ (λ (x : g.Token) (xs : List g.Token). x ∷ xs)
      (ap (λ (value : Option ℤ). g.token (kind_of (bytes_of text t) value t.kind) at) (sym (constant_moved comments ds (bytes_of text t)
      t.at))
      ∙ ap P (sym h.0)) (parsed_moved ds ts h.1)

  -- a token that may stand in a function may do so then
  inside_moved : (ds : List Definition) (t : Token) → bytes_of written (mv t) ≡ bytes_of text t → outside ds text t ≡ None
      → outside (map dmv ds) written (mv t) ≡ None
  inside_moved ds t h = by_kind t.kind where
    unless : unless_macro ds text t ≡ None → unless_macro (map dmv ds) written (mv t) ≡ None
    unless e = by_macro (is_macro ds text t) (macro_moved comments text order ds t h) e where
      by_macro : (b : Bool) → is_macro (map dmv ds) written (mv t) ≡ b
          → (if b then Some (fault.Macro t.at) else None) ≡ (let n : Option SourceFault = None in n)
          → unless_macro (map dmv ds) written (mv t) ≡ None
      by_macro true f i = cc
      by_macro false f i = rw f refl

    by_kind : (k : Kind) → elim k as (λ z. Option SourceFault)
        [ kind.Foreign foreign ↦ Some (fault.Foreign t.at foreign) | _ ↦ unless_macro ds text t ] ≡ None
        → elim k as (λ z. Option SourceFault)
        [ kind.Foreign foreign ↦ Some (fault.Foreign (moved_by comments t.at) foreign) | _ ↦ unless_macro (map dmv ds) written (mv t) ] ≡
        None
    by_kind (kind.Foreign f) e = cc
    by_kind _ e = unless e

  -- so do all of them
  all_inside : (ds : List Definition) (ts : List Token) → SameBytes comments text written ts → first_outside ds text ts ≡ None
      → first_outside (map dmv ds) written (map mv ts) ≡ None
  all_inside ds [] h e = refl
  all_inside ds (t ∷ ts) h e =
      by_first (outside ds text t) refl e (λ f. all_inside ds ts h.1 f) where
        by_first : (o : Option SourceFault) → outside ds text t ≡ o
            → elim o as (λ z. Option SourceFault) [ None ↦ first_outside ds text ts | Some x ↦ Some x ] ≡ None
            → (first_outside ds text ts ≡ None → first_outside (map dmv ds) written (map mv ts) ≡ None)
            → first_outside (map dmv ds) written (map mv (t ∷ ts)) ≡ None
        by_first None is f rest =
            let go : Option SourceFault → Option SourceFault =
            λ o. elim o as (λ z. Option SourceFault) [ None ↦ first_outside (map dmv ds) written (map mv ts) | Some x ↦ Some x ] in
            ap go (inside_moved ds t h.0 is) ∙ rest f
        by_first (Some x) is f rest = cc

  module _ (may_move : TokensMayMove) (whole_moves : WholeMayMove) (integers : Integers) where
    -- what a function means at other places
    function_kept : (to : ℕ → ℕ) (ts : List g.Token) (names : List (List ℕ)) (body : Statements)
        → FunctionMeans integers text ts (Ok (names, body)) → Moves integers (FunctionMeans integers written (moved to ts)) names body
    function_kept to ts names body (inl (a, f, e)) = cc
    function_kept to ts names body (inr (inl (a, f, e))) = cc
    function_kept to ts names body (inr (inr (f, r, fine, e))) =
        let (now, reads, means) = may_move integers to ts f r in
        let s = means (line_at text) (line_at written) names body (walked_ok (walk integers (line_at text) f) (names, body) e) in
        let whole = whole_moves to ts ((f, r), fine) in
        record {
          now = s.now;
          means = inr (inr (now, reads, whole.1, ap (λ (x : Result (List (List ℕ) × Statements) FunctionFault). walked x) (sym s.means)));
          same = s.same;
          core = s.core;
        }

    module _ (ds : List Definition) (code : List Token) (same : SameBytes comments text written code) where
      -- what the tokens of an item mean then
      item_kept : (ts : List Token) → SameBytes comments text written ts → (o : Option SourceFault) → first_outside ds text ts ≡ o
          → (names : List (List ℕ)) (body : Statements) → ItemMeans ds text integers ts o (Ok (names, body))
          → Moves integers (ItemMeans (map dmv ds) written integers (map mv ts) (first_outside (map dmv ds) written (map mv ts))) names body
      item_kept ts h (Some e) is names body i = cc
      item_kept ts h None is names body i =
          let P : List g.Token → Type 0 = λ l. Moves integers (FunctionMeans integers written l) names body in
          let Q : Option SourceFault → Type 0 = λ o. Moves integers (ItemMeans (map dmv ds) written integers (map mv ts) o) names body in
          subst Q (sym (all_inside ds ts h is))
          (subst P (parsed_moved ds ts h) (function_kept (moved_by comments) (tokens_of ds text ts) names body i))

      -- what is meant where this function is
      chosen_kept : (o : Option Defined) (names : List (List ℕ)) (body : Statements)
          → ChosenMeans ds text integers code o (Ok (names, body))
          → Moves integers (ChosenMeans (map dmv ds) written integers (map mv code) (move_option comments o)) names body
      chosen_kept None names body e = cc
      chosen_kept (Some d) names body h =
          let ts = item_of code d in
          let P : List Token → Type 0 = λ l. Moves integers
          (ItemMeans (map dmv ds) written integers l (first_outside (map dmv ds) written l)) names body in
          subst P (sym (range_moved comments text order code d.first d.end))
          (item_kept ts (same_range comments text order code d.first d.end same) (first_outside ds text ts) refl names body h)

      -- what is meant where these are the functions
      functions_kept : (asked : Option (List ℕ)) (fs : List Defined) (o : Option ℕ) → twice fs ds ≡ o → (names : List (List ℕ))
          (body : Statements) → FunctionsMean ds text integers asked code fs o (Ok (names, body))
          → Moves integers (FunctionsMean (map dmv ds) written integers asked (map mv code) (map (move_defined comments) fs)
          (twice (map (move_defined comments) fs) (map dmv ds))) names body
      functions_kept asked fs (Some at) is names body e = cc
      functions_kept asked fs None is names body h =
          let (one, two) = neither (repeated [] fs) (constants.repeated [] ds) is in
          let once : twice (map (move_defined comments) fs) (map dmv ds) ≡ None =
          ap₂ first_place (none_repeated comments [] fs one)
          (repeated_moved comments text order [] ds ∙ ap (λ (o : Option ℕ). option_map (moved_by comments) o) two) in
          let P : Option Defined → Type 0 = λ x. Moves integers (ChosenMeans (map dmv ds) written integers (map mv code) x) names body in
          let Q : Option ℕ → Type 0 = λ x. Moves integers (FunctionsMean (map dmv ds) written integers asked (map mv code)
          (map (move_defined comments) fs) x) names body in
          subst Q (sym once) (subst P (sym (chosen_option comments asked fs)) (chosen_kept (chosen asked fs) names body h))

    -- what a file means
    kept : (asked : Option (List ℕ)) (front : List Token) → SameBytes comments text written front
        → AreTogether text comments (directives_of (asides_of front)) → (names : List (List ℕ)) (body : Statements)
        → Means integers text asked front (Ok (names, body)) → Moves integers (Means integers written asked (map mv front)) names body
    kept asked front h near names body (inl (index, found, e)) = cc
    kept asked front h near names body (inr (items, found, means)) =
        let ds = definitions_of integers text front items in
        let code = code_of front in
        let fs = functions_of text code items in
        let same : SameBytes comments text written code = same_filter comments text order (λ (t : Token). is_code t.kind) front h in
        let moved_code : code_of (map mv front) ≡ map mv code = filter_moved comments text order is_code front in
        let there : functions_of written (map mv code) items ≡ map (move_defined comments) fs =
        functions_moved comments text written code same items in
        let defined : definitions_of integers written (map mv front) items ≡ map dmv ds =
        definitions_moved comments text order integers front items h near in
        let P : List Defined → Type 0 = λ l. Moves integers (FunctionsMean (map dmv ds) written integers asked (map mv code) l
        (twice l (map dmv ds))) names body in
        let Q : List Definition → Type 0 = λ l. Moves integers (FunctionsMean l written integers asked (map mv code)
        (functions_of written (map mv code) items) (twice (functions_of written (map mv code) items) l)) names body in
        let R : List Token → Type 0 = λ l. Moves integers (FunctionsMean (definitions_of integers written (map mv front) items) written
        integers asked l (functions_of written l items)
        (twice (functions_of written l items) (definitions_of integers written (map mv front) items))) names body in
        let S : List Mark → Type 0 = λ ms. file.Finds (file.divided items) ms in
        let marks : marks_of (code_of (map mv front)) ≡ marks_of code =
        ap (λ (l : List Token). marks_of l) moved_code ∙ same_marks comments code in
        moves_by integers (FunctionsMean (definitions_of integers written (map mv front) items) written integers asked (code_of (map mv
        front))
        (functions_of written (code_of (map mv front)) items)
        (twice (functions_of written (code_of (map mv front)) items) (definitions_of integers written (map mv front) items)))
        (Means integers written asked (map mv front)) names body (λ r m. inr (items, subst S (sym marks) found, m))
        (subst R (sym moved_code) (subst Q (sym defined) (subst P (sym there)
        (functions_kept ds code same asked fs (twice fs ds) refl names body means))))

-- where tokens at other places mean the same function
pub programs : TokensMayMove → WholeMayMove → ProgramsStay
programs may_move whole_moves integers text tokens front comments asked names body reads ended means stand =
    let written = with_comments 0 text comments in
    let stays = stay text tokens comments reads stand in
    let mv : Token → Token = token_moved_by comments in
    let parts : map mv tokens ≡ map mv front ++ mv (end_at (length text)) ∷ [] =
    ap (λ (l : List Token). map mv l) (sym ended) ∙ map-append mv front (end_at (length text) ∷ []) in
    let (fronts, ends) = lasts stays.reads.front (map mv front) (end_at (length written)) (mv (end_at (length text)))
    (stays.reads.told ∙ parts) in
    let all : map mv tokens ≡ map mv front ++ end_at (length written) ∷ [] =
    parts ∙ ap (λ (t : Token). map mv front ++ t ∷ []) (sym ends) in
    let bytes = lasts (map (bytes_of written) (map mv front)) (map (bytes_of text) front) (bytes_of written (mv (end_at (length text))))
    (bytes_of text (end_at (length text)))
    (sym (map-append (bytes_of written) (map mv front) (mv (end_at (length text)) ∷ []))
    ∙ ap (λ (l : List Token). map (bytes_of written) l) (sym parts) ∙ stays.bytes
    ∙ ap (λ (l : List Token). map (bytes_of text) l) (sym ended)
    ∙ map-append (bytes_of text) front (end_at (length text) ∷ [])) in
    let pieces = reads.whole.pieces in
    let was : tokens_from 0 pieces ≡ front =
    reads.whole.told ∙ (lasts reads.front front (end_at (length text)) (end_at (length text)) (reads.told ∙ sym ended)).0 in
    let edges : AllByRecursion (λ c. IsEdgeOf (tokens_from 0 pieces) c.place) comments =
    recursion_from_All (λ c. IsEdgeOf (tokens_from 0 pieces) c.place) comments
    (All-weaker (λ c. IsEdge tokens c.place) (λ c. IsEdgeOf (tokens_from 0 pieces) c.place)
    (λ c edge. edge_of 0 pieces c.place (edge_in pieces (length text) c.place
    (let P : List Token → Type 0 = λ l. IsEdge l c.place in
    subst P (sym (ap (λ (l : List Token). l ++ end_at (length text) ∷ []) was ∙ ended)) edge))) comments stand.edges) in
    let listed = placed_tokens C text tokens reads in
    let A : List Token → Type 0 = λ l. AreTokensAfter text 0 l in
    let placed = subst A (lasts listed.front front (end_at (length text)) (end_at (length text)) (listed.ended
    ∙ sym ended)).0 listed.placed in
    let B : List Token → Type 0 = λ l. AllByRecursion (λ c. IsEdgeOf l c.place) comments in
    let near = together text comments (tokens_from 0 pieces) (subst A (sym was) placed) edges [] (tokens_from 0 pieces) false refl
    (row_of Blanks false 0 pieces reads.whole.fit (λ e. cc)) in
    let D : List Token → Type 0 = λ l. AreTogether text comments (directives_of (asides_of l)) in
    let k = kept comments text stand.order may_move whole_moves integers asked front (same_bytes comments text written front bytes.0)
    (subst D was near) names body means in
    let P : List Token → Type 0 = λ l. Reads C written l in
    record {
      front = map mv front;
      now = k.now;
      reads = subst P all stays.reads;
      means = k.means;
      same = k.same;
      core = k.core;
    }
