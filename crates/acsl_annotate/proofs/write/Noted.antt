-- The comments of a function whose least bounds were found, and the text of its file with them.
use Rattle.std.proofs.Common.{◌≡◌, ◌∙◌, ◌++◌, ◌∷◌, ◌-◌, ◌≤◌, ◌<◌, ℕ, List, [], IsTrue, ap, length, map, take, drop, refl, sym, subst, arith}
use Rattle.std.proofs.Common.{inl, inr}
use Rattle.std.specs.Prelude.{ℤ, IfOk, Result, Ok, Err, ◌&&◌, nat_le, slice_range}
use Rattle.std.specs.List.{All}
use Rattle.std.proofs.lemmas.Bool.{leb-true}
use Rattle.std.proofs.lemmas.List.{drop-append-le, length-drop, take-append-le}
use Rattle.lang_tokens.specs.Lines.{line_at}
use Rattle.lang_tokens.specs.declared.lexicon.Lexicon.TheVariants.{C}
use Rattle.lang_tokens.specs.declared.lexicon.Lexicon.{Lexicon}
use Rattle.lang_tokens.specs.Reading as lex
use Rattle.lang_tokens.specs.declared.token.Token as lex_token
use Rattle.lang_tree.specs.Tree.{Statements}
use Rattle.lang_tree.specs.Word.{is_word}
use Rattle.source_grammar.specs.Tokens as g
use Rattle.source_grammar.specs.Grammar.{Function, Reads}
use Rattle.base_integers.specs.declared.integers.Integers.{Integers}
use Rattle.source_tree.specs.Statements as c
use Rattle.source_meaning.specs.Walk.{walk}
use Rattle.source_tokens.specs.View.{tokens_of}
use Rattle.source_tokens.specs.declared.definition.Definition.{Definition}
use Rattle.source_constants.specs.Directives.{code_of}
use Rattle.source_file.specs.Meaning.{Answer, FunctionMeans, IsChosen, Means, item_of}
use Rattle.source_file.specs.declared.functions.Defined.{Defined}
use Rattle.flow_edges.specs.declared.point.Point.{Point}
use Rattle.flow_edges.specs.Points.{points_of_program}
use Rattle.flow_templates.specs.Rows.{is_template}
use Rattle.flow_templates.specs.declared.limits.TheConstants.{MOST_ROWS}
use Rattle.flow_systems.specs.Equations.{Equations, Least, Vector}
use Rattle.flow_systems.specs.SolutionLaws.{ProgramPostSolutionsHold}
use Rattle.flow_systems.specs.Solutions.{equations_of_program}
use Rattle.flow_systems.specs.View.{vector_at}
use Rattle.flow_systems.proofs.Sizes.{both}
use Rattle.acsl_comments.specs.Law.{CommentsComeOut, ProgramsStay}
use Rattle.acsl_comments.specs.Places.{Ascend, MayStand}
use Rattle.acsl_comments.specs.Texts.{with_comments, without_comments}
use Rattle.acsl_comments.specs.declared.comment.Comment.{Comment}
use Rattle.acsl_comments.proofs.pieces.Programs.{walked_ok}
use Rattle.acsl_anchors.specs.Anchors.{Anchor, anchors_of}
use Rattle.acsl_anchors.specs.Laws.{AnchorsArePoints, anchored}
use Rattle.acsl_anchors.specs.View.{plain_anchors}
use Rattle.acsl_anchors.specs.declared.anchor.Anchor as code_anchor
use Rattle.acsl_notes.specs.Clauses.{IsTrueAt}
use Rattle.acsl_notes.specs.Laws.{ClausesHold, CommentsMayStand, SaysTruth}
use Rattle.acsl_notes.specs.Texts.{comments_from}
use Rattle.ask_words.specs.declared.request.Domain.{Domain}
use Rattle.ask_words.specs.declared.request.Policy.{Policy}
use Rattle.top_texts.specs.Analyses.{IsFoundIn}
use Rattle.top_texts.specs.Texts.{HasCore, Program}
use Rattle.top_texts.specs.declared.analyse.least.LeastBounds.{LeastBounds}
use Rattle.top_texts.proofs.by_c.InSource.{kept_in_source}
use Rattle.top_texts.proofs.texts.Once.{equations_are, rows_over}
use Rattle.acsl_annotate.specs.Annotated.{IsAnnotatedOf, IsTreeOf, SaysTruthByC, notes}
use Rattle.acsl_annotate.proofs.write.Coded.{code_end}

-- some tokens of a text are those of all but its end
range_front : (front : List lex_token.Token) (end : lex_token.Token) (first last : ℕ) → first ≤ last → last ≤ length front
    → slice_range (front ++ end ∷ []) first last ≡ slice_range front first last
range_front front end first last order within =
    let here : first ≤ length front = omega arith in
    let few : last - first ≤ length (drop first front) = omega (arith, length-drop first front) in
    ap (λ (l : List lex_token.Token). take (last - first) l) (drop-append-le first front (end ∷ []) here)
    ∙ take-append-le (last - first) (drop first front) (end ∷ []) few

-- what tokens mean that are a function is what its tree does
tree_in : (integers : Integers) (text : List ℕ) (ts : List g.Token) (names : List (List ℕ)) (statements : c.Statements)
    → FunctionMeans integers text ts (Ok (names, statements))
    → (tree : Function) × Reads ts tree × (walk integers (line_at text) tree ≡ Ok (names, statements))
tree_in integers text ts names statements (inl (at, finds, e)) = cc
tree_in integers text ts names statements (inr (inl (at, finds, e))) = cc
tree_in integers text ts names statements (inr (inr (tree, is, fine, e))) =
    (tree, is, walked_ok (walk integers (line_at text) tree) (names, statements) e)

-- a text has one list of tokens
abbrev pub OneReading : Type 0
OneReading = (lexicon : Lexicon) (text : List ℕ) (tokens others : List lex_token.Token) → lex.Reads lexicon text tokens
    → lex.Reads lexicon text others → tokens ≡ others

-- what the code found of a function: the tokens of the file, those that are the function, its anchors by its tree, and its comments by its
-- anchors
pub record IsNoted (program : Program) (bounds : LeastBounds) (tokens : List lex_token.Token) (definitions : List Definition) (d : Defined)
    (places : List code_anchor.Anchor) (list : List Comment) : Type 0 where
  -- the text reads as the tokens
  pub reads : lex.Reads C program.text tokens
  -- the names of the variables are words
  pub words : All (λ name. IsTrue (is_word name)) bounds.system.flow.names
  -- the function's tokens are in order
  pub order : d.first ≤ d.end
  -- and before the end
  pub within : (front : List lex_token.Token) → front ++ lex.end_at (length program.text) ∷ [] ≡ tokens → d.end ≤ length (code_of front)
  -- it is the one that is asked about
  pub found : (front : List lex_token.Token) → front ++ lex.end_at (length program.text) ∷ [] ≡ tokens
      → IsChosen program.integers program.text program.function front definitions d
  -- what the file means is what its tokens do
  pub means : (front : List lex_token.Token) → front ++ lex.end_at (length program.text) ∷ [] ≡ tokens → (wanted : Answer)
      → Means program.integers program.text program.function front wanted
      → FunctionMeans program.integers program.text (tokens_of definitions program.text (item_of (code_of front) d)) wanted
  -- the anchors are those of its tree
  pub anchors : (f : Function) → Reads (tokens_of definitions program.text (slice_range (code_of tokens) d.first d.end)) f
      → places ≡ plain_anchors (anchors_of f)
  -- the comments are those of the anchors with the bounds found
  pub comments : (l : List Anchor) → places ≡ plain_anchors l
      → list ≡ comments_from program.text bounds.system.flow.names bounds.system.template (vector_at bounds.system bounds.solved.bounds) 0
      bounds.system.flow.points l

-- the same of tokens, names and anchors that are borrowed, where these are the tokens of code
pub noted_by : (program : Program) (bounds : LeastBounds) (tokens tokens1 code code2 : List lex_token.Token)
    (definitions : List Definition) (d : Defined) (places places2 : List code_anchor.Anchor) (list : List Comment) (names : List (List ℕ))
    → tokens1 ≡ tokens → code2 ≡ code_of tokens → places2 ≡ places → names ≡ bounds.system.flow.names → lex.Reads C program.text tokens
    → All (λ name. IsTrue (is_word name)) names → d.first ≤ d.end → d.end ≤ length code
    → ((front : List lex_token.Token) → front ++ lex.end_at (length program.text) ∷ [] ≡ tokens1 → code ≡ code_of front)
    → ((front : List lex_token.Token) → front ++ lex.end_at (length program.text) ∷ [] ≡ tokens1
    → IsChosen program.integers program.text program.function front definitions d)
    → ((front : List lex_token.Token) → front ++ lex.end_at (length program.text) ∷ [] ≡ tokens1 → (wanted : Answer)
    → Means program.integers program.text program.function front wanted
    → FunctionMeans program.integers program.text (tokens_of definitions program.text (item_of code d)) wanted)
    → ((constants : List Definition) (f : Function) → Reads (tokens_of constants program.text (slice_range code2 d.first d.end)) f
    → places ≡ plain_anchors (anchors_of f))
    → ((l : List Anchor) → places2 ≡ plain_anchors l
    → list ≡ comments_from program.text bounds.system.flow.names bounds.system.template (vector_at bounds.system bounds.solved.bounds) 0
    bounds.system.flow.points l)
    → IsNoted program bounds tokens definitions d places list
noted_by program bounds tokens tokens1 code code2 definitions d places places2 list names e1 e2 e3 e4 reads words order within codes found
    means anchors said =
    record {
      reads = reads;
      words = subst (λ (ns : List (List ℕ)). All (λ name. IsTrue (is_word name)) ns) e4 words;
      order = order;
      within = λ front e. subst (λ (l : List lex_token.Token). d.end ≤ length l) (codes front (e ∙ sym e1)) within;
      found = λ front e. found front (e ∙ sym e1);
      means = λ front e wanted m. subst (λ (l : List lex_token.Token).
          FunctionMeans program.integers program.text (tokens_of definitions program.text (item_of l d)) wanted)
          (codes front (e ∙ sym e1)) (means front (e ∙ sym e1) wanted m);
      anchors = λ f is. anchors definitions f
          (subst (λ (l : List lex_token.Token). Reads (tokens_of definitions program.text (slice_range l d.first d.end)) f) (sym e2) is);
      comments = λ l e. said l (e3 ∙ e);
    }

-- an answer that is done says more
pub for_ok : {A E : Type 0} (P Q : A → Type 0) (r : Result A E) → ((a : A) → P a → Q a) → IfOk r P → IfOk r Q
for_ok P Q (Ok a) f h = f a h
for_ok P Q (Err e) f h = tt

module _ (program : Program) (rows : Domain (List ℕ)) (policy : Policy) (limit : ℕ) (bounds : LeastBounds)
    (tokens : List lex_token.Token) (definitions : List Definition) (d : Defined) (places : List code_anchor.Anchor) (list : List Comment)
    (found : IsFoundIn program rows policy limit bounds) (noted : IsNoted program bounds tokens definitions d places list)
    (one : OneReading)
    (stand : CommentsMayStand) where
  -- the core of the function
  abbrev core : HasCore program found.solved.names found.solved.body
  core = found.solved.ready.system.analysed.has_core

  -- what they are by the definitions
  pub record Stands : Type 0 where
    -- all tokens but the end
    pub front : List lex_token.Token
    -- with it they are the tokens
    pub ended : front ++ lex.end_at (length program.text) ∷ [] ≡ tokens
    -- they mean the function found
    pub means : Means program.integers program.text program.function front (Ok (found.solved.names, core.statements))
    -- the tree of the function
    pub tree : Function
    -- the tree is that of the function found
    pub is_tree : IsTreeOf program found.solved.names core.statements tree
    -- the comments are those of the definition
    pub list_is : list ≡ notes program.text found.solved.names found.solved.body found.solved.template
        (vector_at bounds.system bounds.solved.bounds) tree
    -- the comments may stand where they do
    pub may_stand : MayStand program.text tokens (notes program.text found.solved.names found.solved.body found.solved.template
        (vector_at bounds.system bounds.solved.bounds) tree)

  -- what was found of the function is what the definitions say
  pub stands : Stands
  stands =
      let s = found.solved in
      let v : Vector = vector_at bounds.system bounds.solved.bounds in
      let text = program.text in
      let (front, reads, means) = core.reading in
      let end = lex.end_at (length text) in
      let ended : front ++ end ∷ [] ≡ tokens = one C text (front ++ end ∷ []) tokens reads noted.reads in
      let item = tokens_of definitions text (item_of (code_of front) d) in
      let (tree, tree_is, walked) = tree_in program.integers text item s.names core.statements
      (noted.means front ended (Ok (s.names, core.statements)) means) in
      let range : slice_range (code_of front) d.first d.end ≡ slice_range (code_of tokens) d.first d.end =
      sym (range_front (code_of front) end d.first d.end noted.order (noted.within front ended))
      ∙ ap (λ (l : List lex_token.Token). slice_range l d.first d.end) (sym (code_end front end refl) ∙ ap code_of ended) in
      let among : Reads (tokens_of definitions text (slice_range (code_of tokens) d.first d.end)) tree =
      subst (λ (l : List lex_token.Token). Reads (tokens_of definitions text l) tree) range tree_is in
      let by_system = noted.comments (anchors_of tree) (noted.anchors tree among) in
      record {
        front = front;
        ended = ended;
        means = means;
        tree = tree;
        is_tree = record {
          front = front;
          reads = reads;
          definitions = definitions;
          defined = d;
          is_chosen = noted.found front ended;
          tree_is = tree_is;
          means = walked;
        };
        list_is =
            subst (λ (t : List (List ℤ)). list ≡ comments_from text s.names t v 0 (points_of_program s.body) (anchors_of tree))
            s.system_for.template_is
            (subst (λ (points : List Point). list ≡ comments_from text s.names bounds.system.template v 0 points (anchors_of tree))
            s.system_for.points_are
            (subst (λ (names : List (List ℕ)). list ≡ comments_from text names bounds.system.template v 0 bounds.system.flow.points
            (anchors_of tree)) s.system_for.names_are by_system));
        may_stand = stand definitions text tokens front d.first d.end tree s.names (points_of_program s.body) s.template v noted.reads
            ended tree_is
            (subst (λ (names : List (List ℕ)). All (λ name. IsTrue (is_word name)) names) s.system_for.names_are noted.words);
      }

  -- they stand in order
  pub in_order : Ascend 0 (length program.text) (map (λ c. c.place) list)
  in_order = subst (λ (cs : List Comment). Ascend 0 (length program.text) (map (λ c. c.place) cs)) (sym stands.list_is)
      stands.may_stand.order

  -- what they say is so by C
  said_by_c : (v : Vector) → SaysTruth (length found.solved.names) found.solved.body found.solved.template v
      → SaysTruthByC program.integers (length found.solved.names) core.statements found.solved.template v
  said_by_c v truth p known clause listed =
      kept_in_source program found.solved.names found.solved.body core p (λ state. IsTrueAt clause state)
      (λ run now is among at. truth p known clause listed run now is among at) core.statements core.reading

  -- and the text with them is that of the definition
  pub annotated_of : (bytes : List ℕ) → bytes ≡ with_comments 0 program.text list → 0 < length bounds.system.template → AnchorsArePoints
      → CommentsComeOut → ProgramsStay → ClausesHold
      → ProgramPostSolutionsHold → IsAnnotatedOf program rows bytes
  annotated_of bytes written some points come stay hold post =
      let s = found.solved in
      let v : Vector = vector_at bounds.system bounds.solved.bounds in
      let text = program.text in
      let said = notes text s.names s.body s.template v stands.tree in
      let least : Least (equations_of_program (length s.names) s.body s.template) v =
      subst (λ (q : Equations). Least q v) (equations_are s.names s.body s.template bounds.system s.system_for) found.least in
      let spelled : bytes ≡ with_comments 0 text said = written ∙ ap (with_comments 0 text) stands.list_is in
      let truth : SaysTruth (length s.names) s.body s.template v =
      hold (length s.names) s.body s.template v (subst (λ (t : List (List ℤ)). 0 < length t) s.system_for.template_is some)
      (post (length s.names) s.body s.template v
      (rows_over s.names s.body s.template bounds.system s.system_for) least.solves.post) in
      record {
        names = s.names;
        body = s.body;
        template = s.template;
        ready = s.ready;
        vector = v;
        least = least;
        annotated = record {
          has_core = core;
          tree = stands.tree;
          is_tree = stands.is_tree;
          points = points program.integers (line_at text) stands.tree s.names core.statements stands.is_tree.means
              ∙ ap (λ (b : Statements). anchored (points_of_program b)) (sym core.core);
          written = spelled;
          comes_out = ap (λ b. without_comments 0 b said) spelled ∙ come text said stands.may_stand.order;
          means = stay program.integers text tokens stands.front said program.function s.names core.statements noted.reads stands.ended
              stands.means
              stands.may_stand;
          truth = truth;
          by_c = said_by_c v truth;
        };
      }

-- a template has a row
pub some_row : (template : List (List ℤ)) → IsTrue (is_template template) → 0 < length template
some_row template h =
    let a = both (nat_le 1 (length template) && nat_le (length template) MOST_ROWS) _ h in
    let b = both (nat_le 1 (length template)) (nat_le (length template) MOST_ROWS) a.0 in
    let some = leb-true 1 (length template) b.0 in omega arith
