-- The texts of a file and of rows have one annotated text: annotations depend on the bounds at the points and the rows alone.
use Rattle.std.proofs.Common.{◌≡◌, ◌∙◌, ◌++◌, ◌+◌, ◌<◌, ◌≤◌, ℕ, suc, List, [], ◌∷◌, length, refl, sym, ap, ap₂, subst, arith}
use Rattle.std.specs.Prelude.{ℤ, Bool, Ok, Option, Some, if◌then◌else◌}
use Rattle.std.proofs.lemmas.List.{append_cancel_right}
use Rattle.base_numbers.specs.Extended.{Ext, neg_inf, fin, pos_inf}
use Rattle.lang_tokens.specs.declared.lexicon.Lexicon.TheVariants.{C}
use Rattle.lang_tokens.specs.Reading as lex
use Rattle.lang_tokens.specs.declared.token.Token as lex_token
use Rattle.lang_tokens.proofs.reading.Once.{one_token_list}
use Rattle.lang_tree.specs.Tree.{Statements}
use Rattle.source_items.specs.declared.item.Item.{Item}
use Rattle.source_items.specs.Divisions as file
use Rattle.source_items.proofs.files.Lemmas.{one_outcome}
use Rattle.source_grammar.specs.Grammar.{Function, Reads}
use Rattle.source_grammar.proofs.grammar.Once.{reads_once}
use Rattle.source_tree.specs.Statements as c
use Rattle.source_tokens.specs.View.{marks_of, tokens_of}
use Rattle.source_tokens.specs.declared.definition.Definition.{Definition}
use Rattle.source_constants.specs.Directives.{code_of}
use Rattle.source_constants.specs.Definitions.{definitions_of}
use Rattle.base_integers.specs.declared.integers.Integers.{Integers}
use Rattle.source_file.specs.Choice.{chosen}
use Rattle.source_file.specs.Functions.{functions_of}
use Rattle.source_file.specs.Meaning.{IsChosen, item_of}
use Rattle.source_file.specs.declared.functions.Defined.{Defined}
use Rattle.flow_edges.specs.Points.{points_of_program}
use Rattle.flow_edges.specs.declared.point.Point.{Point}
use Rattle.flow_edges.proofs.points.Numbering.{numbering}
use Rattle.flow_systems.specs.Equations.{Equations, Least, Vector}
use Rattle.flow_systems.specs.Solutions.{equations_of_program}
use Rattle.flow_systems.proofs.equations.Leastness.{at_most_one}
use Rattle.acsl_comments.specs.Texts.{with_comments}
use Rattle.acsl_comments.specs.declared.comment.Comment.{Comment}
use Rattle.acsl_anchors.specs.Anchors.{Anchor, anchors_of}
use Rattle.acsl_anchors.specs.Laws.{is_anchored}
use Rattle.acsl_notes.specs.Clauses.{Bounded, bounded_from, clauses, clauses_from, clauses_unless}
use Rattle.acsl_notes.specs.Texts.{annotated, comment_at, comment_unless_silent, comments_from}
use Rattle.ask_words.specs.declared.request.Domain.{Domain}
use Rattle.top_texts.specs.Texts.{HasGroups, HasTemplate, Program}
use Rattle.top_texts.proofs.by_c.InSource.{some_names}
use Rattle.top_texts.proofs.texts.Readings.{program_once, rows_once}
use Rattle.top_answer.proofs.outputs.Templates.{some_row}
use Rattle.acsl_annotate.specs.Annotated.{IsAnnotatedOf, IsTreeOf}

-- ---- vectors that agree say the same

bounded_agree : (r : ℕ) (rows : List (List ℤ)) (f g : ℕ → Ext) → ((s : ℕ) → r ≤ s → s < r + length rows → f s ≡ g s)
    → bounded_from r rows f ≡ bounded_from r rows g
bounded_agree r [] f g h = refl
bounded_agree r (row ∷ rows) f g h =
    let here : f r ≡ g r = h r (omega arith) (omega arith) in
    let rest : (s : ℕ) → suc r ≤ s → s < suc r + length rows → f s ≡ g s = λ s a b. h s (omega arith) (omega arith) in
    ap₂ (λ bound (others : List Bounded). (row, bound) ∷ others) here (bounded_agree (suc r) rows f g rest)

module _ (known : List ℕ) (template : List (List ℤ)) (some : 0 < length template) where
  unless_agree : (f g : ℕ → Ext) (first : Ext) → ((r : ℕ) → r < length template → f r ≡ g r)
      → clauses_unless known template f first ≡ clauses_unless known template g first
  unless_agree f g neg_inf h = refl
  unless_agree f g (fin q) h = ap (clauses_from known []) (bounded_agree 0 template f g (λ r a b. h r (omega arith)))
  unless_agree f g pos_inf h = ap (clauses_from known []) (bounded_agree 0 template f g (λ r a b. h r (omega arith)))

  clauses_agree : (f g : ℕ → Ext) → ((r : ℕ) → r < length template → f r ≡ g r) → clauses known template f ≡ clauses known template g
  clauses_agree f g h = ap (clauses_unless known template f) (h 0 some) ∙ unless_agree f g (g 0) h

-- one of two lists
abbrev either_of : Bool → List Comment → List Comment → List Comment
either_of b one other = if b then one else other

module _ (text : List ℕ) (names : List (List ℕ)) (template : List (List ℤ)) (some : 0 < length template) (v w : Vector) where
  comments_agree : (k : ℕ) (points : List Point) (anchors : List Anchor)
      → ((p r : ℕ) → k ≤ p → p < k + length points → r < length template → v p r ≡ w p r)
      → comments_from text names template v k points anchors ≡ comments_from text names template w k points anchors
  comments_agree k [] anchors h = refl
  comments_agree k (point ∷ points) [] h = refl
  comments_agree k (point ∷ points) (anchor ∷ anchors) h =
      let here : (r : ℕ) → r < length template → v k r ≡ w k r = λ r. h k r (omega arith) (omega arith) in
      let rest : (p r : ℕ) → suc k ≤ p → p < suc k + length points → r < length template → v p r ≡ w p r = λ p r a b.
      h p r (omega arith) (omega arith) in
      let said : comment_at text names template v k anchor ≡ comment_at text names template w k anchor =
      ap (comment_unless_silent text names anchor) (clauses_agree anchor.known template some (v k) (w k) here) in
      ap₂ (either_of (is_anchored point.place))
      (ap₂ (λ first others. first ++ others) said (comments_agree (suc k) points anchors rest))
      (comments_agree (suc k) points (anchor ∷ anchors) rest)

-- a program has one text with the annotations of least vectors
annotated_agree : (text : List ℕ) (names : List (List ℕ)) (body : Statements) (template : List (List ℤ)) (v w : Vector)
    (anchors : List Anchor) → 0 < length template → Least (equations_of_program (length names) body template) v
    → Least (equations_of_program (length names) body template) w
    → annotated text names (points_of_program body) template v anchors ≡ annotated text names (points_of_program body) template w anchors
annotated_agree text names body template v w anchors some a b =
    let system : Equations = equations_of_program (length names) body template in
    let agree : (p r : ℕ) → 0 ≤ p → p < 0 + length (points_of_program body) → r < length template → v p r ≡ w p r = λ p r l h.
    at_most_one system v w a b.solves b.below p r (omega (arith, (numbering body).count)) in
    ap (with_comments 0 text) (comments_agree text names template some v w 0 (points_of_program body) anchors agree)

-- ---- a file has one function that is asked about, and it has one tree

one_list : (items others : List Item) → file.divided items ≡ file.divided others → items ≡ others
one_list items others e = cc

some_one : (d e : Defined) (o : Option Defined) → Some d ≡ o → Some e ≡ o → d ≡ e
some_one d e o h k = cc

module _ (integers : Integers) (text : List ℕ) (asked : Option (List ℕ)) (front : List lex_token.Token) (ds es : List Definition)
    (d e : Defined) (h : IsChosen integers text asked front ds d) (k : IsChosen integers text asked front es e) where
  items_agree : h.are.items ≡ k.are.items
  items_agree = one_list h.are.items k.are.items
      (one_outcome (marks_of (code_of front)) (file.divided h.are.items) (file.divided k.are.items) h.are.found k.are.found)

  defined_agree : d ≡ e
  defined_agree =
      let functions : h.functions ≡ k.functions =
      h.are.are ∙ ap (λ (l : List Item). functions_of text (code_of front) l) items_agree ∙ sym k.are.are in
      some_one d e (chosen asked k.functions) (h.picked ∙ ap (λ (l : List Defined). chosen asked l) functions) k.picked

  definitions_agree : ds ≡ es
  definitions_agree = h.are.defined ∙ ap (λ (l : List Item). definitions_of integers text front l) items_agree ∙ sym k.are.defined

trees_agree : (program : Program) (names others : List (List ℕ)) (statements body : c.Statements) (one other : Function)
    → IsTreeOf program names statements one → IsTreeOf program others body other → one ≡ other
trees_agree program names others statements body one other a b =
    let last = lex.end_at (length program.text) ∷ [] in
    let fronts : b.front ≡ a.front =
    append_cancel_right b.front a.front last (one_token_list C program.text (b.front ++ last) (a.front ++ last) b.reads a.reads) in
    let there : IsChosen program.integers program.text program.function a.front b.definitions b.defined =
    subst (λ (l : List lex_token.Token). IsChosen program.integers program.text program.function l b.definitions b.defined) fronts
    b.is_chosen in
    let same : b.defined ≡ a.defined = defined_agree program.integers program.text program.function a.front b.definitions a.definitions
    b.defined a.defined there a.is_chosen in
    let also : b.definitions ≡ a.definitions = definitions_agree program.integers program.text program.function a.front b.definitions
    a.definitions b.defined a.defined there a.is_chosen in
    let reads : Reads (tokens_of a.definitions program.text (item_of (code_of a.front) a.defined)) other =
    subst (λ (ds : List Definition). Reads (tokens_of ds program.text (item_of (code_of a.front) a.defined)) other) also
    (subst (λ (d : Defined). Reads (tokens_of b.definitions program.text (item_of (code_of a.front) d)) other) same
    (subst (λ (l : List lex_token.Token). Reads (tokens_of b.definitions program.text (item_of (code_of l) b.defined)) other) fronts
    b.tree_is)) in
    reads_once (tokens_of a.definitions program.text (item_of (code_of a.front) a.defined)) one other a.tree_is reads

-- the texts of a file and of rows have one annotated text
pub one_annotated : (program : Program) (rows : Domain (List ℕ)) (one other : List ℕ) → IsAnnotatedOf program rows one
    → IsAnnotatedOf program rows other → one ≡ other
one_annotated program rows one other a b =
    let text = program.text in
    let core = a.ready.system.analysed.has_core in
    let same = program_once program (b.names, b.body) (a.names, a.body) b.ready.system.analysed.has_core core in
    let template : b.template ≡ a.template =
    rows_once program rows a.names b.template a.template
    (subst (λ (x : List (List ℕ) × Statements). HasTemplate program rows x.0 (Ok b.template)) same b.ready.system.template_is)
    a.ready.system.template_is in
    let least : Least (equations_of_program (length a.names) a.body a.template) b.vector =
    subst (λ t. Least (equations_of_program (length a.names) a.body t) b.vector) template
    (subst (λ (x : List (List ℕ) × Statements). Least (equations_of_program (length x.0) x.1 b.template) b.vector) same b.least) in
    let written : other ≡ annotated text a.names (points_of_program a.body) a.template b.vector (anchors_of b.annotated.tree) =
    subst (λ t. other ≡ annotated text a.names (points_of_program a.body) t b.vector (anchors_of b.annotated.tree)) template
    (subst (λ (x : List (List ℕ) × Statements). other ≡ annotated text x.0 (points_of_program x.1) b.template b.vector
    (anchors_of b.annotated.tree)) same b.annotated.written) in
    a.annotated.written
    ∙ annotated_agree text a.names a.body a.template a.vector b.vector (anchors_of a.annotated.tree)
    (some_row (HasGroups program a.names) rows a.names a.template (some_names program a.names a.body core) a.ready.system.template_is)
    a.least least
    ∙ ap (λ tree. annotated text a.names (points_of_program a.body) a.template b.vector (anchors_of tree))
    (trees_agree program a.names b.names a.annotated.has_core.statements b.annotated.has_core.statements a.annotated.tree
    b.annotated.tree a.annotated.is_tree b.annotated.is_tree)
    ∙ sym written
