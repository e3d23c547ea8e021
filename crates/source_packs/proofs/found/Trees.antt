-- The book behind the parts of a function has their groups.
use Rattle.std.proofs.Common.{◌≡◌, ◌++◌, ℕ, List, [], Option, Some, None, refl, sym, ap₂, subst}
use Rattle.std.proofs.lemmas.List.{append-nil}
use Rattle.source_grammar.specs.Tokens.{Name}
use Rattle.source_grammar.specs.Expressions.{Update, MoreUpdates, last_update, next_update, Updates, no_updates, some_updates, GoodUpdate}
use Rattle.source_grammar.specs.Expressions.{GoodMoreUpdates, GoodUpdates}
use Rattle.source_grammar.specs.Grammar.{Initialiser, bare, given, sized, filled, Sizes, last_size, next_size, number_size, name_size}
use Rattle.source_grammar.specs.Grammar.{Declarator, declarator, MoreDeclarators, last_declarator, next_declarator, Declarators, declares}
use Rattle.source_grammar.specs.Grammar.{ForFirst, declared_first, updated_first, GoodInitialiser, GoodDeclarator, GoodMoreDeclarators}
use Rattle.source_grammar.specs.Grammar.{GoodDeclarators, GoodFirst, Core, empty, block, if_alone, if_else, repeat, repeat_after}
use Rattle.source_grammar.specs.Grammar.{repeat_for}
use Rattle.source_grammar.specs.Grammar.{jumps, returns, demands, calls, updates, Sub, labelled, plain, Items, no_items, label, declaration}
use Rattle.source_grammar.specs.Grammar.{item, GoodCore, GoodSub, GoodItems, Function, function, Good}
use Rattle.lang_groups.specs.Groups.{SameTogether}
use Rattle.lang_groups.specs.Laws.{MarksGiveGroups, MarksGiveOneMore}
use Rattle.lang_groups.specs.Shapes.{enclosed}
use Rattle.lang_groups.specs.Shapes as lang
use Rattle.lang_groups.proofs.together.Same.{same_equal}
use Rattle.source_packs.specs.Shapes.{variable_number, number_shape, shape, arguments_shape, optional_shape, update_shape, sizes_shape}
use Rattle.source_packs.specs.Shapes.{declared_shape}
use Rattle.source_packs.specs.Targets.{stepped, arguments_stepped, optional_stepped, update_targets, more_updates_targets, updates_targets}
use Rattle.source_packs.specs.Targets.{declared_targets, declarator_targets, more_declarators_targets, declarators_targets, first_targets}
use Rattle.source_packs.specs.Targets.{core_targets, sub_targets, items_targets}
use Rattle.source_packs.specs.Packs.{update_groups, more_updates_groups, updates_groups, declared_groups, declarator_groups}
use Rattle.source_packs.specs.Packs.{more_declarators_groups, declarators_groups, first_groups, loop_group, core_groups, sub_groups}
use Rattle.source_packs.specs.Packs.{items_groups, groups_of}
use Rattle.source_packs.specs.Machine.{Book, told}
use Rattle.source_packs.specs.declared.goal.Effect.TheVariants as effect
use Rattle.source_packs.proofs.machine.Books.{seen}
use Rattle.source_packs.proofs.machine.Changes.{update_book, more_updates_book, updates_book, declared_book, declarator_book}
use Rattle.source_packs.proofs.machine.Changes.{more_declarators_book, declarators_book, first_book}
use Rattle.source_packs.proofs.machine.Statements.{core_book, sub_book, items_book}
use Rattle.source_packs.proofs.machine.Functions.{function_book}
use Rattle.source_packs.proofs.found.Fits.{expr_fits, call_fits, optional_fits, update_fits, declared_fits}
use Rattle.source_packs.proofs.found.Puts.{Put, Puts, rest, puts_none, puts_then, put_same, puts_expression, puts_end, puts_change}
use Rattle.source_packs.proofs.found.Puts.{puts_loop, puts_do, same_front}

-- a name compares nothing
number_groups : (o : Option ℕ) → lang.groups_of (number_shape o) ≡ []
number_groups None = refl
number_groups (Some i) = refl

module _ (names : List (List ℕ)) (law : MarksGiveGroups) (tied : MarksGiveOneMore) where
  -- ---- changes
  update_puts : (u : Update) → GoodUpdate u
      → Puts (update_groups names u) (update_targets names u) (λ (b : Book). told effect.EndsTogether (update_book names u b))
  update_puts u g = puts_change tied (update_shape names u) (update_fits names u g) (update_targets names u)

  -- one and those behind it
  more_updates_puts : (us : MoreUpdates) (u : Update) → GoodUpdate u → GoodMoreUpdates us
      → Puts (update_groups names u ++ more_updates_groups names us) (update_targets names u ++ more_updates_targets names us)
      (λ (b : Book). more_updates_book names us (update_book names u b))
  more_updates_puts last_update u g h = λ gs ms starts.
      put_same (same_equal (sym (append-nil (update_groups names u)))) (sym (append-nil (update_targets names u)))
      (update_puts u g gs ms starts)
  more_updates_puts (next_update a v us) u g h = puts_then (λ (b : Book). told effect.EndsTogether (update_book names u b))
      (λ (b : Book). more_updates_book names us (update_book names v b)) (update_puts u g) (more_updates_puts us v h.0 h.1)

  updates_puts : (us : Updates) → GoodUpdates us → Puts (updates_groups names us) (updates_targets names us) (updates_book names us)
  updates_puts no_updates g = puts_end law
  updates_puts (some_updates u us) g = more_updates_puts us u g.0 g.1

  -- ---- declarations
  -- sizes compare nothing
  sizes_groups : (ss : Sizes) → lang.groups_of (sizes_shape names ss) ≡ []
  sizes_groups (last_size a (number_size n b) c) = refl
  sizes_groups (last_size a (name_size x b) c) = number_groups (variable_number names x)
  sizes_groups (next_size a (number_size n b) c ss) = sizes_groups ss
  sizes_groups (next_size a (name_size x b) c ss) =
      ap₂ (λ (g h : List (List ℕ)). g ++ h) (number_groups (variable_number names x)) (sizes_groups ss)

  declared_puts : (x : Name) (i : Initialiser) → GoodInitialiser i
      → Puts (declared_groups names x i) (declared_targets names x i) (declared_book names x i)
  declared_puts x bare g = λ gs ms starts. put_same (same_equal (number_groups (variable_number names x))) refl
      (puts_expression law (declared_shape names x bare) (declared_fits names x bare g) [] gs ms starts)
  declared_puts x (given a e) g =
      puts_change tied (declared_shape names x (given a e)) (declared_fits names x (given a e) g) (declared_targets names x (given a e))
  declared_puts x (sized ss) g = λ gs ms starts. put_same (same_equal (sizes_groups ss)) refl
      (puts_expression law (declared_shape names x (sized ss)) (declared_fits names x (sized ss) g) [] gs ms starts)
  declared_puts x (filled ss a b vs c) g =
      puts_change tied (declared_shape names x (filled ss a b vs c)) (declared_fits names x (filled ss a b vs c) g)
      (declared_targets names x (filled ss a b vs c))

  declarator_puts : (d : Declarator) → GoodDeclarator d
      → Puts (declarator_groups names d) (declarator_targets names d) (declarator_book names d)
  declarator_puts (declarator x a i) g = declared_puts x i g

  -- one and those behind it
  more_declarators_puts : (ds : MoreDeclarators) (d : Declarator) → GoodDeclarator d → GoodMoreDeclarators ds
      → Puts (declarator_groups names d ++ more_declarators_groups names ds)
      (declarator_targets names d ++ more_declarators_targets names ds)
      (λ (b : Book). more_declarators_book names ds (declarator_book names d b))
  more_declarators_puts last_declarator d g h = λ gs ms starts.
      put_same (same_equal (sym (append-nil (declarator_groups names d)))) (sym (append-nil (declarator_targets names d)))
      (declarator_puts d g gs ms starts)
  more_declarators_puts (next_declarator a e es) d g h =
      puts_then (declarator_book names d) (λ (b : Book). more_declarators_book names es (declarator_book names e b)) (declarator_puts d g)
      (more_declarators_puts es e h.0 h.1)

  declarators_puts : (ds : Declarators) → GoodDeclarators ds
      → Puts (declarators_groups names ds) (declarators_targets names ds) (declarators_book names ds)
  declarators_puts (declares d ds) g = more_declarators_puts ds d g.0 g.1

  first_puts : (f : ForFirst) → GoodFirst f → Puts (first_groups names f) (first_targets names f) (first_book names f)
  first_puts (declared_first t ds) g = declarators_puts ds g
  first_puts (updated_first us) g = updates_puts us g

  -- ---- statements
  mutual
    core_puts : (c : Core) → GoodCore c → Puts (core_groups names c) (core_targets names c) (core_book names c)
    core_puts (empty a) g = puts_none
    core_puts (block a is b) g = items_puts is g
    core_puts (if_alone a b e c s) g =
        puts_then (λ (x : Book). told effect.Ends (seen (shape names e) (stepped names e) x)) (sub_book names s)
        (puts_expression law (shape names e) (expr_fits names e g.0) (stepped names e)) (sub_puts s g.1)
    core_puts (if_else a b e c s d t) g =
        puts_then (λ (x : Book). told effect.Ends (seen (shape names e) (stepped names e) x))
        (λ (x : Book). sub_book names t (sub_book names s x))
        (puts_expression law (shape names e) (expr_fits names e g.0) (stepped names e))
        (puts_then (sub_book names s) (sub_book names t) (sub_puts s g.1) (sub_puts t g.3))
    core_puts (repeat a b e c s) g =
        puts_loop law (shape names e) (expr_fits names e g.0) (stepped names e) (sub_book names s) (sub_puts s g.1)
    core_puts (repeat_after a s b c e d i) g =
        puts_do law (enclosed (shape names e)) (expr_fits names e g.1) (stepped names e) (sub_book names s) (sub_puts s g.0)
    core_puts (repeat_for a b f c t d us i s) g = λ gs ms starts.
        put_same (same_front (loop_group names (optional_shape names t) us s) (first_groups names f)
        (lang.groups_of (optional_shape names t) ++ (updates_groups names us ++ sub_groups names s))) (append-nil (first_targets names f))
        (puts_then (first_book names f) (λ (b : Book). told effect.LoopEnds (sub_book names s (updates_book names us
        (told effect.Ends (seen (optional_shape names t) (optional_stepped names t) (told effect.Tests b))))))
        (first_puts f g.0)
        (puts_loop law (optional_shape names t) (optional_fits names t g.1) (optional_stepped names t)
        (λ (b : Book). sub_book names s (updates_book names us b))
        (puts_then (updates_book names us) (sub_book names s) (updates_puts us g.2) (sub_puts s g.3))) gs ms starts)
    core_puts (jumps j a b) g = puts_end law
    core_puts (returns a t b) g = puts_expression law (optional_shape names t) (optional_fits names t g) (optional_stepped names t)
    core_puts (demands k a b e c d) g = puts_expression law (enclosed (shape names e)) (expr_fits names e g) (stepped names e)
    core_puts (calls x a b es c d) g =
        puts_expression law (enclosed (arguments_shape names es)) (call_fits names es g) (arguments_stepped names es)
    core_puts (updates u c) g = update_puts u g

    sub_puts : (s : Sub) → GoodSub s → Puts (sub_groups names s) (sub_targets names s) (sub_book names s)
    sub_puts (labelled x a b s) g = sub_puts s g
    sub_puts (plain c) g = core_puts c g

    items_puts : (is : Items) → GoodItems is → Puts (items_groups names is) (items_targets names is) (items_book names is)
    items_puts no_items g = puts_none
    items_puts (label x a b is) g = items_puts is g
    items_puts (declaration t xs b is) g =
        puts_then (declarators_book names xs) (items_book names is) (declarators_puts xs g.0) (items_puts is g.1)
    items_puts (item c is) g = puts_then (core_book names c) (items_book names is) (core_puts c g.0) (items_puts is g.1)

  -- The book of a function has its groups.
  pub function_puts : (f : Function) → Good f → SameTogether (function_book names f).collector.groups (groups_of names f)
  function_puts (function ss n a ps b c is d) g =
      let put : Put (items_groups names is) (items_targets names is) [] [] [] (items_book names is (rest [] [] [])) =
      items_puts is g [] [] [] in
      subst (λ (x : Book). SameTogether x.collector.groups (items_groups names is)) (sym put.kept) put.same
