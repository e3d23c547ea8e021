use Rattle.std.proofs.Common.{◌≡◌, ◌+◌, ◌≤◌, drop, map}
use Rattle.lang_grammar.specs.View.{plain_token}
use Rattle.lang_feed.specs.Width.{mark, total}
use Rattle.lang_parser.proofs.width.marks.Given as goal

abbrev pub invariant-loop-token : goal.invariant-loop-token
invariant-loop-token l = record {
  counted : l.count + total mark (map plain_token (drop l.token-index l.tokens))
      ≡ total mark (map plain_token l.tokens);
  small : l.count ≤ l.token-index;
}
