-- Unions as the program has them.
use Rattle.std.specs.Prelude.{List, map}
use Rattle.elm_lexer.specs.Tokens.{Token}
use Rattle.elm_tree.specs.View.{word_view, words_view, constructor_view}
use Rattle.canon_type.specs.Unions.{UnionTree}
use Rattle.canon_type.specs.declared.unions.WrittenUnion.{WrittenUnion}

abbrev pub union_view : List Token → WrittenUnion → UnionTree
union_view tokens u = record {
  name = word_view tokens u.name;
  parameters = words_view tokens u.parameters.now;
  constructors = map (constructor_view tokens) u.constructors.now;
}
