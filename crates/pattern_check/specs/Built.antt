-- Patterns made of their parts.
use Rattle.std.specs.Prelude.{ℕ, List, [], ◌∷◌, take, drop, Some, None}
use Rattle.elm_canon.specs.Unions.{TupleUnion, ListUnion, tuple_alternative, nil_alternative, cons_alternative}
use Rattle.elm_canon.specs.Tree as plain
use Rattle.elm_canon.specs.Tree.{patterns_of}
use Rattle.elm_canon.specs.View.{pattern_view}
use Rattle.elm_canon.specs.declared.tree.Pattern.{Pattern}
use Rattle.pattern_check.specs.Shapes.{Head, Literally, OtherLiteral, Constructor, arity_of}
use Rattle.pattern_check.specs.Flat.{Part}

abbrev pub tuple_head : ℕ → Head
tuple_head n = Constructor (TupleUnion n) (tuple_alternative n)

abbrev pub empty_head : Head
empty_head = Constructor ListUnion nil_alternative

abbrev pub item_head : Head
item_head = Constructor ListUnion cons_alternative

-- the pattern that begins with h
abbrev pub head_pattern : Head → List plain.Pattern → plain.Pattern
head_pattern (Literally l) ps = plain.Exactly l
head_pattern OtherLiteral ps = plain.Anything
head_pattern (Constructor u a) ps = plain.Construct u a (patterns_of ps)

-- before those that are made
abbrev pub made : Part → List plain.Pattern → List plain.Pattern
made None ps = plain.Anything ∷ ps
made (Some h) ps = head_pattern h (take (arity_of h) ps) ∷ drop (arity_of h) ps

abbrev pub unlisted : List Part → List plain.Pattern → List plain.Pattern
unlisted [] ps = ps
unlisted (part ∷ parts) ps = made part (unlisted parts ps)

-- a stack, whose last pattern is the first
abbrev pub stack_view : List Pattern → List plain.Pattern → List plain.Pattern
stack_view [] others = others
stack_view (p ∷ ps) others = stack_view ps (pattern_view p ∷ others)
