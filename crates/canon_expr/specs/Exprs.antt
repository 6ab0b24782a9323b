-- What expressions mean, and their sites. (Elm guide: core language, pattern matching, modules; Elm syntax reference.)
use Rattle.std.specs.Prelude.{List, [], ◌∷◌, ◌++◌, ◌-◌, length, take, Option, Some, None, map}
use Rattle.elm_lexer.specs.Kinds.{last_word}
use Rattle.elm_canon.specs.Tree as canon
use Rattle.elm_canon.specs.declared.reference.Ref.TheVariants.{Local}
use Rattle.elm_canon.specs.Tree.{Annotation, Located, exprs_of}
use Rattle.elm_tree.specs.Tree as tree
use Rattle.elm_tree.specs.Tree.{Pos, Word, Long, Expr, Exprs, NoExpr, MoreExpr, Parts, NoPart, MorePart}
use Rattle.elm_tree.specs.Tree.{Branches, NoBranch, MoreBranch, Definitions, NoDefinition, MoreDefinition}
use Rattle.elm_tree.specs.Tree.{Definition, Annotate, Define, Destructure}
use Rattle.canon_env.specs.Imports.{name_of}
use Rattle.canon_env.specs.Naming.{World, maker_found}
use Rattle.canon_env.specs.Locals.{Locals, with_names}
use Rattle.canon_env.specs.Sites.{Site, ValueUse, MakerUse, OperatorUse, FieldsTogether, value_meaning}
use Rattle.canon_env.specs.Types.{type_of, type_sites}
use Rattle.canon_env.specs.Patterns.{words_of, words_of_all, list_sites, pattern_sites, match_sites}
use Rattle.canon_env.specs.Patterns.{pattern_of, patterns_of, literal_of}
use Rattle.canon_expr.specs.Operators.{function_of}
use Rattle.canon_expr.specs.Callees.{Callee, alone, plain, maker_head, with_arguments, finished, value_of, chain_of}
use Rattle.canon_expr.specs.Binding.{is_function, bound_by_each, bound_in, uses_among}
use Rattle.canon_expr.specs.Blocks.{Made, NoMade, MadeParts, made_of, title_of, groups_in, block_sites}

-- ---- sites

-- a word as a name, with the module that is written before it
abbrev pub long_word : Word → Long
long_word x = record {
  place = x.place;
  qualifier = take (length x.text - length (last_word x.text x.text) - 1) x.text;
  text = last_word x.text x.text;
}

abbrev pub part_words : Parts → List Word
part_words NoPart = []
part_words (MorePart x e ps) = x ∷ part_words ps

abbrev mutual
  pub expr_sites : World → Locals → Expr → List Site
  expr_sites w locals (tree.Is p l) = []
  expr_sites w locals (tree.Name x) = ValueUse locals x ∷ []
  expr_sites w locals (tree.Constructor x) = MakerUse x ∷ []
  expr_sites w locals (tree.OperatorName op) = OperatorUse op ∷ []
  expr_sites w locals (tree.Accessor x) = []
  expr_sites w locals (tree.Lambda p ps e) =
      list_sites locals ps ++ expr_sites w (with_names (words_of_all ps) locals) e
  expr_sites w locals (tree.Apply f es) = expr_sites w locals f ++ exprs_sites w locals es
  expr_sites w locals (tree.Chain e ps) = expr_sites w locals e ++ chain_sites w locals ps
  expr_sites w locals (tree.Negate p e) = expr_sites w locals e
  expr_sites w locals (tree.If c a b) = expr_sites w locals c ++ expr_sites w locals a ++ expr_sites w locals b
  expr_sites w locals (tree.Case p e bs) = expr_sites w locals e ++ branch_sites w locals bs
  expr_sites w locals (tree.Let ds e) =
      block_sites w locals ds (definitions_sites w (with_names (bound_in ds) locals) ds)
      (expr_sites w (with_names (bound_in ds) locals) e)
  expr_sites w locals (tree.ListOf p es) = exprs_sites w locals es
  expr_sites w locals (tree.TupleOf p es) = exprs_sites w locals es
  expr_sites w locals (tree.RecordOf p fs) = part_sites w locals fs ++ FieldsTogether (part_words fs) ∷ []
  expr_sites w locals (tree.Update p r fs) =
      ValueUse locals (long_word r) ∷ part_sites w locals fs ++ FieldsTogether (part_words fs) ∷ []
  expr_sites w locals (tree.Access p e xs) = expr_sites w locals e

  pub exprs_sites : World → Locals → Exprs → List Site
  exprs_sites w locals NoExpr = []
  exprs_sites w locals (MoreExpr e es) = expr_sites w locals e ++ exprs_sites w locals es

  -- of the fields of a record
  pub part_sites : World → Locals → Parts → List Site
  part_sites w locals NoPart = []
  part_sites w locals (MorePart x e ps) = expr_sites w locals e ++ part_sites w locals ps

  -- of operators and the operands after them
  pub chain_sites : World → Locals → Parts → List Site
  chain_sites w locals NoPart = []
  chain_sites w locals (MorePart op e ps) = OperatorUse op ∷ expr_sites w locals e ++ chain_sites w locals ps

  pub branch_sites : World → Locals → Branches → List Site
  branch_sites w locals NoBranch = []
  branch_sites w locals (MoreBranch p e bs) =
      pattern_sites locals p ++ expr_sites w (with_names (words_of p) locals) e ++ branch_sites w locals bs

  -- of each definition of a block, whose names are in scope
  pub definitions_sites : World → Locals → Definitions → List (List Site)
  definitions_sites w locals NoDefinition = []
  definitions_sites w locals (MoreDefinition d ds) = definition_sites w locals d ∷ definitions_sites w locals ds

  pub definition_sites : World → Locals → Definition → List Site
  definition_sites w locals (Annotate x t) = type_sites w t
  definition_sites w locals (Define x ps e) =
      list_sites locals ps ++ expr_sites w (with_names (words_of_all ps) locals) e
  definition_sites w locals (Destructure p e) = match_sites p ++ expr_sites w locals e

-- ---- meaning

abbrev pub one : canon.Expr → canon.Exprs
one e = canon.MoreExpr e canon.NoExpr

abbrev pub at : Pos → canon.Expr → Callee
at p e = plain (Located p e)

-- the fields of a value, one after the other
abbrev pub accessed : canon.Expr → List Word → canon.Expr
accessed e [] = e
accessed e (x ∷ xs) = accessed (canon.Strict (canon.Access (name_of x)) (one e)) xs

-- the value of the name of a record that is changed
abbrev pub base_value : World → Locals → Word → canon.Expr
base_value w locals r = value_of (long_word r) (value_meaning w locals (long_word r))

-- the annotation that a definition is for the one after it
abbrev pub annotation_of : World → Definition → Option Annotation
annotation_of w (Annotate x t) = Some (type_of w t)
annotation_of w (Define x ps e) = None
annotation_of w (Destructure p e) = None

-- the groups of a block whose names are in scope, by what its definitions mean
abbrev pub block_groups : World → Locals → Definitions → List Made → canon.Groups
block_groups w locals ds made = groups_in (uses_among w (bound_by_each ds) (definitions_sites w locals ds)) made

abbrev mutual
  -- what an expression means that may get more arguments
  pub callee : World → Locals → Expr → Callee
  callee w locals (tree.Is p l) = at p (canon.Is (literal_of l))
  callee w locals (tree.Name x) = plain (value_of x (value_meaning w locals x))
  callee w locals (tree.Constructor x) = alone (maker_head x (maker_found w x))
  callee w locals (tree.OperatorName op) = plain (function_of op)
  callee w locals (tree.Accessor x) = at x.place (canon.Accessor (name_of x))
  callee w locals (tree.Lambda p ps e) =
      at p (canon.Lambda (patterns_of w ps) (finished (callee w (with_names (words_of_all ps) locals) e)))
  callee w locals (tree.Apply f es) = with_arguments (callee w locals f) (meant_each w locals es)
  callee w locals (tree.Chain e ps) = chain_of (callee w locals e) (callees w locals ps)
  callee w locals (tree.Negate p e) = at p (canon.Strict canon.Negate (one (finished (callee w locals e))))
  callee w locals (tree.If c a b) =
      plain (canon.If (finished (callee w locals c)) (finished (callee w locals a)) (finished (callee w locals b)))
  callee w locals (tree.Case p e bs) =
      at p (canon.Case (finished (callee w locals e)) (meant_branches w locals bs))
  callee w locals (tree.Let ds e) = plain (canon.Let
      (block_groups w (with_names (bound_in ds) locals) ds (made_in w (with_names (bound_in ds) locals) None ds))
      (finished (callee w (with_names (bound_in ds) locals) e)))
  callee w locals (tree.ListOf p es) = at p (canon.Strict canon.ListOf (exprs_of (meant_each w locals es)))
  callee w locals (tree.TupleOf p es) = at p (canon.Strict canon.TupleOf (exprs_of (meant_each w locals es)))
  callee w locals (tree.RecordOf p fs) =
      at p (canon.Strict (canon.RecordOf (map name_of (part_words fs))) (exprs_of (meant_parts w locals fs)))
  callee w locals (tree.Update p r fs) =
      at p (canon.Strict (canon.Update (map name_of (part_words fs)))
      (exprs_of (base_value w locals r ∷ meant_parts w locals fs)))
  callee w locals (tree.Access p e xs) = at p (accessed (finished (callee w locals e)) xs)

  -- what expressions mean that get no more arguments, in turn
  pub meant_each : World → Locals → Exprs → List canon.Expr
  meant_each w locals NoExpr = []
  meant_each w locals (MoreExpr e es) = finished (callee w locals e) ∷ meant_each w locals es

  -- what the values of fields mean
  pub meant_parts : World → Locals → Parts → List canon.Expr
  meant_parts w locals NoPart = []
  meant_parts w locals (MorePart x e ps) = finished (callee w locals e) ∷ meant_parts w locals ps

  -- the operands of a chain, each with the operator before it
  pub callees : World → Locals → Parts → List (Word × Callee)
  callees w locals NoPart = []
  callees w locals (MorePart op e ps) = (op, callee w locals e) ∷ callees w locals ps

  pub meant_branches : World → Locals → Branches → canon.Branches
  meant_branches w locals NoBranch = canon.NoBranch
  meant_branches w locals (MoreBranch p e bs) =
      canon.MoreBranch (pattern_of w p) (finished (callee w (with_names (words_of p) locals) e))
      (meant_branches w locals bs)

  -- the definitions of a block whose names are in scope; a definition has the annotation that stands before it
  pub made_in : World → Locals → Option Annotation → Definitions → List Made
  made_in w locals before NoDefinition = []
  made_in w locals before (MoreDefinition d ds) =
      made_by w locals before d ∷ made_in w locals (annotation_of w d) ds

  pub made_by : World → Locals → Option Annotation → Definition → Made
  made_by w locals before (Annotate x t) = NoMade
  made_by w locals before (Define x ps e) =
      made_of (is_function ps e) (title_of (Local (name_of x)) x.place before) (patterns_of w ps)
      (finished (callee w (with_names (words_of_all ps) locals) e))
  made_by w locals before (Destructure p e) = MadeParts (pattern_of w p) (finished (callee w locals e))

-- what an expression means that gets no more arguments
abbrev pub meant : World → Locals → Expr → canon.Expr
meant w locals e = finished (callee w locals e)
