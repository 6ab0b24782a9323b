-- What an expression means and its sites, by what its parts mean: a lemma for each construct.
use Rattle.std.proofs.Common.{◌≡◌, List, [], ◌∷◌, ◌++◌, Bool, Option, Some, None, map, refl, sym, ap, ◌∙◌}
use Rattle.std.specs.Prelude.{option_map}
use Rattle.elm_lexer.specs.Tokens as lexed
use Rattle.elm_tree.specs.Tree as tree
use Rattle.elm_tree.specs.Tree.{Pos, Word, parts_of}
use Rattle.elm_tree.specs.View.{WordExpr, record_expr, place_view, word_view}
use Rattle.elm_tree.specs.declared.tree.Word as program
use Rattle.elm_canon.specs.Tree as canon
use Rattle.elm_canon.specs.declared.reference.Ref.TheVariants.{Local}
use Rattle.canon_env.specs.Imports.{name_of}
use Rattle.canon_env.specs.Naming.{World}
use Rattle.canon_env.specs.Locals.{Locals, with_names}
use Rattle.canon_env.specs.Sites.{FieldsTogether}
use Rattle.canon_env.specs.Patterns.{words_of_all, pattern_of, patterns_of}
use Rattle.canon_expr.specs.Callees.{Callee, plain, with_arguments, chain_of}
use Rattle.canon_expr.specs.Binding.{bound_in, is_function}
use Rattle.canon_expr.specs.Blocks.{Made, MadeParts, made_of, title_of}
use Rattle.canon_expr.specs.Exprs.{at, one, callee, meant, meant_each, meant_parts, callees, meant_branches, accessed}
use Rattle.canon_expr.specs.Exprs.{block_groups, made_in, made_by, part_words, expr_sites, part_sites}
use Rattle.canon_expr.specs.Records.{base_values, base_sites, record_op}

module _ (w : World) (locals : Locals) where
  pub word_means : (written e : tree.Expr) (got : Callee) (others : Locals) → written ≡ e →
      got ≡ callee w others e → others ≡ locals → got ≡ callee w locals written
  word_means written e got others whole is h = is ∙ ap (λ ls. callee w ls e) h ∙ ap (callee w locals) (sym whole)

  pub negative_means : (place : Pos) (written e : tree.Expr) (got : Callee) (inner : canon.Expr) →
      written ≡ tree.Negate place e → got ≡ at place (canon.Strict canon.Negate (one inner)) →
      inner ≡ meant w locals e → got ≡ callee w locals written
  negative_means place written e got inner whole is h =
      is ∙ ap (λ i. at place (canon.Strict canon.Negate (one i))) h ∙ ap (callee w locals) (sym whole)

  pub apply_means : (written f : tree.Expr) (es : tree.Exprs) (got function : Callee) (arguments : List canon.Expr) →
      written ≡ tree.Apply f es → got ≡ with_arguments function arguments → function ≡ callee w locals f →
      arguments ≡ meant_each w locals es → got ≡ callee w locals written
  apply_means written f es got function arguments whole is h k =
      is ∙ ap (λ g. with_arguments g arguments) h ∙ ap (with_arguments (callee w locals f)) k
      ∙ ap (callee w locals) (sym whole)

  pub chain_means : (written e : tree.Expr) (ps : tree.Parts) (got first : Callee) (operands : List (Word × Callee)) →
      written ≡ tree.Chain e ps → got ≡ chain_of first operands → first ≡ callee w locals e →
      operands ≡ callees w locals ps → got ≡ callee w locals written
  chain_means written e ps got first operands whole is h k =
      is ∙ ap (λ c. chain_of c operands) h ∙ ap (chain_of (callee w locals e)) k ∙ ap (callee w locals) (sym whole)

  pub list_means : (place : Pos) (written : tree.Expr) (es : tree.Exprs) (got : Callee) (items : List canon.Expr) →
      written ≡ tree.ListOf place es → got ≡ at place (canon.Strict canon.ListOf (canon.exprs_of items)) →
      items ≡ meant_each w locals es → got ≡ callee w locals written
  list_means place written es got items whole is h =
      is ∙ ap (λ vs. at place (canon.Strict canon.ListOf (canon.exprs_of vs))) h ∙ ap (callee w locals) (sym whole)

  pub tuple_means : (place : Pos) (written : tree.Expr) (es : tree.Exprs) (got : Callee) (parts : List canon.Expr) →
      written ≡ tree.TupleOf place es → got ≡ at place (canon.Strict canon.TupleOf (canon.exprs_of parts)) →
      parts ≡ meant_each w locals es → got ≡ callee w locals written
  tuple_means place written es got parts whole is h =
      is ∙ ap (λ ps. at place (canon.Strict canon.TupleOf (canon.exprs_of ps))) h ∙ ap (callee w locals) (sym whole)

  record_is : (tokens : List lexed.Token) (first : program.Word) (base : Option program.Word) (ps : List WordExpr) →
      at (place_view tokens first)
      (canon.Strict (record_op (option_map (word_view tokens) base) (map name_of (part_words (parts_of ps))))
      (canon.exprs_of
      (base_values w locals (option_map (word_view tokens) base) ++ meant_parts w locals (parts_of ps))))
      ≡ callee w locals (record_expr tokens first base ps)
  record_is tokens first None ps = refl
  record_is tokens first (Some r) ps = refl

  pub record_means : (tokens : List lexed.Token) (first : program.Word) (base : Option program.Word)
      (ps : List WordExpr) (written : tree.Expr) (got : Callee) (values : List canon.Expr) →
      written ≡ record_expr tokens first base ps →
      got ≡ at (place_view tokens first)
      (canon.Strict (record_op (option_map (word_view tokens) base) (map name_of (part_words (parts_of ps))))
      (canon.exprs_of values)) →
      values ≡ base_values w locals (option_map (word_view tokens) base) ++ meant_parts w locals (parts_of ps) →
      got ≡ callee w locals written
  record_means tokens first base ps written got values whole is h =
      is
      ∙ ap (λ vs. at (place_view tokens first)
      (canon.Strict (record_op (option_map (word_view tokens) base) (map name_of (part_words (parts_of ps))))
      (canon.exprs_of vs))) h
      ∙ record_is tokens first base ps ∙ ap (callee w locals) (sym whole)

  pub record_sites : (tokens : List lexed.Token) (first : program.Word) (base : Option program.Word)
      (ps : List WordExpr) → expr_sites w locals (record_expr tokens first base ps)
      ≡ base_sites locals (option_map (word_view tokens) base) ++ part_sites w locals (parts_of ps)
      ++ FieldsTogether (part_words (parts_of ps)) ∷ []
  record_sites tokens first None ps = refl
  record_sites tokens first (Some r) ps = refl

  pub access_means : (place : Pos) (written e : tree.Expr) (xs : List Word) (got : Callee) (inner : canon.Expr) →
      written ≡ tree.Access place e xs → got ≡ at place (accessed inner xs) → inner ≡ meant w locals e →
      got ≡ callee w locals written
  access_means place written e xs got inner whole is h =
      is ∙ ap (λ i. at place (accessed i xs)) h ∙ ap (callee w locals) (sym whole)

  pub if_means : (written c a b : tree.Expr) (got : Callee) (condition one other : canon.Expr) →
      written ≡ tree.If c a b → got ≡ plain (canon.If condition one other) → condition ≡ meant w locals c →
      one ≡ meant w locals a → other ≡ meant w locals b → got ≡ callee w locals written
  if_means written c a b got condition one other whole is h j k =
      is ∙ ap (λ e. plain (canon.If e one other)) h ∙ ap (λ e. plain (canon.If (meant w locals c) e other)) j
      ∙ ap (λ e. plain (canon.If (meant w locals c) (meant w locals a) e)) k ∙ ap (callee w locals) (sym whole)

  pub case_means : (place : Pos) (written e : tree.Expr) (bs : tree.Branches) (got : Callee) (subject : canon.Expr)
      (branches : canon.Branches) → written ≡ tree.Case place e bs → got ≡ at place (canon.Case subject branches) →
      subject ≡ meant w locals e → branches ≡ meant_branches w locals bs → got ≡ callee w locals written
  case_means place written e bs got subject branches whole is h k =
      is ∙ ap (λ s. at place (canon.Case s branches)) h ∙ ap (λ s. at place (canon.Case (meant w locals e) s)) k
      ∙ ap (callee w locals) (sym whole)

  pub let_means : (written e : tree.Expr) (ds : tree.Definitions) (got : Callee) (groups : canon.Groups)
      (body : canon.Expr) → written ≡ tree.Let ds e → got ≡ plain (canon.Let groups body) →
      groups ≡ block_groups w (with_names (bound_in ds) locals) ds (made_in w (with_names (bound_in ds) locals) None ds) →
      body ≡ meant w (with_names (bound_in ds) locals) e → got ≡ callee w locals written
  let_means written e ds got groups body whole is h k =
      is ∙ ap (λ gs. plain (canon.Let gs body)) h
      ∙ ap (λ b. plain (canon.Let (block_groups w (with_names (bound_in ds) locals) ds
      (made_in w (with_names (bound_in ds) locals) None ds)) b)) k
      ∙ ap (callee w locals) (sym whole)

  pub lambda_means : (place : Pos) (written e : tree.Expr) (ps : tree.Patterns) (got : Callee)
      (parameters : canon.Patterns) (body : canon.Expr) → written ≡ tree.Lambda place ps e →
      got ≡ at place (canon.Lambda parameters body) → parameters ≡ patterns_of w ps →
      body ≡ meant w (with_names (words_of_all ps) locals) e → got ≡ callee w locals written
  lambda_means place written e ps got parameters body whole is h k =
      is ∙ ap (λ qs. at place (canon.Lambda qs body)) h ∙ ap (λ b. at place (canon.Lambda (patterns_of w ps) b)) k
      ∙ ap (callee w locals) (sym whole)

  pub define_means : (x : Word) (ps : tree.Patterns) (e : tree.Expr) (before annotation : Option canon.Annotation)
      (written : tree.Definition) (got : Made) (is_one : Bool) (parameters : canon.Patterns) (value : canon.Expr) →
      written ≡ tree.Define x ps e →
      got ≡ made_of is_one (title_of (Local (name_of x)) x.place annotation) parameters value → annotation ≡ before →
      is_one ≡ is_function ps e → parameters ≡ patterns_of w ps →
      value ≡ meant w (with_names (words_of_all ps) locals) e → got ≡ made_by w locals before written
  define_means x ps e before annotation written got is_one parameters value whole is a f h k =
      is ∙ ap (λ b. made_of is_one (title_of (Local (name_of x)) x.place b) parameters value) a
      ∙ ap (λ b. made_of b (title_of (Local (name_of x)) x.place before) parameters value) f
      ∙ ap (λ qs. made_of (is_function ps e) (title_of (Local (name_of x)) x.place before) qs value) h
      ∙ ap (made_of (is_function ps e) (title_of (Local (name_of x)) x.place before) (patterns_of w ps)) k
      ∙ ap (made_by w locals before) (sym whole)

  pub destructure_means : (p : tree.Pattern) (e : tree.Expr) (before : Option canon.Annotation)
      (written : tree.Definition) (got : Made) (pattern : canon.Pattern) (value : canon.Expr) →
      written ≡ tree.Destructure p e → got ≡ MadeParts pattern value → pattern ≡ pattern_of w p →
      value ≡ meant w locals e → got ≡ made_by w locals before written
  destructure_means p e before written got pattern value whole is h k =
      is ∙ ap (λ q. MadeParts q value) h ∙ ap (MadeParts (pattern_of w p)) k ∙ ap (made_by w locals before) (sym whole)
