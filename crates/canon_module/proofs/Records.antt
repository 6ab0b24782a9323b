-- The constructor of an alias, by how its type is written.
use Rattle.std.proofs.Common.{◌≡◌, List, [], ◌∷◌, Some, None, Vec, Global, map, refl, ap, ◌∙◌}
use Rattle.elm_lexer.specs.Tokens.{Token}
use Rattle.elm_tree.specs.Tree.{Word, field_types_of}
use Rattle.elm_tree.specs.View.{word_view, type_view, field_type_view}
use Rattle.elm_tree.specs.declared.tree.FieldType.{FieldType}
use Rattle.elm_tree.specs.declared.tree.Word as program
use Rattle.elm_tree.specs.declared.tree.TypeTree.{TypeTree}
use Rattle.elm_tree.specs.declared.tree.TypeTree.TheVariants as type_tree
use Rattle.elm_tree.proofs.Views.{variable_type, named_type, function_type, tuple_type, record_of_type, field_of_type}
use Rattle.elm_canon.specs.Names.{Name}
use Rattle.elm_canon.specs.Tree.{Given, RecordMaker}
use Rattle.elm_canon.specs.declared.reference.Ref.TheVariants.{Top}
use Rattle.canon_env.specs.Imports.{name_of}
use Rattle.canon_env.specs.Types.{field_words}
use Rattle.canon_module.specs.Resolve.{record_maker}

named_fields : (tokens : List Token) (fs : List FieldType) →
    map name_of (field_words (field_types_of (map (field_type_view tokens) fs)))
    ≡ map (λ (f : FieldType). name_of (word_view tokens f.name)) fs
named_fields tokens [] = refl
named_fields tokens (f ∷ fs) =
    ap (λ z. name_of z.0 ∷ map name_of (field_words (field_types_of (map (field_type_view tokens) fs))))
    (field_of_type tokens f)
    ∙ ap (λ z. name_of (word_view tokens f.name) ∷ z) (named_fields tokens fs)

module _ (tokens : List Token) (home : Name) (x : Word) where
  pub of_variable : (a : program.Word) → record_maker home x (type_view tokens (type_tree.Variable a)) ≡ []
  of_variable a = ap (record_maker home x) (variable_type tokens a)

  pub of_named : (t : program.Word) (ts : Vec TypeTree Global) →
      record_maker home x (type_view tokens (type_tree.Named t ts)) ≡ []
  of_named t ts = ap (record_maker home x) (named_type tokens t ts)

  pub of_function : (ts : Vec TypeTree Global) → record_maker home x (type_view tokens (type_tree.Function ts)) ≡ []
  of_function ts = ap (record_maker home x) (function_type tokens ts)

  pub of_tuple : (ts : Vec TypeTree Global) → record_maker home x (type_view tokens (type_tree.Tuple ts)) ≡ []
  of_tuple ts = ap (record_maker home x) (tuple_type tokens ts)

  pub of_extension : (a : program.Word) (fs : Vec FieldType Global) →
      record_maker home x (type_view tokens (type_tree.Record (Some a) fs)) ≡ []
  of_extension a fs = ap (record_maker home x) (record_of_type tokens (Some a) fs)

  pub of_record : (fs : Vec FieldType Global) →
      record_maker home x (type_view tokens (type_tree.Record None fs))
      ≡ Given (Top home (name_of x)) (RecordMaker (map (λ (f : FieldType). name_of (word_view tokens f.name)) fs.items)) ∷ []
  of_record fs =
      ap (record_maker home x) (record_of_type tokens None fs)
      ∙ ap (λ z. Given (Top home (name_of x)) (RecordMaker z) ∷ []) (named_fields tokens fs.items)
