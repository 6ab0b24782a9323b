-- The variables in a type, part by part.
use Rattle.std.proofs.Common.{◌≡◌, List, [], ◌∷◌, ◌++◌, refl, sym, ap, ◌∙◌, append_assoc}
use Rattle.std.specs.Prelude.{flat_map}
use Rattle.std.proofs.lemmas.List.{map-append}
use Rattle.elm_lexer.specs.Tokens.{Token}
use Rattle.elm_tree.specs.Tree as tree
use Rattle.elm_tree.specs.Tree.{TypeTree}
use Rattle.elm_tree.specs.View as tree_view
use Rattle.elm_tree.specs.View.{word_view, words_view}
use Rattle.elm_tree.specs.declared.tree.Word as program
use Rattle.canon_type.specs.Written.{variables_in, variables_in_all, variables_in_fields}
use Rattle.canon_type.specs.Kept.{field_variables}

pub all_list : (us : List TypeTree) → variables_in_all (tree.types_of us) ≡ flat_map variables_in us
all_list [] = refl
all_list (u ∷ us) = ap (λ z. variables_in u ++ z) (all_list us)

fields_list : (fs : List tree_view.NamedType) →
    variables_in_fields (tree.field_types_of fs) ≡ flat_map field_variables fs
fields_list [] = refl
fields_list (f ∷ fs) = ap (λ z. variables_in f.1 ++ z) (fields_list fs)

pub variable_more : (tokens : List Token) (old new : List program.Word) (a : program.Word) (t : TypeTree) →
    t ≡ tree.TypeVariable (word_view tokens a) → new ≡ old ++ a ∷ [] →
    words_view tokens new ≡ words_view tokens old ++ variables_in t
variable_more tokens old new a t is e =
    ap (words_view tokens) e ∙ map-append (word_view tokens) old (a ∷ [])
    ∙ ap (λ u. words_view tokens old ++ variables_in u) (sym is)

module _ (t : TypeTree) (us : List TypeTree) (old new : List tree.Word) (e : new ≡ old ++ flat_map variables_in us) where
  parts : variables_in_all (tree.types_of us) ≡ variables_in t → new ≡ old ++ variables_in t
  parts same = e ∙ ap (λ z. old ++ z) (sym (all_list us) ∙ same)

  pub named_more : (x : tree.Long) → t ≡ tree.TypeName x (tree.types_of us) → new ≡ old ++ variables_in t
  named_more x is = parts (ap variables_in (sym is))

  pub function_more : t ≡ tree.FunctionType (tree.types_of us) → new ≡ old ++ variables_in t
  function_more is = parts (ap variables_in (sym is))

  pub tuple_more : t ≡ tree.TupleType (tree.types_of us) → new ≡ old ++ variables_in t
  tuple_more is = parts (ap variables_in (sym is))

pub record_more : (t : TypeTree) (fs : List tree_view.NamedType) (old new : List tree.Word) →
    t ≡ tree.RecordType (tree.field_types_of fs) → new ≡ old ++ flat_map field_variables fs →
    new ≡ old ++ variables_in t
record_more t fs old new is e = e ∙ ap (λ z. old ++ z) (sym (fields_list fs) ∙ ap variables_in (sym is))

pub extended_more : (tokens : List Token) (t : TypeTree) (fs : List tree_view.NamedType) (old mid : List program.Word)
    (new : List tree.Word) (a : program.Word) → t ≡ tree.ExtendedType (word_view tokens a) (tree.field_types_of fs) →
    mid ≡ old ++ a ∷ [] → new ≡ words_view tokens mid ++ flat_map field_variables fs →
    new ≡ words_view tokens old ++ variables_in t
extended_more tokens t fs old mid new a is first e =
    let parts = flat_map field_variables fs in
    e ∙ ap (λ z. z ++ parts) (ap (words_view tokens) first ∙ map-append (word_view tokens) old (a ∷ []))
    ∙ append_assoc (words_view tokens old) (word_view tokens a ∷ []) parts
    ∙ ap (λ z. words_view tokens old ++ (word_view tokens a ∷ z)) (sym (fields_list fs))
    ∙ ap (λ u. words_view tokens old ++ variables_in u) (sym is)
