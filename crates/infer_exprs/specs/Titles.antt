-- The titles of definitions, and what is listed for their annotations before all type groups.
use Rattle.std.specs.Prelude.{List, [], ◌∷◌, flat_map, Option, Some, None}
use Rattle.std.specs.List.{AllByRecursion}
use Rattle.std.specs.Borrow.{Bor}
use Rattle.elm_canon.specs.Tree as tree
use Rattle.elm_canon.specs.Tree.{Annotation}
use Rattle.elm_canon.specs.View.{title_view}
use Rattle.elm_canon.specs.declared.tree.Title.{Title}
use Rattle.type_items.specs.Items.{Item}
use Rattle.type_items.specs.Scopes.{Entries, Constants}
use Rattle.type_items.specs.Definitions.{entries_as, asks_around}
use Rattle.infer_types.specs.Once.{FieldsOnce}
use Rattle.infer_order.specs.declared.order.Definition.{Definition}

-- a pattern with its value has no title
abbrev pub title_list : Option (Bor Title) → List tree.Title
title_list None = []
title_list (Some title) = title_view title.now ∷ []

abbrev pub titles_of : List Definition → List tree.Title
titles_of xs = flat_map (λ x. title_list x.title) xs

-- what the annotation asks of the variables of annotations around
abbrev pub title_items : Constants → tree.Title → List Item
title_items around title = asks_around title.annotation title.place around

-- the name at its annotation, if it has one
abbrev pub title_names : Constants → tree.Title → Entries
title_names around title = entries_as title.annotation around (title.name ∷ [])

abbrev pub titles_items : List tree.Title → Constants → List Item
titles_items titles around = flat_map (title_items around) titles

abbrev pub titles_names : List tree.Title → Constants → Entries
titles_names titles around = flat_map (title_names around) titles

-- each record of the annotation has each of its fields once
abbrev pub AnnotationOnce : Option Annotation → Type 0
AnnotationOnce None = Unit {0}
AnnotationOnce (Some annotation) = FieldsOnce annotation

abbrev pub AnnotationsOnce : List tree.Title → Type 0
AnnotationsOnce titles = AllByRecursion (λ title. AnnotationOnce title.annotation) titles
