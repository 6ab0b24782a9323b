-- The titles of definitions, and what is listed for their annotations.
use Rattle.std.proofs.Common.{◌≡◌, List, [], ◌∷◌, ◌++◌, Option, Some, None, Bool, true, false, cond, refl, sym, ap, ◌∙◌}
use Rattle.std.proofs.Common.{subst}
use Rattle.std.proofs.Common.{append-nil}
use Rattle.std.specs.List.{AllByRecursion}
use Rattle.std.specs.Borrow.{Bor}
use Rattle.std.proofs.lemmas.Grind.{flat_map-append}
use Rattle.elm_canon.specs.Tree as tree
use Rattle.elm_canon.specs.Tree.{Group}
use Rattle.elm_canon.specs.View.{title_view}
use Rattle.elm_canon.specs.declared.tree.Title.{Title}
use Rattle.type_items.specs.Scopes.{Constants}
use Rattle.type_items.specs.Definitions as plain
use Rattle.type_items.specs.Definitions.{entries_as, asks_around, around_items, annotated_names, insert_definition}
use Rattle.type_items.specs.Definitions.{in_written_order, stands_before}
use Rattle.infer_order.specs.Order.{TitleIs, AreDefinitions}
use Rattle.infer_order.specs.declared.order.Definition.{Definition}
use Rattle.infer_exprs.specs.Titles.{title_list, titles_of, title_items, title_names, titles_items, titles_names}
use Rattle.infer_exprs.specs.Titles.{AnnotationOnce, AnnotationsOnce}

pub titles_more : (xs ys : List Definition) → titles_of (xs ++ ys) ≡ titles_of xs ++ titles_of ys
titles_more xs ys = flat_map-append (λ (x : Definition). title_list x.title) xs ys

pub items_more : (around : Constants) (ts us : List tree.Title)
    → titles_items (ts ++ us) around ≡ titles_items ts around ++ titles_items us around
items_more around ts us = flat_map-append (title_items around) ts us

pub names_more : (around : Constants) (ts us : List tree.Title)
    → titles_names (ts ++ us) around ≡ titles_names ts around ++ titles_names us around
names_more around ts us = flat_map-append (title_names around) ts us

-- ---- they are those of the definitions

one_items : (around : Constants) (o : Option (Bor Title)) (d : plain.Definition) → TitleIs o d
    → titles_items (title_list o) around ≡ asks_around d.annotation d.place around
one_items around None d h = ap (λ o. asks_around o d.place around) (sym h)
one_items around (Some title) d h =
    append-nil (title_items around (title_view title.now))
    ∙ ap (λ (e : plain.Definition). asks_around e.annotation e.place around) (sym h.is)

one_names : (around : Constants) (o : Option (Bor Title)) (d : plain.Definition) → TitleIs o d
    → titles_names (title_list o) around ≡ entries_as d.annotation around d.names
one_names around None d h = ap (λ o. entries_as o around d.names) (sym h)
one_names around (Some title) d h =
    append-nil (title_names around (title_view title.now))
    ∙ ap (λ (e : plain.Definition). entries_as e.annotation around e.names) (sym h.is)

one_once : (o : Option (Bor Title)) (d : plain.Definition) → TitleIs o d → AnnotationOnce d.annotation
    → AnnotationsOnce (title_list o)
one_once None d h once = tt
one_once (Some title) d h once = (subst (λ (e : plain.Definition). AnnotationOnce e.annotation) h.is once, tt)

module _ (gs : List Group) where
  pub same_items : (around : Constants) (xs : List Definition) (ds : List plain.Definition) → AreDefinitions gs xs ds
      → titles_items (titles_of xs) around ≡ around_items ds around
  same_items around [] [] h = refl
  same_items around [] (d ∷ ds) h = absurd h
  same_items around (x ∷ xs) [] h = absurd h
  same_items around (x ∷ xs) (d ∷ ds) h =
      items_more around (title_list x.title) (titles_of xs)
      ∙ ap (λ l. l ++ titles_items (titles_of xs) around) (one_items around x.title d h.0.title)
      ∙ ap (λ l. asks_around d.annotation d.place around ++ l) (same_items around xs ds h.1)

  pub same_names : (around : Constants) (xs : List Definition) (ds : List plain.Definition) → AreDefinitions gs xs ds
      → titles_names (titles_of xs) around ≡ annotated_names ds around
  same_names around [] [] h = refl
  same_names around [] (d ∷ ds) h = absurd h
  same_names around (x ∷ xs) [] h = absurd h
  same_names around (x ∷ xs) (d ∷ ds) h =
      names_more around (title_list x.title) (titles_of xs)
      ∙ ap (λ l. l ++ titles_names (titles_of xs) around) (one_names around x.title d h.0.title)
      ∙ ap (λ l. entries_as d.annotation around d.names ++ l) (same_names around xs ds h.1)

-- ---- records with each field once

abbrev pub DefinitionOnce : plain.Definition → Type 0
DefinitionOnce d = AnnotationOnce d.annotation

both_once : (ts us : List tree.Title) → AnnotationsOnce ts → AnnotationsOnce us → AnnotationsOnce (ts ++ us)
both_once [] us h k = k
both_once (t ∷ ts) us h k = (h.0, both_once ts us h.1 k)

pub once_of : (gs : List Group) (xs : List Definition) (ds : List plain.Definition) → AreDefinitions gs xs ds
    → AllByRecursion DefinitionOnce ds → AnnotationsOnce (titles_of xs)
once_of gs [] [] h once = tt
once_of gs [] (d ∷ ds) h once = absurd h
once_of gs (x ∷ xs) [] h once = absurd h
once_of gs (x ∷ xs) (d ∷ ds) h once =
    both_once (title_list x.title) (titles_of xs) (one_once x.title d h.0.title once.0) (once_of gs xs ds h.1 once.1)

-- of definitions in written order too
module _ (P : plain.Definition → Type 0) where
  inserted : (d : plain.Definition) (ds : List plain.Definition) → P d → AllByRecursion P ds
      → AllByRecursion P (insert_definition d ds)
  inserted d [] p h = (p, tt)
  inserted d (e ∷ es) p h = go (stands_before e.place d.place) (inserted d es p h.1)
    where
      go : (b : Bool) → AllByRecursion P (insert_definition d es)
          → AllByRecursion P (cond b (e ∷ insert_definition d es) (d ∷ e ∷ es))
      go true again = (h.0, again)
      go false again = (p, h)

  pub all_ordered : (ds : List plain.Definition) → AllByRecursion P ds → AllByRecursion P (in_written_order ds)
  all_ordered [] h = tt
  all_ordered (d ∷ ds) h = inserted d (in_written_order ds) h.0 (all_ordered ds h.1)

pub once_ordered : (ds : List plain.Definition) → AllByRecursion DefinitionOnce ds
    → AllByRecursion DefinitionOnce (in_written_order ds)
once_ordered = all_ordered DefinitionOnce

-- ---- in a loop

pub first_once : (ts us : List tree.Title) → AnnotationsOnce (ts ++ us) → AnnotationsOnce ts
first_once [] us h = tt
first_once (t ∷ ts) us h = (h.0, first_once ts us h.1)

pub rest_once : (ts us : List tree.Title) → AnnotationsOnce (ts ++ us) → AnnotationsOnce us
rest_once [] us h = h
rest_once (t ∷ ts) us h = rest_once ts us h.1
