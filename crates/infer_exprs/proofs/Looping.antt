-- Definitions in turn: the annotation of each is read.
use Rattle.std.proofs.Common.{◌≡◌, ℕ, zero, suc, ◌+◌, ◌<◌, ◌≤◌, List, [], ◌∷◌, ◌++◌, length, map, take, drop, get_or}
use Rattle.std.proofs.Common.{Some, None, refl, sym, ap, ◌∙◌, subst, arith, append-nil}
use Rattle.std.proofs.lemmas.List.{take_more, map-append}
use Rattle.elm_base.specs.declared.position.Pos.{Pos}
use Rattle.elm_canon.specs.Tree.{Annotation, Title}
use Rattle.elm_type.specs.Types.{Name, ElmType, Leaf, Kind}
use Rattle.type_items.specs.Scopes.{Constants}
use Rattle.type_items.specs.Annotations.{variables_of, scheme_inside}
use Rattle.type_store.specs.Shape.{IsStore}
use Rattle.type_store.specs.Store.{Store}
use Rattle.type_walks.specs.Links.{Links}
use Rattle.type_constructs.specs.Failing.{Bad}
use Rattle.infer_steps.specs.Codes.{Declared, Code, State}
use Rattle.infer_steps.specs.Ready.{DeclaredReady, IsReady}
use Rattle.infer_steps.specs.Means.{IsDeclared}
use Rattle.infer_types.specs.Asking.{MeansConstants, AsksAround, RefusesAround}
use Rattle.infer_types.specs.Fixing.{IsAnnotation}
use Rattle.infer_types.specs.Table.{LackAround}
use Rattle.infer_order.specs.declared.order.Definition.{Definition}
use Rattle.infer_exprs.specs.Titles.{title_list, titles_of, AnnotationsOnce}
use Rattle.infer_exprs.specs.Reading.{IsRead, IsRefused, Reading, reading_view, AreRead, NotRead}
use Rattle.infer_exprs.specs.declared.declare.Reading as program
use Rattle.infer_exprs.proofs.Titles.{titles_more, first_once, rest_once}
use Rattle.infer_exprs.proofs.Reading.{more_read, not_more, no_annotation, one_read}

-- ---- one annotation, by its variables, their kinds and its type as they are kept

module _ (code : Code) (pos : Pos) (t : Annotation) (xs : List Name) (ks : List Kind) (u : ElmType (Leaf ℕ))
    (is : IsAnnotation t xs ks u) (old new : State) where
  pub read_is : (declared : Declared) → IsReady code new.depth new.store → AsksAround code old new pos xs ks
      → ((d : ℕ) (s : Store) → IsReady code d s → LackAround code s xs ks → DeclaredReady d s declared)
      → ((a : Annotation) (links : Links) (around : Constants) → IsAnnotation a xs ks u
      → MeansConstants code links around → IsDeclared links declared (scheme_inside around a))
      → IsRead code pos t old new declared
  read_is declared ready asks can stands = record {
    asks =
        subst (λ ls. AsksAround code old new pos (variables_of t) ls) is.kinds
        (subst (λ ys. AsksAround code old new pos ys ks) is.names asks);
    ready = can new.depth new.store ready asks.lacking;
    declared = λ links around means. stands t links around is means;
  }

  pub refused_is : (bad : Bad) → RefusesAround code old new pos xs ks bad → IsRefused code pos t old new bad
  refused_is bad not_ =
      subst (λ ls. RefusesAround code old new pos (variables_of t) ls bad) is.kinds
      (subst (λ ys. RefusesAround code old new pos ys ks bad) is.names not_)

-- ---- one definition more

module _ (code : Code) (titles : List Title) (rs : List Reading) (start old : State)
    (before : AreRead code titles rs start old) where
  pub same_read : AreRead code (titles ++ []) rs start old
  same_read = subst (λ l. AreRead code l rs start old) (sym (append-nil titles)) before

  pub none_more : (title : Title) → IsStore old.store → title.annotation ≡ None
      → AreRead code (titles ++ title ∷ []) rs start old
  none_more title whole none_ =
      subst (λ l. AreRead code (titles ++ title ∷ []) l start old) (append-nil rs)
      (more_read code titles (title ∷ []) rs start old old before [] (no_annotation code title old whole none_))

  pub one_more : (title : Title) (t : Annotation) (new : State) (declared : Declared) → title.annotation ≡ Some t
      → IsRead code title.place t old new declared
      → AreRead code (titles ++ title ∷ []) (rs ++ (title.name, declared) ∷ []) start new
  one_more title t new declared some read =
      more_read code titles (title ∷ []) rs start old new before ((title.name, declared) ∷ [])
      (one_read code title t old new some declared read.ready read.declared read.asks)

-- the readings of the program
pub views_more : (before after : List program.Reading) (r : program.Reading) → after ≡ before ++ r ∷ []
    → map reading_view after ≡ map reading_view before ++ reading_view r ∷ []
views_more before after r e = ap (map reading_view) e ∙ map-append reading_view before (r ∷ [])

-- ---- in the loop

split_at : {X : Type 0} (xs : List X) (i : ℕ) (x : X) → i < length xs → x ≡ get_or xs i x
    → xs ≡ take i xs ++ x ∷ drop (suc i) xs
split_at [] i x l is = absurd (omega (arith, l))
split_at (y ∷ xs) zero x l is = ap (λ z. z ∷ xs) (sym is)
split_at (y ∷ xs) (suc i) x l is = ap (λ zs. y ∷ zs) (split_at xs i x (omega (arith, l)) is)

pub take_all : {X : Type 0} (n : ℕ) (xs : List X) → length xs ≤ n → take n xs ≡ xs
take_all zero [] h = refl
take_all zero (x ∷ xs) h = absurd (omega (arith, h))
take_all (suc n) [] h = refl
take_all (suc n) (x ∷ xs) h = ap (λ ys. x ∷ ys) (take_all n xs (omega (arith, h)))

module _ (xs : List Definition) (i : ℕ) (x : Definition) (l : i < length xs) (is : x ≡ get_or xs i x) where
  titles_split : titles_of xs ≡ titles_of (take i xs) ++ (title_list x.title ++ titles_of (drop (suc i) xs))
  titles_split = ap titles_of (split_at xs i x l is) ∙ titles_more (take i xs) (x ∷ drop (suc i) xs)

  titles_next : titles_of (take (i + 1) xs) ≡ titles_of (take i xs) ++ title_list x.title
  titles_next =
      ap titles_of (take_more xs i x l ∙ ap (λ y. take i xs ++ y ∷ []) (sym is))
      ∙ titles_more (take i xs) (x ∷ [])
      ∙ ap (λ l. titles_of (take i xs) ++ l) (append-nil (title_list x.title))

  pub once_at : AnnotationsOnce (titles_of xs) → AnnotationsOnce (title_list x.title)
  once_at once =
      first_once (title_list x.title) (titles_of (drop (suc i) xs))
      (rest_once (titles_of (take i xs)) (title_list x.title ++ titles_of (drop (suc i) xs))
      (subst AnnotationsOnce titles_split once))

  module _ (code : Code) (rs : List Reading) (start old new : State)
      (before : AreRead code (titles_of (take i xs)) rs start old) where
    pub read_next : (ss : List Reading)
        → AreRead code (titles_of (take i xs) ++ title_list x.title) ss start new
        → AreRead code (titles_of (take (i + 1) xs)) ss start new
    read_next ss after = subst (λ l. AreRead code l ss start new) (sym titles_next) after

    pub not_read_at : (bad : Bad) → NotRead code (title_list x.title) old new bad
        → NotRead code (titles_of xs) start new bad
    not_read_at bad not_ =
        subst (λ l. NotRead code l start new bad) (sym titles_split)
        (not_more code (titles_of (take i xs)) (title_list x.title) rs start old new before
        (titles_of (drop (suc i) xs)) bad not_)
