-- Fields of records.
use Rattle.std.proofs.Common.{◌≡◌, List, [], ◌∷◌, ◌++◌, map, refl, ap, None}
use Rattle.elm_base.specs.declared.fault.Code.TheVariants.{DuplicateField}
use Rattle.elm_tree.specs.Tree.{Word, parts_of}
use Rattle.elm_tree.specs.View.{WordExpr}
use Rattle.elm_canon.specs.Tree.{Expr, Strict, Access, MoreExpr, NoExpr}
use Rattle.elm_canon.specs.View as view
use Rattle.canon_env.specs.Imports.{name_of}
use Rattle.canon_env.specs.Naming.{World}
use Rattle.canon_env.specs.Sites.{FieldsTogether, faults_at, at_word, repeats}
use Rattle.canon_expr.specs.Logs.{Grows, used_place}
use Rattle.canon_expr.specs.declared.log.Log.{Log}
use Rattle.canon_expr.proofs.Growing.{grows_one}
use Rattle.canon_expr.specs.Exprs.{accessed, part_words}

pub access_is : (e : Expr) (xs : List Word) → view.accessed e (map name_of xs) ≡ accessed e xs
access_is e [] = refl
access_is e (x ∷ xs) = access_is (Strict (Access (name_of x)) (MoreExpr e NoExpr)) xs

pub words_of_parts : (ps : List WordExpr) → part_words (parts_of ps) ≡ map (λ p. p.0) ps
words_of_parts [] = refl
words_of_parts (p ∷ ps) = ap (λ xs. p.0 ∷ xs) (words_of_parts ps)

fields_faults : (w : World) (xs : List Word) →
    faults_at w (FieldsTogether xs) ≡ map (at_word DuplicateField) (repeats xs)
unfolding faults_at
fields_faults w xs = refl

fields_unused : (w : World) (xs : List Word) → used_place w (FieldsTogether xs) ≡ None
unfolding used_place
fields_unused w xs = refl

pub fields_noted : (w : World) (old new : Log) (xs : List Word) →
    new.findings.items ≡ old.findings.items ++ map (at_word DuplicateField) (repeats xs) →
    new.uses.items ≡ old.uses.items → Grows w old new (FieldsTogether xs ∷ [])
fields_noted w old new xs found used =
    grows_one (FieldsTogether xs) (map (at_word DuplicateField) (repeats xs)) (fields_faults w xs) (fields_unused w xs)
    found used
