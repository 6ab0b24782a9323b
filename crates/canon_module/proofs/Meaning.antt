-- What declarations mean, one after the other.
use Rattle.std.proofs.Common.{◌≡◌, ℕ, ◌+◌, ◌<◌, suc, List, [], ◌∷◌, ◌++◌, length, map, drop, get_or, refl}
use Rattle.std.proofs.Common.{sym, ap, ◌∙◌, append_assoc, arith}
use Rattle.std.specs.Prelude.{Option, None}
use Rattle.std.proofs.Math.Seq.{drop-cons}
use Rattle.std.proofs.Math.Path.{fun_ext}
use Rattle.elm_canon.specs.Tree as canon
use Rattle.elm_canon.specs.Tree.{Annotation}
use Rattle.elm_canon.specs.Names.{Name}
use Rattle.elm_canon.specs.declared.reference.Ref.{Ref}
use Rattle.elm_canon.specs.declared.reference.Ref.TheVariants.{Top}
use Rattle.elm_tree.specs.Tree as tree
use Rattle.elm_tree.specs.Tree.{Word, Declaration, Define}
use Rattle.canon_env.specs.Imports.{name_of}
use Rattle.canon_env.specs.Naming.{World}
use Rattle.canon_env.specs.Locals.{Locals, no_locals, with_names}
use Rattle.canon_env.specs.Patterns.{words_of_all, patterns_of}
use Rattle.canon_expr.specs.Binding.{is_function}
use Rattle.canon_expr.specs.Blocks.{Made, made_of, title_of}
use Rattle.canon_expr.specs.Exprs.{meant}
use Rattle.canon_module.specs.TopUses.{value_names_each}
use Rattle.canon_module.specs.Items.{Item, top_made, item_of, annotation_by, items_of, used_among, top_used}

pub no_names : (locals : Locals) → with_names [] locals ≡ locals
no_names locals = fun_ext (λ n. refl)

-- a definition by a name, by what its parts mean
pub define_means : (w : World) (home : Name) (before : Option Annotation) (x : Word) (ps : tree.Patterns)
    (e : tree.Expr) (m : Made) (r : Ref) (qs : canon.Patterns) (v : canon.Expr) →
    m ≡ made_of (is_function ps e) (title_of r x.place before) qs v → r ≡ Top home (name_of x) → w.name ≡ home →
    qs ≡ patterns_of w ps → v ≡ meant w (with_names (words_of_all ps) no_locals) e →
    m ≡ top_made w before (Define x ps e)
define_means w home before x ps e m r qs v is title named parameters value =
    is
    ∙ ap (λ n. made_of (is_function ps e) (title_of n x.place before) qs v)
    (title ∙ ap (λ n. Top n (name_of x)) (sym named))
    ∙ ap (λ q. made_of (is_function ps e) (title_of (Top w.name (name_of x)) x.place before) q v) parameters
    ∙ ap (made_of (is_function ps e) (title_of (Top w.name (name_of x)) x.place before) (patterns_of w ps)) value

-- one declaration more
pub next_item : {X : Type 0} → (w : World) (view : X → Declaration) (ds : List X) (i : ℕ) (d : X)
    (before next : Option Annotation) (old : List Item) (x : Item) → i < length ds → d ≡ get_or ds i d →
    x ≡ item_of w before (view d) → next ≡ annotation_by w (view d) →
    (old ++ x ∷ []) ++ items_of w next (map view (drop (i + 1) ds)) ≡ old ++ items_of w before (map view (drop i ds))
next_item w view ds i d before next old x lt is meant annotated =
    let after : i + 1 ≡ suc i = omega arith in
    append_assoc old (x ∷ []) (items_of w next (map view (drop (i + 1) ds)))
    ∙ ap (λ n. old ++ x ∷ items_of w next (map view (drop n ds))) after
    ∙ ap (λ y. old ++ y ∷ items_of w next (map view (drop (suc i) ds))) meant
    ∙ ap (λ b. old ++ item_of w before (view d) ∷ items_of w b (map view (drop (suc i) ds))) annotated
    ∙ ap (λ y. old ++ items_of w before (map view (y ∷ drop (suc i) ds))) is
    ∙ ap (λ l. old ++ items_of w before (map view l)) (sym (drop-cons ds i d lt))

-- what declarations use, by what they mean
pub top_is : (w : World) (home : Name) (ds : List Declaration) (items : List Item) (uses : List (List ℕ)) →
    w.name ≡ home → uses ≡ used_among home (value_names_each ds) items → items ≡ items_of w None ds →
    uses ≡ top_used w ds
top_is w home ds items uses named is meant =
    is ∙ ap (used_among home (value_names_each ds)) meant
    ∙ ap (λ n. used_among n (value_names_each ds) (items_of w None ds)) (sym named)
