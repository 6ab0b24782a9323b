-- Lists of patterns, and what their forms are.
use Rattle.std.proofs.Common.{◌≡◌, suc, List, [], ◌∷◌, ◌++◌, length, map, ap, sym, refl, ◌∙◌}
use Rattle.std.proofs.lemmas.List.{map-append}
use Rattle.std.specs.List.{flat_map}
use Rattle.elm_canon.specs.Names.{Name}
use Rattle.elm_canon.specs.Tree as canon
use Rattle.elm_canon.specs.View.{nil_pattern, items_before, cons_pattern, pattern_view, patterns_view}
use Rattle.elm_canon.specs.declared.tree.Pattern as program
use Rattle.elm_canon.specs.declared.tree.Pattern.TheVariants as form
use Rattle.elm_canon.proofs.Views.{anything_pattern}
use Rattle.elm_tree.specs.Tree as tree
use Rattle.canon_env.specs.Naming.{World}
use Rattle.canon_env.specs.Patterns.{words_of, words_of_all, count_of, match_sites, match_sites_all, items_of, list_of}
use Rattle.canon_env.specs.Patterns.{pattern_of, patterns_of, fields_of}

pub words_all : (ps : List tree.Pattern) → words_of_all (tree.patterns_of ps) ≡ flat_map words_of ps
words_all [] = refl
words_all (p ∷ ps) = ap (λ xs. words_of p ++ xs) (words_all ps)

pub sites_all : (ps : List tree.Pattern) → match_sites_all (tree.patterns_of ps) ≡ flat_map match_sites ps
sites_all [] = refl
sites_all (p ∷ ps) = ap (λ xs. match_sites p ++ xs) (sites_all ps)

pub means_all : (w : World) (ps : List tree.Pattern) →
    patterns_of w (tree.patterns_of ps) ≡ canon.patterns_of (map (pattern_of w) ps)
means_all w [] = refl
means_all w (p ∷ ps) = ap (canon.MorePattern (pattern_of w p)) (means_all w ps)

pub counts : (ps : List tree.Pattern) → count_of (tree.patterns_of ps) ≡ length ps
counts [] = refl
counts (p ∷ ps) = ap suc (counts ps)

pub items_is : (ps : List canon.Pattern) (rest : canon.Pattern) →
    items_of (canon.patterns_of (ps ++ rest ∷ [])) ≡ items_before rest ps
items_is [] rest = refl
items_is (p ∷ []) rest = refl
items_is (p ∷ q ∷ ps) rest = ap (cons_pattern p) (items_is (q ∷ ps) rest)

pub list_is : (ps : List canon.Pattern) → list_of (canon.patterns_of ps) ≡ items_before nil_pattern ps
list_is [] = refl
list_is (p ∷ ps) = ap (cons_pattern p) (list_is ps)

-- the items and the rest of a list, by its parts
-- of no fields, and of some
pub fields_none : (xs : List Name) → length xs ≡ 0 → fields_of xs ≡ canon.Anything
fields_none [] e = refl
fields_none (x ∷ xs) e = absurd cc

pub fields_some : (xs : List Name) → (length xs ≡ 0 → ⊥) → fields_of xs ≡ canon.FieldsOf xs
fields_some [] n = absurd (n refl)
fields_some (x ∷ xs) n = refl

pub items_view : (parts front : List program.Pattern) (rest : program.Pattern) → parts ≡ front ++ rest ∷ [] →
    items_before (pattern_view rest) (map pattern_view front) ≡ items_of (patterns_view parts)
items_view parts front rest e =
    sym (items_is (map pattern_view front) (pattern_view rest))
    ∙ ap (λ ps. items_of (canon.patterns_of ps)) (sym (ap (map pattern_view) e ∙ map-append pattern_view front (rest ∷ [])))

pub no_items : (parts : List program.Pattern) → parts ≡ [] → pattern_view form.Anything ≡ items_of (patterns_view parts)
no_items parts e = anything_pattern ∙ ap (λ ps. items_of (patterns_view ps)) (sym e)
