-- The names that patterns bind, and where patterns begin.
use Rattle.std.proofs.Common.{◌≡◌, List, [], ◌∷◌, ◌++◌, length, map, refl, sym, ap, ◌∙◌, append_assoc, append-nil}
use Rattle.std.proofs.Common.{arith, ◌<◌}
use Rattle.elm_canon.specs.declared.reference.Ref.{Ref}
use Rattle.elm_canon.specs.Tree.{Pattern, patterns_of}
use Rattle.elm_canon.specs.View.{items_before, nil_pattern, pattern_view}
use Rattle.elm_canon.specs.Proper.{bound_by, all_bound_by}
use Rattle.type_items.specs.Expressions.{nowhere}
use Rattle.type_items.specs.Patterns.{pattern_start}
use Rattle.elm_canon.specs.declared.tree.Pattern as tree

patterns_more : (ps : List Pattern) (p : Pattern)
    → all_bound_by (patterns_of (ps ++ p ∷ [])) ≡ all_bound_by (patterns_of ps) ++ bound_by p
patterns_more [] p = append-nil (bound_by p)
patterns_more (q ∷ ps) p =
    ap (λ l. bound_by q ++ l) (patterns_more ps p) ∙ sym
    (append_assoc (bound_by q) (all_bound_by (patterns_of ps)) (bound_by p))

pub patterns_next : (old : List Ref) (ps : List Pattern) (p : Pattern) → (new last : List Ref)
    → new ≡ old ++ all_bound_by (patterns_of ps) → last ≡ new ++ bound_by p
    → last ≡ old ++ all_bound_by (patterns_of (ps ++ p ∷ []))
patterns_next old ps p new last e f =
    f ∙ ap (λ l. l ++ bound_by p) e ∙ append_assoc old (all_bound_by (patterns_of ps)) (bound_by p) ∙ ap (λ l. old ++ l)
    (sym (patterns_more ps p))

pub bound_of_items : (rest : Pattern) (ps : List Pattern)
    → bound_by (items_before rest ps) ≡ all_bound_by (patterns_of ps) ++ bound_by rest
bound_of_items rest [] = refl
bound_of_items rest (p ∷ ps) =
    ap (λ l. bound_by p ++ l) (append-nil (bound_by (items_before rest ps)) ∙ bound_of_items rest ps)
    ∙ sym (append_assoc (bound_by p) (all_bound_by (patterns_of ps)) (bound_by rest))

pub bound_of_list : (ps : List Pattern) → bound_by (items_before nil_pattern ps) ≡ all_bound_by (patterns_of ps)
bound_of_list ps = bound_of_items nil_pattern ps ∙ append-nil (all_bound_by (patterns_of ps))

-- where a list begins is not said
pub list_start : (ps : List Pattern) → pattern_start nowhere (items_before nil_pattern ps) ≡ nowhere
list_start [] = refl
list_start (p ∷ ps) = refl

pub no_items : (rest : Pattern) (ps : List tree.Pattern) → length ps ≡ 0
    → pattern_start nowhere (items_before rest (map pattern_view ps)) ≡ pattern_start nowhere rest
no_items rest [] h = refl
no_items rest (p ∷ ps) h = absurd (omega arith)

pub items_start : (rest : Pattern) (ps : List tree.Pattern) → 0 < length ps
    → pattern_start nowhere (items_before rest (map pattern_view ps)) ≡ nowhere
items_start rest [] h = absurd (omega arith)
items_start rest (p ∷ ps) h = refl
