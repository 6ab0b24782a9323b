-- Names of one declaration more: `join_next`.
use Rattle.std.proofs.Common.{rules, ◌≡◌, List, [], ◌∷◌, ◌++◌, refl, sym, ap, ◌∙◌, append_assoc}
use Rattle.elm_tree.specs.Tree.{Declaration}
use Rattle.canon_module.specs.Names.{Names, no_names, join, names_of, names_in}

pub join_nothing : (a : Names) → join no_names a ≡ a
join_nothing a = refl

pub join_right : (a : Names) → join a no_names ≡ a
join_right a = search rules

pub join_assoc : (a b c : Names) → join (join a b) c ≡ join a (join b c)
join_assoc a b c = search (rules, append_assoc)

pub join_next : (ds : List Declaration) (d : Declaration) → join (names_in ds) (names_of d) ≡ names_in (ds ++ d ∷ [])
join_next [] d = sym (join_right (names_of d))
join_next (e ∷ ds) d =
    join_assoc (names_of e) (names_in ds) (names_of d) ∙ ap (join (names_of e)) (join_next ds d)
