-- A module that a text means.
use Rattle.std.proofs.Common.{List, [], ◌∷◌, inl, inr, sym, subst}
use Rattle.std.specs.List.{AllByRecursion}
use Rattle.elm_canon.specs.Tree.{Declaration}
use Rattle.module_made.specs.Around.{setting_of}
use Rattle.program_safety.specs.Parts.{AreSome}
use Rattle.told_modules.specs.Resolved.{DeclarationHasFields}
use Rattle.canon_proper.proofs.ParsedFieldsWalking.{module_updates}
use Rattle.told_modules.proofs.CanonFieldsModules.{modules_have}
use Rattle.build_safety.specs.Laws.{MadeHaveFields}

some_have : (ds es : List Declaration) → AreSome ds es → AllByRecursion DeclarationHasFields es
    → AllByRecursion DeclarationHasFields ds
some_have [] es s h = tt
some_have (d ∷ ds) [] s h = absurd s
some_have (d ∷ ds) (e ∷ es) (inr s) h = some_have (d ∷ ds) es s h.1
some_have (d ∷ ds) (e ∷ es) (inl s) h = (subst DeclarationHasFields (sym s.0) h.0, some_have ds es s.1 h.1)

pub made_fields : MadeHaveFields
made_fields a text t m ds is some =
    some_have ds m.declarations some
    (modules_have (setting_of a t) t m is.module_is (module_updates is.spelled.0 t is.spelled.1.1.spells))
