-- The modules of the core library are determined.
use Rattle.std.proofs.Common.{◌≡◌, ℕ, List, [], ◌∷◌, ◌++◌, refl, sym, ap, ◌∙◌}
use Rattle.import_graph.specs.Modules.{Module}
use Rattle.import_graph.specs.Heads.{HasImports}
use Rattle.import_graph.specs.Laws.{IsDetermined}
use Rattle.import_graph.proofs.OneList.{same_module}
use Rattle.project_parts.specs.Modules.{core_setting, AreCoreModules}

pub one_core : IsDetermined HasImports → (before cs : List (List ℕ × List ℕ)) (ms ns : List Module)
    → AreCoreModules before cs ms → AreCoreModules before cs ns → ms ≡ ns
one_core one before [] [] [] a b = refl
one_core one before [] [] (n ∷ ns) a b = absurd b
one_core one before [] (m ∷ ms) ns a b = absurd a
one_core one before (c ∷ cs) [] ns a b = absurd a
one_core one before (c ∷ cs) (m ∷ ms) [] a b = absurd b
one_core one before (c ∷ cs) (m ∷ ms) (n ∷ ns) a b =
    ap (λ k. k ∷ ms)
    (same_module HasImports one (core_setting before) m n (a.0.source ∙ sym b.0.source) a.0.whole b.0.whole)
    ∙ ap (λ ks. n ∷ ks) (one_core one (before ++ c ∷ []) cs ms ns a.1 b.1)
