-- The modules of a project are counted once.
use Rattle.std.proofs.Common.{◌≡◌, ℕ, List, Option, Some, length, sym, ap, ◌∙◌, subst}
use Rattle.elm_files.specs.Tree.{Tree}
use Rattle.import_graph.specs.Graph.{AreModules}
use Rattle.import_graph.specs.Laws.{IsDetermined}
use Rattle.import_graph.proofs.OneList.{one_list}
use Rattle.import_graph.specs.Heads.{HasImports}
use Rattle.import_graph.specs.Modules.{Setting}
use Rattle.project_file.specs.Project.{directories, project_of}
use Rattle.project_parts.specs.Modules.{core_names}
use Rattle.project_parts.specs.Outcomes.{Stopped, Faulty, Text}
use Rattle.elm_make.specs.Counts.{HasModules, OneCount}

same_bytes : (o : Option (List ℕ)) (bytes others : List ℕ) → o ≡ Some bytes → o ≡ Some others → bytes ≡ others
same_bytes o bytes others e f = let g : Some bytes ≡ Some others = sym e ∙ f in cc

same_paths : (bytes others : List ℕ) (paths more : List (List ℕ)) → bytes ≡ others
    → project_of bytes ≡ directories paths → project_of others ≡ directories more → paths ≡ more
same_paths bytes others paths more is e f =
    let g : directories paths ≡ directories more = sym e ∙ (ap project_of is ∙ f) in cc

module _ (one : IsDetermined HasImports) where
  one_count : (tree : Tree) (written : List ℕ) (m n : ℕ) → HasModules tree written m → HasModules tree written n
      → m ≡ n
  one_count tree written m n a b =
      let setting : List (List ℕ) → Setting = λ ps. record { tree = tree; directories = ps; core = core_names } in
      let bytes = same_bytes _ a.bytes b.bytes a.there b.there in
      let paths = same_paths a.bytes b.bytes a.paths b.paths bytes a.told b.told in
      let are = subst (λ ps. AreModules HasImports (setting ps) written a.modules) paths a.are in
      a.count
      ∙ ap length (one_list HasImports one _ written a.modules b.modules are b.are)
      ∙ sym b.count

  pub counted_once : OneCount
  counted_once tree written (Stopped faults) m n a b = a ∙ sym b
  counted_once tree written (Faulty faults) m n a b = one_count tree written m n a b
  counted_once tree written (Text text) m n a b = one_count tree written m n a b
