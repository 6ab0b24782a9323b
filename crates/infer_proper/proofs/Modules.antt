-- A resolved module without faults has groups as inference asks.
use Rattle.std.proofs.Common.{◌≡◌, List, [], ◌∷◌}
use Rattle.std.specs.List.{AllByRecursion}
use Rattle.elm_tree.specs.Tree as tree
use Rattle.elm_canon.specs.Tree as canon
use Rattle.elm_canon.specs.Tree.{Declaration, Given, Define}
use Rattle.elm_canon.specs.Proper.{Scope, with_all}
use Rattle.elm_canon.specs.Declarations.{ProperDeclarations, declared_names}
use Rattle.canon_module.specs.Resolve.{Setting, IsModule, module_faults}
use Rattle.module_proper.specs.Modules.{IsAround, AreRead}
use Rattle.module_proper.proofs.Resolved.{resolved_proper}
use Rattle.module_proper.specs.Records.{ImportsHaveRecords}
use Rattle.module_proper.specs.Declarations.{DeclarationApart}
use Rattle.module_proper.proofs.CanonLetsModules.{module_apart}
use Rattle.infer_proper.proofs.Simple.{group_simple}
use Rattle.infer_types.specs.Once.{FieldsOnce}
use Rattle.infer_proper.specs.Annotations.{InDeclaration}
use Rattle.infer_proper.proofs.AnnotationProperModules.{module_once}
use Rattle.infer_proper.specs.Formed.{FormedDeclaration}
use Rattle.infer_proper.proofs.Forming.{group_formed}

declarations_formed : (scope : Scope) (ds : List Declaration) → ProperDeclarations scope ds
    → AllByRecursion DeclarationApart ds → AllByRecursion (InDeclaration FieldsOnce) ds
    → AllByRecursion FormedDeclaration ds
declarations_formed scope [] h p a = tt
declarations_formed scope (Given r k ∷ ds) h p a =
    (tt, declarations_formed (with_all (declared_names (Given r k)) scope) ds h.1 p.1 a.1)
declarations_formed scope (Define g ∷ ds) h p a = (
  group_formed scope g h.0.1 (group_simple scope g h.0.1 p.0) a.0,
  declarations_formed (with_all (declared_names (Define g)) scope) ds h.1 p.1 a.1,
)

pub module_formed : (s : Setting) (t : tree.Module) (m : canon.Module) (scope : Scope) → IsModule s t.declarations m
    → IsAround s.home s.imports t.declarations scope → AreRead s.home t.declarations → ImportsHaveRecords s.imports
    → module_faults s t m ≡ [] → AllByRecursion FormedDeclaration m.declarations
module_formed s t m scope is around read imports none =
    declarations_formed scope m.declarations (resolved_proper s t m scope is around read none)
    (module_apart s t m is none) (module_once s t m is read imports none).declarations
