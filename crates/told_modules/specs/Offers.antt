-- What a module offers is told as the law of typed programs asks.
use Rattle.std.specs.Prelude.{◌≡◌, [], List, Some}
use Rattle.std.specs.List.{AllByRecursion}
use Rattle.elm_tree.specs.Tree as tree
use Rattle.elm_canon.specs.Names.{Name}
use Rattle.elm_canon.specs.Tree.{UnionDeclaration}
use Rattle.elm_type.specs.Types.{Scheme}
use Rattle.canon_module.specs.Resolve.{Setting, IsModule, module_faults, module_shows}
use Rattle.module_proper.specs.Modules.{AreRead}
use Rattle.type_items.specs.Inferred.{Schemes}
use Rattle.type_items.specs.Scopes.{Known}
use Rattle.module_offers.specs.Offers.{type_in, module_interface}
use Rattle.program_safety.specs.Parts.{Part}
use Rattle.program_safety.specs.Told.{IsToldAs}

-- of these types no constructor's fields are known
abbrev pub HaveNoFields : List UnionDeclaration → Type 0
HaveNoFields us = AllByRecursion (λ (u : UnionDeclaration). u.fields ≡ []) us

-- where these are the schemes of its definitions
abbrev pub OffersAreTold : Type 0
OffersAreTold =
    (s : Setting) (t : tree.Module) (p : Part) → IsModule s t.declarations p.module_ → AreRead s.home t.declarations
    → module_faults s t p.module_ ≡ [] → HaveNoFields s.given → (told : Known) (schemes : Schemes) (x : Name) (k : Scheme)
    → type_in p.module_.name (Some (module_interface (module_shows s t p.module_) p.module_ schemes)) x ≡ Some k
    → IsToldAs told schemes p x k
