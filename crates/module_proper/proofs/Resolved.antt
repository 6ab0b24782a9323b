-- A resolved module without faults is proper.
use Rattle.std.proofs.Common.{◌≡◌, [], ◌++◌, refl, sym, ap, ◌∙◌, subst}
use Rattle.std.specs.List.{flat_map}
use Rattle.elm_tree.specs.Tree as tree
use Rattle.elm_canon.specs.Tree as canon
use Rattle.elm_canon.specs.declared.reference.Ref.{Ref}
use Rattle.canon_env.specs.Exposing.{import_faults}
use Rattle.canon_module.specs.CanonValuesFaults.{value_faults}
use Rattle.canon_type.specs.DeclaredTypes.{declared_faults}
use Rattle.canon_module.specs.Resolve.{Setting, IsModule, module_faults, heading_faults, declared_by, world_of}
use Rattle.elm_canon.specs.Proper.{Scope, among, with_all}
use Rattle.elm_canon.specs.Declarations.{ProperDeclarations, after_declarations}
use Rattle.canon_proper.proofs.Quiet.{append_none}
use Rattle.module_proper.specs.Modules.{IsAround, AreRead, value_refs, maker_refs}
use Rattle.module_proper.specs.Inside.{AllInside}
use Rattle.module_proper.proofs.Whole.{Declares, HasNoFaults, module_proper, module_there}
use Rattle.module_proper.proofs.Inside.{module_inside}

module _ (s : Setting) (t : tree.Module) (m : canon.Module) (scope : Scope) (is : IsModule s t.declarations m)
    (a : IsAround s.home s.imports t.declarations scope) (read : AreRead s.home t.declarations)
    (none : module_faults s t m ≡ []) where
  no_faults : HasNoFaults s.home s.imports t.declarations (declared_by t.declarations m)
  no_faults =
      let w = world_of s t.declarations m in
      let types = declared_faults w t.declarations in
      let p = append_none (heading_faults s t ++ types) (value_faults w t.declarations) none in
      let q = append_none (heading_faults s t) types p.0 in
      let h = append_none (flat_map import_faults s.written) _ q.0 in
      let n = append_none _ _ h.1 in
      record { names = (append_none _ _ n.0).0; types = q.1; values = p.1 }

  declares : Declares s.home s.imports t.declarations (declared_by t.declarations m)
  declares = record { values = refl; types = is.types }

  pub resolved_proper : ProperDeclarations scope m.declarations
  resolved_proper =
      subst (ProperDeclarations scope) (sym is.declarations)
      (module_proper s.home s.imports t.declarations (declared_by t.declarations m) scope a declares read no_faults)

  pub resolved_there : (r : Ref) → among r (after_declarations m.declarations scope)
      ≡ among r (with_all (value_refs s.home t.declarations) (with_all (maker_refs s.home t.declarations) scope))
  resolved_there r =
      ap (λ ds. among r (after_declarations ds scope)) is.declarations
      ∙ module_there s.home s.imports t.declarations (declared_by t.declarations m) scope a declares read no_faults r

  pub resolved_inside : AllInside
      (with_all (value_refs s.home t.declarations) (with_all (maker_refs s.home t.declarations) scope)) m.declarations
  resolved_inside =
      subst (AllInside (with_all (value_refs s.home t.declarations)
      (with_all (maker_refs s.home t.declarations) scope)))
      (sym is.declarations)
      (module_inside s.home s.imports t.declarations (declared_by t.declarations m) scope a declares read no_faults)
