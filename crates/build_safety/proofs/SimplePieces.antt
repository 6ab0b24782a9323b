-- The expressions of some of a module's declarations are as the law of typed programs asks: `pieces_simple`.
use Rattle.std.proofs.Common.{◌≡◌, List, [], ◌∷◌, ◌++◌, inl, inr, refl, sym, ap, ◌∙◌, subst}
use Rattle.std.specs.List.{AllByRecursion}
use Rattle.std.proofs.lemmas.Grind.{flat_map-append}
use Rattle.elm_canon.specs.Tree.{Declaration, Given, Define, Module}
use Rattle.module_proper.proofs.CanonLetsModules.{module_apart}
use Rattle.canon_module.specs.Resolve as names
use Rattle.canon_proper.proofs.Quiet.{append_none}
use Rattle.pattern_check.specs.Sites.{Site, start, group_sites, declarations_sites}
use Rattle.pattern_check.specs.Faults.{faults_at, faults}
use Rattle.type_safety.specs.Resolved.{ResolvedGroups}
use Rattle.type_safety.proofs.Covering.{faultless_is_simple}
use Rattle.typed_values.specs.World.{World}
use Rattle.typed_values.specs.Simple.{SimpleGroups}
use Rattle.type_safety.specs.Modules.{groups_in}
use Rattle.program_safety.specs.Parts.{AreSome}
use Rattle.told_modules.specs.Resolved.{DeclarationApart}
use Rattle.told_modules.proofs.Resolved.{resolved_typed}
use Rattle.build_safety.specs.Compiled.{Compiled, home_of, IsCompiled, AreModules}
use Rattle.build_safety.proofs.Among.{compiled_here, is_next}
use Rattle.program_safety.proofs.Ports.{ports_kept}
use Rattle.build_safety.specs.SimplePieces.{IsPiece, PiecesAreSimple}

-- ---- some of the declarations

no_faults : (xs ys : List Site) → faults (xs ++ ys) ≡ [] → (faults xs ≡ []) × (faults ys ≡ [])
no_faults xs ys e =
    let h = append_none (faults xs) (faults ys) (sym (flat_map-append faults_at xs ys) ∙ e) in (h.0, h.1)

both_none : (xs ys : List Site) → faults xs ≡ [] → faults ys ≡ [] → faults (xs ++ ys) ≡ []
both_none xs ys e f = flat_map-append faults_at xs ys ∙ ap (λ zs. zs ++ faults ys) e ∙ f

abbrev declaration_sites : Declaration → List Site
declaration_sites (Given x k) = []
declaration_sites (Define g) = group_sites start g

sites_split : (d : Declaration) (ds : List Declaration) →
    declarations_sites (d ∷ ds) ≡ declaration_sites d ++ declarations_sites ds
sites_split (Given x k) ds = refl
sites_split (Define g) ds = refl

some_faultless : (ds all : List Declaration) → AreSome ds all → faults (declarations_sites all) ≡ [] →
    faults (declarations_sites ds) ≡ []
some_faultless [] all s e = refl
some_faultless (d ∷ ds) [] s e = absurd s
some_faultless (d ∷ ds) (x ∷ xs) (inl s) e =
    let h = no_faults (declaration_sites x) (declarations_sites xs) (ap faults (sym (sites_split x xs)) ∙ e) in
    ap faults (sites_split d ds)
    ∙ both_none (declaration_sites d) (declarations_sites ds)
    (subst (λ z. faults (declaration_sites z) ≡ []) (sym s.0) h.0) (some_faultless ds xs s.1 h.1)
some_faultless (d ∷ ds) (x ∷ xs) (inr s) e =
    some_faultless (d ∷ ds) xs s
    (no_faults (declaration_sites x) (declarations_sites xs) (ap faults (sym (sites_split x xs)) ∙ e)).1

some_apart : (ds all : List Declaration) → AreSome ds all → AllByRecursion DeclarationApart all →
    AllByRecursion DeclarationApart ds
some_apart [] all s h = tt
some_apart (d ∷ ds) [] s h = absurd s
some_apart (d ∷ ds) (x ∷ xs) (inl s) h = (subst DeclarationApart (sym s.0) h.0, some_apart ds xs s.1 h.1)
some_apart (d ∷ ds) (x ∷ xs) (inr s) h = some_apart (d ∷ ds) xs s h.1

-- ---- a piece

module _ (w : World) (before : List Compiled) (c : Compiled) (after : List Compiled) (ds : List Declaration)
    (all : AreModules (before ++ c ∷ after)) (piece : IsPiece w c ds) where
  abbrev m : Module
  m = c.resolved.whole

  is : IsCompiled before c
  is = compiled_here before c after all

  some_module : Module
  some_module =
      record { name = m.name; unions = m.unions; aliases = m.aliases; ports = m.ports; declarations = ds }

  none : names.module_faults c.resolved.setting c.resolved.written m ≡ []
  none = subst (λ s. names.module_faults s c.resolved.written m ≡ []) (sym is.setting) is.typed.is_named.named

  resolved : ResolvedGroups w (groups_in ds)
  resolved =
      resolved_typed w ds
      (record {
        scope = piece.scope;
        proper = piece.proper;
        obey = ports_kept w (home_of c) ds m.declarations piece.mentions piece.some piece.keeps;
        apart = some_apart ds m.declarations piece.some
            (module_apart c.resolved.setting c.resolved.written m (is_next before c after all).is none);
        fields = piece.fields;
      })

  simple : SimpleGroups w (groups_in ds)
  unfolding some_module
  simple = faultless_is_simple w some_module (some_faultless ds m.declarations piece.some is.covered) resolved

pub pieces_simple : PiecesAreSimple
pieces_simple w before c after ds all piece = simple w before c after ds all piece
