-- Types that are shared, and imports of them: `shared_next`, `imported`.
use Rattle.std.proofs.Common.{◌≡◌, List, [], ◌∷◌, ◌++◌, map, Result, Ok, Err, ap, ◌∙◌}
use Rattle.std.specs.Prelude.{IfOk, IsOkAnd, OnOk}
use Rattle.std.proofs.lemmas.List.{map-append}
use Rattle.std.specs.declared.sync.Arc.{Arc}
use Rattle.std.proofs.Common.{Global}
use Rattle.elm_canon.specs.Names.{Name}
use Rattle.elm_canon.specs.Tree.{UnionDeclaration}
use Rattle.elm_canon.specs.View.{union_declaration_view}
use Rattle.elm_canon.specs.declared.tree.UnionDeclaration as code
use Rattle.canon_env.specs.Imports.{Import}
use Rattle.canon_env.specs.Shown.{Shown, unions_view}
use Rattle.core_modules.specs.Given.{given_types, given_import}
use Rattle.core_modules.specs.Opaque.{import_with}

pub then_ok : {T E A B : Type 0} → (r : Result T E) → (A → B) → OnOk r A → OnOk r B
then_ok (Ok x) f a = f a
then_ok (Err e) f a = tt

-- one type more
pub shared_next : (old new : List (Arc code.UnionDeclaration Global)) (s : Arc code.UnionDeclaration Global)
    (u : code.UnionDeclaration) (v : UnionDeclaration) → s.value ≡ u → union_declaration_view u ≡ v →
    new ≡ old ++ s ∷ [] → unions_view new ≡ unions_view old ++ v ∷ []
shared_next old new s u v is seen pushed =
    ap unions_view pushed ∙ map-append (λ (a : Arc code.UnionDeclaration Global). union_declaration_view a.value) old (s ∷ [])
    ∙ ap (λ x. unions_view old ++ x ∷ []) (ap union_declaration_view is ∙ seen)

-- one import more
pub imported : {V I E F : Type 0} → (of : V → List UnionDeclaration) (view : I → Import × Shown) (us : Result V E)
    (i : Result I F) (home qualifier : Name) (old new : List I) → IfOk us (λ v. of v ≡ given_types home) →
    IfOk i (λ x. IsOkAnd us (λ v. view x ≡ import_with home qualifier (of v))) → qualifier ≡ home →
    IsOkAnd i (λ x. new ≡ old ++ x ∷ []) → map view new ≡ map view old ++ given_import home ∷ []
imported of view (Ok v) (Ok x) home qualifier old new given made same pushed =
    ap (map view) pushed ∙ map-append view old (x ∷ [])
    ∙ ap (λ z. map view old ++ z ∷ [])
    (made ∙ ap (λ q. import_with home q (of v)) same ∙ ap (import_with home home) given)
imported of view (Ok v) (Err f) home qualifier old new given made same pushed = absurd pushed
imported of view (Err e) (Ok x) home qualifier old new given made same pushed = absurd made
imported of view (Err e) (Err f) home qualifier old new given made same pushed = absurd pushed
