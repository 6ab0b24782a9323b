-- A definition with its annotation is walked.
use Rattle.std.proofs.Common.{◌≡◌, ℕ, List, [], ◌∷◌, ◌++◌, length, map, Bool, false, refl, ap, ◌∙◌, subst, arith, append_assoc}
use Rattle.std.specs.Prelude.{◌&&◌, true, nat_eq}
use Rattle.std.specs.List.{AllByRecursion}
use Rattle.elm_base.specs.declared.position.Pos.{Pos}
use Rattle.elm_canon.specs.Tree.{Annotation}
use Rattle.elm_type.specs.Types.{Name, Rigid}
use Rattle.type_items.specs.Items.{Place, child, Wanted, Keeps, Small}
use Rattle.type_items.specs.Annotations.{own_variables, constant, fixed_variable, fixed_type, annotation_items}
use Rattle.type_items.specs.Definitions.{outer_types}
use Rattle.type_store.specs.Laws.{EachChoiceFits}
use Rattle.type_walks.specs.Regions.{only, below, either}
use Rattle.type_walks.specs.Walks.{Walk}
use Rattle.type_walks.proofs.Regions.{only_itself}
use Rattle.type_walks.proofs.Linking.{left_inside, right_inside}
use Rattle.type_schemes.specs.Constants.{Own, moved, IsBody}
use Rattle.type_schemes.proofs.Closing.{closes}
use Rattle.type_constructs.proofs.Spots.{Here, Child, Below, In, atom_inside}
use Rattle.type_constructs.specs.TypeDefinitionsAnnotated.{owned, inner_scope, body_items, ClosesAnnotated}

child_not_root : (q : Place) → below (child q 0) [] ≡ false
child_not_root [] = refl
child_not_root (k ∷ q) = refl

and_no : (a b : Bool) → b ≡ false → (a && b) ≡ false
and_no true b h = h
and_no false b h = refl

child_not_above : (q : Place) → below (child q 0) q ≡ false
child_not_above [] = refl
child_not_above (k ∷ q) = and_no (nat_eq k k) (below (child q 0) q) (child_not_above q)

is_body : (q : Place) → IsBody q (below (child q 0)) (either (only q) (below q))
is_body q = record {
  root = child_not_root q;
  off = child_not_above q;
  inside = record { each = λ r e. (right_inside (only q) (below q)).each r ((atom_inside q (In (Child Here 0) Below) refl).each r e) };
  here = (left_inside (only q) (below q)).each q (only_itself q);
  under = right_inside (only q) (below q);
}

owned_here : (p : Place) (annotation : Annotation) (xs : List Name) (vs : List ℕ) → AllByRecursion (λ (o : Own). only p o.rigid.place ≡ true) (owned p annotation xs vs)
owned_here p annotation [] vs = tt
owned_here p annotation (x ∷ xs) [] = tt
owned_here p annotation (x ∷ xs) (v ∷ vs) = (only_itself p, owned_here p annotation xs vs)

keeps_same : (p q : Place) (annotation : Annotation) (pos : Pos) (outer : List Wanted) (xs : List Name) (vs : List ℕ) → length vs ≡ length xs
    → map (λ o. Keeps pos (moved q o.rigid) outer) (owned p annotation xs vs)
    ≡ map (λ (r : Name × Rigid). Keeps pos r.1 outer) (map (λ x. (x, constant q annotation x)) xs)
keeps_same p q annotation pos outer [] vs h = refl
keeps_same p q annotation pos outer (x ∷ xs) [] h = absurd (omega arith)
keeps_same p q annotation pos outer (x ∷ xs) (v ∷ vs) h =
    ap (λ l. Keeps pos (constant q annotation x) outer ∷ l) (keeps_same p q annotation pos outer xs vs (omega arith))

pub closes_annotated : EachChoiceFits → ClosesAnnotated
closes_annotated choice_fits a p q d annotation scope vs s opened walked s' links after count whole within live new outer opening body let_go =
    let inner = inner_scope annotation scope q in
    let type = fixed_type inner.constants q annotation in
    let first = annotation_items d.place annotation (fixed_variable inner.constants q) in
    let second = d.list inner (child q 0) type in
    let own = owned p annotation (own_variables scope.constants annotation) vs in
    let keeps = map (λ (o : Own). Keeps d.place (moved q o.rigid) (outer_types scope)) own in
    subst (λ l. Walk a (either (only q) (below q)) l s links s' links)
    (append_assoc first second (keeps ++ Small d.place type ∷ [])
    ∙ ap (λ l. first ++ (second ++ (l ++ Small d.place type ∷ [])))
    (keeps_same p q annotation d.place (outer_types scope) (own_variables scope.constants annotation) vs count))
    (closes choice_fits a p q (below (child q 0)) (either (only q) (below q)) (body_items d annotation scope q) own (outer_types scope) type d.place
    s opened walked s' links after whole within live
    (record { here = owned_here p annotation (own_variables scope.constants annotation) vs; new = new }) (is_body q) outer opening body let_go)
