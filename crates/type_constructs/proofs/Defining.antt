-- Definitions with annotations.
use Rattle.std.proofs.Common.{◌≡◌, zero, suc, List, [], ◌∷◌, ◌++◌, map, Bool, true, false, refl, sym, ap, ◌∙◌, subst, arith, append_assoc}
use Rattle.std.specs.Prelude.{◌&&◌, nat_eq}
use Rattle.std.specs.List.{AllByRecursion, Contains}
use Rattle.elm_base.specs.declared.position.Pos.{Pos}
use Rattle.elm_canon.specs.Tree.{Annotation}
use Rattle.elm_type.specs.Types.{Name, Rigid}
use Rattle.type_items.specs.Items.{Place, child, Wanted, Keeps, Small}
use Rattle.type_items.specs.Scopes.{Scope}
use Rattle.type_items.specs.Annotations.{own_variables, constant, fixed_variable, annotation_items}
use Rattle.type_items.specs.Definitions.{Definition, outer_types, annotated_items}
use Rattle.type_store.specs.Store.{Store}
use Rattle.type_walks.specs.Regions.{only, below}
use Rattle.type_walks.specs.Walks.{Around}
use Rattle.type_walks.proofs.Regions.{only_itself}
use Rattle.type_walks.proofs.Linking.{left_inside, right_inside}
use Rattle.type_schemes.specs.Constants.{moved, Own, rigids, IsBody, scope_items}
use Rattle.type_constructs.specs.Passing.{Passes}
use Rattle.type_constructs.specs.Failing.{Keeps as Escapes, Large, Fails}
use Rattle.type_constructs.specs.Annotated.{Entered, AnnotatedPasses, AnnotatedLarge, BodyFails, ConstantEscapes}
use Rattle.type_constructs.specs.Entering.{inner_scope, type_inside, body_items, body_places, all_places, Enters}
use Rattle.type_constructs.specs.TypeAnnotationsLaws.{DefinitionPasses, DefinitionLarge, DefinitionStops, DefinitionEscapes}
use Rattle.type_constructs.proofs.Fixing.{fixes_types}

-- ---- places

body_root : (p : Place) → below (child p 0) [] ≡ false
body_root [] = refl
body_root (k ∷ p) = refl

and_no : (a b : Bool) → b ≡ false → (a && b) ≡ false
and_no true b h = h
and_no false b h = refl

body_off : (p : Place) → below (child p 0) p ≡ false
body_off [] = refl
body_off (k ∷ p) = and_no (nat_eq k k) (below (child p 0) p) (body_off p)

and_on : (a b c : Bool) → (b ≡ true → c ≡ true) → (a && b) ≡ true → (a && c) ≡ true
and_on true b c f h = f h
and_on false b c f h = h

body_below : (p r : Place) → below (child p 0) r ≡ true → below p r ≡ true
body_below [] [] h = absurd cc
body_below [] (j ∷ r) h = refl
body_below (k ∷ p) [] h = h
body_below (k ∷ p) (j ∷ r) h = and_on (nat_eq k j) (below (child p 0) r) (below p r) (body_below p r) h

is_body : (p : Place) → IsBody p (body_places p) (all_places p)
is_body p = record {
  root = body_root p;
  off = body_off p;
  inside = record { each = λ r e. (right_inside (only p) (below p)).each r (body_below p r e) };
  here = (left_inside (only p) (below p)).each p (only_itself p);
  under = right_inside (only p) (below p);
}

-- ---- constants

record Is (p : Place) (annotation : Annotation) (r : Rigid) : Type 0 where
  pub variable : Name
  pub is : r ≡ constant p annotation variable

own_is : (p : Place) (annotation : Annotation) (own : List Own) (xs : List Name) → rigids own ≡ map (constant p annotation) xs
    → AllByRecursion (λ (o : Own). Is p annotation o.rigid) own
own_is p annotation [] xs e = tt
own_is p annotation (o ∷ os) [] e = absurd cc
own_is p annotation (o ∷ os) (x ∷ xs) e =
    let one : o.rigid ≡ constant p annotation x = cc in
    let rest : rigids os ≡ map (constant p annotation) xs = cc in
    (record { variable = x; is = one }, own_is p annotation os xs rest)

rigid_is : (p : Place) (annotation : Annotation) (own : List Own) (r : Rigid) → AllByRecursion (λ (o : Own). Is p annotation o.rigid) own
    → Contains (rigids own) r → Is p annotation r
rigid_is p annotation [] r h (k, l, e) = absurd (omega arith)
rigid_is p annotation (o ∷ os) r h (zero, l, e) = record { variable = h.0.variable; is = sym e ∙ h.0.is }
rigid_is p annotation (o ∷ os) r h (suc k, l, e) = rigid_is p annotation os r h.1 (k, omega arith, e)

own_here : (p : Place) (annotation : Annotation) (own : List Own) → AllByRecursion (λ (o : Own). Is p annotation o.rigid) own
    → AllByRecursion (λ (o : Own). only p o.rigid.place ≡ true) own
own_here p annotation [] h = tt
own_here p annotation (o ∷ os) h = (ap (λ (r : Rigid). only p r.place) h.0.is ∙ only_itself p, own_here p annotation os h.1)

entered : (a : Around) (p : Place) (annotation : Annotation) (scope : Scope) (own : List Own) (s opened : Store) → Enters a p annotation scope own s opened
    → Entered a p (body_places p) (all_places p) own s opened
entered a p annotation scope own s opened h =
    let is = own_is p annotation own (own_variables scope.constants annotation) h.its in
    record {
      owned = record { here = own_here p annotation own is; new = h.new };
      named = λ r t cr ct e. (
          let x = rigid_is p annotation own r is cr in
          let y = rigid_is p annotation own t is ct in
          let same : x.variable ≡ y.variable = ap (λ (k : Rigid). k.name) (sym x.is) ∙ (e ∙ ap (λ (k : Rigid). k.name) y.is) in
          x.is ∙ (ap (constant p annotation) same ∙ sym y.is));
      region = is_body p;
      opens = h.opens;
      known = h.known;
    }

-- ---- items

keeps_same : (p : Place) (annotation : Annotation) (pos : Pos) (outer : List Wanted) (own : List Own) (xs : List Name)
    → rigids own ≡ map (constant p annotation) xs
    → map (λ o. Keeps pos (moved p o.rigid) outer) own ≡ map (λ (r : Name × Rigid). Keeps pos r.1 outer) (map (λ x. (x, constant p annotation x)) xs)
keeps_same p annotation pos outer [] [] e = refl
keeps_same p annotation pos outer [] (x ∷ xs) e = absurd cc
keeps_same p annotation pos outer (o ∷ os) [] e = absurd cc
keeps_same p annotation pos outer (o ∷ os) (x ∷ xs) e =
    let one : o.rigid ≡ constant p annotation x = cc in
    let rest : rigids os ≡ map (constant p annotation) xs = cc in
    ap (λ r. Keeps pos (moved p r) outer ∷ map (λ o. Keeps pos (moved p o.rigid) outer) os) one
    ∙ ap (λ l. Keeps pos (constant p annotation x) outer ∷ l) (keeps_same p annotation pos outer os xs rest)

items_same : (p : Place) (d : Definition) (annotation : Annotation) (scope : Scope) (own : List Own)
    → rigids own ≡ map (constant p annotation) (own_variables scope.constants annotation)
    → body_items d annotation scope p ++ scope_items d.place p own (outer_types scope) (type_inside annotation scope p) ≡ annotated_items d annotation scope p
items_same p d annotation scope own e =
    let first = annotation_items d.place annotation (fixed_variable (inner_scope annotation scope p).constants p) in
    let second = d.list (inner_scope annotation scope p) (child p 0) (type_inside annotation scope p) in
    let last = Small d.place (type_inside annotation scope p) ∷ [] in
    append_assoc first second (scope_items d.place p own (outer_types scope) (type_inside annotation scope p))
    ∙ ap (λ l. first ++ (second ++ (l ++ last))) (keeps_same p annotation d.place (outer_types scope) own (own_variables scope.constants annotation) e)

-- ---- definitions

pub definition_passes : AnnotatedPasses → DefinitionPasses
definition_passes law a p d annotation scope own s opened walked links after v scheme done stays small =
    subst (Passes a s links (all_places p)) (items_same p d annotation scope own done.enters.its)
    (law a p (body_places p) (all_places p) (body_items d annotation scope p) own (outer_types scope) (type_inside annotation scope p) d.place s opened walked links
    after v scheme stays.place stays.number done.whole (entered a p annotation scope own s opened done.enters) done.outer done.walk done.passes stays.deep
    (fixes_types scope.constants p annotation) stays.has stays.told small)

pub definition_large : AnnotatedLarge → DefinitionLarge
definition_large law a p d annotation scope own s opened walked s' links after v scheme done stays large =
    subst (λ l. Fails a s links (all_places p) l (Large d.place v) s') (items_same p d annotation scope own done.enters.its)
    (law a p (body_places p) (all_places p) (body_items d annotation scope p) own (outer_types scope) (type_inside annotation scope p) d.place s opened walked s' links
    after v scheme stays.place stays.number done.whole (entered a p annotation scope own s opened done.enters) done.outer done.walk done.passes stays.deep
    (fixes_types scope.constants p annotation) stays.has stays.told large)

pub definition_stops : BodyFails → DefinitionStops
definition_stops law a p d annotation scope own s opened s' links bad enters fails =
    subst (λ l. Fails a s links (all_places p) l bad s') (items_same p d annotation scope own enters.its)
    (law a p (body_places p) (all_places p) (body_items d annotation scope p)
    (scope_items d.place p own (outer_types scope) (type_inside annotation scope p)) own s opened s' links bad
    (entered a p annotation scope own s opened enters) fails)

pub definition_escapes : ConstantEscapes → DefinitionEscapes
definition_escapes law a p d annotation scope own earlier later o s opened walked s' links after u shape done covered split deep is low =
    subst (λ l. Fails a s links (all_places p) l (Escapes d.place o.rigid.name) s') (items_same p d annotation scope own done.enters.its)
    (law a p (body_places p) (all_places p) (body_items d annotation scope p) own earlier later o (outer_types scope) (type_inside annotation scope p) d.place s opened
    walked s' links after u shape done.whole (entered a p annotation scope own s opened done.enters) done.outer covered done.walk done.passes split deep is low)
