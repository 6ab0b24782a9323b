-- Names with an annotation: `annotated_are_told`.
use Rattle.std.proofs.Common.{◌≡◌, ℕ, List, [], ◌∷◌, true, false, Option, Some, None, inl, inr, refl, sym, ap, ◌∙◌}
use Rattle.std.proofs.Common.{subst, zero, suc, ◌+◌}
use Rattle.std.specs.List.{AllByRecursion, enumerate_from}
use Rattle.elm_canon.specs.declared.reference.Ref.{Ref}
use Rattle.elm_canon.specs.Tree.{Annotation, Module}
use Rattle.elm_canon.specs.Proper.{among}
use Rattle.elm_type.specs.Schemes.{rename}
use Rattle.type_items.specs.Items.{Place, child, Item}
use Rattle.type_items.specs.Scopes.{Entry, Instance, Known, Scope, entry_of}
use Rattle.type_items.specs.Annotations.{annotation_scheme}
use Rattle.type_items.specs.Definitions.{Definition, annotated_names, in_written_order}
use Rattle.type_items.specs.Expressions.{definitions}
use Rattle.type_items.specs.Inferred.{Schemes, Inferred, GroupHasSchemes, first_annotation}
use Rattle.type_items.specs.Modules.{known_in, module_scope, module_definitions, module_items}
use Rattle.typed_values.specs.World.{Among}
use Rattle.typed_values.specs.Simple.{AreApart}
use Rattle.typed_values.specs.Sample.{sample, sample_frame}
use Rattle.typed_values.proofs.Names.{not_both}
use Rattle.typed_values.proofs.SampleWorld.{sample_is_sound}
use Rattle.type_safety.proofs.Sound.{steps_keep_types}
use Rattle.type_safety.specs.Modules.{groups_in, AreTitled, scope_after}
use Rattle.type_safety.proofs.Modules.{declared_definitions}
use Rattle.type_safety.proofs.Stagings.{Named, AllNamed, EachNamed, last_scope, adds_as, adds, adds_some, group_at}
use Rattle.type_safety.proofs.Stagings.{listed_scope, last_none, last_adding, found_left}
use Rattle.type_safety.proofs.Orders.{written_among, among_written, group_covers, group_alone, group_among}
use Rattle.type_safety.proofs.Lets.{Hs, T, annotated_entry, adds_defines, one_definer, among_ref, all_among, all_from}
use Rattle.type_safety.proofs.Lets.{each_at}
use Rattle.type_safety.proofs.Progress.{top_named}
use Rattle.program_safety.specs.Parts.{Part}
use Rattle.program_safety.proofs.Chain.{definer}
use Rattle.build_safety.specs.ToldAnnotated.{IsAnnotated, AnnotatedAreTold}

-- one of the groups, from a number on, has what all have
group_has : (Gs : List (List Definition)) (i k : ℕ) (Q : ℕ × List Definition → Type 0) →
    AllByRecursion Q (enumerate_from i Gs) → (group_at Gs k ≡ [] → ⊥) → (n : ℕ) × Q (n, group_at Gs k)
group_has [] i k Q h some = absurd (some refl)
group_has (G ∷ Gs) i zero Q h some = (i, h.0)
group_has (G ∷ Gs) i (suc k) Q h some = group_has Gs (i + 1) k Q h.1 some

-- of a group that has an annotated definition alone, inference tells the scheme
noted : (p : Place) (items : List Item) (schemes : Schemes) (K : Known) (q : Place) (G : List Definition)
    (d : Definition) (note : Annotation) (y : Ref) → Among d G → d.annotation ≡ Some note → among y d.names ≡ true →
    ((e : Definition) → Among e G → e ≡ d) → GroupHasSchemes p items schemes K q (first_annotation G) G →
    schemes y ≡ Some (rename (annotation_scheme note))
noted p items schemes K q [] d note y n is own alone h = absurd n
noted p items schemes K q (e ∷ G) d note y n is own alone h =
    let first : e.annotation ≡ Some note = ap (λ z. z.annotation) (alone e (inl refl)) ∙ is in
    let k : GroupHasSchemes p items schemes K q (Some note) (e ∷ G) =
    subst (λ o. GroupHasSchemes p items schemes K q o (e ∷ G)) first h in
    among_ref (λ x. schemes x ≡ Some (rename (annotation_scheme note))) d.names y
    (all_among (λ z. AllByRecursion (λ x. schemes x ≡ Some (rename (annotation_scheme note))) z.names) (e ∷ G) d k n)
    own

some_member : (G : List Definition) (d : Definition) → Among d G → G ≡ [] → ⊥
some_member [] d n e = n
some_member (g ∷ G) d n e = (let z : g ∷ G ≡ [] = e in cc)

-- a group all of whose definitions have this annotation adds no name
not_added : (G : List Definition) (d : Definition) (note : Annotation) (y : Ref) → d.annotation ≡ Some note →
    ((e : Definition) → Among e G → e ≡ d) → adds G y ≡ true → ⊥
not_added [] d note y is alone e = not_both false e refl
not_added (g ∷ G) d note y is alone e =
    by g.annotation (ap (λ z. z.annotation) (alone g (inl refl)) ∙ is) e
  where
    by : (o : Option Annotation) → o ≡ Some note → adds_as o (g ∷ G) y ≡ true → ⊥
    by None f h = (let z : None ≡ Some note = f in cc)
    by (Some k) f h = not_both false h refl

module _ (told : Known) (t : Part) (schemes : Schemes) (ok : Inferred t.module_ told t.place schemes)
    (titled : AreTitled (groups_in t.module_.declarations))
    (parted : AreApart (definitions (groups_in t.module_.declarations))) where
  abbrev m : Module
  m = t.module_

  abbrev es : List Definition
  es = module_definitions m

  abbrev written : List Definition
  written = in_written_order es

  abbrev K : Known
  K = known_in m told

  abbrev S : Scope
  S = module_scope m told

  abbrev p : Place
  p = t.place

  abbrev its : List Item
  its = module_items m told p

  abbrev H : List (List Definition)
  H = Hs sample es S p sample_frame

  abbrev T0 : Scope
  T0 = T sample es S p sample_frame

  same : es ≡ definitions (groups_in m.declarations)
  same = declared_definitions m.declarations

  named : AllNamed K es
  named =
      subst (AllNamed K) (sym same)
      (top_named sample (steps_keep_types sample sample_is_sound) (groups_in m.declarations) K titled)

  apart : AreApart es
  apart = subst AreApart (sym same) parted

  each_named : EachNamed K H
  each_named =
      each_at K H (λ k. all_from (Named K) (group_at H k)
      (λ d n. all_among (Named K) es d named (among_written d es (group_among written k d n))))

  scope_is : (y : Ref) → entry_of (scope_after m told p) y ≡ entry_of (last_scope H T0) y
  scope_is y = ap (λ z. entry_of z y) (listed_scope H T0 p 0)

  module _ (d : Definition) (note : Annotation) (y : Ref) (there : Among d es) (own : among y d.names ≡ true)
      (is : d.annotation ≡ Some note) where
    only : (e : Definition) → Among e written → among y e.names ≡ true → e ≡ d
    only e n other = one_definer es e d y apart (among_written e es n) there other own

    -- no group without annotations has the name
    none_adds : adds_some H y ≡ false
    none_adds = elim (last_adding K H T0 y refl each_named) [
      | inl none ↦ none
      | inr r ↦ absurd (let e = definer (group_at H r.number) y (adds_defines (group_at H r.number) y r.own) in
          let here : e.0 ≡ d = only e.0 (group_among written r.number e.0 e.1) e.2 in
          not_added (group_at H r.number) d note y is
          (group_alone written r.number d note (subst (λ z. Among z (group_at H r.number)) here e.1) is) r.own)
    ]

    abbrev entry : Entry
    entry = Instance (annotation_scheme note)

    found : entry_of T0 y ≡ Some entry
    found =
        found_left S (annotated_names written []) y entry
        (annotated_entry written [] d note y only (written_among d es there) own is)

    scheme : schemes y ≡ Some (rename (annotation_scheme note))
    scheme =
        let c = group_covers written d (written_among d es there) in
        let a = group_has H 0 c.0
        (λ g. GroupHasSchemes p its schemes K (child p g.0) (first_annotation g.1) g.1) ok.types
        (some_member (group_at H c.0) d c.1) in
        noted p its schemes K (child p a.0) (group_at H c.0) d note y c.1 is own
        (λ e n. group_alone written c.0 d note c.1 is e n) a.1

    pub annotated : IsAnnotated told t schemes y note
    annotated = record { entry = scope_is y ∙ (last_none K H T0 y each_named none_adds ∙ found); scheme = scheme }

pub annotated_are_told : AnnotatedAreTold
annotated_are_told told t schemes d a y ok titled parted there own is =
    annotated told t schemes ok titled parted d a y there own is
