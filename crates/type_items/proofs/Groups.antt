-- Definitions in their type groups: where what they ask is solved, they ask the same where more is known.
use Rattle.std.proofs.Common.{◌≡◌, ℕ, ◌+◌, List, [], ◌∷◌, ◌++◌, map, Option, Some, None, refl, sym, ap, ◌∙◌}
use Rattle.std.proofs.Common.{subst}
use Rattle.std.proofs.Math.Path.{fun_ext}
use Rattle.std.specs.Prelude.{Bool, true, false, if◌then◌else◌, cond, filter, flat_map, option_map}
use Rattle.std.specs.List.{AllByRecursion, enumerate_from}
use Rattle.std.specs.Map.{lookup}
use Rattle.std.specs.Option.{option_or}
use Rattle.elm_base.specs.declared.position.Pos.{Pos}
use Rattle.elm_canon.specs.Names.{same_ref}
use Rattle.elm_canon.specs.declared.reference.Ref.{Ref}
use Rattle.elm_canon.specs.declared.reference.Ref.TheVariants.{Local, Top}
use Rattle.elm_canon.specs.Tree.{Annotation}
use Rattle.elm_type.specs.Types.{Scheme}
use Rattle.decl_groups.specs.InOrder.{ordered_groups}
use Rattle.type_items.specs.Items.{Place, child, Wanted, at, Item, Keeps, Small, copied}
use Rattle.type_items.specs.Scopes.{Entry, Instance, General, Known, Entries, Constants, Scope, one_types, elsewhere}
use Rattle.type_items.specs.Scopes.{entry_of, use_items}
use Rattle.type_items.specs.Annotations.{own_constants, fixed_variable, fixed_type, annotation_items, scheme_inside}
use Rattle.type_items.specs.Definitions.{Definition, stands_before, insert_definition, in_written_order, all_uses}
use Rattle.type_items.specs.Definitions.{type_groups, group_types, member_items, group_items, first_type}
use Rattle.type_items.specs.Definitions.{general, outer_types, annotated_items, Listed, list_as, list_group}
use Rattle.type_items.specs.Definitions.{list_groups, entries_as, annotated_names, around_items, list_definitions}
use Rattle.type_items.specs.Inferred.{first_annotation}
use Rattle.type_items.specs.Solutions.{Values, Solves, Meets}
use Rattle.type_items.specs.More.{Grows}
use Rattle.type_items.proofs.Lists.{two, all_left, all_right, no_nonsense, picked_each}
use Rattle.type_items.proofs.Patterns.{Alike, alike_itself, alike_both}

-- ---- names alike

none_alike : (x : Ref) (ms ns : Entries) → Alike ms ns → lookup (same_ref x) ns ≡ None → lookup (same_ref x) ms ≡ None
none_alike x [] [] h e = refl
none_alike x [] (n ∷ ns) h e = absurd h
none_alike x (m ∷ ms) [] h e = absurd h
none_alike x (m ∷ ms) (n ∷ ns) h e =
    subst (λ y. cond (same_ref x y) (Some m.1) (lookup (same_ref x) ms) ≡ None) (sym h.0)
    (go (same_ref x n.0) e (none_alike x ms ns h.1))
  where
    go : (b : Bool) → cond b (Some n.1) (lookup (same_ref x) ns) ≡ None
        → (lookup (same_ref x) ns ≡ None → lookup (same_ref x) ms ≡ None)
        → cond b (Some m.1) (lookup (same_ref x) ms) ≡ None
    go true f again = absurd (let z : Some n.1 ≡ None = f in cc)
    go false f again = again f

as_alike : (f g : Ref → Entry) (ns : Entries) → Alike (map (λ n. (n.0, f n.0)) ns) (map (λ n. (n.0, g n.0)) ns)
as_alike f g [] = tt
as_alike f g (n ∷ ns) = (refl, as_alike f g ns)

each_alike : (f g : Ref → Entry) (xs : List Ref) → Alike (map (λ x. (x, f x)) xs) (map (λ x. (x, g x)) xs)
each_alike f g [] = tt
each_alike f g (x ∷ xs) = (refl, each_alike f g xs)

annotated_alike : (ds : List Definition) (cs ks : Constants) → Alike (annotated_names ds cs) (annotated_names ds ks)
annotated_alike [] cs ks = tt
annotated_alike (d ∷ ds) cs ks =
    alike_both (entries_as d.annotation cs d.names) (entries_as d.annotation ks d.names) (annotated_names ds cs)
    (annotated_names ds ks) (go d.annotation) (annotated_alike ds cs ks)
  where
    go : (o : Option Annotation) → Alike (entries_as o cs d.names) (entries_as o ks d.names)
    go None = tt
    go (Some a) = each_alike (λ x. Instance (scheme_inside cs a)) (λ x. Instance (scheme_inside ks a)) d.names

-- ---- where more is known

module _ (known more : Known) (grows : Grows known more) (v : Values) where
  -- scopes of these names and constants, where that is known
  abbrev pub less : Entries → Constants → Scope
  less ns cs = record { known = known; names = ns; constants = cs }

  abbrev pub wide : Entries → Constants → Scope
  wide ns cs = record { known = more; names = ns; constants = cs }

  -- ---- uses of names

  elsewhere_same : (x : Ref) (here : Pos) (p : Place) (w : Wanted)
      → Solves v (use_items (elsewhere known x) here p w) → elsewhere known x ≡ elsewhere more x
  elsewhere_same (Local x) here p w s = refl
  elsewhere_same (Top m x) here p w s = go (known m x) refl s
    where
      go : (o : Option Scheme) → known m x ≡ o → Solves v (use_items (option_map (λ s. Instance s) o) here p w)
          → elsewhere known (Top m x) ≡ elsewhere more (Top m x)
      go None is k = no_nonsense v here k
      go (Some t) is k = ap (option_map (λ s. Instance s)) (is ∙ sym (grows m x t is))

  pub use_same : (x : Ref) (ms ns : Entries) (ks cs : Constants) (here : Pos) (p : Place) (w : Wanted) → Alike ms ns
      → Solves v (use_items (entry_of (less ms ks) x) here p w) → entry_of (less ns cs) x ≡ entry_of (wide ns cs) x
  use_same x ms ns ks cs here p w h s = go (lookup (same_ref x) ns) refl
    where
      go : (o : Option Entry) → lookup (same_ref x) ns ≡ o
          → option_or o (elsewhere known x) ≡ option_or o (elsewhere more x)
      go (Some e) is = refl
      go None is =
          elsewhere_same x here p w
          (subst (λ o. Solves v (use_items (option_or o (elsewhere known x)) here p w)) (none_alike x ms ns h is) s)

  -- ---- definitions

  -- Where its items are solved in some scope, they are the same where more is known, at each place and in each scope of
  -- the same names. So are its names with their types.
  pub record Steady (d : Definition) : Type 0 where
    pub list : (ms ns : Entries) (ks cs : Constants) (p q : Place) (t u : Wanted) → Alike ms ns
        → Solves v (d.list (less ms ks) p t) → d.list (less ns cs) q u ≡ d.list (wide ns cs) q u
    pub types : (ms : Entries) (ks : Constants) (p q : Place) (t u : Wanted) → Solves v (d.list (less ms ks) p t)
        → d.types known q u ≡ d.types more q u
    pub names : (p q : Place) (t u : Wanted) → Alike (d.types known p t) (d.types known q u)

  abbrev pub AllSteady : List Definition → Type 0
  AllSteady ds = AllByRecursion Steady ds

  abbrev types_from : List Definition → Known → Place → ℕ → Entries
  types_from ds k p i = flat_map (λ d. d.1.types k (child p d.0) (at (child p d.0))) (enumerate_from i ds)

  abbrev members : List Definition → Scope → Place → ℕ → List Item
  members ds scope p i = flat_map (member_items scope p) (enumerate_from i ds)

  types_steady : (ds : List Definition) → AllSteady ds → (ms : Entries) (ks : Constants) (p q : Place) (i : ℕ)
      → Solves v (members ds (less ms ks) p i) → types_from ds known q i ≡ types_from ds more q i
  types_steady [] h ms ks p q i s = refl
  types_steady (d ∷ ds) h ms ks p q i s =
      let own = all_left (Meets v) (member_items (less ms ks) p (i, d)) _ s in
      let list = all_left (Meets v) (d.list (less ms ks) (child p i) (at (child p i))) _ own in
      two (λ (xs ys : Entries). xs ++ ys)
      (h.0.types ms ks (child p i) (child q i) (at (child p i)) (at (child q i)) list)
      (types_steady ds h.1 ms ks p q (i + 1) (all_right (Meets v) (member_items (less ms ks) p (i, d)) _ s))

  names_steady : (ds : List Definition) → AllSteady ds → (p q : Place) (i : ℕ)
      → Alike (types_from ds known p i) (types_from ds known q i)
  names_steady [] h p q i = tt
  names_steady (d ∷ ds) h p q i =
      alike_both (d.types known (child p i) (at (child p i))) (d.types known (child q i) (at (child q i)))
      (types_from ds known p (i + 1)) (types_from ds known q (i + 1))
      (h.0.names (child p i) (child q i) (at (child p i)) (at (child q i))) (names_steady ds h.1 p q (i + 1))

  members_steady : (ds : List Definition) → AllSteady ds → (ms ns : Entries) (ks cs : Constants) (p q : Place) (i : ℕ)
      → Alike ms ns → Solves v (members ds (less ms ks) p i)
      → members ds (less ns cs) q i ≡ members ds (wide ns cs) q i
  members_steady [] h ms ns ks cs p q i a s = refl
  members_steady (d ∷ ds) h ms ns ks cs p q i a s =
      let own = all_left (Meets v) (member_items (less ms ks) p (i, d)) _ s in
      let list = all_left (Meets v) (d.list (less ms ks) (child p i) (at (child p i))) _ own in
      two (λ (xs ys : List Item). xs ++ ys)
      (ap (λ (l : List Item). l ++ Small d.place (at (child q i)) ∷ [])
      (h.0.list ms ns ks cs (child p i) (child q i) (at (child p i)) (at (child q i)) a list))
      (members_steady ds h.1 ms ns ks cs p q (i + 1) a
      (all_right (Meets v) (member_items (less ms ks) p (i, d)) _ s))

  -- ---- groups without annotations

  module _ (ds : List Definition) (steady : AllSteady ds) (ms ns : Entries) (ks cs : Constants) (p : Place)
      (alike : Alike ms ns) (s : Solves v (group_items ds (less ms ks) p)) where
    types_same : (q : Place) → group_types ds known q ≡ group_types ds more q
    types_same q = types_steady ds steady (group_types ds known p ++ ms) ks p q 0 s

    items_same : (q : Place) → group_items ds (less ns cs) q ≡ group_items ds (wide ns cs) q
    items_same q =
        members_steady ds steady (group_types ds known p ++ ms) (group_types ds known q ++ ns) ks cs p q 0
        (alike_both (group_types ds known p) (group_types ds known q) ms ns (names_steady ds steady p q 0) alike) s
        ∙ ap (λ (g : Entries). members ds (wide (g ++ ns) cs) q 0) (types_same q)

    general_same : (x : Ref) → general ds (less ns cs) x ≡ general ds (wide ns cs) x
    general_same x =
        two (λ (l : Place → List Item) (t : Place → Wanted). General l t) (fun_ext (λ q. ap copied (items_same q)))
        (fun_ext (λ q. ap (λ (g : Entries). first_type (one_types (filter (λ n. same_ref x n.0) g))) (types_same q)))

    abbrev new : Known → Scope → Entries
    new k scope = map (λ n. (n.0, general ds scope n.0)) (group_types ds k [])

    new_same : new known (less ns cs) ≡ new more (wide ns cs)
    new_same =
        ap (λ (f : Ref → Entry). map (λ n. (n.0, f n.0)) (group_types ds known [])) (fun_ext general_same)
        ∙ ap (map (λ (n : Ref × Entry). (n.0, general ds (wide ns cs) n.0))) (types_same [])

    new_alike : Alike (new known (less ms ks)) (new known (less ns cs))
    new_alike = as_alike (general ds (less ms ks)) (general ds (less ns cs)) (group_types ds known [])

  -- ---- one definition with its annotation

  annotated_same : (d : Definition) → Steady d → (a : Annotation) (ms ns : Entries) (ks cs : Constants) (p q : Place)
      → Alike ms ns → Solves v (annotated_items d a (less ms ks) p)
      → annotated_items d a (less ns cs) q ≡ annotated_items d a (wide ns cs) q
  annotated_same d steady a ms ns ks cs p q alike s =
      let ones = own_constants ks p a in
      let own = own_constants cs q a in
      let front = annotation_items d.place a (fixed_variable (ones ++ ks) p) in
      let inner = all_right (Meets v) front _ s in
      ap (λ (l : List Item). annotation_items d.place a (fixed_variable (own ++ cs) q)
      ++ (l ++ (map (λ r. Keeps d.place r.1 (outer_types (less ns cs))) own
      ++ Small d.place (fixed_type (own ++ cs) q a) ∷ [])))
      (steady.list ms ns (ones ++ ks) (own ++ cs) (child p 0) (child q 0) (fixed_type (ones ++ ks) p a)
      (fixed_type (own ++ cs) q a) alike
      (all_left (Meets v) (d.list (less ms (ones ++ ks)) (child p 0) (fixed_type (ones ++ ks) p a)) _ inner))

  -- ---- groups in turn

  -- What is listed where less is known, at two places, and where more is known, at the second. There the items are the
  -- same, and the scopes have the same names.
  pub record Turn (l m w : Listed) (ks cs : Constants) : Type 0 where
    pub same : m.items ≡ w.items
    pub earlier : Entries
    pub after : Entries
    pub first : l.scope ≡ less earlier ks
    pub second : m.scope ≡ less after cs
    pub third : w.scope ≡ wide after cs
    pub alike : Alike earlier after

  as_turn : (o : Option Annotation) (d : Definition) (ds : List Definition) → AllSteady (d ∷ ds)
      → (ms ns : Entries) (ks cs : Constants) (p q : Place) → Alike ms ns
      → Solves v (list_as o d ds (less ms ks) p).items
      → Turn (list_as o d ds (less ms ks) p) (list_as o d ds (less ns cs) q) (list_as o d ds (wide ns cs) q) ks cs
  as_turn None d ds steady ms ns ks cs p q alike s =
      let g = d ∷ ds in
      let more_names = new g steady ms ns ks cs p alike s known (less ns cs) in record {
        same = items_same g steady ms ns ks cs p alike s q;
        earlier = new g steady ms ns ks cs p alike s known (less ms ks) ++ ms;
        after = more_names ++ ns;
        first = refl;
        second = refl;
        third = ap (λ (e : Entries). wide (e ++ ns) cs) (sym (new_same g steady ms ns ks cs p alike s));
        alike =
            alike_both (new g steady ms ns ks cs p alike s known (less ms ks)) more_names ms ns
            (new_alike g steady ms ns ks cs p alike s) alike;
      }
  as_turn (Some a) d ds steady ms ns ks cs p q alike s = record {
    same = annotated_same d steady.0 a ms ns ks cs p q alike s;
    earlier = ms;
    after = ns;
    first = refl;
    second = refl;
    third = refl;
    alike = alike;
  }

  group_turn : (g : List Definition) → AllSteady g → (ms ns : Entries) (ks cs : Constants) (p q : Place)
      → Alike ms ns → Solves v (list_group g (less ms ks) p).items
      → Turn (list_group g (less ms ks) p) (list_group g (less ns cs) q) (list_group g (wide ns cs) q) ks cs
  group_turn [] steady ms ns ks cs p q alike s =
      record { same = refl; earlier = ms; after = ns; first = refl; second = refl; third = refl; alike = alike }
  group_turn (d ∷ ds) steady ms ns ks cs p q alike s =
      as_turn d.annotation d ds steady ms ns ks cs p q alike s

  -- the names of a group without annotations have the same types
  abbrev pub HasTypes : List Definition → Type 0
  HasTypes g = first_annotation g ≡ None → (q : Place) → group_types g known q ≡ group_types g more q

  group_typed : (g : List Definition) → AllSteady g → (ms : Entries) (ks : Constants) (p : Place)
      → Solves v (list_group g (less ms ks) p).items → HasTypes g
  group_typed [] steady ms ks p s none q = refl
  group_typed (d ∷ ds) steady ms ks p s none q =
      types_same (d ∷ ds) steady ms ms ks ks p (alike_itself ms)
      (subst (λ o. Solves v (list_as o d ds (less ms ks) p).items) none s) q

  -- those that follow a group
  left_solved : (g : List Definition) (gs : List (List Definition)) (ms after : Entries) (ks : Constants) (p : Place)
      (i : ℕ) → (list_group g (less ms ks) (child p i)).scope ≡ less after ks
      → Solves v (list_groups (g ∷ gs) (less ms ks) p i).items → Solves v (list_groups gs (less after ks) p (i + 1)).items
  left_solved g gs ms after ks p i e s =
      subst (λ (z : Scope). Solves v (list_groups gs z p (i + 1)).items) e
      (all_right (Meets v) (list_group g (less ms ks) (child p i)).items _ s)

  groups_turn : (gs : List (List Definition)) → AllByRecursion AllSteady gs → (ms ns : Entries) (ks cs : Constants)
      (p q : Place) (i : ℕ) → Alike ms ns → Solves v (list_groups gs (less ms ks) p i).items
      → Turn (list_groups gs (less ms ks) p i) (list_groups gs (less ns cs) q i) (list_groups gs (wide ns cs) q i) ks cs
  groups_turn [] steady ms ns ks cs p q i alike s =
      record { same = refl; earlier = ms; after = ns; first = refl; second = refl; third = refl; alike = alike }
  groups_turn (g ∷ gs) steady ms ns ks cs p q i alike s =
      let t = group_turn g steady.0 ms ns ks cs (child p i) (child q i) alike
      (all_left (Meets v) (list_group g (less ms ks) (child p i)).items _ s) in
      let r = groups_turn gs steady.1 t.earlier t.after ks cs p q (i + 1) t.alike
      (left_solved g gs ms t.earlier ks p i t.first s) in record {
        same =
            two (λ (xs ys : List Item). xs ++ ys) t.same
            (ap (λ (z : Scope). (list_groups gs z q (i + 1)).items) t.second ∙ (r.same
            ∙ sym (ap (λ (z : Scope). (list_groups gs z q (i + 1)).items) t.third)));
        earlier = r.earlier;
        after = r.after;
        first = ap (λ (z : Scope). (list_groups gs z p (i + 1)).scope) t.first ∙ r.first;
        second = ap (λ (z : Scope). (list_groups gs z q (i + 1)).scope) t.second ∙ r.second;
        third = ap (λ (z : Scope). (list_groups gs z q (i + 1)).scope) t.third ∙ r.third;
        alike = r.alike;
      }

  groups_typed : (gs : List (List Definition)) → AllByRecursion AllSteady gs → (ms : Entries) (ks : Constants)
      (p : Place) (i : ℕ) → Solves v (list_groups gs (less ms ks) p i).items
      → AllByRecursion (λ (g : ℕ × List Definition). HasTypes g.1) (enumerate_from i gs)
  groups_typed [] steady ms ks p i s = tt
  groups_typed (g ∷ gs) steady ms ks p i s =
      let own = all_left (Meets v) (list_group g (less ms ks) (child p i)).items _ s in
      let t = group_turn g steady.0 ms ms ks ks (child p i) (child p i) (alike_itself ms) own in (
        group_typed g steady.0 ms ks (child p i) own,
        groups_typed gs steady.1 t.earlier ks p (i + 1) (left_solved g gs ms t.earlier ks p i t.first s),
      )

  -- ---- definitions in their groups

  insert_steady : (d : Definition) (ds : List Definition) → Steady d → AllSteady ds → AllSteady (insert_definition d ds)
  insert_steady d [] h k = (h, tt)
  insert_steady d (e ∷ es) h k = go (stands_before e.place d.place) (insert_steady d es h k.1)
    where
      go : (b : Bool) → AllSteady (insert_definition d es)
          → AllSteady (if b then e ∷ insert_definition d es else d ∷ e ∷ es)
      go true rest = (k.0, rest)
      go false rest = (h, k)

  ordered_steady : (ds : List Definition) → AllSteady ds → AllSteady (in_written_order ds)
  ordered_steady [] h = tt
  ordered_steady (d ∷ ds) h = insert_steady d (in_written_order ds) h.0 (ordered_steady ds h.1)

  grouped_steady : (ds : List Definition) → AllSteady ds
      → AllByRecursion AllSteady (type_groups (in_written_order ds))
  grouped_steady ds h =
      picked_each Steady (in_written_order ds) (ordered_steady ds h) (ordered_groups (all_uses (in_written_order ds)))

  module _ (ds : List Definition) (steady : AllSteady ds) (ms : Entries) (ks : Constants) (p : Place)
      (s : Solves v (list_definitions ds (less ms ks) p).items) where
    abbrev inner : Constants → Entries → Entries
    inner cs ns = annotated_names (in_written_order ds) cs ++ ns

    groups_solved : Solves v (list_groups (type_groups (in_written_order ds)) (less (inner ks ms) ks) p 0).items
    groups_solved = all_right (Meets v) (around_items (in_written_order ds) ks) _ s

    pub definitions_turn : (ns : Entries) (cs : Constants) (q : Place) → Alike ms ns
        → Turn (list_definitions ds (less ms ks) p) (list_definitions ds (less ns cs) q)
        (list_definitions ds (wide ns cs) q) ks cs
    definitions_turn ns cs q alike =
        let t = groups_turn (type_groups (in_written_order ds)) (grouped_steady ds steady) (inner ks ms) (inner cs ns)
        ks cs p q 0
        (alike_both (annotated_names (in_written_order ds) ks) (annotated_names (in_written_order ds) cs) ms ns
        (annotated_alike (in_written_order ds) ks cs) alike) groups_solved in record {
          same = ap (λ (l : List Item). around_items (in_written_order ds) cs ++ l) t.same;
          earlier = t.earlier;
          after = t.after;
          first = t.first;
          second = t.second;
          third = t.third;
          alike = t.alike;
        }

    pub definitions_typed : AllByRecursion (λ (g : ℕ × List Definition). HasTypes g.1)
        (enumerate_from 0 (type_groups (in_written_order ds)))
    definitions_typed =
        groups_typed (type_groups (in_written_order ds)) (grouped_steady ds steady) (inner ks ms) ks p 0 groups_solved
