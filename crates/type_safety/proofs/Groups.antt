-- A group of functions without annotations: what it binds fits the scope with the group's names.
use Rattle.std.proofs.Common.{◌≡◌, ℕ, ◌+◌, List, [], ◌∷◌, ◌++◌, map, Bool, false, cond, Option, Some, filter, flat_map, refl, sym, ap, ◌∙◌, subst}
use Rattle.std.specs.List.{AllByRecursion, enumerate_from}
use Rattle.elm_canon.specs.Names.{same_ref}
use Rattle.elm_canon.specs.declared.reference.Ref.{Ref}
use Rattle.elm_canon.specs.Tree.{Patterns, Title, Expr, Functions, NoFunction, MoreFunction}
use Rattle.elm_meaning.specs.Values.{Env, BindGroup}
use Rattle.type_items.specs.Items.{Place, child, Wanted, at, Item, Same, InClass, Lacks, Keeps, Small, copied}
use Rattle.type_items.specs.Scopes.{Entry, Mono, Entries, Known, Scope, elsewhere, entry_of, with_names, one_types}
use Rattle.type_items.specs.Definitions.{Definition, member_items, group_items, first_type, type_in_group, general, with_group}
use Rattle.type_items.specs.Expressions.{items, function_items, function_definitions}
use Rattle.type_items.specs.Solutions.{Values, Solves}
use Rattle.typed_values.specs.Frames.{Frame, of, Agree, Serves}
use Rattle.typed_values.specs.World.{World}
use Rattle.typed_values.specs.Typed.{Stages, AtStage, IsChecked, Lists, Members, hides, or_named, Fits}
use Rattle.type_safety.specs.Binding.{AllChecked, GroupFitsScope}
use Rattle.typed_values.proofs.Names.{not_or, ref_itself, found, skip, first, solves_left, solves_right}
use Rattle.typed_values.proofs.Envs.{fits_keep, fits_move}

-- a copy asks for no sizes, which any types meet
pub solves_uncopied : (values : Values) (is : List Item) → Solves values (copied is) → Solves values is
solves_uncopied values [] h = tt
solves_uncopied values (Same pos t u ∷ is) h = (h.0, solves_uncopied values is h.1)
solves_uncopied values (InClass pos t c ∷ is) h = (h.0, solves_uncopied values is h.1)
solves_uncopied values (Lacks pos t x ∷ is) h = (h.0, solves_uncopied values is h.1)
solves_uncopied values (Keeps pos r ts ∷ is) h = (h.0, solves_uncopied values is h.1)
solves_uncopied values (Small pos t ∷ is) h = (tt, solves_uncopied values is h)

-- ---- the types of the members, from the number i on

abbrev types_at : Functions → Known → Place → ℕ → Entries
types_at fs known q i =
    flat_map (λ d. d.1.types known (child q d.0) (at (child q d.0))) (enumerate_from i (function_definitions fs))

abbrev scope_in : Functions → Scope → Place → Scope
scope_in fs S q = with_names (types_at fs S.known q 0) S

abbrev scope_of : Functions → Scope → Scope
scope_of fs S = with_group (function_definitions fs) S

abbrev generals : List Definition → Scope → Functions → Place → ℕ → Entries
generals whole S fs q i = map (λ n. (n.0, general whole S n.0)) (types_at fs S.known q i)

-- what is no member's name is found after the members
no_mono : (fs : Functions) (h : Ref → Bool) (y : Ref) (known : Known) (q : Place) (i : ℕ) (names : Entries) (o : Option Entry) → hides fs h y ≡ false
    → (h y ≡ false) × (found y (types_at fs known q i ++ names) o ≡ found y names o)
no_mono NoFunction h y known q i names o n = (n, refl)
no_mono (MoreFunction title qs e fs) h y known q i names o n =
    let r = no_mono fs (or_named title.name h) y known q (i + 1) names o n in
    let b = not_or (same_ref y title.name) (h y) r.0 in
    (b.1, skip y title.name (Mono (at (child q i))) (types_at fs known q (i + 1) ++ names) o b.0 ∙ r.1)

no_general : (whole : List Definition) (S : Scope) (fs : Functions) (h : Ref → Bool) (y : Ref) (q : Place) (i : ℕ) (names : Entries) (o : Option Entry) → hides fs h y ≡ false
    → (h y ≡ false) × (found y (generals whole S fs q i ++ names) o ≡ found y names o)
no_general whole S NoFunction h y q i names o n = (n, refl)
no_general whole S (MoreFunction title qs e fs) h y q i names o n =
    let r = no_general whole S fs (or_named title.name h) y q (i + 1) names o n in
    let b = not_or (same_ref y title.name) (h y) r.0 in
    (b.1, skip y title.name (general whole S title.name) (generals whole S fs q (i + 1) ++ names) o b.0 ∙ r.1)

outer_general : (whole : List Definition) (S : Scope) (bs names : Entries) → one_types (map (λ n. (n.0, general whole S n.0)) bs ++ names) ≡ one_types names
outer_general whole S [] names = refl
outer_general whole S (b ∷ bs) names = outer_general whole S bs names

outer_mono : (P : Wanted → Type 0) (fs : Functions) (known : Known) (q : Place) (i : ℕ) (names : Entries)
    → AllByRecursion P (one_types (types_at fs known q i ++ names)) → AllByRecursion P (one_types names)
outer_mono P NoFunction known q i names h = h
outer_mono P (MoreFunction title qs e fs) known q i names h = outer_mono P fs known q (i + 1) names h.1

narrow : (whole : List Definition) (S : Scope) (bs : Entries) (f g : Frame) → Agree (with_names (map (λ n. (n.0, general whole S n.0)) bs) S) f g → Agree S f g
narrow whole S bs f g a = record { types = subst (AllByRecursion (λ t. of g t ≡ of f t)) (outer_general whole S bs S.names) a.types; constants = a.constants }

-- the type of a name among names with types
abbrev type_among : Ref → Entries → Wanted
type_among x names = first_type (one_types (filter (λ n. same_ref x n.0) names))

type_skip : (x y : Ref) (t : Wanted) (names : Entries) → same_ref x y ≡ false → type_among x ((y, Mono t) ∷ names) ≡ type_among x names
type_skip x y t names e =
    ap (λ b. first_type (one_types (cond b ((y, Mono t) ∷ filter (λ n. same_ref x n.0) names) (filter (λ n. same_ref x n.0) names)))) e

type_first : (x : Ref) (t : Wanted) (names : Entries) → type_among x ((x, Mono t) ∷ names) ≡ t
type_first x t names =
    ap (λ b. first_type (one_types (cond b ((x, Mono t) ∷ filter (λ n. same_ref x n.0) names) (filter (λ n. same_ref x n.0) names)))) (ref_itself x)

abbrev stages_of : Functions → Scope → (Ref → Bool) → Frame → Stages
stages_of fs S U f = record {
  scopes = λ k q. scope_in fs S q;
  listed = λ k q. copied (group_items (function_definitions fs) S q);
  hidden = λ k. U;
  around = S;
  base = f;
}

module _ (w : World) (whole : Functions) (S : Scope) (a : Frame) (U : Ref → Bool) where
  -- the items of the members from the number i on
  abbrev From : Functions → ℕ → Type 0
  From fs i =
      (q : Place) (g : Frame) → AtStage (stages_of whole S U a) 0 q g
      → Solves g.values (flat_map (member_items (scope_in whole S q) q) (enumerate_from i (function_definitions fs)))

  abbrev own_items : Title → Patterns → Expr → Place → ℕ → List Item
  own_items title qs e q i = function_items qs (items e) (scope_in whole S q) title.place (child q i) (at (child q i))

  abbrev rest_items : Functions → Place → ℕ → List Item
  rest_items fs q i = flat_map (member_items (scope_in whole S q) q) (enumerate_from i (function_definitions fs))

  abbrev sized : Title → Place → ℕ → List Item
  sized title q i = Small title.place (at (child q i)) ∷ []

  from_next : (title : Title) (qs : Patterns) (e : Expr) (fs : Functions) (i : ℕ) → From (MoreFunction title qs e fs) i → From fs (i + 1)
  from_next title qs e fs i b q g st = solves_right g (own_items title qs e q i ++ sized title q i) (rest_items fs q (i + 1)) (b q g st)

  from_first : (title : Title) (qs : Patterns) (e : Expr) (fs : Functions) (i : ℕ) → From (MoreFunction title qs e fs) i → IsChecked w U qs e → (q : Place) (g : Frame)
      → AtStage (stages_of whole S U a) 0 q g → Lists w (stages_of whole S U a) qs e (of g (at (child q i)))
  from_first title qs e fs i b checked q g st = record {
    is_checked = checked;
    stage = 0;
    at_place = q;
    frame = g;
    at_stage = st;
    here = title.place;
    place = child q i;
    type = at (child q i);
    solves = solves_left g (own_items title qs e q i) (sized title q i) (solves_left g (own_items title qs e q i ++ sized title q i) (rest_items fs q (i + 1)) (b q g st));
    is = refl;
  }

  all_from : From whole 0
  all_from q g st = solves_uncopied g.values (group_items (function_definitions whole) S q) st.solves

  -- inside the group
  members_mono : (fs : Functions) (i : ℕ) (h : Ref → Bool) (q : Place) (g : Frame) → AtStage (stages_of whole S U a) 0 q g → From fs i → AllChecked w U fs
      → ((y : Ref) → h y ≡ false → entry_of (scope_in whole S q) y ≡ found y (types_at fs S.known q i ++ S.names) (elsewhere S.known y))
      → Members w (stages_of whole S U a) fs h (scope_in whole S q) g
  members_mono NoFunction i h q g st b checked skips = tt
  members_mono (MoreFunction title qs e fs) i h q g st b checked skips = (
    (λ n. (
      checked.0,
      λ entry is.
          let here : Some (Mono (at (child q i))) ≡ Some entry =
          sym (skips title.name n ∙ first title.name (Mono (at (child q i))) (types_at fs S.known q (i + 1) ++ S.names) (elsewhere S.known title.name)) ∙ is in
          let same : Mono (at (child q i)) ≡ entry = cc in
          subst (λ o. Serves (Lists w (stages_of whole S U a) qs e) o (scope_in whole S q) g) same (from_first title qs e fs i b checked.1 q g st),
    )),
    members_mono fs (i + 1) (or_named title.name h) q g st (from_next title qs e fs i b) checked.2 (λ y n.
        let o = not_or (same_ref y title.name) (h y) n in
        skips y o.1 ∙ skip y title.name (Mono (at (child q i))) (types_at fs S.known q (i + 1) ++ S.names) (elsewhere S.known y) o.0),
  )

  -- and after it
  members_general : (fs : Functions) (i : ℕ) (h : Ref → Bool) → From fs i → AllChecked w U fs
      → ((y : Ref) → h y ≡ false → entry_of (scope_of whole S) y ≡ found y (generals (function_definitions whole) S fs [] i ++ S.names) (elsewhere S.known y))
      → ((y : Ref) (q : Place) → h y ≡ false → type_in_group (function_definitions whole) S.known y q ≡ type_among y (types_at fs S.known q i))
      → Members w (stages_of whole S U a) fs h (scope_of whole S) a
  members_general NoFunction i h b checked skips types = tt
  members_general (MoreFunction title qs e fs) i h b checked skips types = (
    (λ n. (
      checked.0,
      λ entry is.
          let G = general (function_definitions whole) S title.name in
          let here : Some G ≡ Some entry =
          sym (skips title.name n ∙ first title.name G (generals (function_definitions whole) S fs [] (i + 1) ++ S.names) (elsewhere S.known title.name)) ∙ is in
          let same : G ≡ entry = cc in
          subst (λ o. Serves (Lists w (stages_of whole S U a) qs e) o (scope_of whole S) a) same (λ q g stands agree sol.
          let st : AtStage (stages_of whole S U a) 0 q g = record { stands = stands; agree = narrow (function_definitions whole) S (types_at whole S.known [] 0) a g agree; solves = sol } in
          let type : type_in_group (function_definitions whole) S.known title.name q ≡ at (child q i) =
          types title.name q n ∙ type_first title.name (at (child q i)) (types_at fs S.known q (i + 1)) in
          subst (λ t. Lists w (stages_of whole S U a) qs e (of g t)) (sym type) (from_first title qs e fs i b checked.1 q g st)),
    )),
    members_general fs (i + 1) (or_named title.name h) (from_next title qs e fs i b) checked.2
        (λ y n.
        let o = not_or (same_ref y title.name) (h y) n in
        skips y o.1 ∙ skip y title.name (general (function_definitions whole) S title.name) (generals (function_definitions whole) S fs [] (i + 1) ++ S.names) (elsewhere S.known y) o.0)
        (λ y q n.
        let o = not_or (same_ref y title.name) (h y) n in
        types y q o.1 ∙ type_skip y title.name (at (child q i)) (types_at fs S.known q (i + 1)) o.0),
  )

  group_fits : (env : Env) → AllChecked w U whole → Fits w env U S a → Fits w (BindGroup whole env) U (scope_of whole S) a
  group_fits env checked f = record {
    stages = stages_of whole S U a;
    members = members_general whole 0 U all_from checked (λ y n. refl) (λ y q n. refl);
    rest = fits_keep w env U (hides whole U) S (scope_of whole S) a
        (λ y n. (let r = no_general (function_definitions whole) S whole U y [] 0 S.names (elsewhere S.known y) n in (r.0, λ entry is. sym r.1 ∙ is)))
        (record { known = refl; agree = λ g h agree. narrow (function_definitions whole) S (types_at whole S.known [] 0) g h agree }) f;
    closing = λ k q g st.
        let st0 : AtStage (stages_of whole S U a) 0 q g = record { stands = st.stands; agree = st.agree; solves = st.solves } in (
          members_mono whole 0 U q g st0 all_from checked (λ y n. refl),
          fits_keep w env U (hides whole U) S (scope_in whole S q) g
              (λ y n. (let r = no_mono whole U y S.known q 0 S.names (elsewhere S.known y) n in (r.0, λ entry is. sym r.1 ∙ is)))
              (record { known = refl; agree = λ f2 h agree. record { types = outer_mono (λ t. of h t ≡ of f2 t) whole S.known q 0 S.names agree.types; constants = agree.constants } })
              (fits_move w env U S a g st.agree f),
        );
  }

pub group_fits_scope : GroupFitsScope
group_fits_scope w fs env hidden scope f checked fits = group_fits w fs scope f hidden env checked fits
