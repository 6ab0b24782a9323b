-- The definitions of a `let`: what is bound serves the entries of its names, where it has its types at every stage.
use Rattle.std.proofs.Common.{◌≡◌, ℕ, zero, suc, ◌+◌, List, [], ◌∷◌, ◌++◌, map, Bool, true, false, cond, Option, Some, None, flat_map, ◌⊎◌, inl, inr, refl, sym, ap, ◌∙◌, subst}
use Rattle.std.specs.Prelude.{◌||◌, if◌then◌else◌}
use Rattle.std.specs.List.{AllByRecursion, enumerate_from}
use Rattle.elm_canon.specs.Names.{same_ref}
use Rattle.elm_canon.specs.declared.reference.Ref.{Ref}
use Rattle.elm_canon.specs.Tree.{Annotation, Title, Patterns, Expr, Functions, NoFunction, MoreFunction}
use Rattle.elm_canon.specs.Proper.{among}
use Rattle.elm_meaning.specs.Values.{Env, BindGroup}
use Rattle.elm_type.specs.Types.{Scheme}
use Rattle.elm_type.specs.Classes.{Ground}
use Rattle.type_items.specs.Items.{Place, child, Wanted, at, Item, Same, InClass, Lacks, Keeps, Small, copied}
use Rattle.type_items.specs.Scopes.{Entry, Mono, Instance, Known, Constants, Scope, Entries, entry_of, with_names}
use Rattle.type_items.specs.Scopes.{with_constants, one_types}
use Rattle.type_items.specs.Annotations.{own_constants, fixed_variable, fixed_type, annotation_items, scheme_inside}
use Rattle.type_items.specs.Uses.{used, used_functions}
use Rattle.type_items.specs.Definitions.{Definition, in_written_order, type_groups, group_types, member_items, group_items}
use Rattle.type_items.specs.Definitions.{general, outer_types, annotated_items, list_as, list_group, list_groups}
use Rattle.type_items.specs.Definitions.{entries_as, annotated_names}
use Rattle.type_items.specs.Expressions.{items, function_items, titled, function_definitions}
use Rattle.type_items.specs.Solutions.{Values, Solves}
use Rattle.typed_values.specs.Frames.{Frame, of, Stands, Agree, Serves, Chosen, ground_instance}
use Rattle.typed_values.specs.World.{World, Among}
use Rattle.typed_values.specs.Simple.{Without, defines, AreApart, SimpleFunctions}
use Rattle.typed_values.specs.Typed.{Stages, AtStage, Lists, Members, hides, or_named, Fits}
use Rattle.typed_values.proofs.Names.{yes_or_no, not_both, not_or, or_not, ref_itself, same_refs, all_left, all_right, solves_left, solves_right}
use Rattle.typed_values.proofs.Envs.{Wider, agree_refl}
use Rattle.type_safety.proofs.Transfers.{Transfer, carried_same, transfer_all, members_transfer, fits_transfer}
use Rattle.type_safety.proofs.Stagings.{at_name, name_left, name_right, Named, AllNamed, first_definer, definer_type}
use Rattle.type_safety.proofs.Stagings.{adds_as, adds, stage_as, stage_scope, stage_list_as, stage_list, last_scope, group_at}
use Rattle.type_safety.proofs.Stagings.{scope_at, place_at, adds_some, adds_after, EachNamed, listed_items, last_none}
use Rattle.type_safety.proofs.Stagings.{last_adding, last_alike, scope_alike, agree_alike, alike_back, stages, stage_wider, transfer_stage}
use Rattle.type_safety.proofs.Stagings.{found_left, found_right, named_at}
use Rattle.type_safety.proofs.Orders.{written_among, among_written, group_among, group_covers, group_alone, group_uses}
use Rattle.type_safety.proofs.Orders.{group_adder}
use Rattle.type_safety.proofs.Annotated.{instantiated}

-- ---- lists

pub all_among : {X : Type 0} (P : X → Type 0) (xs : List X) (x : X) → AllByRecursion P xs → Among x xs → P x
all_among P [] x h m = absurd m
all_among P (y ∷ xs) x h (inl e) = subst P (sym e) h.0
all_among P (y ∷ xs) x h (inr m) = all_among P xs x h.1 m

pub all_from : {X : Type 0} (P : X → Type 0) (xs : List X) → ((x : X) → Among x xs → P x) → AllByRecursion P xs
all_from P [] h = tt
all_from P (x ∷ xs) h = (h x (inl refl), all_from P xs (λ y m. h y (inr m)))

pub among_append : {X : Type 0} (x : X) (xs ys : List X) → Among x ys → Among x (xs ++ ys)
among_append x [] ys m = m
among_append x (y ∷ xs) ys m = inr (among_append x xs ys m)

pub among_front : {X : Type 0} (x : X) (xs ys : List X) → Among x xs → Among x (xs ++ ys)
among_front x [] ys m = absurd m
among_front x (y ∷ xs) ys (inl e) = inl e
among_front x (y ∷ xs) ys (inr m) = inr (among_front x xs ys m)

pub among_ref : (P : Ref → Type 0) (xs : List Ref) (y : Ref) → AllByRecursion P xs → among y xs ≡ true → P y
among_ref P [] y h e = not_both false e refl
among_ref P (x ∷ xs) y h e = go (same_ref y x) refl e (among_ref P xs y h.1)
  where
    go : (b : Bool) → same_ref y x ≡ b → (if b then true else among y xs) ≡ true → (among y xs ≡ true → P y) → P y
    go true is f again = subst P (sym (same_refs y x is)) h.0
    go false is f again = again f

pub without_from : (h : Ref → Bool) (xs : List Ref) → ((y : Ref) → among y xs ≡ true → h y ≡ false) → Without h xs
without_from h [] k = tt
without_from h (x ∷ xs) k = (
  k x (ap (λ b. if b then true else among x xs) (ref_itself x)),
  without_from h xs (λ y e. k y (later y (same_ref y x) e)),
)
  where
    later : (y : Ref) (b : Bool) → among y xs ≡ true → (if b then true else among y xs) ≡ true
    later y true e = refl
    later y false e = e

pub among_one : (x y : Ref) → same_ref y x ≡ false → among y (x ∷ []) ≡ false
among_one x y e = ap (λ b. if b then true else false) e

pub one_among : (x y : Ref) → among y (x ∷ []) ≡ true → same_ref y x ≡ true
one_among x y e = go (same_ref y x) e
  where
    go : (b : Bool) → (if b then true else false) ≡ true → b ≡ true
    go true f = refl
    go false f = f

numbered : {X : Type 0} (xs : List X) (n : ℕ) (x : X) → Among x xs → (j : ℕ) × Among (j, x) (enumerate_from n xs)
numbered [] n x m = absurd m
numbered (y ∷ xs) n x (inl e) = (n, inl (ap (λ z. (n, z)) e))
numbered (y ∷ xs) n x (inr m) = (let r = numbered xs (n + 1) x m in (r.0, inr r.1))

unnumbered : {X : Type 0} (xs : List X) (n j : ℕ) (x : X) → Among (j, x) (enumerate_from n xs) → Among x xs
unnumbered [] n j x m = absurd m
unnumbered (y ∷ xs) n j x (inl e) = inl (ap (λ z. z.1) e)
unnumbered (y ∷ xs) n j x (inr m) = inr (unnumbered xs (n + 1) j x m)

flat_part : {X : Type 0} (f : X → List Item) (xs : List X) (x : X) (values : Values) → Solves values (flat_map f xs) → Among x xs → Solves values (f x)
flat_part f [] x values h m = absurd m
flat_part f (y ∷ xs) x values h (inl e) = subst (λ z. Solves values (f z)) (sym e) (all_left _ (f y) (flat_map f xs) h)
flat_part f (y ∷ xs) x values h (inr m) = flat_part f xs x values (all_right _ (f y) (flat_map f xs) h) m

pub solves_copied : (values : Values) (is : List Item) → Solves values is → Solves values (copied is)
solves_copied values [] h = tt
solves_copied values (Same pos t u ∷ is) h = (h.0, solves_copied values is h.1)
solves_copied values (InClass pos t c ∷ is) h = (h.0, solves_copied values is h.1)
solves_copied values (Lacks pos t x ∷ is) h = (h.0, solves_copied values is h.1)
solves_copied values (Keeps pos r ts ∷ is) h = (h.0, solves_copied values is h.1)
solves_copied values (Small pos t ∷ is) h = solves_copied values is h.1

solves_whole : (values : Values) (is : List Item) → Solves values (copied is) → Solves values is
solves_whole values [] h = tt
solves_whole values (Same pos t u ∷ is) h = (h.0, solves_whole values is h.1)
solves_whole values (InClass pos t c ∷ is) h = (h.0, solves_whole values is h.1)
solves_whole values (Lacks pos t x ∷ is) h = (h.0, solves_whole values is h.1)
solves_whole values (Keeps pos r ts ∷ is) h = (h.0, solves_whole values is h.1)
solves_whole values (Small pos t ∷ is) h = (tt, solves_whole values is h)

-- ---- names that are defined once

defines_among : (ds : List Definition) (d : Definition) (y : Ref) → Among d ds → among y d.names ≡ true → defines ds y ≡ true
defines_among [] d y m e = absurd m
defines_among (f ∷ fs) d y (inl k) e = ap (λ b. b || defines fs y) (ap (λ z. among y z.names) (sym k) ∙ e)
defines_among (f ∷ fs) d y (inr m) e = second (among y f.names) (defines_among fs d y m e)
  where
    second : (b : Bool) → defines fs y ≡ true → (b || defines fs y) ≡ true
    second true h = refl
    second false h = h

pub one_definer : (ds : List Definition) (d e : Definition) (y : Ref) → AreApart ds → Among d ds → Among e ds → among y d.names ≡ true → among y e.names ≡ true → d ≡ e
one_definer [] d e y apart m n own other = absurd m
one_definer (f ∷ fs) d e y apart (inl m) (inl n) own other = m ∙ sym n
one_definer (f ∷ fs) d e y apart (inl m) (inr n) own other =
    not_both (defines fs y) (defines_among fs e y n other) (among_ref (λ z. defines fs z ≡ false) f.names y apart.0 (ap (λ z. among y z.names) (sym m) ∙ own))
one_definer (f ∷ fs) d e y apart (inr m) (inl n) own other =
    not_both (defines fs y) (defines_among fs d y m own) (among_ref (λ z. defines fs z ≡ false) f.names y apart.0 (ap (λ z. among y z.names) (sym n) ∙ other))
one_definer (f ∷ fs) d e y apart (inr m) (inr n) own other = one_definer fs d e y apart.1 m n own other

pub defines_append : (xs ys : List Definition) (y : Ref) → defines xs y ≡ false → defines ys y ≡ false → defines (xs ++ ys) y ≡ false
defines_append [] ys y e f = f
defines_append (x ∷ xs) ys y e f =
    let n = not_or (among y x.names) (defines xs y) e in
    or_not (among y x.names) (defines (xs ++ ys) y) n.0 (defines_append xs ys y n.1 f)

pub none_at : (Gs : List (List Definition)) (k : ℕ) (y : Ref) → adds_some Gs y ≡ false → adds (group_at Gs k) y ≡ false
none_at [] k y e = refl
none_at (G ∷ Gs) zero y e = (not_or (adds G y) (adds_some Gs y) e).0
none_at (G ∷ Gs) (suc k) y e = none_at Gs k y (not_or (adds G y) (adds_some Gs y) e).1

-- ---- names with annotations

noted_names : (xs : List Ref) (y : Ref) (s : Entry) → among y xs ≡ true → at_name y (map (λ x. (x, s)) xs) ≡ Some s
noted_names [] y s e = not_both false e refl
noted_names (x ∷ xs) y s e = go (same_ref y x) e (noted_names xs y s)
  where
    go : (b : Bool) → (if b then true else among y xs) ≡ true → (among y xs ≡ true → at_name y (map (λ x. (x, s)) xs) ≡ Some s)
        → cond b (Some s) (at_name y (map (λ x. (x, s)) xs)) ≡ Some s
    go true f again = refl
    go false f again = again f

unnoted_names : (xs : List Ref) (y : Ref) (s : Entry) → among y xs ≡ false → at_name y (map (λ x. (x, s)) xs) ≡ None
unnoted_names [] y s e = refl
unnoted_names (x ∷ xs) y s e = go (same_ref y x) e (unnoted_names xs y s)
  where
    go : (b : Bool) → (if b then true else among y xs) ≡ false → (among y xs ≡ false → at_name y (map (λ x. (x, s)) xs) ≡ None)
        → cond b (Some s) (at_name y (map (λ x. (x, s)) xs)) ≡ None
    go true f again = not_both true refl f
    go false f again = again f

unnoted : (o : Option Annotation) (around : Constants) (xs : List Ref) (y : Ref) → among y xs ≡ false → at_name y (entries_as o around xs) ≡ None
unnoted None around xs y e = refl
unnoted (Some note) around xs y e = unnoted_names xs y (Instance (scheme_inside around note)) e

pub annotated_entry : (es : List Definition) (around : Constants) (d : Definition) (note : Annotation) (y : Ref) → ((e : Definition) → Among e es → among y e.names ≡ true → e ≡ d) → Among d es
    → among y d.names ≡ true → d.annotation ≡ Some note → at_name y (annotated_names es around) ≡ Some (Instance (scheme_inside around note))
annotated_entry [] around d note y one m own is = absurd m
annotated_entry (e ∷ es) around d note y one m own is = elim (yes_or_no (among y e.names)) [
  | inl mine ↦ (let same : e ≡ d = one e (inl refl) mine in
      let o : e.annotation ≡ Some note = ap (λ z. z.annotation) same ∙ is in
      name_left y (entries_as e.annotation around e.names) (annotated_names es around) (Instance (scheme_inside around note))
      (ap (λ z. at_name y (entries_as z around e.names)) o ∙ noted_names e.names y (Instance (scheme_inside around note)) mine))
  | inr other ↦ name_right y (entries_as e.annotation around e.names) (annotated_names es around) (unnoted e.annotation around e.names y other)
      ∙ annotated_entry es around d note y (λ f n. one f (inr n)) (later m other) own is
]
  where
    later : (d ≡ e) ⊎ Among d es → among y e.names ≡ false → Among d es
    later (inl k) other = not_both (among y e.names) (ap (λ z. among y z.names) (sym k) ∙ own) other
    later (inr k) other = k

pub no_annotation : (es : List Definition) (around : Constants) (y : Ref) → defines es y ≡ false → at_name y (annotated_names es around) ≡ None
no_annotation [] around y e = refl
no_annotation (d ∷ es) around y e =
    let n = not_or (among y d.names) (defines es y) e in
    name_right y (entries_as d.annotation around d.names) (annotated_names es around) (unnoted d.annotation around d.names y n.0) ∙ no_annotation es around y n.1

pub one_types_annotated : (es : List Definition) (around : Constants) (names : Entries) → one_types (annotated_names es around ++ names) ≡ one_types names
one_types_annotated [] around names = refl
one_types_annotated (d ∷ es) around names = go d.annotation (one_types_annotated es around names)
  where
    each : (xs : List Ref) (s : Scheme) (rest : Entries)
        → one_types ((map (λ x. (x, Instance s)) xs ++ rest) ++ names) ≡ one_types (rest ++ names)
    each [] s rest = refl
    each (x ∷ xs) s rest = each xs s rest

    go : (o : Option Annotation) → one_types (annotated_names es around ++ names) ≡ one_types names
        → one_types ((entries_as o around d.names ++ annotated_names es around) ++ names) ≡ one_types names
    go None again = again
    go (Some note) again = each d.names (scheme_inside around note) (annotated_names es around) ∙ again

-- ---- groups with and without an annotation

pub record PlainStage (G : List Definition) (U : Scope) (pl : Place) : Type 0 where
  pub scope : (q : Place) → stage_scope G U pl q ≡ with_names (group_types G U.known q) U
  pub listed : (q : Place) → stage_list G U q ≡ copied (group_items G U q)
  pub items : (list_group G U pl).items ≡ group_items G U pl

pub record NotedStage (d : Definition) (note : Annotation) (G : List Definition) (U : Scope) (pl : Place) : Type 0 where
  pub scope : (q : Place) → stage_scope G U pl q ≡ with_constants (own_constants U.constants pl note) U
  pub listed : (q : Place) → stage_list G U q ≡ []
  pub items : (list_group G U pl).items ≡ annotated_items d note U pl

plain_head : (d : Definition) (ds : List Definition) (U : Scope) (pl : Place) → d.annotation ≡ None → PlainStage (d ∷ ds) U pl
plain_head d ds U pl is = record {
  scope = λ q. ap (λ o. stage_as o d ds U pl q) is;
  listed = λ q. ap (λ o. stage_list_as o d ds U q) is;
  items = ap (λ o. (list_as o d ds U pl).items) is;
}

pub plain_adding : (G : List Definition) (U : Scope) (pl : Place) (y : Ref) → adds G y ≡ true → PlainStage G U pl
plain_adding [] U pl y e = not_both false e refl
plain_adding (d ∷ ds) U pl y e = plain_head d ds U pl (go d.annotation e)
  where
    go : (o : Option Annotation) → adds_as o (d ∷ ds) y ≡ true → o ≡ None
    go None f = refl
    go (Some note) f = not_both false f refl

pub adds_defines : (G : List Definition) (y : Ref) → adds G y ≡ true → defines G y ≡ true
adds_defines [] y e = not_both false e refl
adds_defines (d ∷ ds) y e = go d.annotation e
  where
    go : (o : Option Annotation) → adds_as o (d ∷ ds) y ≡ true → defines (d ∷ ds) y ≡ true
    go None f = f
    go (Some note) f = not_both false f refl

abbrev pub Alone : List Definition → Type 0
Alone G = (d : Definition) (note : Annotation) → Among d G → d.annotation ≡ Some note → (e : Definition) → Among e G → e ≡ d

-- a definition without an annotation stands in a group whose first has none
head_plain : (d h : Definition) (rest : List Definition) → Alone (h ∷ rest) → Among d (h ∷ rest) → d.annotation ≡ None → (o : Option Annotation) → h.annotation ≡ o → h.annotation ≡ None
head_plain d h rest alone m none None is = is
head_plain d h rest alone m none (Some note) is =
    absurd (let s : d ≡ h = alone h note (inl refl) is d m in let z : None ≡ Some note = sym none ∙ (ap (λ x. x.annotation) s ∙ is) in cc)

plain_member : (d : Definition) (G : List Definition) (U : Scope) (pl : Place) → Alone G → Among d G → d.annotation ≡ None → PlainStage G U pl
plain_member d [] U pl alone m none = absurd m
plain_member d (h ∷ rest) U pl alone m none = plain_head h rest U pl (head_plain d h rest alone m none h.annotation refl)

pub adds_member : (d : Definition) (G : List Definition) (y : Ref) → Alone G → Among d G → d.annotation ≡ None → among y d.names ≡ true → adds G y ≡ true
adds_member d [] y alone m none own = absurd m
adds_member d (h ∷ rest) y alone m none own =
    ap (λ o. adds_as o (h ∷ rest) y) (head_plain d h rest alone m none h.annotation refl) ∙ defines_among (h ∷ rest) d y m own

noted_member : (d : Definition) (note : Annotation) (G : List Definition) (U : Scope) (pl : Place) → Alone G → Among d G → d.annotation ≡ Some note → NotedStage d note G U pl
noted_member d note [] U pl alone m is = absurd m
noted_member d note (h ∷ rest) U pl alone m is =
    let same : h ≡ d = alone d note m is h (inl refl) in
    let o : h.annotation ≡ Some note = ap (λ x. x.annotation) same ∙ is in record {
      scope = λ q. ap (λ z. stage_as z h rest U pl q) o;
      listed = λ q. ap (λ z. stage_list_as z h rest U q) o;
      items = ap (λ z. (list_as z h rest U pl).items) o ∙ ap (λ x. annotated_items x note U pl) same;
    }

member_solved : (G : List Definition) (R : Scope) (q : Place) (j : ℕ) (d : Definition) (g : Frame) → Solves g.values (flat_map (member_items R q) (enumerate_from 0 G)) → Among (j, d) (enumerate_from 0 G)
    → Solves g.values (d.list R (child q j) (at (child q j)))
member_solved G R q j d g sol m =
    solves_left g (d.list R (child q j) (at (child q j))) (Small d.place (at (child q j)) ∷ []) (flat_part (member_items R q) (enumerate_from 0 G) (j, d) g.values sol m)

pub each_at : (K : Known) (Gs : List (List Definition)) → ((k : ℕ) → AllNamed K (group_at Gs k)) → EachNamed K Gs
each_at K [] h = tt
each_at K (G ∷ Gs) h = (h 0, each_at K Gs (λ k. h (suc k)))

some_none : (Gs : List (List Definition)) (y : Ref) → ((k : ℕ) → adds (group_at Gs k) y ≡ false) → adds_some Gs y ≡ false
some_none [] y h = refl
some_none (G ∷ Gs) y h = or_not (adds G y) (adds_some Gs y) (h 0) (some_none Gs y (λ k. h (suc k)))

none_defined : (es : List Definition) (y : Ref) → ((d : Definition) → Among d es → among y d.names ≡ false) → defines es y ≡ false
none_defined [] y h = refl
none_defined (d ∷ es) y h = or_not (among y d.names) (defines es y) (h d (inl refl)) (none_defined es y (λ e m. h e (inr m)))

defined_none : (es : List Definition) (d : Definition) (y : Ref) → defines es y ≡ false → Among d es → among y d.names ≡ false
defined_none es d y e m = elim (yes_or_no (among y d.names)) [ inl own ↦ not_both (defines es y) (defines_among es d y m own) e | inr other ↦ other ]

-- ---- a `let`

module _ (W : World) (ds : List Definition) (S : Scope) (p : Place) (a : Frame) where
  abbrev written : List Definition
  written = in_written_order ds

  abbrev pub Hs : List (List Definition)
  Hs = type_groups written

  abbrev pub T : Scope
  T = with_names (annotated_names written S.constants) S

  -- the scope after all of it
  abbrev pub Last : Scope
  Last = last_scope Hs T

  abbrev pub let_stages : (Ref → Bool) → Stages
  let_stages V = stages S.known Hs T p 0 a V

  in_ds : (k : ℕ) (d : Definition) → Among d (group_at Hs k) → Among d ds
  in_ds k d m = among_written d ds (group_among written k d m)

  module _ (known : S.known ≡ S.known) (named : AllNamed S.known ds) where
    each_named : EachNamed S.known Hs
    each_named = each_at S.known Hs (λ k. all_from (Named S.known) (group_at Hs k) (λ d m. all_among (Named S.known) ds d named (in_ds k d m)))

    wide : Wider S Last
    wide = record {
      known = (last_alike Hs T).known;
      agree = λ f g agree.
          let b = agree_alike T Last f g (last_alike Hs T) agree in
          record { types = subst (AllByRecursion (λ t. of g t ≡ of f t)) (one_types_annotated written S.constants S.names) b.types; constants = b.constants };
    }

    not_added : (y : Ref) → defines ds y ≡ false → (k : ℕ) → adds (group_at Hs k) y ≡ false
    not_added y n k = elim (yes_or_no (adds (group_at Hs k) y)) [
      | inl t ↦ (let e = group_adder written k y t in not_both (among y e.0.names) e.2 (defined_none ds e.0 y n (in_ds k e.0 e.1)))
      | inr f ↦ f
    ]

    pub same_before : (y : Ref) → defines ds y ≡ false → entry_of Last y ≡ entry_of S y
    same_before y n =
        last_none S.known Hs T y each_named (some_none Hs y (not_added y n))
        ∙ found_right S (annotated_names written S.constants) y (no_annotation written S.constants y (none_defined written y (λ d m. defined_none ds d y n (among_written d ds m))))

    -- before the first group is bound
    pub fits_start : (env : Env) (U : Ref → Bool) → Fits W env U S a → Fits W env (λ y. defines ds y || U y) Last a
    fits_start env U fits =
        fits_transfer S a Last a W env U (λ y. defines ds y || U y) (last_alike Hs T).known (λ y n.
        let o = not_or (defines ds y) (U y) n in
        record { shown = o.1; carried = λ entry is. carried_same S a Last a y entry (sym (same_before y o.0) ∙ is) (agree_refl S a) wide }) fits

    module _ (apart : AreApart ds) (stands : Stands a) (sol : Solves a.values (list_groups Hs T p 0).items) (V : Ref → Bool) where
      abbrev s : Stages
      s = let_stages V

      -- at every stage the definition has its items solved, and its name a type that P holds of
      abbrev pub TypedAt : Definition → Ref → (Ground → Type 0) → Type 0
      TypedAt d x P =
          (k : ℕ) (q : Place) (g : Frame) → AtStage s k q g → Among d (group_at Hs k) → (place : Place) (v : Wanted)
          → Solves g.values (d.list (s.scopes k q) place v) → (t : Wanted) → at_name x (d.types S.known place v) ≡ Some (Mono t) → P (of g t)

      -- a name with an annotation has the type of its definition
      abbrev pub HasNoted : Definition → Ref → Type 0
      HasNoted d x = (note : Annotation) → d.annotation ≡ Some note → (known : Known) (place : Place) (v : Wanted) → at_name x (d.types known place v) ≡ Some (Mono v)

      stage_alone : (k : ℕ) → Alone (group_at Hs k)
      stage_alone k = λ d note m is e n. group_alone written k d note m is e n

      serve_general : (d : Definition) (x : Ref) (P : Ground → Type 0) → Among d ds → among x d.names ≡ true → TypedAt d x P → (k : ℕ) → adds (group_at Hs k) x ≡ true
          → Serves P (general (group_at Hs k) (scope_at Hs T k) x) Last a
      serve_general d x P in_let own typed k adding = λ q g stands_g agree sol_g.
          let G = group_at Hs k in
          let U = scope_at Hs T k in
          let pl = place_at Hs p 0 k in
          let st = plain_adding G U pl x adding in
          let names = named_at S.known Hs k each_named in
          let r = first_definer S.known G U.known q 0 x ((scope_alike Hs T k).known ∙ known) names (adds_defines G x adding) in
          let m : Among r.definition G = unnumbered G 0 r.number r.definition r.member in
          let same : r.definition ≡ d = one_definer ds r.definition d x apart (in_ds k r.definition m) in_let r.own own in
          let at_k : AtStage s k q g = record {
            stands = stands_g;
            agree = agree_alike T Last a g (last_alike Hs T) agree;
            solves = subst (Solves g.values) (sym (st.listed q)) sol_g;
          } in
          let whole = member_solved G (with_names (group_types G U.known q) U) q r.number r.definition g (solves_whole g.values (group_items G U q) sol_g) r.member in
          let body : Solves g.values (d.list (s.scopes k q) (child q r.number) (at (child q r.number))) =
          subst (λ z. Solves g.values (z.list (s.scopes k q) (child q r.number) (at (child q r.number)))) same
          (subst (λ R. Solves g.values (r.definition.list R (child q r.number) (at (child q r.number)))) (sym (st.scope q)) whole) in
          let here : at_name x (d.types S.known (child q r.number) (at (child q r.number))) ≡ Some (Mono r.type) =
          ap (λ z. at_name x (z.types S.known (child q r.number) (at (child q r.number)))) (sym same)
          ∙ (ap (λ n. at_name x (r.definition.types n (child q r.number) (at (child q r.number)))) (sym (scope_alike Hs T k).known) ∙ r.here) in
          subst (λ t. P (of g t)) (sym (definer_type S.known G U.known q x names r))
          (typed k q g at_k (subst (λ z. Among z G) same m) (child q r.number) (at (child q r.number)) body r.type here)

      -- the items of a definition with an annotation, in its own frame
      pub record Noted (d : Definition) (note : Annotation) : Type 0 where
        pub stage : ℕ
        pub member : Among d (group_at Hs stage)
        pub is : NotedStage d note (group_at Hs stage) (scope_at Hs T stage) (place_at Hs p 0 stage)

      noted_stage : (d : Definition) (note : Annotation) → Among d ds → d.annotation ≡ Some note → Noted d note
      noted_stage d note in_let is =
          let c = group_covers written d (written_among d ds in_let) in
          record { stage = c.0; member = c.1; is = noted_member d note (group_at Hs c.0) (scope_at Hs T c.0) (place_at Hs p 0 c.0) (stage_alone c.0) c.1 is }

      abbrev noted_type : (k : ℕ) → Annotation → Wanted
      noted_type k note =
          let U = scope_at Hs T k in
          let pl = place_at Hs p 0 k in
          fixed_type (own_constants U.constants pl note ++ U.constants) pl note

      noted_body : (d : Definition) (note : Annotation) (r : Noted d note)
          → (let U = scope_at Hs T r.stage in
          let pl = place_at Hs p 0 r.stage in
          Solves a.values (d.list (with_constants (own_constants U.constants pl note) U) (child pl 0) (noted_type r.stage note))
          × Solves a.values (map (λ c. Keeps d.place c.1 (outer_types U)) (own_constants U.constants pl note)))
      noted_body d note r =
          let U = scope_at Hs T r.stage in
          let pl = place_at Hs p 0 r.stage in
          let all : Solves a.values (annotated_items d note U pl) = subst (Solves a.values) r.is.items (listed_items Hs T p 0 a sol r.stage) in
          let inner = with_constants (own_constants U.constants pl note) U in
          let asked = annotation_items d.place note (fixed_variable inner.constants pl) in
          let own = d.list inner (child pl 0) (noted_type r.stage note) in
          let keeps = map (λ c. Keeps d.place c.1 (outer_types U)) (own_constants U.constants pl note) in
          let small = Small d.place (noted_type r.stage note) ∷ [] in
          let rest = solves_right a asked (own ++ (keeps ++ small)) all in
          (solves_left a own (keeps ++ small) rest, solves_left a keeps small (solves_right a own (keeps ++ small) rest))

      serve_noted : (d : Definition) (x : Ref) (P : Ground → Type 0) → Among d ds → HasNoted d x → TypedAt d x P → (note : Annotation) → d.annotation ≡ Some note
          → Serves P (Instance (scheme_inside S.constants note)) Last a
      serve_noted d x P in_let has typed note is = λ g choice stands_g agree chosen.
          let n = noted_stage d note in_let is in
          let k = n.stage in
          let U = scope_at Hs T k in
          let pl = place_at Hs p 0 k in
          let body = noted_body d note n in
          let same : U.constants ≡ S.constants = (scope_alike Hs T k).constants in
          let agree_u : Agree U a g = agree_alike U T a g (alike_back T U (scope_alike Hs T k)) (agree_alike T Last a g (last_alike Hs T) agree) in
          let r = instantiated U d.place pl note a g choice stands agree_u (subst (λ c. Chosen (scheme_inside c note) choice) (sym same) chosen) body.1 in
          let at_k : AtStage s k pl r.frame = record {
            stands = r.stands;
            agree = agree_alike T U a r.frame (scope_alike Hs T k) r.agree;
            solves = subst (Solves r.frame.values) (sym (n.is.listed pl)) tt;
          } in
          let there : Solves r.frame.values (d.list (s.scopes k pl) (child pl 0) (noted_type k note)) =
          subst (λ vs. Solves vs (d.list (s.scopes k pl) (child pl 0) (noted_type k note))) (sym r.values)
          (subst (λ R. Solves a.values (d.list R (child pl 0) (noted_type k note))) (sym (n.is.scope pl)) body.0) in
          subst P (r.is ∙ ap (λ c. ground_instance choice g (scheme_inside c note)) same)
          (typed k pl r.frame at_k n.member (child pl 0) (noted_type k note) there (noted_type k note) (has note is S.known (child pl 0) (noted_type k note)))

      -- what has the types of a definition's name serves the name's entry
      pub serve : (d : Definition) (x : Ref) (P : Ground → Type 0) → Among d ds → among x d.names ≡ true → HasNoted d x → TypedAt d x P → (entry : Entry) → entry_of Last x ≡ Some entry
          → Serves P entry Last a
      serve d x P in_let own has typed entry found = elim (last_adding S.known Hs T x known each_named) [
        | inr r ↦ (let z : Some (general (group_at Hs r.number) (scope_at Hs T r.number) x) ≡ Some entry = sym r.found ∙ found in
            let e : general (group_at Hs r.number) (scope_at Hs T r.number) x ≡ entry = cc in
            subst (λ o. Serves P o Last a) e (serve_general d x P in_let own typed r.number r.own))
        | inl none ↦ go d.annotation refl none
      ]
        where
          go : (o : Option Annotation) → d.annotation ≡ o → adds_some Hs x ≡ false → Serves P entry Last a
          go None is none =
              let c = group_covers written d (written_among d ds in_let) in
              not_both (adds (group_at Hs c.0) x) (adds_member d (group_at Hs c.0) x (stage_alone c.0) c.1 is own) (none_at Hs c.0 x none)
          go (Some note) is none =
              let one : (e : Definition) → Among e written → among x e.names ≡ true → e ≡ d = λ e m other. one_definer ds e d x apart (among_written e ds m) in_let other own in
              let noted : entry_of T x ≡ Some (Instance (scheme_inside S.constants note)) =
              found_left S (annotated_names written S.constants) x (Instance (scheme_inside S.constants note)) (annotated_entry written S.constants d note x one (written_among d ds in_let) own is) in
              let z : Some (Instance (scheme_inside S.constants note)) ≡ Some entry = sym (last_none S.known Hs T x each_named none ∙ noted) ∙ found in
              let e : Instance (scheme_inside S.constants note) ≡ entry = cc in
              subst (λ o. Serves P o Last a) e (serve_noted d x P in_let has typed note is)

      -- each definition has its items solved at some stage
      pub record Covered (d : Definition) : Type 0 where
        pub stage : ℕ
        pub at_place : Place
        pub at_stage : AtStage s stage at_place a
        pub member : Among d (group_at Hs stage)
        pub place : Place
        pub type : Wanted
        pub solves : Solves a.values (d.list (s.scopes stage at_place) place type)

      pub covered : (d : Definition) → Among d ds → Covered d
      covered d in_let = go d.annotation refl
        where
          go : (o : Option Annotation) → d.annotation ≡ o → Covered d
          go None is =
              let c = group_covers written d (written_among d ds in_let) in
              let G = group_at Hs c.0 in
              let U = scope_at Hs T c.0 in
              let pl = place_at Hs p 0 c.0 in
              let st = plain_member d G U pl (stage_alone c.0) c.1 is in
              let all : Solves a.values (group_items G U pl) = subst (Solves a.values) st.items (listed_items Hs T p 0 a sol c.0) in
              let n = numbered G 0 d c.1 in record {
                stage = c.0;
                at_place = pl;
                at_stage = record { stands = stands; agree = agree_refl T a; solves = subst (Solves a.values) (sym (st.listed pl)) (solves_copied a.values (group_items G U pl) all) };
                member = c.1;
                place = child pl n.0;
                type = at (child pl n.0);
                solves = subst (λ R. Solves a.values (d.list R (child pl n.0) (at (child pl n.0)))) (sym (st.scope pl)) (member_solved G (with_names (group_types G U.known pl) U) pl n.0 d a all n.1);
              }
          go (Some note) is =
              let n = noted_stage d note in_let is in
              let pl = place_at Hs p 0 n.stage in record {
                stage = n.stage;
                at_place = pl;
                at_stage = record { stands = stands; agree = agree_refl T a; solves = subst (Solves a.values) (sym (n.is.listed pl)) tt };
                member = n.member;
                place = child pl 0;
                type = noted_type n.stage note;
                solves = subst (λ R. Solves a.values (d.list R (child pl 0) (noted_type n.stage note))) (sym (n.is.scope pl)) (noted_body d note n).0;
              }

      -- ---- stages

      pub stage_transfer : (k : ℕ) (q : Place) (g : Frame) → AtStage s k q g → Transfer Last a (s.scopes k q) g V (s.hidden k)
      stage_transfer k q g st = transfer_stage S.known Hs T p 0 a V k q g known each_named st

      pub stage_fits : (env : Env) (k : ℕ) (q : Place) (g : Frame) → AtStage s k q g → Fits W env V Last a → Fits W env (s.hidden k) (s.scopes k q) g
      stage_fits env k q g st fits =
          fits_transfer Last a (s.scopes k q) g W env V (s.hidden k) (stage_wider S.known Hs T p 0 a V k q).known (stage_transfer k q g st) fits

      pub stage_free : (k : ℕ) (d : Definition) → Among d (group_at Hs k) → Without V d.uses → Without (s.hidden k) d.uses
      stage_free k d m free =
          without_from (s.hidden k) d.uses (λ y u. or_not (V y) (adds_after Hs k y) (among_ref (λ z. V z ≡ false) d.uses y free u) (group_uses written k d y m u))

      -- ---- functions

      abbrev function_definition : Title → Patterns → Expr → Definition
      function_definition title qs e = titled title (used e) (λ scope q v. function_items qs (items e) scope title.place q v)

      pub one_type_of : (x : Ref) (v t : Wanted) → at_name x ((x, Mono v) ∷ []) ≡ Some (Mono t) → v ≡ t
      one_type_of x v t e = go (same_ref x x) (ref_itself x) e
        where
          go : (b : Bool) → b ≡ true → cond b (Some (Mono v)) None ≡ Some (Mono t) → v ≡ t
          go true is f = (let z : Some (Mono v) ≡ Some (Mono t) = f in cc)
          go false is f = not_both false is refl

      pub title_noted : (title : Title) (uses : List Ref) (list : Scope → Place → Wanted → List Item) → HasNoted (titled title uses list) title.name
      title_noted title uses list note is known place v = ap (λ b. cond b (Some (Mono v)) None) (ref_itself title.name)

      pub title_own : (title : Title) → among title.name (title.name ∷ []) ≡ true
      title_own title = ap (λ b. if b then true else false) (ref_itself title.name)

      pub functions_serve : (fs : Functions) (h : Ref → Bool) → ((d : Definition) → Among d (function_definitions fs) → Among d ds) → SimpleFunctions W fs → Without V (used_functions fs)
          → Members W s fs h Last a
      functions_serve NoFunction h inside simple free = tt
      functions_serve (MoreFunction title qs e fs) h inside simple free = (
        (λ n. (
          simple.0,
          λ entry is.
              serve (function_definition title qs e) title.name (Lists W s qs e) (inside (function_definition title qs e) (inl refl)) (title_own title)
              (title_noted title (used e) (λ scope q v. function_items qs (items e) scope title.place q v)) (λ k q g st m place v solved t named_t. record {
                stage = k;
                at_place = q;
                frame = g;
                at_stage = st;
                here = title.place;
                place = place;
                type = v;
                solves = solved;
                is = ap (of g) (one_type_of title.name v t named_t);
                is_checked = record { checked = simple.1; free = stage_free k (function_definition title qs e) m (all_left (λ y. V y ≡ false) (used e) (used_functions fs) free) };
              }) entry is,
        )),
        functions_serve fs (or_named title.name h) (λ d m. inside d (inr m)) simple.2 (all_right (λ y. V y ≡ false) (used e) (used_functions fs) free),
      )

      pub functions_fit : (fs : Functions) (env : Env) → ((d : Definition) → Among d (function_definitions fs) → Among d ds) → SimpleFunctions W fs → Without V (used_functions fs)
          → Fits W env (hides fs V) Last a → Fits W (BindGroup fs env) V Last a
      functions_fit fs env inside simple free rest =
          let members = functions_serve fs V inside simple free in record {
            stages = s;
            members = members;
            rest = rest;
            closing = λ k q g st.
                let R = s.scopes k q in
                let t = stage_transfer k q g st in (
                  members_transfer Last a R g W s fs V (s.hidden k) t members,
                  fits_transfer Last a R g W env (hides fs V) (hides fs (s.hidden k)) (stage_wider S.known Hs T p 0 a V k q).known (transfer_all Last a R g fs V (s.hidden k) t) rest,
                );
          }
