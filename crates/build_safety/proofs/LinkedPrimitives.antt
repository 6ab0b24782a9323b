-- What a program has of the core, and what stands before its modules: `have_primitives`, `are_elsewhere`.
use Rattle.std.proofs.Common.{◌≡◌, ℕ, ◌+◌, List, [], ◌∷◌, ◌++◌, length, Bool, true, false, inl, inr, refl, sym}
use Rattle.std.proofs.Common.{◌∙◌, subst, ◌⊎◌, ⊎_elim, append_assoc}
use Rattle.std.specs.Prelude.{◌||◌, if◌then◌else◌}
use Rattle.std.specs.List.{AllByRecursion, list_any}
use Rattle.std.proofs.lemmas.Bool.{false≢true}
use Rattle.elm_canon.specs.Names.{Name, same_name, same_ref}
use Rattle.elm_canon.specs.declared.reference.Ref.{Ref}
use Rattle.elm_canon.specs.declared.reference.Ref.TheVariants.{Local, Top}
use Rattle.elm_canon.specs.Tree.{Declaration}
use Rattle.elm_meaning.specs.Functions.{Primitive}
use Rattle.elm_meaning.specs.Run.{Program}
use Rattle.elm_canon.specs.Proper.{among}
use Rattle.module_proper.specs.Laws.{Meets}
use Rattle.module_proper.proofs.Modules.{modules_meet}
use Rattle.canon_env.proofs.Adding.{same_name-sym}
use Rattle.canon_proper.proofs.Scopes.{name_itself}
use Rattle.link.specs.Reached.{kept}
use Rattle.link.specs.Programs.{declarations_in, reached_items, program_of}
use Rattle.type_items.specs.Expressions.{definitions}
use Rattle.typed_values.specs.World.{World, Among}
use Rattle.typed_values.specs.Simple.{defines}
use Rattle.typed_values.proofs.Names.{same_refs}
use Rattle.type_safety.specs.Modules.{groups_in, given_in}
use Rattle.program_safety.specs.Parts.{Part, AreSome, IsOf, IsNotOf, IsEarlier, IsPrimitiveName, ArePrimitives}
use Rattle.program_safety.specs.Parts.{bound_with}
use Rattle.program_safety.specs.Parts.{primitive_names}
use Rattle.project_proper.specs.Resolved.{Resolved, HomesApart}
use Rattle.build_safety.specs.Compiled.{Compiled, home_of, resolved_of, AreModules}
use Rattle.build_safety.specs.Told.{told}
use Rattle.build_safety.proofs.Among.{is_next}
use Rattle.build_safety.specs.Placed.{any_values, piece_part}
use Rattle.build_safety.specs.LinkedPieces.{items, pieces, linked_pieces, linked_program}
use Rattle.build_safety.proofs.LinkedItems.{piece_some}
use Rattle.build_safety.proofs.ToldPrimitives.{primitives_are_told}
use Rattle.typed_values.specs.Sample.{sample}
use Rattle.elm_canon.specs.Mentions.{anything, IsOfModule, DeclarationMentions}
use Rattle.decl_groups.proofs.Reaching.{or_cases}
use Rattle.elm_canon.specs.Tree.{Group, Together, Constant, Destructure, Given, Define}
use Rattle.elm_canon.specs.Proper.{bound_by, function_names, group_names}
use Rattle.type_items.specs.Expressions.{group_definitions}
use Rattle.type_items.specs.Scopes.{Known}
use Rattle.told_modules.proofs.Names.{functions_named, defines_either}
use Rattle.told_modules.proofs.Uses.{among_either}
use Rattle.build_safety.specs.LinkedPrimitives.{AreElsewhere, LinksHavePrimitives, LinksAreElsewhere}
use Rattle.build_safety.proofs.LinkedCores.{Comes, kept_comes}

abbrev Named : Type 0
Named = Ref × Primitive

all_from : (P : Named → Type 0) (qs : List Named) → ((q : Named) → Among q qs → P q) → AllByRecursion P qs
all_from P [] f = tt
all_from P (q ∷ qs) f = (f q (inl refl), all_from P qs (λ r a. f r (inr a)))

one_named : (qs : List Named) (y : Ref) → primitive_names qs y ≡ true → (q : Named) × Among q qs × (y ≡ q.0)
one_named [] y e = absurd (false≢true e)
one_named (q ∷ qs) y e = by (same_ref y q.0) refl e (one_named qs y)
  where
    by : (b : Bool) → same_ref y q.0 ≡ b → (b || primitive_names qs y) ≡ true →
        (primitive_names qs y ≡ true → (r : Named) × Among r qs × (y ≡ r.0)) →
        (r : Named) × Among r (q ∷ qs) × (y ≡ r.0)
    by true s f rest = (q, inl refl, same_refs y q.0 s)
    by false s f rest = (let r = rest f in (r.0, inr r.1, r.2))

-- ---- homes

or_parts : (b c : Bool) → (b || c) ≡ false → (b ≡ false) × (c ≡ false)
or_parts true c e = absurd cc
or_parts false c e = (refl, e)

-- modules at two places have different names
none_after : (x : Name) (before : List Compiled) (c : Compiled) (after : List Compiled) →
    list_any (λ (q : Resolved). same_name x q.setting.home) (resolved_of (before ++ c ∷ after)) ≡ false →
    same_name x (home_of c) ≡ false
none_after x [] c after e = (or_parts (same_name x (home_of c)) _ e).0
none_after x (d ∷ before) c after e = none_after x before c after (or_parts (same_name x (home_of d)) _ e).1

all_meet : Meets anything
all_meet = record { tuples = λ n. tt; nil = tt; cons = tt }

module _ (cs : List Compiled) (all : AreModules cs) where
  module _ (w : World) (entry : Compiled) where
    -- ---- the functions of the core

    one_primitive : (q : Named) → Comes cs q → IsPrimitiveName w (told cs) q
    one_primitive q r =
        subst (λ ds. IsPrimitiveName w (told ds) q) r.parted
        (primitives_are_told w r.before r.by r.after any_values [] q.0 q.1 (subst AreModules (sym r.parted) all)
        r.core).0

    pub primitives : ArePrimitives w (told cs) (linked_program cs entry).primitives
    unfolding program_of reached_items
    primitives = all_from (IsPrimitiveName w (told cs)) _ (λ q a. one_primitive q (kept_comes _ cs q a))

-- ---- what declarations bind is of their module

module _ (home : Name) where
  abbrev Own : Declaration → Type 0
  Own d = DeclarationMentions anything anything home d

  one_own : (xs : List Ref) (y : Ref) → AllByRecursion (IsOfModule home) xs → among y xs ≡ true → IsOf home y
  one_own [] y h e = absurd (false≢true e)
  one_own (x ∷ xs) y h e = by (same_ref y x) refl e (one_own xs y h.1)
    where
      by : (b : Bool) → same_ref y x ≡ b → (if b then true else among y xs) ≡ true →
          (among y xs ≡ true → IsOf home y) → IsOf home y
      by true s f rest = as_of y (subst (IsOfModule home) (sym (same_refs y x s)) h.0)
        where
          as_of : (y : Ref) → IsOfModule home y → IsOf home y
          as_of (Local x) k = absurd k
          as_of (Top m x) k = k
      by false s f rest = rest f

  group_own : (g : Group) → AllByRecursion (IsOfModule home) (group_names g) → (y : Ref) →
      defines (group_definitions g) y ≡ true → IsOf home y
  group_own (Together fs) h y e = one_own (function_names fs) y h (functions_named fs y e)
  group_own (Constant title b) h y e = one_own (title.name ∷ []) y h (first (among y (title.name ∷ [])) e)
    where
      first : (b : Bool) → (b || false) ≡ true → b ≡ true
      first true f = refl
      first false f = f
  group_own (Destructure q b) h y e = one_own (bound_by q) y h (first (among y (bound_by q)) e)
    where
      first : (b : Bool) → (b || false) ≡ true → b ≡ true
      first true f = refl
      first false f = f

  defined_own : (ds : List Declaration) → AllByRecursion Own ds → (y : Ref) →
      defines (definitions (groups_in ds)) y ≡ true → IsOf home y
  defined_own [] h y e = absurd (false≢true e)
  defined_own (Given r k ∷ ds) h y e = defined_own ds h.1 y e
  defined_own (Define g ∷ ds) h y e =
      ⊎_elim (group_own g h.0.0 y) (defined_own ds h.1 y)
      (defines_either (group_definitions g) (definitions (groups_in ds)) y e)

  given_own : (ds : List Declaration) → AllByRecursion Own ds → (y : Ref) → among y (given_in ds) ≡ true → IsOf home y
  given_own [] h y e = absurd (false≢true e)
  given_own (Given r k ∷ ds) h y e =
      ⊎_elim (one_own (r ∷ []) y (h.0, tt)) (given_own ds h.1 y) (among_either (r ∷ []) (given_in ds) y e)
  given_own (Define g ∷ ds) h y e = given_own ds h.1 y e

  bound_own : (ds : List Declaration) → AllByRecursion Own ds → (y : Ref) →
      (among y (given_in ds) || defines (definitions (groups_in ds)) y) ≡ true → IsOf home y
  bound_own ds h y e =
      ⊎_elim (given_own ds h y) (defined_own ds h y)
      (or_cases (among y (given_in ds)) (defines (definitions (groups_in ds)) y) e)

-- what holds of all declarations holds of some of them
some_hold : (P : Declaration → Type 0) (ds es : List Declaration) → AreSome ds es → AllByRecursion P es →
    AllByRecursion P ds
some_hold P [] es s h = tt
some_hold P (d ∷ ds) [] s h = absurd s
some_hold P (d ∷ ds) (e ∷ es) (inl s) h = (subst P (sym s.0) h.0, some_hold P ds es s.1 h.1)
some_hold P (d ∷ ds) (e ∷ es) (inr s) h = some_hold P (d ∷ ds) es s h.1

-- a module before another has another name
apart_before : (before : List Compiled) (c : Compiled) (after : List Compiled) →
    HomesApart (resolved_of (before ++ c ∷ after)) → (d : Compiled) → Among d before →
    same_name (home_of d) (home_of c) ≡ false
apart_before [] c after h d a = absurd a
apart_before (e ∷ before) c after h d (inl k) =
    subst (λ (z : Compiled). same_name (home_of z) (home_of c) ≡ false) (sym k)
    (none_after (home_of e) before c after h.0)
apart_before (e ∷ before) c after h d (inr a) = apart_before before c after h.1 d a

-- modules of one name are one module
one_module : (before : List Compiled) (c : Compiled) (after others : List Compiled) (d : Compiled)
    (rest : List Compiled) → HomesApart (resolved_of (before ++ c ∷ after)) →
    before ++ c ∷ after ≡ others ++ d ∷ rest → same_name (home_of c) (home_of d) ≡ true → c ≡ d
one_module [] c after [] d rest h e s = cc
one_module [] c after (f ∷ others) d rest h e s =
    let first : c ≡ f = cc in
    let later : after ≡ others ++ d ∷ rest = cc in
    absurd (false≢true (sym (none_after (home_of c) others d rest
    (subst (λ ds. list_any (λ (q : Resolved). same_name (home_of c) q.setting.home) (resolved_of ds) ≡ false) later
    h.0))
    ∙ s))
one_module (f ∷ before) c after [] d rest h e s =
    let first : f ≡ d = cc in
    absurd (false≢true (sym (none_after (home_of f) before c after h.0)
    ∙ (same_name-sym (home_of f) (home_of c)
    ∙ subst (λ (z : Compiled). same_name (home_of c) (home_of z) ≡ true) (sym first) s)))
one_module (f ∷ before) c after (g ∷ others) d rest h e s =
    let later : before ++ c ∷ after ≡ others ++ d ∷ rest = cc in one_module before c after others d rest h.1 later s

not_of : (home : Name) (m : Name) (y : Ref) → IsOf m y → same_name m home ≡ false → IsNotOf home y
not_of home m (Local x) o n = tt
not_of home m (Top k x) o n =
    λ e. false≢true (sym n ∙ subst (λ z. same_name z home ≡ true) o
    (subst (λ z. same_name k z ≡ true) e (name_itself k)))

earlier_own : (known : Known) (p : Part) (y : Ref) → IsEarlier known p y → IsOf p.module_.name y
earlier_own known p (Local x) h = h
earlier_own known p (Top m x) h = h.own

module _ (cs : List Compiled) (all : AreModules cs) (qs : List Named)
    (come : (q : Named) → Among q qs → Comes cs q) where
  -- what is bound is one of the functions, or of a module before
  abbrev AreSorted : List Compiled → (Ref → Bool) → Type 0
  AreSorted before bound =
      (y : Ref) → bound y ≡ true →
      (primitive_names qs y ≡ true) ⊎ (d : Compiled) × Among d before × IsOf (home_of d) y

  name_is : (before : List Compiled) (c : Compiled) (after : List Compiled) → before ++ c ∷ after ≡ cs →
      c.resolved.whole.name ≡ home_of c
  name_is before c after e = (is_next before c after (subst AreModules (sym e) all)).is.name

  -- a function of the core is of another module, or one of this
  core_elsewhere : (before : List Compiled) (c : Compiled) (after : List Compiled) (e : before ++ c ∷ after ≡ cs)
      (ds : List Declaration) (y : Ref) → primitive_names qs y ≡ true →
      IsNotOf c.resolved.whole.name y ⊎ IsEarlier (told cs) (piece_part (c, ds)) y
  core_elsewhere before c after e ds y b =
      let n = one_named qs y b in
      let r = come n.0 n.1 in
      let earlier : IsEarlier (told cs) (piece_part (r.by, ds)) n.0.0 =
      subst (λ zs. IsEarlier (told zs) (piece_part (r.by, ds)) n.0.0) r.parted
      (primitives_are_told sample r.before r.by r.after any_values ds n.0.0 n.0.1
      (subst AreModules (sym r.parted) all) r.core).1 in
      by r (subst (λ z. IsEarlier (told cs) (piece_part (r.by, ds)) z) (sym n.2) earlier)
      (same_name (home_of c) (home_of r.by)) refl
    where
      by : {q : Named} (r : Comes cs q) → IsEarlier (told cs) (piece_part (r.by, ds)) y → (b : Bool) →
          same_name (home_of c) (home_of r.by) ≡ b →
          IsNotOf c.resolved.whole.name y ⊎ IsEarlier (told cs) (piece_part (c, ds)) y
      by r h true s =
          inr (subst (λ (z : Compiled). IsEarlier (told cs) (piece_part (z, ds)) y)
          (sym (one_module before c after r.before r.by r.after
          (subst (λ zs. HomesApart (resolved_of zs)) (sym e) all.resolved.apart) (e ∙ sym r.parted) s)) h)
      by r h false s =
          inl (not_of c.resolved.whole.name r.by.resolved.whole.name y
          (earlier_own (told cs) (piece_part (r.by, ds)) y h)
          (subst (λ z. same_name r.by.resolved.whole.name z ≡ false) (sym (name_is before c after e))
          (subst (λ z. same_name z (home_of c) ≡ false) (sym (name_is r.before r.by r.after r.parted))
          (same_name-sym (home_of r.by) (home_of c) ∙ s))))

  mentions : (before : List Compiled) (c : Compiled) (after : List Compiled) → before ++ c ∷ after ≡ cs →
      AllByRecursion (Own (home_of c)) c.resolved.whole.declarations
  mentions before c after e =
      modules_meet anything anything c.resolved.setting c.resolved.written c.resolved.whole all_meet
      (is_next before c after (subst AreModules (sym e) all)).is (λ x home u k f. tt) (λ x home u k f. tt)

  last_among : (before : List Compiled) (c : Compiled) → Among c (before ++ c ∷ [])
  last_among [] c = inl refl
  last_among (d ∷ before) c = inr (last_among before c)

  still_among : (before : List Compiled) (c d : Compiled) → Among d before → Among d (before ++ c ∷ [])
  still_among [] c d a = absurd a
  still_among (e ∷ before) c d (inl h) = inl h
  still_among (e ∷ before) c d (inr h) = inr (still_among before c d h)

  module _ (test : ℕ → Bool) where
    elsewhere : (n : ℕ) (before after : List Compiled) (bound : Ref → Bool) → before ++ after ≡ cs →
        AreSorted before bound → AreElsewhere (told cs) bound (pieces test n after)
    elsewhere n before [] bound e sorted = tt
    elsewhere n before (c ∷ after) bound e sorted =
        let ds = declarations_in (kept test n (items c)) in
        let own =
        some_hold (Own (home_of c)) ds c.resolved.whole.declarations (piece_some test n c)
        (mentions before c after e) in (
          λ y b. ⊎_elim (core_elsewhere before c after e ds y)
              (λ r. inl (not_of c.resolved.whole.name (home_of r.0) y r.2
              (subst (λ z. same_name (home_of r.0) z ≡ false) (sym (name_is before c after e))
              (apart_before before c after (subst (λ zs. HomesApart (resolved_of zs)) (sym e) all.resolved.apart) r.0
              r.1)))) (sorted y b),
          elsewhere (n + length (items c)) (before ++ c ∷ []) after (bound_with ds bound)
              (append_assoc before (c ∷ []) after ∙ e)
              (λ y b. ⊎_elim
              (λ h. ⊎_elim inl (λ r. inr (r.0, still_among before c r.0 r.1, r.2)) (sorted y h))
              (λ h. inr (c, last_among before c, bound_own (home_of c) ds own y h))
              (or_cases (bound y) (among y (given_in ds) || defines (definitions (groups_in ds)) y) b)),
        )

module _ (cs : List Compiled) (entry : Compiled) (all : AreModules cs) where
  abbrev p : Program
  p = linked_program cs entry

  come_from : (q : Named) → Among q p.primitives → Comes cs q
  unfolding program_of reached_items
  come_from q a = kept_comes _ cs q a

  pub are_elsewhere : AreElsewhere (told cs) (primitive_names p.primitives)
      (linked_pieces cs entry.resolved.whole.name)
  are_elsewhere = elsewhere cs all p.primitives come_from _ 0 [] cs (primitive_names p.primitives) refl (λ y b. inl b)

pub have_primitives : LinksHavePrimitives
have_primitives w cs entry all = primitives cs all w entry

pub elsewhere_law : LinksAreElsewhere
elsewhere_law cs entry all = are_elsewhere cs entry all
