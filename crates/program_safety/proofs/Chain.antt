-- Modules in turn: what they bind serves what they tell.
use Rattle.std.proofs.Common.{◌≡◌, ℕ, List, [], ◌∷◌, ◌++◌, Bool, true, false, Option, Some, None, ◌⊎◌, inl, inr, refl, sym, ap, ◌∙◌, subst}
use Rattle.std.specs.Prelude.{◌||◌, ◌&&◌, not, if◌then◌else◌}
use Rattle.std.specs.List.{AllByRecursion}
use Rattle.std.specs.Option.{option_map}
use Rattle.std.specs.Str.{bytes_eq}
use Rattle.std.proofs.lemmas.Slice.Eq.{bytes_eq-Decides}
use Rattle.runs.specs.Ends.{End, Val, Crashed, OutOfFuel, Unsafe, Stuck, then_do}
use Rattle.elm_canon.specs.Names.{Name, same_ref}
use Rattle.elm_canon.specs.declared.reference.Ref.{Ref}
use Rattle.elm_canon.specs.declared.reference.Ref.TheVariants.{Local, Top}
use Rattle.elm_canon.specs.Tree.{Declaration, Given, Define, Module}
use Rattle.elm_canon.specs.Proper.{among}
use Rattle.elm_meaning.specs.Functions.{Primitive, Core}
use Rattle.elm_meaning.specs.Functions as functions
use Rattle.elm_meaning.specs.Values.{KnownV, NoValue, Env, Nil, Bind}
use Rattle.elm_meaning.specs.Primitives.{known}
use Rattle.elm_meaning.specs.Eval.{Call, call_at, group_with}
use Rattle.elm_meaning.specs.Run.{with_primitives, declare_with}
use Rattle.elm_type.specs.Types.{Scheme}
use Rattle.elm_type.specs.Classes.{Ground}
use Rattle.type_items.specs.Scopes.{Entry, Mono, Instance, General, Known, Scope, elsewhere, entry_of}
use Rattle.type_items.specs.Definitions.{Definition, in_written_order}
use Rattle.type_items.specs.Expressions.{definitions, group_definitions}
use Rattle.std.specs.Map.{lookup as entry_at}
use Rattle.type_items.specs.Annotations.{annotation_scheme}
use Rattle.type_items.specs.Modules.{declared, known_in, module_scope, module_definitions}
use Rattle.typed_values.specs.Frames.{Frame, of, Stands, Agree, Serves, Chosen, ground_instance}
use Rattle.typed_values.specs.World.{World, KnownIn, Among, IsSound}
use Rattle.typed_values.specs.Simple.{Without, defines, AreApart}
use Rattle.typed_values.specs.Typed.{EndsWell, or_named, Has, Fits}
use Rattle.typed_values.specs.Sample.{sample_frame}
use Rattle.typed_values.proofs.Names.{not_both, not_or, same_refs}
use Rattle.typed_values.proofs.Envs.{agree_refl}
use Rattle.typed_values.proofs.SampleFrame.{sample_stands}
use Rattle.type_safety.proofs.Sound.{steps_keep_types}
use Rattle.type_safety.specs.Modules.{groups_in, given_in, scope_after}
use Rattle.type_safety.proofs.Modules.{given_serves, declared_definitions}
use Rattle.type_safety.proofs.Stagings.{AllNamed, listed_scope, last_alike, alike_back, agree_alike}
use Rattle.type_safety.proofs.Lets.{one_types_annotated, Hs, T, Last, same_before, among_append, among_front}
use Rattle.type_safety.proofs.Transfers.{Carried, Transfer, fits_carried, fits_shown}
use Rattle.type_safety.proofs.Progress.{then_well, part_from, top_named}
use Rattle.program_safety.specs.Parts.{Part, IsOf, IsNotOf, AreSome, IsInstanceOf, bound_with, none_but, IsPart}
use Rattle.program_safety.specs.Parts.{AreParts, all_declared, bound_after, ArePrimitives, primitive_names}

-- the scope of what is told, and a frame for it
abbrev pub told_scope : Known → Scope
told_scope told = record { known = told; names = []; constants = [] }

-- ---- tests

not_false : (b : Bool) → not b ≡ false → b ≡ true
not_false true e = refl
not_false false e = absurd (let z : true ≡ false = e in cc)

not_true : (b : Bool) → b ≡ true → not b ≡ false
not_true true e = refl
not_true false e = absurd (let z : false ≡ true = e in cc)

pub none_bound : (bound : Ref → Bool) (y : Ref) → bound y ≡ true → none_but bound y ≡ false
none_bound bound (Local x) e = refl
none_bound bound (Top h x) e = not_true (bound (Top h x)) e

or_split : (a b : Bool) → (a || b) ≡ true → (a ≡ true) ⊎ (b ≡ true)
or_split true b e = inl refl
or_split false b e = inr e

or_left : (a b : Bool) → a ≡ true → (a || b) ≡ true
or_left a b e = ap (λ c. c || b) e

or_right : (a b : Bool) → b ≡ true → (a || b) ≡ true
or_right true b e = refl
or_right false b e = e

of_one : {X : Type 0} (home : Name) (y : Ref) → IsOf home y → IsNotOf home y → X
of_one home (Local x) o n = absurd o
of_one home (Top m x) o n = absurd (n o)

-- ---- definitions of some declarations

some_defined : (ds es : List Declaration) → AreSome ds es → (d : Definition) → Among d (definitions (groups_in ds)) → Among d (definitions (groups_in es))
some_defined [] es s d m = absurd m
some_defined (x ∷ ds) [] s d m = absurd s
some_defined (x ∷ ds) (Given y k ∷ es) (inr s) d m = some_defined (x ∷ ds) es s d m
some_defined (x ∷ ds) (Define g ∷ es) (inr s) d m = among_append d (group_definitions g) (definitions (groups_in es)) (some_defined (x ∷ ds) es s d m)
some_defined (x ∷ ds) (e ∷ es) (inl s) d m = go e (λ k. some_defined ds es s.1 d k) (subst (λ z. Among d (definitions (groups_in (z ∷ ds)))) s.0 m)
  where
    split : (xs ys : List Definition) → Among d (xs ++ ys) → Among d xs ⊎ Among d ys
    split [] ys k = inr k
    split (z ∷ zs) ys (inl is) = inl (inl is)
    split (z ∷ zs) ys (inr k) = elim (split zs ys k) [ inl a ↦ inl (inr a) | inr b ↦ inr b ]

    go : (e : Declaration) → (Among d (definitions (groups_in ds)) → Among d (definitions (groups_in es))) → Among d (definitions (groups_in (e ∷ ds))) → Among d (definitions (groups_in (e ∷ es)))
    go (Given y k) again n = again n
    go (Define g) again n = elim (split (group_definitions g) (definitions (groups_in ds)) n) [
      | inl a ↦ among_front d (group_definitions g) (definitions (groups_in es)) a
      | inr b ↦ among_append d (group_definitions g) (definitions (groups_in es)) (again b)
    ]

pub definer : (ds : List Definition) (y : Ref) → defines ds y ≡ true → (d : Definition) × Among d ds × (among y d.names ≡ true)
definer [] y e = not_both false e refl
definer (d ∷ ds) y e = elim (or_split (among y d.names) (defines ds y) e) [
  | inl own ↦ (d, inl refl, own)
  | inr other ↦ (let r = definer ds y other in (r.0, inr r.1, r.2))
]

defined_by : (ds : List Definition) (d : Definition) (y : Ref) → Among d ds → among y d.names ≡ true → defines ds y ≡ true
defined_by [] d y m e = absurd m
defined_by (f ∷ fs) d y (inl is) e = or_left (among y f.names) (defines fs y) (ap (λ z. among y z.names) (sym is) ∙ e)
defined_by (f ∷ fs) d y (inr m) e = or_right (among y f.names) (defines fs y) (defined_by fs d y m e)

-- ---- entries

-- a scheme that is known of a name, as its entry
record ToldEntry (K : Known) (y : Ref) (entry : Entry) : Type 0 where
  pub home : Name
  pub name : Name
  pub scheme : Scheme
  pub name_is : y ≡ Top home name
  pub told_is : K home name ≡ Some scheme
  pub is : entry ≡ Instance scheme

told_instance : (K : Known) (y : Ref) (entry : Entry) → elsewhere K y ≡ Some entry → ToldEntry K y entry
told_instance K (Local x) entry e = absurd (let z : None ≡ Some entry = e in cc)
told_instance K (Top h x) entry e = go (K h x) refl e
  where
    go : (o : Option Scheme) → K h x ≡ o → option_map (λ s. Instance s) o ≡ Some entry → ToldEntry K (Top h x) entry
    go None is f = absurd (let z : None ≡ Some entry = f in cc)
    go (Some s) is f = (let z : Some (Instance s) ≡ Some entry = f in let q : Instance s ≡ entry = cc in
        record { home = h; name = x; scheme = s; name_is = refl; told_is = is; is = sym q })

instance_carried : (S T : Scope) (f g : Frame) (y : Ref) (s : Scheme) → entry_of S y ≡ Some (Instance s) → ((k : Frame) → Agree S f k) → Carried S f T g y (Instance s)
instance_carried S T f g y s is plain =
    record { other = Instance s; is = is; serves = λ P h k choice stands agree chosen. h k choice stands (plain k) chosen }

pub map_ends : {X : Type 0} (P Q : X → Type 0) (o : End X) → EndsWell P o → ((x : X) → P x → Q x) → EndsWell Q o
map_ends P Q (Val x) h k = k x h
map_ends P Q (Crashed us) h k = tt
map_ends P Q OutOfFuel h k = tt
map_ends P Q Unsafe h k = tt
map_ends P Q Stuck h k = absurd h

-- ---- names of the core

module _ (w : World) (told : Known) where
  abbrev S0 : Scope
  S0 = told_scope told

  primitives_fit : (ps : List (Ref × Primitive)) (env : Env) (h k : Ref → Bool) → ((y : Ref) → k y ≡ false → (primitive_names ps y ≡ true) ⊎ (h y ≡ false)) → ArePrimitives w told ps
      → Fits w env h S0 sample_frame → Fits w (with_primitives ps env) k S0 sample_frame
  primitives_fit [] env h k less are f =
      fits_shown w env h k S0 sample_frame (λ y n. elim (less y n) [ inl e ↦ not_both false e refl | inr e ↦ e ]) (agree_refl S0 sample_frame) f
  primitives_fit (p ∷ ps) env h k less are f =
      let inner : Ref → Bool = λ y. h y && not (same_ref y p.0) in
      primitives_fit ps (Bind p.0 (KnownV (Core p.1) NoValue) env) inner k (λ y n. elim (less y n) [
        | inl e ↦ elim (or_split (same_ref y p.0) (primitive_names ps y) e) [ inl own ↦ inr (second (h y) (not_true (same_ref y p.0) own)) | inr other ↦ inl other ]
        | inr e ↦ inr (ap (λ b. b && not (same_ref y p.0)) e)
      ]) are.1 (
        λ n entry found.
            let q = are.0 in
            let is : entry_of S0 p.0 ≡ Some (Instance q.scheme) = ap (elsewhere told) q.name_is ∙ ap (λ o. option_map (λ s. Instance s) o) q.told_is in
            let e : Instance q.scheme ≡ entry = (let z : Some (Instance q.scheme) ≡ Some entry = sym is ∙ found in cc) in
            subst (λ o. Serves (λ g. Has w (KnownV (Core p.1) NoValue) g) o S0 sample_frame) e
            (λ g choice stands agree chosen. ([], q.knows g choice stands chosen, tt)),
        fits_shown w env h (or_named p.0 inner) S0 sample_frame (λ y n.
            let o = not_or (same_ref y p.0) (inner y) n in
            first (h y) (not (same_ref y p.0)) o.1 (ap not o.0)) (agree_refl S0 sample_frame) f,
      )
    where
      second : (b : Bool) {c : Bool} → c ≡ false → (b && c) ≡ false
      second true e = e
      second false e = refl

      first : (b c : Bool) → (b && c) ≡ false → c ≡ true → b ≡ false
      first true c e f = not_both c f e
      first false c e f = refl

-- ---- one module

module _ (w : World) (sound : IsSound w) (told : Known) (known_told : KnownIn w told) (before : Ref → Bool) (t : Part) (is_part : IsPart w told before t) where
  abbrev m : Module
  m = t.module_

  abbrev ds : List Declaration
  ds = t.declared

  abbrev es : List Definition
  es = module_definitions m

  abbrev a : Frame
  a = record { values = t.values; stands = sample_frame.stands }

  a_stands : Stands a
  a_stands = record { classes = sample_stands.classes; rests = sample_stands.rests }

  abbrev S : Scope
  S = module_scope m told

  abbrev U : Ref → Bool
  U = none_but (bound_with ds before)

  -- what is hidden before its declarations are bound
  abbrev unbound : Ref → Bool
  unbound y = defines (definitions (groups_in ds)) y || (among y (given_in ds) || U y)

  same : es ≡ definitions (groups_in m.declarations)
  same = declared_definitions m.declarations

  inside : (d : Definition) → Among d (definitions (groups_in ds)) → Among d es
  inside d k = subst (Among d) (sym same) (some_defined ds m.declarations is_part.some d k)

  defined_here : (y : Ref) → defines (definitions (groups_in ds)) y ≡ true → defines es y ≡ true
  defined_here y e = (let r = definer (definitions (groups_in ds)) y e in defined_by es r.0 y (inside r.0 r.1) r.2)

  own : (y : Ref) → defines es y ≡ true → IsOf m.name y
  own y e = is_part.own y (ap (λ z. defines z y) (sym same) ∙ e)

  given_of : (xs : List Ref) (y : Ref) → AllByRecursion (IsOf m.name) xs → among y xs ≡ true → IsOf m.name y
  given_of [] y h e = not_both false e refl
  given_of (x ∷ xs) y h e = go (same_ref y x) refl e (given_of xs y h.1)
    where
      go : (b : Bool) → same_ref y x ≡ b → (if b then true else among y xs) ≡ true → (among y xs ≡ true → IsOf m.name y) → IsOf m.name y
      go true is f again = subst (IsOf m.name) (sym (same_refs y x is)) h.0
      go false is f again = again f

  -- what is of another module the module does not define
  past : (y : Ref) → IsNotOf m.name y → defines es y ≡ false
  past y n = go (defines es y) refl
    where
      go : (b : Bool) → defines es y ≡ b → b ≡ false
      go true is = of_one m.name y (own y is) n
      go false is = refl

  -- of other modules the scope knows what is told
  known_else : (y : Ref) → IsNotOf m.name y → entry_of S y ≡ entry_of (told_scope told) y
  known_else (Local x) n = refl
  known_else (Top k x) n = go (bytes_eq k m.name) refl
    where
      go : (b : Bool) → bytes_eq k m.name ≡ b → option_map (λ s. Instance s) (known_in m told k x) ≡ option_map (λ s. Instance s) (told k x)
      go true e = absurd (n ((bytes_eq-Decides k m.name).0 e))
      go false e = ap (λ b. option_map (λ s. Instance s) (if b then option_map annotation_scheme (entry_at (bytes_eq x) (declared m)) else told k x)) e

  abbrev R : Scope
  R = scope_after m told t.place

  -- after the module no name has one type alone
  nothing_fixed : (k : Frame) → Agree R a k
  nothing_fixed k =
      let H = Hs w es S t.place a in
      let T0 = T w es S t.place a in
      let plain : Agree T0 a k = record {
        types = subst (AllByRecursion (λ z. of k z ≡ of a z)) (sym (one_types_annotated (in_written_order es) [] [])) tt;
        constants = tt;
      } in
      subst (λ z. Agree z a k) (sym (listed_scope H T0 t.place 0)) (agree_alike (Last w es S t.place a) T0 a k (alike_back T0 (Last w es S t.place a) (last_alike H T0)) plain)

  named : AllNamed (known_in m told) es
  named = subst (AllNamed (known_in m told)) (sym same) (top_named w (steps_keep_types w sound) (groups_in m.declarations) (known_in m told) is_part.titled)

  same_after : (y : Ref) → defines es y ≡ false → entry_of R y ≡ entry_of S y
  same_after y n =
      ap (λ z. entry_of z y) (listed_scope (Hs w es S t.place a) (T w es S t.place a) t.place 0)
      ∙ same_before w es S t.place a refl named y n

  known_after : KnownIn w R.known
  known_after =
      subst (KnownIn w) (sym (ap (λ z. z.known) (listed_scope (Hs w es S t.place a) (T w es S t.place a) t.place 0) ∙ (last_alike (Hs w es S t.place a) (T w es S t.place a)).known)) is_part.known

  -- to the module: what was told before
  to_module : Transfer (told_scope told) sample_frame R a (none_but before) unbound
  to_module (Local x) n = record {
    shown = refl;
    carried = λ entry found.
        absurd (let z : None ≡ Some entry = sym (same_after (Local x) (past (Local x) tt)) ∙ found in cc);
  }
  to_module (Top k0 x) n =
      let y = Top k0 x in
      let o = not_or (defines (definitions (groups_in ds)) y) (among y (given_in ds) || U y) n in
      let q = not_or (among y (given_in ds)) (U y) o.1 in
      let early : before y ≡ true = elim (or_split (before y) (among y (given_in ds) || defines (definitions (groups_in ds)) y) (not_false (bound_with ds before y) q.1)) [
        | inl e ↦ e
        | inr f ↦ elim (or_split (among y (given_in ds)) (defines (definitions (groups_in ds)) y) f) [
          | inl g ↦ not_both (among y (given_in ds)) g q.0
          | inr d ↦ not_both (defines (definitions (groups_in ds)) y) d o.0
        ]
      ] in record {
        shown = none_bound before y early;
        carried = λ entry found. elim (is_part.elsewhere y early) [
          | inl other ↦ (
              let inner : entry_of S y ≡ Some entry = sym (same_after y (past y other)) ∙ found in
              let i = told_instance (known_in m told) y entry inner in
              let e : entry_of (told_scope told) y ≡ Some (Instance i.scheme) = sym (known_else y other) ∙ (inner ∙ ap (λ z. Some z) i.is) in
              subst (Carried (told_scope told) sample_frame R a y) (sym i.is) (instance_carried (told_scope told) R sample_frame a y i.scheme e (λ k. record { types = tt; constants = tt })))
          | inr own ↦ (
              let e : Instance own.inside ≡ entry = (let z : Some (Instance own.inside) ≡ Some entry = sym own.is ∙ found in cc) in
              subst (Carried (told_scope told) sample_frame R a y) e (record {
                other = Instance own.scheme;
                is = ap (λ o. option_map (λ s. Instance s) o) own.told_is;
                serves = λ P h g choice stands agree chosen. (
                    let r = own.instances g choice stands chosen in
                    subst P r.2 (h g r.0 stands (record { types = tt; constants = tt }) r.1));
              }))
        ];
      }

  -- from the module: what it tells, and what was told before
  served : (P : Ground → Type 0) (entry : Entry) (s : Scheme) → ((f : Frame) (choice : ℕ → Ground) → Stands f → Chosen s choice → IsInstanceOf entry (ground_instance choice f s)) → Serves P entry R a
      → Serves P (Instance s) (told_scope told) sample_frame
  served P (Mono z) s each h = λ f choice stands agree chosen. absurd (each f choice stands chosen)
  served P (Instance z) s each h = λ f choice stands agree chosen.
      let i = each f choice stands chosen in
      subst P i.4 (h i.0 i.1 i.2 (nothing_fixed i.0) i.3)
  served P (General list type) s each h = λ f choice stands agree chosen.
      let i = each f choice stands chosen in
      subst P i.4 (h i.1 i.0 i.2 (nothing_fixed i.0) i.3)

  is_own : (y : Ref) → (among y (given_in ds) || defines (definitions (groups_in ds)) y) ≡ true → IsOf m.name y
  is_own y f = elim (or_split (among y (given_in ds)) (defines (definitions (groups_in ds)) y) f) [
    | inl g ↦ given_of (given_in ds) y is_part.given_own g
    | inr d ↦ own y (defined_here y d)
  ]

  own_carried : (y : Ref) → IsOf m.name y → (entry : Entry) (i : ToldEntry told y entry) → Carried R a (told_scope told) sample_frame y (Instance i.scheme)
  own_carried (Local x) o entry i = absurd o
  own_carried (Top k x) o entry i =
      let h : k ≡ i.home = (let z : Top k x ≡ Top i.home i.name = i.name_is in cc) in
      let n : x ≡ i.name = (let z : Top k x ≡ Top i.home i.name = i.name_is in cc) in
      let e = is_part.tells (Top k x) o i.scheme (ap (λ z. told z x) h ∙ (ap (told i.home) n ∙ i.told_is)) in
      record { other = e.0; is = e.1; serves = λ P g. served P e.0 i.scheme e.2 g }

  from_module : Transfer R a (told_scope told) sample_frame U U
  from_module (Local x) n = record { shown = n; carried = λ entry found. absurd (let z : None ≡ Some entry = found in cc) }
  from_module (Top k0 x) n = (let y = Top k0 x in record {
    shown = n;
    carried = λ entry found. (let i = told_instance told y entry found in
        subst (Carried R a (told_scope told) sample_frame y) (sym i.is)
        (elim (or_split (before y) (among y (given_in ds) || defines (definitions (groups_in ds)) y) (not_false (bound_with ds before y) n)) [
          | inl e ↦ elim (is_part.elsewhere y e) [
            | inl other ↦ (let f : entry_of R y ≡ Some (Instance i.scheme) = same_after y (past y other) ∙ (known_else y other ∙ (found ∙ ap (λ z. Some z) i.is)) in
                instance_carried R (told_scope told) a sample_frame y i.scheme f nothing_fixed)
            | inr here ↦ own_carried y here.own entry i
          ]
          | inr f ↦ own_carried y (is_own y f) entry i
        ]));
  })

  -- what a module's declarations bind serves what was told so far
  pub part_fits : (n : ℕ) (env : Env) → Fits w env (none_but before) (told_scope told) sample_frame
      → EndsWell (λ inner. Fits w inner U (told_scope told) sample_frame) (declare_with (call_at n) ds env)
  part_fits n env f =
      map_ends (λ inner. Fits w inner U R a) (λ inner. Fits w inner U (told_scope told) sample_frame) (declare_with (call_at n) ds env)
      (part_from w (steps_keep_types w sound) n m ds told env U a t.place (given_serves w sound (known_in m told) is_part.known) named (subst AreApart (sym same) is_part.apart) inside is_part.given
      is_part.use_before is_part.earlier (subst (λ z. Without (defines z) (given_in ds)) (sym same) is_part.others) is_part.simple is_part.used a_stands is_part.known
      (fits_carried (told_scope told) sample_frame R a w env (none_but before) unbound known_after to_module f) is_part.solves)
      (λ inner h. fits_carried R a (told_scope told) sample_frame w inner U U known_told from_module h)

-- ---- all modules

then_twice : {X Y Z : Type 0} (o : End X) (f : X → End Y) (g : Y → End Z) (h : X → End Z) → ((x : X) → h x ≡ then_do (f x) g) → then_do o h ≡ then_do (then_do o f) g
then_twice (Val x) f g h e = e x
then_twice (Crashed us) f g h e = refl
then_twice OutOfFuel f g h e = refl
then_twice Unsafe f g h e = refl
then_twice Stuck f g h e = refl

declare_append : (call : Call) (xs ys : List Declaration) (env : Env) → declare_with call (xs ++ ys) env ≡ then_do (declare_with call xs env) (λ inner. declare_with call ys inner)
declare_append call [] ys env = refl
declare_append call (Given x k ∷ xs) ys env =
    then_twice (known (functions.Given k) NoValue) (λ v. declare_with call xs (Bind x v env)) (λ inner. declare_with call ys inner) (λ v. declare_with call (xs ++ ys) (Bind x v env))
    (λ v. declare_append call xs ys (Bind x v env))
declare_append call (Define g ∷ xs) ys env =
    then_twice (group_with call g env) (λ inner. declare_with call xs inner) (λ inner. declare_with call ys inner) (λ inner. declare_with call (xs ++ ys) inner)
    (λ inner. declare_append call xs ys inner)

module _ (w : World) (sound : IsSound w) (told : Known) (known_told : KnownIn w told) where
  pub parts_fit : (n : ℕ) (ts : List Part) (before : Ref → Bool) (env : Env) → AreParts w told before ts → Fits w env (none_but before) (told_scope told) sample_frame
      → EndsWell (λ inner. Fits w inner (none_but (bound_after ts before)) (told_scope told) sample_frame) (declare_with (call_at n) (all_declared ts) env)
  parts_fit n [] before env are f = f
  parts_fit n (t ∷ ts) before env are f =
      subst (EndsWell (λ inner. Fits w inner (none_but (bound_after (t ∷ ts) before)) (told_scope told) sample_frame)) (sym (declare_append (call_at n) t.declared (all_declared ts) env))
      (then_well (λ inner. Fits w inner (none_but (bound_with t.declared before)) (told_scope told) sample_frame) (λ inner. Fits w inner (none_but (bound_after (t ∷ ts) before)) (told_scope told) sample_frame)
      (declare_with (call_at n) t.declared env) (λ inner. declare_with (call_at n) (all_declared ts) inner) (part_fits w sound told known_told before t are.0 n env f)
      (λ inner h. parts_fit n ts (bound_with t.declared before) inner are.1 h))

  -- the names of the core alone
  pub core_fits : (ps : List (Ref × Primitive)) → ArePrimitives w told ps → Fits w (with_primitives ps Nil) (none_but (primitive_names ps)) (told_scope told) sample_frame
  core_fits ps are =
      primitives_fit w told ps Nil is_top (none_but (primitive_names ps)) (less ps) are (known_told, nothing)
    where
      is_top : Ref → Bool
      is_top (Local x) = false
      is_top (Top h x) = true

      less : (qs : List (Ref × Primitive)) (y : Ref) → none_but (primitive_names qs) y ≡ false → (primitive_names qs y ≡ true) ⊎ (is_top y ≡ false)
      less qs (Local x) n = inr refl
      less qs (Top h x) n = inl (not_false (primitive_names qs (Top h x)) n)

      nothing : (y : Ref) (entry : Entry) → entry_of (told_scope told) y ≡ Some entry → is_top y ≡ true
      nothing (Local x) entry e = absurd (let z : None ≡ Some entry = e in cc)
      nothing (Top h x) entry e = refl
