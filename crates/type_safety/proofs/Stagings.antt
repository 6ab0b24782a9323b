-- The scopes of the groups of a `let`, and which entries names have in them.
use Rattle.std.proofs.Common.{◌≡◌, ℕ, zero, suc, ◌+◌, List, [], ◌∷◌, ◌++◌, map, Bool, true, false, cond, Option, Some, None, filter, flat_map, ◌⊎◌, inl, inr, refl, sym, ap, ◌∙◌, subst}
use Rattle.std.specs.Prelude.{◌||◌}
use Rattle.std.specs.List.{AllByRecursion, enumerate_from}
use Rattle.std.specs.Map.{lookup}
use Rattle.std.specs.Option.{option_or}
use Rattle.elm_canon.specs.Names.{same_ref}
use Rattle.elm_canon.specs.declared.reference.Ref.{Ref}
use Rattle.elm_canon.specs.Tree.{Annotation}
use Rattle.elm_canon.specs.Proper.{among}
use Rattle.type_items.specs.Items.{Place, child, Wanted, at, Item, copied}
use Rattle.type_items.specs.Scopes.{Entry, Mono, Instance, General, Known, Entries, Scope, elsewhere, entry_of, with_names}
use Rattle.type_items.specs.Scopes.{with_constants, one_types}
use Rattle.type_items.specs.Annotations.{own_constants}
use Rattle.type_items.specs.Definitions.{Definition, group_types, group_items, first_type, type_in_group, general, with_group}
use Rattle.type_items.specs.Definitions.{list_as, list_group, list_groups}
use Rattle.type_items.specs.Solutions.{Solves}
use Rattle.typed_values.specs.Frames.{Frame, of, Stands, Agree}
use Rattle.typed_values.specs.World.{Among}
use Rattle.typed_values.specs.Simple.{defines}
use Rattle.typed_values.specs.Typed.{Stages, AtStage}
use Rattle.typed_values.proofs.Names.{yes_or_no, not_both, not_or, or_not, same_refs, all_right, solves_left, solves_right}
use Rattle.typed_values.proofs.Envs.{Wider}
use Rattle.type_safety.proofs.Transfers.{Carried, carried_same, Transfer}

-- ---- names with types

abbrev pub AllMono : Entries → Type 0
AllMono [] = Unit {0}
AllMono ((x, Mono t) ∷ ns) = AllMono ns
AllMono ((x, Instance s) ∷ ns) = ⊥
AllMono ((x, General list type) ∷ ns) = ⊥

abbrev pub at_name : Ref → Entries → Option Entry
at_name y ns = lookup (same_ref y) ns

abbrev type_among : Ref → Entries → Wanted
type_among y ns = first_type (one_types (filter (λ n. same_ref y n.0) ns))

pub name_left : (y : Ref) (xs ys : Entries) (entry : Entry) → at_name y xs ≡ Some entry → at_name y (xs ++ ys) ≡ Some entry
name_left y [] ys entry e = absurd cc
name_left y ((x, o) ∷ xs) ys entry e = go (same_ref y x) (name_left y xs ys entry) e
  where
    go : (b : Bool) → (at_name y xs ≡ Some entry → at_name y (xs ++ ys) ≡ Some entry) → cond b (Some o) (at_name y xs) ≡ Some entry → cond b (Some o) (at_name y (xs ++ ys)) ≡ Some entry
    go true again f = f
    go false again f = again f

pub name_right : (y : Ref) (xs ys : Entries) → at_name y xs ≡ None → at_name y (xs ++ ys) ≡ at_name y ys
name_right y [] ys e = refl
name_right y ((x, o) ∷ xs) ys e = go (same_ref y x) (name_right y xs ys) e
  where
    go : (b : Bool) → (at_name y xs ≡ None → at_name y (xs ++ ys) ≡ at_name y ys) → cond b (Some o) (at_name y xs) ≡ None → cond b (Some o) (at_name y (xs ++ ys)) ≡ at_name y ys
    go true again f = absurd (let z : Some o ≡ None = f in cc)
    go false again f = again f

-- the type of a name among names with types
pub type_is : (y : Ref) (ns : Entries) (t : Wanted) → AllMono ns → at_name y ns ≡ Some (Mono t) → type_among y ns ≡ t
type_is y [] t all e = absurd cc
type_is y ((x, Mono u) ∷ ns) t all e = go (same_ref y x) (type_is y ns t all) e
  where
    go : (b : Bool) → (at_name y ns ≡ Some (Mono t) → type_among y ns ≡ t) → cond b (Some (Mono u)) (at_name y ns) ≡ Some (Mono t)
        → first_type (one_types (cond b ((x, Mono u) ∷ filter (λ n. same_ref y n.0) ns) (filter (λ n. same_ref y n.0) ns))) ≡ t
    go true again f = (let z : Some (Mono u) ≡ Some (Mono t) = f in let r : u ≡ t = cc in r)
    go false again f = again f
type_is y ((x, Instance s) ∷ ns) t all e = absurd all
type_is y ((x, General list type) ∷ ns) t all e = absurd all

pub mono_append : (xs ys : Entries) → AllMono xs → AllMono ys → AllMono (xs ++ ys)
mono_append [] ys h k = k
mono_append ((x, Mono t) ∷ xs) ys h k = mono_append xs ys h k
mono_append ((x, Instance s) ∷ xs) ys h k = absurd h
mono_append ((x, General list type) ∷ xs) ys h k = absurd h

-- ---- definitions whose names have types

pub record Named (K : Known) (d : Definition) : Type 0 where
  pub mono : (known : Known) (p : Place) (v : Wanted) → AllMono (d.types known p v)
  pub inside : (known : Known) (p : Place) (v : Wanted) (y : Ref) → known ≡ K → among y d.names ≡ true → (t : Wanted) × (at_name y (d.types known p v) ≡ Some (Mono t))
  pub outside : (known : Known) (p : Place) (v : Wanted) (y : Ref) → among y d.names ≡ false → at_name y (d.types known p v) ≡ None

abbrev pub AllNamed : Known → List Definition → Type 0
AllNamed K ds = AllByRecursion (Named K) ds

abbrev pub types_from : List Definition → Known → Place → ℕ → Entries
types_from ds known q i = flat_map (λ d. d.1.types known (child q d.0) (at (child q d.0))) (enumerate_from i ds)

-- the first definition of a name
pub record Definer (ds : List Definition) (known : Known) (q : Place) (i : ℕ) (y : Ref) : Type 0 where
  pub number : ℕ
  pub definition : Definition
  pub member : Among (number, definition) (enumerate_from i ds)
  pub own : among y definition.names ≡ true
  pub type : Wanted
  pub here : at_name y (definition.types known (child q number) (at (child q number))) ≡ Some (Mono type)
  pub found : at_name y (types_from ds known q i) ≡ Some (Mono type)

pub first_definer : (K : Known) (ds : List Definition) (known : Known) (q : Place) (i : ℕ) (y : Ref) → known ≡ K → AllNamed K ds → defines ds y ≡ true → Definer ds known q i y
first_definer K [] known q i y same named e = not_both false e refl
first_definer K (d ∷ ds) known q i y same named e = elim (yes_or_no (among y d.names)) [
  | inl own ↦ (let t = named.0.inside known (child q i) (at (child q i)) y same own in record {
    number = i;
    definition = d;
    member = inl refl;
    own = own;
    type = t.0;
    here = t.1;
    found = name_left y (d.types known (child q i) (at (child q i))) (types_from ds known q (i + 1)) (Mono t.0) t.1;
  })
  | inr other ↦ (let r = first_definer K ds known q (i + 1) y same named.1 (sym (ap (λ b. b || defines ds y) other) ∙ e) in record {
    number = r.number;
    definition = r.definition;
    member = inr r.member;
    own = r.own;
    type = r.type;
    here = r.here;
    found = name_right y (d.types known (child q i) (at (child q i))) (types_from ds known q (i + 1)) (named.0.outside known (child q i) (at (child q i)) y other) ∙ r.found;
  })
]

none_defined : (K : Known) (ds : List Definition) (known : Known) (q : Place) (i : ℕ) (y : Ref) → AllNamed K ds → defines ds y ≡ false → at_name y (types_from ds known q i) ≡ None
none_defined K [] known q i y named e = refl
none_defined K (d ∷ ds) known q i y named e =
    let n = not_or (among y d.names) (defines ds y) e in
    name_right y (d.types known (child q i) (at (child q i))) (types_from ds known q (i + 1)) (named.0.outside known (child q i) (at (child q i)) y n.0)
    ∙ none_defined K ds known q (i + 1) y named.1 n.1

types_mono : (K : Known) (ds : List Definition) (known : Known) (q : Place) (i : ℕ) → AllNamed K ds → AllMono (types_from ds known q i)
types_mono K [] known q i named = tt
types_mono K (d ∷ ds) known q i named =
    mono_append (d.types known (child q i) (at (child q i))) (types_from ds known q (i + 1)) (named.0.mono known (child q i) (at (child q i))) (types_mono K ds known q (i + 1) named.1)

pub definer_type : (K : Known) (ds : List Definition) (known : Known) (q : Place) (y : Ref) → AllNamed K ds → (r : Definer ds known q 0 y) → type_in_group ds known y q ≡ r.type
definer_type K ds known q y named r = type_is y (types_from ds known q 0) r.type (types_mono K ds known q 0 named) r.found

generals_some : (ds : List Definition) (S : Scope) (y : Ref) (ns : Entries) (entry : Entry) → at_name y ns ≡ Some entry
    → at_name y (map (λ n. (n.0, general ds S n.0)) ns) ≡ Some (general ds S y)
generals_some ds S y [] entry e = absurd cc
generals_some ds S y ((x, o) ∷ ns) entry e = go (same_ref y x) refl e (generals_some ds S y ns entry)
  where
    go : (b : Bool) → same_ref y x ≡ b → cond b (Some o) (at_name y ns) ≡ Some entry
        → (at_name y ns ≡ Some entry → at_name y (map (λ n. (n.0, general ds S n.0)) ns) ≡ Some (general ds S y))
        → cond b (Some (general ds S x)) (at_name y (map (λ n. (n.0, general ds S n.0)) ns)) ≡ Some (general ds S y)
    go true is f again = ap (λ z. Some (general ds S z)) (sym (same_refs y x is))
    go false is f again = again f

generals_none : (ds : List Definition) (S : Scope) (y : Ref) (ns : Entries) → at_name y ns ≡ None → at_name y (map (λ n. (n.0, general ds S n.0)) ns) ≡ None
generals_none ds S y [] e = refl
generals_none ds S y ((x, o) ∷ ns) e = go (same_ref y x) e (generals_none ds S y ns)
  where
    go : (b : Bool) → cond b (Some o) (at_name y ns) ≡ None → (at_name y ns ≡ None → at_name y (map (λ n. (n.0, general ds S n.0)) ns) ≡ None)
        → cond b (Some (general ds S x)) (at_name y (map (λ n. (n.0, general ds S n.0)) ns)) ≡ None
    go true f again = absurd (let z : Some o ≡ None = f in cc)
    go false f again = again f

-- ---- after a group, and inside it

pub found_left : (T : Scope) (ns : Entries) (y : Ref) (entry : Entry) → at_name y ns ≡ Some entry → entry_of (with_names ns T) y ≡ Some entry
found_left T ns y entry e = ap (λ o. option_or o (elsewhere T.known y)) (name_left y ns T.names entry e)

pub found_right : (T : Scope) (ns : Entries) (y : Ref) → at_name y ns ≡ None → entry_of (with_names ns T) y ≡ entry_of T y
found_right T ns y e = ap (λ o. option_or o (elsewhere T.known y)) (name_right y ns T.names e)

after_some : (K : Known) (ds : List Definition) (T : Scope) (y : Ref) → T.known ≡ K → AllNamed K ds → defines ds y ≡ true → entry_of (with_group ds T) y ≡ Some (general ds T y)
after_some K ds T y same named e =
    let r = first_definer K ds T.known [] 0 y same named e in
    found_left T (map (λ n. (n.0, general ds T n.0)) (group_types ds T.known [])) y (general ds T y) (generals_some ds T y (group_types ds T.known []) (Mono r.type) r.found)

after_none : (K : Known) (ds : List Definition) (T : Scope) (y : Ref) → AllNamed K ds → defines ds y ≡ false → entry_of (with_group ds T) y ≡ entry_of T y
after_none K ds T y named e =
    found_right T (map (λ n. (n.0, general ds T n.0)) (group_types ds T.known [])) y (generals_none ds T y (group_types ds T.known []) (none_defined K ds T.known [] 0 y named e))

inside_some : (K : Known) (ds : List Definition) (T : Scope) (q : Place) (y : Ref) → T.known ≡ K → AllNamed K ds → defines ds y ≡ true
    → entry_of (with_names (group_types ds T.known q) T) y ≡ Some (Mono (type_in_group ds T.known y q))
inside_some K ds T q y same named e =
    let r = first_definer K ds T.known q 0 y same named e in
    found_left T (group_types ds T.known q) y (Mono r.type) r.found ∙ ap (λ t. Some (Mono t)) (sym (definer_type K ds T.known q y named r))

inside_none : (K : Known) (ds : List Definition) (T : Scope) (q : Place) (y : Ref) → AllNamed K ds → defines ds y ≡ false → entry_of (with_names (group_types ds T.known q) T) y ≡ entry_of T y
inside_none K ds T q y named e = found_right T (group_types ds T.known q) y (none_defined K ds T.known q 0 y named e)

-- ---- one group

abbrev pub next_as : Option Annotation → Definition → List Definition → Scope → Scope
next_as None d ds T = with_group (d ∷ ds) T
next_as (Some note) d ds T = T

abbrev pub next_scope : List Definition → Scope → Scope
next_scope [] T = T
next_scope (d ∷ ds) T = next_as d.annotation d ds T

abbrev pub adds_as : Option Annotation → List Definition → Ref → Bool
adds_as None ds y = defines ds y
adds_as (Some note) ds y = false

-- the names that have an entry of the group after it
abbrev pub adds : List Definition → Ref → Bool
adds [] y = false
adds (d ∷ ds) y = adds_as d.annotation (d ∷ ds) y

abbrev pub stage_as : Option Annotation → Definition → List Definition → Scope → Place → Place → Scope
stage_as None d ds T p q = with_names (group_types (d ∷ ds) T.known q) T
stage_as (Some note) d ds T p q = with_constants (own_constants T.constants p note) T

-- the scope of the definitions of a group that stands at p, where its items are listed at q
abbrev pub stage_scope : List Definition → Scope → Place → Place → Scope
stage_scope [] T p q = T
stage_scope (d ∷ ds) T p q = stage_as d.annotation d ds T p q

abbrev pub stage_list_as : Option Annotation → Definition → List Definition → Scope → Place → List Item
stage_list_as None d ds T q = copied (group_items (d ∷ ds) T q)
stage_list_as (Some note) d ds T q = []

abbrev pub stage_list : List Definition → Scope → Place → List Item
stage_list [] T q = []
stage_list (d ∷ ds) T q = stage_list_as d.annotation d ds T q

pub list_scope : (G : List Definition) (T : Scope) (p : Place) → (list_group G T p).scope ≡ next_scope G T
list_scope [] T p = refl
list_scope (d ∷ ds) T p = go d.annotation
  where
    go : (o : Option Annotation) → (list_as o d ds T p).scope ≡ next_as o d ds T
    go None = refl
    go (Some note) = refl

pub next_some : (K : Known) (G : List Definition) (T : Scope) (y : Ref) → T.known ≡ K → AllNamed K G → adds G y ≡ true → entry_of (next_scope G T) y ≡ Some (general G T y)
next_some K [] T y same named e = not_both false e refl
next_some K (d ∷ ds) T y same named e = go d.annotation e
  where
    go : (o : Option Annotation) → adds_as o (d ∷ ds) y ≡ true → entry_of (next_as o d ds T) y ≡ Some (general (d ∷ ds) T y)
    go None f = after_some K (d ∷ ds) T y same named f
    go (Some note) f = not_both false f refl

pub next_none : (K : Known) (G : List Definition) (T : Scope) (y : Ref) → AllNamed K G → adds G y ≡ false → entry_of (next_scope G T) y ≡ entry_of T y
next_none K [] T y named e = refl
next_none K (d ∷ ds) T y named e = go d.annotation e
  where
    go : (o : Option Annotation) → adds_as o (d ∷ ds) y ≡ false → entry_of (next_as o d ds T) y ≡ entry_of T y
    go None f = after_none K (d ∷ ds) T y named f
    go (Some note) f = refl

-- ---- all groups in turn

abbrev pub last_scope : List (List Definition) → Scope → Scope
last_scope [] T = T
last_scope (G ∷ Gs) T = last_scope Gs (next_scope G T)

abbrev pub group_at : List (List Definition) → ℕ → List Definition
group_at [] k = []
group_at (G ∷ Gs) zero = G
group_at (G ∷ Gs) (suc k) = group_at Gs k

-- the scope before a group
abbrev pub scope_at : List (List Definition) → Scope → ℕ → Scope
scope_at [] T k = T
scope_at (G ∷ Gs) T zero = T
scope_at (G ∷ Gs) T (suc k) = scope_at Gs (next_scope G T) k

abbrev pub place_at : List (List Definition) → Place → ℕ → ℕ → Place
place_at [] p i k = child p i
place_at (G ∷ Gs) p i zero = child p i
place_at (G ∷ Gs) p i (suc k) = place_at Gs p (i + 1) k

abbrev pub adds_some : List (List Definition) → Ref → Bool
adds_some [] y = false
adds_some (G ∷ Gs) y = adds G y || adds_some Gs y

-- by a group after the one of that number
abbrev pub adds_after : List (List Definition) → ℕ → Ref → Bool
adds_after [] k y = false
adds_after (G ∷ Gs) zero y = adds_some Gs y
adds_after (G ∷ Gs) (suc k) y = adds_after Gs k y

abbrev pub EachNamed : Known → List (List Definition) → Type 0
EachNamed K Gs = AllByRecursion (AllNamed K) Gs

pub named_at : (K : Known) (Gs : List (List Definition)) (k : ℕ) → EachNamed K Gs → AllNamed K (group_at Gs k)
named_at K [] k named = tt
named_at K (G ∷ Gs) zero named = named.0
named_at K (G ∷ Gs) (suc k) named = named_at K Gs k named.1

pub listed_scope : (Gs : List (List Definition)) (T : Scope) (p : Place) (i : ℕ) → (list_groups Gs T p i).scope ≡ last_scope Gs T
listed_scope [] T p i = refl
listed_scope (G ∷ Gs) T p i =
    ap (λ U. (list_groups Gs U p (i + 1)).scope) (list_scope G T (child p i)) ∙ listed_scope Gs (next_scope G T) p (i + 1)

pub listed_items : (Gs : List (List Definition)) (T : Scope) (p : Place) (i : ℕ) (a : Frame) → Solves a.values (list_groups Gs T p i).items → (k : ℕ)
    → Solves a.values (list_group (group_at Gs k) (scope_at Gs T k) (place_at Gs p i k)).items
listed_items [] T p i a sol k = tt
listed_items (G ∷ Gs) T p i a sol zero =
    solves_left a (list_group G T (child p i)).items (list_groups Gs (list_group G T (child p i)).scope p (i + 1)).items sol
listed_items (G ∷ Gs) T p i a sol (suc k) =
    listed_items Gs (next_scope G T) p (i + 1) a
    (subst (λ U. Solves a.values (list_groups Gs U p (i + 1)).items) (list_scope G T (child p i))
    (solves_right a (list_group G T (child p i)).items (list_groups Gs (list_group G T (child p i)).scope p (i + 1)).items sol)) k

pub last_none : (K : Known) (Gs : List (List Definition)) (T : Scope) (y : Ref) → EachNamed K Gs → adds_some Gs y ≡ false → entry_of (last_scope Gs T) y ≡ entry_of T y
last_none K [] T y named e = refl
last_none K (G ∷ Gs) T y named e =
    let n = not_or (adds G y) (adds_some Gs y) e in
    last_none K Gs (next_scope G T) y named.1 n.1 ∙ next_none K G T y named.0 n.0

last_next : (K : Known) (Gs : List (List Definition)) (T : Scope) (k : ℕ) (y : Ref) → EachNamed K Gs → adds_after Gs k y ≡ false
    → entry_of (last_scope Gs T) y ≡ entry_of (next_scope (group_at Gs k) (scope_at Gs T k)) y
last_next K [] T k y named e = refl
last_next K (G ∷ Gs) T zero y named e = last_none K Gs (next_scope G T) y named.1 e
last_next K (G ∷ Gs) T (suc k) y named e = last_next K Gs (next_scope G T) k y named.1 e

-- the last group that gives a name its entry
pub record LastAdding (Gs : List (List Definition)) (T : Scope) (y : Ref) : Type 0 where
  pub number : ℕ
  pub own : adds (group_at Gs number) y ≡ true
  pub found : entry_of (last_scope Gs T) y ≡ Some (general (group_at Gs number) (scope_at Gs T number) y)

-- ---- what the scopes have in common

pub record Alike (S T : Scope) : Type 0 where
  pub known : T.known ≡ S.known
  pub types : one_types T.names ≡ one_types S.names
  pub constants : T.constants ≡ S.constants

pub alike_refl : (S : Scope) → Alike S S
alike_refl S = record { known = refl; types = refl; constants = refl }

pub alike_trans : (S T U : Scope) → Alike S T → Alike T U → Alike S U
alike_trans S T U a b = record { known = b.known ∙ a.known; types = b.types ∙ a.types; constants = b.constants ∙ a.constants }

outer_generals : (ds : List Definition) (S : Scope) (ns names : Entries) → one_types (map (λ n. (n.0, general ds S n.0)) ns ++ names) ≡ one_types names
outer_generals ds S [] names = refl
outer_generals ds S (n ∷ ns) names = outer_generals ds S ns names

next_alike : (G : List Definition) (T : Scope) → Alike T (next_scope G T)
next_alike [] T = alike_refl T
next_alike (d ∷ ds) T = go d.annotation
  where
    go : (o : Option Annotation) → Alike T (next_as o d ds T)
    go None = record { known = refl; types = outer_generals (d ∷ ds) T (group_types (d ∷ ds) T.known []) T.names; constants = refl }
    go (Some note) = alike_refl T

pub last_adding : (K : Known) (Gs : List (List Definition)) (T : Scope) (y : Ref) → T.known ≡ K → EachNamed K Gs → (adds_some Gs y ≡ false) ⊎ LastAdding Gs T y
last_adding K [] T y same named = inl refl
last_adding K (G ∷ Gs) T y same named = elim (last_adding K Gs (next_scope G T) y ((next_alike G T).known ∙ same) named.1) [
  | inr r ↦ inr (record { number = suc r.number; own = r.own; found = r.found })
  | inl none ↦ elim (yes_or_no (adds G y)) [
    | inl own ↦ inr (record { number = 0; own = own; found = last_none K Gs (next_scope G T) y named.1 none ∙ next_some K G T y same named.0 own })
    | inr other ↦ inl (or_not (adds G y) (adds_some Gs y) other none)
  ]
]

pub last_alike : (Gs : List (List Definition)) (T : Scope) → Alike T (last_scope Gs T)
last_alike [] T = alike_refl T
last_alike (G ∷ Gs) T = alike_trans T (next_scope G T) (last_scope Gs (next_scope G T)) (next_alike G T) (last_alike Gs (next_scope G T))

pub scope_alike : (Gs : List (List Definition)) (T : Scope) (k : ℕ) → Alike T (scope_at Gs T k)
scope_alike [] T k = alike_refl T
scope_alike (G ∷ Gs) T zero = alike_refl T
scope_alike (G ∷ Gs) T (suc k) = alike_trans T (next_scope G T) (scope_at Gs (next_scope G T) k) (next_alike G T) (scope_alike Gs (next_scope G T) k)

pub agree_alike : (S T : Scope) (f g : Frame) → Alike S T → Agree T f g → Agree S f g
agree_alike S T f g k a = record {
  types = subst (AllByRecursion (λ t. of g t ≡ of f t)) k.types a.types;
  constants = subst (AllByRecursion (λ c. g.stands c.1 ≡ f.stands c.1)) k.constants a.constants;
}

pub alike_back : (S T : Scope) → Alike S T → Alike T S
alike_back S T k = record { known = sym k.known; types = sym k.types; constants = sym k.constants }

one_types_right : (P : Wanted → Type 0) (xs ys : Entries) → AllByRecursion P (one_types (xs ++ ys)) → AllByRecursion P (one_types ys)
one_types_right P [] ys h = h
one_types_right P ((x, Mono t) ∷ xs) ys h = one_types_right P xs ys h.1
one_types_right P ((x, Instance s) ∷ xs) ys h = one_types_right P xs ys h
one_types_right P ((x, General list type) ∷ xs) ys h = one_types_right P xs ys h

-- who agrees inside a group agrees before it
pub agree_stage : (G : List Definition) (T : Scope) (p q : Place) (f g : Frame) → Agree (stage_scope G T p q) f g → Agree T f g
agree_stage [] T p q f g a = a
agree_stage (d ∷ ds) T p q f g a = go d.annotation a
  where
    go : (o : Option Annotation) → Agree (stage_as o d ds T p q) f g → Agree T f g
    go None b = record { types = one_types_right (λ t. of g t ≡ of f t) (group_types (d ∷ ds) T.known q) T.names b.types; constants = b.constants }
    go (Some note) b = record { types = b.types; constants = all_right (λ c. g.stands c.1 ≡ f.stands c.1) (own_constants T.constants p note) T.constants b.constants }

pub stage_known : (G : List Definition) (T : Scope) (p q : Place) → (stage_scope G T p q).known ≡ T.known
stage_known [] T p q = refl
stage_known (d ∷ ds) T p q = go d.annotation
  where
    go : (o : Option Annotation) → (stage_as o d ds T p q).known ≡ T.known
    go None = refl
    go (Some note) = refl

-- ---- from the last scope to a stage

module _ (K : Known) (Gs : List (List Definition)) (T : Scope) (p : Place) (i : ℕ) (a : Frame) (V : Ref → Bool) where
  abbrev pub F : Scope
  F = last_scope Gs T

  abbrev pub stages : Stages
  stages = record {
    scopes = λ k q. stage_scope (group_at Gs k) (scope_at Gs T k) (place_at Gs p i k) q;
    listed = λ k q. stage_list (group_at Gs k) (scope_at Gs T k) q;
    hidden = λ k y. V y || adds_after Gs k y;
    around = T;
    base = a;
  }

  pub stage_wider : (k : ℕ) (q : Place) → Wider F (stages.scopes k q)
  stage_wider k q = record {
    known = stage_known (group_at Gs k) (scope_at Gs T k) (place_at Gs p i k) q ∙ ((scope_alike Gs T k).known ∙ sym (last_alike Gs T).known);
    agree = λ f g agree.
        agree_alike F T f g (alike_back T F (last_alike Gs T))
        (agree_alike T (scope_at Gs T k) f g (scope_alike Gs T k) (agree_stage (group_at Gs k) (scope_at Gs T k) (place_at Gs p i k) q f g agree));
  }

  carried_as : (G : List Definition) (U : Scope) (pl q : Place) (g : Frame) (y : Ref) (entry : Entry) → U.known ≡ K → AllNamed K G → entry_of F y ≡ entry_of (next_scope G U) y
      → Stands g → Agree F a g → Wider F (stage_scope G U pl q) → Solves g.values (stage_list G U q) → entry_of (stage_scope G U pl q) y ≡ Some entry → Carried F a (stage_scope G U pl q) g y entry
  carried_as [] U pl q g y entry known named same stands agree wide sol is = carried_same F a U g y entry (same ∙ is) agree wide
  carried_as (d ∷ ds) U pl q g y entry known named same stands agree wide sol is = go d.annotation same wide sol is
    where
      go : (o : Option Annotation) → entry_of F y ≡ entry_of (next_as o d ds U) y → Wider F (stage_as o d ds U pl q) → Solves g.values (stage_list_as o d ds U q)
          → entry_of (stage_as o d ds U pl q) y ≡ Some entry → Carried F a (stage_as o d ds U pl q) g y entry
      go (Some note) same2 wide2 sol2 is2 = carried_same F a (stage_as (Some note) d ds U pl q) g y entry (same2 ∙ is2) agree wide2
      go None same2 wide2 sol2 is2 = elim (yes_or_no (defines (d ∷ ds) y)) [
        | inl own ↦ (let e : Mono (type_in_group (d ∷ ds) U.known y q) ≡ entry =
            (let z : Some (Mono (type_in_group (d ∷ ds) U.known y q)) ≡ Some entry = sym (inside_some K (d ∷ ds) U q y known named own) ∙ is2 in cc) in
            subst (Carried F a (stage_as None d ds U pl q) g y) e (record {
              other = general (d ∷ ds) U y;
              is = same2 ∙ after_some K (d ∷ ds) U y known named own;
              serves = λ P h. h q g stands agree sol2;
            }))
        | inr other ↦ carried_same F a (stage_as None d ds U pl q) g y entry (same2 ∙ (after_none K (d ∷ ds) U y named other ∙ (sym (inside_none K (d ∷ ds) U q y named other) ∙ is2))) agree wide2
      ]

  pub transfer_stage : (k : ℕ) (q : Place) (g : Frame) → T.known ≡ K → EachNamed K Gs → AtStage stages k q g → Transfer F a (stages.scopes k q) g V (stages.hidden k)
  transfer_stage k q g known named st y n =
      let o = not_or (V y) (adds_after Gs k y) n in record {
        shown = o.0;
        carried = λ entry is.
            carried_as (group_at Gs k) (scope_at Gs T k) (place_at Gs p i k) q g y entry ((scope_alike Gs T k).known ∙ known) (named_at K Gs k named) (last_next K Gs T k y named o.1) st.stands
            (agree_alike F T a g (alike_back T F (last_alike Gs T)) st.agree) (stage_wider k q) st.solves is;
      }
