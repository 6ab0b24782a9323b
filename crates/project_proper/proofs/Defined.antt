-- What the definitions of a resolved module define is what its text declares: `module_defined`.
use Rattle.std.proofs.Common.{◌≡◌, ℕ, zero, suc, List, [], ◌∷◌, ◌++◌, map, Bool, true, false, None, refl, sym, ap, ◌∙◌}
use Rattle.std.proofs.Common.{subst, ⊎_elim}
use Rattle.std.specs.Prelude.{Option, slice_index_or, ◌||◌, if◌then◌else◌}
use Rattle.std.specs.List.{flat_map, list_any}
use Rattle.std.proofs.lemmas.Bool.{false≢true}
use Rattle.std.proofs.lemmas.List.{map-append}
use Rattle.decl_groups.specs.InOrder.{ordered_groups}
use Rattle.decl_groups.proofs.Reaching.{or_cases}
use Rattle.elm_tree.specs.Tree as tree
use Rattle.elm_tree.specs.Tree.{Word, TypeTree}
use Rattle.elm_canon.specs.Names.{Name, same_ref}
use Rattle.elm_canon.specs.Tree as canon
use Rattle.elm_canon.specs.Tree.{Annotation, Title, Declaration, Given, Define}
use Rattle.elm_canon.specs.declared.unions.Alternative.{Alternative}
use Rattle.elm_canon.specs.declared.reference.Ref.{Ref}
use Rattle.elm_canon.specs.declared.reference.Ref.TheVariants.{Top}
use Rattle.canon_env.specs.Imports.{name_of}
use Rattle.canon_env.specs.Naming.{World}
use Rattle.canon_env.specs.Locals.{no_locals, with_names}
use Rattle.canon_env.specs.Patterns.{words_of_all, patterns_of}
use Rattle.canon_type.specs.Unions.{alternatives_of}
use Rattle.canon_expr.specs.Exprs.{meant}
use Rattle.canon_expr.specs.Binding.{is_function}
use Rattle.canon_expr.specs.Blocks.{Made, NoMade, MadeFunction, MadeConstant, MadeParts, made_of, title_of}
use Rattle.canon_expr.specs.Blocks.{functions_in, group_of}
use Rattle.canon_module.specs.Names.{names_of, names_in}
use Rattle.canon_module.specs.Items.{Item, PortItem, ValueItem, item_of, items_of, annotation_by, made_by}
use Rattle.canon_module.specs.Items.{grouped, items_at, top_used, value_groups}
use Rattle.canon_module.specs.Resolve.{Setting, IsModule, maker_of, record_maker, makers_in, world_of}
use Rattle.elm_canon.specs.Proper.{among, IsIn, function_names}
use Rattle.canon_proper.proofs.Scopes.{in_first, one_ref}
use Rattle.canon_proper.proofs.Apart.{in_left, in_right}
use Rattle.module_proper.specs.Modules.{tops, value_refs, HasAll}
use Rattle.module_offers.specs.Faults.{defined_by, defines}

-- ---- all that declarations define is among names

abbrev pub DefinedIn : List Ref → List Declaration → Type 0
DefinedIn full ds = (r : Ref) → list_any (λ d. among r (defined_by d)) ds ≡ true → IsIn r full

any_more : (p : Declaration → Bool) (xs ys : List Declaration) → list_any p (xs ++ ys) ≡ true →
    (list_any p xs || list_any p ys) ≡ true
any_more p [] ys e = e
any_more p (x ∷ xs) ys e = by (p x) e (any_more p xs ys)
  where
    by : (b : Bool) → (b || list_any p (xs ++ ys)) ≡ true →
        (list_any p (xs ++ ys) ≡ true → (list_any p xs || list_any p ys) ≡ true) →
        ((b || list_any p xs) || list_any p ys) ≡ true
    by true e rest = refl
    by false e rest = rest e

all_more : (full : List Ref) (xs ys : List Declaration) → DefinedIn full xs → DefinedIn full ys →
    DefinedIn full (xs ++ ys)
all_more full xs ys f g r e =
    ⊎_elim (f r) (g r)
    (or_cases (list_any (λ d. among r (defined_by d)) xs) (list_any (λ d. among r (defined_by d)) ys)
    (any_more (λ d. among r (defined_by d)) xs ys e))

all_none : (full : List Ref) → DefinedIn full []
all_none full r e = absurd (false≢true e)

-- one declaration more
all_next : (full : List Ref) (d : Declaration) (ds : List Declaration) →
    ((r : Ref) → among r (defined_by d) ≡ true → IsIn r full) → DefinedIn full ds → DefinedIn full (d ∷ ds)
all_next full d ds f g r e =
    ⊎_elim (f r) (g r) (or_cases (among r (defined_by d)) (list_any (λ d. among r (defined_by d)) ds) e)

-- ---- constructors are no definitions

made_none : (full : List Ref) (home : Name) (cs : List Alternative) → DefinedIn full (map (maker_of home) cs)
made_none full home [] = all_none full
made_none full home (c ∷ cs) =
    all_next full (maker_of home c) (map (maker_of home) cs) (λ r e. absurd (false≢true e)) (made_none full home cs)

given_none : (full : List Ref) (r : Ref) (k : canon.Known) → DefinedIn full (Given r k ∷ [])
given_none full r k = all_next full (Given r k) [] (λ q e. absurd (false≢true e)) (all_none full)

record_none : (full : List Ref) (home : Name) (x : Word) (t : TypeTree) → DefinedIn full (record_maker home x t)
record_none full home x (tree.TypeVariable a) = all_none full
record_none full home x (tree.TypeName y ts) = all_none full
record_none full home x (tree.FunctionType ts) = all_none full
record_none full home x (tree.TupleType ts) = all_none full
record_none full home x (tree.RecordType fs) = λ r e. absurd (false≢true e)
record_none full home x (tree.ExtendedType a fs) = all_none full

makers_none : (full : List Ref) (home : Name) (ds : List tree.Declaration) →
    DefinedIn full (flat_map (makers_in home) ds)
makers_none full home [] = all_none full
makers_none full home (tree.Value d ∷ ds) = makers_none full home ds
makers_none full home (tree.Port x t ∷ ds) = makers_none full home ds
makers_none full home (tree.Union x ps cs ∷ ds) =
    all_more full (map (maker_of home) (alternatives_of home (name_of x) cs)) (flat_map (makers_in home) ds)
    (made_none full home (alternatives_of home (name_of x) cs)) (makers_none full home ds)
makers_none full home (tree.Alias x ps t ∷ ds) =
    all_more full (record_maker home x t) (flat_map (makers_in home) ds) (record_none full home x t)
    (makers_none full home ds)

-- ---- groups

abbrev TitleIn : List Ref → Made → Type 0
TitleIn full NoMade = Unit {0}
TitleIn full (MadeFunction title ps e) = IsIn title.name full
TitleIn full (MadeConstant title e) = IsIn title.name full
TitleIn full (MadeParts p e) = Unit {0}

abbrev TitlesIn : List Ref → List Made → Type 0
TitlesIn full [] = Unit {0}
TitlesIn full (m ∷ ms) = TitleIn full m × TitlesIn full ms

-- the first or a later one
in_cases : (full : List Ref) (q : Ref) (rs : List Ref) → IsIn q full → ((r : Ref) → IsIn r rs → IsIn r full) →
    (r : Ref) → IsIn r (q ∷ rs) → IsIn r full
in_cases full q rs i f r e = by (same_ref r q) refl e
  where
    by : (b : Bool) → same_ref r q ≡ b → (if b then true else among r rs) ≡ true → IsIn r full
    by true s e = subst (λ z. IsIn z full) (sym (one_ref r q s)) i
    by false s e = f r e

functions_titled : (full : List Ref) (ms : List Made) → TitlesIn full ms → (r : Ref) →
    IsIn r (function_names (functions_in ms)) → IsIn r full
functions_titled full [] h r e = absurd (false≢true e)
functions_titled full (NoMade ∷ ms) h r e = functions_titled full ms h.1 r e
functions_titled full (MadeFunction title ps b ∷ ms) h r e =
    in_cases full title.name (function_names (functions_in ms)) h.0 (functions_titled full ms h.1) r e
functions_titled full (MadeConstant title b ∷ ms) h r e = functions_titled full ms h.1 r e
functions_titled full (MadeParts p b ∷ ms) h r e = functions_titled full ms h.1 r e

together_titled : (full : List Ref) (ms : List Made) → TitlesIn full ms →
    DefinedIn full (map Define (canon.Together (functions_in ms) ∷ []))
together_titled full ms h =
    all_next full (Define (canon.Together (functions_in ms))) [] (functions_titled full ms h) (all_none full)

group_titled : (full : List Ref) (ms : List Made) → TitlesIn full ms → DefinedIn full (map Define (group_of ms))
group_titled full [] h = together_titled full [] h
group_titled full (NoMade ∷ []) h = all_none full
group_titled full (MadeConstant title e ∷ []) h =
    all_next full (Define (canon.Constant title e)) []
    (in_cases full title.name [] h.0 (λ r i. absurd (false≢true i))) (all_none full)
group_titled full (MadeParts p e ∷ []) h =
    all_next full (Define (canon.Destructure p e)) [] (λ r i. absurd (false≢true i)) (all_none full)
group_titled full (MadeFunction title ps e ∷ []) h = together_titled full (MadeFunction title ps e ∷ []) h
group_titled full (NoMade ∷ n ∷ ms) h = together_titled full (NoMade ∷ n ∷ ms) h
group_titled full (MadeConstant title e ∷ n ∷ ms) h = together_titled full (MadeConstant title e ∷ n ∷ ms) h
group_titled full (MadeParts p e ∷ n ∷ ms) h = together_titled full (MadeParts p e ∷ n ∷ ms) h
group_titled full (MadeFunction title ps e ∷ n ∷ ms) h =
    together_titled full (MadeFunction title ps e ∷ n ∷ ms) h

-- ---- items

abbrev AllTitled : List Ref → List Item → Type 0
AllTitled full items = (i : ℕ) → TitleIn full (made_by (slice_index_or items i (ValueItem NoMade)))

places_titled : (full : List Ref) (items : List Item) → AllTitled full items → (places : List ℕ) →
    TitlesIn full (map made_by (items_at items places))
places_titled full items h [] = tt
places_titled full items h (p ∷ places) = (h p, places_titled full items h places)

grouped_titled : (full : List Ref) (items : List Item) → AllTitled full items → (places : List ℕ) →
    DefinedIn full (grouped (items_at items places))
grouped_titled full items h [] = group_titled full [] tt
grouped_titled full items h (p ∷ q ∷ places) =
    by (slice_index_or items p (ValueItem NoMade)) (h p)
  where
    rest : TitlesIn full (map made_by (items_at items (q ∷ places)))
    rest = places_titled full items h (q ∷ places)

    by : (i : Item) → TitleIn full (made_by i) → DefinedIn full (grouped (i ∷ items_at items (q ∷ places)))
    by (PortItem r k) t = group_titled full (NoMade ∷ map made_by (items_at items (q ∷ places))) (t, rest)
    by (ValueItem m) t = group_titled full (m ∷ map made_by (items_at items (q ∷ places))) (t, rest)
grouped_titled full items h (p ∷ []) = by (slice_index_or items p (ValueItem NoMade)) (h p)
  where
    by : (i : Item) → TitleIn full (made_by i) → DefinedIn full (grouped (i ∷ []))
    by (PortItem r k) t = given_none full r k
    by (ValueItem m) t = group_titled full (m ∷ []) (t, tt)

groups_titled : (full : List Ref) (items : List Item) → AllTitled full items → (groups : List (List ℕ)) →
    DefinedIn full (flat_map (λ places. grouped (items_at items places)) groups)
groups_titled full items h [] = all_none full
groups_titled full items h (g ∷ groups) =
    all_more full (grouped (items_at items g)) (flat_map (λ places. grouped (items_at items places)) groups)
    (grouped_titled full items h g) (groups_titled full items h groups)

-- ---- the values of a text

-- those of the first declaration, and those of the others
refs_first : (home : Name) (d : tree.Declaration) (ds : List tree.Declaration) →
    value_refs home (d ∷ ds) ≡ tops home (map name_of (names_of d).values) ++ value_refs home ds
refs_first home d ds =
    ap (tops home) (map-append name_of (names_of d).values (names_in ds).values)
    ∙ map-append (λ x. Top home x) (map name_of (names_of d).values) (map name_of (names_in ds).values)

pub first_in : (home : Name) (full : List Ref) (d : tree.Declaration) (ds : List tree.Declaration) →
    HasAll full (value_refs home (d ∷ ds)) → HasAll full (tops home (map name_of (names_of d).values))
first_in home full d ds h r i =
    h r (subst (IsIn r) (sym (refs_first home d ds))
    (in_left r (tops home (map name_of (names_of d).values)) (value_refs home ds) i))

pub later_in : (home : Name) (full : List Ref) (d : tree.Declaration) (ds : List tree.Declaration) →
    HasAll full (value_refs home (d ∷ ds)) → HasAll full (value_refs home ds)
later_in home full d ds h r i =
    h r (subst (IsIn r) (sym (refs_first home d ds))
    (in_right r (tops home (map name_of (names_of d).values)) (value_refs home ds) i))

made_titled : (full : List Ref) (b : Bool) (title : Title) (ps : canon.Patterns) (e : canon.Expr) →
    IsIn title.name full → TitleIn full (made_of b title ps e)
made_titled full true title ps e i = i
made_titled full false title ps e i = i

item_titled : (w : World) (full : List Ref) (before : Option Annotation) (d : tree.Declaration) →
    HasAll full (tops w.name (map name_of (names_of d).values)) → TitleIn full (made_by (item_of w before d))
item_titled w full before (tree.Value (tree.Annotate x t)) h = tt
item_titled w full before (tree.Value (tree.Define x ps e)) h =
    made_titled full (is_function ps e) (title_of (Top w.name (name_of x)) x.place before) (patterns_of w ps)
    (meant w (with_names (words_of_all ps) no_locals) e)
    (h (Top w.name (name_of x)) (in_first (Top w.name (name_of x)) []))
item_titled w full before (tree.Value (tree.Destructure p e)) h = tt
item_titled w full before (tree.Port x t) h = tt
item_titled w full before (tree.Union x ps cs) h = tt
item_titled w full before (tree.Alias x ps t) h = tt

items_titled : (w : World) (full : List Ref) (before : Option Annotation) (ds : List tree.Declaration) →
    HasAll full (value_refs w.name ds) → AllTitled full (items_of w before ds)
items_titled w full before [] h i = tt
items_titled w full before (d ∷ ds) h zero = item_titled w full before d (first_in w.name full d ds h)
items_titled w full before (d ∷ ds) h (suc i) =
    items_titled w full (annotation_by w d) ds (later_in w.name full d ds h) i

-- ---- the module

pub module_defined : (s : Setting) (ds : List tree.Declaration) (m : canon.Module) → IsModule s ds m → (r : Ref) →
    defines m r ≡ true → IsIn r (value_refs s.home ds)
module_defined s ds m is r e =
    let full = value_refs s.home ds in
    let w = world_of s ds m in
    all_more full (flat_map (makers_in s.home) ds) (value_groups w ds) (makers_none full s.home ds)
    (groups_titled full (items_of w None ds) (items_titled w full None ds (λ q i. i)) (ordered_groups (top_used w ds)))
    r (subst (λ es. list_any (λ d. among r (defined_by d)) es ≡ true) is.declarations e)
