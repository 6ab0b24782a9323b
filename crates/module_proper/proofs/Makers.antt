-- The constructors of a module are proper declarations where no fault was found.
use Rattle.std.proofs.Common.{◌≡◌, ℕ, List, [], ◌∷◌, ◌++◌, map, Bool, true, false, refl, sym, ap, ◌∙◌}
use Rattle.std.specs.Prelude.{◌&&◌, ◌||◌, if◌then◌else◌, not, ◌+◌}
use Rattle.std.specs.List.{flat_map, list_all, enumerate_from}
use Rattle.std.proofs.lemmas.Bool.{and_parts}
use Rattle.std.proofs.lemmas.Grind.{flat_map-append}
use Rattle.std.proofs.lemmas.List.{map-append}
use Rattle.elm_tree.specs.Tree as tree
use Rattle.elm_tree.specs.Tree.{Word, Declaration, Value, Port, Union, Alias, TypeTree, ConstructorOf}
use Rattle.elm_canon.specs.Names.{Name, same_name}
use Rattle.elm_canon.specs.Tree as canon
use Rattle.elm_canon.specs.Tree.{Given, Define, Maker, RecordMaker, UnionDeclaration}
use Rattle.elm_canon.specs.Unions.{Declared, alternatives}
use Rattle.elm_canon.specs.declared.reference.Ref.{Ref}
use Rattle.elm_canon.specs.declared.reference.Ref.TheVariants.{Top}
use Rattle.elm_canon.specs.declared.unions.Alternative.{Alternative}
use Rattle.canon_env.specs.Imports.{name_of}
use Rattle.canon_env.specs.Exposing.{is_among}
use Rattle.canon_env.specs.Naming.{World}
use Rattle.canon_env.specs.Sites.{FieldsTogether, repeats_from}
use Rattle.canon_env.specs.Types.{type_sites, field_type_sites, field_words}
use Rattle.canon_type.specs.Written.{aliases_in}
use Rattle.canon_type.specs.Unions.{alternative_of, alternatives_of, unions_in, union_of}
use Rattle.canon_module.specs.Names.{names_of, names_in, constructor_words}
use Rattle.canon_type.specs.DeclaredTypes.{alias_sites}
use Rattle.elm_canon.specs.Spelled.{is_word, is_spelled, is_module, are_fields}
use Rattle.elm_canon.specs.Constructors.{are_apart, is_exact_alternative, has_tag, same_kind}
use Rattle.elm_canon.specs.Proper.{Scope, among, with_all, AreFresh}
use Rattle.elm_canon.specs.Declarations.{declared_names, is_proper_known, ProperDeclarations, after_declarations}
use Rattle.canon_proper.specs.Patterns.{IsSpelledWord, AreSpelledWords}
use Rattle.canon_proper.specs.Rows.{AreConstructors, AreUnions}
use Rattle.canon_proper.specs.Declared.{AreSpelledFieldTypes, AreSpelledConstructors, IsSpelledType}
use Rattle.canon_proper.specs.Declared.{AreSpelledDeclarations}
use Rattle.canon_proper.proofs.Scopes.{fresh_from, fields_are}
use Rattle.canon_proper.proofs.Quiet.{AreSound, sound_split, fields_once}
use Rattle.canon_module.specs.Resolve.{maker_of, record_maker, makers_in}
use Rattle.module_proper.specs.Modules.{tops, maker_refs}
use Rattle.module_proper.proofs.Numbers.{same_top}

-- ---- declarations without a body

abbrev pub names_given : List canon.Declaration → List Ref
names_given ds = flat_map declared_names ds

abbrev pub AreKnown : List canon.Declaration → Type 0
AreKnown [] = Unit {0}
AreKnown (Given r k ∷ ds) = (is_spelled r ≡ true) × ((is_proper_known k ≡ true) × AreKnown ds)
AreKnown (Define g ∷ ds) = ⊥

known_more : (xs ys : List canon.Declaration) → AreKnown xs → AreKnown ys → AreKnown (xs ++ ys)
known_more [] ys p q = q
known_more (Given r k ∷ xs) ys p q = (p.0, (p.1.0, known_more xs ys p.1.1 q))
known_more (Define g ∷ xs) ys p q = p

pub known_proper : (ds : List canon.Declaration) (scope : Scope) → AreKnown ds → AreFresh (names_given ds) scope →
    ProperDeclarations scope ds
known_proper [] scope p f = tt
known_proper (Given r k ∷ ds) scope p f = ((p.0, (f.0, p.1.0)), known_proper ds (r ∷ scope) p.1.1 f.1)
known_proper (Define g ∷ ds) scope p f = absurd p

pub known_after : (ds : List canon.Declaration) (scope : Scope) → AreKnown ds →
    after_declarations ds scope ≡ with_all (names_given ds) scope
known_after [] scope p = refl
known_after (Given r k ∷ ds) scope p = known_after ds (r ∷ scope) p.1.1
known_after (Define g ∷ ds) scope p = absurd p

-- ---- their names

union_named : (home x : Name) (k : ℕ) (cs : List ConstructorOf) →
    names_given (map (maker_of home) (map (alternative_of home x) (enumerate_from k cs)))
    ≡ tops home (map name_of (constructor_words cs))
union_named home x k [] = refl
union_named home x k (c ∷ cs) = ap (λ rs. Top home (name_of c.name) ∷ rs) (union_named home x (k + 1) cs)

one_named : (home : Name) (d : Declaration) →
    names_given (makers_in home d) ≡ tops home (map name_of (names_of d).constructors)
one_named home (Value d) = refl
one_named home (Port x t) = refl
one_named home (Union x ps cs) = union_named home (name_of x) 0 cs
one_named home (Alias x ps (tree.TypeVariable a)) = refl
one_named home (Alias x ps (tree.TypeName y ts)) = refl
one_named home (Alias x ps (tree.FunctionType ts)) = refl
one_named home (Alias x ps (tree.TupleType ts)) = refl
one_named home (Alias x ps (tree.RecordType fs)) = refl
one_named home (Alias x ps (tree.ExtendedType a fs)) = refl

pub tops_more : (home : Name) (xs ys : List Word) →
    tops home (map name_of (xs ++ ys)) ≡ tops home (map name_of xs) ++ tops home (map name_of ys)
tops_more home xs ys =
    ap (tops home) (map-append name_of xs ys) ∙ map-append (λ x. Top home x) (map name_of xs) (map name_of ys)

pub all_named : (home : Name) (ds : List Declaration) →
    names_given (flat_map (makers_in home) ds) ≡ maker_refs home ds
all_named home [] = refl
all_named home (d ∷ ds) =
    flat_map-append declared_names (makers_in home d) (flat_map (makers_in home) ds)
    ∙ ap (λ rs. rs ++ names_given (flat_map (makers_in home) ds)) (one_named home d)
    ∙ ap (λ rs. tops home (map name_of (names_of d).constructors) ++ rs) (all_named home ds)
    ∙ sym (tops_more home (names_of d).constructors (names_in ds).constructors)

-- names of the module of which none is declared twice
among_given : (home x : Name) (ys : List Name) → among (Top home x) (tops home ys) ≡ is_among x ys
among_given home x [] = refl
among_given home x (y ∷ ys) =
    ap (λ b. if b then true else among (Top home x) (tops home ys)) (same_top home x y)
    ∙ by (same_name x y) (among_given home x ys)
  where
    by : (b : Bool) → among (Top home x) (tops home ys) ≡ is_among x ys →
        (if b then true else among (Top home x) (tops home ys)) ≡ (b || is_among x ys)
    by true e = refl
    by false e = e

pub tops_fresh : (home : Name) (before : List Name) (ws : List Word) → repeats_from before ws ≡ [] →
    AreFresh (tops home (map name_of ws)) (tops home before)
tops_fresh home before [] e = tt
tops_fresh home before (w ∷ ws) e =
    let r = by (is_among (name_of w) before) e in
    (among_given home (name_of w) before ∙ r.0, tops_fresh home (name_of w ∷ before) ws r.1)
  where
    by : (b : Bool) →
        (if b then w ∷ repeats_from (name_of w ∷ before) ws else repeats_from (name_of w ∷ before) ws) ≡ [] →
        (b ≡ false) × (repeats_from (name_of w ∷ before) ws ≡ [])
    by true none = absurd cc
    by false none = (refl, none)

-- ---- constructors of unions

abbrev AreExact : List Alternative → Type 0
AreExact [] = Unit {0}
AreExact (c ∷ cs) = (is_exact_alternative c ≡ true) × AreExact cs

apart_exact : (cs : List Alternative) → are_apart cs ≡ true → AreExact cs
apart_exact [] e = tt
apart_exact (c ∷ cs) e =
    let p = and_parts (is_exact_alternative c) (not (has_tag c.tag cs) && are_apart cs) e in
    (p.0, apart_exact cs (and_parts (not (has_tag c.tag cs)) (are_apart cs) p.1).1)

all_exact : (m x : Name) (cs : List Alternative) → AreConstructors (Declared m x cs) cs → AreExact cs
all_exact m x [] p = tt
all_exact m x (c ∷ cs) p =
    let u = Declared m x (c ∷ cs) in
    let a = and_parts (are_apart (alternatives u) && list_all (λ b. same_kind c.tag b.tag) (alternatives u)) _ p.0 in
    apart_exact (c ∷ cs) (and_parts (are_apart (alternatives u)) _ a.0).0

union_known : (home x : Name) (k : ℕ) (cs : List ConstructorOf) → is_module true home ≡ true →
    AreSpelledConstructors cs → AreExact (map (alternative_of home x) (enumerate_from k cs)) →
    AreKnown (map (maker_of home) (map (alternative_of home x) (enumerate_from k cs)))
union_known home x k [] h s e = tt
union_known home x k (c ∷ cs) h s e = (
  ap (λ b. b && is_word (name_of c.name)) h ∙ s.0.0,
  (e.0, union_known home x (k + 1) cs h s.1 e.1),
)

-- ---- constructors of aliases

field_names_spelled : (fs : tree.FieldTypes) → AreSpelledFieldTypes fs → AreSpelledWords (field_words fs)
field_names_spelled tree.NoFieldType s = tt
field_names_spelled (tree.MoreFieldType x t fs) s = (s.0, field_names_spelled fs s.1.1)

record_fields : (w : World) (fs : tree.FieldTypes) → AreSpelledFieldTypes fs →
    AreSound w (type_sites w (tree.RecordType fs)) → are_fields (map name_of (field_words fs)) ≡ true
record_fields w fs s q =
    let r = sound_split w (field_type_sites w fs) (FieldsTogether (field_words fs) ∷ []) q in
    fields_are (field_words fs) [] (fresh_from [] (field_words fs) (fields_once w (field_words fs) r.1.0))
    (field_names_spelled fs s)

alias_known : (w : World) (home : Name) (x : Word) (t : TypeTree) → is_module true home ≡ true → IsSpelledWord x →
    IsSpelledType t → AreSound w (type_sites w t) → AreKnown (record_maker home x t)
alias_known w home x (tree.TypeVariable a) h s u q = tt
alias_known w home x (tree.TypeName y ts) h s u q = tt
alias_known w home x (tree.FunctionType ts) h s u q = tt
alias_known w home x (tree.TupleType ts) h s u q = tt
alias_known w home x (tree.RecordType fs) h s u q =
    (ap (λ b. b && is_word (name_of x)) h ∙ s, (record_fields w fs u q, tt))
alias_known w home x (tree.ExtendedType a fs) h s u q = tt

-- ---- all constructors

pub all_known : (w v : World) (home : Name) (ds : List Declaration) → is_module true home ≡ true →
    AreSpelledDeclarations ds → AreUnions (map (union_of home v) (unions_in ds)) →
    AreSound w (flat_map (alias_sites w) (aliases_in ds)) → AreKnown (flat_map (makers_in home) ds)
all_known w v home [] h s u q = tt
all_known w v home (Value d ∷ ds) h s u q = all_known w v home ds h s.1 u q
all_known w v home (Port x t ∷ ds) h s u q = all_known w v home ds h s.1 u q
all_known w v home (Union x ps cs ∷ ds) h s u q =
    known_more (makers_in home (Union x ps cs)) (flat_map (makers_in home) ds)
    (union_known home (name_of x) 0 cs h s.0.1.1
    (all_exact home (name_of x) (alternatives_of home (name_of x) cs) u.0))
    (all_known w v home ds h s.1 u.1 q)
all_known w v home (Alias x ps t ∷ ds) h s u q =
    let r = sound_split w (type_sites w t) (flat_map (alias_sites w) (aliases_in ds)) q in
    known_more (makers_in home (Alias x ps t)) (flat_map (makers_in home) ds)
    (alias_known w home x t h s.0.0 s.0.1.1 r.0) (all_known w v home ds h s.1 u r.1)
