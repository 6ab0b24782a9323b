-- What a module shows is among what it declares.
use Rattle.std.proofs.Common.{◌≡◌, ℕ, List, [], ◌∷◌, ◌++◌, map, cond, Bool, true, false, refl, sym, ap, ◌∙◌, subst}
use Rattle.std.proofs.Common.{⊎_elim}
use Rattle.std.specs.Prelude.{if◌then◌else◌, ◌+◌, filter}
use Rattle.std.specs.List.{flat_map, enumerate_from}
use Rattle.std.proofs.lemmas.Bool.{false≢true}
use Rattle.std.proofs.lemmas.Grind.{flat_map-append}
use Rattle.elm_tree.specs.Tree as tree
use Rattle.elm_tree.specs.Tree.{Word, Declaration, Value, Port, Union, Alias, TypeTree, ConstructorOf}
use Rattle.elm_canon.specs.Names.{Name}
use Rattle.elm_canon.specs.Unions as union
use Rattle.elm_canon.specs.Tree as canon
use Rattle.elm_canon.specs.Tree.{UnionDeclaration, AliasDeclaration}
use Rattle.elm_canon.specs.declared.reference.Ref.{Ref}
use Rattle.elm_canon.specs.declared.reference.Ref.TheVariants.{Top}
use Rattle.elm_canon.specs.declared.unions.Alternative.{Alternative}
use Rattle.canon_env.specs.Imports.{name_of, exposes_value, exposes_type, exposes_makers}
use Rattle.canon_env.specs.Shown.{Shown}
use Rattle.canon_env.specs.Env.{when, declared_alternatives, imported_rows}
use Rattle.canon_env.specs.Naming.{World}
use Rattle.canon_type.specs.Written.{aliases_in}
use Rattle.canon_type.specs.Unions.{alternative_of, alternatives_of, unions_in, union_of}
use Rattle.canon_type.specs.Types.{is_record, alias_of}
use Rattle.canon_module.specs.Names.{names_of, names_in, constructor_words, is_closed_record}
use Rattle.canon_type.specs.DeclaredTypes.{uses_in, module_world}
use Rattle.canon_module.specs.Offers.{without_makers, opaque, offered_by, unions_by, aliases_by, exposed_by}
use Rattle.canon_module.specs.Resolve.{Setting, IsModule, declared_by, module_shows}
use Rattle.elm_canon.specs.Proper.{Scope}
use Rattle.canon_proper.specs.Rows.{AreConstructors, AreUnions}
use Rattle.canon_proper.proofs.Scopes.{in_later}
use Rattle.canon_proper.proofs.Apart.{in_either}
use Rattle.module_proper.specs.Modules.{tops, value_refs, maker_refs, HasAll, union_makers, alias_makers, shown_makers}
use Rattle.module_proper.specs.Modules.{IsOffered, AreBare, AreRead}
use Rattle.module_proper.proofs.Makers.{tops_more}
use Rattle.module_proper.proofs.Rows.{has_left, has_right, tops_join, tops_left, tops_right}
use Rattle.module_proper.proofs.Unions.{unions_are}

has_both : (scope : Scope) (xs ys : List Ref) → HasAll scope xs → HasAll scope ys → HasAll scope (xs ++ ys)
has_both scope xs ys g h = λ r i. ⊎_elim (λ k. g r k) (λ k. h r k) (in_either r xs ys i)

tops_both : (home : Name) (scope : Scope) (xs ys : List Name) → HasAll scope (tops home xs) →
    HasAll scope (tops home ys) → HasAll scope (tops home (xs ++ ys))
tops_both home scope xs ys g h =
    subst (HasAll scope) (sym (tops_join home xs ys)) (has_both scope (tops home xs) (tops home ys) g h)

none_there : (home : Name) (scope : Scope) → HasAll scope (tops home [])
none_there home scope = λ r i. absurd (false≢true i)

-- ---- what a module declares

first_has : (home : Name) (scope : Scope) (d : Declaration) (ds : List Declaration) →
    HasAll scope (maker_refs home (d ∷ ds)) → HasAll scope (tops home (map name_of (names_of d).constructors))
first_has home scope d ds h =
    has_left scope (tops home (map name_of (names_of d).constructors)) (maker_refs home ds)
    (subst (HasAll scope) (tops_more home (names_of d).constructors (names_in ds).constructors) h)

later_has : (home : Name) (scope : Scope) (d : Declaration) (ds : List Declaration) →
    HasAll scope (maker_refs home (d ∷ ds)) → HasAll scope (maker_refs home ds)
later_has home scope d ds h =
    has_right scope (tops home (map name_of (names_of d).constructors)) (maker_refs home ds)
    (subst (HasAll scope) (tops_more home (names_of d).constructors (names_in ds).constructors) h)

same_names : (home x : Name) (k : ℕ) (cs : List ConstructorOf) →
    map (λ (c : Alternative). c.name) (map (alternative_of home x) (enumerate_from k cs))
    ≡ map name_of (constructor_words cs)
same_names home x k [] = refl
same_names home x k (c ∷ cs) = ap (λ xs. name_of c.name ∷ xs) (same_names home x (k + 1) cs)

unions_has : (home : Name) (w : World) (scope : Scope) (ds : List Declaration) → HasAll scope (maker_refs home ds) →
    HasAll scope (tops home (flat_map union_makers (map (union_of home w) (unions_in ds))))
unions_has home w scope [] h = none_there home scope
unions_has home w scope (Value d ∷ ds) h = unions_has home w scope ds h
unions_has home w scope (Port x t ∷ ds) h = unions_has home w scope ds h
unions_has home w scope (Alias x ps t ∷ ds) h =
    unions_has home w scope ds (later_has home scope (Alias x ps t) ds h)
unions_has home w scope (Union x ps cs ∷ ds) h =
    tops_both home scope (map (λ (c : Alternative). c.name) (alternatives_of home (name_of x) cs))
    (flat_map union_makers (map (union_of home w) (unions_in ds)))
    (subst (λ xs. HasAll scope (tops home xs)) (sym (same_names home (name_of x) 0 cs))
    (first_has home scope (Union x ps cs) ds h))
    (unions_has home w scope ds (later_has home scope (Union x ps cs) ds h))

same_record : (t : TypeTree) → is_closed_record t ≡ is_record t
same_record (tree.TypeVariable a) = refl
same_record (tree.TypeName y ts) = refl
same_record (tree.FunctionType ts) = refl
same_record (tree.TupleType ts) = refl
same_record (tree.RecordType fs) = refl
same_record (tree.ExtendedType a fs) = refl

same_maker : (x : Word) (t : TypeTree) →
    map name_of (if is_closed_record t then x ∷ [] else []) ≡ when (is_record t) (name_of x)
same_maker x t = ap (λ b. map name_of (if b then x ∷ [] else [])) (same_record t) ∙ by (is_record t)
  where
    by : (b : Bool) → map name_of (if b then x ∷ [] else []) ≡ when b (name_of x)
    by true = refl
    by false = refl

aliases_has : (home : Name) (w : World) (uses : List (List ℕ)) (scope : Scope) (ds : List Declaration) (k : ℕ) →
    HasAll scope (maker_refs home ds) →
    HasAll scope (tops home (flat_map alias_makers (map (alias_of w uses) (enumerate_from k (aliases_in ds)))))
aliases_has home w uses scope [] k h = none_there home scope
aliases_has home w uses scope (Value d ∷ ds) k h = aliases_has home w uses scope ds k h
aliases_has home w uses scope (Port x t ∷ ds) k h = aliases_has home w uses scope ds k h
aliases_has home w uses scope (Union x ps cs ∷ ds) k h =
    aliases_has home w uses scope ds k (later_has home scope (Union x ps cs) ds h)
aliases_has home w uses scope (Alias x ps t ∷ ds) k h =
    tops_both home scope (when (is_record t) (name_of x))
    (flat_map alias_makers (map (alias_of w uses) (enumerate_from (k + 1) (aliases_in ds))))
    (subst (λ xs. HasAll scope (tops home xs)) (same_maker x t) (first_has home scope (Alias x ps t) ds h))
    (aliases_has home w uses scope ds (k + 1) (later_has home scope (Alias x ps t) ds h))

-- the constructors that it has are those that are written
pub makers_has : (home : Name) (w : World) (uses : List (List ℕ)) (scope : Scope) (ds : List Declaration) (s : Shown) →
    s.unions ≡ map (union_of home w) (unions_in ds) →
    s.aliases ≡ map (alias_of w uses) (enumerate_from 0 (aliases_in ds)) → HasAll scope (maker_refs home ds) →
    HasAll scope (tops home (shown_makers s))
makers_has home w uses scope ds s u a h =
    tops_both home scope (flat_map union_makers s.unions) (flat_map alias_makers s.aliases)
    (subst (λ us. HasAll scope (tops home (flat_map union_makers us))) (sym u) (unions_has home w scope ds h))
    (subst (λ xs. HasAll scope (tops home (flat_map alias_makers xs))) (sym a) (aliases_has home w uses scope ds 0 h))

-- ---- what passes

filtered : (home : Name) (scope : Scope) (p : Name → Bool) (xs : List Name) → HasAll scope (tops home xs) →
    HasAll scope (tops home (filter p xs))
filtered home scope p [] h = h
filtered home scope p (x ∷ xs) h =
    by (p x) (filtered home scope p xs (λ r i. h r (in_later r (Top home x) (tops home xs) i)))
  where
    by : (b : Bool) → HasAll scope (tops home (filter p xs)) →
        HasAll scope (tops home (cond b (x ∷ filter p xs) (filter p xs)))
    by true rest =
        tops_both home scope (x ∷ []) (filter p xs) (tops_left home scope (x ∷ []) xs h) rest
    by false rest = rest

no_makers : (u : union.Union) → declared_alternatives (without_makers u) ≡ []
no_makers (union.TupleUnion n) = refl
no_makers union.ListUnion = refl
no_makers (union.Declared home name cs) = refl

none_are : (u : union.Union) (cs : List Alternative) → cs ≡ [] → AreConstructors u cs
none_are u cs e = subst (AreConstructors u) (sym e) tt

module _ (home : Name) (scope : Scope) (shows opens : Name → Bool) where
  one_has : (u : UnionDeclaration) → HasAll scope (tops home (union_makers u)) →
      HasAll scope (tops home (union_makers (offered_by opens u)))
  one_has u h = by (opens u.name)
    where
      by : (b : Bool) → HasAll scope (tops home (union_makers (if b then u else opaque u)))
      by true = h
      by false =
          subst (λ cs. HasAll scope (tops home (map (λ (c : Alternative). c.name) cs))) (sym (no_makers u.union))
          (none_there home scope)

  one_are : (u : UnionDeclaration) → AreConstructors u.union (declared_alternatives u.union) →
      AreConstructors (offered_by opens u).union (declared_alternatives (offered_by opens u).union)
  one_are u c = by (opens u.name)
    where
      by : (b : Bool) → AreConstructors (if b then u else opaque u).union
          (declared_alternatives (if b then u else opaque u).union)
      by true = c
      by false = none_are (opaque u).union (declared_alternatives (opaque u).union) (no_makers u.union)

  offered_has : (us : List UnionDeclaration) → HasAll scope (tops home (flat_map union_makers us)) →
      HasAll scope (tops home (flat_map union_makers (unions_by shows opens us)))
  offered_has [] h = h
  offered_has (u ∷ us) h =
      by (shows u.name) (offered_has us (tops_right home scope (union_makers u) (flat_map union_makers us) h))
    where
      rest : List UnionDeclaration
      rest = filter (λ (v : UnionDeclaration). shows v.name) us

      by : (b : Bool) → HasAll scope (tops home (flat_map union_makers (map (offered_by opens) rest))) →
          HasAll scope (tops home (flat_map union_makers (map (offered_by opens) (cond b (u ∷ rest) rest))))
      by true later =
          tops_both home scope (union_makers (offered_by opens u)) (flat_map union_makers (map (offered_by opens) rest))
          (one_has u (tops_left home scope (union_makers u) (flat_map union_makers us) h)) later
      by false later = later

  offered_are : (us : List UnionDeclaration) → AreUnions us → AreUnions (unions_by shows opens us)
  offered_are [] c = tt
  offered_are (u ∷ us) c = by (shows u.name) (offered_are us c.1)
    where
      rest : List UnionDeclaration
      rest = filter (λ (v : UnionDeclaration). shows v.name) us

      by : (b : Bool) → AreUnions (map (offered_by opens) rest) →
          AreUnions (map (offered_by opens) (cond b (u ∷ rest) rest))
      by true later = (one_are u c.0, later)
      by false later = later

  aliases_offered : (ds : List AliasDeclaration) → HasAll scope (tops home (flat_map alias_makers ds)) →
      HasAll scope (tops home (flat_map alias_makers (aliases_by shows ds)))
  aliases_offered [] h = h
  aliases_offered (a ∷ ds) h =
      by (shows a.name) (aliases_offered ds (tops_right home scope (alias_makers a) (flat_map alias_makers ds) h))
    where
      rest : List AliasDeclaration
      rest = filter (λ (b : AliasDeclaration). shows b.name) ds

      by : (b : Bool) → HasAll scope (tops home (flat_map alias_makers rest)) →
          HasAll scope (tops home (flat_map alias_makers (cond b (a ∷ rest) rest)))
      by true later =
          tops_both home scope (alias_makers a) (flat_map alias_makers rest)
          (tops_left home scope (alias_makers a) (flat_map alias_makers ds) h) later
      by false later = later

-- ---- unions without a text

bare_makers : (us : List UnionDeclaration) → AreBare us → flat_map union_makers us ≡ []
bare_makers [] b = refl
bare_makers (u ∷ us) b =
    ap (λ cs. map (λ (c : Alternative). c.name) cs ++ flat_map union_makers us) b.0 ∙ bare_makers us b.1

bare_are : (us vs : List UnionDeclaration) → AreBare us → AreUnions vs → AreUnions (us ++ vs)
bare_are [] vs b c = c
bare_are (u ∷ us) vs b c = (none_are u.union (declared_alternatives u.union) b.0, bare_are us vs b.1 c)

-- ---- what a module shows

pub offers : (s : Setting) (t : tree.Module) (m : canon.Module) (scope : Scope) → IsModule s t.declarations m →
    AreRead s.home t.declarations → AreBare s.given → HasAll scope (value_refs s.home t.declarations) →
    HasAll scope (maker_refs s.home t.declarations) → IsOffered s.home (module_shows s t m) scope
offers s t m scope is read bare values makers =
    let ds = t.declarations in
    let e = exposed_by t.head.header in
    let all = declared_by ds m in
    let w = module_world s.home (imported_rows s.imports) all in
    let has = makers_has s.home w (uses_in ds) scope ds all is.types.unions is.types.aliases makers in
    let us = flat_map union_makers m.unions in
    let of_aliases = flat_map alias_makers m.aliases in
    let given = flat_map-append union_makers s.given m.unions ∙ ap (λ xs. xs ++ us) (bare_makers s.given bare) in
    record {
      values = filtered s.home scope (exposes_value e) (map name_of (names_in ds).values) values;
      makers = tops_both s.home scope
          (flat_map union_makers (unions_by (exposes_type e) (exposes_makers e) (s.given ++ m.unions)))
          (flat_map alias_makers (aliases_by (exposes_type e) m.aliases))
          (offered_has s.home scope (exposes_type e) (exposes_makers e) (s.given ++ m.unions)
          (subst (λ xs. HasAll scope (tops s.home xs)) (sym given) (tops_left s.home scope us of_aliases has)))
          (aliases_offered s.home scope (exposes_type e) (exposes_makers e) m.aliases
          (tops_right s.home scope us of_aliases has));
      unions = offered_are s.home scope (exposes_type e) (exposes_makers e) (s.given ++ m.unions)
          (bare_are s.given m.unions bare
          (subst AreUnions (sym is.types.unions) (unions_are s.home w ds read.few)));
    }
