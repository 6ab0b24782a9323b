-- What a module has that lacks nothing: `facts_hold`.
use Rattle.std.proofs.Common.{◌≡◌, List, [], ◌∷◌, ◌++◌, Bool, true, false, Option, Some, None, inl, inr, refl, sym, ap}
use Rattle.std.proofs.Common.{◌∙◌, subst, ⊎_elim}
use Rattle.std.specs.Prelude.{flat_map, if◌then◌else◌, ◌||◌, ◌&&◌, not}
use Rattle.std.specs.List.{list_any}
use Rattle.std.proofs.lemmas.Bool.{false≢true}
use Rattle.decl_groups.proofs.Reaching.{or_cases}
use Rattle.elm_canon.specs.Names.{Name, same_name, same_ref}
use Rattle.elm_canon.specs.Unions.{Declared}
use Rattle.elm_canon.specs.declared.unions.Alternative.{Alternative}
use Rattle.elm_canon.specs.declared.reference.Ref.TheVariants.{Top}
use Rattle.elm_canon.specs.Tree.{Annotation, Title, Declaration, UnionDeclaration, Module}
use Rattle.canon_env.specs.declared.finding.Finding.{Finding}
use Rattle.canon_proper.proofs.Quiet.{append_none}
use Rattle.canon_proper.proofs.Scopes.{name_itself}
use Rattle.elm_base.specs.declared.fault.Code.TheVariants.{UnknownType, DuplicateName, TypeMismatch}
use Rattle.typed_values.specs.World.{Among}
use Rattle.core_modules.specs.Signs.{Sign, spelled, union_spelled, same_signs}
use Rattle.core_modules.specs.Table.{UnionRow, union_rows, BareRow, bare_rows, FunctionRow, function_rows}
use Rattle.core_modules.specs.Facts.{core_faults, fault_of, declares, has_union, lack_of_union, union_faults, has_type}
use Rattle.core_modules.specs.Facts.{bare_faults, is_annotated, is_mistyped, row_faults}
use Rattle.core_modules.specs.Facts.{title_faults, titles_of, declared_faults}
use Rattle.told_modules.specs.Facts.{HasFacts, FactsHold}
use Rattle.told_modules.proofs.Spelled.{same_type, same_declared}

-- of one of a list nothing is found
none_of : {X : Type 0} (f : X → List Finding) (xs : List X) (x : X) → flat_map f xs ≡ [] → Among x xs → f x ≡ []
none_of f [] x e a = absurd a
none_of f (y ∷ xs) x e (inl h) =
    subst (λ z. f z ≡ []) (sym h) (append_none (f y) (flat_map f xs) e).0
none_of f (y ∷ xs) x e (inr h) = none_of f xs x (append_none (f y) (flat_map f xs) e).1 h

-- a name is itself
itself : (x y : Name) → x ≡ y → same_name x y ≡ true
itself x y e = subst (λ z. same_name x z ≡ true) e (name_itself x)

-- one of a list passes the test
found : {X : Type 0} (p : X → Bool) (xs : List X) → list_any p xs ≡ true → (x : X) × Among x xs × (p x ≡ true)
found p [] e = absurd (false≢true e)
found p (x ∷ xs) e =
    ⊎_elim (λ h. (x, inl refl, h)) (λ h. (let r = found p xs h in (r.0, inr r.1, r.2)))
    (or_cases (p x) (list_any p xs) e)

passed : {X : Type 0} (p : X → Bool) (xs : List X) (x : X) → Among x xs → p x ≡ true → list_any p xs ≡ true
passed p [] x a e = absurd a
passed p (y ∷ xs) x (inl h) e = ap (λ b. b || list_any p xs) (subst (λ z. p z ≡ true) h e)
passed p (y ∷ xs) x (inr h) e = by (p y) (passed p xs x h e)
  where
    by : (b : Bool) → list_any p xs ≡ true → (b || list_any p xs) ≡ true
    by true h = refl
    by false h = h

module _ (m : Module) (e : core_faults m ≡ []) where
  abbrev us : List Finding
  us = flat_map (union_faults m) union_rows

  abbrev bs : List Finding
  bs = flat_map (bare_faults m) bare_rows

  abbrev ds : List Finding
  ds = flat_map declared_faults m.declarations

  nothing : us ++ bs ++ ds ≡ []
  unfolding core_faults
  nothing = e

  parts : ((us ≡ []) × (bs ≡ [])) × (ds ≡ [])
  parts = let p = append_none (us ++ bs) ds nothing in (append_none us bs p.0, p.1)

  -- ---- unions

  declared_there : (home x : Name) (s : List Sign) → lack_of_union m home x s ≡ [] → m.name ≡ home →
      declares m s ≡ true
  declared_there home x s none is =
      by (declares m s) refl (ap (λ b. if b then declares m s else true) (itself m.name home is))
    where
      by : (b : Bool) → declares m s ≡ b → has_union m home s ≡ declares m s → declares m s ≡ true
      by true h k = h
      by false h k = absurd (some (has_union m home s) (k ∙ h) none)
        where
          some : (c : Bool) → c ≡ false → (if c then [] else fault_of UnknownType x) ≡ [] → ⊥
          some true f g = absurd (false≢true (sym f))
          some false f g = (let z : fault_of UnknownType x ≡ [] = g in cc)

  union_there : (r : UnionRow) (n y : Name) (cs : List Alternative) → Among r union_rows →
      r.declared.union ≡ Declared n y cs → m.name ≡ r.home → Among r.declared m.unions
  union_there r n y cs a is named =
      let none = none_of (union_faults m) union_rows r parts.0.0 a in
      let one = found (λ u. same_signs (union_spelled u) (union_spelled r.declared)) m.unions
      (declared_there r.home r.declared.name (union_spelled r.declared) none named) in
      subst (λ u. Among u m.unions) (same_declared one.0 r.declared n y cs is one.2) one.1

  -- each row declares a union of its module
  all_there : (r : UnionRow) → Among r union_rows → m.name ≡ r.home → Among r.declared m.unions
  all_there r (inl h) = union_there r _ _ _ (inl h) (ap (λ z. z.declared.union) h)
  all_there r (inr (inl h)) = union_there r _ _ _ (inr (inl h)) (ap (λ z. z.declared.union) h)
  all_there r (inr (inr (inl h))) = union_there r _ _ _ (inr (inr (inl h))) (ap (λ z. z.declared.union) h)
  all_there r (inr (inr (inr (inl h)))) = union_there r _ _ _ (inr (inr (inr (inl h)))) (ap (λ z. z.declared.union) h)
  all_there r (inr (inr (inr (inr (inl h))))) = union_there r _ _ _ (inr (inr (inr (inr (inl h))))) (ap (λ z. z.declared.union) h)
  all_there r (inr (inr (inr (inr (inr (inl h)))))) = union_there r _ _ _ (inr (inr (inr (inr (inr (inl h)))))) (ap (λ z. z.declared.union) h)
  all_there r (inr (inr (inr (inr (inr (inr h)))))) = absurd h

  -- ---- types without a text

  no_bare : (r : BareRow) → Among r bare_rows → m.name ≡ r.home → (u : UnionDeclaration) → Among u m.unions
      → u.name ≡ r.name → ⊥
  no_bare r a is u b named =
      some (has_type m r.home r.name)
      (ap (λ c. if c then list_any (λ v. same_name v.name r.name) m.unions else false) (itself m.name r.home is)
      ∙ passed (λ v. same_name v.name r.name) m.unions u b (itself u.name r.name named))
      (none_of (bare_faults m) bare_rows r parts.0.1 a)
    where
      some : (c : Bool) → c ≡ true → (if c then fault_of DuplicateName r.name else []) ≡ [] → ⊥
      some true f g = (let z : fault_of DuplicateName r.name ≡ [] = g in cc)
      some false f g = absurd (false≢true f)

  -- ---- functions

  annotated : (type : Annotation) (o : Option Annotation) → is_annotated (spelled type) o ≡ true → o ≡ Some type
  annotated type None h = absurd (false≢true h)
  annotated type (Some t) h = ap (λ z. Some z) (same_type t type h)

  typed : (d : Declaration) (t : Title) (r : FunctionRow) → Among d m.declarations → Among t (titles_of d)
      → Among r function_rows → t.name ≡ Top r.home r.name → t.annotation ≡ Some r.type
  typed d t r a b c named =
      annotated r.type t.annotation (by (is_annotated (spelled r.type) t.annotation) refl)
    where
      none : row_faults t r ≡ []
      none =
          none_of (row_faults t) function_rows r
          (none_of title_faults (titles_of d) t (none_of declared_faults m.declarations d parts.1 a) b) c

      same : same_ref t.name (Top r.home r.name) ≡ true
      same = subst (λ z. same_ref z (Top r.home r.name) ≡ true) (sym named) (both (name_itself r.home) (name_itself r.name))
        where
          both : same_name r.home r.home ≡ true → same_name r.name r.name ≡ true →
              same_ref (Top r.home r.name) (Top r.home r.name) ≡ true
          both f g = ap (λ x. x && same_name r.name r.name) f ∙ g

      mistyped : is_mistyped t r.home r.name (spelled r.type) ≡ not (is_annotated (spelled r.type) t.annotation)
      mistyped = ap (λ x. if x then not (is_annotated (spelled r.type) t.annotation) else false) same

      some : (x : Bool) → x ≡ true → (if x then fault_of TypeMismatch r.name else []) ≡ [] → ⊥
      some true f g = (let z : fault_of TypeMismatch r.name ≡ [] = g in cc)
      some false f g = absurd (false≢true f)

      by : (x : Bool) → is_annotated (spelled r.type) t.annotation ≡ x → is_annotated (spelled r.type) t.annotation ≡ true
      by true h = h
      by false h = absurd (some (is_mistyped t r.home r.name (spelled r.type)) (mistyped ∙ ap not h) none)

  pub facts : HasFacts m
  facts = record { unions = all_there; bare = no_bare; functions = typed }

pub facts_hold : FactsHold
facts_hold m e = facts m e
