-- What a link takes of resolved modules is proper: `resolved_are_proper`.
use Rattle.std.proofs.Common.{◌≡◌, List, [], ◌∷◌, ◌++◌, map, Bool, true, false, Option, Some, None, refl, sym, ap, ◌∙◌}
use Rattle.std.proofs.Common.{subst}
use Rattle.std.proofs.Common.{◌⊎◌, inl, inr, ⊎_elim, ◌||◌, ℕ, zero, suc, codes}
use Rattle.std.specs.Prelude.{slice_get}
use Rattle.std.specs.List.{list_any, filter_map, cons_option}
use Rattle.std.proofs.lemmas.Bool.{false≢true}
use Rattle.decl_groups.proofs.Ordering.{not_true}
use Rattle.elm_canon.specs.Names.{Name, same_name}
use Rattle.elm_canon.specs.Tree.{Declaration, Given, Define, Together, Constant, Destructure}
use Rattle.elm_canon.specs.Tree.{OutPort, InPort, Maker, RecordMaker}
use Rattle.elm_canon.specs.declared.reference.Ref.{Ref}
use Rattle.elm_canon.specs.declared.reference.Ref.TheVariants.{Local, Top}
use Rattle.elm_meaning.specs.Functions.{Primitive}
use Rattle.elm_canon.specs.Proper.{Scope, among, IsIn, with_all, AreFresh}
use Rattle.elm_canon.specs.Declarations.{ProperDeclaration, ProperDeclarations, declared_names}
use Rattle.canon_proper.proofs.Apart.{fresh_join, in_either, in_left, in_right}
use Rattle.module_proper.specs.Inside.{AllInside}
use Rattle.emit_laws.specs.Programs.{primitive_scope}
use Rattle.emit_size_laws.specs.Small.{PortsHaveFields}
use Rattle.emit_size_laws.specs.Programs.{AllSpelled}
use Rattle.link.specs.Cores.{core_of, kept_by, others}
use Rattle.link.specs.Programs.{Source}
use Rattle.project_proper.specs.Modules.{AreProper, AreApart, PortsAreWords, whole_scope, cores_of, refs_of}
use Rattle.project_proper.specs.Modules.{declarations_of}
use Rattle.project_proper.proofs.Sublists.{names_all, names_sub, fresh_sub, payloads_sub, among_sub}
use Rattle.project_proper.proofs.Left.{in_with, in_front, after_in, after_names, after_only, all_new}
use Rattle.project_proper.proofs.Whole.{links_proper}
use Rattle.module_proper.specs.Modules.{value_refs}
use Rattle.project_proper.proofs.Ports.{fields_sub, sub_ports}
use Rattle.project_proper.specs.Resolved.{Resolved, source_of, all_declarations, scope_after, HomesApart, AreResolved}
use Rattle.project_proper.specs.Resolved.{ResolvedAreProper, ResolvedLinks, ValuesInScope}
use Rattle.project_proper.proofs.Moved.{core_refs, core_names, others_sub, cores_sub, cores_spelled, AreBoth, moved}
use Rattle.project_proper.proofs.First.{home_of, owned_of, in_scope, in_scope_of, AllFit, Good, nothing_good}
use Rattle.project_proper.proofs.First.{names_left, names_right}
use Rattle.project_proper.proofs.First.{all_good}
use Rattle.project_proper.proofs.Second.{all_inside}
use Rattle.project_proper.proofs.Flags.{words_are_fields}

-- ---- lists of declarations, one after the other

others_both : (ds es : List Declaration) → others (ds ++ es) ≡ others ds ++ others es
others_both [] es = refl
others_both (d ∷ ds) es = by (core_of d) (others_both ds es)
  where
    by : (o : Option (Ref × Primitive)) → others (ds ++ es) ≡ others ds ++ others es →
        kept_by o d (others (ds ++ es)) ≡ kept_by o d (others ds) ++ others es
    by None h = ap (λ fs. d ∷ fs) h
    by (Some p) h = h

cores_both : (ds es : List Declaration) →
    filter_map core_of (ds ++ es) ≡ filter_map core_of ds ++ filter_map core_of es
cores_both [] es = refl
cores_both (d ∷ ds) es = by (core_of d) (cores_both ds es)
  where
    by : (o : Option (Ref × Primitive)) → filter_map core_of (ds ++ es) ≡ filter_map core_of ds ++ filter_map core_of es
        →
        cons_option o (filter_map core_of (ds ++ es)) ≡ cons_option o (filter_map core_of ds) ++ filter_map core_of es
    by None h = h
    by (Some p) h = ap (λ ps. p ∷ ps) h

taken_declarations : (rs : List Resolved) → declarations_of (map source_of rs) ≡ others (all_declarations rs)
taken_declarations [] = refl
taken_declarations (r ∷ rs) =
    ap (λ ds. others r.whole.declarations ++ ds) (taken_declarations rs)
    ∙ sym (others_both r.whole.declarations (all_declarations rs))

taken_cores : (rs : List Resolved) → cores_of (map source_of rs) ≡ filter_map core_of (all_declarations rs)
taken_cores [] = refl
taken_cores (r ∷ rs) =
    ap (λ cs. filter_map core_of r.whole.declarations ++ cs) (taken_cores rs)
    ∙ sym (cores_both r.whole.declarations (all_declarations rs))

payloads_first : (d : Declaration) (ds es : List Declaration) → PortsHaveFields (d ∷ ds) →
    (PortsHaveFields ds → PortsHaveFields (ds ++ es)) → PortsHaveFields (d ∷ ds ++ es)
payloads_first (Given r (Maker a)) ds es p f = f p
payloads_first (Given r (RecordMaker ks)) ds es p f = f p
payloads_first (Given r (OutPort x t)) ds es p f = (p.0, f p.1)
payloads_first (Given r (InPort x t)) ds es p f = (p.0, f p.1)
payloads_first (Define g) ds es p f = f p

payloads_both : (ds es : List Declaration) → PortsHaveFields ds → PortsHaveFields es → PortsHaveFields (ds ++ es)
payloads_both [] es p q = q
payloads_both (d ∷ ds) es p q = payloads_first d ds es p (λ h. payloads_both ds es h q)

all_payloads : (rs : List Resolved) → AllFit rs → PortsHaveFields (all_declarations rs)
all_payloads [] f = tt
all_payloads (r ∷ rs) f = payloads_both r.whole.declarations (all_declarations rs) f.0.payloads (all_payloads rs f.1)

all_ports : (rs : List Resolved) → AllFit rs → PortsAreWords (map source_of rs)
all_ports [] f = tt
all_ports (r ∷ rs) f = (fields_sub (sub_ports (others_sub r.whole.declarations)) f.0.ports, all_ports rs f.1)

-- ---- names

not_named : (home : Name) (rs : List Resolved) → AllFit rs → list_any (λ q. same_name home (home_of q)) rs ≡ false →
    list_any (λ (t : Source). same_name home t.tree.name) (map source_of rs) ≡ false
not_named home [] f e = refl
not_named home (r ∷ rs) f e =
    by (same_name home (home_of r)) (list_any (λ q. same_name home (home_of q)) rs) refl refl e (not_named home rs f.1)
  where
    by : (b c : Bool) → same_name home (home_of r) ≡ b → list_any (λ q. same_name home (home_of q)) rs ≡ c →
        (b || c) ≡ false → (list_any (λ q. same_name home (home_of q)) rs ≡ false →
        list_any (λ (t : Source). same_name home t.tree.name) (map source_of rs) ≡ false) →
        (same_name home r.whole.name || list_any (λ (t : Source). same_name home t.tree.name) (map source_of rs)) ≡
        false
    by true c h k e rest = absurd (false≢true (sym e))
    by false c h k e rest =
        ap (λ b. b || list_any (λ (t : Source). same_name home t.tree.name) (map source_of rs))
        (ap (same_name home) f.0.is.name ∙ h) ∙ rest (k ∙ e)

all_apart : (rs : List Resolved) → AllFit rs → HomesApart rs → AreApart (map source_of rs)
all_apart [] f h = tt
all_apart (r ∷ rs) f h = (
  not_named r.whole.name rs f.1
      (ap (λ m. list_any (λ q. same_name m (home_of q)) rs) f.0.is.name ∙ h.0),
  all_apart rs f.1 h.1,
)

one_fresh : (d : Declaration) (scope : Scope) → ProperDeclaration scope d → AreFresh (declared_names d) scope
one_fresh (Given r k) scope p = (p.1.0, tt)
one_fresh (Define (Together fs)) scope p = p.1.0
one_fresh (Define (Constant title e)) scope p = (p.1.1.0, tt)
one_fresh (Define (Destructure x e)) scope p = absurd (false≢true (sym p.0))

all_fresh : (ds : List Declaration) (scope : Scope) → ProperDeclarations scope ds → AreFresh (names_all ds) scope
all_fresh [] scope p = tt
all_fresh (d ∷ ds) scope p =
    fresh_join (declared_names d) (names_all ds) scope (one_fresh d scope p.0)
    (all_fresh ds (with_all (declared_names d) scope) p.1)

-- the names in front are none of the others'
apart_from : (ds : List Declaration) (scope : Scope) → ProperDeclarations scope ds → (r : Ref) →
    IsIn r (names_all (others ds)) → IsIn r (core_refs ds) → ⊥
apart_from [] scope p r e k = false≢true e
apart_from (d ∷ ds) scope p r e k =
    by (core_of d) refl e k (apart_from ds (with_all (declared_names d) scope) p.1 r)
  where
    later_new : IsIn r (names_all ds) → IsIn r (declared_names d) → ⊥
    later_new l m =
        false≢true (sym (all_new ds (with_all (declared_names d) scope) p.1 r l) ∙ in_front r (declared_names d) scope
        m)

    by : (o : Option (Ref × Primitive)) → core_of d ≡ o → IsIn r (names_all (kept_by o d (others ds))) →
        IsIn r (map (λ (c : Ref × Primitive). c.0) (cons_option o (filter_map core_of ds))) →
        (IsIn r (names_all (others ds)) → IsIn r (core_refs ds) → ⊥) → ⊥
    by None h e k rest =
        ⊎_elim (λ m. later_new (among_sub (cores_sub ds) r k) m) (λ m. rest m k)
        (in_either r (declared_names d) (names_all (others ds)) e)
    by (Some x) h e k rest =
        ⊎_elim
        (λ m. later_new (names_sub (others_sub ds) r e) (subst (IsIn r) (sym (core_names d x h)) m))
        (λ m. rest e m) (in_either r (x.0 ∷ []) (core_refs ds) k)

-- ---- all

module _ (rs : List Resolved) (a : AreResolved rs) where
  abbrev ds : List Declaration
  ds = all_declarations rs

  abbrev w : Scope
  w = scope_after rs

  abbrev cores : List Ref
  cores = core_refs ds

  good : Good rs
  good = all_good rs [] nothing_good a.each a.apart

  inside : AllInside w ds
  inside = all_inside rs [] nothing_good a.each a.apart good.owned

  core_named : (r : Ref) → IsIn r cores → IsIn r (names_all ds)
  core_named r e = among_sub (cores_sub ds) r e

  no_locals : (x : Name) → among (Local x) w ≡ false
  no_locals x = not_true (among (Local x) w) (λ e. false≢true (in_scope_of rs good.owned (Local x) e))

  both : AreBoth w cores no_locals [] (with_all cores [])
  both = record {
    within = λ r e. ⊎_elim (λ k. in_scope rs r (core_named r k)) (λ k. absurd (false≢true k)) (in_with r cores [] e);
    has = λ r e. absurd (false≢true e);
    only = λ r e. ⊎_elim inr (λ k. absurd (false≢true k)) (in_with r cores [] e);
    front = λ r e. in_front r cores [] e;
  }

  others_proper : ProperDeclarations (with_all cores []) (others ds)
  others_proper =
      moved w cores no_locals ds [] (with_all cores []) both good.proper inside (λ r k. k)
      (λ r k. not_true (among r cores) (λ m. apart_from ds [] good.proper r k m))
      (λ r k. in_scope rs r (names_sub (others_sub ds) r k))

  same_cores : refs_of (cores_of (map source_of rs)) ≡ cores
  same_cores = ap refs_of (taken_cores rs)

  declarations : ProperDeclarations (primitive_scope (cores_of (map source_of rs))) (declarations_of (map source_of rs))
  declarations =
      subst (λ xs. ProperDeclarations (with_all xs []) (declarations_of (map source_of rs))) (sym same_cores)
      (subst (ProperDeclarations (with_all cores [])) (sym (taken_declarations rs)) others_proper)

  no_whole_locals : (x : Name) → among (Local x) (whole_scope (map source_of rs)) ≡ false
  no_whole_locals x =
      not_true (among (Local x) (whole_scope (map source_of rs)))
      (λ e. ⊎_elim
      (λ k. no_name (names_sub (others_sub ds) (Local x)
      (subst (λ es. IsIn (Local x) (names_all es)) (taken_declarations rs) k)))
      (λ k. ⊎_elim (λ l. no_name (core_named (Local x) (subst (IsIn (Local x)) same_cores l)))
      (λ l. false≢true l) (in_with (Local x) (refs_of (cores_of (map source_of rs))) [] k))
      (after_only (declarations_of (map source_of rs)) (primitive_scope (cores_of (map source_of rs))) (Local x) e))
    where
      no_name : IsIn (Local x) (names_all ds) → ⊥
      no_name k = false≢true (owned_of rs good.owned (Local x) k)

  pub taken_proper : AreProper (map source_of rs)
  taken_proper = record {
    apart = all_apart rs good.fit a.apart;
    fresh =
        subst (λ xs. AreFresh xs []) (sym same_cores)
        (fresh_sub (cores_sub ds) [] [] (λ r e. e) (all_fresh ds [] good.proper));
    spelled = subst AllSpelled (sym same_cores) (cores_spelled ds [] good.proper);
    declarations = declarations;
    no_locals = no_whole_locals;
    payloads =
        subst PortsHaveFields (sym (taken_declarations rs)) (payloads_sub (others_sub ds) (all_payloads rs good.fit));
    ports = all_ports rs good.fit;
  }

pub resolved_are_proper : ResolvedAreProper
resolved_are_proper rs a = taken_proper rs a

-- ---- the entry

-- a name of the declarations is one of the core, or one of the others
either_named : (ds : List Declaration) (x : Ref) → IsIn x (names_all ds) →
    IsIn x (core_refs ds) ⊎ IsIn x (names_all (others ds))
either_named [] x e = absurd (false≢true e)
either_named (d ∷ ds) x e = by (core_of d) refl (in_either x (declared_names d) (names_all ds) e) (either_named ds x)
  where
    by : (o : Option (Ref × Primitive)) → core_of d ≡ o → IsIn x (declared_names d) ⊎ IsIn x (names_all ds) →
        (IsIn x (names_all ds) → IsIn x (core_refs ds) ⊎ IsIn x (names_all (others ds))) →
        IsIn x (map (λ (c : Ref × Primitive). c.0) (cons_option o (filter_map core_of ds)))
        ⊎ IsIn x (names_all (kept_by o d (others ds)))
    by None h (inl k) rest = inr (in_left x (declared_names d) (names_all (others ds)) k)
    by None h (inr k) rest = ⊎_elim inl (λ l. inr (in_right x (declared_names d) (names_all (others ds)) l)) (rest k)
    by (Some p) h (inl k) rest = inl (in_left x (p.0 ∷ []) (core_refs ds) (subst (IsIn x) (core_names d p h) k))
    by (Some p) h (inr k) rest = ⊎_elim (λ l. inl (in_right x (p.0 ∷ []) (core_refs ds) l)) inr (rest k)

-- what modules declare is in the whole scope of what is taken of them
whole_named : (rs : List Resolved) (x : Ref) → IsIn x (names_all (all_declarations rs)) →
    IsIn x (whole_scope (map source_of rs))
whole_named rs x e =
    let ds = declarations_of (map source_of rs) in
    let cs = primitive_scope (cores_of (map source_of rs)) in
    ⊎_elim
    (λ k. after_in ds cs x (in_front x (refs_of (cores_of (map source_of rs))) []
    (subst (IsIn x) (sym (ap refs_of (taken_cores rs))) k)))
    (λ k. after_names ds cs x (subst (λ es. IsIn x (names_all es)) (sym (taken_declarations rs)) k))
    (either_named (all_declarations rs) x e)

module_named : (rs : List Resolved) (i : ℕ) (r : Resolved) → AllFit rs → slice_get rs i ≡ Some r → (x : Ref) →
    IsIn x (value_refs (home_of r) r.written.declarations) → IsIn x (names_all (all_declarations rs))
module_named [] i r f e x k = absurd cc
module_named (q ∷ rs) zero r f e x k =
    let h : q ≡ r = cc in
    names_left x q.whole.declarations (all_declarations rs)
    (f.0.values x (subst (λ (z : Resolved). IsIn x (value_refs (home_of z) z.written.declarations)) (sym h) k))
module_named (q ∷ rs) (suc i) r f e x k =
    names_right x q.whole.declarations (all_declarations rs) (module_named rs i r f.1 e x k)

home_at : (rs : List Resolved) (i : ℕ) (r : Resolved) → AllFit rs → slice_get rs i ≡ Some r →
    r.whole.name ≡ home_of r
home_at [] i r f e = absurd cc
home_at (q ∷ rs) zero r f e = let h : q ≡ r = cc in subst (λ (z : Resolved). z.whole.name ≡ home_of z) h f.0.is.name
home_at (q ∷ rs) (suc i) r f e = home_at rs i r f.1 e

source_at : (rs : List Resolved) (i : ℕ) (r : Resolved) → slice_get rs i ≡ Some r →
    slice_get (map source_of rs) i ≡ Some (source_of r)
source_at [] i r e = absurd cc
source_at (q ∷ rs) zero r e = let h : q ≡ r = cc in ap (λ z. Some (source_of z)) h
source_at (q ∷ rs) (suc i) r e = source_at rs i r e

pub resolved_links : ResolvedLinks
resolved_links rs i r o a at m linked =
    let fit = (good rs a).fit in
    let main = codes "main" in
    links_proper (map source_of rs) i (source_of r) o (taken_proper rs a)
    (record {
      main = λ t. subst (λ k. IsIn (Top k main) (whole_scope (map source_of rs))) (sym (home_at rs i r fit at))
          (whole_named rs (Top (home_of r) main) (module_named rs i r fit at (Top (home_of r) main) (m t)));
      flags = words_are_fields r.main;
    })
    (source_at rs i r at) linked

pub values_in_scope : ValuesInScope
values_in_scope rs i r x a at e = in_scope rs x (module_named rs i r (good rs a).fit at x e)
