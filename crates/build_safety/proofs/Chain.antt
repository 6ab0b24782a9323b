-- The modules of a build that are all good, compiled one after another: `builds_compiled`.
use Rattle.std.proofs.Common.{◌≡◌, ℕ, zero, suc, ◌<◌, List, [], ◌∷◌, ◌++◌, map, length, Bool, true, false, refl}
use Rattle.std.proofs.Common.{sym, ap, ◌∙◌, subst, Some, None, codes, arith, append-nil, append_assoc}
use Rattle.std.specs.Prelude.{Option, reverse, option_map, slice_get, if◌then◌else◌}
use Rattle.std.specs.List.{AllByRecursion, filter_map, cons_option, zip}
use Rattle.std.specs.Map.{lookup}
use Rattle.std.specs.Str.Lossy.{utf8_lossy}
use Rattle.std.proofs.lemmas.List.{length-map, map-append, reverse-append}
use Rattle.decl_groups.specs.Groups.{list_at}
use Rattle.elm_base.specs.Units.{text_units}
use Rattle.elm_tree.specs.Tree as tree
use Rattle.elm_canon.specs.Names.{Name, same_name}
use Rattle.elm_canon.specs.Tree as canon
use Rattle.canon_env.proofs.Adding.{one_name}
use Rattle.canon_module.specs.Resolve.{IsModule, module_shows}
use Rattle.link.specs.Cores.{cores_of, without_cores}
use Rattle.core_modules.specs.Given.{opaque_type, given_types}
use Rattle.link.specs.Fragments.{Fragment}
use Rattle.link.specs.Made.{fragment_of}
use Rattle.interface.specs.Interface.{Interface}
use Rattle.pattern_check.specs.Faults as patterns
use Rattle.type_items.specs.Inferred.{Schemes}
use Rattle.link.specs.Link as linked
use Rattle.link.specs.Programs.{part_of}
use Rattle.import_graph.specs.Fold.{values_at}
use Rattle.module_made.specs.Around.{Around, found_in, in_project, in_core, setting_of}
use Rattle.module_made.specs.Made.{Value, Good, Blocked, Made, IsTyped}
use Rattle.module_made.specs.Made as made
use Rattle.module_offers.specs.Offers.{Interfaces, main_type, module_interface}
use Rattle.project_parts.specs.Modules.{Part, name_of, graph_of, good_interfaces, by_name, around, CompilesWith}
use Rattle.project_parts.specs.Modules.{imported_homes, imported_names, number_of, CompilesAmong, Values}
use Rattle.project_parts.specs.Modules as build
use Rattle.project_parts.specs.Outcomes.{linked_parts}
use Rattle.project_proper.specs.Resolved.{Resolved, source_of, IsNext, AreNext, AreResolved}
use Rattle.project_parts.specs.Laws.{Fits, IsBuild}
use Rattle.project_parts.specs.Laws.{HomesApart as Apart}
use Rattle.project_proper.specs.Builds.{interface_by, IsBuilt, AreBuilt}
use Rattle.project_proper.proofs.Next.{AreOf, next}
use Rattle.project_proper.proofs.Chain.{got_or, next_more, homes_apart, apart_left, around_home, around_interfaces}
use Rattle.project_proper.proofs.Chain.{around_plain, AllGood, IsGood, linked_good, same_parts, main_at}
use Rattle.told_modules.specs.Offers.{HaveNoFields}
use Rattle.build_safety.specs.Compiled.{Compiled, home_of, resolved_of, IsOffered, IsCompiled, AreCompiled}
use Rattle.build_safety.proofs.Among.{get_left, get_here}
use Rattle.build_safety.specs.Builds.{Builds, BuildsAreCompiled}

-- ---- modules that were made

-- with the types of its definitions
record IsMadeOf (p : Part) (v : Value) (c : Compiled) : Type 0 where
  built : IsBuilt p v c.resolved
  told : built.told ≡ c.told

abbrev AreMadeOf : List Part → List Value → List Compiled → Type 0
AreMadeOf [] [] [] = Unit {0}
AreMadeOf (p ∷ ps) (v ∷ vs) (c ∷ cs) = IsMadeOf p v c × AreMadeOf ps vs cs
AreMadeOf _ _ _ = ⊥

all_built : (ps : List Part) (vs : List Value) (cs : List Compiled) → AreMadeOf ps vs cs →
    AreBuilt ps vs (resolved_of cs)
all_built [] [] [] b = tt
all_built [] [] (c ∷ cs) b = absurd b
all_built [] (v ∷ vs) cs b = absurd b
all_built (p ∷ ps) [] cs b = absurd b
all_built (p ∷ ps) (v ∷ vs) [] b = absurd b
all_built (p ∷ ps) (v ∷ vs) (c ∷ cs) b = (b.0.built, all_built ps vs cs b.1)

made_more : (ps : List Part) (vs : List Value) (cs : List Compiled) (p : Part) (v : Value) (c : Compiled) →
    AreMadeOf ps vs cs → IsMadeOf p v c → AreMadeOf (ps ++ p ∷ []) (vs ++ v ∷ []) (cs ++ c ∷ [])
made_more [] [] [] p v c b m = (m, tt)
made_more [] [] (d ∷ cs) p v c b m = absurd b
made_more [] (w ∷ vs) cs p v c b m = absurd b
made_more (q ∷ ps) [] cs p v c b m = absurd b
made_more (q ∷ ps) (w ∷ vs) [] p v c b m = absurd b
made_more (q ∷ ps) (w ∷ vs) (d ∷ cs) p v c b m = (b.0, made_more ps vs cs p v c b.1 m)

same_count : (ps : List Part) (vs : List Value) (cs : List Compiled) → AreMadeOf ps vs cs → length vs ≡ length ps
same_count [] [] [] b = refl
same_count [] [] (c ∷ cs) b = absurd b
same_count [] (v ∷ vs) cs b = absurd b
same_count (p ∷ ps) [] cs b = absurd b
same_count (p ∷ ps) (v ∷ vs) [] b = absurd b
same_count (p ∷ ps) (v ∷ vs) (c ∷ cs) b = ap (λ n. suc n) (same_count ps vs cs b.1)

-- one of them
record At (ps : List Part) (vs : List Value) (cs : List Compiled) (j : ℕ) : Type 0 where
  p : Part
  v : Value
  c : Compiled
  part : slice_get ps j ≡ Some p
  value : slice_get vs j ≡ Some v
  compiled : slice_get cs j ≡ Some c
  is_made : IsMadeOf p v c

made_at : (ps : List Part) (vs : List Value) (cs : List Compiled) (j : ℕ) → AreMadeOf ps vs cs → j < length ps →
    At ps vs cs j
made_at [] vs cs j b l = absurd (omega (arith, l))
made_at (p ∷ ps) [] cs j b l = absurd b
made_at (p ∷ ps) (v ∷ vs) [] j b l = absurd b
made_at (p ∷ ps) (v ∷ vs) (c ∷ cs) zero b l =
    record { p = p; v = v; c = c; part = refl; value = refl; compiled = refl; is_made = b.0 }
made_at (p ∷ ps) (v ∷ vs) (c ∷ cs) (suc j) b l =
    let h = made_at ps vs cs j b.1 (omega (arith, l)) in
    record { p = h.p; v = h.v; c = h.c; part = h.part; value = h.value; compiled = h.compiled; is_made = h.is_made }

resolved_at : (cs : List Compiled) (j : ℕ) (c : Compiled) → slice_get cs j ≡ Some c →
    slice_get (resolved_of cs) j ≡ Some c.resolved
resolved_at [] j c e = absurd cc
resolved_at (d ∷ cs) zero c e = let h : d ≡ c = cc in ap (λ (z : Compiled). Some z.resolved) h
resolved_at (d ∷ cs) (suc j) c e = resolved_at cs j c e

module_at : (before rs : List Resolved) (j : ℕ) (r : Resolved) → AreNext before rs → slice_get rs j ≡ Some r →
    IsModule r.setting r.written.declarations r.whole
module_at before [] j r a e = absurd cc
module_at before (s ∷ rs) zero r a e =
    let h : s ≡ r = cc in
    subst (λ (z : Resolved). IsModule z.setting z.written.declarations z.whole) h a.0.is
module_at before (s ∷ rs) (suc j) r a e = module_at (before ++ s ∷ []) rs j r a.1 e

compiled_more : (before cs : List Compiled) (c : Compiled) → AreCompiled before cs → IsCompiled (before ++ cs) c →
    AreCompiled before (cs ++ c ∷ [])
compiled_more before [] c a n = (subst (λ ds. IsCompiled ds c) (append-nil before) n, tt)
compiled_more before (d ∷ cs) c a n = (
  a.0,
  compiled_more (before ++ d ∷ []) cs c a.1 (subst (λ ds. IsCompiled ds c) (sym (append_assoc before (d ∷ []) cs)) n),
)

-- ---- what a module is compiled in

abbrev AreOffered : List Compiled → Interfaces → Type 0
AreOffered cs interfaces = (x : Name) (i : Interface) → interfaces x ≡ Some i → IsOffered cs x i

as_resolved : (cs : List Compiled) (interfaces : Interfaces) → AreNext [] (resolved_of cs) → AreOffered cs interfaces →
    AreOf (resolved_of cs) interfaces
as_resolved cs interfaces all of x i e =
    let o = of x i e in
    let at = resolved_at cs o.place o.by o.at in record {
      place = o.place;
      r = o.by.resolved;
      told = o.by.told;
      at = at;
      is = module_at [] (resolved_of cs) o.place o.by.resolved all at;
      home = o.home;
      interface = o.is;
    }

no_fields : (home : Name) → HaveNoFields (given_types home)
no_fields home =
    by (same_name home (codes "Basics")) (same_name home (codes "Char")) (same_name home (codes "List"))
    (same_name home (codes "String"))
  where
    by : (b c l s : Bool) → HaveNoFields (if b then opaque_type home (codes "Int") [] ∷ []
        else (if c then opaque_type home (codes "Char") [] ∷ []
        else (if l then opaque_type home (codes "List") (codes "a" ∷ []) ∷ []
        else (if s then opaque_type home (codes "String") [] ∷ [] else []))))
    by true c l s = (refl, tt)
    by false true l s = (refl, tt)
    by false false true s = (refl, tt)
    by false false false true = (refl, tt)
    by false false false false = tt

given_none : (p : Part) (is : List (Name × Interface)) → HaveNoFields (around p is).given
given_none p is = by p.is_core
  where
    by : (b : Bool) →
        HaveNoFields ((if b then in_core else in_project) (name_of p) (found_in p.module_.imports) (by_name is)).given
    by true = no_fields (text_units (utf8_lossy (name_of p)))
    by false = tt

module _ (done rest : List Part) (dvs rvs : List Value) (cs : List Compiled) (all_made : AreMadeOf done dvs cs) where
  abbrev all_parts : List Part
  all_parts = done ++ rest

  abbrev all_values : List Value
  all_values = dvs ++ rvs

  -- the interfaces of modules that were made
  abbrev interfaces_of : Option Part → List Part → Option Value → List Value → Option (List (Name × Interface))
  interfaces_of o qs w ws = good_interfaces (zip (map build.home_of (cons_option o qs)) (cons_option w ws))

  first_of : (p : Part) (v : Value) (r : Resolved) (built : IsBuilt p v r) (qs : List Part) (ws : List Value) →
      interfaces_of (Some p) qs (Some v) ws
      ≡ option_map (λ is. (build.home_of p, interface_by r built.told) ∷ is)
      (good_interfaces (zip (map build.home_of qs) ws))
  first_of p v r built qs ws = ap (λ w. interfaces_of (Some p) qs (Some w) ws) built.value

  -- each of these interfaces is that of one of the modules
  abbrev AllOf : List (Name × Interface) → Type 0
  AllOf is = AllByRecursion (λ (n : Name × Interface). IsOffered cs n.0 n.1) is

  of_made : (j : ℕ) (h : At done dvs cs j) →
      IsOffered cs (build.home_of h.p) (interface_by h.c.resolved h.is_made.built.told)
  of_made j h = record {
    place = j;
    by = h.c;
    at = h.compiled;
    home = h.is_made.built.home;
    is = ap (interface_by h.c.resolved) h.is_made.told;
  }

  looked_up : (is : List (Name × Interface)) → AllOf is → AreOffered cs (λ x. lookup (same_name x) is)
  looked_up [] a x i e = absurd cc
  looked_up (n ∷ is) a x i e = by (same_name x n.0) refl e (looked_up is a.1 x i)
    where
      by : (b : Bool) → same_name x n.0 ≡ b → (if b then Some n.1 else lookup (same_name x) is) ≡ Some i →
          (lookup (same_name x) is ≡ Some i → IsOffered cs x i) → IsOffered cs x i
      by true s e rest =
          let k : n.1 ≡ i = cc in
          subst (λ z. IsOffered cs z i) (sym (one_name x n.0 s)) (subst (λ j. IsOffered cs n.0 j) k a.0)
      by false s e rest = rest e

  all_both : (is js : List (Name × Interface)) → AllOf is → AllOf js → AllOf (is ++ js)
  all_both [] js a b = b
  all_both (n ∷ is) js a b = (a.0, all_both is js a.1 b)

  all_reversed : (is : List (Name × Interface)) → AllOf is → AllOf (reverse is)
  all_reversed [] a = tt
  all_reversed (n ∷ is) a =
      subst AllOf (sym (reverse-append (n ∷ []) is)) (all_both (reverse is) (n ∷ []) (all_reversed is a.1) (a.0, tt))

  of_numbers : (numbers : List ℕ) → AllByRecursion (λ j. j < length done) numbers → (is : List (Name × Interface)) →
      good_interfaces (zip (imported_homes all_parts numbers) (values_at all_values numbers)) ≡ Some is → AllOf is
  of_numbers [] l is e = let k : [] ≡ is = cc in subst AllOf k tt
  of_numbers (j ∷ numbers) l is e =
      by (good_interfaces (zip (map build.home_of qs) ws)) refl
      (sym (first_of h.p h.v h.c.resolved h.is_made.built qs ws)
      ∙ ap (λ w. interfaces_of (Some h.p) qs w ws) (sym (get_left dvs rvs j h.v h.value))
      ∙ ap (λ o. interfaces_of o qs (slice_get all_values j) ws) (sym (get_left done rest j h.p h.part)) ∙ e)
      (of_numbers numbers l.1)
    where
      qs : List Part
      qs = filter_map (slice_get all_parts) numbers

      ws : List Value
      ws = values_at all_values numbers

      h : At done dvs cs j
      h = made_at done dvs cs j all_made l.0

      by : (o : Option (List (Name × Interface))) → good_interfaces (zip (map build.home_of qs) ws) ≡ o →
          option_map (λ is. (build.home_of h.p, interface_by h.c.resolved h.is_made.built.told) ∷ is) o ≡ Some is →
          ((js : List (Name × Interface)) → good_interfaces (zip (map build.home_of qs) ws) ≡ Some js → AllOf js) →
          AllOf is
      by None g f more = absurd cc
      by (Some js) g f more =
          let k : (build.home_of h.p, interface_by h.c.resolved h.is_made.built.told) ∷ js ≡ is = cc in
          subst AllOf k (of_made j h, more js g)

  are_of : (numbers : List ℕ) → AllByRecursion (λ j. j < length done) numbers → (is : List (Name × Interface)) →
      good_interfaces (zip (imported_homes all_parts numbers) (values_at all_values numbers)) ≡ Some is →
      AreOffered cs (by_name is)
  are_of numbers l is e = looked_up (reverse is) (all_reversed is (of_numbers numbers l is e))

-- ---- a module that compiles

-- what is known of a good one
record Fine (a : Around) (o : Option (List ℕ)) (i : Interface) (f : Fragment) : Type 0 where
  text : List ℕ
  t : tree.Module
  m : canon.Module
  told : Schemes
  has_text : o ≡ Some text
  typed : IsTyped a text t m told
  covered : patterns.module_faults m ≡ []
  interface : i ≡ module_interface (module_shows (setting_of a t) t m) m told
  fragment : f ≡ fragment_of (cores_of m) (without_cores m) (main_type m told)

fine_of : (a : Around) (path : List ℕ) (o : Option (List ℕ)) (v : Value) (i : Interface) (f : Fragment) →
    Made a path o v → v ≡ Good i f → Fine a o i f
fine_of a path o v i f made.too_long e = absurd cc
fine_of a path o v i f (made.unread h) e = absurd cc
fine_of a path o v i f (made.misplaced h g) e = absurd cc
fine_of a path o v i f (made.misnamed h g) e = absurd cc
fine_of a path o v i f (made.incomplete h n g) e = absurd cc
fine_of a path o v i f (made.mistyped h g) e = absurd cc
fine_of a path o v i f (made.uncovered h g) e = absurd cc
fine_of a path o v i f (made.fine {text = text} {t = t} {m = m} {told = told} typed none) e =
    let x : module_interface (module_shows (setting_of a t) t m) m told ≡ i = cc in
    let y : fragment_of (cores_of m) (without_cores m) (main_type m told) ≡ f = cc in record {
      text = text;
      t = t;
      m = m;
      told = told;
      has_text = refl;
      typed = typed;
      covered = none;
      interface = sym x;
      fragment = sym y;
    }

record IsStep (p : Part) (v : Value) (cs : List Compiled) (c : Compiled) : Type 0 where
  is_made : IsMadeOf p v c
  next : IsNext (resolved_of cs) c.resolved
  compiled : IsCompiled cs c

module _ (p : Part) (v : Value) (cs : List Compiled) (resolved : AreResolved (resolved_of cs))
    (fits : Fits p.module_.source.text) (i : Interface) (f : Fragment) (v_is : v ≡ Good i f)
    (is : List (Name × Interface)) (of : AreOffered cs (by_name is)) where
  step_of : Made (around p is) p.module_.source.path p.module_.source.text v → (c : Compiled) × IsStep p v cs c
  step_of is_made =
      (made_by, record { is_made = record { built = built; told = refl }; next = after; compiled = compiled })
    where
      a : Around
      a = around p is

      x : Fine a p.module_.source.text i f
      x = fine_of a p.module_.source.path p.module_.source.text v i f is_made v_is

      resolved_by : Resolved
      resolved_by = record {
        path = p.module_.source.path;
        setting = setting_of a x.t;
        written = x.t;
        whole = x.m;
        main = main_type x.m x.told;
      }

      made_by : Compiled
      made_by = record { resolved = resolved_by; around = a; text = x.text; told = x.told }

      built : IsBuilt p v resolved_by
      built = record {
        told = x.told;
        path = refl;
        home = around_home p is;
        main = refl;
        value = v_is ∙ ap (λ j. Good j f) x.interface ∙ ap (λ g. Good (interface_by resolved_by x.told) g) x.fragment;
      }

      offered : AreOffered cs a.interfaces
      offered = subst (λ g. AreOffered cs g) (sym (around_interfaces p is)) of

      after : IsNext (resolved_of cs) resolved_by
      after =
          next (resolved_of cs) p.module_.source.path a x.text x.t x.m x.told resolved (around_plain p is)
          (as_resolved cs a.interfaces resolved.each offered) x.typed (subst Fits x.has_text fits)

      compiled : IsCompiled cs made_by
      compiled = record {
        setting = refl;
        typed = x.typed;
        covered = x.covered;
        main = refl;
        offered = offered;
        given = given_none p is;
      }

-- ---- all modules

record AllCompiled (ps : List Part) (values : List Value) : Type 0 where
  cs : List Compiled
  is_made : AreMadeOf ps values cs
  each : AreNext [] (resolved_of cs)
  compiled : AreCompiled [] cs

module _ (ps : List Part) (values : List Value) (b : IsBuild ps) (made_all : Values ps values) where
  -- the next module
  one_more : (done : List Part) (p : Part) (rest : List Part) (dvs : List Value) (v : Value) (rvs : List Value)
      (cs : List Compiled) → done ++ p ∷ rest ≡ ps → dvs ++ v ∷ rvs ≡ values → AreMadeOf done dvs cs →
      AreNext [] (resolved_of cs) → IsGood v → (c : Compiled) × IsStep p v cs c
  one_more done p rest dvs v rvs cs d w is_made all g =
      by (good_interfaces (zip (imported_homes ps numbers) (values_at values numbers))) refl compiled
    where
      n : ℕ
      n = length done

      numbers : List ℕ
      numbers = list_at (graph_of ps) n

      at : slice_get ps n ≡ Some p
      at = subst (λ qs. slice_get qs n ≡ Some p) d (get_here done rest p)

      value_at : slice_get values n ≡ Some v
      value_at =
          subst (λ ws. slice_get ws n ≡ Some v) w
          (subst (λ k. slice_get (dvs ++ v ∷ rvs) k ≡ Some v) (same_count done dvs cs is_made) (get_here dvs rvs v))

      compiled : CompilesWith p (good_interfaces (zip (imported_homes ps numbers) (values_at values numbers))) v
      compiled =
          subst (λ o. CompilesAmong ps (values_at values numbers) o numbers v) at
          (subst (λ ks. CompilesAmong ps (values_at values numbers) (slice_get ps n) ks v) (got_or [] (graph_of ps) n)
          (made_all.made n v value_at))

      resolved : AreResolved (resolved_of cs)
      resolved = record {
        apart = homes_apart done dvs (resolved_of cs) (all_built done dvs cs is_made)
            (apart_left done (p ∷ rest) (subst Apart (sym d) b.apart));
        each = all;
      }

      of : (is : List (Name × Interface)) →
          good_interfaces (zip (imported_homes ps numbers) (values_at values numbers)) ≡ Some is →
          AreOffered cs (by_name is)
      of is e =
          are_of done (p ∷ rest) dvs (v ∷ rvs) cs is_made numbers (b.ordered n) is
          (subst
          (λ qs. good_interfaces (zip (imported_homes qs numbers) (values_at (dvs ++ v ∷ rvs) numbers)) ≡ Some is)
          (sym d)
          (subst (λ ws. good_interfaces (zip (imported_homes ps numbers) (values_at ws numbers)) ≡ Some is) (sym w) e))

      by : (o : Option (List (Name × Interface))) →
          good_interfaces (zip (imported_homes ps numbers) (values_at values numbers)) ≡ o → CompilesWith p o v →
          (c : Compiled) × IsStep p v cs c
      by None e c = let k : Blocked ≡ Good g.0 g.1 = sym c ∙ g.2 in absurd cc
      by (Some is) e c =
          step_of p v cs resolved (b.fit n p at) g.0 g.1 g.2 is (of is e) c

  all_of : (done rest : List Part) (dvs rvs : List Value) (cs : List Compiled) → done ++ rest ≡ ps →
      dvs ++ rvs ≡ values → length rvs ≡ length rest → AllGood rvs → AreMadeOf done dvs cs →
      AreNext [] (resolved_of cs) → AreCompiled [] cs → AllCompiled ps values
  all_of done [] dvs [] cs d w n g is_made all compiled = record {
    cs = cs;
    is_made = subst (λ vs. AreMadeOf ps vs cs) (sym (append-nil dvs) ∙ w)
        (subst (λ qs. AreMadeOf qs dvs cs) (sym (append-nil done) ∙ d) is_made);
    each = all;
    compiled = compiled;
  }
  all_of done [] dvs (v ∷ rvs) cs d w n g is_made all compiled = absurd (omega (arith, n))
  all_of done (p ∷ rest) dvs [] cs d w n g is_made all compiled = absurd (omega (arith, n))
  all_of done (p ∷ rest) dvs (v ∷ rvs) cs d w n g is_made all compiled =
      let s = one_more done p rest dvs v rvs cs d w is_made all g.0 in
      all_of (done ++ p ∷ []) rest (dvs ++ v ∷ []) rvs (cs ++ s.0 ∷ []) (append_assoc done (p ∷ []) rest ∙ d)
      (append_assoc dvs (v ∷ []) rvs ∙ w) (omega (arith, n)) g.1 (made_more done dvs cs p v s.0 is_made s.1.is_made)
      (subst (AreNext []) (sym (map-append (λ (c : Compiled). c.resolved) cs (s.0 ∷ [])))
      (next_more [] (resolved_of cs) s.0.resolved all s.1.next))
      (compiled_more [] cs s.0 compiled s.1.compiled)

builds_by : (ps : List Part) (values : List Value) (qs : List linked.Part) → IsBuild ps → AllCompiled ps values →
    linked_parts (zip ps values) ≡ Some qs → Builds ps values qs
builds_by ps values qs b all e = record {
  modules = all.cs;
  built = built;
  are_linked = record {
    resolved = record { apart = homes_apart ps values (resolved_of all.cs) built b.apart; each = all.each };
    parts = same (map part_of (map source_of (resolved_of all.cs)))
        (same_parts [] ps values (resolved_of all.cs) built all.each);
    main = main_at [] (resolved_of all.cs) ps values built all.each;
  };
  compiled = all.compiled;
}
  where
    built : AreBuilt ps values (resolved_of all.cs)
    built = all_built ps values all.cs all.is_made

    same : (parts : List linked.Part) → linked_parts (zip ps values) ≡ Some parts → parts ≡ qs
    same parts h = let k : Some parts ≡ Some qs = sym h ∙ e in cc

pub builds_compiled : BuildsAreCompiled
builds_compiled ps values qs b w e =
    let count : length values ≡ length ps =
    omega (arith, w.each, length-map ps (λ p. filter_map (number_of ps) (imported_names p))) in
    builds_by ps values qs b
    (all_of ps values b w [] ps [] values [] refl refl count (linked_good ps values qs count e) tt tt tt) e
