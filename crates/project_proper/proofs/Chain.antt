-- The modules of a build that are all good, resolved one after another: `builds_linked`.
use Rattle.std.proofs.Common.{◌≡◌, ℕ, zero, suc, ◌<◌, List, [], ◌∷◌, ◌++◌, map, length, Bool, true, false, refl}
use Rattle.std.proofs.Common.{sym, ap, ◌∙◌, subst, Some, None, arith, append-nil, append_assoc}
use Rattle.std.specs.Prelude.{Option, is_some, reverse, option_map, slice_get, slice_index_or, unwrap_or}
use Rattle.std.specs.Prelude.{if◌then◌else◌, ◌||◌}
use Rattle.std.specs.List.{AllByRecursion, filter_map, list_any, cons_option, zip}
use Rattle.std.specs.Map.{lookup}
use Rattle.std.proofs.lemmas.List.{length-map, reverse-append}
use Rattle.decl_groups.specs.Groups.{list_at}
use Rattle.elm_tree.specs.Tree as tree
use Rattle.elm_canon.specs.Names.{Name, same_name}
use Rattle.elm_canon.specs.Tree as canon
use Rattle.canon_env.proofs.Adding.{one_name}
use Rattle.canon_module.specs.Resolve.{IsModule, module_shows}
use Rattle.link.specs.Cores.{cores_of, without_cores}
use Rattle.link.specs.Fragments.{Fragment}
use Rattle.link.specs.Made.{fragment_of}
use Rattle.interface.specs.Interface.{Interface}
use Rattle.type_items.specs.Inferred.{Schemes}
use Rattle.link.specs.Link as linked
use Rattle.link.specs.Link.{Links, link}
use Rattle.link.specs.Programs.{part_of}
use Rattle.import_graph.specs.Fold.{values_at}
use Rattle.module_made.specs.Around.{Around, found_in, in_project, in_core, setting_of}
use Rattle.module_made.specs.Around as around_part
use Rattle.module_made.specs.Made.{Value, Good, Bad, Blocked, Made, IsTyped}
use Rattle.module_made.specs.Made as made
use Rattle.module_offers.specs.Offers.{main_type, module_interface}
use Rattle.project_proper.proofs.Offered.{main_declared}
use Rattle.project_parts.specs.Modules.{Part, name_of, home_of, graph_of, good_interfaces, by_name, around}
use Rattle.project_parts.specs.Modules.{CompilesWith}
use Rattle.project_parts.specs.Modules.{imported_homes, imported_names, number_of, CompilesAmong, Values}
use Rattle.project_parts.specs.Outcomes.{linked_parts}
use Rattle.project_proper.specs.Resolved.{Resolved, source_of, IsNext, AreNext, HomesApart, AreResolved, IsMain}
use Rattle.project_parts.specs.Laws.{Fits, IsBuild}
use Rattle.project_parts.specs.Laws.{HomesApart as Apart}
use Rattle.project_proper.proofs.Taken.{resolved_links}
use Rattle.project_proper.specs.Builds.{interface_by, IsBuilt, AreBuilt, AreLinked, BuildsAreLinked}
use Rattle.project_proper.specs.Builds.{LinksAreNamed}
use Rattle.project_proper.proofs.Next.{IsOf, AreOf, IsPlain, plain_project, plain_core, next}

-- ---- lists

get_left : {X : Type 0} (xs ys : List X) (i : ℕ) (x : X) → slice_get xs i ≡ Some x → slice_get (xs ++ ys) i ≡ Some x
get_left [] ys i x e = absurd cc
get_left (y ∷ xs) ys zero x e = e
get_left (y ∷ xs) ys (suc i) x e = get_left xs ys i x e

get_here : {X : Type 0} (xs ys : List X) (x : X) → slice_get (xs ++ x ∷ ys) (length xs) ≡ Some x
get_here [] ys x = refl
get_here (y ∷ xs) ys x = get_here xs ys x

pub got_or : {X : Type 0} (d : X) (xs : List X) (i : ℕ) → unwrap_or (slice_get xs i) d ≡ slice_index_or xs i d
got_or d [] i = refl
got_or d (x ∷ xs) zero = refl
got_or d (x ∷ xs) (suc i) = got_or d xs i

-- ---- good modules

-- what is known of a module with these
pub record Fine (a : Around) (o : Option (List ℕ)) (i : Interface) (f : Fragment) : Type 0 where
  pub text : List ℕ
  pub t : tree.Module
  pub m : canon.Module
  pub told : Schemes
  pub has_text : o ≡ Some text
  pub typed : IsTyped a text t m told
  pub interface : i ≡ module_interface (module_shows (setting_of a t) t m) m told
  pub fragment : f ≡ fragment_of (cores_of m) (without_cores m) (main_type m told)

fine_of : (a : Around) (path : List ℕ) (o : Option (List ℕ)) (v : Value) (i : Interface) (f : Fragment) →
    Made a path o v → v ≡ Good i f → Fine a o i f
fine_of a path o v i f made.too_long e = absurd cc
fine_of a path o v i f (made.unread h) e = absurd cc
fine_of a path o v i f (made.misplaced h g) e = absurd cc
fine_of a path o v i f (made.misnamed h g) e = absurd cc
fine_of a path o v i f (made.incomplete h n g) e = absurd cc
fine_of a path o v i f (made.mistyped h g) e = absurd cc
fine_of a path o v i f (made.uncovered h g) e = absurd cc
fine_of a path o v i f (made.fine {text = text} {t = t} {m = m} {told = told} typed none) e =
    let x : module_interface (module_shows (setting_of a t) t m) m told ≡ i = cc in
    let y : fragment_of (cores_of m) (without_cores m) (main_type m told) ≡ f = cc in record {
      text = text;
      t = t;
      m = m;
      told = told;
      has_text = refl;
      typed = typed;
      interface = sym x;
      fragment = sym y;
    }

-- all are good
abbrev pub IsGood : Value → Type 0
IsGood v = (i : Interface) × (f : Fragment) × (v ≡ Good i f)

abbrev pub AllGood : List Value → Type 0
AllGood [] = Unit {0}
AllGood (v ∷ vs) = IsGood v × AllGood vs

-- ---- modules that were built

-- of one of them
pub record At (ps : List Part) (vs : List Value) (rs : List Resolved) (j : ℕ) : Type 0 where
  pub p : Part
  pub v : Value
  pub r : Resolved
  pub part : slice_get ps j ≡ Some p
  pub value : slice_get vs j ≡ Some v
  pub resolved : slice_get rs j ≡ Some r
  pub built : IsBuilt p v r

built_at : (ps : List Part) (vs : List Value) (rs : List Resolved) (j : ℕ) → AreBuilt ps vs rs → j < length ps →
    At ps vs rs j
built_at [] vs rs j b l = absurd (omega (arith, l))
built_at (p ∷ ps) [] rs j b l = absurd b
built_at (p ∷ ps) (v ∷ vs) [] j b l = absurd b
built_at (p ∷ ps) (v ∷ vs) (r ∷ rs) zero b l =
    record { p = p; v = v; r = r; part = refl; value = refl; resolved = refl; built = b.0 }
built_at (p ∷ ps) (v ∷ vs) (r ∷ rs) (suc j) b l =
    let h = built_at ps vs rs j b.1 (omega (arith, l)) in
    record { p = h.p; v = h.v; r = h.r; part = h.part; value = h.value; resolved = h.resolved; built = h.built }

-- one more
built_more : (ps : List Part) (vs : List Value) (rs : List Resolved) (p : Part) (v : Value) (r : Resolved) →
    AreBuilt ps vs rs → IsBuilt p v r → AreBuilt (ps ++ p ∷ []) (vs ++ v ∷ []) (rs ++ r ∷ [])
built_more [] [] [] p v r b c = (c, tt)
built_more [] [] (s ∷ rs) p v r b c = absurd b
built_more [] (w ∷ vs) rs p v r b c = absurd b
built_more (q ∷ ps) [] rs p v r b c = absurd b
built_more (q ∷ ps) (w ∷ vs) [] p v r b c = absurd b
built_more (q ∷ ps) (w ∷ vs) (s ∷ rs) p v r b c = (b.0, built_more ps vs rs p v r b.1 c)

same_count : (ps : List Part) (vs : List Value) (rs : List Resolved) → AreBuilt ps vs rs → length vs ≡ length ps
same_count [] [] [] b = refl
same_count [] [] (r ∷ rs) b = absurd b
same_count [] (v ∷ vs) rs b = absurd b
same_count (p ∷ ps) [] rs b = absurd b
same_count (p ∷ ps) (v ∷ vs) [] b = absurd b
same_count (p ∷ ps) (v ∷ vs) (r ∷ rs) b = ap (λ n. suc n) (same_count ps vs rs b.1)

pub next_more : (before rs : List Resolved) (r : Resolved) → AreNext before rs → IsNext (before ++ rs) r →
    AreNext before (rs ++ r ∷ [])
next_more before [] r a n = (subst (λ qs. IsNext qs r) (append-nil before) n, tt)
next_more before (s ∷ rs) r a n =
    (a.0, next_more (before ++ s ∷ []) rs r a.1 (subst (λ qs. IsNext qs r) (sym (append_assoc before (s ∷ []) rs)) n))

module_at : (before rs : List Resolved) (j : ℕ) (r : Resolved) → AreNext before rs → slice_get rs j ≡ Some r →
    IsModule r.setting r.written.declarations r.whole
module_at before [] j r a e = absurd cc
module_at before (s ∷ rs) zero r a e =
    let h : s ≡ r = cc in
    subst (λ (z : Resolved). IsModule z.setting z.written.declarations z.whole) h a.0.is
module_at before (s ∷ rs) (suc j) r a e = module_at (before ++ s ∷ []) rs j r a.1 e

-- ---- names

none_same : (x : Name) (ps : List Part) (vs : List Value) (rs : List Resolved) → AreBuilt ps vs rs →
    ((j : ℕ) (q : Part) → slice_get ps j ≡ Some q → x ≡ home_of q → ⊥) →
    list_any (λ (q : Resolved). same_name x q.setting.home) rs ≡ false
none_same x [] [] [] b f = refl
none_same x [] [] (r ∷ rs) b f = absurd b
none_same x [] (v ∷ vs) rs b f = absurd b
none_same x (p ∷ ps) [] rs b f = absurd b
none_same x (p ∷ ps) (v ∷ vs) [] b f = absurd b
none_same x (p ∷ ps) (v ∷ vs) (r ∷ rs) b f =
    by (same_name x r.setting.home) refl (none_same x ps vs rs b.1 (λ j q. f (suc j) q))
  where
    by : (c : Bool) → same_name x r.setting.home ≡ c →
        list_any (λ (q : Resolved). same_name x q.setting.home) rs ≡ false →
        (c || list_any (λ (q : Resolved). same_name x q.setting.home) rs) ≡ false
    by true s e = absurd (f zero p refl (one_name x r.setting.home s ∙ b.0.home))
    by false s e = e

pub homes_apart : (ps : List Part) (vs : List Value) (rs : List Resolved) → AreBuilt ps vs rs → Apart ps → HomesApart rs
homes_apart [] [] [] b a = tt
homes_apart [] [] (r ∷ rs) b a = absurd b
homes_apart [] (v ∷ vs) rs b a = absurd b
homes_apart (p ∷ ps) [] rs b a = absurd b
homes_apart (p ∷ ps) (v ∷ vs) [] b a = absurd b
homes_apart (p ∷ ps) (v ∷ vs) (r ∷ rs) b a = (
  none_same r.setting.home ps vs rs b.1
      (λ j q e h. let n = a zero (suc j) p q refl e (sym b.0.home ∙ h) in absurd (omega (arith, n))),
  homes_apart ps vs rs b.1
      (λ i j q s e g h. let n = a (suc i) (suc j) q s e g h in omega (arith, n)),
)

pub apart_left : (ps qs : List Part) → Apart (ps ++ qs) → Apart ps
apart_left ps qs a i j p q e g h = a i j p q (get_left ps qs i p e) (get_left ps qs j q g) h

-- ---- what a module is compiled in

pub around_home : (p : Part) (is : List (Name × Interface)) → around_part.home_of (around p is) ≡ home_of p
around_home p is = by p.is_core
  where
    by : (b : Bool) →
        around_part.home_of ((if b then in_core else in_project) (name_of p) (found_in p.module_.imports) (by_name is))
        ≡ home_of p
    by true = refl
    by false = refl

pub around_interfaces : (p : Part) (is : List (Name × Interface)) → (around p is).interfaces ≡ by_name is
around_interfaces p is = by p.is_core
  where
    by : (b : Bool) →
        ((if b then in_core else in_project) (name_of p) (found_in p.module_.imports) (by_name is)).interfaces
        ≡ by_name is
    by true = refl
    by false = refl

pub around_plain : (p : Part) (is : List (Name × Interface)) → IsPlain (around p is)
around_plain p is = by p.is_core
  where
    by : (b : Bool) →
        IsPlain ((if b then in_core else in_project) (name_of p) (found_in p.module_.imports) (by_name is))
    by true = plain_core (name_of p) (found_in p.module_.imports) (by_name is)
    by false = plain_project (name_of p) (found_in p.module_.imports) (by_name is)

-- ---- one module more

module _ (done rest : List Part) (dvs rvs : List Value) (rs : List Resolved) (built : AreBuilt done dvs rs)
    (all : AreNext [] rs) where
  abbrev all_parts : List Part
  all_parts = done ++ rest

  abbrev all_values : List Value
  all_values = dvs ++ rvs

  -- the interfaces of modules that were built
  abbrev interfaces_of : Option Part → List Part → Option Value → List Value → Option (List (Name × Interface))
  interfaces_of o qs w ws = good_interfaces (zip (map home_of (cons_option o qs)) (cons_option w ws))

  first_of : (p : Part) (v : Value) (r : Resolved) (built : IsBuilt p v r) (qs : List Part) (ws : List Value) →
      interfaces_of (Some p) qs (Some v) ws
      ≡ option_map (λ is. (home_of p, interface_by r built.told) ∷ is) (good_interfaces (zip (map home_of qs) ws))
  first_of p v r built qs ws = ap (λ w. interfaces_of (Some p) qs (Some w) ws) built.value

  -- each of these interfaces is that of one of the modules
  abbrev AllOf : List (Name × Interface) → Type 0
  AllOf is = AllByRecursion (λ (n : Name × Interface). IsOf rs n.0 n.1) is

  of_built : (j : ℕ) (h : At done dvs rs j) → IsOf rs (home_of h.p) (interface_by h.r h.built.told)
  of_built j h = record {
    place = j;
    r = h.r;
    told = h.built.told;
    at = h.resolved;
    is = module_at [] rs j h.r all h.resolved;
    home = h.built.home;
    interface = refl;
  }

  looked_up : (is : List (Name × Interface)) → AllOf is → AreOf rs (λ x. lookup (same_name x) is)
  looked_up [] a x i e = absurd cc
  looked_up (n ∷ is) a x i e = by (same_name x n.0) refl e (looked_up is a.1 x i)
    where
      by : (b : Bool) → same_name x n.0 ≡ b → (if b then Some n.1 else lookup (same_name x) is) ≡ Some i →
          (lookup (same_name x) is ≡ Some i → IsOf rs x i) → IsOf rs x i
      by true s e rest =
          let k : n.1 ≡ i = cc in
          subst (λ z. IsOf rs z i) (sym (one_name x n.0 s)) (subst (λ j. IsOf rs n.0 j) k a.0)
      by false s e rest = rest e

  all_both : (is js : List (Name × Interface)) → AllOf is → AllOf js → AllOf (is ++ js)
  all_both [] js a b = b
  all_both (n ∷ is) js a b = (a.0, all_both is js a.1 b)

  all_reversed : (is : List (Name × Interface)) → AllOf is → AllOf (reverse is)
  all_reversed [] a = tt
  all_reversed (n ∷ is) a =
      subst AllOf (sym (reverse-append (n ∷ []) is)) (all_both (reverse is) (n ∷ []) (all_reversed is a.1) (a.0, tt))

  of_numbers : (numbers : List ℕ) → AllByRecursion (λ j. j < length done) numbers → (is : List (Name × Interface)) →
      good_interfaces (zip (imported_homes all_parts numbers) (values_at all_values numbers)) ≡ Some is → AllOf is
  of_numbers [] l is e = let k : [] ≡ is = cc in subst AllOf k tt
  of_numbers (j ∷ numbers) l is e =
      by (good_interfaces (zip (map home_of qs) ws)) refl
      (sym (first_of h.p h.v h.r h.built qs ws)
      ∙ ap (λ w. interfaces_of (Some h.p) qs w ws) (sym (get_left dvs rvs j h.v h.value))
      ∙ ap (λ o. interfaces_of o qs (slice_get all_values j) ws) (sym (get_left done rest j h.p h.part)) ∙ e)
      (of_numbers numbers l.1)
    where
      qs : List Part
      qs = filter_map (slice_get all_parts) numbers

      ws : List Value
      ws = values_at all_values numbers

      h : At done dvs rs j
      h = built_at done dvs rs j built l.0

      by : (o : Option (List (Name × Interface))) → good_interfaces (zip (map home_of qs) ws) ≡ o →
          option_map (λ is. (home_of h.p, interface_by h.r h.built.told) ∷ is) o ≡ Some is →
          ((js : List (Name × Interface)) → good_interfaces (zip (map home_of qs) ws) ≡ Some js → AllOf js) → AllOf is
      by None g f more = absurd cc
      by (Some js) g f more =
          let k : (home_of h.p, interface_by h.r h.built.told) ∷ js ≡ is = cc in
          subst AllOf k (of_built j h, more js g)

  pub are_of : (numbers : List ℕ) → AllByRecursion (λ j. j < length done) numbers → (is : List (Name × Interface)) →
      good_interfaces (zip (imported_homes all_parts numbers) (values_at all_values numbers)) ≡ Some is →
      AreOf rs (by_name is)
  are_of numbers l is e = looked_up (reverse is) (all_reversed is (of_numbers numbers l is e))

-- a module that compiles, after those that it imports
pub record IsStep (p : Part) (v : Value) (rs : List Resolved) (r : Resolved) : Type 0 where
  pub built : IsBuilt p v r
  pub next : IsNext rs r

module _ (p : Part) (v : Value) (rs : List Resolved) (resolved : AreResolved rs)
    (fits : Fits p.module_.source.text) (i : Interface) (f : Fragment) (v_is : v ≡ Good i f)
    (is : List (Name × Interface)) (of : AreOf rs (by_name is)) where
  step_of : Made (around p is) p.module_.source.path p.module_.source.text v → (r : Resolved) × IsStep p v rs r
  step_of is_made = (made_by, record { built = built; next = after })
    where
      a : Around
      a = around p is

      x : Fine a p.module_.source.text i f
      x = fine_of a p.module_.source.path p.module_.source.text v i f is_made v_is

      made_by : Resolved
      made_by = record {
        path = p.module_.source.path;
        setting = setting_of a x.t;
        written = x.t;
        whole = x.m;
        main = main_type x.m x.told;
      }

      built : IsBuilt p v made_by
      built = record {
        told = x.told;
        path = refl;
        home = around_home p is;
        main = refl;
        value = v_is ∙ ap (λ j. Good j f) x.interface ∙ ap (λ g. Good (interface_by made_by x.told) g) x.fragment;
      }

      after : IsNext rs made_by
      after =
          next rs p.module_.source.path a x.text x.t x.m x.told resolved (around_plain p is)
          (subst (λ g. AreOf rs g) (sym (around_interfaces p is)) of) x.typed (subst Fits x.has_text fits)

-- ---- all modules

-- all are resolved
pub record AllResolved (ps : List Part) (values : List Value) : Type 0 where
  pub rs : List Resolved
  pub built : AreBuilt ps values rs
  pub each : AreNext [] rs

module _ (ps : List Part) (values : List Value) (b : IsBuild ps) (made_all : Values ps values) where
  -- the next module
  one_more : (done : List Part) (p : Part) (rest : List Part) (dvs : List Value) (v : Value) (rvs : List Value)
      (rs : List Resolved) → done ++ p ∷ rest ≡ ps → dvs ++ v ∷ rvs ≡ values → AreBuilt done dvs rs → AreNext [] rs →
      IsGood v → (r : Resolved) × IsStep p v rs r
  one_more done p rest dvs v rvs rs d w built all g =
      by (good_interfaces (zip (imported_homes ps numbers) (values_at values numbers))) refl compiled
    where
      n : ℕ
      n = length done

      numbers : List ℕ
      numbers = list_at (graph_of ps) n

      at : slice_get ps n ≡ Some p
      at = subst (λ qs. slice_get qs n ≡ Some p) d (get_here done rest p)

      value_at : slice_get values n ≡ Some v
      value_at =
          subst (λ ws. slice_get ws n ≡ Some v) w
          (subst (λ k. slice_get (dvs ++ v ∷ rvs) k ≡ Some v) (same_count done dvs rs built) (get_here dvs rvs v))

      compiled : CompilesWith p (good_interfaces (zip (imported_homes ps numbers) (values_at values numbers))) v
      compiled =
          subst (λ o. CompilesAmong ps (values_at values numbers) o numbers v) at
          (subst (λ ks. CompilesAmong ps (values_at values numbers) (slice_get ps n) ks v) (got_or [] (graph_of ps) n)
          (made_all.made n v value_at))

      resolved : AreResolved rs
      resolved = record {
        apart = homes_apart done dvs rs built (apart_left done (p ∷ rest) (subst Apart (sym d) b.apart));
        each = all;
      }

      of : (is : List (Name × Interface)) →
          good_interfaces (zip (imported_homes ps numbers) (values_at values numbers)) ≡ Some is →
          AreOf rs (by_name is)
      of is e =
          are_of done (p ∷ rest) dvs (v ∷ rvs) rs built all numbers (b.ordered n) is
          (subst
          (λ qs. good_interfaces (zip (imported_homes qs numbers) (values_at (dvs ++ v ∷ rvs) numbers)) ≡ Some is)
          (sym d)
          (subst (λ ws. good_interfaces (zip (imported_homes ps numbers) (values_at ws numbers)) ≡ Some is) (sym w) e))

      by : (o : Option (List (Name × Interface))) →
          good_interfaces (zip (imported_homes ps numbers) (values_at values numbers)) ≡ o → CompilesWith p o v →
          (r : Resolved) × IsStep p v rs r
      by None e c = let k : Blocked ≡ Good g.0 g.1 = sym c ∙ g.2 in absurd cc
      by (Some is) e c =
          step_of p v rs resolved (b.fit n p at) g.0 g.1 g.2 is (of is e) c

  all_of : (done rest : List Part) (dvs rvs : List Value) (rs : List Resolved) → done ++ rest ≡ ps →
      dvs ++ rvs ≡ values → length rvs ≡ length rest → AllGood rvs → AreBuilt done dvs rs → AreNext [] rs →
      AllResolved ps values
  all_of done [] dvs [] rs d w n g built all = record {
    rs = rs;
    built = subst (λ vs. AreBuilt ps vs rs) (sym (append-nil dvs) ∙ w)
        (subst (λ qs. AreBuilt qs dvs rs) (sym (append-nil done) ∙ d) built);
    each = all;
  }
  all_of done [] dvs (v ∷ rvs) rs d w n g built all = absurd (omega (arith, n))
  all_of done (p ∷ rest) dvs [] rs d w n g built all = absurd (omega (arith, n))
  all_of done (p ∷ rest) dvs (v ∷ rvs) rs d w n g built all =
      let s = one_more done p rest dvs v rvs rs d w built all g.0 in
      all_of (done ++ p ∷ []) rest (dvs ++ v ∷ []) rvs (rs ++ s.0 ∷ []) (append_assoc done (p ∷ []) rest ∙ d)
      (append_assoc dvs (v ∷ []) rvs ∙ w) (omega (arith, n)) g.1 (built_more done dvs rs p v s.0 built s.1.built)
      (next_more [] rs s.0 all s.1.next)

-- ---- what is linked

-- modules that are linked are all good
pub linked_good : (ps : List Part) (values : List Value) (qs : List linked.Part) → length values ≡ length ps →
    linked_parts (zip ps values) ≡ Some qs → AllGood values
linked_good [] [] qs n e = tt
linked_good [] (v ∷ values) qs n e = absurd (omega (arith, n))
linked_good (p ∷ ps) [] qs n e = absurd (omega (arith, n))
linked_good (p ∷ ps) (Good i f ∷ values) qs n e =
    ((i, f, refl), by (linked_parts (zip ps values)) refl e (λ rest. linked_good ps values rest (omega (arith, n))))
  where
    by : (o : Option (List linked.Part)) → linked_parts (zip ps values) ≡ o →
        option_map (λ qs. record { name = home_of p; path = p.module_.source.path; fragment = f } ∷ qs) o ≡ Some qs →
        ((rest : List linked.Part) → linked_parts (zip ps values) ≡ Some rest → AllGood values) → AllGood values
    by None g e more = absurd cc
    by (Some rest) g e more = more rest g
linked_good (p ∷ ps) (Bad fs ∷ values) qs n e = absurd cc
linked_good (p ∷ ps) (Blocked ∷ values) qs n e = absurd cc

-- a part, as a link takes it
abbrev part_by : Resolved → linked.Part
part_by r = part_of (source_of r)

module _ (p : Part) (v : Value) (r : Resolved) (b : IsBuilt p v r) (n : r.whole.name ≡ r.setting.home) where
  abbrev fragment : Fragment
  fragment = fragment_of (cores_of r.whole) (without_cores r.whole) r.main

  same_part : record { name = home_of p; path = p.module_.source.path; fragment = fragment } ≡ part_by r
  same_part =
      ap (λ x. record { name = x; path = p.module_.source.path; fragment = fragment }) (sym (n ∙ b.home))
      ∙ ap (λ x. record { name = r.whole.name; path = x; fragment = fragment }) (sym b.path)

  one_part : (rest : List (Part × Value)) →
      linked_parts ((p, v) ∷ rest) ≡ option_map (λ qs. part_by r ∷ qs) (linked_parts rest)
  one_part rest =
      ap (λ w. linked_parts ((p, w) ∷ rest)) b.value
      ∙ ap (λ q. option_map (λ qs. q ∷ qs) (linked_parts rest)) same_part

pub same_parts : (before : List Resolved) (ps : List Part) (values : List Value) (rs : List Resolved) →
    AreBuilt ps values rs → AreNext before rs → linked_parts (zip ps values) ≡ Some (map part_of (map source_of rs))
same_parts before [] [] [] b a = refl
same_parts before [] [] (r ∷ rs) b a = absurd b
same_parts before [] (v ∷ values) rs b a = absurd b
same_parts before (p ∷ ps) [] rs b a = absurd b
same_parts before (p ∷ ps) (v ∷ values) [] b a = absurd b
same_parts before (p ∷ ps) (v ∷ values) (r ∷ rs) b a =
    one_part p v r b.0 a.0.is.name (zip ps values)
    ∙ ap (option_map (λ qs. part_by r ∷ qs)) (same_parts (before ++ r ∷ []) ps values rs b.1 a.1)

pub main_at : (before rs : List Resolved) (ps : List Part) (values : List Value) → AreBuilt ps values rs →
    AreNext before rs → (i : ℕ) (r : Resolved) → slice_get rs i ≡ Some r → IsMain r
main_at before [] ps values b a i r e = absurd cc
main_at before (s ∷ rs) [] values b a i r e = absurd (none values b)
  where
    none : (vs : List Value) → AreBuilt [] vs (s ∷ rs) → ⊥
    none [] b = b
    none (v ∷ vs) b = b
main_at before (s ∷ rs) (p ∷ ps) [] b a i r e = absurd b
main_at before (s ∷ rs) (p ∷ ps) (v ∷ values) b a zero r e =
    let h : s ≡ r = cc in
    subst IsMain h
    (λ k. main_declared s.setting s.written.declarations s.whole a.0.is b.0.told
    (subst (λ o. is_some o ≡ true) b.0.main k))
main_at before (s ∷ rs) (p ∷ ps) (v ∷ values) b a (suc i) r e =
    main_at (before ++ s ∷ []) rs ps values b.1 a.1 i r e

linked_by : (ps : List Part) (values : List Value) (qs : List linked.Part) → IsBuild ps → AllResolved ps values →
    linked_parts (zip ps values) ≡ Some qs → (rs : List Resolved) × AreBuilt ps values rs × AreLinked qs rs
linked_by ps values qs b all e = (
  all.rs,
  all.built,
  record {
    resolved = record { apart = homes_apart ps values all.rs all.built b.apart; each = all.each };
    parts = same (map part_of (map source_of all.rs)) (same_parts [] ps values all.rs all.built all.each);
    main = main_at [] all.rs ps values all.built all.each;
  },
)
  where
    same : (parts : List linked.Part) → linked_parts (zip ps values) ≡ Some parts → parts ≡ qs
    same parts h = let k : Some parts ≡ Some qs = sym h ∙ e in cc

pub builds_linked : BuildsAreLinked
builds_linked ps values qs b w e =
    let count : length values ≡ length ps =
    omega (arith, w.each, length-map ps (λ p. filter_map (number_of ps) (imported_names p))) in
    linked_by ps values qs b
    (all_of ps values b w [] ps [] values [] refl refl count (linked_good ps values qs count e) tt tt) e

pub links_named : LinksAreNamed
links_named qs rs entry r o l at e =
    resolved_links rs entry r o l.resolved at (l.main entry r at)
    (subst (λ ps. link ps entry ≡ Links o) (sym l.parts) e)
