-- What a module is made to.
use Rattle.std.proofs.Common.{◌≡◌, ℕ, zero, suc, ◌<◌, ◌≤◌, List, [], ◌∷◌, ◌++◌, length, map, Option, Some, None, Bool}
use Rattle.std.proofs.Common.{true, false, ltb, get_or}
use Rattle.std.proofs.Common.{⊎_elim, refl, sym, ap, subst, ◌∙◌, arith, append-nil, append_assoc}
use Rattle.std.specs.Prelude.{slice_get, option_map, unwrap_or}
use Rattle.std.specs.List.{AllByRecursion, filter_map, cons_option, zip}
use Rattle.std.proofs.lemmas.Bool.{cases_eq, false≢true, false_from_ne_true, ltb-true}
use Rattle.std.proofs.lemmas.List.{length-map}
use Rattle.std.proofs.lemmas.Option.{slice_get-map, slice_get_read, unwrap_or-slice_get}
use Rattle.decl_groups.specs.Groups.{list_at}
use Rattle.elm_canon.specs.Names.{Name, same_name}
use Rattle.interface.specs.Interface.{Interface}
use Rattle.interface.specs.View.{interface_view}
use Rattle.module_compile.specs.View.{made_view, IsAtHome}
use Rattle.module_compile.specs.declared.made.Made as program
use Rattle.module_compile.specs.declared.made.Made.TheVariants as made
use Rattle.import_graph.specs.Fold.{values_at, Folds}
use Rattle.module_made.specs.Around.{Around, home_of as around_home}
use Rattle.module_made.specs.Made as plain
use Rattle.module_made.specs.Made.{Made}
use Rattle.module_compile.specs.ModulePhasesView.{around_view}
use Rattle.project_parts.specs.Modules.{Part, around, home_of, good_interfaces, CompilesWith, imported_homes}
use Rattle.project_parts.specs.Modules.{CompilesAmong}
use Rattle.project_parts.specs.Modules.{Compiles, graph_of, Values, number_of, imported_names}
use Rattle.project_parts.specs.Laws.{Fits, IsBuild}
use Rattle.project_parts.specs.View.{part_view}
use Rattle.project_parts.specs.declared.parts.Part as program_part
use Rattle.project_parts.proofs.Placing.{item_at, mapped, image}
use Rattle.elm_make.specs.Desks.{with_value, offers_after, offers, IsElsewhere, HasLaid, IsLaid}
use Rattle.elm_make.specs.Making.{IsCompiled, MadeOf, IsMadeOf, AreHomes, AreBelow, IsMade, Makes, Holds}
use Rattle.elm_make.specs.ProjectCompileView.{Value, value_view, IsOf}
use Rattle.elm_make.specs.declared.desk.Desk.{Desk}
use Rattle.elm_make.proofs.Laying.{Offers, none_after, home_in}
use Rattle.elm_make.proofs.Names.{one_name}

-- ---- one module

pub made_blocked : (p : Part) (d : Desk) (vs : List Value) → d.is_blocked ≡ true → IsLaid p d vs → IsMadeOf p vs None
made_blocked p d vs b laid e fits = record { compiles = at (offers vs) (laid e); home = tt }
  where
    at : (is : Offers) → HasLaid p d is → CompilesWith p is plain.Blocked
    at None h = refl
    at (Some is) h = absurd (false≢true (sym h.0 ∙ b))

pub made_told : (p : Part) (d : Desk) (vs : List Value) (m : program.Made) → d.is_blocked ≡ false
    → IsCompiled p (around_view d.imports) m → IsLaid p d vs → IsMadeOf p vs (Some m)
made_told p d vs m b is laid e fits = at (offers vs) (laid e) refl
  where
    at : (os : Offers) → HasLaid p d os → offers vs ≡ os → MadeOf p vs (Some m)
    at None h k = absurd (false≢true (sym b ∙ h))
    at (Some os) h k = record {
      compiles = subst (λ x. CompilesWith p x (made_view m)) (sym k)
          (subst (λ a. Made a p.module_.source.path p.module_.source.text (made_view m)) h.1 (is.made fits));
      home = subst (λ x. IsAtHome x m) (ap around_home h.1 ∙ home_in p os) is.home;
    }

-- the path and the text of a part are those that are compiled
pub told_by : (p : Part) (a : Around) (path : List ℕ) (text : Option (List ℕ)) (m : program.Made)
    → path ≡ p.module_.source.path → (Fits p.module_.source.text → text ≡ p.module_.source.text)
    → Made a path text (made_view m) → IsAtHome (around_home a) m → IsCompiled p a m
told_by p a path text m e same is home = record {
  made = λ fits.
      subst (λ x. Made a x p.module_.source.text (made_view m)) e
      (subst (λ t. Made a path t (made_view m)) (same fits) is);
  home = home;
}

-- the part at a number
pub part_there : (parts : List program_part.Part) (i : ℕ) (t : program_part.Part) → true ≡ ltb i (length parts)
    → t ≡ get_or parts i t → slice_get (map part_view parts) i ≡ Some (part_view t)
part_there parts i t l e =
    image part_view parts i t (slice_get_read parts (length parts) i t refl (ltb-true i (length parts) (sym l)) e)

-- ---- among the modules of a build

module _ (ps : List Part) (i : ℕ) (values : List Value) (within : i < length ps) (b : IsBuild ps)
    (below : AreBelow ps i values) where
  -- the part and the value of a lower number
  lower : (n : ℕ) → n < i → (q : Part) × (v : Value) × (slice_get ps n ≡ Some q) × (slice_get values n ≡ Some v)
  lower n l =
      let q = item_at ps n (omega (arith, l, within)) in
      let v = item_at values n (omega (arith, l, within, below.each)) in
      (q.0, v.0, q.1, v.1)

  -- what the homes of numbers tell, with the values
  abbrev Told_by : List ℕ → Offers
  Told_by ns = good_interfaces (zip (imported_homes ps ns) (map value_view (values_at values ns)))

  joined : (acc : List (Name × Interface)) (x : Name × Interface) (o : Offers)
      → option_map (λ is. (acc ++ x ∷ []) ++ is) o ≡ option_map (λ is. acc ++ is) (option_map (λ is. x ∷ is) o)
  joined acc x None = refl
  joined acc x (Some is) = ap Some (append_assoc acc (x ∷ []) is)

  one_told : (acc : List (Name × Interface)) (q : Part) (v : Value) (ws : List Value) (hs : List Name)
      → IsOf (home_of q) v
      → ((more : List (Name × Interface)) → offers_after (Some more) ws
      ≡ option_map (λ is. more ++ is) (good_interfaces (zip hs (map value_view ws))))
      → offers_after (with_value v (Some acc)) ws
      ≡ option_map (λ is. acc ++ is) (good_interfaces ((home_of q, value_view v) ∷ zip hs (map value_view ws)))
  one_told acc q (Some (made.Good o f)) ws hs h more =
      more (acc ++ (o.value.home, interface_view o.value.interface) ∷ [])
      ∙ joined acc (o.value.home, interface_view o.value.interface) (good_interfaces (zip hs (map value_view ws)))
      ∙ ap (λ x. option_map (λ is. acc ++ is) (option_map (λ is. (x, interface_view o.value.interface) ∷ is)
      (good_interfaces (zip hs (map value_view ws))))) h
  one_told acc q (Some (made.Bad fs)) ws hs h more = none_after ws
  one_told acc q None ws hs h more = none_after ws

  agrees : (acc : List (Name × Interface)) (ns : List ℕ) → AllByRecursion (λ n. n < i) ns
      → offers_after (Some acc) (values_at values ns) ≡ option_map (λ is. acc ++ is) (Told_by ns)
  agrees acc [] l = ap Some (sym (append-nil acc))
  agrees acc (n ∷ ns) l =
      let x = lower n l.0 in
      subst
      (λ u. offers_after (Some acc) (cons_option u (values_at values ns))
      ≡ option_map (λ is. acc ++ is)
      (good_interfaces (zip (imported_homes ps (n ∷ ns)) (map value_view (cons_option u (values_at values ns))))))
      (sym x.3)
      (subst
      (λ o. offers_after (Some acc) (x.1 ∷ values_at values ns)
      ≡ option_map (λ is. acc ++ is)
      (good_interfaces (zip (map home_of (cons_option o (filter_map (slice_get ps) ns)))
      (map value_view (x.1 ∷ values_at values ns)))))
      (sym x.2)
      (one_told acc x.0 x.1 (values_at values ns) (imported_homes ps ns) (below.homes n x.0 x.1 l.0 x.2 x.3)
      (λ more. agrees more ns l.1)))

  -- the values of imports are of other modules
  other : (p q : Part) (n : ℕ) (v : Value) → n < i → slice_get ps i ≡ Some p → slice_get ps n ≡ Some q
      → IsOf (home_of q) v
      → IsElsewhere (home_of p) v
  other p q n (Some (made.Good o f)) l e g h =
      false_from_ne_true (same_name o.value.home (home_of p)) (λ t.
      let same : home_of q ≡ home_of p = sym h ∙ one_name o.value.home (home_of p) t in
      let k = b.apart n i q p g e same in omega (arith, k, l))
  other p q n (Some (made.Bad fs)) l e g h = tt
  other p q n None l e g h = tt

  others : (p : Part) → slice_get ps i ≡ Some p → (ns : List ℕ) → AllByRecursion (λ n. n < i) ns
      → AllByRecursion (IsElsewhere (home_of p)) (values_at values ns)
  others p e [] l = tt
  others p e (n ∷ ns) l =
      let x = lower n l.0 in
      subst (λ u. AllByRecursion (IsElsewhere (home_of p)) (cons_option u (values_at values ns))) (sym x.3)
      (other p x.0 n x.1 l.0 e x.2 (below.homes n x.0 x.1 l.0 x.2 x.3), others p e ns l.1)

  pub made_among : (p : Part) (v : Value) → slice_get ps i ≡ Some p
      → IsMadeOf p (values_at values (list_at (graph_of ps) i)) v
      → IsMade ps i (values_at values (list_at (graph_of ps) i)) v
  made_among p v e made =
      let row = list_at (graph_of ps) i in
      let low = b.ordered i in
      let m = made (others p e row low) (b.fit i p e) in
      let vs = map value_view (values_at values row) in
      let written = unwrap_or (slice_get (graph_of ps) i) [] in
      let same : offers (values_at values row) ≡ Told_by row = agrees [] row low ∙ none_before (Told_by row) in
      record {
        compiles = subst (λ o. CompilesAmong ps vs o written (value_view v)) (sym e)
            (subst (λ ns. CompilesWith p (good_interfaces (zip (imported_homes ps ns) vs)) (value_view v))
            (sym (unwrap_or-slice_get (graph_of ps) i []))
            (subst (λ x. CompilesWith p x (value_view v)) same m.compiles));
        home = λ q g.
            let s : Some p ≡ Some q = sym e ∙ g in
            let k : p ≡ q = cc in subst (λ (x : Part). IsOf (home_of x) v) k m.home;
      }
    where
      none_before : (o : Offers) → option_map (λ is. [] ++ is) o ≡ o
      none_before None = refl
      none_before (Some is) = refl

-- what a desk is made to
pub finished : (ps : List Part) (d : Desk) (i : ℕ) (vs : List Value) (p : Part) (v : Value) → Holds ps d i vs
    → slice_get ps d.number ≡ Some p → (IsLaid p d vs → IsMadeOf p vs v) → Makes ps i vs v
finished ps d i vs p v h e made b values below is =
    let g : slice_get ps i ≡ Some p = subst (λ n. slice_get ps n ≡ Some p) h.number e in
    let m : IsMadeOf p vs v = made (h.laid p g) in
    subst (λ ws. IsMade ps i ws v) (sym is)
    (made_among ps i values h.within b below p v g (subst (λ ws. IsMadeOf p ws v) is m))

-- ---- all modules

module _ (ps : List Part) (b : IsBuild ps) (values : List Value) (f : Folds (Makes ps) (graph_of ps) values) where
  count : length values ≡ length ps
  count = f.each ∙ length-map ps (λ p. filter_map (number_of ps) (imported_names p))

  below_all : (n : ℕ) → AreBelow ps n values
  below_all zero = record { each = count; homes = λ j q v l e g. absurd (omega (arith, l)) }
  below_all (suc n) = at (below_all n)
    where
      at : AreBelow ps n values → AreBelow ps (suc n) values
      at before = record {
        each = before.each;
        homes = λ j q v l e g.
            ⊎_elim
            (λ same. subst (λ k. slice_get ps k ≡ Some q → slice_get values k ≡ Some v → IsOf (home_of q) v) (sym same)
            (λ e' g'. (f.made n v g' b values before refl).home q e') e g)
            (λ other. before.homes j q v (omega (arith, l, other)) e g) (cases_eq j n);
      }

  at_map : (ns : List ℕ) → values_at (map value_view values) ns ≡ map value_view (values_at values ns)
  at_map [] = refl
  at_map (n ∷ ns) =
      ap (λ o. cons_option o (values_at (map value_view values) ns)) (slice_get-map value_view values n)
      ∙ at (slice_get values n) (at_map ns)
    where
      at : (o : Option Value) → values_at (map value_view values) ns ≡ map value_view (values_at values ns)
          → cons_option (option_map value_view o) (values_at (map value_view values) ns)
          ≡ map value_view (cons_option o (values_at values ns))
      at None e = e
      at (Some v) e = ap (λ vs. value_view v ∷ vs) e

  pub all_values : Values ps (map value_view values)
  all_values = record {
    each = length-map values value_view ∙ f.each;
    made = λ i w e.
        let v = mapped value_view values i w e in
        let m = (f.made i v.0 v.1 b values (below_all i) refl).compiles in
        subst (λ u. Compiles ps i (values_at (map value_view values) (list_at (graph_of ps) i)) u) v.2
        (subst (λ vs. Compiles ps i vs (value_view v.0)) (sym (at_map (list_at (graph_of ps) i))) m);
  }
