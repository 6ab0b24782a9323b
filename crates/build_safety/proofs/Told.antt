-- Each module of a build is inferred as the law of typed programs asks: `builds_inferred`.
use Rattle.std.proofs.Common.{◌≡◌, ℕ, zero, suc, List, [], ◌∷◌, ◌++◌, length, Bool, true, false, Option, Some, None}
use Rattle.std.proofs.Common.{inl, inr, refl, sym, ap, ◌∙◌, subst, if◌then◌else◌}
use Rattle.std.specs.Prelude.{◌||◌, slice_get, option_map}
use Rattle.std.specs.List.{AllByRecursion, list_any}
use Rattle.std.specs.Map.{lookup}
use Rattle.std.specs.Option.{option_or}
use Rattle.std.specs.Str.{bytes_eq}
use Rattle.elm_canon.specs.Names.{Name, same_name}
use Rattle.elm_canon.specs.Tree.{Declaration, Module}
use Rattle.elm_canon.specs.declared.reference.Ref.TheVariants.{Top}
use Rattle.elm_type.specs.Types.{Leaf, Free, Fixed, Scheme, variables}
use Rattle.canon_env.proofs.Adding.{same_name-sym}
use Rattle.canon_module.specs.Resolve.{module_faults}
use Rattle.canon_proper.proofs.Scopes.{name_itself}
use Rattle.interface.specs.Interface.{Interface}
use Rattle.type_items.specs.Annotations.{annotation_scheme}
use Rattle.type_items.specs.Expressions.{definitions}
use Rattle.type_items.specs.Modules.{declared, known_in}
use Rattle.type_items.specs.Solutions.{Values}
use Rattle.typed_values.specs.Simple.{defines}
use Rattle.type_safety.specs.Modules.{groups_in}
use Rattle.type_items.specs.More.{Grows}
use Rattle.type_items.proofs.Modules.{same_types}
use Rattle.program_safety.specs.Parts.{Part, HasInstances}
use Rattle.program_safety.specs.Told.{IsVariable, IsToldAs, IsInferred}
use Rattle.told_modules.proofs.Names.{names_apart}
use Rattle.module_offers.specs.Offers.{type_in, known_by}
use Rattle.module_made.specs.Made.{root}
use Rattle.module_made.specs.Made as made
use Rattle.project_proper.specs.Resolved.{Resolved, HomesApart, scope_after}
use Rattle.told_modules.proofs.Offers.{offers_told}
use Rattle.build_safety.specs.Compiled.{Compiled, home_of, interface_of, resolved_of, IsOffered, IsCompiled, AreModules}
use Rattle.build_safety.specs.Told.{own, tells, told, part_of, BuildsAreInferred}
use Rattle.build_safety.proofs.Among.{get_left, get_here, compiled_here, is_next, is_proper}

-- ---- what a module tells, all tell

or_parts : (b c : Bool) → (b || c) ≡ false → (b ≡ false) × (c ≡ false)
or_parts true c e = absurd cc
or_parts false c e = (refl, e)

pub other_home : (x : Name) (cs : List Compiled) (i : ℕ) (c : Compiled) →
    list_any (λ (q : Resolved). same_name x q.setting.home) (resolved_of cs) ≡ false → slice_get cs i ≡ Some c →
    same_name x (home_of c) ≡ false
other_home x [] i c e at = absurd cc
other_home x (d ∷ cs) zero c e at =
    let h : d ≡ c = cc in
    subst (λ (z : Compiled). same_name x (home_of z) ≡ false) h (or_parts (same_name x (home_of d)) _ e).0
other_home x (d ∷ cs) (suc i) c e at = other_home x cs i c (or_parts (same_name x (home_of d)) _ e).1 at

pub told_at : (cs : List Compiled) (i : ℕ) (c : Compiled) → HomesApart (resolved_of cs) → slice_get cs i ≡ Some c →
    (x : Name) → told cs (home_of c) x ≡ tells c x
told_at [] i c apart at x = absurd cc
told_at (d ∷ cs) zero c apart at x =
    let h : d ≡ c = cc in
    subst (λ (z : Compiled). told (d ∷ cs) (home_of z) x ≡ tells z x) h
    (ap (λ b. if b then tells d x else told cs (home_of d) x) (name_itself (home_of d)))
told_at (d ∷ cs) (suc i) c apart at x =
    ap (λ b. if b then tells d x else told cs (home_of c) x)
    (same_name-sym (home_of c) (home_of d) ∙ other_home (home_of d) cs i c apart.0 at)
    ∙ told_at cs i c apart.1 at x

first_tells : (a b : Option Scheme) (s : Scheme) → a ≡ Some s → option_or a b ≡ Some s
first_tells a b s e = ap (λ o. option_or o b) e

same_instances : (s : Scheme) → HasInstances s s
same_instances s f choice stands chosen = (choice, chosen, refl)

all_variables : (ls : List (Leaf ℕ)) → AllByRecursion made.IsVariable ls → AllByRecursion IsVariable ls
all_variables [] h = tt
all_variables (Free i ∷ ls) h = (tt, all_variables ls h.1)
all_variables (Fixed r ∷ ls) h = absurd h.0

-- ---- a module

module _ (before : List Compiled) (c : Compiled) (after : List Compiled) (all : AreModules (before ++ c ∷ after)) where
  abbrev cs : List Compiled
  cs = before ++ c ∷ after

  abbrev m : Module
  m = c.resolved.whole

  is : IsCompiled before c
  is = compiled_here before c after all

  -- it knows no more than what all tell
  pub grows : Grows (known_by c.around.interfaces) (told cs)
  grows h x s e = by (c.around.interfaces h) refl e
    where
      offered : (i : Interface) (o : IsOffered before h i) → type_in h (Some i) x ≡ Some s → told cs h x ≡ Some s
      offered i o f =
          subst (λ z. told cs z x ≡ Some s) o.home
          (told_at cs o.place o.by all.resolved.apart (get_left before (c ∷ after) o.place o.by o.at) x
          ∙ first_tells (type_in (home_of o.by) (Some (interface_of o.by)) x) (own o.by x) s
          (subst (λ z. type_in z (Some (interface_of o.by)) x ≡ Some s) (sym o.home)
          (subst (λ z. type_in h (Some z) x ≡ Some s) o.is f)))

      by : (o : Option Interface) → c.around.interfaces h ≡ o → type_in h o x ≡ Some s → told cs h x ≡ Some s
      by None a f = absurd cc
      by (Some i) a f = offered i (is.offered h i a) f

  -- and of its own names all tell what it does
  tells_here : (x : Name) → told cs (home_of c) x ≡ tells c x
  tells_here x = told_at cs (length before) c all.resolved.apart (get_here before after c) x

  no_faults : module_faults c.resolved.setting c.resolved.written m ≡ []
  no_faults =
      subst (λ s. module_faults s c.resolved.written m ≡ []) (sym is.setting) is.typed.is_named.named

  name : m.name ≡ home_of c
  name = (is_next before c after all).is.name

  module _ (values : Values) (ds : List Declaration) where
    abbrev p : Part
    p = part_of c values ds

    own_told : (x : Name) (s : Scheme) → own c x ≡ Some s → IsToldAs (told cs) c.told p x s
    own_told x s e =
        by (defines (definitions (groups_in m.declarations)) (Top (home_of c) x)) refl e
      where
        known : (o : Option Scheme) → o ≡ Some s → known_in m (told cs) m.name x ≡ o →
            known_in m (told cs) m.name x ≡ Some s
        known o f g = g ∙ f

        by : (b : Bool) → defines (definitions (groups_in m.declarations)) (Top (home_of c) x) ≡ b →
            (if b then c.told (Top (home_of c) x)
            else option_map annotation_scheme (lookup (bytes_eq x) (declared m))) ≡ Some s →
            IsToldAs (told cs) c.told p x s
        by true d f = record {
          scheme = s;
          instances = same_instances s;
          is = inl (
            subst (λ h. defines (definitions (groups_in m.declarations)) (Top h x) ≡ true) (sym name) d,
            subst (λ h. c.told (Top h x) ≡ Some s) (sym name) f,
          );
        }
        by false d f = record {
          scheme = s;
          instances = same_instances s;
          is = inr (
            subst (λ h. defines (definitions (groups_in m.declarations)) (Top h x) ≡ false) (sym name) d,
            known (option_map annotation_scheme (lookup (bytes_eq x) (declared m))) f
                (ap (λ b. if b then option_map annotation_scheme (lookup (bytes_eq x) (declared m))
                else told cs m.name x) (name_itself m.name)),
          );
        }

    all_told : (x : Name) (s : Scheme) → told cs m.name x ≡ Some s → IsToldAs (told cs) c.told p x s
    all_told x s e =
        by (type_in (home_of c) (Some (interface_of c)) x) refl
        (sym (tells_here x) ∙ subst (λ h. told cs h x ≡ Some s) name e)
      where
        by : (o : Option Scheme) → type_in (home_of c) (Some (interface_of c)) x ≡ o →
            option_or o (own c x) ≡ Some s → IsToldAs (told cs) c.told p x s
        by None f g = own_told x s g
        by (Some k) f g =
            let h : k ≡ s = cc in
            offers_told c.resolved.setting c.resolved.written p (is_next before c after all).is
            (is_next before c after all).read no_faults is.given (told cs) c.told x s
            (subst (λ z. type_in z (Some (interface_of c)) x ≡ Some s) (sym name) (f ∙ ap (λ z. Some z) h))

    inferred : IsInferred (told cs) p
    inferred =
        let names = names_apart m (scope_after (resolved_of before)) (is_proper before c after all) in record {
          schemes = c.told;
          inferred = same_types m (known_by c.around.interfaces) (told cs) root c.told grows is.typed.typed;
          placed = λ e. absurd cc;
          titled = names.0;
          apart = names.1;
          closed = λ x s e. all_variables (variables s.type) (is.typed.closed (Top m.name x) s e);
          tells = all_told;
        }

pub builds_inferred : BuildsAreInferred
builds_inferred before c after values ds all = inferred before c after all values ds
