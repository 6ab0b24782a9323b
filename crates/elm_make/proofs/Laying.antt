-- What lies on a desk.
use Rattle.std.proofs.Common.{◌≡◌, ℕ, List, [], ◌∷◌, ◌++◌, Option, Some, None, Bool, true, false, refl, sym, ap}
use Rattle.std.proofs.Common.{subst, ◌∙◌}
use Rattle.std.specs.Prelude.{reverse, if◌then◌else◌, option_map}
use Rattle.std.specs.List.{AllByRecursion}
use Rattle.std.specs.Map.{lookup}
use Rattle.std.proofs.Math.Path.{fun_ext}
use Rattle.std.proofs.lemmas.Bool.{false≢true}
use Rattle.std.proofs.lemmas.List.{reverse-append}
use Rattle.elm_canon.specs.Names.{Name, same_name}
use Rattle.link.specs.declared.fragment.Fragment.{Fragment}
use Rattle.interface.specs.Interface.{Interface}
use Rattle.interface.specs.View.{interface_view}
use Rattle.module_compile.specs.declared.made.Made.TheVariants as made
use Rattle.module_made.specs.Around.{Around, home_of as around_home, found_in, in_project, in_core}
use Rattle.module_offers.specs.Offers.{Interfaces}
use Rattle.module_compile.specs.ModulePhasesView.{around_view}
use Rattle.module_compile.specs.declared.offered.Offered.{Offered}
use Rattle.infer_proper.specs.Sound.{with_interface}
use Rattle.std.specs.declared.alloc.Global.{Global}
use Rattle.std.specs.declared.sync.Arc.{Arc}
use Rattle.project_parts.specs.Modules.{Part, around, home_of, name_of, by_name}
use Rattle.elm_make.specs.Desks.{with_value, offers_after, offers, IsElsewhere, HasLaid, IsLaid, Pushes}
use Rattle.elm_make.specs.declared.desk.Desk.{Desk}
use Rattle.elm_make.specs.ProjectCompileView.{Value}
use Rattle.elm_make.proofs.Names.{same_back}

abbrev pub Offers : Type 0
Offers = Option (List (Name × Interface))

-- ---- one value more

with_none : (v : Value) → with_value v None ≡ None
with_none (Some (made.Good o f)) = refl
with_none (Some (made.Bad fs)) = refl
with_none None = refl

pub none_after : (vs : List Value) → offers_after None vs ≡ None
none_after [] = refl
none_after (v ∷ vs) = ap (λ is. offers_after is vs) (with_none v) ∙ none_after vs

one_more : (is : Offers) (vs : List Value) (v : Value)
    → offers_after is (vs ++ v ∷ []) ≡ with_value v (offers_after is vs)
one_more is [] v = refl
one_more is (w ∷ vs) v = one_more (with_value w is) vs v

all_before : (P : Value → Type 0) (vs : List Value) (v : Value) → AllByRecursion P (vs ++ v ∷ [])
    → AllByRecursion P vs × P v
all_before P [] v a = (tt, a.0)
all_before P (w ∷ vs) v a = let r = all_before P vs v a.1 in ((a.0, r.0), r.1)

-- ---- what a part is compiled in

pub home_in : (p : Part) (is : List (Name × Interface)) → around_home (around p is) ≡ home_of p
home_in p is = at p.is_core
  where
    at : (b : Bool) → around_home ((if b then in_core else in_project) (name_of p) (found_in p.module_.imports)
        (by_name is)) ≡ home_of p
    at true = refl
    at false = refl

named_last : (is : List (Name × Interface)) (home : Name) (i : Interface) (x : Name)
    → by_name (is ++ (home, i) ∷ []) x ≡ with_interface home i (by_name is) x
named_last is home i x =
    ap (lookup (same_name x)) (reverse-append is ((home, i) ∷ []))
    ∙ ap (λ b. if b then Some i else by_name is x) (same_back x home)

with_last : (p : Part) (is : List (Name × Interface)) (home : Name) (i : Interface)
    → record (around p is) { interfaces = with_interface home i (around p is).interfaces }
    ≡ around p (is ++ (home, i) ∷ [])
with_last p is home i = at p.is_core
  where
    same : with_interface home i (by_name is) ≡ by_name (is ++ (home, i) ∷ [])
    same = fun_ext (λ x. sym (named_last is home i x))

    of : Bool → Interfaces → Around
    of b = (if b then in_core else in_project) (name_of p) (found_in p.module_.imports)

    at : (b : Bool) → record (of b (by_name is)) { interfaces = with_interface home i (of b (by_name is)).interfaces }
        ≡ of b (by_name (is ++ (home, i) ∷ []))
    at true = ap (of true) same
    at false = ap (of false) same

-- ---- the desk

pub none_laid : (p : Part) (d : Desk) → d.is_blocked ≡ false → around_view d.imports ≡ around p [] → IsLaid p d []
none_laid p d b e a = (b, e)

-- a value that is not good
pub bad_laid : (p : Part) (d : Desk) (vs : List Value) (v : Value) → d.is_blocked ≡ true
    → ((is : Offers) → with_value v is ≡ None) → IsLaid p d (vs ++ v ∷ [])
bad_laid p d vs v b none a =
    subst (HasLaid p d) (sym (one_more (Some []) vs v ∙ none (offers vs))) b

-- a value that is good
pub good_laid : (p : Part) (old new : Desk) (vs : List Value) (o : Arc Offered Global) (f : Fragment)
    → Pushes old o.value new
    → IsLaid p old vs → IsLaid p new (vs ++ Some (made.Good o f) ∷ [])
good_laid p old new vs o f pushes laid a =
    let parts = all_before (IsElsewhere (home_of p)) vs (Some (made.Good o f)) a in
    subst (HasLaid p new) (sym (one_more (Some []) vs (Some (made.Good o f)))) (at (offers vs) parts.1 (laid parts.0))
  where
    at : (is : Offers) → same_name o.value.home (home_of p) ≡ false → HasLaid p old is
        → HasLaid p new (with_value (Some (made.Good o f)) is)
    at None e h = pushes.blocked h
    at (Some is) e h =
        let apart = ap (λ (a : Around). same_name o.value.home (around_home a)) h.1
        ∙ ap (same_name o.value.home) (home_in p is) ∙ e in
        let r = pushes.pushed apart in (
          r.0 ∙ h.0,
          r.1
              ∙ ap (λ (a : Around). record a {
                interfaces = with_interface o.value.home
                    (interface_view o.value.interface) a.interfaces;
              }) h.1
              ∙ with_last p is o.value.home (interface_view o.value.interface),
        )
