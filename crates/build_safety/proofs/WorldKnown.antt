-- What modules of a build know is known in its world: `modules_known`.
use Rattle.std.proofs.Common.{◌≡◌, ℕ, zero, suc, List, [], ◌∷◌, ◌++◌, length, true, false, Some, refl, sym, ap}
use Rattle.std.proofs.Common.{◌∙◌, subst, if◌then◌else◌}
use Rattle.std.specs.Prelude.{slice_get}
use Rattle.elm_canon.specs.Names.{Name, same_name}
use Rattle.canon_env.proofs.Adding.{same_name-sym}
use Rattle.canon_proper.proofs.Scopes.{name_itself}
use Rattle.elm_canon.specs.Spelled.{is_module}
use Rattle.type_items.specs.Scopes.{Known}
use Rattle.type_items.specs.Modules.{known_in}
use Rattle.project_proper.specs.Resolved.{HomesApart}
use Rattle.build_safety.specs.Compiled.{Compiled, home_of, resolved_of, AreModules}
use Rattle.build_safety.specs.Told.{told}
use Rattle.build_safety.proofs.Among.{get_here, is_next}
use Rattle.build_safety.proofs.Told.{other_home}
use Rattle.build_safety.specs.BuildWorlds.{known_at, ModulesAreKnown}

-- no module has a name of no letters
abbrev Spelled : List Compiled → Type 0
Spelled [] = Unit {0}
Spelled (c ∷ cs) = (is_module true (home_of c) ≡ true) × Spelled cs

spelled_from : (done cs : List Compiled) → AreModules (done ++ cs) → Spelled cs
spelled_from done [] all = tt
spelled_from done (c ∷ cs) all = (
  (is_next done c cs all).name,
  spelled_from (done ++ c ∷ []) cs (subst AreModules (sym (more done)) all),
)
  where
    more : (done : List Compiled) → (done ++ c ∷ []) ++ cs ≡ done ++ c ∷ cs
    more [] = refl
    more (d ∷ done) = ap (λ ds. d ∷ ds) (more done)

not_empty : (n : Name) → is_module true n ≡ true → same_name [] n ≡ false
not_empty [] e = absurd cc
not_empty (c ∷ n) e = refl

all_at : (cs : List Compiled) (all : Known) → Spelled cs → all ≡ known_at cs all []
all_at [] all h = refl
all_at (c ∷ cs) all h =
    all_at cs all h.1
    ∙ sym (ap (λ b. if b then known_in c.resolved.whole all else known_at cs all []) (not_empty (home_of c) h.0))

each_at : (cs : List Compiled) (all : Known) (i : ℕ) (c : Compiled) → HomesApart (resolved_of cs) →
    slice_get cs i ≡ Some c → known_in c.resolved.whole all ≡ known_at cs all (home_of c)
each_at [] all i c apart at = absurd cc
each_at (d ∷ cs) all zero c apart at =
    let h : d ≡ c = cc in
    subst (λ (z : Compiled). known_in z.resolved.whole all ≡ known_at (d ∷ cs) all (home_of z)) h
    (sym (ap (λ b. if b then known_in d.resolved.whole all else known_at cs all (home_of d)) (name_itself (home_of d))))
each_at (d ∷ cs) all (suc i) c apart at =
    each_at cs all i c apart.1 at
    ∙ sym (ap (λ b. if b then known_in d.resolved.whole all else known_at cs all (home_of c))
    (same_name-sym (home_of c) (home_of d) ∙ other_home (home_of d) cs i c apart.0 at))

pub modules_known : ModulesAreKnown
modules_known cs outs ins all = record {
  all = ([], all_at cs (told cs) (spelled_from [] cs all));
  each = λ before c after e. (
    home_of c,
    each_at cs (told cs) (length before) c all.resolved.apart
        (subst (λ ds. slice_get ds (length before) ≡ Some c) e (get_here before after c)),
  );
}
