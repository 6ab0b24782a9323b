-- What a module is compiled in is sound at first, and stays so with more interfaces.
use Rattle.std.proofs.Common.{◌≡◌, ℕ, List, [], ◌∷◌, Bool, true, false, if◌then◌else◌, Some, None}
use Rattle.std.proofs.Common.{refl, sym, subst}
use Rattle.std.specs.Prelude.{codes}
use Rattle.std.specs.Str.Lossy.{utf8_lossy}
use Rattle.std.proofs.lemmas.Bool.{false≢true}
use Rattle.elm_base.specs.Units.{text_units}
use Rattle.elm_canon.specs.Names.{Name, same_name}
use Rattle.canon_env.proofs.Adding.{one_name}
use Rattle.core_modules.specs.Given.{given_types, opaque_type}
use Rattle.interface.specs.Interface.{Interface}
use Rattle.import_graph.specs.declared.found.Found.{Found}
use Rattle.module_made.specs.Around.{Around, home_of, in_project, in_core}
use Rattle.infer_proper.specs.Sound.{SoundInterface, AreOpaque, ShowsTypes, IsSound, with_interface}

opaque_is : (home x : Name) (ps : List Name) → AreOpaque (opaque_type home x ps ∷ [])
opaque_is home x ps = (record { makers = refl; fields = refl }, tt)

given_opaque : (home : Name) → AreOpaque (given_types home)
given_opaque home =
    first (same_name home (codes "Basics")) (same_name home (codes "Char")) (same_name home (codes "List"))
    (same_name home (codes "String"))
  where
    first : (b c d e : Bool) → AreOpaque (if b then opaque_type home (codes "Int") [] ∷ []
        else (if c then opaque_type home (codes "Char") [] ∷ []
        else (if d then opaque_type home (codes "List") (codes "a" ∷ []) ∷ []
        else (if e then opaque_type home (codes "String") [] ∷ []
        else []))))
    first true c d e = opaque_is home (codes "Int") []
    first false true d e = opaque_is home (codes "Char") []
    first false false true e = opaque_is home (codes "List") (codes "a" ∷ [])
    first false false false true = opaque_is home (codes "String") []
    first false false false false = tt

given_shows : (home : Name) → ShowsTypes (record { values = []; unions = given_types home; aliases = [] })
given_shows home = record { values = refl; unions = given_opaque home; aliases = refl }

pub project_bare : (name : List ℕ) (found : List ℕ → Found) → IsSound (in_project name found (λ x. None))
project_bare name found = record {
  apart = λ i e. absurd cc;
  interfaces = λ x i e. absurd cc;
  given = tt;
  known = tt;
}

pub core_bare : (name : List ℕ) (found : List ℕ → Found) → IsSound (in_core name found (λ x. None))
core_bare name found = record {
  apart = λ i e. absurd cc;
  interfaces = λ x i e. absurd cc;
  given = given_opaque (text_units (utf8_lossy name));
  known = (
    given_shows (codes "Basics"),
    (given_shows (codes "Char"), (given_shows (codes "List"), (given_shows (codes "String"), tt))),
  );
}

module _ (a : Around) (home : Name) (i : Interface) (is : IsSound a) where
  with_apart : (b : Bool) → b ≡ false → (j : Interface)
      → (if b then Some i else a.interfaces (home_of a)) ≡ Some j → ⊥
  with_apart true e j f = false≢true (sym e)
  with_apart false e j f = is.apart j f

  with_sound : SoundInterface home i → (x : Name) (b : Bool) → same_name home x ≡ b → (j : Interface)
      → (if b then Some i else a.interfaces x) ≡ Some j → SoundInterface x j
  with_sound s x true e j f =
      let same : i ≡ j = cc in
      subst (SoundInterface x) same (subst (λ h. SoundInterface h i) (one_name home x e) s)
  with_sound s x false e j f = is.interfaces x j f

  pub with_more : same_name home (home_of a) ≡ false → SoundInterface home i
      → IsSound (record a { interfaces = with_interface home i a.interfaces })
  with_more e s = record {
    apart = λ j f. with_apart (same_name home (home_of a)) e j f;
    interfaces = λ x j f. with_sound s x (same_name home x) refl j f;
    given = is.given;
    known = is.known;
  }
