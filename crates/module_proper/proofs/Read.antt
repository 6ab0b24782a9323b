-- What a text guarantees of its declarations.
use Rattle.std.proofs.Common.{◌≡◌, ℕ, ◌<◌, List, [], ◌∷◌, length, Bool, true, false, ◌&&◌, codes, refl, sym, ◌∙◌, arith}
use Rattle.elm_lexer.specs.Tokens.{Token, Tokens}
use Rattle.elm_tree.specs.Tree.{Module, Declaration, Value, Port, Union, Alias, ConstructorOf}
use Rattle.elm_canon.specs.Names.{Name, same_name}
use Rattle.elm_canon.specs.Tree as canon
use Rattle.elm_canon.specs.Proper.{Scope}
use Rattle.elm_canon.specs.Declarations.{ProperDeclarations}
use Rattle.canon_env.specs.Imports.{name_of}
use Rattle.canon_type.specs.Unions.{is_type}
use Rattle.canon_module.specs.Resolve.{Setting, IsModule, module_faults}
use Rattle.module_proper.specs.Counted.{HaveFewer, HaveFew, AllHaveFew}
use Rattle.module_proper.specs.Modules.{IsAround, AreRead}
use Rattle.module_proper.proofs.Resolved.{resolved_proper}
use Rattle.canon_proper.specs.Spelled.{HaveFewFields, IsSmall, AreSmall, SpellModule}
use Rattle.canon_proper.proofs.Walking.{text_spelled}

fewer : (cs : List ConstructorOf) → HaveFewFields cs → HaveFewer 4294967296 cs
fewer [] h = tt
fewer (c ∷ cs) h = (h.0, fewer cs h.1)

first : (a b : Bool) → (a && b) ≡ true → a ≡ true
first true b e = refl
first false b e = absurd cc

-- what is no type of Basics is no truth value
no_truths : {A : Type 0} (home x : Name) → same_name home (codes "Basics") ≡ false →
    is_type (codes "Basics") (codes "Bool") home x ≡ true → A
no_truths home x e f =
    let g = first (same_name home (codes "Basics")) (same_name x (codes "Bool")) f in
    let h : true ≡ false = sym g ∙ e in
    absurd cc

few_in : (home : Name) (d : Declaration) → same_name home (codes "Basics") ≡ false → IsSmall d → HaveFew home d
few_in home (Value d) e h = tt
few_in home (Port x t) e h = tt
few_in home (Union x ps cs) e h = record {
  many = omega (arith, h.0);
  fields = fewer cs h.1;
  truths = λ f. no_truths home (name_of x) e f;
}
few_in home (Alias x ps t) e h = tt

few_each : (home : Name) (ds : List Declaration) → same_name home (codes "Basics") ≡ false → AreSmall ds →
    AllHaveFew home ds
few_each home [] e h = tt
few_each home (d ∷ ds) e h = (few_in home d e h.0, few_each home ds e h.1)

pub text_read : (text : List ℕ) (tokens : List Token) (t : Module) (home : Name) → Tokens text tokens →
    length text < 4294967296 → SpellModule tokens t → same_name home (codes "Basics") ≡ false →
    AreRead home t.declarations
text_read text tokens t home h l s e =
    let m = text_spelled text tokens t h l s in
    record { spelled = m.declarations; cased = m.cased; few = few_each home t.declarations e m.small }

pub text_proper : (text : List ℕ) (tokens : List Token) (t : Module) (s : Setting) (m : canon.Module) (scope : Scope) →
    Tokens text tokens → length text < 4294967296 → SpellModule tokens t → same_name s.home (codes "Basics") ≡ false →
    IsModule s t.declarations m → IsAround s.home s.imports t.declarations scope → module_faults s t m ≡ [] →
    ProperDeclarations scope m.declarations
text_proper text tokens t s m scope h l p e is around none =
    resolved_proper s t m scope is around (text_read text tokens t s.home h l p e) none
