-- A text with its names.
use Rattle.std.proofs.Common.{◌≡◌, ℕ, List, Bool, true, false, ◌&&◌, refl, sym, ap, ◌∙◌, subst}
use Rattle.elm_base.specs.declared.position.Pos.{Pos}
use Rattle.js_tree.specs.Tree.{Program}
use Rattle.js_tree.specs.Text.{JsText}
use Rattle.js_tree.specs.Subset.{in_subset, is_program_bound, is_program_spelled}
use Rattle.js_tree.specs.Faults.{place_after}
use Rattle.js_tree.specs.Postorder.{Tree, ProgramOf}
use Rattle.js_tree.specs.Automaton.{is_live}
use Rattle.js_tree.proofs.CompleteTree.{read_back}
use Rattle.js_tree.proofs.Exact.{fault_at_end, one_program}
use Rattle.js_scope.specs.Bound.{names_bound}
use Rattle.js_scope.specs.declared.refusal.Refusal.{Refusal}
use Rattle.js_scope.specs.declared.refusal.Refusal.TheVariants.{At, NoMemory}
use Rattle.js_scope.specs.Read.{IsNoText, IsRead, IsRefused, IsTreeOf, place_view}
use Rattle.js_scope.proofs.Reading.{first_place}

both : (a b : Bool) → a ≡ true → b ≡ true → (a && b) ≡ true
both true true p q = refl
both true false p q = absurd cc
both false b p q = absurd cc

first_of : (a b : Bool) → (a && b) ≡ true → a ≡ true
first_of true b h = refl
first_of false b h = absurd cc

second_of : (a b : Bool) → (a && b) ≡ true → b ≡ true
second_of true true h = refl
second_of true false h = absurd cc
second_of false b h = absurd cc

spelled_in : (p : Program) → in_subset p ≡ true → is_program_spelled p ≡ true
spelled_in p h = first_of (is_program_spelled p) (is_program_bound p) h

-- a text whose names are bound
pub bound_text : (t : Tree) (bytes : List ℕ) → IsTreeOf t bytes → names_bound t ≡ true → IsRead t bytes
bound_text t bytes r b = record {
  program = r.program;
  whole = r.whole;
  admitted = both (is_program_spelled r.program) (is_program_bound r.program) r.spelled (subst (λ s. names_bound s ≡ true) r.whole b);
  text = r.text;
  only = λ other h u. one_program bytes other r.program (spelled_in other h) r.spelled u r.text;
}

not_both : (b : Bool) → b ≡ true → b ≡ false → ⊥
not_both true p q = cc
not_both false p q = cc

-- a text with a name that is not
pub unbound_text : (t : Tree) (bytes : List ℕ) (p : Pos) → IsTreeOf t bytes → names_bound t ≡ false → place_view p ≡ place_after first_place bytes → IsRefused (At p) bytes
unbound_text t bytes p r b e = (none, fault_at_end bytes (place_view p) (ap is_live (read_back r.program bytes r.spelled r.text)) (sym e))
  where
    none : (program : Program) → in_subset program ≡ true → JsText program bytes → ⊥
    none program h u =
        let same : program ≡ r.program = one_program bytes program r.program (spelled_in program h) r.spelled u r.text in
        not_both (is_program_bound r.program)
        (ap is_program_bound (sym same) ∙ second_of (is_program_spelled program) (is_program_bound program) h)
        (subst (λ s. names_bound s ≡ false) r.whole b)

-- no text
pub no_text : (refusal : Refusal) (bytes : List ℕ) → IsNoText refusal bytes → IsRefused refusal bytes
no_text (At p) bytes n = (λ program h u. n.0 program (spelled_in program h) u, n.1)
no_text NoMemory bytes n = n
