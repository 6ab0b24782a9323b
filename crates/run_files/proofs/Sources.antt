-- The run of a program's text, once it was read.
use Rattle.std.proofs.Common.{◌≡◌, ℕ, true, List, [], Option, Some, None, IfSome, refl, sym, ap, ◌∙◌, subst, inl, inr}
use Rattle.std.proofs.lemmas.Option.{IfSome_then}
use Rattle.std.specs.declared.vec.Vec.{Vec}
use Rattle.std.specs.declared.alloc.Global.{Global}
use Rattle.elm_base.specs.declared.fault.Code.TheVariants.{NotElmcOutput}
use Rattle.elm_files.specs.Tree.{Tree}
use Rattle.js_tree.specs.Tree.{Program}
use Rattle.js_tree.specs.Text.{JsText}
use Rattle.js_tree.specs.Subset.{in_subset}
use Rattle.js_tree.specs.Faults.{Place, IsFaultAt}
use Rattle.run_files.specs.Runs.{Outcome, Refused, Ran, IsRunOf, a_program, no_program, line_at, outcome_with}
use Rattle.run_files.specs.declared.course.Ended.{Ended}
use Rattle.run_files.specs.declared.course.Ended.TheVariants as ended
use Rattle.run_files.specs.declared.course.RunEnd.{RunEnd}
use Rattle.run_files.specs.declared.course.RunEnd.TheVariants.{File, Sink, NoMemory}
use Rattle.run_files.specs.Steps.{IsRunBy, IsStop, LeavesBy, OfProgram, OfText}

if_some : {X : Type 0} {P : X → Type 0} (o : Option X) → ((x : X) → P x) → IfSome o P
if_some None all = tt
if_some (Some x) all = all x

only_program : (path text : List ℕ) (comes : Program → Outcome) (p : Program) → in_subset p ≡ true → JsText p text → ((q : Program) → in_subset q ≡ true → JsText q text → q ≡ p) → (other : Outcome) → IsRunOf path text comes other → other ≡ comes p
only_program path text comes p s t only other (a_program q sq tq) = ap comes (only q sq tq)
only_program path text comes p s t only other (no_program place none fault) = absurd (none p s t)

only_refused : (path text : List ℕ) (comes : Program → Outcome) (place : Place) → ((p : Program) → in_subset p ≡ true → JsText p text → ⊥) → IsFaultAt text place → ((bytes : List ℕ) (p q : Place) → IsFaultAt bytes p → IsFaultAt bytes q → p ≡ q) → (other : Outcome) → IsRunOf path text comes other
    → other ≡ Refused (line_at NotElmcOutput path place.row place.column [])
only_refused path text comes place none fault one other (a_program q sq tq) = absurd (none q sq tq)
only_refused path text comes place none fault one other (no_program place2 none2 fault2) = ap (λ (at : Place). Refused (line_at NotElmcOutput path at.row at.column [])) (one text place2 place fault2 fault)

module _ (tree : Option Tree) (path text : List ℕ) (fuel : ℕ) (inputs : List ℕ) (out out' : Option (List ℕ)) where
  module _ (p : Program) (s : in_subset p ≡ true) (t : JsText p text) (only : (q : Program) → in_subset q ≡ true → JsText q text → q ≡ p) where
    of_text : (files : Tree) (outcome : Outcome) → OfProgram p fuel inputs files outcome → OfText path text fuel inputs files outcome
    of_text files outcome e = subst (λ o. OfText path text fuel inputs files o) (sym e) (a_program p s t)

    pub run_of_text : (end : Ended) → IsRunBy tree (OfProgram p fuel inputs) out out' end → IsRunBy tree (OfText path text fuel inputs) out out' end
    run_of_text end run = record {
      outcome = run.outcome;
      found = IfSome_then tree run.found (λ files e. of_text files run.outcome e);
      only = IfSome_then tree run.found (λ files e other of. only_program path text (λ q. outcome_with q fuel inputs (files inputs)) p s t only other of ∙ sym e);
      says = run.says;
    }

    leaves_of : (end : RunEnd) → LeavesBy end tree (OfProgram p fuel inputs) out out' → LeavesBy end tree (OfText path text fuel inputs) out out'
    leaves_of (File name) same = same
    leaves_of Sink cut = (cut.0, IfSome_then tree cut.1 (λ files e. of_text files (Ran cut.0) e), cut.2)
    leaves_of NoMemory (inl same) = inl same
    leaves_of NoMemory (inr cut) = inr (cut.0, IfSome_then tree cut.1 (λ files e. of_text files (Ran cut.0) e), cut.2)

    pub stop_of_text : (end : RunEnd) (files files' : List ℕ → ℕ) (n n' : ℕ) → IsStop end tree (OfProgram p fuel inputs) out out' files files' n n' → IsStop end tree (OfText path text fuel inputs) out out' files files' n n'
    stop_of_text end files files' n n' stop = record { cause = stop.cause; told = stop.told; leaves = leaves_of end stop.leaves }

  pub refused_text : (place : Place) (line : Vec ℕ Global) → ((p : Program) → in_subset p ≡ true → JsText p text → ⊥) → IsFaultAt text place → ((bytes : List ℕ) (p q : Place) → IsFaultAt bytes p → IsFaultAt bytes q → p ≡ q) → line.items ≡ line_at NotElmcOutput path place.row place.column []
      → IsRunBy tree (OfText path text fuel inputs) out out (ended.Refused line)
  refused_text place line none fault one is = record {
    outcome = Refused (line_at NotElmcOutput path place.row place.column []);
    found = if_some tree (λ files. no_program place none fault);
    only = if_some tree (λ files other of. only_refused path text (λ q. outcome_with q fuel inputs (files inputs)) place none fault one other of);
    says = (ap Refused (sym is), refl);
  }
