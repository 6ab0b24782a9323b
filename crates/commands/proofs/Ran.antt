-- A run keeps the promise by each way in which it ends: its outcome settles the effect.
use Rattle.std.proofs.Common.{◌≡◌, ◌<◌, ◌∙◌, ℕ, List, Bool, true, false, Option, Some}
use Rattle.std.proofs.Common.{ap, arith, inl, inr, refl, subst, sym}
use Rattle.std.specs.Prelude.{◌⊎◌, if◌then◌else◌}
use Rattle.std.specs.declared.vec.Vec.{Vec}
use Rattle.std.specs.declared.alloc.Global.{Global}
use Rattle.command_line.specs.Command.{run}
use Rattle.elm_files.specs.Texts.{LongerByPart, longer}
use Rattle.elm_files.specs.Tree.{Tree}
use Rattle.run_files.specs.declared.course.Ended.{Ended}
use Rattle.run_files.specs.declared.course.Ended.TheVariants as ended
use Rattle.run_files.specs.RunEnd as end
use Rattle.run_files.specs.RunEnd.{IsRun, IsRunInPart}
use Rattle.run_files.specs.Runs.{Outcome, Ran, Refused}
use Rattle.run_files.specs.Told.{is_ready, told_text}
use Rattle.runs.specs.Trace.{Trace}
use Rattle.commands.specs.Causes.{memory_line, out_rose}
use Rattle.commands.specs.Effect.{run_effect}
use Rattle.commands.specs.Outside.{Outside}
use Rattle.commands.specs.Promise.{HasPrinted, KeepsPromise}
use Rattle.commands.specs.Report.{Says}
use Rattle.commands.proofs.Kept.{at_failure, at_memory, by_saying, none_rose, unchanged, whole}
use Rattle.commands.proofs.Pieces.{longer_nil}
use Rattle.commands.proofs.Settled.{IsSettled, run_settled}

-- the outcome of the run, which is this, settles the effect
outcome_settled : (program inputs : List ℕ) (fuel : ℕ) (tree : Option Tree) (out out' : Option (List ℕ)) (end : Ended) →
    (r : IsRun tree program inputs fuel out out' end) (outcome : Outcome) → r.outcome ≡ outcome →
    IsSettled (Some (run program inputs fuel)) tree (run_effect tree outcome)
outcome_settled program inputs fuel tree out out' end r outcome e =
    subst (λ o. IsSettled (Some (run program inputs fuel)) tree (run_effect tree o)) e
    (run_settled program inputs fuel tree r.outcome r.found r.only)

-- the status of a run, by whether every input was given
abbrev run_status : Bool → ℕ
run_status ready = if ready then 0 else 1

low_status : (ready : Bool) → run_status ready < 3
low_status true = omega arith
low_status false = omega arith

module _ (program inputs : List ℕ) (fuel : ℕ) (old new : Outside) (tree : new.files.tree ≡ old.files.tree) where
  -- a beginning of the text of the run is put
  put_part : IsRunInPart old.files.tree program inputs fuel old.out.text new.out.text →
      HasPrinted (Some (run program inputs fuel)) old new
  put_part part = record {
    effect = run_effect old.files.tree (Ran part.trace);
    given = (Ran part.trace, part.found, refl);
    tree = tree;
    out = part.told;
  }

  -- the sink failed
  pub sink_failed : old.out.faults < new.out.faults → new.files.faults ≡ old.files.faults →
      IsRunInPart old.files.tree program inputs fuel old.out.text new.out.text → new.err.text ≡ old.err.text →
      KeepsPromise (Some (run program inputs fuel)) 3 old new
  sink_failed rose no_file part err =
      at_failure (Some (run program inputs fuel)) 3 old new tt refl (out_rose rose)
      (λ rose. absurd (none_rose old.files.faults new.files.faults no_file rose)) (λ _. inl err) (inr (put_part part))
      (unchanged (Some (run program inputs fuel)) old.files.tree new.files.tree tree) (λ _. inl tree)

  -- memory ran out
  pub out_of_memory : (status : ℕ) → status ≡ 4 → LongerByPart old.err.text memory_line new.err.text →
      new.files.faults ≡ old.files.faults → new.out.faults ≡ old.out.faults →
      (new.out.text ≡ old.out.text) ⊎ IsRunInPart old.files.tree program inputs fuel old.out.text new.out.text →
      KeepsPromise (Some (run program inputs fuel)) status old new
  out_of_memory status is told no_file no_out part =
      at_memory (Some (run program inputs fuel)) status old new tt is told no_file no_out (on_out part)
      (unchanged (Some (run program inputs fuel)) old.files.tree new.files.tree tree) (inl tree)
    where
      on_out :
          (new.out.text ≡ old.out.text) ⊎ IsRunInPart old.files.tree program inputs fuel old.out.text new.out.text →
          (new.out.text ≡ old.out.text) ⊎ HasPrinted (Some (run program inputs fuel)) old new
      on_out (inl same) = inl same
      on_out (inr part) = inr (put_part part)

  module _
      (e : Ended) (r : IsRun old.files.tree program inputs fuel old.out.text new.out.text e)
      (no_file : new.files.faults ≡ old.files.faults) (no_out : new.out.faults ≡ old.out.faults) where
    -- the text of the run is put, and says whether every input was given
    told : (ready : Bool) (trace : Trace) → r.outcome ≡ Ran trace → is_ready trace ≡ ready →
        new.out.text ≡ longer old.out.text (told_text trace) → new.err ≡ old.err →
        KeepsPromise (Some (run program inputs fuel)) (run_status ready) old new
    told ready trace is ends out quiet =
        whole (Some (run program inputs fuel)) (run_status ready) old new tt (run_effect old.files.tree (Ran trace))
        (outcome_settled program inputs fuel old.files.tree old.out.text new.out.text e r (Ran trace) is)
        (ap run_status (sym ends)) (low_status (is_ready trace)) out
        (ap (λ s. s.text) quiet ∙ sym (longer_nil old.err.text)) tree
        (unchanged (Some (run program inputs fuel)) old.files.tree new.files.tree tree) no_file no_out
        (ap (λ s. s.faults) quiet) (λ _. tt)

    pub ready : e ≡ ended.Ready → new.err ≡ old.err → KeepsPromise (Some (run program inputs fuel)) 0 old new
    ready is quiet =
        let says = subst (λ x. end.Says x r.outcome old.out.text new.out.text) is r.says in
        told true says.0 says.1 says.2 says.3 quiet

    pub stopped : e ≡ ended.Stopped → new.err ≡ old.err → KeepsPromise (Some (run program inputs fuel)) 1 old new
    stopped is quiet =
        let says = subst (λ x. end.Says x r.outcome old.out.text new.out.text) is r.says in
        told false says.0 says.1 says.2 says.3 quiet

    -- there is no run, and its line is put on standard error
    pub refused : (line : Vec ℕ Global) → e ≡ ended.Refused line → (status : ℕ) →
        Says line.items 1 old.err new.err status → KeepsPromise (Some (run program inputs fuel)) status old new
    refused line is status said =
        let says = subst (λ x. end.Says x r.outcome old.out.text new.out.text) is r.says in
        by_saying (Some (run program inputs fuel)) old new tt 1 line.items (omega arith) (omega arith)
        (outcome_settled program inputs fuel old.files.tree old.out.text new.out.text e r (Refused line.items) says.0)
        tree no_file says.1 no_out status said
