-- A build keeps the promise by each way in which it ends: its outcome settles the effect.
use Rattle.std.proofs.Common.{◌≡◌, ◌∙◌, ℕ, List, Some, ap, arith, inl, inr, refl, subst}
use Rattle.std.specs.Prelude.{◌⊎◌, IfSome}
use Rattle.std.specs.Str.{IsUtf8}
use Rattle.std.specs.declared.vec.Vec.{Vec}
use Rattle.std.specs.declared.alloc.Global.{Global}
use Rattle.command_line.specs.Command.{make}
use Rattle.elm_base.specs.declared.fault.Fault.{Fault}
use Rattle.elm_files.specs.Texts.{LongerByPart}
use Rattle.elm_make.specs.declared.project.Built.{Built}
use Rattle.elm_make.specs.declared.project.BuildEnd.{BuildEnd}
use Rattle.elm_make.specs.declared.project.BuildEnd.TheVariants.{File, NoMemory}
use Rattle.elm_make.specs.declared.project.Outcome as program
use Rattle.elm_make.specs.Counts.{Counts}
use Rattle.elm_make.specs.End.{HasCause, IsDone, IsNotDone, IsOnly, IsShort, IsToldIfRose, Leaves, LeavesAtEnd}
use Rattle.elm_make.specs.End.{lines_of}
use Rattle.elm_make.specs.View.{outcome_view}
use Rattle.build_safety.specs.Safety.{BuildsAreNeverStuck}
use Rattle.project_parts.specs.Outcomes.{Clean, Faulty, Outcome, Stopped, Text, fault_lines}
use Rattle.project_file.specs.Paths.{normal_path}
use Rattle.commands.specs.Causes.{failure_line, memory_line}
use Rattle.commands.specs.Effect.{build_effect, complaint}
use Rattle.commands.specs.Outside.{Outside}
use Rattle.commands.specs.Promise.{KeepsPromise, Means}
use Rattle.commands.specs.Report.{Prints, Says}
use Rattle.commands.proofs.Kept.{at_memory, by_file_failure, by_printing, by_saying, unchanged}
use Rattle.commands.proofs.Settled.{IsSettled, build_settled, means, translated}

-- the build has no text
abbrev pub HasNoText : program.Outcome → Type 0
HasNoText outcome =
    ((faults : Vec Fault Global) × (outcome ≡ program.Outcome.Stopped faults))
    ⊎ ((faults : Vec Fault Global) × (outcome ≡ program.Outcome.Faulty faults))

module _ (law : BuildsAreNeverStuck) (entry output : List ℕ) (jobs : ℕ) (old new : Outside) where
  abbrev meaning : Means (Some (make entry output jobs)) old.files.tree
  meaning = means law (Some (make entry output jobs)) old.files.tree

  -- ---- a build that was done

  module _
      (built : Built)
      (one : IfSome old.files.tree (λ files. IsOnly (Clean files entry output) (outcome_view built.outcome)))
      (count : IfSome old.files.tree (λ files. IsOnly (Counts files entry (outcome_view built.outcome)) built.modules))
      (is_done : IsDone (normal_path output) built old.files new.files) where
    -- its outcome, which is this, settles the effect
    outcome_settled : (outcome : Outcome) → outcome_view built.outcome ≡ outcome →
        IsSettled (Some (make entry output jobs)) old.files.tree
        (build_effect (normal_path output) built.modules old.files.tree outcome)
    outcome_settled outcome is =
        build_settled entry output jobs old.files.tree outcome built.modules
        (subst (λ o. IfSome old.files.tree (λ files. IsOnly (Clean files entry output) o)) is one)
        (subst (λ o. IfSome old.files.tree (λ files. IsOnly (Counts files entry o) built.modules)) is count)

    leaves : (outcome : Outcome) → outcome_view built.outcome ≡ outcome →
        Leaves (normal_path output) outcome old.files.tree new.files.tree
    leaves outcome is = subst (λ o. Leaves (normal_path output) o old.files.tree new.files.tree) is is_done.leaves

    lines : (outcome : Outcome) → outcome_view built.outcome ≡ outcome →
        built.lines.items ≡ lines_of (normal_path output) built.modules outcome
    lines outcome is = is_done.says ∙ ap (lines_of (normal_path output) built.modules) is

    -- the text is written, and its line is put on standard output
    pub text_written : IsUtf8 entry → (text : Vec ℕ Global) → built.outcome ≡ program.Outcome.Text text → (status : ℕ) →
        Prints built.lines.items old.out new.out old.err new.err status →
        KeepsPromise (Some (make entry output jobs)) status old new
    text_written utf8 text is status prints =
        let view : outcome_view built.outcome ≡ Text text.items = ap outcome_view is in
        let tree = leaves (Text text.items) view in
        by_printing entry output text.items jobs built.modules old new meaning
        (translated law entry output text.items jobs old.files.tree new.files.tree utf8
        (subst (λ o. IfSome old.files.tree (λ files. IsOnly (Clean files entry output) o)) view one)
        (subst IsShort view is_done.short) tree)
        (outcome_settled (Text text.items) view) tree is_done.no_fault status
        (subst (λ l. Prints l old.out new.out old.err new.err status) (lines (Text text.items) view) prints)

    -- there is no text, and the lines of the faults are put on standard error
    says_faults : (outcome : Outcome) (faults : List Fault) → outcome_view built.outcome ≡ outcome →
        lines_of (normal_path output) built.modules outcome ≡ fault_lines faults →
        build_effect (normal_path output) built.modules old.files.tree outcome
        ≡ complaint 1 (fault_lines faults) old.files.tree →
        new.files.tree ≡ old.files.tree → new.out ≡ old.out → (status : ℕ) →
        Says built.lines.items 1 old.err new.err status → KeepsPromise (Some (make entry output jobs)) status old new
    says_faults outcome faults is told effect tree out status says =
        by_saying (Some (make entry output jobs)) old new meaning 1 (fault_lines faults) (omega arith) (omega arith)
        (subst (IsSettled (Some (make entry output jobs)) old.files.tree) effect (outcome_settled outcome is)) tree
        is_done.no_fault (ap (λ s. s.text) out) (ap (λ s. s.faults) out) status
        (subst (λ l. Says l 1 old.err new.err status) (lines outcome is ∙ told) says)

    pub refused : HasNoText built.outcome → new.out ≡ old.out → (status : ℕ) →
        Says built.lines.items 1 old.err new.err status → KeepsPromise (Some (make entry output jobs)) status old new
    refused (inl stopped) out status says =
        let view : outcome_view built.outcome ≡ Stopped stopped.0.items = ap outcome_view stopped.1 in
        says_faults (Stopped stopped.0.items) stopped.0.items view refl refl (leaves (Stopped stopped.0.items) view) out
        status says
    refused (inr faulty) out status says =
        let view : outcome_view built.outcome ≡ Faulty faulty.0.items = ap outcome_view faulty.1 in
        says_faults (Faulty faulty.0.items) faulty.0.items view refl refl (leaves (Faulty faulty.0.items) view) out
        status says

  -- ---- a build that was not done

  module _
      (end : BuildEnd) (not_done : IsNotDone (normal_path output) end old.files new.files)
      (out : new.out ≡ old.out) where
    pub file_failed : (path : List ℕ) → end ≡ File path → (status : ℕ) → status ≡ 3 →
        LongerByPart old.err.text (failure_line path) new.err.text →
        KeepsPromise (Some (make entry output jobs)) status old new
    file_failed path is status three told =
        by_file_failure (Some (make entry output jobs)) old new meaning path status three
        (subst (λ e. HasCause e old.files.faults new.files.faults) is not_done.cause) told (ap (λ s. s.text) out)
        (subst (λ e. LeavesAtEnd (normal_path output) e old.files.tree new.files.tree) is not_done.leaves)

    pub out_of_memory : end ≡ NoMemory → (status : ℕ) → status ≡ 4 →
        LongerByPart old.err.text memory_line new.err.text → KeepsPromise (Some (make entry output jobs)) status old new
    out_of_memory is status four told =
        let tree : new.files.tree ≡ old.files.tree =
        subst (λ e. LeavesAtEnd (normal_path output) e old.files.tree new.files.tree) is not_done.leaves in
        at_memory (Some (make entry output jobs)) status old new meaning four told
        (subst (λ e. IsToldIfRose e old.files.faults new.files.faults) is not_done.told) (ap (λ s. s.faults) out)
        (inl (ap (λ s. s.text) out))
        (unchanged (Some (make entry output jobs)) old.files.tree new.files.tree tree) (inl tree)
