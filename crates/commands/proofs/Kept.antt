-- The promise is kept by each way in which a command ends: with its whole effect, with a failure, or out of memory.
use Rattle.std.proofs.Common.{◌≡◌, ◌<◌, ◌∙◌, ℕ, List, Option, None, Some}
use Rattle.std.proofs.Common.{ap, arith, inl, inr, is_some, refl, subst, sym}
use Rattle.std.proofs.Math.Nat.{lt_irrefl}
use Rattle.std.specs.Prelude.{◌⊎◌}
use Rattle.command_line.specs.Command.{Command, make, run}
use Rattle.elm_files.specs.Answers.{SomeRose}
use Rattle.elm_files.specs.States.{SinkState}
use Rattle.elm_files.specs.Texts.{LongerByPart, longer}
use Rattle.elm_files.specs.Tree.{Tree, file_at, with_file}
use Rattle.elm_files.proofs.Trees.{file_at-with_file_other}
use Rattle.project_parts.specs.Outcomes.{Text, compiled_line}
use Rattle.project_file.specs.Paths.{normal_path}
use Rattle.commands.specs.Causes.{SomeCountRose, TellsFile, err_rose, failure_line, file_rose, memory_line, out_rose}
use Rattle.commands.specs.Effect.{Effect, build_effect, complaint}
use Rattle.commands.specs.Outside.{Outside}
use Rattle.commands.specs.Promise.{ChangesOnly, HasComplained, HasPrinted, HasTranslation, HasWritten, KeepsPromise}
use Rattle.commands.specs.Promise.{Means}
use Rattle.commands.specs.Report.{Prints, Says, all_printed, all_said, none_printed, none_said, part_printed, part_said}
use Rattle.commands.proofs.Pieces.{all, longer_nil}
use Rattle.commands.proofs.Settled.{IsSettled}

-- no count rose if all are as before
pub none_rose : (old new : List ℕ → ℕ) → new ≡ old → SomeRose old new → ⊥
none_rose old new same rose =
    lt_irrefl (old rose.0) (subst (λ (faults : List ℕ → ℕ). old rose.0 < faults rose.0) same rose.1)

-- a command that leaves the files as they were changes none that it may not change
pub unchanged : (asked : Option Command) (old new : Option Tree) → new ≡ old → ChangesOnly asked old new
unchanged (Some (make entry output jobs)) old new same = record {
  told = ap (λ (tree : Option Tree). is_some tree) same;
  others = λ q differs. ap (λ tree. file_at tree q) same;
}
unchanged (Some (run program inputs fuel)) old new same = same
unchanged None old new same = same

-- nor does one that writes its output
pub written : (entry output : List ℕ) (jobs : ℕ) (old new : Option Tree) (text : List ℕ) →
    new ≡ with_file old (normal_path output) text → ChangesOnly (Some (make entry output jobs)) old new
written entry output jobs old new text same = record {
  told = ap (λ (tree : Option Tree). is_some tree) same ∙ told old;
  others = λ q differs.
      ap (λ tree. file_at tree q) same ∙ file_at-with_file_other old (normal_path output) text q differs;
}
  where
    told : (tree : Option Tree) → is_some (with_file tree (normal_path output) text) ≡ is_some tree
    told None = refl
    told (Some tree) = refl

module _ (asked : Option Command) (status : ℕ) (old new : Outside) (meaning : Means asked old.files.tree) where
  -- ---- the three ways to end

  -- status 0, 1 or 2
  pub whole : (effect : Effect) → IsSettled asked old.files.tree effect → status ≡ effect.status → effect.status < 3 →
      new.out.text ≡ longer old.out.text effect.out → new.err.text ≡ longer old.err.text effect.err →
      new.files.tree ≡ effect.tree → ChangesOnly asked old.files.tree new.files.tree →
      new.files.faults ≡ old.files.faults → new.out.faults ≡ old.out.faults → new.err.faults ≡ old.err.faults →
      (status ≡ 0 → HasTranslation asked old.files.tree new.files.tree) → KeepsPromise asked status old new
  whole effect settled is low out err tree elsewhere no_file no_out no_err translated = record {
    known = omega arith;
    done = λ _. record { effect = effect; given = settled.given; status_is = is; out = out; err = err; tree = tree };
    failed = λ three. absurd (omega arith);
    memory = λ four. absurd (omega arith);
    no_file_fault = λ _. no_file;
    no_out_fault = λ _. no_out;
    no_err_fault = λ _ _. no_err;
    names_file = λ rose. absurd (none_rose old.files.faults new.files.faults no_file rose);
    on_err = λ three _. absurd (omega arith);
    on_out = inr (record {
      effect = effect;
      given = settled.given;
      tree = tree;
      out = all old.out.text new.out.text effect.out out;
    });
    elsewhere = elsewhere;
    kept = λ _. inr (record { effect = effect; given = settled.given; tree = tree });
    complete = λ other known has differs.
        absurd (differs (is ∙ sym (ap (λ (e : Effect). e.status) (settled.only other known has))));
    meaning = meaning;
    translated = translated;
  }

  -- status 3
  pub at_failure : status ≡ 3 → SomeCountRose old new →
      (SomeRose old.files.faults new.files.faults → TellsFile old new) →
      (new.files.faults ≡ old.files.faults → (new.err.text ≡ old.err.text) ⊎ HasComplained asked old new) →
      (new.out.text ≡ old.out.text) ⊎ HasPrinted asked old new → ChangesOnly asked old.files.tree new.files.tree →
      (new.files.faults ≡ old.files.faults → (new.files.tree ≡ old.files.tree) ⊎ HasWritten asked old new) →
      KeepsPromise asked status old new
  at_failure is rose names on_err on_out elsewhere kept = record {
    known = omega arith;
    done = λ low. absurd (omega arith);
    failed = λ _. rose;
    memory = λ four. absurd (omega arith);
    no_file_fault = λ other. absurd (other is);
    no_out_fault = λ other. absurd (other is);
    no_err_fault = λ other. absurd (other is);
    names_file = names;
    on_err = λ _. on_err;
    on_out = on_out;
    elsewhere = elsewhere;
    kept = kept;
    complete = λ _ _ _ _. inl is;
    meaning = meaning;
    translated = λ zero. absurd (omega arith);
  }

  -- status 4
  pub at_memory : status ≡ 4 → LongerByPart old.err.text memory_line new.err.text →
      new.files.faults ≡ old.files.faults → new.out.faults ≡ old.out.faults →
      (new.out.text ≡ old.out.text) ⊎ HasPrinted asked old new → ChangesOnly asked old.files.tree new.files.tree →
      (new.files.tree ≡ old.files.tree) ⊎ HasWritten asked old new → KeepsPromise asked status old new
  at_memory is told no_file no_out on_out elsewhere kept = record {
    known = omega arith;
    done = λ low. absurd (omega arith);
    failed = λ three. absurd (omega arith);
    memory = λ _. told;
    no_file_fault = λ _. no_file;
    no_out_fault = λ _. no_out;
    no_err_fault = λ _ other. absurd (other is);
    names_file = λ rose. absurd (none_rose old.files.faults new.files.faults no_file rose);
    on_err = λ three _. absurd (omega arith);
    on_out = on_out;
    elsewhere = elsewhere;
    kept = λ _. kept;
    complete = λ _ _ _ _. inr is;
    meaning = meaning;
    translated = λ zero. absurd (omega arith);
  }

-- ---- the reports

module _ (asked : Option Command) (old new : Outside) (meaning : Means asked old.files.tree) where
  -- a failed file is named on standard error
  pub by_file_failure : (path : List ℕ) (status : ℕ) → status ≡ 3 → old.files.faults path < new.files.faults path →
      LongerByPart old.err.text (failure_line path) new.err.text → new.out.text ≡ old.out.text →
      ChangesOnly asked old.files.tree new.files.tree → KeepsPromise asked status old new
  by_file_failure path status is rose told out elsewhere =
      at_failure asked status old new meaning is (file_rose path rose)
      (λ _. record { path = path; rose = rose; told = told })
      (λ same. absurd (none_rose old.files.faults new.files.faults same (path, rose))) (inl out) elsewhere
      (λ same. absurd (none_rose old.files.faults new.files.faults same (path, rose)))

  -- the lines of a complaint are put on standard error
  pub by_saying : (wanted : ℕ) (lines : List ℕ) → 0 < wanted → wanted < 3 →
      IsSettled asked old.files.tree (complaint wanted lines old.files.tree) →
      new.files.tree ≡ old.files.tree → new.files.faults ≡ old.files.faults →
      new.out.text ≡ old.out.text → new.out.faults ≡ old.out.faults →
      (status : ℕ) → Says lines wanted old.err new.err status → KeepsPromise asked status old new
  by_saying wanted lines some low settled tree no_file out no_out _ (all_said text no_err) =
      whole asked wanted old new meaning (complaint wanted lines old.files.tree) settled refl low
      (out ∙ sym (longer_nil old.out.text)) text tree (unchanged asked old.files.tree new.files.tree tree)
      no_file no_out no_err (λ zero. absurd (omega arith))
  by_saying wanted lines some low settled tree no_file out no_out _ (part_said part rose) =
      at_failure asked 3 old new meaning refl (err_rose rose)
      (λ rose. absurd (none_rose old.files.faults new.files.faults no_file rose))
      (λ _. inr (record { effect = complaint wanted lines old.files.tree; given = settled.given; err = part }))
      (inl out) (unchanged asked old.files.tree new.files.tree tree) (λ _. inl tree)
  by_saying wanted lines some low settled tree no_file out no_out _ (none_said told) =
      at_memory asked 4 old new meaning refl told no_file no_out (inl out)
      (unchanged asked old.files.tree new.files.tree tree)
      (inl tree)

-- the output of a build is written, and its line is put on standard output
module _
    (entry output text : List ℕ) (jobs n : ℕ) (old new : Outside)
    (meaning : Means (Some (make entry output jobs)) old.files.tree)
    (translated : HasTranslation (Some (make entry output jobs)) old.files.tree new.files.tree) where
  abbrev effect : Effect
  effect = build_effect (normal_path output) n old.files.tree (Text text)

  pub by_printing : IsSettled (Some (make entry output jobs)) old.files.tree effect →
      new.files.tree ≡ with_file old.files.tree (normal_path output) text → new.files.faults ≡ old.files.faults →
      (status : ℕ) → Prints (compiled_line (normal_path output) n) old.out new.out old.err new.err status →
      KeepsPromise (Some (make entry output jobs)) status old new
  by_printing settled tree no_file _ (all_printed told no_out quiet) =
      whole (Some (make entry output jobs)) 0 old new meaning effect settled refl (omega arith) told
      (ap (λ (s : SinkState). s.text) quiet ∙ sym (longer_nil old.err.text)) tree
      (written entry output jobs old.files.tree new.files.tree text tree) no_file no_out
      (ap (λ (s : SinkState). s.faults) quiet) (λ _. translated)
  by_printing settled tree no_file _ (part_printed part rose quiet) =
      at_failure (Some (make entry output jobs)) 3 old new meaning refl (out_rose rose)
      (λ rose. absurd (none_rose old.files.faults new.files.faults no_file rose))
      (λ _. inl (ap (λ (s : SinkState). s.text) quiet))
      (inr (record { effect = effect; given = settled.given; tree = tree; out = part }))
      (written entry output jobs old.files.tree new.files.tree text tree)
      (λ _. inr (record { effect = effect; given = settled.given; tree = tree }))
  by_printing settled tree no_file _ (none_printed out no_out told) =
      at_memory (Some (make entry output jobs)) 4 old new meaning refl told no_file no_out (inl out)
      (written entry output jobs old.files.tree new.files.tree text tree)
      (inr (record { effect = effect; given = settled.given; tree = tree }))
