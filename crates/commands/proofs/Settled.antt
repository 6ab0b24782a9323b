-- The words and the files have one effect: that of the outcome of their build or of their run, of which there is one.
use Rattle.std.proofs.Common.{◌≡◌, ◌<◌, ◌∙◌, ℕ, List, Option, None, Some, length, ap, refl, subst, sym}
use Rattle.std.specs.Prelude.{IfSome}
use Rattle.std.specs.Str.{IsUtf8}
use Rattle.command_line.specs.Command.{Command, make, run}
use Rattle.elm_files.specs.Tree.{Tree, file_at, with_file}
use Rattle.elm_files.proofs.Trees.{file_at-with_file}
use Rattle.build_safety.specs.Safety.{BuildsAreNeverStuck}
use Rattle.elm_make.specs.Counts.{Counts}
use Rattle.elm_make.specs.End.{IsOnly}
use Rattle.project_parts.specs.Outcomes.{Outcome, Text, Clean}
use Rattle.project_file.specs.Paths.{normal_path}
use Rattle.run_files.specs.Runs as runs
use Rattle.run_files.specs.Runs.{RunsTo}
use Rattle.commands.specs.declared.program.TheConstants.{USAGE}
use Rattle.commands.specs.Effect.{Effect, HasEffect, build_effect, complaint, run_effect}
use Rattle.commands.specs.Promise.{HasTranslation, IsKnown, Means}

-- this effect and, if the files tell what they hold, no other
pub record IsSettled (asked : Option Command) (tree : Option Tree) (effect : Effect) : Type 0 where
  pub given : HasEffect asked tree effect
  pub only : (other : Effect) → IsKnown asked tree → HasEffect asked tree other → other ≡ effect

-- words that ask for nothing
pub nothing_settled : (asked : Option Command) (tree : Option Tree) → asked ≡ None →
    IsSettled asked tree (complaint 2 USAGE.now tree)
nothing_settled asked tree none =
    subst (λ a. IsSettled a tree (complaint 2 USAGE.now tree)) (sym none)
    (record { given = refl; only = λ other known has. has })

-- `make`
pub build_settled : (entry output : List ℕ) (jobs : ℕ) (tree : Option Tree) (outcome : Outcome) (n : ℕ) →
    IfSome tree (λ files. IsOnly (Clean files entry output) outcome) →
    IfSome tree (λ files. IsOnly (Counts files entry outcome) n) →
    IsSettled (Some (make entry output jobs)) tree (build_effect (normal_path output) n tree outcome)
build_settled entry output jobs None outcome n one count = record {
  given = (outcome, n, tt, refl);
  only = λ other known has. absurd cc;
}
build_settled entry output jobs (Some files) outcome n one count = record {
  given = (outcome, n, (one.holds, count.holds), refl);
  only = λ other known has.
      let same : has.0 ≡ outcome = one.only has.0 has.2.0 in
      let as_many : has.1 ≡ n = count.only has.1 (subst (λ o. Counts files entry o has.1) same has.2.1) in
      has.3
      ∙ ap (build_effect (normal_path output) has.1 (Some files)) same
      ∙ ap (λ m. build_effect (normal_path output) m (Some files) outcome) as_many;
}

-- `run`
pub run_settled : (program inputs : List ℕ) (fuel : ℕ) (tree : Option Tree) (outcome : runs.Outcome) →
    IfSome tree (λ files. RunsTo files program inputs fuel outcome) →
    IfSome tree (λ files. (other : runs.Outcome) → RunsTo files program inputs fuel other → other ≡ outcome) →
    IsSettled (Some (run program inputs fuel)) tree (run_effect tree outcome)
run_settled program inputs fuel None outcome found only = record {
  given = (outcome, tt, refl);
  only = λ other known has. absurd cc;
}
run_settled program inputs fuel (Some files) outcome found only = record {
  given = (outcome, found, refl);
  only = λ other known has. has.2 ∙ ap (run_effect (Some files)) (only has.0 has.1);
}

module _ (law : BuildsAreNeverStuck) where
  -- a text that the files give is the translation of the project
  pub means : (asked : Option Command) (tree : Option Tree) → Means asked tree
  means (Some (make entry output jobs)) (Some files) = law files entry output
  means (Some (make entry output jobs)) None = tt
  means (Some (run program inputs fuel)) tree = tt
  means None tree = tt

  -- and so is the one that is written
  pub translated : (entry output text : List ℕ) (jobs : ℕ) (old new : Option Tree) → IsUtf8 entry →
      IfSome old (λ files. IsOnly (Clean files entry output) (Text text)) → length text < 4294967296 →
      new ≡ with_file old (normal_path output) text → HasTranslation (Some (make entry output jobs)) old new
  translated entry output text jobs None new utf8 one short is = tt
  translated entry output text jobs (Some files) new utf8 one short is = (
    text,
    ap (λ tree. file_at tree (normal_path output)) is ∙ file_at-with_file (Some files) (normal_path output) text refl,
    law files entry output text utf8 one.holds short,
  )
