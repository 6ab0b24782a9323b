-- Each step keeps the state, by the lemma of its kind: `running_closed`, `running_word` or `running_call`. Where no
-- step is left, the state says what the machine has found: `whole_stop`, `word_stop` or `call_stop`.
use Rattle.std.proofs.Common.{◌≡◌, refl, ap, length, arith}
use Rattle.parse_machine.proofs.Running.{running_start, running_closed, less_closed, running_word, running_call}
use Rattle.parse_machine.proofs.Running.{less_call, choice_in, whole_stop, word_stop, call_stop, none_of, shorter}
use Rattle.parse_machine.proofs.Planning.{planned-is, start_ends}
use Rattle.parse_machine.proofs.machine.run.Goals as goal

pub tokens-init : goal.tokens-init
tokens-init c =
    let b = c.requires.begun in
    running_start _ _ _ _ b.start _ _ _ _
    (start_ends _ _ c.requires.planned b.start b.within) b.one refl c.new-below.ensures.items c.new-steps.ensures.items

pub steps-init : goal.steps-init
steps-init c = (c.tokens.invariant, refl)

pub steps-smaller-in-Some-pop : goal.steps-smaller-in-Some-pop
steps-smaller-in-Some-pop c =
    less_closed _ c.steps.top c.in-Some-pop.frame c.steps.below.items c.pop.new.self.items c.in-None.ensures
    c.in-Some-pop.ensures.items

pub steps-preserved-in-Some-pop : goal.steps-preserved-in-Some-pop
steps-preserved-in-Some-pop c = (
  running_closed c.steps.invariant.0 c.in-Some-pop.frame c.pop.new.self.items c.in-None.ensures
      c.in-Some-pop.ensures.items,
  c.steps.invariant.1,
)

pub returns-in-None-pop : goal.returns-in-None-pop
returns-in-None-pop c =
    whole_stop c.steps.invariant.0 (planned-is _ _ c.requires.planned) c.in-None.ensures
    (none_of _ (omega (arith, c.in-None-pop.ensures.cases)))

pub tokens-smaller : goal.tokens-smaller
tokens-smaller c =
    let h = shorter _ _ _ _ _ _ c.in-Some-read.ensures in
    let e = ap length c.steps.invariant.1 in
    omega arith

pub tokens-preserved : goal.tokens-preserved
tokens-preserved c =
    let n : c.len-sure.result ≡ length c.push.new.self.items =
    omega (arith, c.len-sure.ensures, c.push.new.self.ok.0) in
    running_word c.steps.invariant.0 _ _ _ _ _ c.in-Some.ensures c.in-Some-classes_of.ensures c.in-Some-read.ensures
    _ _ _ refl c.in_ok-push-in-Some-read.ensures.items n

pub returns-in-None-read : goal.returns-in-None-read
returns-in-None-read c =
    word_stop c.steps.invariant.0
    (planned-is _ _ c.requires.planned) _ _ _ c.in-Some.ensures c.in-Some-classes_of.ensures c.in-None-read.ensures

pub bounds-rules-choice : goal.bounds-rules-choice
bounds-rules-choice c = choice_in _ _ c.steps.top _ (planned-is _ _ c.requires.planned) _ _ _ _ c.in-Some-select.ensures

pub steps-smaller : goal.steps-smaller
steps-smaller c =
    less_call c.steps.invariant.0
    (planned-is _ _ c.requires.planned) _ _ c.in-Some.ensures _ _ _ c.in-Some-select.ensures _ _ _ refl
    c.in_ok-set_aside-in-Some-select.ensures

pub steps-preserved : goal.steps-preserved
steps-preserved c = (
  running_call c.steps.invariant.0
      (planned-is _ _ c.requires.planned) _ _ c.in-Some.ensures c.in-None-classes_of.ensures _ _ _
      c.in-Some-select.ensures _ _ _ _ _ refl refl c.in_ok-set_aside-in-Some-select.ensures
      c.in_ok-push-in-Some-select.ensures.items,
  c.steps.invariant.1,
)

pub returns-in-None-select : goal.returns-in-None-select
returns-in-None-select c =
    call_stop c.steps.invariant.0
    (planned-is _ _ c.requires.planned) _ _ c.in-Some.ensures c.in-None-classes_of.ensures c.in-None-select.ensures
