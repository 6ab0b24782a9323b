-- The longest front that the machine reads has its steps, and a fault or none (`front_read`); one that it does not read
-- has a fault (`front_fault`).
use Rattle.std.proofs.lemmas.List.{length-map}
use Rattle.std.proofs.Common.{ℕ, ◌≡◌, ◌-◌, [], ◌∷◌, length, map, refl, sym, ap, subst, ◌∙◌, arith}
use Rattle.elm_lexer.specs.View.{token_view, place_view}
use Rattle.parse_machine.specs.declared.table.Symbol.TheVariants.{Part}
use Rattle.parse_machine.specs.Grammar.{IsFrontFault}
use Rattle.parse_machine.specs.Rows.{grammar_of}
use Rattle.elm_parser.specs.Standing.{Finds}
use Rattle.elm_parser.specs.Scan.{found_view, finding_view}
use Rattle.elm_parser.specs.Reported.{or_syntax, reported}
use Rattle.elm_parser.proofs.Answering.{FrontReadSo, as_many, front_read, front_faulty, front_fault}
use Rattle.elm_parser.proofs.reading.front.Goals as goal

pub returns-in-None-clause-read : goal.returns-in-None-clause-read
returns-in-None-clause-read c =
    let tokens = map token_view c.args.tokens.now in
    let w = front_read tokens c.args.start c.args.column _ _ c.in-Ok.rest.now _ _ (found_view c.in_ok-text_fault-in-Ok.field-0)
    c.rules.ensures (c.deref.ensures.value ∙ c.in_ok-classes.ensures) c.deref-in-Ok.ensures.value c.requires.started
    c.in-Ok.ensures.read c.in_ok-text_fault-in-Ok.ensures in (
      c.in-Ok.rest.now,
      refl,
      (w.reading, subst (λ z. Finds tokens c.args.start c.args.column w.reading.front (found_view z)) c.in-None.is w.finds),
    )

pub returns-in-Ok-clause-fault : goal.returns-in-Ok-clause-fault
returns-in-Ok-clause-fault c =
    let tokens = map token_view c.args.tokens.now in
    let w = front_read tokens c.args.start c.args.column _ _ c.in-Ok.rest.now _ _ (found_view c.in_ok-text_fault-in-Ok.field-0)
    c.rules.ensures (c.deref.ensures.value ∙ c.in_ok-classes.ensures) c.deref-in-Ok.ensures.value c.requires.started
    c.in-Ok.ensures.read c.in_ok-text_fault-in-Ok.ensures in (
      finding_view c.in-Some.finding,
      front_faulty tokens c.args.start c.args.column c.in-Ok.rest.now c.in-Ok.steps.items (finding_view c.in-Some.finding)
          (subst (λ z. FrontReadSo tokens c.args.start c.args.column c.in-Ok.rest.now c.in-Ok.steps.items (found_view z))
          c.in-Some.is w),
      c.fault_of.ensures,
    )

pub or_syntax-finding-requires : goal.or_syntax-finding-requires
or_syntax-finding-requires c =
    omega (arith, c.requires.few, c.len.ensures, ap length c.in_ok-classes.ensures, as_many (map token_view c.args.tokens.now), length-map c.args.tokens.now token_view)

pub returns-clause-fault : goal.returns-clause-fault
returns-clause-fault c =
    let tokens = map token_view c.args.tokens.now in
    let count : c.len.result ≡ length c.deref.result.now = omega (arith, c.len.ensures, ap length c.deref.ensures.value) in (
      or_syntax (found_view c.in_ok-found-in-Err-At.found) (c.len.result - length c.in-Err-At.at.now),
      front_fault tokens c.args.start c.args.column _ _ c.in-Err-At.at.now _ _ (found_view c.in_ok-found-in-Err-At.found) _
          c.rules.ensures (c.deref.ensures.value ∙ c.in_ok-classes.ensures) c.deref-in-Err-At.ensures.value
          c.requires.started (ap (λ z. z - length c.in-Err-At.at.now) count)
          (subst (λ z. IsFrontFault (grammar_of c.rules.result.now) (Part c.args.start ∷ []) c.args.column c.deref.result.now z)
          c.in-Err-At.field-0-is c.in-Err-At.ensures.fault)
          c.in_ok-found-in-Err-At.ensures,
      c.fault_of-in-Err-At.ensures ∙ ap (reported tokens (place_view c.args.end)) c.or_syntax-finding.ensures,
    )
