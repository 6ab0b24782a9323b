-- A value that is good: `good_laid`. One that is not: `bad_laid`.
use Rattle.std.proofs.Common.{◌++◌, ◌∷◌, [], Some, true, refl, sym, subst}
use Rattle.module_compile.specs.declared.made.Made.TheVariants as made
use Rattle.elm_make.specs.Desks.{IsLaid}
use Rattle.elm_make.proofs.Laying.{good_laid, bad_laid}
use Rattle.elm_make.proofs.desk.Desk.lay_made.Goals as goal

pub returns-in_ok-push-in-Good-clause-laid : goal.returns-in_ok-push-in-Good-clause-laid
returns-in_ok-push-in-Good-clause-laid c = λ p vs laid.
    subst (λ m. IsLaid p c.push.new.self (vs ++ Some m ∷ [])) (sym c.in-Good.is)
    (good_laid p c.args.self.now c.push.new.self vs c.in-Good.offered c.in-Good.field-1
    c.in_ok-push-in-Good.ensures.pushed
    laid)

pub returns-in-Bad-clause-laid : goal.returns-in-Bad-clause-laid
returns-in-Bad-clause-laid c = λ p vs laid.
    let d = record c.args.self.now { is_blocked = true } in
    subst (λ m. IsLaid p d (vs ++ Some m ∷ [])) (sym c.in-Bad.is)
    (bad_laid p d vs (Some (made.Bad c.in-Bad.field-0)) refl (λ is. refl))
