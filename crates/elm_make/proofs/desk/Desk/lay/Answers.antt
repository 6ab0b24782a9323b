-- A module that is blocked: `bad_laid`.
use Rattle.std.proofs.Common.{◌++◌, ◌∷◌, [], Some, None, true, refl, sym, subst}
use Rattle.elm_make.specs.Desks.{IsLaid}
use Rattle.elm_make.proofs.Laying.{bad_laid}
use Rattle.elm_make.proofs.desk.Desk.lay.Goals as goal

pub returns-in_ok-lay_made-in-Some-clause-laid : goal.returns-in_ok-lay_made-in-Some-clause-laid
returns-in_ok-lay_made-in-Some-clause-laid c = λ p vs laid.
    subst (λ v. IsLaid p c.lay_made.new.self (vs ++ v ∷ [])) (sym c.in-Some.is)
    (c.in_ok-lay_made-in-Some.ensures.laid p vs laid)

pub returns-in-None-clause-laid : goal.returns-in-None-clause-laid
returns-in-None-clause-laid c = λ p vs laid.
    let d = record c.args.self.now { is_blocked = true } in
    subst (λ v. IsLaid p d (vs ++ v ∷ [])) (sym c.in-None.is) (bad_laid p d vs None refl (λ is. refl))
