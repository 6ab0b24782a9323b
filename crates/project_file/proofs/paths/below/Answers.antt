-- Paths below a folder: `below_found`, `no_folder`, `no_slash`.
use Rattle.std.proofs.Common.{◌++◌, ◌∷◌, ◌∙◌, sym, ap}
use Rattle.project_file.proofs.Below.{below_found, no_folder, no_slash}
use Rattle.project_file.proofs.paths.below.Goals as goal

pub returns-in_err-after_folder : goal.returns-in_err-after_folder
returns-in_err-after_folder c =
    let none = no_folder c.args.folder.now c.args.path.now c.in_err-after_folder.ensures.cases in
    rw c.from_residual.ensures none

pub returns-in-Some : goal.returns-in-Some
returns-in-Some c =
    let folder = c.in_ok-after_folder.ensures.cases in
    let slash = c.in-Some.ensures.cases in
    let path = folder.1.1 ∙ ap (λ t. c.args.folder.now ++ t) (sym folder.2) in
    let rest = slash.1.1 ∙ ap (λ t. 47 ∷ t) (sym slash.2) in
    below_found c.args.folder.now c.args.path.now c.in_ok-after_folder.after_folder.now c.in-Some.rest.now path rest
    (sym c.is_empty.ensures ∙ c.if-is_empty.false)

pub returns-in-None : goal.returns-in-None
returns-in-None c =
    let folder = c.in_ok-after_folder.ensures.cases in
    let path = folder.1.1 ∙ ap (λ t. c.args.folder.now ++ t) (sym folder.2) in
    no_slash c.args.folder.now c.args.path.now c.in_ok-after_folder.after_folder.now path c.in-None.ensures.cases
    (sym c.is_empty.ensures ∙ c.if-is_empty.false)
