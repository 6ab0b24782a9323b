-- The three parts.
use Rattle.std.proofs.Common.{◌++◌, map, ap, ◌∙◌}
use Rattle.core_modules.specs.Library.{module_view}
use Rattle.core_modules.specs.Thirds.{first_modules, second_modules, third_modules}
use Rattle.core_modules.proofs.library.core_library.Goals as goal

pub returns : goal.returns
returns c =
    c.in_ok-push_third.ensures
    ∙ ap (λ ms. ms ++ third_modules) (c.in_ok-push_second.ensures
    ∙ ap (λ ms. ms ++ second_modules) (c.in_ok-push_first.ensures
    ∙ ap (λ ms. map module_view ms ++ first_modules) c.in_ok-modules.ensures.items))
