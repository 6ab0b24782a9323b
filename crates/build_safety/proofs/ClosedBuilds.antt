-- Module after module: `builds_closed`.
use Rattle.std.proofs.Common.{List, [], ◌∷◌, ◌++◌, sym, subst, append_assoc, ⊎_elim}
use Rattle.std.specs.List.{AllByRecursion, Contains}
use Rattle.std.proofs.lemmas.List.{map-append}
use Rattle.decl_groups.proofs.Basics.{no_member, first_member, later_member, member_cases}
use Rattle.elm_canon.specs.Tree.{AliasDeclaration}
use Rattle.canon_env.specs.Env.{Known}
use Rattle.canon_module.specs.Resolve.{module_shows}
use Rattle.elm_grammar.proofs.Walking.{module_results}
use Rattle.project_proper.specs.Resolved.{Resolved, IsImport, AreImports}
use Rattle.told_modules.specs.Closed.{AliasIsClosed, AliasesAreClosed, ImportsAreClosed, HasClosedTypes}
use Rattle.told_modules.proofs.Lists.{all_first, all_both}
use Rattle.told_modules.proofs.Modules.{modules_closed}
use Rattle.build_safety.specs.Compiled.{Compiled, resolved_of, AreModules}
use Rattle.build_safety.proofs.Among.{compiled_here, is_next}
use Rattle.build_safety.specs.ClosedBuilds.{BuildsAreClosed}

-- ---- what is shown

one_of : (ws : List AliasDeclaration) (d : AliasDeclaration) → AliasesAreClosed ws → Contains ws d → AliasIsClosed d
one_of [] d h c = absurd (no_member d c)
one_of (w ∷ ws) d h c = ⊎_elim (λ e. subst AliasIsClosed e h.0) (one_of ws d h.1) (member_cases w d ws c)

within : (ds ws : List AliasDeclaration) → AliasesAreClosed ws
    → ((d : AliasDeclaration) → Contains ds d → Contains ws d) → AliasesAreClosed ds
within [] ws h c = tt
within (d ∷ ds) ws h c = (one_of ws d h (c d (first_member d ds)), within ds ws h (λ z k. c z (later_member d z ds k)))

-- ---- imports

abbrev Shows : Resolved → Type 0
Shows r = AliasesAreClosed (module_shows r.setting r.written r.whole).aliases

import_closed : (rs : List Resolved) (k : Known) → AllByRecursion Shows rs → IsImport rs k
    → AliasesAreClosed k.shown.aliases
import_closed [] k h i = subst AliasesAreClosed (sym i.1.0) tt
import_closed (r ∷ rs) k h i =
    ⊎_elim (λ s. within k.shown.aliases (module_shows r.setting r.written r.whole).aliases h.0 s.1.aliases)
    (import_closed rs k h.1) i

imports_closed : (rs : List Resolved) (ks : List Known) → AllByRecursion Shows rs → AreImports rs ks
    → ImportsAreClosed ks
imports_closed rs [] h i = tt
imports_closed rs (k ∷ ks) h i = (import_closed rs k h i.0, imports_closed rs ks h i.1)

-- ---- modules

one_closed : (before : List Compiled) (c : Compiled) (after : List Compiled) → AreModules (before ++ c ∷ after)
    → AllByRecursion Shows (resolved_of before)
    → HasClosedTypes c.resolved.setting c.resolved.written c.resolved.whole
one_closed before c after all h =
    let next = is_next before c after all in
    let spelled = (compiled_here before c after all).typed.is_named.means.spelled in
    modules_closed c.resolved.setting c.resolved.written c.resolved.whole next.is next.read
    (module_results spelled.0 c.resolved.written spelled.1.1.spells)
    (imports_closed (resolved_of before) c.resolved.setting.imports h next.imports) next.none

-- what all of them show, one module after another
all_show : (done cs : List Compiled) → AreModules (done ++ cs) → AllByRecursion Shows (resolved_of done)
    → AllByRecursion Shows (resolved_of cs)
all_show done [] all h = tt
all_show done (c ∷ cs) all h =
    let here : Shows c.resolved = (one_closed done c cs all h).shown in (
      here,
      all_show (done ++ c ∷ []) cs (subst AreModules (sym (append_assoc done (c ∷ []) cs)) all)
          (subst (AllByRecursion Shows) (sym (map-append (λ (d : Compiled). d.resolved) done (c ∷ [])))
          (all_both Shows (resolved_of done) (c.resolved ∷ []) h (here, tt))),
    )

pub builds_closed : BuildsAreClosed
builds_closed before c after all =
    one_closed before c after all
    (all_first Shows (resolved_of before) (resolved_of (c ∷ after))
    (subst (AllByRecursion Shows) (map-append (λ (d : Compiled). d.resolved) before (c ∷ after))
    (all_show [] (before ++ c ∷ after) all tt)))
