-- Where the walk stands, as it goes on.
use Rattle.std.proofs.Common.{◌≡◌, List, ◌++◌, ap, ◌∙◌, subst, append_assoc}
use Rattle.canon_env.specs.declared.env.World as program
use Rattle.elm_tree.specs.Tree.{Word}
use Rattle.canon_env.specs.Naming.{World}
use Rattle.canon_env.specs.Locals.{Locals, with_names}
use Rattle.canon_env.specs.Sites.{Site}
use Rattle.canon_expr.specs.Logs.{Grows}
use Rattle.canon_expr.specs.Scope.{locals_of}
use Rattle.canon_expr.specs.declared.log.Log.{Log}
use Rattle.canon_expr.specs.declared.scope.Scope.{Scope}
use Rattle.canon_expr.proofs.Growing.{grows_more}
use Rattle.canon_expr.proofs.Meaning.{grows_at}
use Rattle.canon_expr.specs.Walking.{StandsIn}

pub stays : {world : program.World} {old new : Scope} {w : World} {locals : Locals} → StandsIn world old w locals →
    locals_of new ≡ locals_of old → StandsIn world new w locals
stays s e = record { is_world = s.is_world; in_scope = e ∙ s.in_scope }

-- with more names
pub enters : {world : program.World} {old new : Scope} {w : World} {locals : Locals} (ws : List Word) →
    StandsIn world old w locals → locals_of new ≡ with_names ws (locals_of old) →
    StandsIn world new w (with_names ws locals)
enters ws s e = record { is_world = s.is_world; in_scope = e ∙ ap (with_names ws) s.in_scope }

-- sites that speak of what is in scope there
pub here : {world : program.World} {scope : Scope} {w : World} {locals : Locals} {a b : Log}
    (sites : Locals → List Site) → StandsIn world scope w locals → Grows w a b (sites (locals_of scope)) →
    Grows w a b (sites locals)
here {w = w} {a = a} {b = b} sites s g = subst (λ l. Grows w a b (sites l)) s.in_scope g

-- the names of a block, its definitions and its body
pub block_grows : {w : World} {a b c d : Log} {names body : List Site} (each reaching : List Site) → Grows w a b names →
    Grows w b c (each ++ reaching) → Grows w c d body → Grows w a d (names ++ each ++ reaching ++ body)
block_grows {names = names} {body = body} each reaching g h k =
    grows_at _ _ (ap (λ l. l ++ body) (append_assoc names each reaching)) (grows_more (grows_more g h) k)
