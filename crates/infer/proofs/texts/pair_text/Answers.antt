-- What the store tells is what is said: `is_pair`, `says_pair`.
use Rattle.std.proofs.Common.{ℕ, ◌∷◌, ◌++◌, [], subst, length}
use Rattle.std.specs.declared.alloc.Global.{Global}
use Rattle.std.specs.declared.vec.Vec.{Vec}
use Rattle.std.proofs.lemmas.Result.{IfOk-weaker}
use Rattle.elm_type.specs.View.{scheme_view}
use Rattle.elm_type.specs.declared.head.Head.TheVariants as head
use Rattle.type_constructs.specs.Texts.{SaysPair}
use Rattle.type_schemes.specs.Schemes.{HasScheme}
use Rattle.type_store.specs.Store.{Built}
use Rattle.type_store.specs.Levels.{IsLowered}
use Rattle.type_store.specs.Steps.{put}
use Rattle.infer.specs.Texts.{SaysParts}
use Rattle.infer.proofs.Saying.{is_pair, says_pair}
use Rattle.infer.proofs.texts.pair_text.Goals as goal

pub scheme_text-requires : goal.scheme_text-requires
scheme_text-requires c =
    let low : IsLowered (c.args.store.now ++ put (Built head.Tuple (c.args.first ∷ c.args.second ∷ [])) 0 ∷ [])
    c.built.new.self =
    subst (λ ps. IsLowered (c.args.store.now ++ put (Built head.Tuple ps) 0 ∷ []) c.built.new.self)
    c.in_ok-vec.ensures.items c.in_ok-pair.ensures.made in
    let has : HasScheme c.built.new.self (length c.args.store.now) (scheme_view c.in_ok-scheme.scheme) =
    subst (λ n. HasScheme c.built.new.self n (scheme_view c.in_ok-scheme.scheme)) c.in_ok-pair.ensures.number
    c.in_ok-scheme.ensures in
    is_pair c.args.store.now c.built.new.self c.args.first c.args.second c.requires.whole c.built.ensures.whole
    c.requires.first c.requires.second low
    (scheme_view c.in_ok-scheme.scheme) has

pub returns : goal.returns
returns c =
    let low : IsLowered (c.args.store.now ++ put (Built head.Tuple (c.args.first ∷ c.args.second ∷ [])) 0 ∷ [])
    c.built.new.self =
    subst (λ ps. IsLowered (c.args.store.now ++ put (Built head.Tuple ps) 0 ∷ []) c.built.new.self)
    c.in_ok-vec.ensures.items c.in_ok-pair.ensures.made in
    let has : HasScheme c.built.new.self (length c.args.store.now) (scheme_view c.in_ok-scheme.scheme) =
    subst (λ n. HasScheme c.built.new.self n (scheme_view c.in_ok-scheme.scheme)) c.in_ok-pair.ensures.number
    c.in_ok-scheme.ensures in
    IfOk-weaker c.scheme_text.result
    (λ (text : Vec ℕ Global). SaysParts (scheme_view c.in_ok-scheme.scheme) text.items)
    (λ (text : Vec ℕ Global). SaysPair c.args.store.now c.args.first c.args.second text.items)
    (λ text p. says_pair c.args.store.now c.built.new.self c.args.first c.args.second c.requires.whole
    c.built.ensures.whole c.requires.first c.requires.second low (scheme_view c.in_ok-scheme.scheme) has p.left p.right
    text.items p.pair p.says) c.scheme_text.ensures
