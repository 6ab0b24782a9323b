-- The names that a head of the program imports, and those of a text with a fault.
use Rattle.std.proofs.Common.{◌≡◌, List, [], ◌∷◌, map, Result, Ok, Err, IfOk, refl, ap, ◌∙◌, subst, sym}
use Rattle.std.specs.declared.alloc.Global.{Global}
use Rattle.std.specs.declared.vec.Vec.{Vec}
use Rattle.elm_lexer.specs.Tokens.{Token, Fault}
use Rattle.elm_lexer.specs.View.{IfFault}
use Rattle.elm_lexer.specs.declared.error.TextError.{TextError}
use Rattle.elm_lexer.specs.declared.error.TextError.TheVariants as error
use Rattle.elm_tree.specs.View.{word_view, import_view, head_view}
use Rattle.elm_tree.specs.declared.tree.Head.{Head}
use Rattle.elm_tree.specs.declared.tree.Import.{Import}
use Rattle.import_graph.specs.Modules.{Word}
use Rattle.import_graph.specs.Words as written
use Rattle.import_graph.specs.declared.reader.Written.{Written}
use Rattle.import_graph.specs.Heads.{word_of, words_of, IsFault}

names_in : (tokens : List Token) (is : List Import) → map (λ i. word_of (word_view tokens i.name)) is ≡ map (λ i. word_of i.name) (map (import_view tokens) is)
names_in tokens [] = refl
names_in tokens (i ∷ is) = ap (λ ws. word_of (word_view tokens i.name) ∷ ws) (names_in tokens is)

-- the names that were read are the head's
pub names_of : (tokens : List Token) (h : Head) (is : List Import) (names : List Word) → is ≡ h.imports.items → names ≡ map (λ i. word_of (word_view tokens i.name)) is
    → names ≡ words_of (head_view tokens h)
names_of tokens h is names e n = n ∙ ap (map (λ i. word_of (word_view tokens i.name))) e ∙ names_in tokens h.imports.items

-- of a text with a fault no names are read
pub no_names : {E : Type 0} (r : Result (Vec Written Global) E) (e : TextError) (P : Fault → Type 0) (Q : List Word → Type 0) → IfOk r (λ v. v.items ≡ []) → IfOk r (λ _. IsFault e)
    → IfFault e P → ((f : Fault) → P f → Q []) → IfOk r (λ v. Q (map written.word_view v.items))
no_names (Err x) e P Q none fault p q = tt
no_names (Ok v) error.NoMemory P Q none fault p q = absurd fault
no_names (Ok v) (error.Fault f) P Q none fault p q = subst (λ items. Q (map written.word_view items)) (sym none) (q _ p)
