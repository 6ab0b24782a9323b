-- What an action does to the columns: what it takes off in turn (`took`) gives way to what is made of it (`acted`).
use Rattle.std.proofs.Common.{◌≡◌, List, [], ◌∷◌, map, Option, option_map, refl, ap, ◌∙◌}
use Rattle.elm_lexer.specs.Tokens.{Token}
use Rattle.elm_tree.specs.Tree as plain
use Rattle.elm_tree.specs.Words.{word_of}
use Rattle.elm_tree.specs.View.{token_view, word_view, words_view}
use Rattle.elm_tree.specs.declared.tree.Word.{Word}
use Rattle.elm_grammar.specs.declared.action.Action.{Action}
use Rattle.elm_grammar.specs.Values.{Kind, Thing, takes, gives, first_word}
use Rattle.elm_grammar.specs.Meaning.{Things, none, ◌⸴◌, made}
use Rattle.elm_values.specs.Stack.{Columns, first, push, pop, top, tops, below, apply}

-- values of these kinds come off s, and t is left
pub record Taken (tokens : List Token) (ks : List Kind) (s : Columns) (vs : Things ks) (t : Columns) : Type 0 where
  pub values : vs ≡ tops tokens ks s
  pub rest : t ≡ below ks s

pub done : (tokens : List Token) (s : Columns) → Taken tokens [] s none s
done tokens s = record { values = refl; rest = refl }

pub took : {tokens : List Token} {ks : List Kind} {s t u : Columns} {vs : Things ks} (k : Kind) {v : Thing k} →
    v ≡ top tokens k s → t ≡ pop k s → Taken tokens ks t vs u → Taken tokens (k ∷ ks) s (◌⸴◌ {k = k} v vs) u
took {tokens = tokens} {ks = ks} {s = s} {vs = vs} k e f h = record {
  values =
      ap (λ z. ◌⸴◌ {k = k} z vs) e ∙
      ap (λ z. ◌⸴◌ {k = k} (top tokens k s) z) (h.values ∙ ap (tops tokens ks) f);
  rest = h.rest ∙ ap (below ks) f;
}

pub acted : {tokens : List Token} (a : Action) {s t new : Columns} {vs : Things (takes a)} {v : Thing (gives a)} →
    Taken tokens (takes a) s vs t → v ≡ made a vs → new ≡ push (gives a) v t → new ≡ apply tokens a s
acted {tokens = tokens} a {s = s} {t = t} h e f =
    f ∙
    (ap (λ z. push (gives a) z t) (e ∙ ap (made a) h.values) ∙
    ap (push (gives a) (made a (tops tokens (takes a) s))) h.rest)

-- ---- views

abbrev pub import_of : plain.Word → Option plain.Word → plain.Exposing → plain.Import
import_of name alias exposes = record { name = name; alias = alias; exposes = exposes }

pub words_seen : (tokens : List Token) (xs : List Word) → words_view tokens xs
    ≡ map word_of (map (token_view tokens) xs)
words_seen tokens [] = refl
words_seen tokens (x ∷ xs) = ap (λ z. word_view tokens x ∷ z) (words_seen tokens xs)

pub alias_seen : (tokens : List Token) (xs : List Word) →
    option_map (word_view tokens) (first xs) ≡ first_word (map (token_view tokens) xs)
alias_seen tokens [] = refl
alias_seen tokens (x ∷ xs) = refl
