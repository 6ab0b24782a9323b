-- Along a derivation: its values are spelled, and their words stand in order.
use Rattle.std.proofs.Common.{◌≡◌, ℕ, suc, ◌<◌, ◌≤◌, List, [], length, true}
use Rattle.std.proofs.Common.{refl, ap, arith}
use Rattle.std.proofs.lemmas.List.Elements.{All-get_or}
use Rattle.elm_lexer.specs.Tokens.{Token, Tokens}
use Rattle.elm_tree.specs.Tree.{Module}
use Rattle.elm_tree.specs.Words.{token_at, no_token}
use Rattle.parse_machine.specs.declared.table.Symbol.{Symbol}
use Rattle.parse_machine.specs.declared.table.Symbol.TheVariants.{Word}
use Rattle.parse_machine.specs.declared.table.Token as machine
use Rattle.parse_machine.specs.Grammar.{Place, Tree, leaf, node, Derives}
use Rattle.parse_machine.specs.Grammar as grammar
use Rattle.elm_grammar.specs.Table.{elm}
use Rattle.elm_grammar.specs.Values.{Kind, gives}
use Rattle.elm_grammar.specs.Meaning.{Things, none, ◌⸴◌, action_at, made, Means}
use Rattle.elm_grammar.specs.Meaning as meaning
use Rattle.canon_proper.specs.Sound.{IsSound, AreSound}
use Rattle.canon_proper.proofs.Counts.{tokens_count}
use Rattle.canon_proper.proofs.Order.{tokens_ordered}
use Rattle.canon_proper.proofs.Pieces.{tokens_sound}
use Rattle.canon_proper.specs.Spelled.{IsSpelledModule, SpellModule}
use Rattle.canon_proper.proofs.Roles.{Role, class_role, role_of, first_role, other_roles, fits_symbol, fits_all, needs}
use Rattle.canon_proper.proofs.Roles.{and_true, known, called, word_role}
use Rattle.canon_proper.proofs.Classes.{AreTokens, within, token_role, role_weaker, all_tokens}
use Rattle.canon_proper.proofs.Values.{SpelledThings, RangedThings, thing_weaker}
use Rattle.canon_proper.proofs.Making.{Whole, spelled_made}
use Rattle.canon_proper.proofs.Standing.{ranged_made}

-- the values from token i on, up to what is left
record Walked (tokens : List Token) (rs : List Role) (ks : List Kind) (vs : Things ks) (i : ℕ)
    (rest : List machine.Token) : Type 0 where
  to : ℕ
  left : AreTokens tokens to rest
  spelled : SpelledThings rs ks vs
  ranged : RangedThings tokens ks vs i to

walked : (tokens : List Token) → Whole tokens → AreSound tokens → {m : Place} {c : ℕ} {ss : List Symbol} {x : Tree}
    {ts rest : List machine.Token} {ks : List Kind} {vs : Things ks} → Derives elm m c ss x ts rest →
    Means tokens x ks vs → (rs : List Role) → fits_all ss rs ≡ true → (i : ℕ) → AreTokens tokens i ts →
    Walked tokens rs ks vs i rest
walked tokens w sound grammar.nothing meaning.nothing rs e i h =
    record { to = i; left = h; spelled = tt; ranged = refl }
walked tokens w sound (grammar.a_word {k = set} {t = t} {ss = ss} {ts = ts} holds stands d) (meaning.a_word m) rs e i h =
    let f = and_true (fits_symbol (Word set) (first_role rs)) (fits_all ss (other_roles rs)) e in
    let below : i < length tokens = omega (arith, within tokens (suc i) ts h.1) in
    let own = token_role tokens i t (All-get_or IsSound tokens i no_token below sound) h.0 in
    let r = walked tokens w sound d m (other_roles rs) f.1 (suc i) h.1 in
    record {
      to = r.to;
      left = r.left;
      spelled = (
        role_weaker (class_role t.class) (first_role rs) (token_at tokens t.index)
            (word_role set t.class (first_role rs) holds f.0) own,
        r.spelled,
      );
      ranged = (suc i, ((i, (omega arith, (omega arith, ap (token_at tokens) h.0.index))), r.ranged));
    }
walked tokens w sound (grammar.a_node {n = n} {p = p} {s = s} {r = r} {ss = ss} calls is d f)
    (meaning.a_node {us = us} u v) rs e i h =
    let g = and_true (fits_symbol s (first_role rs)) (fits_all ss (other_roles rs)) e in
    let k = known p n r is in
    let a = walked tokens w sound d u (needs (action_at p) (role_of n)) k.asks i h in
    let b = walked tokens w sound f v (other_roles rs) g.1 a.to a.left in
    let most : a.to ≤ length tokens = omega (arith, within tokens a.to _ a.left) in
    record {
      to = b.to;
      left = b.left;
      spelled = (
        thing_weaker (role_of n) (first_role rs) (gives (action_at p)) (made (action_at p) us)
            (called (first_role rs) calls g.0)
            (spelled_made tokens w (action_at p) (role_of n) k.gives us i a.to most a.spelled a.ranged),
        b.spelled,
      );
      ranged = (a.to, (ranged_made tokens (action_at p) us i a.to a.ranged, b.ranged));
    }

pub module_spelled : (text : List ℕ) (tokens : List Token) (m : Module) → Tokens text tokens → length tokens < 4294967296 →
    SpellModule tokens m → IsSpelledModule m
module_spelled text tokens m h l s =
    let w : Whole tokens = record { order = tokens_ordered text tokens h; few = l } in
    (walked tokens w (tokens_sound text tokens h) s.derived s.means [] refl 0 (all_tokens tokens)).spelled.0

pub text_spelled : (text : List ℕ) (tokens : List Token) (m : Module) → Tokens text tokens → length text < 4294967296 →
    SpellModule tokens m → IsSpelledModule m
text_spelled text tokens m h l s = module_spelled text tokens m h (omega (arith, l, tokens_count text tokens h)) s
