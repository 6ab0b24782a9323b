-- A word goes on as long as some word of the table begins so.
use Rattle.std.proofs.Common.{◌≡◌, ◌++◌, ◌∷◌, [], List, ℕ, ap, sym, ◌∙◌}
use Rattle.std.proofs.lemmas.Result.{on_ok_weaker}
use Rattle.js_tree.specs.Automaton as machine
use Rattle.js_scope.specs.View.{place_of, trees_in}
use Rattle.js_scope.specs.Words.{begun_word, found_word}
use Rattle.js_scope.proofs.reader.Reader.in_word.Goals as goal

pub returns : goal.returns
returns c =
    let cs : List ℕ = c.args.self.now.word.items ++ c.args.byte ∷ [] in
    let k = place_of c.args.self.now.frames c.args.self.now.entry (trees_in c.args.self.now) in
    let word : c.push.new.self.items ≡ cs = c.in_ok-push.ensures.items in
    let seen : c.deref.result.now ≡ cs = c.deref.ensures.value ∙ word in
    let found : machine.Word → machine.State = λ w. machine.after_word w k in
    on_ok_weaker c.at_word.result
    (λ e. e ∙ (ap (λ (ds : List ℕ). found_word c.find_word-found.result (begun_word ds k) found) word
    ∙ (sym (c.find_word-found.ensures (begun_word cs k) found) ∙ ap (λ (ds : List ℕ). machine.find_word machine.words ds (begun_word cs k) found) seen)))
    c.at_word.ensures
