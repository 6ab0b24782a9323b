-- What stands between tokens: white space and comments. (Elm syntax reference, comments.)
use Rattle.std.specs.Prelude.{ℕ, suc, Bool, false, ◌&&◌, ◌||◌, if◌then◌else◌, ◌==◌, List, [], ◌∷◌, IsTrue, IsFalse}
use Rattle.elm_lexer.specs.Characters.{is_white}

-- the text begins with these two characters
abbrev pub begins_with : ℕ → ℕ → List ℕ → Bool
begins_with a b (c ∷ d ∷ cs) = c == a && d == b
begins_with a b _ = false

-- it begins with --
abbrev pub begins_line : List ℕ → Bool
begins_line text = begins_with 45 45 text

-- it begins with {-
abbrev pub begins_block : List ℕ → Bool
begins_block text = begins_with 123 45 text

-- it begins with -}
abbrev pub ends_block : List ℕ → Bool
ends_block text = begins_with 45 125 text

-- it begins with a comment
abbrev pub begins_comment : List ℕ → Bool
begins_comment text = begins_line text || begins_block text

-- it begins with white space or a comment
abbrev pub begins_gap : List ℕ → Bool
begins_gap [] = false
begins_gap (c ∷ cs) = is_white c || begins_comment (c ∷ cs)

-- what follows a line: the text from its first line feed (10) on
abbrev pub after_line : List ℕ → List ℕ
after_line [] = []
after_line (c ∷ cs) = if c == 10 then c ∷ cs else after_line cs

-- IsBlock depth text rest: the text stands inside of depth open comments, and rest follows the end of the outermost
pub data IsBlock : ℕ → List ℕ → List ℕ → Type 0 where
  -- the outermost has ended
  ended : {rest : List ℕ} → IsBlock 0 rest rest
  -- {- opens one more
  opens : {depth : ℕ} {text rest : List ℕ} → IsBlock (suc (suc depth)) text rest → IsBlock (suc depth) (123 ∷ 45 ∷ text) rest
  -- -} closes one
  closes : {depth : ℕ} {text rest : List ℕ} → IsBlock depth text rest → IsBlock (suc depth) (45 ∷ 125 ∷ text) rest
  -- any other character stands in the comment
  goes_on : {depth c : ℕ} {text rest : List ℕ} → IsFalse (begins_block (c ∷ text)) → IsFalse (ends_block (c ∷ text)) → IsBlock (suc depth) text rest → IsBlock (suc depth) (c ∷ text) rest

-- IsGap text rest: the text begins with white space or a comment, and rest follows it
pub data IsGap : List ℕ → List ℕ → Type 0 where
  -- one white character
  white : {c : ℕ} {rest : List ℕ} → IsTrue (is_white c) → IsGap (c ∷ rest) rest
  -- from -- up to the line feed, which is not of it, or up to the end of the text
  line : {text : List ℕ} → IsTrue (begins_line text) → IsGap text (after_line text)
  -- from {- to the -} that belongs to it; comments nest
  block : {text rest : List ℕ} → IsBlock 1 text rest → IsGap (123 ∷ 45 ∷ text) rest
