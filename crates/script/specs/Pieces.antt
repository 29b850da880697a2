-- How a text falls into lines, and a line into words. Assumes nothing.
use Rattle.std.specs.Prelude.{ℕ, Bool, cond, not, ◌||◌, List, [], ◌∷◌, ◌++◌, length, filter, ◌==◌}
use Rattle.std.specs.Borrow.{Bor}
use Rattle.script.specs.declared.text.Separator.{Separator}
use Rattle.script.specs.declared.text.Separator.TheVariants.{Newline, Blank, Comma}

-- what a borrowed part holds
abbrev pub seen : Bor (List ℕ) → List ℕ
seen part = part.now

-- a newline; a space, a tab or a carriage return; a comma
abbrev pub cuts_at : Separator → ℕ → Bool
cuts_at Newline b = b == 10
cuts_at Blank b = b == 32 || (b == 9 || b == 13)
cuts_at Comma b = b == 44

-- the parts between the bytes that cut, the first of which begins with front
abbrev pub pieces_after : (ℕ → Bool) → List ℕ → List ℕ → List (List ℕ)
pieces_after cuts front [] = front ∷ []
pieces_after cuts front (b ∷ bs) = cond (cuts b) (front ∷ pieces_after cuts [] bs) (pieces_after cuts (front ++ (b ∷ [])) bs)

abbrev pub pieces : (ℕ → Bool) → List ℕ → List (List ℕ)
pieces cuts bs = pieces_after cuts [] bs

-- a line before its first `#`
abbrev pub uncommented : List ℕ → List ℕ
uncommented [] = []
uncommented (b ∷ bs) = cond (b == 35) [] (b ∷ uncommented bs)

abbrev pub some : List ℕ → Bool
some bs = not (length bs == 0)

abbrev pub words_of : List ℕ → List (List ℕ)
words_of line = filter some (pieces (cuts_at Blank) (uncommented line))

abbrev pub lines_of : List ℕ → List (List ℕ)
lines_of text = pieces (cuts_at Newline) text

-- the words of a borrowed line
abbrev pub line_of : Bor (List ℕ) → List (List ℕ)
line_of line = words_of line.now
