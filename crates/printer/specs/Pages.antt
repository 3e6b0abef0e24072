-- What is written on a page.
use Rattle.std.specs.Prelude.{ℕ, ◌+◌, ◌≤◌, List, [], ◌∷◌, ◌++◌, length}
use Rattle.text.specs.Limits.{text_limit}

-- behind what a page holds there is room for more
abbrev pub Room : List ℕ → List ℕ → Type 0
Room held more = length held + length more ≤ text_limit

-- words, each of them behind a space
abbrev pub spaced : List (List ℕ) → List ℕ
spaced [] = []
spaced (w ∷ ws) = 32 ∷ (w ++ spaced ws)
