-- What the readers of lines answer.
use Rattle.std.specs.Prelude.{◌≡◌, ℕ, ◌+◌, ◌<◌, ◌≤◌, true, List, [], ◌∷◌, ◌++◌, length, take, Some, None, Result, MatchResult}
use Rattle.std.specs.List.{join_with_byte}
use Rattle.machine.specs.Every.{Every}
use Rattle.machine.specs.declared.node.Entry.{Entry}
use Rattle.text.specs.declared.read.parts.Parts.{Parts}
use Rattle.text.specs.declared.refusal.LineRefusal.{LineRefusal}
use Rattle.text.specs.declared.refusal.TextRefusal.{TextRefusal}
use Rattle.text.specs.RowReads.{line_told}
use Rattle.text.specs.Cuts.{parts, left}
use Rattle.text.specs.Entries.{EntryFits}
use Rattle.text.specs.Limits.{node_number_limit}
use Rattle.text.specs.Print.{entry_words, trailer_words}
use Rattle.machine.specs.Limits.{node_limit}
use Rattle.text.specs.Rows.{word_fault, row_fault}
use Rattle.text.specs.Texts.{is_trailer, trailer_dues, lines_fault, refusal_told}

-- r is what the trailer's words tell, or the first fault
abbrev pub TrailerRead : List (List ℕ) → Result (ℕ × ℕ) LineRefusal → Type 0
TrailerRead ws r =
    MatchResult r (λ x. (ws ≡ trailer_words x.0 x.1) × (row_fault word_fault trailer_dues 1 ws ≡ None) × (x.0 ≤ node_number_limit) × (x.1 ≤ node_number_limit))
    (λ f. row_fault word_fault trailer_dues 1 ws ≡ Some (line_told f))

-- the printed lines of nodes, without their line feeds
abbrev pub node_texts : ℕ → List Entry → List (List ℕ)
node_texts n [] = []
node_texts n (e ∷ es) = join_with_byte 32 (entry_words n e) ∷ node_texts (n + 1) es

-- from s to t the lines of `count` nodes were read, and then the trailer's line
pub record NodesOk (s : Parts) (entries : List Entry) (count : ℕ) (trailer : List ℕ) (t : Parts) : Type 0 where
  pub spelled : left s ≡ node_texts 0 (take count entries) ++ trailer ∷ left t
  pub goes_on : lines_fault 0 (left s) ≡ lines_fault count (trailer ∷ left t)
  pub ends : is_trailer trailer ≡ true
  pub ended : 0 < length (left t)
  pub fit : Every EntryFits (take count entries)
  pub small : count ≤ node_limit
  pub number : t.number ≡ count + 1

-- the lines of a text are those of n nodes and of the trailer that tells n and the first node, and have no fault
pub record LinesOk (ls : List (List ℕ)) (entries : List Entry) (n first : ℕ) : Type 0 where
  pub spelled : ls ≡ node_texts 0 (take n entries) ++ join_with_byte 32 (trailer_words n first) ∷ [] ∷ []
  pub passes : lines_fault 0 ls ≡ None
  pub fit : Every EntryFits (take n entries)
  pub small : n ≤ node_limit
  pub some : 0 < n
  pub first_small : first ≤ node_number_limit

abbrev pub LinesRead : List ℕ → List Entry → Result (ℕ × ℕ) TextRefusal → Type 0
LinesRead text entries r =
    MatchResult r (λ x. LinesOk (parts 10 text) entries x.0 x.1) (λ f. lines_fault 0 (parts 10 text) ≡ Some (refusal_told f))
