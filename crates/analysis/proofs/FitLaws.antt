-- The form of a row, told of its last node and of those before it.
use Rattle.std.proofs.Common.{◌≡◌, ℕ, Bool, true, false, ◌&&◌, List, [], ◌∷◌, ◌++◌, refl, sym, ap, ◌∙◌}
use Rattle.std.specs.List.{list_all}
use Rattle.machine.specs.declared.node.Exits.{Exits}
use Rattle.machine.specs.declared.node.Node.{Node}
use Rattle.machine.specs.WellFormed.{is_node, exits_of}
use Rattle.analysis.specs.Rows.{last_fits, is_straight, row_fits}

-- a node that may stand before the last
abbrev pub inner : Node → Bool
inner n = is_node n && is_straight (exits_of n)

regroup : (a b c d : Bool) → (a && (b && (c && d))) ≡ (((a && b) && c) && d)
regroup true true c d = refl
regroup true false c d = refl
regroup false b c d = refl

fits_parts : (x : Exits) (way : ℕ) (before : List Node) (last : Node)
    → row_fits x way (before ++ (last ∷ [])) ≡ (list_all inner before && (is_node last && last_fits x (exits_of last) way))
fits_parts x way [] last = refl
fits_parts x way (n ∷ []) last = regroup (is_node n) (is_straight (exits_of n)) true (row_fits x way (last ∷ []))
fits_parts x way (n ∷ m ∷ ns) last =
    ap (λ b. is_node n && (is_straight (exits_of n) && b)) (fits_parts x way (m ∷ ns) last)
    ∙ regroup (is_node n) (is_straight (exits_of n)) (list_all inner (m ∷ ns)) (is_node last && last_fits x (exits_of last) way)

-- the same, of what the code tells
pub fits_told : (x : Exits) (way : ℕ) (row before : List Node) (last : Node) → row ≡ before ++ (last ∷ []) → (a b c : Bool)
    → a ≡ list_all inner before → b ≡ is_node last → c ≡ last_fits x (exits_of last) way → (a && (b && c)) ≡ row_fits x way row
fits_told x way row before last e a b c p q r =
    ap (λ k. k && (b && c)) p ∙ ap (λ k. list_all inner before && (k && c)) q ∙ ap (λ k. list_all inner before && (is_node last && k)) r
    ∙ sym (ap (row_fits x way) e ∙ fits_parts x way before last)
