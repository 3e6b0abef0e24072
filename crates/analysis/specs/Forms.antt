-- The form of a row, part by part.
use Rattle.std.specs.Prelude.{◌≡◌, ℕ, ◌%◌, ◌^◌, ◌<◌, ◌≤◌, true, ◌&&◌, List, [], ◌∷◌, length, ◌==◌, nat_le, nat_lt, refl}
use Rattle.std.proofs.Common.{ap, arith}
use Rattle.std.proofs.lemmas.Bool.{and_parts, and_from, eqb-true, eq-eqb, ltb-true, lt-ltb, leb-true, le-leb}
use Rattle.machine.specs.declared.node.Exits.{Exits}
use Rattle.machine.specs.declared.node.Exits.TheVariants as exits
use Rattle.machine.specs.declared.node.Node.{Node}
use Rattle.machine.specs.WellFormed.{is_node, exits_of}
use Rattle.machine.specs.Every.{Every}
use Rattle.analysis.specs.Rows.{last_fits, is_straight, row_fits, set_fits, row_limit, is_proposal}

abbrev pub Proper : Node → Type 0
Proper n = is_node n ≡ true

abbrev pub Last : Exits → Exits → ℕ → Type 0
Last x y way = last_fits x y way ≡ true

-- all but the last are straight
abbrev pub FormedFrom : Exits → ℕ → Node → List Node → Type 0
FormedFrom x way m [] = Last x (exits_of m) way
FormedFrom x way m (k ∷ rest) = (exits_of m ≡ exits.One) × FormedFrom x way k rest

abbrev pub Formed : Exits → ℕ → List Node → Type 0
Formed x way [] = ⊥
Formed x way (m ∷ rest) = FormedFrom x way m rest

pub record RowFor (n : Node) (row : List Node) (way numbers : ℕ) : Type 0 where
  pub formed : Formed (exits_of n) way row
  pub proper : Every Proper row
  pub short : length row ≤ 4
  pub some : 0 < numbers
  pub known : numbers < 2 ^ 16
  pub even : numbers % 2 ≡ 0

straight_is : (x : Exits) → is_straight x ≡ true → x ≡ exits.One
straight_is exits.None q = absurd (let z : ◌≡◌ {A = ℕ} 0 1 = cc in omega arith)
straight_is exits.One q = refl
straight_is exits.Two q = absurd (let z : ◌≡◌ {A = ℕ} 0 1 = cc in omega arith)

fits_formed : (x : Exits) (way : ℕ) (row : List Node) → row_fits x way row ≡ true → Formed x way row × Every Proper row
fits_formed x way [] q = absurd (let z : ◌≡◌ {A = ℕ} 0 1 = cc in omega arith)
fits_formed x way (n ∷ []) q = let p = and_parts (is_node n) (last_fits x (exits_of n) way) q in (p.1, (p.0, tt))
fits_formed x way (n ∷ m ∷ ns) q =
    let p = and_parts (is_node n) (is_straight (exits_of n) && row_fits x way (m ∷ ns)) q in
    let r = and_parts (is_straight (exits_of n)) (row_fits x way (m ∷ ns)) p.1 in
    let rest = fits_formed x way (m ∷ ns) r.1 in
    ((straight_is (exits_of n) r.0, rest.0), (p.0, rest.1))

formed_fits : (x : Exits) (way : ℕ) (row : List Node) → Formed x way row → Every Proper row → row_fits x way row ≡ true
formed_fits x way [] f p = absurd f
formed_fits x way (n ∷ []) f p = and_from (is_node n) (last_fits x (exits_of n) way) p.0 f
formed_fits x way (n ∷ m ∷ ns) f p =
    and_from (is_node n) (is_straight (exits_of n) && row_fits x way (m ∷ ns)) p.0
    (and_from (is_straight (exits_of n)) (row_fits x way (m ∷ ns)) (ap is_straight f.0) (formed_fits x way (m ∷ ns) f.1 p.1))

pub row_for : (n : Node) (row : List Node) (way numbers : ℕ) → is_proposal n row way numbers ≡ true → RowFor n row way numbers
row_for n row way numbers q =
    let a = and_parts (nat_le (length row) row_limit) (row_fits (exits_of n) way row && set_fits numbers) q in
    let b = and_parts (row_fits (exits_of n) way row) (set_fits numbers) a.1 in
    let f = fits_formed (exits_of n) way row b.0 in
    let c = and_parts (nat_lt 0 numbers) (nat_lt numbers (2 ^ 16) && numbers % 2 == 0) b.1 in
    let d = and_parts (nat_lt numbers (2 ^ 16)) (numbers % 2 == 0) c.1 in
    record {
      formed = f.0;
      proper = f.1;
      short = leb-true (length row) row_limit a.0;
      some = ltb-true 0 numbers c.0;
      known = ltb-true numbers (2 ^ 16) d.0;
      even = eqb-true (numbers % 2) 0 d.1;
    }

pub for_row : (n : Node) (row : List Node) (way numbers : ℕ) → RowFor n row way numbers → is_proposal n row way numbers ≡ true
for_row n row way numbers r =
    and_from (nat_le (length row) row_limit) (row_fits (exits_of n) way row && set_fits numbers) (le-leb (length row) row_limit r.short)
    (and_from (row_fits (exits_of n) way row) (set_fits numbers) (formed_fits (exits_of n) way row r.formed r.proper)
    (and_from (nat_lt 0 numbers) (nat_lt numbers (2 ^ 16) && numbers % 2 == 0) (lt-ltb 0 numbers r.some)
    (and_from (nat_lt numbers (2 ^ 16)) (numbers % 2 == 0) (lt-ltb numbers (2 ^ 16) r.known) (eq-eqb (numbers % 2) 0 r.even))))
