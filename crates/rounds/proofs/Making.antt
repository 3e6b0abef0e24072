-- A change made by appending and replacing entries.
use Rattle.std.proofs.Common.{◌≡◌, ℕ, suc, ◌+◌, ◌-◌, ◌<◌, ◌≤◌, Bool, true, cond, ◌&&◌, ltb, leb, List, [], ◌∷◌, ◌++◌, length, get_or, take, drop, set, sym, ap, ◌∙◌, subst, arith}
use Rattle.std.proofs.lemmas.List.{length-append, set-append_left}
use Rattle.std.proofs.lemmas.Bool.{and_from, eqb-true, ltb-true, lt-ltb, le-leb}
use Rattle.machine.specs.declared.node.Entry.{Entry}
use Rattle.machine.specs.declared.node.Exits.{Exits}
use Rattle.machine.specs.declared.node.Exits.TheVariants as exits
use Rattle.machine.specs.declared.node.Node.{Node}
use Rattle.machine.specs.declared.program.Program.{Program}
use Rattle.machine.specs.Limits.{node_limit}
use Rattle.machine.specs.Programs.{prog, program_of, every_sound}
use Rattle.machine.specs.Runs.{entry_of}
use Rattle.machine.specs.WellFormed.{sound, exits_of}
use Rattle.machine.proofs.Held.{held_count, held_program}
use Rattle.analysis.specs.Rows.{is_proposal, last_fits}
use Rattle.analysis.specs.Forms.{FormedFrom, Formed, row_for}
use Rattle.rounds.specs.Changes.{Replacement, leading, on_to, laid, row_put, changed_by}
use Rattle.rounds.specs.Rounds.{size_after}
use Rattle.rounds.proofs.Changed.{laid_length}
use Rattle.rounds.proofs.Whole.{InForm, first_sound, rest_sound}

-- ---- what the form of a row says

last_way : (x y : Exits) (way : ℕ) → last_fits x y way ≡ true → way < 2
last_way exits.None exits.None way fits = omega (arith, eqb-true way 0 fits)
last_way exits.None exits.One way fits = let z : ◌≡◌ {A = ℕ} 0 1 = cc in absurd (omega arith)
last_way exits.None exits.Two way fits = let z : ◌≡◌ {A = ℕ} 0 1 = cc in absurd (omega arith)
last_way exits.One exits.None way fits = let z : ◌≡◌ {A = ℕ} 0 1 = cc in absurd (omega arith)
last_way exits.One exits.One way fits = omega (arith, eqb-true way 0 fits)
last_way exits.One exits.Two way fits = let z : ◌≡◌ {A = ℕ} 0 1 = cc in absurd (omega arith)
last_way exits.Two exits.None way fits = let z : ◌≡◌ {A = ℕ} 0 1 = cc in absurd (omega arith)
last_way exits.Two exits.One way fits = ltb-true way 2 fits
last_way exits.Two exits.Two way fits = omega (arith, eqb-true way 0 fits)

from_way : (x : Exits) (way : ℕ) (m : Node) (rest : List Node) → FormedFrom x way m rest → way < 2
from_way x way m [] formed = last_way x (exits_of m) way formed
from_way x way m (k ∷ rest) formed = from_way x way k rest formed.1

row_parts : (x : Exits) (way : ℕ) (row : List Node) → Formed x way row → (0 < length row) × (way < 2)
row_parts x way [] formed = absurd formed
row_parts x way (m ∷ rest) formed = (omega arith, from_way x way m rest formed)

-- a row in form is not empty, and its way is 0 or 1
pub form_parts : (n : Node) (row : List Node) (way numbers : ℕ) → is_proposal n row way numbers ≡ true → (0 < length row) × (way < 2)
form_parts n row way numbers form = row_parts (exits_of n) way row (row_for n row way numbers form).formed

-- ---- the change, from what `append` and `replace` tell

module _ (p₀ p₁ p₂ : Program) (appended replaced : Bool) (at : ℕ) (first : Entry) (more : List Entry)
    (told₁ : appended ≡ (leb (p₀.count + length more) node_limit && every_sound (p₀.count + length more) more))
    (changed₁ : program_of p₁ ≡ cond appended (prog ((program_of p₀).entries ++ more) (program_of p₀).first) (program_of p₀))
    (told₂ : replaced ≡ (ltb at p₁.count && sound p₁.count first))
    (changed₂ : program_of p₂ ≡ cond replaced (prog (set (program_of p₁).entries at first) (program_of p₁).first) (program_of p₁)) where
  put_both : at < length (program_of p₀).entries → length (program_of p₀).entries + length more ≤ node_limit
      → every_sound (length (program_of p₀).entries + length more) more ≡ true → sound (length (program_of p₀).entries + length more) first ≡ true
      → program_of p₂ ≡ prog (set (program_of p₀).entries at first ++ more) (program_of p₀).first
  put_both there room rest-good first_good =
      let n₀ = held_count p₀ in
      let good₁ : appended ≡ true =
      told₁ ∙ and_from _ _ (le-leb _ _ (omega arith)) (subst (λ n. every_sound (n + length more) more ≡ true) n₀ rest-good) in
      let is₁ : program_of p₁ ≡ prog ((program_of p₀).entries ++ more) (program_of p₀).first = cc in
      let n₁ : p₁.count ≡ length (program_of p₀).entries + length more =
      sym (held_count p₁) ∙ ap (λ q. length q.entries) is₁ ∙ length-append (program_of p₀).entries more in
      let good₂ : replaced ≡ true = told₂ ∙ and_from _ _ (lt-ltb _ _ (omega arith)) (subst (λ n. sound n first ≡ true) (sym n₁) first_good) in
      let is₂ : program_of p₂ ≡ prog (set (program_of p₁).entries at first) (program_of p₁).first = cc in
      is₂ ∙ ap (λ q. prog (set q.entries at first) q.first) is₁
      ∙ ap (λ es. prog es (program_of p₀).first) (set-append_left (program_of p₀).entries more at first there)

  put_row : (row : List Node) (way numbers : ℕ) → at < length (program_of p₀).entries → is_proposal (entry_of (program_of p₀) at).node row way numbers ≡ true
      → length (program_of p₀).entries + (length row - 1) ≤ node_limit
      → first ∷ more ≡ laid (entry_of (program_of p₀) at) way row (length (program_of p₀).entries - 1)
      → program_of p₂ ≡ row_put (program_of p₀) (entry_of (program_of p₀) at) at way row
  put_row [] way numbers there form room is = absurd (let some = (form_parts (entry_of (program_of p₀) at).node [] way numbers form).0 in omega arith)
  put_row (n ∷ ns) way numbers there form room is =
      let p = program_of p₀ in
      let old = entry_of p at in
      let size = length p.entries in
      let back : suc (size - 1) ≡ size = omega arith in
      let row_is : first ∷ more ≡ leading old n (on_to old way ns size) ∷ laid old way ns size =
      is ∙ ap (λ k. leading old n (on_to old way ns k) ∷ laid old way ns k) back in
      let first_is : first ≡ leading old n (on_to old way ns size) = cc in
      let more-is : more ≡ laid old way ns size = cc in
      let long : length more ≡ length ns = ap length more-is ∙ laid_length old way ns size in
      let grown : size + length ns ≡ size + length more = ap (λ k. size + k) (sym long) in
      let rest-good : every_sound (size + length more) more ≡ true =
      subst (λ k. every_sound k more ≡ true) grown (ap (every_sound (size + length ns)) more-is ∙ rest_sound p (held_program p₀) at there n ns way numbers form) in
      let first_good : sound (size + length more) first ≡ true =
      subst (λ k. sound k first ≡ true) grown (ap (sound (size + length ns)) first_is ∙ first_sound p (held_program p₀) at there n ns way numbers form) in
      put_both there (omega arith) rest-good first_good ∙ (let a = first_is in let b = more-is in cc)

  pub made_is : (c : Replacement) → c.at ≡ at → at < length (program_of p₀).entries → InForm (program_of p₀) c → size_after c (length (program_of p₀).entries) ≤ node_limit
      → first ∷ more ≡ laid (entry_of (program_of p₀) at) c.way c.row (length (program_of p₀).entries - 1) → program_of p₂ ≡ changed_by (program_of p₀) c
  unfolding changed_by
  made_is c place there form room is =
      let here = subst (λ k. is_proposal (entry_of (program_of p₀) k).node c.row c.way c.numbers ≡ true) place form in
      put_row c.row c.way c.numbers there here room is ∙ ap (λ k. row_put (program_of p₀) (entry_of (program_of p₀) k) k c.way c.row) (sym place)

-- the first of some entries, and the others
pub first_others : (entries : List Entry) (len : ℕ) (d : Entry) → 0 < len → len ≤ length entries → get_or entries 0 d ∷ take (len - 1) (drop 1 entries) ≡ take len entries
first_others [] len d some room = absurd (omega arith)
first_others (e ∷ es) len d some room = let more : len ≡ suc (len - 1) = omega arith in ap (λ n. take n (e ∷ es)) (sym more)
