-- Changes in form make a program again.
use Rattle.std.proofs.Common.{◌≡◌, ℕ, zero, suc, ◌+◌, ◌-◌, ◌<◌, ◌≤◌, true, eqb, ltb, List, [], ◌∷◌, ◌++◌, length, get_or, take, sym, refl, ap, ◌∙◌, subst, arith}
use Rattle.std.proofs.lemmas.List.{length-append, get_or_past, take_all, set-append_left}
use Rattle.std.proofs.lemmas.Bool.{and_parts, and_from, eqb-true, ltb-true, lt-ltb}
use Rattle.machine.specs.Every.{Every, every_weaker}
use Rattle.machine.specs.declared.node.Entry.{Entry}
use Rattle.machine.specs.declared.node.Exits.{Exits}
use Rattle.machine.specs.declared.node.Exits.TheVariants as exits
use Rattle.machine.specs.declared.node.Node.{Node}
use Rattle.machine.specs.Limits.{node_limit}
use Rattle.machine.specs.Programs.{Prog, IsProgram, every_sound}
use Rattle.machine.specs.Runs.{entry_of}
use Rattle.machine.specs.WellFormed.{Sound, AllSound, sound, leads, is_node, exits_of}
use Rattle.machine.proofs.Entries.{sound_parts, sound_from}
use Rattle.machine.proofs.Tables.{all_sound_set, appended_sound}
use Rattle.analysis.specs.Analyses.{MovesOf, MovesShow}
use Rattle.analysis.specs.Facts.{FactsOf}
use Rattle.analysis.specs.Rows.{is_proposal}
use Rattle.analysis.specs.Forms.{Proper, row_for}
use Rattle.settling.specs.Settling.{settled_facts}
use Rattle.rounds.specs.Changes.{Replacement, targets_for, leading, on_to, laid, row_put, changed_by, changed_by_all}
use Rattle.rounds.specs.Rounds.{Rising, size_after, verdicts, rounded}
use Rattle.rounds.proofs.Changed.{laid_length, put_length, changed_length, changed_longer, changed_elsewhere}
use Rattle.rounds.proofs.Decided.{Fitting, Shown, decided_made, made_shown}

-- ---- one entry

-- a sound entry's targets are below the count, those of exits that are not there too
both_below : (count : ℕ) (x : Exits) (targets : List ℕ) → 0 < count → leads count x targets ≡ true → (get_or targets 0 0 < count) × (get_or targets 1 0 < count)
both_below count exits.None targets some good =
    let t = and_parts (eqb (get_or targets 0 0) 0) (eqb (get_or targets 1 0) 0) good in
    (omega (arith, eqb-true (get_or targets 0 0) 0 t.0), omega (arith, eqb-true (get_or targets 1 0) 0 t.1))
both_below count exits.One targets some good =
    let t = and_parts (ltb (get_or targets 0 0) count) (eqb (get_or targets 1 0) 0) good in
    (ltb-true (get_or targets 0 0) count t.0, omega (arith, eqb-true (get_or targets 1 0) 0 t.1))
both_below count exits.Two targets some good =
    let t = and_parts (ltb (get_or targets 0 0) count) (ltb (get_or targets 1 0) count) good in
    (ltb-true (get_or targets 0 0) count t.0, ltb-true (get_or targets 1 0) count t.1)

targets_below : (count : ℕ) (e : Entry) → 0 < count → Sound count e → (exit : ℕ) → get_or e.targets exit 0 < count
targets_below count e some good zero = (both_below count (exits_of e.node) e.targets some (sound_parts count e good).leads).0
targets_below count e some good (suc zero) = (both_below count (exits_of e.node) e.targets some (sound_parts count e good).leads).1
targets_below count e some good (suc (suc exit)) =
    let two = (sound_parts count e good).two in omega (arith, get_or_past e.targets (suc (suc exit)) 0 (omega arith))

two_targets : (x : Exits) (next : ℕ) (old : List ℕ) → length (targets_for x next old) ≡ 2
two_targets exits.None next old = refl
two_targets exits.One next old = refl
two_targets exits.Two next old = refl

targets_lead : (count : ℕ) (x : Exits) (next : ℕ) (old : List ℕ) → next < count → get_or old 1 0 < count → leads count x (targets_for x next old) ≡ true
targets_lead count exits.None next old a b = refl
targets_lead count exits.One next old a b = and_from _ _ (lt-ltb next count a) refl
targets_lead count exits.Two next old a b = and_from _ _ (lt-ltb next count a) (lt-ltb _ count b)

leading_sound : (count : ℕ) (old : Entry) (n : Node) (next : ℕ) → is_node n ≡ true → next < count → get_or old.targets 1 0 < count →
    sound count (leading old n next) ≡ true
leading_sound count old n next proper a b =
    sound_from count (leading old n next)
    (record {
      node = proper;
      two = two_targets (exits_of n) next old.targets;
      leads = targets_lead count (exits_of n) next old.targets a b;
    })

-- ---- a row

module _ (old : Entry) (way count : ℕ) (below : (exit : ℕ) → get_or old.targets exit 0 < count) where
  on_to_below : (ns : List Node) (next : ℕ) → next + length ns ≤ count → on_to old way ns next < count
  on_to_below [] next room = below way
  on_to_below (n ∷ ns) next room = omega arith

  laid_sound : (ns : List Node) (next : ℕ) → Every Proper ns → next + length ns ≤ count → every_sound count (laid old way ns next) ≡ true
  laid_sound [] next proper room = refl
  laid_sound (n ∷ ns) next proper room =
      and_from _ _ (leading_sound count old n (on_to old way ns (suc next)) proper.0 (on_to_below ns (suc next) (omega arith)) (below 1))
      (laid_sound ns (suc next) proper.1 (omega arith))

module _ (p : Prog) (ok : IsProgram p) (at : ℕ) (there : at < length p.entries) (n : Node) (ns : List Node) (way numbers : ℕ)
    (form : is_proposal (entry_of p at).node (n ∷ ns) way numbers ≡ true) where
  later_below : (exit : ℕ) → get_or (entry_of p at).targets exit 0 < length p.entries + length ns
  later_below exit = omega (arith, targets_below (length p.entries) (entry_of p at) (omega arith) (ok.sound at there) exit)

  -- the first node of a row in form may stand in the program that has grown by the others
  pub first_sound : sound (length p.entries + length ns) (leading (entry_of p at) n (on_to (entry_of p at) way ns (length p.entries))) ≡ true
  first_sound =
      leading_sound (length p.entries + length ns) (entry_of p at) n (on_to (entry_of p at) way ns (length p.entries))
      (row_for (entry_of p at).node (n ∷ ns) way numbers form).proper.0
      (on_to_below (entry_of p at) way (length p.entries + length ns) later_below ns (length p.entries) (omega arith)) (later_below 1)

  -- and so may the others
  pub rest_sound : every_sound (length p.entries + length ns) (laid (entry_of p at) way ns (length p.entries)) ≡ true
  rest_sound =
      laid_sound (entry_of p at) way (length p.entries + length ns) later_below ns (length p.entries)
      (row_for (entry_of p at).node (n ∷ ns) way numbers form).proper.1 (omega arith)

  put_sound : AllSound (length p.entries + length ns) (row_put p (entry_of p at) at way (n ∷ ns)).entries
  put_sound =
      let more = laid (entry_of p at) way ns (length p.entries) in
      let first = leading (entry_of p at) n (on_to (entry_of p at) way ns (length p.entries)) in
      let count = length p.entries + length ns in
      let long : length (p.entries ++ more) ≡ count = simp (length-append, laid_length) in
      let taken : take count (p.entries ++ more) ≡ take (length p.entries) p.entries ++ more =
      take_all count (p.entries ++ more) (omega arith)
      ∙ ap (λ (es : List Entry). es ++ more) (sym (take_all (length p.entries) p.entries (omega arith))) in
      subst (AllSound count) (set-append_left p.entries more at first there)
      (all_sound_set count (p.entries ++ more) at first (omega arith) first_sound
      (appended_sound (length p.entries) count p.entries (p.entries ++ more) more (omega arith) (omega arith) ok.sound rest_sound taken))

-- ---- a change, and all changes

put_program : (p : Prog) → IsProgram p → (at : ℕ) → at < length p.entries → (row : List Node) (way numbers : ℕ) →
    is_proposal (entry_of p at).node row way numbers ≡ true → length p.entries + (length row - 1) ≤ node_limit → IsProgram (row_put p (entry_of p at) at way row)
put_program p ok at there [] way numbers form room = ok
put_program p ok at there (n ∷ ns) way numbers form room =
    let long : length (row_put p (entry_of p at) at way (n ∷ ns)).entries ≡ length p.entries + length ns =
    omega (arith, put_length p (entry_of p at) at way (n ∷ ns)) in
    record {
      counted = omega arith;
      starts = let s = ok.starts in omega arith;
      sound = subst (λ (count : ℕ). AllSound count (row_put p (entry_of p at) at way (n ∷ ns)).entries) (sym long)
          (put_sound p ok at there n ns way numbers form);
    }

-- in the form of a proposal for the node of p in its place
abbrev pub InForm : Prog → Replacement → Type 0
InForm p c = is_proposal (entry_of p c.at).node c.row c.way c.numbers ≡ true

pub change_program : (p : Prog) (c : Replacement) → IsProgram p → c.at < length p.entries → InForm p c → size_after c (length p.entries) ≤ node_limit →
    IsProgram (changed_by p c)
unfolding changed_by
change_program p c ok there form room = put_program p ok c.at there c.row c.way c.numbers form room

-- q is p with some changes made, all of them before `from`
pub changes_program : (p : Prog) (cs : List Replacement) (from : ℕ) (q : Prog) → IsProgram q → length p.entries ≤ length q.entries →
    ((i : ℕ) → from ≤ i → i < length p.entries → entry_of q i ≡ entry_of p i) →
    Rising from (length p.entries) cs → Every (InForm p) cs → Fitting (length q.entries) cs → IsProgram (changed_by_all q cs)
changes_program p [] from q ok big same up forms fitting = ok
changes_program p (c ∷ cs) from q ok big same up forms fitting =
    let longer = changed_longer q c in
    let here = up.0 in
    let below = up.1 in
    let now = subst (λ (e : Entry). is_proposal e.node c.row c.way c.numbers ≡ true) (sym (same c.at here below)) forms.0 in
    changes_program p cs (suc c.at) (changed_by q c) (change_program q c ok (omega arith) now fitting.0) (omega arith)
    (λ i past under. changed_elsewhere q c i (omega arith) (λ e. omega arith) ∙ same i (omega arith) under)
    up.2 forms.1 (subst (λ (size : ℕ). Fitting size cs) (sym (changed_length q c)) fitting.1)

-- a round makes a program again
pub round_program : {Fact : Type 0} (v : FactsOf Fact) (m : MovesOf Fact) → MovesShow v m → (p : Prog) → IsProgram p → IsProgram (rounded v m p)
round_program v m shows p ok =
    let count = length p.entries in
    let facts = settled_facts v m p in
    let made = decided_made v m p facts count 0 count count (omega arith) in
    changes_program p (verdicts v m p).made 0 p ok (omega arith) (λ i a b. refl) made.rising
    (every_weaker (Shown v m p facts) (InForm p) (λ c shown. shown.form) (verdicts v m p).made (made_shown v m p facts shows ok count 0 count (omega arith)))
    made.fitting
