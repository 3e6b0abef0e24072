-- Copies show what is asked of an analysis.
use Rattle.std.specs.Prelude.{◌≡◌, ℕ, zero, suc, ◌+◌, ◌<◌, Bool, true, false, cond, ◌&&◌, List, [], ◌∷◌, ◌++◌, length, Some, None, Option, ◌==◌, ◌≢◌, slice_index, slice_set}
use Rattle.std.proofs.Math.Logic.{⊎_elim}
use Rattle.std.proofs.Math.Path.{refl, sym, ap}
use Rattle.std.proofs.Common.{◌∙◌, arith}
use Rattle.std.proofs.Math.Numerals.{add-one}
use Rattle.std.proofs.lemmas.List.{get_or_append_left, get_or_push, length_push, get_or-set_same, get_or-set_other, get_or-replicate}
use Rattle.std.proofs.lemmas.Bool.{and_parts, cases_eq, ltb-true, eqb-true, eqb-false}
use Rattle.machine.specs.declared.node.Node.{Node}
use Rattle.machine.specs.declared.node.Node.TheVariants.{Mov, Binary, In, Out, Ld, St, Br, Skip, Halt, Fail}
use Rattle.machine.specs.declared.node.Operand.{Operand}
use Rattle.machine.specs.declared.node.Operand.TheVariants.{Reg, Num}
use Rattle.machine.specs.State.{State, Valid, value}
use Rattle.machine.specs.WellFormed.{is_node, is_operand, is_register, is_cell}
use Rattle.analysis.specs.Analyses.{MovesShow, FlowShows, ProposalShows, absent, instead}
use Rattle.analysis.specs.Facts.{FactsShow, state}
use Rattle.analyses.specs.Copies.{Copied, SameWord, copied_facts, without, cleared, with_source, copied_move, copied_after, copied_flow, as_register, sourced, copied_operand, is_copied, copied_node, copied_proposal, copied_moves}
use Rattle.analyses.specs.Entries.{entry_at}
use Rattle.analyses.specs.Operands.{any_operand}
use Rattle.analyses.specs.EntryLaws.{no_some, entry_written, entries_shown, same_registers}
use Rattle.analyses.specs.OneNode.{one_fits, one_runs}
use Rattle.analyses.specs.OperandLaws.{operands_fit, operands_exits, operands_act}
use Rattle.analyses.specs.RegistersAfter.{Leads, registers_after}

pub copied_shown : FactsShow copied_facts
copied_shown = entries_shown ◌==◌ eqb-true SameWord

-- of the entries
abbrev Allowed : List (Option ℕ) → State → Type 0
Allowed xs s = copied_facts.allows (Some xs) (state s)

kept : (xs : List (Option ℕ)) (s t : State) → t.regs ≡ s.regs → Allowed xs s → Allowed xs t
kept = same_registers ◌==◌ eqb-true SameWord

-- cleared entries

without_parts : (d x : ℕ) (o : Option ℕ) → without d o ≡ Some x → (o ≡ Some x) × (x ≢ d)
without_parts d x None e = no_some x e
without_parts d x (Some a) e = go (a == d) refl e
  where
    go : (b : Bool) → (a == d) ≡ b → cond b None (Some a) ≡ Some x → (Some a ≡ Some x) × (x ≢ d)
    go true q e = no_some x e
    go false q e = (e, λ p. eqb-false a d q (let same : a ≡ x = cc in same ∙ p))

module _ (d : ℕ) (xs : List (Option ℕ)) where
  length_cleared : (k : ℕ) → length (cleared k d xs) ≡ k
  unfolding cleared
  length_cleared zero = refl
  length_cleared (suc k) = length_push (cleared k d xs) (without d (entry_at xs k)) ∙ omega (arith, length_cleared k)

  entry_cleared : (k i : ℕ) → i < k → entry_at (cleared k d xs) i ≡ without d (entry_at xs i)
  unfolding cleared
  entry_cleared zero i h = absurd (omega arith)
  entry_cleared (suc k) i h = ⊎_elim here (before (entry_cleared k i)) (cases_eq i k)
    where
      here : i ≡ k → entry_at (cleared k d xs ++ (without d (entry_at xs k) ∷ [])) i ≡ without d (entry_at xs i)
      here e = get_or_push (cleared k d xs) (without d (entry_at xs k)) None i (length_cleared k ∙ sym e) ∙ ap (λ j. without d (entry_at xs j)) (sym e)

      before : (i < k → entry_at (cleared k d xs) i ≡ without d (entry_at xs i)) → (i ≢ k) → entry_at (cleared k d xs ++ (without d (entry_at xs k) ∷ [])) i ≡ without d (entry_at xs i)
      before ih ne = get_or_append_left (cleared k d xs) (without d (entry_at xs k) ∷ []) None i (omega (arith, length_cleared k)) ∙ ih (omega arith)

  pub cleared_next : (k : ℕ) → cleared (k + 1) d xs ≡ cleared k d xs ++ (without d (entry_at xs k) ∷ [])
  unfolding cleared
  cleared_next k = rw add-one

-- operands

operand_same : (f : List (Option ℕ)) (s : State) → Allowed f s → (x : Operand) → is_operand x ≡ true → value s.regs (copied_operand f x) ≡ value s.regs x
operand_same f s a (Reg r) h = go (entry_at f r) refl
  where
    one : (v : ℕ) (b : Bool) → slice_index s.regs r ≡ slice_index s.regs v → value s.regs (sourced (Reg r) (cond b (Some v) None)) ≡ slice_index s.regs r
    one v true e = sym e
    one v false e = refl

    go : (o : Option ℕ) → entry_at f r ≡ o → value s.regs (sourced (Reg r) (as_register o)) ≡ slice_index s.regs r
    go None e = refl
    go (Some v) e = one v (is_register v) (a r v (ltb-true r 8 h) e)
operand_same f s a (Num v) h = refl

operand_fits : (f : List (Option ℕ)) (x : Operand) → is_operand x ≡ true → is_operand (copied_operand f x) ≡ true
operand_fits f (Reg r) h = go (entry_at f r)
  where
    one : (v : ℕ) (b : Bool) → is_register v ≡ b → is_operand (sourced (Reg r) (cond b (Some v) None)) ≡ true
    one v true e = e
    one v false e = h

    go : (o : Option ℕ) → is_operand (sourced (Reg r) (as_register o)) ≡ true
    go None = h
    go (Some v) = one v (is_register v) refl
operand_fits f (Num v) h = h

-- flow

-- a register gets the word v, and its entry names a register with that word or is absent
put_allowed : (f : List (Option ℕ)) (s t : State) (d v : ℕ) (w : Option ℕ) → Valid s → Allowed f s → is_register d ≡ true → t.regs ≡ slice_set s.regs d v
    → ((x : ℕ) → w ≡ Some x → v ≡ slice_index (slice_set s.regs d v) x) → Allowed (with_source f d w) t
put_allowed f s t d v w ok a below made agree =
    λ i x h e. ap (λ regs. slice_index regs i) made ∙ ⊎_elim (here i x e) (other i x h e) (cases_eq i d) ∙ sym (ap (λ regs. slice_index regs x) made)
  where
    here : (i x : ℕ) → entry_at (slice_set (cleared 8 d f) d w) i ≡ Some x → i ≡ d → slice_index (slice_set s.regs d v) i ≡ slice_index (slice_set s.regs d v) x
    here i x e p =
        ap (λ j. slice_index (slice_set s.regs d v) j) p
        ∙ get_or-set_same s.regs d v 0 (omega (arith, ok.eight, ltb-true d 8 below))
        ∙ agree x (entry_written (cleared 8 d f) d x w (sym (ap (λ j. entry_at (slice_set (cleared 8 d f) d w) j) p) ∙ e))

    other : (i x : ℕ) → i < 8 → entry_at (slice_set (cleared 8 d f) d w) i ≡ Some x → (i ≢ d) → slice_index (slice_set s.regs d v) i ≡ slice_index (slice_set s.regs d v) x
    other i x h e ne =
        let parts = without_parts d x (entry_at f i) (sym (get_or-set_other (cleared 8 d f) d i w None ne ∙ entry_cleared d f 8 i h) ∙ e) in
        get_or-set_other s.regs d i v 0 ne ∙ a i x h parts.0 ∙ sym (get_or-set_other s.regs d x v 0 parts.1)

put_absent : (f : List (Option ℕ)) (s t : State) (d v : ℕ) → Valid s → Allowed f s → is_register d ≡ true → t.regs ≡ slice_set s.regs d v → Allowed (with_source f d None) t
put_absent f s t d v ok a below made = put_allowed f s t d v None ok a below made (λ x q. no_some x q)

-- a register that gets its own word
set_own : (regs : List ℕ) (d i : ℕ) → d < length regs → slice_index (slice_set regs d (slice_index regs d)) i ≡ slice_index regs i
set_own regs d i h = ⊎_elim
    (λ (p : i ≡ d). ap (λ j. slice_index (slice_set regs d (slice_index regs d)) j) p ∙ get_or-set_same regs d (slice_index regs d) 0 h ∙ ap (λ j. slice_index regs j) (sym p))
    (λ (ne : i ≡ d → ⊥). get_or-set_other regs d i (slice_index regs d) 0 ne)
    (cases_eq i d)

move_by : (f : List (Option ℕ)) (s t : State) (to : ℕ) (from : Operand) → Valid s → Allowed f s → is_register to ≡ true → t.regs ≡ slice_set s.regs to (value s.regs from)
    → Allowed (copied_move f to from) t
move_by f s t to (Num v) ok a h l = put_absent f s t to v ok a h l
move_by f s t to (Reg r) ok a h l = go (r == to) refl
  where
    own : r ≡ to → (i : ℕ) → slice_index t.regs i ≡ slice_index s.regs i
    own p i =
        ap (λ regs. slice_index regs i) l
        ∙ ap (λ j. slice_index (slice_set s.regs to (slice_index s.regs j)) i) p
        ∙ set_own s.regs to i (omega (arith, ok.eight, ltb-true to 8 h))

    go : (b : Bool) → (r == to) ≡ b → Allowed (cond b f (with_source f to (Some r))) t
    go true q = let p = eqb-true r to q in λ i x k e. own p i ∙ a i x k e ∙ sym (own p x)
    go false q = put_allowed f s t to (slice_index s.regs r) (Some r) ok a h l
        (λ x e. let same : r ≡ x = cc in sym (ap (λ j. slice_index (slice_set s.regs to (slice_index s.regs r)) j) (sym same) ∙ get_or-set_other s.regs to r (slice_index s.regs r) 0 (eqb-false r to q)))

flow_by : (f : List (Option ℕ)) (n : Node) → is_node n ≡ true → (s t : State) → Valid s → Allowed f s → Leads n s.regs t.regs → Allowed (copied_after f n) t
flow_by f (Mov to from) h s t ok a l = move_by f s t to from ok a (and_parts (is_register to) (is_operand from) h).0 l
flow_by f (Binary op to left right) h s t ok a l = put_absent f s t to l.0 ok a (and_parts (is_register to) (is_operand left && is_operand right) h).0 l.2
flow_by f (In to) h s t ok a l = put_absent f s t to l.0 ok a h l.1
flow_by f (Out from) h s t ok a l = kept f s t l a
flow_by f (Ld to cell) h s t ok a l = put_absent f s t to l.0 ok a (and_parts (is_register to) (is_cell cell) h).0 l.1
flow_by f (St cell from) h s t ok a l = kept f s t l a
flow_by f (Br on) h s t ok a l = kept f s t l a
flow_by f Skip h s t ok a l = kept f s t l a
flow_by f Halt h s t ok a l = absurd l
flow_by f (Fail fault) h s t ok a l = absurd l

-- proposals

proposal_sound : (f : List (Option ℕ)) (n : Node) → is_node n ≡ true → (b : Bool) → ProposalShows copied_facts (Some f) n (cond b (instead (copied_node f n ∷ []) 0 4) absent)
proposal_sound f n h true = (
  one_fits n (copied_node f n) 4 (operands_fit (copied_operand f) (operand_fits f) n h) (operands_exits (copied_operand f) n) refl,
  λ s ok a. sym (one_runs (copied_node f n) s ∙ operands_act (copied_operand f) s (operand_same f s a) n h),
)
proposal_sound f n h false = tt

pub copies_sound : MovesShow copied_facts copied_moves
copies_sound = record {
  start = λ s ok h i v below e. no_some v (sym (get_or-replicate {A = Option ℕ} 8 i None None below) ∙ e);
  flow = flowed;
  proposal = proposed;
}
  where
    flowed : (f : Copied) (n : Node) (exit : ℕ) → is_node n ≡ true → FlowShows copied_facts f n exit (copied_flow f n)
    flowed None n e h s t ok a l = absurd a
    flowed (Some xs) n e h s t ok a l = flow_by xs n h s t ok a (registers_after n s t e l)

    proposed : (f : Copied) (n : Node) → is_node n ≡ true → ProposalShows copied_facts f n (copied_proposal f n)
    proposed None n h = tt
    proposed (Some xs) n h = proposal_sound xs n h (any_operand (is_copied xs) n)
