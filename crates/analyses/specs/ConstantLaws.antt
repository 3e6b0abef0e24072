-- Constants show what is asked of an analysis.
use Rattle.std.specs.Prelude.{◌≡◌, ℕ, ◌<◌, Bool, true, false, cond, ◌&&◌, List, [], ◌∷◌, replicate, Some, None, Option, ◌==◌, ◌≢◌, nat_lt, slice_index, slice_set, refl}
use Rattle.std.proofs.Common.{⊎_elim, sym, ap, ◌∙◌, arith}
use Rattle.std.proofs.lemmas.List.{get_or-set_same, get_or-set_other, get_or-replicate}
use Rattle.std.proofs.lemmas.Bool.{and_parts, cases_eq, eqb-true, ltb-true}
use Rattle.machine.specs.Arithmetic.{computed}
use Rattle.machine.specs.declared.node.Node.{Node}
use Rattle.machine.specs.declared.node.Node.TheVariants.{Mov, Binary, In, Out, Ld, St, Br, Skip, Halt, Fail}
use Rattle.machine.specs.declared.node.Operand.{Operand}
use Rattle.machine.specs.declared.node.Operand.TheVariants.{Reg, Num}
use Rattle.machine.specs.Limits.{word_limit}
use Rattle.machine.specs.State.{State, Valid, value}
use Rattle.machine.specs.WellFormed.{is_node, is_operand, is_register, is_cell}
use Rattle.analysis.specs.Analyses.{MovesShow, FlowShows, ProposalShows, absent, instead}
use Rattle.analysis.specs.Facts.{FactsShow, state}
use Rattle.analyses.specs.Constants.{Known, HasNumber, known_facts, numbered, known_operand, known_after, known_flow, known_node, alters, known_proposal, known_moves}
use Rattle.analyses.specs.Entries.{entry_at}
use Rattle.analyses.specs.Operands.{on_operands}
use Rattle.analyses.specs.EntryLaws.{no_some, entry_written, entries_shown, same_registers}
use Rattle.analyses.specs.Folding.{number_of, calculated}
use Rattle.analyses.specs.FoldingLaws.{number_value, calculated_value, folded_fits, folded_exits, folded_acts}
use Rattle.analyses.specs.OneNode.{one_fits, one_runs}
use Rattle.analyses.specs.OperandLaws.{operands_fit, operands_exits, operands_act}
use Rattle.analyses.specs.RegistersAfter.{Leads, registers_after}

pub known_shown : FactsShow known_facts
known_shown = entries_shown ◌==◌ eqb-true HasNumber

-- of the entries
abbrev Allowed : List (Option ℕ) → State → Type 0
Allowed xs s = known_facts.allows (Some xs) (state s)

kept : (xs : List (Option ℕ)) (s t : State) → t.regs ≡ s.regs → Allowed xs s → Allowed xs t
kept = same_registers ◌==◌ eqb-true HasNumber

-- operands

-- a known operand has the value of the operand
operand_same : (f : List (Option ℕ)) (s : State) → Allowed f s → (x : Operand) → is_operand x ≡ true → value s.regs (known_operand f x) ≡ value s.regs x
operand_same f s a (Reg r) h = go (entry_at f r) refl
  where
    one : (v : ℕ) (b : Bool) → slice_index s.regs r ≡ v → value s.regs (cond b (Num v) (Reg r)) ≡ slice_index s.regs r
    one v true e = sym e
    one v false e = refl

    go : (o : Option ℕ) → entry_at f r ≡ o → value s.regs (numbered (Reg r) o) ≡ slice_index s.regs r
    go None e = refl
    go (Some v) e = one v (nat_lt v word_limit) (a r v (ltb-true r 8 h) e)
operand_same f s a (Num v) h = refl

operand_fits : (f : List (Option ℕ)) (x : Operand) → is_operand x ≡ true → is_operand (known_operand f x) ≡ true
operand_fits f (Reg r) h = go (entry_at f r)
  where
    one : (v : ℕ) (b : Bool) → nat_lt v word_limit ≡ b → is_operand (cond b (Num v) (Reg r)) ≡ true
    one v true e = e
    one v false e = h

    go : (o : Option ℕ) → is_operand (numbered (Reg r) o) ≡ true
    go None = h
    go (Some v) = one v (nat_lt v word_limit) refl
operand_fits f (Num v) h = h

-- flow

-- a register gets the word v, and its entry is v or absent
put_allowed : (f : List (Option ℕ)) (s t : State) (d v : ℕ) (w : Option ℕ) → Valid s → Allowed f s → is_register d ≡ true → t.regs ≡ slice_set s.regs d v
    → ((u : ℕ) → w ≡ Some u → v ≡ u) → Allowed (slice_set f d w) t
put_allowed f s t d v w ok a below made agree = λ i u h e. ap (λ regs. slice_index regs i) made ∙ ⊎_elim (here i u e) (other i u h e) (cases_eq i d)
  where
    here : (i u : ℕ) → entry_at (slice_set f d w) i ≡ Some u → i ≡ d → slice_index (slice_set s.regs d v) i ≡ u
    here i u e p =
        ap (λ j. slice_index (slice_set s.regs d v) j) p
        ∙ get_or-set_same s.regs d v 0 (omega (arith, ok.eight, ltb-true d 8 below))
        ∙ agree u (entry_written f d u w (sym (ap (λ j. entry_at (slice_set f d w) j) p) ∙ e))

    other : (i u : ℕ) → i < 8 → entry_at (slice_set f d w) i ≡ Some u → (i ≢ d) → slice_index (slice_set s.regs d v) i ≡ u
    other i u h e ne = get_or-set_other s.regs d i v 0 ne ∙ a i u h (sym (get_or-set_other f d i w None ne) ∙ e)

flow_by : (f : List (Option ℕ)) (n : Node) → is_node n ≡ true → (s t : State) → Valid s → Allowed f s → Leads n s.regs t.regs → Allowed (known_after f n) t
flow_by f (Mov to from) h s t ok a l =
    let parts = and_parts (is_register to) (is_operand from) h in
    put_allowed f s t to (value s.regs from) (number_of (known_operand f from)) ok a parts.0 l
    (λ u q. sym (operand_same f s a from parts.1) ∙ number_value s.regs (known_operand f from) u q)
flow_by f (Binary op to left right) h s t ok a l =
    let parts = and_parts (is_register to) (is_operand left && is_operand right) h in
    let both = and_parts (is_operand left) (is_operand right) parts.1 in
    let one = ap (λ v. computed op v (value s.regs (known_operand f right))) (operand_same f s a left both.0) in
    let two = ap (λ v. computed op (value s.regs left) v) (operand_same f s a right both.1) in
    put_allowed f s t to l.0 (calculated op (known_operand f left) (known_operand f right)) ok a parts.0 l.2
    (λ u q. let made = sym l.1 ∙ sym (one ∙ two) ∙ calculated_value op s.regs (known_operand f left) (known_operand f right) u q in cc)
flow_by f (In to) h s t ok a l = put_allowed f s t to l.0 None ok a h l.1 (λ u q. no_some u q)
flow_by f (Out from) h s t ok a l = kept f s t l a
flow_by f (Ld to cell) h s t ok a l = put_allowed f s t to l.0 None ok a (and_parts (is_register to) (is_cell cell) h).0 l.1 (λ u q. no_some u q)
flow_by f (St cell from) h s t ok a l = kept f s t l a
flow_by f (Br on) h s t ok a l = kept f s t l a
flow_by f Skip h s t ok a l = kept f s t l a
flow_by f Halt h s t ok a l = absurd l
flow_by f (Fail fault) h s t ok a l = absurd l

-- proposals

proposal_sound : (f : List (Option ℕ)) (n : Node) → is_node n ≡ true → (b : Bool) → ProposalShows known_facts (Some f) n (cond b (instead (known_node f n ∷ []) 0 2) absent)
proposal_sound f n h true =
    let m = on_operands (known_operand f) n in (
      one_fits n (known_node f n) 2 (folded_fits m (operands_fit (known_operand f) (operand_fits f) n h)) (folded_exits m ∙ operands_exits (known_operand f) n) refl,
      λ s ok a. sym (one_runs (known_node f n) s ∙ folded_acts s m ∙ operands_act (known_operand f) s (operand_same f s a) n h),
    )
proposal_sound f n h false = tt

pub constants_sound : MovesShow known_facts known_moves
constants_sound = record {
  start = λ s ok h i v below e. ap (λ r. slice_index r i) h.0 ∙ get_or-replicate 8 i 0 0 below ∙ zero_known i v below e;
  flow = flowed;
  proposal = proposed;
}
  where
    flowed : (f : Known) (n : Node) (exit : ℕ) → is_node n ≡ true → FlowShows known_facts f n exit (known_flow f n)
    flowed None n e h s t ok a l = absurd a
    flowed (Some xs) n e h s t ok a l = flow_by xs n h s t ok a (registers_after n s t e l)

    proposed : (f : Known) (n : Node) → is_node n ≡ true → ProposalShows known_facts f n (known_proposal f n)
    proposed None n h = tt
    proposed (Some xs) n h = proposal_sound xs n h (alters xs n)

    zero_known : (i v : ℕ) → i < 8 → entry_at (replicate 8 (Some 0)) i ≡ Some v → 0 ≡ v
    zero_known i v h e =
        let q : entry_at (replicate 8 (Some 0)) i ≡ Some 0 = get_or-replicate {A = Option ℕ} 8 i (Some 0) None h in
        let one : Some 0 ≡ Some v = sym q ∙ e in
        cc
